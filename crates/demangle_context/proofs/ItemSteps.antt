-- Items as steps from page to page.
use Rattle.std.proofs.Common.{◌≡◌, ℕ, zero, suc, ◌+◌, ◌-◌, ◌≤◌, List, [], ◌∷◌, length}
use Rattle.std.proofs.Common.{drop, Option, Some, None, option_map, refl, sym, ◌∙◌, ap, subst, Result, Ok, Err}
use Rattle.std.proofs.Common.{arith, ⊎_elim}
use Rattle.std.specs.Prelude.{OnOk, OnErr, IsOk, MatchOption}
use Rattle.std.proofs.lemmas.Bool.{cases_lt}
use Rattle.demangle_core.specs.Core.{Core}
use Rattle.demangle_core.specs.Table.{Table}
use Rattle.demangle_printing.specs.State.{Held, State, yes, pushed, popped, rest}
use Rattle.demangle_printing.specs.Act.{keeping, returned, put_back}
use Rattle.demangle_meets.specs.Page.{Page, Trouble, lost, full, at}
use Rattle.demangle_meets.specs.Place.{Place}
use Rattle.demangle_meets.specs.Goes.{Goes}
use Rattle.demangle_meets.specs.Calls.{Keeps, Steps, Pushes, TakesTop, TakesNone, KeepsTop, Returns}
use Rattle.demangle_meets.proofs.Heard.{told_nothing}
use Rattle.demangle_meets.proofs.Goes.{no_trouble as never}
use Rattle.demangle_meets.proofs.Room.{stacks_suffice}
use Rattle.demangle_meets.proofs.Steps.{goes_full, goes_quietly, goes_stopped, changes, quiet_same}
use Rattle.demangle_context.specs.Room.{reserve}
use Rattle.demangle_context.specs.Items.{Items, HasRoom, item_at, with_pushed_at, without_top}
use Rattle.demangle_context.specs.Items.{with_kept, with_top_kept, with_returned}
use Rattle.demangle_context.specs.View.{View, with_items}
use Rattle.demangle_context.specs.declared.error.DemangleError.{DemangleError}
use Rattle.demangle_context.specs.TroubleOf.{trouble_of, full_in}
use Rattle.demangle_context.specs.PageOf.{page_of, page_with}

-- ---- items
abbrev count : Items → ℕ
count s = length s.aside + (length s.inner + length s.kept)

-- where there is no room, there are as many items as there was room for
not_ok : {A : Type 0} (e : DemangleError) → IsOk {T = Unit {0}} {E = DemangleError} (Err e) → A
not_ok e h = absurd (cc h)

no_room : (s : Items) → (HasRoom s → ⊥) → reserve s.limit ≤ count s
no_room s h = ⊎_elim (λ less. absurd (h (record { is = less }))) (λ more. more) (cases_lt (count s) (reserve s.limit))

none_there : (hs : List (Held Core)) → None ≡ item_at 0 hs → hs ≡ []
none_there [] e = refl
none_there (h ∷ hs) e = absurd (cc e)

-- The top item, by its tree.
pub record IsTop (hs : List (Held Core)) (x : Core) : Type 0 where
  pub held : Held Core
  pub others : List (Held Core)
  pub top : hs ≡ held ∷ others
  pub is : held.item ≡ x

pub top_there : (hs : List (Held Core)) (x : Core) → Some x ≡ item_at 0 hs → IsTop hs x
top_there [] x e = absurd (cc e)
top_there (h ∷ hs) x e =
    let k : x ≡ h.item = cc in record { held = h; others = hs; top = refl; is = sym k }

put_back_count : {A : Type 0} (n : ℕ) (ks is : List A) →
    length (put_back n ks is) + length (drop n ks) ≡ length is + length ks
put_back_count zero ks is = refl
put_back_count (suc n) [] is = refl
put_back_count (suc n) (k ∷ ks) is = let e = put_back_count n ks (k ∷ is) in omega (arith, e)

module _ {S : Type 0} (table : S → Table) where
  abbrev pg : Option Trouble → View S → Page
  pg trouble v = page_with table trouble v

  -- a stack had no room
  overflows : (a : View S) {p : Place} {go : State Core → State Core} {Ready : Type 0} → (HasRoom a.items → ⊥) →
      (Ready → count a.items ≤ p.level) →
      Goes p (pg None a) (pg (Some (lost full)) a) (λ s. yes [] (go s)) Ready
  overflows a {p} {go} {Ready} none ready =
      goes_full refl refl (told_nothing a.seen)
      (λ r. let x = ready r in let y = no_room a.items none in omega (arith, x, y))
      (record { faults = refl; refusals = refl; fixed = refl })

  keeps_nothing : (a b : View S) {t : Trouble} → Keeps (pg None a) (pg (Some t) b)
  keeps_nothing a b {t = t} = record { is = λ _ z. never t (Some t) z refl }

  -- ---- pushed and popped
  pub pushes : (a b : View S) (l : ℕ) (x : Core) (r : Result (Unit {0}) DemangleError) →
      OnOk r (b ≡ with_items (with_pushed_at l x) a) → OnErr r (b ≡ a) → (HasRoom a.items → IsOk r) →
      Pushes l (pg None a) (pg (option_map trouble_of (full_in r)) b) x
  pushes a b l x (Ok z) pushed_on same room =
      subst (λ v. Pushes l (pg None a) (pg None v) x) (sym pushed_on) (record {
        at_place = λ p e. goes_quietly (pushed x) refl refl refl refl
            (ap (λ n. record (at p.level (pg None a)) { inner = record { item = x; level = n } ∷ a.items.inner }) e);
        same = record { is = λ _ _. refl };
      })
  pushes a b l x (Err z) pushed_on same room =
      subst (λ v. Pushes l (pg None a) (pg (Some (lost full)) v) x) (sym same) (record {
        at_place = λ p e. overflows a (λ h. not_ok z (room h))
            (λ r. stacks_suffice a.items.aside (at p.level (pg None a)) r);
        same = keeps_nothing a a;
      })

  pub pushes_stopped : (a : View S) (t : Trouble) (l : ℕ) (x : Core) → Pushes l (pg (Some t) a) (pg (Some t) a) x
  pushes_stopped a t l x =
      record {
        at_place = λ p e. goes_stopped t refl (told_nothing a.seen) refl quiet_same;
        same = record { is = λ _ _. refl };
      }

  pub takes : {T : Type 0} (a b : View S) (tree : T → Core) (o : Option T) →
      option_map tree o ≡ item_at 0 a.items.inner → b ≡ with_items without_top a →
      MatchOption o (TakesNone (page_of table a) (page_of table b))
      (λ x. TakesTop (page_of table a) (page_of table b) (tree x))
  takes {T} a b tree None is after =
      let
      none : a.items.inner ≡ [] = none_there a.items.inner is
      in
      record {
        none = λ _. none;
        step = subst (λ z. Steps (page_of table a) (page_of table z) (λ s. yes [] s)) (sym after)
            (changes (λ s. s) refl refl refl refl refl
            (λ l. ap (λ z. record (at l (page_of table a)) { inner = z }) (none ∙ sym (ap rest none))));
      }
  takes {T} a b tree (Some x) is after =
      let
      top : IsTop a.items.inner (tree x) = top_there a.items.inner (tree x) is
      in
      record {
        held = top.held;
        others = top.others;
        top = λ _. top.top;
        is = top.is;
        step = subst (λ z. Steps (page_of table a) (page_of table z) (λ s. yes [] (popped s))) (sym after)
            (changes popped refl refl refl refl refl (λ _. refl));
      }

  -- the top item is popped, where there is one
  pub pops : (a b : View S) → b ≡ with_items without_top a →
      Steps (page_of table a) (page_of table b) (λ s. yes [] (popped s))
  pops a b after =
      subst (λ z. Steps (page_of table a) (page_of table z) (λ s. yes [] (popped s))) (sym after)
      (changes popped refl refl refl refl refl (λ _. refl))

  -- ---- kept
  kept_so : (s : Items) (h : Held Core) (hs : List (Held Core)) → s.inner ≡ h ∷ hs →
      with_top_kept s ≡ record s { inner = rest s.inner; kept = h ∷ s.kept }
  kept_so s h hs e =
      ap (λ z. with_kept z s) e ∙ sym (ap (λ z. record s { inner = rest z; kept = h ∷ s.kept }) e)

  pub keeps : (a b : View S) (h : Held Core) (hs : List (Held Core)) (r : Result (Unit {0}) DemangleError) →
      OnOk r (b ≡ with_items with_top_kept a) → OnErr r (b ≡ a) → (HasRoom a.items → IsOk r) →
      a.items.inner ≡ h ∷ hs →
      KeepsTop (pg None a) (pg (option_map trouble_of (full_in r)) b) h
  keeps a b h hs (Ok z) kept same room top =
      subst (λ v. KeepsTop (pg None a) (pg None v) h)
      (sym (kept ∙ ap (λ s. record a { items = s }) (kept_so a.items h hs top))) (record {
        at_place = λ p. goes_quietly (keeping h) refl refl refl refl refl;
        same = record { is = λ _ _. refl };
      })
  keeps a b h hs (Err z) kept same room top =
      subst (λ v. KeepsTop (pg None a) (pg (Some (lost full)) v) h) (sym same) (record {
        at_place = λ p. overflows a (λ h. not_ok z (room h))
            (λ r. stacks_suffice a.items.aside (at p.level (pg None a)) r);
        same = keeps_nothing a a;
      })

  pub keeps_stopped : (a : View S) (t : Trouble) (h : Held Core) → KeepsTop (pg (Some t) a) (pg (Some t) a) h
  keeps_stopped a t h =
      record {
        at_place = λ p. goes_stopped t refl (told_nothing a.seen) refl quiet_same;
        same = record { is = λ _ _. refl };
      }

  pub returns : (a b : View S) (before n : ℕ) (r : Result (Unit {0}) DemangleError) →
      n ≡ length a.items.kept - before →
      OnOk r (b ≡ with_items (with_returned n) a) → OnErr r (b ≡ a) → (HasRoom a.items → IsOk r) →
      Returns before (pg None a) (pg (option_map trouble_of (full_in r)) b)
  returns a b before n (Ok z) is back same room =
      subst (λ v. Returns before (pg None a) (pg None v)) (sym (back ∙ ap (λ k. with_items (with_returned k) a) is))
      (record {
        at_place = λ p. goes_quietly (returned before) refl refl refl refl refl;
        same = record { is = λ _ _. refl };
      })
  returns a b before n (Err z) is back same room =
      subst (λ v. Returns before (pg None a) (pg (Some (lost full)) v)) (sym same) (record {
        at_place = λ p. overflows a (λ h. not_ok z (room h)) (λ r.
            let
            x = stacks_suffice a.items.aside (returned before (at p.level (pg None a))) r
            in
            let
            y = put_back_count (length a.items.kept - before) a.items.kept a.items.inner
            in
            omega (arith, x, y));
        same = keeps_nothing a a;
      })

  pub returns_stopped : (a : View S) (t : Trouble) (before : ℕ) → Returns before (pg (Some t) a) (pg (Some t) a)
  returns_stopped a t before =
      record {
        at_place = λ p. goes_stopped t refl (told_nothing a.seen) refl quiet_same;
        same = record { is = λ _ _. refl };
      }
