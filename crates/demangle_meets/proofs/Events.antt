-- The events of a node. After trouble the listener may still be told that nodes end: no more than stand open.
use Rattle.std.proofs.Common.{◌≡◌, ℕ, zero, suc, ◌+◌, ◌≤◌, Bool, true, false, List, [], ◌∷◌, ◌++◌, Option, Some, None}
use Rattle.std.proofs.Common.{refl, sym, ◌∙◌, ap, subst, arith}
use Rattle.std.proofs.lemmas.List.{append_assoc}
use Rattle.demangle_core.specs.Core.{Core}
use Rattle.demangle_printing.specs.State.{Kind, Event, opened, closed, Fault, State, Answer, yes, no, after, bind}
use Rattle.demangle_printing.specs.State as state
use Rattle.demangle_printing.specs.Act.{Act, event, act}
use Rattle.demangle_printing.specs.Laws.{After, Does, open_behind, AreBracketed}
use Rattle.demangle_printing.proofs.Closed.{none_open, open_then, act_bracketed, print_bracketed}
use Rattle.demangle_meets.specs.Page.{Page, fault, lost, Loss, failed, refused, at}
use Rattle.demangle_meets.specs.Seen.{Seen, Told}
use Rattle.demangle_meets.specs.Goes.{Whole, events, ends, StandOpen, Stopped, Cut, Goes}
use Rattle.demangle_meets.specs.Place.{Place, world_of}
use Rattle.demangle_meets.specs.Calls.{Keeps, Begins, Ends, most_ended}
use Rattle.demangle_meets.specs.Meets.{deeper, Ready, Meets}
use Rattle.demangle_meets.proofs.Heard.{told_nothing, told_then}
use Rattle.demangle_meets.proofs.Told.{after_after, events_after, stopped_before, cut_before}
use Rattle.demangle_meets.proofs.Goes.{no_trouble, goes_then, goes_as, counts_then, counts_same}
use Rattle.demangle_meets.proofs.Acts.{keeps_then, then_act}

-- ---- nodes that stand open
up : (n d : ℕ) → suc (n + d) ≡ suc n + d
up n d = omega arith

-- where more stand open before, as many more do behind
shifted : (m : List Event) (d n j : ℕ) → open_behind m (Some n) ≡ Some j → open_behind m (Some (n + d)) ≡ Some (j + d)
shifted [] d n j e = let same : Some n ≡ Some j = e in let k : n ≡ j = cc in ap (λ z. Some (z + d)) k
shifted (state.byte b ∷ m) d n j e = shifted m d n j e
shifted (opened c ∷ m) d n j e = ap (λ z. open_behind m (Some z)) (up n d) ∙ shifted m d (suc n) j e
shifted (closed ∷ m) d zero j e = absurd (let same : None ≡ Some j = sym (none_open m) ∙ e in cc)
shifted (closed ∷ m) d (suc n) j e =
    ap (λ z. open_behind (closed ∷ m) (Some z)) (sym (up n d)) ∙ shifted m d n j e

-- none of these ends that didn't begin
abbrev IsOpen : List Event → Type 0
IsOpen m = (c : ℕ) × (open_behind m (Some 0) ≡ Some c)

open_front : (m k : List Event) (o : Option ℕ) → open_behind m (Some 0) ≡ o →
    (c : ℕ) × (open_behind (m ++ k) (Some 0) ≡ Some c) → IsOpen m
open_front m k (Some c) e p = (c, e)
open_front m k None e p =
    absurd (let same : None ≡ Some p.0 = sym (none_open k) ∙ (ap (open_behind k) (sym e)
    ∙ (sym (open_then m k (Some 0)) ∙ p.1)) in cc)

events_open : (x : Answer Core) → AreBracketed x → IsOpen (events x)
events_open (yes m s) p = (0, p 0)
events_open (no m f) p = (p.0 + 0, p.1 0)

-- Where no more end than stand open behind these, one more may end where a node began before.
one_more : (k d : ℕ) (i : Kind) (m : List Event) → d ≤ 1 → IsOpen m → StandOpen k m → StandOpen (k + d) (opened i ∷ m)
one_more k d i m h o p n j e =
    let a : k ≤ o.0 = p 0 o.0 o.1 in
    let b : open_behind m (Some (0 + suc n)) ≡ Some (o.0 + suc n) = shifted m (suc n) 0 o.0 o.1 in
    let c : Some (o.0 + suc n) ≡ Some j = sym b ∙ (ap (λ z. open_behind m (Some z)) (plain n) ∙ e) in
    let f : o.0 + suc n ≡ j = cc in
    omega (arith, a, h, f)
  where
    plain : (n : ℕ) → 0 + suc n ≡ suc n
    plain n = omega arith

ends_more : (k d : ℕ) → ends k ++ ends d ≡ ends (k + d)
ends_more zero d = ap ends (plain d)
  where
    plain : (d : ℕ) → d ≡ 0 + d
    plain d = omega arith
ends_more (suc k) d = ap (λ z. closed ∷ z) (ends_more k d) ∙ ap ends (up k d)

-- ---- what was told
told_more : {old mid new end : Seen} (i : Kind) (m : List Event) (k d : ℕ) → Told old mid (opened i ∷ []) →
    Told mid new (m ++ ends k) → Told new end (ends d) → Told old end ((opened i ∷ m) ++ ends (k + d))
told_more {old = old} {end = end} i m k d e f g =
    subst (λ z. Told old end (opened i ∷ z))
    (append_assoc m (ends k) (ends d) ∙ ap (λ z. m ++ z) (ends_more k d)) (told_then e (told_then f g))

most_one : (v : Bool) → most_ended v ≤ 1
most_one true = omega arith
most_one false = omega arith

most_none : (v : Bool) (d : ℕ) → v ≡ false → d ≤ most_ended v → d ≡ 0
most_none true d e h = absurd (let k : true ≡ false = e in cc)
most_none false d e h = omega (arith, h)

at_most : (v : Bool) (d : ℕ) → d ≤ most_ended v → d ≤ 1
at_most v d h = let a = most_one v in omega (arith, a, h)

-- ---- the body in the events of a node
module _ {p : Place} {a m n o : Page} {i : Kind} {v : Bool} {f : Act Core} (d : Begins a m i v) (q : Meets p m n f)
    (e : Ends v n o) where
  body : Goes p a n (λ s. after (opened i ∷ []) (act (deeper p) f s)) (Ready p f a.aside (at p.level a))
  body = then_act (d.step.at_place p) d.step.same q (λ _. tt) (λ r. r)

  -- where the node begins, the state is as before
  begun : a.trouble ≡ None → Whole a m (yes (opened i ∷ []) (at p.level a)) (at p.level m)
  begun z = (d.step.at_place p).done z (d.no_trouble z)

  same_state : a.trouble ≡ None → at p.level m ≡ at p.level a
  same_state z = let r = (begun z).is in
      let k : yes (opened i ∷ []) (at p.level a) ≡ yes (begun z).all (at p.level m) = r in
      let j : at p.level a ≡ at p.level m = cc in sym j

  told_begun : a.trouble ≡ None → Told a.seen m.seen (opened i ∷ [])
  told_begun z = let r = (begun z).is in
      let k : yes (opened i ∷ []) (at p.level a) ≡ yes (begun z).all (at p.level m) = r in
      let j : (begun z).all ≡ opened i ∷ [] = cc in subst (Told a.seen m.seen) j (begun z).told

  well_bracketed : (s : State Core) → AreBracketed (act (deeper p) f s)
  well_bracketed s = act_bracketed (deeper p) (print_bracketed (world_of p.refers) p.left) f s

  ended_stopped : (g : Fault) → a.trouble ≡ None → n.trouble ≡ Some (fault g) →
      Stopped a.seen o.seen (after (opened i ∷ []) (act (deeper p) f (at p.level a))) g
  ended_stopped g z y =
      let
      w : Stopped m.seen n.seen (act (deeper p) f (at p.level m)) g = q.goes.stopped g (d.no_trouble z) y
      in
      record {
        before = opened i ∷ w.before;
        ended = w.ended + e.ended;
        is = ap (after (opened i ∷ []))
            (ap (act (deeper p) f) (sym (same_state z)) ∙ w.is);
        told = told_more i w.before w.ended e.ended (told_begun z) w.told (e.told (fault g) y);
        were_open = one_more w.ended e.ended i w.before (at_most v e.ended e.most)
            (subst IsOpen (ap events w.is)
            (events_open (act (deeper p) f (at p.level m)) (well_bracketed (at p.level m))))
            w.were_open;
      }

  ended_cut : (c : Loss) → a.trouble ≡ None → n.trouble ≡ Some (lost c) →
      Cut a.seen o.seen (after (opened i ∷ []) (act (deeper p) f (at p.level a)))
  ended_cut c z y =
      let
      w : Cut m.seen n.seen (act (deeper p) f (at p.level m)) = q.goes.cut c (d.no_trouble z) y
      in
      record {
        front = opened i ∷ w.front;
        others = w.others;
        ended = w.ended + e.ended;
        is = events_after (opened i ∷ []) (act (deeper p) f (at p.level a))
            ∙ ap (λ k. opened i ∷ k) (ap (λ s. events (act (deeper p) f s)) (sym (same_state z)) ∙ w.is);
        told = told_more i w.front w.ended e.ended (told_begun z) w.told (e.told (lost c) y);
        were_open = one_more w.ended e.ended i w.front (at_most v e.ended e.most)
            (open_front w.front w.others (open_behind w.front (Some 0)) refl
            (subst IsOpen w.is (events_open (act (deeper p) f (at p.level m)) (well_bracketed (at p.level m)))))
            w.were_open;
      }

  enclosed : Goes p a o (λ s. bind (after (opened i ∷ []) (act (deeper p) f s)) (λ t. yes (closed ∷ []) t))
      (Ready p f a.aside (at p.level a))
  enclosed =
      let
      close : State Core → Answer Core = λ t. yes (closed ∷ []) t
      in
      record {
        done = λ z y. (goes_then body (e.at_place p (sym e.trouble ∙ y)) (λ r. r) (λ _ _ _. tt)).done z y;
        stopped = λ g z y. stopped_before (after (opened i ∷ []) (act (deeper p) f (at p.level a))) close
            (ended_stopped g z (sym e.trouble ∙ y)) (told_nothing o.seen);
        cut = λ c z y. cut_before (after (opened i ∷ []) (act (deeper p) f (at p.level a))) close
            (ended_cut c z (sym e.trouble ∙ y)) (told_nothing o.seen);
        fits = λ z y r. body.fits z (sym e.trouble ∙ y) r;
        fixed = e.fixed ∙ body.fixed;
        faults = counts_then (λ t z. (body.stays t z).1) (λ t z. e.trouble ∙ z) body.faults
            (counts_same e.counts.0 (λ z y. no_trouble (lost failed) n.trouble z (sym e.trouble ∙ y)));
        refusals = counts_then (λ t z. (body.stays t z).1) (λ t z. e.trouble ∙ z) body.refusals
            (counts_same e.counts.1 (λ z y. no_trouble (lost refused) n.trouble z (sym e.trouble ∙ y)));
        stays = λ t z. (
          told_then (body.stays t z).0
              (subst (λ k. Told n.seen o.seen (ends k)) (most_none v e.ended (d.silent t z) e.most)
              (e.told t (body.stays t z).1)),
          e.trouble ∙ (body.stays t z).1,
        );
      }

  enclosed_same : Keeps a o
  enclosed_same = record {
    is = λ z y. e.aside (sym e.trouble ∙ y)
        ∙ (keeps_then d.step.same q.goes q.same).is z (sym e.trouble ∙ y);
  }

events_split : (i : Kind) (x : Answer Core) (go : State Core → Answer Core) →
    after (opened i ∷ []) (bind x (λ t. after (closed ∷ []) (go t)))
    ≡ bind (bind (after (opened i ∷ []) x) (λ t. yes (closed ∷ []) t)) go
events_split i (yes m s) go = ap (after (opened i ∷ [])) (after_after m (closed ∷ []) (go s))
    ∙ after_after (opened i ∷ []) (m ++ closed ∷ []) (go s)
events_split i (no m f) go = refl

after_split : (P : State Core → Type 0) (m n : List Event) (x : Answer Core) → After P x →
    After P (bind (after m x) (λ t. yes n t))
after_split P m n (yes k s) h = h
after_split P m n (no k f) h = h

pub meets_event : {p : Place} {a m n o b : Page} {i : Kind} {v : Bool} {f k : Act Core} → Begins a m i v →
    Meets p m n f → Ends v n o → Meets p o b k → Meets p a b (event i f k)
unfolding act Does
meets_event {p} {a} {m} {n} {o} {b} {i} {v} {f} {k} d q e r =
    let
    whole : Goes p a b
    (λ s. bind (bind (after (opened i ∷ []) (act (deeper p) f s)) (λ t. yes (closed ∷ []) t)) (act (deeper p) k))
    (Ready p f a.aside (at p.level a) × After (Ready p k a.aside) (act (deeper p) f (at p.level a))) =
    then_act (enclosed d q e) (enclosed_same d q e) r (λ w. w.0)
    (λ w. after_split (Ready p k a.aside) (opened i ∷ []) (closed ∷ []) (act (deeper p) f (at p.level a)) w.1)
    in
    record {
      goes = goes_as (λ _. events_split i (act (deeper p) f (at p.level a)) (act (deeper p) k)) (λ _ w. w) whole;
      same = keeps_then (enclosed_same d q e) r.goes r.same;
    }
