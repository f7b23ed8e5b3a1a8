-- Texts as steps from page to page.
use Rattle.std.proofs.Common.{◌≡◌, ℕ, Bool, true, false, List, [], ◌∷◌, codes, length, Some, None}
use Rattle.std.proofs.Common.{option_map, refl, sym, ◌∙◌, ap, subst, Result, Ok, Err}
use Rattle.demangle_core.specs.Core.{Core}
use Rattle.demangle_core.specs.Table.{Table}
use Rattle.demangle_printing.specs.State.{Fault, TooLong, State, Answer, no, written}
use Rattle.demangle_printing.specs.State.{spaced, is_byte, has_room}
use Rattle.demangle_meets.specs.Seen.{Seen, Told}
use Rattle.demangle_meets.specs.Page.{Page, Trouble, fault, lost, failed, refused, at}
use Rattle.demangle_meets.specs.Calls.{Steps}
use Rattle.demangle_meets.proofs.Heard.{told_nothing}
use Rattle.demangle_meets.proofs.Goes.{goes_as}
use Rattle.demangle_meets.proofs.Goes.{no_trouble as never}
use Rattle.demangle_meets.proofs.Steps.{goes_on, goes_failed, goes_refused, writes_all}
use Rattle.demangle_meets.proofs.Steps.{writes_too_long}
use Rattle.demangle_context.specs.Hears.{HearsText, Fails, LacksMemory}
use Rattle.demangle_context.specs.View.{View, state_of}
use Rattle.demangle_context.specs.Calls.{Writes, Writing, Spacing}
use Rattle.demangle_context.specs.declared.error.DemangleError.{DemangleError}
use Rattle.demangle_context.specs.declared.error.DemangleError.TheVariants as error
use Rattle.demangle_context.proofs.Heard.{told_text, told_failed, told_refused}
use Rattle.demangle_context.specs.TroubleOf.{trouble_of, refusal_in}
use Rattle.demangle_context.specs.PageOf.{fixed_of, page_with}

-- ---- in any context
steps_as : {a b : Page} {g h : State Core → Answer Core} → ((l : ℕ) → g (at l a) ≡ h (at l a)) → Steps a b h →
    Steps a b g
steps_as e d = record { at_place = λ p. goes_as (λ _. e p.level) (λ _ v. v) (d.at_place p); same = d.same }

same_counts : (a b : Seen) (s : List ℕ) → HearsText a b s → (b.faults ≡ a.faults) × (b.refusals ≡ a.refusals)
same_counts a b [] e = (ap (λ z. z.faults) e, ap (λ z. z.refusals) e)
same_counts a b (x ∷ xs) p = (p.faults, p.refusals)

-- which fault it was is known by an equation
pub fails_for : {a b : Page} {x y : Fault} → x ≡ y → Steps a b (λ s. no [] x) → Steps a b (λ s. no [] y)
fails_for {a} {b} e d = subst (λ f. Steps a b (λ s. no [] f)) e d

module _ {S : Type 0} (table : S → Table) where
  abbrev well : View S → Page
  well v = page_with table None v

  abbrev with_trouble : Trouble → View S → Page
  with_trouble t v = page_with table (Some t) v

  -- ---- texts
  wrote_all : {a b : View S} (s : List ℕ) → has_room a.room (length s) ≡ true → Writes a b s →
      Steps (well a) (well b) (written s)
  wrote_all {a} {b} s room w =
      record {
        at_place = λ p. writes_all s refl refl room
            (sym (ap (λ (z : State Core). record z { level = p.level }) w.state))
            (told_text s w.heard) w.last_char (record {
              faults = (same_counts a.seen b.seen s w.heard).0;
              refusals = (same_counts a.seen b.seen s w.heard).1;
              fixed = ap (fixed_of table) w.others;
            });
        same = record { is = λ _ _. ap (λ z. z.items.aside) w.others };
      }

  too_long : {a b : View S} (s : List ℕ) → has_room a.room (length s) ≡ false → b ≡ a →
      Steps (well a) (with_trouble (fault TooLong) b) (written s)
  too_long {a} {b} s room e =
      record {
        at_place = λ p. writes_too_long s refl refl room
            (subst (λ z. Told a.seen z.seen []) (sym e) (told_nothing a.seen))
            (record {
              faults = ap (λ z. z.seen.faults) e;
              refusals = ap (λ z. z.seen.refusals) e;
              fixed = ap (fixed_of table) e;
            });
        same = record { is = λ _ z. never (fault TooLong) (Some (fault TooLong)) z refl };
      }

  listener_failed : {a b : View S} {g : State Core → Answer Core} → Fails a.seen b.seen →
      b ≡ record a { seen = b.seen } → Steps (well a) (with_trouble (lost failed) b) g
  listener_failed {a} {b} f e =
      record {
        at_place = λ p. goes_failed refl refl (told_failed f) f.faults.rose f.refusals
            (ap (fixed_of table) e);
        same = record { is = λ _ z. never (lost failed) (Some (lost failed)) z refl };
      }

  listener_refused : {a b : View S} {g : State Core → Answer Core} → LacksMemory a.seen b.seen →
      b ≡ record a { seen = b.seen } → Steps (well a) (with_trouble (lost refused) b) g
  listener_refused {a} {b} f e =
      record {
        at_place = λ p. goes_refused refl refl (told_refused f) f.faults f.refusals.rose
            (ap (fixed_of table) e);
        same = record { is = λ _ z. never (lost refused) (Some (lost refused)) z refl };
      }

  has_it : {a b : View S} (s : List ℕ) (r : Result (Unit {0}) DemangleError) → Writing a b r s → r ≡ Ok tt →
      (v : Bool) → has_room a.room (length s) ≡ v → v ≡ true
  has_it s r w e true f = refl
  has_it s r w e false f = absurd (let k : Ok tt ≡ Err error.TooLong = sym e ∙ w.too_long.1 f in cc)

  pub writes : {a b : View S} (s : List ℕ) (r : Result (Unit {0}) DemangleError) → Writing a b r s →
      Steps (well a) (page_with table (option_map trouble_of (refusal_in r)) b) (written s)
  writes {a} {b} s (Ok x) w = wrote_all s (has_it s (Ok x) w refl (has_room a.room (length s)) refl) w.written
  writes {a} {b} s (Err error.TooLong) w = too_long s (w.too_long.0 refl) w.refused
  writes {a} {b} s (Err error.Sink) w = listener_failed w.refused.0 w.refused.1
  writes {a} {b} s (Err error.OutOfMemory) w = listener_refused w.refused.0 w.refused.1
  writes {a} {b} s (Err error.NotUtf8) w = absurd w.refused
  writes {a} {b} s (Err error.TooMuchRecursion) w = absurd w.refused
  writes {a} {b} s (Err (error.Reference e)) w = absurd w.refused

  space_there : (a : View S) → is_byte 32 (state_of a).last ≡ true → Steps (well a) (well a) spaced
  space_there a e =
      record {
        at_place = λ p. goes_on [] refl refl (rw e refl) (told_nothing a.seen) refl
            (record { faults = refl; refusals = refl; fixed = refl });
        same = record { is = λ _ _. refl };
      }

  pub spaces : {a b : View S} (r : Result (Unit {0}) DemangleError) → Spacing a b r →
      Steps (well a) (page_with table (option_map trouble_of (refusal_in r)) b) spaced
  spaces {a} {b} r w = by (is_byte 32 (state_of a).last) refl
    where
      by : (v : Bool) → is_byte 32 (state_of a).last ≡ v →
          Steps (well a) (page_with table (option_map trouble_of (refusal_in r)) b) spaced
      by true e =
          subst (λ z. Steps (well a) (page_with table (option_map trouble_of (refusal_in z)) b) spaced)
          (sym (w.there e).0) (subst (λ z. Steps (well a) (well z) spaced) (sym (w.there e).1) (space_there a e))
      by false e = steps_as (λ l. rw e refl) (writes (codes " ") r (w.written e))
