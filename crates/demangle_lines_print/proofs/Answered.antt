-- What a call answers, by what was done from where it began.
use Rattle.std.proofs.Common.{◌≡◌, ℕ, ◌+◌, ◌-◌, ◌≤◌, ◌<◌, List, ◌++◌, Option, Some, None, Err, refl, sym, ◌∙◌, ap}
use Rattle.std.proofs.Common.{subst, arith}
use Rattle.std.proofs.Math.Nat.{min-eq_left}
use Rattle.demangle_core.specs.Core.{Core}
use Rattle.demangle_printing.specs.State.{Event, Fault, BadTemplateArgReference, ForwardTemplateArgReference}
use Rattle.demangle_printing.specs.State.{BadLeafNameReference, TooMuchRecursion, NotUtf8, TooLong, State, Answer, yes}
use Rattle.demangle_printing.specs.State.{no}
use Rattle.demangle_printing.specs.Laws.{open_behind, AreOpen, AreBracketed, IsFitting, Leaves, After}
use Rattle.demangle_printing.proofs.Closed.{none_open, open_then}
use Rattle.demangle_meets.specs.Page.{Page, Trouble, fault, lost, Loss, failed, refused, full, at}
use Rattle.demangle_meets.specs.Goes.{events, Goes}
use Rattle.demangle_meets.specs.Calls.{Keeps}
use Rattle.demangle_meets.specs.Laws.{WasStopped}
use Rattle.demangle_meets.proofs.Goes.{goes_after}
use Rattle.demangle_context.specs.Room.{most_items, reserve}
use Rattle.demangle_context.specs.TroubleOf.{answer_of, error_at}
use Rattle.demangle_lines_tied.specs.PlaceOf.{place_in}
use Rattle.demangle_lines_print.specs.Demangled.{Reply, begun, state, Finishes, Breaks, Ends, Answers}

-- ---- nodes that stand open
open_front : (m k : List Event) (o : Option ℕ) → open_behind m (Some 0) ≡ o →
    (c : ℕ) × (open_behind (m ++ k) (Some 0) ≡ Some c) → (c : ℕ) × (open_behind m (Some 0) ≡ Some c)
open_front m k (Some c) e p = (c, e)
open_front m k None e p =
    absurd (let same : None ≡ Some p.0 = sym (none_open k) ∙ (ap (open_behind k) (sym e)
    ∙ (sym (open_then m k (Some 0)) ∙ p.1)) in cc)

events_open : (x : Answer Core) → AreBracketed x → (c : ℕ) × (open_behind (events x) (Some 0) ≡ Some c)
events_open (yes m s) p = (0, p 0)
events_open (no m f) p = (p.0 + 0, p.1 0)

-- ---- a fault
at_fault : (a b : Page) (x : Answer Core) (f : Fault) → WasStopped a.seen b.seen x f → Ends a b x (Err (error_at f))
at_fault a b x BadTemplateArgReference w = record { fault = BadTemplateArgReference; is = refl; told = w }
at_fault a b x ForwardTemplateArgReference w = record { fault = ForwardTemplateArgReference; is = refl; told = w }
at_fault a b x BadLeafNameReference w = record { fault = BadLeafNameReference; is = refl; told = w }
at_fault a b x TooMuchRecursion w = record { fault = TooMuchRecursion; is = refl; told = w }
at_fault a b x NotUtf8 w = record { fault = NotUtf8; is = refl; told = w }
at_fault a b x TooLong w = record { fault = TooLong; is = refl; told = w }

-- ---- room on the stacks
no_room : (level limit reserved : ℕ) → level < limit → reserved ≡ reserve limit → limit ≤ most_items →
    reserved ≤ level + ((limit - 1) - level) → ⊥
no_room level limit reserved below r most e =
    let m : reserved ≡ limit = r ∙ min-eq_left most in omega (arith, below, m, e)

-- ---- what a call answers
-- What is to be known of what the definition says: its events are bracketed; what it leaves; and that from where it
-- begins fitting, it is fitting behind it, and puts items on the stacks at levels above those of all items alone.
pub record IsTidy (a : Page) (x : Answer Core) (ready : Type 0) : Type 0 where
  pub brackets : AreBracketed x
  pub leaves : After (Leaves (state a)) x
  pub fits : IsFitting a.aside (state a) → ready × After (IsFitting a.aside) x

module _ {a b : Page} {go : State Core → Answer Core} {ready : Type 0} {r : Reply}
    (below : a.fixed.level < a.fixed.limit) (reserved : a.fixed.reserved ≡ reserve a.fixed.limit)
    (tidy : IsTidy a (go (state a)) ready)
    (goes : Goes (place_in a.fixed) (begun a) b go ready) (same : Keeps (begun a) b) (answer : r ≡ answer_of b.trouble)
  where
    finishes : b.trouble ≡ None → Finishes a b (go (state a))
    finishes z =
        let y = goes.done refl z in
        record {
          told = record {
            all = y.all;
            is = y.is;
            told = y.told;
            last = y.last;
            are_closed = subst AreBracketed y.is tidy.brackets;
          };
          items = record {
            leaves = goes_after (Leaves (state a)) goes refl z tidy.leaves;
            aside = same.is refl z;
          };
          fitting = λ f. subst (λ u. IsFitting u (at a.fixed.level b)) (sym (same.is refl z))
              (goes_after (IsFitting a.aside) goes refl z (tidy.fits f).1);
        }

    stopped : (f : Fault) → b.trouble ≡ Some (fault f) → WasStopped a.seen b.seen (go (state a)) f
    stopped f z =
        let y = goes.stopped f refl z in
        let o : AreOpen y.before = subst AreBracketed y.is tidy.brackets in
        let k : o.0 + 0 ≡ o.0 = omega arith in
        record {
          before = y.before;
          ended = y.ended;
          stand_open = o.0;
          is = y.is;
          told = y.told;
          are_open = o.1;
          no_more = subst (λ n. y.ended ≤ n) k (y.were_open 0 (o.0 + 0) (o.1 0));
        }

    breaks : (c : Loss) → b.trouble ≡ Some (lost c) → Breaks a b (go (state a))
    breaks c z =
        let y = goes.cut c refl z in
        let all = events_open (go (state a)) tidy.brackets in
        let o = open_front y.front y.others (open_behind y.front (Some 0)) refl
        (all.0, ap (λ m. open_behind m (Some 0)) (sym y.is) ∙ all.1) in
        record {
          front = y.front;
          others = y.others;
          ended = y.ended;
          stand_open = o.0;
          is = y.is;
          told = y.told;
          are_open = o.1;
          no_more = y.were_open 0 o.0 o.1;
        }

    ends_by : (t : Option Trouble) → b.trouble ≡ t → Ends a b (go (state a)) (answer_of t)
    ends_by None z = finishes z
    ends_by (Some (fault f)) z = at_fault a b (go (state a)) f (stopped f z)
    ends_by (Some (lost failed)) z = record { breaks = breaks failed z; rose = goes.faults.rose refl z }
    ends_by (Some (lost refused)) z = record { breaks = breaks refused z; rose = λ f l. goes.refusals.rose refl z }
    ends_by (Some (lost full)) z =
        record {
          breaks = breaks full z;
          rose = λ f l. absurd (no_room a.fixed.level a.fixed.limit a.fixed.reserved below reserved l
              (goes.fits refl z (tidy.fits f).0));
        }

    pub answers : Answers a b (go (state a)) r
    answers =
        record {
          ends = subst (Ends a b (go (state a))) (sym answer) (ends_by b.trouble refl);
          faults = λ h. goes.faults.same refl (λ z. h (answer ∙ ap answer_of z));
          refusals = λ h. goes.refusals.same refl (λ z. h (answer ∙ ap answer_of z));
          fixed = goes.fixed;
        }
