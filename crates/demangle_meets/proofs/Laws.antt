-- The word for a whole job.
use Rattle.std.proofs.Common.{◌≡◌, ℕ, ◌+◌, ◌≤◌, ◌<◌, List, Option, option_map}
use Rattle.std.proofs.Common.{Some, None, refl, sym, ap, subst, arith}
use Rattle.demangle_core.specs.Core.{Core}
use Rattle.demangle_printing.specs.State.{Event, Fault, State, Answer, yes, no}
use Rattle.demangle_printing.specs.Scope.{Scope}
use Rattle.demangle_printing.specs.Act.{Job, done, call}
use Rattle.demangle_printing.specs.Laws.{AreClosed, AreOpen, AreBracketed, Leaves}
use Rattle.demangle_printing.specs.Laws.{IsFitting}
use Rattle.demangle_printing.proofs.Closed.{print_bracketed}
use Rattle.demangle_printing.proofs.Fits.{stays_fitting}
use Rattle.demangle_printing.proofs.Left.{print_leaves}
use Rattle.demangle_meets.specs.Page.{Page, Trouble, fault, lost, Loss, failed, refused, full, at}
use Rattle.demangle_meets.specs.Goes.{Whole, Stopped, Goes}
use Rattle.demangle_meets.specs.Place.{Place, world_of}
use Rattle.demangle_meets.specs.Meets.{deeper, fitting, Meets}
use Rattle.demangle_meets.specs.Laws.{LosesByListener, LeavesFitting, CountsStay, LeavesSome, StaysFixed, fault_in}
use Rattle.demangle_meets.specs.Laws.{StopsExactly}
use Rattle.demangle_meets.specs.Laws.{WasTold, WasStopped, TellsInOrder}
use Rattle.demangle_meets.proofs.Goes.{goes_after}
use Rattle.demangle_meets.proofs.Acts.{job_meets}

-- ---- what is lost
no_room : (p : Place) (a b : Page) (j : Job Core) (sc : Scope Core) → Meets p a b (call j sc done) →
    a.trouble ≡ None → IsFitting a.aside (at p.level a) → p.level + p.left < a.fixed.reserved →
    b.trouble ≡ Some (lost full) → ⊥
no_room p a b j sc d n h r z =
    let
    k = (job_meets d).fits n z (stays_fitting (world_of p.refers) p.left a.aside j sc (at p.level a) h).0
    in
    omega (arith, k, r)

pub loses_by_listener : LosesByListener
loses_by_listener p a b j sc failed d n h r z = (job_meets d).faults.rose n z
loses_by_listener p a b j sc refused d n h r z = (job_meets d).refusals.rose n z
loses_by_listener p a b j sc full d n h r z = no_room p a b j sc d n h r z

pub leaves_fitting : LeavesFitting
leaves_fitting p a b j sc d n h z =
    subst (λ u. IsFitting u (at p.level b)) (sym (d.same.is n z))
    (goes_after (IsFitting a.aside) (job_meets d) n z
    (stays_fitting (world_of p.refers) p.left a.aside j sc (at p.level a) h).1)

pub counts_stay : CountsStay
counts_stay p a b j sc d n = ((job_meets d).faults.same n, (job_meets d).refusals.same n)

-- ---- what is left
pub leaves_items : LeavesSome
leaves_items p a b j sc d n z =
    record {
      leaves = goes_after (Leaves (at p.level a)) (job_meets d) n z
          (print_leaves (world_of p.refers) p.left j sc (at p.level a));
      aside = d.same.is n z;
    }

pub stays_fixed : StaysFixed
stays_fixed p a b j sc d = (job_meets d).fixed

-- ---- why it stopped
fault_known : (x : Answer Core) (o : Option Trouble) → (o ≡ None → fault_in x ≡ None) →
    ((f : Fault) → o ≡ Some (fault f) → fault_in x ≡ Some f) → ((c : Loss) → o ≡ Some (lost c) → ⊥) →
    o ≡ option_map fault (fault_in x)
fault_known x None none some no_loss = sym (ap (option_map fault) (none refl))
fault_known x (Some (fault f)) none some no_loss = sym (ap (option_map fault) (some f refl))
fault_known x (Some (lost c)) none some no_loss = absurd (no_loss c refl)

pub stops_exactly : StopsExactly
stops_exactly p a b j sc d n no_loss =
    fault_known (deeper p j sc (at p.level a)) b.trouble (λ z. ap fault_in ((job_meets d).done n z).is)
    (λ f z. ap fault_in ((job_meets d).stopped f n z).is) no_loss

-- ---- what was told
closed_of : (x : Answer Core) (m : List Event) (s : State Core) → x ≡ yes m s → AreBracketed x → AreClosed m
closed_of x m s e h = subst AreBracketed e h

open_of : (x : Answer Core) (m : List Event) (f : Fault) → x ≡ no m f → AreBracketed x → AreOpen m
open_of x m f e h = subst AreBracketed e h

no_more : (c : ℕ) → c + 0 ≡ c
no_more c = omega arith

pub tells_in_order : TellsInOrder
tells_in_order p a b j sc d n = (whole, stopped)
  where
    goes : Goes p a b (deeper p j sc) (fitting p a.aside j sc (at p.level a))
    goes = job_meets d

    bracketed : AreBracketed (deeper p j sc (at p.level a))
    bracketed = print_bracketed (world_of p.refers) p.left j sc (at p.level a)

    whole : b.trouble ≡ None → WasTold a b (deeper p j sc (at p.level a)) (at p.level b)
    whole z =
        let
        y : Whole a b (deeper p j sc (at p.level a)) (at p.level b) = goes.done n z
        in
        record {
          all = y.all;
          is = y.is;
          told = y.told;
          last = y.last;
          are_closed = closed_of (deeper p j sc (at p.level a)) y.all (at p.level b) y.is bracketed;
        }

    stopped : (f : Fault) → b.trouble ≡ Some (fault f) →
        WasStopped a.seen b.seen (deeper p j sc (at p.level a)) f
    stopped f z =
        let
        y : Stopped a.seen b.seen (deeper p j sc (at p.level a)) f = goes.stopped f n z
        in
        let
        o : AreOpen y.before = open_of (deeper p j sc (at p.level a)) y.before f y.is bracketed
        in
        record {
          before = y.before;
          ended = y.ended;
          stand_open = o.0;
          is = y.is;
          told = y.told;
          are_open = o.1;
          no_more = subst (λ k. y.ended ≤ k) (no_more o.0) (y.were_open 0 (o.0 + 0) (o.1 0));
        }
