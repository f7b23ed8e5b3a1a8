-- From where a public call begins to its answer.
use Rattle.std.proofs.Common.{◌≡◌, [], Option, Some, None, refl, subst}
use Rattle.demangle_core.specs.Core.{Core}
use Rattle.demangle_printing.specs.State.{State, yes}
use Rattle.demangle_printing.specs.Scope.{Scope}
use Rattle.demangle_printing.specs.Act.{Job, done, call, act}
use Rattle.demangle_printing.specs.Rules.{of_part, line_for}
use Rattle.demangle_printing.specs.Laws.{Does}
use Rattle.demangle_printing.proofs.Closed.{print_bracketed}
use Rattle.demangle_printing.proofs.Fits.{stays_fitting}
use Rattle.demangle_printing.proofs.Left.{leaves_all, print_leaves}
use Rattle.demangle_meets.specs.Page.{Page}
use Rattle.demangle_meets.specs.Place.{Place, world_of}
use Rattle.demangle_meets.specs.Meets.{deeper, fitting, Ready, Meets, Prints, Inner}
use Rattle.demangle_meets.proofs.Goes.{goes_as}
use Rattle.demangle_meets.proofs.Acts.{job_meets}
use Rattle.demangle_context.specs.TroubleOf.{answer_of}
use Rattle.demangle_lines_tied.specs.PlaceOf.{place_in}
use Rattle.demangle_lines_print.specs.Demangled.{Reply, begun, Begun, state, line_at, Answers, Demangled}
use Rattle.demangle_lines_print.specs.Demangled.{DemangledInner}
use Rattle.demangle_lines_print.proofs.Answered.{IsTidy, answers}
use Rattle.demangle_lines_print.proofs.Declares.{declares_line}

-- what holds of the place and the page with which printing began holds of those that the context tells
from_begun : {a m : Page} {p : Place} (F : Place → Page → Type 0) → Begun a m p → F p m →
    F (place_in a.fixed) (begun a)
from_begun {a = a} {p = p} F h d = subst (λ q. F q (begun a)) h.place (subst (λ c. F p c) h.page d)

-- ---- jobs
job_tidy : (a : Page) (j : Job Core) (sc : Scope Core) →
    IsTidy a (deeper (place_in a.fixed) j sc (state a)) (fitting (place_in a.fixed) a.aside j sc (state a))
job_tidy a j sc =
    record {
      brackets = print_bracketed (world_of a.fixed.refers) (place_in a.fixed).left j sc (state a);
      leaves = print_leaves (world_of a.fixed.refers) (place_in a.fixed).left j sc (state a);
      fits = stays_fitting (world_of a.fixed.refers) (place_in a.fixed).left a.aside j sc (state a);
    }

job_answers : {a m b : Page} {p : Place} {j : Job Core} {sc : Scope Core} {r : Reply} → Begun a m p →
    Meets (place_in a.fixed) (begun a) b (call j sc done) → r ≡ answer_of b.trouble →
    Answers a b (deeper (place_in a.fixed) j sc (state a)) r
job_answers {a} {m} {b} {p} {j} {sc} {r} h d e =
    answers {go = deeper (place_in a.fixed) j sc} h.below h.reserved (job_tidy a j sc) (job_meets d) d.same e

-- ---- lines
nothing_tidy : (a : Page) (p : Place) → IsTidy a (yes [] (state a)) (Ready p done a.aside (state a))
unfolding Does
nothing_tidy a p = record { brackets = λ n. refl; leaves = leaves_all (state a); fits = λ f. (tt, f) }

line_answers : {a m b : Page} {p : Place} {r : Reply} (o : Option Core) (sc : Scope Core) → Begun a m p →
    Meets (place_in a.fixed) (begun a) b (line_for (world_of a.fixed.refers) o sc) → r ≡ answer_of b.trouble →
    Answers a b (line_at (place_in a.fixed) o sc (state a)) r
unfolding act
line_answers {a} {m} {b} {p} {r} None sc h d e =
    answers {go = λ s. yes [] s} h.below h.reserved (nothing_tidy a (place_in a.fixed))
    (goes_as (λ _. refl) (λ _ v. v) d.goes) d.same e
line_answers (Some x) sc h d e = job_answers h d e

pub demangled : {a m b : Page} {p : Place} {x : Core} {sc : Scope Core} {r : Reply} → Begun a m p →
    Prints p m b x sc → r ≡ answer_of b.trouble → Demangled a b x sc r
demangled {a} {m} {b} {p} {x} {sc} {r} h d e =
    let
    q : Prints (place_in a.fixed) (begun a) b x sc = from_begun (λ q c. Prints q c b x sc) h d
    in
    let
    k = line_answers (of_part (world_of a.fixed.refers) (Some x)) sc h q.meets e
    in
    record { answers = k; declares = λ t i v n o. declares_line a b r h.law x sc t i v n o k.ends }

-- ---- what stands behind
pub demangled_inner : {a m b : Page} {p : Place} {x : Core} {sc : Scope Core} {r : Reply} → Begun a m p →
    Inner p m b x sc → r ≡ answer_of b.trouble → DemangledInner a b x sc r
demangled_inner {a} {m} {b} {p} {x} {sc} {r} h d e =
    let
    q : Inner (place_in a.fixed) (begun a) b x sc = from_begun (λ q c. Inner q c b x sc) h d
    in
    record { answers = job_answers h q.meets e }

-- ---- one job
pub answered : {a m b : Page} {p : Place} {j : Job Core} {sc : Scope Core} {r : Reply} → Begun a m p →
    Meets p m b (call j sc done) → r ≡ answer_of b.trouble → Answers a b (deeper (place_in a.fixed) j sc (state a)) r
answered {b = b} {j = j} {sc = sc} h d e =
    job_answers h (from_begun (λ q c. Meets q c b (call j sc done)) h d) e

-- with nothing in scope
pub answered_alone : {a m b : Page} {p : Place} {j : Job Core} {sc : Scope Core} {r : Reply} → sc ≡ [] → Begun a m p →
    Meets p m b (call j sc done) → r ≡ answer_of b.trouble → Answers a b (deeper (place_in a.fixed) j [] (state a)) r
answered_alone {a} {b = b} {j = j} {r = r} n h d e =
    subst (λ v. Answers a b (deeper (place_in a.fixed) j v (state a)) r) n (answered h d e)
