-- From where a public call begins to its answer.
use Rattle.std.proofs.Common.{◌≡◌, Bool, true, false, List, [], map, cond, Option, Some, None, Ok, refl, subst}
use Rattle.std.proofs.Common.{length, ℕ}
use Rattle.demangle_core.specs.Core.{Core, Tag}
use Rattle.demangle_printing.specs.World.{World, Seen, node, word}
use Rattle.demangle_printing.specs.State.{byte, TooLong, State, Answer, yes, no, bind, written, wrote, has_room}
use Rattle.demangle_printing.specs.Scope.{Scope}
use Rattle.demangle_printing.specs.Act.{Job, line, parameters, Act, done, call, act}
use Rattle.demangle_printing.specs.Act as job
use Rattle.demangle_printing.specs.Rules.{of_part, line_for, leaf_seen, leaf_act}
use Rattle.demangle_printing.specs.Texts.{leaf_text}
use Rattle.demangle_printing.specs.Laws.{IsFitting, After, Does}
use Rattle.demangle_printing.proofs.Closed.{act_bracketed, print_bracketed}
use Rattle.demangle_printing.proofs.Fits.{stays_fitting}
use Rattle.demangle_printing.proofs.Left.{act_leaves, leaves_all, print_leaves}
use Rattle.demangle_meets.specs.Page.{Page}
use Rattle.demangle_meets.specs.Place.{Place, world_of}
use Rattle.demangle_meets.specs.Meets.{deeper, fitting, Ready, Meets, Prints, Inner}
use Rattle.demangle_meets.proofs.Goes.{goes_as}
use Rattle.demangle_meets.proofs.Acts.{job_meets}
use Rattle.demangle_context.specs.TroubleOf.{answer_of}
use Rattle.demangle_print_below.specs.PlaceOf.{place_in}
use Rattle.demangle_print.specs.Demangled.{Reply, begun, Begun, state, line_at, Answers, Demangled, DemangledInner}
use Rattle.demangle_print.specs.Demangled.{DemangledLeaf, DemangledArgs}
use Rattle.demangle_print.proofs.Answered.{IsTidy, answers}
use Rattle.demangle_print.proofs.Declares.{declares_line}

-- what holds of the place and the page with which printing began holds of those that the context tells
from_begun : {a m : Page} {p : Place} (F : Place → Page → Type 0) → Begun a m p → F p m →
    F (place_in a.fixed) (begun a)
from_begun {a = a} {p = p} F h d = subst (λ q. F q (begun a)) h.place (subst (λ c. F p c) h.page d)

-- ---- jobs
job_tidy : (a : Page) (j : Job Core) (sc : Scope Core) →
    IsTidy a (deeper (place_in a.fixed) j sc (state a)) (fitting (place_in a.fixed) a.aside j sc (state a))
job_tidy a j sc =
    record {
      brackets = print_bracketed (world_of a.fixed.refers) (place_in a.fixed).left j sc (state a);
      leaves = print_leaves (world_of a.fixed.refers) (place_in a.fixed).left j sc (state a);
      fits = stays_fitting (world_of a.fixed.refers) (place_in a.fixed).left a.aside j sc (state a);
    }

job_answers : {a m b : Page} {p : Place} {j : Job Core} {sc : Scope Core} {r : Reply} → Begun a m p →
    Meets (place_in a.fixed) (begun a) b (call j sc done) → r ≡ answer_of b.trouble →
    Answers a b (deeper (place_in a.fixed) j sc (state a)) r
job_answers {a} {m} {b} {p} {j} {sc} {r} h d e =
    answers {go = deeper (place_in a.fixed) j sc} h.below h.reserved (job_tidy a j sc) (job_meets d) d.same e

-- ---- lines
nothing_tidy : (a : Page) (p : Place) → IsTidy a (yes [] (state a)) (Ready p done a.aside (state a))
unfolding Does
nothing_tidy a p = record { brackets = λ n. refl; leaves = leaves_all (state a); fits = λ f. (tt, f) }

line_answers : {a m b : Page} {p : Place} {r : Reply} (o : Option Core) (sc : Scope Core) → Begun a m p →
    Meets (place_in a.fixed) (begun a) b (line_for (world_of a.fixed.refers) o sc) → r ≡ answer_of b.trouble →
    Answers a b (line_at (place_in a.fixed) o sc (state a)) r
unfolding act
line_answers {a} {m} {b} {p} {r} None sc h d e =
    answers {go = λ s. yes [] s} h.below h.reserved (nothing_tidy a (place_in a.fixed))
    (goes_as (λ _. refl) (λ _ v. v) d.goes) d.same e
line_answers (Some x) sc h d e = job_answers h d e

pub demangled : {a m b : Page} {p : Place} {x : Core} {sc : Scope Core} {r : Reply} → Begun a m p →
    Prints p m b x sc → r ≡ answer_of b.trouble → Demangled a b x sc r
demangled {a} {m} {b} {p} {x} {sc} {r} h d e =
    let
    q : Prints (place_in a.fixed) (begun a) b x sc = from_begun (λ q c. Prints q c b x sc) h d
    in
    let
    k = line_answers (of_part (world_of a.fixed.refers) (Some x)) sc h q.meets e
    in
    record { answers = k; declares = λ t i v n o. declares_line a b r h.law x sc t i v n o k.ends }

-- ---- what stands behind, and parameters
pub demangled_inner : {a m b : Page} {p : Place} {x : Core} {sc : Scope Core} {r : Reply} → Begun a m p →
    Inner p m b x sc → r ≡ answer_of b.trouble → DemangledInner a b x sc r
demangled_inner {a} {m} {b} {p} {x} {sc} {r} h d e =
    let
    q : Inner (place_in a.fixed) (begun a) b x sc = from_begun (λ q c. Inner q c b x sc) h d
    in
    record { answers = job_answers h q.meets e }

pub demangled_args : {a m b : Page} {p : Place} {types : List Core} {sc : Scope Core} {r : Reply} → Begun a m p →
    Meets p m b (call (parameters types) sc done) → r ≡ answer_of b.trouble → DemangledArgs a b types sc r
demangled_args {a} {m} {b} {p} {types} {sc} {r} h d e =
    record { answers = job_answers h (from_begun (λ q c. Meets q c b (call (parameters types) sc done)) h d) e }

-- ---- leaf names
module _ (p : Place) (aside : _) (s : State Core) (fits : IsFitting aside s) where
  -- of an act that begins so
  abbrev Fits : Act Core → Type 0
  Fits f = Ready p f aside s × After (IsFitting aside) (act (deeper p) f s)

  after_any : (x : Answer Core) → After (λ t. Unit {0}) x
  after_any (yes m t) = tt
  after_any (no m f) = tt

  after_done : (x : Answer Core) → After (IsFitting aside) x → After (IsFitting aside) (bind x (act (deeper p) done))
  unfolding act
  after_done (yes m t) q = q
  after_done (no m f) q = q

  job_fits : (j : Job Core) → Fits (call j [] done)
  unfolding act Does
  job_fits j =
      let k = stays_fitting (world_of p.refers) p.left aside j [] s fits in
      ((k.0, after_any (deeper p j [] s)), after_done (deeper p j [] s) k.1)

  written_fits : (bs : List ℕ) (b : Bool) →
      After (IsFitting aside) (cond b (yes (map byte bs) (wrote bs s)) (no [] TooLong))
  written_fits bs true = fits
  written_fits bs false = tt

  text_fits : (bs : List ℕ) → Fits (job.text bs done)
  unfolding act Does written
  text_fits bs = (after_any (written bs s), after_done (written bs s) (written_fits bs (has_room s.room (length bs))))

  leaf_fits : (x : Core) (v : Seen Core) → Fits (leaf_seen (world_of p.refers) x v)
  unfolding act Does
  leaf_fits x (node Tag.SourceName xs) = job_fits (line x)
  leaf_fits x (node Tag.ClosureTypeName xs) = job_fits (line x)
  leaf_fits x (node Tag.UnnamedTypeName xs) = job_fits (job.leaf x)
  leaf_fits x (word t j) = text_fits (leaf_text j)
  leaf_fits x _ = (tt, fits)

leaf_tidy : (a : Page) (x : Core) → IsTidy a
    (act (deeper (place_in a.fixed)) (leaf_act (world_of a.fixed.refers) (Ok x)) (state a))
    (Ready (place_in a.fixed) (leaf_act (world_of a.fixed.refers) (Ok x)) a.aside (state a))
leaf_tidy a x =
    let w : World Core = world_of a.fixed.refers in
    let n : ℕ = (place_in a.fixed).left in
    record {
      brackets = act_bracketed (deeper (place_in a.fixed)) (print_bracketed w n) (leaf_act w (Ok x)) (state a);
      leaves = act_leaves (deeper (place_in a.fixed)) (print_leaves w n) (leaf_act w (Ok x)) (state a);
      fits = λ f. leaf_fits (place_in a.fixed) a.aside (state a) f x (w.look x);
    }

pub demangled_leaf : {a m b : Page} {p : Place} {x : Core} {r : Reply} → Begun a m p →
    Meets p m b (leaf_act (world_of p.refers) (Ok x)) → r ≡ answer_of b.trouble → DemangledLeaf a b x r
demangled_leaf {a} {m} {b} {p} {x} {r} h d e =
    let
    q : Meets (place_in a.fixed) (begun a) b (leaf_act (world_of a.fixed.refers) (Ok x)) =
    from_begun (λ q c. Meets q c b (leaf_act (world_of q.refers) (Ok x))) h d
    in
    record { answers = answers h.below h.reserved (leaf_tidy a x) q.goes q.same e }
