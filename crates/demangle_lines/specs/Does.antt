-- What functions of lines do, from page to page.
use Rattle.std.specs.Prelude.{◌≡◌, ℕ, Bool, List, Some}
use Rattle.demangle_core.specs.Core.{Core}
use Rattle.demangle_printing.specs.Act.{Act, done, ask, text}
use Rattle.demangle_printing.specs.Scope.{Scope}
use Rattle.demangle_printing.specs.State.{State}
use Rattle.demangle_printing.specs.Step.{Test, Step}
use Rattle.demangle_printing.specs.Reader.{chosen, holds, run}
use Rattle.demangle_printing.specs.Rules.{turn_from}
use Rattle.demangle_meets.specs.Page.{Page, at}
use Rattle.demangle_meets.specs.Place.{Place, Refers, world_of}
use Rattle.demangle_meets.specs.Meets.{Meets, Remains}

-- Steps of a line of x.
pub record Runs (p : Place) (a b : Page) (x : Core) (sc : Scope Core) (s : Step) : Type 0 where
  pub meets : Meets p a b (run (world_of p.refers) (Some x) sc s)

-- Steps that a condition chooses.
pub record Chooses (p : Place) (a b : Page) (x : Core) (sc : Scope Core) (t : Test) (yes no : Step) : Type 0 where
  pub rest : (k : Act Core) → Remains p a b (ask (λ s. chosen (holds (world_of p.refers) (Some x) t s)
      (run (world_of p.refers) (Some x) sc yes) (run (world_of p.refers) (Some x) sc no)) k) k

-- What of the top item stands behind, where there is one.
pub record Takes (p : Place) (a b : Page) (sc : Scope Core) : Type 0 where
  pub rest : (k : Act Core) → Remains p a b (ask (λ s. turn_from (world_of p.refers) s.inner sc done) k) k

-- Whether a condition of a tree holds, whatever the state is.
pub record Says (r : Refers) (x : Core) (t : Test) (v : Bool) : Type 0 where
  pub is : (s : State Core) → v ≡ holds (world_of r) (Some x) t s

-- Whether a condition holds.
pub record Holds (r : Refers) (a : Page) (x : Core) (t : Test) (v : Bool) : Type 0 where
  pub is : (l : ℕ) → v ≡ holds (world_of r) (Some x) t (at l a)
