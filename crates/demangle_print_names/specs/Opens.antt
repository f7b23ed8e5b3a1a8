-- As what a prefix is told.
use Rattle.std.specs.Prelude.{Option}
use Rattle.demangle_core.specs.Core.{Core}
use Rattle.demangle_printing.specs.State.{Kind}
use Rattle.demangle_printing.specs.Scope.{Scope}
use Rattle.demangle_printing.specs.Step.{Step}
use Rattle.demangle_printing.specs.Items.{Item, event, fence}
use Rattle.demangle_printing.specs.Reader.{run}
use Rattle.demangle_printing.specs.Lines.Names.{in_prefix}
use Rattle.demangle_meets.specs.Page.{Page}
use Rattle.demangle_meets.specs.Place.{Place, world_of}
use Rattle.demangle_meets.specs.Meets.{Meets}

-- The flag that says so was turned off. What is left of a prefix are its events, of this kind.
pub record Opens (a b : Page) (kind : Kind) : Type 0 where
  pub rest : (p : Place) (c : Page) (x : Option Core) (sc : Scope Core) (it : Item) →
      Meets p b c (run (world_of p.refers) x sc (event kind (fence it) Step.done)) →
      Meets p a c (run (world_of p.refers) x sc (in_prefix it Step.done))
