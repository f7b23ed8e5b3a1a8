-- A type without a name as a leaf name: the last source name, or its own line.
use Rattle.std.proofs.Common.{◌≡◌, ℕ, List, Some, None, sym, ap}
use Rattle.demangle_core.specs.Core.{Core}
use Rattle.demangle_printing.specs.State.{written}
use Rattle.demangle_printing.specs.Scope.{Scope}
use Rattle.demangle_printing.specs.Act.{call, done, leaf, line}
use Rattle.demangle_printing.specs.Reader.{run}
use Rattle.demangle_printing.specs.Print.{body, source_or, steps_for}
use Rattle.demangle_meets.specs.Page.{Page}
use Rattle.demangle_meets.specs.Place.{Place, world_of}
use Rattle.demangle_meets.specs.Calls.{Enters, Steps}
use Rattle.demangle_meets.specs.Meets.{Meets}
use Rattle.demangle_meets.proofs.Acts.{meets_ask, meets_done, meets_text}
use Rattle.demangle_meets.proofs.Parts.{meets_line}

module _ {p q : Place} {a m b : Page} (x : Core) (sc : Scope Core) where
  pub leaf_named : (name : List ℕ) → Enters p q a m → Some name ≡ m.source → Steps m b (written name) →
      Meets p a b (call (leaf x) sc done)
  unfolding body
  leaf_named name e s d =
      meets_line e
      (meets_ask
      (λ _. ap (λ o. source_or o (run (world_of q.refers) (Some x) sc (steps_for ((world_of q.refers).look x))))
      (sym s))
      (meets_text d meets_done) meets_done)

  pub leaf_unnamed : Enters p q a m → None ≡ m.source → Meets q m b (body (world_of q.refers) (line x) sc) →
      Meets p a b (call (leaf x) sc done)
  unfolding body
  leaf_unnamed e s d =
      meets_line e
      (meets_ask
      (λ _. ap (λ o. source_or o (run (world_of q.refers) (Some x) sc (steps_for ((world_of q.refers).look x))))
      (sym s))
      d meets_done)
