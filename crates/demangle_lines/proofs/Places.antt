-- What was asked of a tree with a table, at a place with this table.
use Rattle.std.proofs.Common.{◌≡◌, ◌∙◌, ap}
use Rattle.demangle_core.specs.Table.{Table}

pub at_table : {A : Type 0} {v : A} {t u : Table} (f : Table → A) → t ≡ u → v ≡ f t → v ≡ f u
at_table f e d = d ∙ ap f e
