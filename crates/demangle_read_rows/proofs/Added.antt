-- A new component of a cell.
use Rattle.std.proofs.Common.{◌≡◌, ap, ◌∙◌, ℕ, Result, Ok, Err, IfOk, IfErr}
use Rattle.demangle_text.specs.declared.error.Error.{Error}
use Rattle.demangle_text.specs.declared.error.Error.TheVariants.{OutOfMemory}
use Rattle.demangle_core.specs.Core.{Core, Tag, Which, node, end}
use Rattle.demangle_core.specs.Table.{added, size}
use Rattle.demangle_grammar.specs.Tree.{reference}
use Rattle.demangle_cells.specs.Cells.{tree}
use Rattle.demangle_cells.specs.View.{View, Holds, table, Grown}
use Rattle.demangle_cells.specs.declared.cell.Cell.{Cell}
use Rattle.demangle_read_rows.specs.Adds.{Adds}

pub adds_cell : (which : Which) (tag : Tag) (cell : Cell) (part : ℕ) (r : Result ℕ Error) (old mid new : View)
    → ((F : ℕ → Core) → table F mid ≡ table F old)
    → ((F : ℕ → Core) → Holds F mid → F part ≡ tree F mid.list cell) → Grown mid new
    → IfOk r (λ i. (F : ℕ → Core) → Holds F new → F i ≡ reference which (size which (table F mid)))
    → IfOk r (λ i. (F : ℕ → Core) → Holds F new → table F new ≡ added which (node tag (F part) end) (table F mid))
    → IfErr r (λ e. e ≡ OutOfMemory) → Adds which (λ F list. node tag (tree F list cell) end) r old new
adds_cell which tag cell part (Ok i) old mid new t m g a b c = (
  mid.list,
  λ F h. (
    a F h ∙ ap (λ z. reference which (size which z)) (t F),
    b F h ∙ (ap (λ z. added which (node tag z end) (table F mid)) (m F (g.holds F h))
        ∙ ap (λ z. added which (node tag (tree F mid.list cell) end) z) (t F)),
  ),
)
adds_cell which tag cell part (Err e) old mid new t m g a b c = c
