use Rattle.std.proofs.Common.{ap}
use Rattle.demangle_core.specs.Core.{Tag, end, node, numbers}
use Rattle.demangle_leaves_to_cells.proofs.Puts.{told}
use Rattle.demangle_leaves_to_cells.proofs.leaves.clone_suffix_to.Goals as goal

pub returns : goal.returns
returns c = c.two.ensures _ _ _ _ c.clone_type_identifier_to-first.ensures (told _ _ _ _ _ (ap (λ l. node Tag.Several
    (numbers l) end) c.deref.ensures.value) c.signed_list_to-second.ensures)
