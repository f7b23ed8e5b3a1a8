use Rattle.std.proofs.Common.{◌≡◌, subst}
use Rattle.std.specs.Prelude.{true}
use Rattle.demangle_core.specs.Core.{Tag, node, mark, end, same, trees}
use Rattle.demangle_core.specs.Same.{same_equiv}
use Rattle.demangle_nodes.specs.TreeNodes.{tree_of_template_args, tag_of_template_arg, parts_of_template_arg}
use Rattle.demangle_nodes.proofs.laws.equality_leaves_places_out.Goals as goal

pub returns : goal.returns
returns c = λ a b e.
    subst
    (λ l. same (tree_of_template_args a) (node Tag.TemplateArgs (mark b.1 (node Tag.Several (trees tag_of_template_arg parts_of_template_arg l) end)) end) ≡ true)
    e (same_equiv.refl (tree_of_template_args a))
