use Rattle.std.proofs.Common.{pos, refl}
use Rattle.demangle_core.specs.Core.{◌⊕◌, Tag, end, node, number}
use Rattle.demangle_leaf_nodes.specs.TreeLeaves.{tree_of_cv_qualifiers, tree_of_number, tree_of_option}
use Rattle.demangle_printing.specs.Print.{body}
use Rattle.demangle_printing.specs.Lines.{line_steps}
use Rattle.demangle_meets.proofs.Acts.{meets_ask, meets_done, meets_text}
use Rattle.demangle_meets.proofs.Parts.{prints_at, prints_deep, prints_node}
use Rattle.demangle_print_primaries.proofs.arguments.function_param.Goals as goal

pub returns-in_default : goal.returns-in_default
returns-in_default g c = λ sc. prints_deep refl c.in_default.ensures

pub returns-in-Some-2₀ : goal.returns-in-Some-2₀
unfolding body line_steps
returns-in-Some-2₀ g c =
    λ sc. prints_at (λ o. node Tag.FunctionParam (number (pos c.args.node.now.0)
    (tree_of_cv_qualifiers c.args.node.now.1 ⊕ tree_of_option tree_of_number o)) end) c.in-Some-2₀.is
    (prints_node refl c.in-Some.ensures.0 (meets_ask (λ _. refl) (meets_text c.text.ensures
    (meets_text c.ordinal.ensures (meets_text c.text-in-Some-2₀.ensures meets_done))) meets_done))

pub returns-in-None : goal.returns-in-None
unfolding body line_steps
returns-in-None g c =
    λ sc. prints_at (λ o. node Tag.FunctionParam (number (pos c.args.node.now.0)
    (tree_of_cv_qualifiers c.args.node.now.1 ⊕ tree_of_option tree_of_number o)) end) c.in-None.is
    (prints_node refl c.in-Some.ensures.0 (meets_ask (λ _. refl) (meets_text c.text-in-None.ensures meets_done)
    meets_done))
