use Rattle.std.proofs.Common.{refl}
use Rattle.demangle_nodes.specs.TreeNodes.{parts_of_expression, tag_of_expression}
use Rattle.demangle_printing.specs.Print.{body}
use Rattle.demangle_printing.specs.Lines.{line_steps}
use Rattle.demangle_meets.proofs.Acts.{meets_done, meets_text}
use Rattle.demangle_meets.proofs.Parts.{prints_deep, prints_node}
use Rattle.demangle_scope.specs.ScopeOf.{scope_of}
use Rattle.demangle_print_primaries.proofs.Lists.{meets_list}
use Rattle.demangle_print_expressions.proofs.calls.initializer.Goals as goal

pub returns-in_default : goal.returns-in_default
returns-in_default g c = prints_deep refl c.in_default.ensures

pub returns : goal.returns
unfolding body line_steps
returns g c =
    prints_node refl c.in-Some.ensures.0 ((meets_text c.text.ensures (meets_list (scope_of c.args.scope)
    tag_of_expression parts_of_expression _ (rw c.as_slice.ensures.value at c.expression_list.ensures) (meets_text
    c.text-2.ensures meets_done))))
