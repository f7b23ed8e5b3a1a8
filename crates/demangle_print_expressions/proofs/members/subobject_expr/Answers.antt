use Rattle.std.proofs.Common.{refl, rules}
use Rattle.demangle_printing.specs.Print.{body}
use Rattle.demangle_printing.specs.Lines.{line_steps}
use Rattle.demangle_meets.proofs.Acts.{meets_done, meets_text}
use Rattle.demangle_meets.proofs.Lines.{meets_said}
use Rattle.demangle_meets.proofs.Parts.{meets_part, prints_deep, prints_node}
use Rattle.demangle_print_parts.proofs.Decimals.{numbered}
use Rattle.demangle_print_expressions.proofs.members.subobject_expr.Goals as goal

pub returns-in_default : goal.returns-in_default
returns-in_default g c = prints_deep refl c.in_default.ensures

pub returns : goal.returns
unfolding body line_steps
returns g c =
    prints_node refl c.in-Some.ensures.0 ((meets_part (rw c.deref.ensures at c.expression.ensures) (meets_text
    c.text.ensures (meets_part c.type_handle.ensures (meets_text c.text-2.ensures (meets_said (numbered
    c.args.node.now.offset (search rules) c.number.ensures) (meets_text c.text-3.ensures meets_done)))))))
