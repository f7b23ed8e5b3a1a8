use Rattle.std.proofs.Common.{sym, ◌∙◌}
use Rattle.demangle_meets.proofs.Parts.{prints_line, prints_same, inner_behind}
use Rattle.demangle_print_primaries.proofs.Itself.{expression_is_itself, template_arg_is_itself}
use Rattle.demangle_print.proofs.Held.{encoding_is_itself, held_is_itself, held_part, mangled_name_is_itself}
use Rattle.demangle_print.proofs.Held.{name_is_itself}
use Rattle.demangle_print.proofs.Turns.{named_at, named_deep, part_at, part_deep}
use Rattle.demangle_print.proofs.printing.+printing.Goals as goal

pub print_named-returns-in_default : goal.print_named-returns-in_default
print_named-returns-in_default g t c = named_deep _ _ _ _ _ c.in_default.ensures

pub print_part-returns-in_default : goal.print_part-returns-in_default
print_part-returns-in_default g t c = part_deep _ _ _ _ _ c.in_default.ensures

pub print_named-returns-in-MangledName : goal.print_named-returns-in-MangledName
print_named-returns-in-MangledName g t c =
    named_at _ _ _ _ c.in-MangledName.is
    (prints_line (mangled_name_is_itself _ _) c.in-Some.ensures c.mangled_name_steps.ensures)

pub print_named-returns-in-Encoding : goal.print_named-returns-in-Encoding
print_named-returns-in-Encoding g t c =
    named_at _ _ _ _ c.in-Encoding.is
    (prints_line (encoding_is_itself _ _) c.in-Some.ensures c.encoding_steps.ensures)

pub print_named-returns-in-Name : goal.print_named-returns-in-Name
print_named-returns-in-Name g t c =
    named_at _ _ _ _ c.in-Name.is
    (prints_line (name_is_itself _ _) c.in-Some.ensures c.name_steps.ensures)

pub print_part-returns-in-Expression : goal.print_part-returns-in-Expression
print_part-returns-in-Expression g t c =
    part_at _ _ _ _ c.in-Expression.is
    (prints_line (expression_is_itself _ _) c.in-Some.ensures c.expression_steps.ensures)

pub print_part-returns-in-TemplateArg : goal.print_part-returns-in-TemplateArg
print_part-returns-in-TemplateArg g t c =
    part_at _ _ _ _ c.in-TemplateArg.is
    (prints_line (template_arg_is_itself _ _) c.in-Some.ensures c.template_arg_steps.ensures)

pub print_part-returns-in-Substitutable : goal.print_part-returns-in-Substitutable
print_part-returns-in-Substitutable g t c =
    part_at _ _ _ _ c.in-Substitutable.is
    (prints_same (held_part _ c.in-Substitutable.node.now ∙ sym (held_is_itself _ c.in-Substitutable.node.now))
    (prints_line (held_is_itself _ _) c.in-Some.ensures c.substitutable_steps.ensures))

pub print_part-returns-in-Inner : goal.print_part-returns-in-Inner
print_part-returns-in-Inner g t c =
    part_at _ _ _ _ c.in-Inner.is (inner_behind c.in-Some.ensures c.inner_steps.ensures)
