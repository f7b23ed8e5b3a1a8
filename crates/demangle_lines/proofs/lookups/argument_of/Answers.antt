use Rattle.std.proofs.Common.{option_map, ◌∙◌, ap, refl, sym, true, false}
use Rattle.demangle_printing.specs.Scope.{is_forward}
use Rattle.demangle_lines.specs.Entries.{mark_of}
use Rattle.demangle_lines.proofs.Entries.{decides, passes_list, passes_other}
use Rattle.demangle_lines.proofs.lookups.argument_of.Goals as goal

pub returns-then-not-is_arguments : goal.returns-then-not-is_arguments
returns-then-not-is_arguments g c =
    passes_other _ _ _ _ _ _ c.requires (sym c.is_arguments.ensures ∙ c.if-not-is_arguments.true)

pub returns-in_default : goal.returns-in_default
returns-in_default g c =
    passes_list _ _ _ _ _ _ (sym c.is_arguments.ensures ∙ c.if-not-is_arguments.false) c.in_default.ensures

pub returns-then-is_forward : goal.returns-then-is_forward
returns-then-is_forward g c =
    decides _ _ _ _ _ _ _ true (sym c.is_arguments.ensures ∙ c.if-not-is_arguments.false) c.in-Some.ensures
    (sym (c.is_forward.ensures ∙ ap (λ y. is_forward (option_map mark_of c.args.mark) y c.args.number) c.began.ensures) ∙ c.if-is_forward.true)

pub returns : goal.returns
returns g c =
    decides _ _ _ _ _ _ _ false (sym c.is_arguments.ensures ∙ c.if-not-is_arguments.false) c.in-Some.ensures
    (sym (c.is_forward.ensures ∙ ap (λ y. is_forward (option_map mark_of c.args.mark) y c.args.number) c.began.ensures) ∙ c.if-is_forward.false)
