use Rattle.std.proofs.Common.{ap, is_some, option_map, refl, ◌∙◌}
use Rattle.demangle_core.specs.Lookups.{as_prefix, template_args}
use Rattle.demangle_nodes.specs.TreeNodes.{tree_of_name}
use Rattle.demangle_tree.specs.Steps.{tree_of_args}
use Rattle.demangle_printing.specs.Print.{body}
use Rattle.demangle_printing.specs.Lines.{line_steps}
use Rattle.demangle_meets.proofs.Acts.{meets_done, meets_text}
use Rattle.demangle_meets.proofs.Parts.{meets_part, prints_deep, prints_node}
use Rattle.demangle_print_primaries.proofs.Chosen.{meets_else, meets_if}
use Rattle.demangle_print_expressions.proofs.members.member_name.Goals as goal

pub returns-in_default : goal.returns-in_default
returns-in_default g c = prints_deep refl c.in_default.ensures

pub returns-in-Some-get_template_args : goal.returns-in-Some-get_template_args
unfolding body line_steps
returns-in-Some-get_template_args g c =
    prints_node refl c.in-Some.ensures.0
    (meets_if _
    (ap is_some (c.get_template_args.ensures
    ∙ (ap (λ t. template_args as_prefix t (tree_of_name c.deref-name.result.now)) c.subs.ensures
    ∙ ap (λ x. template_args as_prefix (g.B.Below.at c.in-Some.below).refers.table (tree_of_name x))
    c.deref-name.ensures)))
    (ap is_some (ap (option_map tree_of_args) c.in-Some-get_template_args.is))
    (meets_text c.text.ensures (meets_part (rw c.deref-name.ensures at c.name.ensures)
    (meets_text c.text-in-Some-get_template_args.ensures meets_done))) meets_done)

pub returns-in-None : goal.returns-in-None
unfolding body line_steps
returns-in-None g c =
    prints_node refl c.in-Some.ensures.0
    (meets_else _
    (ap is_some (c.get_template_args.ensures
    ∙ (ap (λ t. template_args as_prefix t (tree_of_name c.deref-name.result.now)) c.subs.ensures
    ∙ ap (λ x. template_args as_prefix (g.B.Below.at c.in-Some.below).refers.table (tree_of_name x))
    c.deref-name.ensures)))
    (ap is_some (ap (option_map tree_of_args) c.in-None.is))
    (meets_part (rw c.deref-name.ensures at c.name-in-None.ensures) meets_done) meets_done)
