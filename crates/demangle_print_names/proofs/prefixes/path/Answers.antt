use Rattle.std.proofs.Common.{Some, false, sym, true}
use Rattle.demangle_entries.specs.TreeEntries.{tag_of_prefix, tree_of_prefix}
use Rattle.demangle_printing.specs.Lines.{line_steps}
use Rattle.demangle_printing.specs.Reader.{run}
use Rattle.demangle_printing.specs.State.{tprefix}
use Rattle.demangle_meets.proofs.Acts.{meets_done, meets_set, meets_text}
use Rattle.demangle_meets.proofs.Parts.{meets_at, meets_part}
use Rattle.demangle_meets.specs.Place.{world_of}
use Rattle.demangle_scope.specs.ScopeOf.{scope_of}
use Rattle.demangle_print_unqualified.specs.Pieces.{in_fence}
use Rattle.demangle_print_names.proofs.prefixes.path.Goals as goal

pub returns-in-Unqualified : goal.returns-in-Unqualified
unfolding line_steps
returns-in-Unqualified g c =
    meets_at (λ x. run (world_of (g.B.Below.at c.args.below).refers) (Some (tree_of_prefix x))
    (scope_of c.args.scope) (in_fence (line_steps (tag_of_prefix x))))
    (sym c.in-Unqualified.is) (meets_part c.unqualified_name.ensures meets_done)

pub returns-in-Nested : goal.returns-in-Nested
unfolding line_steps
returns-in-Nested g c =
    meets_at (λ x. run (world_of (g.B.Below.at c.args.below).refers) (Some (tree_of_prefix x))
    (scope_of c.args.scope) (in_fence (line_steps (tag_of_prefix x))))
    (sym c.in-Nested.is) (
    meets_part c.prefix_handle.ensures (meets_text c.text.ensures
    (meets_part c.unqualified_name-in-Nested.ensures meets_done)))

pub returns-in-Template : goal.returns-in-Template
unfolding line_steps
returns-in-Template g c =
    meets_at (λ x. run (world_of (g.B.Below.at c.args.below).refers) (Some (tree_of_prefix x))
    (scope_of c.args.scope) (in_fence (line_steps (tag_of_prefix x))))
    (sym c.in-Template.is) (
    meets_set {i = tprefix} {v = true} c.turn.ensures (meets_part c.prefix_handle-in-Template.ensures
    (meets_set {i = tprefix} {v = false} c.turn-in-Template.ensures (meets_part c.template_args.ensures meets_done))))

pub returns-in-TemplateParam : goal.returns-in-TemplateParam
unfolding line_steps
returns-in-TemplateParam g c =
    meets_at (λ x. run (world_of (g.B.Below.at c.args.below).refers) (Some (tree_of_prefix x))
    (scope_of c.args.scope) (in_fence (line_steps (tag_of_prefix x))))
    (sym c.in-TemplateParam.is) (meets_part c.template_param.ensures meets_done)

pub returns-in-Decltype : goal.returns-in-Decltype
unfolding line_steps
returns-in-Decltype g c =
    meets_at (λ x. run (world_of (g.B.Below.at c.args.below).refers) (Some (tree_of_prefix x))
    (scope_of c.args.scope) (in_fence (line_steps (tag_of_prefix x))))
    (sym c.in-Decltype.is) (meets_part c.decltype.ensures meets_done)

pub returns-in-DataMember : goal.returns-in-DataMember
unfolding line_steps
returns-in-DataMember g c =
    meets_at (λ x. run (world_of (g.B.Below.at c.args.below).refers) (Some (tree_of_prefix x))
    (scope_of c.args.scope) (in_fence (line_steps (tag_of_prefix x))))
    (sym c.in-DataMember.is) (
    meets_part c.prefix_handle-in-DataMember.ensures (meets_text c.text-in-DataMember.ensures
    (meets_part (c.data_member_prefix.ensures (scope_of c.args.scope)) meets_done)))
