use Rattle.std.proofs.Common.{◌∙◌, refl, sym}
use Rattle.demangle_cells.specs.View.{view}
use Rattle.demangle_printing.specs.World.{nth}
use Rattle.demangle_cell_trees.specs.ArenaTrees.{tree_at}
use Rattle.demangle_cell_trees.specs.Own.{row_of}
use Rattle.demangle_cell_trees.specs.declared.roles.Role.TheVariants as of_role
use Rattle.demangle_cell_trees.proofs.Ways.{answer_turns, node_choice, node_itself, node_nothing, node_part}
use Rattle.demangle_cell_trees.proofs.Ways.{node_smaller, none_turns, own_plain}
use Rattle.demangle_cell_trees.proofs.turns.node_turn.Goals as goal

pub returns-in-Itself : goal.returns-in-Itself
returns-in-Itself c =
    answer_turns c.args.sought c.args.arena.now c.args.id c.ranges.id.fits
    (node_itself c.args.sought c.args.arena.now c.args.id c.args.cell c.args.tag c.requires.cell c.requires.tag
    (sym c.role_in.ensures ∙ c.in-Itself.is))

pub returns-in-First : goal.returns-in-First
returns-in-First c =
    c.into.ensures c.args.sought c.args.arena.now (tree_at c.args.arena.now c.args.id)
    (nth 0 (row_of (view c.args.arena.now).list c.args.cell)) c.index_in.ensures
    (node_part c.args.sought c.args.arena.now c.args.id c.args.cell c.args.tag c.requires.cell c.requires.tag
    of_role.First 0 (sym c.role_in.ensures ∙ c.in-First.is) (λ steps. refl))
    (node_smaller c.args.sought c.args.arena.now c.args.id c.args.cell c.args.tag c.requires.cell c.requires.tag 0)

pub returns-in-Second : goal.returns-in-Second
returns-in-Second c =
    c.into-in-Second.ensures c.args.sought c.args.arena.now (tree_at c.args.arena.now c.args.id)
    (nth 1 (row_of (view c.args.arena.now).list c.args.cell)) c.index_in-in-Second.ensures
    (node_part c.args.sought c.args.arena.now c.args.id c.args.cell c.args.tag c.requires.cell c.requires.tag
    of_role.Second 1 (sym c.role_in.ensures ∙ c.in-Second.is) (λ steps. refl))
    (node_smaller c.args.sought c.args.arena.now c.args.id c.args.cell c.args.tag c.requires.cell c.requires.tag 1)

pub returns-in-Third : goal.returns-in-Third
returns-in-Third c =
    c.into-in-Third.ensures c.args.sought c.args.arena.now (tree_at c.args.arena.now c.args.id)
    (nth 2 (row_of (view c.args.arena.now).list c.args.cell)) c.index_in-in-Third.ensures
    (node_part c.args.sought c.args.arena.now c.args.id c.args.cell c.args.tag c.requires.cell c.requires.tag
    of_role.Third 2 (sym c.role_in.ensures ∙ c.in-Third.is) (λ steps. refl))
    (node_smaller c.args.sought c.args.arena.now c.args.id c.args.cell c.args.tag c.requires.cell c.requires.tag 2)

pub returns-in-SecondElseFirst : goal.returns-in-SecondElseFirst
returns-in-SecondElseFirst c =
    c.either.ensures c.args.sought c.args.arena.now (tree_at c.args.arena.now c.args.id)
    (nth 1 (row_of (view c.args.arena.now).list c.args.cell)) c.index_in-in-SecondElseFirst.ensures
    (own_plain c.args.sought c.args.arena.now c.args.id c.args.cell c.args.tag c.requires.cell c.requires.tag)
    (node_choice c.args.sought c.args.arena.now c.args.id c.args.cell c.args.tag c.requires.cell c.requires.tag
    of_role.SecondElseFirst 1 0 (sym c.role_in.ensures ∙ c.in-SecondElseFirst.is) (λ steps. refl))

pub returns-in-FourthElseThird : goal.returns-in-FourthElseThird
returns-in-FourthElseThird c =
    c.either-in-FourthElseThird.ensures c.args.sought c.args.arena.now (tree_at c.args.arena.now c.args.id)
    (nth 3 (row_of (view c.args.arena.now).list c.args.cell)) c.index_in-in-FourthElseThird.ensures
    (own_plain c.args.sought c.args.arena.now c.args.id c.args.cell c.args.tag c.requires.cell c.requires.tag)
    (node_choice c.args.sought c.args.arena.now c.args.id c.args.cell c.args.tag c.requires.cell c.requires.tag
    of_role.FourthElseThird 3 2 (sym c.role_in.ensures ∙ c.in-FourthElseThird.is) (λ steps. refl))

pub returns-in-Nothing : goal.returns-in-Nothing
returns-in-Nothing c =
    none_turns c.args.sought c.args.arena.now (tree_at c.args.arena.now c.args.id)
    (node_nothing c.args.sought c.args.arena.now c.args.id c.args.cell c.args.tag c.requires.cell c.requires.tag
    (sym c.role_in.ensures ∙ c.in-Nothing.is))
