use Rattle.demangle_cell_trees.proofs.AtOnce.{is_constant}
use Rattle.demangle_cell_trees.proofs.known.is_of_no_qualifiers.Goals as goal

pub returns : goal.returns
returns c = is_constant c.args.arena.now c.args.id c.qualifiers_id.result c.qualifiers_id.ensures
