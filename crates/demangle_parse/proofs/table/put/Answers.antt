use Rattle.demangle_cells.specs.View.{view, which_of}
use Rattle.demangle_parse.proofs.Adding.{adds_one}
use Rattle.demangle_parse.proofs.table.put.Goals as goal

pub returns : goal.returns
returns c =
    adds_one (view c.args.arena.now) (view c.substitutable_to.new.arena) (view c.add.new.self) (which_of c.args.numbered)
    c.in_ok-id.id _ c.substitutable_to.ensures.grown c.substitutable_to.ensures.table c.in_ok-id.ensures.made
    c.add.ensures.grown c.in_ok-add.ensures.added
