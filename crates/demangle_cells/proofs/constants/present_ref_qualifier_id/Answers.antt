use Rattle.demangle_cells.proofs.Blocks.{present_is}
use Rattle.demangle_cells.proofs.constants.present_ref_qualifier_id.Goals as goal

pub returns : goal.returns
returns c = λ F v h. present_is F v c.args.word c.requires h
