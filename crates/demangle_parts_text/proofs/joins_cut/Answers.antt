use Rattle.demangle_parts_text.proofs.CutLaws.{cut-joins}
use Rattle.demangle_parts_text.proofs.joins_cut.Goals as goal

pub returns : goal.returns
returns c = cut-joins
