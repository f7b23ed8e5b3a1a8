use Rattle.demangle_parts_text.proofs.ItemLaws.{keeps}
use Rattle.demangle_parts_text.proofs.keeps_text.Goals as goal

pub returns : goal.returns
returns c = keeps
