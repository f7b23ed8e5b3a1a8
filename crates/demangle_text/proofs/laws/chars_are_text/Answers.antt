use Rattle.demangle_text.proofs.Identifiers.{chars_are_text}
use Rattle.demangle_text.proofs.laws.chars_are_text.Goals as goal

pub returns : goal.returns
returns c = chars_are_text
