use Rattle.demangle_grammar.proofs.Readings.{sound}
use Rattle.demangle_grammar.proofs.is_sound.Goals as goal

pub returns : goal.returns
returns c = sound
