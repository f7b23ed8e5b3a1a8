use Rattle.demangle_grammar.proofs.SoundFor.{name_is_sound}
use Rattle.demangle_grammar.proofs.name_is_sound.Goals as goal

pub returns : goal.returns
returns c = name_is_sound
