use Rattle.demangle_grammar.proofs.SoundFor.{reads_sound}
use Rattle.demangle_grammar.proofs.reads_sound.Goals as goal

pub returns : goal.returns
returns c = reads_sound
