use Rattle.demangle_grammar.proofs.SoundFor.{finds_sound}
use Rattle.demangle_grammar.proofs.finds_sound.Goals as goal

pub returns : goal.returns
returns c = finds_sound
