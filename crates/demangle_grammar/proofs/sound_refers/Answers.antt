use Rattle.demangle_grammar.proofs.sound_refers.Goals as goal

pub returns : goal.returns
returns c = λ input table tree s. (s.entries.refer_back, s.refers)
