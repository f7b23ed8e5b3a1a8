use Rattle.demangle_lines.proofs.bytes.character.Goals as goal

pub returns : goal.returns
returns g c = rw c.encode_utf8.ensures.value at c.text.ensures
