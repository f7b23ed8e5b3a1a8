use Rattle.demangle_print_parts.proofs.numbers.ordinal.Goals as goal

pub returns : goal.returns
returns g c = rw c.unsigned.ensures at c.text.ensures
