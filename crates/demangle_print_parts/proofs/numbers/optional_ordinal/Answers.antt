use Rattle.demangle_print_parts.proofs.numbers.optional_ordinal.Goals as goal

pub returns-in-Some : goal.returns-in-Some
returns-in-Some g c = λ r. rw c.in-Some.is c.ordinal.ensures

pub returns-in-None : goal.returns-in-None
returns-in-None g c = λ r. rw c.in-None.is (rw c.unsigned.ensures at c.text.ensures)
