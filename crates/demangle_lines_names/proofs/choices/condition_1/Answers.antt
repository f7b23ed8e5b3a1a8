use Rattle.demangle_lines.proofs.Doing.{always, both_off, both_on}
use Rattle.demangle_lines_names.proofs.choices.condition_1.Goals as goal

pub returns-then-is_qualified : goal.returns-then-is_qualified
returns-then-is_qualified g c = both_on (always c.is_qualified.ensures) c.if-is_qualified.true (record {
  is = λ l.
      c.is_on.ensures;
})

pub returns-else-is_qualified : goal.returns-else-is_qualified
returns-else-is_qualified g c = both_off (always c.is_qualified.ensures) c.if-is_qualified.false
