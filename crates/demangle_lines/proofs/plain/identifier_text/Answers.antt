use Rattle.demangle_lines.proofs.Identifiers.{anonymous_identifier, plain_identifier}
use Rattle.demangle_lines.proofs.plain.identifier_text.Goals as goal

pub returns-then-is_anonymous : goal.returns-then-is_anonymous
returns-then-is_anonymous g c = λ p i j sc e.
    anonymous_identifier p i j sc c.is_anonymous.ensures e c.if-is_anonymous.true c.text.ensures

pub returns-else-is_anonymous : goal.returns-else-is_anonymous
returns-else-is_anonymous g c = λ p i j sc e.
    plain_identifier p i j sc c.is_anonymous.ensures e c.if-is_anonymous.false (c.write_name.ensures p)
