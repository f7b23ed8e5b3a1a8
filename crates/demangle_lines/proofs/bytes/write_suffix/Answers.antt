use Rattle.demangle_lines.proofs.Suffixes.{meets_suffix, meets_no_suffix}
use Rattle.demangle_lines.proofs.bytes.write_suffix.Goals as goal

pub returns-in-Some : goal.returns-in-Some
returns-in-Some g c =
    λ p. meets_suffix _ c.in-Some.ensures.1 (rw c.in-Some.ensures.0 at c.name.ensures) c.text.ensures
    (rw c.in-Some.ensures.0 at c.text-in-Some.ensures)

pub returns-in-None : goal.returns-in-None
returns-in-None g c = λ p. meets_no_suffix _ c.in-None.ensures c.text-in-None.ensures c.fail.ensures
