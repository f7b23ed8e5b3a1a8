use Rattle.std.proofs.Common.{◌≡◌, subst, sym}
use Rattle.demangle_grammar.specs.Sound.{bytes_of}
use Rattle.demangle_meets.specs.Place.{Refers}
use Rattle.demangle_meets.proofs.Parts.{meets_deep, meets_line}
use Rattle.demangle_lines.proofs.plain.identifier_line.Goals as goal

pub returns-in_default : goal.returns-in_default
returns-in_default g c = λ i j sc e. meets_deep c.in_default.ensures

pub returns : goal.returns
returns g c = λ i j sc e.
    meets_line c.in-Some.ensures.0 (c.identifier_text.ensures _ i j sc
    (subst (λ (r : Refers). c.args.bytes.now ≡ bytes_of r.input i j) (sym c.in-Some.ensures.0.deeper.refers) e))
