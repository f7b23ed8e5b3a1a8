use Rattle.std.proofs.Common.{refl}
use Rattle.demangle_meets.proofs.Parts.{prints_deep, prints_node}
use Rattle.demangle_print_unqualified.proofs.unnamed.unnamed_type_name.Goals as goal

pub returns-in_default : goal.returns-in_default
returns-in_default g c = λ sc. prints_deep refl c.in_default.ensures

pub returns : goal.returns
returns g c = λ sc. prints_node refl c.in-Some.ensures.0 (c.unnamed_type_steps.ensures
    (g.B.Below.at c.in-Some._below) sc)
