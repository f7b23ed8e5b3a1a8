use Rattle.std.proofs.Common.{refl}
use Rattle.demangle_printing.specs.Print.{body}
use Rattle.demangle_printing.specs.Lines.{inside_steps}
use Rattle.demangle_meets.proofs.Acts.{meets_ask, meets_block, meets_done}
use Rattle.demangle_print_inner.proofs.inside.function_type_inside.Goals as goal

pub returns : goal.returns
unfolding body inside_steps
returns g c = λ sc. record {
  meets = meets_block (meets_ask (λ _. refl) (c.qualifiers_if.ensures sc) meets_done)
      (meets_block (meets_ask (λ _. refl) (c.reference_mark.ensures sc) meets_done) meets_done);
}
