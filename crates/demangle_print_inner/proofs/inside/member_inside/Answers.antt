use Rattle.std.proofs.Common.{refl}
use Rattle.demangle_printing.specs.Print.{body}
use Rattle.demangle_printing.specs.Lines.{inside_steps}
use Rattle.demangle_meets.proofs.Acts.{meets_ask, meets_done, meets_text}
use Rattle.demangle_meets.proofs.Parts.{meets_part}
use Rattle.demangle_print_inner.proofs.inside.member_inside.Goals as goal

pub returns : goal.returns
unfolding body inside_steps
returns g c = record {
  meets = meets_ask (λ _. refl) (c.space_unless_open.ensures _)
      (meets_part c.type_handle.ensures (meets_text c.text.ensures meets_done));
}
