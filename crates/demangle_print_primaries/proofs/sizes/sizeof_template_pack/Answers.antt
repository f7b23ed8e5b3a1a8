use Rattle.demangle_printing.specs.Print.{body}
use Rattle.demangle_printing.specs.Lines.{line_steps}
use Rattle.demangle_meets.proofs.Acts.{meets_done, meets_text}
use Rattle.demangle_meets.proofs.Parts.{meets_part}
use Rattle.demangle_print_primaries.proofs.sizes.sizeof_template_pack.Goals as goal

pub returns : goal.returns
unfolding body line_steps
returns g c =
    record {
      meets = meets_text c.text.ensures (meets_part c.template_param.ensures (meets_text c.text-2.ensures
          meets_done));
    }
