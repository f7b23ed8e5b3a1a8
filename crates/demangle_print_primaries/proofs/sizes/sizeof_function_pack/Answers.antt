use Rattle.demangle_printing.specs.Print.{body}
use Rattle.demangle_printing.specs.Lines.{line_steps}
use Rattle.demangle_meets.proofs.Acts.{meets_done, meets_text}
use Rattle.demangle_meets.proofs.Parts.{meets_part}
use Rattle.demangle_print_primaries.proofs.sizes.sizeof_function_pack.Goals as goal

pub returns : goal.returns
unfolding body line_steps
returns g c =
    λ sc. record {
      meets = meets_text c.text.ensures (meets_part (c.function_param.ensures _) (meets_text
          c.text-2.ensures meets_done));
    }
