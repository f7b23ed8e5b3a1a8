use Rattle.demangle_meets.proofs.Acts.{meets_done}
use Rattle.demangle_meets.proofs.Parts.{meets_part}
use Rattle.demangle_print_types.proofs.types.template_template.Goals as goal

pub returns : goal.returns
returns g c =
    meets_part c.template_template_param_handle.ensures (meets_part c.template_args.ensures meets_done)
