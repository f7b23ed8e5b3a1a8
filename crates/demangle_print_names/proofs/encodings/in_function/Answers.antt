use Rattle.demangle_meets.proofs.Acts.{meets_block, meets_done}
use Rattle.demangle_print_names.proofs.encodings.in_function.Goals as goal

pub returns : goal.returns
returns g c =
    meets_block c.function_result.ensures (meets_block c.name_and_parameters.ensures meets_done)
