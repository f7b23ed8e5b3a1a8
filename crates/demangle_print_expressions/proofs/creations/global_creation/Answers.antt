use Rattle.demangle_meets.proofs.Acts.{meets_text}
use Rattle.demangle_print_expressions.proofs.creations.global_creation.Goals as goal

pub returns : goal.returns
returns g c = meets_text c.text.ensures c.creation.ensures
