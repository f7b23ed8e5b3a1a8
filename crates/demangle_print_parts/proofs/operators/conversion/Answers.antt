use Rattle.demangle_meets.proofs.Acts.{meets_block, meets_done, meets_space}
use Rattle.demangle_meets.proofs.Around.{meets_fence}
use Rattle.demangle_print_parts.proofs.operators.conversion.Goals as goal

pub returns : goal.returns
returns g c =
    meets_fence c.fence-items.ensures
    (meets_space c.space.ensures (meets_block (meets_block c.type_in_its_scope.ensures meets_done) meets_done))
    c.unfence.ensures meets_done
