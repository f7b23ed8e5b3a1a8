use Rattle.demangle_meets.proofs.Acts.{meets_space, meets_text}
use Rattle.demangle_meets.proofs.Lines.{meets_rest}
use Rattle.demangle_print_inner.proofs.arrays.others_in_parentheses.Goals as goal

pub returns : goal.returns
returns g c =
    meets_space c.space.ensures (meets_rest (c.take_top.ensures _)
    (meets_space c.space-2.ensures (meets_text c.text.ensures c.others_before_bounds.ensures)))
