use Rattle.demangle_printing.specs.Lines.{line_steps}
use Rattle.demangle_meets.proofs.Acts.{meets_block, meets_done}
use Rattle.demangle_meets.proofs.Lines.{meets_rest}
use Rattle.demangle_lines_names.proofs.lines.ctor_dtor_name_complete_constructor.Goals as goal

pub returns : goal.returns
unfolding line_steps
returns g c = record { meets = meets_block c.need_leaf.ensures (meets_rest (c.choice_15.ensures.rest _) meets_done) }
