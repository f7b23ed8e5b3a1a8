use Rattle.demangle_printing.specs.Lines.{line_steps}
use Rattle.demangle_meets.proofs.Acts.{meets_block, meets_done, meets_text}
use Rattle.demangle_lines_names.proofs.lines.ctor_dtor_name_deleting_destructor.Goals as goal

pub returns : goal.returns
unfolding line_steps
returns g c = record {
  meets = meets_block c.need_leaf.ensures (meets_text c.text.ensures (meets_block c.leaf.ensures
      meets_done));
}
