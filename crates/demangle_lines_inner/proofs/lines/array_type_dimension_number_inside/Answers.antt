use Rattle.std.proofs.Common.{refl}
use Rattle.demangle_printing.specs.Lines.{inside_steps}
use Rattle.demangle_meets.proofs.Acts.{meets_ask, meets_block, meets_done, meets_text}
use Rattle.demangle_lines_inner.proofs.lines.array_type_dimension_number_inside.Goals as goal

pub returns : goal.returns
unfolding inside_steps
returns g c = record {
  meets = meets_ask (λ _. refl) c.before_bounds.ensures (meets_text c.text.ensures (meets_block
      c.spelled.ensures (meets_text c.text-2.ensures meets_done)));
}
