use Rattle.std.proofs.Common.{true, false, sym, ◌∙◌}
use Rattle.demangle_meets.proofs.Acts.{meets_done, meets_text}
use Rattle.demangle_meets.proofs.Lines.{meets_joined}
use Rattle.demangle_lines_inner.proofs.references.joined.Goals as goal

pub returns-then-not-is_lvalue_top : goal.returns-then-not-is_lvalue_top
returns-then-not-is_lvalue_top g c = λ k. record {
  rest = λ b q. meets_joined false c.take_rvalues.ensures
      (λ _. sym c.is_lvalue_top.ensures ∙ c.if-not-is_lvalue_top.true) (meets_text c.text.ensures meets_done) q;
}

pub returns-else-not-is_lvalue_top : goal.returns-else-not-is_lvalue_top
returns-else-not-is_lvalue_top g c = λ k. record {
  rest = λ b q. meets_joined true c.take_rvalues.ensures
      (λ _. sym c.is_lvalue_top.ensures ∙ c.if-not-is_lvalue_top.false) meets_done q;
}
