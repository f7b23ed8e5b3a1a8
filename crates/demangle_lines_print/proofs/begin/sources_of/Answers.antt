use Rattle.std.proofs.Common.{refl, ap, ◌∙◌, ◌-◌}
use Rattle.demangle_context.specs.PageOf.{page}
use Rattle.demangle_lines_print.proofs.begin.sources_of.Goals as goal

pub returns-clause-refers : goal.returns-clause-refers
unfolding page
returns-clause-refers g c = rw (c.subs.ensures, c.input.ensures) refl

pub returns-clause-deepest : goal.returns-clause-deepest
unfolding page
returns-clause-deepest g c = c.saturating_sub.ensures ∙ ap (λ n. n - 1) c.recursion_limit.ensures
