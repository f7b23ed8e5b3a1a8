use Rattle.std.proofs.Common.{sym, refl}
use Rattle.demangle_meets.proofs.Acts.{meets_ask, meets_done, meets_text}
use Rattle.demangle_meets.proofs.Lines.{meets_rest}
use Rattle.demangle_meets.proofs.Parts.{meets_at}
use Rattle.demangle_scope.specs.ScopeOf.{scope_of}
use Rattle.demangle_print_inner.proofs.Behind.{array_is_behind}
use Rattle.demangle_print_inner.proofs.arrays.array_inside.Goals as goal

pub returns : goal.returns
returns g c = record {
  meets = meets_at (λ f. f) (sym (array_is_behind (g.B.Below.at c.args.below).refers
      (scope_of c.args.scope) c.args.node.now))
      (meets_ask (λ _. refl) c.before_bounds.ensures (meets_text c.text.ensures
      (meets_rest (c.bound.ensures _) (meets_text c.text-2.ensures meets_done))));
}
