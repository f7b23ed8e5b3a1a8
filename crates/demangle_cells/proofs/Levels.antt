-- What was read with some levels is read alike with more.
use Rattle.std.proofs.Common.{◌≡◌, sym, ap, ◌∙◌, ℕ, ◌≤◌, Bool, [], arith}
use Rattle.demangle_text.specs.Kind.{Kind, Deep}
use Rattle.demangle_core.specs.Core.{Core}
use Rattle.demangle_grammar.specs.Rule.{Row}
use Rattle.demangle_grammar.specs.Code.{Here, Reply, Found, Refused, cread}
use Rattle.demangle_outline.proofs.Levels.{more_levels}

kind_in : Kind → Reply → Kind
kind_in k (Refused j) = j
kind_in k _ = k

pub refused_kind : {k j : Kind} → Refused k ≡ Refused j → k ≡ j
unfolding kind_in
refused_kind {k = k} e = ap (kind_in k) e

pub found_with_more : (l m : ℕ) (r : Row) (c : Bool) (h g : Here) (x : Core) → l ≤ m → cread l r c h [] ≡ Found x g
    → cread m r c h [] ≡ Found x g
found_with_more l m r c h g x k e = more_levels l m r c h k (λ d. no (sym e ∙ d)) ∙ e
  where
    no : Found x g ≡ Refused Deep → ⊥
    no d = grind (arith, d)
