-- What is one of some kinds, and none of the first of them, is one of the others.
use Rattle.std.proofs.Common.{◌≡◌, sym, ◌∙◌, ap, true, ◌||◌, List, [], ◌∷◌, ◌++◌}
use Rattle.demangle_core.specs.Core.{Tag, code}
use Rattle.demangle_nodes.specs.declared.nodes.Expression.{Expression}
use Rattle.demangle_nodes.proofs.Other.{NotExpression, other_expression}
use Rattle.demangle_print_shapes.specs.Kinds.{is_one_of}

-- it is of none of these kinds
abbrev pub IsNone : List Tag → Expression → Type 0
IsNone [] x = Unit
IsNone (t ∷ ts) x = NotExpression (code t) x × IsNone ts x

-- the same, told kind by kind
infixr 30 ◌also◌
pub ◌also◌ : {A B : Type 0} → A → B → A × B
◌also◌ a b = (a, b)

pub rest_of : (ts us : List Tag) (x : Expression) → is_one_of (ts ++ us) x ≡ true → IsNone ts x
    → is_one_of us x ≡ true
rest_of [] us x h n = h
rest_of (t ∷ ts) us x h n =
    rest_of ts us x (ap (λ b. b || is_one_of (ts ++ us) x) (sym (other_expression (code t) x n.0)) ∙ h) n.1
