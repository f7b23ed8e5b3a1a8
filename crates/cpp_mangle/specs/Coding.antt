-- Plain types and declarations as lists and numbers, by which proofs tell them apart.
use Rattle.std.specs.Prelude.{◌≡◌, ℕ, ◌⊎◌, List, [], ◌∷◌, refl}
use Rattle.std.specs.Coded.{Coded, code_by, coded×, coded⊎, coded_ℕ, coded_list}
use Rattle.std.proofs.Common.{ap, inl, inr, ◌∙◌, zero, suc}
use Rattle.cpp_mangle.specs.Declarations.{Modifier, pointer, lvalue, rvalue, const, modifier_code}
use Rattle.cpp_mangle.specs.Declarations.{PlainType, builtin, class, of, PlainDecl, Path}

-- the modifiers from the outside, and what they stand on
abbrev pub Spread : Type 0
Spread = List ℕ × (ℕ ⊎ Path)

abbrev pub spread : PlainType → Spread
spread (builtin k) = ([], inl k)
spread (class p) = ([], inr p)
spread (of m t) = (modifier_code m ∷ (spread t).0, (spread t).1)

abbrev pub modifier_at : ℕ → Modifier
modifier_at zero = pointer
modifier_at (suc zero) = lvalue
modifier_at (suc (suc zero)) = rvalue
modifier_at _ = const

abbrev pub bare : ℕ ⊎ Path → PlainType
bare (inl k) = builtin k
bare (inr p) = class p

abbrev pub gathered : List ℕ → ℕ ⊎ Path → PlainType
gathered [] x = bare x
gathered (m ∷ ms) x = of (modifier_at m) (gathered ms x)

pub at_code : (m : Modifier) → modifier_at (modifier_code m) ≡ m
at_code pointer = refl
at_code lvalue = refl
at_code rvalue = refl
at_code const = refl

pub gathered-spread : (t : PlainType) → gathered (spread t).0 (spread t).1 ≡ t
gathered-spread (builtin k) = refl
gathered-spread (class p) = refl
gathered-spread (of m t) =
    ap (λ n. of n (gathered (spread t).0 (spread t).1)) (at_code m) ∙ ap (of m) (gathered-spread t)

abbrev pub path_code : Coded Path
path_code = coded_list (coded_list coded_ℕ)

abbrev pub type_code : Coded PlainType
type_code =
    code_by Spread (coded× (coded_list coded_ℕ) (coded⊎ coded_ℕ path_code)) spread (λ x. gathered x.0 x.1)
    gathered-spread

abbrev pub decl_code : Coded PlainDecl
decl_code =
    code_by (Path × List PlainType) (coded× path_code (coded_list type_code)) (λ d. (d.path, d.params))
    (λ x. record { path = x.0; params = x.1 }) (λ _. refl)
