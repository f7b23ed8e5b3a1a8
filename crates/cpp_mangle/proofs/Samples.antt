-- The entities of declarations, by computation: worked examples, and one from outside.
use Rattle.std.specs.Prelude.{◌≡◌, ℕ, List, [], ◌∷◌, codes, map}
use Rattle.std.proofs.Common.{refl}
use Rattle.cpp_mangle.specs.Declarations.{PlainType, builtin, class, of, pointer, lvalue, const, type_text}
use Rattle.cpp_mangle.specs.Declarations.{Path, entities}

abbrev texts : Path → List PlainType → List (List ℕ)
texts path params = map type_text (entities (record { path = path; params = params }))

abbrev a : Path
a = codes "a" ∷ []

abbrev x1 : Path
x1 = codes "x1" ∷ []

none : texts a [] ≡ []
none = refl

-- `a::f(a, a const&, a const&)`
repeated :
    texts (codes "a" ∷ codes "f" ∷ []) (class a ∷ of lvalue (of const (class a)) ∷ of lvalue (of const (class a)) ∷ [])
    ≡ codes "a" ∷ codes "a const" ∷ codes "a const&" ∷ []
repeated = refl

-- `_y::b::x1(x1*, wchar_t, _y::_y const&, x1 const)`
shared :
    texts (codes "_y" ∷ codes "b" ∷ codes "x1" ∷ [])
    (of pointer (class x1) ∷ builtin 1 ∷ of lvalue (of const (class (codes "_y" ∷ codes "_y" ∷ [])))
    ∷ of const (class x1) ∷ [])
    ≡ codes "_y" ∷ codes "_y::b" ∷ codes "x1" ∷ codes "x1*" ∷ codes "_y::_y" ∷ codes "_y::_y const"
    ∷ codes "_y::_y const&" ∷ codes "x1 const" ∷ []
shared = refl
