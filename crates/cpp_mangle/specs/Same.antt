-- The equality of paths and of plain types as a test decides that they are the same.
use Rattle.std.specs.Prelude.{◌==◌, bytes_eq}
use Rattle.std.specs.Cmp.{IsEquivalence}
use Rattle.std.proofs.Common.{◌≡◌, refl, ap, subst, arith, ℕ, Bool, true, false, List, [], ◌∷◌}
use Rattle.std.proofs.lemmas.Bool.{eqb-true}
use Rattle.demangle_grammar.proofs.Truth.{both_true}
use Rattle.cpp_mangle.specs.Declarations.{PlainType, Path, Modifier, builtin, class, of, pointer, lvalue, rvalue, const}
use Rattle.cpp_mangle.specs.Declarations.{modifier_code, same_parts, same_type}

equal : (k : ℕ) → (k == k) ≡ true
equal k = grind arith

pub bytes_are : (a b : List ℕ) → bytes_eq a b ≡ true → a ≡ b
bytes_are [] [] h = refl
bytes_are [] (y ∷ b) h = absurd (cc)
bytes_are (x ∷ a) [] h = absurd (cc)
bytes_are (x ∷ a) (y ∷ b) h =
    let g = both_true (x == y) (bytes_eq a b) h in
    λ i. eqb-true x y g.0 i ∷ bytes_are a b g.1 i

pub bytes_same : (a : List ℕ) → bytes_eq a a ≡ true
bytes_same [] = refl
bytes_same (x ∷ a) = rw (equal x, bytes_same a) refl

pub parts_are : (a b : Path) → same_parts a b ≡ true → a ≡ b
parts_are [] [] h = refl
parts_are [] (q ∷ b) h = absurd (cc)
parts_are (p ∷ a) [] h = absurd (cc)
parts_are (p ∷ a) (q ∷ b) h =
    let g = both_true (bytes_eq p q) (same_parts a b) h in
    λ i. bytes_are p q g.0 i ∷ parts_are a b g.1 i

pub parts_same : (a : Path) → same_parts a a ≡ true
parts_same [] = refl
parts_same (p ∷ a) = rw (bytes_same p, parts_same a) refl

modifiers_are : (m n : Modifier) → (modifier_code m == modifier_code n) ≡ true → m ≡ n
modifiers_are pointer pointer h = refl
modifiers_are lvalue lvalue h = refl
modifiers_are rvalue rvalue h = refl
modifiers_are const const h = refl
modifiers_are _ _ h = absurd (cc)

modifiers_same : (m : Modifier) → (modifier_code m == modifier_code m) ≡ true
modifiers_same pointer = refl
modifiers_same lvalue = refl
modifiers_same rvalue = refl
modifiers_same const = refl

pub types_are : (x y : PlainType) → same_type x y ≡ true → x ≡ y
types_are (builtin j) (builtin k) h = ap builtin (eqb-true j k h)
types_are (class a) (class b) h = ap class (parts_are a b h)
types_are (of m t) (of n u) h =
    let g = both_true (modifier_code m == modifier_code n) (same_type t u) h in
    λ i. of (modifiers_are m n g.0 i) (types_are t u g.1 i)
types_are _ _ h = absurd (cc)

pub types_same : (x : PlainType) → same_type x x ≡ true
types_same (builtin k) = equal k
types_same (class a) = parts_same a
types_same (of m t) = rw (modifiers_same m, types_same t) refl

-- ---- a test that decides is an equivalence
module _ {A : Type 0} (test : A → A → Bool) (are : (x y : A) → test x y ≡ true → x ≡ y)
    (same : (x : A) → test x x ≡ true) where
  symmetric : (x y : A) → test x y ≡ test y x
  symmetric x y = by (test x y) refl (test y x) refl
    where
      by : (b : Bool) → test x y ≡ b → (c : Bool) → test y x ≡ c → b ≡ c
      by true e true f = refl
      by true e false f = absurd (let g : test y x ≡ true = subst (λ z. test z x ≡ true) (are x y e) (same x) in cc)
      by false e true f = absurd (let g : test x y ≡ true = subst (λ z. test z y ≡ true) (are y x f) (same y) in cc)
      by false e false f = refl

  pub deciding : IsEquivalence test
  deciding = record { refl = same; symm = symmetric; congr = λ x y z h. ap (λ w. test w z) (are x y h) }

pub parts_equiv : IsEquivalence same_parts
parts_equiv = deciding same_parts parts_are parts_same

pub type_equiv : IsEquivalence same_type
type_equiv = deciding same_type types_are types_same
