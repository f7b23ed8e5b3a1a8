-- Parts of a resource's name.
use Rattle.std.proofs.Common.{cond, ◌≡◌, ℕ, suc, ◌+◌, nat_le, ◌==◌, ◌&&◌, ◌||◌, Bool, true, false, List, [], ◌∷◌}
use Rattle.std.proofs.Common.{length, codes, refl, ap, sym, arith, Result, Ok, Err}
use Rattle.demangle_core.specs.Core.{Core, Tag, node, place, end}
use Rattle.demangle_core.specs.Table.{Table}
use Rattle.demangle_text.specs.Kind.{Kind}
use Rattle.demangle_text.specs.Found.{and_rest}
use Rattle.demangle_text.specs.Spot.{Spot, skip}
use Rattle.demangle_text.specs.Word.{starts, word_at}
use Rattle.demangle_grammar.specs.Rule.{Row, Class, Eat}
use Rattle.demangle_grammar.specs.Rows.{rule}
use Rattle.demangle_grammar.specs.Reading.{find, next_is}
use Rattle.demangle_grammar.specs.Code.{here, Found, eat_at, cread}

ok_of : {X E : Type 0} → X → Result X E → X
ok_of d (Ok x) = x
ok_of d (Err e) = d

-- ---- words of one byte
word_index : (w : List ℕ) (p q : Spot) → word_at w p ≡ Ok q → q.index ≡ p.index + length w
unfolding word_at ok_of
word_index w p q = by (starts w p.left) _
  where
    by : (z : Bool) (c : Kind) → cond z (Ok (skip (length w) p)) (Err c) ≡ Ok q → q.index ≡ p.index + length w
    by true c e = sym (ap (λ s. s.index) (ap (ok_of q) e))
    by false c e = absurd (cc)

dollar_missing : (p : Spot) (k : Kind) → word_at (codes "$") p ≡ Err k
    → next_is (Class.these (codes "$")) p.left ≡ false
unfolding word_at
dollar_missing p k = by p.left _
  where
    by : (bs : List ℕ) (c : Kind) → cond (starts (codes "$") bs) (Ok (skip 1 p)) (Err c) ≡ Err k
        → next_is (Class.these (codes "$")) bs ≡ false
    by [] c e = refl
    by (b ∷ bs) c e = byte (36 == b) e
      where
        byte : (z : Bool) → cond (z && true) (Ok (skip 1 p)) (Err c) ≡ Err k → (z || false) ≡ false
        byte true e = absurd (cc)
        byte false e = refl

-- ---- the bytes of the name
any_left : (p q : Spot) (x : Core) → eat_at (Eat.run Class.resource) p ≡ Ok (x, q) → nat_le 1 (length p.left) ≡ true
unfolding eat_at
any_left p q x e = by p.left e
  where
    by : (bs : List ℕ) → and_rest (find (Eat.run Class.resource) p.index bs) p ≡ Ok (x, q) → nat_le 1 (length bs) ≡ true
    by [] e = absurd (cc)
    by (b ∷ bs) e = grind arith

pub resource_plain : (levels n : ℕ) (c : Bool) (p q : Spot) (i j : ℕ) (k : Kind) → n ≡ suc levels
    → eat_at (Eat.run Class.resource) p ≡ Ok (place i j end, q) → word_at (codes "$") q ≡ Err k
    → (table : Table)
    → cread n Row.resource_name c (here p table) []
    ≡ Found (node Tag.ResourceName (place i j end) end) (here q table)
unfolding cread rule
resource_plain levels n c p q i j k l e f table =
    rw (l, any_left p q (place i j end) e, e, f, dollar_missing q k f) refl

escape_place : (q r s : Spot) (i : ℕ) (w : List ℕ) → length w ≡ 1 → word_at (codes "$") q ≡ Ok r → word_at w r ≡ Ok s
    → place i (q.index + 2) end ≡ place i s.index end
escape_place q r s i w one e f =
    let a : r.index ≡ q.index + 1 = word_index (codes "$") q r e in
    let b : s.index ≡ r.index + length w = word_index w r s f in
    let l : q.index + 2 ≡ s.index = omega arith in
    ap (λ j. place i j end) l

pub resource_slash : (levels n : ℕ) (c : Bool) (p q r s : Spot) (i : ℕ) → n ≡ suc levels
    → eat_at (Eat.run Class.resource) p ≡ Ok (place i q.index end, q) → word_at (codes "$") q ≡ Ok r
    → word_at (codes "S") r ≡ Ok s
    → (table : Table)
    → cread n Row.resource_name c (here p table) []
    ≡ Found (node Tag.ResourceName (place i s.index end) end) (here s table)
unfolding cread rule
resource_slash levels n c p q r s i l e f g table =
    rw (l, any_left p q (place i q.index end) e, e, f, g, escape_place q r s i (codes "S") refl f g) refl

pub resource_dot : (levels n : ℕ) (c : Bool) (p q r s : Spot) (i : ℕ) (k : Kind) → n ≡ suc levels
    → eat_at (Eat.run Class.resource) p ≡ Ok (place i q.index end, q) → word_at (codes "$") q ≡ Ok r
    → word_at (codes "S") r ≡ Err k → word_at (codes "_") r ≡ Ok s
    → (table : Table)
    → cread n Row.resource_name c (here p table) []
    ≡ Found (node Tag.ResourceName (place i s.index end) end) (here s table)
unfolding cread rule
resource_dot levels n c p q r s i k l e f g h table =
    rw (l, any_left p q (place i q.index end) e, e, f, g, h, escape_place q r s i (codes "_") refl f h) refl

pub resource_dollar : (levels n : ℕ) (c : Bool) (p q r s : Spot) (i : ℕ) (k m : Kind) → n ≡ suc levels
    → eat_at (Eat.run Class.resource) p ≡ Ok (place i q.index end, q) → word_at (codes "$") q ≡ Ok r
    → word_at (codes "S") r ≡ Err k → word_at (codes "_") r ≡ Err m → word_at (codes "$") r ≡ Ok s
    → (table : Table)
    → cread n Row.resource_name c (here p table) []
    ≡ Found (node Tag.ResourceName (place i s.index end) end) (here s table)
unfolding cread rule
resource_dollar levels n c p q r s i k m l e f g h o table =
    rw (l, any_left p q (place i q.index end) e, e, f, g, h, o, escape_place q r s i (codes "$") refl f o) refl
