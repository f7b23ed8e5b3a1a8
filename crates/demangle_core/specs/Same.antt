-- Equality of trees is an equivalence.
use Rattle.std.specs.Prelude.{◌≡◌, refl, Bool, true, false, ◌&&◌, ◌==◌}
use Rattle.std.specs.Cmp.{IsEquivalence, nat_eq_equiv, int_eq_equiv, first_so, second_so}
use Rattle.std.specs.Ordering.{int_eq}
use Rattle.std.proofs.Common.{subst}
use Rattle.std.specs.Cmp.Lexicographic.{pointwise}
use Rattle.std.proofs.lemmas.Cmp.{lists_equiv}
use Rattle.demangle_core.specs.Table.{listed, same_tables}
use Rattle.demangle_core.specs.Core.{Core, Which, N, U, code, end, node, place, number, flag, chosen, ref, mark, same}
use Rattle.demangle_core.specs.Core.{same_which, same_flag, alike}

abbrev IsSo : Bool → Type 0
IsSo true = ⊥
IsSo false = Unit {0}

not_so : {A : Type 0} → false ≡ true → A
not_so h = absurd (subst IsSo h tt)

-- ---- an equivalence
flag_itself : (a : Bool) → same_flag a a ≡ true
flag_itself true = refl
flag_itself false = refl

flag_back : (a b : Bool) → same_flag a b ≡ same_flag b a
flag_back true true = refl
flag_back true false = refl
flag_back false true = refl
flag_back false false = refl

flag_alike : (a b c : Bool) → same_flag a b ≡ true → same_flag a c ≡ same_flag b c
flag_alike true true c h = refl
flag_alike true false c h = not_so h
flag_alike false true c h = not_so h
flag_alike false false c h = refl

which_itself : (a : Which) → same_which a a ≡ true
which_itself N = refl
which_itself U = refl

which_back : (a b : Which) → same_which a b ≡ same_which b a
which_back N N = refl
which_back N U = refl
which_back U N = refl
which_back U U = refl

which_alike : (a b c : Which) → same_which a b ≡ true → same_which a c ≡ same_which b c
which_alike N N c h = refl
which_alike N U c h = not_so h
which_alike U N c h = not_so h
which_alike U U c h = refl

itself : (x : Core) → same x x ≡ true
itself end = refl
itself (node t x n) = λ i. (nat_eq_equiv.refl (code t) i && itself x i) && itself n i
itself (place a b n) = λ i. (nat_eq_equiv.refl a i && nat_eq_equiv.refl b i) && itself n i
itself (number v n) = λ i. int_eq_equiv.refl v i && itself n i
itself (flag v n) = λ i. flag_itself v i && itself n i
itself (chosen t k n) = λ i. (nat_eq_equiv.refl t i && nat_eq_equiv.refl k i) && itself n i
itself (ref w k n) = λ i. (which_itself w i && nat_eq_equiv.refl k i) && itself n i
itself (mark k n) = itself n

back : (x y : Core) → same x y ≡ same y x
back end end = refl
back (node t x n) (node u y m) = λ i. (nat_eq_equiv.symm (code t) (code u) i && back x y i) && back n m i
back (place a b n) (place c d m) = λ i. (nat_eq_equiv.symm a c i && nat_eq_equiv.symm b d i) && back n m i
back (number v n) (number w m) = λ i. int_eq_equiv.symm v w i && back n m i
back (flag v n) (flag w m) = λ i. flag_back v w i && back n m i
back (chosen t k n) (chosen u j m) = λ i. (nat_eq_equiv.symm t u i && nat_eq_equiv.symm k j i) && back n m i
back (ref w k n) (ref v j m) = λ i. (which_back w v i && nat_eq_equiv.symm k j i) && back n m i
back (mark k n) (mark j m) = back n m
back _ _ = refl

also : (x y z : Core) → same x y ≡ true → same x z ≡ same y z
also end end z h = refl
also (node t x n) (node u y m) (node v z k) h =
    let front = first_so (alike t u (same x y)) (same n m) h in
    let tags = first_so (code t == code u) (same x y) front in
    let parts = second_so (code t == code u) (same x y) front in
    let rest = second_so (alike t u (same x y)) (same n m) h in
    λ i. (nat_eq_equiv.congr (code t) (code u) (code v) tags i && also x y z parts i) && also n m k rest i
also (node t x n) (node u y m) _ h = refl
also (place a b n) (place c d m) (place e f k) h =
    let front = first_so (a == c && b == d) (same n m) h in
    let starts = first_so (a == c) (b == d) front in
    let stops = second_so (a == c) (b == d) front in
    let rest = second_so (a == c && b == d) (same n m) h in
    λ i. (nat_eq_equiv.congr a c e starts i && nat_eq_equiv.congr b d f stops i) && also n m k rest i
also (place a b n) (place c d m) _ h = refl
also (number v n) (number w m) (number u k) h =
    let front = first_so (int_eq v w) (same n m) h in
    let rest = second_so (int_eq v w) (same n m) h in
    λ i. int_eq_equiv.congr v w u front i && also n m k rest i
also (number v n) (number w m) _ h = refl
also (flag v n) (flag w m) (flag u k) h =
    let front = first_so (same_flag v w) (same n m) h in
    let rest = second_so (same_flag v w) (same n m) h in
    λ i. flag_alike v w u front i && also n m k rest i
also (flag v n) (flag w m) _ h = refl
also (chosen a b n) (chosen c d m) (chosen e f k) h =
    let front = first_so (a == c && b == d) (same n m) h in
    let tables = first_so (a == c) (b == d) front in
    let words = second_so (a == c) (b == d) front in
    let rest = second_so (a == c && b == d) (same n m) h in
    λ i. (nat_eq_equiv.congr a c e tables i && nat_eq_equiv.congr b d f words i) && also n m k rest i
also (chosen a b n) (chosen c d m) _ h = refl
also (ref a b n) (ref c d m) (ref e f k) h =
    let front = first_so (same_which a c && b == d) (same n m) h in
    let lists = first_so (same_which a c) (b == d) front in
    let positions = second_so (same_which a c) (b == d) front in
    let rest = second_so (same_which a c && b == d) (same n m) h in
    λ i. (which_alike a c e lists i && nat_eq_equiv.congr b d f positions i) && also n m k rest i
also (ref a b n) (ref c d m) _ h = refl
also (mark a n) (mark b m) (mark c k) h = also n m k h
also (mark a n) (mark b m) _ h = refl
also _ _ _ h = not_so h

pub same_equiv : IsEquivalence same
same_equiv = record { refl = itself; symm = back; congr = also }

rows_equiv : IsEquivalence (pointwise same)
rows_equiv = lists_equiv same_equiv

pub same_tables_equiv : IsEquivalence same_tables
unfolding same_tables
same_tables_equiv = record {
  refl = λ t. λ i. rows_equiv.refl (listed N t) i && rows_equiv.refl (listed U t) i;
  symm = λ t u. λ i. rows_equiv.symm (listed N t) (listed N u) i && rows_equiv.symm (listed U t) (listed U u) i;
  congr = λ t u v h.
      let numbered = first_so (pointwise same (listed N t) (listed N u)) (pointwise same (listed U t) (listed U u)) h in
      let others = second_so (pointwise same (listed N t) (listed N u)) (pointwise same (listed U t) (listed U u)) h in
      λ i. rows_equiv.congr (listed N t) (listed N u) (listed N v) numbered i && rows_equiv.congr (listed U t)
      (listed U u) (listed U v) others i;
}
