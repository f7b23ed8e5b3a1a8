-- The name of a Java resource: a number, and over just so many bytes `_` and the parts of the name.
use Rattle.std.proofs.Common.{cond, ◌≡◌, ℕ, zero, suc, ◌+◌, ◌<◌, ◌≤◌, ◌==◌, ◌&&◌, nat_eq, nat_lt, Bool, true, false}
use Rattle.std.proofs.Common.{List, [], ◌∷◌, ◌++◌, length, length-take, take, drop, codes, refl, ap, ◌∙◌, subst, arith, Ok, Err}
use Rattle.std.proofs.lemmas.Bool.Decides.{nat_tests}
use Rattle.demangle_core.specs.Core.{Core, Tag, node, end}
use Rattle.demangle_core.specs.Table.{Table}
use Rattle.demangle_text.specs.Kind.{Kind, ends}
use Rattle.demangle_text.specs.Number.{natural_from}
use Rattle.demangle_text.specs.Spot.{Spot, front, IsSplit}
use Rattle.demangle_text.specs.Word.{starts, word_at}
use Rattle.demangle_grammar.specs.Rule.{Row}
use Rattle.demangle_grammar.specs.Code.{joined, Here, here, Reply, Found, Refused, Out, Yes, No, and_then, and_again}
use Rattle.demangle_grammar.specs.Code.{from_row, unless_ends, one_row, many, all_of, rows_of, rows_at, all_at, cread}
use Rattle.demangle_grammar.proofs.CodeLaws as laws
use Rattle.demangle_forms.specs.SpecialForms.{java_resource_at}
use Rattle.demangle_cells.specs.Reads.{spot_at}
use Rattle.demangle_cells.specs.declared.text.Text as text
use Rattle.demangle_read_rows.proofs.Places.{spot_on}

-- ---- the index goes with the bytes
-- behind a part
abbrev Keeps : Spot → Out → Type 0
Keeps p (Yes m b) = p.index + length p.left ≡ m.spot.index + length m.spot.left
Keeps p (No h k) = Unit {0}

many_keep : (f : ℕ) (c : Bool) (r : Row) (n : ℕ) (p : Spot) (s : Here) (acc : List Core)
    → p.index + length p.left ≡ s.spot.index + length s.spot.left → Keeps p (many (one_row (cread f) c r) n s acc)
unfolding many
many_keep f c r zero p s acc h = h
many_keep f c r (suc n) p s acc h = by (cread f r c s []) refl (λ q b l. many_keep f c r n p q b l)
  where
    ended : (z : Bool) (k : Kind) → Keeps p (unless_ends z k (λ u. Yes s acc))
    ended true k = tt
    ended false k = h

    by : (a : Reply) → cread f r c s [] ≡ a
        → ((q : Here) (b : List Core) → p.index + length p.left ≡ q.spot.index + length q.spot.left
        → Keeps p (many (one_row (cread f) c r) n q b))
        → Keeps p
        (and_again (from_row a (λ m t. Yes m (acc ++ t ∷ []))) (λ q b. many (one_row (cread f) c r) n q b) (Yes s acc))
    by (Found t m) e next = next m (acc ++ t ∷ []) (h ∙ laws.index_kept f r c s m [] t e)
    by (Refused k) e next = ended (ends k) k

several_keep : (p : Spot) (o : Out) → Keeps p o
    → Keeps p (and_then o (λ m b. Yes m (node Tag.Several (joined b) end ∷ [])))
several_keep p (Yes m b) h = h
several_keep p (No h k) l = tt

all_keep : (f : ℕ) (c : Bool) (r : Row) (s : Here) → Keeps s.spot (all_at (cread f) c r s)
unfolding all_at rows_at rows_of all_of
all_keep f c r s =
    several_keep s.spot (many (one_row (cread f) c r) (suc (length s.spot.left)) s [])
    (many_keep f c r (suc (length s.spot.left)) s.spot s [] refl)

names_keep : (f : ℕ) (c : Bool) (p q : Spot) (e : Table) (b : List Core)
    → all_at (cread f) c Row.resource_name (here p e) ≡ Yes (here q e) b
    → p.index + length p.left ≡ q.index + length q.left
names_keep f c p q e b h = subst (Keeps p) h (all_keep f c Row.resource_name (here p e))

-- behind the byte before the parts
mark_keeps : (p q : Spot) → word_at (codes "_") p ≡ Ok q → p.index + length p.left ≡ q.index + length q.left
unfolding word_at
mark_keeps p q = by p.left _
  where
    by : (bs : List ℕ) (c : Kind)
        → cond (starts (codes "_") bs) (Ok (record { index = p.index + 1; left = drop 1 bs })) (Err c) ≡ Ok q
        → p.index + length bs ≡ q.index + length q.left
    by [] c e = absurd (cc)
    by (b ∷ bs) c e = byte (95 == b) e
      where
        byte : (z : Bool) → cond (z && true) (Ok (record { index = p.index + 1; left = bs })) (Err c) ≡ Ok q
            → p.index + length (b ∷ bs) ≡ q.index + length q.left
        byte true e =
            let k : record { index = p.index + 1; left = bs } ≡ q = cc in
            subst (λ s. p.index + length (b ∷ bs) ≡ s.index + length s.left) k (omega arith)
        byte false e = absurd (cc)

-- ---- a number, and behind it so many bytes, which are cut off
pub record IsCut (p first second : Spot) : Type 0 where
  pub size : ℕ
  pub behind : Spot
  pub number : natural_from 10 p ≡ Ok (size, behind)
  pub some : 0 < size
  pub enough : size ≤ length behind.left
  pub split : IsSplit size behind first second
  pub joins : first.index + length first.left ≡ second.index

not_none : (n : ℕ) → 0 < n → nat_eq n 0 ≡ false
not_none n h = grind (arith, nat_tests)

not_short : (m n : ℕ) → n ≤ m → nat_lt m n ≡ false
not_short m n h = grind (arith, nat_tests)

same_place : (i j : ℕ) (a b : List ℕ) → i ≡ j → a ≡ b
    → ◌≡◌ {A = Spot} (record { index = i; left = a }) (record { index = j; left = b })
same_place i j a b h k = cc

pub resource_found : (n : ℕ) (c : Bool) (p first second m r : Spot) (t : Core) (table : Table)
    → IsCut p first second → word_at (codes "_") first ≡ Ok m
    → all_at (cread n) c Row.resource_name (here m table) ≡ Yes (here r table) (t ∷ []) → r.left ≡ []
    → java_resource_at (cread n) c (here p table) ≡ Found (node Tag.SpecialNameJavaResource t end) (here second table)
unfolding java_resource_at
resource_found n c p first second m r t table h e names l =
    let a : first.index + length first.left ≡ m.index + length m.left = mark_keeps first m e in
    let b : m.index + length m.left ≡ r.index + length r.left = names_keep n c m r table (t ∷ []) names in
    let d : length r.left ≡ 0 = ap length l in
    let f : first ≡ front h.size h.behind = same_place _ _ _ _ h.split.front_index h.split.front in
    let w : word_at (codes "_") (front h.size h.behind) ≡ Ok m = subst (λ s. word_at (codes "_") s ≡ Ok m) f e in
    let i : r.index ≡ second.index = omega (arith, h.joins) in
    let z : nat_eq h.size 0 ≡ false = not_none h.size h.some in
    let y : nat_lt (length h.behind.left) h.size ≡ false = not_short (length h.behind.left) h.size h.enough in
    rw (h.number, z, y, w, names, l, i, ← h.split.back) refl

-- the same by places of the text
pub resource_taken : (n : ℕ) (c : Bool) (text inner : text.Text) (a count start from stop : ℕ) (t : Core) (table g : Table)
    → natural_from 10 (spot_at text a) ≡ Ok (count, spot_at text start) → 0 < count
    → count ≤ length (spot_at text start).left → spot_at inner start ≡ front count (spot_at text start)
    → word_at (codes "_") (spot_at inner start) ≡ Ok (spot_at inner from)
    → all_at (cread n) c Row.resource_name (here (spot_at inner from) table) ≡ Yes (here (spot_at inner stop) g) (t ∷ [])
    → g ≡ table → (spot_at inner stop).left ≡ []
    → java_resource_at (cread n) c (here (spot_at text a) table)
    ≡ Found (node Tag.SpecialNameJavaResource t end) (here (spot_at text (start + count)) table)
resource_taken n c text inner a count start from stop t table g number some enough same word names k none =
    let f : (spot_at inner start).left ≡ take count (spot_at text start).left = ap (λ p. p.left) same in
    let m = length-take count (spot_at text start).left in
    resource_found n c (spot_at text a) (spot_at inner start) (spot_at text (start + count)) (spot_at inner from)
    (spot_at inner stop) t table
    (record {
      size = count;
      behind = spot_at text start;
      number = number;
      some = some;
      enough = enough;
      split = record {
        front_index = refl;
        front = f;
        back_index = refl;
        back = ap (λ p. p.left) (spot_on text start count);
      };
      joins =
          let l : length (spot_at inner start).left ≡ length (take count (spot_at text start).left) = ap length f in
          omega (arith, l, m, enough);
    })
    word (names ∙ ap (λ z. Yes (here (spot_at inner stop) z) (t ∷ [])) k) none
