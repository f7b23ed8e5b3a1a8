-- What was read is given back by a cut.
use Rattle.std.proofs.Common.{◌≡◌, ℕ, zero, suc, Bool, true, false, ◌+◌, List, [], ◌∷◌, ◌++◌, length, ◌∙◌, ap}
use Rattle.std.proofs.Common.{subst, refl}
use Rattle.demangle_core.specs.Core.{Core, Tag, node, end}
use Rattle.demangle_core.specs.Table.{Table, sizes, cut}
use Rattle.demangle_core.proofs.Cuts.{cut_same, cut_added, cut_again, cut_cut}
use Rattle.demangle_text.specs.Kind.{Kind, ends}
use Rattle.demangle_text.specs.Spot.{Spot}
use Rattle.demangle_grammar.specs.Rule.{Row}
use Rattle.demangle_grammar.specs.Code.{joined, Here, here, Reply, Found, Refused, Out, Yes, No, or_else, and_then}
use Rattle.demangle_grammar.specs.Code.{and_again, from_row, unless_ends, one_row, many, all_of, rows_of}
use Rattle.demangle_grammar.specs.Code.{optional_at, rows_at, all_at, some_at, cread}
use Rattle.demangle_grammar.proofs.CodeLaws as laws

pub given_back : (f : ℕ) (r : Row) (c : Bool) (p q : Spot) (e g : Table) (acc : List Core) (t : Core)
    → cread f r c (here p e) acc ≡ Found t (here q g) → cut (sizes e) g ≡ e
given_back f r c p q e g acc t h = laws.given_back f r c (here p e) (here q g) acc t h

-- a table that was cut to the lengths of an earlier one
pub cut_is : (e g new : Table) (m : ℕ × ℕ) → new ≡ cut m g → m ≡ sizes e → cut (sizes e) g ≡ e → new ≡ e
cut_is e g new m h k l = h ∙ (ap (λ n. cut n g) k ∙ l)

-- the same behind a call that left the table as it was
pub cut_is_behind : (e g now new : Table) (m : ℕ × ℕ) → new ≡ cut m g → m ≡ sizes e → g ≡ now
    → cut (sizes e) now ≡ e → new ≡ e
cut_is_behind e g now new m h k l n = cut_is e g new m h k (ap (cut (sizes e)) l ∙ n)

-- behind one reading more
pub cut_next : (f : ℕ) (r : Row) (c : Bool) (p q : Spot) (x y z : Table) (acc : List Core) (t : Core)
    → cread f r c (here p y) acc ≡ Found t (here q z) → cut (sizes x) y ≡ x → cut (sizes x) z ≡ x
cut_next f r c p q x y z acc t h k = cut_cut x y z k (given_back f r c p q y z acc t h)

-- ---- behind the parts that one word reads
-- what a part or a row has added to this table is given back
abbrev pub Lasts : Table → Out → Type 0
Lasts e (Yes m b) = cut (sizes e) m.table ≡ e
Lasts e (No h k) = Unit {0}

abbrev pub RowLasts : Table → Reply → Type 0
RowLasts e (Found t m) = cut (sizes e) m.table ≡ e
RowLasts e (Refused k) = Unit {0}

pub row_lasts : (f : ℕ) (r : Row) (c : Bool) (s : Here) (acc : List Core) → RowLasts s.table (cread f r c s acc)
row_lasts f r c s acc = by (cread f r c s acc) refl
  where
    by : (a : Reply) → cread f r c s acc ≡ a → RowLasts s.table a
    by (Found t m) e = laws.given_back f r c s m acc t e
    by (Refused k) e = tt

optional_by : (s : Here) (a : Reply) → RowLasts s.table a
    → Lasts s.table
    (or_else (from_row a (λ m t. Yes m (node Tag.Present t end ∷ []))) (λ u. Yes s (node Tag.Absent end end ∷ [])))
optional_by s (Found t m) h = h
optional_by s (Refused k) h = ended (ends k)
  where
    ended : (z : Bool) → Lasts s.table (or_else (No z k) (λ u. Yes s (node Tag.Absent end end ∷ [])))
    ended true = tt
    ended false = cut_same s.table

pub optional_lasts : (f : ℕ) (c : Bool) (r : Row) (s : Here) → Lasts s.table (optional_at (cread f) c r s)
unfolding optional_at
optional_lasts f c r s = optional_by s (cread f r c s []) (row_lasts f r c s [])

many_last : (f : ℕ) (c : Bool) (r : Row) (n : ℕ) (e : Table) (s : Here) (acc : List Core)
    → cut (sizes e) s.table ≡ e → Lasts e (many (one_row (cread f) c r) n s acc)
unfolding many
many_last f c r zero e s acc h = h
many_last f c r (suc n) e s acc h =
    by (cread f r c s []) (row_lasts f r c s []) (λ q b l. many_last f c r n e q b l)
  where
    ended : (z : Bool) (k : Kind) → Lasts e (unless_ends z k (λ u. Yes s acc))
    ended true k = tt
    ended false k = h

    by : (a : Reply) → RowLasts s.table a
        → ((q : Here) (b : List Core) → cut (sizes e) q.table ≡ e → Lasts e (many (one_row (cread f) c r) n q b))
        → Lasts e
        (and_again (from_row a (λ m t. Yes m (acc ++ t ∷ []))) (λ q b. many (one_row (cread f) c r) n q b) (Yes s acc))
    by (Found t m) k next = next m (acc ++ t ∷ []) (cut_cut e s.table m.table h k)
    by (Refused k) l next = ended (ends k) k

several_last : (e : Table) (o : Out) → Lasts e o
    → Lasts e (and_then o (λ m b. Yes m (node Tag.Several (joined b) end ∷ [])))
several_last e (Yes m b) h = h
several_last e (No h k) l = tt

pub rows_last : (f : ℕ) (c : Bool) (r : Row) (e : Table) (s : Here) (acc : List Core) → cut (sizes e) s.table ≡ e
    → Lasts e (rows_at (cread f) c r s acc)
unfolding rows_at rows_of all_of
rows_last f c r e s acc h =
    several_last e (many (one_row (cread f) c r) (suc (length s.spot.left)) s acc)
    (many_last f c r (suc (length s.spot.left)) e s acc h)

pub all_last : (f : ℕ) (c : Bool) (r : Row) (s : Here) → Lasts s.table (all_at (cread f) c r s)
unfolding all_at
all_last f c r s = rows_last f c r s.table s [] (cut_same s.table)

pub some_last : (f : ℕ) (c : Bool) (r q : Row) (s : Here) → Lasts s.table (some_at (cread f) c r q s)
unfolding some_at
some_last f c r q s = by (cread f r c s []) (row_lasts f r c s [])
  where
    by : (a : Reply) → RowLasts s.table a
        → Lasts s.table (from_row a (λ m t. rows_at (cread f) c q m (t ∷ [])))
    by (Found t m) h = rows_last f c q s.table m (t ∷ []) h
    by (Refused k) h = tt

-- for a part of one's own: what it lasts, as its equation says it
pub lasts_at : (e : Table) (o : Out) (p : Spot) (g : Table) (b : List Core) → o ≡ Yes (here p g) b → Lasts e o
    → cut (sizes e) g ≡ e
lasts_at e o p g b h l = subst (Lasts e) h l

-- the same for a reply of one's own
pub row_lasts_at : (e : Table) (a : Reply) (p : Spot) (g : Table) (t : Core) → a ≡ Found t (here p g) → RowLasts e a
    → cut (sizes e) g ≡ e
row_lasts_at e a p g t h l = subst (RowLasts e) h l

pub optional_next : (f : ℕ) (r : Row) (c : Bool) (p q : Spot) (x y z : Table) (b : List Core)
    → optional_at (cread f) c r (here p y) ≡ Yes (here q z) b → cut (sizes x) y ≡ x → cut (sizes x) z ≡ x
optional_next f r c p q x y z b h k = cut_cut x y z k (lasts_at y _ q z b h (optional_lasts f c r (here p y)))

pub some_next : (f : ℕ) (r v : Row) (c : Bool) (p q : Spot) (x y z : Table) (b : List Core)
    → some_at (cread f) c r v (here p y) ≡ Yes (here q z) b → cut (sizes x) y ≡ x → cut (sizes x) z ≡ x
some_next f r v c p q x y z b h k = cut_cut x y z k (lasts_at y _ q z b h (some_last f c r v (here p y)))

pub all_next : (f : ℕ) (r : Row) (c : Bool) (p q : Spot) (x y z : Table) (b : List Core)
    → all_at (cread f) c r (here p y) ≡ Yes (here q z) b → cut (sizes x) y ≡ x → cut (sizes x) z ≡ x
all_next f r c p q x y z b h k = cut_cut x y z k (lasts_at y _ q z b h (all_last f c r (here p y)))

pub index_kept : (f : ℕ) (r : Row) (c : Bool) (p q : Spot) (e g : Table) (t : Core)
    → cread f r c (here p e) [] ≡ Found t (here q g) → p.index + length p.left ≡ q.index + length q.left
index_kept f r c p q e g t h = laws.index_kept f r c (here p e) (here q g) [] t h

-- for a function that cuts back
pub ruleset lasting =
    (given_back, cut_is, cut_next, cut_same, cut_added, cut_again, optional_next, some_next, all_next)

-- for a loop of turns
pub ruleset loop_lasting = (cut_is, cut_next, cut_same)
