-- What the indexes of constants stand for.
use Rattle.std.proofs.Common.{slice_get, Some, None, List, [], ◌∷◌, length, nat_le, ◌≤◌, ◌-◌, sym, ◌≡◌, refl, ap, ◌∙◌}
use Rattle.std.proofs.Common.{ℕ, zero, suc, ◌<◌, ◌+◌, ◌*◌, ◌/◌, ◌%◌, Bool, true, false, nat_lt, nat_eq, pos, arith}
use Rattle.std.proofs.Common.{Option, MatchOption, IfSome}
use Rattle.std.proofs.lemmas.Option.{slice_get_within}
use Rattle.demangle_core.specs.Core.{Core, Tag, node, number, flag, chosen, end, N, U, ◌⊕◌}
use Rattle.demangle_grammar.specs.Tree.{reference}
use Rattle.demangle_cells.specs.Cells.{plain_tree}
use Rattle.demangle_cells.specs.Behind.{is_known, is_kept, is_behind, all_behind}
use Rattle.demangle_cells.specs.Fixed.{fixed, constant, block_tree, builtin_tree, number_of_table, qualifiers_tree}
use Rattle.demangle_cells.specs.Fixed.{first_cell, first_reference, first_other}
use Rattle.demangle_cells.specs.Stored.{View, Holds}
use Rattle.demangle_cells.specs.declared.plain.Plain.{Plain}
use Rattle.demangle_cells.specs.declared.constants.WordTable.{WordTable}
use Rattle.demangle_cells.specs.declared.constants.WordTable.TheVariants as of_table
use Rattle.demangle_cells.proofs.Trees.{cell_at, behind_at}

-- the word w of a block
of_block : (F : ℕ → Core) (v : View) (b w : ℕ) → b < 9 → w < 256 → Holds F v → F (b * 256 + w) ≡ block_tree b w
unfolding fixed constant
of_block F v b w h k x =
    let l : b * 256 + w < first_cell = omega (arith, h, k) in
    let t : nat_lt (b * 256 + w) first_cell ≡ true = grind (arith, l) in
    let d : (b * 256 + w) / 256 ≡ b = omega (arith, k) in
    let m : (b * 256 + w) % 256 ≡ w = omega (arith, k) in
    x.constants (b * 256 + w) l ∙ rw (t, d, m) refl

pub table_small : (t : WordTable) → number_of_table t < 5
table_small of_table.Operators = omega arith
table_small of_table.Builtins = omega arith
table_small of_table.Components = omega arith
table_small of_table.RefQualifiers = omega arith
table_small of_table.ExplicitObjects = omega arith

pub word_is : (F : ℕ → Core) (v : View) (t : WordTable) (b w : ℕ) → b ≡ number_of_table t → w < 256 → Holds F v
    → F (b * 256 + w) ≡ chosen (number_of_table t) w end
word_is F v t b w e h x = ap (λ b. F (b * 256 + w)) e ∙ by t
  where
    by : (t : WordTable) → F (number_of_table t * 256 + w) ≡ chosen (number_of_table t) w end
    by of_table.Operators = of_block F v 0 w (omega arith) h x
    by of_table.Builtins = of_block F v 1 w (omega arith) h x
    by of_table.Components = of_block F v 2 w (omega arith) h x
    by of_table.RefQualifiers = of_block F v 3 w (omega arith) h x
    by of_table.ExplicitObjects = of_block F v 4 w (omega arith) h x

pub builtin_is : (F : ℕ → Core) (v : View) (w : ℕ) → w < 256 → Holds F v → F (2048 + w) ≡ builtin_tree w
builtin_is F v w h x = of_block F v 8 w (omega arith) h x

pub operator_is : (F : ℕ → Core) (v : View) (w : ℕ) → w < 256 → Holds F v
    → F (1792 + w) ≡ node Tag.OperatorNameSimple (chosen 0 w end) end
operator_is F v w h x = of_block F v 7 w (omega arith) h x

pub present_is : (F : ℕ → Core) (v : View) (w : ℕ) → w < 2 → Holds F v
    → F (1552 + w) ≡ node Tag.Present (chosen 3 w end) end
unfolding fixed constant
present_is F v zero h x = x.constants 1552 (omega arith)
present_is F v (suc zero) h x = x.constants 1553 (omega arith)
present_is F v (suc (suc w)) h x = absurd (omega arith)

pub absent_is : (F : ℕ → Core) (v : View) → Holds F v → F 1538 ≡ node Tag.Absent end end
unfolding fixed constant
absent_is F v x = x.constants 1538 (omega arith)

pub nought_is : (F : ℕ → Core) (v : View) → Holds F v → F 1539 ≡ number (pos 0) end
unfolding fixed constant
nought_is F v x = x.constants 1539 (omega arith)

pub empty_is : (F : ℕ → Core) (v : View) → Holds F v → F 1540 ≡ node Tag.Several end end
unfolding fixed constant
empty_is F v x = x.constants 1540 (omega arith)

pub no_tags_is : (F : ℕ → Core) (v : View) → Holds F v → F 1541 ≡ node Tag.AbiTags (node Tag.Several end end) end
unfolding fixed constant
no_tags_is F v x = x.constants 1541 (omega arith)

pub false_is : (F : ℕ → Core) (v : View) → Holds F v → F 1536 ≡ flag false end
unfolding fixed constant
false_is F v x = x.constants 1536 (omega arith)

pub true_is : (F : ℕ → Core) (v : View) → Holds F v → F 1537 ≡ flag true end
unfolding fixed constant
true_is F v x = x.constants 1537 (omega arith)

pub qualifiers_0 : (F : ℕ → Core) (v : View) → Holds F v
    → F 1544 ≡ node Tag.CvQualifiers (flag false (flag false (flag false end))) end
unfolding fixed constant
qualifiers_0 F v x = x.constants 1544 (omega arith)

pub qualifiers_1 : (F : ℕ → Core) (v : View) → Holds F v
    → F 1545 ≡ node Tag.CvQualifiers (flag false (flag false (flag true end))) end
unfolding fixed constant
qualifiers_1 F v x = x.constants 1545 (omega arith)

pub qualifiers_2 : (F : ℕ → Core) (v : View) → Holds F v
    → F 1546 ≡ node Tag.CvQualifiers (flag false (flag true (flag false end))) end
unfolding fixed constant
qualifiers_2 F v x = x.constants 1546 (omega arith)

pub qualifiers_3 : (F : ℕ → Core) (v : View) → Holds F v
    → F 1547 ≡ node Tag.CvQualifiers (flag false (flag true (flag true end))) end
unfolding fixed constant
qualifiers_3 F v x = x.constants 1547 (omega arith)

pub qualifiers_4 : (F : ℕ → Core) (v : View) → Holds F v
    → F 1548 ≡ node Tag.CvQualifiers (flag true (flag false (flag false end))) end
unfolding fixed constant
qualifiers_4 F v x = x.constants 1548 (omega arith)

pub qualifiers_5 : (F : ℕ → Core) (v : View) → Holds F v
    → F 1549 ≡ node Tag.CvQualifiers (flag true (flag false (flag true end))) end
unfolding fixed constant
qualifiers_5 F v x = x.constants 1549 (omega arith)

pub qualifiers_6 : (F : ℕ → Core) (v : View) → Holds F v
    → F 1550 ≡ node Tag.CvQualifiers (flag true (flag true (flag false end))) end
unfolding fixed constant
qualifiers_6 F v x = x.constants 1550 (omega arith)

pub qualifiers_7 : (F : ℕ → Core) (v : View) → Holds F v
    → F 1551 ≡ node Tag.CvQualifiers (flag true (flag true (flag true end))) end
unfolding fixed constant
qualifiers_7 F v x = x.constants 1551 (omega arith)

-- the constant at an index
block_at : (F : ℕ → Core) (v : View) (k b : ℕ) → k < first_cell → k / 256 ≡ b → Holds F v → F k ≡ block_tree b (k % 256)
unfolding fixed constant
block_at F v k b h e x =
    let t : nat_lt k first_cell ≡ true = grind (arith, h) in
    x.constants k h ∙ (rw t refl ∙ ap (λ b. block_tree b (k % 256)) e)

-- ---- constants one step deep
pub word_cell : (F : ℕ → Core) (v : View) (k : ℕ) → k < first_cell → k / 256 ≤ 4 → Holds F v
    → F k ≡ chosen (k / 256) (k % 256) end
word_cell F v k h l x =
    let t : nat_lt (k / 256) 5 ≡ true = grind (arith, l) in
    block_at F v k (k / 256) h refl x ∙ rw t refl

pub standard_cell : (F : ℕ → Core) (v : View) (k : ℕ) → k < first_cell → k / 256 ≡ 5 → Holds F v
    → F k ≡ node Tag.BuiltinTypeStandard (F (256 + k % 256)) end
standard_cell F v k h e x =
    block_at F v k 5 h e x ∙ ap (λ c. node Tag.BuiltinTypeStandard c end) (sym (of_block F v 1 (k % 256)
    (omega arith) (omega arith) x))

pub operator_cell : (F : ℕ → Core) (v : View) (k : ℕ) → k < first_cell → k / 256 ≡ 7 → Holds F v
    → F k ≡ node Tag.OperatorNameSimple (F (k % 256)) end
operator_cell F v k h e x =
    let w : 0 * 256 + k % 256 ≡ k % 256 = omega arith in
    block_at F v k 7 h e x ∙ ap (λ c. node Tag.OperatorNameSimple c end) (sym (of_block F v 0 (k % 256)
    (omega arith) (omega arith) x) ∙ ap F w)

pub handle_cell : (F : ℕ → Core) (v : View) (k : ℕ) → k < first_cell → 8 ≤ k / 256 → Holds F v
    → F k ≡ node Tag.TypeHandleBuiltin (F (1280 + k % 256)) end
handle_cell F v k h l x =
    let e : k / 256 ≡ 8 = omega (arith, h, l) in
    block_at F v k 8 h e x ∙ ap (λ c. node Tag.TypeHandleBuiltin c end) (sym (of_block F v 5 (k % 256)
    (omega arith) (omega arith) x))

pub false_cell : (F : ℕ → Core) (v : View) (n : ℕ) → n ≡ 0 → Holds F v → F (1536 + n) ≡ flag false end
false_cell F v n e x = ap (λ n. F (1536 + n)) e ∙ false_is F v x

pub true_cell : (F : ℕ → Core) (v : View) (n : ℕ) → n ≡ 1 → Holds F v → F (1536 + n) ≡ flag true end
true_cell F v n e x = ap (λ n. F (1536 + n)) e ∙ true_is F v x

pub absent_cell : (F : ℕ → Core) (v : View) (n : ℕ) → n ≡ 2 → Holds F v → F (1536 + n) ≡ node Tag.Absent end end
absent_cell F v n e x = ap (λ n. F (1536 + n)) e ∙ absent_is F v x

pub nought_cell : (F : ℕ → Core) (v : View) (n : ℕ) → n ≡ 3 → Holds F v → F (1536 + n) ≡ number (pos 0) end
nought_cell F v n e x = ap (λ n. F (1536 + n)) e ∙ nought_is F v x

pub empty_cell : (F : ℕ → Core) (v : View) (n : ℕ) → n ≡ 4 → Holds F v → F (1536 + n) ≡ node Tag.Several end end
empty_cell F v n e x = ap (λ n. F (1536 + n)) e ∙ empty_is F v x

-- no tags, at three indexes
pub tags_cell : (F : ℕ → Core) (v : View) (n : ℕ) → 5 ≤ n → n ≤ 7 → Holds F v
    → F (1536 + n) ≡ node Tag.AbiTags (F 1540) end
tags_cell F v n h l x =
    let a : nat_eq n 0 ≡ false = grind (arith, h) in
    let b : nat_eq n 1 ≡ false = grind (arith, h) in
    let c : nat_eq n 2 ≡ false = grind (arith, h) in
    let d : nat_eq n 3 ≡ false = grind (arith, h) in
    let e : nat_eq n 4 ≡ false = grind (arith, h) in
    let f : nat_lt n 8 ≡ true = grind (arith, l) in
    let t : F (1536 + n) ≡ node Tag.AbiTags (node Tag.Several end end) end =
    of_block F v 6 n (omega arith) (omega (arith, l)) x ∙ rw (a, b, c, d, e, f) refl in
    t ∙ ap (λ c. node Tag.AbiTags c end) (sym (empty_is F v x))

flag_cell : (F : ℕ → Core) (v : View) (k : ℕ) → k < 2 → Holds F v → F (1536 + k) ≡ flag (nat_eq k 1) end
flag_cell F v zero h x = false_is F v x
flag_cell F v (suc zero) h x = true_is F v x
flag_cell F v (suc (suc k)) h x = absurd (omega (arith, h))

pub qualifiers_cell : (F : ℕ → Core) (v : View) (n : ℕ) → 8 ≤ n → n ≤ 15 → Holds F v
    → F (1536 + n) ≡ node Tag.CvQualifiers
    (F (1536 + n / 4 % 2) ⊕ (F (1536 + n / 2 % 2) ⊕ F (1536 + n % 2))) end
qualifiers_cell F v n h l x =
    let a : nat_eq n 0 ≡ false = grind (arith, h) in
    let b : nat_eq n 1 ≡ false = grind (arith, h) in
    let c : nat_eq n 2 ≡ false = grind (arith, h) in
    let d : nat_eq n 3 ≡ false = grind (arith, h) in
    let e : nat_eq n 4 ≡ false = grind (arith, h) in
    let f : nat_lt n 8 ≡ false = grind (arith, h) in
    let g : nat_lt n 16 ≡ true = grind (arith, l) in
    let q : F (1536 + n) ≡ qualifiers_tree n =
    of_block F v 6 n (omega arith) (omega (arith, l)) x ∙ rw (a, b, c, d, e, f, g) refl in
    q ∙ ap (λ c. node Tag.CvQualifiers c end) (three_flags (flag_cell F v (n / 4 % 2) (omega arith) x)
    (flag_cell F v (n / 2 % 2) (omega arith) x) (flag_cell F v (n % 2) (omega arith) x))
  where
    three_flags : {a b c : Core} {i j k : Bool} → a ≡ flag i end → b ≡ flag j end → c ≡ flag k end
        → flag i (flag j (flag k end)) ≡ a ⊕ (b ⊕ c)
    three_flags {a} {b} {c} p q r = rw (p, q, r) refl

pub present_cell : (F : ℕ → Core) (v : View) (n : ℕ) → 16 ≤ n → n < 256 → Holds F v
    → F (1536 + n) ≡ node Tag.Present (F (768 + (n - 16))) end
present_cell F v n h l x =
    let a : nat_eq n 0 ≡ false = grind (arith, h) in
    let b : nat_eq n 1 ≡ false = grind (arith, h) in
    let c : nat_eq n 2 ≡ false = grind (arith, h) in
    let d : nat_eq n 3 ≡ false = grind (arith, h) in
    let e : nat_eq n 4 ≡ false = grind (arith, h) in
    let f : nat_lt n 8 ≡ false = grind (arith, h) in
    let g : nat_lt n 16 ≡ false = grind (arith, h) in
    let t : F (1536 + n) ≡ node Tag.Present (chosen 3 (n - 16) end) end =
    of_block F v 6 n (omega arith) l x ∙ rw (a, b, c, d, e, f, g) refl in
    t ∙ ap (λ c. node Tag.Present c end) (sym (of_block F v 3 (n - 16) (omega arith) (omega (arith, l)) x))

-- what stands before an index is known there
pub known_lower : (n k : ℕ) → k < n → is_known n k ≡ true
known_lower n k h = let a : nat_lt k n ≡ true = grind (arith, h) in rw a refl

-- ---- the references
pub reference_fixed : (F : ℕ → Core) (v : View) (k : ℕ) → first_reference ≤ k → k < first_other → Holds F v
    → F k ≡ reference N (k - first_reference)
unfolding fixed
reference_fixed F v k h l x =
    let a : nat_lt k first_cell ≡ false = grind (arith, h) in
    let b : nat_lt k first_other ≡ true = grind (arith, l) in
    x.references k h ∙ rw (a, b) refl

pub other_fixed : (F : ℕ → Core) (v : View) (k : ℕ) → first_other ≤ k → Holds F v → F k ≡ reference U (k - first_other)
unfolding fixed
other_fixed F v k h x =
    let a : nat_lt k first_cell ≡ false = grind (arith, h) in
    let b : nat_lt k first_other ≡ false = grind (arith, h) in
    x.references k (omega (arith, h)) ∙ rw (a, b) refl

pub reference_is : (F : ℕ → Core) (v : View) (n k : ℕ) → n < first_reference → k ≡ first_reference + n → Holds F v
    → F k ≡ reference N n
reference_is F v n k h e x =
    let m : k - first_reference ≡ n = omega (arith, e) in
    reference_fixed F v k (omega (arith, e)) (omega (arith, e, h)) x ∙ ap (reference N) m

pub other_is : (F : ℕ → Core) (v : View) (n k : ℕ) → k ≡ first_other + n → Holds F v → F k ≡ reference U n
other_is F v n k e x =
    let m : k - first_other ≡ n = omega (arith, e) in
    other_fixed F v k (omega (arith, e)) x ∙ ap (reference U) m

pub none_beside : (k : ℕ) → first_cell ≤ k → k < first_reference → is_known first_cell k ≡ false
none_beside k h l =
    let a : nat_lt k first_cell ≡ false = grind (arith, h) in
    let b : nat_le first_reference k ≡ false = grind (arith, l) in
    rw (a, b) refl

-- ---- the cells
-- the place of an index among the cells, where those that are none have one behind all cells
abbrev place_of : ℕ → ℕ
place_of k = (k + 4294964992) % 4294967296

place_is : (k n at : ℕ) → k < 4294967296 → first_cell + n ≤ first_reference → at ≡ place_of k → at < n → k ≡ first_cell + at
place_is k n at r f e l = omega (arith, r, f, e, l)

kept_is : (F : ℕ → Core) (v : View) (k at : ℕ) (c : Plain) → k < 4294967296
    → first_cell + length v.cells ≤ first_reference → at ≡ place_of k → slice_get v.cells at ≡ Some c → Holds F v
    → F k ≡ plain_tree F v.list c
kept_is F v k at c r f p e x =
    let l : at < length v.cells = slice_get_within v.cells at c e in
    ap F (place_is k (length v.cells) at r f p l) ∙ cell_at F v.list first_cell v.cells at c e x.cells

kept_lower : (v : View) (k at : ℕ) (c : Plain) → k < 4294967296
    → first_cell + length v.cells ≤ first_reference → at ≡ place_of k → slice_get v.cells at ≡ Some c
    → all_behind first_cell v.list v.cells ≡ true → is_behind k v.list c ≡ true
kept_lower v k at c r f p e h =
    let l : at < length v.cells = slice_get_within v.cells at c e in
    ap (λ k. is_behind k v.list c) (place_is k (length v.cells) at r f p l)
    ∙ behind_at first_cell v.list v.cells at c e h

none_behind : {A : Type 0} (xs : List A) (n : ℕ) → slice_get xs n ≡ None → length xs ≤ n
none_behind [] n e = omega arith
none_behind (x ∷ xs) zero e = cc
none_behind (x ∷ xs) (suc n) e = let h = none_behind xs n e in omega (arith, h)

none_kept : (cs : List Plain) (k at : ℕ) → k < 4294967296 → at ≡ place_of k → slice_get cs at ≡ None
    → is_kept (length cs) k ≡ false
none_kept cs k at r p e =
    by (nat_le first_cell k) refl
  where
    by : (b : Bool) → nat_le first_cell k ≡ b → is_kept (length cs) k ≡ false
    by false q = rw q refl
    by true q =
        let l = none_behind cs at e in
        let h : first_cell ≤ k = grind (arith, q) in
        let m : first_cell + length cs ≤ k = omega (arith, r, p, l, h) in
        let a : nat_lt k (first_cell + length cs) ≡ false = grind (arith, m) in
        rw (q, a) refl

-- a look at the cells, and beside them
pub kept_cell : (v : View) (k at : ℕ) (r : Option Plain) → k < 4294967296
    → first_cell + length v.cells ≤ first_reference → at ≡ place_of k → r ≡ slice_get v.cells at
    → MatchOption r (is_kept (length v.cells) k ≡ false)
    (λ c. (F : ℕ → Core) → Holds F v → F k ≡ plain_tree F v.list c)
kept_cell v k at None r f p e = none_kept v.cells k at r p (sym e)
kept_cell v k at (Some c) r f p e = λ F x. kept_is F v k at c r f p (sym e) x

pub cell_lower : (v : View) (k at : ℕ) (r : Option Plain) → k < 4294967296
    → first_cell + length v.cells ≤ first_reference → at ≡ place_of k → r ≡ slice_get v.cells at
    → all_behind first_cell v.list v.cells ≡ true → IfSome r (λ c. is_behind k v.list c ≡ true)
cell_lower v k at None r f p e h = tt
cell_lower v k at (Some c) r f p e h = kept_lower v k at c r f p (sym e) h

pub kept_found : (cs : List Plain) (k at : ℕ) (r : Option Plain) → k < 4294967296
    → first_cell + length cs ≤ first_reference → at ≡ place_of k → r ≡ slice_get cs at
    → IfSome r (λ c. is_kept (length cs) k ≡ true)
kept_found cs k at None r f p e = tt
kept_found cs k at (Some c) r f p e =
    let l : at < length cs = slice_get_within cs at c (sym e) in
    let s : k ≡ first_cell + at = place_is k (length cs) at r f p l in
    let a : nat_le first_cell k ≡ true = grind (arith, s) in
    let b : nat_lt k (first_cell + length cs) ≡ true = grind (arith, s, l) in
    rw (a, b) refl

-- what is known of an index that no cell has, and of one that has a cell
pub known_beside : (n k : ℕ) → is_kept n k ≡ false → is_known (first_cell + n) k ≡ true → is_known first_cell k ≡ true
known_beside n k a b = grind (arith, a, b)

pub unknown_beside : (n k : ℕ) → is_known (first_cell + n) k ≡ false → is_known first_cell k ≡ false
unknown_beside n k a = grind (arith, a)

pub kept_known : (n k : ℕ) → is_kept n k ≡ true → is_known (first_cell + n) k ≡ true
kept_known n k a = grind (arith, a)

pub ruleset constant_cells = (word_cell, standard_cell, operator_cell, handle_cell, known_lower)

pub ruleset single_cells =
    (false_cell, true_cell, absent_cell, nought_cell, empty_cell, tags_cell, qualifiers_cell, present_cell, known_lower)

pub ruleset beside_cells = (reference_fixed, other_fixed, none_beside)

pub ruleset beside = (unknown_beside, kept_known)

pub ruleset flags = (false_is, true_is)

pub ruleset qualifiers_are =
    (qualifiers_0, qualifiers_1, qualifiers_2, qualifiers_3, qualifiers_4, qualifiers_5, qualifiers_6, qualifiers_7)
