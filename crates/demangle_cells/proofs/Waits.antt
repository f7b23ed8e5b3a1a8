-- Indexes that wait, and lists that are made of them.
use Rattle.std.proofs.Common.{◌≡◌, refl, ap, ◌∙◌, subst, ℕ, suc, zero, ◌≤◌, ◌<◌, ◌+◌, ◌-◌, ◌^◌, true, ◌&&◌}
use Rattle.std.proofs.Common.{List, [], ◌∷◌, ◌++◌, length, take, drop, map, arith, nat_le}
use Rattle.std.specs.Prelude.{Result, Ok, Err, OnOk, OnErr}
use Rattle.demangle_core.specs.Core.{Core, node, end}
use Rattle.demangle_cells.specs.Tags.{tag_of}
use Rattle.demangle_cells.specs.Fixed.{first_cell}
use Rattle.demangle_cells.specs.Cells.{plain_tree, row, span, holds_from}
use Rattle.demangle_cells.specs.Behind.{all_known, is_behind, all_behind}
use Rattle.demangle_cells.specs.Stored.{View, Holds, table, entry, Grown, Waited, since, KeepsTrees, IsMark, IsCut}
use Rattle.demangle_cells.specs.declared.plain.Plain.{Plain}
use Rattle.demangle_cells.specs.declared.tag.Tag.{Tag}
use Rattle.demangle_cells.specs.declared.entry.Mark as mark
use Rattle.demangle_cells.specs.declared.plain.Plain.TheVariants as of_plain
use Rattle.demangle_cells.proofs.Lists.{span_before, take_all, take_front, take_less}
use Rattle.demangle_cells.proofs.Grows.{cut_holds}
use Rattle.demangle_cells.proofs.Trees.{front, last}

-- ---- the list of indexes grows
-- what is added is the span from the old length on
pub drop_front : {A : Type 0} (xs ys : List A) → drop (length xs) (xs ++ ys) ≡ ys
drop_front [] ys = refl
drop_front (x ∷ xs) ys = drop_front xs ys

pub take_whole : {A : Type 0} (n : ℕ) (xs : List A) → n ≡ length xs → take n xs ≡ xs
take_whole zero [] h = refl
take_whole zero (x ∷ xs) h = absurd (omega arith)
take_whole (suc n) [] h = refl
take_whole (suc n) (x ∷ xs) h = ap (λ l. x ∷ l) (take_whole n xs (omega arith))

pub span_added : (xs ys : List ℕ) (start count : ℕ) → start ≡ length xs → count ≡ length ys
    → span (xs ++ ys) start count ≡ ys
span_added xs ys start count s c =
    ap (λ n. take count (drop n (xs ++ ys))) s ∙ (ap (take count) (drop_front xs ys) ∙ take_whole count ys c)

append_length : {A : Type 0} (xs ys : List A) → length (xs ++ ys) ≡ length xs + length ys
append_length [] ys = omega arith
append_length (x ∷ xs) ys = let h = append_length xs ys in omega arith

longer : {A : Type 0} (start count : ℕ) (xs ys : List A) → start + count ≤ length xs
    → nat_le (start + count) (length (xs ++ ys)) ≡ true
longer start count xs ys h = let e = append_length xs ys in grind (arith, e, h)

-- the cells say the same where the list has grown
tree_before : (F : ℕ → Core) (n : ℕ) (l xs : List ℕ) (c : Plain) → is_behind n l c ≡ true
    → plain_tree F (l ++ xs) c ≡ plain_tree F l c
tree_before F n l xs (of_plain.Many t start count) h =
    let b : start + count ≤ length l = grind (arith, h) in
    ap (λ ids. node (tag_of t) (row F ids) end) (span_before start count l xs b)
tree_before F n l xs _ h = refl

pub holds_shorter : (F : ℕ → Core) (n : ℕ) (l xs : List ℕ) (cs : List Plain) → all_behind n l cs ≡ true
    → holds_from F (l ++ xs) n cs → holds_from F l n cs
holds_shorter F n l xs [] b h = tt
holds_shorter F n l xs (c ∷ cs) b h =
    let d : is_behind n l c ≡ true = grind (arith, b) in
    let e : all_behind (n + 1) l cs ≡ true = grind (arith, b) in
    (h.0 ∙ tree_before F n l xs c d, holds_shorter F (n + 1) l xs cs e h.1)

known_before : (n : ℕ) (l xs : List ℕ) (c : Plain) → is_behind n l c ≡ true → is_behind n (l ++ xs) c ≡ true
known_before n l xs (of_plain.Many t start count) h =
    let b : start + count ≤ length l = grind (arith, h) in
    let k : all_known n (span l start count) ≡ true = grind (arith, h) in
    let m : all_known n (span (l ++ xs) start count) ≡ true = ap (all_known n) (span_before start count l xs b) ∙ k in
    let g : nat_le (start + count) (length (l ++ xs)) ≡ true = longer start count l xs b in
    rw (g, m) refl
known_before n l xs (of_plain.Arguments at a) h = h
known_before n l xs (of_plain.Empty t) h = h
known_before n l xs (of_plain.One t a) h = h
known_before n l xs (of_plain.Two t a b) h = h
known_before n l xs (of_plain.Three t a b c) h = h
known_before n l xs _ h = refl

pub behind_before : (n : ℕ) (l xs : List ℕ) (cs : List Plain) → all_behind n l cs ≡ true
    → all_behind n (l ++ xs) cs ≡ true
behind_before n l xs [] h = refl
behind_before n l xs (c ∷ cs) h =
    let d : is_behind n l c ≡ true = grind (arith, h) in
    let e : all_behind (n + 1) l cs ≡ true = grind (arith, h) in
    let f : is_behind n (l ++ xs) c ≡ true = known_before n l xs c d in
    let g : all_behind (n + 1) (l ++ xs) cs ≡ true = behind_before (n + 1) l xs cs e in
    rw (f, g) refl

-- ---- a cell of a list
pub list_kept : (a b : View) (c : Plain) (xs : List ℕ) → b.cells ≡ a.cells ++ c ∷ [] → b.list ≡ a.list ++ xs
    → b.entries ≡ a.entries → all_behind first_cell a.list a.cells ≡ true → KeepsTrees a b
list_kept a b c xs e l t k = record {
  holds = λ F h. record {
    cells =
        holds_shorter F first_cell a.list xs a.cells k
        (front F (a.list ++ xs) first_cell a.cells (c ∷ [])
        (subst (λ l. holds_from F l first_cell (a.cells ++ c ∷ [])) l
        (subst (λ cs. holds_from F b.list first_cell cs) e h.cells)));
    constants = h.constants;
    references = h.references;
  };
  entries = t;
}

-- indexes alone were added
pub list_longer : (a b : View) (xs : List ℕ) → b.cells ≡ a.cells → b.list ≡ a.list ++ xs → b.entries ≡ a.entries
    → all_behind first_cell a.list a.cells ≡ true → KeepsTrees a b
list_longer a b xs e l t k = record {
  holds = λ F h. record {
    cells =
        holds_shorter F first_cell a.list xs a.cells k
        (subst (λ l. holds_from F l first_cell a.cells) l (subst (λ cs. holds_from F b.list first_cell cs) e h.cells));
    constants = h.constants;
    references = h.references;
  };
  entries = t;
}

pub list_made : (F : ℕ → Core) (a b : View) (t : Tag) (xs : List ℕ) (i start count : ℕ)
    → b.cells ≡ a.cells ++ of_plain.Many t start count ∷ [] → b.list ≡ a.list ++ xs → start ≡ length a.list
    → count ≡ length xs → i ≡ first_cell + length a.cells
    → Holds F b → F i ≡ node (tag_of t) (row F xs) end
list_made F a b t xs i start count e l s n k h =
    ap F k ∙ (last F b.list first_cell a.cells (of_plain.Many t start count)
    (subst (λ cs. holds_from F b.list first_cell cs) e h.cells)
    ∙ ap (λ ids. node (tag_of t) (row F ids) end)
    (ap (λ l. span l start count) l ∙ span_added a.list xs start count s n))

-- the parts of such a cell are known
pub list_behind : (n : ℕ) (l xs : List ℕ) (start count : ℕ) → start ≡ length l → count ≡ length xs
    → all_known n xs ≡ true
    → (nat_le (start + count) (length (l ++ xs)) && all_known n (span (l ++ xs) start count)) ≡ true
list_behind n l xs start count s c k =
    let e = append_length l xs in
    let g : nat_le (start + count) (length (l ++ xs)) ≡ true = grind (arith, e, s, c) in
    let m : all_known n (span (l ++ xs) start count) ≡ true = ap (all_known n) (span_added l xs start count s c) ∙ k in
    rw (g, m) refl

pub many_behind : (n : ℕ) (l m xs : List ℕ) (t : Tag) (start count : ℕ) → m ≡ l ++ xs → start ≡ length l
    → count ≡ length xs → all_known n xs ≡ true → is_behind n m (of_plain.Many t start count) ≡ true
many_behind n l m xs t start count e s c k =
    ap (λ m. is_behind n m (of_plain.Many t start count)) e ∙ list_behind n l xs start count s c k

-- all cells have their parts where indexes were added
pub all_longer : (l m xs : List ℕ) (cs : List Plain) → all_behind first_cell l cs ≡ true → m ≡ l ++ xs
    → all_behind first_cell m cs ≡ true
all_longer l m xs cs b e = ap (λ m. all_behind first_cell m cs) e ∙ behind_before first_cell l xs cs b

pub short_more : (l m xs : List ℕ) (start count : ℕ) → start ≡ length l → count ≡ length xs → m ≡ l ++ xs
    → start < 2 ^ 32 → count < 2 ^ 32 - start → length m < 2 ^ 32
short_more l m xs start count s c e r h =
    let a = append_length l xs in
    let n : length m ≡ length (l ++ xs) = ap length e in
    omega (arith, a, n, s, c, r, h)

-- behind a try to add them
pub list_after : {A E : Type 0} (r : Result A E) (l m xs : List ℕ) (cs : List Plain) (start count : ℕ)
    → OnOk r (m ≡ l ++ xs) → OnErr r (m ≡ l) → start ≡ length l → count ≡ length xs → start < 2 ^ 32
    → count < 2 ^ 32 - start → all_behind first_cell l cs ≡ true
    → (length m < 2 ^ 32) × (all_behind first_cell m cs ≡ true)
list_after (Ok x) l m xs cs start count o e s c r h b =
    (short_more l m xs start count s c o r h, all_longer l m xs cs b o)
list_after (Err x) l m xs cs start count o e s c r h b =
    let n : length m ≡ length l = ap length e in
    (omega (arith, n, s, r), ap (λ m. all_behind first_cell m cs) e ∙ b)

-- ---- a list of template arguments over the node of its members
pub kept_grown : (a b c : View) → KeepsTrees a b → Grown b c → c.entries ≡ b.entries → KeepsTrees a c
kept_grown a b c k g e = record { holds = λ F h. k.holds F (g.holds F h); entries = e ∙ k.entries }

pub ruleset nodes = (kept_grown)

drop_all : {A : Type 0} (xs : List A) → drop (length xs) xs ≡ []
drop_all [] = refl
drop_all (x ∷ xs) = drop_all xs

drop_last : {A : Type 0} (n : ℕ) (xs : List A) (y : A) → n ≤ length xs → drop n (xs ++ y ∷ []) ≡ drop n xs ++ y ∷ []
drop_last zero xs y h = refl
drop_last (suc n) [] y h = absurd (omega arith)
drop_last (suc n) (x ∷ xs) y h = drop_last n xs y (omega arith)

-- ---- what readers of lists use
pub waited_self : (v : View) → Waited v v
waited_self v = record { holds = λ F h. h; entries = take_all v.entries; waiting = take_all v.waiting }

-- one row more that waits
pub waited_on : (a b c d : View) (i : ℕ) → Waited a b → Grown b c → KeepsTrees c d → d.waiting ≡ c.waiting ++ i ∷ []
    → Waited a d
waited_on a b c d i w g k e = record {
  holds = λ F h. w.holds F (g.holds F (k.holds F h));
  entries = take_less a.entries b.entries d.entries w.entries (ap (take (length b.entries)) k.entries ∙ g.entries);
  waiting =
      let f : d.waiting ≡ b.waiting ++ i ∷ [] = e ∙ ap (λ l. l ++ i ∷ []) g.waiting in
      take_less a.waiting b.waiting d.waiting w.waiting (ap (take (length b.waiting)) f ∙ take_front b.waiting
      (i ∷ []));
}

-- a row that was refused, or a list whose last row was refused
pub waited_grown : (a b c : View) → Waited a b → Grown b c → Waited a c
waited_grown a b c w g = record {
  holds = λ F h. w.holds F (g.holds F h);
  entries = take_less a.entries b.entries c.entries w.entries g.entries;
  waiting = ap (take (length a.waiting)) g.waiting ∙ w.waiting;
}

pub waited_kept : (a b c : View) → Waited a b → KeepsTrees b c → c.waiting ≡ b.waiting → Waited a c
waited_kept a b c w k e = record {
  holds = λ F h. w.holds F (k.holds F h);
  entries = ap (take (length a.entries)) k.entries ∙ w.entries;
  waiting = ap (take (length a.waiting)) e ∙ w.waiting;
}

pub waited_cut : (a b d : View) (m : mark.Mark) → IsMark a m → Waited a b → IsCut m b d → Waited a d
waited_cut a b d m i w k = record {
  holds = λ F h. w.holds F (cut_holds F b d m k h);
  entries =
      let e : d.entries ≡ a.entries = k.entries ∙ (ap (λ n. take n b.entries) i.entries ∙ w.entries) in
      ap (take (length a.entries)) e ∙ take_all a.entries;
  waiting = ap (take (length a.waiting)) k.waiting ∙ w.waiting;
}

-- the list was made, and waits no more
pub gathered_grown : (a b d : View) (n : ℕ) → n ≡ length a.waiting → Waited a b → KeepsTrees b d
    → d.waiting ≡ take n b.waiting
    → Grown a d
gathered_grown a b d n l w k e = record {
  holds = λ F h. w.holds F (k.holds F h);
  entries = ap (take (length a.entries)) k.entries ∙ w.entries;
  waiting = e ∙ (ap (λ m. take m b.waiting) l ∙ w.waiting);
}

pub gathered_table : (F : ℕ → Core) (b d : View) → KeepsTrees b d → table F d ≡ table F b
unfolding table
gathered_table F b d k = ap (map (entry F)) k.entries

-- that the place from which on they wait is one
pub waited_fits : (a b : View) (n : ℕ) → n ≡ length a.waiting → Waited a b → n ≤ length b.waiting
waited_fits a b n l w = let h = taken_le (length a.waiting) a.waiting b.waiting refl w.waiting in omega (arith, l, h)
  where
    taken_le : (n : ℕ) (xs ys : List ℕ) → n ≡ length xs → take n ys ≡ xs → n ≤ length ys
    taken_le zero xs ys h e = omega arith
    taken_le (suc n) [] ys h e = absurd (omega arith)
    taken_le (suc n) (x ∷ xs) [] h e = cc
    taken_le (suc n) (x ∷ xs) (y ∷ ys) h e =
        let d : take n ys ≡ xs = cc in
        let r = taken_le n xs ys (omega arith) d in
        omega (arith, r)

-- what waits since then: nothing at first, then one more each time
pub since_self : (v : View) → since v v ≡ []
since_self v = drop_all v.waiting

pub since_more : (a b c d : View) (i : ℕ) → Waited a b → Grown b c → d.waiting ≡ c.waiting ++ i ∷ []
    → since a d ≡ since a b ++ i ∷ []
since_more a b c d i w g e =
    ap (drop (length a.waiting)) (e ∙ ap (λ l. l ++ i ∷ []) g.waiting)
    ∙ drop_last (length a.waiting) b.waiting i (waited_fits a b (length a.waiting) refl w)

pub since_same : (a b c : View) → Grown b c → since a c ≡ since a b
since_same a b c g = ap (drop (length a.waiting)) g.waiting

pub ruleset gathers = (waited_self, waited_on, waited_grown, gathered_grown, gathered_table, waited_fits)
