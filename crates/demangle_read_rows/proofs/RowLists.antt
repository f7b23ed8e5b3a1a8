-- A list of rows that add no component, step by step.
use Rattle.std.proofs.Common.{inl, inr, ◌≡◌, ℕ, zero, suc, ◌<◌, Bool, true, false, List, [], ◌∷◌, ◌++◌, length, map}
use Rattle.std.proofs.Common.{◌==◌, ◌&&◌, ◌||◌}
use Rattle.std.proofs.Common.{refl, ap, ◌∙◌, sym, subst, arith, Ok, Err}
use Rattle.demangle_core.specs.Core.{Core, Tag, node, end}
use Rattle.demangle_text.specs.Kind.{Kind, Unread, kind, ends}
use Rattle.demangle_text.specs.Word.{starts, word_at, missing_word}
use Rattle.demangle_text.specs.declared.error.Error.{Error}
use Rattle.demangle_grammar.specs.Rule.{Row, Class}
use Rattle.demangle_grammar.specs.Reading.{next_is}
use Rattle.demangle_grammar.specs.Rows.{rule}
use Rattle.demangle_grammar.specs.First.{takes_in, takes_row}
use Rattle.demangle_grammar.specs.Code.{joined, Go, Here, here, Reply, Found, Refused, Yes, No, and_then, one_row, many}
use Rattle.demangle_grammar.specs.Code.{all_of, rows_of, rows_at, all_at, cread}
use Rattle.demangle_grammar.proofs.CodeLaws.{byte_taken}
use Rattle.demangle_cells.specs.Cells.{row}
use Rattle.demangle_cells.specs.View.{View, Holds, Grown, Waited, KeepsTrees, table, since}
use Rattle.demangle_cells.specs.Reads.{Answer, Answers, AnswersList, ListsPart, ReadsRow, spot_at}
use Rattle.demangle_cells.specs.declared.text.Text.{Text}
use Rattle.demangle_cells.specs.declared.text.Part as part
use Rattle.demangle_cells.proofs.Lists.{map_last}
use Rattle.demangle_cells.proofs.Waits.{since_self, since_more, since_same, waited_on, waited_grown, waited_self, gathered_table}
use Rattle.demangle_read_rows.specs.Lists.{list_at, tags_at}

-- ---- one more of the row
module _ (go : Go) (c : Bool) (r : Row)
    (takes : (s m : Here) (t : Core) → go r c s [] ≡ Found t m → length m.spot.left < length s.spot.left) where
  many-enough : (m n : ℕ) (s : Here) (ts : List Core) → length s.spot.left < m → length s.spot.left < n
      → many (one_row go c r) m s ts ≡ many (one_row go c r) n s ts
  unfolding many
  many-enough zero n s ts h k = absurd (omega arith)
  many-enough (suc m) zero s ts h k = absurd (omega arith)
  many-enough (suc m) (suc n) s ts h k = by (go r c s []) refl (λ q t x y. many-enough m n q (ts ++ t ∷ []) x y)
    where
      by : (a : Reply) → go r c s [] ≡ a
          → ((q : Here) (t : Core) → length q.spot.left < m → length q.spot.left < n
          → many (one_row go c r) m q (ts ++ t ∷ []) ≡ many (one_row go c r) n q (ts ++ t ∷ []))
          → many (one_row go c r) (suc m) s ts ≡ many (one_row go c r) (suc n) s ts
      by (Found t q) e next = let p = takes s q t e in rw e (next q t (omega arith) (omega arith))
      by (Refused k) e next = rw e refl

  again-rows : (s m : Here) (ts : List Core) (t : Core) → go r c s [] ≡ Found t m
      → rows_of go c r s ts ≡ rows_of go c r m (ts ++ t ∷ [])
  unfolding rows_of all_of many
  again-rows s m ts t e =
      let p = takes s m t e in
      rw e (many-enough (length s.spot.left) (suc (length m.spot.left)) m (ts ++ t ∷ []) p (omega arith))

again_at : (f : ℕ) (r : Row) (c : Bool) (s m : Here) (ts : List Core) (t : Core) → takes_row r ≡ true
    → cread f r c s [] ≡ Found t m → rows_at (cread f) c r s ts ≡ rows_at (cread f) c r m (ts ++ t ∷ [])
unfolding rows_at
again_at f r c s m ts t h e =
    ap (λ o. and_then o (λ m b. Yes m (node Tag.Several (joined b) end ∷ [])))
    (again-rows (cread f) c r (λ s m t e. byte_taken f r c s m [] t h e) s m ts t e)

-- ---- of any row that takes a byte
longer : (F : ℕ → Core) (f : ℕ) (r : Row) (c : Bool) (s m : Here) (i : ℕ) (is : List ℕ)
    → takes_row r ≡ true → cread f r c s [] ≡ Found (F i) m
    → list_at f r c F (is ++ i ∷ []) m ≡ list_at f r c F is s
unfolding list_at
longer F f r c s m i is h k =
    ap (λ ts. rows_at (cread f) c r m ts) (map_last F is i) ∙ sym (again_at f r c s m (map F is) (F i) h k)

-- no more of it
stopped : (F : ℕ → Core) (f : ℕ) (r : Row) (c : Bool) (s : Here) (is : List ℕ) (k : Kind)
    → cread f r c s [] ≡ Refused k → ends k ≡ false
    → list_at f r c F is s ≡ Yes s (node Tag.Several (row F is) end ∷ [])
unfolding list_at rows_at rows_of all_of many
stopped F f r c s is k h l = rw (h, l) refl

ended : (F : ℕ → Core) (f : ℕ) (r : Row) (c : Bool) (s : Here) (is : List ℕ) (k : Kind)
    → cread f r c s [] ≡ Refused k → ends k ≡ true → list_at f r c F is s ≡ No true k
unfolding list_at rows_at rows_of all_of many
ended F f r c s is k h l = rw (h, l) refl

list_all : (F : ℕ → Core) (f : ℕ) (c : Bool) (r : Row) (s : Here) → list_at f r c F [] s ≡ all_at (cread f) c r s
unfolding list_at all_at
list_all F f c r s = refl

-- ---- the steps of a loop that reads the list
-- what the list reads from `stop` on, behind what waits since then, it reads from `from` on
pub record ListSoFar (f : ℕ) (r : Row) (c : Bool) (text : Text) (from stop : ℕ) (a b : View) : Type 0 where
  pub waited : Waited a b
  pub same : (F : ℕ → Core) → table F b ≡ table F a
  pub reads : (F : ℕ → Core) → Holds F b
      → list_at f r c F (since a b) (here (spot_at text stop) (table F b))
      ≡ all_at (cread f) c r (here (spot_at text from) (table F a))

module _ (f : ℕ) (r : Row) (c : Bool) (text : Text) (from : ℕ) (a : View) where
  pub list_begins : ListSoFar f r c text from from a a
  list_begins = record {
    waited = waited_self a;
    same = λ F. refl;
    reads = λ F h.
        ap (λ l. list_at f r c F l (here (spot_at text from) (table F a))) (since_self a)
        ∙ list_all F f c r (here (spot_at text from) (table F a));
  }

  module _ (stop : ℕ) (b m : View) (s : ListSoFar f r c text from stop a b) (g : Grown b m)
      (t : (F : ℕ → Core) → table F m ≡ table F b) where
    -- one row more
    pub list_goes_on : (d : View) (answer : Answer) (x : part.Part) → takes_row r ≡ true
        → ReadsRow r f c text stop answer b m → answer ≡ Ok x → KeepsTrees m d → d.waiting ≡ m.waiting ++ x.id ∷ []
        → ListSoFar f r c text from x.end a d
    list_goes_on d answer x takes reads is k w = record {
      waited = waited_on a b m d x.id s.waited g k w;
      same = λ F. gathered_table F m d k ∙ (t F ∙ s.same F);
      reads = λ F h.
          let e : cread f r c (here (spot_at text stop) (table F b)) []
          ≡ Found (F x.id) (here (spot_at text x.end) (table F d)) =
          subst (λ z. ReadsRow r f c text stop z b m) is reads F (k.holds F h)
          ∙ ap (λ z. Found (F x.id) (here (spot_at text x.end) z)) (sym (gathered_table F m d k)) in
          ap (λ z. list_at f r c F z (here (spot_at text x.end) (table F d))) (since_more a b m d x.id s.waited g w)
          ∙ (longer F f r c (here (spot_at text stop) (table F b)) (here (spot_at text x.end) (table F d)) x.id
          (since a b) takes e ∙ s.reads F (g.holds F (k.holds F h)));
    }

    -- no more of them
    pub list_ends : (answer : Answer) (e : Error) → ReadsRow r f c text stop answer b m
        → (answer ≡ Err e) × (ends (kind e) ≡ false)
        → ListsPart text from (Ok stop) a m (λ s. all_at (cread f) c r s)
    list_ends answer e reads is F h = by (subst (λ z. ReadsRow r f c text stop z b m) is.0 reads F h)
      where
        by : Answers F text (Err e) b m (cread f r c (here (spot_at text stop) (table F b)) [])
            → AnswersList F text (Ok stop) a m (all_at (cread f) c r (here (spot_at text from) (table F a)))
        by (inl o) = let z = is.1 in absurd cc
        by (inr x) =
            sym (s.reads F (g.holds F h))
            ∙ (stopped F f r c (here (spot_at text stop) (table F b)) (since a b) (kind e) x.0 is.1
            ∙ (ap (λ z. Yes (here (spot_at text stop) z) (node Tag.Several (row F (since a b)) end ∷ [])) (sym (t F))
            ∙ ap (λ z. Yes (here (spot_at text stop) (table F m)) (node Tag.Several (row F z) end ∷ []))
            (sym (since_same a b m g))))

    -- what ends the whole reading
    pub list_fails : (answer : Answer) (e : Error) → ReadsRow r f c text stop answer b m
        → (answer ≡ Err e) × (ends (kind e) ≡ true)
        → ListsPart text from (Err e) a m (λ s. all_at (cread f) c r s)
    list_fails answer e reads is F h = by (subst (λ z. ReadsRow r f c text stop z b m) is.0 reads F h)
      where
        by : Answers F text (Err e) b m (cread f r c (here (spot_at text stop) (table F b)) [])
            → AnswersList F text (Err e) a m (all_at (cread f) c r (here (spot_at text from) (table F a)))
        by (inl o) = inl o
        by (inr x) =
            inr (
              sym (s.reads F (g.holds F h))
                  ∙ (ended F f r c (here (spot_at text stop) (table F b)) (since a b) (kind e) x.0 is.1
                  ∙ ap (λ z. No z (kind e)) (sym is.1)),
              t F ∙ s.same F,
            )

    pub list_waited : Waited a m
    list_waited = waited_grown a b m s.waited g

pub tags_take : takes_row Row.abi_tag ≡ true
unfolding takes_in rule
tags_take = refl

pub suffixes_take : takes_row Row.clone_suffix ≡ true
unfolding takes_in rule
suffixes_take = refl

pub resources_take : takes_row Row.resource_name ≡ true
unfolding takes_in rule
resources_take = refl

-- ---- where no tag can begin, there is none
no_b : (bs : List ℕ) → next_is (Class.these (66 ∷ [])) bs ≡ false → starts (66 ∷ []) bs ≡ false
no_b [] e = refl
no_b (b ∷ bs) e = byte (66 == b) e
  where
    byte : (z : Bool) → (z || false) ≡ false → (z && true) ≡ false
    byte true e = absurd (cc)
    byte false e = refl

no_tag : (f : ℕ) (c : Bool) (s : Here) → next_is (Class.these (66 ∷ [])) s.spot.left ≡ false
    → cread (suc f) Row.abi_tag c s [] ≡ Refused (Unread (missing_word (66 ∷ []) s.spot.left))
unfolding cread rule word_at
no_tag f c s e = rw (no_b s.spot.left e) refl

pub tags_are : (n : ℕ) (c : Bool) (s : Here) → cread n Row.abi_tags c s [] ≡ tags_at n c s
unfolding cread rule tags_at
tags_are zero c s = refl
tags_are (suc f) c s = refl

pub no_tags : (F : ℕ → Core) (i n : ℕ) (c : Bool) (s : Here) → 1 < n
    → next_is (Class.these (66 ∷ [])) s.spot.left ≡ false → F i ≡ node Tag.AbiTags (node Tag.Several end end) end
    → cread n Row.abi_tags c s [] ≡ Found (F i) s
unfolding tags_at
no_tags F i zero c s h e k = absurd (omega (arith, h))
no_tags F i (suc zero) c s h e k = absurd (omega (arith, h))
no_tags F i (suc (suc f)) c s h e k =
    let a : all_at (cread (suc f)) c Row.abi_tag s ≡ Yes s (node Tag.Several end end ∷ []) =
    sym (list_all (λ i. end) (suc f) c Row.abi_tag s)
    ∙ stopped (λ i. end) (suc f) Row.abi_tag c s [] (Unread (missing_word (66 ∷ []) s.spot.left)) (no_tag f c s e) refl in
    tags_are (suc (suc f)) c s ∙ (rw (a, k) refl)

pub ruleset tags = (no_tags)

pub ruleset row_lists = (list_begins, list_waited)
