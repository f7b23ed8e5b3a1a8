-- A list of rows, step by step.
use Rattle.std.specs.Prelude.{◌≤◌, codes, Result, Ok, Err, Some, None}
use Rattle.std.proofs.Common.{inl, inr, ◌≡◌, ℕ, zero, suc, ◌<◌, Bool, true, false, List, [], ◌∷◌, ◌++◌, length, map}
use Rattle.std.proofs.Common.{refl, ap, ◌∙◌, sym, subst, arith, append_assoc}
use Rattle.demangle_core.specs.Core.{Core, Tag, node, end}
use Rattle.demangle_core.specs.Table.{Table}
use Rattle.demangle_text.specs.Kind.{Kind, Unread, Deep, Other, kind, ends}
use Rattle.demangle_text.specs.Spot.{Spot}
use Rattle.demangle_text.specs.declared.error.Error.{Error}
use Rattle.demangle_grammar.specs.Rule.{Row}
use Rattle.demangle_grammar.specs.Rows.{rule}
use Rattle.demangle_grammar.specs.First.{takes_in, takes_row, first_in, idle_in}
use Rattle.demangle_grammar.specs.Items.{these}
use Rattle.demangle_grammar.specs.Reading.{next_is}
use Rattle.demangle_grammar.specs.Code.{joined, Go, Here, here, Reply, Found, Refused, Yes, No, and_then, one_row, many}
use Rattle.demangle_grammar.specs.Code.{all_of, rows_of, rows_at, all_at, some_at, cread}
use Rattle.demangle_grammar.proofs.CodeLaws.{byte_taken}
use Rattle.demangle_forms.proofs.Missed.{IsMissed, apart_missed, one_or_end}
use Rattle.demangle_cells.specs.Cells.{row}
use Rattle.demangle_cells.specs.View.{View, Holds, Grown, Waited, KeepsTrees, IsMark, IsCut, table, since}
use Rattle.demangle_cells.specs.Reads.{Answer, Answers, AnswersList, ListsPart, ReadsRow, spot_at}
use Rattle.demangle_cells.specs.declared.text.Text.{Text}
use Rattle.demangle_cells.specs.declared.text.Part as part
use Rattle.demangle_cells.specs.declared.entry.Mark as mark
use Rattle.demangle_cells.proofs.Lists.{map_last}
use Rattle.demangle_cells.proofs.Grows.{cut_holds}
use Rattle.demangle_cells.proofs.Waits.{since_more, since_same, waited_on, waited_grown}
use Rattle.demangle_cells.proofs.Waits.{gathered_table}
use Rattle.demangle_read_types.specs.Lists.{list_at, Reaches, ReadsRest, AnswersRest, Lengthens}
use Rattle.demangle_read_types.proofs.Waits.{waited_cut_table, waited_both, waited_first, since_then}

-- ---- one more of the row
module _ (go : Go) (c : Bool) (r : Row)
    (takes : (s m : Here) (t : Core) → go r c s [] ≡ Found t m → length m.spot.left < length s.spot.left) where
  many-enough : (m n : ℕ) (s : Here) (ts : List Core) → length s.spot.left < m → length s.spot.left < n
      → many (one_row go c r) m s ts ≡ many (one_row go c r) n s ts
  unfolding many
  many-enough zero n s ts h k = absurd (omega arith)
  many-enough (suc m) zero s ts h k = absurd (omega arith)
  many-enough (suc m) (suc n) s ts h k = by (go r c s []) refl (λ q t x y. many-enough m n q (ts ++ t ∷ []) x y)
    where
      by : (a : Reply) → go r c s [] ≡ a
          → ((q : Here) (t : Core) → length q.spot.left < m → length q.spot.left < n
          → many (one_row go c r) m q (ts ++ t ∷ []) ≡ many (one_row go c r) n q (ts ++ t ∷ []))
          → many (one_row go c r) (suc m) s ts ≡ many (one_row go c r) (suc n) s ts
      by (Found t q) e next = let p = takes s q t e in rw e (next q t (omega arith) (omega arith))
      by (Refused k) e next = rw e refl

  again-rows : (s m : Here) (ts : List Core) (t : Core) → go r c s [] ≡ Found t m
      → rows_of go c r s ts ≡ rows_of go c r m (ts ++ t ∷ [])
  unfolding rows_of all_of many
  again-rows s m ts t e =
      let p = takes s m t e in
      rw e (many-enough (length s.spot.left) (suc (length m.spot.left)) m (ts ++ t ∷ []) p (omega arith))

again_at : (f : ℕ) (r : Row) (c : Bool) (s m : Here) (ts : List Core) (t : Core) → takes_row r ≡ true
    → cread f r c s [] ≡ Found t m → rows_at (cread f) c r s ts ≡ rows_at (cread f) c r m (ts ++ t ∷ [])
unfolding rows_at
again_at f r c s m ts t h e =
    ap (λ o. and_then o (λ m b. Yes m (node Tag.Several (joined b) end ∷ [])))
    (again-rows (cread f) c r (λ s m t e. byte_taken f r c s m [] t h e) s m ts t e)

-- ---- of any row that takes a byte
longer : (F : ℕ → Core) (f : ℕ) (r : Row) (c : Bool) (s m : Here) (i : ℕ) (is : List ℕ)
    → takes_row r ≡ true → cread f r c s [] ≡ Found (F i) m
    → list_at f r c F (is ++ i ∷ []) m ≡ list_at f r c F is s
unfolding list_at
longer F f r c s m i is h k =
    ap (λ ts. rows_at (cread f) c r m ts) (map_last F is i) ∙ sym (again_at f r c s m (map F is) (F i) h k)

-- no more of it
stopped : (F : ℕ → Core) (f : ℕ) (r : Row) (c : Bool) (s : Here) (is : List ℕ) (k : Kind)
    → cread f r c s [] ≡ Refused k → ends k ≡ false
    → list_at f r c F is s ≡ Yes s (node Tag.Several (row F is) end ∷ [])
unfolding list_at rows_at rows_of all_of many
stopped F f r c s is k h l = rw (h, l) refl

ended : (F : ℕ → Core) (f : ℕ) (r : Row) (c : Bool) (s : Here) (is : List ℕ) (k : Kind)
    → cread f r c s [] ≡ Refused k → ends k ≡ true → list_at f r c F is s ≡ No true k
unfolding list_at rows_at rows_of all_of many
ended F f r c s is k h l = rw (h, l) refl

-- ---- the whole list
pub list_first : (F : ℕ → Core) (f : ℕ) (c : Bool) (r q : Row) (s m : Here) (i : ℕ)
    → cread f r c s [] ≡ Found (F i) m → list_at f q c F (i ∷ []) m ≡ some_at (cread f) c r q s
unfolding list_at some_at
list_first F f c r q s m i h = rw h refl

pub list_none : (f : ℕ) (c : Bool) (r q : Row) (s : Here) (k : Kind) → cread f r c s [] ≡ Refused k
    → some_at (cread f) c r q s ≡ No (ends k) k
unfolding some_at
list_none f c r q s k h = rw h refl

-- ---- the steps of a loop that reads the rest of a list
module _ (f : ℕ) (r : Row) (c : Bool) (text : Text) (at : ℕ) (a : View) where
  -- no more of them, where none begins with the next byte
  pub rest_skips : (stop : ℕ) (b : View) → Reaches r f c text at stop a b
      → ((e : Table) → IsMissed (cread f r c (here (spot_at text stop) e) [])) → ReadsRest r f c text at (Ok stop) a b
  rest_skips stop b reached missed F h is =
      by (cread f r c (here (spot_at text stop) (table F b)) []) refl (missed (table F b))
    where
      by : (x : Reply) → cread f r c (here (spot_at text stop) (table F b)) [] ≡ x → IsMissed x
          → AnswersRest F text (Ok stop) a b is (list_at f r c F is (here (spot_at text at) (table F a)))
      by (Refused (Unread u)) e m =
          sym (reached F h is) ∙ stopped F f r c (here (spot_at text stop) (table F b)) (is ++ since a b) (Unread u)
          e refl
      by (Refused Deep) e m = absurd m
      by (Refused Other) e m = absurd m
      by (Found t q) e m = absurd m

  module _ (stop : ℕ) (b m d : View) (n : mark.Mark) (w : Waited a b) (g : Grown b m)
      (reached : Reaches r f c text at stop a b) where
    -- one row more
    pub reaches_next : (answer : Answer) (next : ℕ) → takes_row r ≡ true → ReadsRow r f c text stop answer b m
        → Lengthens answer stop n (Ok (Some next)) m d → Reaches r f c text at next a d
    reaches_next (Err e) next h reads l F k is = absurd cc
    reaches_next (Ok x) next h reads l F k is =
        let keeps = l.2 in
        let waits = l.3 in
        let t : table F d ≡ table F m = gathered_table F m d keeps in
        let e : cread f r c (here (spot_at text stop) (table F b)) [] ≡ Found (F x.id)
        (here (spot_at text next) (table F d)) =
        reads F (keeps.holds F k) ∙ (ap (λ z. Found (F x.id) (here (spot_at text z) (table F m))) l.0
        ∙ ap (λ z. Found (F x.id) (here (spot_at text next) z)) (sym t)) in
        ap (λ z. list_at f r c F z (here (spot_at text next) (table F d)))
        (ap (λ z. is ++ z) (since_more a b m d x.id w g waits) ∙ sym (append_assoc is (since a b) (x.id ∷ [])))
        ∙ (longer F f r c (here (spot_at text stop) (table F b)) (here (spot_at text next) (table F d)) x.id
        (is ++ since a b) h e
        ∙ reached F (g.holds F (keeps.holds F k)) is)

    pub waited_next : (answer : Answer) (next : ℕ) → Lengthens answer stop n (Ok (Some next)) m d → Waited a d
    waited_next (Err e) next l = absurd cc
    waited_next (Ok x) next l = waited_on a b m d x.id w g l.2 l.3

    -- no more of them
    pub rest_ends : (answer : Answer) → ReadsRow r f c text stop answer b m → Lengthens answer stop n (Ok None) m d
        → ReadsRest r f c text at (Ok stop) a d
    rest_ends (Ok x) reads l F h is = absurd cc
    rest_ends (Err e) reads l F h is =
        subst (λ v. AnswersRest F text (Ok stop) a v is (list_at f r c F is (here (spot_at text at) (table F a))))
        (sym l.1)
        (by (reads F k))
      where
        k : Holds F m
        k = subst (Holds F) l.1 h

        by : Answers F text (Err e) b m (cread f r c (here (spot_at text stop) (table F b)) [])
            → AnswersRest F text (Ok stop) a m is (list_at f r c F is (here (spot_at text at) (table F a)))
        by (inl o) = absurd cc
        by (inr x) =
            sym (reached F (g.holds F k) is)
            ∙ (stopped F f r c (here (spot_at text stop) (table F b)) (is ++ since a b) (kind e) x.0 l.0
            ∙ (ap (λ z. Yes (here (spot_at text stop) z) (node Tag.Several (row F (is ++ since a b)) end ∷ []))
            (sym x.1)
            ∙ ap (λ z. Yes (here (spot_at text stop) (table F m)) (node Tag.Several (row F (is ++ z)) end ∷ []))
            (sym (since_same a b m g))))

    -- what ends the whole reading
    pub rest_fails : (answer : Answer) (e : Error) → IsMark a n → ReadsRow r f c text stop answer b m
        → Lengthens answer stop n (Err e) m d → ReadsRest r f c text at (Err e) a d
    rest_fails (Ok x) e i reads l F h is = inl l.0
    rest_fails (Err k) e i reads l F h is = by (reads F held)
      where
        held : Holds F m
        held = cut_holds F m d n l.2 h

        by : Answers F text (Err k) b m (cread f r c (here (spot_at text stop) (table F b)) [])
            → AnswersRest F text (Err e) a d is (list_at f r c F is (here (spot_at text at) (table F a)))
        by (inl o) = inl (l.0 ∙ o)
        by (inr x) =
            inr (
              sym (reached F (g.holds F held) is)
                  ∙ (ended F f r c (here (spot_at text stop) (table F b)) (is ++ since a b) (kind k) x.0 l.1
                  ∙ (ap (λ z. No z (kind k)) (sym l.1) ∙ ap (λ z. No (ends (kind z)) (kind z)) (sym l.0))),
              waited_cut_table F a m d n i (waited_grown a b m w g) l.2,
            )

-- ---- a list that begins with a row
module _ (f : ℕ) (r q : Row) (c : Bool) (text : Text) (at : ℕ) (x : part.Part) (a b m d : View) (g : Grown a b)
    (k : KeepsTrees b m) (e : m.waiting ≡ b.waiting ++ x.id ∷ []) (reads : ReadsRow r f c text at (Ok x) a b)
    (w : Waited m d) where
  begun : (F : ℕ → Core) → Holds F d
      → list_at f q c F (x.id ∷ []) (here (spot_at text x.end) (table F m))
      ≡ some_at (cread f) c r q (here (spot_at text at) (table F a))
  begun F h =
      list_first F f c r q (here (spot_at text at) (table F a)) (here (spot_at text x.end) (table F m)) x.id
      (reads F (k.holds F (w.holds F h))
      ∙ ap (λ z. Found (F x.id) (here (spot_at text x.end) z)) (sym (gathered_table F b m k)))

  pub some_waited : Waited a d
  some_waited = waited_both a m d (waited_first a b m x.id g k e) w

  pub some_ends : (stop : ℕ) → ReadsRest q f c text x.end (Ok stop) m d
      → ListsPart text at (Ok stop) a d (λ s. some_at (cread f) c r q s)
  some_ends stop rest F h =
      sym (begun F h) ∙ (rest F h (x.id ∷ [])
      ∙ ap (λ z. Yes (here (spot_at text stop) (table F d)) (node Tag.Several (row F z) end ∷ []))
      (sym (since_then a m d x.id (e ∙ ap (λ z. z ++ x.id ∷ []) g.waiting) w)))

  pub some_fails : (v : View) (n : mark.Mark) (o : Error) → IsMark a n → IsCut n d v
      → ReadsRest q f c text x.end (Err o) m d → ListsPart text at (Err o) a v (λ s. some_at (cread f) c r q s)
  some_fails v n o i u rest F h = by (rest F held (x.id ∷ []))
    where
      held : Holds F d
      held = cut_holds F d v n u h

      by : AnswersRest F text (Err o) m d (x.id ∷ [])
          (list_at f q c F (x.id ∷ []) (here (spot_at text x.end) (table F m)))
          → AnswersList F text (Err o) a v (some_at (cread f) c r q (here (spot_at text at) (table F a)))
      by (inl y) = inl y
      by (inr y) = inr (sym (begun F held) ∙ y.0, waited_cut_table F a d v n i some_waited u)

-- ---- rows that lists are made of
pub types_take : takes_row Row.type_handle ≡ true
unfolding takes_in rule
types_take = refl

pub arguments_take : takes_row Row.template_arg ≡ true
unfolding takes_in rule
arguments_take = refl

-- a list that may be empty
pub all_lists : (f : ℕ) (r : Row) (c : Bool) (text : Text) (at : ℕ) (a d : View) (result : Result ℕ Error)
    → ReadsRest r f c text at result a d → ListsPart text at result a d (λ s. all_at (cread f) c r s)
unfolding list_at all_at
all_lists f r c text at a d (Ok stop) rest F h = rest F h []
all_lists f r c text at a d (Err e) rest F h = rest F h []

-- the first row is refused
pub none_fails : (f : ℕ) (r q : Row) (c : Bool) (text : Text) (at : ℕ) (a b : View) (e : Error)
    → ReadsRow r f c text at (Err e) a b → ListsPart text at (Err e) a b (λ s. some_at (cread f) c r q s)
none_fails f r q c text at a b e reads F h = by (reads F h)
  where
    by : Answers F text (Err e) a b (cread f r c (here (spot_at text at) (table F a)) [])
        → AnswersList F text (Err e) a b (some_at (cread f) c r q (here (spot_at text at) (table F a)))
    by (inl o) = inl o
    by (inr x) = inr (list_none f c r q (here (spot_at text at) (table F a)) (kind e) x.0, x.1)

-- ---- bytes with which none of these rows begins
pub type_missed : (f : ℕ) (c : Bool) (p : Spot) (e : Table) → 10 ≤ f → next_is (these "E") p.left ≡ true
    → IsMissed (cread f Row.type_handle c (here p e) [])
unfolding rule takes_in first_in idle_in
type_missed f c p e l n =
    apart_missed Row.type_handle 10 (codes "E") f c (here p e) refl l (one_or_end (codes "E") p.left n)

pub argument_missed : (f : ℕ) (c : Bool) (p : Spot) (e : Table) → 10 ≤ f → next_is (these "E") p.left ≡ true
    → IsMissed (cread f Row.template_arg c (here p e) [])
unfolding rule takes_in first_in idle_in
argument_missed f c p e l n =
    apart_missed Row.template_arg 10 (codes "E") f c (here p e) refl l (one_or_end (codes "E") p.left n)
