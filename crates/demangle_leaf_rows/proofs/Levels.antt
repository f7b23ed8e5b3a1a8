-- A reading with as few levels as it needs is the reading with more, and tells how deep it goes.
use Rattle.std.proofs.Common.{◌≡◌, ◌≢◌, ◌⊎◌, inl, inr, refl, ap, sym, subst, ◌∙◌, arith, ⊎_elim, ℕ, zero, suc, ◌+◌, ◌-◌}
use Rattle.std.proofs.Common.{◌<◌, ◌≤◌, max, Bool, true, false, [], Result, Ok, Err}
use Rattle.std.proofs.lemmas.Bool.{cases_lt}
use Rattle.demangle_text.specs.Kind.{Kind, kind, ends, Unread}
use Rattle.demangle_text.specs.Kind as kinds
use Rattle.demangle_text.specs.Spot.{Spot, spot}
use Rattle.demangle_text.specs.declared.index_str.IndexStr.{IndexStr}
use Rattle.demangle_text.specs.declared.error.Error.{Error}
use Rattle.demangle_text.specs.declared.error.Error.TheVariants.{UnexpectedEnd, UnexpectedText, BadBackReference}
use Rattle.demangle_text.specs.declared.error.Error.TheVariants.{BadTemplateArgReference, ForwardTemplateArgReference}
use Rattle.demangle_text.specs.declared.error.Error.TheVariants.{BadFunctionArgReference, BadLeafNameReference}
use Rattle.demangle_text.specs.declared.error.Error.TheVariants.{Overflow, TooMuchRecursion, OutOfMemory}
use Rattle.demangle_core.specs.Core.{Core}
use Rattle.demangle_core.specs.Table.{Table}
use Rattle.demangle_grammar.specs.Rule.{Row}
use Rattle.demangle_grammar.specs.Tree.{trees, nil, Tree}
use Rattle.demangle_grammar.specs.Reading.{Answer, Yes, No, Deep, read_from, levels_of}
use Rattle.demangle_grammar.specs.Laws.{cored}
use Rattle.demangle_grammar.specs.Code.{here, Reply, Found, Refused, cread}
use Rattle.demangle_grammar.specs.Seen.{replied}
use Rattle.demangle_grammar.proofs.CodeLaws.{of_trees}
use Rattle.demangle_grammar.proofs.Limits.{is_limited, reads_all}
use Rattle.demangle_leaf_rows.specs.Answers.{Answers, AnswersOrOutOfMemory}
use Rattle.demangle_leaf_rows.specs.Context.{Context, raised}
use Rattle.demangle_leaf_rows.specs.Deepest.{state_at, IsRead, Deepens}

abbrev pub kind_of : Kind → Reply → Kind
kind_of d (Refused k) = k
kind_of d (Found t h) = d

module _ (row : Row) (conv : Bool) (p : Spot) (table : Table) where
  abbrev pub read : ℕ → Reply
  read levels = cread levels row conv (here p table) []

  abbrev depth : ℕ
  depth = levels_of row conv (state_at p table)

  abbrev Begun : ℕ → Answer Tree
  Begun levels = read_from trees levels row conv (state_at p table) nil

  replies : (levels : ℕ) → replied (cored (Begun levels)) ≡ read levels
  replies levels = of_trees levels row conv (here p table) []

  -- ---- deep or not, as the reading of trees
  deep : (levels : ℕ) → levels < depth → read levels ≡ Refused kinds.Deep
  deep levels l =
      let e : suc levels - 1 ≡ levels = omega arith in
      let d = (is_limited (suc levels) 0 row conv (state_at p table) (omega arith)).0.1 (omega (arith, l)) in
      sym (replies levels) ∙ ap (λ x. replied (cored x)) (subst (λ n. Begun n ≡ Deep) e d)

  deep_where : (levels : ℕ) → read levels ≡ Refused kinds.Deep → levels < depth
  deep_where levels h = by (Begun levels) refl (replies levels ∙ h)
    where
      by : (x : Answer Tree) → Begun levels ≡ x → replied (cored x) ≡ Refused kinds.Deep → levels < depth
      by (Yes s t) e g = absurd (cc)
      by (No b k) e g = absurd (cc)
      by Deep e g =
          let d : suc levels - 1 ≡ levels = omega arith in
          let l = (is_limited (suc levels) 0 row conv (state_at p table) (omega arith)).0.0
          (subst (λ n. Begun n ≡ Deep) (sym d) e) in
          omega (arith, l)

  pub enough : (levels : ℕ) → read levels ≢ Refused kinds.Deep → depth ≤ levels
  enough levels h = ⊎_elim (λ l. absurd (h (deep levels l))) (λ l. l) (cases_lt levels depth)

  -- ---- with more levels
  pub same : (levels more : ℕ) → levels ≤ more → read levels ≢ Refused kinds.Deep → read more ≡ read levels
  same levels more l h =
      let e = enough levels h in
      sym (replies more)
      ∙ (ap (λ x. replied (cored x)) (reads_all row conv (state_at p table) more (omega (arith, e, l))
      ∙ sym (reads_all row conv (state_at p table) levels e)) ∙ replies levels)

  -- ---- as many as are needed
  pub depth_is : (levels : ℕ) → read levels ≢ Refused kinds.Deep
      → ((less : ℕ) → levels ≡ suc less → read less ≡ Refused kinds.Deep) → depth ≡ levels
  depth_is zero h needed = let e = enough zero h in omega (arith, e)
  depth_is (suc less) h needed =
      let e = enough (suc less) h in
      let d = deep_where less (needed less refl) in
      omega (arith, e, d)

-- ---- what is answered
none_too_deep : (e : Error) → ends (kind e) ≡ false → kind e ≢ kinds.Deep
none_too_deep e h d = let g : ends (kind e) ≡ true = ap ends d in absurd (cc)

pub deep_error : (e : Error) → kind e ≡ kinds.Deep → e ≡ TooMuchRecursion
deep_error TooMuchRecursion d = refl
deep_error UnexpectedEnd d = absurd (cc)
deep_error UnexpectedText d = absurd (cc)
deep_error BadBackReference d = absurd (cc)
deep_error BadTemplateArgReference d = absurd (cc)
deep_error ForwardTemplateArgReference d = absurd (cc)
deep_error BadFunctionArgReference d = absurd (cc)
deep_error BadLeafNameReference d = absurd (cc)
deep_error Overflow d = absurd (cc)
deep_error OutOfMemory d = absurd (cc)

pub read_ends : {X : Type 0} (tree : X → Core) (a : Result (X × IndexStr) Error) (table : Table) (r : Reply)
    → IsRead a → AnswersOrOutOfMemory tree a table r → r ≢ Refused kinds.Deep
read_ends tree (Ok x) table r i h d = let g = sym h ∙ d in absurd (cc)
read_ends tree (Err e) table r i (inl o) d = let g : ends (kind e) ≡ true = ap (λ z. ends (kind z)) o in absurd (cc)
read_ends tree (Err e) table r i (inr h) d = none_too_deep e i (ap (kind_of kinds.Other) (sym h ∙ d))

or_no_memory : {X : Type 0} (tree : X → Core) (a : Result (X × IndexStr) Error) (table : Table) (r : Reply)
    → Answers tree a table r → AnswersOrOutOfMemory tree a table r
or_no_memory tree (Ok x) table r h = h
or_no_memory tree (Err e) table r h = inr h

module _ {X : Type 0} (tree : X → Core) (row : Row) (conv : Bool) (p : Spot) (table : Table)
    (a : Result (X × IndexStr) Error) (levels more : ℕ) where
  pub answers_same : levels ≤ more → (levels ≡ more) ⊎ (a ≢ Err TooMuchRecursion)
      → Answers tree a table (read row conv p table levels) → Answers tree a table (read row conv p table more)
  answers_same l (inl e) h = subst (λ n. Answers tree a table (read row conv p table n)) e h
  answers_same l (inr n) h = by a n h
    where
      by : (a : Result (X × IndexStr) Error) → a ≢ Err TooMuchRecursion
          → Answers tree a table (read row conv p table levels) → Answers tree a table (read row conv p table more)
      by (Ok x) n h = same row conv p table levels more l (λ d. let g = sym h ∙ d in absurd (cc)) ∙ h
      by (Err e) n h =
          same row conv p table levels more l
          (λ d. n (ap Err (deep_error e (ap (kind_of kinds.Other) (sym h ∙ d))))) ∙ h

  pub answers_same_or : levels ≤ more → (levels ≡ more) ⊎ (a ≢ Err TooMuchRecursion)
      → AnswersOrOutOfMemory tree a table (read row conv p table levels)
      → AnswersOrOutOfMemory tree a table (read row conv p table more)
  answers_same_or l (inl e) h = subst (λ n. AnswersOrOutOfMemory tree a table (read row conv p table n)) e h
  answers_same_or l (inr n) h = by a n h
    where
      by : (a : Result (X × IndexStr) Error) → a ≢ Err TooMuchRecursion
          → AnswersOrOutOfMemory tree a table (read row conv p table levels)
          → AnswersOrOutOfMemory tree a table (read row conv p table more)
      by (Ok x) n h = same row conv p table levels more l (λ d. let g = sym h ∙ d in absurd (cc)) ∙ h
      by (Err e) n (inl o) = inl o
      by (Err e) n (inr h) =
          inr (same row conv p table levels more l
          (λ d. n (ap Err (deep_error e (ap (kind_of kinds.Other) (sym h ∙ d))))) ∙ h)

-- ---- how deep
module _ {X : Type 0} (tree : X → Core) (row : Row) (old new : Context) (input : IndexStr) (table : Table)
    (a : Result (X × IndexStr) Error) (levels : ℕ) where
  abbrev Read : ℕ → Reply
  Read n = read row old.conversion (spot input) table n

  pub deepens_or : new ≡ raised (old.level + levels) old → AnswersOrOutOfMemory tree a table (Read levels)
      → ((less : ℕ) → levels ≡ suc less → Read less ≡ Refused kinds.Deep) → Deepens row old new input a table
  deepens_or e h needed i =
      let d = depth_is row old.conversion (spot input) table levels (read_ends tree a table (Read levels) i h) needed in
      ap (λ c. c.deepest) e ∙ ap (λ n. max old.deepest (old.level + n)) (sym d)

  pub deepens : new ≡ raised (old.level + levels) old → Answers tree a table (Read levels)
      → ((less : ℕ) → levels ≡ suc less → Read less ≡ Refused kinds.Deep) → Deepens row old new input a table
  deepens e h needed = deepens_or e (or_no_memory tree a table (Read levels) h) needed

pub too_few : {r : Reply} → (TooMuchRecursion ≡ OutOfMemory) ⊎ (r ≡ Refused kinds.Deep) → r ≡ Refused kinds.Deep
too_few (inl o) = absurd (cc)
too_few (inr h) = h
