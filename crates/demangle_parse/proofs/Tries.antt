-- Readings with as few levels as they need.
use Rattle.std.proofs.Common.{◌≡◌, ◌≢◌, ◌⊎◌, inl, inr, refl, ap, sym, subst, ◌∙◌, arith, ⊎_elim, ℕ, zero, suc, ◌+◌}
use Rattle.std.proofs.Common.{◌-◌, ◌<◌, ◌≤◌, max, Bool, true, false, [], drop, Result, Ok, Err}
use Rattle.demangle_text.specs.Kind as kinds
use Rattle.demangle_text.specs.Kind.{kind, ends}
use Rattle.demangle_text.specs.Spot.{Spot, spot}
use Rattle.demangle_text.specs.declared.index_str.IndexStr.{IndexStr}
use Rattle.demangle_text.specs.declared.error.Error.{Error}
use Rattle.demangle_text.specs.declared.error.Error.TheVariants.{TooMuchRecursion, OutOfMemory}
use Rattle.demangle_core.specs.Core.{Core}
use Rattle.demangle_core.specs.Table.{Table}
use Rattle.demangle_grammar.specs.Rule.{Row}
use Rattle.demangle_grammar.specs.Laws.{reach}
use Rattle.demangle_grammar.specs.Reading.{levels_of}
use Rattle.demangle_grammar.specs.Code.{Reply, Refused, here, cread}
use Rattle.demangle_cells.specs.Model.{model}
use Rattle.demangle_cells.specs.Reads.{spot_at, Answer, ReadsRow}
use Rattle.demangle_cells.specs.View.{View, Holds, Grown, IsMark, IsCut, table}
use Rattle.demangle_cells.specs.declared.entry.Mark as mark
use Rattle.demangle_cells.specs.declared.text.Text.{Text}
use Rattle.demangle_cells.proofs.Grows.{cut_table, cut_holds}
use Rattle.demangle_leaf_rows.specs.Answers.{AnswersOrOutOfMemory}
use Rattle.demangle_leaf_rows.specs.Context.{Context, levels_left, raised}
use Rattle.demangle_leaf_rows.specs.Deepest.{Deepens, state_at}
use Rattle.demangle_leaf_rows.proofs.Levels.{same, depth_is, read_ends, enough, deep_error, kind_of}
use Rattle.demangle_parse.specs.Adds.{HasTable}
use Rattle.demangle_parse.specs.Levels.{IsDeep, Tells, Brackets, Needs, read_at}

-- ---- one try
-- The components are as before, once they are cut back.
pub table_kept : (a b d : View) (m : mark.Mark) (whole : Table) → IsMark a m → Grown a b → IsCut m b d
    → HasTable a whole → HasTable d whole
table_kept a b d m whole i g k h F held =
    cut_table F a b d m i g k ∙ h F (g.holds F (cut_holds F b d m k held))

module _ (row : Row) (conv : Bool) (t : Text) (at : ℕ) (levels : ℕ) (a b : View) (whole : Table) where
  abbrev Read : Reply
  Read = read_at row conv t at whole levels

  abbrev Given : Answer → Type 0
  Given answer = ReadsRow row levels conv t at answer a b

  -- of this table
  here_too : Grown a b → HasTable a whole → Holds (model b) b
      → cread levels row conv (here (spot_at t at) (table (model b) a)) [] ≡ Read
  here_too g h m = ap (λ e. cread levels row conv (here (spot_at t at) e) []) (h (model b) (g.holds (model b) m))

  pub deep_tells : Grown a b → HasTable a whole → Holds (model b) b → Given (Err TooMuchRecursion) → IsDeep Read
  deep_tells g h m r = by (r (model b) m)
    where
      by : (TooMuchRecursion ≡ OutOfMemory)
          ⊎ ((cread levels row conv (here (spot_at t at) (table (model b) a)) [] ≡ Refused kinds.Deep)
          × (table (model b) b ≡ table (model b) a)) → IsDeep Read
      by (inl o) = absurd (cc)
      by (inr e) = sym (here_too g h m) ∙ e.0

  pub other_tells : (answer : Answer) → Grown a b → HasTable a whole → Holds (model b) b → Given answer
      → answer ≢ Err TooMuchRecursion → answer ≢ Err OutOfMemory → Read ≢ Refused kinds.Deep
  other_tells (Ok x) g h m r n o d = let f = sym (r (model b) m) ∙ (here_too g h m ∙ d) in absurd (cc)
  other_tells (Err e) g h m r n o d = by (r (model b) m)
    where
      by : (e ≡ OutOfMemory)
          ⊎ ((cread levels row conv (here (spot_at t at) (table (model b) a)) [] ≡ Refused (kind e))
          × (table (model b) b ≡ table (model b) a)) → ⊥
      by (inl i) = o (ap Err i)
      by (inr f) = n (ap Err (deep_error e (ap (kind_of kinds.Other) (sym f.0 ∙ (here_too g h m ∙ d)))))

pub tells_deep : (b : Bool) (r : Reply) → b ≡ true → Tells b r → IsDeep r
tells_deep true r e t = t
tells_deep false r e t = absurd (cc)

pub tells_enough : (b : Bool) (r : Reply) → b ≡ false → Tells b r → r ≢ Refused kinds.Deep
tells_enough true r e t = absurd (cc)
tells_enough false r e t = t

-- ---- what tries tell
module _ (few most : ℕ) (reads : ℕ → Reply) where
  -- from so few on
  pub brackets : (low high : ℕ) → high ≤ most → low ≤ high → (high ≡ most) ⊎ (reads high ≢ Refused kinds.Deep)
      → (high ≡ few) ⊎ ((low < high) × IsDeep (reads low)) → Brackets few most low high reads
  brackets low high l o e b = record {
    within = l;
    order = o;
    enough = e;
    below = ⊎_elim (λ f. inl (omega (arith, f))) (λ d. inr d) b;
  }

  pub brackets_low : (low high middle : ℕ) → Brackets few most low high reads → low < middle → middle < high
      → IsDeep (reads middle) → Brackets few most middle high reads
  brackets_low low high middle b l h d = record {
    within = b.within;
    order = omega (arith, h);
    enough = b.enough;
    below = inr (h, d);
  }

  pub brackets_high : (low high middle : ℕ) → Brackets few most low high reads → low < middle → middle < high
      → reads middle ≢ Refused kinds.Deep → Brackets few most low middle reads
  brackets_high low high middle b l h d = record {
    within = let w = b.within in omega (arith, w, h);
    order = omega (arith, l);
    enough = inr d;
    below = ⊎_elim (λ f. inl (omega (arith, f, h))) (λ e. inr (l, e.1)) b.below;
  }

  pub brackets_end : (low high : ℕ) → Brackets few most low high reads → high - low ≤ 1 → Needs few most high reads
  brackets_end low high b n = record {
    within = b.within;
    enough = b.enough;
    needed = λ less e. ⊎_elim (λ f. inl f)
        (λ d. let l = d.0 in let is : less ≡ low = omega (arith, e, l, n) in
        inr (subst (λ k. IsDeep (reads k)) (sym is) d.1))
        b.below;
  }

-- ---- the whole reading
-- where the text is the input's at its index
pub same_place : (t : Text) (p : Spot) (at : ℕ) → at ≡ p.index → drop p.index t.bytes.now ≡ p.left → spot_at t at ≡ p
same_place t p at i l =
    ap (λ k. spot_at t k) i ∙ ap (λ bs. let q : Spot = record { index = p.index; left = bs } in q) l

pub needs_here : (row : Row) (few levels left n : ℕ) (conv on : Bool) (t : Text) (at : ℕ) (p : Spot) (whole : Table)
    → levels ≡ left → conv ≡ on → spot_at t at ≡ p → Needs few levels n (read_at row conv t at whole)
    → Needs few left n (λ m. cread m row on (here p whole) [])
needs_here row few levels left n conv on t at p whole l c q k =
    subst (λ r. Needs few left n (λ m. cread m row on (here r whole) [])) q
    (subst (λ b. Needs few left n (read_at row b t at whole)) c
    (subst (λ j. Needs few j n (read_at row conv t at whole)) l k))

module _ {X : Type 0} (tree : X → Core) (row : Row) (old new : Context) (input : IndexStr) (whole behind : Table)
    (a : Result (X × IndexStr) Error) (levels : ℕ) where
  abbrev Reads : ℕ → Reply
  Reads n = cread n row old.conversion (here (spot input) whole) []

  pub answers_all : (few : ℕ) → Needs few (levels_left old) levels Reads
      → AnswersOrOutOfMemory tree a behind (Reads levels) → AnswersOrOutOfMemory tree a behind (Reads (levels_left old))
  answers_all few n h =
      ⊎_elim (λ e. subst (λ k. AnswersOrOutOfMemory tree a behind (Reads k)) e h)
      (λ d. subst (AnswersOrOutOfMemory tree a behind)
      (sym (same row old.conversion (spot input) whole levels (levels_left old) n.within d)) h)
      n.enough

  pub deepens_all : (few : ℕ) → old.level + few ≡ max old.level old.deepest → Needs few (levels_left old) levels Reads
      → new ≡ raised (old.level + levels) old → AnswersOrOutOfMemory tree a behind (Reads levels)
      → Deepens row old new input a whole
  deepens_all few k n e h i = ap (λ c. c.deepest) e ∙ by levels refl
    where
      reads : Reads levels ≢ Refused kinds.Deep
      reads = read_ends tree a behind (Reads levels) i h

      most : levels_of row old.conversion (state_at (spot input) whole) ≤ levels
      most = enough row old.conversion (spot input) whole levels reads

      by : (m : ℕ) → levels ≡ m
          → max old.deepest (old.level + levels)
          ≡ max old.deepest (reach old.level row old.conversion (state_at (spot input) whole))
      by zero z = let l = most in omega (arith, z, l)
      by (suc less) z =
          ⊎_elim (λ f. let l = most in omega (arith, z, k, f, l))
          (λ d.
          let same : levels_of row old.conversion (state_at (spot input) whole) ≡ levels =
          depth_is row old.conversion (spot input) whole levels reads
          (λ m y. let q : m ≡ less = omega (arith, z, y) in subst (λ j. IsDeep (Reads j)) (sym q) d) in
          ap (λ j. max old.deepest (old.level + j)) (sym same))
          (n.needed less z)
