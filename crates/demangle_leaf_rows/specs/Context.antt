-- What contracts see of a context of reading, and what a reader of a row answers in one.
use Rattle.std.specs.Prelude.{◌≡◌, ℕ, suc, ◌-◌, max, Bool, Result}
use Rattle.demangle_text.specs.declared.index_str.IndexStr.{IndexStr}
use Rattle.demangle_text.specs.declared.error.Error.{Error}
use Rattle.demangle_core.specs.Core.{Core}
use Rattle.demangle_grammar.specs.Rule.{Row}
use Rattle.demangle_leaf_rows.specs.Answers.{AnswersLeaf, AnswersLeafOrOutOfMemory}

-- the limit on levels, the level that was entered last, whether a conversion operator's type is being read, and the
-- deepest level that was entered
pub record Context : Type 0 where
  pub limit : ℕ
  pub level : ℕ
  pub conversion : Bool
  pub deepest : ℕ

-- the deepest level raised to this one, where it is deeper
abbrev pub raised : ℕ → Context → Context
raised to c = record { limit = c.limit; level = c.level; conversion = c.conversion; deepest = max c.deepest to }

-- all but the deepest level is as before
abbrev pub Keeps : (old new : Context) → Type 0
Keeps old new = (new.limit ≡ old.limit) × (new.level ≡ old.level) × (new.conversion ≡ old.conversion)

-- how many levels may still be entered
abbrev pub levels_left : Context → ℕ
levels_left c = c.limit - suc c.level

-- as a row is read with the levels that are left and the flag
abbrev pub AnswersInContext : {X : Type 0} → (X → Core) → Row → Context → IndexStr → Result (X × IndexStr) Error
    → Type 0
AnswersInContext tree row c input result = AnswersLeaf tree row (levels_left c) c.conversion input result

-- the same, where memory may be wanting
abbrev pub AnswersInContextOrOutOfMemory : {X : Type 0} → (X → Core) → Row → Context → IndexStr
    → Result (X × IndexStr) Error → Type 0
AnswersInContextOrOutOfMemory tree row c input result =
    AnswersLeafOrOutOfMemory tree row (levels_left c) c.conversion input result
