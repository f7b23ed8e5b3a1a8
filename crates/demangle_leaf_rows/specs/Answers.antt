-- What a reader of a row answers.
use Rattle.std.specs.Prelude.{◌≡◌, ◌⊎◌, ℕ, Bool, [], Result, Ok, Err}
use Rattle.demangle_text.specs.Kind.{kind}
use Rattle.demangle_text.specs.Spot.{spot}
use Rattle.demangle_text.specs.declared.index_str.IndexStr.{IndexStr}
use Rattle.demangle_text.specs.declared.error.Error.{Error}
use Rattle.demangle_text.specs.declared.error.Error.TheVariants.{OutOfMemory}
use Rattle.demangle_core.specs.Core.{Core}
use Rattle.demangle_core.specs.Table.{Table}
use Rattle.demangle_grammar.specs.Rule.{Row}
use Rattle.demangle_grammar.specs.Code.{here, Reply, Found, Refused, cread}

-- The tree that the row's reading answers, the rest behind it, and the table as it was; or an error of the
-- reading's kind.
abbrev pub Answers : {X : Type 0} → (X → Core) → Result (X × IndexStr) Error → Table → Reply → Type 0
Answers tree (Ok x) table reply = reply ≡ Found (tree x.0) (here (spot x.1) table)
Answers tree (Err e) table reply = reply ≡ Refused (kind e)

-- the same, where memory may be wanting
abbrev pub AnswersOrOutOfMemory : {X : Type 0} → (X → Core) → Result (X × IndexStr) Error → Table → Reply → Type 0
AnswersOrOutOfMemory tree (Ok x) table reply = reply ≡ Found (tree x.0) (here (spot x.1) table)
AnswersOrOutOfMemory tree (Err e) table reply = (e ≡ OutOfMemory) ⊎ (reply ≡ Refused (kind e))

-- with so many levels left, the conversion flag, and this table
abbrev pub AnswersRow : {X : Type 0} → (X → Core) → Row → (levels : ℕ) → Bool → IndexStr
    → Result (X × IndexStr) Error → Table → Type 0
AnswersRow tree row levels conversion input result table =
    Answers tree result table (cread levels row conversion (here (spot input) table) [])

-- whatever the table is: for a row that looks at no component and adds none
abbrev pub AnswersLeaf : {X : Type 0} → (X → Core) → Row → (levels : ℕ) → Bool → IndexStr
    → Result (X × IndexStr) Error → Type 0
AnswersLeaf tree row levels conversion input result =
    (table : Table) → AnswersRow tree row levels conversion input result table

-- the same, where memory may be wanting
abbrev pub AnswersLeafOrOutOfMemory : {X : Type 0} → (X → Core) → Row → (levels : ℕ) → Bool → IndexStr
    → Result (X × IndexStr) Error → Type 0
AnswersLeafOrOutOfMemory tree row levels conversion input result =
    (table : Table) → AnswersOrOutOfMemory tree result table (cread levels row conversion (here (spot input) table) [])
