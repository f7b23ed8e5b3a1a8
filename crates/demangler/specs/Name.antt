-- What a name that was read is: the tree that the ordered reading without a limit gives for its bytes, which fits the
-- rows of the grammar, spells the bytes and is sound.
use Rattle.std.specs.Prelude.{◌≡◌, ℕ, true, false, List, [], ◌++◌, length}
use Rattle.demangle_core.specs.Core.{Core}
use Rattle.demangle_core.specs.Table.{Table}
use Rattle.demangle_text.specs.Kind.{kind}
use Rattle.demangle_text.specs.declared.error.Error.{Error}
use Rattle.demangle_text.specs.declared.error.Error.TheVariants.{OutOfMemory}
use Rattle.demangle_grammar.specs.Rule.{Row}
use Rattle.demangle_grammar.specs.Rows.{rule}
use Rattle.demangle_grammar.specs.Tree.{Tree, nil, core, spell, components, Sound}
use Rattle.demangle_grammar.specs.Reading.{Yes, read_all}
use Rattle.demangle_grammar.specs.Fits.{Fits}
use Rattle.demangle_grammar.specs.Sound.{IsSoundFor}
use Rattle.demangle_grammar.specs.Laws.{from}
use Rattle.demangle_grammar.specs.Code.{Reply, Found, Refused, Here, here}
use Rattle.demangler.specs.Answer.{is_of_name}
use Rattle.demangle_read.specs.Reading.{reading}
use Rattle.demangler.specs.Contents.{Contents}

-- At the front of the bytes stands a name of this tree and these components, and so much is left behind it. `name` is
-- the tree with all that was read of it.
pub record IsName (bytes left : List ℕ) (tree : Core) (table : Table) : Type 0 where
  pub name : Tree
  -- the ordered reading without a limit
  pub reads : read_all Row.mangled_name false (from bytes)
      ≡ Yes (record { at = length (spell name); rest = left; entries = table }) name
  pub is : core name ≡ tree
  -- it fits the rows and spells the bytes
  pub fits : Fits (from bytes) (rule Row.mangled_name) nil name
  pub spells : bytes ≡ spell name ++ left
  -- its references are to components that were completed before, and the components are its own
  pub refers : Sound [] name
  pub components_are : table ≡ components name

-- Such a name is what a symbol holds; each reference, in the tree and in the table, is to an entry that was inserted
-- earlier, over both lists.
pub record IsSymbol (s : Contents) : Type 0 where
  pub left : List ℕ
  pub name : IsName s.bytes left s.tree s.table
  pub sound : IsSoundFor s.bytes s.table s.tree

-- ---- what the calls answer
-- The symbol is of these bytes; the name at their front was read under the limit, and so much is left behind it.
pub record IsRead (limit : ℕ) (bytes left : List ℕ) (s : Contents) : Type 0 where
  pub bytes_are : s.bytes ≡ bytes
  pub end : ℕ
  pub reads : reading limit bytes ≡ Found s.tree (here (record { index = end; left = left }) s.table)
  pub name : IsName bytes left s.tree s.table
  pub sound : IsSoundFor bytes s.table s.tree

-- Why there is no symbol: a call for a front says so by the reading, one for a whole name by the reading in which no
-- bytes may be left.
abbrev pub IsRefused : Reply → Error → Type 0
IsRefused reply OutOfMemory = Unit {0}
IsRefused reply e = (reply ≡ Refused (kind e)) × (is_of_name e ≡ true)

-- Where there is memory, the reading finds no name, or leaves bytes behind it.
abbrev pub IsNotWhole : Reply → Error → Type 0
IsNotWhole reply OutOfMemory = Unit {0}
IsNotWhole reply e = (tree : Core) (end : Here) → reply ≡ Found tree end → end.spot.left ≡ [] → ⊥
