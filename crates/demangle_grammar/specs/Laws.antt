-- What holds of each reading. A row is read from a state, which holds the index, the bytes that are left and the
-- entries of both lists so far; `nil` says that no parts were read before it.
use Rattle.std.specs.Prelude.{◌≡◌, ◌≢◌, ℕ, suc, false, ◌∷◌, codes, ◌+◌, ◌-◌, ◌<◌, ◌≤◌, ◌↔◌, Bool, true, List, []}
use Rattle.std.specs.Prelude.{◌++◌, length, Some}
use Rattle.demangle_core.specs.Table.{Entry, cut, sizes, Table, entry_at, empty_table}
use Rattle.demangle_core.specs.Core.{Core, end, node, place, ref, ◌⊕◌, Tag, Which, N, U}
use Rattle.demangle_grammar.specs.Rule.{Row}
use Rattle.demangle_grammar.specs.Tree.{Tree, trees, cores, reference, core, nil, spell, components, Sound}
use Rattle.demangle_core.specs.Sound.{RefersTo, ReferBack, RefsSound}
use Rattle.demangle_grammar.specs.Rows.{rule}
use Rattle.demangle_grammar.specs.Reading.{State, Answer, Yes, No, Deep, read_from, read_all, levels_of}
use Rattle.demangle_grammar.specs.Fits.{Fits}
use Rattle.demangle_grammar.specs.Sound.{IsSoundFor, IsSoundTable, StandsAt, IsComponent, EachEntry}
use Rattle.demangle_grammar.specs.Expand.{IsExpanded, expand_upto, expand}
use Rattle.demangle_grammar.specs.Expand as expanded
use Rattle.demangle_grammar.specs.First.{takes_row, first, idle, Misses}
use Rattle.demangle_grammar.specs.Code.{Here, here, Found, joined, cread}
use Rattle.demangle_grammar.specs.Seen.{seen, replied}

-- a reading with so many levels left that answers this tree, and the state behind it
abbrev pub Reads : ℕ → Row → Bool → State → State → Tree → Type 0
Reads left row conv s t tree = read_from trees left row conv s nil ≡ Yes t tree

-- ---- what a tree that was read is
-- It spells just the bytes that were read.
abbrev pub Spells : Type 0
Spells = (left : ℕ) (row : Row) (conv : Bool) (s t : State) (tree : Tree) → Reads left row conv s t tree →
    s.rest ≡ spell tree ++ t.rest

-- The index goes with the bytes.
abbrev pub GoesOn : Type 0
GoesOn = (left : ℕ) (row : Row) (conv : Bool) (s t : State) (tree : Tree) → Reads left row conv s t tree →
    s.at + length (spell tree) ≡ t.at

-- It fits the rows: a check on the finished tree, with no order of alternatives, no level and no trial.
abbrev pub IsFit : Type 0
IsFit = (left : ℕ) (row : Row) (conv : Bool) (s t : State) (tree : Tree) → Reads left row conv s t tree →
    Fits s (rule row) nil tree

-- The entries are the old ones, followed by the cores of its components.
abbrev pub AddsComponents : Type 0
AddsComponents = (left : ℕ) (row : Row) (conv : Bool) (s t : State) (tree : Tree) → Reads left row conv s t tree →
    t.entries ≡ s.entries ++ components tree

-- Its components are numbered by their positions, and each of its references is to one that was there before.
abbrev pub IsSound : Type 0
IsSound = (left : ℕ) (row : Row) (conv : Bool) (s t : State) (tree : Tree) → Reads left row conv s t tree →
    Sound s.entries tree

-- Where each entry refers to earlier ones alone, so it is after the reading, and the core refers to entries that are
-- there.
abbrev pub RefersBack : Type 0
RefersBack = (left : ℕ) (row : Row) (conv : Bool) (s t : State) (tree : Tree) → Reads left row conv s t tree →
    ReferBack [] s.entries →
    ReferBack [] t.entries × RefersTo t.entries (core tree)

-- Read in an input, from entries that are sound for it, the core is sound for it, and so are the entries behind the
-- reading: each place lies in the input and holds bytes that its row reads, each function type has a result, and
-- each entry is of its kind. What is left may end before the input does, as within a name of so many bytes.
abbrev pub ReadsSound : Type 0
ReadsSound = (input : List ℕ) (left : ℕ) (row : Row) (conv : Bool) (s t : State) (tree : Tree) →
    Reads left row conv s t tree → StandsAt input s.at s.rest →
    IsSoundTable input s.entries → IsSoundFor input t.entries (core tree)

-- What is sound for an input is sound in its references.
abbrev pub SoundRefers : Type 0
SoundRefers = (input : List ℕ) (table : Table) (tree : Core) → IsSoundFor input table tree → RefsSound table tree

-- ---- expanding
-- Where references are sound, expanding follows each of them: more steps than there are entries change nothing.
abbrev pub FollowsReferences : Type 0
FollowsReferences = (table : Table) (input : List ℕ) (tree : Core) (most : ℕ) → RefsSound table tree →
    length table ≤ most → expand_upto most table input tree ≡ expand table input tree

-- In place of a reference and its handle stands the expanded tree of its entry in the node of its kind.
abbrev pub ExpandsEntries : Type 0
ExpandsEntries = (table : Table) (input : List ℕ) (handle kind : Tag) (w : Which) (k : ℕ) (entry m more next : Core) →
    ReferBack [] table → entry_at w k table ≡ Some (node kind entry more) →
    expand table input (node handle (ref w k m) next)
    ≡ expanded.node kind (expand table input entry) (expand table input next)

-- Where each entry is a component's node, no reference leads to nothing.
abbrev pub ExpandsAll : Type 0
ExpandsAll = (table : Table) (input : List ℕ) (tree : Core) → RefsSound table tree → EachEntry IsComponent table →
    IsExpanded (expand table input tree)

-- ---- two names
-- from the first of these bytes, with no entries
abbrev pub from : List ℕ → State
from bytes = record { at = 0; rest = bytes; entries = [] }

abbrev pub components_read : Answer Tree → List Entry
components_read (Yes s tree) = components tree
components_read _ = []

-- a plain source name whose bytes stand from one index up to another
abbrev pub source_name : (start stop : ℕ) → Core
source_name i j =
    node Tag.UnqualifiedNameSource
    (node Tag.SourceName (node Tag.Identifier (place i j end) end) (node Tag.AbiTags (node Tag.Several end end) end))
    end

abbrev pub class_type : Core → Core
class_type name =
    node Tag.SubstitutableTypeNode
    (node Tag.TypeNodeClassEnum
    (node Tag.ClassEnumTypeNamed (node Tag.NameUnscoped (node Tag.UnscopedNameUnqualified name end) end) end) end)
    end

abbrev pub pointer : Core → Core
pointer to = node Tag.SubstitutableTypeNode (node Tag.TypeNodePointerTo to end) end

abbrev pub first_prefix : Core → Core
first_prefix name = node Tag.SubstitutablePrefix (node Tag.PrefixUnqualified name end) end

abbrev pub nested_prefix : (prefix name : Core) → Core
nested_prefix p name = node Tag.SubstitutablePrefix (node Tag.PrefixNested (p ⊕ name) end) end

-- The components of the tree of `P1a` are the class type `a` and then the pointer to it, both in the first list.
abbrev pub CompletesPointer : Type 0
CompletesPointer = components_read (read_all Row.type_handle false (from (codes "P1a")))
    ≡ record { which = N; tree = class_type (source_name 2 3) }
    ∷ record { which = N; tree = pointer (reference N 0) } ∷ []

-- Those of `_ZN1a1bEv` are the prefix `a` in the first list, and `a::b` in the second.
abbrev pub CompletesPrefixes : Type 0
CompletesPrefixes = components_read (read_all Row.mangled_name false (from (codes "_ZN1a1bEv")))
    ≡ record { which = N; tree = first_prefix (source_name 4 5) }
    ∷ record { which = U; tree = nested_prefix (reference N 0) (source_name 6 7) } ∷ []

-- ---- limits
-- With no limit a reading isn't Deep.
abbrev pub Ends : Type 0
Ends = (row : Row) (conv : Bool) (s : State) → read_all row conv s ≢ Deep

-- A reading that isn't Deep is the reading with no limit.
abbrev pub HasNoLimit : Type 0
HasNoLimit = (left : ℕ) (row : Row) (conv : Bool) (s : State) → read_from trees left row conv s nil ≢ Deep →
    read_from trees left row conv s nil ≡ read_all row conv s

-- from level n, under a limit
abbrev pub read : (limit n : ℕ) → Row → Bool → State → Answer Tree
read limit n row conv s = read_from trees (limit - suc n) row conv s nil

-- the deepest level that the reading with no limit enters
abbrev pub reach : (n : ℕ) → Row → Bool → State → ℕ
reach n row conv s = n + levels_of row conv s

-- From a level below the limit the reading is Deep just where `reach` is at least the limit; else it is the reading
-- with no limit.
abbrev pub IsLimited : Type 0
IsLimited = (limit n : ℕ) (row : Row) (conv : Bool) (s : State) → n < limit →
    ((read limit n row conv s ≡ Deep) ↔ (limit ≤ reach n row conv s))
    × ((reach n row conv s < limit) → read limit n row conv s ≡ read_all row conv s)

-- ---- what a row can begin with
abbrev pub IsRefused : Answer Tree → Type 0
IsRefused (No hard kind) = Unit {0}
IsRefused _ = ⊥

-- Where nothing is left, or the next byte isn't one with which the row can begin, it is refused, and goes `idle`
-- levels deep.
abbrev pub IsIdle : Type 0
IsIdle = (n : ℕ) (row : Row) (conv : Bool) (s : State) → takes_row row ≡ true → Misses (first row) s.rest →
    IsRefused (read_all row conv s) × (reach n row conv s ≡ n + idle row)

-- ---- cores alone
abbrev pub cored : Answer Tree → Answer Core
cored (Yes s a) = Yes s (core a)
cored (No h k) = No h k
cored Deep = Deep

-- A reading of cores is the reading of trees, and then their cores.
abbrev pub ReadsCores : Type 0
ReadsCores = (left : ℕ) (row : Row) (conv : Bool) (s : State) (a : Tree) →
    cored (read_from trees left row conv s a) ≡ read_from cores left row conv s (core a)

-- ---- the program's reading
-- It is the reading of cores.
abbrev pub ReadsCode : Type 0
ReadsCode = (left : ℕ) (row : Row) (conv : Bool) (s : State) (parts : List Core) →
    replied (read_from cores left row conv s (joined parts)) ≡ cread left row conv (seen s) parts

-- from here it finds this core, and goes on from there
abbrev pub Finds : ℕ → Row → Bool → Here → List Core → Core → Here → Type 0
Finds left row conv h parts x m = cread left row conv h parts ≡ Found x m

-- A cut back to the lengths before the reading gives the old entries back.
abbrev pub GivesBack : Type 0
GivesBack = (left : ℕ) (row : Row) (conv : Bool) (h m : Here) (parts : List Core) (x : Core) →
    Finds left row conv h parts x m → cut (sizes h.table) m.table ≡ h.table

-- What is found in an input, from a table that is sound for it, is sound for it.
abbrev pub FindsSound : Type 0
FindsSound = (input : List ℕ) (left : ℕ) (row : Row) (conv : Bool) (h m : Here) (x : Core) →
    Finds left row conv h [] x m → StandsAt input h.spot.index h.spot.left →
    IsSoundTable input h.table → IsSoundFor input m.table x

-- So what is found at the front of an input, with no components before it, is sound for the input.
abbrev pub NameIsSound : Type 0
NameIsSound = (input : List ℕ) (left : ℕ) (row : Row) (conv : Bool) (m : Here) (x : Core) →
    Finds left row conv (here (record { index = 0; left = input }) empty_table) [] x m → IsSoundFor input m.table x

-- A row that has no empty spelling takes a byte.
abbrev pub TakesByte : Type 0
TakesByte = (left : ℕ) (row : Row) (conv : Bool) (h m : Here) (parts : List Core) (x : Core) → takes_row row ≡ true →
    Finds left row conv h parts x m → length m.spot.left < length h.spot.left

-- Nothing is left that wasn't there before.
abbrev pub NoLonger : Type 0
NoLonger = (left : ℕ) (row : Row) (conv : Bool) (h m : Here) (parts : List Core) (x : Core) →
    Finds left row conv h parts x m → length m.spot.left ≤ length h.spot.left

-- The index goes with the bytes.
abbrev pub KeepsIndex : Type 0
KeepsIndex = (left : ℕ) (row : Row) (conv : Bool) (h m : Here) (parts : List Core) (x : Core) →
    Finds left row conv h parts x m → h.spot.index + length h.spot.left ≡ m.spot.index + length m.spot.left
