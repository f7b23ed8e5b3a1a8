-- References to components that are there.
use Rattle.std.specs.Prelude.{◌<◌, List, [], ◌∷◌, ◌++◌}
use Rattle.demangle_core.specs.Core.{Core, end, node, place, number, flag, chosen, ref, mark}
use Rattle.demangle_core.specs.Table.{Entry, Table, count}

-- Each reference is to one of these components.
abbrev pub RefersTo : List Entry → Core → Type 0
RefersTo e end = Unit {0}
RefersTo e (node t c n) = RefersTo e c × RefersTo e n
RefersTo e (place i j n) = RefersTo e n
RefersTo e (number v n) = RefersTo e n
RefersTo e (flag b n) = RefersTo e n
RefersTo e (chosen t k n) = RefersTo e n
RefersTo e (ref w k n) = (k < count w e) × RefersTo e n
RefersTo e (mark i n) = RefersTo e n

-- Each of the entries that come after e refers to those before it alone.
abbrev pub ReferBack : List Entry → List Entry → Type 0
ReferBack e [] = Unit {0}
ReferBack e (x ∷ xs) = RefersTo e x.tree × ReferBack (e ++ x ∷ []) xs

-- A tree with its table: entries refer to earlier entries, and the tree to entries that are there.
abbrev pub RefsSound : Table → Core → Type 0
RefsSound t c = ReferBack [] t × RefersTo t c
