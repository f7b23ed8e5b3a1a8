-- The trees that no cell is needed for: the indexes below `first_cell` and those from `first_reference` on stand for
-- the same trees in every arena.
use Rattle.std.specs.Prelude.{ℕ, ◌-◌, ◌/◌, ◌%◌, Bool, true, false, nat_lt, nat_eq, if◌then◌else◌, pos}
use Rattle.demangle_core.specs.Core.{Core, Tag, end, node, number, flag, chosen, N, U}
use Rattle.demangle_grammar.specs.Tree.{reference}
use Rattle.demangle_cells.specs.declared.constants.WordTable.{WordTable}
use Rattle.demangle_cells.specs.declared.constants.WordTable.TheVariants as of_table

abbrev pub first_cell : ℕ
first_cell = 2304

abbrev pub first_reference : ℕ
first_reference = 1073741824

abbrev pub first_other : ℕ
first_other = 2147483648

-- ---- trees by a number
abbrev pub number_of_table : WordTable → ℕ
number_of_table of_table.Operators = 0
number_of_table of_table.Builtins = 1
number_of_table of_table.Components = 2
number_of_table of_table.RefQualifiers = 3
number_of_table of_table.ExplicitObjects = 4

abbrev pub bit : ℕ → ℕ → Bool
bit size k = nat_eq ((k / size) % 2) 1

-- all qualifiers of a type, each a bit
abbrev pub qualifiers_tree : ℕ → Core
qualifiers_tree k = node Tag.CvQualifiers (flag (bit 4 k) (flag (bit 2 k) (flag (nat_eq (k % 2) 1) end))) end

-- a part that is not there
abbrev pub absent : Core
absent = node Tag.Absent end end

-- the type of a builtin word, without its handle and with it
abbrev pub standard_tree : ℕ → Core
standard_tree w = node Tag.BuiltinTypeStandard (chosen 1 w end) end

abbrev pub builtin_tree : ℕ → Core
builtin_tree w = node Tag.TypeHandleBuiltin (standard_tree w) end

abbrev pub single_tree : ℕ → Core
single_tree k =
    if nat_eq k 0 then flag false end else
    if nat_eq k 1 then flag true end else
    if nat_eq k 2 then absent else
    if nat_eq k 3 then number (pos 0) end else
    if nat_eq k 4 then node Tag.Several end end else
    if nat_lt k 8 then node Tag.AbiTags (node Tag.Several end end) end else
    if nat_lt k 16 then qualifiers_tree k else
    node Tag.Present (chosen 3 (k - 16) end) end

-- ---- the blocks of constants, 256 each: the words of the tables 0 to 4, and then the builtin types without their
-- handles, the single trees, the operators that are words, the builtin types. The parts of each stand before it.
abbrev pub block_tree : ℕ → ℕ → Core
block_tree b w =
    if nat_lt b 5 then chosen b w end else
    if nat_eq b 5 then standard_tree w else
    if nat_eq b 6 then single_tree w else
    if nat_eq b 7 then node Tag.OperatorNameSimple (chosen 0 w end) end else
    builtin_tree w

unfoldable pub constant : ℕ → Core
constant k = block_tree (k / 256) (k % 256)

-- every index that is no cell's
unfoldable pub fixed : ℕ → Core
fixed k =
    if nat_lt k first_cell then constant k else
    if nat_lt k first_other then reference N (k - first_reference) else reference U (k - first_other)
