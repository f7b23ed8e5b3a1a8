-- What holds of the name of each declaration.
use Rattle.std.specs.Prelude.{◌≡◌, ℕ, true, false, List, [], None, Some, length, slice_get}
use Rattle.demangle_core.specs.Core.{Core, Tag, N}
use Rattle.demangle_core.specs.Core as core
use Rattle.demangle_grammar.specs.Tree.{reference}
use Rattle.demangle_printing.specs.Trees.{with_table}
use Rattle.demangle_core.specs.Table.{size, empty_table}
use Rattle.demangle_grammar.specs.Rule.{Row}
use Rattle.demangle_grammar.specs.Code.{Here, here, Found, cread}
use Rattle.demangle_printing.specs.Outcome.{Options, outcome, Shown, outcome_of, printed}
use Rattle.cpp_mangle.specs.Declarations.{PlainDecl, PlainType, is_decl, mangled, decl_text, type_text, entities}

-- the options of printing by default
abbrev pub plain_options : Options
plain_options = record {
  limit = 128;
  no_params = false;
  no_return_type = false;
  hide_expression_literal_types = false;
  output_limit = None;
}

-- It is shown as the declaration's text.
abbrev pub AreShown : Type 0
AreShown = (d : PlainDecl) → is_decl d ≡ true → outcome 96 plain_options (mangled d) ≡ Shown (decl_text d)

-- the k-th numbered component by itself
abbrev pub component : ℕ → Core
component k = core.node Tag.MangledNameTopLevelType (reference N k) core.end

-- The name is read under the limits by default, with as many numbered components as the declaration has entities, and
-- each is shown as its entity's text.
abbrev pub NumbersEntities : List ℕ → PlainDecl → Type 0
NumbersEntities name d = (tree : Core) × (m : Here)
    × (cread 95 Row.mangled_name false (here (record { index = 0; left = name }) empty_table) [] ≡ Found tree m)
    × (size N m.table ≡ length (entities d))
    × ((k : ℕ) (q : PlainType) → slice_get (entities d) k ≡ Some q →
    outcome_of (printed (with_table m.table name) plain_options (component k)) ≡ Shown (type_text q))

-- So each entity that repeats is written as a reference.
abbrev pub AreNumbered : Type 0
AreNumbered = (d : PlainDecl) → is_decl d ≡ true → NumbersEntities (mangled d) d
