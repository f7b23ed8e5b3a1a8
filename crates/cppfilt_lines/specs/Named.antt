-- What a name is whose text is shown.
use Rattle.std.specs.Prelude.{◌≡◌, ℕ, ◌-◌, List, [], true, false}
use Rattle.demangle_grammar.specs.Rule.{Row}
use Rattle.demangle_grammar.specs.Tree.{Tree, nil, spell, core, Sound}
use Rattle.demangle_grammar.specs.Rows.{rule}
use Rattle.demangle_grammar.specs.Reading.{State}
use Rattle.demangle_grammar.specs.Fits.{Fits}
use Rattle.demangle_grammar.specs.Laws.{Reads, from}
use Rattle.demangle_printing.specs.Outcome.{Options, Shown, outcome, outcome_of, printed}
use Rattle.demangle_printing.specs.Trees.{with_table}
use Rattle.cppfilt_lines.specs.Shown.{is_asked}
use Rattle.cppfilt_lines.specs.declared.options.FilterOptions.{FilterOptions}

-- The ordered reading under the limit gives a tree for the whole name. The tree fits the rows, spells the name, and
-- its references name components by the order in which they were completed; the text is what is printed of its core.
pub record IsNamed (parse_limit : ℕ) (o : Options) (name text : List ℕ) : Type 0 where
  pub tree : Tree
  pub end : State
  pub reads : Reads (parse_limit - 1) Row.mangled_name false (from name) end tree
  pub fits : Fits (from name) (rule Row.mangled_name) nil tree
  pub spells : spell tree ≡ name
  pub sound : Sound [] tree
  pub prints : outcome_of (printed (with_table end.entries name) o (core tree)) ≡ Shown text

-- of bytes that are asked and have a text
abbrev pub IsNamedWhenShown : FilterOptions → List ℕ → Type 0
IsNamedWhenShown o bytes = (text : List ℕ) → is_asked o bytes ≡ true → outcome o.parse o.print bytes ≡ Shown text →
    IsNamed o.parse o.print bytes text
