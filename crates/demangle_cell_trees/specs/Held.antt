-- What is printed for a node, by its tag.
use Rattle.std.specs.Prelude.{ℕ, ◌==◌, ◌||◌, ◌&&◌, nat_le, nat_lt, Bool, if◌then◌else◌}
use Rattle.demangle_core.specs.Core.{Tag}
use Rattle.demangle_printing.specs.Rules as rules
use Rattle.demangle_printing.specs.Rules.{as_handle, as_optional}
use Rattle.demangle_cell_trees.specs.declared.held.Holding.{Holding}
use Rattle.demangle_cell_trees.specs.declared.held.Holding.TheVariants as of_holding

abbrev pub of_handle_tag : rules.Holding → Holding
of_handle_tag rules.itself = of_holding.Itself
of_handle_tag rules.its_part = of_holding.Part
of_handle_tag rules.no_tree = of_holding.Nothing

abbrev pub of_optional_tag : rules.Holding → Holding → Holding
of_optional_tag rules.itself h = h
of_optional_tag rules.its_part h = of_holding.Optional
of_optional_tag rules.no_tree h = of_holding.Nothing

abbrev pub held_as : Tag → Holding
held_as t = of_optional_tag (as_optional t) (of_handle_tag (as_handle t))

-- by the number of the tag
abbrev pub is_holder : ℕ → Bool
is_holder n = (n == 3) || ((nat_le 25 n && nat_lt n 27) || (nat_le 205 n && nat_lt n 211))

abbrev pub held_code : ℕ → Holding
held_code n =
    if n == 0 then of_holding.Optional else
    if n == 1 then of_holding.Nothing else
    if is_holder n then of_holding.Part else of_holding.Itself

-- a tag whose node is printed itself; there are more
abbrev pub is_plain : ℕ → Bool
is_plain n = (nat_lt 3 n && nat_lt n 25) || (nat_lt 26 n && nat_lt n 205)
