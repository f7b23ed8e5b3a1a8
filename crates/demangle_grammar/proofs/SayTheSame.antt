-- Names that differ only in how a component is reached have one expanded tree, by computation.
use Rattle.std.specs.Prelude.{◌≡◌, true, false, Bool, List, [], ◌∷◌, ℕ, codes}
use Rattle.std.proofs.Common.{refl}
use Rattle.demangle_core.specs.Core.{Tag, N, U}
use Rattle.demangle_core.specs.Core as core
use Rattle.demangle_core.specs.Table.{Table, entry_at}
use Rattle.demangle_grammar.specs.Rule.{Row}
use Rattle.demangle_grammar.specs.Rows.{rule}
use Rattle.demangle_grammar.specs.Tree.{Tree, core}
use Rattle.demangle_grammar.specs.Reading.{Answer, Yes, run_rule, read_from, read_all, is_empty}
use Rattle.demangle_grammar.specs.Expand.{Expanded, end, node, bytes, nothing, expand}
use Rattle.demangle_grammar.specs.Laws.{from}

-- ---- small trees
-- the first entry is the place of two bytes, the second a pointer to the first
abbrev two : Table
two = record { which = N; tree = core.node Tag.SubstitutablePrefix (core.place 1 3 core.end) core.end }
    ∷ record { which = N; tree = core.node Tag.TypeNodePointerTo (core.node Tag.BackReference (core.ref N 0 core.end) core.end) core.end } ∷ []

-- A reference through another one, a place, an argument list's place.
expands_reference : expand two (7 ∷ 8 ∷ 9 ∷ []) (core.node Tag.BackReference (core.ref N 1 core.end) (core.mark 5 core.end))
    ≡ node Tag.TypeNodePointerTo (node Tag.SubstitutablePrefix (bytes (8 ∷ 9 ∷ []) end) end) end
unfolding expand entry_at
expands_reference = refl

-- a reference to what isn't there
expands_nothing : expand two [] (core.node Tag.NonSubstitution (core.ref U 0 core.end) core.end) ≡ nothing end
unfolding expand entry_at
expands_nothing = refl

-- ---- names
-- a whole name, expanded; `end` where it isn't read
abbrev expanded_answer : List ℕ → Answer Tree → Expanded
expanded_answer input (Yes s tree) = expand s.entries input (core tree)
expanded_answer input _ = end

abbrev expanded_name : List ℕ → Expanded
expanded_name input = expanded_answer input (read_all Row.mangled_name false (from input))

abbrev is_read : Answer Tree → Bool
is_read (Yes s tree) = is_empty s.rest
is_read _ = false

record SaySame (first second : List ℕ) : Type 0 where
  first_read : is_read (read_all Row.mangled_name false (from first)) ≡ true
  second_read : is_read (read_all Row.mangled_name false (from second)) ≡ true
  same : expanded_name first ≡ expanded_name second

-- a handle of a type
type : SaySame (codes "_Z1fP1aP1a") (codes "_Z1fP1aS0_")
unfolding read_from run_rule rule entry_at expand
type = record { first_read = refl; second_read = refl; same = refl }

class_type : SaySame (codes "_Z1f1a1a") (codes "_Z1f1aS_")
unfolding read_from run_rule rule entry_at expand
class_type = record { first_read = refl; second_read = refl; same = refl }

qualified_type : SaySame (codes "_Z1fPK1aPK1a") (codes "_Z1fPK1aS1_")
unfolding read_from run_rule rule entry_at expand
qualified_type = record { first_read = refl; second_read = refl; same = refl }

function_type : SaySame (codes "_Z1fPFv1aEPFv1aE") (codes "_Z1fPFv1aES1_")
unfolding read_from run_rule rule entry_at expand
function_type = record { first_read = refl; second_read = refl; same = refl }

template_parameter : SaySame (codes "_Z1fIiEvT_T_") (codes "_Z1fIiEvT_S0_")
unfolding read_from run_rule rule entry_at expand
template_parameter = record { first_read = refl; second_read = refl; same = refl }

nested_type : SaySame (codes "_Z1fN1a1bEN1a1bE") (codes "_Z1fN1a1bES0_")
unfolding read_from run_rule rule entry_at expand
nested_type = record { first_read = refl; second_read = refl; same = refl }

-- of a prefix
prefix : SaySame (codes "_Z1fN1a1bEN1a1cE") (codes "_Z1fN1a1bENS_1cE")
unfolding read_from run_rule rule entry_at expand
prefix = record { first_read = refl; second_read = refl; same = refl }

template_prefix : SaySame (codes "_Z1fN1a1bIiEEN1a1bIiEE") (codes "_Z1fN1a1bIiEENS_1bIiEE")
unfolding read_from run_rule rule entry_at expand
template_prefix = record { first_read = refl; second_read = refl; same = refl }

template_prefix_whole : SaySame (codes "_Z1fN1a1bIiEEN1a1bIiEE") (codes "_Z1fN1a1bIiEENS0_IiEE")
unfolding read_from run_rule rule entry_at expand
template_prefix_whole = record { first_read = refl; second_read = refl; same = refl }

-- of a template
template_name : SaySame (codes "_Z1f1aIiE1aIcE") (codes "_Z1f1aIiES_IcE")
unfolding read_from run_rule rule entry_at expand
template_name = record { first_read = refl; second_read = refl; same = refl }

-- the last prefix of a nested name is in the second list
last_prefix : SaySame (codes "_Z1fN1aIiE1bEN1aIiEE") (codes "_Z1fN1aIiE1bENS0_E")
unfolding read_from run_rule rule entry_at expand
last_prefix = record { first_read = refl; second_read = refl; same = refl }

-- so is the width of a type
width : SaySame (codes "_Z1fPDBLi8E_PDBLi8E_") (codes "_Z1fPDBLi8E_S_")
unfolding read_from run_rule rule entry_at expand
width = record { first_read = refl; second_read = refl; same = refl }

-- so is the name of a member
member_argument : SaySame (codes "_Z1fDTdtfp_1gI1aEE1a") (codes "_Z1fDTdtfp_1gI1aEES_")
unfolding read_from run_rule rule entry_at expand
member_argument = record { first_read = refl; second_read = refl; same = refl }

member : SaySame (codes "_Z1fDTdtfp_1gIiEEDTdtfp_1gIiEE") (codes "_Z1fDTdtfp_1gIiEES_")
unfolding read_from run_rule rule entry_at expand
member = record { first_read = refl; second_read = refl; same = refl }
