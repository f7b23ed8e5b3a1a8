-- What kind of node an item is, by the number of its tag.
use Rattle.std.proofs.Common.{◌≡◌, ℕ, Bool, true, false, ◌==◌, [], ◌∷◌, Some, refl, ap, ◌∙◌, sym}
use Rattle.demangle_core.specs.Core.{Core, Tag, code}
use Rattle.demangle_printing.specs.World.{World, Seen, find, listed, nothing, node, bytes, number, flag, word, nth, parts_seen}
use Rattle.demangle_printing.specs.Arrays.{is_array, is_array_tree, qualified_turn, turn_node}
use Rattle.demangle_printing.specs.Parameters.{any_set, is_kept_node, wants}
use Rattle.demangle_printing.specs.Rules.{as_handle, handle_seen, is_lvalue, is_rvalue, its_part, itself, of_handle, of_holding}
use Rattle.demangle_printing.specs.Rules.{tag_seen}
use Rattle.demangle_lines.specs.Shapes.{shape_in}
use Rattle.demangle_lines.specs.declared.tree.Shape.TheVariants as of_shape
use Rattle.demangle_lines_inner.specs.Kinds.{number_holds, number_turn, number_wants}

-- ---- the number of the tag
pub tag_node : (v : Seen Core) {n : ℕ} → of_shape.Node n ≡ shape_in v → n ≡ code (tag_seen v)
tag_node (node t xs) e = let k = e in cc
tag_node nothing e = absurd (cc e)
tag_node (bytes bs) e = absurd (cc e)
tag_node (number i) e = absurd (cc e)
tag_node (flag b) e = absurd (cc e)
tag_node (word t k) e = absurd (cc e)

pub tag_other : (v : Seen Core) → ((n : ℕ) → shape_in v ≡ of_shape.Node n → ⊥) → 1 ≡ code (tag_seen v)
tag_other (node t xs) h = absurd (h (code t) refl)
tag_other nothing h = refl
tag_other (bytes bs) h = refl
tag_other (number i) h = refl
tag_other (flag b) h = refl
tag_other (word t k) h = refl

-- ---- kept
pub kept_there : (w : World Core) (x : Core) (t : Tag) → (code t == 186) ≡ true →
    any_set w (listed w (find w (Some x) (0 ∷ []))) ≡ is_kept_node w x t
kept_there w x Tag.FunctionType e = refl
kept_there w x _ e = absurd (cc e)

pub kept_other : (w : World Core) (x : Core) (t : Tag) → (code t == 186) ≡ false → false ≡ is_kept_node w x t
kept_other w x Tag.FunctionType e = absurd (cc e)
kept_other w x _ e = refl

-- ---- parentheses and references
pub wants_code : (t : Tag) → number_wants (code t) ≡ wants t
wants_code Tag.PointerToMemberType = refl
wants_code Tag.TypeNodeQualified = refl
wants_code Tag.TypeNodePointerTo = refl
wants_code Tag.TypeNodeLvalueRef = refl
wants_code Tag.TypeNodeRvalueRef = refl
wants_code _ = refl

pub rvalue_code : (w : World Core) (t : Tag) → (code t == 199) ≡ is_rvalue w t
rvalue_code w Tag.TypeNodeRvalueRef = refl
rvalue_code w _ = refl

pub lvalue_code : (w : World Core) (t : Tag) → (code t == 198) ≡ is_lvalue w t
lvalue_code w Tag.TypeNodeLvalueRef = refl
lvalue_code w _ = refl

-- ---- arrays
pub array_code : (t : Tag) → (code t == 189) ≡ is_array t
array_code Tag.TypeNodeArray = refl
array_code _ = refl

holding_part : (t : Tag) → number_holds (code t) ≡ true → as_handle t ≡ its_part
holding_part Tag.TypeHandleBuiltin e = refl
holding_part Tag.TypeHandleQualifiedBuiltin e = refl
holding_part Tag.WellKnown e = refl
holding_part Tag.SubstitutableUnscopedTemplateName e = refl
holding_part Tag.SubstitutableTypeNode e = refl
holding_part Tag.SubstitutableTemplateTemplateParam e = refl
holding_part Tag.SubstitutableUnresolvedType e = refl
holding_part Tag.SubstitutablePrefix e = refl
holding_part Tag.SubstitutableExpression e = refl
holding_part _ e = absurd (cc e)

holding_itself : (t : Tag) → number_holds (code t) ≡ false → as_handle t ≡ itself
holding_itself Tag.TypeHandleBuiltin e = absurd (cc e)
holding_itself Tag.TypeHandleQualifiedBuiltin e = absurd (cc e)
holding_itself Tag.WellKnown e = absurd (cc e)
holding_itself Tag.SubstitutableUnscopedTemplateName e = absurd (cc e)
holding_itself Tag.SubstitutableTypeNode e = absurd (cc e)
holding_itself Tag.SubstitutableTemplateTemplateParam e = absurd (cc e)
holding_itself Tag.SubstitutableUnresolvedType e = absurd (cc e)
holding_itself Tag.SubstitutablePrefix e = absurd (cc e)
holding_itself Tag.SubstitutableExpression e = absurd (cc e)
holding_itself _ e = refl

pub handle_part : (w : World Core) (x : Core) (v : Seen Core) → number_holds (code (tag_seen v)) ≡ true →
    is_array_tree w (handle_seen w x v) ≡ is_array_tree w (nth 0 (parts_seen v))
handle_part w x (node t xs) e = ap (λ h. is_array_tree w (of_holding h x xs)) (holding_part t e)
handle_part w x nothing e = absurd (cc e)
handle_part w x (bytes bs) e = absurd (cc e)
handle_part w x (number i) e = absurd (cc e)
handle_part w x (flag b) e = absurd (cc e)
handle_part w x (word t k) e = absurd (cc e)

pub handle_itself : (w : World Core) (x : Core) (v : Seen Core) → w.look x ≡ v →
    number_holds (code (tag_seen v)) ≡ false → is_array_tree w (handle_seen w x v) ≡ is_array (tag_seen v)
handle_itself w x (node t xs) f e =
    ap (λ h. is_array_tree w (of_holding h x xs)) (holding_itself t e) ∙ ap (λ y. is_array (tag_seen y)) f
handle_itself w x (word t k) f e = ap (λ y. is_array (tag_seen y)) f
handle_itself w x nothing f e = refl
handle_itself w x (bytes bs) f e = refl
handle_itself w x (number i) f e = refl
handle_itself w x (flag b) f e = refl

pub turn_qualified : (w : World Core) (x : Core) (t : Tag) → (code t == 195) ≡ true →
    qualified_turn (is_array_tree w (of_handle w (find w (Some x) (1 ∷ [])))) ≡ turn_node w x t
turn_qualified w x Tag.TypeNodeQualified e = refl
turn_qualified w x _ e = absurd (cc e)

pub turn_other : (w : World Core) (x : Core) (t : Tag) → (code t == 195) ≡ false →
    number_turn (code t) ≡ turn_node w x t
turn_other w x Tag.TypeNodeQualified e = absurd (cc e)
turn_other w x Tag.ArrayTypeDimensionNumber e = refl
turn_other w x Tag.ArrayTypeDimensionExpression e = refl
turn_other w x Tag.ArrayTypeNoDimension e = refl
turn_other w x _ e = refl
