-- The rows of expressions in the parts that functions read (ABI section 5.1.6).
use Rattle.std.specs.Prelude.{ℕ, zero, suc, Bool, true, false, ◌||◌, ◌&&◌, ◌==◌, nat_le, if◌then◌else◌, ℤ, pos}
use Rattle.std.specs.Prelude.{List, [], ◌∷◌, ◌++◌, drop, length, codes, Result, Ok, Err}
use Rattle.demangle_core.specs.Core.{Core, Tag, node, end, number}
use Rattle.demangle_text.specs.Kind.{Kind, Unread, End, Text}
use Rattle.demangle_text.specs.Kind as kind
use Rattle.demangle_text.specs.Spot.{Spot}
use Rattle.demangle_text.specs.Word.{starts, word_at}
use Rattle.demangle_text.specs.Number.{number_from}
use Rattle.demangle_grammar.specs.Rule.{Row, Cond}
use Rattle.demangle_grammar.specs.Items.{◌·◌, ◌//◌, r, w, t, e, made, need, commit, vec, absent, present}
use Rattle.demangle_grammar.specs.Reading.{any_starts, no_digit, arity_in}
use Rattle.demangle_grammar.specs.Code.{joined, at, Go, Here, Reply, Refused, Out, Yes, No, close}
use Rattle.demangle_grammar.specs.Code.{or_else, and_then, from_row, read_spot, read_leaf, cread}
use Rattle.demangle_grammar.specs.Parts.{alone, behind, else_row, first_word, else_word}
use Rattle.demangle_forms.specs.WordForms.{either, or_text}

-- ---- what an expression begins with, where that is a word of its own
-- What stands behind the word: an expression, a type, a type and an expression, an object and the name of its member,
-- or a form that one word alone has. The tag is that of the node.
pub data Head : Type 0 where
  of_expression : Tag → Head
  of_type : Tag → Head
  cast : Tag → Head
  member : Tag → Head
  call conversion braces list subobject pointer pack captured rethrow : Head

abbrev pub prefix_words : List (List ℕ × Head)
prefix_words =
    (codes "pp_", Head.of_expression Tag.ExpressionPrefixInc)
    ∷ (codes "mm_", Head.of_expression Tag.ExpressionPrefixDec) ∷ []

abbrev pub call_words : List (List ℕ × Head)
call_words =
    (codes "cl", Head.call) ∷ (codes "cv", Head.conversion) ∷ (codes "tl", Head.braces) ∷ (codes "il", Head.list) ∷ []

abbrev pub cast_words : List (List ℕ × Head)
cast_words =
    (codes "dc", Head.cast Tag.ExpressionDynamicCast) ∷ (codes "sc", Head.cast Tag.ExpressionStaticCast)
    ∷ (codes "cc", Head.cast Tag.ExpressionConstCast) ∷ (codes "rc", Head.cast Tag.ExpressionReinterpretCast) ∷ []

abbrev pub query_words : List (List ℕ × Head)
query_words =
    (codes "ti", Head.of_type Tag.ExpressionTypeidType) ∷ (codes "te", Head.of_expression Tag.ExpressionTypeidExpr)
    ∷ (codes "st", Head.of_type Tag.ExpressionSizeofType)
    ∷ (codes "sz", Head.of_expression Tag.ExpressionSizeofExpr)
    ∷ (codes "at", Head.of_type Tag.ExpressionAlignofType)
    ∷ (codes "az", Head.of_expression Tag.ExpressionAlignofExpr)
    ∷ (codes "nx", Head.of_expression Tag.ExpressionNoexcept) ∷ []

abbrev pub member_words : List (List ℕ × Head)
member_words =
    (codes "so", Head.subobject) ∷ (codes "dt", Head.member Tag.ExpressionMember)
    ∷ (codes "pt", Head.member Tag.ExpressionDerefMember) ∷ (codes "ds", Head.pointer) ∷ (codes "sZ", Head.pack)
    ∷ (codes "sP", Head.captured) ∷ (codes "sp", Head.of_expression Tag.ExpressionPackExpansion)
    ∷ (codes "tw", Head.of_expression Tag.ExpressionThrow) ∷ (codes "tr", Head.rethrow) ∷ []

unfoldable pub prefix_word_at : Spot → Result (Head × Spot) Kind
prefix_word_at p = first_word prefix_words p

unfoldable pub call_word_at : Spot → Result (Head × Spot) Kind
call_word_at p = first_word call_words p

unfoldable pub cast_word_at : Spot → Result (Head × Spot) Kind
cast_word_at p = first_word cast_words p

unfoldable pub query_word_at : Spot → Result (Head × Spot) Kind
query_word_at p = first_word query_words p

unfoldable pub member_word_at : Spot → Result (Head × Spot) Kind
member_word_at p = first_word member_words p

-- which of all these words stands at the front, and the place behind it
unfoldable pub expression_word_at : Spot → Result (Head × Spot) Kind
expression_word_at p =
    either (prefix_word_at p) (either (call_word_at p) (either (cast_word_at p)
    (either (query_word_at p) (member_word_at p))))

-- ---- what stands behind a word
unfoldable pub of_expression_at : Tag → Go → Bool → Here → Out
of_expression_at x go c s = alone (e · made x) go c s

unfoldable pub of_type_at : Tag → Go → Bool → Here → Out
of_type_at x go c s = alone (t · made x) go c s

unfoldable pub cast_at : Tag → Go → Bool → Here → Out
cast_at x go c s = alone (t · e · made x) go c s

unfoldable pub access_at : Tag → Go → Bool → Here → Out
access_at x go c s = alone (e · r Row.member_name · made x) go c s

unfoldable pub call_at : Go → Bool → Here → Out
call_at go c s = alone (e · vec e · w "E" · made Tag.ExpressionCall) go c s

unfoldable pub conversion_at : Go → Bool → Here → Out
conversion_at go c s =
    alone (t · (w "_" · commit · vec e · w "E" · made Tag.ExpressionConversionMany
    // e · made Tag.ExpressionConversionOne)) go c s

unfoldable pub braces_at : Go → Bool → Here → Out
braces_at go c s = alone (t · vec e · w "E" · made Tag.ExpressionConversionBraced) go c s

unfoldable pub list_at : Go → Bool → Here → Out
list_at go c s = alone (vec e · w "E" · made Tag.ExpressionBracedInitList) go c s

unfoldable pub subobject_at : Go → Bool → Here → Out
subobject_at go c s = alone (r Row.subobject_expr · made Tag.ExpressionSubobject) go c s

unfoldable pub member_pointer_at : Go → Bool → Here → Out
member_pointer_at go c s = alone (e · e · made Tag.ExpressionPointerToMember) go c s

unfoldable pub sizeof_pack_at : Go → Bool → Here → Out
sizeof_pack_at go c s =
    alone (r Row.template_param · made Tag.ExpressionSizeofTemplatePack
    // r Row.function_param · made Tag.ExpressionSizeofFunctionPack) go c s

unfoldable pub captured_pack_at : Go → Bool → Here → Out
captured_pack_at go c s =
    alone (vec (r Row.template_arg) · w "E" · made Tag.ExpressionSizeofCapturedTemplatePack) go c s

abbrev pub rethrow_at : Go → Bool → Here → Out
rethrow_at go c s = alone (made Tag.ExpressionRethrow) go c s

abbrev pub worded_at : Head → Go → Bool → Here → Out
worded_at (Head.of_expression x) go c s = of_expression_at x go c s
worded_at (Head.of_type x) go c s = of_type_at x go c s
worded_at (Head.cast x) go c s = cast_at x go c s
worded_at (Head.member x) go c s = access_at x go c s
worded_at Head.call go c s = call_at go c s
worded_at Head.conversion go c s = conversion_at go c s
worded_at Head.braces go c s = braces_at go c s
worded_at Head.list go c s = list_at go c s
worded_at Head.subobject go c s = subobject_at go c s
worded_at Head.pointer go c s = member_pointer_at go c s
worded_at Head.pack go c s = sizeof_pack_at go c s
worded_at Head.captured go c s = captured_pack_at go c s
worded_at Head.rethrow go c s = rethrow_at go c s

-- ---- new and delete
-- A word, and what stands behind it. There is no mark: what fails here may be an operator with its operands.
unfoldable pub new_at : List ℕ → Tag → Go → Bool → Here → Out
new_at v x go c s =
    read_spot (word_at v s.spot) (λ p. alone (vec e · w "_" · t
    · (w "E" · commit · absent // present (r Row.initializer)) · made x) go c (at s p))

unfoldable pub delete_at : List ℕ → Tag → Go → Bool → Here → Out
delete_at v x go c s = read_spot (word_at v s.spot) (λ p. alone (e · made x) go c (at s p))

-- the tags of the nodes that the four forms make
pub record Allocations : Type 0 where
  pub new : Tag
  pub new_array : Tag
  pub delete : Tag
  pub delete_array : Tag

abbrev pub plain_forms : Allocations
plain_forms = record {
  new = Tag.ExpressionNew;
  new_array = Tag.ExpressionNewArray;
  delete = Tag.ExpressionDelete;
  delete_array = Tag.ExpressionDeleteArray;
}

abbrev pub global_forms : Allocations
global_forms = record {
  new = Tag.ExpressionGlobalNew;
  new_array = Tag.ExpressionGlobalNewArray;
  delete = Tag.ExpressionGlobalDelete;
  delete_array = Tag.ExpressionGlobalDeleteArray;
}

abbrev pub four_forms : Allocations → Go → Bool → Here → Out
four_forms x go c s =
    or_else (new_at (codes "nw") x.new go c s) (λ _. or_else (new_at (codes "na") x.new_array go c s) (λ _.
    or_else (delete_at (codes "dl") x.delete go c s) (λ _. delete_at (codes "da") x.delete_array go c s)))

unfoldable pub allocation_at : Allocations → Go → Bool → Here → Out
allocation_at x go c s =
    if nat_le 2 (length s.spot.left) then four_forms x go c s else No false (Unread End)

-- the same behind `gs`
unfoldable pub global_allocation_at : Go → Bool → Here → Out
global_allocation_at go c s =
    read_spot (word_at (codes "gs") s.spot) (λ p. allocation_at global_forms go c (at s p))

-- ---- operators
-- an operator that was read, and one, two or three operands behind it
unfoldable pub unary_at : Core → Go → Bool → Here → Out
unary_at x go c s = behind (e · made Tag.ExpressionUnary) go c s (x ∷ [])

unfoldable pub binary_at : Core → Go → Bool → Here → Out
binary_at x go c s = behind (e · e · made Tag.ExpressionBinary) go c s (x ∷ [])

unfoldable pub ternary_at : Core → Go → Bool → Here → Out
ternary_at x go c s = behind (e · e · e · made Tag.ExpressionTernary) go c s (x ∷ [])

-- as many as the operator takes
unfoldable pub operands_at : Core → Go → Bool → Here → Out
operands_at x go c s =
    if arity_in x == 1 then unary_at x go c s
    else (if arity_in x == 2 then binary_at x go c s
    else (if arity_in x == 3 then ternary_at x go c s else No false (Unread Text)))

unfoldable pub operators_at : Go → Bool → Here → Reply
operators_at go c s = close (from_row (go Row.operator_name c s []) (λ m x. operands_at x go c m))

-- ---- the alternatives of an expression
-- names, literals, and operators with their operands
unfoldable pub references_at : Go → Bool → Here → Reply
references_at go c s =
    else_row (alone (r Row.unresolved_name · made Tag.ExpressionUnresolvedName) go c s) (λ _.
    else_row (alone (r Row.expr_primary · made Tag.ExpressionPrimary) go c s) (λ _. operators_at go c s))

-- new and delete, parameters, and the rest
unfoldable pub names_at : Go → Bool → Here → Reply
names_at go c s =
    else_row (global_allocation_at go c s) (λ _. else_row (allocation_at plain_forms go c s) (λ _.
    else_row (alone (r Row.template_param · made Tag.ExpressionTemplateParam) go c s) (λ _.
    else_row (alone (r Row.function_param · made Tag.ExpressionFunctionParam) go c s) (λ _. references_at go c s))))

-- whether a fold begins here
unfoldable pub fold_next : List ℕ → Bool
fold_next bs =
    any_starts (codes "fl" ∷ codes "fr" ∷ codes "fR" ∷ []) bs || (starts (codes "fL") bs && no_digit (drop 2 bs))

abbrev pub fold_or_name_at : Go → Bool → Here → Reply
fold_or_name_at go c s =
    if fold_next s.spot.left then close (alone (r Row.fold_expr · made Tag.ExpressionFold) go c s) else names_at go c s

unfoldable pub expression_at : Go → Bool → Here → Reply
expression_at go c s =
    else_word (expression_word_at s.spot) (λ x p. close (worded_at x go c (at s p))) (λ _. fold_or_name_at go c s)

unfoldable pub expression_row : ℕ → Bool → Here → Reply
expression_row zero c s = Refused kind.Deep
expression_row (suc f) c s = expression_at (cread f) c s

-- ---- a part of an object
-- the offset, which is 0 where no number stands
abbrev pub offset_or_zero : Result (ℤ × Spot) Kind → Spot → ℤ × Spot
offset_or_zero (Ok x) p = x
offset_or_zero (Err k) p = (pos 0, p)

unfoldable pub offset_at : Spot → ℤ × Spot
offset_at p = offset_or_zero (number_from 10 true p) p

abbrev pub subobject_end : Here → List Core → Out
subobject_end s acc =
    read_spot (word_at (codes "E") (offset_at s.spot).1) (λ p. Yes (at s p)
    (node Tag.SubobjectExpr (joined (acc ++ number (offset_at s.spot).0 end ∷ [])) end ∷ []))

unfoldable pub subobject_expr_row : ℕ → Bool → Here → Reply
subobject_expr_row zero c s = Refused kind.Deep
subobject_expr_row (suc f) c s =
    close (from_row (cread f Row.type_handle c s []) (λ m x.
    from_row (cread f Row.expression c m []) (λ n y. subobject_end n (x ∷ y ∷ []))))

-- ---- folds
-- how many expressions stand behind the operator, and the tag of the node
pub data Fold : Type 0 where
  one : Tag → Fold
  two : Tag → Fold

abbrev pub fold_words : List (List ℕ × Fold)
fold_words =
    (codes "l", Fold.one Tag.FoldExprUnaryLeft) ∷ (codes "r", Fold.one Tag.FoldExprUnaryRight)
    ∷ (codes "L", Fold.two Tag.FoldExprBinaryLeft) ∷ (codes "R", Fold.two Tag.FoldExprBinaryRight) ∷ []

unfoldable pub fold_word_at : Spot → Result (Fold × Spot) Kind
fold_word_at p = or_text (first_word fold_words p)

-- an operator that takes two operands
unfoldable pub fold_operator_at : Go → Bool → Here → Out
fold_operator_at go c s = alone (r Row.simple_operator_name · need (Cond.arity 2)) go c s

-- the expressions behind the operator
abbrev pub folded_by : Fold → Go → Bool → Here → List Core → Out
folded_by (Fold.one x) go c s acc = behind (e · made x) go c s acc
folded_by (Fold.two x) go c s acc = behind (e · e · made x) go c s acc

unfoldable pub folded_at : Fold → Core → Go → Bool → Here → Out
folded_at x operator go c s = folded_by x go c s (operator ∷ [])

abbrev pub fold_from : Go → Bool → Here → Fold → Spot → Out
fold_from go c s x p = and_then (fold_operator_at go c (at s p)) (λ m b. folded_at x (joined b) go c m)

unfoldable pub fold_expr_row : ℕ → Bool → Here → Reply
fold_expr_row zero c s = Refused kind.Deep
fold_expr_row (suc f) c s =
    close (read_spot (word_at (codes "f") s.spot) (λ p. read_leaf (fold_word_at p)
    (λ x q. fold_from (cread f) c s x q)))
