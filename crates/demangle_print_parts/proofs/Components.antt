-- What a reference to a component looks like; and that a component is no builtin type by itself.
use Rattle.std.proofs.Common.{◌≡◌, ℕ, Bool, true, false, List, [], ◌∷◌, Option, Some, None, refl, sym, ◌∙◌, ap}
use Rattle.demangle_core.specs.Core.{Core, Tag, N, end, node, place, number, flag, chosen, ref, mark}
use Rattle.demangle_core.specs.Table.{Table, entry_at}
use Rattle.demangle_leaf_nodes.specs.TreeLeaves.{parts_of_unscoped_template_name, tag_of_unscoped_template_name}
use Rattle.demangle_nodes.specs.declared.nodes.Expression.{Expression}
use Rattle.demangle_nodes.specs.declared.nodes.Expression.TheVariants as of_expression
use Rattle.demangle_nodes.specs.TreeNodes.{parts_of_expression, tag_of_expression}
use Rattle.demangle_entries.specs.declared.entries.Prefix.{Prefix}
use Rattle.demangle_entries.specs.declared.entries.Prefix.TheVariants as of_prefix
use Rattle.demangle_entries.specs.declared.entries.UnresolvedType.{UnresolvedType}
use Rattle.demangle_entries.specs.declared.entries.UnresolvedType.TheVariants as of_unresolved
use Rattle.demangle_entries.specs.declared.entries.TypeNode.{TypeNode}
use Rattle.demangle_entries.specs.declared.entries.TypeNode.TheVariants as of_node
use Rattle.demangle_entries.specs.declared.entries.Substitutable.{Substitutable}
use Rattle.demangle_entries.specs.declared.entries.Substitutable.TheVariants as of_component
use Rattle.demangle_entries.specs.TreeEntries.{tree_of_substitutable, parts_of_prefix, parts_of_type_node}
use Rattle.demangle_entries.specs.TreeEntries.{parts_of_unresolved_type, tag_of_prefix, tag_of_type_node}
use Rattle.demangle_entries.specs.TreeEntries.{tag_of_unresolved_type}
use Rattle.demangle_printing.specs.World.{World, find, nth, part_in, parts_seen, see}
use Rattle.demangle_printing.specs.World as seen
use Rattle.demangle_printing.specs.Rules.{is_seen_word}
use Rattle.demangle_printing.specs.Trees.{look_component, look_in, trees_of}
use Rattle.demangle_meets.specs.Place.{Refers, world_of}

-- what holds this builtin type, by itself
abbrev pub is_builtin : World Core → Core → ℕ → Bool
is_builtin w x k = is_seen_word 1 k (see w (find w (Some x) (0 ∷ 0 ∷ [])))

-- The first of these parts is no word, and they refer to nothing.
abbrev is_plain : Core → Bool
is_plain (chosen t k n) = false
is_plain (ref w k n) = false
is_plain (mark i n) = false
is_plain _ = true

plain_parts : (table : Table) (input : List ℕ) (t : Tag) (c : Core) → is_plain c ≡ true →
    look_in table input (node t c end) ≡ seen.node t (trees_of c)
plain_parts table input t end e = refl
plain_parts table input t (node u d n) e = refl
plain_parts table input t (place i j n) e = refl
plain_parts table input t (number v n) e = refl
plain_parts table input t (flag b n) e = refl
plain_parts table input t (chosen u k n) e = absurd (cc e)
plain_parts table input t (ref w k n) e = absurd (cc e)
plain_parts table input t (mark i n) e = absurd (cc e)

no_word_there : (k : ℕ) (o : Option Core) → is_seen_word 1 k (look_component o) ≡ false
no_word_there k None = refl
no_word_there k (Some end) = refl
no_word_there k (Some (node u d n)) = refl
no_word_there k (Some (place i j n)) = refl
no_word_there k (Some (number v n)) = refl
no_word_there k (Some (flag b n)) = refl
no_word_there k (Some (chosen u j n)) = refl
no_word_there k (Some (ref w j n)) = refl
no_word_there k (Some (mark i n)) = refl

-- a node is no word, nor what it refers to
pub no_word : (k : ℕ) (r : Refers) (t : Tag) (c : Core) →
    is_seen_word 1 k (look_in r.table r.input (node t c end)) ≡ false
no_word k r t end = refl
no_word k r t (node u d n) = refl
no_word k r t (place i j n) = refl
no_word k r t (number v n) = refl
no_word k r t (flag b n) = refl
no_word k r t (chosen u j n) = refl
no_word k r t (ref w j n) = no_word_there k (entry_at w j r.table)
no_word k r t (mark i n) = refl

no_first_word : (k : ℕ) (r : Refers) (c : Core) → is_plain c ≡ true →
    is_seen_word 1 k (see (world_of r) (nth 0 (trees_of c))) ≡ false
no_first_word k r end e = refl
no_first_word k r (node u d n) e = no_word k r u d
no_first_word k r (place i j n) e = refl
no_first_word k r (number v n) e = refl
no_first_word k r (flag b n) e = refl
no_first_word k r (chosen u j n) e = absurd (cc e)
no_first_word k r (ref w j n) e = absurd (cc e)
no_first_word k r (mark i n) e = absurd (cc e)

-- a node of one part, which has plain parts
no_builtin_in : (k : ℕ) (r : Refers) (s t : Tag) (c : Core) → is_plain c ≡ true →
    is_builtin (world_of r) (node s (node t c end) end) k ≡ false
no_builtin_in k r s t c e =
    ap (λ v. is_seen_word 1 k (see (world_of r) (nth 0 (parts_seen v)))) (plain_parts r.table r.input t c e)
    ∙ no_first_word k r c e

plain_node : (x : TypeNode) → is_plain (parts_of_type_node x) ≡ true
plain_node (of_node.Function a) = refl
plain_node (of_node.ClassEnum a) = refl
plain_node (of_node.Array a) = refl
plain_node (of_node.Vector a) = refl
plain_node (of_node.PointerToMember a) = refl
plain_node (of_node.TemplateParam a) = refl
plain_node (of_node.TemplateTemplate a b) = refl
plain_node (of_node.Decltype a) = refl
plain_node (of_node.Qualified a b) = refl
plain_node (of_node.VendorExtension a b c) = refl
plain_node (of_node.PointerTo a) = refl
plain_node (of_node.LvalueRef a) = refl
plain_node (of_node.RvalueRef a) = refl
plain_node (of_node.Complex a) = refl
plain_node (of_node.Imaginary a) = refl
plain_node (of_node.PackExpansion a) = refl

plain_prefix : (x : Prefix) → is_plain (parts_of_prefix x) ≡ true
plain_prefix (of_prefix.Unqualified a) = refl
plain_prefix (of_prefix.Nested a b) = refl
plain_prefix (of_prefix.Template a b) = refl
plain_prefix (of_prefix.TemplateParam a) = refl
plain_prefix (of_prefix.Decltype a) = refl
plain_prefix (of_prefix.DataMember a b) = refl

plain_unresolved : (x : UnresolvedType) → is_plain (parts_of_unresolved_type x) ≡ true
plain_unresolved (of_unresolved.Template a b) = refl
plain_unresolved (of_unresolved.Decltype a) = refl

plain_expression : (x : Expression) → is_plain (parts_of_expression x) ≡ true
unfolding parts_of_expression
plain_expression (of_expression.Unary' _ _ _) = refl
plain_expression (of_expression.Binary' _ _ _ _ _) = refl
plain_expression (of_expression.Ternary' _ _ _ _ _ _ _) = refl
plain_expression (of_expression.PrefixInc' _ _) = refl
plain_expression (of_expression.PrefixDec' _ _) = refl
plain_expression (of_expression.Call' _ _ _ _) = refl
plain_expression (of_expression.ConversionOne' _ _ _) = refl
plain_expression (of_expression.ConversionMany' _ _ _) = refl
plain_expression (of_expression.ConversionBraced' _ _ _) = refl
plain_expression (of_expression.BracedInitList' _ _) = refl
plain_expression (of_expression.New' _ _ _ _) = refl
plain_expression (of_expression.GlobalNew' _ _ _ _) = refl
plain_expression (of_expression.NewArray' _ _ _ _) = refl
plain_expression (of_expression.GlobalNewArray' _ _ _ _) = refl
plain_expression (of_expression.Delete' _ _) = refl
plain_expression (of_expression.GlobalDelete' _ _) = refl
plain_expression (of_expression.DeleteArray' _ _) = refl
plain_expression (of_expression.GlobalDeleteArray' _ _) = refl
plain_expression (of_expression.DynamicCast' _ _ _) = refl
plain_expression (of_expression.StaticCast' _ _ _) = refl
plain_expression (of_expression.ConstCast' _ _ _) = refl
plain_expression (of_expression.ReinterpretCast' _ _ _) = refl
plain_expression (of_expression.TypeidType _) = refl
plain_expression (of_expression.TypeidExpr' _ _) = refl
plain_expression (of_expression.SizeofType _) = refl
plain_expression (of_expression.SizeofExpr' _ _) = refl
plain_expression (of_expression.AlignofType _) = refl
plain_expression (of_expression.AlignofExpr' _ _) = refl
plain_expression (of_expression.Noexcept' _ _) = refl
plain_expression (of_expression.Subobject' _ _ _ _) = refl
plain_expression (of_expression.TemplateParam _) = refl
plain_expression (of_expression.FunctionParam _) = refl
plain_expression (of_expression.Member' _ _ _ _) = refl
plain_expression (of_expression.DerefMember' _ _ _ _) = refl
plain_expression (of_expression.PointerToMember' _ _ _ _) = refl
plain_expression (of_expression.SizeofTemplatePack _) = refl
plain_expression (of_expression.SizeofFunctionPack _) = refl
plain_expression (of_expression.SizeofCapturedTemplatePack' _ _) = refl
plain_expression (of_expression.PackExpansion' _ _) = refl
plain_expression (of_expression.Fold _) = refl
plain_expression (of_expression.Throw' _ _) = refl
plain_expression of_expression.Rethrow = refl
plain_expression (of_expression.UnresolvedName _) = refl
plain_expression (of_expression.Primary _) = refl

no_builtin_component : (k : ℕ) (r : Refers) (s : Substitutable) →
    is_builtin (world_of r) (tree_of_substitutable s) k ≡ false
no_builtin_component k r (of_component.UnscopedTemplateName a) =
    no_builtin_in k r Tag.SubstitutableUnscopedTemplateName (tag_of_unscoped_template_name a)
    (parts_of_unscoped_template_name a) refl
no_builtin_component k r (of_component.TypeNode a) =
    no_builtin_in k r Tag.SubstitutableTypeNode (tag_of_type_node a) (parts_of_type_node a) (plain_node a)
no_builtin_component k r (of_component.TemplateTemplateParam a) = refl
no_builtin_component k r (of_component.UnresolvedType a) =
    no_builtin_in k r Tag.SubstitutableUnresolvedType (tag_of_unresolved_type a) (parts_of_unresolved_type a)
    (plain_unresolved a)
no_builtin_component k r (of_component.Prefix a) =
    no_builtin_in k r Tag.SubstitutablePrefix (tag_of_prefix a) (parts_of_prefix a) (plain_prefix a)
no_builtin_component k r (of_component.Expression a) =
    no_builtin_in k r Tag.SubstitutableExpression (tag_of_expression a.value) (parts_of_expression a.value)
    (plain_expression a.value)

-- ---- what refers to a component
pub component_looks : (r : Refers) (i : ℕ) (s : Substitutable) → Some (tree_of_substitutable s) ≡ entry_at N i r.table →
    look_in r.table r.input (node Tag.BackReference (ref N i end) end)
    ≡ look_in r.table r.input (tree_of_substitutable s)
component_looks r i s e = sym (ap look_component e) ∙ by s
  where
    by : (s : Substitutable) → look_component (Some (tree_of_substitutable s))
        ≡ look_in r.table r.input (tree_of_substitutable s)
    by (of_component.UnscopedTemplateName a) = refl
    by (of_component.TypeNode a) = refl
    by (of_component.TemplateTemplateParam a) = refl
    by (of_component.UnresolvedType a) = refl
    by (of_component.Prefix a) = refl
    by (of_component.Expression a) = refl

pub nothing_looks : (r : Refers) (i : ℕ) → None ≡ entry_at N i r.table →
    look_in r.table r.input (node Tag.BackReference (ref N i end) end) ≡ seen.nothing
nothing_looks r i e = sym (ap look_component e)

pub no_builtin_found : (k : ℕ) (r : Refers) (i : ℕ) (s : Substitutable) →
    Some (tree_of_substitutable s) ≡ entry_at N i r.table →
    false ≡ is_builtin (world_of r) (node Tag.BackReference (ref N i end) end) k
no_builtin_found k r i s e =
    sym (ap (λ v. is_seen_word 1 k (see (world_of r) (part_in (world_of r) 0 (nth 0 (parts_seen v)))))
    (component_looks r i s e) ∙ no_builtin_component k r s)

pub no_builtin_there : (k : ℕ) (r : Refers) (i : ℕ) → None ≡ entry_at N i r.table →
    false ≡ is_builtin (world_of r) (node Tag.BackReference (ref N i end) end) k
no_builtin_there k r i e =
    sym (ap (λ v. is_seen_word 1 k (see (world_of r) (part_in (world_of r) 0 (nth 0 (parts_seen v)))))
    (nothing_looks r i e))
