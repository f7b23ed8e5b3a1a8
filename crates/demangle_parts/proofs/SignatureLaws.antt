-- Laws on what a name's tree says of its parts.
use Rattle.std.proofs.Common.{◌≡◌, ◌∙◌, ℕ, Bool, true, false, not, List, [], ◌∷◌, length, map, get_or, Some, None}
use Rattle.std.proofs.Common.{Option, is_some, Vec, refl, sym, ap, arith}
use Rattle.std.specs.declared.alloc.Global.{Global}
use Rattle.demangle_core.specs.Core.{Core, Tag, end, node, trees}
use Rattle.demangle_core.specs.Lookups.{as_prefix, template_args}
use Rattle.demangle_core.specs.Table.{Table}
use Rattle.demangle_vocab.specs.declared.builtin.StandardBuiltinType.{StandardBuiltinType}
use Rattle.demangle_vocab.specs.declared.builtin.StandardBuiltinType.TheVariants as of_word
use Rattle.demangle_leaf_nodes.specs.declared.leaves.BareFunctionType.{BareFunctionType}
use Rattle.demangle_leaf_nodes.specs.declared.leaves.BuiltinType.{BuiltinType}
use Rattle.demangle_leaf_nodes.specs.declared.leaves.BuiltinType.TheVariants as of_builtin
use Rattle.demangle_leaf_nodes.specs.declared.leaves.CloneSuffix.{CloneSuffix}
use Rattle.demangle_leaf_nodes.specs.declared.leaves.TypeHandle.{TypeHandle}
use Rattle.demangle_leaf_nodes.specs.declared.leaves.TypeHandle.TheVariants as of_handle
use Rattle.demangle_leaf_nodes.specs.TreeLeaves.{parts_of_type_handle, tag_of_type_handle}
use Rattle.demangle_leaf_nodes.specs.TreeLeaves.{tree_of_builtin_type, tree_of_type_handle}
use Rattle.demangle_nodes.proofs.Parts.{encoding_data, encoding_function, mangled_name_encoding}
use Rattle.demangle_nodes.specs.declared.nodes.Encoding.{Encoding}
use Rattle.demangle_nodes.specs.declared.nodes.Encoding.TheVariants as encoding
use Rattle.demangle_nodes.specs.declared.nodes.LocalName.{LocalName}
use Rattle.demangle_nodes.specs.declared.nodes.MangledName.{MangledName}
use Rattle.demangle_nodes.specs.declared.nodes.MangledName.TheVariants as mangled
use Rattle.demangle_nodes.specs.declared.nodes.Name.{Name}
use Rattle.demangle_nodes.specs.declared.nodes.Name.TheVariants as name
use Rattle.demangle_nodes.specs.TreeNodes.{tree_of_encoding, tree_of_mangled_name, tree_of_name}
use Rattle.demangle_printing.specs.Trees.{trees_of}
use Rattle.demangle_parts.specs.Parts.{are_void, count, is_local, is_void, is_void_builtin, of_encoding, signature_of}
use Rattle.demangle_parts.specs.Parts.{without_result}
use Rattle.demangle_parts.specs.declared.kind.Kind.{Kind}
use Rattle.demangle_parts.specs.declared.kind.Kind.TheVariants as kind
use Rattle.demangle_parts.specs.declared.signature.Signature.{Signature}

-- ---- names
pub not-local : (x : Name) → ((a : LocalName) → x ≡ name.Local a → ⊥) → false ≡ is_local (tree_of_name x)
not-local (name.Local a) never = absurd (never a refl)
not-local x never = refl

-- ---- `void`
pub void-word : (x : StandardBuiltinType) → (x ≡ of_word.Void → ⊥)
    → false ≡ is_void_builtin (tree_of_builtin_type (of_builtin.Standard x))
void-word of_word.Void never = absurd (never refl)
void-word x never = refl

pub no-void-builtin : (x : BuiltinType) → ((a : StandardBuiltinType) → x ≡ of_builtin.Standard a → ⊥)
    → false ≡ is_void_builtin (tree_of_builtin_type x)
no-void-builtin (of_builtin.Standard a) never = absurd (never a refl)
no-void-builtin x never = refl

pub no-void : (x : TypeHandle) → ((a : BuiltinType) → x ≡ of_handle.Builtin a → ⊥)
    → false ≡ is_void (tree_of_type_handle x)
no-void (of_handle.Builtin a) never = absurd (never a refl)
no-void x never = refl

pub void-alone : (xs : List TypeHandle) (d : TypeHandle) → length xs ≡ 1
    → is_void (tree_of_type_handle (get_or xs 0 d)) ≡ are_void (map tree_of_type_handle xs)
void-alone [] d e = absurd (cc e)
void-alone (x ∷ []) d e = refl
void-alone (x ∷ y ∷ ys) d e = absurd (omega (arith, e))

pub no-void-alone : (xs : List TypeHandle) → (length xs ≡ 1 → ⊥) → false ≡ are_void (map tree_of_type_handle xs)
no-void-alone [] never = refl
no-void-alone (x ∷ []) never = absurd (never refl)
no-void-alone (x ∷ y ∷ ys) never = refl

-- ---- the types
pub map-without_result : {A B : Type 0} (f : A → B) (b : Bool) (xs : List A)
    → map f (without_result b xs) ≡ without_result b (map f xs)
map-without_result f true [] = refl
map-without_result f true (x ∷ xs) = refl
map-without_result f false xs = refl

trees_of-trees : {A : Type 0} (t : A → Tag) (p : A → Core) (xs : List A)
    → trees_of (trees t p xs) ≡ map (λ x. node (t x) (p x) end) xs
trees_of-trees t p [] = refl
trees_of-trees t p (x ∷ xs) = ap (λ l. node (t x) (p x) end ∷ l) (trees_of-trees t p xs)

-- ---- the encoding
abbrev signed : Kind → Bool → Option ℕ → Signature
signed k p a = record { kind = k; has_parts = p; arity = a }

abbrev for_function : Table → Name → List Core → Signature
for_function table n types = record {
  kind = kind.Function;
  has_parts = not (is_local (tree_of_name n));
  arity = Some (count (without_result (is_some (template_args as_prefix table (tree_of_name n))) types));
}

pub of-function : (table : Table) (x : Encoding) (n : Name) (types : BareFunctionType) → x ≡ encoding.Function n types
    → of_encoding table (tree_of_encoding x) ≡ record {
      kind = kind.Function;
      has_parts = not (is_local (tree_of_name n));
      arity = Some (count (without_result (is_some (template_args as_prefix table (tree_of_name n)))
          (map tree_of_type_handle types.0.items)));
    }
of-function table x n types e =
    ap (λ z. of_encoding table (tree_of_encoding z)) e
    ∙ ap (λ p. of_encoding table (node Tag.EncodingFunction p end)) (encoding_function n types)
    ∙ ap (λ l. for_function table n l) (trees_of-trees tag_of_type_handle parts_of_type_handle types.0.items)

pub of-data : (table : Table) (x : Encoding) (n : Name) → x ≡ encoding.Data n
    → of_encoding table (tree_of_encoding x)
    ≡ record { kind = kind.Data; has_parts = not (is_local (tree_of_name n)); arity = None }
of-data table x n e =
    ap (λ z. of_encoding table (tree_of_encoding z)) e
    ∙ ap (λ p. of_encoding table (node Tag.EncodingData p end)) (encoding_data n)

-- as the code puts it together
pub function-signature : (table : Table) (x : Encoding) (n : Name) (types : BareFunctionType) (l a : Bool)
    (slice : List TypeHandle) (k : ℕ) → x ≡ encoding.Function n types → l ≡ is_local (tree_of_name n)
    → a ≡ is_some (template_args as_prefix table (tree_of_name n)) → slice ≡ types.0.items
    → k ≡ count (without_result a (map tree_of_type_handle slice))
    → record { kind = kind.Function; has_parts = not l; arity = Some k } ≡ of_encoding table (tree_of_encoding x)
function-signature table x n types l a slice k e f g h c =
    let args = is_some (template_args as_prefix table (tree_of_name n)) in
    let same : k ≡ count (without_result args (map tree_of_type_handle types.0.items)) =
    c ∙ ap (λ b. count (without_result b (map tree_of_type_handle slice))) g
    ∙ ap (λ s. count (without_result args (map tree_of_type_handle s))) h in
    ap (λ b. signed kind.Function (not b) (Some k)) f
    ∙ ap (λ i. signed kind.Function (not (is_local (tree_of_name n))) (Some i)) same
    ∙ sym (of-function table x n types e)

pub data-signature : (table : Table) (x : Encoding) (n : Name) (l : Bool) → x ≡ encoding.Data n
    → l ≡ is_local (tree_of_name n)
    → record { kind = kind.Data; has_parts = not l; arity = None } ≡ of_encoding table (tree_of_encoding x)
data-signature table x n l e f = ap (λ b. signed kind.Data (not b) None) f ∙ sym (of-data table x n e)

-- ---- the whole name
pub of-mangled : (table : Table) (x : MangledName) (a : Encoding) (b : Vec CloneSuffix Global)
    → x ≡ mangled.Encoding a b
    → signature_of table (tree_of_mangled_name x) ≡ of_encoding table (tree_of_encoding a)
of-mangled table x a b e =
    ap (λ z. signature_of table (tree_of_mangled_name z)) e
    ∙ ap (λ p. signature_of table (node Tag.MangledNameEncoding p end)) (mangled_name_encoding a b)
