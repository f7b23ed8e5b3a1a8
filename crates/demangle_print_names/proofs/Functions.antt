-- The tree of a function, its name, and the first of its types.
use Rattle.std.proofs.Common.{◌≡◌, ◌&&◌, Bool, true, false, not, List, [], ◌∷◌, Option, Some, None, is_some, sym, ◌∙◌}
use Rattle.std.proofs.Common.{ap, subst}
use Rattle.demangle_core.specs.Core.{Core, Tag, end, node, trees}
use Rattle.demangle_leaf_nodes.specs.declared.leaves.BareFunctionType.{BareFunctionType}
use Rattle.demangle_leaf_nodes.specs.declared.leaves.TypeHandle.{TypeHandle}
use Rattle.demangle_leaf_nodes.specs.TreeLeaves.{parts_of_type_handle, tag_of_type_handle, tree_of_bare_function_type}
use Rattle.demangle_leaf_nodes.specs.TreeLeaves.{tree_of_type_handle}
use Rattle.demangle_nodes.proofs.Parts.{encoding_function}
use Rattle.demangle_nodes.specs.declared.nodes.Encoding.{Encoding}
use Rattle.demangle_nodes.specs.declared.nodes.Encoding.TheVariants.{Function}
use Rattle.demangle_nodes.specs.declared.nodes.Name.{Name}
use Rattle.demangle_nodes.specs.TreeNodes.{parts_of_name, tag_of_name, tree_of_encoding, tree_of_name}
use Rattle.demangle_printing.specs.World.{find, nth, parts}
use Rattle.demangle_printing.specs.Scope.{Scope}
use Rattle.demangle_printing.specs.Rules.{line_of}
use Rattle.demangle_meets.specs.Page.{Page}
use Rattle.demangle_meets.specs.Place.{Place, Refers, world_of}
use Rattle.demangle_meets.specs.Meets.{Meets, Prints}
use Rattle.demangle_meets.proofs.Acts.{meets_done}

abbrev pub function_of : Name → BareFunctionType → Core
function_of name types =
    node Tag.EncodingFunction (node (tag_of_name name) (parts_of_name name) (tree_of_bare_function_type types)) end

pub function_tree : (x : Encoding) (name : Name) (types : BareFunctionType) → x ≡ Function name types →
    tree_of_encoding x ≡ function_of name types
function_tree x name types e =
    ap tree_of_encoding e ∙ ap (λ k. node Tag.EncodingFunction k end) (encoding_function name types)

pub function_name : (r : Refers) (x : Encoding) (name : Name) (types : BareFunctionType) → x ≡ Function name types →
    find (world_of r) (Some (tree_of_encoding x)) (0 ∷ []) ≡ Some (tree_of_name name)
function_name r x name types e = ap (λ z. find (world_of r) (Some z) (0 ∷ [])) (function_tree x name types e)

-- ---- the first type, where there is one
pub first_printed : {p : Place} {a b : Page} (sc : Scope Core) (types : BareFunctionType) (x : TypeHandle)
    (others : List TypeHandle) → types.0.items ≡ x ∷ others → Prints p a b (tree_of_type_handle x) sc →
    Meets p a b (line_of (world_of p.refers)
    (find (world_of p.refers) (Some (tree_of_bare_function_type types)) (0 ∷ 0 ∷ [])) sc)
first_printed {p} {a} {b} sc types x others e d =
    subst
    (λ xs. Meets p a b
    (line_of (world_of p.refers) (nth 0 (parts (world_of p.refers)
    (node Tag.Several (trees tag_of_type_handle parts_of_type_handle xs) end))) sc))
    (sym e) d.meets

pub none_printed : {p : Place} {a : Page} (sc : Scope Core) (types : BareFunctionType) → types.0.items ≡ [] →
    Meets p a a (line_of (world_of p.refers)
    (find (world_of p.refers) (Some (tree_of_bare_function_type types)) (0 ∷ 0 ∷ [])) sc)
none_printed {p} {a} sc types e =
    subst
    (λ xs. Meets p a a
    (line_of (world_of p.refers) (nth 0 (parts (world_of p.refers)
    (node Tag.Several (trees tag_of_type_handle parts_of_type_handle xs) end))) sc))
    (sym e) meets_done

-- ---- whether it has its result
pub no_arguments : (o : Option Core) (b : Bool) → None ≡ o → false ≡ (is_some o && b)
no_arguments o b e = ap (λ v. is_some v && b) e

pub not_shown : (o : Option Core) (x : Core) (a b : Bool) → Some x ≡ o → a ≡ false → false ≡ (is_some o && (a && b))
not_shown o x a b e f = ap (λ v. v && b) (sym f) ∙ ap (λ v. is_some v && (a && b)) e

pub shown : (o : Option Core) (x : Core) (a r s : Bool) → Some x ≡ o → a ≡ true → r ≡ s →
    not r ≡ (is_some o && (a && not s))
shown o x a r s e f g =
    ap not g ∙ (ap (λ v. v && not s) (sym f) ∙ ap (λ v. is_some v && (a && not s)) e)
