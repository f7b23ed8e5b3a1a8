-- What is found at a front.
use Rattle.std.specs.Prelude.{◌≡◌, ℕ, ◌+◌, ◌≤◌, Bool, true, false, ◌⊎◌, List, [], ◌∷◌, length, take, Option, Some, None}
use Rattle.std.specs.Str.{IsCharBoundary}
use Rattle.demangle_printing.specs.State.{Kind}
use Rattle.demangle_parts_text.specs.Items.{Items, text_in}
use Rattle.demangle_parts_text.specs.MarkOf.{begins_kind, mark_ends}
use Rattle.demangle_parts_text.specs.Marks.{IsBehind, is_end, items_of}
use Rattle.demangle_parts_text.specs.Split.{cut, cut_if}
use Rattle.demangle_parts_text.specs.Walk.{Places, are_arguments, base_from, node_first, not_text, parts_at, scope_in}
use Rattle.demangle_parts_text.specs.Walk.{with_text}
use Rattle.demangle_parts_text.specs.declared.front.Front.{Front}
use Rattle.demangle_parts_text.specs.declared.mark.Mark.{Mark}

-- the items up to the end of the node in which it stands
abbrev pub here : Front → Items
here f = items_of f.text.now f.marks.now

abbrev pub Behind : Front → ℕ → Front → Type 0
Behind f n g = IsBehind f.text.now f.marks.now n g.text.now g.marks.now

-- A text of so many bytes, or none, and what is behind it.
pub record TextAt (f : Front) (n : ℕ) (g : Front) : Type 0 where
  pub items : here f ≡ with_text (take n f.text.now) (here g)
  pub no_text : not_text (here g) ≡ true
  pub behind : Behind f n g
  pub within : n ≤ length f.text.now

-- The node of a kind, of so many bytes, and what is behind it.
pub record NodeIs (k : Kind) (f : Front) (n : ℕ) (g : Front) : Type 0 where
  pub node : Items
  pub is : node_first k (here f) ≡ Some (node, here g)
  pub text : text_in node ≡ take n f.text.now
  pub behind : Behind f n g
  pub within : n ≤ length f.text.now

abbrev pub NodeAt : Kind → Front → Option (ℕ × Front) → Type 0
NodeAt k f None = node_first k (here f) ≡ None
NodeAt k f (Some x) = NodeIs k f x.0 x.1

-- The first mark begins a node of this kind, and this is what is within.
pub record IsWithin (k : Kind) (f g : Front) : Type 0 where
  pub first : Mark
  pub begins : begins_kind k first ≡ true
  pub marks : f.marks.now ≡ first ∷ g.marks.now
  pub text : g.text.now ≡ f.text.now
  pub others : Items
  pub is : node_first k (here f) ≡ Some (here g, others)

abbrev pub Enters : Kind → Front → Option Front → Type 0
Enters k f None = node_first k (here f) ≡ None
Enters k f (Some g) = IsWithin k f g

-- A node ends at the first mark.
pub record IsLeft (f g : Front) : Type 0 where
  pub first : Mark
  pub ends : mark_ends first ≡ true
  pub marks : f.marks.now ≡ first ∷ g.marks.now
  pub text : g.text.now ≡ f.text.now

abbrev pub ends_node : List Mark → Bool
ends_node [] = false
ends_node (m ∷ ms) = mark_ends m

abbrev pub Leaves : Front → Option Front → Type 0
Leaves f None = ends_node f.marks.now ≡ false
Leaves f (Some g) = IsLeft f g

-- The end of the node in which it stands.
pub record EndsAt (f g : Front) : Type 0 where
  pub bytes : ℕ
  pub behind : Behind f bytes g
  pub ends : is_end g.marks.now ≡ true

-- Whether these items stand there, and where they end.
pub record IsUpTo (is_so : Items → Bool) (f g : Front) : Type 0 where
  pub so : is_so (here f) ≡ true
  pub ends : EndsAt f g

abbrev pub UpTo : (Items → Bool) → Front → Option Front → Type 0
UpTo is_so f None = is_so (here f) ≡ false
UpTo is_so f (Some g) = IsUpTo is_so f g

-- How long the scope is, and where the node ends.
pub record HasScope (f : Front) (n : ℕ) (g : Front) : Type 0 where
  pub scope : scope_in (here f) ≡ Some n
  pub ends : EndsAt f g

abbrev pub ScopeAt : Front → Option (ℕ × Front) → Type 0
ScopeAt f None = scope_in (here f) ≡ None
ScopeAt f (Some x) = HasScope f x.0 x.1

-- Behind a node that ends there stand template arguments, and the node around them ends.
pub record IsTemplate (f g : Front) : Type 0 where
  pub behind : Front
  pub left : IsLeft f behind
  pub arguments : IsUpTo are_arguments behind g

pub record IsNoTemplate (f : Front) : Type 0 where
  pub behind : Front
  pub left : IsLeft f behind
  pub others : are_arguments (here behind) ≡ false

abbrev pub TemplateAt : ℕ → Front → Option (ℕ × Front) → Type 0
TemplateAt n f None = (ends_node f.marks.now ≡ false) ⊎ IsNoTemplate f
TemplateAt n f (Some x) = (x.0 ≡ n) × IsTemplate f x.1

-- ---- a whole printing
abbrev pub places_of : Option ℕ × ℕ → Places
places_of x = record { scope = x.0; end = x.1 }

-- It can be cut in two at this place.
abbrev pub MayCutAt : Option ℕ → List ℕ → Type 0
MayCutAt None t = Unit {0}
MayCutAt (Some n) t = IsCharBoundary t n × IsCharBoundary t (n + 2)

-- The scope, the base and what is behind them are the parts at these places, each of which is a text.
pub record DividesAt (f : Front) (x : Option ℕ × ℕ) : Type 0 where
  pub parts : parts_at (places_of x) f.text.now ≡ cut (here f)
  pub scope : MayCutAt x.0 f.text.now
  pub order : base_from x.0 ≤ x.1
  pub end : IsCharBoundary f.text.now x.1

-- The same, or the whole text as base where the name has no parts.
pub record DividesIf (has_parts : Bool) (f : Front) (x : Option ℕ × ℕ) : Type 0 where
  pub parts : parts_at (places_of x) f.text.now ≡ cut_if has_parts (here f)
  pub scope : MayCutAt x.0 f.text.now
  pub order : base_from x.0 ≤ x.1
  pub end : IsCharBoundary f.text.now x.1
