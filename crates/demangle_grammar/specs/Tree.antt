-- Trees that were read: what they spell, their core, and their components.
use Rattle.std.specs.Prelude.{◌⊎◌, ◌≡◌, ℕ, suc, ◌+◌, ◌<◌, List, [], ◌∷◌, ◌++◌, pos}
use Rattle.demangle_core.specs.Sound.{RefersTo}
use Rattle.demangle_core.specs.Core.{Core, end, node, place, number, chosen, ref, ◌⊕◌, Tag, Which, N, U}
use Rattle.demangle_core.specs.Table.{Entry, count}
use Rattle.demangle_grammar.specs.Rule.{Make}

-- what a node of a tree that was read is
pub data How : Type 0 where
  shaped : Make → How
  made : Which → ℕ → How  -- the part became this component
  made_first : ℕ → How  -- the first of the parts became this component of the second list
  refers : ℕ → How  -- a reference to this numbered component
  taken : Core → How  -- a nested name, with the entry of its prefix

-- A tree stands for a row of fields: a word for none, a node for one.
pub data Tree : Type 0 where
  leaf : (bytes : List ℕ) → (fields : Core) → Tree  -- what is spelled, and the fields that keep it
  cat : Tree → Tree → Tree
  over : How → Tree → Tree

abbrev pub nil : Tree
nil = leaf [] end

-- ---- what the parts of a node become
-- 0 for nothing, else the number and 1
abbrev pub index_of : Core → Core
index_of (number (pos k) n) = number (pos (suc k)) end
index_of (node t (number (pos k) n) m) = number (pos (suc k)) end
index_of _ = number (pos 0) end

abbrev pub longer_by : ℕ → Core → Core
longer_by k (place i j n) = place i (j + k) n
longer_by k c = c

-- the first field of a name, which is its source name, as a data member
abbrev pub member_of : Core → Core
member_of (node t (node u c n) m) = node Tag.DataMemberPrefix (node u c end) end
member_of c = c

abbrev pub data_member_of : Core → Core
data_member_of (node t c n) = node Tag.PrefixDataMember (node t c (member_of n)) end
data_member_of c = c

abbrev pub reshaped : Make → Core → Core
reshaped (Make.one t) c = node t c end
reshaped Make.dropped c = end
reshaped Make.index c = index_of c
reshaped (Make.longer k) c = longer_by k c
reshaped Make.data_member c = data_member_of c

-- the number of a component as its reference spells it: 0 for none, else the number and 1
abbrev pub component_of : Core → ℕ
component_of (node t (number (pos k) n) m) = suc k
component_of _ = 0

abbrev pub first_of : Core → Core
first_of (node t c n) = node t c end
first_of c = end

abbrev pub rest_of : Core → Core
rest_of (node t c n) = n
rest_of c = end

-- an unqualified name as the entry of a template name, and as the template that refers to it
abbrev pub template_entry : Core → Core
template_entry c =
    node Tag.SubstitutableUnscopedTemplateName
    (node Tag.UnscopedTemplateName (node Tag.UnscopedNameUnqualified (first_of c) end) end) end

abbrev pub template_name : ℕ → Core → Core
template_name k c = node Tag.NameUnscopedTemplate (node Tag.NonSubstitution (ref U k end) (rest_of c)) end

-- ---- a nested name and the entry of its prefix
-- all but the last field
abbrev pub front : Core → Core
front (node t c end) = end
front (node t c n) = node t c (front n)
front c = end

-- its parts are the qualifiers and the prefix, or the word of an explicit object and the prefix
abbrev pub nested_unqualified : (prefix name parts : Core) → Core
nested_unqualified p name (chosen t k n) =
    node Tag.NestedNameUnqualifiedExplicitObject (p ⊕ (name ⊕ chosen t k end)) end
nested_unqualified p name c = node Tag.NestedNameUnqualified (front c ⊕ (p ⊕ name)) end

abbrev pub nested_template : Core → Core
nested_template (chosen t k n) = node Tag.NestedNameTemplateExplicitObject (n ⊕ chosen t k end) end
nested_template c = node Tag.NestedNameTemplate c end

abbrev pub taken_of : (entry parts : Core) → Core
taken_of (node Tag.SubstitutablePrefix (node Tag.PrefixUnqualified name n) m) c =
    nested_unqualified (node Tag.Absent end end) name c
taken_of (node Tag.SubstitutablePrefix (node Tag.PrefixNested (node t p name) n) m) c =
    nested_unqualified (node Tag.Present (node t p end) end) name c
taken_of _ c = nested_template c

-- a reference to a component
abbrev pub reference : Which → ℕ → Core
reference N k = node Tag.BackReference (ref N k end) end
reference U k = node Tag.NonSubstitution (ref U k end) end

-- ---- the core
abbrev pub shape : How → Core → Core
shape (How.shaped m) c = reshaped m c
shape (How.made w k) c = reference w k
shape (How.made_first k) c = template_name k c
shape (How.refers k) c = reference N k
shape (How.taken x) c = taken_of x c

abbrev pub core : Tree → Core
core (leaf bytes fields) = fields
core (cat a b) = core a ⊕ core b
core (over h a) = shape h (core a)

-- ---- the spelling
abbrev pub spell : Tree → List ℕ
spell (leaf bytes fields) = bytes
spell (cat a b) = spell a ++ spell b
spell (over h a) = spell a

-- ---- the components, in order of completion
abbrev pub adds : How → Core → List Entry
adds (How.made w k) c = record { which = w; tree = c } ∷ []
adds (How.made_first k) c = record { which = U; tree = template_entry c } ∷ []
adds _ c = []

abbrev pub components : Tree → List Entry
components (leaf bytes fields) = []
components (cat a b) = components a ++ components b
components (over h a) = components a ++ adds h (core a)

-- ---- references
-- the tree of an entry, or no tree
abbrev pub IsOfEntry : Core → List Entry → Type 0
IsOfEntry x [] = x ≡ end
IsOfEntry x (y ∷ e) = (x ≡ y.tree) ⊎ IsOfEntry x e

-- The numbers of the components are their positions, after the entries e, and each reference is to one that is there.
abbrev pub HowSound : List Entry → How → Type 0
HowSound e (How.made w k) = k ≡ count w e
HowSound e (How.made_first k) = k ≡ count U e
HowSound e (How.refers k) = k < count N e
HowSound e (How.taken x) = IsOfEntry x e
HowSound e _ = Unit {0}

abbrev pub Sound : List Entry → Tree → Type 0
Sound e (leaf bytes fields) = RefersTo e fields
Sound e (cat a b) = Sound e a × Sound (e ++ components a) b
Sound e (over h a) = Sound e a × HowSound (e ++ components a) h

-- ---- what a reading is read into: whole trees, or their cores alone
pub record Parts (X : Type 0) : Type 0 where
  pub leaf : List ℕ → Core → X
  pub cat : X → X → X
  pub over : How → X → X
  pub core_of : X → Core

abbrev pub trees : Parts Tree
trees = record { leaf = Tree.leaf; cat = Tree.cat; over = Tree.over; core_of = core }

abbrev pub cores : Parts Core
cores = record { leaf = λ bytes fields. fields; cat = ◌⊕◌; over = shape; core_of = λ c. c }
