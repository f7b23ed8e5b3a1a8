-- The scope and the base of a printing as places in its text, found from the front to the back.
use Rattle.std.specs.Prelude.{ℕ, ◌+◌, ◌-◌, ◌==◌, Bool, true, false, ◌&&◌, List, [], ◌∷◌, length, take, drop, nat_eq}
use Rattle.std.specs.Prelude.{codes, Option, Some, None}
use Rattle.std.specs.List.{starts_with}
use Rattle.std.specs.Str.{bytes_eq}
use Rattle.demangle_printing.specs.State.{Kind, prefix, template_prefix, template_args, unqualified_name}
use Rattle.demangle_printing.specs.State.{template_param, decltype, data_member_prefix, nested_name, virtual_table}
use Rattle.demangle_parts_text.specs.Items.{Items, none, text, node, text_in}
use Rattle.demangle_parts_text.specs.Split.{Cut, colons, ends_in_colons, opens}

-- ---- the first item
abbrev pub kind_code : Kind → ℕ
kind_code prefix = 0
kind_code template_prefix = 1
kind_code template_args = 2
kind_code unqualified_name = 3
kind_code template_param = 4
kind_code decltype = 5
kind_code data_member_prefix = 6
kind_code nested_name = 7
kind_code virtual_table = 8

abbrev pub when : {A : Type 0} → Bool → Option A → Option A
when true a = a
when false a = None

-- the node of a kind at the front, as its items and those behind it
abbrev pub node_first : Kind → Items → Option (Items × Items)
node_first k none = None
node_first k (text bs m) = None
node_first k (node j w m) = when (kind_code j == kind_code k) (Some (w, m))

abbrev pub is_none : Items → Bool
is_none none = true
is_none (text bs m) = false
is_none (node k w m) = false

abbrev pub not_text : Items → Bool
not_text none = true
not_text (text bs m) = false
not_text (node k w m) = true

-- a text, where there is one, and other items behind it
abbrev pub with_text : List ℕ → Items → Items
with_text [] i = i
with_text (b ∷ bs) i = text (b ∷ bs) i

-- ---- what stands at the end of a node
-- a name alone
abbrev pub ends_behind : Option (Items × Items) → Bool
ends_behind None = false
ends_behind (Some x) = is_none x.1

abbrev pub is_name : Items → Bool
is_name i = ends_behind (node_first unqualified_name i)

-- `::` and a name
abbrev pub is_name_in_scope : Items → Bool
is_name_in_scope none = false
is_name_in_scope (text t m) = is_name m && bytes_eq t colons
is_name_in_scope (node k w m) = false

-- `>` alone
abbrev pub is_closing : Items → Bool
is_closing none = false
is_closing (text t m) = is_none m && bytes_eq t (codes ">")
is_closing (node k w m) = false

abbrev pub closes_behind : Option (Items × Items) → Bool
closes_behind None = false
closes_behind (Some x) = is_closing x.1

-- template arguments
abbrev pub are_arguments : Items → Bool
are_arguments none = false
are_arguments (text t m) = closes_behind (node_first template_args m) && opens t
are_arguments (node k w m) = false

-- ---- a node
-- How long the scope is in the text of a node with these items; nothing where it has none.
unfoldable pub scope_in : Items → Option ℕ
scope_in none = None
scope_in (text t m) = when (is_name m && ends_in_colons t) (Some (length t - 2))
scope_in (node prefix p m) = when (is_name_in_scope m) (Some (length (text_in p)))
scope_in (node template_prefix q m) = when (are_arguments m) (scope_in q)
scope_in (node k w m) = None

abbrev pub scope_in_first : Option (Items × Items) → Option ℕ
scope_in_first None = None
scope_in_first (Some x) = scope_in x.0

-- ---- a whole printing
-- how long the template arguments are that a name has behind it
abbrev pub count_if : Bool → ℕ → ℕ
count_if true n = n
count_if false n = 0

abbrev pub closing_size : (so_far : ℕ) → Items → ℕ
closing_size n none = 0
closing_size n (text t m) = count_if (starts_with nat_eq t (codes ">")) (n + 1)
closing_size n (node k w m) = 0

abbrev pub arguments_behind : (so_far : ℕ) → Option (Items × Items) → ℕ
arguments_behind n None = 0
arguments_behind n (Some x) = closing_size (n + length (text_in x.0)) x.1

abbrev pub arguments_size : Items → ℕ
arguments_size none = 0
arguments_size (text t m) = count_if (opens t) (arguments_behind (length t) (node_first template_args m))
arguments_size (node k w m) = 0

-- Where the scope ends, if there is one, and where the base ends.
pub record Places : Type 0 where
  pub scope : Option ℕ
  pub end : ℕ

-- the parts of a text at these places; `::` stands between the scope and the base
abbrev pub base_from : Option ℕ → ℕ
base_from None = 0
base_from (Some n) = n + 2

abbrev pub scope_text : Option ℕ → List ℕ → Option (List ℕ)
scope_text None t = None
scope_text (Some n) t = Some (take n t)

abbrev pub parts_at : Places → List ℕ → Cut
parts_at p t = record {
  scope = scope_text p.scope t;
  base = drop (base_from p.scope) (take p.end t);
  after = drop p.end t;
}
