-- The scope and the base of a name, by the items of its printing.
use Rattle.std.specs.Prelude.{ℕ, ◌-◌, Bool, true, false, ◌&&◌, ◌||◌, List, [], ◌++◌, length, take, drop, nat_eq}
use Rattle.std.specs.Prelude.{codes, Option, Some, None}
use Rattle.std.specs.List.{starts_with}
use Rattle.std.specs.Str.{bytes_eq}
use Rattle.demangle_printing.specs.State.{prefix, template_prefix, template_args, unqualified_name, nested_name}
use Rattle.demangle_parts_text.specs.Items.{Items, none, text, node, text_in}

-- ---- texts
abbrev pub colons : List ℕ
colons = codes "::"

abbrev pub without_colons : List ℕ → List ℕ
without_colons t = take (length t - 2) t

abbrev pub ends_in_colons : List ℕ → Bool
ends_in_colons t = bytes_eq (drop (length t - 2) t) colons

-- before template arguments
abbrev pub opens : List ℕ → Bool
opens t = bytes_eq t (codes "<") || bytes_eq t (codes " <")

-- ---- a node
pub record Split : Type 0 where
  pub scope : Option (List ℕ)
  pub base : List ℕ

abbrev pub whole : Items → Split
whole i = record { scope = None; base = text_in i }

abbrev pub with_more : Split → List ℕ → Split
with_more s more = record { scope = s.scope; base = s.base ++ more }

abbrev pub pick : Bool → Split → Split → Split
pick true s other = s
pick false s other = other

abbrev pub scoped : List ℕ → Items → Split
scoped p u = record { scope = Some p; base = text_in u }

-- The scope and the base of a node with these items.
unfoldable pub split : Items → Split
split (node prefix p (text t (node unqualified_name u none))) =
    pick (bytes_eq t colons) (scoped (text_in p) u) (whole (node prefix p (text t (node unqualified_name u none))))
split (text t (node unqualified_name u none)) =
    pick (ends_in_colons t) (scoped (without_colons t) u) (whole (text t (node unqualified_name u none)))
split (node template_prefix q (text t (node template_args a (text g none)))) =
    pick (bytes_eq g (codes ">") && opens t) (with_more (split q) (t ++ (text_in a ++ g)))
    (whole (node template_prefix q (text t (node template_args a (text g none)))))
split other = whole other

-- ---- a whole printing
pub record Cut : Type 0 where
  pub scope : Option (List ℕ)
  pub base : List ℕ
  pub after : List ℕ

abbrev pub cut_whole : Items → Cut
cut_whole i = record { scope = None; base = text_in i; after = [] }

abbrev pub cut_at : Split → List ℕ → Cut
cut_at s after = record { scope = s.scope; base = s.base; after = after }

abbrev pub choose_cut : Bool → Cut → Cut → Cut
choose_cut true c other = c
choose_cut false c other = other

-- An unqualified name in a scope, and what is behind it: template arguments go to the base.
abbrev pub named : Option (List ℕ) → (base : List ℕ) → Items → Cut
named scope base (text t (node template_args a (text g m))) =
    choose_cut (opens t && starts_with nat_eq g (codes ">"))
    (record { scope = scope; base = base ++ (t ++ (text_in a ++ take 1 g)); after = drop 1 g ++ text_in m })
    (record { scope = scope; base = base; after = text_in (text t (node template_args a (text g m))) })
named scope base m = record { scope = scope; base = base; after = text_in m }

abbrev pub cut : Items → Cut
cut (node nested_name n m) = cut_at (split n) (text_in m)
cut (node unqualified_name u m) = named None (text_in u) m
cut (text t (node unqualified_name u m)) =
    choose_cut (bytes_eq t (codes "std::")) (named (Some (codes "std")) (text_in u) m)
    (cut_whole (text t (node unqualified_name u m)))
cut i = cut_whole i

-- A name that has no parts has its whole text as base.
abbrev pub cut_if : (has_parts : Bool) → Items → Cut
cut_if true i = cut i
cut_if false i = cut_whole i
