-- The parts of a name: its kind, scope, base, what is behind them, and how many parameters it has.
use Rattle.std.specs.Prelude.{ℕ, Bool, true, false, not, ◌&&◌, ◌==◌, List, [], ◌∷◌, length, drop, Option, Some, None}
use Rattle.std.specs.Prelude.{is_some}
use Rattle.demangle_core.specs.Core.{Core, Tag, end, node, chosen}
use Rattle.demangle_core.specs.Lookups.{as_prefix, template_args}
use Rattle.demangle_core.specs.Table.{Table}
use Rattle.demangle_printing.specs.Trees.{trees_of, with_table}
use Rattle.demangle_printing.specs.State.{Event, Answer, yes, no, Fault}
use Rattle.demangle_printing.specs.Outcome.{Options, printed}
use Rattle.demangle_parts_text.specs.Items.{items}
use Rattle.demangle_parts_text.specs.Split.{Cut, cut_if}
use Rattle.demangler.specs.Contents.{Contents}
use Rattle.demangle_parts.specs.declared.kind.Kind.{Kind}
use Rattle.demangle_parts.specs.declared.kind.Kind.TheVariants as kind
use Rattle.demangle_parts.specs.declared.signature.Signature.{Signature}

-- ---- by the tree
-- the first part of a tree, without those behind it
abbrev pub first_part : Core → Core
first_part (node t (node u c m) n) = node u c end
first_part _ = end

abbrev pub kind_of_encoding : Core → Kind
kind_of_encoding (node Tag.EncodingFunction c n) = kind.Function
kind_of_encoding (node Tag.EncodingData c n) = kind.Data
kind_of_encoding _ = kind.Special

abbrev pub is_local : Core → Bool
is_local (node Tag.NameLocal c n) = true
is_local _ = false

-- Functions and data alone have a scope, and not those in a function.
abbrev pub has_parts : Kind → (is_local : Bool) → Bool
has_parts kind.Function is_local = not is_local
has_parts kind.Data is_local = not is_local
has_parts _ is_local = false

-- the types of a function, behind its name
abbrev pub types_of : Core → List Core
types_of (node t (node u c (node v (node w types k) m)) n) = trees_of types
types_of _ = []

-- the builtin type `void`, the first word of table 1
abbrev pub is_void_word : Core → Bool
is_void_word (chosen table word n) = (table == 1) && (word == 0)
is_void_word _ = false

abbrev pub is_void_builtin : Core → Bool
is_void_builtin (node Tag.BuiltinTypeStandard word n) = is_void_word word
is_void_builtin _ = false

abbrev pub is_void : Core → Bool
is_void (node Tag.TypeHandleBuiltin builtin n) = is_void_builtin builtin
is_void _ = false

abbrev pub are_void : List Core → Bool
are_void (type ∷ []) = is_void type
are_void _ = false

-- a function with template arguments has its result first
abbrev pub without_result : {A : Type 0} → (has_result : Bool) → List A → List A
without_result true types = drop 1 types
without_result false types = types

-- `void` alone is no parameter
abbrev pub count_if : Bool → List Core → ℕ
count_if true types = 0
count_if false types = length types

abbrev pub count : List Core → ℕ
count types = count_if (are_void types) types

abbrev pub arity : Kind → (has_result : Bool) → (types : List Core) → Option ℕ
arity kind.Function has_result types = Some (count (without_result has_result types))
arity _ has_result types = None

-- a name of this kind, which has no scope and no parameters
abbrev pub whole : Kind → Signature
whole k = record { kind = k; has_parts = false; arity = None }

abbrev pub of_encoding : Table → Core → Signature
of_encoding table x = record {
  kind = kind_of_encoding x;
  has_parts = has_parts (kind_of_encoding x) (is_local (first_part x));
  arity = arity (kind_of_encoding x) (is_some (template_args as_prefix table (first_part x))) (types_of x);
}

abbrev pub signature_of : Table → Core → Signature
signature_of table (node Tag.MangledNameBlockInvoke c n) = whole kind.Block
signature_of table (node Tag.MangledNameGlobalCtorDtor c n) = whole kind.Keyed
signature_of table (node Tag.MangledNameTopLevelType c n) = whole kind.TopType
signature_of table x = of_encoding table (first_part x)

-- ---- by its printing, without the result
pub record Parts : Type 0 where
  pub kind : Kind
  pub cut : Cut
  pub arity : Option ℕ

abbrev pub parts_with : Signature → List Event → Parts
parts_with s es = record { kind = s.kind; cut = cut_if s.has_parts (items es); arity = s.arity }

abbrev pub for_parts : Options → Options
for_parts o = record o { no_return_type = true }

pub data Divided : Type 0 where
  Into : Parts → Divided
  Not : Fault → Divided

abbrev pub divided_by : {X : Type 0} → Signature → Answer X → Divided
divided_by s (yes es state) = Into (parts_with s es)
divided_by s (no es f) = Not f

-- The parts of a name that was read; or why its tree isn't printed.
abbrev pub divided : Options → Contents → Divided
divided o s =
    divided_by (signature_of s.table s.tree) (printed (with_table s.table s.bytes) (for_parts o) s.tree)
