-- Names that are plain types, and the text that is declared of one.
use Rattle.std.specs.Prelude.{◌≡◌, ℕ, ◌&&◌, ◌||◌, not, Bool, true, false, List, [], ◌∷◌, length, nat_lt}
use Rattle.std.specs.Prelude.{Result, Ok, Err, String, string_bytes}
use Rattle.std.specs.declared.alloc.Global.{Global}
use Rattle.demangle_core.specs.Core.{Core, Tag}
use Rattle.demangle_vocab.specs.Builtins.{builtins}
use Rattle.demangle_printing.specs.World.{node}
use Rattle.demangle_printing.specs.Trees.{with_table}
use Rattle.demangle_printing.specs.Declarators.{Plain, Plains, builtin, class, const, to, function, none, more, Is}
use Rattle.demangle_printing.specs.Declarators.{is_function, is_reference, may_be_reference}
use Rattle.demangle_context.specs.declared.error.DemangleError.{DemangleError}
use Rattle.demangle_context.specs.declared.error.DemangleError.TheVariants as printing
use Rattle.demangler.specs.Contents.{Contents}

-- No reference to a reference, no const function, no function that answers a function, and words of the table. Nothing
-- is asked of the names of classes: those that were read are identifiers.
abbrev mutual
  pub is_plain : Plain → Bool
  is_plain (builtin k) = nat_lt k (length builtins)
  is_plain (class name) = true
  is_plain (const p) = not (is_function p) && is_plain p
  is_plain (to m p) = (may_be_reference m || not (is_reference p)) && is_plain p
  is_plain (function r ps) = not (is_function r) && (is_plain r && are_plain ps)

  pub are_plain : Plains → Bool
  are_plain none = true
  are_plain (more p ps) = is_plain p && are_plain ps

-- A symbol's tree is such a type.
pub record IsPlain (s : Contents) (p : Plain) : Type 0 where
  pub handle : Core
  pub is_type : (with_table s.table s.bytes).look s.tree ≡ node Tag.MangledNameTopLevelType (handle ∷ [])
  pub is : Is (with_table s.table s.bytes) handle p
  pub plain : is_plain p ≡ true

-- ---- answers
-- the errors of a limit, and want of memory
abbrev pub is_limit : DemangleError → Bool
is_limit printing.TooMuchRecursion = true
is_limit printing.TooLong = true
is_limit printing.OutOfMemory = true
is_limit _ = false

-- The text is what is declared, unless a limit was met or there was no memory.
abbrev pub Declares : List ℕ → Result (String Global) DemangleError → Type 0
Declares text (Ok shown) = string_bytes shown ≡ text
Declares text (Err e) = is_limit e ≡ true
