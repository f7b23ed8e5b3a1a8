-- What else holds of the text of one name: of what tree it is, that sharing of components doesn't show, and what is
-- declared of plain types.
use Rattle.std.specs.Prelude.{◌≡◌, ℕ, true, false, List, [], Result, Ok, Err, String, string_bytes}
use Rattle.std.specs.declared.alloc.Global.{Global}
use Rattle.demangle_core.specs.Core.{Core}
use Rattle.demangle_grammar.specs.Code.{Found, Here}
use Rattle.demangle_grammar.specs.Expand.{expand}
use Rattle.demangle_grammar.specs.Sound.{IsSoundFor}
use Rattle.demangle_printing.specs.Trees.{with_table, without_table}
use Rattle.demangle_printing.specs.Outcome.{Options, Shown, printed, outcome_of}
use Rattle.demangle_printing.specs.Laws.{holds_param}
use Rattle.demangle_printing.specs.Declarators.{Plain, declared}
use Rattle.demangler.specs.declared.fault.SymbolFault.{SymbolFault}
use Rattle.demangler.specs.declared.fault.SymbolFault.TheVariants as fault
use Rattle.demangler.specs.Answer.{answer_of, IsAnswer}
use Rattle.demangle_read.specs.Reading.{reading, whole}
use Rattle.demangler.specs.Contents.{contents}
use Rattle.demangler.specs.Name.{IsName}
use Rattle.demangler.specs.Plain.{IsPlain, is_limit}

-- The text is that of the ordered reading's tree, which fits the rows, spells all bytes and is sound.
pub record HasText (limit : ℕ) (o : Options) (bytes text : List ℕ) : Type 0 where
  pub tree : Core
  pub end : Here
  pub reads : whole (reading limit bytes) ≡ Found tree end
  pub name : IsName bytes [] tree end.table
  pub sound : IsSoundFor bytes end.table tree
  pub prints : outcome_of (printed (with_table end.table bytes) o tree) ≡ Shown text

-- Where the expanded tree holds no template parameter, it is the answer of printing that tree, without the table and
-- the bytes.
abbrev pub SharesInvisibly : (limit : ℕ) → Options → List ℕ → Result (String Global) SymbolFault → Type 0
SharesInvisibly limit o bytes result =
    (tree : Core) (end : Here) → whole (reading limit bytes) ≡ Found tree end →
    let alone = expand end.table bytes tree in
    holds_param alone ≡ false → IsAnswer (answer_of (outcome_of (printed without_table o alone))) result

-- It is this text, unless a limit was met or there was no memory.
abbrev pub DeclaresText : List ℕ → Result (String Global) SymbolFault → Type 0
DeclaresText text (Ok shown) = string_bytes shown ≡ text
DeclaresText text (Err (fault.Read e)) = ⊥
DeclaresText text (Err (fault.Print e)) = is_limit e ≡ true
DeclaresText text (Err fault.OutOfMemory) = Unit {0}

-- A name that is a plain type has the text that is declared of it.
abbrev pub DeclaresPlain : (limit : ℕ) → List ℕ → Result (String Global) SymbolFault → Type 0
DeclaresPlain limit bytes result =
    (tree : Core) (end : Here) (p : Plain) → whole (reading limit bytes) ≡ Found tree end →
    IsPlain (contents bytes end.table tree) p → DeclaresText (declared p) result
