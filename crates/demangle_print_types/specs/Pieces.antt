-- What the lines of types do, piece by piece.
use Rattle.std.specs.Prelude.{ℕ, not, List, codes, Some}
use Rattle.demangle_core.specs.Core.{Core}
use Rattle.demangle_printing.specs.World.{World, nth}
use Rattle.demangle_printing.specs.State.{is_on, pack}
use Rattle.demangle_printing.specs.Scope.{Scope}
use Rattle.demangle_printing.specs.Act.{Act, done, text, block, ask, held}
use Rattle.demangle_printing.specs.Reader.{chosen}
use Rattle.demangle_printing.specs.Rules.{line_of, inner_of}

module _ (w : World Core) where
  -- a part in the midst of an item
  abbrev pub in_midst : (item x : Core) → Scope Core → Act Core
  in_midst item x sc = held item (block (line_of w (Some x) sc) done) (inner_of w item sc done) done

  abbrev pub part_and_word : Core → List ℕ → Scope Core → Act Core
  part_and_word x word sc = block (line_of w (Some x) sc) (text word done)

  abbrev pub word_and_part : List ℕ → Core → Scope Core → Act Core
  word_and_part word x sc = text word (block (line_of w (Some x) sc) done)

  abbrev pub two_parts : (x y : Core) → Scope Core → Act Core
  two_parts x y sc = block (line_of w (Some x) sc) (block (line_of w (Some y) sc) done)

  -- a type, and behind it a qualifier of a compiler's own with its arguments
  abbrev pub extended : (type name args : Core) → Scope Core → Act Core
  extended type name args sc = block (line_of w (Some type) sc) (text (codes " ") (two_parts name args sc))

  -- a pattern, with dots behind it unless a pack was printed member by member
  abbrev pub expansion : Core → Scope Core → Act Core
  expansion x sc = block (line_of w (Some x) sc)
      (ask (λ s. chosen (not (is_on pack s.flags)) (text (codes "...") done) done) done)

  -- the first of some types, where there is one
  abbrev pub first_line : List Core → Scope Core → Act Core
  first_line types sc = line_of w (nth 0 types) sc
