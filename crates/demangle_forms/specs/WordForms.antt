-- Words and numbers at the front, of which one may be there or another, or none.
use Rattle.std.specs.Prelude.{ℕ, pos, Result, Ok, Err}
use Rattle.demangle_core.specs.Core.{Core, Tag, node, number, end}
use Rattle.demangle_text.specs.Kind.{Kind, Unread, Text}
use Rattle.demangle_text.specs.Spot.{Spot}
use Rattle.demangle_text.specs.Number.{natural_from}
use Rattle.demangle_grammar.specs.Code.{Reply, Refused}

-- one word or else another
abbrev pub either : {X : Type 0} → Result X Kind → Result X Kind → Result X Kind
either (Ok x) o = Ok x
either (Err k) o = o

-- where none of several is there, whatever stands there is other text
abbrev pub or_text : {X : Type 0} → Result X Kind → Result X Kind
or_text (Ok x) = Ok x
or_text (Err k) = Err (Unread Text)

-- what is read behind a word that must be there
abbrev pub behind_word : Result Spot Kind → (Spot → Reply) → Reply
behind_word (Ok p) f = f p
behind_word (Err k) f = Refused k

-- the number as an optional part, and the place behind it
abbrev pub number_or_none : Result (ℕ × Spot) Kind → Spot → Core × Spot
number_or_none (Ok x) p = (node Tag.Present (number (pos x.0) end) end, x.1)
number_or_none (Err k) p = (node Tag.Absent end end, p)

-- a number without a sign that may be missing
unfoldable pub optional_unsigned_at : Spot → Core × Spot
optional_unsigned_at p = number_or_none (natural_from 10 p) p
