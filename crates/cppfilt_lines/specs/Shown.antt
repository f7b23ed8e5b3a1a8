-- What a line's bytes become: their text where they are asked and have one, else they stay.
use Rattle.std.specs.Prelude.{ℕ, Bool, true, false, ◌&&◌, ◌||◌, List, ◌∷◌, ◌++◌, length, nat_le, nat_eq, codes}
use Rattle.std.specs.Prelude.{if◌then◌else◌}
use Rattle.std.specs.List.{starts_with}
use Rattle.demangle_text.specs.Kind.{Kind, Unread, Deep, Other, End, Text, Bad, Over}
use Rattle.demangle_text.specs.Texts.{error_text}
use Rattle.demangle_text.specs.declared.error.Error.TheVariants as reading
use Rattle.demangle_printing.specs.Outcome.{Outcome, Shown, NotRead, NotPrinted, outcome}
use Rattle.demangle_context.specs.Errors.{printing_text}
use Rattle.demangle_context.specs.TroubleOf.{error_at}
use Rattle.cppfilt_lines.specs.declared.options.FilterOptions.{FilterOptions}

-- ---- which lines are asked
-- a longer line is never asked for its text
abbrev pub line_limit : ℕ
line_limit = 1048576

-- a linker name begins so; compilers put up to three underscores before it, and name constructors of globals so
abbrev pub is_named : List ℕ → Bool
is_named b =
    starts_with nat_eq b (codes "_Z")
    || (starts_with nat_eq b (codes "__Z")
    || (starts_with nat_eq b (codes "___Z")
    || (starts_with nat_eq b (codes "____Z")
    || starts_with nat_eq b (codes "_GLOBAL_"))))

abbrev pub is_asked : FilterOptions → List ℕ → Bool
is_asked o b = nat_le (length b) line_limit && (o.types || is_named b)

-- ---- what an asked line becomes
-- why bytes are no name; no reading stops for another cause
abbrev pub reading_text : Kind → List ℕ
reading_text (Unread End) = error_text reading.UnexpectedEnd
reading_text (Unread Text) = error_text reading.UnexpectedText
reading_text (Unread Bad) = error_text reading.BadBackReference
reading_text (Unread Over) = error_text reading.Overflow
reading_text Deep = error_text reading.TooMuchRecursion
reading_text Other = error_text reading.UnexpectedText

-- the bytes, with a tab (9) and the cause where causes are shown
abbrev pub refused : Bool → (bytes cause : List ℕ) → List ℕ
refused true b cause = b ++ 9 ∷ cause
refused false b cause = b

abbrev pub answered : FilterOptions → List ℕ → Outcome → List ℕ
answered o b (Shown text) = text
answered o b (NotRead kind) = refused o.why b (reading_text kind)
answered o b (NotPrinted fault) = refused o.why b (printing_text (error_at fault))

-- ---- what a line's bytes become
unfoldable pub shown : FilterOptions → List ℕ → List ℕ
shown o b = if is_asked o b then answered o b (outcome o.parse o.print b) else b
