-- The calls that a listener heard, by the marks that it keeps and the text.
use Rattle.std.specs.Prelude.{ℕ, ◌+◌, Bool, true, false, List, [], ◌∷◌, take, drop, Option, Some, None}
use Rattle.demangle_meets.specs.Seen.{Call, piece, begins, ends}
use Rattle.demangle_context.specs.Kinds.{kind_of}
use Rattle.demangle_parts_text.specs.declared.mark.Mark.{Mark}
use Rattle.demangle_parts_text.specs.declared.mark.Mark.TheVariants as mark

-- how many bytes the pieces have together
unfoldable pub sizes : List Mark → ℕ
sizes [] = 0
sizes (mark.Piece n ∷ ms) = n + sizes ms
sizes (mark.Begins k ∷ ms) = sizes ms
sizes (mark.Ends ∷ ms) = sizes ms

unfoldable pub calls : (text : List ℕ) → List Mark → List Call
calls t [] = []
calls t (mark.Piece n ∷ ms) = piece (take n t) ∷ calls (drop n t) ms
calls t (mark.Begins k ∷ ms) = begins (kind_of k) ∷ calls t ms
calls t (mark.Ends ∷ ms) = ends ∷ calls t ms

-- they are told unless a mark was lost
abbrev pub told_calls : (lost : Bool) → (text : List ℕ) → List Mark → Option (List Call)
told_calls true t ms = None
told_calls false t ms = Some (calls t ms)
