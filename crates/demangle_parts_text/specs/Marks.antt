-- What marks say of the text: the items at the front of it, and which node ends where.
use Rattle.std.specs.Prelude.{◌≡◌, ℕ, zero, suc, ◌||◌, ◌&&◌, Bool, true, false, List, [], ◌∷◌, ◌++◌, take, drop}
use Rattle.std.specs.Prelude.{nat_le, nat_lt, Option, Some, None, is_some}
use Rattle.demangle_printing.specs.Laws.{closes}
use Rattle.demangle_meets.specs.Seen.{events_of}
use Rattle.demangle_parts_text.specs.Heard.{calls, sizes}
use Rattle.demangle_parts_text.specs.Items.{Items, items}
use Rattle.demangle_parts_text.specs.MarkOf.{mark_ends}
use Rattle.demangle_parts_text.specs.declared.mark.Mark.{Mark}
use Rattle.demangle_parts_text.specs.declared.mark.Mark.TheVariants as mark

-- The items up to the end of the node that these marks stand in, or up to the last mark.
abbrev pub items_of : (text : List ℕ) → List Mark → Items
items_of t ms = items (events_of (calls t ms))

-- how many nodes are open behind these marks, where so many are before them; nothing where one ends that didn't begin
unfoldable pub open_marks : List Mark → Option ℕ → Option ℕ
open_marks [] n = n
open_marks (m ∷ ms) None = None
open_marks (mark.Piece k ∷ ms) (Some n) = open_marks ms (Some n)
open_marks (mark.Begins k ∷ ms) (Some n) = open_marks ms (Some (suc n))
open_marks (mark.Ends ∷ ms) (Some n) = open_marks ms (closes n)

-- how many nodes that began before them end among these marks; nothing where one that begins doesn't end
abbrev pub one_more : Option ℕ → Option ℕ
one_more None = None
one_more (Some n) = Some (suc n)

abbrev pub one_less : Option ℕ → Option ℕ
one_less None = None
one_less (Some n) = closes n

unfoldable pub ended : List Mark → Option ℕ
ended [] = Some 0
ended (mark.Piece k ∷ ms) = ended ms
ended (mark.Begins k ∷ ms) = one_less (ended ms)
ended (mark.Ends ∷ ms) = one_more (ended ms)

-- whether each node ends that begins among them
abbrev pub all_end : List Mark → Bool
all_end ms = is_some (ended ms)

-- The first marks are those of whole nodes and pieces, and their pieces are the front of the text; these are what is
-- behind them.
pub record IsBehind (text : List ℕ) (marks : List Mark) (bytes : ℕ) (left : List ℕ) (behind : List Mark) : Type 0
  where
    pub within : List Mark
    pub is : marks ≡ within ++ behind
    pub closed : open_marks within (Some zero) ≡ Some zero
    pub size : sizes within ≡ bytes
    pub text_is : left ≡ drop bytes text

-- Here a node ends that began before, or all is at its end.
abbrev pub is_end : List Mark → Bool
is_end [] = true
is_end (m ∷ ms) = mark_ends m

-- whether all of these are pieces, and whether the first is one
unfoldable pub are_pieces : List Mark → Bool
are_pieces [] = true
are_pieces (mark.Piece n ∷ ms) = are_pieces ms
are_pieces (mark.Begins k ∷ ms) = false
are_pieces (mark.Ends ∷ ms) = false

abbrev pub begins_with_piece : List Mark → Bool
begins_with_piece [] = false
begins_with_piece (mark.Piece n ∷ ms) = true
begins_with_piece (mark.Begins k ∷ ms) = false
begins_with_piece (mark.Ends ∷ ms) = false

-- A character begins at the front of these bytes; of no bytes this is so.
abbrev pub begins_char : (empty : Bool) → List ℕ → Bool
begins_char empty [] = empty
begins_char empty (b ∷ bs) = nat_lt b 128 || nat_le 192 b

-- Each piece begins with a character, or is empty where this is allowed.
unfoldable pub begin_chars : (empty : Bool) → (text : List ℕ) → List Mark → Bool
begin_chars empty t [] = true
begin_chars empty t (mark.Piece n ∷ ms) = begins_char empty (take n t) && begin_chars empty (drop n t) ms
begin_chars empty t (mark.Begins k ∷ ms) = begin_chars empty t ms
begin_chars empty t (mark.Ends ∷ ms) = begin_chars empty t ms
