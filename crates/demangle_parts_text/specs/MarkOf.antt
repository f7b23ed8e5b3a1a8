-- What a mark says.
use Rattle.std.specs.Prelude.{◌==◌, Bool, true, false}
use Rattle.demangle_printing.specs.State.{Kind}
use Rattle.demangle_context.specs.Kinds.{kind_of}
use Rattle.demangle_parts_text.specs.Walk.{kind_code}
use Rattle.demangle_parts_text.specs.declared.mark.Mark.{Mark}
use Rattle.demangle_parts_text.specs.declared.mark.Mark.TheVariants as mark

abbrev pub begins_kind : Kind → Mark → Bool
begins_kind k (mark.Piece n) = false
begins_kind k (mark.Begins j) = kind_code (kind_of j) == kind_code k
begins_kind k mark.Ends = false

abbrev pub mark_ends : Mark → Bool
mark_ends (mark.Piece n) = false
mark_ends (mark.Begins k) = false
mark_ends mark.Ends = true

abbrev pub is_piece : Mark → Bool
is_piece (mark.Piece n) = true
is_piece (mark.Begins k) = false
is_piece mark.Ends = false
