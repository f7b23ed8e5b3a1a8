use Rattle.std.proofs.Common.{arith, refl}
use Rattle.demangle_parts_text.specs.Heard.{sizes}
use Rattle.demangle_parts_text.specs.Marks.{are_pieces}
use Rattle.demangle_parts_text.specs.declared.mark.Mark.TheVariants as mark
use Rattle.demangle_parts_text.proofs.MarkLaws.{pieces-more, size-more, size-within}
use Rattle.demangle_parts_text.proofs.within.pieces_at.Goals as goal

pub loop-i-init : goal.loop-i-init
unfolding are_pieces sizes
loop-i-init c = record { size = refl; pieces = refl }

pub overflow_add-bytes : goal.overflow_add-bytes
overflow_add-bytes c =
    let small = size-within c.args.marks.now c.loop-i.i c.in-Piece.size _ c.loop-i.bytes c.loop-i-test.true
    c.in-Piece.is
    c.loop-i.invariant.size in
    let all = c.requires in
    omega arith

pub loop-i-preserved : goal.loop-i-preserved
unfolding sizes
loop-i-preserved c =
    let sized = size-more c.args.marks.now c.loop-i.i (mark.Piece c.in-Piece.size) _ c.loop-i.bytes c.loop-i-test.true
    c.in-Piece.is c.loop-i.invariant.size in
    record {
      size = omega arith;
      pieces =
          pieces-more c.args.marks.now c.loop-i.i c.in-Piece.size _ c.loop-i-test.true c.in-Piece.is
          c.loop-i.invariant.pieces;
    }
