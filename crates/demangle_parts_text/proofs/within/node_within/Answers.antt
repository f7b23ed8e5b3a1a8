use Rattle.std.proofs.Common.{◌<◌, Some, ap, arith, refl, rules, sym, tests, ◌∙◌}
use Rattle.demangle_parts_text.specs.Heard.{sizes}
use Rattle.demangle_parts_text.specs.Marks.{open_marks}
use Rattle.demangle_parts_text.specs.declared.mark.Mark.TheVariants as mark
use Rattle.demangle_parts_text.proofs.MarkLaws.{closes-some, never-open, open-more, size-more, size-within}
use Rattle.demangle_parts_text.proofs.within.node_within.Goals as goal
use Rattle.demangle_parts_text.proofs.within.node_within.Goals.{in-Piece, in-Begins, in-Ends+else-open-eq0}

pub loop-i-init : goal.loop-i-init
unfolding open_marks sizes
loop-i-init c = record { is_open = refl; size = refl; few = omega arith }

pub overflow_add-bytes : goal.overflow_add-bytes
overflow_add-bytes c =
    let small = size-within c.args.marks.now c.loop-i.i c.in-Piece.size _ c.loop-i.bytes c.loop-i-test.true
    c.in-Piece.is
    c.loop-i.invariant.size in
    let all = c.requires in
    omega arith

pub loop-i-preserved : goal.loop-i-preserved
unfolding open_marks sizes
loop-i-preserved c =
    let ms = c.args.marks.now in
    let i = c.loop-i.i in
    let inv = c.loop-i.invariant in
    let within = c.loop-i-test.true in
    let few = inv.few in
    elim c.match-mark.branch [
      | in-Piece w ↦
          let sized = size-more ms i (mark.Piece w.in-Piece.size) _ c.loop-i.bytes within w.in-Piece.is inv.size in
          let now = w.bytes-is in
          let same = w.open-is in record {
            is_open =
                open-more ms i (mark.Piece w.in-Piece.size) _ (Some c.loop-i.open) within w.in-Piece.is inv.is_open
                ∙ ap (λ x. Some x) (sym same);
            size = omega arith;
            few = omega arith;
          }
      | in-Begins w ↦
          let sized = size-more ms i (mark.Begins w.in-Begins.field-0) _ c.loop-i.bytes within w.in-Begins.is
          inv.size in
          let now = w.bytes-is in
          let more = w.open-is in record {
            is_open =
                open-more ms i (mark.Begins w.in-Begins.field-0) _ (Some c.loop-i.open) within w.in-Begins.is
                inv.is_open
                ∙ ap (λ x. Some x) (omega arith);
            size = omega arith;
            few = omega arith;
          }
      | in-Ends+else-open-eq0 w ↦
          let sized = size-more ms i mark.Ends _ c.loop-i.bytes within w.in-Ends.is inv.size in
          let some : 0 < c.loop-i.open = search (rules, tests) in
          let now = w.bytes-is in
          let less = w.open-is in record {
            is_open =
                open-more ms i mark.Ends _ (Some c.loop-i.open) within w.in-Ends.is inv.is_open
                ∙ closes-some c.loop-i.open some ∙ ap (λ x. Some x) (omega arith);
            size = omega arith;
            few = omega arith;
          }
    ]

pub unreachable-requires : goal.unreachable-requires
unreachable-requires c =
    never-open c.args.marks.now c.loop-i.i c.loop-i.open c.loop-i-test.false c.loop-i.invariant.is_open c.requires.ends
