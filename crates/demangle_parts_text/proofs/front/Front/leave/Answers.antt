use Rattle.std.proofs.Common.{◌≡◌, ◌∙◌, ap, sym, true}
use Rattle.demangle_parts_text.specs.Fronts.{ends_node}
use Rattle.demangle_parts_text.specs.MarkOf.{mark_ends}
use Rattle.demangle_parts_text.proofs.FrontLaws.{chars-step, end-step, ends-no-piece, no-end, sizes-step}
use Rattle.demangle_parts_text.proofs.front.Front.leave.Goals as goal

pub returns-in-None : goal.returns-in-None
returns-in-None c = no-end c.args.self.marks.now c.in-None.ensures.cases

pub returns-then-not-ends : goal.returns-then-not-ends
returns-then-not-ends c = ap ends_node c.in-Some.ensures.cases.0 ∙ sym c.ends.ensures ∙ c.if-not-ends.true

pub invariant_of-result : goal.invariant_of-result
invariant_of-result c =
    let f = c.args.self in
    let m = c.in-Some.mark.now in
    let a = c.in-Some.ensures.cases.0 in
    let b : mark_ends m ≡ true = sym c.ends.ensures ∙ c.if-not-ends.false in
    let p = ends-no-piece m b in
    record {
      whole = sizes-step f.text.now f.marks.now m c.in-Some.marks.now a p f.whole;
      all_end = end-step f.marks.now m c.in-Some.marks.now a f.all_end;
      characters = chars-step f.text.now f.marks.now m c.in-Some.marks.now a p f.characters;
    }
