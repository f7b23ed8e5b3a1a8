use Rattle.std.proofs.Common.{◌+◌}
use Rattle.demangle_context.specs.Kinds.{kind_of}
use Rattle.demangle_parts_text.specs.declared.mark.Mark.TheVariants as mark
use Rattle.demangle_parts_text.proofs.FrontLaws.{begun-ends, node-is, rest-chars, rest-end, rest-sizes, taken-fits}
use Rattle.demangle_parts_text.proofs.FrontLaws.{with-end}
use Rattle.demangle_parts_text.proofs.front.Front.node_at.Goals as goal

pub node_within-count-requires-clause-ends : goal.node_within-count-requires-clause-ends
node_within-count-requires-clause-ends c =
    let h = c.in-Some.ensures in
    begun-ends (kind_of c.args.kind) h.first c.args.self.marks.now c.in-Some.within.marks.now h.begins h.marks
    c.args.self.all_end

pub split_at-requires : goal.split_at-requires
split_at-requires c =
    let f = c.in-Some.within in
    taken-fits f.text.now f.marks.now _ _ f.whole c.node_within-count.ensures.size

pub invariant_of-result : goal.invariant_of-result
invariant_of-result c =
    let f = c.in-Some.within in
    let n = c.node_within-count.result.0 in
    let b = c.node_within-count.result.1 in
    let h = c.node_within-count.ensures in
    let s = with-end f.marks.now n b mark.Ends h.inside (h.ends mark.Ends) h.size in
    let x = c.split_at.ensures.back in
    let y = c.split_at-in-Some.ensures.back in
    record {
      whole = rest-sizes f.text.now f.marks.now (n + 1) b _ _ f.whole s x y;
      all_end = rest-end f.marks.now (n + 1) _ f.all_end y;
      characters = rest-chars f.text.now f.marks.now (n + 1) b _ _ f.characters s x y;
    }

pub returns-in-Some : goal.returns-in-Some
returns-in-Some c =
    let h = c.node_within-count.ensures in
    node-is (kind_of c.args.kind) c.args.self c.in-Some.within _ c.node_within-count.result.0
    c.node_within-count.result.1 mark.Ends c.in-Some.ensures h.inside (h.ends mark.Ends) h.closed h.size
    c.split_at.ensures.back c.split_at-in-Some.ensures.back
