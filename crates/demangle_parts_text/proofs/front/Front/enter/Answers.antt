use Rattle.std.proofs.Common.{◌≡◌, ◌∙◌, refl, sym, true}
use Rattle.demangle_context.specs.Kinds.{kind_of}
use Rattle.demangle_parts_text.specs.MarkOf.{begins_kind}
use Rattle.demangle_parts_text.proofs.FrontLaws.{begins-no-piece, chars-step, end-step, no-node, no-node-at-end}
use Rattle.demangle_parts_text.proofs.FrontLaws.{sizes-step}
use Rattle.demangle_parts_text.proofs.FrontLaws.{within-is}
use Rattle.demangle_parts_text.proofs.front.Front.enter.Goals as goal

pub returns-in-None : goal.returns-in-None
returns-in-None c =
    no-node-at-end (kind_of c.args.kind) c.args.self.text.now c.args.self.marks.now c.in-None.ensures.cases

pub returns-then-not-begins : goal.returns-then-not-begins
returns-then-not-begins c =
    let f = c.args.self in
    no-node (kind_of c.args.kind) f.text.now f.marks.now c.in-Some.mark.now c.in-Some.marks.now
    c.in-Some.ensures.cases.0 (sym c.begins.ensures ∙ c.if-not-begins.true) f.all_end f.characters

pub invariant_of-result : goal.invariant_of-result
invariant_of-result c =
    let f = c.args.self in
    let m = c.in-Some.mark.now in
    let a = c.in-Some.ensures.cases.0 in
    let b : begins_kind (kind_of c.args.kind) m ≡ true = sym c.begins.ensures ∙ c.if-not-begins.false in
    let p = begins-no-piece (kind_of c.args.kind) m b in
    record {
      whole = sizes-step f.text.now f.marks.now m c.in-Some.marks.now a p f.whole;
      all_end = end-step f.marks.now m c.in-Some.marks.now a f.all_end;
      characters = chars-step f.text.now f.marks.now m c.in-Some.marks.now a p f.characters;
    }

pub returns-else-not-begins : goal.returns-else-not-begins
returns-else-not-begins c =
    within-is (kind_of c.args.kind) c.args.self _ c.in-Some.mark.now (sym c.begins.ensures ∙ c.if-not-begins.false)
    c.in-Some.ensures.cases.0 refl
