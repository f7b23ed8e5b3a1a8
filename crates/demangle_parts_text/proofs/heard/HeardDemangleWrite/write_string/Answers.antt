use Rattle.std.proofs.Common.{string_bytes}
use Rattle.demangle_parts_text.proofs.HeardLaws.{chars-kept, hears-piece, sizes-piece}
use Rattle.demangle_parts_text.proofs.heard.HeardDemangleWrite.write_string.Goals as goal

pub invariant_of-self : goal.invariant_of-self
invariant_of-self c =
    let kept = c.args.self.now.kept in
    let k = c.keep.ensures in record {
      whole = sizes-piece c.keep.result (string_bytes kept.text) c.args.s.now _ kept.marks.items _
          c.args.self.now.whole k.text
          k.marks k.other_text k.other_marks;
      characters =
          chars-kept c.keep.result (string_bytes kept.text) c.args.s.now _ kept.marks.items _ c.args.self.now.whole
          k.utf8
          c.args.self.now.characters k.text k.marks k.other_text k.other_marks;
    }

pub returns-then-keep-clause-heard : goal.returns-then-keep-clause-heard
returns-then-keep-clause-heard c =
    let kept = c.args.self.now.kept in
    let on = c.if-keep.true in
    hears-piece c.args.self.now.lost _ (string_bytes kept.text) c.args.s.now _ kept.marks.items _ c.args.self.now.whole
    (c.keep.ensures.text on) (c.keep.ensures.marks on)
