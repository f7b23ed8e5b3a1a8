use Rattle.std.proofs.Common.{◌≡◌, ◌++◌, ◌∷◌, [], refl, rules, string_bytes}
use Rattle.demangle_parts_text.specs.declared.mark.Mark.TheVariants as mark
use Rattle.demangle_parts_text.proofs.HeardLaws.{chars-mark, hears-begins, sizes-begins}
use Rattle.demangle_parts_text.proofs.heard.HeardDemangleWrite.push_demangle_node.Goals as goal

pub invariant_of-self-else-is_err : goal.invariant_of-self-else-is_err
invariant_of-self-else-is_err c = record {
  whole = sizes-begins _ c.args.kind c.args.self.now.kept.marks.items _ _ c.push.ensures.items c.args.self.now.whole;
  characters =
      chars-mark _ (string_bytes c.args.self.now.kept.text) (mark.Begins c.args.kind)
      c.args.self.now.kept.marks.items _ refl
      c.push.ensures.items c.args.self.now.characters;
}

pub returns-else-is_err : goal.returns-else-is_err
returns-else-is_err c =
    let ms = c.args.self.now.kept.marks.items in
    let is : c.push.new.self.items ≡ ms ++ mark.Begins c.args.kind ∷ [] = search rules in
    hears-begins c.args.self.now.lost _ c.args.kind (string_bytes c.args.self.now.kept.text) ms c.push.new.self.items is
