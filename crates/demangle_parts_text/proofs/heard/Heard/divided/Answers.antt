use Rattle.std.proofs.Common.{◌∙◌, refl, string_bytes}
use Rattle.demangle_parts_text.proofs.DivideLaws.{cut-of, heard-as}
use Rattle.demangle_parts_text.proofs.heard.Heard.divided.Goals as goal

pub invariant_of-front : goal.invariant_of-front
invariant_of-front c =
    let k = c.args.self.kept in
    let h = heard-as c.args.self.lost (string_bytes k.text) c.as_bytes.result.now k.marks.items c.as_slice.result.now
    (c.as_bytes.ensures.value ∙ c.as_str.ensures.value) c.as_slice.ensures.value c.if-self.false c.requires
    c.args.self.whole c.args.self.characters in
    record { whole = h.whole; all_end = h.all_end; characters = h.characters }

pub divide_if-scope-requires-clause-all : goal.divide_if-scope-requires-clause-all
divide_if-scope-requires-clause-all c =
    let k = c.args.self.kept in
    (heard-as c.args.self.lost (string_bytes k.text) c.as_bytes.result.now k.marks.items c.as_slice.result.now
    (c.as_bytes.ensures.value ∙ c.as_str.ensures.value) c.as_slice.ensures.value c.if-self.false c.requires
    c.args.self.whole c.args.self.characters).text

pub returns : goal.returns
returns c =
    let k = c.args.self.kept in
    cut-of c.args.self.lost c.args.has_parts (string_bytes k.text) c.as_bytes.result.now k.marks.items
    c.as_slice.result.now _ (c.as_bytes.ensures.value ∙ c.as_str.ensures.value) c.as_slice.ensures.value c.if-self.false
    refl c.divide_if-scope.ensures.parts
