use Rattle.demangle_parts_text.proofs.FrontLaws.{rest-chars, rest-end, rest-sizes, taken-fits, text-at}
use Rattle.demangle_parts_text.proofs.front.Front.text_at.Goals as goal

pub split_at-requires : goal.split_at-requires
split_at-requires c =
    let f = c.args.self in
    taken-fits f.text.now f.marks.now _ _ f.whole c.pieces_at-count.ensures.size

pub invariant_of-result : goal.invariant_of-result
invariant_of-result c =
    let f = c.args.self in
    let n = c.pieces_at-count.result.0 in
    let b = c.pieces_at-count.result.1 in
    let s = c.pieces_at-count.ensures.size in
    let x = c.split_at.ensures.back in
    let y = c.split_at-2.ensures.back in
    record {
      whole = rest-sizes f.text.now f.marks.now n b _ _ f.whole s x y;
      all_end = rest-end f.marks.now n _ f.all_end y;
      characters = rest-chars f.text.now f.marks.now n b _ _ f.characters s x y;
    }

pub returns : goal.returns
returns c =
    let p = c.pieces_at-count.ensures in
    text-at c.args.self _ c.pieces_at-count.result.0 c.pieces_at-count.result.1 p.pieces p.size p.ends
    c.split_at.ensures.back c.split_at-2.ensures.back
