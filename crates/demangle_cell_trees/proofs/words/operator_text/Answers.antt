use Rattle.std.proofs.Common.{◌≤◌, arith}
use Rattle.demangle_vocab.specs.Operators.{operators}
use Rattle.demangle_cell_trees.proofs.Past.{text_past}
use Rattle.demangle_cell_trees.proofs.words.operator_text.Goals as goal

pub returns-in-48-to-255 : goal.returns-in-48-to-255
returns-in-48-to-255 c =
    let h : 48 ≤ c.args.word = omega (arith, c.in-48-to-255) in text_past operators c.args.word h
