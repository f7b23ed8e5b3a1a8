use Rattle.std.proofs.Common.{◌≤◌, arith}
use Rattle.demangle_vocab.specs.Builtins.{builtins}
use Rattle.demangle_cell_trees.proofs.Past.{text_past}
use Rattle.demangle_cell_trees.proofs.words.builtin_text.Goals as goal

pub returns-in-56-to-255 : goal.returns-in-56-to-255
returns-in-56-to-255 c =
    let h : 56 ≤ c.args.word = omega (arith, c.in-56-to-255) in text_past builtins c.args.word h
