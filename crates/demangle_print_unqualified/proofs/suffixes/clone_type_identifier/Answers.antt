use Rattle.std.proofs.Common.{ap, refl, ◌∙◌}
use Rattle.demangle_printing.specs.Lines.{line_steps}
use Rattle.demangle_printing.specs.Print.{body}
use Rattle.demangle_meets.proofs.Parts.{meets_at, prints_deep, prints_node}
use Rattle.demangle_grammar.specs.Sound.{bytes_of}
use Rattle.demangle_print_unqualified.specs.Pieces.{word_act}
use Rattle.demangle_print_unqualified.proofs.suffixes.clone_type_identifier.Goals as goal

pub returns-in_default : goal.returns-in_default
returns-in_default g c = λ sc. prints_deep refl c.in_default.ensures

pub returns : goal.returns
unfolding body line_steps
returns g c =
    λ sc. prints_node refl c.in-Some.ensures.0
    (meets_at word_act
    (c.bytes_between.ensures
    ∙ ap (λ i. bytes_of i c.args.node.now.start c.args.node.now.end) c.input.ensures)
    (c.suffix_word.ensures (g.B.Below.at c.in-Some.below)))
