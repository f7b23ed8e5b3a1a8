use Rattle.std.proofs.Common.{refl, sym, ◌∙◌, ap}
use Rattle.demangle_grammar.specs.Sound.{bytes_of}
use Rattle.demangle_printing.specs.Act.{block, done, named}
use Rattle.demangle_printing.specs.Reader.{input_text}
use Rattle.demangle_printing.specs.Texts.{is_anonymous}
use Rattle.demangle_printing.specs.Print.{body}
use Rattle.demangle_printing.specs.Lines.{line_steps}
use Rattle.demangle_meets.proofs.Acts.{meets_choose_off, meets_choose_on, meets_done, meets_text}
use Rattle.demangle_meets.proofs.Parts.{meets_at, prints_deep, prints_node}
use Rattle.demangle_print_parts.proofs.identifiers.identifier.Goals as goal

pub returns-in_default : goal.returns-in_default
returns-in_default g c = λ sc. prints_deep refl c.in_default.ensures

pub returns-then-is_anonymous : goal.returns-then-is_anonymous
unfolding body line_steps
returns-then-is_anonymous g c = λ sc.
    let
    same = c.bytes_between-bytes.ensures
    ∙ ap (λ z. bytes_of z c.args.node.now.start c.args.node.now.end) c.input.ensures
    in
    prints_node refl c.in-Some.ensures.0
    (meets_choose_on
    (λ s. is_anonymous (bytes_of (g.B.Below.at c.in-Some.below).refers.input c.args.node.now.start c.args.node.now.end))
    _ (λ _. sym (ap is_anonymous same) ∙ (sym c.is_anonymous.ensures ∙ c.if-is_anonymous.true))
    (meets_text c.text.ensures meets_done) meets_done)

pub returns-else-is_anonymous : goal.returns-else-is_anonymous
unfolding body line_steps
returns-else-is_anonymous g c = λ sc.
    let
    same = c.bytes_between-bytes.ensures
    ∙ ap (λ z. bytes_of z c.args.node.now.start c.args.node.now.end) c.input.ensures
    in
    prints_node refl c.in-Some.ensures.0
    (meets_choose_off
    (λ s. is_anonymous (bytes_of (g.B.Below.at c.in-Some.below).refers.input c.args.node.now.start c.args.node.now.end))
    _ (λ _. sym (ap is_anonymous same) ∙ (sym c.is_anonymous.ensures ∙ c.if-is_anonymous.false))
    (meets_at (λ z. named z (block (input_text z) done)) same (c.write_name.ensures _)) meets_done)
