use Rattle.std.proofs.Common.{sym}
use Rattle.demangle_printing.specs.Act.{block, done, named}
use Rattle.demangle_printing.specs.Reader.{text_if}
use Rattle.demangle_meets.proofs.Acts.{meets_block, meets_done, meets_named, meets_named_fails, meets_text}
use Rattle.demangle_meets.proofs.Parts.{meets_at}
use Rattle.demangle_lines.proofs.bytes.write_name.Goals as goal

pub returns-in-Some : goal.returns-in-Some
returns-in-Some g c = λ p.
    meets_at (λ v. named c.args.bytes.now (block (text_if v c.args.bytes.now) done)) (sym c.in-Some.ensures.1)
    (meets_named (rw c.in-Some.ensures.0 at c.name.ensures)
    (meets_block (meets_text (rw c.in-Some.ensures.0 at c.text.ensures) meets_done) meets_done))

pub returns-in-None : goal.returns-in-None
returns-in-None g c = λ p.
    meets_at (λ v. named c.args.bytes.now (block (text_if v c.args.bytes.now) done)) (sym c.in-None.ensures)
    (meets_named_fails c.fail.ensures)
