use Rattle.std.proofs.Common.{◌∙◌, ap, sym}
use Rattle.demangle_parts_text.specs.Split.{opens}
use Rattle.demangle_parts_text.proofs.DivideLaws.{arguments-in}
use Rattle.demangle_parts_text.proofs.divide.arguments.Goals as goal

pub returns-in-Some : goal.returns-in-Some
returns-in-Some c =
    arguments-in c.args.front c.text_at-size.result.1 c.in-Some.behind c.text_at-size.result.0 c.in-Some.field-0-0
    c.closing.result c.text_at-size.ensures
    (ap opens (sym c.first.ensures) ∙ sym c.opens.ensures ∙ c.if-not-opens.false)
    c.in-Some.ensures c.closing.ensures
