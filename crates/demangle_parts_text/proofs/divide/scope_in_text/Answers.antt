use Rattle.std.proofs.Common.{◌∙◌, ap, sym}
use Rattle.demangle_parts_text.specs.Split.{ends_in_colons}
use Rattle.demangle_parts_text.proofs.DivideLaws.{scope-text-none, scope-text-not, scope-text-some}
use Rattle.demangle_parts_text.proofs.divide.scope_in_text.Goals as goal

pub returns-then-not-ends_in_colons : goal.returns-then-not-ends_in_colons
returns-then-not-ends_in_colons c =
    scope-text-not c.args.front c.args.behind c.args.size c.requires.at c.requires.some
    (ap ends_in_colons (sym c.first.ensures) ∙ sym c.ends_in_colons.ensures ∙ c.if-not-ends_in_colons.true)

pub returns-in-None : goal.returns-in-None
returns-in-None c =
    scope-text-none c.args.front c.args.behind c.args.size c.requires.at c.requires.some
    (ap ends_in_colons (sym c.first.ensures) ∙ sym c.ends_in_colons.ensures ∙ c.if-not-ends_in_colons.false)
    c.in-None.ensures

pub returns-in-Some : goal.returns-in-Some
returns-in-Some c =
    scope-text-some c.args.front c.args.behind c.in-Some.end c.args.size c.requires.at c.requires.some
    (ap ends_in_colons (sym c.first.ensures) ∙ sym c.ends_in_colons.ensures ∙ c.if-not-ends_in_colons.false)
    c.in-Some.ensures
