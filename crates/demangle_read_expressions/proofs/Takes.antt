-- Rows that lists are made of take a byte each.
use Rattle.std.proofs.Common.{◌≡◌, refl, true}
use Rattle.demangle_grammar.specs.Rule.{Row}
use Rattle.demangle_grammar.specs.Rows.{rule}
use Rattle.demangle_grammar.specs.First.{takes_in, takes_row}

pub expressions_take : takes_row Row.expression ≡ true
unfolding takes_in rule
expressions_take = refl

pub scopes_take : takes_row Row.unresolved_qualifier_level ≡ true
unfolding takes_in rule
scopes_take = refl
