use Rattle.std.proofs.Common.{◌∙◌, ap}
use Rattle.demangle_core.specs.Core.{U}
use Rattle.demangle_core.specs.Table.{entry_at}
use Rattle.demangle_print_below.proofs.Referred.{found, not_found}
use Rattle.demangle_print_below.proofs.components.non_substitution.Goals as goal

pub returns-in-None : goal.returns-in-None
returns-in-None g c = not_found _ U _ (c.in-None.ensures ∙ ap (entry_at U c.args.node.now.0) c.subs-subs.ensures)

pub returns-in-Some : goal.returns-in-Some
returns-in-Some g c =
    found _ U _ _ (c.in-Some.ensures ∙ ap (entry_at U c.args.node.now.0) c.subs-subs.ensures) c.substitutable.ensures
