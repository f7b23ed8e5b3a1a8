use Rattle.std.proofs.Common.{◌∙◌, ap}
use Rattle.demangle_core.specs.Core.{N}
use Rattle.demangle_core.specs.Table.{entry_at}
use Rattle.demangle_print_below.proofs.Referred.{found, not_found}
use Rattle.demangle_print_below.proofs.components.back_reference.Goals as goal

pub returns-in-None : goal.returns-in-None
returns-in-None g c = not_found _ N _ (c.in-None.ensures ∙ ap (entry_at N c.args.idx) c.subs-subs.ensures)

pub returns-in-Some : goal.returns-in-Some
returns-in-Some g c =
    found _ N _ _ (c.in-Some.ensures ∙ ap (entry_at N c.args.idx) c.subs-subs.ensures) c.substitutable.ensures
