use Rattle.std.proofs.Common.{sym, ap}
use Rattle.demangle_nodes.specs.TreeNodes.{tree_of_name}
use Rattle.demangle_parts.specs.Parts.{is_local}
use Rattle.demangle_parts.proofs.SignatureLaws.{not-local}
use Rattle.demangle_parts.proofs.signature.is_local.Goals as goal

pub returns-in-Local : goal.returns-in-Local
returns-in-Local c = ap (λ x. is_local (tree_of_name x)) (sym c.in-Local.is)

pub returns-in_default : goal.returns-in_default
returns-in_default c = not-local c.args.name.now c.in_default.not-Local
