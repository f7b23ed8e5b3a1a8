use Rattle.std.proofs.Common.{sym}
use Rattle.demangle_printing.specs.Rules.{members_of}
use Rattle.demangle_meets.specs.Place.{world_of}
use Rattle.demangle_meets.proofs.Acts.{meets_done}
use Rattle.demangle_meets.proofs.Lines.{meets_rest}
use Rattle.demangle_meets.proofs.Parts.{meets_found}
use Rattle.demangle_scope.specs.ScopeOf.{scope_of}
use Rattle.demangle_scope.proofs.Members.{members-args}
use Rattle.demangle_print_parts.proofs.arguments.members_apart.Goals as goal

pub returns : goal.returns
returns g c =
    meets_found
    (λ ys. members_of (world_of (g.B.Below.at c.args.below).refers) c.args.args.now.1 ys (scope_of c.args.scope))
    (sym (members-args _ c.args.args.now)) c.members.ensures (meets_rest (c.apart_from.ensures _ _) meets_done)
