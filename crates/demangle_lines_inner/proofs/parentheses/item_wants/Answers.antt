use Rattle.std.proofs.Common.{◌∙◌, ap}
use Rattle.demangle_printing.specs.Rules.{tag}
use Rattle.demangle_meets.specs.Place.{world_of}
use Rattle.demangle_lines_inner.specs.Kinds.{number_wants}
use Rattle.demangle_lines_inner.proofs.Numbers.{wants_code}
use Rattle.demangle_lines_inner.proofs.parentheses.item_wants.Goals as goal

pub returns : goal.returns
returns g c =
    c.tag_wants.ensures
    ∙ (ap number_wants c.tag_of.ensures ∙ wants_code (tag (world_of (g.B.Below.at c.args.below).refers) (g.T.InnerNode.tree c.args.item)))
