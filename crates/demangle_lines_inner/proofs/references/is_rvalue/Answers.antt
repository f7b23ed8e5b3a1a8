use Rattle.std.proofs.Common.{◌==◌, ◌∙◌, ap}
use Rattle.demangle_printing.specs.Rules.{tag}
use Rattle.demangle_meets.specs.Place.{world_of}
use Rattle.demangle_lines_inner.proofs.Numbers.{rvalue_code}
use Rattle.demangle_lines_inner.proofs.references.is_rvalue.Goals as goal

pub returns : goal.returns
returns g c =
    c.is.ensures
    ∙ (ap (λ n. n == 199) c.tag_of.ensures ∙ rvalue_code (world_of (g.B.Below.at c.args.below).refers) (tag (world_of (g.B.Below.at c.args.below).refers) (g.T.InnerNode.tree c.args.item)))
