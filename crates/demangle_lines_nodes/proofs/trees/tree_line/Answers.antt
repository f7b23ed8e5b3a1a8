use Rattle.std.proofs.Common.{◌∙◌, sym}
use Rattle.demangle_printing.specs.Print.{body}
use Rattle.demangle_meets.specs.Place.{world_of}
use Rattle.demangle_meets.proofs.Acts.{meets_block, meets_done}
use Rattle.demangle_lines.proofs.Doing.{runs_as}
use Rattle.demangle_lines_nodes.proofs.TreeLines.{node_line, no_line, word_line}
use Rattle.demangle_lines_nodes.proofs.trees.tree_line.Goals as goal

pub returns-in-Node : goal.returns-in-Node
unfolding body
returns-in-Node g c =
    (runs_as (node_line ((world_of (g.B.Below.at c.args.below).refers).look (g.T.InnerNode.tree c.args.tree))
    c.in-Node.ensures) c.line_by_tag.ensures).meets

pub returns-in-Word : goal.returns-in-Word
unfolding body
returns-in-Word g c =
    (runs_as (word_line ((world_of (g.B.Below.at c.args.below).refers).look (g.T.InnerNode.tree c.args.tree))
    c.in-Word.ensures) (record { meets = meets_block c.spelled_itself.ensures meets_done })).meets

pub returns-in_default : goal.returns-in_default
unfolding body
returns-in_default g c =
    (runs_as (no_line ((world_of (g.B.Below.at c.args.below).refers).look (g.T.InnerNode.tree c.args.tree))
    (λ n e. c.in_default.not-Node n (c.shape_at.ensures ∙ e))
    (λ t k e. c.in_default.not-Word t k (c.shape_at.ensures ∙ e))) (record { meets = meets_done })).meets
