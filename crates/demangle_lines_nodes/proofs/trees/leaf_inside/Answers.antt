use Rattle.std.proofs.Common.{Some, ap, sym}
use Rattle.demangle_printing.specs.Act as job
use Rattle.demangle_printing.specs.Print.{body, source_or, steps_for}
use Rattle.demangle_printing.specs.Reader.{run}
use Rattle.demangle_meets.specs.Place.{world_of}
use Rattle.demangle_meets.proofs.Acts.{meets_ask, meets_done, meets_text}
use Rattle.demangle_context.specs.PageOf.{page}
use Rattle.demangle_lines.specs.ScopeOf.{lent_scope}
use Rattle.demangle_lines_nodes.proofs.trees.leaf_inside.Goals as goal

pub returns-in-Some : goal.returns-in-Some
unfolding body page
returns-in-Some g c =
    meets_ask (λ n. ap (λ o. source_or o (run (world_of (g.B.Below.at c.args.below).refers)
    (Some (g.T.InnerNode.tree c.args.tree)) (lent_scope g.T.InnerNode.tree c.args.scope)
    (steps_for ((world_of (g.B.Below.at c.args.below).refers).look (g.T.InnerNode.tree c.args.tree)))))
    (sym c.in-Some.ensures)) (meets_text c.text.ensures meets_done) meets_done

pub returns-in-None : goal.returns-in-None
unfolding body page
returns-in-None g c =
    meets_ask (λ n. ap (λ o. source_or o (run (world_of (g.B.Below.at c.args.below).refers)
    (Some (g.T.InnerNode.tree c.args.tree)) (lent_scope g.T.InnerNode.tree c.args.scope)
    (steps_for ((world_of (g.B.Below.at c.args.below).refers).look (g.T.InnerNode.tree c.args.tree)))))
    (sym c.in-None.ensures)) c.tree_line.ensures meets_done
