use Rattle.demangle_printing.specs.Rules.{line_for}
use Rattle.demangle_meets.specs.Place.{world_of}
use Rattle.demangle_meets.proofs.Acts.{meets_done}
use Rattle.demangle_meets.proofs.Parts.{meets_at}
use Rattle.demangle_lines.specs.ScopeOf.{lent_scope}
use Rattle.demangle_lines_tied.specs.PlaceOf.{place_of}
use Rattle.demangle_lines_print.proofs.demangle.print_shown.Goals as goal

pub returns-in-None : goal.returns-in-None
returns-in-None g c =
    record {
      meets =
          meets_at (λ y. line_for (world_of (place_of g.T.RefersTo.table c.args.depth).refers) y
          (lent_scope g.T.InnerNode.tree c.args.scope)) (c.in-None.ensures c.args.depth.sources.now.input.now)
          meets_done;
    }

pub returns-in-Some : goal.returns-in-Some
returns-in-Some g c =
    record {
      meets =
          meets_at (λ y. line_for (world_of (place_of g.T.RefersTo.table c.args.depth).refers) y
          (lent_scope g.T.InnerNode.tree c.args.scope)) (c.in-Some.ensures c.args.depth.sources.now.input.now)
          c.print_line.ensures;
    }
