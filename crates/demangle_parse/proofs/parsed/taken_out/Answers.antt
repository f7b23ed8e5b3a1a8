use Rattle.std.proofs.Common.{◌∙◌, ap, drop}
use Rattle.demangle_table.specs.TableOf.{table_of}
use Rattle.demangle_cells.specs.View.{view}
use Rattle.demangle_parse.proofs.Made.{made_with}
use Rattle.demangle_parse.proofs.parsed.taken_out.Goals as goal

pub returns-clause-made : goal.returns-clause-made
returns-clause-made g c =
    made_with g.X.ReadCells.tree (view c.args.arena.now) c.args.id c.args.count c.divided.result.1.now
    (table_of c.args.subs.now) (table_of c.take_entries.new.subs) c.from_cells.result c.from_cells.ensures.made
    c.from_cells.ensures.refused
    (c.divided.ensures.rest ∙ ap (drop c.args.count) c.entries.ensures) c.in_ok-take_entries.ensures.added
