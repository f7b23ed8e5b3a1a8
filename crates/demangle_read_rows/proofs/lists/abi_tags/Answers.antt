use Rattle.std.proofs.Common.{◌<◌, ◌∙◌, sym, arith}
use Rattle.demangle_read_rows.proofs.RowLists.{no_tags}
use Rattle.demangle_read_rows.proofs.lists.abi_tags.Goals as goal

pub returns-then-not-next_is-clause-reads : goal.returns-then-not-next_is-clause-reads
returns-then-not-next_is-clause-reads c F h =
    let deep : 1 < c.args.depth.levels = omega (arith, c.if-depth-gt1.true) in
    no_tags F _ c.args.depth.levels c.args.depth.conversion _ deep (sym c.next_is.ensures ∙ c.if-not-next_is.true)
    (c.no_tags_id.ensures F _ h)
