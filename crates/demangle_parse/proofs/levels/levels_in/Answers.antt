use Rattle.demangle_parse.proofs.levels.levels_in.Goals as goal

pub returns-clause-kept : goal.returns-clause-kept
returns-clause-kept g c whole h = c.levels_between.ensures.kept whole (c.in_ok-bounds.ensures.kept whole h)

pub returns-clause-needs : goal.returns-clause-needs
returns-clause-needs g c whole h =
    c.levels_between.ensures.needs c.args.few c.args.depth.levels whole (c.in_ok-bounds.ensures.kept whole h)
    (c.in_ok-bounds.ensures.bounds whole h)
