use Rattle.demangle_cell_trees.proofs.AtOnce.{constant_is, plain_name_is}
use Rattle.demangle_cell_trees.proofs.known.name_bytes.Goals as goal

pub returns-then-tags-no_tags_id : goal.returns-then-tags-no_tags_id
returns-then-tags-no_tags_id c =
    let h = c.in-Some-Two-UnqualifiedNameSource-default-default in
    plain_name_is (λ b. b.now) c.args.arena.now c.args.input.now c.args.id h.source h.tags c.source_bytes.result
    (rw (h.field-0-is, h.field-0-0-is) at h.ensures)
    (constant_is c.args.arena.now c.if-tags-no_tags_id.true c.no_tags_id.ensures) c.source_bytes.ensures
