use Rattle.std.proofs.Common.{inr, rules}
use Rattle.demangle_leaf_rows.proofs.Tags.{tags_end, tags_fail, tag_shortens}
use Rattle.demangle_leaf_rows.proofs.lists.abi_tags.Goals as goal

pub loop-tag-smaller : goal.loop-tag-smaller
loop-tag-smaller c =
    tag_shortens _ _ c.loop-tag.rest c.in-Ok-Some.after c.in-Ok-Some.tag c.read_leaf.result c.read_leaf.ensures
    (search rules)

pub returns-in-Ok-None : goal.returns-in-Ok-None
returns-in-Ok-None c table =
    tags_end _ _ _ _ _ c.loop-tag.rest c.loop-tag.tags.items c.read_leaf.result c.loop-tag.invariant
    c.read_leaf.ensures (search rules) c.in_ok-depth.ensures table

pub returns-in-Err : goal.returns-in-Err
returns-in-Err c table =
    inr (tags_fail _ _ _ _ _ c.loop-tag.rest c.loop-tag.tags.items c.read_leaf.result c.in-Err.error
    c.loop-tag.invariant c.read_leaf.ensures c.in-Err.ensures.0 c.in-Err.ensures.1 c.in_ok-depth.ensures table)
