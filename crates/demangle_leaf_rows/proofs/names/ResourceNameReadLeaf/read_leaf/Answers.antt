use Rattle.demangle_leaf_rows.proofs.ResourceNames.{resource_plain, resource_slash, resource_dot, resource_dollar}
use Rattle.demangle_leaf_rows.proofs.names.ResourceNameReadLeaf.read_leaf.Goals as goal

pub returns-in_default : goal.returns-in_default
returns-in_default c table =
    let r = c.resource_name.ensures in
    rw (r.start, r.end, r.rest)
    (resource_plain _ _ _ _ _ _ _ _ c.in_ok-_depth.ensures.0 c.in_ok-start.ensures c.in_default.ensures table)

pub returns-in-Ok-consume : goal.returns-in-Ok-consume
returns-in-Ok-consume c table =
    let r = c.resource_name-in-Ok-consume.ensures in
    rw (r.start, r.end, r.rest)
    (resource_slash _ _ _ _ _ _ _ _ c.in_ok-_depth.ensures.0 c.in_ok-start.ensures c.in-Ok.ensures
    c.in-Ok-consume.ensures table)

pub returns-in-Ok-consume-2 : goal.returns-in-Ok-consume-2
returns-in-Ok-consume-2 c table =
    let r = c.resource_name-in-Ok-consume-2.ensures in
    rw (r.start, r.end, r.rest)
    (resource_dot _ _ _ _ _ _ _ _ _ c.in_ok-_depth.ensures.0 c.in_ok-start.ensures c.in-Ok.ensures
    c.in_default-consume.ensures c.in-Ok-consume-2.ensures table)

pub returns-in-Ok-consume-3 : goal.returns-in-Ok-consume-3
returns-in-Ok-consume-3 c table =
    let r = c.resource_name-in-Ok-consume-3.ensures in
    rw (r.start, r.end, r.rest)
    (resource_dollar _ _ _ _ _ _ _ _ _ _ c.in_ok-_depth.ensures.0 c.in_ok-start.ensures c.in-Ok.ensures
    c.in_default-consume.ensures c.in_default-consume-2.ensures c.in-Ok-consume-3.ensures table)
