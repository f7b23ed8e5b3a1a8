use Rattle.demangle_read_rows.proofs.ResourceNames.{resource_plain, resource_slash, resource_dot, resource_dollar}
use Rattle.demangle_read_rows.proofs.resources.resource_end.Goals as goal

pub returns-in_default : goal.returns-in_default
returns-in_default c table =
    resource_plain _ _ _ _ _ _ _ _ c.in_ok-_depth.ensures.0 c.in_ok-stop.ensures c.in_default.ensures table

pub returns-in-Ok-word : goal.returns-in-Ok-word
returns-in-Ok-word c table =
    resource_slash _ _ _ _ _ _ _ _ c.in_ok-_depth.ensures.0 c.in_ok-stop.ensures c.in-Ok.ensures c.in-Ok-word.ensures
    table

pub returns-in-Ok-word-2 : goal.returns-in-Ok-word-2
returns-in-Ok-word-2 c table =
    resource_dot _ _ _ _ _ _ _ _ _ c.in_ok-_depth.ensures.0 c.in_ok-stop.ensures c.in-Ok.ensures
    c.in_default-word.ensures c.in-Ok-word-2.ensures table

pub returns-in-Ok-word-3 : goal.returns-in-Ok-word-3
returns-in-Ok-word-3 c table =
    resource_dollar _ _ _ _ _ _ _ _ _ _ c.in_ok-_depth.ensures.0 c.in_ok-stop.ensures c.in-Ok.ensures
    c.in_default-word.ensures c.in_default-word-2.ensures c.in-Ok-word-3.ensures table
