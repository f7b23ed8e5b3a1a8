use Rattle.demangle_leaf_rows.proofs.DottedNumbers.{suffix_found}
use Rattle.demangle_leaf_rows.proofs.lists.clone_suffix.Goals as goal

pub returns : goal.returns
returns c table =
    suffix_found _ _ _ _ _ _ _ _ _ _ _ c.in_ok-depth.ensures c.in_ok-rest.ensures c.in_ok-identifier.ensures
    c.in_ok-numbers.ensures table
