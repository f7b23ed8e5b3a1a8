use Rattle.demangle_read_nested.proofs.Qualified.{object_word, optional_node, qualifiers_node}
use Rattle.demangle_read_nested.proofs.qualifiers.nested_qualifiers.Goals as goal

pub returns-clause-shape : goal.returns-clause-shape
returns-clause-shape c F h =
    let k = c.optional_ref_qualifier.ensures.grown.holds F h in (
      qualifiers_node _ _ _ _ _ (c.in_ok-cv.ensures.reads F k),
      optional_node _ _ _ _ _ _ (c.in_ok-reference.ensures.reads F h),
    )
