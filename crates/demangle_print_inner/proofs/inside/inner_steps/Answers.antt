use Rattle.demangle_meets.proofs.Parts.{inside_at}
use Rattle.demangle_scope.specs.ItemTree.{item_tree}
use Rattle.demangle_print_inner.proofs.inside.inner_steps.Goals as goal

pub returns-in-Encoding : goal.returns-in-Encoding
returns-in-Encoding g c = inside_at item_tree c.in-Encoding.is c.encoding_inside.ensures

pub returns-in-Node : goal.returns-in-Node
returns-in-Node g c = inside_at item_tree c.in-Node.is (c.type_inside.ensures _)

pub returns-in-Function : goal.returns-in-Function
returns-in-Function g c = inside_at item_tree c.in-Function.is (c.function_type_inside.ensures _)

pub returns-in-Bare : goal.returns-in-Bare
returns-in-Bare g c = inside_at item_tree c.in-Bare.is c.bare_inside.ensures

pub returns-in-Array : goal.returns-in-Array
returns-in-Array g c = inside_at item_tree c.in-Array.is c.array_inside.ensures

pub returns-in-Vector : goal.returns-in-Vector
returns-in-Vector g c = inside_at item_tree c.in-Vector.is c.vector_inside.ensures

pub returns-in-Member : goal.returns-in-Member
returns-in-Member g c = inside_at item_tree c.in-Member.is c.member_inside.ensures

pub returns-in-Qualifiers : goal.returns-in-Qualifiers
returns-in-Qualifiers g c = inside_at item_tree c.in-Qualifiers.is (c.qualifiers_inside.ensures _)
