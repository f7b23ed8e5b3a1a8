-- A step of a look-up in the code, as that of its definition.
use Rattle.std.specs.Borrow.{Bor}
use Rattle.demangle_core.specs.Core.{Core, N, U}
use Rattle.demangle_core.specs.Lookups.{Next, answer, nothing, at}
use Rattle.demangle_leaf_nodes.specs.TreeLeaves.{tree_of_operator_name, tree_of_unqualified_name}
use Rattle.demangle_nodes.specs.declared.nodes.TemplateArgs.{TemplateArgs}
use Rattle.demangle_nodes.specs.TreeNodes.{tree_of_template_args}
use Rattle.demangle_tree.specs.declared.special_names.Special.{Special}
use Rattle.demangle_tree.specs.declared.special_names.Special.TheVariants as of_special
use Rattle.demangle_tree.specs.declared.steps.Step.{Step}
use Rattle.demangle_tree.specs.declared.steps.Step.TheVariants as of_step

abbrev pub next_of : {A : Type 0} → (tree : A → Core) → Step A → Next Core
next_of tree (of_step.Answer x) = answer (tree x)
next_of tree of_step.Nothing = nothing
next_of tree (of_step.Numbered k) = at N k
next_of tree (of_step.Other k) = at U k

-- ---- the trees of answers
abbrev pub tree_of_args : Bor TemplateArgs → Core
tree_of_args x = tree_of_template_args x.now

abbrev pub tree_of_special : Special → Core
tree_of_special (of_special.CtorDtor name) = tree_of_unqualified_name name.now
tree_of_special (of_special.Conversion operator) = tree_of_operator_name operator.now
