-- Of the place of an argument list: equality leaves it out, and trees keep it, so that a copy, whose tree is the same,
-- has it.
use Rattle.std.specs.Prelude.{◌≡◌, true}
use Rattle.demangle_core.specs.Core.{same}
use Rattle.demangle_nodes.specs.declared.nodes.TemplateArgs.{TemplateArgs}
use Rattle.demangle_nodes.specs.TreeNodes.{tree_of_template_args}

abbrev pub EqualityLeavesPlacesOut : Type 0
EqualityLeavesPlacesOut = (a b : TemplateArgs) → a.0.items ≡ b.0.items
    → same (tree_of_template_args a) (tree_of_template_args b) ≡ true

abbrev pub TreesKeepPlaces : Type 0
TreesKeepPlaces = (a b : TemplateArgs) → tree_of_template_args a ≡ tree_of_template_args b → a.1 ≡ b.1
