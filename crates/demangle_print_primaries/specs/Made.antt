-- The trees of nodes, by their parts.
use Rattle.std.specs.Prelude.{List}
use Rattle.demangle_core.specs.Core.{Tag, Core, node, end, trees}
use Rattle.demangle_nodes.specs.declared.nodes.Expression.{Expression}
use Rattle.demangle_nodes.specs.declared.nodes.TemplateArg.{TemplateArg}
use Rattle.demangle_nodes.specs.declared.nodes.UnresolvedQualifierLevel.{UnresolvedQualifierLevel}
use Rattle.demangle_nodes.specs.TreeNodes.{tag_of_expression, parts_of_expression}
use Rattle.demangle_nodes.specs.TreeNodes.{tag_of_template_arg, parts_of_template_arg}
use Rattle.demangle_nodes.specs.TreeNodes.{tag_of_unresolved_qualifier_level, parts_of_unresolved_qualifier_level}

abbrev pub made : Tag → Core → Core
made t parts = node t parts end

-- ---- lists as parts
abbrev pub expressions : List Expression → Core
expressions xs = node Tag.Several (trees tag_of_expression parts_of_expression xs) end

abbrev pub arguments : List TemplateArg → Core
arguments xs = node Tag.Several (trees tag_of_template_arg parts_of_template_arg xs) end

abbrev pub qualifier_levels : List UnresolvedQualifierLevel → Core
qualifier_levels xs =
    node Tag.Several (trees tag_of_unresolved_qualifier_level parts_of_unresolved_qualifier_level xs) end
