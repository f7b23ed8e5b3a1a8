use Rattle.std.proofs.Common.{refl}
use Rattle.demangle_nodes.proofs.Equal.{last_leaf}
use Rattle.demangle_entries.specs.TreeEntries.{tag_of_substitutable, parts_of_substitutable}
use Rattle.demangle_entries.proofs.Trees.{same_tree}
use Rattle.demangle_entries.proofs.same_entries.SubstitutablePartialEq.eq.Goals as goal

pub returns-in-UnscopedTemplateName-other : goal.returns-in-UnscopedTemplateName-other
returns-in-UnscopedTemplateName-other c =
    same_tree tag_of_substitutable parts_of_substitutable
    c.in-UnscopedTemplateName.is c.in-UnscopedTemplateName-other.is refl refl refl
    (last_leaf c.eq.ensures)

pub returns-in-TypeNode-other : goal.returns-in-TypeNode-other
returns-in-TypeNode-other c =
    same_tree tag_of_substitutable parts_of_substitutable c.in-TypeNode.is c.in-TypeNode-other.is refl refl refl
    (last_leaf c.eq-in-TypeNode-other.ensures)

pub returns-in-TemplateTemplateParam-other : goal.returns-in-TemplateTemplateParam-other
returns-in-TemplateTemplateParam-other c =
    same_tree tag_of_substitutable parts_of_substitutable
    c.in-TemplateTemplateParam.is c.in-TemplateTemplateParam-other.is refl refl refl
    (last_leaf c.eq-in-TemplateTemplateParam-other.ensures)

pub returns-in-UnresolvedType-other : goal.returns-in-UnresolvedType-other
returns-in-UnresolvedType-other c =
    same_tree tag_of_substitutable parts_of_substitutable c.in-UnresolvedType.is c.in-UnresolvedType-other.is
    refl refl refl
    (last_leaf c.eq-in-UnresolvedType-other.ensures)

pub returns-in-Prefix-other : goal.returns-in-Prefix-other
returns-in-Prefix-other c =
    same_tree tag_of_substitutable parts_of_substitutable c.in-Prefix.is c.in-Prefix-other.is refl refl refl
    (last_leaf c.eq-in-Prefix-other.ensures)

pub returns-in-Expression-other : goal.returns-in-Expression-other
returns-in-Expression-other c =
    same_tree tag_of_substitutable parts_of_substitutable c.in-Expression.is c.in-Expression-other.is refl refl refl
    (last_leaf c.eq-in-Expression-other.ensures)
