use Rattle.std.proofs.Common.{refl}
use Rattle.demangle_nodes.proofs.Equal.{last_leaf, and_then_leaf, differs_leaf}
use Rattle.demangle_entries.specs.TreeEntries.{tag_of_prefix, parts_of_prefix}
use Rattle.demangle_entries.proofs.Trees.{same_tree}
use Rattle.demangle_entries.proofs.same_entries.PrefixPartialEq.eq.Goals as goal

pub returns-in-Unqualified-other : goal.returns-in-Unqualified-other
returns-in-Unqualified-other c =
    same_tree tag_of_prefix parts_of_prefix c.in-Unqualified.is c.in-Unqualified-other.is refl refl refl
    (last_leaf c.eq.ensures)

pub returns-then-eq : goal.returns-then-eq
returns-then-eq c =
    same_tree tag_of_prefix parts_of_prefix c.in-Nested.is c.in-Nested-other.is refl refl refl
    (and_then_leaf c.if-eq.ensures (last_leaf c.eq-then-eq.ensures))

pub returns-else-eq : goal.returns-else-eq
returns-else-eq c =
    same_tree tag_of_prefix parts_of_prefix c.in-Nested.is c.in-Nested-other.is refl refl refl
    (differs_leaf c.if-eq.false c.if-eq.ensures)

pub returns-then-eq-2 : goal.returns-then-eq-2
returns-then-eq-2 c =
    same_tree tag_of_prefix parts_of_prefix c.in-Template.is c.in-Template-other.is refl refl refl
    (and_then_leaf c.if-eq-2.ensures (last_leaf c.eq-then-eq-2.ensures))

pub returns-else-eq-2 : goal.returns-else-eq-2
returns-else-eq-2 c =
    same_tree tag_of_prefix parts_of_prefix c.in-Template.is c.in-Template-other.is refl refl refl
    (differs_leaf c.if-eq-2.false c.if-eq-2.ensures)

pub returns-in-TemplateParam-other : goal.returns-in-TemplateParam-other
returns-in-TemplateParam-other c =
    same_tree tag_of_prefix parts_of_prefix c.in-TemplateParam.is c.in-TemplateParam-other.is refl refl refl
    (last_leaf c.eq-in-TemplateParam-other.ensures)

pub returns-in-Decltype-other : goal.returns-in-Decltype-other
returns-in-Decltype-other c =
    same_tree tag_of_prefix parts_of_prefix c.in-Decltype.is c.in-Decltype-other.is refl refl refl
    (last_leaf c.eq-in-Decltype-other.ensures)

pub returns-then-eq-3 : goal.returns-then-eq-3
returns-then-eq-3 c =
    same_tree tag_of_prefix parts_of_prefix c.in-DataMember.is c.in-DataMember-other.is refl refl refl
    (and_then_leaf c.if-eq-3.ensures (last_leaf c.eq-then-eq-3.ensures))

pub returns-else-eq-3 : goal.returns-else-eq-3
returns-else-eq-3 c =
    same_tree tag_of_prefix parts_of_prefix c.in-DataMember.is c.in-DataMember-other.is refl refl refl
    (differs_leaf c.if-eq-3.false c.if-eq-3.ensures)
