use Rattle.std.proofs.Common.{codes, refl, sym}
use Rattle.demangle_nodes.specs.TreeNodes.{tree_of_name}
use Rattle.demangle_entries.specs.TreeEntries.{tree_of_class_enum_type}
use Rattle.demangle_printing.specs.Print.{body}
use Rattle.demangle_printing.specs.Lines.{line_steps}
use Rattle.demangle_meets.specs.Place.{world_of}
use Rattle.demangle_meets.proofs.Acts.{meets_done}
use Rattle.demangle_meets.proofs.Parts.{meets_at, meets_part, prints_at, prints_deep, prints_node}
use Rattle.demangle_scope.specs.ScopeOf.{scope_of}
use Rattle.demangle_print_types.specs.Pieces.{word_and_part}
use Rattle.demangle_print_types.proofs.Itself.{class_is_itself}
use Rattle.demangle_print_types.proofs.types.class_enum_type.Goals as goal

pub returns-in_default : goal.returns-in_default
returns-in_default g c = prints_deep (class_is_itself _ c.args.node.now) c.in_default.ensures

pub returns-in-Named : goal.returns-in-Named
unfolding body line_steps
returns-in-Named g c =
    prints_at tree_of_class_enum_type c.in-Named.is
    (prints_node refl c.in-Some.ensures.0
    (meets_part (prints_at tree_of_name (sym c.deref.ensures) c.name.ensures) meets_done))

pub returns-in-ElaboratedStruct : goal.returns-in-ElaboratedStruct
unfolding body line_steps
returns-in-ElaboratedStruct g c =
    prints_at tree_of_class_enum_type c.in-ElaboratedStruct.is
    (prints_node refl c.in-Some.ensures.0
    (meets_at
    (λ x. word_and_part (world_of (g.B.Below.at c.in-Some.below).refers) (codes "class ") (tree_of_name x)
    (scope_of c.args.scope))
    c.deref-in-ElaboratedStruct.ensures c.elaborated.ensures))

pub returns-in-ElaboratedUnion : goal.returns-in-ElaboratedUnion
unfolding body line_steps
returns-in-ElaboratedUnion g c =
    prints_at tree_of_class_enum_type c.in-ElaboratedUnion.is
    (prints_node refl c.in-Some.ensures.0
    (meets_at
    (λ x. word_and_part (world_of (g.B.Below.at c.in-Some.below).refers) (codes "union ") (tree_of_name x)
    (scope_of c.args.scope))
    c.deref-in-ElaboratedUnion.ensures c.elaborated-in-ElaboratedUnion.ensures))

pub returns-in-ElaboratedEnum : goal.returns-in-ElaboratedEnum
unfolding body line_steps
returns-in-ElaboratedEnum g c =
    prints_at tree_of_class_enum_type c.in-ElaboratedEnum.is
    (prints_node refl c.in-Some.ensures.0
    (meets_at
    (λ x. word_and_part (world_of (g.B.Below.at c.in-Some.below).refers) (codes "enum ") (tree_of_name x)
    (scope_of c.args.scope))
    c.deref-in-ElaboratedEnum.ensures c.elaborated-in-ElaboratedEnum.ensures))
