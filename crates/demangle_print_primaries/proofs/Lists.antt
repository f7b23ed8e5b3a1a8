-- Lists as parts of nodes.
use Rattle.std.proofs.Common.{List, map, Some, sym}
use Rattle.demangle_core.specs.Core.{Tag, Core, node, end, trees}
use Rattle.demangle_nodes.specs.declared.nodes.UnresolvedQualifierLevel.{UnresolvedQualifierLevel}
use Rattle.demangle_nodes.specs.TreeNodes.{tag_of_unresolved_qualifier_level, parts_of_unresolved_qualifier_level}
use Rattle.demangle_nodes.specs.TreeNodes.{tree_of_unresolved_qualifier_level}
use Rattle.demangle_printing.specs.World.{listed}
use Rattle.demangle_printing.specs.Scope.{Scope}
use Rattle.demangle_printing.specs.Act.{Act, block, done}
use Rattle.demangle_printing.specs.Rules.{lines_of}
use Rattle.demangle_meets.specs.Page.{Page}
use Rattle.demangle_meets.specs.Place.{Place, world_of}
use Rattle.demangle_meets.specs.Meets.{Meets}
use Rattle.demangle_meets.proofs.Acts.{meets_done, meets_block}
use Rattle.demangle_meets.proofs.Parts.{meets_found}
use Rattle.demangle_print_parts.proofs.Listed.{trees_listed}
use Rattle.demangle_print_primaries.specs.Levels.{levels_of}

-- a list with commas, and what comes behind it
pub meets_list : {A : Type 0} {p : Place} {a m b : Page} {k : Act Core} (sc : Scope Core) (t : A → Tag)
    (q : A → Core) (xs : List A) →
    Meets p a m (lines_of (world_of p.refers) (map (λ x. node (t x) (q x) end) xs) sc) → Meets p m b k →
    Meets p a b
    (block (lines_of (world_of p.refers) (listed (world_of p.refers) (Some (node Tag.Several (trees t q xs) end)))
    sc) k)
meets_list {p = p} sc t q xs d e =
    meets_found (λ ys. lines_of (world_of p.refers) ys sc) (sym (trees_listed p.refers t q xs)) d e

-- the levels of a name that isn't resolved, and what comes behind them
pub meets_levels : {p : Place} {a m b : Page} {k : Act Core} (sc : Scope Core) (xs : List UnresolvedQualifierLevel) →
    Meets p a m (levels_of (world_of p.refers) sc (map tree_of_unresolved_qualifier_level xs)) → Meets p m b k →
    Meets p a b
    (block
    (block
    (levels_of (world_of p.refers) sc
    (listed (world_of p.refers)
    (Some (node Tag.Several (trees tag_of_unresolved_qualifier_level parts_of_unresolved_qualifier_level xs) end))))
    done) k)
meets_levels {p = p} sc xs d e =
    meets_block (meets_found (λ ys. levels_of (world_of p.refers) sc ys)
    (sym (trees_listed p.refers tag_of_unresolved_qualifier_level parts_of_unresolved_qualifier_level xs)) d
    meets_done) e
