use Rattle.demangle_printing.specs.Reader.{found_leaf}
use Rattle.demangle_printing.specs.Rules.{leaf_act}
use Rattle.demangle_meets.proofs.Acts.{meets_fail}
use Rattle.demangle_meets.proofs.Parts.{meets_at}
use Rattle.demangle_meets.specs.Place.{world_of}
use Rattle.demangle_print_unqualified.proofs.leaf_names.inherited_leaf.Goals as goal

pub returns-in-None : goal.returns-in-None
returns-in-None g c = meets_at (λ y. leaf_act (world_of (g.B.Below.at c.args.below).refers) (found_leaf (world_of
    (g.B.Below.at c.args.below).refers) y)) (rw c.subs.ensures at c.in-None.ensures)
    (meets_fail c.fail.ensures)

pub returns-in-Some : goal.returns-in-Some
returns-in-Some g c = meets_at (λ y. leaf_act (world_of (g.B.Below.at c.args.below).refers) (found_leaf (world_of
    (g.B.Below.at c.args.below).refers) y)) (rw c.subs.ensures at c.in-Some.ensures)
    c.leaf_name.ensures
