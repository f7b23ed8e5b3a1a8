use Rattle.std.proofs.Common.{sym, ◌∙◌}
use Rattle.demangle_leaf_nodes.specs.TreeLeaves.{parts_of_clone_suffix, tag_of_clone_suffix}
use Rattle.demangle_printing.specs.Items.{itself}
use Rattle.demangle_printing.specs.State.{is_on, params}
use Rattle.demangle_printing.specs.Step.{Step}
use Rattle.demangle_meets.specs.Place.{world_of}
use Rattle.demangle_meets.proofs.Acts.{meets_block, meets_choose_off, meets_choose_on, meets_done}
use Rattle.demangle_meets.proofs.Parts.{meets_at}
use Rattle.demangle_print_parts.specs.Pieces.{each_of}
use Rattle.demangle_print_parts.proofs.Listed.{trees_listed}
use Rattle.demangle_print_unqualified.proofs.suffixes.shown_suffixes.Goals as goal

pub returns-then-is_on : goal.returns-then-is_on
returns-then-is_on g c =
    λ sc t x. meets_choose_on (λ s. is_on params s.flags) _ (λ _. sym c.is_on.ensures ∙ c.if-is_on.true)
    (meets_block
    (meets_at (λ xs. each_of (world_of (g.B.Below.at c.args.below).refers) (itself Step.done) xs sc)
    (sym (trees_listed (g.B.Below.at c.args.below).refers tag_of_clone_suffix parts_of_clone_suffix
    c.args.nodes.now))
    (c.each_suffix.ensures sc)) meets_done) meets_done

pub returns-else-is_on : goal.returns-else-is_on
returns-else-is_on g c =
    λ sc t x. meets_choose_off (λ s. is_on params s.flags) _ (λ _. sym c.is_on.ensures ∙ c.if-is_on.false) meets_done
    meets_done
