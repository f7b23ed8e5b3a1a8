use Rattle.std.proofs.Common.{codes, ◌∙◌, ap}
use Rattle.demangle_vocab.specs.declared.builtin.StandardBuiltinType.TheVariants.{Bool}
use Rattle.demangle_vocab.specs.Builtins.{number_of_builtin}
use Rattle.demangle_leaf_nodes.specs.TreeLeaves.{tree_of_type_handle}
use Rattle.demangle_grammar.specs.Sound.{bytes_of}
use Rattle.demangle_printing.specs.Print.{body}
use Rattle.demangle_printing.specs.Lines.{line_steps}
use Rattle.demangle_meets.specs.Place.{world_of}
use Rattle.demangle_meets.proofs.Acts.{meets_block, meets_done, meets_text}
use Rattle.demangle_meets.proofs.Parts.{meets_at}
use Rattle.demangle_print_primaries.specs.Literals.{digits_of, real_of}
use Rattle.demangle_print_primaries.proofs.Chosen.{meets_else, meets_if}
use Rattle.demangle_print_primaries.proofs.Words.{of_bytes}
use Rattle.demangle_print_primaries.proofs.literals.literal.Goals as goal

pub returns-then-is_truth_value : goal.returns-then-is_truth_value
unfolding body line_steps
returns-then-is_truth_value g c =
    record {
      meets = meets_if _ (of_bytes (world_of (g.B.Below.at c.args.below).refers)
          (tree_of_type_handle c.args.handle.now) (number_of_builtin Bool) (codes "0") c.is_truth_value.ensures
          (c.bytes_between-bytes.ensures
          ∙ ap (λ i. bytes_of i c.args.start c.args.stop) c.input.ensures)) c.if-is_truth_value.true
          (meets_text c.text.ensures meets_done) meets_done;
    }

pub returns-then-is_truth_value-2 : goal.returns-then-is_truth_value-2
unfolding body line_steps
returns-then-is_truth_value-2 g c =
    record {
      meets = meets_else _ (of_bytes (world_of (g.B.Below.at c.args.below).refers) (tree_of_type_handle
          c.args.handle.now) (number_of_builtin Bool) (codes "0") c.is_truth_value.ensures
          (c.bytes_between-bytes.ensures ∙
          ap (λ i. bytes_of i c.args.start c.args.stop) c.input.ensures)) c.if-is_truth_value.false (meets_if _
          (of_bytes
          (world_of (g.B.Below.at c.args.below).refers) (tree_of_type_handle c.args.handle.now) (number_of_builtin Bool)
          (codes "1") c.is_truth_value-else-is_truth_value.ensures (c.bytes_between-bytes.ensures ∙ ap (λ i. bytes_of i
          c.args.start c.args.stop) c.input.ensures)) c.if-is_truth_value-2.true (meets_text
          c.text-then-is_truth_value-2.ensures meets_done) meets_done) meets_done;
    }

pub returns-then-is_type : goal.returns-then-is_type
unfolding body line_steps
returns-then-is_type g c =
    record {
      meets = meets_else _ (of_bytes (world_of (g.B.Below.at c.args.below).refers) (tree_of_type_handle
          c.args.handle.now) (number_of_builtin Bool) (codes "0") c.is_truth_value.ensures
          (c.bytes_between-bytes.ensures ∙
          ap (λ i. bytes_of i c.args.start c.args.stop) c.input.ensures)) c.if-is_truth_value.false (meets_else _
          (of_bytes
          (world_of (g.B.Below.at c.args.below).refers) (tree_of_type_handle c.args.handle.now) (number_of_builtin Bool)
          (codes "1") c.is_truth_value-else-is_truth_value.ensures (c.bytes_between-bytes.ensures ∙ ap (λ i. bytes_of i
          c.args.start c.args.stop) c.input.ensures)) c.if-is_truth_value-2.false (meets_if _ c.is_type.ensures
          c.if-is_type.true (meets_text c.text-then-is_type.ensures (meets_block (meets_at (λ bs. digits_of bs)
          (c.bytes_between-bytes.ensures ∙ ap (λ i. bytes_of i c.args.start c.args.stop) c.input.ensures)
          (c.digits.ensures
          (g.B.Below.at c.args.below))) meets_done)) meets_done) meets_done) meets_done;
    }

pub returns-then-is_type-2 : goal.returns-then-is_type-2
unfolding body line_steps
returns-then-is_type-2 g c =
    record {
      meets = meets_else _ (of_bytes (world_of (g.B.Below.at c.args.below).refers) (tree_of_type_handle
          c.args.handle.now) (number_of_builtin Bool) (codes "0") c.is_truth_value.ensures
          (c.bytes_between-bytes.ensures ∙
          ap (λ i. bytes_of i c.args.start c.args.stop) c.input.ensures)) c.if-is_truth_value.false (meets_else _
          (of_bytes
          (world_of (g.B.Below.at c.args.below).refers) (tree_of_type_handle c.args.handle.now) (number_of_builtin Bool)
          (codes "1") c.is_truth_value-else-is_truth_value.ensures (c.bytes_between-bytes.ensures ∙ ap (λ i. bytes_of i
          c.args.start c.args.stop) c.input.ensures)) c.if-is_truth_value-2.false (meets_else _ c.is_type.ensures
          c.if-is_type.false (meets_if _ c.is_type-else-is_type.ensures c.if-is_type-2.true (meets_text
          c.text-then-is_type-2.ensures meets_done) meets_done) meets_done) meets_done) meets_done;
    }

pub returns-then-is_floating : goal.returns-then-is_floating
unfolding body line_steps
returns-then-is_floating g c =
    record {
      meets = meets_else _ (of_bytes (world_of (g.B.Below.at c.args.below).refers) (tree_of_type_handle
          c.args.handle.now) (number_of_builtin Bool) (codes "0") c.is_truth_value.ensures
          (c.bytes_between-bytes.ensures ∙
          ap (λ i. bytes_of i c.args.start c.args.stop) c.input.ensures)) c.if-is_truth_value.false (meets_else _
          (of_bytes
          (world_of (g.B.Below.at c.args.below).refers) (tree_of_type_handle c.args.handle.now) (number_of_builtin Bool)
          (codes "1") c.is_truth_value-else-is_truth_value.ensures (c.bytes_between-bytes.ensures ∙ ap (λ i. bytes_of i
          c.args.start c.args.stop) c.input.ensures)) c.if-is_truth_value-2.false (meets_else _ c.is_type.ensures
          c.if-is_type.false (meets_else _ c.is_type-else-is_type.ensures c.if-is_type-2.false
          (meets_if _ c.is_floating.ensures
          c.if-is_floating.true (meets_block c.type_first.ensures (meets_block (meets_at (λ bs. real_of bs)
          (c.bytes_between-bytes.ensures ∙ ap (λ i. bytes_of i c.args.start c.args.stop) c.input.ensures)
          (c.real_bytes.ensures
          (g.B.Below.at c.args.below))) meets_done)) meets_done) meets_done) meets_done) meets_done)
          meets_done;
    }

pub returns-then-is_type-3 : goal.returns-then-is_type-3
unfolding body line_steps
returns-then-is_type-3 g c =
    record {
      meets = meets_else _ (of_bytes (world_of (g.B.Below.at c.args.below).refers) (tree_of_type_handle
          c.args.handle.now) (number_of_builtin Bool) (codes "0") c.is_truth_value.ensures
          (c.bytes_between-bytes.ensures ∙
          ap (λ i. bytes_of i c.args.start c.args.stop) c.input.ensures)) c.if-is_truth_value.false (meets_else _
          (of_bytes
          (world_of (g.B.Below.at c.args.below).refers) (tree_of_type_handle c.args.handle.now) (number_of_builtin Bool)
          (codes "1") c.is_truth_value-else-is_truth_value.ensures (c.bytes_between-bytes.ensures ∙ ap (λ i. bytes_of i
          c.args.start c.args.stop) c.input.ensures)) c.if-is_truth_value-2.false (meets_else _ c.is_type.ensures
          c.if-is_type.false (meets_else _ c.is_type-else-is_type.ensures c.if-is_type-2.false (meets_else _
          c.is_floating.ensures c.if-is_floating.false (meets_if _ c.is_type-else-is_floating.ensures
          c.if-is_type-3.true (meets_block
          (meets_at (λ bs. digits_of bs) (c.bytes_between-bytes.ensures ∙ ap (λ i. bytes_of i c.args.start c.args.stop)
          c.input.ensures) (c.digits-then-is_type-3.ensures (g.B.Below.at c.args.below))) meets_done) meets_done)
          meets_done) meets_done) meets_done) meets_done) meets_done;
    }

pub returns-else-is_type-3 : goal.returns-else-is_type-3
unfolding body line_steps
returns-else-is_type-3 g c =
    record {
      meets = meets_else _ (of_bytes (world_of (g.B.Below.at c.args.below).refers) (tree_of_type_handle
          c.args.handle.now) (number_of_builtin Bool) (codes "0") c.is_truth_value.ensures
          (c.bytes_between-bytes.ensures ∙
          ap (λ i. bytes_of i c.args.start c.args.stop) c.input.ensures)) c.if-is_truth_value.false (meets_else _
          (of_bytes
          (world_of (g.B.Below.at c.args.below).refers) (tree_of_type_handle c.args.handle.now) (number_of_builtin Bool)
          (codes "1") c.is_truth_value-else-is_truth_value.ensures (c.bytes_between-bytes.ensures ∙ ap (λ i. bytes_of i
          c.args.start c.args.stop) c.input.ensures)) c.if-is_truth_value-2.false (meets_else _ c.is_type.ensures
          c.if-is_type.false (meets_else _ c.is_type-else-is_type.ensures c.if-is_type-2.false (meets_else _
          c.is_floating.ensures c.if-is_floating.false (meets_else _ c.is_type-else-is_floating.ensures
          c.if-is_type-3.false
          (meets_block c.type_first-else-is_type-3.ensures (meets_block (meets_at (λ bs. digits_of bs)
          (c.bytes_between-bytes.ensures ∙ ap (λ i. bytes_of i c.args.start c.args.stop) c.input.ensures)
          (c.digits-else-is_type-3.ensures
          (g.B.Below.at c.args.below))) meets_done)) meets_done) meets_done) meets_done)
          meets_done) meets_done) meets_done;
    }
