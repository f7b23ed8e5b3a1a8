-- New and delete. Delete where levels enough are left for all that stands between it and operators: where what is
-- deleted can't be read, the operand of the operator of the same word can't either.
use Rattle.std.specs.Prelude.{ℕ, Bool, Option, Some, None}
use Rattle.demangle_grammar.specs.Code.{Go, Here, at, Reply, close}
use Rattle.demangle_forms.specs.ExpressionForms as form
use Rattle.demangle_forms.specs.ExpressionForms.{names_at, of_expression_at}
use Rattle.demangle_cells.specs.Tags.{tag_of}
use Rattle.demangle_cells.specs.Reads.{spot_at}
use Rattle.demangle_cells.specs.declared.tag.Tag.{Tag}
use Rattle.demangle_cells.specs.declared.text.Text.{Text}
use Rattle.demangle_read_expressions.specs.declared.news.Allocations.{Allocations}

-- the tags of the nodes that the four forms make
abbrev pub tags_of : Allocations → form.Allocations
tags_of x = record {
  new = tag_of x.new_object;
  new_array = tag_of x.new_array;
  delete = tag_of x.delete_object;
  delete_array = tag_of x.delete_array;
}

-- by the word of delete that is known to be there, or else all alternatives
abbrev pub names_by : Text → Option (Tag × ℕ) → Go → Bool → Here → Reply
names_by text None go c s = names_at go c s
names_by text (Some (tag, stop)) go c s =
    close (of_expression_at (tag_of tag) go c (at s (spot_at text stop)))
