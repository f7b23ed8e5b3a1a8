-- How many expressions are folded, as the forms say it.
use Rattle.demangle_forms.specs.ExpressionForms as form
use Rattle.demangle_cells.specs.Tags.{tag_of}
use Rattle.demangle_read_expressions.specs.declared.folds.Fold.{Fold}
use Rattle.demangle_read_expressions.specs.declared.folds.Fold.TheVariants as of_fold

abbrev pub fold_of : Fold → form.Fold
fold_of (of_fold.One t) = form.Fold.one (tag_of t)
fold_of (of_fold.Two t) = form.Fold.two (tag_of t)
