-- What stands behind the word of an expression, as the forms say it.
use Rattle.demangle_forms.specs.ExpressionForms as form
use Rattle.demangle_cells.specs.Tags.{tag_of}
use Rattle.demangle_read_expressions.specs.declared.words.Head.{Head}
use Rattle.demangle_read_expressions.specs.declared.words.Head.TheVariants as of_head

abbrev pub head_of : Head → form.Head
head_of (of_head.OfExpression t) = form.Head.of_expression (tag_of t)
head_of (of_head.OfType t) = form.Head.of_type (tag_of t)
head_of (of_head.Cast t) = form.Head.cast (tag_of t)
head_of (of_head.Access t) = form.Head.member (tag_of t)
head_of of_head.Call = form.Head.call
head_of of_head.Conversion = form.Head.conversion
head_of of_head.Braces = form.Head.braces
head_of of_head.List = form.Head.list
head_of of_head.Subobject = form.Head.subobject
head_of of_head.Pointer = form.Head.pointer
head_of of_head.Pack = form.Head.pack
head_of of_head.CapturedPack = form.Head.captured
head_of of_head.Rethrow = form.Head.rethrow
