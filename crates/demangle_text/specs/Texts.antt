-- The texts of the errors.
use Rattle.std.specs.Prelude.{ℕ, List, codes}
use Rattle.demangle_text.specs.declared.error.Error.{Error}
use Rattle.demangle_text.specs.declared.error.Error.TheVariants.{UnexpectedEnd, UnexpectedText, BadBackReference}
use Rattle.demangle_text.specs.declared.error.Error.TheVariants.{BadTemplateArgReference, ForwardTemplateArgReference}
use Rattle.demangle_text.specs.declared.error.Error.TheVariants.{BadFunctionArgReference, BadLeafNameReference}
use Rattle.demangle_text.specs.declared.error.Error.TheVariants.{Overflow, TooMuchRecursion, OutOfMemory}

abbrev pub error_text : Error → List ℕ
error_text UnexpectedEnd = codes "mangled symbol ends abruptly"
error_text UnexpectedText = codes "mangled symbol is not well-formed"
error_text BadBackReference = codes "back reference that is out-of-bounds of the substitution table"
error_text BadTemplateArgReference =
    codes "reference to a template arg that is either out-of-bounds, or in a context without template args"
error_text ForwardTemplateArgReference = codes "reference to a template arg from itself or a later template arg"
error_text BadFunctionArgReference =
    codes "reference to a function arg that is either out-of-bounds, or in a context without function args"
error_text BadLeafNameReference = codes "reference to a leaf name in a context where there is no current leaf name"
error_text Overflow = codes "an overflow or underflow would occur when parsing an integer in a mangled symbol"
error_text TooMuchRecursion = codes "encountered too much recursion when demangling symbol"
error_text OutOfMemory = codes "out of memory"
