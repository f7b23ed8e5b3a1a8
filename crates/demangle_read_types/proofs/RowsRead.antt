-- A row is read by its rule: a law a row, so that the rows that it reads stay as they are.
use Rattle.std.proofs.Common.{◌≡◌, refl, ℕ, zero, suc, Bool, List, []}
use Rattle.demangle_core.specs.Core.{Core}
use Rattle.demangle_grammar.specs.Rule.{Row}
use Rattle.demangle_grammar.specs.Code.{Here, cread}
use Rattle.demangle_read_types.specs.RowsRead.{row_read}

read_is : (f : ℕ) (r : Row) (c : Bool) (s : Here) (acc : List Core) → cread f r c s acc ≡ row_read f r c s acc
unfolding cread row_read
read_is zero r c s acc = refl
read_is (suc f) r c s acc = refl

pub function_type_is : (f : ℕ) (c : Bool) (s : Here)
    → cread f Row.function_type c s [] ≡ row_read f Row.function_type c s []
function_type_is f c s = read_is f Row.function_type c s []

pub bare_function_type_is : (f : ℕ) (c : Bool) (s : Here)
    → cread f Row.bare_function_type c s [] ≡ row_read f Row.bare_function_type c s []
bare_function_type_is f c s = read_is f Row.bare_function_type c s []

pub template_args_is : (f : ℕ) (c : Bool) (s : Here)
    → cread f Row.template_args c s [] ≡ row_read f Row.template_args c s []
template_args_is f c s = read_is f Row.template_args c s []
