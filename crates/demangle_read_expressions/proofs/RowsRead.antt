-- A row is read by its rule: a law a row, so that the rows that it reads stay as they are.
use Rattle.std.proofs.Common.{◌≡◌, refl, ℕ, zero, suc, Bool, List, []}
use Rattle.demangle_core.specs.Core.{Core}
use Rattle.demangle_grammar.specs.Rule.{Row}
use Rattle.demangle_grammar.specs.Code.{Here, cread}
use Rattle.demangle_read_types.specs.RowsRead.{row_read}

read_is : (f : ℕ) (r : Row) (c : Bool) (s : Here) (acc : List Core) → cread f r c s acc ≡ row_read f r c s acc
unfolding cread row_read
read_is zero r c s acc = refl
read_is (suc f) r c s acc = refl

pub initializer_is : (f : ℕ) (c : Bool) (s : Here)
    → cread f Row.initializer c s [] ≡ row_read f Row.initializer c s []
initializer_is f c s = read_is f Row.initializer c s []

pub simple_id_is : (f : ℕ) (c : Bool) (s : Here) → cread f Row.simple_id c s [] ≡ row_read f Row.simple_id c s []
simple_id_is f c s = read_is f Row.simple_id c s []

pub unresolved_type_is : (f : ℕ) (c : Bool) (s : Here)
    → cread f Row.unresolved_type_handle c s [] ≡ row_read f Row.unresolved_type_handle c s []
unresolved_type_is f c s = read_is f Row.unresolved_type_handle c s []

pub base_unresolved_name_is : (f : ℕ) (c : Bool) (s : Here)
    → cread f Row.base_unresolved_name c s [] ≡ row_read f Row.base_unresolved_name c s []
base_unresolved_name_is f c s = read_is f Row.base_unresolved_name c s []
