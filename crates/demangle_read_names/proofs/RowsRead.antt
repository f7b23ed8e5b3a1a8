-- A row is read by its rule: a law a row, so that the rows that it reads stay as they are.
use Rattle.std.proofs.Common.{◌≡◌, refl, ℕ, zero, suc, Bool, []}
use Rattle.demangle_grammar.specs.Rule.{Row}
use Rattle.demangle_grammar.specs.Code.{Here, cread}
use Rattle.demangle_read_types.specs.RowsRead.{row_read}

pub local_name_is : (f : ℕ) (c : Bool) (s : Here) → cread f Row.local_name c s [] ≡ row_read f Row.local_name c s []
unfolding cread row_read
local_name_is zero c s = refl
local_name_is (suc f) c s = refl
