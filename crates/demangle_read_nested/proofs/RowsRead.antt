-- A row is read by its rule: a law a row, so that the rows that it reads stay as they are.
use Rattle.std.proofs.Common.{◌≡◌, refl, ℕ, zero, suc, Bool, []}
use Rattle.demangle_grammar.specs.Rule.{Row}
use Rattle.demangle_grammar.specs.Code.{Here, cread}
use Rattle.demangle_read_types.specs.RowsRead.{row_read}

pub prefix_handle_is : (f : ℕ) (c : Bool) (s : Here)
    → cread f Row.prefix_handle c s [] ≡ row_read f Row.prefix_handle c s []
unfolding cread row_read
prefix_handle_is zero c s = refl
prefix_handle_is (suc f) c s = refl
