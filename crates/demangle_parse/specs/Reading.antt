-- The ordered reading of a row in a context of reading.
use Rattle.std.specs.Prelude.{[]}
use Rattle.demangle_text.specs.Spot.{spot}
use Rattle.demangle_text.specs.declared.index_str.IndexStr.{IndexStr}
use Rattle.demangle_core.specs.Table.{Table}
use Rattle.demangle_grammar.specs.Rule.{Row}
use Rattle.demangle_grammar.specs.Code.{Reply, here, cread}
use Rattle.demangle_leaf_rows.specs.Context.{Context, levels_left}

-- with the levels that are left and the flag, from the front of the input and with the entries of the table
abbrev pub reading_in : Context → Row → IndexStr → Table → Reply
reading_in c row input table = cread (levels_left c) row c.conversion (here (spot input) table) []
