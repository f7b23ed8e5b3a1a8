-- The options of printing where none was set.
use Rattle.std.specs.Prelude.{Bool, false, not, is_none, None, ◌==◌, ◌&&◌, ◌||◌}
use Rattle.demangle_printing.specs.Outcome.{Options}

abbrev pub default_options : Options
default_options =
    record {
      limit = 128;
      no_params = false;
      no_return_type = false;
      hide_expression_literal_types = false;
      output_limit = None;
    }

-- whether these are they
abbrev pub is_default : Options → Bool
is_default o =
    ((o.limit == 128) && is_none o.output_limit)
    && not (o.no_params || (o.no_return_type || o.hide_expression_literal_types))
