-- The flags of a printing.
use Rattle.demangle_printing.specs.State.{Flag, lambda, tprefix, nprefix, pack, object, params, returns, littypes}
use Rattle.demangle_context.specs.declared.flag.PrintFlag.{PrintFlag}
use Rattle.demangle_context.specs.declared.flag.PrintFlag.TheVariants as of_flag

abbrev pub flag_of : PrintFlag → Flag
flag_of of_flag.Lambda = lambda
flag_of of_flag.TemplatePrefix = tprefix
flag_of of_flag.NestedPrefix = nprefix
flag_of of_flag.Pack = pack
flag_of of_flag.Object = object
flag_of of_flag.Params = params
flag_of of_flag.Returns = returns
flag_of of_flag.LiteralTypes = littypes
