-- Names by their bytes.
use Rattle.std.specs.Prelude.{ℕ}
use Rattle.demangle_text.specs.Spot.{Spot, spot}
use Rattle.demangle_text.specs.declared.index_str.IndexStr.{IndexStr}
use Rattle.demangle_core.specs.Core.{Core, place, end}
use Rattle.demangle_grammar.specs.Rule.{Class}
use Rattle.demangle_leaf_rows.specs.declared.bytes.NameClass.{NameClass}
use Rattle.demangle_leaf_rows.specs.declared.bytes.NameClass.TheVariants.{CloneType, Resource}

-- the class of which every byte of a name is
abbrev pub class_of : NameClass → Class
class_of CloneType = Class.clone
class_of Resource = Class.resource

-- what is read of a name: its place, and the rest behind it
abbrev pub name_place : ℕ × IndexStr → Core × Spot
name_place x = (place x.0 (spot x.1).index end, spot x.1)
