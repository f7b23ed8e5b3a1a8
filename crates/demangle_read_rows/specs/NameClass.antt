-- Names by their bytes.
use Rattle.demangle_grammar.specs.Rule.{Class}
use Rattle.demangle_read_rows.specs.declared.bytes.NameClass.{NameClass}
use Rattle.demangle_read_rows.specs.declared.bytes.NameClass.TheVariants.{CloneType, Resource}

-- the class of which every byte of a name is
abbrev pub class_of : NameClass → Class
class_of CloneType = Class.clone
class_of Resource = Class.resource
