-- The node of a list.
use Rattle.demangle_core.specs.Core.{Core, Tag, end, node}

abbrev pub several : Core → Core
several c = node Tag.Several c end
