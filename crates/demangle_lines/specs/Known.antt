-- Trees that most names have, which are told at one look.
use Rattle.std.specs.Prelude.{◌≡◌, ℕ, false, List}
use Rattle.demangle_core.specs.Core.{Core, Tag, end, node, place, flag}
use Rattle.demangle_grammar.specs.Sound.{bytes_of}

-- an identifier that is a whole source name
abbrev pub identifier : (start stop : ℕ) → Core
identifier i j = node Tag.Identifier (place i j end) end

abbrev pub source_name : (start stop : ℕ) → Core
source_name i j = node Tag.SourceName (identifier i j) end

abbrev pub no_tags : Core
no_tags = node Tag.AbiTags (node Tag.Several end end) end

-- an unqualified name that is a source name without tags
abbrev pub plain_name : (start stop : ℕ) → Core
plain_name i j = node Tag.UnqualifiedNameSource (node Tag.SourceName (identifier i j) no_tags) end

-- its bytes in the input
pub record IsPlainName (input : List ℕ) (x : Core) (bytes : List ℕ) : Type 0 where
  pub start : ℕ
  pub stop : ℕ
  pub is : x ≡ plain_name start stop
  pub here : bytes ≡ bytes_of input start stop

-- the qualifiers of a type, where it has none
abbrev pub unqualified : Core
unqualified = node Tag.CvQualifiers (flag false (flag false (flag false end))) end
