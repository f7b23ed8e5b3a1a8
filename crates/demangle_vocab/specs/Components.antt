-- The abbreviated components (ABI section 5.1.10, <substitution>): word, text, and the leaf name, which `std` has not.
use Rattle.std.specs.Prelude.{ℕ, List, [], ◌∷◌, codes, Option, Some, None}
use Prim.Native.String.{String}
use Rattle.demangle_vocab.specs.WordTable.{Entry, words}
use Rattle.demangle_vocab.specs.declared.component.WellKnownComponent.{WellKnownComponent}
use Rattle.demangle_vocab.specs.declared.component.WellKnownComponent.TheVariants.{Std, StdAllocator, StdString1}
use Rattle.demangle_vocab.specs.declared.component.WellKnownComponent.TheVariants.{StdString2, StdIstream, StdOstream}
use Rattle.demangle_vocab.specs.declared.component.WellKnownComponent.TheVariants.{StdIostream}

abbrev pub component : String → String → Option (List ℕ) → Entry (Option (List ℕ))
component w t l = record { word = codes w; text = codes t; more = l }

abbrev pub components : List (Entry (Option (List ℕ)))
components =
    component "St" "std" None ∷
    component "Sa" "std::allocator" (Some (codes "allocator")) ∷
    component "Sb" "std::basic_string" (Some (codes "basic_string")) ∷
    component "Ss" "std::string" (Some (codes "string")) ∷
    component "Si" "std::basic_istream<char, std::char_traits<char> >" (Some (codes "basic_istream")) ∷
    component "So" "std::ostream" (Some (codes "ostream")) ∷
    component "Sd" "std::basic_iostream<char, std::char_traits<char> >" (Some (codes "basic_iostream")) ∷
    []

abbrev pub component_words : List (List ℕ)
component_words = words components

-- the number of the entry
abbrev pub number_of_component : WellKnownComponent → ℕ
number_of_component Std = 0
number_of_component StdAllocator = 1
number_of_component StdString1 = 2
number_of_component StdString2 = 3
number_of_component StdIstream = 4
number_of_component StdOstream = 5
number_of_component StdIostream = 6
