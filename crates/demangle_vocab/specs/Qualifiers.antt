-- The ref-qualifiers (ABI section 5.1.5.3, <ref-qualifier>) and the mark of an explicit object parameter (ABI section
-- 5.1.2, <nested-name>): word, text.
use Rattle.std.specs.Prelude.{ℕ, List, [], ◌∷◌, codes}
use Prim.Native.String.{String}
use Rattle.demangle_vocab.specs.WordTable.{Entry, words}
use Rattle.demangle_vocab.specs.declared.qualifier.RefQualifier.{RefQualifier}
use Rattle.demangle_vocab.specs.declared.qualifier.RefQualifier.TheVariants.{LValueRef, RValueRef}
use Rattle.demangle_vocab.specs.declared.qualifier.ExplicitObjectParameter as explicit

abbrev pub qualifier : String → String → Entry (Unit {0})
qualifier w t = record { word = codes w; text = codes t; more = tt }

abbrev pub ref_qualifiers : List (Entry (Unit {0}))
ref_qualifiers =
    qualifier "R" "&" ∷
    qualifier "O" "&&" ∷
    []

abbrev pub ref_qualifier_words : List (List ℕ)
ref_qualifier_words = words ref_qualifiers

-- the number of the entry
abbrev pub number_of_ref_qualifier : RefQualifier → ℕ
number_of_ref_qualifier LValueRef = 0
number_of_ref_qualifier RValueRef = 1

abbrev pub explicit_objects : List (Entry (Unit {0}))
explicit_objects =
    qualifier "H" "this" ∷
    []

abbrev pub explicit_object_words : List (List ℕ)
explicit_object_words = words explicit_objects

abbrev pub number_of_explicit_object : explicit.ExplicitObjectParameter → ℕ
number_of_explicit_object _ = 0
