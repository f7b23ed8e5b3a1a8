-- The builtin types (ABI section 5.1.5.2, <builtin-type>): word, text.
use Rattle.std.specs.Prelude.{ℕ, List, [], ◌∷◌, codes}
use Prim.Native.String.{String}
use Rattle.demangle_vocab.specs.WordTable.{Entry, words}
use Rattle.demangle_vocab.specs.declared.builtin.StandardBuiltinType.{StandardBuiltinType}
use Rattle.demangle_vocab.specs.declared.builtin.StandardBuiltinType.TheVariants.{Void, Wchar, Bool, Char, SignedChar}
use Rattle.demangle_vocab.specs.declared.builtin.StandardBuiltinType.TheVariants.{UnsignedChar, Short, UnsignedShort}
use Rattle.demangle_vocab.specs.declared.builtin.StandardBuiltinType.TheVariants.{Int, UnsignedInt, Long, UnsignedLong}
use Rattle.demangle_vocab.specs.declared.builtin.StandardBuiltinType.TheVariants.{LongLong, UnsignedLongLong, Int128}
use Rattle.demangle_vocab.specs.declared.builtin.StandardBuiltinType.TheVariants.{Uint128, Float, Double, LongDouble}
use Rattle.demangle_vocab.specs.declared.builtin.StandardBuiltinType.TheVariants.{Float128, Ellipsis, DecimalFloat64}
use Rattle.demangle_vocab.specs.declared.builtin.StandardBuiltinType.TheVariants.{DecimalFloat128, DecimalFloat32}
use Rattle.demangle_vocab.specs.declared.builtin.StandardBuiltinType.TheVariants.{DecimalFloat16, BFloat16, Char32}
use Rattle.demangle_vocab.specs.declared.builtin.StandardBuiltinType.TheVariants.{Char16, Char8, Auto, Decltype}
use Rattle.demangle_vocab.specs.declared.builtin.StandardBuiltinType.TheVariants.{Nullptr, AccumShort, AccumUShort}
use Rattle.demangle_vocab.specs.declared.builtin.StandardBuiltinType.TheVariants.{Accum, AccumUnsigned, AccumLong}
use Rattle.demangle_vocab.specs.declared.builtin.StandardBuiltinType.TheVariants.{AccumULong, FractShort, FractUShort}
use Rattle.demangle_vocab.specs.declared.builtin.StandardBuiltinType.TheVariants.{Fract, FractUnsigned, FractLong}
use Rattle.demangle_vocab.specs.declared.builtin.StandardBuiltinType.TheVariants.{FractULong, SatAccumShort}
use Rattle.demangle_vocab.specs.declared.builtin.StandardBuiltinType.TheVariants.{SatAccumUShort, SatAccum}
use Rattle.demangle_vocab.specs.declared.builtin.StandardBuiltinType.TheVariants.{SatAccumUnsigned, SatAccumLong}
use Rattle.demangle_vocab.specs.declared.builtin.StandardBuiltinType.TheVariants.{SatAccumULong, SatFractShort}
use Rattle.demangle_vocab.specs.declared.builtin.StandardBuiltinType.TheVariants.{SatFractUShort, SatFract}
use Rattle.demangle_vocab.specs.declared.builtin.StandardBuiltinType.TheVariants.{SatFractUnsigned, SatFractLong}
use Rattle.demangle_vocab.specs.declared.builtin.StandardBuiltinType.TheVariants.{SatFractULong}

abbrev pub builtin : String → String → Entry (Unit {0})
builtin w t = record { word = codes w; text = codes t; more = tt }

abbrev pub builtins : List (Entry (Unit {0}))
builtins =
    builtin "v" "void" ∷
    builtin "w" "wchar_t" ∷
    builtin "b" "bool" ∷
    builtin "c" "char" ∷
    builtin "a" "signed char" ∷
    builtin "h" "unsigned char" ∷
    builtin "s" "short" ∷
    builtin "t" "unsigned short" ∷
    builtin "i" "int" ∷
    builtin "j" "unsigned int" ∷
    builtin "l" "long" ∷
    builtin "m" "unsigned long" ∷
    builtin "x" "long long" ∷
    builtin "y" "unsigned long long" ∷
    builtin "n" "__int128" ∷
    builtin "o" "unsigned __int128" ∷
    builtin "f" "float" ∷
    builtin "d" "double" ∷
    builtin "e" "long double" ∷
    builtin "g" "__float128" ∷
    builtin "z" "..." ∷
    builtin "Dd" "decimal64" ∷
    builtin "De" "decimal128" ∷
    builtin "Df" "decimal32" ∷
    builtin "Dh" "half" ∷
    builtin "DF16b" "std::bfloat16_t" ∷
    builtin "Di" "char32_t" ∷
    builtin "Ds" "char16_t" ∷
    builtin "Du" "char8_t" ∷
    builtin "Da" "auto" ∷
    builtin "Dc" "decltype(auto)" ∷
    builtin "Dn" "std::nullptr_t" ∷
    builtin "DAs" "short _Accum" ∷
    builtin "DAt" "unsigned short _Accum" ∷
    builtin "DAi" "_Accum" ∷
    builtin "DAj" "unsigned _Accum" ∷
    builtin "DAl" "long _Accum" ∷
    builtin "DAm" "unsigned long _Accum" ∷
    builtin "DRs" "short _Fract" ∷
    builtin "DRt" "unsigned short _Fract" ∷
    builtin "DRi" "_Fract" ∷
    builtin "DRj" "unsigned _Fract" ∷
    builtin "DRl" "long _Fract" ∷
    builtin "DRm" "unsigned long _Fract" ∷
    builtin "DSDAs" "_Sat short _Accum" ∷
    builtin "DSDAt" "_Sat unsigned short _Accum" ∷
    builtin "DSDAi" "_Sat _Accum" ∷
    builtin "DSDAj" "_Sat unsigned _Accum" ∷
    builtin "DSDAl" "_Sat long _Accum" ∷
    builtin "DSDAm" "_Sat unsigned long _Accum" ∷
    builtin "DSDRs" "_Sat short _Fract" ∷
    builtin "DSDRt" "_Sat unsigned short _Fract" ∷
    builtin "DSDRi" "_Sat _Fract" ∷
    builtin "DSDRj" "_Sat unsigned _Fract" ∷
    builtin "DSDRl" "_Sat long _Fract" ∷
    builtin "DSDRm" "_Sat unsigned long _Fract" ∷
    []

abbrev pub builtin_words : List (List ℕ)
builtin_words = words builtins

-- the number of the entry
abbrev pub number_of_builtin : StandardBuiltinType → ℕ
number_of_builtin Void = 0
number_of_builtin Wchar = 1
number_of_builtin Bool = 2
number_of_builtin Char = 3
number_of_builtin SignedChar = 4
number_of_builtin UnsignedChar = 5
number_of_builtin Short = 6
number_of_builtin UnsignedShort = 7
number_of_builtin Int = 8
number_of_builtin UnsignedInt = 9
number_of_builtin Long = 10
number_of_builtin UnsignedLong = 11
number_of_builtin LongLong = 12
number_of_builtin UnsignedLongLong = 13
number_of_builtin Int128 = 14
number_of_builtin Uint128 = 15
number_of_builtin Float = 16
number_of_builtin Double = 17
number_of_builtin LongDouble = 18
number_of_builtin Float128 = 19
number_of_builtin Ellipsis = 20
number_of_builtin DecimalFloat64 = 21
number_of_builtin DecimalFloat128 = 22
number_of_builtin DecimalFloat32 = 23
number_of_builtin DecimalFloat16 = 24
number_of_builtin BFloat16 = 25
number_of_builtin Char32 = 26
number_of_builtin Char16 = 27
number_of_builtin Char8 = 28
number_of_builtin Auto = 29
number_of_builtin Decltype = 30
number_of_builtin Nullptr = 31
number_of_builtin AccumShort = 32
number_of_builtin AccumUShort = 33
number_of_builtin Accum = 34
number_of_builtin AccumUnsigned = 35
number_of_builtin AccumLong = 36
number_of_builtin AccumULong = 37
number_of_builtin FractShort = 38
number_of_builtin FractUShort = 39
number_of_builtin Fract = 40
number_of_builtin FractUnsigned = 41
number_of_builtin FractLong = 42
number_of_builtin FractULong = 43
number_of_builtin SatAccumShort = 44
number_of_builtin SatAccumUShort = 45
number_of_builtin SatAccum = 46
number_of_builtin SatAccumUnsigned = 47
number_of_builtin SatAccumLong = 48
number_of_builtin SatAccumULong = 49
number_of_builtin SatFractShort = 50
number_of_builtin SatFractUShort = 51
number_of_builtin SatFract = 52
number_of_builtin SatFractUnsigned = 53
number_of_builtin SatFractLong = 54
number_of_builtin SatFractULong = 55
