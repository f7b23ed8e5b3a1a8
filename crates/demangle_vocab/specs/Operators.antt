-- The operators (ABI section 5.1.3, <operator-name>): word, text, number of operands.
use Rattle.std.specs.Prelude.{ℕ, List, [], ◌∷◌, codes, Option, Some, None, Result, Ok, Err}
use Prim.Native.String.{String}
use Rattle.demangle_vocab.specs.WordTable.{Entry, words, word_in, no_word}
use Rattle.demangle_text.specs.Kind.{Cause, Text, Kind, Unread}
use Rattle.demangle_vocab.specs.declared.operator.SimpleOperatorName.{SimpleOperatorName}
use Rattle.demangle_vocab.specs.declared.operator.SimpleOperatorName.TheVariants.{New, NewArray, Delete, DeleteArray}
use Rattle.demangle_vocab.specs.declared.operator.SimpleOperatorName.TheVariants.{UnaryPlus, Neg, AddressOf, Deref}
use Rattle.demangle_vocab.specs.declared.operator.SimpleOperatorName.TheVariants.{BitNot, Add, Sub, Mul, Div, Rem}
use Rattle.demangle_vocab.specs.declared.operator.SimpleOperatorName.TheVariants.{BitAnd, BitOr, BitXor, Assign}
use Rattle.demangle_vocab.specs.declared.operator.SimpleOperatorName.TheVariants.{AddAssign, SubAssign, MulAssign}
use Rattle.demangle_vocab.specs.declared.operator.SimpleOperatorName.TheVariants.{DivAssign, RemAssign, BitAndAssign}
use Rattle.demangle_vocab.specs.declared.operator.SimpleOperatorName.TheVariants.{BitOrAssign, BitXorAssign, Shl, Shr}
use Rattle.demangle_vocab.specs.declared.operator.SimpleOperatorName.TheVariants.{ShlAssign, ShrAssign, Eq, Ne, Less}
use Rattle.demangle_vocab.specs.declared.operator.SimpleOperatorName.TheVariants.{Greater, LessEq, GreaterEq, Not}
use Rattle.demangle_vocab.specs.declared.operator.SimpleOperatorName.TheVariants.{LogicalAnd, LogicalOr, PostInc}
use Rattle.demangle_vocab.specs.declared.operator.SimpleOperatorName.TheVariants.{PostDec, Comma, DerefMemberPtr}
use Rattle.demangle_vocab.specs.declared.operator.SimpleOperatorName.TheVariants.{DerefMember, Call, Index, Question}
use Rattle.demangle_vocab.specs.declared.operator.SimpleOperatorName.TheVariants.{Spaceship}

abbrev pub operator : String → String → ℕ → Entry ℕ
operator w t n = record { word = codes w; text = codes t; more = n }

abbrev pub operators : List (Entry ℕ)
operators =
    operator "nw" "new" 3 ∷
    operator "na" "new[]" 3 ∷
    operator "dl" "delete" 1 ∷
    operator "da" "delete[]" 1 ∷
    operator "ps" "+" 1 ∷
    operator "ng" "-" 1 ∷
    operator "ad" "&" 1 ∷
    operator "de" "*" 1 ∷
    operator "co" "~" 1 ∷
    operator "pl" "+" 2 ∷
    operator "mi" "-" 2 ∷
    operator "ml" "*" 2 ∷
    operator "dv" "/" 2 ∷
    operator "rm" "%" 2 ∷
    operator "an" "&" 2 ∷
    operator "or" "|" 2 ∷
    operator "eo" "^" 2 ∷
    operator "aS" "=" 2 ∷
    operator "pL" "+=" 2 ∷
    operator "mI" "-=" 2 ∷
    operator "mL" "*=" 2 ∷
    operator "dV" "/=" 2 ∷
    operator "rM" "%=" 2 ∷
    operator "aN" "&=" 2 ∷
    operator "oR" "|=" 2 ∷
    operator "eO" "^=" 2 ∷
    operator "ls" "<<" 2 ∷
    operator "rs" ">>" 2 ∷
    operator "lS" "<<=" 2 ∷
    operator "rS" ">>=" 2 ∷
    operator "eq" "==" 2 ∷
    operator "ne" "!=" 2 ∷
    operator "lt" "<" 2 ∷
    operator "gt" ">" 2 ∷
    operator "le" "<=" 2 ∷
    operator "ge" ">=" 2 ∷
    operator "nt" "!" 1 ∷
    operator "aa" "&&" 2 ∷
    operator "oo" "||" 2 ∷
    operator "pp" "++" 1 ∷
    operator "mm" "--" 1 ∷
    operator "cm" "," 2 ∷
    operator "pm" "->*" 2 ∷
    operator "pt" "->" 2 ∷
    operator "cl" "()" 2 ∷
    operator "ix" "[]" 2 ∷
    operator "qu" "?:" 3 ∷
    operator "ss" "<=>" 2 ∷
    []

abbrev pub operator_words : List (List ℕ)
operator_words = words operators

-- the number of the entry
abbrev pub number_of_operator : SimpleOperatorName → ℕ
number_of_operator New = 0
number_of_operator NewArray = 1
number_of_operator Delete = 2
number_of_operator DeleteArray = 3
number_of_operator UnaryPlus = 4
number_of_operator Neg = 5
number_of_operator AddressOf = 6
number_of_operator Deref = 7
number_of_operator BitNot = 8
number_of_operator Add = 9
number_of_operator Sub = 10
number_of_operator Mul = 11
number_of_operator Div = 12
number_of_operator Rem = 13
number_of_operator BitAnd = 14
number_of_operator BitOr = 15
number_of_operator BitXor = 16
number_of_operator Assign = 17
number_of_operator AddAssign = 18
number_of_operator SubAssign = 19
number_of_operator MulAssign = 20
number_of_operator DivAssign = 21
number_of_operator RemAssign = 22
number_of_operator BitAndAssign = 23
number_of_operator BitOrAssign = 24
number_of_operator BitXorAssign = 25
number_of_operator Shl = 26
number_of_operator Shr = 27
number_of_operator ShlAssign = 28
number_of_operator ShrAssign = 29
number_of_operator Eq = 30
number_of_operator Ne = 31
number_of_operator Less = 32
number_of_operator Greater = 33
number_of_operator LessEq = 34
number_of_operator GreaterEq = 35
number_of_operator Not = 36
number_of_operator LogicalAnd = 37
number_of_operator LogicalOr = 38
number_of_operator PostInc = 39
number_of_operator PostDec = 40
number_of_operator Comma = 41
number_of_operator DerefMemberPtr = 42
number_of_operator DerefMember = 43
number_of_operator Call = 44
number_of_operator Index = 45
number_of_operator Question = 46
number_of_operator Spaceship = 47

-- the operator of two bytes: its number, and its length
unfoldable pub operator_of : ℕ → ℕ → Option (ℕ × ℕ)
operator_of a b = word_in 0 operator_words (a ∷ b ∷ [])

-- why no operator is there where one byte is left
unfoldable pub operator_cut : ℕ → Cause
operator_cut a = no_word operator_words (a ∷ [])

abbrev pub read_pair : Option (ℕ × ℕ) → Result (ℕ × ℕ) Kind
read_pair None = Err (Unread Text)
read_pair (Some x) = Ok x
