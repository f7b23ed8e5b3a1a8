-- Declarations, as plain data, and what is said of them.
use Rattle.std.specs.Prelude.{ℕ, zero, suc, ◌/◌, ◌%◌, ◌==◌, ◌&&◌, ◌||◌, not, nat_lt, nat_le, Bool, true}
use Rattle.std.specs.Prelude.{false, List, [], ◌∷◌, ◌++◌, length, codes, Option, Some, None, bytes_eq}
use Rattle.std.specs.Prelude.{if◌then◌else◌}
use Rattle.std.specs.Fmt.{decimal, digit_glyph}
use Rattle.std.specs.List.{list_all, flat_map}
use Rattle.demangle_vocab.specs.WordTable.{text_at, words}
use Rattle.demangle_vocab.specs.Builtins.{builtins}
use Rattle.demangle_text.specs.Bytes.{is_digit, is_capital, is_small}
use Rattle.demangle_text.specs.Word.{starts}

-- ---- identifiers, paths, types
-- an identifier is its bytes, a path its parts
abbrev pub Ident : Type 0
Ident = List ℕ

abbrev pub Path : Type 0
Path = List Ident

pub data Modifier : Type 0 where
  pointer lvalue rvalue const : Modifier

pub data PlainType : Type 0 where
  builtin : (word : ℕ) → PlainType
  class : Path → PlainType
  of : Modifier → PlainType → PlainType

pub record PlainDecl : Type 0 where
  pub path : Path
  pub params : List PlainType

-- ---- which of these are declarations
abbrev pub is_name_byte : ℕ → Bool
is_name_byte b = is_digit b || (is_capital b || (is_small b || (b == 95)))

abbrev pub begins_with_digit : List ℕ → Bool
begins_with_digit [] = false
begins_with_digit (b ∷ bs) = is_digit b

abbrev pub is_ident : Ident → Bool
is_ident b =
    nat_le 1 (length b) && (nat_le (length b) 255 && (list_all is_name_byte b && (not (begins_with_digit b)
    && not (starts (codes "_GLOBAL_") b))))

abbrev pub is_std : Path → Bool
is_std [] = false
is_std (p ∷ ps) = bytes_eq p (codes "std")

abbrev pub is_path : Path → Bool
is_path ps = nat_le 1 (length ps) && (nat_le (length ps) 16 && (list_all is_ident ps && not (is_std ps)))

abbrev pub is_reference : Modifier → Bool
is_reference lvalue = true
is_reference rvalue = true
is_reference _ = false

abbrev pub may_be_const : PlainType → Bool
may_be_const (of const t) = false
may_be_const (of lvalue t) = false
may_be_const (of rvalue t) = false
may_be_const _ = true

abbrev pub may_stand_on : Modifier → PlainType → Bool
may_stand_on const t = may_be_const t
may_stand_on _ t = true

abbrev pub modifiers : PlainType → ℕ
modifiers (of m t) = suc (modifiers t)
modifiers _ = 0

-- no reference below
abbrev pub is_object : PlainType → Bool
is_object (builtin k) = nat_lt k (length (words builtins))
is_object (class p) = is_path p
is_object (of m t) = not (is_reference m) && (may_stand_on m t && is_object t)

abbrev pub is_type : PlainType → Bool
is_type (of m t) = may_stand_on m t && is_object t
is_type t = is_object t

abbrev pub is_void : PlainType → Bool
is_void (builtin zero) = true
is_void _ = false

abbrev pub is_param : PlainType → Bool
is_param t = is_type t && (nat_le (modifiers t) 16 && not (is_void t))

abbrev pub are_params : List PlainType → Bool
are_params ts = nat_le (length ts) 64 && list_all is_param ts

abbrev pub is_decl : PlainDecl → Bool
is_decl d = is_path d.path && are_params d.params

-- ---- texts
abbrev pub behind_parts : Path → List ℕ
behind_parts ps = flat_map (λ p. codes "::" ++ p) ps

abbrev pub path_text : Path → List ℕ
path_text [] = []
path_text (p ∷ ps) = p ++ behind_parts ps

abbrev pub modifier_text : Modifier → List ℕ
modifier_text pointer = codes "*"
modifier_text lvalue = codes "&"
modifier_text rvalue = codes "&&"
modifier_text const = codes " const"

abbrev pub type_text : PlainType → List ℕ
type_text (builtin k) = text_at builtins k
type_text (class p) = path_text p
type_text (of m t) = type_text t ++ modifier_text m

abbrev pub behind_types : List PlainType → List ℕ
behind_types ts = flat_map (λ t. codes ", " ++ type_text t) ts

abbrev pub types_text : List PlainType → List ℕ
types_text [] = []
types_text (t ∷ ts) = type_text t ++ behind_types ts

abbrev pub decl_text : PlainDecl → List ℕ
decl_text d = path_text d.path ++ (codes "(" ++ (types_text d.params ++ codes ")"))

-- ---- entities: an entity is the type that it is; a path as a scope and as a type is one
abbrev pub same_parts : Path → Path → Bool
same_parts [] [] = true
same_parts (p ∷ ps) (q ∷ qs) = bytes_eq p q && same_parts ps qs
same_parts _ _ = false

abbrev pub modifier_code : Modifier → ℕ
modifier_code pointer = 0
modifier_code lvalue = 1
modifier_code rvalue = 2
modifier_code const = 3

abbrev pub same_type : PlainType → PlainType → Bool
same_type (builtin j) (builtin k) = j == k
same_type (class p) (class q) = same_parts p q
same_type (of m t) (of n u) = (modifier_code m == modifier_code n) && same_type t u
same_type _ _ = false

-- the fronts of a path, shortest first, behind so many parts
abbrev pub fronts_behind : Path → Path → List PlainType
fronts_behind ps [] = []
fronts_behind ps (q ∷ qs) = class (ps ++ q ∷ []) ∷ fronts_behind (ps ++ q ∷ []) qs

abbrev pub fronts : Path → List PlainType
fronts ps = fronts_behind [] ps

-- all but the last
abbrev pub proper : List PlainType → List PlainType
proper [] = []
proper (x ∷ []) = []
proper (x ∷ y ∷ xs) = x ∷ proper (y ∷ xs)

abbrev pub mentioned : PlainType → List PlainType
mentioned (builtin k) = []
mentioned (class p) = fronts p
mentioned (of m t) = mentioned t ++ of m t ∷ []

-- where an entity stands in a list
abbrev pub next_place : Option ℕ → Option ℕ
next_place None = None
next_place (Some k) = Some (suc k)

abbrev pub or_place : Bool → Option ℕ → Option ℕ
or_place true k = Some 0
or_place false k = next_place k

abbrev pub place : PlainType → List PlainType → Option ℕ
place x [] = None
place x (y ∷ ys) = or_place (same_type x y) (place x ys)

-- what isn't there already is added behind
abbrev pub unless_there : Option ℕ → PlainType → List PlainType → List PlainType
unless_there None x xs = xs ++ x ∷ []
unless_there (Some k) x xs = xs

abbrev pub with : PlainType → List PlainType → List PlainType
with x xs = unless_there (place x xs) x xs

abbrev pub with_all : List PlainType → List PlainType → List PlainType
with_all [] xs = xs
with_all (y ∷ ys) xs = with_all ys (with y xs)

abbrev pub with_types : List PlainType → List PlainType → List PlainType
with_types [] xs = xs
with_types (t ∷ ts) xs = with_types ts (with_all (mentioned t) xs)

abbrev pub entities : PlainDecl → List PlainType
entities d = with_types d.params (with_all (proper (fronts d.path)) [])

-- ---- the format
-- a number in base 36, of at most so many digits and one
abbrev pub base_36 : (more : ℕ) → ℕ → List ℕ
base_36 zero k = digit_glyph true k ∷ []
base_36 (suc more) k =
    if nat_lt k 36 then digit_glyph true k ∷ [] else base_36 more (k / 36) ++ digit_glyph true (k % 36) ∷ []

-- <seq-id> and nothing for the first (ABI section 5.1.10); thirteen digits are enough for each number below 2^64
abbrev pub seq_id : ℕ → List ℕ
seq_id zero = []
seq_id (suc k) = base_36 12 k

abbrev pub reference : ℕ → List ℕ
reference k = codes "S" ++ (seq_id k ++ codes "_")

abbrev pub source_name : Ident → List ℕ
source_name b = decimal (length b) ++ b

abbrev pub source_names : Path → List ℕ
source_names ps = flat_map source_name ps

-- The longest front of a path in the list, where so many parts stand before and `best` is the longest front before:
-- its place and the parts behind it.
abbrev pub or_longer : Option ℕ → Path → Option (ℕ × Path) → Option (ℕ × Path)
or_longer None rest best = best
or_longer (Some k) rest best = Some (k, rest)

-- of proper fronts alone
abbrev pub longest_behind : Path → Path → List PlainType → Option (ℕ × Path) → Option (ℕ × Path)
longest_behind ps [] xs best = best
longest_behind ps (q ∷ []) xs best = best
longest_behind ps (q ∷ r ∷ qs) xs best =
    longest_behind (ps ++ q ∷ []) (r ∷ qs) xs (or_longer (place (class (ps ++ q ∷ [])) xs) (r ∷ qs) best)

abbrev pub nested_from : Path → Option (ℕ × Path) → List ℕ
nested_from ps None = source_names ps
nested_from ps (Some x) = reference x.0 ++ source_names x.1

abbrev pub path_bytes : Path → List PlainType → List ℕ
path_bytes (p ∷ []) xs = source_name p
path_bytes ps xs = codes "N" ++ (nested_from ps (longest_behind [] ps xs None) ++ codes "E")

abbrev pub modifier_word : Modifier → List ℕ
modifier_word pointer = codes "P"
modifier_word lvalue = codes "R"
modifier_word rvalue = codes "O"
modifier_word const = codes "K"

abbrev pub reference_or : Option ℕ → List ℕ → List ℕ
reference_or None bs = bs
reference_or (Some k) bs = reference k

abbrev pub word_of : List (List ℕ) → ℕ → List ℕ
word_of [] k = []
word_of (w ∷ ws) zero = w
word_of (w ∷ ws) (suc k) = word_of ws k

-- a type behind which these entities stand in the list
abbrev pub type_bytes : PlainType → List PlainType → List ℕ
type_bytes (builtin k) xs = word_of (words builtins) k
type_bytes (class p) xs = reference_or (place (class p) xs) (path_bytes p xs)
type_bytes (of m t) xs = reference_or (place (of m t) xs) (modifier_word m ++ type_bytes t xs)

abbrev pub types_bytes : List PlainType → List PlainType → List ℕ
types_bytes [] xs = []
types_bytes (t ∷ ts) xs = type_bytes t xs ++ types_bytes ts (with_all (mentioned t) xs)

abbrev pub params_bytes : List PlainType → List PlainType → List ℕ
params_bytes [] xs = codes "v"
params_bytes ts xs = types_bytes ts xs

unfoldable pub mangled : PlainDecl → List ℕ
mangled d = codes "_Z" ++ (path_bytes d.path [] ++ params_bytes d.params (with_all (proper (fronts d.path)) []))
