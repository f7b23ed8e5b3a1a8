-- What holds of a list of rows, step by step.
use Rattle.std.proofs.Common.{◌≡◌, ℕ, zero, suc, ◌<◌, Bool, true, false, List, [], ◌∷◌, ◌++◌, length, map, refl, ap}
use Rattle.std.proofs.Common.{◌∙◌, sym, arith}
use Rattle.demangle_core.specs.Core.{Core, Tag, node, end, trees}
use Rattle.demangle_core.specs.Table.{Table}
use Rattle.demangle_text.specs.Kind.{Kind, ends}
use Rattle.demangle_text.specs.Spot.{Spot}
use Rattle.demangle_grammar.specs.Rule.{Row}
use Rattle.demangle_grammar.specs.Rows.{rule}
use Rattle.demangle_grammar.specs.First.{takes_in, takes_row}
use Rattle.demangle_grammar.specs.Code.{joined, joined_to, Go, Here, here, Reply, Found, Refused, Yes, No, and_then}
use Rattle.demangle_grammar.specs.Code.{one_row, many, all_of, rows_of, rows_at, all_at, some_at, cread}
use Rattle.demangle_grammar.specs.Parts.{listed}
use Rattle.demangle_grammar.proofs.CodeLaws.{byte_taken}

-- ---- trees of lists
pub joined_trees : {A : Type 0} (t : A → Tag) (p : A → Core) (xs : List A) → joined (listed t p xs) ≡ trees t p xs
unfolding listed
joined_trees t p [] = refl
joined_trees t p (x ∷ xs) = rest x xs
  where
    rest : (x : _) (xs : List _)
        → joined_to (node (t x) (p x) end) (map (λ x. node (t x) (p x) end) xs) ≡ node (t x) (p x) (trees t p xs)
    rest x [] = refl
    rest x (y ∷ ys) = ap (λ r. node (t x) (p x) r) (rest y ys)

listed_more : {A : Type 0} (t : A → Tag) (p : A → Core) (xs : List A) (x : A)
    → listed t p (xs ++ x ∷ []) ≡ listed t p xs ++ node (t x) (p x) end ∷ []
unfolding listed
listed_more t p [] x = refl
listed_more t p (y ∷ ys) x = ap (λ r. node (t y) (p y) end ∷ r) (listed_more t p ys x)

-- ---- one more of the row
module _ (go : Go) (c : Bool) (r : Row)
    (takes : (s m : Here) (t : Core) → go r c s [] ≡ Found t m → length m.spot.left < length s.spot.left) where
  many-enough : (m n : ℕ) (s : Here) (ts : List Core) → length s.spot.left < m → length s.spot.left < n
      → many (one_row go c r) m s ts ≡ many (one_row go c r) n s ts
  unfolding many
  many-enough zero n s ts h k = absurd (omega arith)
  many-enough (suc m) zero s ts h k = absurd (omega arith)
  many-enough (suc m) (suc n) s ts h k = by (go r c s []) refl (λ q t x y. many-enough m n q (ts ++ t ∷ []) x y)
    where
      by : (a : Reply) → go r c s [] ≡ a
          → ((q : Here) (t : Core) → length q.spot.left < m → length q.spot.left < n
          → many (one_row go c r) m q (ts ++ t ∷ []) ≡ many (one_row go c r) n q (ts ++ t ∷ []))
          → many (one_row go c r) (suc m) s ts ≡ many (one_row go c r) (suc n) s ts
      by (Found t q) e next = let p = takes s q t e in rw e (next q t (omega arith) (omega arith))
      by (Refused k) e next = rw e refl

  again-rows : (s m : Here) (ts : List Core) (t : Core) → go r c s [] ≡ Found t m
      → rows_of go c r s ts ≡ rows_of go c r m (ts ++ t ∷ [])
  unfolding rows_of all_of many
  again-rows s m ts t e =
      let p = takes s m t e in
      rw e (many-enough (length s.spot.left) (suc (length m.spot.left)) m (ts ++ t ∷ []) p (omega arith))

again_at : (f : ℕ) (r : Row) (c : Bool) (s m : Here) (ts : List Core) (t : Core) → takes_row r ≡ true
    → cread f r c s [] ≡ Found t m → rows_at (cread f) c r s ts ≡ rows_at (cread f) c r m (ts ++ t ∷ [])
unfolding rows_at
again_at f r c s m ts t h e =
    ap (λ o. and_then o (λ m b. Yes m (node Tag.Several (joined b) end ∷ [])))
    (again-rows (cread f) c r (λ s m t e. byte_taken f r c s m [] t h e) s m ts t e)

-- of any row that takes a byte
pub again_row : {A : Type 0} (f : ℕ) (r : Row) (c : Bool) (p q : Spot) (e g : Table) (t : A → Tag) (n : A → Core)
    (xs ys : List A) (x : A) → takes_row r ≡ true
    → cread f r c (here p e) [] ≡ Found (node (t x) (n x) end) (here q g) → ys ≡ xs ++ x ∷ []
    → rows_at (cread f) c r (here p e) (listed t n xs) ≡ rows_at (cread f) c r (here q g) (listed t n ys)
again_row f r c p q e g t n xs ys x h k l =
    again_at f r c (here p e) (here q g) (listed t n xs) (node (t x) (n x) end) h k
    ∙ ap (rows_at (cread f) c r (here q g)) (sym (listed_more t n xs x) ∙ ap (listed t n) (sym l))

pub row_takes : (f : ℕ) (r : Row) (c : Bool) (p q : Spot) (e g : Table) (t : Core) → takes_row r ≡ true
    → cread f r c (here p e) [] ≡ Found t (here q g) → length q.left < length p.left
row_takes f r c p q e g t h k = byte_taken f r c (here p e) (here q g) [] t h k

-- ---- of each row that lists are made of
pub types_again : {A : Type 0} (f : ℕ) (c : Bool) (p q : Spot) (e g : Table) (t : A → Tag) (n : A → Core)
    (xs ys : List A) (x : A)
    → cread f Row.type_handle c (here p e) [] ≡ Found (node (t x) (n x) end) (here q g) → ys ≡ xs ++ x ∷ []
    → rows_at (cread f) c Row.type_handle (here p e) (listed t n xs)
    ≡ rows_at (cread f) c Row.type_handle (here q g) (listed t n ys)
unfolding takes_in rule
types_again f c p q e g t n xs ys x k l = again_row f Row.type_handle c p q e g t n xs ys x refl k l

pub type_takes : (f : ℕ) (c : Bool) (p q : Spot) (e g : Table) (t : Core)
    → cread f Row.type_handle c (here p e) [] ≡ Found t (here q g) → length q.left < length p.left
unfolding takes_in rule
type_takes f c p q e g t k = row_takes f Row.type_handle c p q e g t refl k

pub args_again : {A : Type 0} (f : ℕ) (c : Bool) (p q : Spot) (e g : Table) (t : A → Tag) (n : A → Core)
    (xs ys : List A) (x : A)
    → cread f Row.template_arg c (here p e) [] ≡ Found (node (t x) (n x) end) (here q g) → ys ≡ xs ++ x ∷ []
    → rows_at (cread f) c Row.template_arg (here p e) (listed t n xs)
    ≡ rows_at (cread f) c Row.template_arg (here q g) (listed t n ys)
unfolding takes_in rule
args_again f c p q e g t n xs ys x k l = again_row f Row.template_arg c p q e g t n xs ys x refl k l

pub arg_takes : (f : ℕ) (c : Bool) (p q : Spot) (e g : Table) (t : Core)
    → cread f Row.template_arg c (here p e) [] ≡ Found t (here q g) → length q.left < length p.left
unfolding takes_in rule
arg_takes f c p q e g t k = row_takes f Row.template_arg c p q e g t refl k

pub expressions_again : {A : Type 0} (f : ℕ) (c : Bool) (p q : Spot) (e g : Table) (t : A → Tag) (n : A → Core)
    (xs ys : List A) (x : A)
    → cread f Row.expression c (here p e) [] ≡ Found (node (t x) (n x) end) (here q g) → ys ≡ xs ++ x ∷ []
    → rows_at (cread f) c Row.expression (here p e) (listed t n xs)
    ≡ rows_at (cread f) c Row.expression (here q g) (listed t n ys)
unfolding takes_in rule
expressions_again f c p q e g t n xs ys x k l = again_row f Row.expression c p q e g t n xs ys x refl k l

pub expression_takes : (f : ℕ) (c : Bool) (p q : Spot) (e g : Table) (t : Core)
    → cread f Row.expression c (here p e) [] ≡ Found t (here q g) → length q.left < length p.left
unfolding takes_in rule
expression_takes f c p q e g t k = row_takes f Row.expression c p q e g t refl k

pub levels_again : {A : Type 0} (f : ℕ) (c : Bool) (p q : Spot) (e g : Table) (t : A → Tag) (n : A → Core)
    (xs ys : List A) (x : A)
    → cread f Row.unresolved_qualifier_level c (here p e) [] ≡ Found (node (t x) (n x) end) (here q g)
    → ys ≡ xs ++ x ∷ []
    → rows_at (cread f) c Row.unresolved_qualifier_level (here p e) (listed t n xs)
    ≡ rows_at (cread f) c Row.unresolved_qualifier_level (here q g) (listed t n ys)
unfolding takes_in rule
levels_again f c p q e g t n xs ys x k l = again_row f Row.unresolved_qualifier_level c p q e g t n xs ys x refl k l

pub level_takes : (f : ℕ) (c : Bool) (p q : Spot) (e g : Table) (t : Core)
    → cread f Row.unresolved_qualifier_level c (here p e) [] ≡ Found t (here q g) → length q.left < length p.left
unfolding takes_in rule
level_takes f c p q e g t k = row_takes f Row.unresolved_qualifier_level c p q e g t refl k

pub resources_again : {A : Type 0} (f : ℕ) (c : Bool) (p q : Spot) (e g : Table) (t : A → Tag) (n : A → Core)
    (xs ys : List A) (x : A)
    → cread f Row.resource_name c (here p e) [] ≡ Found (node (t x) (n x) end) (here q g) → ys ≡ xs ++ x ∷ []
    → rows_at (cread f) c Row.resource_name (here p e) (listed t n xs)
    ≡ rows_at (cread f) c Row.resource_name (here q g) (listed t n ys)
unfolding takes_in rule
resources_again f c p q e g t n xs ys x k l = again_row f Row.resource_name c p q e g t n xs ys x refl k l

pub resource_takes : (f : ℕ) (c : Bool) (p q : Spot) (e g : Table) (t : Core)
    → cread f Row.resource_name c (here p e) [] ≡ Found t (here q g) → length q.left < length p.left
unfolding takes_in rule
resource_takes f c p q e g t k = row_takes f Row.resource_name c p q e g t refl k

pub suffixes_again : {A : Type 0} (f : ℕ) (c : Bool) (p q : Spot) (e g : Table) (t : A → Tag) (n : A → Core)
    (xs ys : List A) (x : A)
    → cread f Row.clone_suffix c (here p e) [] ≡ Found (node (t x) (n x) end) (here q g) → ys ≡ xs ++ x ∷ []
    → rows_at (cread f) c Row.clone_suffix (here p e) (listed t n xs)
    ≡ rows_at (cread f) c Row.clone_suffix (here q g) (listed t n ys)
unfolding takes_in rule
suffixes_again f c p q e g t n xs ys x k l = again_row f Row.clone_suffix c p q e g t n xs ys x refl k l

pub suffix_takes : (f : ℕ) (c : Bool) (p q : Spot) (e g : Table) (t : Core)
    → cread f Row.clone_suffix c (here p e) [] ≡ Found t (here q g) → length q.left < length p.left
unfolding takes_in rule
suffix_takes f c p q e g t k = row_takes f Row.clone_suffix c p q e g t refl k

-- ---- no more of it
pub rows_stop : {A : Type 0} (go : Go) (c : Bool) (r : Row) (s : Here) (t : A → Tag) (n : A → Core) (xs : List A)
    (k : Kind) → go r c s [] ≡ Refused k → ends k ≡ false
    → rows_at go c r s (listed t n xs) ≡ Yes s (node Tag.Several (trees t n xs) end ∷ [])
unfolding rows_at rows_of all_of many
rows_stop go c r s t n xs k e h = rw (e, h) (ap (λ z. Yes s (node Tag.Several z end ∷ [])) (joined_trees t n xs))

pub rows_end : (go : Go) (c : Bool) (r : Row) (s : Here) (ts : List Core) (k : Kind) → go r c s [] ≡ Refused k
    → ends k ≡ true → rows_at go c r s ts ≡ No true k
unfolding rows_at rows_of all_of many
rows_end go c r s ts k e h = rw (e, h) refl

-- ---- the first of them
pub some_first : {A : Type 0} (go : Go) (c : Bool) (r q : Row) (s m : Here) (t : A → Tag) (n : A → Core)
    (xs : List A) (x : A) → go r c s [] ≡ Found (node (t x) (n x) end) m → xs ≡ x ∷ []
    → rows_at go c q m (listed t n xs) ≡ some_at go c r q s
unfolding some_at listed
some_first go c r q s m t n xs x e l = rw (e, l) refl

pub some_none : (go : Go) (c : Bool) (r q : Row) (s : Here) (k : Kind) → go r c s [] ≡ Refused k
    → some_at go c r q s ≡ No (ends k) k
unfolding some_at
some_none go c r q s k e = rw e refl

pub all_none : {A : Type 0} (go : Go) (c : Bool) (r : Row) (s : Here) (t : A → Tag) (n : A → Core) (xs : List A)
    → xs ≡ [] → rows_at go c r s (listed t n xs) ≡ all_at go c r s
unfolding all_at listed
all_none go c r s t n xs l = rw l refl

-- ---- for a loop over each of these rows
pub ruleset list_steps = (rows_stop, rows_end, some_first, some_none, all_none)

pub ruleset type_list = (types_again, type_takes, rows_stop, rows_end, some_first, some_none, all_none)

pub ruleset arg_list = (args_again, arg_takes, rows_stop, rows_end, some_first, some_none, all_none)

pub ruleset expression_list =
    (expressions_again, expression_takes, rows_stop, rows_end, some_first, some_none, all_none)

pub ruleset level_list = (levels_again, level_takes, rows_stop, rows_end, some_first, some_none, all_none)

pub ruleset resource_list = (resources_again, resource_takes, rows_stop, rows_end, some_first, some_none, all_none)

pub ruleset suffix_list = (suffixes_again, suffix_takes, rows_stop, rows_end, some_first, some_none, all_none)
