-- The row of a source name is its parts.
use Rattle.std.proofs.Common.{◌≡◌, refl, ap, ℕ, suc, Bool, true, false, List, [], ◌∷◌, Result, Ok, Err, nat_eq, nat_lt, length}
use Rattle.std.proofs.Common.{if◌then◌else◌, ◌++◌, ◌≤◌, ◌∙◌, subst}
use Rattle.demangle_core.specs.Core.{Core, Tag, node, place, end}
use Rattle.demangle_text.specs.Kind.{Kind, End, Text, Unread, Deep}
use Rattle.demangle_text.specs.Number.{natural_from}
use Rattle.demangle_text.specs.Spot.{Spot, skip, front}
use Rattle.demangle_grammar.specs.Rule.{Row}
use Rattle.demangle_grammar.specs.Rows.{rule}
use Rattle.demangle_core.specs.Table.{Table}
use Rattle.demangle_grammar.specs.Code.{Here, here, Found, Refused, Out, Yes, No, at, close, cread, from_row, inside, read_leaf, whole}
use Rattle.demangle_cells.specs.Reads.{spot_at}
use Rattle.demangle_cells.specs.declared.text.Text as text
use Rattle.demangle_read_rows.specs.Sized.{sized_at, sized_from, source_at}
use Rattle.demangle_read_rows.proofs.Indexes.{sized_end}

-- what is read of just so many bytes, behind the number
sized_is : (r : Result (ℕ × Spot) Kind) (s : Here) (f : Here → List Core → Out) (on : Here → Core → Out)
    → read_leaf r (λ v p. inside v p s f on)
    ≡ read_leaf (sized_from r) (λ n p. whole (skip n p) (f (at s (front n p)) []) on)
sized_is (Ok x) s f on = by (nat_eq x.0 0) (nat_lt (length x.1.left) x.0)
  where
    by : (y z : Bool)
        → (if y then No false (Unread Text) else
        (if z then No false (Unread End) else whole (skip x.0 x.1) (f (at s (front x.0 x.1)) []) on))
        ≡ read_leaf (if y then Err (Unread Text) else (if z then Err (Unread End) else Ok x))
        (λ n p. whole (skip n p) (f (at s (front n p)) []) on)
    by true z = refl
    by false true = refl
    by false false = refl
sized_is (Err k) s f on = refl

pub source_name_is : (f : ℕ) (c : Bool) (s : Here) → cread (suc f) Row.source_name c s [] ≡ close (source_at f c s)
unfolding cread rule source_at sized_at
source_name_is f c s =
    ap close
    (sized_is (natural_from 10 s.spot) s (λ m b. from_row (cread f Row.identifier c m []) (λ n t. Yes n (b ++ t ∷ [])))
    (λ m b. Yes m (node Tag.SourceName b end ∷ [])))

pub source_deep : (n : ℕ) (c : Bool) (s : Here) → n ≡ 0 → cread n Row.source_name c s [] ≡ Refused Deep
unfolding cread
source_deep n c s e = ap (λ m. cread m Row.source_name c s []) e

-- the identifier takes all of so many bytes
pub source_found : (n f : ℕ) (b c : Bool) (text inner : text.Text) (a count start i stop : ℕ) (table : Table)
    → n ≡ suc f → c ≡ b → sized_at (spot_at text a) ≡ Ok (count, spot_at text start)
    → count ≤ length (spot_at text start).left → spot_at inner start ≡ front count (spot_at text start)
    → ((e : Table) → cread f Row.identifier c (here (spot_at inner start) e) []
    ≡ Found (node Tag.Identifier (place i stop end) end) (here (spot_at inner stop) e))
    → (spot_at inner stop).left ≡ []
    → cread n Row.source_name b (here (spot_at text a) table) []
    ≡ Found (node Tag.SourceName (node Tag.Identifier (place i stop end) end) end) (here (spot_at text stop) table)
unfolding source_at
source_found n f b c text inner a count start i stop table l k e h s read d =
    let name : Core = node Tag.Identifier (place i stop end) end in
    let r : cread f Row.identifier c (here (front count (spot_at text start)) table) []
    ≡ Found name (here (spot_at inner stop) table) =
    subst (λ p. cread f Row.identifier c (here p table) [] ≡ Found name (here (spot_at inner stop) table)) s (read table) in
    let z = sized_end f Row.identifier c text inner start count stop name h s read d in
    rw (l, ← k) (source_name_is f c (here (spot_at text a) table)
    ∙ (rw (e, r, d) (ap (λ p. Found (node Tag.SourceName name end) (here p table)) z)))

pub ruleset source_names = (source_name_is, source_deep, source_found)
