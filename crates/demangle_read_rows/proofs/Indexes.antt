-- The index goes with the bytes, for places and tables apart.
use Rattle.std.proofs.Common.{◌≡◌, ap, ◌∙◌, sym, ℕ, ◌≤◌, ◌+◌, Bool, [], length, drop, take, arith, length-take}
use Rattle.demangle_text.specs.Spot.{Spot, front, skip}
use Rattle.demangle_core.specs.Core.{Core}
use Rattle.demangle_core.specs.Table.{Table}
use Rattle.demangle_grammar.specs.Rule.{Row}
use Rattle.demangle_grammar.specs.Code.{here, Found, cread}
use Rattle.demangle_grammar.proofs.CodeLaws as laws
use Rattle.demangle_cells.specs.Reads.{spot_at}
use Rattle.demangle_cells.specs.declared.text.Text.{Text}
use Rattle.demangle_read_rows.proofs.Places.{spot_on}

index_kept : (f : ℕ) (r : Row) (c : Bool) (p q : Spot) (e g : Table) (t : Core)
    → cread f r c (here p e) [] ≡ Found t (here q g) → p.index + length p.left ≡ q.index + length q.left
index_kept f r c p q e g t h = laws.index_kept f r c (here p e) (here q g) [] t h

-- where a row takes all of so many bytes, the text goes on behind these
pub sized_end : (f : ℕ) (r : Row) (c : Bool) (text inner : Text) (a n b : ℕ) (t : Core)
    → n ≤ length (spot_at text a).left → spot_at inner a ≡ front n (spot_at text a)
    → ((table : Table) → cread f r c (here (spot_at inner a) table) [] ≡ Found t (here (spot_at inner b) table))
    → (spot_at inner b).left ≡ [] → record { index = b; left = drop n (spot_at text a).left } ≡ spot_at text b
sized_end f r c text inner a n b t h s k l =
    let i = index_kept f r c (spot_at inner a) (spot_at inner b) [] [] t (k []) in
    let m : length (spot_at inner a).left ≡ length (take n (spot_at text a).left) = ap (λ p. length p.left) s in
    let o = length-take n (spot_at text a).left in
    let z : length (spot_at inner b).left ≡ 0 = ap length l in
    let e : a + n ≡ b = omega (arith, i, m, o, z, h) in
    let here_on : record { index = b; left = drop n (spot_at text a).left } ≡ skip n (spot_at text a) =
    ap (λ x. record { index = x; left = drop n (spot_at text a).left }) (sym e) in
    let there : skip n (spot_at text a) ≡ spot_at text b = sym (spot_on text a n) ∙ ap (λ x. spot_at text x) e in
    here_on ∙ there

pub ruleset indexes = (sized_end)
