-- Places in the input and in the text of an arena.
use Rattle.std.proofs.Common.{◌≡◌, ap, ◌∙◌, sym, ℕ, ◌+◌, ◌-◌, ◌≤◌, Bool, List, [], drop, length, Ok, arith}
use Rattle.std.proofs.lemmas.List.{drop-drop}
use Rattle.demangle_text.specs.Spot.{Spot, skip}
use Rattle.demangle_core.specs.Core.{Core}
use Rattle.demangle_core.specs.Table.{Table}
use Rattle.demangle_grammar.specs.Rule.{Row}
use Rattle.demangle_grammar.specs.Code.{Found, here, cread}
use Rattle.demangle_grammar.proofs.CodeLaws.{index_kept, no_longer}
use Rattle.demangle_cells.specs.Model.{model}
use Rattle.demangle_cells.specs.Reads.{spot_at, ReadsRow}
use Rattle.demangle_cells.specs.View.{View, Holds, Grown, table}
use Rattle.demangle_cells.specs.declared.text.Part as parts
use Rattle.demangle_cells.specs.declared.text.Text as texts
use Rattle.demangle_parse.specs.Adds.{HasTable}

-- a place of these bytes
abbrev pub place_in : List ℕ → ℕ → Spot
place_in bytes k = record { index = k; left = drop k bytes }

-- What the row's reading finds at the front of an input, where these bytes hold the input at its index.
pub record IsFront (left : ℕ) (row : Row) (conv : Bool) (p : Spot) (bytes : List ℕ) (whole behind : Table) (stop : ℕ)
    (x : Core) : Type 0 where
  pub found : cread left row conv (here p whole) [] ≡ Found x (here (place_in bytes stop) behind)

-- the same as at a place of the text
pub front_read : (left : ℕ) (row : Row) (conv : Bool) (p : Spot) (bytes : List ℕ) (whole : Table) (t : texts.Text)
    (at : ℕ) (x : parts.Part) (old new : View) → t.bytes.now ≡ bytes → at ≡ p.index → drop p.index bytes ≡ p.left
    → HasTable old whole → Grown old new → ReadsRow row left conv t at (Ok x) old new → Holds (model new) new
    → IsFront left row conv p bytes whole (table (model new) new) x.end (model new x.id)
front_read left row conv p bytes whole t at x old new b i l w g reads h =
    let F : ℕ → Core = model new in record {
      found = sym (ap (λ k. cread left row conv (here (spot_at t k) (table F old)) []) i
          ∙ (ap (λ bs. cread left row conv (here (place_in bs p.index) (table F old)) []) b
          ∙ (ap (λ bs. cread left row conv (here (record { index = p.index; left = bs }) (table F old)) []) l
          ∙ ap (λ e. cread left row conv (here p e) []) (w F (g.holds F h)))))
          ∙ (reads F h ∙ ap (λ bs. Found (F x.id) (here (place_in bs x.end) (table F new))) b);
    }

-- It ends in the input.
pub ends_behind : {left : ℕ} {row : Row} {conv : Bool} {p : Spot} {bytes : List ℕ} {whole behind : Table} {stop : ℕ}
    {x : Core} → IsFront left row conv p bytes whole behind stop x → p.index ≤ stop
ends_behind {left} {row} {conv} {p} {bytes} {whole} {behind} {stop} {x} e =
    let i = index_kept left row conv (here p whole) (here (place_in bytes stop) behind) [] x e.found in
    let n = no_longer left row conv (here p whole) (here (place_in bytes stop) behind) [] x e.found in
    omega (arith, i, n)

pub ends_inside : {left : ℕ} {row : Row} {conv : Bool} {p : Spot} {bytes : List ℕ} {whole behind : Table} {stop : ℕ}
    {x : Core} → IsFront left row conv p bytes whole behind stop x → stop - p.index ≤ length p.left
ends_inside {left} {row} {conv} {p} {bytes} {whole} {behind} {stop} {x} e =
    let i = index_kept left row conv (here p whole) (here (place_in bytes stop) behind) [] x e.found in
    let n = no_longer left row conv (here p whole) (here (place_in bytes stop) behind) [] x e.found in
    omega (arith, i, n)

-- what is left of the input
pub rest_at : (p q : Spot) (bytes : List ℕ) (stop n : ℕ) → drop p.index bytes ≡ p.left → p.index ≤ stop
    → n ≡ stop - p.index → q ≡ skip n p → place_in bytes stop ≡ q
rest_at p q bytes stop n l b e s =
    let k : p.index + n ≡ stop = omega (arith, b, e) in
    sym (s ∙ (ap (λ bs. record { index = p.index + n; left = drop n bs }) (sym l)
    ∙ (ap (λ bs. record { index = p.index + n; left = bs }) (drop-drop n p.index bytes) ∙ ap (place_in bytes) k)))

pub found_there : (x y : Core) (p q : Spot) (a b : Table) → x ≡ y → p ≡ q → a ≡ b
    → Found x (here p a) ≡ Found y (here q b)
found_there x y p q a b e f g = ap (λ z. Found z (here p a)) e ∙ (ap (λ z. Found y (here z a)) f ∙ ap (λ z. Found y (here q z)) g)
