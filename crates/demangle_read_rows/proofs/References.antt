-- The index of the reference to a numbered component.
use Rattle.std.proofs.Common.{◌≡◌, ◌∙◌, ℕ, ◌<◌, ◌+◌, ◌-◌, refl, true, false, nat_lt, arith}
use Rattle.demangle_core.specs.Core.{Core, N}
use Rattle.demangle_grammar.specs.Tree.{reference}
use Rattle.demangle_cells.specs.Fixed.{fixed, first_cell, first_reference, first_other}
use Rattle.demangle_cells.specs.View.{View, Holds}

fixed_reference : (n : ℕ) → n < first_reference → fixed (first_reference + n) ≡ reference N n
unfolding fixed
fixed_reference n h =
    let a : nat_lt (first_reference + n) first_cell ≡ false = grind arith in
    let b : nat_lt (first_reference + n) first_other ≡ true = grind (arith, h) in
    let c : (first_reference + n) - first_reference ≡ n = omega arith in
    rw (a, b, c) refl

pub reference_is : (F : ℕ → Core) (v : View) (n : ℕ) → n < first_reference → Holds F v
    → F (first_reference + n) ≡ reference N n
reference_is F v n h x = x.references (first_reference + n) (omega arith) ∙ fixed_reference n h
