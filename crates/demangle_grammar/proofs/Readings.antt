-- The laws of each reading, from what a derivation keeps.
use Rattle.std.specs.Prelude.{◌≡◌, ℕ, ◌+◌, Bool, length}
use Rattle.std.proofs.Common.{subst, sym, ap, ◌∙◌, arith, length-append}
use Rattle.demangle_grammar.specs.Rule.{Row}
use Rattle.demangle_grammar.specs.Tree.{trees, Tree, nil, spell}
use Rattle.demangle_grammar.specs.Rows.{rule}
use Rattle.demangle_grammar.specs.Reading.{State, Yes, read_from}
use Rattle.demangle_grammar.proofs.Derives.{Derives}
use Rattle.demangle_grammar.specs.Laws.{Spells, GoesOn, AddsComponents, IsSound}
use Rattle.demangle_grammar.proofs.Holds.{Holds}
use Rattle.demangle_grammar.proofs.Kept.{Keeps, keeps, append-nil}
use Rattle.demangle_grammar.proofs.Derived.{reads}

-- the tree is in the grammar without order
abbrev pub IsDerived : Type 0
IsDerived = (left : ℕ) (row : Row) (conv : Bool) (s t : State) (tree : Tree) → read_from trees left row conv s nil ≡ Yes t tree → Derives (rule row) s nil t tree

pub derived : IsDerived
derived left r c s t tree e = subst (Holds (Derives (rule r) s nil)) e (reads left r c s nil)

kept_by : (left : ℕ) (r : Row) (c : Bool) (s t : State) (tree : Tree) → read_from trees left r c s nil ≡ Yes t tree → Keeps s nil t tree
kept_by left r c s t tree e = keeps (derived left r c s t tree e)

pub spelled : Spells
spelled left r c s t tree e = (kept_by left r c s t tree e).spells

pub gone_on : GoesOn
gone_on left r c s t tree e =
    let k = kept_by left r c s t tree e in
    let l : length s.rest ≡ length (spell tree) + length t.rest = ap length k.spells ∙ length-append (spell tree) t.rest in
    omega (arith, l, k.at)

pub added : AddsComponents
added left r c s t tree e = (kept_by left r c s t tree e).entries s.entries (sym (append-nil s.entries))

pub sound : IsSound
sound left r c s t tree e = (kept_by left r c s t tree e).sound s.entries (sym (append-nil s.entries)) tt
