-- Laws of the program's reading, from those of the reading of trees.
use Rattle.std.specs.Prelude.{◌≤◌, ◌≡◌, ℕ, ◌+◌, ◌<◌, Bool, List, [], ◌∷◌, ◌++◌, length}
use Rattle.std.proofs.Common.{ap, sym, subst, ◌∙◌, append_assoc}
use Rattle.demangle_core.specs.Table.{Entry, cut, sizes, added}
use Rattle.demangle_core.specs.Core.{Core}
use Rattle.demangle_grammar.specs.Rule.{Row}
use Rattle.demangle_grammar.specs.Tree.{trees, Tree, components}
use Rattle.demangle_grammar.specs.Rows.{rule}
use Rattle.demangle_grammar.specs.Reading.{State, Answer, Yes, No, Deep, read_from}
use Rattle.demangle_grammar.specs.Laws.{cored, KeepsIndex, NoLonger, TakesByte, GivesBack}
use Rattle.demangle_grammar.proofs.Derives.{Derives}
use Rattle.demangle_grammar.specs.Code.{joined, Here, Reply, Found, Refused, cread}
use Rattle.demangle_grammar.specs.Seen.{seen, replied}
use Rattle.demangle_grammar.proofs.Holds.{Holds}
use Rattle.demangle_grammar.proofs.Kept.{keeps, append-nil}
use Rattle.demangle_grammar.proofs.Derived.{reads}
use Rattle.demangle_grammar.proofs.Takes.{took_byte, row_takes}
use Rattle.demangle_grammar.proofs.Cores.{reads_cores}
use Rattle.demangle_grammar.proofs.Bridge.{reads_code}
use Rattle.demangle_core.proofs.Cuts.{cut_same, cut_added, cut_cut}

-- ---- each state of the program is seen of a state
abbrev pub state_of : Here → State
state_of h = record { at = h.spot.index; rest = h.spot.left; entries = h.table }

-- ---- what the program read is derived
abbrev pub before : List Core → Tree
before acc = Tree.leaf [] (joined acc)

pub of_trees : (left : ℕ) (r : Row) (c : Bool) (h : Here) (acc : List Core) → replied (cored (read_from trees left r c (state_of h) (before acc))) ≡ cread left r c h acc
of_trees left r c h acc = ap replied (reads_cores left r c (state_of h) (before acc)) ∙ reads_code left r c (state_of h) acc

abbrev pub here_in : Here → Reply → Here
here_in d (Found t h) = h
here_in d (Refused k) = d

abbrev IsRead : Row → Here → List Core → Here → Type 0
IsRead r h acc m = (t : State) × (tree : Tree) × Derives (rule r) (state_of h) (before acc) t tree × (seen t ≡ m)

is_read : (left : ℕ) (r : Row) (c : Bool) (h m : Here) (acc : List Core) (x : Core) → cread left r c h acc ≡ Found x m → IsRead r h acc m
is_read left r c h m acc x e = by (read_from trees left r c (state_of h) (before acc)) (reads left r c (state_of h) (before acc)) (of_trees left r c h acc ∙ e)
  where
    by : (a : Answer Tree) → Holds (Derives (rule r) (state_of h) (before acc)) a → replied (cored a) ≡ Found x m → IsRead r h acc m
    by (Yes t tree) d q = (t, tree, d, ap (here_in m) q)
    by (No b k) d q = absurd (cc)
    by Deep d q = absurd (cc)

-- ---- the index goes with the bytes
pub index_kept : KeepsIndex
index_kept left r c h m acc x e =
    let d = is_read left r c h m acc x e in
    subst (λ n. h.spot.index + length h.spot.left ≡ n.spot.index + length n.spot.left) d.3 (keeps d.2).at

-- ---- nothing is left that wasn't there before
pub no_longer : NoLonger
no_longer left r c h m acc x e =
    let d = is_read left r c h m acc x e in
    subst (λ n. length n.spot.left ≤ length h.spot.left) d.3 (keeps d.2).shorter

-- ---- a row that takes a byte does
pub byte_taken : TakesByte
byte_taken left r c h m acc x t e =
    let d = is_read left r c h m acc x e in
    subst (λ n. length n.spot.left < length h.spot.left) d.3 (took_byte d.2 (row_takes r t))

-- ---- what was read is given back by a cut
behind_it : (xs e : List Entry) → cut (sizes e) (e ++ xs) ≡ e
unfolding added
behind_it [] e = subst (λ z. cut (sizes e) z ≡ e) (sym (append-nil e)) (cut_same e)
behind_it (x ∷ xs) e =
    subst (λ z. cut (sizes e) z ≡ e) (append_assoc e (x ∷ []) xs)
    (cut_cut e (e ++ x ∷ []) ((e ++ x ∷ []) ++ xs) (cut_added x.which x.tree e) (behind_it xs (e ++ x ∷ [])))

pub given_back : GivesBack
given_back left r c h m acc x e =
    let d = is_read left r c h m acc x e in
    let grown : d.0.entries ≡ h.table ++ components d.1 = (keeps d.2).entries h.table (sym (append-nil h.table)) in
    let p : cut (sizes h.table) d.0.entries ≡ h.table = subst (λ xs. cut (sizes h.table) xs ≡ h.table) (sym grown) (behind_it (components d.1) h.table) in
    subst (λ n. cut (sizes h.table) n.table ≡ h.table) d.3 p
