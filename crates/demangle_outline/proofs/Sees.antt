-- What a reading sees of its table, as said of the program's reading.
use Rattle.std.specs.Prelude.{◌≡◌, ℕ, Bool, List, [], ◌++◌, take, drop}
use Rattle.std.proofs.Common.{refl, sym, subst, ap, ◌∙◌, inl, inr}
use Rattle.demangle_core.specs.Core.{Core, end}
use Rattle.demangle_core.specs.Table.{Entry, Table}
use Rattle.demangle_text.specs.Kind.{Kind}
use Rattle.demangle_text.specs.Spot.{Spot}
use Rattle.demangle_grammar.specs.Rule.{Row}
use Rattle.demangle_grammar.specs.Tree.{cores}
use Rattle.demangle_grammar.specs.Reading.{State, Answer, Yes, read_from}
use Rattle.demangle_grammar.specs.Code.{Here, here, Reply, Found, Refused, cread}
use Rattle.demangle_grammar.specs.Seen.{seen, replied}
use Rattle.demangle_grammar.proofs.Bridge.{reads_code}
use Rattle.demangle_grammar.proofs.Kept.{append-nil}
use Rattle.demangle_outline.specs.Outline.{Agree}
use Rattle.demangle_outline.proofs.Alike.{Alike}
use Rattle.demangle_outline.proofs.Worlds.{Same, to_same, Near, agree, without_drop, without_take}
use Rattle.demangle_outline.proofs.Readings.{is_nested, Of, Meets, row_meets}

-- ---- tables that agree
pub agree_same : (left : List ℕ) (t : Table) → Agree left t t
agree_same left t = inr refl

pub agree_back : (left : List ℕ) (t u : Table) → Agree left t u → Agree left u t
agree_back left t u (inl h) = inl h
agree_back left t u (inr h) = inr (sym h)

pub agree_on : (left : List ℕ) (t u v : Table) → Agree left t u → Agree left u v → Agree left t v
agree_on left t u v (inl h) k = inl h
agree_on left t u v (inr h) (inl k) = inl k
agree_on left t u v (inr h) (inr k) = inr (h ∙ k)

-- further on, and where fewer bytes are left
pub agree_drop : (n : ℕ) (left : List ℕ) (t u : Table) → Agree left t u → Agree (drop n left) t u
agree_drop n left t u (inl h) = inl (without_drop n left h)
agree_drop n left t u (inr h) = inr h

pub agree_take : (n : ℕ) (left : List ℕ) (t u : Table) → Agree left t u → Agree (take n left) t u
agree_take n left t u (inl h) = inl (without_take n left h)
agree_take n left t u (inr h) = inr h

-- ---- from a place, with a table
abbrev begin : Spot → Table → State
begin p t = record { at = p.index; rest = p.left; entries = t }

-- both readings, and what was there before them
record Beside (levels : ℕ) (row : Row) (conv : Bool) (p : Spot) (t u : Table) : Type 0 where
  before : List Entry
  before' : List Entry
  meets : Meets before before' (Of before before' (is_nested row)) (read_from cores levels row conv (begin p t) end) (read_from cores levels row conv (begin p u) end)

starts_near : (p : Spot) (t u : Table) → Agree p.left t u → (a : Table) × (b : Table) × Near a b (begin p t) (begin p u)
starts_near p t u (inl h) =
    (t, u, subst (λ x. Near t u (begin p x) (begin p u)) (append-nil t) (subst (λ x. Near t u (begin p (t ++ [])) (begin p x)) (append-nil u) (Near.near p.index p.left [] [] (inl h) Same.no_entry)))
starts_near p t u (inr h) = ([], [], Near.near p.index p.left t u (inr (refl, refl)) (to_same t u h))

both_read : (levels : ℕ) (row : Row) (conv : Bool) (p : Spot) (t u : Table) → Agree p.left t u → Beside levels row conv p t u
both_read levels row conv p t u h =
    let n = starts_near p t u h in
    record { before = n.0; before' = n.1; meets = row_meets n.0 n.1 levels row conv (begin p t) (begin p u) end end n.2 Alike.nil }

refused_both : (a b : Table) (Q : Core → Core → Type 0) (k : Kind) {x y : Answer Core} → Meets a b Q x y → replied x ≡ Refused k → replied y ≡ Refused k
refused_both a b Q k (Meets.yes n h) e = absurd (cc)
refused_both a b Q k (Meets.no_both h c) e = e
refused_both a b Q k Meets.deep e = e

abbrev here_or : Here → Reply → Here
here_or d (Found x h) = h
here_or d (Refused k) = d

abbrev FoundBoth : Here → Answer Core → Type 0
FoundBoth h y = (z : Core) × (g : Here) × (replied y ≡ Found z g) × (g.spot ≡ h.spot) × Agree g.spot.left h.table g.table

near_spot : (a b : Table) {s r : State} → Near a b s r → (seen r).spot ≡ (seen s).spot
near_spot a b (Near.near i bs e f c h) = refl

near_agree : (a b : Table) {s r : State} → Near a b s r → Agree r.rest s.entries r.entries
near_agree a b (Near.near i bs e f c h) = agree a b (Near.near i bs e f c h)

found_both : (a b : Table) (Q : Core → Core → Type 0) (x : Core) (h : Here) {v w : Answer Core} → Meets a b Q v w → replied v ≡ Found x h → FoundBoth h w
found_both a b Q x h (Meets.yes {s = s} {r = r} {b = z} n i) e =
    let d : Here = seen s in
    subst (λ m. FoundBoth m (Yes r z)) (ap (here_or d) e) (z, seen r, refl, near_spot a b n, near_agree a b n)
found_both a b Q x h (Meets.no_both i c) e = absurd (cc)
found_both a b Q x h Meets.deep e = absurd (cc)

pub same_refusals : (levels : ℕ) (row : Row) (conv : Bool) (p : Spot) (t u : Table) (k : Kind) → Agree p.left t u → cread levels row conv (here p t) [] ≡ Refused k → cread levels row conv (here p u) [] ≡ Refused k
same_refusals levels row conv p t u k h e =
    let m = both_read levels row conv p t u h in
    sym (reads_code levels row conv (begin p u) []) ∙ refused_both m.before m.before' _ k m.meets (reads_code levels row conv (begin p t) [] ∙ e)

pub same_ends : (levels : ℕ) (row : Row) (conv : Bool) (p : Spot) (t u : Table) (x : Core) (h : Here) → Agree p.left t u → cread levels row conv (here p t) [] ≡ Found x h
    → (y : Core) × (g : Here) × (cread levels row conv (here p u) [] ≡ Found y g) × (g.spot ≡ h.spot) × Agree g.spot.left h.table g.table
same_ends levels row conv p t u x h a e =
    let m = both_read levels row conv p t u a in
    let f = found_both m.before m.before' _ x h m.meets (reads_code levels row conv (begin p t) [] ∙ e) in
    (f.0, f.1, sym (reads_code levels row conv (begin p u) []) ∙ f.2, f.3, f.4)
