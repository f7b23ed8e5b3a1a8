-- What is added is given back by a cut to the sizes before.
use Rattle.std.proofs.Common.{◌≡◌, refl, ap, ◌∙◌, sym, subst, ℕ, suc, zero, ◌≤◌, List, [], ◌∷◌, ◌++◌, arith}
use Rattle.demangle_core.specs.Core.{Core, Which, N, U}
use Rattle.demangle_core.specs.Table.{Entry, Table, count, first_of, added, sizes, cut}

abbrev pub entry : Which → Core → Entry
entry w x = record { which = w; tree = x }

none_step : (w : Which) (x : Core) (es : List Entry) → first_of 0 0 es ≡ [] → first_of 0 0 (entry w x ∷ es) ≡ []
none_step N x es h = h
none_step U x es h = h

none_of : (es : List Entry) → first_of 0 0 es ≡ []
none_of [] = refl
none_of (e ∷ es) = none_step e.which e.tree es (none_of es)

front_step : (w : Which) (x : Core) (es more : List Entry) → first_of (count N es) (count U es) (es ++ more) ≡ es
    → first_of (count N (entry w x ∷ es)) (count U (entry w x ∷ es)) (entry w x ∷ (es ++ more)) ≡ entry w x ∷ es
front_step N x es more h = ap (λ l. entry N x ∷ l) h
front_step U x es more h = ap (λ l. entry U x ∷ l) h

front_of : (es more : List Entry) → first_of (count N es) (count U es) (es ++ more) ≡ es
front_of [] more = none_of more
front_of (e ∷ es) more = front_step e.which e.tree es more (front_of es more)

whole_step : (w : Which) (x : Core) (es : List Entry) → first_of (count N es) (count U es) es ≡ es
    → first_of (count N (entry w x ∷ es)) (count U (entry w x ∷ es)) (entry w x ∷ es) ≡ entry w x ∷ es
whole_step N x es h = ap (λ l. entry N x ∷ l) h
whole_step U x es h = ap (λ l. entry U x ∷ l) h

whole : (es : List Entry) → first_of (count N es) (count U es) es ≡ es
whole [] = refl
whole (e ∷ es) = whole_step e.which e.tree es (whole es)

-- a cut of a cut
abbrev CutsAgain : List Entry → Type 0
CutsAgain es = (a b c d : ℕ) → a ≤ c → b ≤ d → first_of a b (first_of c d es) ≡ first_of a b es

again_step : (w : Which) (x : Core) (es : List Entry) → CutsAgain es → CutsAgain (entry w x ∷ es)
again_step N x es h zero b zero d ac bd = h zero b zero d ac bd
again_step N x es h zero b (suc c) d ac bd = h zero b c d (omega arith) bd
again_step N x es h (suc a) b zero d ac bd = absurd (omega arith)
again_step N x es h (suc a) b (suc c) d ac bd = ap (λ l. entry N x ∷ l) (h a b c d (omega arith) bd)
again_step U x es h a zero c zero ac bd = h a zero c zero ac bd
again_step U x es h a zero c (suc d) ac bd = h a zero c d ac (omega arith)
again_step U x es h a (suc b) c zero ac bd = absurd (omega arith)
again_step U x es h a (suc b) c (suc d) ac bd = ap (λ l. entry U x ∷ l) (h a b c d ac (omega arith))

again : (es : List Entry) → CutsAgain es
again [] = λ a b c d ac bd. refl
again (e ∷ es) = again_step e.which e.tree es (again es)

-- a cut makes no list longer
abbrev Shrinks : List Entry → Type 0
Shrinks es = (w : Which) (a b : ℕ) → count w (first_of a b es) ≤ count w es

shrinks_step : (v : Which) (x : Core) (es : List Entry) → Shrinks es → Shrinks (entry v x ∷ es)
shrinks_step N x es h N zero b = omega (arith, h N zero b)
shrinks_step N x es h N (suc a) b = omega (arith, h N a b)
shrinks_step N x es h U zero b = h U zero b
shrinks_step N x es h U (suc a) b = h U a b
shrinks_step U x es h N a zero = h N a zero
shrinks_step U x es h N a (suc b) = h N a b
shrinks_step U x es h U a zero = omega (arith, h U a zero)
shrinks_step U x es h U a (suc b) = omega (arith, h U a b)

shrinks : (es : List Entry) → Shrinks es
shrinks [] = λ w a b. omega arith
shrinks (e ∷ es) = shrinks_step e.which e.tree es (shrinks es)

-- ---- the laws
pub cut_same : (t : Table) → cut (sizes t) t ≡ t
unfolding cut sizes
cut_same t = whole t

pub cut_added : (w : Which) (x : Core) (t : Table) → cut (sizes t) (added w x t) ≡ t
unfolding cut sizes added
cut_added w x t = front_of t (entry w x ∷ [])

pub cut_cut : (a b c : Table) → cut (sizes a) b ≡ a → cut (sizes b) c ≡ b → cut (sizes a) c ≡ a
unfolding cut sizes
cut_cut a b c h k =
    let n : count N a ≤ count N b = subst (λ t. count N t ≤ count N b) h (shrinks b N (count N a) (count U a)) in
    let u : count U a ≤ count U b = subst (λ t. count U t ≤ count U b) h (shrinks b U (count N a) (count U a)) in
    sym (again c (count N a) (count U a) (count N b) (count U b) n u) ∙ ap (first_of (count N a) (count U a)) k ∙ h

-- where a cut gives one table back, it gives it back behind another entry too
pub cut_again : (w : Which) (x : Core) (a b : Table) → cut (sizes a) b ≡ a → cut (sizes a) (added w x b) ≡ a
cut_again w x a b h = cut_cut a b (added w x b) h (cut_added w x b)

pub ruleset cuts = (cut_same, cut_added, cut_again)
