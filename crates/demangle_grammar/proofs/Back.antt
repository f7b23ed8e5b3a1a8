-- Each entry refers to earlier ones.
use Rattle.std.specs.Prelude.{◌<◌, ◌≤◌, Bool, true, false, List, [], ◌∷◌, ◌++◌, pos, ℕ}
use Rattle.std.proofs.Common.{subst, sym, arith, append_assoc, ⊎_elim}
use Rattle.demangle_core.specs.Table.{Entry, count, count_if}
use Rattle.demangle_core.specs.Core.{same_which}
use Rattle.demangle_core.specs.Core.{Core, end, node, place, number, flag, chosen, ref, ◌⊕◌, Tag, Which, N, U, mark}
use Rattle.demangle_grammar.specs.Tree.{Tree, How, core, components, Sound, HowSound, IsOfEntry, adds, shape, index_of, member_of, data_member_of, first_of, rest_of, template_entry, front, taken_of, nested_unqualified, nested_template, reshaped, longer_by, reference}
use Rattle.demangle_core.specs.Sound.{RefersTo, ReferBack}
use Rattle.demangle_grammar.specs.Laws.{RefersBack}
use Rattle.demangle_grammar.proofs.Kept.{append-nil}
use Rattle.demangle_grammar.proofs.Readings.{added, sound}
use Rattle.demangle_grammar.specs.Rule.{Make}

count_more : (w : Which) (e f : List Entry) → count w e ≤ count w (e ++ f)
count_more w [] f = omega arith
count_more w (x ∷ e) f = by (same_which w x.which) (count_more w e f)
  where
    by : (z : Bool) → count w e ≤ count w (e ++ f) → count_if z (count w e) ≤ count_if z (count w (e ++ f))
    by true h = omega arith
    by false h = h

count_last : (w : Which) (e : List Entry) (c : Core) → count w e < count w (e ++ record { which = w; tree = c } ∷ [])
count_last N [] c = omega arith
count_last U [] c = omega arith
count_last w (x ∷ e) c = by (same_which w x.which) (count_last w e c)
  where
    by : (z : Bool) → count w e < count w (e ++ record { which = w; tree = c } ∷ []) → count_if z (count w e) < count_if z (count w (e ++ record { which = w; tree = c } ∷ []))
    by true h = omega arith
    by false h = h

more : (e f : List Entry) (c : Core) → RefersTo e c → RefersTo (e ++ f) c
more e f end h = tt
more e f (node t c n) h = (more e f c h.0, more e f n h.1)
more e f (place i j n) h = more e f n h
more e f (number v n) h = more e f n h
more e f (flag b n) h = more e f n h
more e f (chosen t k n) h = more e f n h
more e f (ref w k n) h = (omega (arith, h.0, count_more w e f), more e f n h.1)
more e f (mark i n) h = more e f n h

both : (e : List Entry) (a b : Core) → RefersTo e a → RefersTo e b → RefersTo e (a ⊕ b)
both e end b h i = i
both e (node t c n) b h i = (h.0, both e n b h.1 i)
both e (place j k n) b h i = both e n b h i
both e (number v n) b h i = both e n b h i
both e (flag z n) b h i = both e n b h i
both e (chosen t k n) b h i = both e n b h i
both e (ref w k n) b h i = (h.0, both e n b h.1 i)
both e (mark j n) b h i = both e n b h i

back_append : (e a b : List Entry) → ReferBack e a → ReferBack (e ++ a) b → ReferBack e (a ++ b)
back_append e [] b h i = subst (λ z. ReferBack z b) (append-nil e) i
back_append e (x ∷ a) b h i = (h.0, back_append (e ++ x ∷ []) a b h.1 (subst (λ z. ReferBack z b) (sym (append_assoc e (x ∷ []) a)) i))

-- an entry's tree refers to entries that are there
entry_refers : (e es : List Entry) (x : Core) → ReferBack e es → IsOfEntry x es → RefersTo (e ++ es) x
entry_refers e [] x h i = subst (RefersTo (e ++ [])) (sym i) tt
entry_refers e (y ∷ es) x h i =
    ⊎_elim (λ p. more e (y ∷ es) x (subst (RefersTo e) (sym p) h.0)) (λ p. subst (λ z. RefersTo z x) (append_assoc e (y ∷ []) es) (entry_refers (e ++ y ∷ []) es x h.1 p)) i

-- ---- shapes
index_refers : (e : List Entry) (c : Core) → RefersTo e (index_of c)
index_refers e (number (pos k) n) = tt
index_refers e (node t (number (pos k) n) m) = tt
index_refers e _ = tt

longer_refers : (k : ℕ) (e : List Entry) (c : Core) → RefersTo e c → RefersTo e (longer_by k c)
longer_refers k e (place i j n) h = h
longer_refers k e _ h = h

member_refers : (e : List Entry) (c : Core) → RefersTo e c → RefersTo e (member_of c)
member_refers e (node t (node u c n) m) h = ((h.0.0, tt), tt)
member_refers e _ h = h

data_member_refers : (e : List Entry) (c : Core) → RefersTo e c → RefersTo e (data_member_of c)
data_member_refers e (node t c n) h = ((h.0, member_refers e n h.1), tt)
data_member_refers e _ h = h

reshaped_refers : (m : Make) (e : List Entry) (c : Core) → RefersTo e c → RefersTo e (reshaped m c)
reshaped_refers (Make.one t) e c h = (h, tt)
reshaped_refers Make.dropped e c h = tt
reshaped_refers Make.index e c h = index_refers e c
reshaped_refers (Make.longer k) e c h = longer_refers k e c h
reshaped_refers Make.data_member e c h = data_member_refers e c h

rest_refers : (e : List Entry) (c : Core) → RefersTo e c → RefersTo e (rest_of c)
rest_refers e (node t c n) h = h.1
rest_refers e _ h = tt

first_refers : (e : List Entry) (c : Core) → RefersTo e c → RefersTo e (first_of c)
first_refers e (node t c n) h = (h.0, tt)
first_refers e _ h = tt

front_refers : (e : List Entry) (c : Core) → RefersTo e c → RefersTo e (front c)
front_refers e (node t c end) h = tt
front_refers e (node t c (node u d n)) h = (h.0, front_refers e (node u d n) h.1)
front_refers e (node t c (place i j n)) h = (h.0, tt)
front_refers e (node t c (number v n)) h = (h.0, tt)
front_refers e (node t c (flag b n)) h = (h.0, tt)
front_refers e (node t c (chosen u k n)) h = (h.0, tt)
front_refers e (node t c (ref w k n)) h = (h.0, tt)
front_refers e (node t c (mark i n)) h = (h.0, tt)
front_refers e _ h = tt

unqualified_refers : (e : List Entry) (p name c : Core) → RefersTo e p → RefersTo e name → RefersTo e c → RefersTo e (nested_unqualified p name c)
unqualified_refers e p name (chosen t k n) h i j = (both e p (name ⊕ chosen t k end) h (both e name (chosen t k end) i tt), tt)
unqualified_refers e p name c h i j = (both e (front c) (p ⊕ name) (front_refers e c j) (both e p name h i), tt)

template_refers : (e : List Entry) (c : Core) → RefersTo e c → RefersTo e (nested_template c)
template_refers e (chosen t k n) h = (both e n (chosen t k end) h tt, tt)
template_refers e c h = (h, tt)

taken_refers : (e : List Entry) (x c : Core) → RefersTo e x → RefersTo e c → RefersTo e (taken_of x c)
taken_refers e (node Tag.SubstitutablePrefix (node Tag.PrefixUnqualified name n) m) c h i = unqualified_refers e (node Tag.Absent end end) name c (tt, tt) h.0.0 i
taken_refers e (node Tag.SubstitutablePrefix (node Tag.PrefixNested (node t p name) n) m) c h i = unqualified_refers e (node Tag.Present (node t p end) end) name c ((h.0.0.0, tt), tt) h.0.0.1 i
taken_refers e _ c h i = template_refers e c i

reference_refers : (e : List Entry) (w : Which) (k : ℕ) → k < count w e → RefersTo e (reference w k)
reference_refers e N k h = ((h, tt), tt)
reference_refers e U k h = ((h, tt), tt)

-- what a node adds, and what it is then
added_back : (h : How) (e : List Entry) (c : Core) → ReferBack [] e → HowSound e h → RefersTo e c → ReferBack e (adds h c) × RefersTo (e ++ adds h c) (shape h c)
added_back (How.made w k) e c b s r =
    ((r, tt), reference_refers (e ++ record { which = w; tree = c } ∷ []) w k (subst (λ z. z < count w (e ++ record { which = w; tree = c } ∷ [])) (sym s) (count_last w e c)))
added_back (How.made_first k) e c b s r =
    let h : k < count U (e ++ record { which = U; tree = template_entry c } ∷ []) = subst (λ z. z < count U (e ++ record { which = U; tree = template_entry c } ∷ [])) (sym s) (count_last U e (template_entry c)) in
    (((((first_refers e c r, tt), tt), tt), tt), (((h, tt), more e (record { which = U; tree = template_entry c } ∷ []) (rest_of c) (rest_refers e c r)), tt))
added_back (How.shaped m) e c b s r = (tt, more e [] (reshaped m c) (reshaped_refers m e c r))
added_back (How.refers k) e c b s r = (tt, reference_refers (e ++ []) N k (subst (λ z. k < count N z) (sym (append-nil e)) s))
added_back (How.taken x) e c b s r = (tt, more e [] (taken_of x c) (taken_refers e x c (entry_refers [] e x b s) r))

-- ---- trees
refer : (t : Tree) (e : List Entry) → ReferBack [] e → Sound e t → ReferBack e (components t) × RefersTo (e ++ components t) (core t)
refer (Tree.leaf bs f) e b s = (tt, more e [] f s)
refer (Tree.cat x y) e b s =
    let p = refer x e b s.0 in
    let q = refer y (e ++ components x) (back_append [] e (components x) b p.0) s.1 in (
      back_append e (components x) (components y) p.0 q.0,
      both (e ++ (components x ++ components y)) (core x) (core y)
          (subst (λ z. RefersTo z (core x)) (append_assoc e (components x) (components y)) (more (e ++ components x) (components y) (core x) p.1))
          (subst (λ z. RefersTo z (core y)) (append_assoc e (components x) (components y)) q.1),
    )
refer (Tree.over h x) e b s =
    let p = refer x e b s.0 in
    let q = added_back h (e ++ components x) (core x) (back_append [] e (components x) b p.0) s.1 p.1 in
    (back_append e (components x) (adds h (core x)) p.0 q.0, subst (λ z. RefersTo z (shape h (core x))) (append_assoc e (components x) (adds h (core x))) q.1)

pub refers_back : RefersBack
refers_back left r c s t tree e b =
    let p = refer tree s.entries b (sound left r c s t tree e) in
    let q = added left r c s t tree e in
    (subst (ReferBack []) (sym q) (back_append [] s.entries (components tree) b p.0), subst (λ z. RefersTo z (core tree)) (sym q) p.1)
