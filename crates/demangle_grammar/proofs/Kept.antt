-- What each derivation keeps: the spelling, the index, the components, and that the tree is sound.
use Rattle.std.specs.Prelude.{slice_get, None, Some, ◌≡◌, ◌⊎◌, ℕ, zero, suc, ◌+◌, ◌-◌, ◌≤◌, ◌<◌, Bool, true, false, cond, List, [], ◌∷◌, ◌++◌, length, take, drop, nat_lt, pos, ℤ, Option}
use Rattle.std.proofs.Common.{inl, inr, refl, subst, sym, ap, ◌∙◌, arith, append_assoc, length-append, Some}
use Rattle.std.proofs.lemmas.List.{take-append-drop}
use Rattle.std.proofs.lemmas.Bool.{ltb-true}
use Rattle.demangle_core.specs.Table.{Entry, count, entry_at, listed, more_if}
use Rattle.demangle_core.specs.Core.{same_which, Core, end, number, Which, N, U}
use Rattle.demangle_grammar.specs.Rule.{Rule, Leaf, Eat, Given}
use Rattle.demangle_grammar.specs.Tree.{trees, Tree, How, nil, core, IsOfEntry, spell, components, Sound, HowSound, adds, component_of, template_entry}
use Rattle.demangle_core.specs.Sound.{RefersTo}
use Rattle.demangle_grammar.specs.Reading.{State, Answer, Yes, stepped, found, where_so, answer, go_on, find, holds, marks, kept, prefix_entry, is_nestable, widened, ahead_by, run_found, is_in, worded, numbered, entry_of, refusal, last_component, or_end}
use Rattle.demangle_grammar.proofs.Derives.{Derives, narrowed, digits_of}
use Rattle.demangle_grammar.proofs.Holds.{Holds}
use Rattle.demangle_text.specs.Word.{starts, missing_word}
use Rattle.demangle_text.specs.Number.{number_at}
use Rattle.demangle_text.specs.Kind.{Cause, Text, Bad}
use Rattle.demangle_text.specs.Found.{Found, took, none, mapped}
use Rattle.demangle_text.specs.Bytes.{is_digit, span}
use Rattle.demangle_text.specs.Characters.{identifier_len}
use Rattle.demangle_vocab.specs.WordTable.{table_at}
use Rattle.demangle_grammar.proofs.Numbers.{starts_so}

pub record Keeps (s : State) (a : Tree) (t : State) (c : Tree) : Type 0 where
  pub spells : spell a ++ s.rest ≡ spell c ++ t.rest
  pub at : s.at + length s.rest ≡ t.at + length t.rest
  pub shorter : length t.rest ≤ length s.rest
  pub entries : (e : List Entry) → s.entries ≡ e ++ components a → t.entries ≡ e ++ components c
  pub sound : (e : List Entry) → s.entries ≡ e ++ components a → Sound e a → Sound e c

pub append-nil : {A : Type 0} (xs : List A) → xs ++ [] ≡ xs
append-nil [] = refl
append-nil (x ∷ xs) = ap (λ ys. x ∷ ys) (append-nil xs)

same' : (s : State) (a : Tree) → Keeps s a s a
same' s a = record { spells = refl; at = refl; shorter = omega arith; entries = λ e h. h; sound = λ e h i. i }

pub then' : {s m t : State} {a b c : Tree} → Keeps s a m b → Keeps m b t c → Keeps s a t c
then' p q = record {
  spells = p.spells ∙ q.spells;
  at = p.at ∙ q.at;
  shorter = omega (arith, p.shorter, q.shorter);
  entries = λ e h. q.entries e (p.entries e h);
  sound = λ e h i. q.sound e (p.entries e h) (p.sound e h i);
}

-- what was read apart stands behind the parts so far
pub behind' : {s m : State} (a : Tree) {b : Tree} → Keeps s nil m b → Keeps s a m (Tree.cat a b)
behind' {s} {m} a {b} p =
    let q : m.entries ≡ s.entries ++ components b = p.entries s.entries (sym (append-nil s.entries)) in
    record {
      spells = ap (λ x. spell a ++ x) p.spells ∙ sym (append_assoc (spell a) (spell b) m.rest);
      at = p.at;
      shorter = p.shorter;
      entries = λ e h. q ∙ ap (λ x. x ++ components b) h ∙ append_assoc e (components a) (components b);
      sound = λ e h i. (i, subst (λ x. Sound x b) h (p.sound s.entries (sym (append-nil s.entries)) tt));
    }

no_adds : (x : List Entry) (a : Tree) (h : How) → adds h (core a) ≡ [] → x ≡ components a → x ≡ components (Tree.over h a)
no_adds x a h e p = p ∙ sym (ap (λ y. components a ++ y) e ∙ append-nil (components a))

-- a node that adds no component
pub over' : {s m : State} {a b : Tree} (h : How) → adds h (core b) ≡ [] → ((e : List Entry) → m.entries ≡ e ++ components b → HowSound (e ++ components b) h) → Keeps s a m b → Keeps s a m (Tree.over h b)
over' {s} {m} {a} {b} h e f p =
    record {
      spells = p.spells;
      at = p.at;
      shorter = p.shorter;
      entries = λ x y. p.entries x y ∙ ap (λ z. x ++ z) (no_adds (components b) b h e refl);
      sound = λ x y i. (p.sound x y i, f x (p.entries x y));
    }

-- a node that is a component
adds' : (s : State) (a : Tree) (h : How) (x : Entry) → adds h (core a) ≡ x ∷ [] → ((e : List Entry) → s.entries ≡ e ++ components a → HowSound (e ++ components a) h) → Keeps s a (kept s x) (Tree.over h a)
adds' s a h x e f =
    record {
      spells = refl;
      at = refl;
      shorter = omega arith;
      entries = λ y p. ap (λ z. z ++ x ∷ []) p ∙ append_assoc y (components a) (x ∷ []) ∙ ap (λ z. y ++ (components a ++ z)) (sym e);
      sound = λ y p i. (i, f y p);
    }

pub eats : (s : State) (n : ℕ) (f : Core) → ((e : List Entry) → RefersTo e f) → Keeps s nil (ahead_by n s) (Tree.leaf (take n s.rest) f)
eats s n f b =
    let e = take-append-drop n s.rest in
    let l : length s.rest ≡ length (take n s.rest) + length (drop n s.rest) = ap length (sym e) ∙ length-append (take n s.rest) (drop n s.rest) in
    record {
      spells = sym e;
      at = omega (arith, l);
      shorter = omega (arith, l);
      entries = λ x h. h;
      sound = λ x h i. b x;
    }

-- no field that is found is a reference
abbrev NoReference : Found Core → Type 0
NoReference (took n v) = (e : List Entry) → RefersTo e v
NoReference (none k) = Unit {0}

test_refers : (b : Bool) (f : Found Core) (k : Cause) → NoReference f → NoReference (cond b f (none k))
test_refers true f k r = r
test_refers false f k r = tt

run_refers : (at n : ℕ) → NoReference (run_found at n)
run_refers at zero = tt
run_refers at (suc n) = λ e. tt

numbered_refers : (r : Found ℤ) → NoReference (mapped numbered r)
numbered_refers (took n x) = λ e. tt
numbered_refers (none c) = tt

worded_refers : (t : ℕ) (r : Found ℕ) → NoReference (mapped (worded t) r)
worded_refers t (took n x) = λ e. tt
worded_refers t (none c) = tt

fields_refer : (x : Eat) (at : ℕ) (bs : List ℕ) → NoReference (find x at bs)
fields_refer (Eat.run c) at [] = tt
fields_refer (Eat.run c) at (b ∷ bs) = run_refers at (span (is_in c) (b ∷ bs))
fields_refer Eat.identifier at [] = tt
fields_refer Eat.identifier at (b ∷ bs) = run_refers at (identifier_len (b ∷ bs))
fields_refer (Eat.upto b) at bs = λ e. tt
fields_refer (Eat.byte c) at [] = tt
fields_refer (Eat.byte c) at (b ∷ bs) = test_refers (is_in c b) (took 1 end) Text (λ e. tt)
fields_refer Eat.digit at [] = tt
fields_refer Eat.digit at (b ∷ bs) = test_refers (is_digit b) (took 1 (number (pos (b - 48)) end)) Text (λ e. tt)
fields_refer (Eat.numeral base signs) at bs = numbered_refers (number_at base signs bs)
fields_refer (Eat.table t ws) at bs = worded_refers t (table_at ws bs)
fields_refer (Eat.give Given.set) at bs = λ e. tt
fields_refer (Eat.give Given.unset) at bs = λ e. tt
fields_refer (Eat.give Given.missing) at bs = λ e. (tt, tt)
fields_refer (Eat.give Given.nought) at bs = λ e. tt
fields_refer (Eat.give Given.empty) at bs = λ e. (tt, tt)
fields_refer Eat.here at bs = λ e. tt

-- what stands at a place of a list is of an entry
nth_entry : (w : Which) (k : ℕ) (es : List Entry) → IsOfEntry (or_end (slice_get (listed w es) k)) es
nth_entry w k [] = refl
nth_entry w zero (x ∷ es) = by (same_which w x.which) (nth_entry w zero es)
  where
    by : (z : Bool) → IsOfEntry (or_end (slice_get (listed w es) zero)) es
        → (or_end (slice_get (more_if z x.tree (listed w es)) zero) ≡ x.tree) ⊎ IsOfEntry (or_end (slice_get (more_if z x.tree (listed w es)) zero)) es
    by true i = inl refl
    by false i = inr i
nth_entry w (suc k) (x ∷ es) = by (same_which w x.which) (nth_entry w k es) (nth_entry w (suc k) es)
  where
    by : (z : Bool) → IsOfEntry (or_end (slice_get (listed w es) k)) es → IsOfEntry (or_end (slice_get (listed w es) (suc k))) es
        → (or_end (slice_get (more_if z x.tree (listed w es)) (suc k)) ≡ x.tree) ⊎ IsOfEntry (or_end (slice_get (more_if z x.tree (listed w es)) (suc k))) es
    by true i j = inr i
    by false i j = inr j

at_entry : (w : Which) (k : ℕ) (es : List Entry) → IsOfEntry (or_end (entry_at w k es)) es
unfolding entry_at
at_entry w k es = nth_entry w k es

no_entry : (es : List Entry) → IsOfEntry end es
no_entry [] = refl
no_entry (x ∷ es) = inr (no_entry es)

pub of_entry : (c : Core) (es : List Entry) → IsOfEntry (prefix_entry c es) es
of_entry c es = by (last_component c)
  where
    by : (x : Option (Which × ℕ)) → IsOfEntry (entry_of x es) es
    by None = no_entry es
    by (Some x) = at_entry x.0 x.1 es

-- where a test holds
so' : (s : State) (a : Tree) (b : Bool) (k : Cause) (go : Unit {0} → Answer Tree) → (b ≡ true → Holds (Keeps s a) (go tt)) → Holds (Keeps s a) (where_so trees answer go_on b k go)
so' s a true k go h = h refl
so' s a false k go h = tt

pub steps : (l : Leaf) (s : State) (a : Tree) → Holds (Keeps s a) (stepped l s a)
steps (Leaf.word w) s a =
    so' s a (starts w s.rest) (missing_word w s.rest) _ (λ e. subst (λ z. Keeps s a (ahead_by (length w) s) (Tree.cat a (Tree.leaf z end))) (starts_so w s.rest e) (behind' a (eats s (length w) end (λ x. tt))))
steps (Leaf.eat x) s a = by (find x s.at s.rest) (fields_refer x s.at s.rest)
  where
    by : (f : Found Core) → NoReference f → Holds (Keeps s a) (found trees answer go_on f (λ n v. Yes (ahead_by n s) (Tree.cat a (Tree.leaf (take n s.rest) v))))
    by (took n v) r = behind' a (eats s n v r)
    by (none k) r = tt
steps (Leaf.check c) s a = so' s a (holds c s.rest (core a)) (refusal c) _ (λ e. same' s a)
steps (Leaf.make m) s a = over' (How.shaped m) refl (λ e p. tt) (same' s a)
steps (Leaf.mark m) s a =
    let w = marks m s.rest in
    adds' s a (How.made w (count w s.entries)) (record { which = w; tree = core a }) refl (λ e p. ap (count w) p)
steps Leaf.refer s a =
    let k = component_of (core a) in
    so' s a (nat_lt k (count N s.entries)) Bad _ (λ e. over' (How.refers k) refl (λ x p. subst (λ y. k < count N y) p (ltb-true k (count N s.entries) e)) (same' s a))
steps Leaf.take_over s a = let x = prefix_entry (core a) s.entries in so' s a (is_nestable x) Text _ (λ e. over' (How.taken x) refl (λ y p. subst (IsOfEntry x) p (of_entry (core a) s.entries)) (same' s a))
steps Leaf.no_prefix s a = tt
steps Leaf.mark_first s a = adds' s a (How.made_first (count U s.entries)) (record { which = U; tree = template_entry (core a) }) refl (λ e p. ap (count U) p)

-- just so many bytes
pub boxed' : {s m : State} {b : Tree} (v : ℕ) → m.rest ≡ [] → Keeps (narrowed v s) nil m b → Keeps s nil (widened (drop v s.rest) m) b
boxed' {s} {m} {b} v z p =
    let e = take-append-drop v s.rest in
    let l : length s.rest ≡ length (take v s.rest) + length (drop v s.rest) = ap length (sym e) ∙ length-append (take v s.rest) (drop v s.rest) in
    let none' : length m.rest ≡ 0 = ap length z in
    let all : take v s.rest ≡ spell b = p.spells ∙ ap (λ x. spell b ++ x) z ∙ append-nil (spell b) in
    record {
      spells = sym e ∙ ap (λ x. x ++ drop v s.rest) all;
      at = omega (arith, l, p.at, none');
      shorter = omega (arith, l);
      entries = p.entries;
      sound = p.sound;
    }

pub keeps : {r : Rule} {s t : State} {a c : Tree} → Derives r s a t c → Keeps s a t c
keeps (Derives.nothing {s = s} {a = a}) = same' s a
keeps (Derives.leaf {l = l} {s = s} {a = a} e d) = then' (subst (Holds (Keeps s a)) e (steps l s a)) (keeps d)
keeps (Derives.call {a = a} d k) = then' (behind' a (keeps d)) (keeps k)
keeps (Derives.last_turn d e k) = then' (keeps d) (keeps k)
keeps (Derives.turn d k) = then' (keeps d) (keeps k)
keeps (Derives.no_more k) = keeps k
keeps (Derives.one_more d k) = then' (keeps d) (keeps k)
keeps (Derives.first d k) = then' (keeps d) (keeps k)
keeps (Derives.second d k) = then' (keeps d) (keeps k)
keeps (Derives.committed k) = keeps k
keeps (Derives.block {s = s} {m = m} {a = a} {b = b} {n = n} {v = v} e l d z k) =
    then' (then' (behind' a (eats s n end (λ x. tt))) (behind' (Tree.cat a (digits_of n s)) (boxed' {s = ahead_by n s} v z (keeps d)))) (keeps k)
keeps (Derives.part {h = h} {a = a} {b = b} d k) = then' (behind' a (over' (How.shaped h) refl (λ e p. tt) (keeps d))) (keeps k)
keeps (Derives.no_trial k) = keeps k
