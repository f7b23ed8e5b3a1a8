-- Laws on where a scope and a base end: the splits and cuts are the parts at these places.
use Rattle.std.proofs.Common.{◌≡◌, ℕ, ◌+◌, ◌-◌, ◌≤◌, ◌<◌, Bool, true, false, ◌&&◌, List, [], ◌∷◌, ◌++◌, length}
use Rattle.std.proofs.Common.{take, drop, refl, sym, ap, ◌∙◌, append-nil, Some, None, arith}
use Rattle.std.proofs.lemmas.Grind.{common_steps}
use Rattle.std.proofs.Math.Seq.{drop-append-add, take-append_seam}
use Rattle.std.specs.Prelude.{Option, codes}
use Rattle.std.specs.Str.{bytes_eq}
use Rattle.demangle_printing.specs.State.{prefix, template_prefix, template_args, unqualified_name}
use Rattle.demangle_parts_text.specs.Items.{Items, none, text, node, text_in}
use Rattle.demangle_parts_text.specs.Split.{Split, colons, ends_in_colons}
use Rattle.demangle_parts_text.specs.Split.{opens, pick, scoped, split, with_more, without_colons}
use Rattle.demangle_parts_text.specs.Walk.{are_arguments, closes_behind, is_closing, is_name, is_none}
use Rattle.demangle_parts_text.specs.Walk.{is_name_in_scope, node_first, not_text, scope_in, when, with_text}
use Rattle.demangle_parts_text.proofs.CutLaws.{is-text}

-- ---- a node
-- the scope of this length, if there is one, and what is behind `::`
abbrev pub split_at : Option ℕ → List ℕ → Split
split_at None t = record { scope = None; base = t }
split_at (Some n) t = record { scope = Some (take n t); base = drop (n + 2) t }

picked-at : (b : Bool) (s : Split) (n : ℕ) (t : List ℕ) → (b ≡ true → s ≡ split_at (Some n) t)
    → pick b s (record { scope = None; base = t }) ≡ split_at (when b (Some n)) t
picked-at true s n t h = h refl
picked-at false s n t h = refl

abbrev pub IsWithinText : Option ℕ → List ℕ → Type 0
IsWithinText None t = Unit {0}
IsWithinText (Some n) t = n + 2 ≤ length t

when-within : (b : Bool) (o : Option ℕ) (t : List ℕ) → (b ≡ true → IsWithinText o t) → IsWithinText (when b o) t
when-within true o t h = h refl
when-within false o t h = tt

more-within : (o : Option ℕ) (t more : List ℕ) → IsWithinText o t → IsWithinText o (t ++ more)
more-within None t more h = tt
more-within (Some n) t more h = let both : length (t ++ more) ≡ length t + length more = grind (arith, common_steps)
    in omega arith

at-least-two : (t : List ℕ) → ends_in_colons t ≡ true → 2 ≤ length t
at-least-two t e =
    let tail : drop (length t - 2) t ≡ colons = is-text (drop (length t - 2) t) colons e in
    let size : length (drop (length t - 2) t) ≡ length t - (length t - 2) = grind (arith, common_steps) in
    let two : length (drop (length t - 2) t) ≡ 2 = ap length tail in
    omega arith

pub scope-within : (i : Items) → IsWithinText (scope_in i) (text_in i)
unfolding scope_in
scope-within (node prefix p (text t (node unqualified_name u none))) =
    when-within (bytes_eq t colons) (Some (length (text_in p))) (text_in p ++ (t ++ (text_in u ++ [])))
    (λ e.
    let size : length t ≡ 2 = ap length (is-text t colons e) in
    let all : length (text_in p ++ (t ++ (text_in u ++ []))) ≡ length (text_in p) + (length t + length (text_in u)) =
    grind (arith, common_steps) in
    omega arith)
scope-within (text t (node unqualified_name u none)) =
    when-within (ends_in_colons t) (Some (length t - 2)) (t ++ (text_in u ++ []))
    (λ e.
    let two = at-least-two t e in
    let all : length (t ++ (text_in u ++ [])) ≡ length t + length (text_in u) = grind (arith, common_steps) in
    omega arith)
scope-within (node template_prefix q (text t (node template_args a (text g none)))) =
    when-within (bytes_eq g (codes ">") && opens t) (scope_in q) (text_in q ++ (t ++ (text_in a ++ (g ++ []))))
    (λ e. more-within (scope_in q) (text_in q) (t ++ (text_in a ++ (g ++ []))) (scope-within q))
scope-within other = tt

more-at : (o : Option ℕ) (t more : List ℕ) → IsWithinText o t → with_more (split_at o t) more ≡ split_at o (t ++ more)
more-at None t more h = refl
more-at (Some n) t more h =
    let front : take n (t ++ more) ≡ take n t = grind (arith, common_steps) in
    let back : drop (n + 2) (t ++ more) ≡ drop (n + 2) t ++ more = grind (arith, common_steps) in
    rw (front, back) refl

prefix-at : (p t u : List ℕ) → t ≡ colons
    → record { scope = Some p; base = u } ≡ split_at (Some (length p)) (p ++ (t ++ (u ++ [])))
prefix-at p t u e =
    let front : take (length p) (p ++ (t ++ (u ++ []))) ≡ p = take-append_seam p (t ++ (u ++ [])) in
    let back : drop (length p + 2) (p ++ (t ++ (u ++ []))) ≡ u =
    drop-append-add p (t ++ (u ++ [])) 2 ∙ ap (λ l. drop 2 (l ++ (u ++ []))) e ∙ append-nil u in
    rw (front, back) refl

text-at : (t u : List ℕ) → 2 ≤ length t
    → record { scope = Some (without_colons t); base = u } ≡ split_at (Some (length t - 2)) (t ++ (u ++ []))
text-at t u two =
    let front : take (length t - 2) (t ++ (u ++ [])) ≡ take (length t - 2) t = grind (arith, common_steps) in
    let all : length t - 2 + 2 ≡ length t = omega arith in
    let back : drop (length t) (t ++ (u ++ [])) ≡ u = grind (arith, common_steps) in
    rw (front, all, back) refl

more-picked : (b : Bool) (s : Split) (o : Option ℕ) (t more all : List ℕ) → s ≡ split_at o t → IsWithinText o t
    → all ≡ t ++ more
    → pick b (with_more s more) (record { scope = None; base = all }) ≡ split_at (when b o) all
more-picked true s o t more all e h a =
    ap (λ x. with_more x more) e ∙ more-at o t more h ∙ ap (split_at o) (sym a)
more-picked false s o t more all e h a = refl

pub split-by : (i : Items) → split i ≡ split_at (scope_in i) (text_in i)
unfolding split scope_in
split-by (node prefix p (text t (node unqualified_name u none))) =
    picked-at (bytes_eq t colons) (scoped (text_in p) u) (length (text_in p)) _
    (λ e. prefix-at (text_in p) t (text_in u) (is-text t colons e))
split-by (text t (node unqualified_name u none)) =
    picked-at (ends_in_colons t) (scoped (without_colons t) u) (length t - 2) _
    (λ e. text-at t (text_in u) (at-least-two t e))
split-by (node template_prefix q (text t (node template_args a (text g none)))) =
    more-picked (bytes_eq g (codes ">") && opens t) (split q) (scope_in q) (text_in q) (t ++ (text_in a ++ g))
    (text_in q ++ (t ++ (text_in a ++ (g ++ [])))) (split-by q) (scope-within q)
    (ap (λ l. text_in q ++ (t ++ (text_in a ++ l))) (append-nil g))
split-by other = refl

-- ---- what is found at the front
abbrev first_in : Option (Items × Items) → Items
first_in None = none
first_in (Some x) = x.0

abbrev second_in : Option (Items × Items) → Items
second_in None = none
second_in (Some x) = x.1

pub scope-parts : (p q w m : Items) → ◌≡◌ {A = Option (Items × Items)} (Some (p, q)) (Some (w, m)) → (p ≡ w) × (q ≡ m)
scope-parts p q w m e = (ap first_in e, ap second_in e)

pub scope-first : (i w m : Items) → node_first template_prefix i ≡ Some (w, m)
    → scope_in i ≡ when (are_arguments m) (scope_in w)
unfolding scope_in
scope-first (node template_prefix q n) w m e =
    let h = scope-parts q n w m e in
    ap (λ x. when (are_arguments x) (scope_in q)) h.1 ∙ ap (λ x. when (are_arguments m) (scope_in x)) h.0
scope-first other w m e = absurd cc

pub scope-prefix : (i w m : Items) → node_first prefix i ≡ Some (w, m)
    → scope_in i ≡ when (is_name_in_scope m) (Some (length (text_in w)))
unfolding scope_in
scope-prefix (node prefix p n) w m e =
    let h = scope-parts p n w m e in
    ap (λ x. when (is_name_in_scope x) (Some (length (text_in p)))) h.1
    ∙ ap (λ x. when (is_name_in_scope m) (Some (length (text_in x)))) h.0
scope-prefix other w m e = absurd cc

pub scope-none : (i : Items) → not_text i ≡ true → node_first prefix i ≡ None → node_first template_prefix i ≡ None
    → scope_in i ≡ None
unfolding scope_in
scope-none none e f g = refl
scope-none (text t m) e f g = absurd cc
scope-none (node prefix p m) e f g = absurd cc
scope-none (node template_prefix p m) e f g = absurd cc
scope-none (node k p m) e f g = refl

and-false : (b : Bool) → (b && false) ≡ false
and-false true = refl
and-false false = refl

and-true : (b : Bool) → (b && true) ≡ b
and-true true = refl
and-true false = refl

pub scope-text : (bs : List ℕ) (i : Items) → 0 < length bs
    → scope_in (with_text bs i) ≡ when (is_name i && ends_in_colons bs) (Some (length bs - 2))
unfolding scope_in
scope-text [] i e = absurd (omega arith)
scope-text (b ∷ bs) i e = refl

pub name-behind : (bs : List ℕ) (i : Items) → not_text i ≡ true
    → is_name_in_scope (with_text bs i) ≡ (is_name i && bytes_eq bs colons)
name-behind [] none e = refl
name-behind [] (text t m) e = absurd cc
name-behind [] (node k w m) e = sym (and-false (is_name (node k w m)))
name-behind (b ∷ bs) i e = refl

pub closing-behind : (bs : List ℕ) (i : Items) → not_text i ≡ true
    → is_closing (with_text bs i) ≡ (is_none i && bytes_eq bs (codes ">"))
closing-behind [] none e = refl
closing-behind [] (text t m) e = absurd cc
closing-behind [] (node k w m) e = refl
closing-behind (b ∷ bs) i e = refl

pub arguments-behind : (bs : List ℕ) (i : Items) → not_text i ≡ true
    → are_arguments (with_text bs i) ≡ (closes_behind (node_first template_args i) && opens bs)
arguments-behind [] none e = refl
arguments-behind [] (text t m) e = absurd cc
arguments-behind [] (node k w m) e = sym (and-false (closes_behind (node_first template_args (node k w m))))
arguments-behind (b ∷ bs) i e = refl

pub both-true : (a b c : Bool) → c ≡ (a && b) → b ≡ true → c ≡ a
both-true a b c e f = e ∙ ap (λ x. a && x) f ∙ and-true a

pub both-false : (a b c : Bool) → c ≡ (a && b) → b ≡ false → c ≡ false
both-false a b c e f = e ∙ ap (λ x. a && x) f ∙ and-false a
