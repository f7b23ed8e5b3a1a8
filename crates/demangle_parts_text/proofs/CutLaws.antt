-- Laws on splits and cuts: nothing of the text is lost.
use Rattle.std.proofs.Common.{◌≡◌, ℕ, ◌-◌, Bool, true, false, ◌&&◌, List, [], ◌∷◌, ◌++◌, length}
use Rattle.std.proofs.Common.{take, drop, refl, sym, ap, ◌∙◌, append_assoc, append-nil, nat_eq, take-append-drop}
use Rattle.std.proofs.Common.{Some, None, rules, tests}
use Rattle.std.proofs.lemmas.Bool.{true≢false}
use Rattle.std.specs.Prelude.{Option, codes}
use Rattle.std.specs.List.{starts_with}
use Rattle.std.specs.Str.{bytes_eq}
use Rattle.demangle_printing.specs.State.{prefix, template_prefix, template_args, unqualified_name, nested_name}
use Rattle.demangle_parts_text.specs.Items.{Items, none, text, node, text_in}
use Rattle.demangle_parts_text.specs.Split.{Cut, Split, choose_cut, colons, ends_in_colons, named}
use Rattle.demangle_parts_text.specs.Split.{opens, pick, scoped, split, with_more, without_colons}
use Rattle.demangle_parts_text.specs.Laws.{JoinsCut, in_scope}

-- ---- texts
left : (a b : Bool) → (a && b) ≡ true → a ≡ true
left true b e = refl
left false b e = e

right : (a b : Bool) → (a && b) ≡ true → b ≡ true
right true b e = e
right false b e = absurd (true≢false (sym e))

pub is-text : (a b : List ℕ) → bytes_eq a b ≡ true → a ≡ b
is-text [] [] e = refl
is-text [] (y ∷ ys) e = absurd cc
is-text (x ∷ xs) [] e = absurd cc
is-text (x ∷ xs) (y ∷ ys) e =
    let l = left (nat_eq x y) (bytes_eq xs ys) e in
    let first : x ≡ y = search (rules, tests) in
    let more : xs ≡ ys = is-text xs ys (right (nat_eq x y) (bytes_eq xs ys) e) in
    cc

-- ---- scopes
scope-more : (s : Option (List ℕ)) (base more : List ℕ) → in_scope s (base ++ more) ≡ in_scope s base ++ more
scope-more None base more = refl
scope-more (Some s) base more =
    ap (λ l. s ++ l) (sym (append_assoc colons base more)) ∙ sym (append_assoc s (colons ++ base) more)

abbrev Joins : Split → List ℕ → Type 0
Joins s l = in_scope s.scope s.base ≡ l

picked : (b : Bool) (s o : Split) (l : List ℕ) → (b ≡ true → Joins s l) → Joins o l → Joins (pick b s o) l
picked true s o l p q = p refl
picked false s o l p q = q

-- ---- a node
split-joins : (i : Items) → Joins (split i) (text_in i)
unfolding split
split-joins (node prefix p (text t (node unqualified_name u none))) =
    picked (bytes_eq t colons) (scoped (text_in p) u) _ _
    (λ e. rw (is-text t colons e, append-nil) refl)
    refl
split-joins (text t (node unqualified_name u none)) =
    picked (ends_in_colons t) (scoped (without_colons t) u) _ _
    (λ e.
    let tail : drop (length t - 2) t ≡ colons = is-text (drop (length t - 2) t) colons e in
    let parts : take (length t - 2) t ++ drop (length t - 2) t ≡ t = take-append-drop (length t - 2) t in
    let joined : take (length t - 2) t ++ colons ≡ t = ap (λ l. take (length t - 2) t ++ l) (sym tail) ∙ parts in
    sym (append_assoc (take (length t - 2) t) colons (text_in u)) ∙ ap (λ l. l ++ text_in u) joined
    ∙ ap (λ l. t ++ l) (sym (append-nil (text_in u))))
    refl
split-joins (node template_prefix q (text t (node template_args a (text g none)))) =
    picked (bytes_eq g (codes ">") && opens t) (with_more (split q) (t ++ (text_in a ++ g))) _ _
    (λ e.
    scope-more (split q).scope (split q).base (t ++ (text_in a ++ g))
    ∙ ap (λ l. l ++ (t ++ (text_in a ++ g))) (split-joins q)
    ∙ ap (λ l. text_in q ++ (t ++ (text_in a ++ l))) (sym (append-nil g)))
    refl
split-joins other = refl

-- ---- a whole printing
abbrev CutJoins : Cut → List ℕ → Type 0
CutJoins c l = in_scope c.scope c.base ++ c.after ≡ l

chosen : (b : Bool) (c o : Cut) (l : List ℕ) → (b ≡ true → CutJoins c l) → CutJoins o l
    → CutJoins (choose_cut b c o) l
chosen true c o l p q = p refl
chosen false c o l p q = q

named-joins : (s : Option (List ℕ)) (base : List ℕ) (m : Items)
    → CutJoins (named s base m) (in_scope s base ++ text_in m)
named-joins s base (text t (node template_args a (text g m))) =
    chosen (opens t && starts_with nat_eq g (codes ">")) _ _ _
    (λ e.
    let args = t ++ (text_in a ++ take 1 g) in
    let parts : take 1 g ++ drop 1 g ≡ g = take-append-drop 1 g in
    ap (λ l. l ++ (drop 1 g ++ text_in m)) (scope-more s base args)
    ∙ append_assoc (in_scope s base) args (drop 1 g ++ text_in m)
    ∙ ap (λ l. in_scope s base ++ l)
    (append_assoc t (text_in a ++ take 1 g) (drop 1 g ++ text_in m)
    ∙ ap (λ l. t ++ l) (append_assoc (text_in a) (take 1 g) (drop 1 g ++ text_in m)
    ∙ ap (λ l. text_in a ++ l) (sym (append_assoc (take 1 g) (drop 1 g) (text_in m))
    ∙ ap (λ l. l ++ text_in m) parts))))
    refl
named-joins s base other = refl

pub cut-joins : JoinsCut
cut-joins (node nested_name n m) = ap (λ l. l ++ text_in m) (split-joins n)
cut-joins (node unqualified_name u m) = named-joins None (text_in u) m
cut-joins (text t (node unqualified_name u m)) =
    chosen (bytes_eq t (codes "std::")) _ _ _
    (λ e.
    named-joins (Some (codes "std")) (text_in u) m
    ∙ append_assoc (codes "std::") (text_in u) (text_in m)
    ∙ ap (λ l. l ++ (text_in u ++ text_in m)) (sym (is-text t (codes "std::") e)))
    (append-nil _)
cut-joins i = append-nil (text_in i)
