-- Laws on what the functions that divide a text answer.
use Rattle.std.proofs.Common.{◌≡◌, ℕ, zero, suc, ◌+◌, ◌-◌, ◌≤◌, ◌<◌, ◌&&◌, ◌||◌, Bool, true, false, List, [], ◌∷◌}
use Rattle.std.proofs.Common.{◌++◌, length}
use Rattle.std.proofs.Common.{take, drop, get_or, refl, sym, ap, ◌∙◌, arith, Some, None, append_assoc, append-nil}
use Rattle.std.proofs.Common.{subst}
use Rattle.std.proofs.Common.{inl, inr, nat_eq, nat_lt, nat_le, rules, tests}
use Rattle.std.proofs.lemmas.Grind.{common_steps}
use Rattle.std.proofs.lemmas.List.{get_or-drop, take-append-le}
use Rattle.std.proofs.lemmas.Str.{IsCharBoundary-after_ascii, IsCharBoundary-before_ascii, IsCharBoundary-end}
use Rattle.std.proofs.Math.Seq.{drop-append-add, drop-append_seam, take-append-add, take-append_seam, take-length}
use Rattle.std.specs.Prelude.{Option, codes, is_some, string_bytes}
use Rattle.std.specs.List.{starts_with}
use Rattle.std.specs.Option.{ForSome}
use Rattle.std.specs.Str.{IsCharBoundary, IsUtf8, bytes_eq}
use Rattle.demangle_printing.specs.State.{nested_name, prefix, template_args, template_prefix, unqualified_name}
use Rattle.demangle_printing.specs.Laws.{AreClosed}
use Rattle.demangle_meets.specs.Seen.{HaveText, events_of}
use Rattle.demangle_parts_text.specs.Fronts.{Behind, DividesAt, DividesIf, EndsAt, HasScope, IsLeft, IsUpTo}
use Rattle.demangle_parts_text.specs.Fronts.{IsTemplate, IsWithin, MayCutAt}
use Rattle.demangle_parts_text.specs.Fronts.{NodeIs, ScopeAt, TemplateAt, TextAt, UpTo, ends_node, here}
use Rattle.demangle_parts_text.specs.Divided.{IsCutOf, IsWhole}
use Rattle.demangle_parts_text.specs.Heard.{calls, sizes, told_calls}
use Rattle.demangle_parts_text.specs.Items.{Items, node, none, text, text_in}
use Rattle.demangle_parts_text.specs.Laws.{in_scope}
use Rattle.demangle_parts_text.specs.MarkOf.{mark_ends}
use Rattle.demangle_parts_text.specs.Marks.{all_end, begin_chars, begins_char, ended, is_end, items_of, one_less}
use Rattle.demangle_parts_text.specs.Marks.{open_marks}
use Rattle.demangle_parts_text.specs.Split.{Cut, choose_cut, colons, cut, cut_at, cut_if, ends_in_colons, named, opens}
use Rattle.demangle_parts_text.specs.Walk.{are_arguments, arguments_size, base_from, closes_behind, count_if}
use Rattle.demangle_parts_text.specs.Walk.{is_closing, is_name, is_name_in_scope, node_first, not_text, parts_at}
use Rattle.demangle_parts_text.specs.Walk.{scope_in}
use Rattle.demangle_parts_text.specs.Walk.{scope_in_first, when, with_text}
use Rattle.demangle_parts_text.specs.declared.divided.Divided.{Divided}
use Rattle.demangle_parts_text.specs.declared.front.Front.{Front}
use Rattle.demangle_parts_text.specs.declared.mark.Mark.{Mark}
use Rattle.demangle_parts_text.specs.declared.mark.Mark.TheVariants as mark
use Rattle.demangle_parts_text.proofs.CutLaws.{cut-joins, is-text}
use Rattle.demangle_parts_text.proofs.FrontLaws.{behind-both, behind-node, begun-ends, node-at}
use Rattle.demangle_parts_text.proofs.HeardLaws.{chars-full}
use Rattle.demangle_parts_text.proofs.ItemLaws.{keeps}
use Rattle.demangle_parts_text.proofs.MarkLaws.{calls-text, ended-open}
use Rattle.demangle_parts_text.proofs.MarkLaws.{opens as opens-as}
use Rattle.demangle_parts_text.proofs.WalkLaws.{IsWithinText, arguments-behind, both-false, both-true, name-behind}
use Rattle.demangle_parts_text.proofs.WalkLaws.{scope-first, scope-none, scope-parts, scope-prefix, scope-text}
use Rattle.demangle_parts_text.proofs.WalkLaws.{scope-within}
use Rattle.demangle_parts_text.proofs.WalkLaws.{split-by, split_at}

-- ---- up to an end
further : (f g e : Front) (n : ℕ) → Behind f n g → EndsAt g e → EndsAt f e
further f g e n b h = record {
  bytes = n + h.bytes;
  behind =
      behind-both f.text.now f.marks.now n g.text.now g.marks.now h.bytes e.text.now e.marks.now b h.behind;
  ends = h.ends;
}

pub up-to : (P Q : Items → Bool) (f g : Front) (n : ℕ) → Behind f n g → P (here f) ≡ Q (here g) → (r : Option Front)
    → UpTo Q g r → UpTo P f r
up-to P Q f g n b e None h = e ∙ h
up-to P Q f g n b e (Some x) h = record { so = e ∙ h.so; ends = further f g x n b h.ends }

pub in-scope : (f g : Front) (n : ℕ) (r : Option Front) → TextAt f n g
    → bytes_eq (take n f.text.now) colons ≡ true → UpTo is_name g r → UpTo is_name_in_scope f r
in-scope f g n r h e u =
    up-to is_name_in_scope is_name f g n h.behind
    (ap is_name_in_scope h.items
    ∙ both-true (is_name (here g)) (bytes_eq (take n f.text.now) colons) _
    (name-behind (take n f.text.now) (here g) h.no_text) e)
    r u

pub arguments-in : (f g h : Front) (n m : ℕ) (r : Option Front) → TextAt f n g → opens (take n f.text.now) ≡ true
    → NodeIs template_args g m h → UpTo is_closing h r → UpTo are_arguments f r
arguments-in f g h n m r t e a u =
    up-to are_arguments is_closing f h (n + m)
    (behind-both f.text.now f.marks.now n g.text.now g.marks.now m h.text.now h.marks.now t.behind a.behind)
    (ap are_arguments t.items
    ∙ both-true (closes_behind (node_first template_args (here g))) (opens (take n f.text.now)) _
    (arguments-behind (take n f.text.now) (here g) t.no_text) e
    ∙ ap closes_behind a.is)
    r u

-- ---- scopes
size-of-front : (n : ℕ) (t : List ℕ) → n ≤ length t → length (take n t) ≡ n
size-of-front n t h = grind (arith, common_steps)

scope-at-text : (f g : Front) (n : ℕ) → TextAt f n g → 0 < n
    → scope_in (here f) ≡ when (is_name (here g) && ends_in_colons (take n f.text.now)) (Some (n - 2))
scope-at-text f g n h some =
    let size = size-of-front n f.text.now h.within in
    let more : 0 < length (take n f.text.now) = omega arith in
    ap scope_in h.items ∙ scope-text (take n f.text.now) (here g) more
    ∙ ap (λ k. when (is_name (here g) && ends_in_colons (take n f.text.now)) (Some (k - 2))) size

when-not : (b : Bool) (o : Option ℕ) → b ≡ false → when b o ≡ None
when-not true o e = absurd cc
when-not false o e = refl

when-so : (b : Bool) (o : Option ℕ) → b ≡ true → when b o ≡ o
when-so true o e = refl
when-so false o e = absurd cc

pub scope-text-not : (f g : Front) (n : ℕ) → TextAt f n g → 0 < n → ends_in_colons (take n f.text.now) ≡ false
    → scope_in (here f) ≡ None
scope-text-not f g n h some e =
    scope-at-text f g n h some
    ∙ when-not _ (Some (n - 2)) (both-false (is_name (here g)) (ends_in_colons (take n f.text.now)) _ refl e)

pub scope-text-none : (f g : Front) (n : ℕ) → TextAt f n g → 0 < n → ends_in_colons (take n f.text.now) ≡ true
    → is_name (here g) ≡ false → scope_in (here f) ≡ None
scope-text-none f g n h some e no' =
    scope-at-text f g n h some
    ∙ when-not _ (Some (n - 2)) (both-true (is_name (here g)) (ends_in_colons (take n f.text.now)) _ refl e ∙ no')

pub scope-text-some : (f g e : Front) (n : ℕ) → TextAt f n g → 0 < n → ends_in_colons (take n f.text.now) ≡ true
    → IsUpTo is_name g e → HasScope f (n - 2) e
scope-text-some f g e n h some c u = record {
  scope =
      scope-at-text f g n h some
      ∙ when-so _ (Some (n - 2)) (both-true (is_name (here g)) (ends_in_colons (take n f.text.now)) _ refl c ∙ u.so);
  ends = further f g e n h.behind u.ends;
}

scope-at-prefix : (f g : Front) (n : ℕ) → NodeIs prefix f n g
    → scope_in (here f) ≡ when (is_name_in_scope (here g)) (Some n)
scope-at-prefix f g n h =
    scope-prefix (here f) h.node (here g) h.is
    ∙ ap (λ k. when (is_name_in_scope (here g)) (Some k)) (ap length h.text ∙ size-of-front n f.text.now h.within)

pub scope-prefix-none : (f g : Front) (n : ℕ) → NodeIs prefix f n g → is_name_in_scope (here g) ≡ false
    → scope_in (here f) ≡ None
scope-prefix-none f g n h e = scope-at-prefix f g n h ∙ when-not _ (Some n) e

pub scope-prefix-some : (f g e : Front) (n : ℕ) → NodeIs prefix f n g → IsUpTo is_name_in_scope g e → HasScope f n e
scope-prefix-some f g e n h u = record {
  scope = scope-at-prefix f g n h ∙ when-so _ (Some n) u.so;
  ends = further f g e n h.behind u.ends;
}

no-text-here : (f g : Front) (n : ℕ) → TextAt f n g → n ≡ 0 → not_text (here f) ≡ true
no-text-here f g n h e =
    ap not_text (h.items ∙ ap (λ k. with_text (take k f.text.now) (here g)) e) ∙ h.no_text

pub no-scope : (f g : Front) (n : ℕ) → TextAt f n g → n ≡ 0 → node_first prefix (here f) ≡ None
    → node_first template_prefix (here f) ≡ None → scope_in (here f) ≡ None
no-scope f g n h e p q = scope-none (here f) (no-text-here f g n h e) p q

when-none : (b : Bool) → when {A = ℕ} b None ≡ None
when-none true = refl
when-none false = refl

pub no-scope-within : (f w : Front) → IsWithin template_prefix f w → scope_in (here w) ≡ None
    → scope_in (here f) ≡ None
no-scope-within f w h e =
    scope-first (here f) (here w) h.others h.is ∙ ap (when (are_arguments h.others)) e
    ∙ when-none (are_arguments h.others)

is-ends : (m : Mark) → mark_ends m ≡ true → m ≡ mark.Ends
is-ends (mark.Piece n) e = absurd cc
is-ends (mark.Begins k) e = absurd cc
is-ends mark.Ends e = refl

-- a level that ends must end at a mark
at-last : (ms : List Mark) → is_end ms ≡ true → ends_node ms ≡ false → ms ≡ []
at-last [] e f = refl
at-last (m ∷ ms) e f = absurd cc

none-left : (w : List Mark) → open_marks w (Some zero) ≡ Some zero → is_some (one_less (ended w)) ≡ true → ⊥
none-left w c e = let all = ap (λ o. is_some (one_less o)) (sym (ended-open w zero c)) ∙ e in absurd cc

pub never-stuck : (f w e : Front) (n : ℕ) → IsWithin template_prefix f w → HasScope w n e
    → ends_node e.marks.now ≡ false → ⊥
never-stuck f w e n h s x =
    let b = s.ends.behind in
    let last = at-last e.marks.now s.ends.ends x in
    let all : w.marks.now ≡ b.within = b.is ∙ ap (λ l. b.within ++ l) last ∙ append-nil b.within in
    none-left b.within b.closed
    (ap (λ l. is_some (one_less (ended l))) (sym all)
    ∙ begun-ends template_prefix h.first f.marks.now w.marks.now h.begins h.marks f.all_end)

-- the node of a template's name, and what is behind it
record Left (f w g : Front) : Type 0 where
  bytes : ℕ
  behind : Behind f bytes g
  is : node_first template_prefix (here f) ≡ Some (here w, here g)

left-node : (f w e g : Front) (n : ℕ) → IsWithin template_prefix f w → HasScope w n e → IsLeft e g → Left f w g
left-node f w e g n h s l =
    let b = s.ends.behind in
    let t = f.text.now in
    let v = b.within in
    let ns = g.marks.now in
    let at-end : e.marks.now ≡ mark.Ends ∷ ns = l.marks ∙ ap (λ m. m ∷ ns) (is-ends l.first l.ends) in
    let within : w.marks.now ≡ v ++ mark.Ends ∷ ns = b.is ∙ ap (λ x. v ++ x) at-end in
    let all : f.marks.now ≡ h.first ∷ (v ++ mark.Ends ∷ ns) = h.marks ∙ ap (λ x. h.first ∷ x) within in
    let left : g.text.now ≡ drop s.ends.bytes t = l.text ∙ b.text_is ∙ ap (drop s.ends.bytes) h.text in
    let here-w : here w ≡ items_of t (v ++ mark.Ends ∷ ns) =
    ap (λ x. items_of x w.marks.now) h.text ∙ ap (items_of t) within in
    let here-g : here g ≡ items_of (drop (sizes v) t) ns =
    ap (λ x. items_of x ns) (left ∙ ap (λ j. drop j t) (sym b.size)) in
    record {
      bytes = s.ends.bytes;
      behind =
          behind-node template_prefix t f.marks.now h.first v ns s.ends.bytes g.text.now h.begins all b.closed b.size
          left;
      is =
          ap (λ x. node_first template_prefix (items_of t x)) all
          ∙ node-at template_prefix t h.first v ns h.begins b.closed
          ∙ ap (λ x. Some (x, items_of (drop (sizes v) t) ns)) (sym here-w)
          ∙ ap (λ x. Some (here w, x)) (sym here-g);
    }

scope-at-left : (f w e g : Front) (n : ℕ) → IsWithin template_prefix f w → HasScope w n e → IsLeft e g
    → scope_in (here f) ≡ when (are_arguments (here g)) (Some n)
scope-at-left f w e g n h s l =
    let x = left-node f w e g n h s l in
    scope-first (here f) (here w) (here g) x.is ∙ ap (when (are_arguments (here g))) s.scope

pub no-scope-left : (f w e g : Front) (n : ℕ) → IsWithin template_prefix f w → HasScope w n e → IsLeft e g
    → are_arguments (here g) ≡ false → scope_in (here f) ≡ None
no-scope-left f w e g n h s l a = scope-at-left f w e g n h s l ∙ when-not _ (Some n) a

pub scope-left : (f w e g x : Front) (n : ℕ) → IsWithin template_prefix f w → HasScope w n e → IsLeft e g
    → IsUpTo are_arguments g x → HasScope f n x
scope-left f w e g x n h s l u =
    let y = left-node f w e g n h s l in
    record {
      scope = scope-at-left f w e g n h s l ∙ when-so _ (Some n) u.so;
      ends = further f g x y.bytes y.behind u.ends;
    }

pub no-scope-behind : (f w e : Front) (n : ℕ) → IsWithin template_prefix f w → HasScope w n e
    → TemplateAt n e None → scope_in (here f) ≡ None
no-scope-behind f w e n h s t =
    elim t [
      | inl x ↦ absurd (never-stuck f w e n h s x)
      | inr x ↦ no-scope-left f w e x.behind n h s x.left x.others
    ]

pub scope-behind : (f w e x : Front) (n k : ℕ) → IsWithin template_prefix f w → HasScope w n e → k ≡ n
    → IsTemplate e x → HasScope f k x
scope-behind f w e x n k h s l t =
    subst (λ j. HasScope f j x) (sym l) (scope-left f w e t.behind x n h s t.left t.arguments)

pub template-scope : (f w e : Front) (n : ℕ) (r : Option (ℕ × Front)) → IsWithin template_prefix f w → HasScope w n e
    → TemplateAt n e r → ScopeAt f r
template-scope f w e n None h s t = no-scope-behind f w e n h s t
template-scope f w e n (Some x) h s t = scope-behind f w e x.1 n x.0 h s t.0 t.1

-- ---- a whole printing
-- a nested name
cut-at-places : (o : Option ℕ) (p m : List ℕ) → IsWithinText o p
    → parts_at (record { scope = o; end = length p }) (p ++ m) ≡ cut_at (split_at o p) m
cut-at-places None p m h = rw (take-append_seam p m, drop-append_seam p m) refl
cut-at-places (Some n) p m h =
    let few : n ≤ length p = omega arith in
    rw (take-append_seam p m, drop-append_seam p m, take-append-le n p m few) refl

nested-cut : (i x m : Items) (o : Option ℕ) → node_first nested_name i ≡ Some (x, m) → o ≡ scope_in x
    → parts_at (record { scope = o; end = length (text_in x) }) (text_in i) ≡ cut i
nested-cut (node nested_name p q) x m o e s =
    let h = scope-parts p q x m e in
    ap (λ z. parts_at (record { scope = o; end = length (text_in z) }) (text_in p ++ text_in q)) (sym h.0)
    ∙ ap (λ z. parts_at (record { scope = z; end = length (text_in p) }) (text_in p ++ text_in q))
    (s ∙ ap scope_in (sym h.0))
    ∙ cut-at-places (scope_in p) (text_in p) (text_in q) (scope-within p)
    ∙ ap (λ z. cut_at z (text_in q)) (sym (split-by p))
nested-cut other x m o e s = absurd cc

-- a name, and the template arguments behind it
pub has-arguments : (t a g m : List ℕ) → starts_with nat_eq g (codes ">") ≡ true
    → take (length t + length a + 1) (t ++ (a ++ (g ++ m))) ≡ t ++ (a ++ take 1 g)
has-arguments t a [] m e = absurd cc
has-arguments t a (b ∷ g) m e =
    let split' : length t + length a + 1 ≡ length t + (length a + 1) = omega arith in
    ap (λ k. take k (t ++ (a ++ (b ∷ (g ++ m))))) split' ∙ take-append-add t (a ++ (b ∷ (g ++ m))) (length a + 1)
    ∙ ap (λ l. t ++ l) (take-append-add a (b ∷ (g ++ m)) 1)

pub behind-arguments : (t a g m : List ℕ) → starts_with nat_eq g (codes ">") ≡ true
    → drop (length t + length a + 1) (t ++ (a ++ (g ++ m))) ≡ drop 1 g ++ m
behind-arguments t a [] m e = absurd cc
behind-arguments t a (b ∷ g) m e =
    let split' : length t + length a + 1 ≡ length t + (length a + 1) = omega arith in
    ap (λ k. drop k (t ++ (a ++ (b ∷ (g ++ m))))) split' ∙ drop-append-add t (a ++ (b ∷ (g ++ m))) (length a + 1)
    ∙ drop-append-add a (b ∷ (g ++ m)) 1

-- what a name's cut is, by the size of its arguments
abbrev named_by : Option (List ℕ) → List ℕ → ℕ → List ℕ → Cut
named_by s base n m = record { scope = s; base = base ++ take n m; after = drop n m }

none-by : (s : Option (List ℕ)) (base m : List ℕ) → named_by s base 0 m ≡ record { scope = s; base = base; after = m }
none-by s base m = ap (λ l. record { scope = s; base = l; after = m }) (append-nil base)

chosen-by : (b c : Bool) (s : Option (List ℕ)) (base t a g m : List ℕ)
    → (c ≡ true → starts_with nat_eq g (codes ">") ≡ true)
    → choose_cut (b && c) (record { scope = s; base = base ++ (t ++ (a ++ take 1 g)); after = drop 1 g ++ m })
    (record { scope = s; base = base; after = t ++ (a ++ (g ++ m)) })
    ≡ named_by s base (count_if b (count_if c (length t + length a + 1))) (t ++ (a ++ (g ++ m)))
chosen-by false c s base t a g m h = sym (none-by s base (t ++ (a ++ (g ++ m))))
chosen-by true false s base t a g m h = sym (none-by s base (t ++ (a ++ (g ++ m))))
chosen-by true true s base t a g m h = rw (has-arguments t a g m (h refl), behind-arguments t a g m (h refl)) refl

no-count : (b : Bool) → count_if b 0 ≡ 0
no-count true = refl
no-count false = refl

named-none : (s : Option (List ℕ)) (base m : List ℕ) (n : ℕ) → n ≡ 0
    → record { scope = s; base = base; after = m } ≡ named_by s base n m
named-none s base m n e = sym (ap (λ k. named_by s base k m) e ∙ none-by s base m)

named-places : (s : Option (List ℕ)) (base : List ℕ) (m : Items)
    → named s base m ≡ named_by s base (arguments_size m) (text_in m)
named-places s base (text t (node template_args a (text g m))) =
    chosen-by (opens t) (starts_with nat_eq g (codes ">")) s base t (text_in a) g (text_in m) (λ e. e)
named-places s base none = named-none s base [] 0 refl
named-places s base (node k w m) = named-none s base (text_in w ++ text_in m) 0 refl
named-places s base (text t none) = named-none s base (t ++ []) (count_if (opens t) 0) (no-count (opens t))
named-places s base (text t (text u m)) = named-none s base (t ++ (u ++ text_in m)) (count_if (opens t) 0) (no-count
    (opens t))
named-places s base (text t (node template_args a none)) =
    named-none s base (t ++ (text_in a ++ [])) (count_if (opens t) 0) (no-count (opens t))
named-places s base (text t (node template_args a (node k w m))) =
    named-none s base (t ++ (text_in a ++ (text_in w ++ text_in m))) (count_if (opens t) 0) (no-count (opens t))
named-places s base (text t (node k w m)) =
    named-none s base (t ++ (text_in w ++ text_in m)) (count_if (opens t) 0) (no-count (opens t))

plain-places : (u m : List ℕ) (n : ℕ)
    → parts_at (record { scope = None; end = length u + n }) (u ++ m) ≡ named_by None u n m
plain-places u m n = rw (take-append-add u m n, drop-append-add u m n) refl

pub plain-cut : (i u m : Items) → node_first unqualified_name i ≡ Some (u, m)
    → parts_at (record { scope = None; end = length (text_in u) + arguments_size m }) (text_in i) ≡ cut i
plain-cut (node unqualified_name p q) u m e =
    let h = scope-parts p q u m e in
    ap (λ z. parts_at (record { scope = None; end = length (text_in z) + arguments_size m }) (text_in p ++ text_in q))
    (sym h.0)
    ∙ ap (λ z. parts_at (record { scope = None; end = length (text_in p) + arguments_size z }) (text_in p ++ text_in q))
    (sym h.1)
    ∙ plain-places (text_in p) (text_in q) (arguments_size q)
    ∙ sym (named-places None (text_in p) q)
plain-cut other u m e = absurd cc

abbrev std : List ℕ
std = codes "std"

std-places : (u m : List ℕ) (n : ℕ)
    → parts_at (record { scope = Some 3; end = 5 + length u + n }) (codes "std::" ++ (u ++ m)) ≡ named_by (Some std)
    u n m
std-places u m n =
    let more : 5 + length u + n ≡ 5 + (length u + n) = omega arith in
    let front = take-append-add (codes "std::") (u ++ m) (length u + n)
    ∙ ap (λ l. codes "std::" ++ l) (take-append-add u m n)
    in
    let back = drop-append-add (codes "std::") (u ++ m) (length u + n) ∙ drop-append-add u m n in
    rw (more, front, back) refl

pub std-cut : (t : List ℕ) (i u m : Items) → bytes_eq t (codes "std::") ≡ true
    → node_first unqualified_name i ≡ Some (u, m)
    → parts_at (record { scope = Some 3; end = 5 + length (text_in u) + arguments_size m }) (t ++ text_in i)
    ≡ cut (text t i)
std-cut t (node unqualified_name p q) u m e f =
    let h = scope-parts p q u m f in
    let t-is = is-text t (codes "std::") e in
    ap (λ z. parts_at (record { scope = Some 3; end = 5 + length (text_in z) + arguments_size m })
    (t ++ (text_in p ++ text_in q))) (sym h.0)
    ∙ ap (λ z. parts_at (record { scope = Some 3; end = 5 + length (text_in p) + arguments_size z })
    (t ++ (text_in p ++ text_in q))) (sym h.1)
    ∙ ap (λ z. parts_at (record { scope = Some 3; end = 5 + length (text_in p) + arguments_size q })
    (z ++ (text_in p ++ text_in q))) t-is
    ∙ std-places (text_in p) (text_in q) (arguments_size q)
    ∙ sym (named-places (Some std) (text_in p) q)
    ∙ sym (chosen-so (bytes_eq t (codes "std::")) _ _ e)
  where
    chosen-so : (b : Bool) (x y : Cut) → b ≡ true → choose_cut b x y ≡ x
    chosen-so true x y e = refl
    chosen-so false x y e = absurd cc
std-cut t other u m e f = absurd cc

-- ---- where the text may be cut
char-first : (t : List ℕ) (ms : List Mark) → begin_chars false t ms ≡ true → sizes ms ≡ length t
    → begins_char true t ≡ true
unfolding begin_chars sizes
char-first [] ms c s = refl
char-first (b ∷ bs) [] c s = absurd (omega arith)
char-first (b ∷ bs) (mark.Piece zero ∷ ms) c s = absurd cc
char-first (b ∷ bs) (mark.Piece (suc n) ∷ ms) c s = first-part (begins_char true (b ∷ bs)) _ c
  where
    first-part : (x y : Bool) → (x && y) ≡ true → x ≡ true
    first-part true y e = refl
    first-part false y e = e
char-first (b ∷ bs) (mark.Begins k ∷ ms) c s = char-first (b ∷ bs) ms c s
char-first (b ∷ bs) (mark.Ends ∷ ms) c s = char-first (b ∷ bs) ms c s

high-first : (b : ℕ) (bs : List ℕ) → begins_char true (b ∷ bs) ≡ true → 128 ≤ b → 192 ≤ b
high-first b bs e h = from (nat_lt b 128) (nat_le 192 b) e
    (λ x. let low : b < 128 = search (rules, tests) in absurd (omega arith)) (λ x. search (rules, tests))
  where
    from : {A : Type 0} (x y : Bool) → (x || y) ≡ true → (x ≡ true → A) → (y ≡ true → A) → A
    from true y e f g = f refl
    from false y e f g = g e

high-at-front : (t : List ℕ) → begins_char true t ≡ true → 128 ≤ get_or t 0 0 → 192 ≤ get_or t 0 0
high-at-front [] e h = absurd (omega arith)
high-at-front (b ∷ bs) e h = high-first b bs e h

pub boundary-behind : (f g : Front) (n : ℕ) → Behind f n g → n ≤ length f.text.now → IsCharBoundary f.text.now n
boundary-behind f g n h few =
    let t = f.text.now in
    let first = char-first g.text.now g.marks.now g.characters g.whole in
    let same : get_or g.text.now 0 0 ≡ get_or t n 0 =
    ap (λ l. get_or l 0 0) h.text_is ∙ get_or-drop n t 0 0 ∙ (let z : n + 0 ≡ n = omega arith in ap (λ k. get_or t k
    0) z)
    in (
      few,
      λ inside high. subst (λ x. 192 ≤ x) same (high-at-front g.text.now first (subst (λ x. 128 ≤ x) (sym same)
          high)),
    )

boundary-after : (t : List ℕ) (n : ℕ) → IsUtf8 t → 0 < n → n ≤ length t → get_or t (n - 1) 0 ≡ 62 → IsCharBoundary t n
boundary-after t n u some few e =
    let more : n - 1 + 1 ≡ n = omega arith in
    let low : get_or t (n - 1) 0 < 128 = rw e (omega arith) in
    subst (λ k. IsCharBoundary t k) more (IsCharBoundary-after_ascii t (n - 1) u (omega arith) low)

-- behind a name and its arguments
boundary-named : (f g : Front) (n k : ℕ) → IsUtf8 f.text.now → Behind f n g → n ≤ length f.text.now
    → k ≤ length g.text.now → (0 < k → get_or g.text.now (k - 1) 0 ≡ 62) → IsCharBoundary f.text.now (n + k)
boundary-named f g n zero u h few l e =
    let same : n ≡ n + zero = omega arith in
    subst (λ j. IsCharBoundary f.text.now j) same (boundary-behind f g n h few)
boundary-named f g n (suc k) u h few l e =
    let t = f.text.now in
    let size : length g.text.now ≡ length t - n = ap length h.text_is ∙ (grind (arith, common_steps)) in
    let at : n + (suc k - 1) ≡ n + suc k - 1 = omega arith in
    boundary-after t (n + suc k) u (omega arith) (omega arith)
    (ap (λ j. get_or t j 0) (sym at) ∙ sym (get_or-drop n t (suc k - 1) 0)
    ∙ ap (λ l. get_or l (suc k - 1) 0) (sym h.text_is) ∙ e (omega arith))

-- around `::`
colons-at : (t x y : List ℕ) (n : ℕ) → n ≤ length t → take n t ++ (colons ++ x) ++ y ≡ t
    → (get_or t n 0 ≡ 58) × (get_or t (n + 1) 0 ≡ 58)
colons-at t x y n few e =
    let size : length (take n t) ≡ n = size-of-front n t few in
    let tail : drop n t ≡ (colons ++ x) ++ y =
    ap (drop n) (sym e) ∙ ap (λ k. drop k (take n t ++ (colons ++ x) ++ y)) (sym size)
    ∙ ap (drop (length (take n t))) (append_assoc (take n t) (colons ++ x) y)
    ∙ drop-append_seam (take n t) ((colons ++ x) ++ y) in
    let zeros : n + 0 ≡ n = omega arith in (
      ap (λ k. get_or t k 0) (sym zeros) ∙ sym (get_or-drop n t 0 0) ∙ ap (λ l. get_or l 0 0) tail,
      sym (get_or-drop n t 1 0) ∙ ap (λ l. get_or l 1 0) tail,
    )

pub cuts-at-scope : (t : List ℕ) (i : Items) (o : Option ℕ) (n : ℕ) → IsUtf8 t → text_in i ≡ t
    → parts_at (record { scope = o; end = n }) t ≡ cut i → base_from o ≤ n → n ≤ length t → MayCutAt o t
cuts-at-scope t i None n u e p h l = tt
cuts-at-scope t i (Some k) n u e p h l =
    let few : k ≤ length t = omega arith in
    let join = cut-joins i in
    let all : take k t ++ (colons ++ drop (k + 2) (take n t)) ++ drop n t ≡ t =
    ap (λ c. in_scope c.scope c.base ++ c.after) p ∙ join ∙ e in
    let at = colons-at t (drop (k + 2) (take n t)) (drop n t) k few all in
    let low : get_or t k 0 < 128 = rw at.0 (omega arith) in
    let low' : get_or t (k + 1) 0 < 128 = rw at.1 (omega arith) in
    let two : k + 1 + 1 ≡ k + 2 = omega arith in (
      IsCharBoundary-before_ascii t k (omega arith) low,
      subst (λ j. IsCharBoundary t j) two (IsCharBoundary-after_ascii t (k + 1) u (omega arith) low'),
    )

-- ---- the answers
pub divides-nested : (f g : Front) (n : ℕ) (o : Option ℕ) → IsUtf8 f.text.now → text_in (here f) ≡ f.text.now
    → NodeIs nested_name f n g → o ≡ scope_in_first (node_first nested_name (here f)) → DividesAt f (o, n)
divides-nested f g n o u e h s =
    let t = f.text.now in
    let size : length (text_in h.node) ≡ n = ap length h.text ∙ size-of-front n t h.within in
    let scope : o ≡ scope_in h.node = s ∙ ap scope_in_first h.is in
    let parts : parts_at (record { scope = o; end = n }) t ≡ cut (here f) =
    ap (λ k. parts_at (record { scope = o; end = k }) t) (sym size)
    ∙ ap (parts_at (record { scope = o; end = length (text_in h.node) })) (sym e)
    ∙ nested-cut (here f) h.node (here g) o h.is scope in
    let order = from-within o (scope_in h.node) (text_in h.node) scope (scope-within h.node) in
    let order' : base_from o ≤ n = omega arith in
    record {
      parts = parts;
      scope = cuts-at-scope t (here f) o n u e parts order' h.within;
      order = order';
      end = boundary-behind f g n h.behind h.within;
    }
  where
    within-text : (p : Option ℕ) (l : List ℕ) → IsWithinText p l → base_from p ≤ length l
    within-text None l h = omega arith
    within-text (Some k) l h = h

    from-within : (p q : Option ℕ) (l : List ℕ) → p ≡ q → IsWithinText q l → base_from p ≤ length l
    from-within p q l e h = subst (λ x. base_from x ≤ length l) (sym e) (within-text q l h)

pub divides-name : (f g : Front) (n k : ℕ) → IsUtf8 f.text.now → text_in (here f) ≡ f.text.now
    → NodeIs unqualified_name f n g → k ≡ arguments_size (here g) → k ≤ length g.text.now
    → (0 < k → get_or g.text.now (k - 1) 0 ≡ 62) → DividesAt f (None, n + k)
divides-name f g n k u e h a l c =
    let t = f.text.now in
    let size : length (text_in h.node) ≡ n = ap length h.text ∙ size-of-front n t h.within in
    record {
      parts =
          ap (λ j. parts_at (record { scope = None; end = j + k }) t) (sym size)
          ∙ ap (λ j. parts_at (record { scope = None; end = length (text_in h.node) + j }) t) a
          ∙ ap (parts_at (record { scope = None; end = length (text_in h.node) + arguments_size (here g) })) (sym e)
          ∙ plain-cut (here f) h.node (here g) h.is;
      scope = tt;
      order = omega arith;
      end = boundary-named f g n k u h.behind h.within l c;
    }

pub divides-std : (f g h : Front) (n m k : ℕ) → IsUtf8 f.text.now → text_in (here f) ≡ f.text.now → TextAt f n g
    → bytes_eq (take n f.text.now) (codes "std::") ≡ true → NodeIs unqualified_name g m h
    → k ≡ arguments_size (here h) → k ≤ length h.text.now → (0 < k → get_or h.text.now (k - 1) 0 ≡ 62)
    → DividesAt f (Some (n - 2), n + m + k)
divides-std f g h n m k u e x s y a l c =
    let t = f.text.now in
    let five : n ≡ 5 = sym (size-of-front n t x.within) ∙ ap length (is-text (take n t) (codes "std::") s) in
    let three : n - 2 ≡ 3 = ap (λ j. j - 2) five in
    let size : length (text_in y.node) ≡ m = ap length y.text ∙ size-of-front m g.text.now y.within in
    let front : here f ≡ text (take n t) (here g) = x.items ∙ some-text (take n t) (here g) s in
    let whole : t ≡ take n t ++ text_in (here g) = sym e ∙ ap text_in front in
    let rest : length g.text.now ≡ length t - n = ap length x.behind.text_is ∙ (grind (arith, common_steps)) in
    let fits : n + m ≤ length t = (let i = x.within in let j = y.within in omega arith) in
    let parts : parts_at (record { scope = Some (n - 2); end = n + m + k }) t ≡ cut (here f) =
    ap (λ j. parts_at (record { scope = Some j; end = n + m + k }) t) three
    ∙ ap (λ j. parts_at (record { scope = Some 3; end = j + m + k }) t) five
    ∙ ap (λ j. parts_at (record { scope = Some 3; end = 5 + j + k }) t) (sym size)
    ∙ ap (λ j. parts_at (record { scope = Some 3; end = 5 + length (text_in y.node) + j }) t) a
    ∙ ap (parts_at (record { scope = Some 3; end = 5 + length (text_in y.node) + arguments_size (here h) })) whole
    ∙ std-cut (take n t) (here g) y.node (here h) s y.is ∙ ap cut (sym front) in
    let order : base_from (Some (n - 2)) ≤ n + m + k = omega arith in
    let both = behind-both t f.marks.now n g.text.now g.marks.now m h.text.now h.marks.now x.behind y.behind in
    let last = boundary-named f h (n + m) k u both fits l c in
    record {
      parts = parts;
      scope = cuts-at-scope t (here f) (Some (n - 2)) (n + m + k) u e parts order last.0;
      order = order;
      end = last;
    }
  where
    some-text : (bs : List ℕ) (i : Items) → bytes_eq bs (codes "std::") ≡ true → with_text bs i ≡ text bs i
    some-text [] i e = absurd cc
    some-text (b ∷ bs) i e = refl

-- whether a name has parts
pub divides-if : (has : Bool) (f : Front) (x : Option ℕ × ℕ) → has ≡ true → DividesAt f x → DividesIf has f x
divides-if true f x e h = record { parts = h.parts; scope = h.scope; order = h.order; end = h.end }
divides-if false f x e h = absurd cc

pub divides-not : (has : Bool) (f : Front) → has ≡ false → text_in (here f) ≡ f.text.now
    → DividesIf has f (None, length f.text.now)
divides-not true f e t = absurd cc
divides-not false f e t =
    let front : take (length f.text.now) f.text.now ≡ f.text.now = take-length f.text.now in
    let back : drop (length f.text.now) f.text.now ≡ [] = grind (arith, common_steps) in record {
      parts = rw (front, back, t) refl;
      scope = tt;
      order = omega arith;
      end = IsCharBoundary-end f.text.now;
    }

pub scope-ends : (o : Option ℕ) (t : List ℕ) → MayCutAt o t → ForSome o (λ n. IsCharBoundary t n)
scope-ends None t h = λ v e. absurd cc
scope-ends (Some k) t h = λ v e. let same : k ≡ v = cc in subst (λ j. IsCharBoundary t j) same h.0

pub base-begins : (o : Option ℕ) (t : List ℕ) → MayCutAt o t → ForSome o (λ n. IsCharBoundary t (n + 2))
base-begins None t h = λ v e. absurd cc
base-begins (Some k) t h = λ v e. let same : k ≡ v = cc in subst (λ j. IsCharBoundary t (j + 2)) same h.1

-- ---- what was heard
pub record HeardWhole (t : List ℕ) (ms : List Mark) : Type 0 where
  pub whole : sizes ms ≡ length t
  pub all_end : all_end ms ≡ true
  pub characters : begin_chars false t ms ≡ true
  pub text : text_in (items_of t ms) ≡ t

whole-of : (lost : Bool) (t : List ℕ) (ms : List Mark) → lost ≡ false → IsWhole (told_calls lost t ms)
    → AreClosed (events_of (calls t ms)) × HaveText (calls t ms)
whole-of false t ms e h = h
whole-of true t ms e h = absurd cc

heard-whole : (lost : Bool) (t : List ℕ) (ms : List Mark) → lost ≡ false → IsWhole (told_calls lost t ms)
    → sizes ms ≡ length t → begin_chars true t ms ≡ true → HeardWhole t ms
heard-whole lost t ms e h s c =
    let w = whole-of lost t ms e h in
    let closes = sym (opens-as t ms (Some zero)) ∙ w.0 zero in
    record {
      whole = s;
      all_end = ap is_some (ended-open ms zero closes);
      characters = chars-full t ms w.1 c;
      text = keeps (events_of (calls t ms)) w.0 ∙ calls-text t ms ∙ ap (λ k. take k t) s ∙ take-length t;
    }

pub heard-as : (lost : Bool) (t t' : List ℕ) (ms ms' : List Mark) → t' ≡ t → ms' ≡ ms → lost ≡ false
    → IsWhole (told_calls lost t ms) → sizes ms ≡ length t → begin_chars true t ms ≡ true → HeardWhole t' ms'
heard-as lost t t' ms ms' a b e h s c =
    subst (λ x. HeardWhole x ms') (sym a) (subst (HeardWhole t) (sym b) (heard-whole lost t ms e h s c))

pub cut-of : (lost has : Bool) (t t' : List ℕ) (ms ms' : List Mark) (d : Divided) → t' ≡ t → ms' ≡ ms → lost ≡ false
    → string_bytes d.text ≡ t
    → parts_at (record { scope = d.scope; end = d.end }) t' ≡ cut_if has (items_of t' ms')
    → IsCutOf has (told_calls lost t ms) (Some d)
cut-of false has t t' ms ms' d a b e s h =
    ap (parts_at (record { scope = d.scope; end = d.end })) (s ∙ sym a) ∙ h
    ∙ ap (λ x. cut_if has (items_of x ms')) a ∙ ap (λ x. cut_if has (items_of t x)) b
cut-of true has t t' ms ms' d a b e s h = absurd cc
