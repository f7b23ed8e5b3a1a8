-- What the line of a type writes, by what stands left and right: builtin types, classes, const.
use Rattle.std.specs.Prelude.{◌≡◌, ℕ, Bool, true, false, not, ◌&&◌, ◌||◌, ◌==◌, List, [], ◌∷◌, ◌++◌}
use Rattle.std.specs.Prelude.{Option, Some, None, if◌then◌else◌, codes}
use Rattle.std.specs.Str.{is_utf8}
use Rattle.std.proofs.Common.{refl, ap, ◌∙◌, sym, subst, append-nil, append_assoc, true≢false}
use Rattle.std.proofs.lemmas.Bool.{eq-eqb}
use Rattle.demangle_core.specs.Core.{Tag}
use Rattle.demangle_vocab.specs.WordTable.{text_at}
use Rattle.demangle_vocab.specs.Builtins.{builtins}
use Rattle.demangle_printing.specs.World.{World, node, nth, parts_seen, find, see}
use Rattle.demangle_printing.specs.State.{Held, State, Answer, bind, last_of, is_byte, rest, popped}
use Rattle.demangle_printing.specs.State.{pushed, is_own, is_own_item}
use Rattle.demangle_printing.specs.Scope.{Scope}
use Rattle.demangle_printing.specs.Act.{line, inside, Act, done, space, call, block, ask, held, owned, act}
use Rattle.demangle_printing.specs.Rules.{tag_seen, as_optional, as_handle, of_part, line_for, line_of, inside_node}
use Rattle.demangle_printing.specs.Rules.{inner_of}
use Rattle.demangle_printing.specs.Rules as holding
use Rattle.demangle_printing.specs.Reader.{run, chosen, is_present}
use Rattle.demangle_printing.specs.Lines.{line_steps}
use Rattle.demangle_printing.specs.Print.{steps_for, body, entered, print}
use Rattle.demangle_printing.specs.Declarators.{Mark, pointer, lvalue, rvalue, Plain, builtin, class, const, to}
use Rattle.demangle_printing.specs.Declarators.{function, is_plain_end, class_text, is_function}
use Rattle.demangle_printing.specs.Declarators.{may_be_reference, is_type, mark_text}
use Rattle.demangle_printing.specs.Declarators.{mark_tag, Sides, behind_left, around_function, sides, is_open}
use Rattle.demangle_printing.specs.Declarators.{Is}
use Rattle.demangle_printing.proofs.Tidy.{left_true, right_true}
use Rattle.demangle_printing.proofs.Writes.{To, Writes, writes_then, writes_as, writes_done}
use Rattle.demangle_printing.proofs.Writes.{writes_job, writes_from, last_then}
use Rattle.demangle_printing.proofs.Bases.{part_itself, ending, builtin_adds, class_adds}
use Rattle.demangle_printing.proofs.Around.{Around, in_const, is_top, tops_reference, Starts}
use Rattle.demangle_printing.proofs.Around.{wrap, drain, IsFunction, Stack}
use Rattle.demangle_printing.proofs.Around.{Good, tag_of, part_of}
use Rattle.demangle_printing.proofs.Taken.{call_writes, ending_writes, const_writes}

-- ---- the last byte of what stands left
pub plain_last : (bs : List ℕ) → is_plain_end (last_of None bs) ≡ true → (l : Option ℕ) →
    (is_byte 32 (last_of l bs) ≡ false) × (last_of l bs ≡ last_of None bs)
plain_last [] e l = absurd (true≢false (sym e))
plain_last (b ∷ bs) e l = (no_space (last_of (Some b) bs) e, refl)
  where
    first_false : (a b : Bool) → (not a && b) ≡ true → a ≡ false
    first_false true b e = absurd (true≢false (sym e))
    first_false false b e = refl

    no_space : (o : Option ℕ) → is_plain_end o ≡ true → is_byte 32 o ≡ false
    no_space None e = refl
    no_space (Some c) e = first_false (32 == c) (not (40 == c) && not (42 == c)) e

pub mark_end : (m : Mark) (l k : Option ℕ) → (is_byte 32 (last_of l (mark_text m)) ≡ false)
    × (last_of l (mark_text m) ≡ last_of k (mark_text m))
mark_end pointer l k = (refl, refl)
mark_end lvalue l k = (refl, refl)
mark_end rvalue l k = (refl, refl)

abbrev pub EndsWell : List ℕ → Type 0
EndsWell bs = (l : Option ℕ) → (is_byte 32 (last_of l bs) ≡ false) × (last_of l bs ≡ last_of None bs)

pub behind_mark : (a : List ℕ) (m : Mark) → EndsWell (a ++ mark_text m)
behind_mark a m l =
    let e = mark_end m (last_of l a) (last_of None a) in (
      ap (is_byte 32) (last_then l a (mark_text m)) ∙ e.0,
      last_then l a (mark_text m)
          ∙ (e.1 ∙ sym (last_then None a (mark_text m))),
    )

pub marked_end : (m : Mark) (s : Sides) (b : Bool) →
    EndsWell ((if b then around_function (mark_text m) s else behind_left (mark_text m) s).left)
marked_end m s true =
    subst EndsWell (append_assoc s.result ((if s.result_of_function && is_open (last_of None s.result) then [] else
    codes " ") ++ codes "(") (mark_text m)
    ∙ ap (λ z. s.result ++ z) (append_assoc
    (if s.result_of_function && is_open (last_of None s.result) then [] else codes " ") (codes "(")
    (mark_text m)))
    (behind_mark (s.result ++ ((if s.result_of_function && is_open (last_of None s.result) then [] else codes " ") ++
    codes "(")) m)
marked_end m s false = behind_mark s.left m

-- of a type that is no function
pub ends : (p : Plain) → is_type p ≡ true → is_function p ≡ false → EndsWell ((sides p).left)
ends (builtin k) e f = plain_last (text_at builtins k) e
ends (class name) e f = plain_last (class_text name) (right_true (is_utf8 name) _ e)
ends (const p) e f = λ l. (
  ap (is_byte 32) (last_then l (sides p).left (codes " const")),
  last_then l (sides p).left
      (codes " const") ∙ sym (last_then None (sides p).left (codes " const")),
)
ends (to m p) e f = marked_end m (sides p) ((sides p).is_function)
ends (function r ps) e f = absurd (true≢false f)

-- ---- what the sides say
pub marked_function : (m : Mark) (s : Sides) (b : Bool) →
    (if b then around_function (mark_text m) s else behind_left (mark_text m) s).is_function ≡ false
marked_function m s true = refl
marked_function m s false = refl

pub sides_function : (p : Plain) → (sides p).is_function ≡ is_function p
sides_function (builtin k) = refl
sides_function (class name) = refl
sides_function (const p) = refl
sides_function (to m p) = marked_function m (sides p) ((sides p).is_function)
sides_function (function r ps) = refl

-- nothing stands right of a type that isn't of a function
pub marked_right : (m : Mark) (s : Sides) (b : Bool) → (s.of_function ≡ false → s.right ≡ []) →
    (if b then around_function (mark_text m) s else behind_left (mark_text m) s).of_function ≡ false →
    (if b then around_function (mark_text m) s else behind_left (mark_text m) s).right ≡ []
marked_right m s true p e = absurd (true≢false e)
marked_right m s false p e = p e

pub none_right : (p : Plain) → (sides p).of_function ≡ false → (sides p).right ≡ []
none_right (builtin k) e = refl
none_right (class name) e = refl
none_right (const p) e = none_right p e
none_right (to m p) e = marked_right m (sides p) ((sides p).is_function) (none_right p) e
none_right (function r ps) e = absurd (true≢false e)

-- ---- items that are pushed
own_level : (n : ℕ) → (n == n) ≡ true
own_level n = eq-eqb n n refl

module _ {X : Type 0} (w : World X) where
  -- where the item is on top, it is taken, and what of it stands behind is written
  pub held_own : (m : ℕ) (y : X) (s : State X) (b own : Act X) (u v : List ℕ) (J : List (Held X)) →
      Writes (pushed y s) u ((pushed y s).inner) (act (print w m) b (pushed y s)) →
      ((t : State X) → To s u s.inner t → Writes t v J (act (print w m) own t)) →
      Writes s (u ++ v) J (act (print w m) (held y b own done) s)
  unfolding act
  held_own m y s b own u v J p q =
      writes_done (print w m) s (u ++ v) J
      (bind (act (print w m) b (pushed y s)) (λ t. owned (print w m) (is_own t) (act (print w m) own) t))
      (writes_from s (pushed y s) (u ++ v) J _ refl refl refl refl
      (writes_then (pushed y s) u v ((pushed y s).inner) J (act (print w m) b (pushed y s))
      (λ t. owned (print w m) (is_own t) (act (print w m) own) t) p
      (λ t l. subst (λ z. Writes t v J (owned (print w m) z (act (print w m) own) t))
      (sym (ap (is_own_item t.level) l.inner ∙ (ap (λ z. s.level == z) l.level ∙ own_level s.level)))
      (writes_from t (popped t) v J _ refl refl refl refl
      (q (popped t) (record {
        inner = ap rest l.inner;
        kept = l.kept;
        last = l.last;
        level = l.level;
        object =
            l.object;
      }))))))

  -- where nothing is left, it was taken within
  pub held_taken : (m : ℕ) (y : X) (s : State X) (b own : Act X) (u : List ℕ) →
      Writes (pushed y s) u [] (act (print w m) b (pushed y s)) →
      Writes s u [] (act (print w m) (held y b own done) s)
  unfolding act
  held_taken m y s b own u p =
      writes_done (print w m) s u [] (bind (act (print w m) b (pushed y s))
      (λ t. owned (print w m) (is_own t) (act (print w m) own) t))
      (writes_from s (pushed y s) u [] _ refl refl refl refl
      (writes_as (pushed y s) (u ++ []) u [] [] _ (append-nil u) refl
      (writes_then (pushed y s) u [] [] [] (act (print w m) b (pushed y s))
      (λ t. owned (print w m) (is_own t) (act (print w m) own) t) p
      (λ t l. subst (λ z. Writes t [] [] (owned (print w m) z (act (print w m) own) t))
      (sym (ap (is_own_item t.level) l.inner))
      (refl, record { inner = l.inner; kept = refl; last = refl; level = refl; object = refl })))))

  -- ---- the lines
  pub own_inside : (y : X) (sc : Scope X) (t : Tag) (ps : List X) (b k : Act X) → w.look y ≡ node t ps →
      inside_node w y sc t ≡ (inside y, sc) →
      held y b (inner_of w y sc done) k ≡ held y b (call (inside y) sc done) k
  own_inside y sc t ps b k e f = ap (λ z. held y b (call z.0 z.1 done) k)
      (ap (inside_node w y sc) (tag_of w y t ps e) ∙ f)

  pub const_body : (y q h z : X) (sc : Scope X) → w.look y ≡ node Tag.TypeNodeQualified (q ∷ h ∷ []) →
      of_part w (Some h) ≡ Some z →
      body w (line y) sc ≡ held y (ending w z sc) (call (inside y) sc done) done
  unfolding body line_steps
  const_body y q h z sc e f =
      ap (λ v. run w (Some y) sc (steps_for v)) e
      ∙ (ap (λ v. held y (block (line_of w (nth 1 (parts_seen v)) sc) done) (inner_of w y sc done) done) e
      ∙ (ap (λ v. held y (block (line_for w v sc) done) (inner_of w y sc done) done) f
      ∙ own_inside y sc Tag.TypeNodeQualified _ _ done e refl))

  pub mark_body : (m : Mark) (y h z : X) (sc : Scope X) → w.look y ≡ node (mark_tag m) (h ∷ []) →
      of_part w (Some h) ≡ Some z → body w (line y) sc ≡ held y (ending w z sc) (call (inside y) sc done) done
  unfolding body line_steps
  mark_body pointer y h z sc e f =
      ap (λ v. run w (Some y) sc (steps_for v)) e
      ∙ (ap (λ v. held y (block (line_of w (nth 0 (parts_seen v)) sc) done) (inner_of w y sc done) done) e
      ∙ (ap (λ v. held y (block (line_for w v sc) done) (inner_of w y sc done) done) f
      ∙ own_inside y sc Tag.TypeNodePointerTo _ _ done e refl))
  mark_body lvalue y h z sc e f =
      ap (λ v. run w (Some y) sc (steps_for v)) e
      ∙ (ap (λ v. held y (block (line_of w (nth 0 (parts_seen v)) sc) done) (inner_of w y sc done) done) e
      ∙ (ap (λ v. held y (block (line_for w v sc) done) (inner_of w y sc done) done) f
      ∙ own_inside y sc Tag.TypeNodeLvalueRef _ _ done e refl))
  mark_body rvalue y h z sc e f =
      ap (λ v. run w (Some y) sc (steps_for v)) e
      ∙ (ap (λ v. held y (block (line_of w (nth 0 (parts_seen v)) sc) done) (inner_of w y sc done) done) e
      ∙ (ap (λ v. held y (block (line_for w v sc) done) (inner_of w y sc done) done) f
      ∙ own_inside y sc Tag.TypeNodeRvalueRef _ _ done e refl))

  pub bare_body : (b l h z : X) (hs : List X) (sc : Scope X) → w.look b ≡ node Tag.BareFunctionType (l ∷ []) →
      w.look l ≡ node Tag.Several (h ∷ hs) → of_part w (Some h) ≡ Some z →
      body w (line b) sc ≡ held b (ending w z sc) (space (call (inside b) sc done)) done
  unfolding body line_steps
  bare_body b l h z hs sc e f g =
      ap (λ v. run w (Some b) sc (steps_for v)) e
      ∙ (ap (λ v. held b (block (line_of w (find w (nth 0 (parts_seen v)) (0 ∷ [])) sc) done)
      (space (inner_of w b sc done)) done) e
      ∙ (ap (λ v. held b (block (line_of w (nth 0 (parts_seen v)) sc) done) (space (inner_of w b sc done)) done) f
      ∙ (ap (λ v. held b (block (line_for w v sc) done) (space (inner_of w b sc done)) done) g
      ∙ ap (λ v. held b (ending w z sc) (space (call v.0 v.1 done)) done)
      (ap (inside_node w b sc) (tag_of w b Tag.BareFunctionType _ e)))))

  pub specification : Bool → Act X → Act X
  specification b a = block (ask (λ s. chosen b a done) done) done

  pub function_body : (f b : X) (sc : Scope X) (i : IsFunction w f) → i.0 ≡ b → (t : Tag) (ps : List X) →
      w.look b ≡ node t ps → as_optional t ≡ holding.itself → as_handle t ≡ holding.itself →
      (a : Act X) × (body w (line f) sc ≡ held f (ending w b sc) (call (inside f) sc done) (specification false a))
  unfolding body line_steps specification
  function_body f b sc i j t ps e g o =
      let u = i.1 in (
        space (block (line_of w (Some u.1) sc) done),
        ap (λ v. run w (Some f) sc (steps_for v)) u.5
            ∙ (ap (λ v. held f (block (line_of w (nth 4 (parts_seen v)) sc) done) (inner_of w f sc done)
            (specification (is_present (tag_seen (see w (nth 1 (parts_seen v)))))
            (space (block (line_of w (nth 1 (parts_seen v)) sc) done)))) u.5
            ∙ (ap (λ v. held f (block (line_of w (Some i.0) sc) done) (inner_of w f sc done)
            (specification (is_present (tag_seen v)) (space (block (line_of w (Some u.1) sc) done)))) u.7
            ∙ (ap (λ v. held f (block (line_of w (Some v) sc) done) (inner_of w f sc done)
            (specification false (space (block (line_of w (Some u.1) sc) done)))) j
            ∙ (ap (λ v. held f (block (line_for w v sc) done) (inner_of w f sc done)
            (specification false (space (block (line_of w (Some u.1) sc) done)))) (part_itself w b t ps e g o)
            ∙ own_inside f sc Tag.FunctionType _ _ _ u.5 refl)))),
      )

  pub function_taken : (m : ℕ) (f : X) (s : State X) (b own a : Act X) (u : List ℕ) →
      Writes (pushed f s) u [] (act (print w m) b (pushed f s)) →
      Writes s u [] (act (print w m) (held f b own (specification false a)) s)
  unfolding act specification
  function_taken m f s b own a u p =
      writes_as s (u ++ []) u [] [] _ (append-nil u) refl
      (writes_then s u [] [] [] (bind (act (print w m) b (pushed f s))
      (λ t. owned (print w m) (is_own t) (act (print w m) own) t)) (act (print w m) (specification false a))
      (writes_from s (pushed f s) u [] _ refl refl refl refl
      (writes_as (pushed f s) (u ++ []) u [] [] _ (append-nil u) refl
      (writes_then (pushed f s) u [] [] [] (act (print w m) b (pushed f s))
      (λ t. owned (print w m) (is_own t) (act (print w m) own) t) p
      (λ t l. subst (λ z. Writes t [] [] (owned (print w m) z (act (print w m) own) t))
      (sym (ap (is_own_item t.level) l.inner))
      (refl, record { inner = l.inner; kept = refl; last = refl; level = refl; object = refl })))))
      (λ t l. (refl, record { inner = l.inner; kept = refl; last = refl; level = refl; object = refl })))

-- ---- texts
-- of a function within what waits
abbrev pub whole_text : Sides → Around → Option ℕ → List ℕ
whole_text s c l =
    if s.result_of_function then s.result ++ (wrap (is_top c) (last_of l s.result) (drain c (Some 40)) ++ s.right)
    else (s.result ++ codes " ") ++ (wrap (is_top c) (Some 32) (drain c (Some 40)) ++ s.right)

pub const_text : (a d r : List ℕ) (k : List ℕ) → a ++ ((k ++ d) ++ r) ≡ (a ++ k) ++ (d ++ r)
const_text a d r k = ap (λ z. a ++ z) (append_assoc k d r) ∙ sym (append_assoc a k (d ++ r))

pub base_text : (a v p r : List ℕ) → r ≡ [] → a ++ (codes " " ++ (v ++ p)) ≡ (a ++ codes " ") ++ (v ++ (p ++ r))
base_text a v p r e = sym (append_assoc a (codes " ") (v ++ p))
    ∙ ap (λ z. (a ++ codes " ") ++ (v ++ z)) (sym (append-nil p) ∙ ap (λ z. p ++ z) (sym e))

module _ {X : Type 0} (w : World X) where
  -- what the line of a type writes, by its sides
  pub record At (S : Sides) (b : Bool) (c : Around) (s : State X) (x : Answer X) : Type 0 where
    pub base : S.of_function ≡ false → Writes s S.left s.inner x
    pub func : S.of_function ≡ true → b ≡ false →
        Writes s (S.left ++ (drain c (last_of s.last S.left) ++ S.right)) [] x
    pub whole : b ≡ true → Writes s (whole_text S c s.last) [] x

  abbrev pub Fits : Plain → Around → Type 0
  Fits (to m p) c = (may_be_reference m || not (tops_reference c)) ≡ true
  Fits (function r ps) c = Starts c
  Fits _ c = Unit {0}

  abbrev pub Main : Plain → Type 0
  Main p = is_type p ≡ true → (x y : X) (sc : Scope X) (n : ℕ) (s : State X) (c : Around) → Is w x p →
      of_part w (Some x) ≡ Some y → Good w c → Fits p c → Stack w s.inner c → s.flags.object ≡ false →
      At (sides p) (is_function p) c s (print w n (line y) sc s)

  pub not_so : (b : Bool) → not b ≡ true → b ≡ false
  not_so true e = sym e
  not_so false e = refl

  pub or_else : X → Option X → X
  or_else d None = d
  or_else d (Some a) = a

  pub same_part : (x a b : X) → of_part w (Some x) ≡ Some a → of_part w (Some x) ≡ Some b → a ≡ b
  unfolding or_else
  same_part x a b e f = ap (or_else a) (sym e ∙ f)

  pub builtin_main : (k : ℕ) → Main (builtin k)
  builtin_main k e x y sc n s c i f g z st o =
      record {
        base = λ _. subst (λ v. Writes s (text_at builtins k) s.inner (print w n (line v) sc s))
            (same_part x i.1.0 y (part_of w x (builtin k) i).1 f) (builtin_adds w i.1.0 i.0 sc k i.1.2 i.2 n s);
        func = λ a. absurd (true≢false (sym a));
        whole = λ a. absurd (true≢false (sym a));
      }

  pub class_main : (name : List ℕ) → Main (class name)
  class_main name e x y sc n s c i f g z st o =
      record {
        base = λ _. subst (λ v. Writes s (class_text name) s.inner (print w n (line v) sc s))
            (same_part x i.0 y (part_of w x (class name) i).1 f)
            (class_adds w i.0 i.1 sc name i.3 i.4 (left_true (is_utf8 name) _ e) n s);
        func = λ a. absurd (true≢false (sym a));
        whole = λ a. absurd (true≢false (sym a));
      }

  -- ---- const
  pub fits_any : (p : Plain) (c : Around) → is_function p ≡ false →
      ((m : Mark) (q : Plain) → p ≡ to m q → (may_be_reference m || not (tops_reference c)) ≡ true) → Fits p c
  fits_any (builtin k) c e f = tt
  fits_any (class name) c e f = tt
  fits_any (const p) c e f = tt
  fits_any (to m p) c e f = f m p refl
  fits_any (function r ps) c e f = absurd (true≢false e)

  pub fits_const : (p : Plain) (c : Around) → is_function p ≡ false → Fits p (in_const c)
  fits_const p c e = fits_any p (in_const c) e (λ m q _. or_true (may_be_reference m))
    where
      or_true : (b : Bool) → (b || true) ≡ true
      or_true true = refl
      or_true false = refl

  pub const_main : (q : Plain) → Main q → Main (const q)
  const_main q main e x y sc n s c i f g z st o =
      let nf = not_so (is_function q) (left_true (not (is_function q)) _ e) in
      let tq = right_true (not (is_function q)) _ e in
      let u = part_of w i.2 q i.6 in
      let s5 : State X = pushed i.0 (entered w s) in
      let ih : (m : ℕ) → At (sides q) (is_function q) (in_const c) s5 (print w m (line u.0) sc s5) =
      λ m. main tq i.2 u.0 sc m s5 (in_const c) i.6 u.1 g (fits_const q c nf)
      (record { item = i.0; level = (entered w s).level }, s.inner, refl, (i.1, i.2, i.4, i.5), st) o in
      subst (λ v. At (sides (const q)) false c s (print w n (line v) sc s))
      (same_part x i.0 y (part_of w x (const q) i).1 f)
      (record {
        base = λ a.
            writes_job w (line i.0) sc s ((sides q).left ++ codes " const") s.inner
            (held i.0 (ending w u.0 sc) (call (inside i.0) sc done) done)
            (const_body w i.0 i.1 i.2 u.0 sc i.4 u.1)
            (λ m. held_own w m i.0 (entered w s) (ending w u.0 sc) (call (inside i.0) sc done) (sides q).left
            (codes " const") s.inner
            (ending_writes w m u.0 sc (sides q).left s5.inner s5 ((ih m).base a))
            (λ t l. call_writes w m (inside i.0) sc (codes " const") s.inner t
            (writes_as t (codes " const") (codes " const") t.inner s.inner _ refl l.inner
            (const_writes w i.0 (i.1, i.2, i.4, i.5) m sc t (ap (is_byte 32) l.last ∙ (ends q tq nf s.last).0)))))
            n;
        func = λ a b.
            writes_job w (line i.0) sc s _ [] (held i.0 (ending w u.0 sc) (call (inside i.0) sc done) done)
            (const_body w i.0 i.1 i.2 u.0 sc i.4 u.1)
            (λ m. held_taken w m i.0 (entered w s) (ending w u.0 sc) (call (inside i.0) sc done) _
            (ending_writes w m u.0 sc _ [] s5
            (writes_as s5 ((sides q).left ++ ((codes " const" ++ drain c (Some 116)) ++ (sides q).right))
            (((sides q).left ++ codes " const") ++
            (drain c (last_of s.last ((sides q).left ++ codes " const")) ++ (sides q).right)) [] [] _
            (const_text (sides q).left (drain c (Some 116)) (sides q).right (codes " const")
            ∙ ap (λ l. ((sides q).left ++ codes " const") ++ (drain c l ++ (sides q).right))
            (sym (last_then s.last (sides q).left (codes " const")))) refl ((ih m).func a nf)))) n;
        whole = λ a. absurd (true≢false (sym a));
      })
