-- In two worlds that look alike inner items, parameters and arrays are alike.
use Rattle.std.specs.Prelude.{◌≡◌, ℕ, zero, suc, Bool, true, false, ◌||◌, List, [], ◌∷◌, length}
use Rattle.std.specs.Prelude.{Option, Some, None}
use Rattle.std.proofs.Common.{refl, ap, ◌∙◌, subst}
use Rattle.demangle_core.specs.Core.{Tag}
use Rattle.demangle_core.specs.Lookups.{as_prefix}
use Rattle.demangle_printing.specs.World.{World}
use Rattle.demangle_printing.specs.World.{find, listed, see}
use Rattle.demangle_printing.specs.State.{Held, is_byte}
use Rattle.demangle_printing.specs.Scope.{Scope}
use Rattle.demangle_printing.specs.Act.{Act, done, space}
use Rattle.demangle_printing.specs.Rules.{quoted}
use Rattle.demangle_printing.specs.Rules.{tag, of_handle}
use Rattle.demangle_printing.specs.Rules.{args_of, parameters_with}
use Rattle.demangle_printing.specs.Rules.{inside_node, inside_of, inner_of, turn_from, turns, emptied, is_rvalue}
use Rattle.demangle_printing.specs.Rules.{is_lvalue, pop_if, rvalue_from, rvalues, is_lvalue_top, unless, joined}
use Rattle.demangle_printing.specs.Parameters.{Wanted, or_spaced, wants, wanted, space_unless, opening, closing}
use Rattle.demangle_printing.specs.Parameters.{any_set, is_kept_node, is_kept, is_void, explicit_object}
use Rattle.demangle_printing.specs.Parameters.{parameters_end, parameters_in, parameters_act}
use Rattle.demangle_printing.specs.Parameters as want
use Rattle.demangle_printing.specs.Arrays.{Turn, qualified_turn, is_array, is_array_tree, turn_node, before_bounds}
use Rattle.demangle_printing.specs.Arrays.{array_turn, array_from, array_turns, around_array}
use Rattle.demangle_printing.specs.Arrays as turn
use Rattle.demangle_printing.proofs.Alike.{OptionR, ListR, ScopeR, HeldR, JobR, ActR}
use Rattle.demangle_printing.proofs.Alike.{length_alike}
use Rattle.demangle_printing.proofs.AlikeParts.{Worlds}
use Rattle.demangle_printing.proofs.AlikeParts.{find_alike, see_alike, listed_alike, drop_list, tag_alike}
use Rattle.demangle_printing.proofs.AlikeParts.{words_seen, any_alike}
use Rattle.demangle_printing.proofs.AlikeParts.{handle_alike}
use Rattle.demangle_printing.proofs.AlikeParts.{list_alike}
use Rattle.demangle_printing.proofs.AlikeParts.{args_alike}

module _ {X Y : Type 0} (v : World X) (w : World Y) (R : X → Y → Type 0) (W : Worlds v w R) where
  -- ---- inner items
  pub with_alike : (a : Option X) (b : Option Y) (xs : List X) (ys : List Y) (sc : Scope X) (sd : Scope Y) →
      OptionR R a b → ListR R xs ys → ScopeR R sc sd →
      JobR R (parameters_with v a xs sc).0 (parameters_with w b ys sd).0
      × ScopeR R (parameters_with v a xs sc).1 (parameters_with w b ys sd).1
  with_alike None None xs ys sc sd p q s = (q, s)
  with_alike (Some a) (Some b) xs ys sc sd p q s = ((drop_list v w R W) 1 xs ys q, (p, s))
  with_alike None (Some b) xs ys sc sd p q s = absurd p
  with_alike (Some a) None xs ys sc sd p q s = absurd p

  pub inside_node_alike : (t : Tag) (x : X) (y : Y) (sc : Scope X) (sd : Scope Y) → R x y → ScopeR R sc sd →
      JobR R (inside_node v x sc t).0 (inside_node w y sd t).0
      × ScopeR R (inside_node v x sc t).1 (inside_node w y sd t).1
  inside_node_alike Tag.EncodingFunction x y sc sd p s =
      with_alike (args_of v as_prefix (find v (Some x) (0 ∷ []))) (args_of w as_prefix (find w (Some y) (0 ∷ [])))
      (listed v (find v (Some x) (1 ∷ 0 ∷ []))) (listed w (find w (Some y) (1 ∷ 0 ∷ []))) sc sd
      ((args_alike v w R W) as_prefix (find v (Some x) (0 ∷ [])) (find w (Some y) (0 ∷ []))
      ((find_alike v w R W) (Some x) (Some y) (0 ∷ []) p))
      ((listed_alike v w R W) (find v (Some x) (1 ∷ 0 ∷ [])) (find w (Some y) (1 ∷ 0 ∷ []))
      ((find_alike v w R W) (Some x) (Some y) (1 ∷ 0 ∷ []) p)) s
  inside_node_alike _ x y sc sd p s = (p, s)

  pub inside_alike : (x : X) (y : Y) (sc : Scope X) (sd : Scope Y) → R x y → ScopeR R sc sd →
      JobR R (inside_of v sc x).0 (inside_of w sd y).0 × ScopeR R (inside_of v sc x).1 (inside_of w sd y).1
  inside_alike x y sc sd p s =
      subst (λ z. JobR R (inside_node v x sc (tag v x)).0 (inside_node w y sd z).0
      × ScopeR R (inside_node v x sc (tag v x)).1 (inside_node w y sd z).1) ((tag_alike v w R W) x y p)
      (inside_node_alike (tag v x) x y sc sd p s)

  pub inner_alike : (x : X) (y : Y) (sc : Scope X) (sd : Scope Y) (k : Act X) (l : Act Y) → R x y → ScopeR R sc sd →
      ActR R k l → ActR R (inner_of v x sc k) (inner_of w y sd l)
  inner_alike x y sc sd k l p s q = let i = inside_alike x y sc sd p s in (i.0, i.1, q)

  pub turn_alike : (hs : List (Held X)) (ks : List (Held Y)) (sc : Scope X) (sd : Scope Y) (k : Act X) (l : Act Y) →
      HeldR R hs ks → ScopeR R sc sd → ActR R k l → ActR R (turn_from v hs sc k) (turn_from w ks sd l)
  turn_alike [] [] sc sd k l p s q = tt
  turn_alike (h ∷ hs) (i ∷ is) sc sd k l p s q = inner_alike h.item i.item sc sd k l p.0 s q
  turn_alike [] (i ∷ is) sc sd k l p s q = absurd p
  turn_alike (h ∷ hs) [] sc sd k l p s q = absurd p

  pub turns_alike : (n : ℕ) (sc : Scope X) (sd : Scope Y) → ScopeR R sc sd → ActR R (turns v n sc) (turns w n sd)
  turns_alike zero sc sd s = tt
  turns_alike (suc n) sc sd s = (
    λ a b r. turn_alike a.inner b.inner sc sd (turns v n sc) (turns w n sd) r.inner s
        (turns_alike n sc sd s),
    tt,
  )

  pub emptied_alike : (sc : Scope X) (sd : Scope Y) (k : Act X) (l : Act Y) → ScopeR R sc sd → ActR R k l →
      ActR R (emptied v sc k) (emptied w sd l)
  emptied_alike sc sd k l s q = (
    λ a b r. subst (λ z. ActR R (turns v (length a.inner) sc) (turns w z sd))
        (length_alike R a.inner b.inner r.inner) (turns_alike (length a.inner) sc sd s),
    q,
  )

  pub pop_alike : (b : Bool) (k : Act X) (l : Act Y) → ActR R k l → ActR R (pop_if v b k) (pop_if w b l)
  pop_alike true k l q = q
  pop_alike false k l q = tt

  pub rvalue_alike : (hs : List (Held X)) (ks : List (Held Y)) (k : Act X) (l : Act Y) → HeldR R hs ks → ActR R k l →
      ActR R (rvalue_from v hs k) (rvalue_from w ks l)
  rvalue_alike [] [] k l p q = tt
  rvalue_alike (h ∷ hs) (i ∷ is) k l p q =
      subst (λ z. ActR R (pop_if v (is_rvalue v (tag v h.item)) k) (pop_if w (is_rvalue w z) l))
      ((tag_alike v w R W) h.item i.item p.0) (pop_alike (is_rvalue v (tag v h.item)) k l q)
  rvalue_alike [] (i ∷ is) k l p q = absurd p
  rvalue_alike (h ∷ hs) [] k l p q = absurd p

  pub rvalues_alike : (n : ℕ) → ActR R (rvalues v n) (rvalues w n)
  rvalues_alike zero = tt
  rvalues_alike (suc n) = (
    λ a b r. rvalue_alike a.inner b.inner (rvalues v n) (rvalues w n) r.inner
        (rvalues_alike n),
    tt,
  )

  pub lvalue_alike : (hs : List (Held X)) (ks : List (Held Y)) → HeldR R hs ks →
      is_lvalue_top v hs ≡ is_lvalue_top w ks
  lvalue_alike [] [] p = refl
  lvalue_alike (h ∷ hs) (i ∷ is) p = ap (is_lvalue v) ((tag_alike v w R W) h.item i.item p.0)
  lvalue_alike [] (i ∷ is) p = absurd p
  lvalue_alike (h ∷ hs) [] p = absurd p

  pub unless_alike : (b : Bool) (k : Act X) (l : Act Y) → ActR R k l → ActR R (unless v b k) (unless w b l)
  unless_alike true k l q = tt
  unless_alike false k l q = q

  pub joined_alike : (a k : Act X) (b l : Act Y) → ActR R a b → ActR R k l → ActR R (joined v a k) (joined w b l)
  joined_alike a k b l p q = (
    λ s t r. subst (λ z. ActR R (rvalues v (length s.inner)) (rvalues w z)) (length_alike R s.inner t.inner r.inner)
        (rvalues_alike (length s.inner)),
    (
      λ s t r. subst (λ z. ActR R (unless v (is_lvalue_top v s.inner) a) (unless w z b))
          (lvalue_alike s.inner t.inner r.inner) (unless_alike (is_lvalue_top v s.inner) a b p),
      q,
    ),
  )

  -- ---- parameters
  pub wanted_alike : (hs : List (Held X)) (ks : List (Held Y)) → HeldR R hs ks → wanted v hs ≡ wanted w ks
  wanted_alike [] [] p = refl
  wanted_alike (h ∷ hs) (i ∷ is) p = ap (λ z. or_spaced (wants z) (wanted v hs))
      ((tag_alike v w R W) h.item i.item p.0) ∙ ap (or_spaced (wants (tag w i.item))) (wanted_alike hs is p.2)
  wanted_alike [] (i ∷ is) p = absurd p
  wanted_alike (h ∷ hs) [] p = absurd p

  pub space_unless_alike : (b : Bool) → ActR R (space_unless v b) (space_unless w b)
  space_unless_alike true = tt
  space_unless_alike false = tt

  pub opening_alike : (p : Wanted) → ActR R (opening v p) (opening w p)
  opening_alike want.none = tt
  opening_alike want.some = (
    λ s t r. subst (λ z. ActR R (space_unless v (is_byte 40 s.last || is_byte 42 s.last))
        (space_unless w (is_byte 40 z || is_byte 42 z))) r.last
        (space_unless_alike (is_byte 40 s.last || is_byte 42 s.last)),
    (refl, tt),
  )
  opening_alike want.spaced = (refl, tt)

  pub closing_alike : (p : Wanted) → ActR R (closing v p) (closing w p)
  closing_alike want.none = tt
  closing_alike want.some = (refl, tt)
  closing_alike want.spaced = (refl, tt)

  pub kept_node_alike : (t : Tag) (x : X) (y : Y) → R x y → is_kept_node v x t ≡ is_kept_node w y t
  kept_node_alike Tag.FunctionType x y p =
      (any_alike v w R W) (listed v (find v (Some x) (0 ∷ []))) (listed w (find w (Some y) (0 ∷ [])))
      ((listed_alike v w R W) (find v (Some x) (0 ∷ [])) (find w (Some y) (0 ∷ []))
      ((find_alike v w R W) (Some x) (Some y) (0 ∷ []) p))
  kept_node_alike _ x y p = refl

  pub kept_alike : (x : X) (y : Y) → R x y → is_kept v x ≡ is_kept w y
  kept_alike x y p = kept_node_alike (tag v x) x y p ∙ ap (is_kept_node w y) ((tag_alike v w R W) x y p)

  pub void_alike : (xs : List X) (ys : List Y) → ListR R xs ys → is_void v xs ≡ is_void w ys
  void_alike [] [] p = refl
  void_alike (x ∷ []) (y ∷ []) p =
      (words_seen v w R W) 1 0 (see v (find v (Some x) (0 ∷ 0 ∷ []))) (see w (find w (Some y) (0 ∷ 0 ∷ [])))
      ((see_alike v w R W) (find v (Some x) (0 ∷ 0 ∷ [])) (find w (Some y) (0 ∷ 0 ∷ []))
      ((find_alike v w R W) (Some x) (Some y) (0 ∷ 0 ∷ []) p.0))
  void_alike (x ∷ a ∷ xs) (y ∷ b ∷ ys) p = refl
  void_alike (x ∷ []) (y ∷ b ∷ ys) p = absurd p.1
  void_alike (x ∷ a ∷ xs) (y ∷ []) p = absurd p.1
  void_alike [] (y ∷ ys) p = absurd p
  void_alike (x ∷ xs) [] p = absurd p

  pub object_alike : (b : Bool) → ActR R (explicit_object v b) (explicit_object w b)
  object_alike true = (refl, (refl, refl, tt))
  object_alike false = tt

  pub end_alike : (b : Bool) (xs : List X) (ys : List Y) (sc : Scope X) (sd : Scope Y) → ListR R xs ys →
      ScopeR R sc sd → ActR R (parameters_end v b xs sc) (parameters_end w b ys sd)
  end_alike true xs ys sc sd p s = (refl, tt)
  end_alike false xs ys sc sd p s = (
    λ a b r. subst (λ z. ActR R (explicit_object v a.flags.object) (explicit_object w z)) (ap (λ f. f.object) r.flags)
        (object_alike a.flags.object),
    ((list_alike v w R W) xs ys sc sd p s, (refl, emptied_alike sc sd done done s tt)),
  )

  pub in_alike : (p : Wanted) (xs : List X) (ys : List Y) (sc : Scope X) (sd : Scope Y) → ListR R xs ys →
      ScopeR R sc sd → ActR R (parameters_in v p xs sc) (parameters_in w p ys sd)
  in_alike p xs ys sc sd q s = (
    opening_alike p,
    (
      kept_alike,
      (λ x y r. inside_alike x y sc sd r s),
      (
        closing_alike p,
        (
          refl,
          subst (λ z. ActR R (parameters_end v (is_void v xs) xs sc) (parameters_end w z ys sd)) (void_alike xs ys q)
              (end_alike (is_void v xs) xs ys sc sd q s),
        ),
      ),
    ),
  )

  pub parameters_alike : (xs : List X) (ys : List Y) (sc : Scope X) (sd : Scope Y) → ListR R xs ys → ScopeR R sc sd →
      ActR R (parameters_act v xs sc) (parameters_act w ys sd)
  parameters_alike xs ys sc sd q s = (
    λ a b r. subst (λ z. ActR R (parameters_in v (wanted v a.inner) xs sc) (parameters_in w z ys sd))
        (wanted_alike a.inner b.inner r.inner) (in_alike (wanted v a.inner) xs ys sc sd q s),
    tt,
  )

  -- ---- arrays
  pub array_tree_alike : (x : Option X) (y : Option Y) → OptionR R x y → is_array_tree v x ≡ is_array_tree w y
  array_tree_alike None None p = refl
  array_tree_alike (Some x) (Some y) p = ap is_array ((tag_alike v w R W) x y p)
  array_tree_alike None (Some y) p = absurd p
  array_tree_alike (Some x) None p = absurd p

  pub turn_node_alike : (t : Tag) (x : X) (y : Y) → R x y → turn_node v x t ≡ turn_node w y t
  turn_node_alike Tag.TypeNodeQualified x y p =
      ap qualified_turn (array_tree_alike (of_handle v (find v (Some x) (1 ∷ [])))
      (of_handle w (find w (Some y) (1 ∷ [])))
      ((handle_alike v w R W) (find v (Some x) (1 ∷ [])) (find w (Some y) (1 ∷ []))
      ((find_alike v w R W) (Some x) (Some y) (1 ∷ []) p)))
  turn_node_alike _ x y p = refl

  pub turn_of_alike : (x : X) (y : Y) → R x y → turn_node v x (tag v x) ≡ turn_node w y (tag w y)
  turn_of_alike x y p = turn_node_alike (tag v x) x y p ∙ ap (turn_node w y) ((tag_alike v w R W) x y p)

  pub before_alike : (b : Bool) → ActR R (before_bounds v b) (before_bounds w b)
  before_alike true = tt
  before_alike false = tt

  pub array_turn_alike : (t : Turn) (x : X) (y : Y) (sc : Scope X) (sd : Scope Y) (b : Bool) (f : Bool → Act X)
      (g : Bool → Act Y) → R x y → ScopeR R sc sd → ((c : Bool) → ActR R (f c) (g c)) →
      ActR R (array_turn v t x sc b f) (array_turn w t y sd b g)
  array_turn_alike turn.elements x y sc sd b f g p s q = inner_alike x y sc sd (f b) (g b) p s (q b)
  array_turn_alike turn.array x y sc sd b f g p s q = inner_alike x y sc sd (f false) (g false) p s (q false)
  array_turn_alike turn.qualified x y sc sd b f g p s q =
      let e : ActR R (emptied v sc (quoted ")" (before_bounds v b))) (emptied w sd (quoted ")" (before_bounds w b))) =
      emptied_alike sc sd (quoted ")" (before_bounds v b)) (quoted ")" (before_bounds w b)) s
      (refl, before_alike b) in
      inner_alike x y sc sd (space (quoted "(" (emptied v sc (quoted ")" (before_bounds v b)))))
      (space (quoted "(" (emptied w sd (quoted ")" (before_bounds w b))))) p s (refl, e)
  array_turn_alike turn.other x y sc sd b f g p s q =
      let e : ActR R (emptied v sc (quoted ")" (before_bounds v b))) (emptied w sd (quoted ")" (before_bounds w b))) =
      emptied_alike sc sd (quoted ")" (before_bounds v b)) (quoted ")" (before_bounds w b)) s
      (refl, before_alike b) in (
        refl,
        inner_alike x y sc sd (emptied v sc (quoted ")" (before_bounds v b)))
            (emptied w sd (quoted ")" (before_bounds w b))) p s e,
      )

  pub array_from_alike : (hs : List (Held X)) (ks : List (Held Y)) (sc : Scope X) (sd : Scope Y) (b : Bool)
      (f : Bool → Act X) (g : Bool → Act Y) → HeldR R hs ks → ScopeR R sc sd → ((c : Bool) → ActR R (f c) (g c)) →
      ActR R (array_from v hs sc b f) (array_from w ks sd b g)
  array_from_alike [] [] sc sd b f g p s q = before_alike b
  array_from_alike (h ∷ hs) (i ∷ is) sc sd b f g p s q =
      subst (λ z. ActR R (array_turn v (turn_node v h.item (tag v h.item)) h.item sc b f)
      (array_turn w z i.item sd b g)) (turn_of_alike h.item i.item p.0)
      (array_turn_alike (turn_node v h.item (tag v h.item)) h.item i.item sc sd b f g p.0 s q)
  array_from_alike [] (i ∷ is) sc sd b f g p s q = absurd p
  array_from_alike (h ∷ hs) [] sc sd b f g p s q = absurd p

  pub array_turns_alike : (n : ℕ) (sc : Scope X) (sd : Scope Y) (b : Bool) → ScopeR R sc sd →
      ActR R (array_turns v n sc b) (array_turns w n sd b)
  array_turns_alike zero sc sd b s = before_alike b
  array_turns_alike (suc n) sc sd b s = (
    λ x y r.
        array_from_alike x.inner y.inner sc sd b (λ c. array_turns v n sc c) (λ c. array_turns w n sd c) r.inner s
        (λ c. array_turns_alike n sc sd c s),
    tt,
  )

  pub around_alike : (sc : Scope X) (sd : Scope Y) (k : Act X) (l : Act Y) → ScopeR R sc sd → ActR R k l →
      ActR R (around_array v sc k) (around_array w sd l)
  around_alike sc sd k l s q = (
    λ a b r. subst (λ z. ActR R (array_turns v (length a.inner) sc true) (array_turns w z sd true))
        (length_alike R a.inner b.inner r.inner) (array_turns_alike (length a.inner) sc sd true s),
    q,
  )
