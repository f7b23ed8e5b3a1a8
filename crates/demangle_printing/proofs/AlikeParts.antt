-- In two worlds that look alike the parts of trees, their lines and their scopes are alike.
use Rattle.std.specs.Prelude.{◌≡◌, ℕ, zero, suc, ◌||◌, List, [], ◌∷◌, drop}
use Rattle.std.specs.Prelude.{Option, Some, None, Result, Ok, Err}
use Rattle.std.proofs.Common.{refl, ap, ◌∙◌, sym, subst}
use Rattle.demangle_core.specs.Core.{Tag}
use Rattle.demangle_core.specs.Lookups.{Sort}
use Rattle.demangle_printing.specs.World.{World, Seen, nothing, node, bytes, number, flag, word, nth, parts}
use Rattle.demangle_printing.specs.World.{parts_seen, part_in, find, listed, see}
use Rattle.demangle_printing.specs.State.{Fault}
use Rattle.demangle_printing.specs.Scope.{Meant, leaf, arguments, Scope, with_leaf, with_args, in_member, leaf_in}
use Rattle.demangle_printing.specs.Scope.{scope_leaf}
use Rattle.demangle_printing.specs.Texts.{leaf_text, spelled_by, ordinal_of}
use Rattle.demangle_printing.specs.Rules.{quoted, Holding, of_holding, as_optional, as_handle, is_set, tag_seen}
use Rattle.demangle_printing.specs.Rules.{is_seen_word, tag, optional_seen, of_optional, handle_seen, of_handle}
use Rattle.demangle_printing.specs.Rules.{of_part, line_for, line_of, lines_after, lines_of, members_after}
use Rattle.demangle_printing.specs.Rules.{members_of, args_of, leaf_name_of, leaf_seen, leaf_act, parameters_with}
use Rattle.demangle_printing.specs.Rules.{inside_node, inside_of, inner_of, turn_from, turns, emptied, is_rvalue}
use Rattle.demangle_printing.specs.Rules.{is_lvalue, pop_if, rvalue_from, rvalues, is_lvalue_top, unless, joined}
use Rattle.demangle_printing.specs.Rules as holding
use Rattle.demangle_printing.specs.Parameters.{any_set}
use Rattle.demangle_printing.specs.Reader.{bytes_seen}
use Rattle.demangle_printing.specs.Reader.{need_leaf, found_leaf}
use Rattle.demangle_printing.proofs.Alike.{OptionR, ListR, SeenR, MeantR, ScopeR, ActR}

-- ---- a tree without its parts
pub bare : {Z : Type 0} → Seen Z → Seen (Unit {0})
bare nothing = nothing
bare (node t xs) = node t []
bare (bytes bs) = bytes bs
bare (number v) = number v
bare (flag b) = flag b
bare (word t k) = word t k

pub spelled_bare : {Z : Type 0} (a : Seen Z) → spelled_by a ≡ spelled_by (bare a)
unfolding bare
spelled_bare nothing = refl
spelled_bare _ = refl

pub ordinal_bare : {Z : Type 0} (m n : ℕ) (a : Seen Z) → ordinal_of m n a ≡ ordinal_of m n (bare a)
unfolding bare
ordinal_bare m n nothing = refl
ordinal_bare m n _ = refl

pub bytes_bare : {Z : Type 0} (a : Seen Z) → bytes_seen a ≡ bytes_seen (bare a)
unfolding bare
bytes_bare nothing = refl
bytes_bare _ = refl

pub set_bare : {Z : Type 0} (a : Seen Z) → is_set a ≡ is_set (bare a)
unfolding bare
set_bare nothing = refl
set_bare _ = refl

pub tag_bare : {Z : Type 0} (a : Seen Z) → tag_seen a ≡ tag_seen (bare a)
unfolding bare
tag_bare nothing = refl
tag_bare _ = refl

pub word_bare : {Z : Type 0} (t k : ℕ) (a : Seen Z) → is_seen_word t k a ≡ is_seen_word t k (bare a)
unfolding bare
word_bare t k nothing = refl
word_bare t k _ = refl

pub record Worlds {X Y : Type 0} (v : World X) (w : World Y) (R : X → Y → Type 0) : Type 0 where
  pub look : (x : X) (y : Y) → R x y → SeenR R (v.look x) (w.look y)
  pub leaf_name : (x : X) (y : Y) → R x y → OptionR R (v.leaf_name x) (w.leaf_name y)
  pub template_args : (s : Sort) (x : X) (y : Y) → R x y → OptionR R (v.template_args s x) (w.template_args s y)
  pub is_special : (x : X) (y : Y) → R x y → v.is_special x ≡ w.is_special y

module _ {X Y : Type 0} (v : World X) (w : World Y) (R : X → Y → Type 0) (W : Worlds v w R) where
  -- ---- parts
  pub bare_alike : (a : Seen X) (b : Seen Y) → SeenR R a b → bare a ≡ bare b
  unfolding bare
  bare_alike nothing nothing p = refl
  bare_alike (node t xs) (node u ys) p = ap (λ z. node z []) p.0
  bare_alike (bytes a) (bytes b) p = ap bytes p
  bare_alike (number a) (number b) p = ap number p
  bare_alike (flag a) (flag b) p = ap flag p
  bare_alike (word t k) (word u j) p = ap (λ z. word z k) p.0 ∙ ap (word u) p.1
  bare_alike _ _ p = absurd p

  pub parts_alike : (a : Seen X) (b : Seen Y) → SeenR R a b → ListR R (parts_seen a) (parts_seen b)
  parts_alike nothing nothing p = tt
  parts_alike (node t xs) (node u ys) p = p.2
  parts_alike (bytes a) (bytes b) p = tt
  parts_alike (number a) (number b) p = tt
  parts_alike (flag a) (flag b) p = tt
  parts_alike (word t k) (word u j) p = tt
  parts_alike _ _ p = absurd p

  pub nth_alike : (n : ℕ) (xs : List X) (ys : List Y) → ListR R xs ys → OptionR R (nth n xs) (nth n ys)
  nth_alike n [] [] p = tt
  nth_alike zero (x ∷ xs) (y ∷ ys) p = p.0
  nth_alike (suc n) (x ∷ xs) (y ∷ ys) p = nth_alike n xs ys p.1
  nth_alike n [] (y ∷ ys) p = absurd p
  nth_alike zero (x ∷ xs) [] p = absurd p
  nth_alike (suc n) (x ∷ xs) [] p = absurd p

  pub part_alike : (n : ℕ) (x : Option X) (y : Option Y) → OptionR R x y → OptionR R (part_in v n x) (part_in w n y)
  part_alike n None None p = tt
  part_alike n (Some x) (Some y) p = nth_alike n (parts v x) (parts w y)
      (parts_alike (v.look x) (w.look y) (W.look x y p))
  part_alike n None (Some y) p = absurd p
  part_alike n (Some x) None p = absurd p

  pub find_alike : (x : Option X) (y : Option Y) (path : List ℕ) → OptionR R x y →
      OptionR R (find v x path) (find w y path)
  find_alike x y [] p = p
  find_alike x y (n ∷ path) p = find_alike (part_in v n x) (part_in w n y) path (part_alike n x y p)

  pub see_alike : (x : Option X) (y : Option Y) → OptionR R x y → SeenR R (see v x) (see w y)
  see_alike None None p = tt
  see_alike (Some x) (Some y) p = W.look x y p
  see_alike None (Some y) p = absurd p
  see_alike (Some x) None p = absurd p

  pub listed_alike : (x : Option X) (y : Option Y) → OptionR R x y → ListR R (listed v x) (listed w y)
  listed_alike None None p = tt
  listed_alike (Some x) (Some y) p = parts_alike (v.look x) (w.look y) (W.look x y p)
  listed_alike None (Some y) p = absurd p
  listed_alike (Some x) None p = absurd p

  pub drop_list : (n : ℕ) (xs : List X) (ys : List Y) → ListR R xs ys → ListR R (drop n xs) (drop n ys)
  drop_list zero xs ys p = p
  drop_list (suc n) [] [] p = tt
  drop_list (suc n) (x ∷ xs) (y ∷ ys) p = drop_list n xs ys p.1
  drop_list (suc n) [] (y ∷ ys) p = absurd p
  drop_list (suc n) (x ∷ xs) [] p = absurd p

  pub tag_alike : (x : X) (y : Y) → R x y → tag v x ≡ tag w y
  tag_alike x y p = tag_bare (v.look x) ∙ (ap tag_seen (bare_alike (v.look x) (w.look y) (W.look x y p))
      ∙ sym (tag_bare (w.look y)))

  pub tags_seen : (a : Seen X) (b : Seen Y) → SeenR R a b → tag_seen a ≡ tag_seen b
  tags_seen a b p = tag_bare a ∙ (ap tag_seen (bare_alike a b p) ∙ sym (tag_bare b))

  pub sets_seen : (a : Seen X) (b : Seen Y) → SeenR R a b → is_set a ≡ is_set b
  sets_seen a b p = set_bare a ∙ (ap is_set (bare_alike a b p) ∙ sym (set_bare b))

  pub words_seen : (t k : ℕ) (a : Seen X) (b : Seen Y) → SeenR R a b → is_seen_word t k a ≡ is_seen_word t k b
  words_seen t k a b p = word_bare t k a ∙ (ap (is_seen_word t k) (bare_alike a b p) ∙ sym (word_bare t k b))

  pub bytes_alike : (a : Seen X) (b : Seen Y) → SeenR R a b → bytes_seen a ≡ bytes_seen b
  bytes_alike a b p = bytes_bare a ∙ (ap bytes_seen (bare_alike a b p) ∙ sym (bytes_bare b))

  pub any_alike : (xs : List X) (ys : List Y) → ListR R xs ys → any_set v xs ≡ any_set w ys
  any_alike [] [] p = refl
  any_alike (x ∷ xs) (y ∷ ys) p = ap (λ z. z || any_set v xs) (sets_seen (v.look x) (w.look y) (W.look x y p.0))
      ∙ ap (λ z. is_set (w.look y) || z) (any_alike xs ys p.1)
  any_alike [] (y ∷ ys) p = absurd p
  any_alike (x ∷ xs) [] p = absurd p

  -- ---- what stands for another tree
  pub holding_alike : (h : Holding) (x : X) (y : Y) (xs : List X) (ys : List Y) → R x y → ListR R xs ys
      → OptionR R (of_holding h x xs) (of_holding h y ys)
  holding_alike holding.itself x y xs ys p l = p
  holding_alike holding.its_part x y xs ys p l = nth_alike 0 xs ys l
  holding_alike holding.no_tree x y xs ys p l = tt

  pub optional_seen_alike : (x : X) (y : Y) (a : Seen X) (b : Seen Y) → R x y → SeenR R a b
      → OptionR R (optional_seen v x a) (optional_seen w y b)
  optional_seen_alike x y nothing nothing p l = p
  optional_seen_alike x y (node t xs) (node u ys) p l =
      subst (λ z. OptionR R (of_holding (as_optional t) x xs) (of_holding (as_optional z) y ys)) l.0
      (holding_alike (as_optional t) x y xs ys p l.2)
  optional_seen_alike x y (bytes a) (bytes b) p l = p
  optional_seen_alike x y (number a) (number b) p l = p
  optional_seen_alike x y (flag a) (flag b) p l = p
  optional_seen_alike x y (word t k) (word u j) p l = p
  optional_seen_alike x y _ _ p l = absurd l

  pub optional_alike : (x : Option X) (y : Option Y) → OptionR R x y → OptionR R (of_optional v x) (of_optional w y)
  optional_alike None None p = tt
  optional_alike (Some x) (Some y) p = optional_seen_alike x y (v.look x) (w.look y) p (W.look x y p)
  optional_alike None (Some y) p = absurd p
  optional_alike (Some x) None p = absurd p

  pub handle_seen_alike : (x : X) (y : Y) (a : Seen X) (b : Seen Y) → R x y → SeenR R a b
      → OptionR R (handle_seen v x a) (handle_seen w y b)
  handle_seen_alike x y nothing nothing p l = tt
  handle_seen_alike x y (node t xs) (node u ys) p l =
      subst (λ z. OptionR R (of_holding (as_handle t) x xs) (of_holding (as_handle z) y ys)) l.0
      (holding_alike (as_handle t) x y xs ys p l.2)
  handle_seen_alike x y (bytes a) (bytes b) p l = tt
  handle_seen_alike x y (number a) (number b) p l = tt
  handle_seen_alike x y (flag a) (flag b) p l = tt
  handle_seen_alike x y (word t k) (word u j) p l = p
  handle_seen_alike x y _ _ p l = absurd l

  pub handle_alike : (x : Option X) (y : Option Y) → OptionR R x y → OptionR R (of_handle v x) (of_handle w y)
  handle_alike None None p = tt
  handle_alike (Some x) (Some y) p = handle_seen_alike x y (v.look x) (w.look y) p (W.look x y p)
  handle_alike None (Some y) p = absurd p
  handle_alike (Some x) None p = absurd p

  pub printed_alike : (x : Option X) (y : Option Y) → OptionR R x y → OptionR R (of_part v x) (of_part w y)
  printed_alike x y p = handle_alike (of_optional v x) (of_optional w y) (optional_alike x y p)

  -- ---- lines and lists
  pub line_for_alike : (x : Option X) (y : Option Y) (sc : Scope X) (sd : Scope Y) → OptionR R x y → ScopeR R sc sd
      → ActR R (line_for v x sc) (line_for w y sd)
  line_for_alike None None sc sd p s = tt
  line_for_alike (Some x) (Some y) sc sd p s = (p, s, tt)
  line_for_alike None (Some y) sc sd p s = absurd p
  line_for_alike (Some x) None sc sd p s = absurd p

  pub line_alike : (x : Option X) (y : Option Y) (sc : Scope X) (sd : Scope Y) → OptionR R x y → ScopeR R sc sd
      → ActR R (line_of v x sc) (line_of w y sd)
  line_alike x y sc sd p s = line_for_alike (of_part v x) (of_part w y) sc sd (printed_alike x y p) s

  pub after_alike : (xs : List X) (ys : List Y) (sc : Scope X) (sd : Scope Y) → ListR R xs ys → ScopeR R sc sd
      → ActR R (lines_after v xs sc) (lines_after w ys sd)
  after_alike [] [] sc sd p s = tt
  after_alike (x ∷ xs) (y ∷ ys) sc sd p s =
      (refl, (line_alike (Some x) (Some y) sc sd p.0 s, after_alike xs ys sc sd p.1 s))
  after_alike [] (y ∷ ys) sc sd p s = absurd p
  after_alike (x ∷ xs) [] sc sd p s = absurd p

  pub list_alike : (xs : List X) (ys : List Y) (sc : Scope X) (sd : Scope Y) → ListR R xs ys → ScopeR R sc sd
      → ActR R (lines_of v xs sc) (lines_of w ys sd)
  list_alike [] [] sc sd p s = tt
  list_alike (x ∷ xs) (y ∷ ys) sc sd p s =
      (line_alike (Some x) (Some y) sc sd p.0 s, after_alike xs ys sc sd p.1 s)
  list_alike [] (y ∷ ys) sc sd p s = absurd p
  list_alike (x ∷ xs) [] sc sd p s = absurd p

  -- marks tell nothing where no template parameter is printed
  pub member_alike : (n i j : ℕ) (sc : Scope X) (sd : Scope Y) → ScopeR R sc sd →
      ScopeR R (in_member n i sc) (in_member n j sd)
  member_alike n i j [] [] p = tt
  member_alike n i j (e ∷ es) (f ∷ fs) p = p
  member_alike n i j [] (f ∷ fs) p = absurd p
  member_alike n i j (e ∷ es) [] p = absurd p

  pub members_after_alike : (n i j : ℕ) (xs : List X) (ys : List Y) (sc : Scope X) (sd : Scope Y) → ListR R xs ys →
      ScopeR R sc sd
      → ActR R (members_after v n i xs sc) (members_after w n j ys sd)
  members_after_alike n i j [] [] sc sd p s = tt
  members_after_alike n i j (x ∷ xs) (y ∷ ys) sc sd p s = (
    refl,
    (
      line_alike (Some x) (Some y) (in_member n i sc) (in_member n j sd) p.0 (member_alike n i j sc sd s),
      members_after_alike (suc n) i j xs ys sc sd p.1 s,
    ),
  )
  members_after_alike n i j [] (y ∷ ys) sc sd p s = absurd p
  members_after_alike n i j (x ∷ xs) [] sc sd p s = absurd p

  pub members_alike : (i j : ℕ) (xs : List X) (ys : List Y) (sc : Scope X) (sd : Scope Y) → ListR R xs ys →
      ScopeR R sc sd
      → ActR R (members_of v i xs sc) (members_of w j ys sd)
  members_alike i j [] [] sc sd p s = tt
  members_alike i j (x ∷ xs) (y ∷ ys) sc sd p s = (
    line_alike (Some x) (Some y) (in_member 0 i sc) (in_member 0 j sd) p.0 (member_alike 0 i j sc sd s),
    members_after_alike 1 i j xs ys sc sd p.1 s,
  )
  members_alike i j [] (y ∷ ys) sc sd p s = absurd p
  members_alike i j (x ∷ xs) [] sc sd p s = absurd p

  -- ---- scopes
  pub args_alike : (s : Sort) (x : Option X) (y : Option Y) → OptionR R x y →
      OptionR R (args_of v s x) (args_of w s y)
  args_alike s None None p = tt
  args_alike s (Some x) (Some y) p = W.template_args s x y p
  args_alike s None (Some y) p = absurd p
  args_alike s (Some x) None p = absurd p

  pub leaf_name_alike : (x : Option X) (y : Option Y) → OptionR R x y →
      OptionR R (leaf_name_of v x) (leaf_name_of w y)
  leaf_name_alike None None p = tt
  leaf_name_alike (Some x) (Some y) p = W.leaf_name x y p
  leaf_name_alike None (Some y) p = absurd p
  leaf_name_alike (Some x) None p = absurd p

  pub with_leaf_alike : (x : Option X) (y : Option Y) (sc : Scope X) (sd : Scope Y) → OptionR R x y → ScopeR R sc sd →
      ScopeR R (with_leaf x sc) (with_leaf y sd)
  with_leaf_alike None None sc sd p s = s
  with_leaf_alike (Some x) (Some y) sc sd p s = (p, s)
  with_leaf_alike None (Some y) sc sd p s = absurd p
  with_leaf_alike (Some x) None sc sd p s = absurd p

  pub with_args_alike : (x : Option X) (y : Option Y) (sc : Scope X) (sd : Scope Y) → OptionR R x y → ScopeR R sc sd →
      ScopeR R (with_args x sc) (with_args y sd)
  with_args_alike None None sc sd p s = s
  with_args_alike (Some x) (Some y) sc sd p s = (p, s)
  with_args_alike None (Some y) sc sd p s = absurd p
  with_args_alike (Some x) None sc sd p s = absurd p

  abbrev pub ResultR : Result X Fault → Result Y Fault → Type 0
  ResultR (Ok x) (Ok y) = R x y
  ResultR (Err f) (Err g) = f ≡ g
  ResultR _ _ = ⊥

  pub leaf_in_alike : (m : Meant X) (n : Meant Y) (a : Result X Fault) (b : Result Y Fault) → MeantR R m n →
      ResultR a b → ResultR (leaf_in m a) (leaf_in n b)
  leaf_in_alike (leaf x) (leaf y) a b p q = p
  leaf_in_alike (arguments x) (arguments y) a b p q = q
  leaf_in_alike (leaf x) (arguments y) a b p q = absurd p
  leaf_in_alike (arguments x) (leaf y) a b p q = absurd p

  pub scope_leaf_alike : (sc : Scope X) (sd : Scope Y) → ScopeR R sc sd → ResultR (scope_leaf sc) (scope_leaf sd)
  unfolding scope_leaf
  scope_leaf_alike [] [] p = refl
  scope_leaf_alike (e ∷ es) (f ∷ fs) p = leaf_in_alike e.meant f.meant (scope_leaf es) (scope_leaf fs) p.0
      (scope_leaf_alike es fs p.1)
  scope_leaf_alike [] (f ∷ fs) p = absurd p
  scope_leaf_alike (e ∷ es) [] p = absurd p

  pub found_alike : (x : Option X) (y : Option Y) → OptionR R x y → ResultR (found_leaf v x) (found_leaf w y)
  found_alike None None p = refl
  found_alike (Some x) (Some y) p = p
  found_alike None (Some y) p = absurd p
  found_alike (Some x) None p = absurd p

  pub leaf_node_alike : (t : Tag) (x : X) (y : Y) (xs : List X) (ys : List Y) → R x y
      → ActR R (leaf_seen v x (node t xs)) (leaf_seen w y (node t ys))
  leaf_node_alike Tag.SourceName x y xs ys p = (p, tt, tt)
  leaf_node_alike Tag.ClosureTypeName x y xs ys p = (p, tt, tt)
  leaf_node_alike Tag.UnnamedTypeName x y xs ys p = (p, tt, tt)
  leaf_node_alike _ x y xs ys p = tt

  pub leaf_seen_alike : (x : X) (y : Y) (a : Seen X) (b : Seen Y) → R x y → SeenR R a b
      → ActR R (leaf_seen v x a) (leaf_seen w y b)
  leaf_seen_alike x y nothing nothing p s = tt
  leaf_seen_alike x y (node t xs) (node u ys) p s =
      subst (λ z. ActR R (leaf_seen v x (node t xs)) (leaf_seen w y (node z ys))) s.0 (leaf_node_alike t x y xs ys p)
  leaf_seen_alike x y (bytes a) (bytes b) p s = tt
  leaf_seen_alike x y (number a) (number b) p s = tt
  leaf_seen_alike x y (flag a) (flag b) p s = tt
  leaf_seen_alike x y (word t i) (word u j) p s = (ap leaf_word s.1, tt)
    where
      leaf_word : ℕ → List ℕ
      leaf_word i = leaf_text i
  leaf_seen_alike x y _ _ p s = absurd s

  pub leaf_alike : (a : Result X Fault) (b : Result Y Fault) → ResultR a b → ActR R (leaf_act v a) (leaf_act w b)
  leaf_alike (Err f) (Err g) p = p
  leaf_alike (Ok x) (Ok y) p = leaf_seen_alike x y (v.look x) (w.look y) p (W.look x y p)
  leaf_alike (Err f) (Ok y) p = absurd p
  leaf_alike (Ok x) (Err g) p = absurd p

  pub need_alike : (a : Result X Fault) (b : Result Y Fault) → ResultR a b → ActR R (need_leaf v a) (need_leaf w b)
  need_alike (Err f) (Err g) p = p
  need_alike (Ok x) (Ok y) p = tt
  need_alike (Err f) (Ok y) p = absurd p
  need_alike (Ok x) (Err g) p = absurd p
