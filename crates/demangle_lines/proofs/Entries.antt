-- What an entry of a scope says of a leaf name and of an argument, by what it is.
use Rattle.std.proofs.Common.{◌≡◌, ℕ, Bool, true, false, List, [], ◌∷◌, Option, Some, None, option_map, refl, sym, ◌∙◌, ap, subst}
use Rattle.std.specs.Prelude.{Result, Ok, Err}
use Rattle.std.specs.Borrow.{Bor}
use Rattle.demangle_core.specs.Core.{Core}
use Rattle.demangle_core.specs.Table.{Table}
use Rattle.demangle_printing.specs.World.{World, nth}
use Rattle.demangle_printing.specs.Reader.{found_leaf}
use Rattle.demangle_printing.specs.State.{Fault, BadLeafNameReference, BadTemplateArgReference}
use Rattle.demangle_printing.specs.State.{ForwardTemplateArgReference}
use Rattle.demangle_printing.specs.Scope as spec
use Rattle.demangle_printing.specs.Scope.{Mark, in_member, is_forward, member_in, members, refused_if}
use Rattle.demangle_printing.specs.Scope.{scope_argument, scope_leaf}
use Rattle.demangle_printing.specs.Trees.{began_at, with_table}
use Rattle.demangle_meets.specs.Place.{Refers, world_of}
use Rattle.demangle_lines.specs.declared.scope.Kind.{Kind}
use Rattle.demangle_lines.specs.declared.scope.Kind.TheVariants as of_kind
use Rattle.demangle_lines.specs.declared.scope.Scope.{Scope, Scope', out-Scope, None', Some'}
use Rattle.demangle_lines.specs.ScopeOf.{entry_in, lent_scope, stack_scope}
use Rattle.demangle_lines.specs.Entries.{Decides, PassesOn, is_arguments, is_end, is_leaf, mark_behind, mark_of}
use Rattle.demangle_lines.specs.Entries.{marked, or_mark}

module _ {T : Type 0} (tree : T → Core) where
  -- ---- the entries of a scope
  pub stack_is : (s : Scope T) → stack_scope tree s
      ≡ entry_in (out-Scope T s).kind (tree (out-Scope T s).tree) (out-Scope T s).index (lent_scope tree (out-Scope T s).previous)
  unfolding out-Scope denote.Hole.Carrier.out
  stack_is (Scope' kind x k None') = refl
  stack_is (Scope' kind x k (Some' p s)) = refl

-- ---- leaf names
unmarked_leaf : (k place : ℕ) (sc : spec.Scope Core) → scope_leaf (in_member k place sc) ≡ scope_leaf sc
unfolding scope_leaf
unmarked_leaf k place [] = refl
unmarked_leaf k place (e ∷ es) = refl

leaf_there : (kind : Kind) (x : Core) (k : ℕ) (sc : spec.Scope Core) → is_leaf kind ≡ true →
    scope_leaf (entry_in kind x k sc) ≡ Ok x
unfolding scope_leaf
leaf_there of_kind.Leaf x k sc e = refl
leaf_there of_kind.End x k sc e = absurd (cc e)
leaf_there of_kind.Nothing x k sc e = absurd (cc e)
leaf_there of_kind.Arguments x k sc e = absurd (cc e)
leaf_there of_kind.Member x k sc e = absurd (cc e)

no_leaf_there : (kind : Kind) (x : Core) (k : ℕ) (sc : spec.Scope Core) → is_end kind ≡ false → is_leaf kind ≡ false →
    scope_leaf (entry_in kind x k sc) ≡ scope_leaf sc
unfolding scope_leaf
no_leaf_there of_kind.End x k sc f e = absurd (cc f)
no_leaf_there of_kind.Leaf x k sc f e = absurd (cc e)
no_leaf_there of_kind.Nothing x k sc f e = refl
no_leaf_there of_kind.Arguments x k sc f e = refl
no_leaf_there of_kind.Member x k sc f e = unmarked_leaf k (began_at x) sc

module _ {T : Type 0} (tree : T → Core) where
  pub leaf_here : (s : Scope T) → is_leaf (out-Scope T s).kind ≡ true →
      scope_leaf (stack_scope tree s) ≡ Ok (tree (out-Scope T s).tree)
  leaf_here s e = ap scope_leaf (stack_is tree s)
      ∙ leaf_there (out-Scope T s).kind (tree (out-Scope T s).tree) (out-Scope T s).index
      (lent_scope tree (out-Scope T s).previous) e

  pub leaf_behind : (s : Scope T) → is_end (out-Scope T s).kind ≡ false → is_leaf (out-Scope T s).kind ≡ false →
      scope_leaf (stack_scope tree s) ≡ scope_leaf (lent_scope tree (out-Scope T s).previous)
  leaf_behind s f e = ap scope_leaf (stack_is tree s)
      ∙ no_leaf_there (out-Scope T s).kind (tree (out-Scope T s).tree) (out-Scope T s).index
      (lent_scope tree (out-Scope T s).previous) f e

  pub ended : (kind : Kind) (x : Core) (k : ℕ) (sc : spec.Scope Core) → is_end kind ≡ true → entry_in kind x k sc ≡ []
  ended of_kind.End x k sc e = refl
  ended of_kind.Leaf x k sc e = absurd (cc e)
  ended of_kind.Nothing x k sc e = absurd (cc e)
  ended of_kind.Arguments x k sc e = absurd (cc e)
  ended of_kind.Member x k sc e = absurd (cc e)

  pub stack_ends : (s : Scope T) → is_end (out-Scope T s).kind ≡ true → stack_scope tree s ≡ []
  stack_ends s e = stack_is tree s
      ∙ ended (out-Scope T s).kind (tree (out-Scope T s).tree) (out-Scope T s).index
      (lent_scope tree (out-Scope T s).previous) e

  pub leaf_ends : (s : Scope T) → is_end (out-Scope T s).kind ≡ true →
      scope_leaf (stack_scope tree s) ≡ Err BadLeafNameReference
  unfolding scope_leaf
  leaf_ends s e = ap scope_leaf (stack_ends s e)

  pub no_leaves : (o : Option (Bor (Scope T))) → o ≡ None → scope_leaf (lent_scope tree o) ≡ Err BadLeafNameReference
  unfolding scope_leaf
  no_leaves o e = ap (λ z. scope_leaf (lent_scope tree z)) e

-- ---- arguments
-- a mark on a mark
marked_member : (m : Option (ℕ × ℕ)) (k place : ℕ) (sc : spec.Scope Core) →
    marked m (in_member k place sc) ≡ marked (or_mark m (k, place)) sc
marked_member None k place sc = refl
marked_member (Some m) k place [] = refl
marked_member (Some m) k place (e ∷ es) = refl

-- a leaf name has no members, whatever its mark
past_leaf : (w : World Core) (m : Option (ℕ × ℕ)) (x : Core) (k n : ℕ) (sc : spec.Scope Core) →
    scope_argument w (marked m (entry_in of_kind.Leaf x k sc)) n ≡ scope_argument w sc n
unfolding scope_argument
past_leaf w None x k n sc = refl
past_leaf w (Some m) x k n sc = refl

-- what a list says
list_says : (w : World Core) (m : Option (ℕ × ℕ)) (x : Core) (k n : ℕ) (sc : spec.Scope Core) →
    scope_argument w (marked m (entry_in of_kind.Arguments x k sc)) n
    ≡ member_in w (option_map mark_of m) x n (nth n (members w x)) (scope_argument w sc n)
unfolding scope_argument
list_says w None x k n sc = refl
list_says w (Some m) x k n sc = refl

pub passes_other : (table : Table) (kind : Kind) (x : Core) (k : ℕ) (m : Option (ℕ × ℕ)) (n : ℕ) →
    is_end kind ≡ false → is_arguments kind ≡ false → PassesOn table kind x k m n
passes_other table of_kind.Nothing x k m n f e = record { is = λ input sc. refl }
passes_other table of_kind.End x k m n f e = absurd (cc f)
passes_other table of_kind.Leaf x k m n f e = record { is = λ input sc. past_leaf (with_table table input) m x k n sc }
passes_other table of_kind.Member x k m n f e =
    record { is = λ input sc. ap (λ z. scope_argument (with_table table input) z n) (marked_member m k (began_at x) sc) }
passes_other table of_kind.Arguments x k m n f e = absurd (cc e)

pub passes_list : (table : Table) (kind : Kind) (x : Core) (k : ℕ) (m : Option (ℕ × ℕ)) (n : ℕ) →
    is_arguments kind ≡ true → ((input : List ℕ) → None ≡ nth n (members (with_table table input) x)) →
    PassesOn table kind x k m n
passes_list table of_kind.Arguments x k m n e none =
    record {
      is = λ input sc. list_says (with_table table input) m x k n sc
          ∙ ap (λ z. member_in (with_table table input) (option_map mark_of m) x n z
          (scope_argument (with_table table input) sc n)) (sym (none input));
    }
passes_list table of_kind.End x k m n e none = absurd (cc e)
passes_list table of_kind.Nothing x k m n e none = absurd (cc e)
passes_list table of_kind.Leaf x k m n e none = absurd (cc e)
passes_list table of_kind.Member x k m n e none = absurd (cc e)

pub decides : (table : Table) (kind : Kind) (x : Core) (k : ℕ) (m : Option (ℕ × ℕ)) (n : ℕ) (y : Core) (v : Bool) →
    is_arguments kind ≡ true → ((input : List ℕ) → Some y ≡ nth n (members (with_table table input) x)) →
    is_forward (option_map mark_of m) (began_at x) n ≡ v → Decides table kind x k m n (refused_if v y)
decides table of_kind.Arguments x k m n y v e found is =
    record {
      is = λ input sc. sym (list_says (with_table table input) m x k n sc
          ∙ (ap (λ z. member_in (with_table table input) (option_map mark_of m) x n z
          (scope_argument (with_table table input) sc n)) (sym (found input))
          ∙ ap (λ b. refused_if b y) is));
    }
decides table of_kind.End x k m n y v e found is = absurd (cc e)
decides table of_kind.Nothing x k m n y v e found is = absurd (cc e)
decides table of_kind.Leaf x k m n y v e found is = absurd (cc e)
decides table of_kind.Member x k m n y v e found is = absurd (cc e)

-- the entries from the newest on
module _ {T : Type 0} (tree : T → Core) where
  argument_behind : (table : Table) (input : List ℕ) (s : Scope T) (m : Option (ℕ × ℕ)) (n : ℕ) →
      PassesOn table (out-Scope T s).kind (tree (out-Scope T s).tree) (out-Scope T s).index m n →
      scope_argument (with_table table input) (marked m (stack_scope tree s)) n
      ≡ scope_argument (with_table table input)
      (marked (mark_behind (out-Scope T s).kind (out-Scope T s).index (began_at (tree (out-Scope T s).tree)) m)
      (lent_scope tree (out-Scope T s).previous)) n
  argument_behind table input s m n d =
      ap (λ z. scope_argument (with_table table input) (marked m z) n) (stack_is tree s)
      ∙ d.is input (lent_scope tree (out-Scope T s).previous)

  pub argument_next : (table : Table) (input : List ℕ) (s : Scope T) (m o : Option (ℕ × ℕ)) (n : ℕ) (y : T) (place : ℕ) →
      y ≡ (out-Scope T s).tree → place ≡ began_at (tree y) →
      o ≡ mark_behind (out-Scope T s).kind (out-Scope T s).index place m →
      PassesOn table (out-Scope T s).kind (tree y) (out-Scope T s).index m n →
      scope_argument (with_table table input) (marked m (stack_scope tree s)) n
      ≡ scope_argument (with_table table input) (marked o (lent_scope tree (out-Scope T s).previous)) n
  argument_next table input s m o n y place e f h d =
      argument_behind table input s m n
      (subst (λ z. PassesOn table (out-Scope T s).kind (tree z) (out-Scope T s).index m n) e d)
      ∙ ap (λ z. scope_argument (with_table table input) (marked z (lent_scope tree (out-Scope T s).previous)) n)
      (sym (h ∙ ap (λ q. mark_behind (out-Scope T s).kind (out-Scope T s).index q m) (f ∙ ap (λ z. began_at (tree z)) e)))

  pub argument_here : (table : Table) (input : List ℕ) (s : Scope T) (m : Option (ℕ × ℕ)) (n : ℕ)
      (answer : Result Core Fault) (y : T) → y ≡ (out-Scope T s).tree →
      Decides table (out-Scope T s).kind (tree y) (out-Scope T s).index m n answer →
      answer ≡ scope_argument (with_table table input) (marked m (stack_scope tree s)) n
  argument_here table input s m n answer y e d =
      (subst (λ z. Decides table (out-Scope T s).kind (tree z) (out-Scope T s).index m n answer) e d).is input
      (lent_scope tree (out-Scope T s).previous)
      ∙ ap (λ z. scope_argument (with_table table input) (marked m z) n) (sym (stack_is tree s))

  no_argument : (w : World Core) (m : Option (ℕ × ℕ)) (n : ℕ) →
      Err BadTemplateArgReference ≡ scope_argument w (marked m []) n
  unfolding scope_argument
  no_argument w None n = refl
  no_argument w (Some m) n = refl

  pub argument_ends : (table : Table) (input : List ℕ) (s : Scope T) (m : Option (ℕ × ℕ)) (n : ℕ) →
      is_end (out-Scope T s).kind ≡ true → Err BadTemplateArgReference
      ≡ scope_argument (with_table table input) (marked m (stack_scope tree s)) n
  argument_ends table input s m n e =
      no_argument (with_table table input) m n
      ∙ ap (λ z. scope_argument (with_table table input) (marked m z) n) (sym (stack_ends tree s e))

  pub no_arguments : (table : Table) (input : List ℕ) (o : Option (Bor (Scope T))) (m : Option (ℕ × ℕ)) (n : ℕ) →
      o ≡ None → Err BadTemplateArgReference
      ≡ scope_argument (with_table table input) (marked m (lent_scope tree o)) n
  no_arguments table input o m n e =
      no_argument (with_table table input) m n
      ∙ ap (λ z. scope_argument (with_table table input) (marked m (lent_scope tree z)) n) (sym e)
