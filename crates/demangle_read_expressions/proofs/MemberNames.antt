-- A name without its scope is one node, so it is told from what stands behind it.
use Rattle.std.specs.Prelude.{codes}
use Rattle.std.proofs.Common.{◌≡◌, refl, sym, subst, ℕ, zero, suc, Bool, true, false, List, [], ◌∷◌, Result, Ok, Err}
use Rattle.demangle_core.specs.Core.{Core, Tag, node, end, place, number, flag, chosen, ref, mark, ◌⊕◌}
use Rattle.demangle_text.specs.Kind.{Kind}
use Rattle.demangle_text.specs.Spot.{Spot}
use Rattle.demangle_text.specs.Word.{word_at}
use Rattle.demangle_grammar.specs.Rule.{Row}
use Rattle.demangle_grammar.specs.Tree.{first_of, rest_of}
use Rattle.demangle_grammar.specs.Code.{joined, at, close, committed, Go, Here, Reply, Found, Refused, Out, Yes, No}
use Rattle.demangle_grammar.specs.Code.{or_else, and_then, from_row, read_spot, optional_at, cread}
use Rattle.demangle_grammar.specs.Parts.{alone, else_row}
use Rattle.demangle_forms.specs.NameForms.{behind_on_at, operator_at, unqualified_name_row}
use Rattle.demangle_forms.specs.UnqualifiedForms.{ctor_dtor_alternative, local_alternative, source_alternative}
use Rattle.demangle_forms.specs.UnqualifiedForms.{unnamed_at, unqualified_alternatives}
use Rattle.demangle_forms.proofs.NameLaws.{unqualified_name_row_is}
use Rattle.demangle_forms.proofs.UnqualifiedLaws.{unqualified_rest_is}
use Rattle.demangle_read_expressions.specs.MemberNames.{is_node}

-- ---- one node alone
record IsNode (p : Core) : Type 0 where
  pub tag : Tag
  pub inner : Core
  pub is : p ≡ node tag inner end

as_node : (p : Core) → is_node p ≡ true → IsNode p
as_node (node t c end) h = record { tag = t; inner = c; is = refl }
as_node (node t c (node u d n)) h = absurd (cc)
as_node (node t c (place i j n)) h = absurd (cc)
as_node (node t c (number v n)) h = absurd (cc)
as_node (node t c (flag b n)) h = absurd (cc)
as_node (node t c (chosen u k n)) h = absurd (cc)
as_node (node t c (ref w k n)) h = absurd (cc)
as_node (node t c (mark i n)) h = absurd (cc)
as_node end h = absurd (cc)
as_node (place i j n) h = absurd (cc)
as_node (number v n) h = absurd (cc)
as_node (flag b n) h = absurd (cc)
as_node (chosen u k n) h = absurd (cc)
as_node (ref w k n) h = absurd (cc)
as_node (mark i n) h = absurd (cc)

pub first_kept : (x y : Core) → is_node x ≡ true → first_of (x ⊕ y) ≡ x
first_kept x y h = let n = as_node x h in rw n.is refl

pub rest_kept : (x y : Core) → is_node x ≡ true → rest_of (x ⊕ y) ≡ y
rest_kept x y h = let n = as_node x h in rw n.is refl

-- ---- what a reading ends with
abbrev Nodes : Out → Type 0
Nodes (Yes m b) = is_node (joined b) ≡ true
Nodes (No h k) = Unit {0}

abbrev RowNodes : Reply → Type 0
RowNodes (Found t m) = is_node t ≡ true
RowNodes (Refused k) = Unit {0}

or_nodes : (o : Out) (f : Unit {0} → Out) → Nodes o → Nodes (f tt) → Nodes (or_else o f)
or_nodes (Yes m b) f h k = h
or_nodes (No true x) f h k = tt
or_nodes (No false x) f h k = k

committed_nodes : (o : Out) → Nodes o → Nodes (committed o)
committed_nodes (Yes m b) h = h
committed_nodes (No x k) h = tt

row_nodes : (a : Reply) (f : Here → Core → Out) → ((m : Here) (t : Core) → Nodes (f m t)) → Nodes (from_row a f)
row_nodes (Found t m) f h = h m t
row_nodes (Refused k) f h = tt

and_nodes : (o : Out) (f : Here → List Core → Out) → ((m : Here) (b : List Core) → Nodes (f m b))
    → Nodes (and_then o f)
and_nodes (Yes m b) f h = h m b
and_nodes (No x k) f h = tt

spot_nodes : (q : Result Spot Kind) (f : Spot → Out) → ((p : Spot) → Nodes (f p)) → Nodes (read_spot q f)
spot_nodes (Ok p) f h = h p
spot_nodes (Err k) f h = tt

close_nodes : (o : Out) → Nodes o → RowNodes (close o)
close_nodes (Yes m b) h = h
close_nodes (No x k) h = tt

else_nodes : (o : Out) (f : Unit {0} → Reply) → Nodes o → RowNodes (f tt) → RowNodes (else_row o f)
else_nodes (Yes m b) f h k = h
else_nodes (No true x) f h k = tt
else_nodes (No false x) f h k = k

-- ---- names without scopes
module _ (go : Go) (c : Bool) where
  tagged : (s : Here) (t : Core) (r : Row) (tag : Tag)
      → Nodes (committed (from_row (go r c s []) (λ m u. Yes m (node tag (t ⊕ u) end ∷ []))))
  tagged s t r tag = committed_nodes _ (row_nodes (go r c s []) _ (λ m u. refl))

  others : (s : Here) → RowNodes (unqualified_alternatives go c s)
  unfolding unqualified_alternatives unnamed_at
  others s =
      else_nodes (alone ctor_dtor_alternative go c s) _
      (row_nodes (go Row.ctor_dtor_name c s []) _ (λ m t. tagged m t Row.abi_tags Tag.UnqualifiedNameCtorDtor))
      (else_nodes (alone local_alternative go c s) _
      (spot_nodes (word_at (codes "L") s.spot) _ (λ p. committed_nodes _
      (row_nodes (go Row.source_name c (at s p) []) _ (λ m t.
      and_nodes (optional_at go c Row.discriminator m) _ (λ n b. row_nodes (go Row.abi_tags c n []) _ (λ o u. refl))))))
      (else_nodes (alone source_alternative go c s) _
      (row_nodes (go Row.source_name c s []) _ (λ m t. tagged m t Row.abi_tags Tag.UnqualifiedNameSource))
      (close_nodes _ (or_nodes _ _
      (row_nodes (go Row.closure_type_name c s []) _ (λ m t. tagged m t Row.abi_tags Tag.UnqualifiedNameClosureType))
      (row_nodes (go Row.unnamed_type_name c s []) _ (λ m t. row_nodes (go Row.abi_tags c m []) _ (λ n u. refl)))))))

  operators : (s : Here) → Nodes (operator_at go c s)
  operators s =
      row_nodes (go Row.operator_name c (at s (behind_on_at s.spot)) []) _
      (λ m t. tagged m t Row.abi_tags Tag.UnqualifiedNameOperator)

names : (f : ℕ) (c : Bool) (s : Here) → RowNodes (unqualified_name_row f c s)
unfolding unqualified_name_row
names zero c s = tt
names (suc f) c s =
    else_nodes (operator_at (cread f) c s) _ (operators (cread f) c s)
    (subst RowNodes (sym (unqualified_rest_is (cread f) c s)) (others (cread f) c s))

pub unqualified_node : (f : ℕ) (c : Bool) (s m : Here) (t : Core) → cread f Row.unqualified_name c s [] ≡ Found t m
    → is_node t ≡ true
unqualified_node f c s m t h =
    subst RowNodes h (subst RowNodes (sym (unqualified_name_row_is f c s)) (names f c s))

pub ruleset members = (first_kept, rest_kept)
