-- Look-ups end by themselves: a tree refers to components of its table, and each of these to earlier ones.
use Rattle.std.proofs.Common.{◌≡◌, refl, ap, ◌∙◌, sym, subst, ℕ, zero, suc, false, ◌+◌, ◌<◌, ◌≤◌, List, [], ◌∷◌, ◌++◌, length, append-nil, arith}
use Rattle.std.specs.Prelude.{Some, is_some, slice_get}
use Rattle.demangle_core.specs.Core.{Tag, Core, end, node, place, number, flag, chosen, ref, mark}
use Rattle.demangle_core.specs.Table.{Entry, Table, count, listed, size, entry_at}
use Rattle.demangle_core.specs.Sound.{RefersTo, ReferBack, RefsSound}
use Rattle.demangle_core.specs.Lookups.{Next, answer, nothing, at, through, answer_of, refers, else_next, first_step}
use Rattle.demangle_core.specs.Lookups.{leaf_node, leaf_word, args_node, no_word, Sort, as_prefix, as_type, args_component, special_node}
use Rattle.demangle_core.specs.Lookups.{steps_of, leaf_step, args_step, component_args, special_step, step_from, after, resolve, leaf_name, template_args, is_special}
use Rattle.demangle_core.specs.Laws.{entries, turned, AtAnEnd, SameWithMore, LookupsEnd}
use Rattle.demangle_core.proofs.Earlier.{Earlier, earlier, counted}
use Rattle.demangle_core.proofs.Resolved.{resolved}

-- A reference is to one of these entries.
abbrev Within : List Entry → Next Core → Type 0
Within e (at w k) = k < count w e
Within e _ = Unit {0}

-- So is each reference of a list.
abbrev AllWithin : List Entry → List (Next Core) → Type 0
AllWithin e [] = Unit {0}
AllWithin e (s ∷ ss) = Within e s × AllWithin e ss

-- ---- where a tree refers to these entries alone, so does its step
module _ (e : List Entry) where
  -- one of two that do
  else_within : (a b : Next Core) → Within e a → Within e b → Within e (else_next a b)
  else_within (answer x) b h k = h
  else_within nothing b h k = k
  else_within (at v j) b h k = h
  else_within (through o) b h k = h

  -- the first of a list that does
  first_within : (ss : List (Next Core)) → AllWithin e ss → Within e (first_step ss)
  first_within [] h = tt
  first_within (s ∷ ss) h = h.0

  -- a word of a table refers to nothing
  leaf_word_within : (t k : ℕ) (x : Core) → Within e (leaf_word t k x)
  leaf_word_within (suc (suc zero)) (suc k) x = tt
  leaf_word_within _ _ x = tt

  -- the trees of a row, where nodes do whose parts do, and words do
  module _ (of : Tag → Core → List (Next Core) → Next Core) (known : ℕ → ℕ → Core → Next Core)
      (nodes : (t : Tag) (x : Core) (ss : List (Next Core)) → AllWithin e ss → Within e (of t x ss))
      (words : (t k : ℕ) (x : Core) → Within e (known t k x)) where
    all_within : (c : Core) → RefersTo e c → AllWithin e (steps_of of known c)
    all_within end r = tt
    all_within (node t c n) r = (nodes t (node t c end) (steps_of of known c) (all_within c r.0), all_within n r.1)
    all_within (place i j n) r = (tt, all_within n r)
    all_within (number v n) r = (tt, all_within n r)
    all_within (flag b n) r = (tt, all_within n r)
    all_within (chosen t k n) r = (words t k (chosen t k end), all_within n r)
    all_within (ref w k n) r = (r.0, all_within n r.1)
    all_within (mark i n) r = all_within n r

    step_within : (c : Core) → RefersTo e c → Within e (first_step (steps_of of known c))
    step_within c r = first_within (steps_of of known c) (all_within c r)

  -- of leaf names, case by case
  leaf_node_within : (t : Tag) (x : Core) (ss : List (Next Core)) → AllWithin e ss → Within e (leaf_node t x ss)
  leaf_node_within Tag.BackReference x (part ∷ others) h = h.0
  leaf_node_within Tag.NonSubstitution x (part ∷ others) h = h.0
  leaf_node_within Tag.SourceName x ss h = tt
  leaf_node_within Tag.ClosureTypeName x ss h = tt
  leaf_node_within Tag.UnnamedTypeName x ss h = tt
  leaf_node_within Tag.Present x (part ∷ others) h = h.0
  leaf_node_within Tag.WellKnown x (part ∷ others) h = h.0
  leaf_node_within Tag.DataMemberPrefix x (part ∷ others) h = h.0
  leaf_node_within Tag.UnqualifiedNameSource x (part ∷ others) h = h.0
  leaf_node_within Tag.UnqualifiedNameLocalSourceName x (part ∷ others) h = h.0
  leaf_node_within Tag.UnqualifiedNameClosureType x (part ∷ others) h = h.0
  leaf_node_within Tag.UnqualifiedNameUnnamedType x (part ∷ others) h = h.0
  leaf_node_within Tag.UnscopedNameUnqualified x (part ∷ others) h = h.0
  leaf_node_within Tag.UnscopedNameStd x (part ∷ others) h = h.0
  leaf_node_within Tag.UnscopedTemplateName x (part ∷ others) h = h.0
  leaf_node_within Tag.NestedNameTemplateExplicitObject x (part ∷ others) h = h.0
  leaf_node_within Tag.NameNested x (part ∷ others) h = h.0
  leaf_node_within Tag.NameUnscoped x (part ∷ others) h = h.0
  leaf_node_within Tag.NameUnscopedTemplate x (part ∷ others) h = h.0
  leaf_node_within Tag.NameLocal x (part ∷ others) h = h.0
  leaf_node_within Tag.PrefixUnqualified x (part ∷ others) h = h.0
  leaf_node_within Tag.PrefixTemplate x (part ∷ others) h = h.0
  leaf_node_within Tag.ClassEnumTypeNamed x (part ∷ others) h = h.0
  leaf_node_within Tag.ClassEnumTypeElaboratedStruct x (part ∷ others) h = h.0
  leaf_node_within Tag.ClassEnumTypeElaboratedUnion x (part ∷ others) h = h.0
  leaf_node_within Tag.ClassEnumTypeElaboratedEnum x (part ∷ others) h = h.0
  leaf_node_within Tag.TypeNodeClassEnum x (part ∷ others) h = h.0
  leaf_node_within Tag.SubstitutableUnscopedTemplateName x (part ∷ others) h = h.0
  leaf_node_within Tag.SubstitutableTypeNode x (part ∷ others) h = h.0
  leaf_node_within Tag.SubstitutablePrefix x (part ∷ others) h = h.0
  leaf_node_within Tag.NestedNameUnqualified x (qualifiers ∷ reference ∷ prefix ∷ name ∷ others) h = else_within name prefix h.1.1.1.0 h.1.1.0
  leaf_node_within Tag.NestedNameTemplate x (qualifiers ∷ reference ∷ prefix ∷ others) h = h.1.1.0
  leaf_node_within Tag.NestedNameUnqualifiedExplicitObject x (prefix ∷ name ∷ others) h = else_within name prefix h.1.0 h.0
  leaf_node_within Tag.LocalNameRelative x (encoding ∷ name ∷ others) h = h.1.0
  leaf_node_within Tag.LocalNameDefault x (encoding ∷ index ∷ name ∷ others) h = h.1.1.0
  leaf_node_within Tag.PrefixNested x (prefix ∷ name ∷ others) h = else_within name prefix h.1.0 h.0
  leaf_node_within Tag.PrefixDataMember x (prefix ∷ member ∷ others) h = h.1.0
  leaf_node_within _ x ss h = tt

  leaf_within : (c : Core) → RefersTo e c → Within e (leaf_step c)
  leaf_within = step_within leaf_node leaf_word leaf_node_within leaf_word_within

  -- of template arguments
  args_node_within : (t : Tag) (x : Core) (ss : List (Next Core)) → AllWithin e ss → Within e (args_node t x ss)
  args_node_within Tag.BackReference x (part ∷ others) h = h.0
  args_node_within Tag.NonSubstitution x (part ∷ others) h = h.0
  args_node_within Tag.TemplateArgs x ss h = tt
  args_node_within Tag.Present x (part ∷ others) h = h.0
  args_node_within Tag.NameNested x (part ∷ others) h = h.0
  args_node_within Tag.NameLocal x (part ∷ others) h = h.0
  args_node_within Tag.NameUnscopedTemplate x (template ∷ args ∷ others) h = h.1.0
  args_node_within Tag.NestedNameTemplate x (qualifiers ∷ reference ∷ prefix ∷ others) h = h.1.1.0
  args_node_within Tag.NestedNameTemplateExplicitObject x (prefix ∷ others) h = h.0
  args_node_within Tag.LocalNameRelative x (encoding ∷ name ∷ others) h = h.1.0
  args_node_within Tag.LocalNameDefault x (encoding ∷ index ∷ name ∷ others) h = h.1.1.0
  args_node_within Tag.PrefixTemplate x (prefix ∷ args ∷ others) h = h.1.0
  args_node_within Tag.TypeNodeTemplateTemplate x (template ∷ args ∷ others) h = h.1.0
  args_node_within Tag.TypeNodeVendorExtension x (name ∷ args ∷ others) h = h.1.0
  args_node_within Tag.TypeNodePointerTo x (type ∷ others) h = h.0
  args_node_within Tag.TypeNodeLvalueRef x (type ∷ others) h = h.0
  args_node_within Tag.TypeNodeRvalueRef x (type ∷ others) h = h.0
  args_node_within _ x ss h = tt

  args_within : (c : Core) → RefersTo e c → Within e (args_step c)
  args_within = step_within args_node no_word args_node_within (λ t k x. tt)

  -- of a component that is a prefix, and of one that is a type
  args_component_within : (s : Sort) (t : Tag) (part : Next Core) → Within e part → Within e (args_component s t part)
  args_component_within as_prefix Tag.SubstitutablePrefix part h = h
  args_component_within as_type Tag.SubstitutableTypeNode part h = h
  args_component_within _ _ part h = tt

  component_within : (s : Sort) (c : Core) → RefersTo e c → Within e (component_args s c)
  component_within s (node t c n) r = args_component_within s t (args_step c) (args_within c r.0)
  component_within s (mark i n) r = component_within s n r
  component_within s _ r = tt

  -- of whether it is a constructor, a destructor or a conversion
  special_node_within : (t : Tag) (x : Core) (ss : List (Next Core)) → AllWithin e ss → Within e (special_node t x ss)
  special_node_within Tag.BackReference x (part ∷ others) h = h.0
  special_node_within Tag.NonSubstitution x (part ∷ others) h = h.0
  special_node_within Tag.UnqualifiedNameCtorDtor x ss h = tt
  special_node_within Tag.UnqualifiedNameOperator x (operator ∷ others) h = h.0
  special_node_within Tag.OperatorNameConversion x ss h = tt
  special_node_within Tag.Present x (part ∷ others) h = h.0
  special_node_within Tag.NameNested x (part ∷ others) h = h.0
  special_node_within Tag.NameUnscoped x (part ∷ others) h = h.0
  special_node_within Tag.UnscopedNameUnqualified x (part ∷ others) h = h.0
  special_node_within Tag.UnscopedNameStd x (part ∷ others) h = h.0
  special_node_within Tag.PrefixUnqualified x (name ∷ others) h = h.0
  special_node_within Tag.PrefixNested x (prefix ∷ name ∷ others) h = h.1.0
  special_node_within Tag.PrefixTemplate x (prefix ∷ others) h = h.0
  special_node_within Tag.NestedNameUnqualified x (qualifiers ∷ reference ∷ prefix ∷ others) h = h.1.1.0
  special_node_within Tag.NestedNameTemplate x (qualifiers ∷ reference ∷ prefix ∷ others) h = h.1.1.0
  special_node_within Tag.NestedNameUnqualifiedExplicitObject x (prefix ∷ others) h = h.0
  special_node_within Tag.NestedNameTemplateExplicitObject x (prefix ∷ others) h = h.0
  special_node_within Tag.SubstitutablePrefix x (prefix ∷ others) h = h.0
  special_node_within _ x ss h = tt

  special_within : (c : Core) → RefersTo e c → Within e (special_step c)
  special_within = step_within special_node no_word special_node_within (λ t k x. tt)

-- ---- the turns of a look-up
module _ (step : Core → Next Core) where
  -- what is at an end stays there
  stays : (n : ℕ) (t : Table) (s : Next Core) → refers s ≡ false → refers (turned step n t s) ≡ false
  stays zero t s h = h
  stays (suc n) t (answer c) h = stays n t (answer c) h
  stays (suc n) t (through o) h = stays n t (through o) h
  stays (suc n) t nothing h = stays n t nothing h
  stays (suc n) t (at w k) h = cc

  -- the answer is that of the last turn
  resolved_turned : (n : ℕ) (t : Table) (s : Next Core) → resolve step n t s ≡ answer_of (turned step n t s)
  resolved_turned zero t s = refl
  resolved_turned (suc n) t s = resolved_turned n t (after step t s)

  -- some turns, and then more
  resolved_further : (n more : ℕ) (t : Table) (s : Next Core) → resolve step (n + more) t s ≡ resolve step more t (turned step n t s)
  resolved_further zero more t s = let e : zero + more ≡ more = omega arith in ap (λ m. resolve step m t s) e
  resolved_further (suc n) more t s =
      let e : suc n + more ≡ suc (n + more) = omega arith in
      ap (λ m. resolve step m t s) e ∙ resolved_further n more t (after step t s)

  -- behind an end further turns change nothing
  no_further : (n more : ℕ) (t : Table) (s : Next Core) → refers (turned step n t s) ≡ false → resolve step (n + more) t s ≡ resolve step n t s
  no_further n more t s h = resolved_further n more t s ∙ resolved step t more (turned step n t s) h ∙ sym (resolved_turned n t s)

  module _ (within : (e : List Entry) (c : Core) → RefersTo e c → Within e (step c)) where
    -- a reference to one of so many entries is at an end by so many turns
    ends_front : (n : ℕ) (t : Table) (e r : List Entry) (s : Next Core)
        → t ≡ e ++ r → ReferBack [] t → length e ≤ n → Within e s → refers (turned step n t s) ≡ false
    unfolding entry_at
    ends_front n t e r (answer c) p h l i = stays n t (answer c) refl
    ends_front n t e r nothing p h l i = stays n t nothing refl
    ends_front n t e r (through o) p h l i = stays n t (through o) refl
    ends_front n t [] r (at w k) p h l i = absurd (omega arith)
    ends_front zero t (x ∷ e) r (at w k) p h l i = absurd (omega arith)
    ends_front (suc n) t (x ∷ e) r (at w k) p h l i =
        let f : Earlier [] w k (x ∷ e) r = earlier [] w k (x ∷ e) r (subst (ReferBack []) p h) i in
        let there : entry_at w k t ≡ Some f.tree = ap (λ u. slice_get (listed w u) k) p ∙ f.there in
        let rest : refers (turned step n t (step f.tree)) ≡ false
        = ends_front n t f.before f.rest (step f.tree) (p ∙ f.parts) h (omega (arith, f.shorter)) (within f.before f.tree f.back) in
        ap (λ o. refers (turned step n t (step_from step o))) there ∙ rest

-- a table is no longer than its two lists together
pub all_entries : (t : Table) → length t ≤ entries t
unfolding size
all_entries t = omega (arith, counted t)

-- a look-up in a table whose entries refer back is at an end by as many turns as there are entries
ends : (step : Core → Next Core) (within : (e : List Entry) (c : Core) → RefersTo e c → Within e (step c)) (t : Table) (s : Next Core)
    → ReferBack [] t → Within t s → refers (turned step (entries t) t s) ≡ false
ends step within t s h i = ends_front step within (entries t) t t [] s (sym (append-nil t)) h (all_entries t) i

-- ---- the law
-- each look-up is at an end
at_an_end : (t : Table) (c : Core) → RefsSound t c → AtAnEnd t c
at_an_end t c h = record {
  leaf = ends leaf_step leaf_within t (leaf_step c) h.0 (leaf_within t c h.1);
  args = λ s. ends (component_args s) (λ e x r. component_within e s x r) t (args_step c) h.0 (args_within t c h.1);
  special = ends special_step special_within t (special_step c) h.0 (special_within t c h.1);
}

-- what is at an end has the same answer with more turns
same_with_more : (t : Table) (c : Core) → AtAnEnd t c → (more : ℕ) → SameWithMore t c more
unfolding leaf_name template_args is_special
same_with_more t c h more = record {
  leaf = no_further leaf_step (entries t) more t (leaf_step c) h.leaf;
  args = λ s. no_further (component_args s) (entries t) more t (args_step c) (h.args s);
  special = ap is_some (no_further special_step (entries t) more t (special_step c) h.special);
}

-- and so all of them end
pub all_end : LookupsEnd
all_end t c h = let e : AtAnEnd t c = at_an_end t c h in (e, same_with_more t c e)
