-- One step of a look-up in a tree with its table, and in its expanded tree.
use Rattle.std.specs.Prelude.{◌≡◌, ℕ, zero, suc, true, List, [], ◌∷◌, Option}
use Rattle.std.proofs.Common.{refl, sym, true≢false}
use Rattle.demangle_core.specs.Core.{Tag, Core, Which}
use Rattle.demangle_core.specs.Lookups.{Next, answer, nothing, at, through, else_next, first_step, leaf_word}
use Rattle.demangle_core.specs.Lookups.{leaf_node, args_node, Sort, as_prefix, as_type, args_component, special_node}
use Rattle.demangle_grammar.specs.Sound.{is_substitutable}
use Rattle.demangle_grammar.specs.Expand.{Expanded}
use Rattle.demangle_printing.specs.Trees.{may_refer}

abbrev pub Pair : Type 0
Pair = Next Core × Next Expanded

abbrev pub firsts : List Pair → List (Next Core)
firsts [] = []
firsts (p ∷ ps) = p.0 ∷ firsts ps

abbrev pub seconds : List Pair → List (Next Expanded)
seconds [] = []
seconds (p ∷ ps) = p.1 ∷ seconds ps

-- `R` are trees that belong together, `At` says what a component's own look-up answers
module _ (R : Core → Expanded → Type 0) (At : Which → ℕ → Option Expanded → Type 0) where
  abbrev pub NextR : Next Core → Next Expanded → Type 0
  NextR (answer x) (answer y) = R x y
  NextR nothing nothing = Unit {0}
  NextR (at w i) (through o) = At w i o
  NextR _ _ = ⊥

  abbrev pub AllNext : List Pair → Type 0
  AllNext [] = Unit {0}
  AllNext (p ∷ ps) = NextR p.0 p.1 × AllNext ps

  else_alike : (a : Next Core) (b : Next Expanded) (c : Next Core) (d : Next Expanded) → NextR a b → NextR c d
      → NextR (else_next a c) (else_next b d)
  else_alike (answer x) (answer y) c d p q = p
  else_alike nothing nothing c d p q = q
  else_alike (at w i) (through o) c d p q = p
  else_alike _ _ c d p q = absurd p

  pub first_alike : (ps : List Pair) → AllNext ps → NextR (first_step (firsts ps)) (first_step (seconds ps))
  first_alike [] q = tt
  first_alike (p ∷ ps) q = q.0

  pub leaf_node_alike : (t : Tag) (x : Core) (y : Expanded) (ps : List Pair) → R x y → AllNext ps
      → NextR (leaf_node t x (firsts ps)) (leaf_node t y (seconds ps))
  leaf_node_alike Tag.SourceName x y ps p q = p
  leaf_node_alike Tag.ClosureTypeName x y ps p q = p
  leaf_node_alike Tag.UnnamedTypeName x y ps p q = p
  leaf_node_alike Tag.BackReference x y (a ∷ ps) p q = q.0
  leaf_node_alike Tag.NonSubstitution x y (a ∷ ps) p q = q.0
  leaf_node_alike Tag.Present x y (a ∷ ps) p q = q.0
  leaf_node_alike Tag.WellKnown x y (a ∷ ps) p q = q.0
  leaf_node_alike Tag.DataMemberPrefix x y (a ∷ ps) p q = q.0
  leaf_node_alike Tag.UnqualifiedNameSource x y (a ∷ ps) p q = q.0
  leaf_node_alike Tag.UnqualifiedNameLocalSourceName x y (a ∷ ps) p q = q.0
  leaf_node_alike Tag.UnqualifiedNameClosureType x y (a ∷ ps) p q = q.0
  leaf_node_alike Tag.UnqualifiedNameUnnamedType x y (a ∷ ps) p q = q.0
  leaf_node_alike Tag.UnscopedNameUnqualified x y (a ∷ ps) p q = q.0
  leaf_node_alike Tag.UnscopedNameStd x y (a ∷ ps) p q = q.0
  leaf_node_alike Tag.UnscopedTemplateName x y (a ∷ ps) p q = q.0
  leaf_node_alike Tag.NestedNameTemplateExplicitObject x y (a ∷ ps) p q = q.0
  leaf_node_alike Tag.NameNested x y (a ∷ ps) p q = q.0
  leaf_node_alike Tag.NameUnscoped x y (a ∷ ps) p q = q.0
  leaf_node_alike Tag.NameUnscopedTemplate x y (a ∷ ps) p q = q.0
  leaf_node_alike Tag.NameLocal x y (a ∷ ps) p q = q.0
  leaf_node_alike Tag.PrefixUnqualified x y (a ∷ ps) p q = q.0
  leaf_node_alike Tag.PrefixTemplate x y (a ∷ ps) p q = q.0
  leaf_node_alike Tag.ClassEnumTypeNamed x y (a ∷ ps) p q = q.0
  leaf_node_alike Tag.ClassEnumTypeElaboratedStruct x y (a ∷ ps) p q = q.0
  leaf_node_alike Tag.ClassEnumTypeElaboratedUnion x y (a ∷ ps) p q = q.0
  leaf_node_alike Tag.ClassEnumTypeElaboratedEnum x y (a ∷ ps) p q = q.0
  leaf_node_alike Tag.TypeNodeClassEnum x y (a ∷ ps) p q = q.0
  leaf_node_alike Tag.SubstitutableUnscopedTemplateName x y (a ∷ ps) p q = q.0
  leaf_node_alike Tag.SubstitutableTypeNode x y (a ∷ ps) p q = q.0
  leaf_node_alike Tag.SubstitutablePrefix x y (a ∷ ps) p q = q.0
  leaf_node_alike Tag.NestedNameUnqualified x y (a ∷ b ∷ c ∷ d ∷ ps) p q =
      else_alike d.0 d.1 c.0 c.1 q.1.1.1.0 q.1.1.0
  leaf_node_alike Tag.NestedNameTemplate x y (a ∷ b ∷ c ∷ ps) p q = q.1.1.0
  leaf_node_alike Tag.NestedNameUnqualifiedExplicitObject x y (a ∷ b ∷ ps) p q = else_alike b.0 b.1 a.0 a.1 q.1.0 q.0
  leaf_node_alike Tag.LocalNameRelative x y (a ∷ b ∷ ps) p q = q.1.0
  leaf_node_alike Tag.LocalNameDefault x y (a ∷ b ∷ c ∷ ps) p q = q.1.1.0
  leaf_node_alike Tag.PrefixNested x y (a ∷ b ∷ ps) p q = else_alike b.0 b.1 a.0 a.1 q.1.0 q.0
  leaf_node_alike Tag.PrefixDataMember x y (a ∷ b ∷ ps) p q = q.1.0
  leaf_node_alike _ x y ps p q = tt

  pub args_node_alike : (t : Tag) (x : Core) (y : Expanded) (ps : List Pair) → R x y → AllNext ps
      → NextR (args_node t x (firsts ps)) (args_node t y (seconds ps))
  args_node_alike Tag.TemplateArgs x y ps p q = p
  args_node_alike Tag.BackReference x y (a ∷ ps) p q = q.0
  args_node_alike Tag.NonSubstitution x y (a ∷ ps) p q = q.0
  args_node_alike Tag.Present x y (a ∷ ps) p q = q.0
  args_node_alike Tag.NameNested x y (a ∷ ps) p q = q.0
  args_node_alike Tag.NameLocal x y (a ∷ ps) p q = q.0
  args_node_alike Tag.NameUnscopedTemplate x y (a ∷ b ∷ ps) p q = q.1.0
  args_node_alike Tag.NestedNameTemplate x y (a ∷ b ∷ c ∷ ps) p q = q.1.1.0
  args_node_alike Tag.NestedNameTemplateExplicitObject x y (a ∷ ps) p q = q.0
  args_node_alike Tag.LocalNameRelative x y (a ∷ b ∷ ps) p q = q.1.0
  args_node_alike Tag.LocalNameDefault x y (a ∷ b ∷ c ∷ ps) p q = q.1.1.0
  args_node_alike Tag.PrefixTemplate x y (a ∷ b ∷ ps) p q = q.1.0
  args_node_alike Tag.TypeNodeTemplateTemplate x y (a ∷ b ∷ ps) p q = q.1.0
  args_node_alike Tag.TypeNodeVendorExtension x y (a ∷ b ∷ ps) p q = q.1.0
  args_node_alike Tag.TypeNodePointerTo x y (a ∷ ps) p q = q.0
  args_node_alike Tag.TypeNodeLvalueRef x y (a ∷ ps) p q = q.0
  args_node_alike Tag.TypeNodeRvalueRef x y (a ∷ ps) p q = q.0
  args_node_alike _ x y ps p q = tt

  pub special_node_alike : (t : Tag) (x : Core) (y : Expanded) (ps : List Pair) → R x y → AllNext ps
      → NextR (special_node t x (firsts ps)) (special_node t y (seconds ps))
  special_node_alike Tag.UnqualifiedNameCtorDtor x y ps p q = p
  special_node_alike Tag.OperatorNameConversion x y ps p q = p
  special_node_alike Tag.BackReference x y (a ∷ ps) p q = q.0
  special_node_alike Tag.NonSubstitution x y (a ∷ ps) p q = q.0
  special_node_alike Tag.UnqualifiedNameOperator x y (a ∷ ps) p q = q.0
  special_node_alike Tag.Present x y (a ∷ ps) p q = q.0
  special_node_alike Tag.NameNested x y (a ∷ ps) p q = q.0
  special_node_alike Tag.NameUnscoped x y (a ∷ ps) p q = q.0
  special_node_alike Tag.UnscopedNameUnqualified x y (a ∷ ps) p q = q.0
  special_node_alike Tag.UnscopedNameStd x y (a ∷ ps) p q = q.0
  special_node_alike Tag.PrefixUnqualified x y (a ∷ ps) p q = q.0
  special_node_alike Tag.PrefixNested x y (a ∷ b ∷ ps) p q = q.1.0
  special_node_alike Tag.PrefixTemplate x y (a ∷ ps) p q = q.0
  special_node_alike Tag.NestedNameUnqualified x y (a ∷ b ∷ c ∷ ps) p q = q.1.1.0
  special_node_alike Tag.NestedNameTemplate x y (a ∷ b ∷ c ∷ ps) p q = q.1.1.0
  special_node_alike Tag.NestedNameUnqualifiedExplicitObject x y (a ∷ ps) p q = q.0
  special_node_alike Tag.NestedNameTemplateExplicitObject x y (a ∷ ps) p q = q.0
  special_node_alike Tag.SubstitutablePrefix x y (a ∷ ps) p q = q.0
  special_node_alike _ x y ps p q = tt

  pub leaf_word_alike : (t k : ℕ) (x : Core) (y : Expanded) → R x y → NextR (leaf_word t k x) (leaf_word t k y)
  leaf_word_alike (suc (suc zero)) (suc k) x y r = r
  leaf_word_alike _ _ x y r = tt

  component_node_alike : (s : Sort) (t : Tag) (a : Next Core) (b : Next Expanded) → NextR a b
      → NextR (args_component s t a) (args_component s t b)
  component_node_alike as_prefix Tag.SubstitutablePrefix a b p = p
  component_node_alike as_type Tag.SubstitutableTypeNode a b p = p
  component_node_alike _ _ a b p = tt

  pub args_component_alike : (s : Sort) (t : Tag) → is_substitutable t ≡ true →
      (x : Core) (y : Expanded) (ps : List Pair) → AllNext ps
      → NextR (args_component s t (first_step (firsts ps))) (args_component s t (first_step (seconds ps)))
  args_component_alike s t e x y ps q =
      component_node_alike s t (first_step (firsts ps)) (first_step (seconds ps)) (first_alike ps q)

  -- what a component has for a reference to it
  pub leaf_component_alike : (t : Tag) → is_substitutable t ≡ true → (x : Core) (y : Expanded) (ps : List Pair) →
      AllNext ps
      → NextR (leaf_node t x (firsts ps)) (leaf_node t y (seconds ps))
  leaf_component_alike Tag.SubstitutableUnscopedTemplateName e x y [] q = tt
  leaf_component_alike Tag.SubstitutableTypeNode e x y [] q = tt
  leaf_component_alike Tag.SubstitutablePrefix e x y [] q = tt
  leaf_component_alike Tag.SubstitutableUnscopedTemplateName e x y (a ∷ ps) q = q.0
  leaf_component_alike Tag.SubstitutableTypeNode e x y (a ∷ ps) q = q.0
  leaf_component_alike Tag.SubstitutablePrefix e x y (a ∷ ps) q = q.0
  leaf_component_alike Tag.SubstitutableTemplateTemplateParam e x y ps q = tt
  leaf_component_alike Tag.SubstitutableUnresolvedType e x y ps q = tt
  leaf_component_alike Tag.SubstitutableExpression e x y ps q = tt
  leaf_component_alike _ e x y ps q = absurd (true≢false (sym e))

  pub special_component_alike : (t : Tag) → is_substitutable t ≡ true → (x : Core) (y : Expanded) (ps : List Pair) →
      AllNext ps
      → NextR (special_node t x (firsts ps)) (special_node t y (seconds ps))
  special_component_alike Tag.SubstitutablePrefix e x y [] q = tt
  special_component_alike Tag.SubstitutablePrefix e x y (a ∷ ps) q = q.0
  special_component_alike Tag.SubstitutableUnscopedTemplateName e x y ps q = tt
  special_component_alike Tag.SubstitutableTypeNode e x y ps q = tt
  special_component_alike Tag.SubstitutableTemplateTemplateParam e x y ps q = tt
  special_component_alike Tag.SubstitutableUnresolvedType e x y ps q = tt
  special_component_alike Tag.SubstitutableExpression e x y ps q = tt
  special_component_alike _ e x y ps q = absurd (true≢false (sym e))

-- ---- a handle that refers has what its reference has
pub leaf_of_handle : (t : Tag) → may_refer t ≡ true → (x : Core) (a : Next Core) (ss : List (Next Core)) →
    leaf_node t x (a ∷ ss) ≡ a
leaf_of_handle Tag.BackReference e x a ss = refl
leaf_of_handle Tag.NonSubstitution e x a ss = refl
leaf_of_handle _ e x a ss = absurd (true≢false (sym e))

pub args_of_handle : (t : Tag) → may_refer t ≡ true → (x : Core) (a : Next Core) (ss : List (Next Core)) →
    args_node t x (a ∷ ss) ≡ a
args_of_handle Tag.BackReference e x a ss = refl
args_of_handle Tag.NonSubstitution e x a ss = refl
args_of_handle _ e x a ss = absurd (true≢false (sym e))

pub special_of_handle : (t : Tag) → may_refer t ≡ true → (x : Core) (a : Next Core) (ss : List (Next Core)) →
    special_node t x (a ∷ ss) ≡ a
special_of_handle Tag.BackReference e x a ss = refl
special_of_handle Tag.NonSubstitution e x a ss = refl
special_of_handle _ e x a ss = absurd (true≢false (sym e))
