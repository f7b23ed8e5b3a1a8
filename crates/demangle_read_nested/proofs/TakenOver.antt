-- What a nested name takes over of the entry of its prefix.
use Rattle.std.proofs.Common.{◌≡◌, refl, ap, ◌∙◌, ℕ, true, false, Ok, Err}
use Rattle.demangle_text.specs.Kind.{Unread, Text}
use Rattle.demangle_core.specs.Core.{Core, Tag, node, end, place, number, flag, chosen, ref, mark, ◌⊕◌}
use Rattle.demangle_core.specs.Table.{Table}
use Rattle.demangle_grammar.specs.Tree.{nested_template, nested_unqualified, taken_of}
use Rattle.demangle_grammar.specs.Reading.{entry_of, is_nestable, last_component, prefix_entry}
use Rattle.demangle_grammar.specs.Code.{taken_over}
use Rattle.demangle_read_nested.specs.Shapes.{is_node, is_word}
use Rattle.demangle_read_nested.specs.NestedNames.{IsQualifiers, nested_parts}
use Rattle.demangle_read_nested.specs.declared.qualifiers.NestedQualifiers.{NestedQualifiers}
use Rattle.demangle_read_nested.specs.declared.qualifiers.NestedQualifiers.TheVariants.{ExplicitObject, Plain}
use Rattle.demangle_read_nested.proofs.Roots.{as_node, as_word}

-- the prefix is the last of the parts
behind_word : (o p : Core) (e : Table) → is_word o ≡ true → is_node p ≡ true → prefix_entry (o ⊕ p) e ≡ prefix_entry p e
behind_word o p e h k = let n = as_node p k in let m = as_word o h in rw (n.is, m.is) refl

skip_node : (t : Tag) (c : Core) (u : Tag) (d m : Core) → last_component (node t c (node u d m)) ≡ last_component (node u d m)
skip_node t end u d m = refl
skip_node t (node v x n) u d m = refl
skip_node t (place i j n) u d m = refl
skip_node t (number v n) u d m = refl
skip_node t (flag b n) u d m = refl
skip_node t (chosen k w n) u d m = refl
skip_node t (ref w k n) u d m = refl
skip_node t (mark i n) u d m = refl

behind_nodes : (a o p : Core) (e : Table) → is_node a ≡ true → is_node o ≡ true → is_node p ≡ true
    → prefix_entry (a ⊕ (o ⊕ p)) e ≡ prefix_entry p e
behind_nodes a o p e g h k =
    let n = as_node p k in
    let m = as_node o h in
    let l = as_node a g in
    rw (n.is, m.is, l.is)
    (ap (λ x. entry_of x e)
    (skip_node l.tag l.inner m.tag m.inner (node n.tag n.inner end) ∙ skip_node m.tag m.inner n.tag n.inner end))

entry_is : (F : ℕ → Core) (q : NestedQualifiers) (p : Core) (e : Table) → IsQualifiers F q → is_node p ≡ true
    → prefix_entry (nested_parts F q p) e ≡ prefix_entry p e
entry_is F (ExplicitObject o) p e h k = behind_word (F o) p e h k
entry_is F (Plain cv r) p e h k = behind_nodes (F cv) (F r) p e h.0 h.1 k

pub taken_found : (F : ℕ → Core) (q : NestedQualifiers) (p : Core) (e : Table) → IsQualifiers F q → is_node p ≡ true
    → is_nestable (prefix_entry p e) ≡ true
    → taken_over (nested_parts F q p) e ≡ Ok (taken_of (prefix_entry p e) (nested_parts F q p))
unfolding taken_over
taken_found F q p e h k l = rw (entry_is F q p e h k, l) refl

pub taken_missed : (F : ℕ → Core) (q : NestedQualifiers) (p : Core) (e : Table) → IsQualifiers F q → is_node p ≡ true
    → is_nestable (prefix_entry p e) ≡ false → taken_over (nested_parts F q p) e ≡ Err (Unread Text)
unfolding taken_over
taken_missed F q p e h k l = rw (entry_is F q p e h k, l) refl

-- ---- what the nested name is made of
pub name_behind_word : (o p n prefix : Core) → is_word o ≡ true
    → nested_unqualified p n (o ⊕ prefix) ≡ node Tag.NestedNameUnqualifiedExplicitObject (p ⊕ (n ⊕ o)) end
name_behind_word o p n prefix h = let m = as_word o h in rw m.is refl

pub name_behind : (cv r p n prefix : Core) → is_node cv ≡ true → is_node r ≡ true → is_node prefix ≡ true
    → nested_unqualified p n (cv ⊕ (r ⊕ prefix)) ≡ node Tag.NestedNameUnqualified (cv ⊕ (r ⊕ (p ⊕ n))) end
name_behind cv r p n prefix h k l =
    let a = as_node cv h in let b = as_node r k in let d = as_node prefix l in rw (a.is, b.is, d.is) refl

pub template_behind_word : (o prefix : Core) → is_word o ≡ true
    → nested_template (o ⊕ prefix) ≡ node Tag.NestedNameTemplateExplicitObject (prefix ⊕ o) end
template_behind_word o prefix h = let m = as_word o h in rw m.is refl

pub template_behind : (cv r prefix : Core) → is_node cv ≡ true
    → nested_template (cv ⊕ (r ⊕ prefix)) ≡ node Tag.NestedNameTemplate (cv ⊕ (r ⊕ prefix)) end
template_behind cv r prefix h = let a = as_node cv h in rw a.is refl

pub ruleset takes = (taken_found, taken_missed)

pub ruleset names = (name_behind_word, name_behind, template_behind_word, template_behind)
