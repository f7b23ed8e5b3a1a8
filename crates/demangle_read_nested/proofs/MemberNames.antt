-- The name of a member, as a data member.
use Rattle.std.proofs.Common.{◌≡◌, refl, true}
use Rattle.demangle_core.specs.Core.{Core, Tag, node, end, ◌⊕◌}
use Rattle.demangle_grammar.specs.Tree.{data_member_of}
use Rattle.demangle_grammar.specs.Reading.{is_member, is_plain}
use Rattle.demangle_read_nested.specs.Shapes.{is_node}
use Rattle.demangle_read_nested.proofs.Roots.{as_node}

-- whether it is a member is told by its last name
pub member_is : (p x : Core) (t : Tag) → is_node p ≡ true → is_member (p ⊕ node t x end) ≡ is_plain t
member_is p x t h = let n = as_node p h in rw n.is refl

-- the source name of the last name is what is kept of it
pub member_made : (p s x : Core) (t : Tag) → is_node p ≡ true → is_node s ≡ true
    → data_member_of (p ⊕ node t (s ⊕ x) end)
    ≡ node Tag.PrefixDataMember (p ⊕ node Tag.DataMemberPrefix s end) end
member_made p s x t h k = let n = as_node p h in let m = as_node s k in rw (n.is, m.is) refl

pub ruleset members = (member_is, member_made)
