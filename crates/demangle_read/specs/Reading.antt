-- The reading of a whole name.
use Rattle.std.specs.Prelude.{ℕ, ◌-◌, false, List, [], ◌∷◌}
use Rattle.demangle_core.specs.Core.{Core}
use Rattle.demangle_core.specs.Table.{empty_table}
use Rattle.demangle_text.specs.Kind.{Unread, Text}
use Rattle.demangle_grammar.specs.Rule.{Row}
use Rattle.demangle_grammar.specs.Code.{Reply, Found, Refused, Here, here, cread}

-- from the first of these bytes, with no components
abbrev pub at_front : List ℕ → Here
at_front bytes = here (record { index = 0; left = bytes }) empty_table

-- the ordered reading of the name at the front, under a limit
abbrev pub reading : (limit : ℕ) → List ℕ → Reply
reading limit bytes = cread (limit - 1) Row.mangled_name false (at_front bytes) []

-- no bytes may be left behind the name
abbrev pub whole_at : List ℕ → Core → Here → Reply
whole_at [] x h = Found x h
whole_at (b ∷ bs) x h = Refused (Unread Text)

abbrev pub whole : Reply → Reply
whole (Found x h) = whole_at h.spot.left x h
whole (Refused k) = Refused k
