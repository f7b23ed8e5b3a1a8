-- A name that was read is the tree that the ordered reading without a limit gives.
use Rattle.std.specs.Prelude.{◌≡◌, ◌≢◌, ℕ, ◌+◌, ◌-◌, false, List, [], ◌++◌, length}
use Rattle.std.proofs.Common.{refl, sym, ap, ◌∙◌, arith}
use Rattle.demangle_core.specs.Core.{Core}
use Rattle.demangle_core.specs.Table.{empty_table}
use Rattle.demangle_grammar.specs.Rule.{Row}
use Rattle.demangle_grammar.specs.Tree.{trees, Tree, nil, spell}
use Rattle.demangle_grammar.specs.Reading.{Answer, Yes, No, Deep, read_from, read_all}
use Rattle.demangle_grammar.specs.Code.{Here, Reply, Found, Refused}
use Rattle.demangle_grammar.specs.Seen.{seen, replied}
use Rattle.demangle_grammar.specs.Laws.{from, cored}
use Rattle.demangle_grammar.specs.Sound.{IsSoundFor}
use Rattle.demangle_grammar.proofs.CodeLaws.{of_trees, here_in}
use Rattle.demangle_grammar.proofs.Fit.{is_fit}
use Rattle.demangle_grammar.proofs.Readings.{spelled, gone_on, added, sound}
use Rattle.demangle_grammar.proofs.Limits.{has_no_limit}
use Rattle.demangle_grammar.proofs.SoundFor.{name_is_sound}
use Rattle.demangle_read.specs.Reading.{reading}
use Rattle.demangler.specs.Contents.{contents}
use Rattle.demangler.specs.Name.{IsName, IsSymbol}

abbrev core_in : Core → Reply → Core
core_in d (Found x h) = x
core_in d (Refused k) = d

module _ (bytes : List ℕ) (left : ℕ) (x : Core) (h : Here) where
  not_deep : (a : Answer Tree) → a ≢ Deep → read_from trees left Row.mangled_name false (from bytes) nil ≡ a →
      read_all Row.mangled_name false (from bytes) ≡ a
  not_deep a n p =
      sym (has_no_limit left Row.mangled_name false (from bytes) (λ d. n (sym p ∙ d))) ∙ p

  by_answer : (a : Answer Tree) → read_from trees left Row.mangled_name false (from bytes) nil ≡ a →
      replied (cored a) ≡ Found x h → IsName bytes h.spot.left x h.table
  by_answer (Yes t tree) p q =
      let at : t.at ≡ length (spell tree) =
      sym (gone_on left Row.mangled_name false (from bytes) t tree p) ∙ nothing_before (length (spell tree)) in
      let rest : t.rest ≡ h.spot.left = ap (λ m. (here_in h m).spot.left) q in
      let entries : t.entries ≡ h.table = ap (λ m. (here_in h m).table) q in
      record {
        name = tree;
        reads =
            not_deep (Yes t tree) (λ d. absurd (cc)) p
            ∙ (λ i. Yes (record { at = at i; rest = rest i; entries = entries i }) tree);
        is = ap (core_in x) q;
        fits = is_fit left Row.mangled_name false (from bytes) t tree p;
        spells = spelled left Row.mangled_name false (from bytes) t tree p ∙ ap (λ l. spell tree ++ l) rest;
        refers = sound left Row.mangled_name false (from bytes) t tree p;
        components_are = sym entries ∙ added left Row.mangled_name false (from bytes) t tree p;
      }
    where
      nothing_before : (n : ℕ) → 0 + n ≡ n
      nothing_before n = omega arith
  by_answer (No b k) p q = absurd (cc)
  by_answer Deep p q = absurd (cc)

-- what is read at the front is a name
pub is_name : (limit : ℕ) (bytes : List ℕ) (x : Core) (h : Here) → reading limit bytes ≡ Found x h →
    IsName bytes h.spot.left x h.table
unfolding empty_table
is_name limit bytes x h e =
    by_answer bytes (limit - 1) x h (read_from trees (limit - 1) Row.mangled_name false (from bytes) nil) refl
    (of_trees (limit - 1) Row.mangled_name false (seen (from bytes)) [] ∙ e)

-- and it is sound
pub is_sound : (limit : ℕ) (bytes : List ℕ) (x : Core) (h : Here) → reading limit bytes ≡ Found x h →
    IsSoundFor bytes h.table x
is_sound limit bytes x h e = name_is_sound bytes (limit - 1) Row.mangled_name false h x e

-- so a symbol can hold it
pub is_symbol : (limit : ℕ) (bytes : List ℕ) (x : Core) (h : Here) → reading limit bytes ≡ Found x h →
    IsSymbol (contents bytes h.table x)
is_symbol limit bytes x h e =
    record { left = h.spot.left; name = is_name limit bytes x h e; sound = is_sound limit bytes x h e }
