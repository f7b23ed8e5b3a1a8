-- The laws on what is sound for an input.
use Rattle.std.specs.Prelude.{◌≡◌, ◌||◌, ℕ, ◌+◌, ◌-◌, List, [], ◌∷◌, length}
use Rattle.std.proofs.Common.{refl, subst, ap, ◌∙◌, arith}
use Rattle.std.proofs.lemmas.List.{take_all}
use Rattle.demangle_core.specs.Table.{Entry, empty_table}
use Rattle.demangle_core.specs.Core.{Core, Tag}
use Rattle.demangle_grammar.specs.Tree.{trees, Tree, nil, core}
use Rattle.demangle_grammar.specs.Reading.{Answer, Yes, No, Deep, read_from}
use Rattle.demangle_grammar.specs.Sound.{EachEntry, StandsAt, IsComponent, HasPlaces, HasResults, IsSoundTable, IsSoundFor}
use Rattle.demangle_grammar.specs.Code.{here, Reply, Found, Refused}
use Rattle.demangle_grammar.specs.Seen.{replied}
use Rattle.demangle_grammar.specs.Laws.{cored, ReadsSound, FindsSound, NameIsSound}
use Rattle.demangle_grammar.proofs.Truth.{both_true}
use Rattle.demangle_grammar.proofs.Readings.{derived}
use Rattle.demangle_grammar.proofs.Back.{refers_back}
use Rattle.demangle_grammar.proofs.CodeLaws.{state_of, here_in, of_trees}
use Rattle.demangle_grammar.proofs.Stands.{stand}
use Rattle.demangle_grammar.proofs.Fields.{no_place, IsEntry, entry_of, entry_is, places_free, fields_results, fields_handles}
use Rattle.demangle_grammar.proofs.Shapes.{Known, is_plain, is_full, is_turn, ends_row, rows_lead}
use Rattle.demangle_grammar.proofs.PartsKnown.{plain_fields}
use Rattle.demangle_grammar.proofs.Sounds.{ends}

-- ---- entries
each_so : (P Q : Core → Type 0) → ((c : Core) → P c → Q c) → (es : List Entry) → EachEntry P es → EachEntry Q es
each_so P Q f [] h = tt
each_so P Q f (x ∷ es) h = (f x.tree h.0, each_so P Q f es h.1)

each_entry : (input : List ℕ) (es : List Entry) → EachEntry IsComponent es → EachEntry (HasPlaces input Tag.Several) es → EachEntry HasResults es → EachEntry (IsEntry input) es
each_entry input [] k p r = tt
each_entry input (x ∷ es) k p r = (entry_of input x.tree k.0 p.0 r.0, each_entry input es k.1 p.1 r.1)

-- ---- the laws
pub reads_sound : ReadsSound
reads_sound input left r c s t tree e at sound =
    let back = refers_back left r c s t tree e sound.refer_back in
    let end = ends input (derived left r c s t tree e) Known.empty (ends_row r) (rows_lead r) (stand input s.at s.rest at) refl (each_entry input s.entries sound.components sound.places sound.results) in
    let plain = plain_fields input t.at end.0 (core tree) (both_true (is_plain end.0) (is_turn r || is_full end.0) end.1).0 end.2 in
    record {
      entries = record {
        components = each_so (IsEntry input) IsComponent (λ x h. (entry_is input x h).0) t.entries end.3;
        refer_back = back.0;
        places = each_so (IsEntry input) (HasPlaces input Tag.Several) (λ x h. (entry_is input x h).1) t.entries end.3;
        results = each_so (IsEntry input) HasResults (λ x h. (entry_is input x h).2) t.entries end.3;
      };
      handles = fields_handles input no_place (core tree) plain;
      refers = back.1;
      places = places_free input Tag.Several (core tree) plain;
      results = fields_results input no_place (core tree) plain;
    }

abbrev core_in : Core → Reply → Core
core_in d (Found x h) = x
core_in d (Refused k) = d

pub finds_sound : FindsSound
finds_sound input left r c h m x e at sound = by (read_from trees left r c (state_of h) nil) refl (of_trees left r c h [] ∙ e)
  where
    by : (a : Answer Tree) → read_from trees left r c (state_of h) nil ≡ a → replied (cored a) ≡ Found x m → IsSoundFor input m.table x
    by (Yes t tree) p q =
        subst (λ n. IsSoundFor input n.table x) (ap (here_in m) q)
        (subst (λ y. IsSoundFor input t.entries y) (ap (core_in x) q) (reads_sound input left r c (state_of h) t tree p at sound))
    by (No b k) p q = absurd (cc)
    by Deep p q = absurd (cc)

-- from the front of an input, with no entries before it
stands_whole : (input : List ℕ) → StandsAt input 0 input
stands_whole input = (omega arith, take_all ((0 + length input) - 0) input (omega arith))

no_entries : (input : List ℕ) → IsSoundTable input empty_table
unfolding empty_table
no_entries input = record { components = tt; refer_back = tt; places = tt; results = tt }

pub name_is_sound : NameIsSound
name_is_sound input left r c m x e = finds_sound input left r c (here (record { index = 0; left = input }) empty_table) m x e (stands_whole input) (no_entries input)
