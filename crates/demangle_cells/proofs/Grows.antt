-- Arenas that grow: what readers use, and what the functions here use.
use Rattle.std.proofs.Common.{◌≡◌, refl, ap, ◌∙◌, sym, subst, ℕ, ◌+◌, true, false, []}
use Rattle.std.proofs.Common.{◌∷◌, ◌++◌}
use Rattle.std.proofs.Common.{length, take, map}
use Rattle.demangle_core.specs.Core.{Core}
use Rattle.demangle_cells.specs.Fixed.{first_cell}
use Rattle.demangle_cells.specs.Cells.{plain_tree, holds_from}
use Rattle.demangle_cells.specs.Entries.{ids_of}
use Rattle.demangle_cells.specs.Stored.{View, Holds, table, entry, Grown, KeepsTrees, IsMark, FitsMark, IsCut}
use Rattle.demangle_cells.specs.declared.plain.Plain.{Plain}
use Rattle.demangle_cells.specs.declared.entry.Entry as made
use Rattle.demangle_cells.specs.declared.entry.Mark as mark
use Rattle.demangle_cells.proofs.Lists.{take_all, take_front, take_less}
use Rattle.demangle_cells.proofs.Trees.{front, last}

-- ---- what readers use
pub grown_self : (v : View) → Grown v v
grown_self v = record { holds = λ F h. h; entries = take_all v.entries; waiting = refl }

pub grown_on : (a b d : View) → Grown a b → Grown b d → Grown a d
grown_on a b d g h = record {
  holds = λ F x. g.holds F (h.holds F x);
  entries = take_less a.entries b.entries d.entries g.entries h.entries;
  waiting = h.waiting ∙ g.waiting;
}

pub holds_before : (F : ℕ → Core) (a b : View) → Grown a b → Holds F b → Holds F a
holds_before F a b g h = g.holds F h

pub mark_fits : (a b : View) (m : mark.Mark) → IsMark a m → Grown a b → FitsMark b m
mark_fits a b m i g =
    let e : take m.entries b.entries ≡ a.entries = ap (λ n. take n b.entries) i.entries ∙ g.entries in
    record {
      numbered = i.numbered ∙ ap (λ es. length (ids_of true es)) (sym e);
      others = i.others ∙ ap (λ es. length (ids_of false es)) (sym e);
    }

pub cut_table : (F : ℕ → Core) (a b d : View) (m : mark.Mark) → IsMark a m → Grown a b → IsCut m b d
    → table F d ≡ table F a
unfolding table
cut_table F a b d m i g k = ap (map (entry F)) (k.entries ∙ (ap (λ n. take n b.entries) i.entries ∙ g.entries))

pub cut_holds : (F : ℕ → Core) (b d : View) (m : mark.Mark) → IsCut m b d → Holds F d → Holds F b
cut_holds F b d m k h = record {
  cells = subst (λ l. holds_from F l first_cell b.cells) k.list (subst
      (λ c. holds_from F d.list first_cell c) k.cells h.cells);
  constants = h.constants;
  references = h.references;
}

pub cut_grown : (a b d : View) (m : mark.Mark) → IsMark a m → Grown a b → IsCut m b d → Grown a d
cut_grown a b d m i g k = record {
  holds = λ F h. g.holds F (cut_holds F b d m k h);
  entries =
      let e : d.entries ≡ a.entries = k.entries ∙ (ap (λ n. take n b.entries) i.entries ∙ g.entries) in
      ap (take (length a.entries)) e ∙ take_all a.entries;
  waiting = k.waiting ∙ g.waiting;
}

-- ---- a cell more
pub cell_grown : (a b : View) (c : Plain) → b.cells ≡ a.cells ++ c ∷ [] → b.list ≡ a.list → b.entries ≡ a.entries
    → b.waiting ≡ a.waiting → Grown a b
cell_grown a b c e l t w = record {
  holds = λ F h. record {
    cells =
        front F a.list first_cell a.cells (c ∷ [])
        (subst (λ l. holds_from F l first_cell (a.cells ++ c ∷ [])) l
        (subst (λ cs. holds_from F b.list first_cell cs) e h.cells));
    constants = h.constants;
    references = h.references;
  };
  entries = ap (take (length a.entries)) t ∙ take_all a.entries;
  waiting = w;
}

pub cell_made : (F : ℕ → Core) (a b : View) (c : Plain) (i : ℕ) → b.cells ≡ a.cells ++ c ∷ []
    → i ≡ first_cell + length a.cells → Holds F b → F i ≡ plain_tree F b.list c
cell_made F a b c i e k h = ap F k
    ∙ last F b.list first_cell a.cells c (subst (λ cs. holds_from F b.list first_cell cs) e h.cells)

-- ---- a component more
pub entry_grown : (a b : View) (e : made.Entry) → b.cells ≡ a.cells → b.list ≡ a.list → b.entries ≡ a.entries ++ e ∷ []
    → b.waiting ≡ a.waiting → Grown a b
entry_grown a b e c l t w = record {
  holds = λ F h. record {
    cells = subst (λ l. holds_from F l first_cell a.cells) l (subst
        (λ cs. holds_from F b.list first_cell cs) c h.cells);
    constants = h.constants;
    references = h.references;
  };
  entries = ap (take (length a.entries)) t ∙ take_front a.entries (e ∷ []);
  waiting = w;
}

-- the same trees and components, whatever waits
pub all_same : (a b : View) → b.cells ≡ a.cells → b.list ≡ a.list → b.entries ≡ a.entries → KeepsTrees a b
all_same a b c l t = record {
  holds = λ F h. record {
    cells = subst (λ l. holds_from F l first_cell a.cells) l (subst
        (λ cs. holds_from F b.list first_cell cs) c h.cells);
    constants = h.constants;
    references = h.references;
  };
  entries = t;
}

pub same_grown : (a b : View) → b.cells ≡ a.cells → b.list ≡ a.list → b.entries ≡ a.entries → b.waiting ≡ a.waiting
    → Grown a b
same_grown a b c l t w = record {
  holds = (all_same a b c l t).holds;
  entries = ap (take (length a.entries)) t ∙ take_all a.entries;
  waiting = w;
}

pub same_table : (F : ℕ → Core) (a b : View) → b.entries ≡ a.entries → table F b ≡ table F a
unfolding table
same_table F a b e = ap (map (entry F)) e

pub ruleset grows = (grown_self, grown_on, holds_before)

pub ruleset cuts = (mark_fits, cut_table, cut_holds, cut_grown)

pub ruleset pushes = (cell_grown, cell_made, entry_grown, all_same, same_grown, same_table)
