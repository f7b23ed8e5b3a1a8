-- Lists whose trees wait, as the readers of lists use them.
use Rattle.std.proofs.Common.{◌≡◌, ap, ◌∙◌, sym, ℕ, true, false, List, [], ◌∷◌, ◌++◌, length, take, drop, map}
use Rattle.std.proofs.Common.{append_assoc, take-append-drop}
use Rattle.demangle_core.specs.Core.{Core}
use Rattle.demangle_cells.specs.Entries.{ids_of}
use Rattle.demangle_cells.specs.View.{View, Holds, table, entry, Grown, Waited, since, KeepsTrees, IsMark, FitsMark}
use Rattle.demangle_cells.specs.View.{IsCut}
use Rattle.demangle_cells.specs.declared.entry.Mark as mark
use Rattle.demangle_cells.proofs.Waits.{waited_self, waited_on, waited_grown, waited_cut, waited_kept, since_self}
use Rattle.demangle_cells.proofs.Waits.{since_more}
use Rattle.demangle_cells.proofs.Waits.{gathered_grown, gathered_table, waited_fits, drop_front}
use Rattle.demangle_cells.proofs.Lists.{take_less}
use Rattle.demangle_cells.proofs.Grows.{grown_self}

pub kept_holds : (F : ℕ → Core) (a b : View) → KeepsTrees a b → Holds F b → Holds F a
kept_holds F a b k h = k.holds F h

pub waited_holds : (F : ℕ → Core) (a b : View) → Waited a b → Holds F b → Holds F a
waited_holds F a b w h = w.holds F h

-- the first that waits
pub waited_first : (a b d : View) (i : ℕ) → Grown a b → KeepsTrees b d → d.waiting ≡ b.waiting ++ i ∷ [] → Waited a d
waited_first a b d i g k e = waited_on a a b d i (waited_self a) g k e

pub waited_marks : (a b : View) (m : mark.Mark) → IsMark a m → Waited a b → FitsMark b m
waited_marks a b m i w =
    let e : take m.entries b.entries ≡ a.entries = ap (λ n. take n b.entries) i.entries ∙ w.entries in
    record {
      numbered = i.numbered ∙ ap (λ es. length (ids_of true es)) (sym e);
      others = i.others ∙ ap (λ es. length (ids_of false es)) (sym e);
    }

pub waited_cut_table : (F : ℕ → Core) (a b d : View) (m : mark.Mark) → IsMark a m → Waited a b → IsCut m b d
    → table F d ≡ table F a
unfolding table
waited_cut_table F a b d m i w k =
    ap (map (entry F)) (k.entries ∙ (ap (λ n. take n b.entries) i.entries ∙ w.entries))

-- more that waits
pub waited_both : (a b d : View) → Waited a b → Waited b d → Waited a d
waited_both a b d w v = record {
  holds = λ F h. w.holds F (v.holds F h);
  entries = take_less a.entries b.entries d.entries w.entries v.entries;
  waiting = take_less a.waiting b.waiting d.waiting w.waiting v.waiting;
}

pub since_then : (a m d : View) (i : ℕ) → m.waiting ≡ a.waiting ++ i ∷ [] → Waited m d → since a d ≡ i ∷ since m d
since_then a m d i e w =
    let n : ℕ = length m.waiting in
    let whole : d.waiting ≡ a.waiting ++ i ∷ since m d =
    sym (take-append-drop n d.waiting) ∙ (ap (λ l. l ++ drop n d.waiting) (w.waiting ∙ e)
    ∙ append_assoc a.waiting (i ∷ []) (drop n d.waiting)) in
    ap (drop (length a.waiting)) whole ∙ drop_front a.waiting (i ∷ since m d)

-- ---- parts that wait one behind the other
pub waited_more : (a b d : View) (i : ℕ) → Waited a b → KeepsTrees b d → d.waiting ≡ b.waiting ++ i ∷ [] → Waited a d
waited_more a b d i w k e = waited_on a b b d i w (grown_self b) k e

pub six_wait : (a b : View) (i j k l m n : ℕ)
    → b.waiting ≡ (((((a.waiting ++ i ∷ []) ++ j ∷ []) ++ k ∷ []) ++ l ∷ []) ++ m ∷ []) ++ n ∷ []
    → since a b ≡ i ∷ j ∷ k ∷ l ∷ m ∷ n ∷ []
six_wait a b i j k l m n e =
    let w : List ℕ = a.waiting in
    let two : ((w ++ i ∷ []) ++ j ∷ []) ≡ w ++ i ∷ j ∷ [] = append_assoc w (i ∷ []) (j ∷ []) in
    let three : ((w ++ i ∷ j ∷ []) ++ k ∷ []) ≡ w ++ i ∷ j ∷ k ∷ [] = append_assoc w (i ∷ j ∷ []) (k ∷ []) in
    let four : ((w ++ i ∷ j ∷ k ∷ []) ++ l ∷ []) ≡ w ++ i ∷ j ∷ k ∷ l ∷ [] = append_assoc w (i ∷ j ∷ k ∷ []) (l ∷ []) in
    let five : ((w ++ i ∷ j ∷ k ∷ l ∷ []) ++ m ∷ []) ≡ w ++ i ∷ j ∷ k ∷ l ∷ m ∷ [] =
    append_assoc w (i ∷ j ∷ k ∷ l ∷ []) (m ∷ []) in
    let all : ((w ++ i ∷ j ∷ k ∷ l ∷ m ∷ []) ++ n ∷ []) ≡ w ++ i ∷ j ∷ k ∷ l ∷ m ∷ n ∷ [] =
    append_assoc w (i ∷ j ∷ k ∷ l ∷ m ∷ []) (n ∷ []) in
    let whole : b.waiting ≡ w ++ i ∷ j ∷ k ∷ l ∷ m ∷ n ∷ [] = cc in
    ap (drop (length w)) whole ∙ drop_front w (i ∷ j ∷ k ∷ l ∷ m ∷ n ∷ [])

pub ruleset parts = (waited_self, waited_more, waited_kept)

-- for what is made of the list
pub ruleset gathers = (kept_holds, waited_holds, gathered_grown, gathered_table, waited_fits)

-- for a list that begins with a row
pub ruleset waits = (
  kept_holds,
  waited_holds,
  waited_first,
  waited_marks,
  waited_cut_table,
  waited_cut,
  waited_both,
  waited_grown,
  waited_kept,
)
