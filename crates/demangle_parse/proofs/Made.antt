-- A node that is made out of cells, with the components behind those of the table.
use Rattle.std.proofs.Common.{◌≡◌, ap, ◌∙◌, sym, ℕ, List, ◌++◌, length, map, take, drop, Result, Ok, Err, MatchResult, IfOk}
use Rattle.std.proofs.Common.{IfErr}
use Rattle.std.proofs.lemmas.List.{map-append, take-append-drop}
use Rattle.demangle_text.specs.declared.error.Error.{Error}
use Rattle.demangle_text.specs.declared.error.Error.TheVariants.{OutOfMemory}
use Rattle.demangle_core.specs.Core.{Core}
use Rattle.demangle_core.specs.Table.{Table}
use Rattle.demangle_cells.specs.View.{View, Holds, Grown, table, entry}
use Rattle.demangle_cells.specs.declared.entry.Entry as made

pub all_taken : (F : ℕ → Core) (v : View) (count : ℕ) (new : List made.Entry) (a b : Table)
    → new ≡ drop count v.entries → map (entry F) (take count v.entries) ≡ a → b ≡ a ++ map (entry F) new
    → table F v ≡ b
unfolding table
all_taken F v count new a b n old e =
    sym (e ∙ (ap (λ l. a ++ map (entry F) l) n
    ∙ (ap (λ t. t ++ map (entry F) (drop count v.entries)) (sym old)
    ∙ (sym (map-append (entry F) (take count v.entries) (drop count v.entries))
    ∙ ap (map (entry F)) (take-append-drop count v.entries)))))

pub made_with : {X : Type 0} (tree : X → Core) (v : View) (id count : ℕ) (new : List made.Entry) (a b : Table)
    (r : Result X Error) → IfOk r (λ x. (F : ℕ → Core) → Holds F v → F id ≡ tree x) → IfErr r (λ e. e ≡ OutOfMemory)
    → new ≡ drop count v.entries → ((F : ℕ → Core) → Holds F v → b ≡ a ++ map (entry F) new)
    → MatchResult r (λ x. (F : ℕ → Core) → Holds F v → map (entry F) (take count v.entries) ≡ a
    → (F id ≡ tree x) × (table F v ≡ b)) (λ e. e ≡ OutOfMemory)
made_with tree v id count new a b (Ok x) m k n t = λ F h old. (m F h, all_taken F v count new a b n old (t F h))
made_with tree v id count new a b (Err e) m k n t = k

-- those of the table stand before them
pub old_taken : (F : ℕ → Core) (old new : View) (es : List made.Entry) (whole : Table) → Grown old new
    → es ≡ old.entries → table F old ≡ whole → map (entry F) (take (length es) new.entries) ≡ whole
unfolding table
old_taken F old new es whole g e w =
    ap (λ l. map (entry F) (take (length l) new.entries)) e ∙ (ap (map (entry F)) g.entries ∙ w)
