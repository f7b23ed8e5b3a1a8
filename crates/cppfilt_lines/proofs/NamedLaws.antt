-- The name of a text: the ordered reading's tree, from the laws of the grammar.
use Rattle.std.proofs.Common.{◌≡◌, ℕ, ◌-◌, List, [], ◌∷◌, ◌++◌, refl, sym, ap, ◌∙◌, append-nil, false}
use Rattle.demangle_core.specs.Table.{empty_table}
use Rattle.demangle_grammar.specs.Rule.{Row}
use Rattle.demangle_grammar.specs.Tree.{Tree, trees, nil, spell, core}
use Rattle.demangle_grammar.specs.Reading.{State, Answer, Yes, No, Deep, read_from}
use Rattle.demangle_grammar.specs.Code.{cread, here}
use Rattle.demangle_grammar.specs.Laws.{Reads, from, cored}
use Rattle.demangle_grammar.specs.Seen.{replied}
use Rattle.demangle_grammar.proofs.Bridge.{reads_code}
use Rattle.demangle_grammar.proofs.Cores.{reads_cores}
use Rattle.demangle_grammar.proofs.Fit.{is_fit}
use Rattle.demangle_grammar.proofs.Readings.{spelled, sound}
use Rattle.demangle_printing.specs.Outcome.{Options, Shown, outcome}
use Rattle.demangle_printing.specs.Outcome.{after_reading, when_read}
use Rattle.std.specs.Prelude.{Option, Some, None, IfSome}
use Rattle.std.specs.List.{All, slice_index_or}
use Rattle.cppfilt_lines.specs.Named.{IsNamed, IsNamedWhenShown}
use Rattle.cppfilt_lines.specs.Work.{Work, candidates}
use Rattle.cppfilt_lines.specs.declared.options.FilterOptions.{FilterOptions}

-- the reading of a whole name
reading : ℕ → List ℕ → Answer Tree
reading p name = read_from trees (p - 1) Row.mangled_name false (from name) nil

-- that of the program is the reading of trees, and then their cores
same_reading : (p : ℕ) (name : List ℕ)
    → replied (cored (reading p name))
    ≡ cread (p - 1) Row.mangled_name false (here (record { index = 0; left = name }) empty_table) []
unfolding reading empty_table
same_reading p name =
    ap replied (reads_cores (p - 1) Row.mangled_name false (from name) nil)
    ∙ reads_code (p - 1) Row.mangled_name false (from name) []

module _ (p : ℕ) (o : Options) (name text : List ℕ) where
  with_tree : (tree : Tree) (end : State) → Reads (p - 1) Row.mangled_name false (from name) end tree
      → (left : List ℕ) → end.rest ≡ left
      → when_read name o left (core tree) end.entries ≡ Shown text → IsNamed p o name text
  with_tree tree end reads [] none e = record {
    tree = tree;
    end = end;
    reads = reads;
    fits = is_fit (p - 1) Row.mangled_name false (from name) end tree reads;
    spells =
        sym (spelled (p - 1) Row.mangled_name false (from name) end tree reads ∙ ap (λ l. spell tree ++ l) none
        ∙ append-nil (spell tree));
    sound = sound (p - 1) Row.mangled_name false (from name) end tree reads;
    prints = e;
  }
  with_tree tree end reads (b ∷ bs) none e = absurd cc

  by_answer : (a : Answer Tree) → reading p name ≡ a → after_reading name o (replied (cored a)) ≡ Shown text
      → IsNamed p o name text
  unfolding reading
  by_answer (Yes end tree) is e = with_tree tree end is end.rest refl e
  by_answer (No hard cause) is e = absurd cc
  by_answer Deep is e = absurd cc

  -- a name that has a text is read, and its tree is printed
  pub named : outcome p o name ≡ Shown text → IsNamed p o name text
  unfolding outcome
  named e = by_answer (reading p name) refl (ap (after_reading name o) (same_reading p name) ∙ e)

-- ---- all that may be asked
all_named : (o : FilterOptions) (candidates : List (List ℕ)) → All (IsNamedWhenShown o) candidates
all_named o xs k d within text asked e = named o.parse o.print (slice_index_or xs k d) text e

pub each_named : (o : FilterOptions) (work : Work) (bytes : Option (List ℕ))
    → IfSome bytes (λ b. All (IsNamedWhenShown o) (candidates work b))
each_named o work None = tt
each_named o work (Some bytes) = all_named o (candidates work bytes)
