-- From what the line of a tree answers, in a context that has just begun, to what is told.
use Rattle.std.specs.Prelude.{◌≡◌, ℕ, ◌+◌, ◌-◌, List, [], ◌++◌, Some, None, Ok, Err}
use Rattle.std.proofs.Common.{refl, sym, subst, ap, ◌∙◌, arith, inl}
use Rattle.demangle_core.specs.Core.{Core}
use Rattle.demangle_core.specs.Table.{Table}
use Rattle.demangle_printing.specs.State.{Event, State, Answer, yes, no}
use Rattle.demangle_printing.specs.Act.{line}
use Rattle.demangle_printing.specs.Print.{print}
use Rattle.demangle_printing.specs.Trees.{with_table}
use Rattle.demangle_printing.specs.Outcome.{Options, printed, first_state}
use Rattle.demangle_printing.specs.Laws.{AreClosed, open_behind, told, IsFitting}
use Rattle.demangle_meets.specs.Seen.{Seen, Told}
use Rattle.demangle_meets.specs.Page.{Page}
use Rattle.demangle_meets.specs.Place.{world_of}
use Rattle.demangle_meets.specs.Goes.{events, ends}
use Rattle.demangle_meets.specs.Meets.{deeper}
use Rattle.demangle_context.specs.PageOf.{page, page_of}
use Rattle.demangle_context.specs.View.{View, view, first_view}
use Rattle.demangle_context.specs.declared.context.Context.{Context}
use Rattle.demangle_context.specs.declared.error.DemangleError.{DemangleError}
use Rattle.demangle_context.specs.declared.error.DemangleError.TheVariants as error
use Rattle.demangle_lines_tied.specs.PlaceOf.{place_in}
use Rattle.demangle_lines_print.specs.Demangled.{Reply, state, Answers}
use Rattle.demangle_lines_print.specs.Demangled as print
use Rattle.demangle_lines_print.specs.Telling.{Telling, telling, Breaks, Stops, Ends, Tells}

-- ---- where printing begins
no_items_fit : (o : Options) → IsFitting [] (first_state {X = Core} o)
no_items_fit o v = omega arith

-- the line of a tree at the place of a context
abbrev line_in : Core → Page → Answer Core
line_in x a = deeper (place_in a.fixed) (line x) [] (state a)

module _ {S : Type 0} (table : S → Table) where
  -- the page of a context that has just begun
  abbrev first_page : Options → S → List ℕ → Seen → (name : ℕ) → Page
  first_page o subs input old name = page_of table (first_view o subs input old name)

  -- the line of the tree is its printing
  line_is : (o : Options) (subs : S) (input : List ℕ) (old : Seen) (name : ℕ) (x : Core) →
      line_in x (first_page o subs input old name) ≡ printed (with_table (table subs) input) o x
  line_is o subs input old name x =
      let a = first_page o subs input old name in
      ap (λ n. print (world_of a.fixed.refers) n (line x) [] (first_state o)) (less_nothing (o.limit - 1))
    where
      less_nothing : (n : ℕ) → n - 0 ≡ n
      less_nothing n = omega arith

-- ---- what is told
events_are : (x : Answer Core) → events x ≡ (told x).0
events_are (yes m s) = refl
events_are (no m f) = refl

module _ (old new : Seen) (x : Answer Core) where
  all_told : (m : List Event) (s : State Core) → x ≡ yes m s → Told old new m →
      (told x).1 ≡ None × Told old new (told x).0
  all_told m s e t = (ap (λ v. (told v).1) e, subst (Told old new) (sym (ap (λ v. (told v).0) e)) t)

breaks_so : {a b : Page} {x : Answer Core} → print.Breaks a b x → Breaks a.seen b.seen (told x)
breaks_so {a} {b} {x} d =
    record {
      front = d.front;
      others = d.others;
      ended = d.ended;
      stand_open = d.stand_open;
      is = sym (events_are x) ∙ d.is;
      told = d.told;
      are_open = d.are_open;
      no_more = d.no_more;
    }

stops_so : {a b : Page} {x : Answer Core} {e : DemangleError} → print.StopsAt a b x e → Stops a.seen b.seen (told x) e
stops_so {a} {b} {x} {e} d =
    let before_is : d.told.before ≡ (told x).0 = sym (ap (λ v. (told v).0) d.told.is) in
    record {
      fault = d.fault;
      is = d.is;
      met = ap (λ v. (told v).1) d.told.is;
      ended = d.told.ended;
      stand_open = d.told.stand_open;
      told = subst (λ m. Told a.seen b.seen (m ++ ends d.told.ended)) before_is d.told.told;
      are_open =
          subst (λ m. open_behind m (Some 0) ≡ Some d.told.stand_open) before_is
          (d.told.are_open 0 ∙ ap (λ n. Some n) (plus_nothing d.told.stand_open));
      no_more = d.told.no_more;
    }
  where
    plus_nothing : (n : ℕ) → n + 0 ≡ n
    plus_nothing n = omega arith

-- in a context without items
ends_so : (a b : Page) (x : Answer Core) → IsFitting a.aside (state a) → (r : Reply) → print.Ends a b x r →
    Ends a.seen b.seen a.fixed.limit (told x) r
ends_so a b x f (Ok v) d =
    let t = all_told a.seen b.seen x d.told.all _ d.told.is d.told.told in
    record {
      no_fault = t.0;
      told = t.1;
      are_closed =
          subst AreClosed (sym (ap (λ v. (told v).0) d.told.is))
          d.told.are_closed;
    }
ends_so a b x f (Err error.Sink) d = record { breaks = breaks_so d.breaks; rose = d.rose }
ends_so a b x f (Err error.OutOfMemory) d = record { breaks = breaks_so d.breaks; rose = λ l. inl (d.rose f l) }
ends_so a b x f (Err error.TooMuchRecursion) d = stops_so d
ends_so a b x f (Err error.TooLong) d = stops_so d
ends_so a b x f (Err error.NotUtf8) d = stops_so d
ends_so a b x f (Err (error.Reference e)) d = stops_so d

module _ {S : Type 0} (table : S → Table) where
  tells : (o : Options) (subs : S) (input : List ℕ) (old : Seen) (name : ℕ) (b : Page) (x : Core) (r : Reply) →
      Answers (first_page table o subs input old name) b (line_in x (first_page table o subs input old name)) r →
      Tells old b.seen o.limit (telling (table subs) input o x) r
  tells o subs input old name b x r d =
      let a = first_page table o subs input old name in
      let e : Answers a b (printed (with_table (table subs) input) o x) r =
      subst (λ y. Answers a b y r) (line_is table o subs input old name x) d in
      record { ends = ends_so a b _ (no_items_fit o) r e.ends; faults = e.faults; refusals = e.refusals }

  -- ---- from a context that has just begun to its end
  module _ {T W : Type 0} (tree : T → Core) (seen : W → Seen) (o : Options) (x : Core) (c d : Context T S W)
      {subs : S} {input : List ℕ} {old : Seen} {name : ℕ} {r : Reply}
      (begins : view tree seen c ≡ first_view o subs input old name)
      (answers : Answers (page tree table seen c) (page tree table seen d) (line_in x (page tree table seen c)) r)
    where
      answers_first : Answers (first_page table o subs input old name) (page_of table (view tree seen d))
          (line_in x (first_page table o subs input old name)) r
      unfolding page
      answers_first =
          subst (λ (v : View S). Answers (page_of table v) (page_of table (view tree seen d))
          (line_in x (page_of table v)) r) begins answers

      -- To the listener that is given back: `final` is what stands behind the reference to the listener at the end, and
      -- the reference that the context gave back is that one.
      pub tells_told : {back : ℕ} {now final : W} → back ≡ (view tree seen d).name →
          seen now ≡ (view tree seen d).seen → (name ≡ back → final ≡ now) →
          Tells old (seen final) o.limit (telling (table subs) input o x) r
      tells_told {back} {now} {final} same told_is kept =
          let same_name : name ≡ back = sym (ap (λ f. f.listener) answers_first.fixed) ∙ sym same in
          subst (λ n. Tells old n o.limit (telling (table subs) input o x) r)
          (sym (ap seen (kept same_name) ∙ told_is))
          (tells o subs input old name (page_of table (view tree seen d)) x r answers_first)

      -- the limit is the same
      pub same_limit : (view tree seen d).items.limit ≡ o.limit
      same_limit = ap (λ f. f.limit) answers_first.fixed
