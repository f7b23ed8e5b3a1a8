-- The steps of a context, from what its calls did to the page.
use Rattle.std.proofs.Common.{◌≡◌, ℕ, ◌+◌, ◌≤◌, List, [], true, false, length, map}
use Rattle.std.proofs.Common.{Option, Some, None, refl, sym, ◌∙◌, ap, subst}
use Rattle.demangle_core.specs.Core.{Core}
use Rattle.demangle_printing.specs.State.{Event, byte, Fault, TooLong, State, Answer, yes, no, written, wrote}
use Rattle.demangle_printing.specs.State.{has_room}
use Rattle.demangle_printing.specs.Outcome.{text_of}
use Rattle.demangle_meets.specs.Seen.{Told, LastChar}
use Rattle.demangle_meets.specs.Page.{Page, Trouble, fault, lost, Loss, failed, refused, full, at}
use Rattle.demangle_meets.specs.Place.{Place}
use Rattle.demangle_meets.specs.Goes.{events, Rose, Counts, Goes}
use Rattle.demangle_meets.specs.Calls.{Steps}
use Rattle.demangle_meets.proofs.Heard.{text_bytes, told_nothing}
use Rattle.demangle_meets.proofs.Told.{stand_none}
use Rattle.demangle_meets.proofs.Goes.{no_trouble, counts_same}

-- The counts are as before, and so is what is fixed.
pub record Quiet (a b : Page) : Type 0 where
  pub faults : b.seen.faults ≡ a.seen.faults
  pub refusals : b.seen.refusals ≡ a.seen.refusals
  pub fixed : b.fixed ≡ a.fixed

pub quiet_same : {a : Page} → Quiet a a
quiet_same = record { faults = refl; refusals = refl; fixed = refl }

-- after trouble
pub goes_stopped : {p : Place} {a b : Page} {g : State Core → Answer Core} {S : Type 0} (t : Trouble) →
    a.trouble ≡ Some t → Told a.seen b.seen [] → b.trouble ≡ a.trouble → Quiet a b → Goes p a b g S
goes_stopped {p} {a} {b} t e told same q =
    record {
      done = λ n z. no_trouble t a.trouble n e;
      stopped = λ f n z. no_trouble t a.trouble n e;
      cut = λ c n z. no_trouble t a.trouble n e;
      fits = λ n z v. no_trouble t a.trouble n e;
      fixed = q.fixed;
      faults = counts_same q.faults (λ n z. no_trouble t a.trouble n e);
      refusals = counts_same q.refusals (λ n z. no_trouble t a.trouble n e);
      stays = λ u h. (told, same ∙ h);
    }

-- All of it was done.
pub goes_on : {p : Place} {a b : Page} {g : State Core → Answer Core} {S : Type 0} (m : List Event) →
    a.trouble ≡ None → b.trouble ≡ None → g (at p.level a) ≡ yes m (at p.level b) → Told a.seen b.seen m →
    LastChar (text_of m) a.last_char b.last_char → Quiet a b → Goes p a b g S
goes_on {p} {a} {b} m n o e told last q =
    record {
      done = λ _ _. record { all = m; is = e; told = told; last = last };
      stopped = λ f _ z. no_trouble (fault f) b.trouble o z;
      cut = λ c _ z. no_trouble (lost c) b.trouble o z;
      fits = λ _ z v. no_trouble (lost full) b.trouble o z;
      fixed = q.fixed;
      faults = counts_same q.faults (λ _ z. no_trouble (lost failed) b.trouble o z);
      refusals = counts_same q.refusals (λ _ z. no_trouble (lost refused) b.trouble o z);
      stays = λ t z. no_trouble t a.trouble n z;
    }

-- Nothing is told, and the state is changed so.
pub goes_quietly : {p : Place} {a b : Page} {S : Type 0} (to : State Core → State Core) → b.seen ≡ a.seen →
    b.last_char ≡ a.last_char → b.fixed ≡ a.fixed → b.trouble ≡ a.trouble → to (at p.level a) ≡ at p.level b →
    Goes p a b (λ s. yes [] (to s)) S
goes_quietly {p} {a} {b} {S} to seen last fixed same e = by a.trouble refl
  where
    told : Told a.seen b.seen []
    told = subst (λ z. Told a.seen z []) (sym seen) (told_nothing a.seen)

    quiet : Quiet a b
    quiet = record { faults = ap (λ z. z.faults) seen; refusals = ap (λ z. z.refusals) seen; fixed = fixed }

    by : (o : Option Trouble) → a.trouble ≡ o → Goes p a b (λ s. yes [] (to s)) S
    by None n = goes_on [] n (same ∙ n) (ap (yes []) e) told last quiet
    by (Some t) n = goes_stopped t n told same quiet

pub changes : {a b : Page} (to : State Core → State Core) → b.seen ≡ a.seen → b.last_char ≡ a.last_char →
    b.fixed ≡ a.fixed → b.trouble ≡ a.trouble → b.aside ≡ a.aside → ((l : ℕ) → to (at l a) ≡ at l b) →
    Steps a b (λ s. yes [] (to s))
changes to seen last fixed same aside e =
    record {
      at_place = λ p. goes_quietly to seen last fixed same (e p.level);
      same = record { is = λ _ _. aside };
    }

-- Behind trouble nothing is done.
pub steps_stopped : {a : Page} {g : State Core → Answer Core} (t : Trouble) → a.trouble ≡ Some t → Steps a a g
steps_stopped {a} t e =
    record {
      at_place = λ p. goes_stopped t e (told_nothing a.seen) refl quiet_same;
      same = record { is = λ _ _. refl };
    }

-- It was a fault.
pub goes_wrong : {p : Place} {a b : Page} {g : State Core → Answer Core} {S : Type 0} (f : Fault) → a.trouble ≡ None →
    b.trouble ≡ Some (fault f) → g (at p.level a) ≡ no [] f → Told a.seen b.seen [] → Quiet a b → Goes p a b g S
goes_wrong {p} {a} {b} f n o e told q =
    record {
      done = λ _ z. no_trouble (fault f) b.trouble z o;
      stopped = λ k _ z. record {
        before = [];
        ended = 0;
        is = e ∙ ap (no []) (let same : Some (fault f) ≡ Some (fault k) = sym o ∙ z in cc);
        told = told;
        were_open = stand_none [];
      };
      cut = λ c _ z. absurd (let same : Some (fault f) ≡ Some (lost c) = sym o ∙ z in cc);
      fits = λ _ z v. absurd (let same : Some (fault f) ≡ Some (lost full) = sym o ∙ z in cc);
      fixed = q.fixed;
      faults = counts_same q.faults (λ _ z. let same : Some (fault f) ≡ Some (lost failed) = sym o ∙ z in cc);
      refusals = counts_same q.refusals (λ _ z. let same : Some (fault f) ≡ Some (lost refused) = sym o ∙ z in cc);
      stays = λ t z. no_trouble t a.trouble n z;
    }

-- It was lost, and nothing of it was told.
pub goes_lost : {p : Place} {a b : Page} {g : State Core → Answer Core} {S : Type 0} (c : Loss) → a.trouble ≡ None →
    b.trouble ≡ Some (lost c) → Told a.seen b.seen [] → (c ≡ full → S → a.fixed.reserved ≤ p.level + p.left) →
    b.fixed ≡ a.fixed →
    Counts failed a.seen.faults b.seen.faults None (Some (lost c)) →
    Counts refused a.seen.refusals b.seen.refusals None (Some (lost c)) → Goes p a b g S
goes_lost {p} {a} {b} {g} c n o told fits fixed r q =
    record {
      done = λ _ z. no_trouble (lost c) b.trouble z o;
      stopped = λ f _ z. absurd (let same : Some (lost c) ≡ Some (fault f) = sym o ∙ z in cc);
      cut = λ d _ z. record {
        front = [];
        others = events (g (at p.level a));
        ended = 0;
        is = refl;
        told = told;
        were_open = stand_none [];
      };
      fits = λ _ z v. fits (let same : Some (lost c) ≡ Some (lost full) = sym o ∙ z in cc) v;
      fixed = fixed;
      faults = subst (λ x. Counts failed a.seen.faults b.seen.faults x b.trouble) (sym n)
          (subst (λ y. Counts failed a.seen.faults b.seen.faults None y) (sym o) r);
      refusals = subst (λ x. Counts refused a.seen.refusals b.seen.refusals x b.trouble) (sym n)
          (subst (λ y. Counts refused a.seen.refusals b.seen.refusals None y) (sym o) q);
      stays = λ t z. no_trouble t a.trouble n z;
    }

counts_rose : {why : Loss} {i j : ℕ} → Rose i j → Counts why i j None (Some (lost why))
counts_rose r =
    record {
      rose = λ _ _. r;
      same = λ _ h. absurd (h refl);
      stays = λ t z. absurd (let e : None ≡ Some t = z in cc);
    }

-- The listener failed: its count of these says so.
pub goes_failed : {p : Place} {a b : Page} {g : State Core → Answer Core} {S : Type 0} → a.trouble ≡ None →
    b.trouble ≡ Some (lost failed) → Told a.seen b.seen [] → Rose a.seen.faults b.seen.faults →
    b.seen.refusals ≡ a.seen.refusals → b.fixed ≡ a.fixed → Goes p a b g S
goes_failed n o told r e fixed =
    goes_lost failed n o told (λ h. absurd (let k : failed ≡ full = h in cc)) fixed (counts_rose r)
    (counts_same e (λ _ z. let k : Some (lost failed) ≡ Some (lost refused) = z in cc))

-- The listener had no memory.
pub goes_refused : {p : Place} {a b : Page} {g : State Core → Answer Core} {S : Type 0} → a.trouble ≡ None →
    b.trouble ≡ Some (lost refused) → Told a.seen b.seen [] → b.seen.faults ≡ a.seen.faults →
    Rose a.seen.refusals b.seen.refusals → b.fixed ≡ a.fixed → Goes p a b g S
goes_refused n o told e r fixed =
    goes_lost refused n o told (λ h. absurd (let k : refused ≡ full = h in cc)) fixed
    (counts_same e (λ _ z. let k : Some (lost refused) ≡ Some (lost failed) = z in cc)) (counts_rose r)

-- A stack had no room: some item's level isn't below this one, or there are more levels than it has room for.
pub goes_full : {p : Place} {a b : Page} {g : State Core → Answer Core} {S : Type 0} → a.trouble ≡ None →
    b.trouble ≡ Some (lost full) → Told a.seen b.seen [] → (S → a.fixed.reserved ≤ p.level + p.left) → Quiet a b →
    Goes p a b g S
goes_full n o told h q = goes_lost full n o told (λ _. h) q.fixed
    (counts_same q.faults (λ _ z. let k : Some (lost full) ≡ Some (lost failed) = z in cc))
    (counts_same q.refusals (λ _ z. let k : Some (lost full) ≡ Some (lost refused) = z in cc))

-- ---- texts
pub writes_all : {p : Place} {a b : Page} {S : Type 0} (bs : List ℕ) → a.trouble ≡ None → b.trouble ≡ None →
    has_room a.room (length bs) ≡ true → wrote bs (at p.level a) ≡ at p.level b → Told a.seen b.seen (map byte bs) →
    LastChar bs a.last_char b.last_char → Quiet a b → Goes p a b (written bs) S
unfolding written
writes_all {a = a} {b = b} bs n o h e told last q =
    goes_on (map byte bs) n o (rw h (ap (yes (map byte bs)) e)) told
    (subst (λ z. LastChar z a.last_char b.last_char) (sym (text_bytes bs)) last) q

pub writes_too_long : {p : Place} {a b : Page} {S : Type 0} (bs : List ℕ) → a.trouble ≡ None →
    b.trouble ≡ Some (fault TooLong) → has_room a.room (length bs) ≡ false → Told a.seen b.seen [] → Quiet a b →
    Goes p a b (written bs) S
unfolding written
writes_too_long bs n o h told q = goes_wrong TooLong n o (rw h refl) told q
