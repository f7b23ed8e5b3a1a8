-- What a listener was told by one call.
use Rattle.std.proofs.Common.{ℕ, ◌<◌, List, [], ◌∷◌, map, length, Option, Some, None, refl, sym, ◌∙◌}
use Rattle.std.proofs.Common.{subst, append-nil, arith}
use Rattle.demangle_printing.specs.State.{Kind, byte, opened, closed}
use Rattle.demangle_meets.specs.Seen.{piece, begins, ends, Seen, Grows, Told}
use Rattle.demangle_meets.proofs.Heard.{text_bytes, told_nothing}
use Rattle.demangle_context.specs.Hears.{Stays, Hears, HearsText, Fails, LacksMemory}

grows_none : {A : Type 0} (old new : Option (List A)) → Stays old new → Grows old new []
grows_none old None e = tt
grows_none None (Some ys) e = absurd e
grows_none (Some xs) (Some ys) e = e ∙ sym (append-nil xs)

pub told_text : {a b : Seen} (s : List ℕ) → HearsText a b s → Told a b (map byte s)
told_text {a} {b} [] e = subst (λ w. Told a w []) (sym e) (told_nothing a)
told_text {a} {b} (x ∷ xs) p =
    record {
      calls = piece (x ∷ xs) ∷ [];
      are = append-nil (map byte (x ∷ xs));
      have_text = (positive xs, tt);
      text = subst (Grows a.text b.text) (sym (text_bytes (x ∷ xs))) p.text;
      heard = p.calls;
    }
  where
    positive : (ys : List ℕ) → 0 < length (x ∷ ys)
    positive ys = omega arith

pub told_begins : {a b : Seen} {k : Kind} → Hears a b (begins k) → Told a b (opened k ∷ [])
told_begins {a} {b} {k} p =
    record {
      calls = begins k ∷ [];
      are = refl;
      have_text = tt;
      text = grows_none a.text b.text p.text;
      heard = p.calls;
    }

pub told_ends : {a b : Seen} → Hears a b ends → Told a b (closed ∷ [])
told_ends {a} {b} p =
    record {
      calls = ends ∷ [];
      are = refl;
      have_text = tt;
      text = grows_none a.text b.text p.text;
      heard = p.calls;
    }

pub told_failed : {a b : Seen} → Fails a b → Told a b []
told_failed {a} {b} p =
    record {
      calls = [];
      are = refl;
      have_text = tt;
      text = grows_none a.text b.text p.text;
      heard = grows_none a.calls b.calls p.calls;
    }

pub told_refused : {a b : Seen} → LacksMemory a b → Told a b []
told_refused {a} {b} p =
    record {
      calls = [];
      are = refl;
      have_text = tt;
      text = grows_none a.text b.text p.text;
      heard = grows_none a.calls b.calls p.calls;
    }
