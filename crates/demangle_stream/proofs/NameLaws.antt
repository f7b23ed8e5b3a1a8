-- Laws on a run that is looked at, and on what was appended.
use Rattle.std.proofs.Common.{◌≡◌, ℕ, suc, zero, ◌-◌, ◌≤◌, ◌<◌, Bool, true, false, nat_le, List}
use Rattle.std.proofs.Common.{[], ◌∷◌, ◌++◌, length, take, drop, get_or, refl, sym, ap, ◌∙◌, append_assoc, append-nil}
use Rattle.std.proofs.Common.{arith, rules, tests, take-append-drop, Ok, Err}
use Rattle.std.proofs.lemmas.Grind.{common_steps}
use Rattle.std.proofs.Math.Bool.{and-false}
use Rattle.std.specs.Prelude.{Result}
use Rattle.std.specs.Result.{IsErr, OnOk}
use Rattle.demangle_printing.specs.Outcome.{Options, Outcome, Shown, NotRead, NotPrinted, outcome}
use Rattle.demangler.specs.Answer.{answer_of}
use Rattle.demangler.specs.declared.fault.SymbolFault.{SymbolFault}
use Rattle.demangle_stream.specs.Appended.{Appended, Grown}
use Rattle.demangle_stream.specs.Replaced.{replaced}
use Rattle.demangle_stream.specs.Runs.{run_len}
use Rattle.demangle_stream.specs.Shown.{becomes, dots_of, is_named, name_len, name_of, run_limit, text_or}
use Rattle.demangle_stream.specs.Staying.{starts, stays}
use Rattle.demangle_stream.proofs.PieceLaws.{behind-front, front-run, replaced-run, run-is_underscore}
use Rattle.demangle_stream.proofs.StayLaws.{replaced-stays}

-- ---- what was appended
pub grown-none : (a : List ℕ) → Grown a a
grown-none a = ([], sym (append-nil a))

pub grown-by : (a b m : List ℕ) → b ≡ a ++ m → Grown a b
grown-by a b m e = (m, e)

pub grown-then : (a b c : List ℕ) → Grown a b → Grown b c → Grown a c
grown-then a b c p q = (p.0 ++ q.0, q.1 ∙ ap (λ l. l ++ q.0) p.1 ∙ append_assoc a p.0 q.0)

pub grown-same : (a b c : List ℕ) → Grown a b → c ≡ b → Grown a c
grown-same a b c p e = (p.0, e ∙ p.1)

pub appended-refused : {T E : Type 0} (r : Result T E) (a b due : List ℕ) → IsErr r → Grown a b → Appended r a b due
appended-refused (Ok x) a b due is g = absurd cc
appended-refused (Err e) a b due is g = g

-- ---- a run that is looked at
pub becomes-unnamed : (p : ℕ) (o : Options) (r name : List ℕ) (n : ℕ) → name ≡ take n r → n ≡ name_len r
    → is_named name ≡ false → becomes p o r ≡ r
unfolding becomes
becomes-unnamed p o r name n front size other =
    let same : name_of r ≡ name = ap (λ k. take k r) (sym size) ∙ sym front in
    rw (same, other, and-false _) refl

becomes-asked : (p : ℕ) (o : Options) (r name dots : List ℕ) (n : ℕ) → name ≡ take n r → dots ≡ drop n r
    → n ≡ name_len r → length r ≤ run_limit → is_named name ≡ true
    → becomes p o r ≡ text_or r dots (outcome p o name)
unfolding becomes
becomes-asked p o r name dots n front back size short named =
    let same : name_of r ≡ name = ap (λ k. take k r) (sym size) ∙ sym front in
    let rest : dots_of r ≡ dots = ap (λ k. drop k r) (sym size) ∙ sym back in
    let within : nat_le (length r) run_limit ≡ true = search (rules, tests) in
    rw (within, same, rest, named) refl

shown-text : (out : Outcome) (other dots text : List ℕ) → answer_of out ≡ Ok text
    → text_or other dots out ≡ text ++ dots
shown-text (Shown t) other dots text e = ap (λ l. l ++ dots) (let h : t ≡ text = cc in h)
shown-text (NotRead k) other dots text e = absurd cc
shown-text (NotPrinted f) other dots text e = absurd cc

pub becomes-text : (p : ℕ) (o : Options) (r name dots text : List ℕ) (n : ℕ) → name ≡ take n r → dots ≡ drop n r
    → n ≡ name_len r → length r ≤ run_limit → is_named name ≡ true → answer_of (outcome p o name) ≡ Ok text
    → becomes p o r ≡ text ++ dots
becomes-text p o r name dots text n front back size short named answer =
    becomes-asked p o r name dots n front back size short named
    ∙ shown-text (outcome p o name) r dots text answer

refused-stays : (out : Outcome) (f : SymbolFault) (other dots : List ℕ) → answer_of out ≡ Err f
    → text_or other dots out ≡ other
refused-stays (Shown t) f other dots e = absurd cc
refused-stays (NotRead k) f other dots e = refl
refused-stays (NotPrinted g) f other dots e = refl

pub becomes-refused : (p : ℕ) (o : Options) (r name dots : List ℕ) (f : SymbolFault) (n : ℕ) → name ≡ take n r
    → dots ≡ drop n r → n ≡ name_len r → length r ≤ run_limit → is_named name ≡ true
    → answer_of (outcome p o name) ≡ Err f → becomes p o r ≡ r
becomes-refused p o r name dots f n front back size short named answer =
    becomes-asked p o r name dots n front back size short named
    ∙ refused-stays (outcome p o name) f r dots answer

-- the answer is this, where there was memory for a run that has no text
pub appended-refusal : {T E : Type 0} (r : Result T E) (a b run due : List ℕ) (P : Type 0) → Appended r a b run
    → OnOk r P → (P → due ≡ run) → Appended r a b due
appended-refusal (Ok x) a b run due P g on same = g ∙ ap (λ l. a ++ l) (sym (same on))
appended-refusal (Err e) a b run due P g on same = g

-- ---- from name to name
get-drop : (l : List ℕ) (at : ℕ) → get_or (drop at l) 0 0 ≡ get_or l at 0
get-drop l zero = refl
get-drop [] (suc n) = refl
get-drop (x ∷ xs) (suc n) = get-drop xs n

some-at : (l : List ℕ) (t : Bool) → get_or l 0 0 ≡ 95 → 1 ≤ run_len l
some-at [] t e = absurd (omega arith)
some-at (x ∷ xs) t e = rw (e, run-is_underscore) (omega arith)

module _ (p : ℕ) (o : Options) where
  -- the run that begins with `_`, and what stands before and behind it
  pub next-name : (behind staying named run after : List ℕ) (at n : ℕ) → staying ≡ take at behind
      → named ≡ drop at behind → run ≡ take n named → after ≡ drop n named → n ≡ run_len named
      → stays true (take at behind) ≡ true → starts true (take at behind) ≡ true
      → replaced p o behind ≡ (staying ++ becomes p o run) ++ replaced p o after
  next-name behind staying named run after at n e f g h size stay start =
      let named' = drop at behind in
      let k = run_len named' in
      let parts : take k named' ++ drop k named' ≡ named' = take-append-drop k named' in
      let size' : n ≡ k = size ∙ ap run_len f in
      let run' : run ≡ take k named' = g ∙ ap (λ l. take n l) f ∙ ap (λ m. take m named') size' in
      let after' : after ≡ drop k named' = h ∙ ap (λ l. drop n l) f ∙ ap (λ m. drop m named') size' in
      rw (e, run', after')
      (ap (replaced p o) (sym (take-append-drop at behind))
      ∙ replaced-stays p o (take at behind) named' stay start
      ∙ ap (λ l. take at behind ++ l)
      (ap (replaced p o) (sym parts)
      ∙ replaced-run p o (take k named') (drop k named') (front-run named') (behind-front named'))
      ∙ sym (append_assoc (take at behind) (becomes p o (take k named')) (replaced p o (drop k named'))))

  pub names-further : (whole behind staying run after out0 out1 out2 out3 : List ℕ)
      → out1 ++ replaced p o behind ≡ out0 ++ replaced p o whole → out2 ≡ out1 ++ staying
      → out3 ≡ out2 ++ becomes p o run
      → replaced p o behind ≡ (staying ++ becomes p o run) ++ replaced p o after
      → out3 ++ replaced p o after ≡ out0 ++ replaced p o whole
  names-further whole behind staying run after out0 out1 out2 out3 so_far e f next =
      ap (λ l. l ++ replaced p o after)
      (f ∙ ap (λ l. l ++ becomes p o run) e ∙ append_assoc out1 staying (becomes p o run))
      ∙ append_assoc out1 (staying ++ becomes p o run) (replaced p o after)
      ∙ ap (λ l. out1 ++ l) (sym next) ∙ so_far

pub shorter : (behind named after : List ℕ) (at n : ℕ) → named ≡ drop at behind → after ≡ drop n named
    → n ≡ run_len named → at < length behind → get_or behind at 0 ≡ 95 → length after < length behind
shorter behind named after at n f h size within is =
    let some : 1 ≤ run_len (drop at behind) = some-at (drop at behind) true (get-drop behind at ∙ is) in
    let size' : n ≡ run_len (drop at behind) = size ∙ ap run_len f in
    let l1 : length (drop at behind) ≡ length behind - at = grind (arith, common_steps) in
    let l2 : length (drop n named) ≡ length named - n = grind (arith, common_steps) in
    let l3 : length named ≡ length (drop at behind) = ap length f in
    let l4 : length after ≡ length (drop n named) = ap length h in
    omega arith
