-- Steps of a line, each with what was done for it.
use Rattle.std.proofs.Common.{◌≡◌, ℕ, Bool, true, false, ◌&&◌, ◌||◌, not, ◌+◌, ◌<◌, ◌≤◌, List, [], ◌∷◌, length, drop, arith}
use Rattle.std.proofs.Common.{Option, Some, None, option_map, refl, sym, ap, ◌∙◌, subst}
use Rattle.std.proofs.lemmas.List.{drop_all}
use Rattle.demangle_core.specs.Core.{Core}
use Rattle.demangle_printing.specs.World.{nth}
use Rattle.demangle_printing.specs.Scope.{Scope}
use Rattle.demangle_printing.specs.Act.{Act, ask, block, done, with_params}
use Rattle.demangle_printing.specs.State.{params, is_on, yes, flagged}
use Rattle.demangle_printing.specs.Step.{Test, Step}
use Rattle.demangle_printing.specs.Reader.{holds, run, chosen}
use Rattle.demangle_meets.specs.Page.{Page, at}
use Rattle.demangle_meets.specs.Place.{Place, Refers, world_of}
use Rattle.demangle_meets.specs.Calls.{Pushes, Steps}
use Rattle.demangle_meets.specs.Meets.{Closes, Meets, Remains}
use Rattle.demangle_meets.proofs.Acts.{meets_done, meets_block, meets_ask}
use Rattle.demangle_meets.proofs.Around.{meets_with_params}
use Rattle.demangle_meets.proofs.Lines.{meets_whole, remains_all, then_block}
use Rattle.demangle_lines.specs.Does.{Chooses, Holds, Runs, Says}
use Rattle.demangle_lines.specs.Pieces.{each_of}
use Rattle.demangle_lines.proofs.Lists as lists
use Rattle.demangle_lines.proofs.Lists.{At}

-- a line that is known
pub runs_as : {p : Place} {a b : Page} {x : Core} {sc : Scope Core} {s t : Step} → s ≡ t → Runs p a b x sc t →
    Runs p a b x sc s
runs_as {p} {a} {b} {x} {sc} e d = subst (λ z. Runs p a b x sc z) (sym e) d

-- ---- choices
pub always : {r : Refers} {a : Page} {x : Core} {t : Test} {v : Bool} → Says r x t v → Holds r a x t v
always {a = a} d = record { is = λ l. d.is (at l a) }

pub chooses_yes : {p : Place} {a b : Page} {x : Core} {sc : Scope Core} {t : Test} {f g : Step} {v : Bool} →
    Holds p.refers a x t v → v ≡ true → Meets p a b (run (world_of p.refers) (Some x) sc f) →
    Chooses p a b x sc t f g
chooses_yes {p} {x = x} {sc = sc} {f = f} {g = g} h e d = record {
  rest = λ k. record {
    rest = λ o q. meets_ask
        (λ _. ap (λ z. chosen z (run (world_of p.refers) (Some x) sc f) (run (world_of p.refers) (Some x) sc g))
        (sym (h.is p.level) ∙ e)) d q;
  };
}

pub chooses_no : {p : Place} {a b : Page} {x : Core} {sc : Scope Core} {t : Test} {f g : Step} {v : Bool} →
    Holds p.refers a x t v → v ≡ false → Meets p a b (run (world_of p.refers) (Some x) sc g) →
    Chooses p a b x sc t f g
chooses_no {p} {x = x} {sc = sc} {f = f} {g = g} h e d = record {
  rest = λ k. record {
    rest = λ o q. meets_ask
        (λ _. ap (λ z. chosen z (run (world_of p.refers) (Some x) sc f) (run (world_of p.refers) (Some x) sc g))
        (sym (h.is p.level) ∙ e)) d q;
  };
}

pub both_on : {r : Refers} {a : Page} {x : Core} {s t : Test} {u v : Bool} → Holds r a x s u → u ≡ true →
    Holds r a x t v → Holds r a x (Test.both s t) v
both_on {r} {a} {x} {s} {t} d e f =
    record { is = λ l. f.is l ∙ ap (λ z. z && holds (world_of r) (Some x) t (at l a)) (sym e ∙ d.is l) }

pub both_off : {r : Refers} {a : Page} {x : Core} {s t : Test} {u : Bool} → Holds r a x s u → u ≡ false →
    Holds r a x (Test.both s t) false
both_off {r} {a} {x} {s} {t} d e =
    record { is = λ l. ap (λ z. z && holds (world_of r) (Some x) t (at l a)) (sym e ∙ d.is l) }

pub either_on : {r : Refers} {a : Page} {x : Core} {s t : Test} {u : Bool} → Holds r a x s u → u ≡ true →
    Holds r a x (Test.either s t) true
either_on {r} {a} {x} {s} {t} d e =
    record { is = λ l. ap (λ z. z || holds (world_of r) (Some x) t (at l a)) (sym e ∙ d.is l) }

pub either_off : {r : Refers} {a : Page} {x : Core} {s t : Test} {u v : Bool} → Holds r a x s u → u ≡ false →
    Holds r a x t v → Holds r a x (Test.either s t) v
either_off {r} {a} {x} {s} {t} d e f =
    record { is = λ l. f.is l ∙ ap (λ z. z || holds (world_of r) (Some x) t (at l a)) (sym e ∙ d.is l) }

pub isnt_as : {r : Refers} {a : Page} {x : Core} {s : Test} {u : Bool} → Holds r a x s u →
    Holds r a x (Test.isnt s) (not u)
isnt_as d = record { is = λ l. ap not (d.is l) }

-- ---- with parameters
pub meets_params : {p : Place} {a m n o b : Page} {v : Bool} {f k : Act Core} → v ≡ is_on params a.flags →
    Steps a m (λ s. yes [] (flagged params true s)) → Meets p m n f →
    Steps n o (λ s. yes [] (flagged params v s)) → Meets p o b k → Meets p a b (with_params f k)
meets_params {n = n} {o = o} e d q c r =
    meets_with_params d q (subst (λ z. Steps n o (λ s. yes [] (flagged params z s))) e c) r

-- ---- each tree of a list
pub each_first : {p : Place} {a : Page} (s : Step) (xs : List Core) (sc : Scope Core) →
    Remains p a a (each_of (world_of p.refers) s xs sc) (each_of (world_of p.refers) s (drop 0 xs) sc)
each_first s xs sc = remains_all

-- the one at a number is that which is done
one_there : (n : ℕ) (xs : List Core) (x : Core) (t : At n xs) → Some x ≡ nth n xs → t.here ≡ x
one_there n xs x t e = let k : Some x ≡ Some t.here = e ∙ t.is in cc

pub each_next : {p : Place} {a c d : Page} {f : Act Core} (s : Step) (n : ℕ) (xs : List Core) (x : Core)
    (sc : Scope Core) → n < length xs → Some x ≡ nth n xs →
    Remains p a c f (each_of (world_of p.refers) s (drop n xs) sc) → Runs p c d x sc s →
    Remains p a d f (each_of (world_of p.refers) s (drop (n + 1) xs) sc)
each_next {p} {a} {c} {d} {f} s n xs x sc h e w q =
    let t = lists.at n xs h in
    then_block
    (subst (λ y. Remains p a c f (block (run (world_of p.refers) (Some y) sc s)
    (each_of (world_of p.refers) s (drop (n + 1) xs) sc))) (one_there n xs x t e)
    (subst (λ ys. Remains p a c f (each_of (world_of p.refers) s ys sc)) t.from w)) q.meets

pub each_over : {p : Place} {a c : Page} {f : Act Core} (s : Step) (n : ℕ) (xs : List Core) (sc : Scope Core) →
    length xs ≤ n → Remains p a c f (each_of (world_of p.refers) s (drop n xs) sc) → Meets p a c f
each_over {p} {a} {c} {f} s n xs sc h w =
    meets_whole (subst (λ ys. Remains p a c f (each_of (world_of p.refers) s ys sc)) (drop_all n xs h) w)

-- a list has a tree at each number below its length
pub each_never : {p : Place} {a c : Page} {f : Act Core} (n : ℕ) (xs : List Core) → n < length xs → None ≡ nth n xs →
    Meets p a c f
each_never n xs h e = let t = lists.at n xs h in let k = e ∙ t.is in absurd (cc k)
