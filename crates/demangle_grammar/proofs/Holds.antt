-- What holds of an answer where it is a Yes.
use Rattle.std.specs.Prelude.{◌≡◌, true, false}
use Rattle.std.proofs.Common.{refl}
use Rattle.demangle_grammar.specs.Tree.{trees, Tree}
use Rattle.demangle_grammar.specs.Reading.{State, Answer, Yes, No, Deep, next_do, or_else, answer, go_on, hard, soft}
use Rattle.demangle_text.specs.Kind.{Cause}

abbrev pub Holds : (State → Tree → Type 0) → Answer Tree → Type 0
Holds P (Yes s a) = P s a
Holds P (No h k) = Unit {0}
Holds P Deep = Unit {0}

pub self : (x : Answer Tree) → Holds (λ s a. x ≡ Yes s a) x
self (Yes s a) = refl
self (No h k) = tt
self Deep = tt

pub weaker : {P Q : State → Tree → Type 0} (x : Answer Tree) → ((s : State) (a : Tree) → P s a → Q s a) → Holds P x → Holds Q x
weaker (Yes s a) f h = f s a h
weaker (No h k) f p = tt
weaker Deep f p = tt

pub holds_next : {P : State → Tree → Type 0} (Q : State → Tree → Type 0) (x : Answer Tree) (go : State → Tree → Answer Tree) → Holds P x → ((s : State) (a : Tree) → P s a → Holds Q (go s a)) → Holds Q (next_do trees answer go_on go x)
holds_next Q (Yes s a) go h f = f s a h
holds_next Q (No h k) go p f = tt
holds_next Q Deep go p f = tt

pub holds_or : (P : State → Tree → Type 0) (x : Answer Tree) (go : Cause → Answer Tree) → Holds P x → ((k : Cause) → Holds P (go k)) → Holds P (or_else trees answer go_on go x)
holds_or P (Yes s a) go h f = h
holds_or P (No true k) go p f = tt
holds_or P (No false k) go p f = f k
holds_or P Deep go p f = tt

pub holds_hard : (P : State → Tree → Type 0) (x : Answer Tree) → Holds P x → Holds P (hard x)
holds_hard P (Yes s a) h = h
holds_hard P (No h k) p = tt
holds_hard P Deep p = tt

pub holds_soft : (P : State → Tree → Type 0) (x : Answer Tree) → Holds P x → Holds P (soft x)
holds_soft P (Yes s a) h = h
holds_soft P (No h k) p = tt
holds_soft P Deep p = tt
