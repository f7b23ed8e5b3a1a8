-- What a call of the command says of the words.
use Rattle.std.proofs.Common.{◌≡◌, inl, inr, true, false, List, [], ◌∷◌, refl, sym, ap, ◌∙◌, arith}
use Rattle.clap.specs.Faults.{fault_of, is_simple_and_free}
use Rattle.clap.specs.Kinds.{HasKind, Kinds}
use Rattle.clap.specs.Simple.{App, argument_words, built, is_simple, matches_of}
use Rattle.clap.specs.Values.{kind_of}
use Rattle.clap.specs.Walk.{Row, Text, nothing_held}
use Rattle.clap.specs.declared.error.Error.{Error}
use Rattle.clap.specs.declared.error.kind.ErrorKind.{ErrorKind}
use Rattle.clap.specs.declared.error.kind.ErrorKind.TheVariants as kind
use Rattle.clap.proofs.OnLiterals.{clap_on_literals}
use Rattle.cppfilt_command.specs.Asked.{Mistaken, Asks, judged, judgement_by, has_good_numbers}
use Rattle.cppfilt_command.specs.Asked.{options_in, work_in}
use Rattle.cppfilt_command.specs.Command.{command, text_command}
use Rattle.cppfilt_command.specs.Kinds.{IsOfKind}
use Rattle.cppfilt_command.specs.Refusals.{IsRefusal}
use Rattle.cppfilt_command.specs.declared.refusal.Refusal.{Refusal}
use Rattle.cppfilt_command.specs.declared.refusal.Refusal.TheVariants as refusal
use Rattle.cppfilt_command.proofs.OneFault.{One, of_built}

-- ---- the commands
pub command-simple : is_simple command ≡ true
unfolding clap_on_literals
command-simple = refl

pub command-free : is_simple_and_free command ≡ true
unfolding clap_on_literals
command-free = refl

pub text_command-simple : is_simple text_command ≡ true
unfolding clap_on_literals
text_command-simple = refl

pub text_command-free : is_simple_and_free text_command ≡ true
unfolding clap_on_literals
text_command-free = refl

-- a command without subcommands
abbrev pub IsLeaf : App → Type 0
IsLeaf app = ((built app).subs ≡ []) × ((built app).top.is_leaf ≡ true)

one_fault : (app : App) → IsLeaf app → (all : List Text) → One (fault_of app all)
one_fault app leaf all = of_built (built app) leaf.0 leaf.1 nothing_held (argument_words app all)

-- ---- verdicts
by_kind : (k : ErrorKind) (rows : List Row) (e : ErrorKind) (r : Refusal) → e ≡ k → IsOfKind e r
    → IsRefusal (judged (k ∷ []) rows) r
by_kind kind.DisplayHelp rows e (refusal.Help text) is of = refl
by_kind kind.DisplayHelp rows e (refusal.Usage text) is of = absurd (of.0 is)
by_kind k rows e refusal.OutOfMemory is of = tt
by_kind k rows e (refusal.Help text) is of = absurd cc
by_kind k rows e (refusal.Usage text) is of = refl

by_kinds : (kinds : Kinds) (rows : List Row) (e : Error) (r : Refusal) → One kinds → HasKind kinds e
    → IsOfKind (kind_of e) r → IsRefusal (judged kinds rows) r
unfolding One
by_kinds kinds rows e (refusal.Help text) one (inl memory) of = absurd cc
by_kinds kinds rows e (refusal.Usage text) one (inl memory) of = absurd (of.1 memory)
by_kinds kinds rows e refusal.OutOfMemory one has of = tt
by_kinds [] rows e r one (inr among) of = absurd among
by_kinds (k ∷ []) rows e r one (inr (inl is)) of = by_kind k rows (kind_of e) r is of
by_kinds (k ∷ []) rows e r one (inr (inr among)) of = absurd among
by_kinds (k ∷ l ∷ ks) rows e r one has of = absurd (omega arith)

pub refused : (app : App) → IsLeaf app → (all : List Text) (e : Error) (r : Refusal) → HasKind (fault_of app all) e
    → IsOfKind (kind_of e) r → IsRefusal (judgement_by app all) r
unfolding judgement_by
refused app leaf all e r has of =
    by_kinds (fault_of app all) (matches_of app all) e r (one_fault app leaf all) has of

-- the command takes the words, and all numbers are good
asked-at : (kinds : Kinds) (rows : List Row) → kinds ≡ [] → has_good_numbers rows ≡ true
    → judged kinds rows ≡ Asks (options_in rows) (work_in rows)
asked-at kinds rows none good = rw (none, good) refl

pub asked : (app : App) (all : List Text) (rows : List Row) → fault_of app all ≡ [] → rows ≡ matches_of app all
    → has_good_numbers rows ≡ true → judgement_by app all ≡ Asks (options_in rows) (work_in rows)
unfolding judgement_by
asked app all rows none same good =
    ap (judged (fault_of app all)) (sym same) ∙ asked-at (fault_of app all) rows none good

-- or some number isn't
mistaken-at : (kinds : Kinds) (rows : List Row) → kinds ≡ [] → has_good_numbers rows ≡ false
    → judged kinds rows ≡ Mistaken
mistaken-at kinds rows none bad = rw (none, bad) refl

pub mistaken : (app : App) (all : List Text) (rows : List Row) (r : Refusal) → fault_of app all ≡ []
    → rows ≡ matches_of app all → has_good_numbers rows ≡ false → IsRefusal Mistaken r
    → IsRefusal (judgement_by app all) r
unfolding judgement_by
mistaken app all rows r none same bad is =
    let e = ap (judged (fault_of app all)) (sym same) ∙ mistaken-at (fault_of app all) rows none bad in
    rw e is
