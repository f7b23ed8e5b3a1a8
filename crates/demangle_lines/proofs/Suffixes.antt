-- The word of a clone's suffix: it is the last source name before its text is known to be one.
use Rattle.std.proofs.Common.{◌≡◌, ℕ, Bool, true, false, List, [], length, map, codes, cond, Some, refl, ap}
use Rattle.std.specs.Str.{is_utf8}
use Rattle.demangle_core.specs.Core.{Core}
use Rattle.demangle_printing.specs.State.{Fault, Held, NotUtf8, State, Answer, yes, no, bind, byte, TooLong, has_room}
use Rattle.demangle_printing.specs.State.{written, wrote}
use Rattle.demangle_printing.specs.Act.{done, text, fail, act}
use Rattle.demangle_printing.specs.Reader.{text_if}
use Rattle.demangle_printing.specs.Laws.{After, Does}
use Rattle.demangle_meets.specs.Page.{Page}
use Rattle.demangle_meets.specs.Place.{Place}
use Rattle.demangle_meets.specs.Calls.{Steps}
use Rattle.demangle_meets.specs.Meets.{deeper, Ready, Meets}
use Rattle.demangle_meets.proofs.Goes.{goes_as}
use Rattle.demangle_meets.proofs.Acts.{meets_done, meets_fail, meets_named, meets_text}
use Rattle.demangle_meets.proofs.Lines.{meets_input}
use Rattle.demangle_lines.specs.Pieces.{suffix_act}

pub meets_suffix : {p : Place} {a m n b : Page} (bs : List ℕ) → is_utf8 bs ≡ true →
    Steps a m (λ s. yes [] (record s { source = Some bs })) → Steps m n (written (codes " .")) →
    Steps n b (written bs) → Meets p a b (suffix_act bs)
meets_suffix bs e name dot word = meets_named name (meets_text dot (meets_input bs e word meets_done))

-- Bytes that are no text: printing stops behind the dot, whatever the source name is then.
stops_behind : (p : Place) (bs : List ℕ) → is_utf8 bs ≡ false → (v : Bool) (s t : State Core) →
    bind (cond v (yes (map byte (codes " .")) s) (no [] TooLong))
    (λ u. bind (act (deeper p) (text_if (is_utf8 bs) bs) u) (act (deeper p) done))
    ≡ bind (cond v (yes (map byte (codes " .")) t) (no [] TooLong)) (λ u. no [] NotUtf8)
unfolding act
stops_behind p bs e true s t =
    ap (λ v. bind (yes (map byte (codes " .")) s) (λ u. bind (act (deeper p) (text_if v bs) u) (act
    (deeper p) done))) e
stops_behind p bs e false s t = refl

suffix_stops : (p : Place) (bs : List ℕ) → is_utf8 bs ≡ false → (s : State Core) →
    act (deeper p) (suffix_act bs) s ≡ act (deeper p) (text (codes " .") (fail NotUtf8)) s
unfolding act written
suffix_stops p bs e s =
    stops_behind p bs e (has_room s.room (length (codes " ."))) (wrote (codes " .") (record s { source = Some bs }))
    (wrote (codes " .") s)

is_ready : (p : Place) (f : Fault) (aside : List (Held Core)) (x : Answer Core) → After (Ready p (fail f) aside) x
unfolding Does
is_ready p f aside (yes m s) = tt
is_ready p f aside (no m g) = tt

pub meets_no_suffix : {p : Place} {a m b : Page} (bs : List ℕ) → is_utf8 bs ≡ false →
    Steps a m (written (codes " .")) → Steps m b (λ s. no [] NotUtf8) → Meets p a b (suffix_act bs)
unfolding Does
meets_no_suffix {p} {a} {m} {b} bs e dot stop =
    let d : Meets p a b (text (codes " .") (fail NotUtf8)) = meets_text dot (meets_fail stop) in
    record {
      goes = goes_as (λ _. suffix_stops p bs e _) (λ _ _. is_ready p NotUtf8 a.aside _) d.goes;
      same = d.same;
    }
