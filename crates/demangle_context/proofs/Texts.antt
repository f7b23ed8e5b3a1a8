-- A text is written whole.
use Rattle.std.proofs.Common.{◌≡◌, ℕ, ◌<◌, Bool, true, false, List, [], ◌∷◌, length, sym, ◌∙◌, ap, arith}
use Rattle.std.proofs.Common.{Result, Ok, Err}
use Rattle.demangle_printing.specs.State.{has_room, less_room}
use Rattle.demangle_meets.specs.Seen.{Seen, piece, LastChar}
use Rattle.demangle_context.specs.Hears.{Hears, HearsText}
use Rattle.demangle_context.specs.View.{View, state_of}
use Rattle.demangle_context.specs.Calls.{Writing}
use Rattle.demangle_context.specs.declared.error.DemangleError.{DemangleError}
use Rattle.demangle_context.specs.declared.error.DemangleError.TheVariants as error
use Rattle.demangle_context.proofs.Characters.{last_in_text}

abbrev done : Result (Unit {0}) DemangleError
done = Ok tt

abbrev too_long : Result (Unit {0}) DemangleError
too_long = Err error.TooLong

not_empty : {A : Type 0} (s : List ℕ) → 0 < length s → s ≡ [] → A
not_empty [] h e = absurd (omega (arith, h))
not_empty (b ∷ bs) h e = absurd (let k : b ∷ bs ≡ [] = e in cc)

no_room : {A : Type 0} (v : Bool) → v ≡ true → v ≡ false → A
no_room v p q = absurd (let k : true ≡ false = sym p ∙ q in cc)

hears_text : {old new : Seen} (s : List ℕ) → 0 < length s → Hears old new (piece s) → HearsText old new s
hears_text [] h p = absurd (omega (arith, h))
hears_text (b ∷ bs) h p = p

pub writes_all : {S : Type 0} {a b : View S} (s : List ℕ) → 0 < length s → has_room a.room (length s) ≡ true →
    Hears a.seen b.seen (piece s) → LastChar s a.last_char b.last_char →
    b ≡ record a { last_char = b.last_char; room = less_room a.room (length s); seen = b.seen } →
    Writing a b done s
writes_all {S} {a} {b} s h room heard last others =
    record {
      empty = λ e. not_empty s h e;
      written = record {
        state = ap state_of others
            ∙ ap (λ z. record (state_of a) { last = z; room = less_room a.room (length s) })
            (last_in_text a.last_char b.last_char s last);
        last_char = last;
        heard = hears_text s h heard;
        others = others;
      };
      too_long = (λ e. absurd (let k : done ≡ too_long = e in cc), λ e. no_room _ room e);
      refused = tt;
    }
