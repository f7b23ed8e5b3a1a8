use Rattle.std.proofs.lemmas.List.{nil_from_length}
use Rattle.demangle_meets.proofs.Lines.{remains_all}
use Rattle.demangle_lines.proofs.Characters.{byte_written, escape_written, last_written, none_less}
use Rattle.demangle_lines.proofs.Characters.{one_less, two_less}
use Rattle.demangle_lines.proofs.bytes.front_character.Goals as goal

pub returns-in_default : goal.returns-in_default
returns-in_default g c =
    record {
      left = λ p. remains_all;
      shorter = λ h. none_less c.args.bytes.now c.in_default.ensures.cases h;
    }

pub returns-in_default-split_first : goal.returns-in_default-split_first
returns-in_default-split_first g c =
    let e = c.in-Some.ensures.cases.0 in
    record {
      left = λ p. last_written _ _ _ e (nil_from_length _ c.in_default-split_first.ensures.cases) c.character.ensures;
      shorter = λ _. one_less _ _ _ e;
    }

pub returns-in-Some-escaped : goal.returns-in-Some-escaped
returns-in-Some-escaped g c =
    let e = c.in-Some.ensures.cases.0 in
    let f = c.in-Some-split_first.ensures.cases.0 in
    record {
      left = λ p. escape_written _ _ _ _ _ _ e f c.in-Some-escaped.ensures c.text.ensures;
      shorter = λ _. two_less _ _ _ _ _ e f;
    }

pub returns-in-None : goal.returns-in-None
returns-in-None g c =
    let e = c.in-Some.ensures.cases.0 in
    let f = c.in-Some-split_first.ensures.cases.0 in
    record {
      left = λ p. byte_written _ _ _ _ _ e f c.in-None.ensures c.character-in-None.ensures;
      shorter = λ _. one_less _ _ _ e;
    }
