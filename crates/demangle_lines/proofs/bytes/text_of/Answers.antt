use Rattle.std.proofs.Common.{Bool, true, false, refl, ◌≡◌, ℕ, List}
use Rattle.std.specs.Str.{is_utf8}
use Rattle.std.proofs.lemmas.Str.{IsUtf8-from_is_utf8, is_utf8-from_IsUtf8}
use Rattle.demangle_lines.proofs.bytes.text_of.Goals as goal

pub returns-in-Ok : goal.returns-in-Ok
returns-in-Ok c =
    (c.in-Ok.ensures.cases.0, is_utf8-from_IsUtf8 c.args.bytes.now c.in-Ok.ensures.cases.1)

not_utf8 : (bs : List ℕ) (v : Bool) → is_utf8 bs ≡ v → (is_utf8 bs ≡ true → ⊥) → is_utf8 bs ≡ false
not_utf8 bs true e n = absurd (n e)
not_utf8 bs false e n = e

pub returns-in-Err : goal.returns-in-Err
returns-in-Err c =
    not_utf8 c.args.bytes.now (is_utf8 c.args.bytes.now) refl
    (λ e. c.in-Err.ensures.cases.0 (IsUtf8-from_is_utf8 c.args.bytes.now e))
