-- What is printed for an identifier.
use Rattle.std.proofs.Common.{◌≡◌, ℕ, Bool, true, false, List, [], ◌∷◌, codes, ap, ◌∙◌, subst}
use Rattle.demangle_core.specs.Core.{Core}
use Rattle.demangle_grammar.specs.Sound.{bytes_of}
use Rattle.demangle_printing.specs.Act.{line}
use Rattle.demangle_printing.specs.Lines.{line_steps}
use Rattle.demangle_printing.specs.Print.{body}
use Rattle.demangle_printing.specs.Scope.{Scope}
use Rattle.demangle_printing.specs.State.{written}
use Rattle.demangle_printing.specs.Step.{Piece, Step, Test}
use Rattle.demangle_printing.specs.Texts.{is_anonymous}
use Rattle.demangle_meets.specs.Calls.{Steps}
use Rattle.demangle_meets.specs.Meets.{Meets}
use Rattle.demangle_meets.specs.Page.{Page}
use Rattle.demangle_meets.specs.Place.{Place, world_of}
use Rattle.demangle_meets.proofs.Acts.{meets_done, meets_text}
use Rattle.demangle_meets.proofs.Lines.{meets_rest}
use Rattle.demangle_lines.specs.Known.{identifier}
use Rattle.demangle_lines.specs.Pieces.{name_act}
use Rattle.demangle_lines.proofs.Doing.{chooses_no, chooses_yes}

abbrev anonymous : Step
anonymous = Step.say (Piece.quoted (codes "(anonymous namespace)")) Step.done

abbrev itself : Step
itself = Step.named (0 ∷ []) (Step.say (Piece.spelled (0 ∷ [])) Step.done)

pub anonymous_identifier : (p : Place) {a b : Page} (i j : ℕ) (sc : Scope Core) {v : Bool} {bytes : List ℕ} →
    v ≡ is_anonymous bytes → bytes ≡ bytes_of p.refers.input i j → v ≡ true →
    Steps a b (written (codes "(anonymous namespace)")) →
    Meets p a b (body (world_of p.refers) (line (identifier i j)) sc)
unfolding body line_steps
anonymous_identifier p i j sc is here e d =
    meets_rest ((chooses_yes {p = p} {x = identifier i j} {sc = sc} {t = Test.anonymous (0 ∷ [])} {f = anonymous}
    {g = itself} (record { is = λ l. is ∙ ap is_anonymous here }) e (meets_text d meets_done)).rest _) meets_done

pub plain_identifier : (p : Place) {a b : Page} (i j : ℕ) (sc : Scope Core) {v : Bool} {bytes : List ℕ} →
    v ≡ is_anonymous bytes → bytes ≡ bytes_of p.refers.input i j → v ≡ false → Meets p a b (name_act bytes) →
    Meets p a b (body (world_of p.refers) (line (identifier i j)) sc)
unfolding body line_steps
plain_identifier p {a} {b} i j sc is here e d =
    meets_rest ((chooses_no {p = p} {x = identifier i j} {sc = sc} {t = Test.anonymous (0 ∷ [])} {f = anonymous}
    {g = itself} (record { is = λ l. is ∙ ap is_anonymous here }) e
    (subst (λ bs. Meets p a b (name_act bs)) here d)).rest _) meets_done
