use Rattle.std.proofs.Common.{◌∙◌, ap, sym, None, Some}
use Rattle.std.specs.Option.{option_map}
use Rattle.std.specs.Prelude.{is_some}
use Rattle.clap.specs.Matches.{found_of}
use Rattle.cppfilt_command.proofs.Rows.{good-by, number-by}
use Rattle.cppfilt_command.proofs.number.number_of.Goals as goal

-- the option isn't given
pub returns-in_default-clause-good : goal.returns-in_default-clause-good
returns-in_default-clause-good c =
    let found = found_of c.args.matches.now in
    let reads = ap (option_map (λ s. s.now)) (sym c.in_default.is) ∙ c.get_str.ensures in
    let number = number-by c.args.most found c.args.option.now None reads in
    (good-by c.args.most found c.args.option.now None reads, sym number)

-- its value is a number in the range
pub returns-in-Some-number_upto-clause-good : goal.returns-in-Some-number_upto-clause-good
returns-in-Some-number_upto-clause-good c =
    let found = found_of c.args.matches.now in
    let text = Some c.in-Some.text in
    let reads = ap (option_map (λ s. s.now)) (sym c.in-Some.is) ∙ c.get_str.ensures in
    let number = sym c.number_upto.ensures.value ∙ c.in-Some-number_upto.is in (
      good-by c.args.most found c.args.option.now text reads ∙ ap is_some number,
      sym number ∙ sym (number-by c.args.most found c.args.option.now text reads),
    )

-- or it isn't
pub returns-in-None-clause-bad : goal.returns-in-None-clause-bad
returns-in-None-clause-bad c =
    let found = found_of c.args.matches.now in
    let reads = ap (option_map (λ s. s.now)) (sym c.in-Some.is) ∙ c.get_str.ensures in
    let none = sym c.number_upto.ensures.value ∙ c.in-None.is in
    good-by c.args.most found c.args.option.now (Some c.in-Some.text) reads ∙ ap is_some none
