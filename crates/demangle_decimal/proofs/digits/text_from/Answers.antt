use Rattle.std.proofs.Common.{◌-◌, drop, arith, take_all, length-drop}
use Rattle.std.proofs.lemmas.Str.{IsUtf8-from_ascii}
use Rattle.demangle_decimal.proofs.digits.text_from.Goals as goal

pub returns-in-Err : goal.returns-in-Err
returns-in-Err c =
    let
    all = take_all (40 - c.args.start) (drop c.args.start c.args.bytes.now)
    (omega (arith, length-drop c.args.start c.args.bytes.now))
    in
    absurd (c.in-Err.ensures.cases.0 (IsUtf8-from_ascii _ (rw all c.requires.ascii)))
