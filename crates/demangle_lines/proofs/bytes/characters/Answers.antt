use Rattle.std.proofs.Common.{◌≡◌, length, rules}
use Rattle.std.proofs.lemmas.List.{nil_from_length}
use Rattle.demangle_meets.proofs.Lines.{remains_all}
use Rattle.demangle_lines.proofs.Characters.{all_written, more_written}
use Rattle.demangle_lines.proofs.bytes.characters.Goals as goal

pub loop-rest-init : goal.loop-rest-init
loop-rest-init g c = λ p. remains_all

pub loop-rest-preserved : goal.loop-rest-preserved
loop-rest-preserved g c =
    λ p. more_written c.args.bytes.now c.loop-rest.rest.now c.front_character-rest.result.now
    (c.loop-rest.invariant p) (c.front_character-rest.ensures.left p)

pub loop-rest-smaller : goal.loop-rest-smaller
loop-rest-smaller g c = c.front_character-rest.ensures.shorter (search rules)

pub returns : goal.returns
returns g c =
    let none : length c.loop-rest.rest.now ≡ 0 = search rules in
    λ p. all_written c.args.bytes.now c.loop-rest.rest.now (nil_from_length c.loop-rest.rest.now none)
    (c.loop-rest.invariant p)
