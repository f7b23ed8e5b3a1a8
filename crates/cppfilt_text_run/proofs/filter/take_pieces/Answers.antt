use Rattle.std.proofs.Common.{◌≡◌, ◌++◌, true, eqb, ℕ, rules, sym, take-append-drop, tests}
use Rattle.std.proofs.lemmas.List.{nil_from_length}
use Rattle.cppfilt_ends.proofs.MoveLaws.{refusal}
use Rattle.cppfilt_text_run.proofs.RunLaws.{taken-behind, taking-more, taking-refused}
use Rattle.cppfilt_text_run.proofs.filter.take_pieces.Goals as goal

-- one piece more
pub loop-left-preserved : goal.loop-left-preserved
loop-left-preserved g c =
    let piece = c.split_at.result.0.now in
    let behind = c.split_at.result.1.now in
    let parts : c.loop-left.left.now ≡ piece ++ behind =
    rw (c.split_at.ensures.front, c.split_at.ensures.back) (sym (take-append-drop _ c.loop-left.left.now)) in
    let took = c.in_ok-take_piece.ensures in
    taking-more piece behind parts c.loop-left.invariant took.gives took.behind took.options

-- a piece was refused
pub returns-in_err-take_piece-clause-gives : goal.returns-in_err-take_piece-clause-gives
returns-in_err-take_piece-clause-gives g c more =
    let piece = c.split_at.result.0.now in
    let behind = c.split_at.result.1.now in
    let parts : c.loop-left.left.now ≡ piece ++ behind =
    rw (c.split_at.ensures.front, c.split_at.ensures.back) (sym (take-append-drop _ c.loop-left.left.now)) in
    refusal _ _ _ _ _ _ _ _ c.from_residual.ensures.1
    (taking-refused _ _ piece behind parts c.loop-left.invariant c.in_err-take_piece.ensures.gives more)

-- all were fed
none-left : (n : ℕ) → eqb n 0 ≡ true → n ≡ 0
none-left n e = search (rules, tests)

pub returns-clause-behind : goal.returns-clause-behind
returns-clause-behind g c =
    taken-behind (nil_from_length c.loop-left.left.now (none-left _ (sym c.loop-left-test.ensures))) c.loop-left.invariant
