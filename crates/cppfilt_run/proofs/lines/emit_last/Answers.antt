use Rattle.std.proofs.Common.{◌<◌, length, rules, refl}
use Rattle.cppfilt_ends.proofs.MoveLaws.{moves-none}
use Rattle.cppfilt_lines.proofs.LineLaws.{due-last}
use Rattle.cppfilt_run.proofs.OwedLaws.{due-nothing, nil-from_length}
use Rattle.cppfilt_run.proofs.lines.emit_last.Goals as goal

-- nothing is left
pub returns-then-is_empty : goal.returns-then-is_empty
returns-then-is_empty g c =
    let none = nil-from_length c.args.held.now (search rules) in
    (refl, rw (due-nothing c.args.options.now c.args.pending.now.items c.args.held.now none) (moves-none _ _))

-- a last line is
pub returns : goal.returns
returns g c =
    let some : 0 < length c.args.held.now = search rules in
    rw (due-last c.args.options.now c.args.held.now c.requires.free some) c.emit_line.ensures
