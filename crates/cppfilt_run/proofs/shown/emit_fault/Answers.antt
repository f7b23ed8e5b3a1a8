use Rattle.std.proofs.Common.{refl, ◌∙◌, ap, sym}
use Rattle.cppfilt_ends.proofs.MoveLaws.{begins-none}
use Rattle.cppfilt_lines.specs.Shown.{refused}
use Rattle.cppfilt_run.proofs.shown.emit_fault.Goals as goal

pub returns-in-OutOfMemory : goal.returns-in-OutOfMemory
returns-in-OutOfMemory g c whole is = (refl, begins-none _ _)

pub returns-in_default : goal.returns-in_default
returns-in_default g c whole is =
    let says = is c.in_default.not-OutOfMemory ∙ ap (refused c.args.why c.args.bytes.now) (sym c.text.ensures) in
    rw says c.emit_refused.ensures
