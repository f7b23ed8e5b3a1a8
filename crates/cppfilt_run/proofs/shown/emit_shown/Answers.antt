use Rattle.std.proofs.Common.{◌∙◌, sym}
use Rattle.cppfilt_lines.proofs.LineLaws.{shown-kept}
use Rattle.cppfilt_run.proofs.shown.emit_shown.Goals as goal

pub returns : goal.returns
returns g c =
    let unasked = sym c.is_asked.ensures ∙ c.if-is_asked.false in
    rw (shown-kept c.args.options.now c.args.bytes.now unasked) c.emit.ensures
