use Rattle.cppfilt_lines.specs.Shown.{shown}
use Rattle.cppfilt_run.proofs.ShownLaws.{gathered-shown, shown-fault}
use Rattle.cppfilt_run.proofs.shown.emit_asked.Goals as goal

-- the bytes have a text
pub returns-in-Ok : goal.returns-in-Ok
returns-in-Ok g c =
    let o = c.args.options.now in
    let gathered = gathered-shown o c.args.bytes.now c.args.pending.now.items c.gather.new.gathered.items c.requires
    c.in-Ok.ensures in
    rw gathered c.relieve.ensures

-- or a cause why not
pub returns-in-Err : goal.returns-in-Err
returns-in-Err g c =
    let o = c.args.options.now in
    let bytes = c.args.bytes.now in
    rw (← c.in-Err.ensures.0)
    (c.emit_fault.ensures (shown o bytes)
    (λ differs. shown-fault o bytes c.in-Err.fault c.requires (c.in-Err.ensures.1 differs)))
