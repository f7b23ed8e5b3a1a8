use Rattle.std.proofs.Common.{◌≡◌, ◌≤◌, ◌++◌, ap, append_assoc, length, subst, sym, ◌∙◌}
use Rattle.demangle_stream.specs.Appended.{Appended}
use Rattle.demangle_stream.specs.Shown.{becomes}
use Rattle.demangle_stream.proofs.PieceLaws.{becomes-long}
use Rattle.demangle_stream.proofs.NameLaws.{appended-refusal, becomes-refused, becomes-text, becomes-unnamed}
use Rattle.demangle_stream.proofs.names.append_run.Goals as goal
use Rattle.demangle_stream.proofs.names.append_run.Goals.{then-run-gt-RUN_LIMIT-via-then-run-gt-RUN_LIMIT}
use Rattle.demangle_stream.proofs.names.append_run.Goals.{then-run-gt-RUN_LIMIT-via-else-run-gt-RUN_LIMIT+then-not-is_named}

pub returns-then-run-gt-RUN_LIMIT : goal.returns-then-run-gt-RUN_LIMIT
returns-then-run-gt-RUN_LIMIT c =
    let p = c.args.parse.now in
    let o = c.args.print.now in
    let run = c.args.run.now in
    let stays : becomes p o run ≡ run =
    elim c.then-run-gt-RUN_LIMIT.branch [
      | then-run-gt-RUN_LIMIT-via-then-run-gt-RUN_LIMIT w ↦ becomes-long p o run w.if-run-gt-RUN_LIMIT.true
      | then-run-gt-RUN_LIMIT-via-else-run-gt-RUN_LIMIT+then-not-is_named w ↦
          becomes-unnamed p o run c.split_at.result.0.now c.name_len.result c.split_at.ensures.front
          c.name_len.ensures.value (sym w.is_named.ensures ∙ w.if-not-is_named.true)
    ] in
    c.in_ok-extend_from_slice.ensures.items ∙ ap (λ l. c.args.out.now.items ++ l) (sym stays)

pub returns-in_ok-extend_from_slice-in-Ok : goal.returns-in_ok-extend_from_slice-in-Ok
returns-in_ok-extend_from_slice-in-Ok c =
    let p = c.args.parse.now in
    let o = c.args.print.now in
    let run = c.args.run.now in
    let name = c.split_at.result.0.now in
    let dots = c.split_at.result.1.now in
    let told = c.in-Ok.ensures in
    let short : length run ≤ 1048576 = c.if-run-gt-RUN_LIMIT.false in
    let is = becomes-text p o run name dots told.0 c.name_len.result c.split_at.ensures.front c.split_at.ensures.back
    c.name_len.ensures.value short (sym c.is_named.ensures ∙ c.if-not-is_named.false) told.1 in
    c.in_ok-extend_from_slice-in-Ok.ensures.items
    ∙ ap (λ l. l ++ dots) told.2
    ∙ append_assoc c.args.out.now.items told.0 dots ∙ ap (λ l. c.args.out.now.items ++ l) (sym is)

pub returns-in-Err : goal.returns-in-Err
returns-in-Err c =
    let p = c.args.parse.now in
    let o = c.args.print.now in
    let run = c.args.run.now in
    let name = c.split_at.result.0.now in
    let dots = c.split_at.result.1.now in
    let told = c.in-Err.ensures in
    let short : length run ≤ 1048576 = c.if-run-gt-RUN_LIMIT.false in
    appended-refusal c.append_refused.result _ _ run _ _
    (subst (λ l. Appended c.append_refused.result l c.append_refused.new.out.items run) told.0
    c.append_refused.ensures.appended)
    c.append_refused.ensures.other
    (λ other. becomes-refused p o run name dots c.in-Err.fault c.name_len.result c.split_at.ensures.front
    c.split_at.ensures.back c.name_len.ensures.value short (sym c.is_named.ensures ∙ c.if-not-is_named.false)
    (told.1 other))
