use Rattle.std.proofs.Common.{◌++◌, ap, refl, sym, ◌∙◌}
use Rattle.demangle_stream.proofs.NameLaws.{appended-refused, grown-by, grown-none, grown-same, grown-then}
use Rattle.demangle_stream.proofs.NameLaws.{names-further, next-name, shorter}
use Rattle.demangle_stream.proofs.StayLaws.{replaced-kept}
use Rattle.demangle_stream.proofs.names.append_replaced.Goals as goal

pub loop-at-init : goal.loop-at-init
loop-at-init c = (refl, grown-none c.args.out.now.items)

pub returns-in_err-extend_from_slice : goal.returns-in_err-extend_from_slice
returns-in_err-extend_from_slice c =
    appended-refused c.from_residual.result _ _ _ c.from_residual.ensures.0
    (grown-same _ _ _ c.loop-at.invariant.1 c.in_err-extend_from_slice.ensures.items)

pub returns-in_err-append_run : goal.returns-in_err-append_run
returns-in_err-append_run c =
    appended-refused c.from_residual-in_err-append_run.result _ _ _ c.from_residual-in_err-append_run.ensures.0
    (grown-then _ _ _
    (grown-then _ _ _ c.loop-at.invariant.1 (grown-by _ _ _ c.in_ok-extend_from_slice.ensures.items))
    c.in_err-append_run.ensures)

pub loop-at-smaller : goal.loop-at-smaller
loop-at-smaller c =
    let found = c.in-Some.ensures in
    shorter c.loop-at.behind.now c.split_at.result.1.now c.split_at-in-Some.result.1.now c.in-Some.at c.run_len.result
    c.split_at.ensures.back c.split_at-in-Some.ensures.back c.run_len.ensures.value found.0 found.1

pub loop-at-preserved : goal.loop-at-preserved
loop-at-preserved c =
    let p = c.args.parse.now in
    let o = c.args.print.now in
    let found = c.in-Some.ensures in
    let staying = c.split_at.result.0.now in
    let named = c.split_at.result.1.now in
    let run = c.split_at-in-Some.result.0.now in
    let after = c.split_at-in-Some.result.1.now in
    let next = next-name p o c.loop-at.behind.now staying named run after c.in-Some.at c.run_len.result
    c.split_at.ensures.front c.split_at.ensures.back c.split_at-in-Some.ensures.front c.split_at-in-Some.ensures.back
    c.run_len.ensures.value found.2 found.3 in (
      names-further p o c.args.text.now c.loop-at.behind.now staying run after c.args.out.now.items
          c.loop-at.out.items c.extend_from_slice.new.self.items c.append_run.new.out.items c.loop-at.invariant.0
          c.in_ok-extend_from_slice.ensures.items c.in_ok-append_run.ensures next,
      grown-then _ _ _
          (grown-then _ _ _ c.loop-at.invariant.1 (grown-by _ _ _ c.in_ok-extend_from_slice.ensures.items))
          (grown-by _ _ _ c.in_ok-append_run.ensures),
    )

pub returns-in_err-extend_from_slice-2 : goal.returns-in_err-extend_from_slice-2
returns-in_err-extend_from_slice-2 c =
    appended-refused c.from_residual-in_err-extend_from_slice-2.result _ _ _
    c.from_residual-in_err-extend_from_slice-2.ensures.0
    (grown-same _ _ _ c.loop-at.invariant.1 c.in_err-extend_from_slice-2.ensures.items)

pub returns : goal.returns
returns c =
    let p = c.args.parse.now in
    let o = c.args.print.now in
    let behind = c.loop-at.behind.now in
    c.in_ok-extend_from_slice-2.ensures.items
    ∙ ap (λ l. c.loop-at.out.items ++ l) (sym (replaced-kept p o behind c.in_default.ensures))
    ∙ c.loop-at.invariant.0
