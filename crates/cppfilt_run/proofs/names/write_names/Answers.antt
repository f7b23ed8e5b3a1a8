use Rattle.std.proofs.Common.{◌+◌, ◌∙◌, [], drop, refl}
use Rattle.std.proofs.lemmas.List.{drop_all, drop_more}
use Rattle.cppfilt_ends.proofs.MoveLaws.{cause-then, gives-then, moves-none, refusal}
use Rattle.cppfilt_run.proofs.NameLaws.{begins-name, due_lent, moves-name, moves-names}
use Rattle.cppfilt_run.proofs.names.write_names.Goals as goal

pub loop-name-init : goal.loop-name-init
loop-name-init g c = (rw c.requires (moves-none _ _), refl)

-- one name more
pub loop-name-preserved : goal.loop-name-preserved
loop-name-preserved g c =
    let o = c.args.options.now in
    let names = c.args.names.now in
    let i = c.loop-name.name-index in
    let inv = c.loop-name.invariant in
    let gave = c.in_ok-emit_name.ensures in (
      moves-name o _ _ _ (due_lent o names) c.loop-name.pending.items c.emit_name.new.pending.items (drop i names)
          (drop (i + 1) names) _ (drop_more names i _ c.loop-name-test.true) inv.0
          (rw c.as_bytes.ensures.value at gave.1),
      gave.0 ∙ inv.1,
    )

pub returns-in_err-emit_name : goal.returns-in_err-emit_name
returns-in_err-emit_name g c =
    let o = c.args.options.now in
    let names = c.args.names.now in
    let i = c.loop-name.name-index in
    let inv = c.loop-name.invariant in
    let refused = c.in_err-emit_name.ensures in
    refusal _ _ _ _ _ _ _ _ c.from_residual.ensures.1 (
      cause-then _ _ _ _ inv.1 refused.0,
      begins-name o _ _ _ (due_lent o names) c.loop-name.pending.items (drop i names) (drop (i + 1) names) _
          (drop_more names i _ c.loop-name-test.true) inv.0 (rw c.as_bytes.ensures.value at refused.1),
    )

-- all names were given on
pub returns : goal.returns
returns g c =
    let o = c.args.options.now in
    let names = c.args.names.now in
    let i = c.loop-name.name-index in
    let inv = c.loop-name.invariant in
    let all = moves-names o _ _ (due_lent o names) c.loop-name.pending.items (drop i names)
    (drop_all i names c.loop-name-test.false) inv.0 in
    gives-then _ _ _ _ _ _ _ (due_lent o names) c.loop-name.pending.items [] (inv.1, all) c.flush.ensures.gives
