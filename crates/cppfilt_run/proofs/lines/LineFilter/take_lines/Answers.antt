use Rattle.std.proofs.Common.{◌≡◌, ◌++◌, List, ℕ, ◌∙◌, [], ap, append_assoc, length, rules, sym, true}
use Rattle.cppfilt_lines.specs.Lines.{before_feed}
use Rattle.cppfilt_ends.proofs.MoveLaws.{refusal, cause-then}
use Rattle.cppfilt_run.specs.Owed.{ahead}
use Rattle.cppfilt_run.specs.Staying.{begins_line, stays}
use Rattle.cppfilt_run.proofs.OwedLaws.{moves-line, begins-line, line-ended, cut-joins, kept-closed, kept-front}
use Rattle.cppfilt_run.proofs.OwedLaws.{moves-held, begins-held, free-append, free-nothing}
use Rattle.cppfilt_run.proofs.StayLaws.{begins-staying, kept-staying, moves-staying}
use Rattle.cppfilt_run.proofs.lines.LineFilter.take_lines.Goals as goal

-- ---- lines that stay
pub loop-rest-preserved-then-staying-gt0 : goal.loop-rest-preserved-then-staying-gt0
loop-rest-preserved-then-staying-gt0 g c =
    let o = c.args.options.now in
    let this = c.args.self.now in
    let then = c.loop-rest.self in
    let inv = c.loop-rest.invariant in
    let lines = c.split_at.result.0.now in
    let after = c.split_at.result.1.now in
    let pending = c.emit.new.pending.items in
    let joins = cut-joins c.loop-rest.rest.now _ _ _ c.split_at.ensures.front c.split_at.ensures.back in
    let clear = c.staying_len-staying.ensures.clear c.if-staying-gt0.true in
    let stay : stays true lines ≡ true = rw c.split_at.ensures.front c.staying_len-staying.ensures.stays in
    let ends : begins_line true lines ≡ true = rw c.split_at.ensures.front c.staying_len-staying.ensures.ends in
    let first : List ℕ → List ℕ = λ more. ahead o this.pending.items this.held.items (c.args.block.now ++ more) in
    let mid : List ℕ → List ℕ = λ bytes. ahead o then.pending.items then.held.items bytes in
    let last : List ℕ → List ℕ = λ bytes. ahead o pending then.held.items bytes in (
      moves-line _ _ _ first mid last c.loop-rest.rest.now lines after joins inv.0
          (λ more. moves-staying o _ _ then.pending.items pending then.held.items lines clear.0 clear.1 stay ends
          c.in_ok-emit.ensures.1 more),
      c.in_ok-emit.ensures.0 ∙ inv.1,
      inv.2,
      inv.3 ++ lines,
      inv.4 ∙ ap (λ l. inv.3 ++ l) (sym joins) ∙ sym (append_assoc inv.3 lines after),
      λ seen kept. kept-staying then.held.items seen inv.3 lines clear.0 (inv.5 seen kept) ends,
    )

pub returns-in_err-emit-clause-gives : goal.returns-in_err-emit-clause-gives
returns-in_err-emit-clause-gives g c more =
    let o = c.args.options.now in
    let this = c.args.self.now in
    let then = c.loop-rest.self in
    let inv = c.loop-rest.invariant in
    let lines = c.split_at.result.0.now in
    let joins = cut-joins c.loop-rest.rest.now _ _ _ c.split_at.ensures.front c.split_at.ensures.back in
    let clear = c.staying_len-staying.ensures.clear c.if-staying-gt0.true in
    let stay : stays true lines ≡ true = rw c.split_at.ensures.front c.staying_len-staying.ensures.stays in
    let ends : begins_line true lines ≡ true = rw c.split_at.ensures.front c.staying_len-staying.ensures.ends in
    let first : List ℕ → List ℕ = λ more. ahead o this.pending.items this.held.items (c.args.block.now ++ more) in
    let mid : List ℕ → List ℕ = λ bytes. ahead o then.pending.items then.held.items bytes in
    refusal _ _ _ _ _ _ _ _ c.from_residual.ensures.1 (
      cause-then _ _ _ _ inv.1 c.in_err-emit.ensures.0,
      begins-line _ _ _ first mid c.loop-rest.rest.now lines c.split_at.result.1.now joins inv.0
          (λ more. begins-staying o _ _ then.pending.items then.held.items lines clear.0 clear.1 stay ends
          c.in_err-emit.ensures.1 more) more,
    )

-- ---- a line that is looked at
pub complete-requires-clause-ended : goal.complete-requires-clause-ended
complete-requires-clause-ended g c =
    line-ended c.loop-rest.rest.now c.split_at-in-loop-rest.result.0.now c.in-Some.end c.in-Some.ensures.0 c.in-Some.ensures.1
    c.split_at-in-loop-rest.ensures.front

pub loop-rest-preserved : goal.loop-rest-preserved
loop-rest-preserved g c =
    let o = c.args.options.now in
    let this = c.args.self.now in
    let then = c.loop-rest.self in
    let now = c.complete.new.self in
    let inv = c.loop-rest.invariant in
    let line = c.split_at-in-loop-rest.result.0.now in
    let after = c.split_at-in-loop-rest.result.1.now in
    let joins = cut-joins c.loop-rest.rest.now _ _ c.in-Some.end c.split_at-in-loop-rest.ensures.front c.split_at-in-loop-rest.ensures.back in
    let ended = line-ended c.loop-rest.rest.now line c.in-Some.end c.in-Some.ensures.0 c.in-Some.ensures.1
    c.split_at-in-loop-rest.ensures.front in
    let none = c.in_ok-complete.ensures.held in
    let first : List ℕ → List ℕ = λ more. ahead o this.pending.items this.held.items (c.args.block.now ++ more) in
    let mid : List ℕ → List ℕ = λ bytes. ahead o then.pending.items then.held.items bytes in
    let last : List ℕ → List ℕ = λ bytes. ahead o now.pending.items now.held.items bytes in (
      moves-line _ _ _ first mid last c.loop-rest.rest.now line after joins inv.0
          (λ more. (c.in_ok-complete.ensures.gives more).1),
      (c.in_ok-complete.ensures.gives []).0 ∙ inv.1,
      free-nothing now.held.items none,
      inv.3 ++ line,
      inv.4 ∙ ap (λ l. inv.3 ++ l) (sym joins) ∙ sym (append_assoc inv.3 line after),
      λ seen kept. kept-closed seen inv.3 line now.held.items ended none,
    )

pub returns-in_err-complete-clause-gives : goal.returns-in_err-complete-clause-gives
returns-in_err-complete-clause-gives g c more =
    let o = c.args.options.now in
    let this = c.args.self.now in
    let then = c.loop-rest.self in
    let inv = c.loop-rest.invariant in
    let first : List ℕ → List ℕ = λ more. ahead o this.pending.items this.held.items (c.args.block.now ++ more) in
    let mid : List ℕ → List ℕ = λ bytes. ahead o then.pending.items then.held.items bytes in
    let joins = cut-joins c.loop-rest.rest.now _ _ c.in-Some.end c.split_at-in-loop-rest.ensures.front c.split_at-in-loop-rest.ensures.back in
    refusal _ _ _ _ _ _ _ _ c.from_residual-in_err-complete.ensures.1 (
      cause-then _ _ _ _ inv.1 (c.in_err-complete.ensures.gives []).0,
      begins-line _ _ _ first mid c.loop-rest.rest.now c.split_at-in-loop-rest.result.0.now c.split_at-in-loop-rest.result.1.now joins inv.0
          (λ more. (c.in_err-complete.ensures.gives more).1) more,
    )

pub returns-in_err-extend_from_slice-clause-gives : goal.returns-in_err-extend_from_slice-clause-gives
returns-in_err-extend_from_slice-clause-gives g c more =
    let o = c.args.options.now in
    let this = c.args.self.now in
    let then = c.loop-rest.self in
    let inv = c.loop-rest.invariant in
    begins-held o _ _ _ _ _ (λ more. ahead o this.pending.items this.held.items (c.args.block.now ++ more))
    then.pending.items then.held.items c.loop-rest.rest.now _ inv.0 inv.1
    c.from_residual-in_err-extend_from_slice.ensures.1 more

pub returns-clause-gives : goal.returns-clause-gives
returns-clause-gives g c more =
    let o = c.args.options.now in
    let this = c.args.self.now in
    let then = c.loop-rest.self in
    let inv = c.loop-rest.invariant in (
      inv.1,
      moves-held o _ _ (λ more. ahead o this.pending.items this.held.items (c.args.block.now ++ more))
          then.pending.items then.held.items c.loop-rest.rest.now _ inv.0 c.in_ok-extend_from_slice.ensures.items more,
    )

pub returns-clause-kept : goal.returns-clause-kept
returns-clause-kept g c seen kept =
    let inv = c.loop-rest.invariant in
    let free : before_feed c.loop-rest.rest.now ≡ length c.loop-rest.rest.now = search rules in
    rw inv.4
    (kept-front c.loop-rest.self.held.items seen inv.3 c.loop-rest.rest.now _ free
    c.in_ok-extend_from_slice.ensures.items (inv.5 seen kept))

pub returns-clause-free : goal.returns-clause-free
returns-clause-free g c =
    let free : before_feed c.loop-rest.rest.now ≡ length c.loop-rest.rest.now = search rules in
    free-append c.loop-rest.self.held.items c.loop-rest.rest.now _ c.loop-rest.invariant.2 free
    c.in_ok-extend_from_slice.ensures.items
