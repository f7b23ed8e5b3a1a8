use Rattle.std.proofs.Common.{◌≡◌, ◌+◌, ◌<◌, ◌≤◌, [], length, take, refl, rules, arith}
use Rattle.std.proofs.lemmas.List.{length-take-le}
use Rattle.cppfilt_text_run.proofs.RunLaws.{going-start, going-more, stop-read, stop-empty, stop-write, stop-long}
use Rattle.cppfilt_text_run.proofs.filter.filter_blocks.Goals as goal

-- the beginning of a text
pub loop-taken-init : goal.loop-taken-init
loop-taken-init g c = (
  going-start _ _ _ _ _ _ _ _ c.args.stream.now refl refl c.requires.begins c.requires.behind,
  c.requires.clear,
  c.requires.room,
  c.requires.small,
)

-- a read failed
pub returns-in-Err : goal.returns-in-Err
returns-in-Err g c =
    stop-read _ _ _ _ c.loop-taken.invariant.0 c.in-Err.ensures.cause c.in-Err.ensures.count c.in-Err.ensures.bytes

pub returns-in-Err-read_front : goal.returns-in-Err-read_front
returns-in-Err-read_front g c =
    let refused = c.in-Err-read_front.ensures in
    stop-read _ _ _ _ c.loop-taken.invariant.0 refused.cause refused.count refused.bytes

-- one byte more than is taken
pub returns-in-Ok-read_front : goal.returns-in-Ok-read_front
returns-in-Ok-read_front g c =
    let count = c.in-Ok-read_front.field-0 in
    let block = c.read_front-2.new.block in
    let full : c.args.limit ≤ c.loop-taken.taken = search rules in
    let one : c.in-Ok-read_front.field-0 ≡ 1 =
    (let h = c.in-Ok-read_front.ensures.bound in
    let some : 0 < c.in-Ok-read_front.field-0 = search rules in
    omega arith) in
    let small : c.in-Ok-read_front.field-0 ≤ length c.read_front-2.new.block =
    (let k = c.in-Ok-read_front.ensures.kept in
    let h = c.loop-taken.invariant.2 in
    omega arith) in
    stop-long count _ _ _ _ (take count block) c.loop-taken.invariant.0 full one c.in-Ok-read_front.ensures.cause
    c.in-Ok-read_front.ensures.last c.in-Ok-read_front.ensures.count (length-take-le count block small) c.in-Ok-read_front.ensures.bytes.0

-- the end of the input
pub returns-in-Ok-eq0 : goal.returns-in-Ok-eq0
returns-in-Ok-eq0 g c =
    let none : c.in-Ok-eq0.field-0 ≡ 0 = search rules in
    let room : 0 < length c.read_front.new.block =
    (let k = c.in-Ok-eq0.ensures.kept in
    let h = c.loop-taken.invariant.2 in
    omega arith) in
    stop-empty c.end_input.result c.in-Ok-eq0.field-0 _ _ _ _ _ _ c.read_front.new.block c.loop-taken.invariant.0 none
    room c.in-Ok-eq0.ensures.cause c.in-Ok-eq0.ensures.count c.in-Ok-eq0.ensures.bytes c.end_input.ensures

pub returns-in-Ok-eq0-read_front : goal.returns-in-Ok-eq0-read_front
returns-in-Ok-eq0-read_front g c =
    let ended = c.in-Ok-eq0-read_front.ensures in
    let none : c.in-Ok-eq0-read_front.field-0 ≡ 0 = search rules in
    let room : 0 < length c.read_front-2.new.block =
    (let k = c.in-Ok-eq0-read_front.ensures.kept in
    let h = c.loop-taken.invariant.2 in
    omega arith) in
    stop-empty c.end_input-in-Ok-eq0-read_front.result c.in-Ok-eq0-read_front.field-0 _ _ _ _ _ _ c.read_front-2.new.block
    c.loop-taken.invariant.0 none room ended.cause ended.count ended.bytes c.end_input-in-Ok-eq0-read_front.ensures

-- the sink refused a part of what is due for a block
pub returns-in-Err-take_block : goal.returns-in-Err-take_block
returns-in-Err-take_block g c =
    let within : c.loop-taken.taken + c.in-Ok.count ≤ c.args.limit = search rules in
    let small : c.in-Ok.count ≤ length c.read_front.new.block = search rules in
    let size = length-take-le c.in-Ok.count c.read_front.new.block small in
    let block : c.in-Ok.count ≤ 65536 =
    (let k = c.in-Ok.ensures.kept in
    let h = c.loop-taken.invariant.3 in
    omega arith) in
    let refused = c.in-Err-take_block.ensures.gives in
    rw c.status_of.ensures
    (stop-write c.in-Err-take_block.fault c.in-Ok.count _ _ _ _ _ _ (take c.in-Ok.count c.read_front.new.block)
    c.loop-taken.invariant.0 c.in-Ok.ensures.cause c.in-Ok.ensures.last c.in-Ok.ensures.count size block
    within c.in-Ok.ensures.bytes.0 (refused []).0 (λ more. (refused more).1))

-- one more block
pub loop-taken-preserved : goal.loop-taken-preserved
loop-taken-preserved g c =
    let within : c.loop-taken.taken + c.in-Ok.count ≤ c.args.limit = search rules in
    let small : c.in-Ok.count ≤ length c.read_front.new.block = search rules in
    let size = length-take-le c.in-Ok.count c.read_front.new.block small in
    let gave = c.in_default.ensures.gives in (
      going-more c.in-Ok.count _ _ _ _ _ c.take_block.new.stream
          (take c.in-Ok.count c.read_front.new.block) c.loop-taken.invariant.0 c.in-Ok.ensures.cause (gave []).0
          c.in-Ok.ensures.count size c.in-Ok.ensures.bytes.0 (λ more. (gave more).1) c.in_default.ensures.behind
          c.in_default.ensures.options within,
      c.in_default.ensures.written,
      search rules,
      search rules,
    )
