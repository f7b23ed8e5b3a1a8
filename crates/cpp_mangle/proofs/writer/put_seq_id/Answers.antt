use Rattle.cpp_mangle.proofs.Known.{seq_is}
use Rattle.cpp_mangle.proofs.writer.put_seq_id.Goals as goal

pub returns : goal.returns
returns c = rw (seq_is c.args.place c.if-place-eq0.false) c.put_base_36.ensures
