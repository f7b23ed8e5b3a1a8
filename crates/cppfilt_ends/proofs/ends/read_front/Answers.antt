use Rattle.std.proofs.Common.{◌<◌, length, rules}
use Rattle.cppfilt_ends.proofs.ReadLaws.{read-longer}
use Rattle.cppfilt_ends.proofs.ends.read_front.Goals as goal

pub returns-clause-bytes : goal.returns-clause-bytes
returns-clause-bytes g c =
    read-longer _ _ _ _ _ c.read.ensures.bound
    (λ room. let some : 0 < length c.read.new.buf = search rules in some) c.read.ensures.bytes
