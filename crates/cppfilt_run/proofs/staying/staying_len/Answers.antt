use Rattle.cppfilt_run.proofs.StayLaws.{stays-front}
use Rattle.cppfilt_run.proofs.staying.staying_len.Goals as goal

pub returns-in-None-clause-stays : goal.returns-in-None-clause-stays
returns-in-None-clause-stays c = stays-front c.args.bytes.now c.complete_len.result c.in-None.ensures
