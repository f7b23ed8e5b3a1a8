use Rattle.cpp_demangle.proofs.Symbols.{read_at_front, symbol_at_front, refused_front}
use Rattle.cpp_demangle.proofs.symbol.«Symbol+ref+slice+u8».with_tail_and_options.Goals as goal

pub invariant_of-result : goal.invariant_of-result
invariant_of-result c = record { is = symbol_at_front c.args.options.now c.in-Ok.ensures.1 }

pub returns-in-Ok : goal.returns-in-Ok
returns-in-Ok c = read_at_front c.in-Ok.ensures.1

pub returns-in-Err : goal.returns-in-Err
returns-in-Err c = refused_front c.args.options.now c.args.input.now c.in-Err.error c.in-Err.ensures
