-- What the faulty ends do by the number of a call: how many calls there were, how many bytes one moves at most, and
-- the numbers of those that fail.
use Rattle.std.specs.Prelude.{ℕ, List}
use Rattle.cppfilt_ends.specs.declared.faulty.FaultySource.{FaultySource}
use Rattle.cppfilt_ends.specs.declared.faulty.FaultySink.{FaultySink}

-- ---- of a source
abbrev pub source_calls : FaultySource → ℕ
source_calls source = source.calls

abbrev pub source_step : FaultySource → ℕ
source_step source = source.step

abbrev pub source_fails_at : FaultySource → List ℕ
source_fails_at source = source.fail_at.items

-- ---- of a sink
abbrev pub sink_calls : FaultySink → ℕ
sink_calls sink = sink.calls

abbrev pub sink_step : FaultySink → ℕ
sink_step sink = sink.step

abbrev pub sink_fails_at : FaultySink → List ℕ
sink_fails_at sink = sink.fail_at.items
