-- What of a text is settled, whatever follows.
use Rattle.std.specs.Prelude.{ℕ, ◌-◌, List, length, take, drop, if◌then◌else◌}
use Rattle.demangle_stream.specs.Runs.{tail_len}
use Rattle.demangle_stream.specs.Shown.{may_wait}

-- the run at the end of a text
abbrev pub last_run : List ℕ → List ℕ
last_run text = drop (length text - tail_len text) text

-- All but a run at the end that may be the front of a name.
unfoldable pub settled : List ℕ → List ℕ
settled text = if may_wait (last_run text) then take (length text - tail_len text) text else text
