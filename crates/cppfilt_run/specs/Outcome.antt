-- What a run over an input did, as far as it came.
use Rattle.std.specs.Prelude.{◌≡◌, ◌⊎◌, ℕ, ◌+◌, ◌^◌, ◌-◌, ◌<◌, ◌≤◌, List, [], ◌++◌, length, take, Option, Some, None}
use Rattle.std.specs.Prelude.{IfSome, ⊤}
use Rattle.std.specs.Io.KnownBytes.{Appends, Consumes, IsAtEnd}
use Rattle.cppfilt_ends.specs.Causes.{Rose}
use Rattle.cppfilt_ends.specs.Moves.{Moves, Begins}
use Rattle.cppfilt_lines.specs.Due.{due}
use Rattle.cppfilt_lines.specs.Lines.{complete, unfinished}
use Rattle.cppfilt_lines.specs.declared.options.FilterOptions.{FilterOptions}
use Rattle.cppfilt_run.specs.Owed.{ahead, block_limit}
use Rattle.cppfilt_run.specs.declared.status.Status.{Status}
use Rattle.cppfilt_run.specs.declared.status.Status.TheVariants.{Done, Help, Usage, ReadFault, WriteFault}
use Rattle.cppfilt_run.specs.declared.status.Status.TheVariants.{InputTooLong, OutOfMemory}

-- ---- what was taken and what was written
-- what holds of the bytes that were taken, where the source tells its bytes
abbrev pub OfTaken : (left0 left1 : Option (List ℕ)) → (List ℕ → Type 0) → Type 0
OfTaken None left1 P = ⊤
OfTaken (Some input) None P = ⊥
OfTaken (Some input) (Some rest) P = (taken : List ℕ) × (input ≡ taken ++ rest) × P taken

-- The sink was given what is due for the complete lines among all the bytes but those that the last read gave, and
-- maybe more: so what a block completes is written before the next read.
pub record KeepsUp (o : FilterOptions) (given : ℕ) (out0 out1 : Option (List ℕ)) (taken : List ℕ) : Type 0 where
  pub seen : List ℕ
  pub last : List ℕ
  pub more : List ℕ
  pub parts : taken ≡ seen ++ last
  pub from_last_read : length last ≤ given
  pub small : length last ≤ block_limit
  pub appends : Appends out0 out1 (due o (complete seen) ++ more)

-- ---- how a run ended
-- the counts of faults of its source and of its sink
abbrev pub Faults : Status → (read0 read1 write0 write1 : ℕ) → Type 0
Faults ReadFault r0 r1 w0 w1 = ((r0 ≤ r1) × Rose r0 r1) × (w1 ≡ w0)
Faults WriteFault r0 r1 w0 w1 = (r1 ≡ r0) × ((w0 ≤ w1) × Rose w0 w1)
Faults Help r0 r1 w0 w1 = ⊥
Faults Usage r0 r1 w0 w1 = ⊥
Faults _ r0 r1 w0 w1 = (r1 ≡ r0) × (w1 ≡ w0)

-- how many bytes were taken, by the source's count and where it tells them: one more than the limit, or at most so
-- many
abbrev pub Amount : Status → (limit taken0 taken1 : ℕ) → (left0 left1 : Option (List ℕ)) → Type 0
Amount InputTooLong limit t0 t1 left0 left1 =
    ((t0 + limit < t1) ⊎ (2 ^ 64 - 1 ≤ t1)) × (t1 ≤ t0 + limit + 1)
    × OfTaken left0 left1 (λ taken. length taken ≡ limit + 1)
Amount _ limit t0 t1 left0 left1 = (t1 ≤ t0 + limit) × OfTaken left0 left1 (λ taken. length taken ≤ limit)

-- what was written, where the status tells it
abbrev pub Written : FilterOptions → Status → (limit : ℕ) → (left0 left1 out0 out1 : Option (List ℕ)) → Type 0
Written o Done limit left0 left1 out0 out1 = IsAtEnd left1 × IfSome left0 (λ input. Appends out0 out1 (due o input))
Written o ReadFault limit left0 left1 out0 out1 =
    OfTaken left0 left1 (λ taken. Appends out0 out1 (due o (complete taken)))
Written o InputTooLong limit left0 left1 out0 out1 =
    IfSome left0 (λ input. Appends out0 out1 (due o (complete (take limit input))))
Written o _ limit left0 left1 out0 out1 = ⊤

-- `given` is how many bytes the last read gave.
pub record Stopped (o : FilterOptions) (status : Status) (limit read0 read1 write0 write1 taken0 taken1 given : ℕ)
    (left0 left1 out0 out1 : Option (List ℕ)) : Type 0 where
  pub faults : Faults status read0 read1 write0 write1
  pub amount : Amount status limit taken0 taken1 left0 left1
  pub front : IfSome left0 (λ input. Begins out0 out1 (due o input))
  pub keeps_up : OfTaken left0 left1 (KeepsUp o given out0 out1)
  pub written : Written o status limit left0 left1 out0 out1

-- ---- how a run goes on
-- how it goes, with so many bytes taken, and with nothing due but for the front of a line that is held
pub record Going (o : FilterOptions) (limit read0 read1 write0 write1 taken0 taken1 : ℕ)
    (left0 left1 out0 out1 : Option (List ℕ)) (gathered held : List ℕ) (count : ℕ) : Type 0 where
  pub reads : read1 ≡ read0
  pub writes : write1 ≡ write0
  pub at_least : (taken1 ≡ taken0 + count) ⊎ (2 ^ 64 - 1 ≤ taken1)
  pub at_most : taken1 ≤ taken0 + count
  pub within : count ≤ limit
  pub bytes : List ℕ
  pub counted : length bytes ≡ count
  pub consumes : Consumes left0 left1 bytes
  pub moves : (more : List ℕ) → Moves out0 out1 (due o (bytes ++ more)) (ahead o gathered held more)
  pub flushed : gathered ≡ []
  pub kept : held ≡ unfinished bytes

-- how the end of the input was met, with what was owed then
abbrev pub Finished : Status → (write0 write1 : ℕ) → (out0 out1 : Option (List ℕ)) → List ℕ → Type 0
Finished Done w0 w1 out0 out1 whole = (w1 ≡ w0) × Moves out0 out1 whole []
Finished WriteFault w0 w1 out0 out1 whole = ((w0 ≤ w1) × Rose w0 w1) × Begins out0 out1 whole
Finished OutOfMemory w0 w1 out0 out1 whole = (w1 ≡ w0) × Begins out0 out1 whole
Finished _ w0 w1 out0 out1 whole = ⊥
