-- What a run over a text did, as far as it came.
use Rattle.std.specs.Prelude.{◌≡◌, ◌⊎◌, ℕ, ◌+◌, ◌-◌, ◌^◌, ◌≤◌, List, ◌++◌, length, take, Option, IfSome, ⊤}
use Rattle.std.specs.Io.KnownBytes.{Appends, Consumes, IsAtEnd}
use Rattle.cppfilt_ends.specs.Moves.{Moves, Begins}
use Rattle.demangle_printing.specs.Outcome.{Options}
use Rattle.demangle_stream.specs.Fed.{Behind}
use Rattle.demangle_stream.specs.Replaced.{replaced, rest}
use Rattle.demangle_stream.specs.Settled.{settled}
use Rattle.demangle_stream.specs.declared.state.Stream.{Stream}
use Rattle.cppfilt_run.specs.Outcome.{Amount, Faults, OfTaken}
use Rattle.cppfilt_run.specs.Owed.{block_limit}
use Rattle.cppfilt_run.specs.declared.status.Status.{Status}
use Rattle.cppfilt_run.specs.declared.status.Status.TheVariants.{Done, ReadFault, InputTooLong}

-- ---- what was written
-- The sink was given what is due for the settled part of all the bytes but those that the last read gave, and maybe
-- more: so what a block settles is written before the next read.
pub record KeepsUp (p : ℕ) (o : Options) (given : ℕ) (out0 out1 : Option (List ℕ)) (taken : List ℕ) : Type 0 where
  pub seen : List ℕ
  pub last : List ℕ
  pub more : List ℕ
  pub parts : taken ≡ seen ++ last
  pub from_last_read : length last ≤ given
  pub small : length last ≤ block_limit
  pub appends : Appends out0 out1 (replaced p o (settled seen) ++ more)

-- ---- how a run ended
-- what was written, where the status tells it
abbrev pub Written : ℕ → Options → Status → (limit : ℕ) → (left0 left1 out0 out1 : Option (List ℕ)) → Type 0
Written p o Done limit left0 left1 out0 out1 =
    IsAtEnd left1 × IfSome left0 (λ input. Appends out0 out1 (replaced p o input))
Written p o ReadFault limit left0 left1 out0 out1 =
    OfTaken left0 left1 (λ taken. Appends out0 out1 (replaced p o (settled taken)))
Written p o InputTooLong limit left0 left1 out0 out1 =
    IfSome left0 (λ input. Appends out0 out1 (replaced p o (settled (take limit input))))
Written p o _ limit left0 left1 out0 out1 = ⊤

-- `given` is how many bytes the last read gave.
pub record Stopped (p : ℕ) (o : Options) (status : Status) (limit read0 read1 write0 write1 taken0 taken1 given : ℕ)
    (left0 left1 out0 out1 : Option (List ℕ)) : Type 0 where
  pub faults : Faults status read0 read1 write0 write1
  pub amount : Amount status limit taken0 taken1 left0 left1
  pub front : IfSome left0 (λ input. Begins out0 out1 (replaced p o input))
  pub keeps_up : OfTaken left0 left1 (KeepsUp p o given out0 out1)
  pub written : Written p o status limit left0 left1 out0 out1

-- ---- how a run goes on
-- how it goes, with so many bytes taken, and with nothing due but for the front of a run that waits
pub record Going (p : ℕ) (o : Options) (limit read0 read1 write0 write1 taken0 taken1 : ℕ)
    (left0 left1 out0 out1 : Option (List ℕ)) (s : Stream) (count : ℕ) : Type 0 where
  pub reads : read1 ≡ read0
  pub writes : write1 ≡ write0
  pub at_least : (taken1 ≡ taken0 + count) ⊎ (2 ^ 64 - 1 ≤ taken1)
  pub at_most : taken1 ≤ taken0 + count
  pub within : count ≤ limit
  pub bytes : List ℕ
  pub counted : length bytes ≡ count
  pub consumes : Consumes left0 left1 bytes
  pub moves : (more : List ℕ) → Moves out0 out1 (replaced p o (bytes ++ more)) (rest s more)
  pub behind : Behind s bytes
  pub parse : s.parse ≡ p
  pub print : s.print ≡ o

-- How far a block was taken: what was gathered and what is due for the block is written, gathered or still due.
pub record Taking (before now : Stream) (write0 write1 : ℕ) (out0 out1 : Option (List ℕ))
    (gathered0 gathered1 block left : List ℕ) : Type 0 where
  pub fed : List ℕ
  pub parts : block ≡ fed ++ left
  pub writes : write1 ≡ write0
  pub moves : (more : List ℕ) →
      Moves out0 out1 (gathered0 ++ rest before (block ++ more)) (gathered1 ++ rest now (left ++ more))
  pub behind : (seen : List ℕ) → Behind before seen → Behind now (seen ++ fed)
  pub parse : now.parse ≡ before.parse
  pub print : now.print ≡ before.print
