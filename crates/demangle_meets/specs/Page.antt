-- What contracts see of a context of printing: the state without its level, which lines hold by value; the items that
-- are set aside; the last character, of which the state knows the last byte; what is seen of the listener; and the
-- first trouble.
use Rattle.std.specs.Prelude.{ℕ, List, Option}
use Rattle.demangle_core.specs.Core.{Core}
use Rattle.demangle_printing.specs.State.{Fault, Held, Flags, State}
use Rattle.demangle_meets.specs.Seen.{Seen}
use Rattle.demangle_meets.specs.Place.{Refers}

-- What is lost where it has nothing to do with the name: the listener failed; it had no memory; a stack of items had
-- no room.
pub data Loss : Type 0 where
  failed refused full : Loss

-- Why printing stopped.
pub data Trouble : Type 0 where
  fault : Fault → Trouble
  lost : Loss → Trouble

-- What stays as it is while one prints: for how many items each stack has room from the beginning; the context's own
-- level and limit; what the trees refer to; the reference to the listener, by its name.
pub record Fixed : Type 0 where
  pub reserved : ℕ
  pub level : ℕ
  pub limit : ℕ
  pub refers : Refers
  pub listener : ℕ

-- Items stand newest first; those that are set aside last are the first of `aside`.
pub record Page : Type 0 where
  pub inner : List (Held Core)
  pub kept : List (Held Core)
  pub aside : List (Held Core)
  pub last : Option ℕ
  pub last_char : Option ℕ
  pub source : Option (List ℕ)
  pub flags : Flags
  pub room : Option ℕ
  pub fixed : Fixed
  pub seen : Seen
  pub trouble : Option Trouble

-- The state at a level.
abbrev pub at : ℕ → Page → State Core
at l a =
    record {
      inner = a.inner;
      kept = a.kept;
      last = a.last;
      source = a.source;
      level = l;
      flags = a.flags;
      room = a.room;
    }
