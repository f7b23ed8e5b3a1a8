-- Why a reading stops: what every definition of a reading and every contract of a reader says of a failure.
use Rattle.std.specs.Prelude.{◌≡◌, Bool, true, false, Result, Ok, Err}
use Rattle.demangle_text.specs.declared.error.Error.{Error}
use Rattle.demangle_text.specs.declared.error.Error.TheVariants.{UnexpectedEnd, UnexpectedText, BadBackReference}
use Rattle.demangle_text.specs.declared.error.Error.TheVariants.{BadTemplateArgReference, ForwardTemplateArgReference}
use Rattle.demangle_text.specs.declared.error.Error.TheVariants.{BadFunctionArgReference, BadLeafNameReference}
use Rattle.demangle_text.specs.declared.error.Error.TheVariants.{Overflow, TooMuchRecursion, OutOfMemory}

-- why bytes can't be read: they end too early, they are others, they refer to a component that isn't there,
-- or their number is too large
pub data Cause : Type 0 where
  End Text Bad Over : Cause

-- why a reader stops: the bytes can't be read, no level is left, or none of these
pub data Kind : Type 0 where
  Unread : Cause → Kind
  Deep : Kind
  Other : Kind

-- the kind that an error tells; want of memory and the faults of printing tell nothing of the bytes
abbrev pub kind : Error → Kind
kind UnexpectedEnd = Unread End
kind UnexpectedText = Unread Text
kind BadBackReference = Unread Bad
kind BadTemplateArgReference = Other
kind ForwardTemplateArgReference = Other
kind BadFunctionArgReference = Other
kind BadLeafNameReference = Other
kind Overflow = Unread Over
kind TooMuchRecursion = Deep
kind OutOfMemory = Other

-- whether it ends the whole reading, so that no other alternative is tried
abbrev pub ends : Kind → Bool
ends (Unread c) = false
ends Deep = true
ends Other = true

-- what a reader returned, seen by `view`, is what the definition reads; and its error is of the definition's kind
abbrev pub Gives : {X Y : Type 0} → (X → Y) → Result X Error → Result Y Kind → Type 0
Gives view (Ok x) read = read ≡ Ok (view x)
Gives view (Err e) read = read ≡ Err (kind e)
