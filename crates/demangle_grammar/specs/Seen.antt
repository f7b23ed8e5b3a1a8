-- A state of the reading as the program sees it.
use Rattle.demangle_core.specs.Core.{Core}
use Rattle.demangle_text.specs.Kind.{Unread}
use Rattle.demangle_text.specs.Kind as kind
use Rattle.demangle_grammar.specs.Reading.{State, Answer, Yes, No, Deep}
use Rattle.demangle_grammar.specs.Code.{Here, Reply, Found, Refused}

abbrev pub seen : State → Here
seen s = record { spot = record { index = s.at; left = s.rest }; table = s.entries }

abbrev pub replied : Answer Core → Reply
replied (Yes s t) = Found t (seen s)
replied (No h c) = Refused (Unread c)
replied Deep = Refused kind.Deep
