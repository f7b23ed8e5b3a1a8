use Rattle.std.proofs.Common.{refl}
use Rattle.demangle_context.specs.View.{view}
use Rattle.demangle_context.proofs.Characters.{has_bytes, is_last_char}
use Rattle.demangle_context.proofs.Texts.{writes_all}
use Rattle.demangle_context.proofs.context.Context.write.Goals as goal

pub returns-in-Ok-write_string : goal.returns-in-Ok-write_string
unfolding view
returns-in-Ok-write_string g c =
    let some = has_bytes _ c.if-is_empty.ensures in
    writes_all c.args.s.now some c.in-Ok.ensures.room c.in-Ok-write_string.ensures.heard
    (is_last_char c.args.s.now c.args.self.now.last c.last_char-self.result some (c.last_char-self.ensures some))
    (rw c.in-Ok.ensures.less refl)
