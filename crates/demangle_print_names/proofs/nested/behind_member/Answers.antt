use Rattle.demangle_meets.proofs.Acts.{meets_block, meets_done}
use Rattle.demangle_meets.proofs.Lines.{meets_rest}
use Rattle.demangle_print_names.proofs.nested.behind_member.Goals as goal

pub returns : goal.returns
returns g c =
    meets_rest (c.one_waiting.ensures _) (meets_block (c.member_qualifiers.ensures _) meets_done)
