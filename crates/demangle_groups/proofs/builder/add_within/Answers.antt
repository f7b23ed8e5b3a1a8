use Rattle.std.proofs.Common.{arith}
use Rattle.std.proofs.lemmas.List.{append-nil}
use Rattle.std.proofs.lemmas.Map.Text.{text_keys}
use Rattle.demangle_groups.proofs.BuilderLaws.{on-err}
use Rattle.demangle_groups.proofs.builder.add_within.Goals as goal

pub returns-in-Some-clause-added : goal.returns-in-Some-clause-added
returns-in-Some-clause-added c = record {
  positions = λ q. grind (arith, text_keys, append-nil);
  has = λ q. grind (arith, text_keys);
}

pub returns-clause-added : goal.returns-clause-added
returns-clause-added c = record {
  positions = λ q. grind (arith, text_keys, append-nil);
  has = λ q. grind (arith, text_keys);
}

pub returns-in_err-push-clause-lacked : goal.returns-in_err-push-clause-lacked
returns-in_err-push-clause-lacked c = on-err c.from_residual.result _ (record {
  positions = λ q. grind (arith, text_keys);
  has = λ q. grind (arith, text_keys);
})
