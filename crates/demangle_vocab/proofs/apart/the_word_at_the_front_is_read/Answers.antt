use Rattle.std.proofs.Common.{refl}
use Rattle.demangle_vocab.specs.Operators.{operator_words}
use Rattle.demangle_vocab.specs.Builtins.{builtin_words}
use Rattle.demangle_vocab.specs.Components.{component_words}
use Rattle.demangle_vocab.specs.Qualifiers.{ref_qualifier_words, explicit_object_words}
use Rattle.demangle_vocab.proofs.WordsFound.{reads_each}
use Rattle.demangle_vocab.proofs.apart.the_word_at_the_front_is_read.Goals as goal

pub returns-clause-operators : goal.returns-clause-operators
returns-clause-operators c = reads_each operator_words refl

pub returns-clause-builtins : goal.returns-clause-builtins
returns-clause-builtins c = reads_each builtin_words refl

pub returns-clause-components : goal.returns-clause-components
returns-clause-components c = reads_each component_words refl

pub returns-clause-ref_qualifiers : goal.returns-clause-ref_qualifiers
returns-clause-ref_qualifiers c = reads_each ref_qualifier_words refl

pub returns-clause-explicit_objects : goal.returns-clause-explicit_objects
returns-clause-explicit_objects c = reads_each explicit_object_words refl
