-- Printings that were written out by hand. Written by tools/write_printings.py.
use Rattle.std.specs.Str.{is_utf8, chars}
use Rattle.std.specs.Char.{encode_utf8}
use Rattle.std.specs.Fmt.{digits}
use Rattle.demangle_core.specs.Table.{empty_table, added, size, entry_at}
use Rattle.demangle_core.specs.Lookups.{leaf_name, template_args, is_special}
use Rattle.demangle_text.specs.Word.{word_at}
use Rattle.demangle_text.specs.Number.{number_from, natural_from}
use Rattle.demangle_text.specs.Characters.{sequence_len}
use Rattle.demangle_vocab.specs.WordTable.{word_read, table_from}
use Rattle.demangle_grammar.specs.Rows.{rule}
use Rattle.demangle_grammar.specs.Code.{eat_at, taken_over, many, all_of, rows_of, turns, turns_of, optional_at}
use Rattle.demangle_grammar.specs.Code.{rows_at, all_at, some_at, trial_part, taken_word, cread}
use Rattle.demangle_grammar.specs.Expand.{expand}
use Rattle.demangle_printing.specs.State.{written}
use Rattle.demangle_printing.specs.Scope.{scope_leaf, scope_argument}
use Rattle.demangle_printing.specs.Act.{act}
use Rattle.demangle_printing.specs.Lines.{line_steps, inside_steps}
use Rattle.demangle_printing.specs.Print.{body, print}
use Rattle.demangle_printing.specs.Outcome.{outcome, Shown}
use Rattle.std.specs.Prelude.{true, codes, []}
use Rattle.std.proofs.Common.{refl}
use Rattle.demangle_core.specs.Core.{Tag, end, node, place, flag, chosen}
use Rattle.demangle_printing.proofs.Conforms.{defaults, Prints, PrintsTree}

byhand_1 : Prints 96 defaults (codes "_Z1fIiEDTflpltrET_") (Shown (codes "decltype ((...+(throw))) f<int>(int)"))
unfolding is_utf8 chars encode_utf8 digits empty_table added size entry_at leaf_name template_args is_special word_at
    number_from natural_from sequence_len word_read table_from rule eat_at taken_over many all_of rows_of turns
    turns_of optional_at rows_at all_at some_at trial_part taken_word cread expand written scope_leaf scope_argument
    act line_steps inside_steps body print outcome
byhand_1 = refl

byhand_2 : Prints 96 defaults (codes "_Z1fIiEDTflplfp_ET_") (Shown (codes "decltype ((...+{parm#1})) f<int>(int)"))
unfolding is_utf8 chars encode_utf8 digits empty_table added size entry_at leaf_name template_args is_special word_at
    number_from natural_from sequence_len word_read table_from rule eat_at taken_over many all_of rows_of turns
    turns_of optional_at rows_at all_at some_at trial_part taken_word cread expand written scope_leaf scope_argument
    act line_steps inside_steps body print outcome
byhand_2 = refl

byhand_3 : Prints 96 defaults (codes "_Z1fIiEDTfrplfp_ET_") (Shown (codes "decltype (({parm#1}+...)) f<int>(int)"))
unfolding is_utf8 chars encode_utf8 digits empty_table added size entry_at leaf_name template_args is_special word_at
    number_from natural_from sequence_len word_read table_from rule eat_at taken_over many all_of rows_of turns
    turns_of optional_at rows_at all_at some_at trial_part taken_word cread expand written scope_leaf scope_argument
    act line_steps inside_steps body print outcome
byhand_3 = refl

byhand_4 : Prints 96 defaults (codes "_Z1fIiEDTfrpltrET_") (Shown (codes "decltype (((throw)+...)) f<int>(int)"))
unfolding is_utf8 chars encode_utf8 digits empty_table added size entry_at leaf_name template_args is_special word_at
    number_from natural_from sequence_len word_read table_from rule eat_at taken_over many all_of rows_of turns
    turns_of optional_at rows_at all_at some_at trial_part taken_word cread expand written scope_leaf scope_argument
    act line_steps inside_steps body print outcome
byhand_4 = refl

byhand_5 : Prints 96 defaults (codes "_Z1fIiEDTfLplfp_trET_") (Shown (codes
    "decltype (({parm#1}+...+(throw))) f<int>(int)"))
unfolding is_utf8 chars encode_utf8 digits empty_table added size entry_at leaf_name template_args is_special word_at
    number_from natural_from sequence_len word_read table_from rule eat_at taken_over many all_of rows_of turns
    turns_of optional_at rows_at all_at some_at trial_part taken_word cread expand written scope_leaf scope_argument
    act line_steps inside_steps body print outcome
byhand_5 = refl

byhand_6 : Prints 96 defaults (codes "_Z1fIiEDTfRpltrfp_ET_") (Shown (codes
    "decltype (((throw)+...+{parm#1})) f<int>(int)"))
unfolding is_utf8 chars encode_utf8 digits empty_table added size entry_at leaf_name template_args is_special word_at
    number_from natural_from sequence_len word_read table_from rule eat_at taken_over many all_of rows_of turns
    turns_of optional_at rows_at all_at some_at trial_part taken_word cread expand written scope_leaf scope_argument
    act line_steps inside_steps body print outcome
byhand_6 = refl

byhand_7 : Prints 96 defaults (codes "_Z1fA_PFivE") (Shown (codes "f(int (* [])())"))
unfolding is_utf8 chars encode_utf8 digits empty_table added size entry_at leaf_name template_args is_special word_at
    number_from natural_from sequence_len word_read table_from rule eat_at taken_over many all_of rows_of turns
    turns_of optional_at rows_at all_at some_at trial_part taken_word cread expand written scope_leaf scope_argument
    act line_steps inside_steps body print outcome
byhand_7 = refl

byhand_8 : Prints 96 defaults (codes "A_PFivE") (Shown (codes "int (* [])()"))
unfolding is_utf8 chars encode_utf8 digits empty_table added size entry_at leaf_name template_args is_special word_at
    number_from natural_from sequence_len word_read table_from rule eat_at taken_over many all_of rows_of turns
    turns_of optional_at rows_at all_at some_at trial_part taken_word cread expand written scope_leaf scope_argument
    act line_steps inside_steps body print outcome
byhand_8 = refl

byhand_9 : Prints 96 defaults (codes "Dv4_PFivE") (Shown (codes "int (* __vector(4))()"))
unfolding is_utf8 chars encode_utf8 digits empty_table added size entry_at leaf_name template_args is_special word_at
    number_from natural_from sequence_len word_read table_from rule eat_at taken_over many all_of rows_of turns
    turns_of optional_at rows_at all_at some_at trial_part taken_word cread expand written scope_leaf scope_argument
    act line_steps inside_steps body print outcome
byhand_9 = refl

byhand_10 : Prints 96 defaults (codes "DvLi4E_PFivE") (Shown (codes "int (* __vector(4))()"))
unfolding is_utf8 chars encode_utf8 digits empty_table added size entry_at leaf_name template_args is_special word_at
    number_from natural_from sequence_len word_read table_from rule eat_at taken_over many all_of rows_of turns
    turns_of optional_at rows_at all_at some_at trial_part taken_word cread expand written scope_leaf scope_argument
    act line_steps inside_steps body print outcome
byhand_10 = refl

byhand_11 : Prints 96 defaults (codes "ALi4E_PFivE") (Shown (codes "int (* [4])()"))
unfolding is_utf8 chars encode_utf8 digits empty_table added size entry_at leaf_name template_args is_special word_at
    number_from natural_from sequence_len word_read table_from rule eat_at taken_over many all_of rows_of turns
    turns_of optional_at rows_at all_at some_at trial_part taken_word cread expand written scope_leaf scope_argument
    act line_steps inside_steps body print outcome
byhand_11 = refl

byhand_12 : Prints 96 defaults (codes "M1aFPivE") (Shown (codes "int* (a::*)()"))
unfolding is_utf8 chars encode_utf8 digits empty_table added size entry_at leaf_name template_args is_special word_at
    number_from natural_from sequence_len word_read table_from rule eat_at taken_over many all_of rows_of turns
    turns_of optional_at rows_at all_at some_at trial_part taken_word cread expand written scope_leaf scope_argument
    act line_steps inside_steps body print outcome
byhand_12 = refl

byhand_13 : Prints 96 defaults (codes "FPFivEvE") (Shown (codes "int (*())()"))
unfolding is_utf8 chars encode_utf8 digits empty_table added size entry_at leaf_name template_args is_special word_at
    number_from natural_from sequence_len word_read table_from rule eat_at taken_over many all_of rows_of turns
    turns_of optional_at rows_at all_at some_at trial_part taken_word cread expand written scope_leaf scope_argument
    act line_steps inside_steps body print outcome
byhand_13 = refl

byhand_14 : Prints 96 defaults (codes "_Z1fIiEDTv33addLi1ELi2ELi3EEv") (Shown (codes
    "decltype (add::operator 3(1, 2, 3)) f<int>()"))
unfolding is_utf8 chars encode_utf8 digits empty_table added size entry_at leaf_name template_args is_special word_at
    number_from natural_from sequence_len word_read table_from rule eat_at taken_over many all_of rows_of turns
    turns_of optional_at rows_at all_at some_at trial_part taken_word cread expand written scope_leaf scope_argument
    act line_steps inside_steps body print outcome
byhand_14 = refl

byhand_15 : Prints 96 defaults (codes "_Z1fIiEDTsrNT_1b1cE1dEv") (Shown (codes "decltype (int::b::c::d) f<int>()"))
unfolding is_utf8 chars encode_utf8 digits empty_table added size entry_at leaf_name template_args is_special word_at
    number_from natural_from sequence_len word_read table_from rule eat_at taken_over many all_of rows_of turns
    turns_of optional_at rows_at all_at some_at trial_part taken_word cread expand written scope_leaf scope_argument
    act line_steps inside_steps body print outcome
byhand_15 = refl

byhand_16 : Prints 96 defaults (codes "_Z1fILdn4000EEvv") (Shown (codes "void f<(double)-[4000]>()"))
unfolding is_utf8 chars encode_utf8 digits empty_table added size entry_at leaf_name template_args is_special word_at
    number_from natural_from sequence_len word_read table_from rule eat_at taken_over many all_of rows_of turns
    turns_of optional_at rows_at all_at some_at trial_part taken_word cread expand written scope_leaf scope_argument
    act line_steps inside_steps body print outcome
byhand_16 = refl

byhand_17 : PrintsTree (node Tag.OperatorNameCast (node Tag.TypeHandleBuiltin (node Tag.BuiltinTypeStandard (chosen 1
    8 end) end) end) end) [] (Shown (codes " int"))
unfolding is_utf8 chars encode_utf8 digits empty_table added size entry_at leaf_name template_args is_special word_at
    number_from natural_from sequence_len word_read table_from rule eat_at taken_over many all_of rows_of turns
    turns_of optional_at rows_at all_at some_at trial_part taken_word cread expand written scope_leaf scope_argument
    act line_steps inside_steps body print outcome
byhand_17 = refl

byhand_18 : PrintsTree (node Tag.QualifiedBuiltin (node Tag.CvQualifiers (flag true (flag true (flag true end))) (node
    Tag.BuiltinTypeStandard (chosen 1 8 end) end)) end) [] (Shown (codes "int const volatile restrict"))
unfolding is_utf8 chars encode_utf8 digits empty_table added size entry_at leaf_name template_args is_special word_at
    number_from natural_from sequence_len word_read table_from rule eat_at taken_over many all_of rows_of turns
    turns_of optional_at rows_at all_at some_at trial_part taken_word cread expand written scope_leaf scope_argument
    act line_steps inside_steps body print outcome
byhand_18 = refl

byhand_19 : PrintsTree (node Tag.DataMemberPrefix (node Tag.SourceName (node Tag.Identifier (place 0 1 end) end) end)
    end) (codes "a") (Shown (codes "a"))
unfolding is_utf8 chars encode_utf8 digits empty_table added size entry_at leaf_name template_args is_special word_at
    number_from natural_from sequence_len word_read table_from rule eat_at taken_over many all_of rows_of turns
    turns_of optional_at rows_at all_at some_at trial_part taken_word cread expand written scope_leaf scope_argument
    act line_steps inside_steps body print outcome
byhand_19 = refl
