-- Printings of expanded names, by computation. Written by tools/write_printings.py.
use Rattle.std.specs.Str.{is_utf8, chars}
use Rattle.std.specs.Char.{encode_utf8}
use Rattle.std.specs.Fmt.{digits}
use Rattle.demangle_core.specs.Table.{empty_table, added, size, entry_at}
use Rattle.demangle_core.specs.Lookups.{leaf_name, template_args, is_special}
use Rattle.demangle_text.specs.Word.{word_at}
use Rattle.demangle_text.specs.Number.{number_from, natural_from}
use Rattle.demangle_text.specs.Characters.{sequence_len}
use Rattle.demangle_vocab.specs.WordTable.{word_read, table_from}
use Rattle.demangle_grammar.specs.Rows.{rule}
use Rattle.demangle_grammar.specs.Code.{eat_at, taken_over, many, all_of, rows_of, turns, turns_of, optional_at}
use Rattle.demangle_grammar.specs.Code.{rows_at, all_at, some_at, trial_part, taken_word, cread}
use Rattle.demangle_grammar.specs.Expand.{expand}
use Rattle.demangle_printing.specs.State.{written}
use Rattle.demangle_printing.specs.Scope.{scope_leaf, scope_argument}
use Rattle.demangle_printing.specs.Act.{act}
use Rattle.demangle_printing.specs.Lines.{line_steps, inside_steps}
use Rattle.demangle_printing.specs.Print.{body, print}
use Rattle.demangle_printing.specs.Outcome.{outcome, Shown}
use Rattle.std.specs.Prelude.{codes}
use Rattle.std.proofs.Common.{refl}
use Rattle.demangle_printing.proofs.Conforms.{PrintsExpanded}

expanded_1 : PrintsExpanded (codes "_ZNUt_B1t1fEv") (Shown (codes "{unnamed type#1}[abi:t]::f()"))
unfolding is_utf8 chars encode_utf8 digits empty_table added size entry_at leaf_name template_args is_special word_at
    number_from natural_from sequence_len word_read table_from rule eat_at taken_over many all_of rows_of turns
    turns_of optional_at rows_at all_at some_at trial_part taken_word cread expand written scope_leaf scope_argument
    act line_steps inside_steps body print outcome
expanded_1 = refl

expanded_2 : PrintsExpanded (codes "_ZNUt_B1t1fEv") (Shown (codes "{unnamed type#1}[abi:t]::f()"))
unfolding is_utf8 chars encode_utf8 digits empty_table added size entry_at leaf_name template_args is_special word_at
    number_from natural_from sequence_len word_read table_from rule eat_at taken_over many all_of rows_of turns
    turns_of optional_at rows_at all_at some_at trial_part taken_word cread expand written scope_leaf scope_argument
    act line_steps inside_steps body print outcome
expanded_2 = refl

expanded_3 : PrintsExpanded (codes "_ZTch0_h4_1fv") (Shown (codes
    "{virtual override thunk({offset(0)}, {offset(4)}, f())}"))
unfolding is_utf8 chars encode_utf8 digits empty_table added size entry_at leaf_name template_args is_special word_at
    number_from natural_from sequence_len word_read table_from rule eat_at taken_over many all_of rows_of turns
    turns_of optional_at rows_at all_at some_at trial_part taken_word cread expand written scope_leaf scope_argument
    act line_steps inside_steps body print outcome
expanded_3 = refl

expanded_4 : PrintsExpanded (codes "_ZTv0_n24_1fv") (Shown (codes
    "{virtual override thunk({virtual offset(0, -24)}, f())}"))
unfolding is_utf8 chars encode_utf8 digits empty_table added size entry_at leaf_name template_args is_special word_at
    number_from natural_from sequence_len word_read table_from rule eat_at taken_over many all_of rows_of turns
    turns_of optional_at rows_at all_at some_at trial_part taken_word cread expand written scope_leaf scope_argument
    act line_steps inside_steps body print outcome
expanded_4 = refl

expanded_5 : PrintsExpanded (codes "_ZcvNKO1X1hEv") (Shown (codes "operator X::h const &&()"))
unfolding is_utf8 chars encode_utf8 digits empty_table added size entry_at leaf_name template_args is_special word_at
    number_from natural_from sequence_len word_read table_from rule eat_at taken_over many all_of rows_of turns
    turns_of optional_at rows_at all_at some_at trial_part taken_word cread expand written scope_leaf scope_argument
    act line_steps inside_steps body print outcome
expanded_5 = refl

expanded_6 : PrintsExpanded (codes "_ZcvNKO1X1hEv") (Shown (codes "operator X::h const &&()"))
unfolding is_utf8 chars encode_utf8 digits empty_table added size entry_at leaf_name template_args is_special word_at
    number_from natural_from sequence_len word_read table_from rule eat_at taken_over many all_of rows_of turns
    turns_of optional_at rows_at all_at some_at trial_part taken_word cread expand written scope_leaf scope_argument
    act line_steps inside_steps body print outcome
expanded_6 = refl

expanded_7 : PrintsExpanded (codes "_ZN1aUlvE_B1tE") (Shown (codes "a::{lambda()#1}[abi:t]"))
unfolding is_utf8 chars encode_utf8 digits empty_table added size entry_at leaf_name template_args is_special word_at
    number_from natural_from sequence_len word_read table_from rule eat_at taken_over many all_of rows_of turns
    turns_of optional_at rows_at all_at some_at trial_part taken_word cread expand written scope_leaf scope_argument
    act line_steps inside_steps body print outcome
expanded_7 = refl

expanded_8 : PrintsExpanded (codes "_ZN1aUlvE_B1tE") (Shown (codes "a::{lambda()#1}[abi:t]"))
unfolding is_utf8 chars encode_utf8 digits empty_table added size entry_at leaf_name template_args is_special word_at
    number_from natural_from sequence_len word_read table_from rule eat_at taken_over many all_of rows_of turns
    turns_of optional_at rows_at all_at some_at trial_part taken_word cread expand written scope_leaf scope_argument
    act line_steps inside_steps body print outcome
expanded_8 = refl

expanded_9 : PrintsExpanded (codes "_Z1fIiEvDBLi8E_") (Shown (codes "void f<int>(signed _BitInt(8))"))
unfolding is_utf8 chars encode_utf8 digits empty_table added size entry_at leaf_name template_args is_special word_at
    number_from natural_from sequence_len word_read table_from rule eat_at taken_over many all_of rows_of turns
    turns_of optional_at rows_at all_at some_at trial_part taken_word cread expand written scope_leaf scope_argument
    act line_steps inside_steps body print outcome
expanded_9 = refl

expanded_10 : PrintsExpanded (codes "_Z1fIiEvDBLi8E_") (Shown (codes "void f<int>(signed _BitInt(8))"))
unfolding is_utf8 chars encode_utf8 digits empty_table added size entry_at leaf_name template_args is_special word_at
    number_from natural_from sequence_len word_read table_from rule eat_at taken_over many all_of rows_of turns
    turns_of optional_at rows_at all_at some_at trial_part taken_word cread expand written scope_leaf scope_argument
    act line_steps inside_steps body print outcome
expanded_10 = refl

expanded_11 : PrintsExpanded (codes "_Z1fu9__float80") (Shown (codes "f(__float80)"))
unfolding is_utf8 chars encode_utf8 digits empty_table added size entry_at leaf_name template_args is_special word_at
    number_from natural_from sequence_len word_read table_from rule eat_at taken_over many all_of rows_of turns
    turns_of optional_at rows_at all_at some_at trial_part taken_word cread expand written scope_leaf scope_argument
    act line_steps inside_steps body print outcome
expanded_11 = refl

expanded_12 : PrintsExpanded (codes "_ZNH1a1bEvPFivE") (Shown (codes "a::b(this void, int (*)())"))
unfolding is_utf8 chars encode_utf8 digits empty_table added size entry_at leaf_name template_args is_special word_at
    number_from natural_from sequence_len word_read table_from rule eat_at taken_over many all_of rows_of turns
    turns_of optional_at rows_at all_at some_at trial_part taken_word cread expand written scope_leaf scope_argument
    act line_steps inside_steps body print outcome
expanded_12 = refl

expanded_13 : PrintsExpanded (codes "_ZNVKO1aIiE1fEv") (Shown (codes "a<int>::f() const volatile &&"))
unfolding is_utf8 chars encode_utf8 digits empty_table added size entry_at leaf_name template_args is_special word_at
    number_from natural_from sequence_len word_read table_from rule eat_at taken_over many all_of rows_of turns
    turns_of optional_at rows_at all_at some_at trial_part taken_word cread expand written scope_leaf scope_argument
    act line_steps inside_steps body print outcome
expanded_13 = refl

expanded_14 : PrintsExpanded (codes "_ZNVKO1aIiE1fEv") (Shown (codes "a<int>::f() const volatile &&"))
unfolding is_utf8 chars encode_utf8 digits empty_table added size entry_at leaf_name template_args is_special word_at
    number_from natural_from sequence_len word_read table_from rule eat_at taken_over many all_of rows_of turns
    turns_of optional_at rows_at all_at some_at trial_part taken_word cread expand written scope_leaf scope_argument
    act line_steps inside_steps body print outcome
expanded_14 = refl

expanded_15 : PrintsExpanded (codes "_Z1fPDOLb1EEFivE") (Shown (codes "f(int (*)() noexcept(true))"))
unfolding is_utf8 chars encode_utf8 digits empty_table added size entry_at leaf_name template_args is_special word_at
    number_from natural_from sequence_len word_read table_from rule eat_at taken_over many all_of rows_of turns
    turns_of optional_at rows_at all_at some_at trial_part taken_word cread expand written scope_leaf scope_argument
    act line_steps inside_steps body print outcome
expanded_15 = refl

expanded_16 : PrintsExpanded (codes "_Z1fPDOLb1EEFivE") (Shown (codes "f(int (*)() noexcept(true))"))
unfolding is_utf8 chars encode_utf8 digits empty_table added size entry_at leaf_name template_args is_special word_at
    number_from natural_from sequence_len word_read table_from rule eat_at taken_over many all_of rows_of turns
    turns_of optional_at rows_at all_at some_at trial_part taken_word cread expand written scope_leaf scope_argument
    act line_steps inside_steps body print outcome
expanded_16 = refl

expanded_17 : PrintsExpanded (codes "_Z1fTs1aTu1bTe1c") (Shown (codes "f(class a, union b, enum c)"))
unfolding is_utf8 chars encode_utf8 digits empty_table added size entry_at leaf_name template_args is_special word_at
    number_from natural_from sequence_len word_read table_from rule eat_at taken_over many all_of rows_of turns
    turns_of optional_at rows_at all_at some_at trial_part taken_word cread expand written scope_leaf scope_argument
    act line_steps inside_steps body print outcome
expanded_17 = refl

expanded_18 : PrintsExpanded (codes "_Z1fTs1aTu1bTe1c") (Shown (codes "f(class a, union b, enum c)"))
unfolding is_utf8 chars encode_utf8 digits empty_table added size entry_at leaf_name template_args is_special word_at
    number_from natural_from sequence_len word_read table_from rule eat_at taken_over many all_of rows_of turns
    turns_of optional_at rows_at all_at some_at trial_part taken_word cread expand written scope_leaf scope_argument
    act line_steps inside_steps body print outcome
expanded_18 = refl

expanded_19 : PrintsExpanded (codes "_ZTcv0_n24_h4_1fv") (Shown (codes
    "{virtual override thunk({virtual offset(0, -24)}, {offset(4)}, f())}"))
unfolding is_utf8 chars encode_utf8 digits empty_table added size entry_at leaf_name template_args is_special word_at
    number_from natural_from sequence_len word_read table_from rule eat_at taken_over many all_of rows_of turns
    turns_of optional_at rows_at all_at some_at trial_part taken_word cread expand written scope_leaf scope_argument
    act line_steps inside_steps body print outcome
expanded_19 = refl

expanded_20 : PrintsExpanded (codes "_ZZ1fvEN1aC1IiEEv") (Shown (codes "void f()::a::a<int>()"))
unfolding is_utf8 chars encode_utf8 digits empty_table added size entry_at leaf_name template_args is_special word_at
    number_from natural_from sequence_len word_read table_from rule eat_at taken_over many all_of rows_of turns
    turns_of optional_at rows_at all_at some_at trial_part taken_word cread expand written scope_leaf scope_argument
    act line_steps inside_steps body print outcome
expanded_20 = refl

expanded_21 : PrintsExpanded (codes "_ZN12_GLOBAL__N_11fEv") (Shown (codes "(anonymous namespace)::f()"))
unfolding is_utf8 chars encode_utf8 digits empty_table added size entry_at leaf_name template_args is_special word_at
    number_from natural_from sequence_len word_read table_from rule eat_at taken_over many all_of rows_of turns
    turns_of optional_at rows_at all_at some_at trial_part taken_word cread expand written scope_leaf scope_argument
    act line_steps inside_steps body print outcome
expanded_21 = refl

expanded_22 : PrintsExpanded (codes "_ZN12_GLOBAL__N_11fEv") (Shown (codes "(anonymous namespace)::f()"))
unfolding is_utf8 chars encode_utf8 digits empty_table added size entry_at leaf_name template_args is_special word_at
    number_from natural_from sequence_len word_read table_from rule eat_at taken_over many all_of rows_of turns
    turns_of optional_at rows_at all_at some_at trial_part taken_word cread expand written scope_leaf scope_argument
    act line_steps inside_steps body print outcome
expanded_22 = refl

expanded_23 : PrintsExpanded (codes "___Z1fv_block_invoke3") (Shown (codes "invocation function for block in f()"))
unfolding is_utf8 chars encode_utf8 digits empty_table added size entry_at leaf_name template_args is_special word_at
    number_from natural_from sequence_len word_read table_from rule eat_at taken_over many all_of rows_of turns
    turns_of optional_at rows_at all_at some_at trial_part taken_word cread expand written scope_leaf scope_argument
    act line_steps inside_steps body print outcome
expanded_23 = refl

expanded_24 : PrintsExpanded (codes "_Z1fDF16_DF32xDB8_DU9_") (Shown (codes
    "f(_Float16, _Float32x, signed _BitInt(8), unsigned _BitInt(9))"))
unfolding is_utf8 chars encode_utf8 digits empty_table added size entry_at leaf_name template_args is_special word_at
    number_from natural_from sequence_len word_read table_from rule eat_at taken_over many all_of rows_of turns
    turns_of optional_at rows_at all_at some_at trial_part taken_word cread expand written scope_leaf scope_argument
    act line_steps inside_steps body print outcome
expanded_24 = refl

expanded_25 : PrintsExpanded (codes "_Z1fDF16_DF32xDB8_DU9_") (Shown (codes
    "f(_Float16, _Float32x, signed _BitInt(8), unsigned _BitInt(9))"))
unfolding is_utf8 chars encode_utf8 digits empty_table added size entry_at leaf_name template_args is_special word_at
    number_from natural_from sequence_len word_read table_from rule eat_at taken_over many all_of rows_of turns
    turns_of optional_at rows_at all_at some_at trial_part taken_word cread expand written scope_leaf scope_argument
    act line_steps inside_steps body print outcome
expanded_25 = refl

expanded_26 : PrintsExpanded (codes "_ZZN1a1bEiENKUliE0_clEi") (Shown (codes
    "a::b(int)::{lambda(int)#2}::operator()(int) const"))
unfolding is_utf8 chars encode_utf8 digits empty_table added size entry_at leaf_name template_args is_special word_at
    number_from natural_from sequence_len word_read table_from rule eat_at taken_over many all_of rows_of turns
    turns_of optional_at rows_at all_at some_at trial_part taken_word cread expand written scope_leaf scope_argument
    act line_steps inside_steps body print outcome
expanded_26 = refl

expanded_27 : PrintsExpanded (codes "_Z1fN1a1bENS0_1c1dERKS1_") (Shown (codes "f(a::b, a::b::c::d, a::b::c const&)"))
unfolding is_utf8 chars encode_utf8 digits empty_table added size entry_at leaf_name template_args is_special word_at
    number_from natural_from sequence_len word_read table_from rule eat_at taken_over many all_of rows_of turns
    turns_of optional_at rows_at all_at some_at trial_part taken_word cread expand written scope_leaf scope_argument
    act line_steps inside_steps body print outcome
expanded_27 = refl

expanded_28 : PrintsExpanded (codes "_Z1fIXtl2BRsoKiL_Z7derivedE4EEEEvv") (Shown (codes
    "void f<BR{derived.<int const at offset 4>}>()"))
unfolding is_utf8 chars encode_utf8 digits empty_table added size entry_at leaf_name template_args is_special word_at
    number_from natural_from sequence_len word_read table_from rule eat_at taken_over many all_of rows_of turns
    turns_of optional_at rows_at all_at some_at trial_part taken_word cread expand written scope_leaf scope_argument
    act line_steps inside_steps body print outcome
expanded_28 = refl

expanded_29 : PrintsExpanded (codes "_Z1fIXtl1CadsoKiL_Z7derivedE4EEEEvv") (Shown (codes
    "void f<C{&(derived.<int const at offset 4>)}>()"))
unfolding is_utf8 chars encode_utf8 digits empty_table added size entry_at leaf_name template_args is_special word_at
    number_from natural_from sequence_len word_read table_from rule eat_at taken_over many all_of rows_of turns
    turns_of optional_at rows_at all_at some_at trial_part taken_word cread expand written scope_leaf scope_argument
    act line_steps inside_steps body print outcome
expanded_29 = refl

expanded_30 : PrintsExpanded (codes "_ZN6PR58615AllocIcNS_6PolicyINS_1PELb1EEEE8allocateEiPKv") (Shown (codes
    "PR5861::Alloc<char, PR5861::Policy<PR5861::P, true> >::allocate(int, void const*)"))
unfolding is_utf8 chars encode_utf8 digits empty_table added size entry_at leaf_name template_args is_special word_at
    number_from natural_from sequence_len word_read table_from rule eat_at taken_over many all_of rows_of turns
    turns_of optional_at rows_at all_at some_at trial_part taken_word cread expand written scope_leaf scope_argument
    act line_steps inside_steps body print outcome
expanded_30 = refl

expanded_31 : PrintsExpanded (codes "_ZN6PR58615AllocIcNS_6PolicyINS_1PELb1EEEE8allocateEiPKv") (Shown (codes
    "PR5861::Alloc<char, PR5861::Policy<PR5861::P, true> >::allocate(int, void const*)"))
unfolding is_utf8 chars encode_utf8 digits empty_table added size entry_at leaf_name template_args is_special word_at
    number_from natural_from sequence_len word_read table_from rule eat_at taken_over many all_of rows_of turns
    turns_of optional_at rows_at all_at some_at trial_part taken_word cread expand written scope_leaf scope_argument
    act line_steps inside_steps body print outcome
expanded_31 = refl

expanded_32 : PrintsExpanded (codes "_Z1fIXtl1ILf00000000ELd0000000000000002ELebbce8000000000000000EEEEvv") (Shown
    (codes "void f<I{(float)[00000000], (double)[0000000000000002], (long double)bbce8000000000000000}>()"))
unfolding is_utf8 chars encode_utf8 digits empty_table added size entry_at leaf_name template_args is_special word_at
    number_from natural_from sequence_len word_read table_from rule eat_at taken_over many all_of rows_of turns
    turns_of optional_at rows_at all_at some_at trial_part taken_word cread expand written scope_leaf scope_argument
    act line_steps inside_steps body print outcome
expanded_32 = refl
