-- Plain types that print as they are declared, by computation. Written by tools/write_printings.py.
use Rattle.std.specs.Str.{is_utf8, chars}
use Rattle.std.specs.Char.{encode_utf8}
use Rattle.std.specs.Fmt.{digits}
use Rattle.demangle_core.specs.Table.{empty_table, added, size, entry_at}
use Rattle.demangle_core.specs.Lookups.{leaf_name, template_args, is_special}
use Rattle.demangle_text.specs.Word.{word_at}
use Rattle.demangle_text.specs.Number.{number_from, natural_from}
use Rattle.demangle_text.specs.Characters.{sequence_len}
use Rattle.demangle_vocab.specs.WordTable.{word_read, table_from}
use Rattle.demangle_grammar.specs.Rows.{rule}
use Rattle.demangle_grammar.specs.Code.{eat_at, taken_over, many, all_of, rows_of, turns, turns_of, optional_at}
use Rattle.demangle_grammar.specs.Code.{rows_at, all_at, some_at, trial_part, taken_word, cread}
use Rattle.demangle_grammar.specs.Expand.{expand}
use Rattle.demangle_printing.specs.State.{written}
use Rattle.demangle_printing.specs.Scope.{scope_leaf, scope_argument}
use Rattle.demangle_printing.specs.Act.{act}
use Rattle.demangle_printing.specs.Lines.{line_steps, inside_steps}
use Rattle.demangle_printing.specs.Print.{body, print}
use Rattle.demangle_printing.specs.Outcome.{outcome}
use Rattle.std.specs.Prelude.{codes, [], ◌∷◌, ◌++◌}
use Rattle.std.proofs.Common.{refl}
use Rattle.demangle_printing.specs.Declarators.{builtin, class, const, to, function, none, more, pointer, lvalue}
use Rattle.demangle_printing.specs.Declarators.{rvalue}
use Rattle.demangle_printing.proofs.Conforms.{Declares}

declares_1 : Declares (codes "a") (builtin 4)
unfolding is_utf8 chars encode_utf8 digits empty_table added size entry_at leaf_name template_args is_special word_at
    number_from natural_from sequence_len word_read table_from rule eat_at taken_over many all_of rows_of turns
    turns_of optional_at rows_at all_at some_at trial_part taken_word cread expand written scope_leaf scope_argument
    act line_steps inside_steps body print outcome
declares_1 = (refl, refl)

declares_2 : Declares (codes "e") (builtin 18)
unfolding is_utf8 chars encode_utf8 digits empty_table added size entry_at leaf_name template_args is_special word_at
    number_from natural_from sequence_len word_read table_from rule eat_at taken_over many all_of rows_of turns
    turns_of optional_at rows_at all_at some_at trial_part taken_word cread expand written scope_leaf scope_argument
    act line_steps inside_steps body print outcome
declares_2 = (refl, refl)

declares_3 : Declares (codes "y") (builtin 13)
unfolding is_utf8 chars encode_utf8 digits empty_table added size entry_at leaf_name template_args is_special word_at
    number_from natural_from sequence_len word_read table_from rule eat_at taken_over many all_of rows_of turns
    turns_of optional_at rows_at all_at some_at trial_part taken_word cread expand written scope_leaf scope_argument
    act line_steps inside_steps body print outcome
declares_3 = (refl, refl)

declares_4 : Declares (codes "1a") (class (codes "a"))
unfolding is_utf8 chars encode_utf8 digits empty_table added size entry_at leaf_name template_args is_special word_at
    number_from natural_from sequence_len word_read table_from rule eat_at taken_over many all_of rows_of turns
    turns_of optional_at rows_at all_at some_at trial_part taken_word cread expand written scope_leaf scope_argument
    act line_steps inside_steps body print outcome
declares_4 = (refl, refl)

declares_5 : Declares (codes "Kh") (const (builtin 5))
unfolding is_utf8 chars encode_utf8 digits empty_table added size entry_at leaf_name template_args is_special word_at
    number_from natural_from sequence_len word_read table_from rule eat_at taken_over many all_of rows_of turns
    turns_of optional_at rows_at all_at some_at trial_part taken_word cread expand written scope_leaf scope_argument
    act line_steps inside_steps body print outcome
declares_5 = (refl, refl)

declares_6 : Declares (codes "Ph") (to pointer (builtin 5))
unfolding is_utf8 chars encode_utf8 digits empty_table added size entry_at leaf_name template_args is_special word_at
    number_from natural_from sequence_len word_read table_from rule eat_at taken_over many all_of rows_of turns
    turns_of optional_at rows_at all_at some_at trial_part taken_word cread expand written scope_leaf scope_argument
    act line_steps inside_steps body print outcome
declares_6 = (refl, refl)

declares_7 : Declares (codes "Rl") (to lvalue (builtin 10))
unfolding is_utf8 chars encode_utf8 digits empty_table added size entry_at leaf_name template_args is_special word_at
    number_from natural_from sequence_len word_read table_from rule eat_at taken_over many all_of rows_of turns
    turns_of optional_at rows_at all_at some_at trial_part taken_word cread expand written scope_leaf scope_argument
    act line_steps inside_steps body print outcome
declares_7 = (refl, refl)

declares_8 : Declares (codes "Rw") (to lvalue (builtin 1))
unfolding is_utf8 chars encode_utf8 digits empty_table added size entry_at leaf_name template_args is_special word_at
    number_from natural_from sequence_len word_read table_from rule eat_at taken_over many all_of rows_of turns
    turns_of optional_at rows_at all_at some_at trial_part taken_word cread expand written scope_leaf scope_argument
    act line_steps inside_steps body print outcome
declares_8 = (refl, refl)

declares_9 : Declares (codes "Rz") (to lvalue (builtin 20))
unfolding is_utf8 chars encode_utf8 digits empty_table added size entry_at leaf_name template_args is_special word_at
    number_from natural_from sequence_len word_read table_from rule eat_at taken_over many all_of rows_of turns
    turns_of optional_at rows_at all_at some_at trial_part taken_word cread expand written scope_leaf scope_argument
    act line_steps inside_steps body print outcome
declares_9 = (refl, refl)

declares_10 : Declares (codes "2b2") (class (codes "b2"))
unfolding is_utf8 chars encode_utf8 digits empty_table added size entry_at leaf_name template_args is_special word_at
    number_from natural_from sequence_len word_read table_from rule eat_at taken_over many all_of rows_of turns
    turns_of optional_at rows_at all_at some_at trial_part taken_word cread expand written scope_leaf scope_argument
    act line_steps inside_steps body print outcome
declares_10 = (refl, refl)

declares_11 : Declares (codes "KRx") (const (to lvalue (builtin 12)))
unfolding is_utf8 chars encode_utf8 digits empty_table added size entry_at leaf_name template_args is_special word_at
    number_from natural_from sequence_len word_read table_from rule eat_at taken_over many all_of rows_of turns
    turns_of optional_at rows_at all_at some_at trial_part taken_word cread expand written scope_leaf scope_argument
    act line_steps inside_steps body print outcome
declares_11 = (refl, refl)

declares_12 : Declares (codes "POv") (to pointer (to rvalue (builtin 0)))
unfolding is_utf8 chars encode_utf8 digits empty_table added size entry_at leaf_name template_args is_special word_at
    number_from natural_from sequence_len word_read table_from rule eat_at taken_over many all_of rows_of turns
    turns_of optional_at rows_at all_at some_at trial_part taken_word cread expand written scope_leaf scope_argument
    act line_steps inside_steps body print outcome
declares_12 = (refl, refl)

declares_13 : Declares (codes "PPb") (to pointer (to pointer (builtin 2)))
unfolding is_utf8 chars encode_utf8 digits empty_table added size entry_at leaf_name template_args is_special word_at
    number_from natural_from sequence_len word_read table_from rule eat_at taken_over many all_of rows_of turns
    turns_of optional_at rows_at all_at some_at trial_part taken_word cread expand written scope_leaf scope_argument
    act line_steps inside_steps body print outcome
declares_13 = (refl, refl)

declares_14 : Declares (codes "RKb") (to lvalue (const (builtin 2)))
unfolding is_utf8 chars encode_utf8 digits empty_table added size entry_at leaf_name template_args is_special word_at
    number_from natural_from sequence_len word_read table_from rule eat_at taken_over many all_of rows_of turns
    turns_of optional_at rows_at all_at some_at trial_part taken_word cread expand written scope_leaf scope_argument
    act line_steps inside_steps body print outcome
declares_14 = (refl, refl)

declares_15 : Declares (codes "RPj") (to lvalue (to pointer (builtin 9)))
unfolding is_utf8 chars encode_utf8 digits empty_table added size entry_at leaf_name template_args is_special word_at
    number_from natural_from sequence_len word_read table_from rule eat_at taken_over many all_of rows_of turns
    turns_of optional_at rows_at all_at some_at trial_part taken_word cread expand written scope_leaf scope_argument
    act line_steps inside_steps body print outcome
declares_15 = (refl, refl)

declares_16 : Declares (codes "3foo") (class (codes "foo"))
unfolding is_utf8 chars encode_utf8 digits empty_table added size entry_at leaf_name template_args is_special word_at
    number_from natural_from sequence_len word_read table_from rule eat_at taken_over many all_of rows_of turns
    turns_of optional_at rows_at all_at some_at trial_part taken_word cread expand written scope_leaf scope_argument
    act line_steps inside_steps body print outcome
declares_16 = (refl, refl)

declares_17 : Declares (codes "FgvE") (function (builtin 19) (more (builtin 0) none))
unfolding is_utf8 chars encode_utf8 digits empty_table added size entry_at leaf_name template_args is_special word_at
    number_from natural_from sequence_len word_read table_from rule eat_at taken_over many all_of rows_of turns
    turns_of optional_at rows_at all_at some_at trial_part taken_word cread expand written scope_leaf scope_argument
    act line_steps inside_steps body print outcome
declares_17 = (refl, refl)

declares_18 : Declares (codes "PP1a") (to pointer (to pointer (class (codes "a"))))
unfolding is_utf8 chars encode_utf8 digits empty_table added size entry_at leaf_name template_args is_special word_at
    number_from natural_from sequence_len word_read table_from rule eat_at taken_over many all_of rows_of turns
    turns_of optional_at rows_at all_at some_at trial_part taken_word cread expand written scope_leaf scope_argument
    act line_steps inside_steps body print outcome
declares_18 = (refl, refl)

declares_19 : Declares (codes "PRKe") (to pointer (to lvalue (const (builtin 18))))
unfolding is_utf8 chars encode_utf8 digits empty_table added size entry_at leaf_name template_args is_special word_at
    number_from natural_from sequence_len word_read table_from rule eat_at taken_over many all_of rows_of turns
    turns_of optional_at rows_at all_at some_at trial_part taken_word cread expand written scope_leaf scope_argument
    act line_steps inside_steps body print outcome
declares_19 = (refl, refl)

declares_20 : Declares (codes "R2b2") (to lvalue (class (codes "b2")))
unfolding is_utf8 chars encode_utf8 digits empty_table added size entry_at leaf_name template_args is_special word_at
    number_from natural_from sequence_len word_read table_from rule eat_at taken_over many all_of rows_of turns
    turns_of optional_at rows_at all_at some_at trial_part taken_word cread expand written scope_leaf scope_argument
    act line_steps inside_steps body print outcome
declares_20 = (refl, refl)

declares_21 : Declares (codes "R2" ++ (195 ∷ []) ++ (169 ∷ [])) (to lvalue (class ((195 ∷ []) ++ (169 ∷ []))))
unfolding is_utf8 chars encode_utf8 digits empty_table added size entry_at leaf_name template_args is_special word_at
    number_from natural_from sequence_len word_read table_from rule eat_at taken_over many all_of rows_of turns
    turns_of optional_at rows_at all_at some_at trial_part taken_word cread expand written scope_leaf scope_argument
    act line_steps inside_steps body print outcome
declares_21 = (refl, refl)

declares_22 : Declares (codes "RKRx") (to lvalue (const (to lvalue (builtin 12))))
unfolding is_utf8 chars encode_utf8 digits empty_table added size entry_at leaf_name template_args is_special word_at
    number_from natural_from sequence_len word_read table_from rule eat_at taken_over many all_of rows_of turns
    turns_of optional_at rows_at all_at some_at trial_part taken_word cread expand written scope_leaf scope_argument
    act line_steps inside_steps body print outcome
declares_22 = (refl, refl)

declares_23 : Declares (codes "KPKRc") (const (to pointer (const (to lvalue (builtin 3)))))
unfolding is_utf8 chars encode_utf8 digits empty_table added size entry_at leaf_name template_args is_special word_at
    number_from natural_from sequence_len word_read table_from rule eat_at taken_over many all_of rows_of turns
    turns_of optional_at rows_at all_at some_at trial_part taken_word cread expand written scope_leaf scope_argument
    act line_steps inside_steps body print outcome
declares_23 = (refl, refl)

declares_24 : Declares (codes "O3foo") (to rvalue (class (codes "foo")))
unfolding is_utf8 chars encode_utf8 digits empty_table added size entry_at leaf_name template_args is_special word_at
    number_from natural_from sequence_len word_read table_from rule eat_at taken_over many all_of rows_of turns
    turns_of optional_at rows_at all_at some_at trial_part taken_word cread expand written scope_leaf scope_argument
    act line_steps inside_steps body print outcome
declares_24 = (refl, refl)

declares_25 : Declares (codes "PFedE") (to pointer (function (builtin 18) (more (builtin 17) none)))
unfolding is_utf8 chars encode_utf8 digits empty_table added size entry_at leaf_name template_args is_special word_at
    number_from natural_from sequence_len word_read table_from rule eat_at taken_over many all_of rows_of turns
    turns_of optional_at rows_at all_at some_at trial_part taken_word cread expand written scope_leaf scope_argument
    act line_steps inside_steps body print outcome
declares_25 = (refl, refl)

declares_26 : Declares (codes "F2" ++ (195 ∷ []) ++ (169 ∷ []) ++ codes "vE") (function (class ((195 ∷ []) ++ (169 ∷
    []))) (more (builtin 0) none))
unfolding is_utf8 chars encode_utf8 digits empty_table added size entry_at leaf_name template_args is_special word_at
    number_from natural_from sequence_len word_read table_from rule eat_at taken_over many all_of rows_of turns
    turns_of optional_at rows_at all_at some_at trial_part taken_word cread expand written scope_leaf scope_argument
    act line_steps inside_steps body print outcome
declares_26 = (refl, refl)

declares_27 : Declares (codes "PPR2b2") (to pointer (to pointer (to lvalue (class (codes "b2")))))
unfolding is_utf8 chars encode_utf8 digits empty_table added size entry_at leaf_name template_args is_special word_at
    number_from natural_from sequence_len word_read table_from rule eat_at taken_over many all_of rows_of turns
    turns_of optional_at rows_at all_at some_at trial_part taken_word cread expand written scope_leaf scope_argument
    act line_steps inside_steps body print outcome
declares_27 = (refl, refl)

declares_28 : Declares (codes "RKRP1a") (to lvalue (const (to lvalue (to pointer (class (codes "a"))))))
unfolding is_utf8 chars encode_utf8 digits empty_table added size entry_at leaf_name template_args is_special word_at
    number_from natural_from sequence_len word_read table_from rule eat_at taken_over many all_of rows_of turns
    turns_of optional_at rows_at all_at some_at trial_part taken_word cread expand written scope_leaf scope_argument
    act line_steps inside_steps body print outcome
declares_28 = (refl, refl)

declares_29 : Declares (codes "OFPPbvE") (to rvalue (function (to pointer (to pointer (builtin 2))) (more (builtin 0)
    none)))
unfolding is_utf8 chars encode_utf8 digits empty_table added size entry_at leaf_name template_args is_special word_at
    number_from natural_from sequence_len word_read table_from rule eat_at taken_over many all_of rows_of turns
    turns_of optional_at rows_at all_at some_at trial_part taken_word cread expand written scope_leaf scope_argument
    act line_steps inside_steps body print outcome
declares_29 = (refl, refl)

declares_30 : Declares (codes "PFKfPhE") (to pointer (function (const (builtin 16)) (more (to pointer (builtin 5))
    none)))
unfolding is_utf8 chars encode_utf8 digits empty_table added size entry_at leaf_name template_args is_special word_at
    number_from natural_from sequence_len word_read table_from rule eat_at taken_over many all_of rows_of turns
    turns_of optional_at rows_at all_at some_at trial_part taken_word cread expand written scope_leaf scope_argument
    act line_steps inside_steps body print outcome
declares_30 = (refl, refl)

declares_31 : Declares (codes "RFPRdvE") (to lvalue (function (to pointer (to lvalue (builtin 17))) (more (builtin 0)
    none)))
unfolding is_utf8 chars encode_utf8 digits empty_table added size entry_at leaf_name template_args is_special word_at
    number_from natural_from sequence_len word_read table_from rule eat_at taken_over many all_of rows_of turns
    turns_of optional_at rows_at all_at some_at trial_part taken_word cread expand written scope_leaf scope_argument
    act line_steps inside_steps body print outcome
declares_31 = (refl, refl)

declares_32 : Declares (codes "RFPoPaE") (to lvalue (function (to pointer (builtin 15)) (more (to pointer (builtin 4))
    none)))
unfolding is_utf8 chars encode_utf8 digits empty_table added size entry_at leaf_name template_args is_special word_at
    number_from natural_from sequence_len word_read table_from rule eat_at taken_over many all_of rows_of turns
    turns_of optional_at rows_at all_at some_at trial_part taken_word cread expand written scope_leaf scope_argument
    act line_steps inside_steps body print outcome
declares_32 = (refl, refl)

declares_33 : Declares (codes "FzPO2" ++ (195 ∷ []) ++ (169 ∷ []) ++ codes "E") (function (builtin 20) (more (to
    pointer (to rvalue (class ((195 ∷ []) ++ (169 ∷ []))))) none))
unfolding is_utf8 chars encode_utf8 digits empty_table added size entry_at leaf_name template_args is_special word_at
    number_from natural_from sequence_len word_read table_from rule eat_at taken_over many all_of rows_of turns
    turns_of optional_at rows_at all_at some_at trial_part taken_word cread expand written scope_leaf scope_argument
    act line_steps inside_steps body print outcome
declares_33 = (refl, refl)

declares_34 : Declares (codes "OPRK3foo") (to rvalue (to pointer (to lvalue (const (class (codes "foo"))))))
unfolding is_utf8 chars encode_utf8 digits empty_table added size entry_at leaf_name template_args is_special word_at
    number_from natural_from sequence_len word_read table_from rule eat_at taken_over many all_of rows_of turns
    turns_of optional_at rows_at all_at some_at trial_part taken_word cread expand written scope_leaf scope_argument
    act line_steps inside_steps body print outcome
declares_34 = (refl, refl)

declares_35 : Declares (codes "8_GLOBAL_") (class (codes "_GLOBAL_"))
unfolding is_utf8 chars encode_utf8 digits empty_table added size entry_at leaf_name template_args is_special word_at
    number_from natural_from sequence_len word_read table_from rule eat_at taken_over many all_of rows_of turns
    turns_of optional_at rows_at all_at some_at trial_part taken_word cread expand written scope_leaf scope_argument
    act line_steps inside_steps body print outcome
declares_35 = (refl, refl)

declares_36 : Declares (codes "FKPRK1avE") (function (const (to pointer (to lvalue (const (class (codes "a"))))))
    (more (builtin 0) none))
unfolding is_utf8 chars encode_utf8 digits empty_table added size entry_at leaf_name template_args is_special word_at
    number_from natural_from sequence_len word_read table_from rule eat_at taken_over many all_of rows_of turns
    turns_of optional_at rows_at all_at some_at trial_part taken_word cread expand written scope_leaf scope_argument
    act line_steps inside_steps body print outcome
declares_36 = (refl, refl)

declares_37 : Declares (codes "KRFbFfvEE") (const (to lvalue (function (builtin 2) (more (function (builtin 16) (more
    (builtin 0) none)) none))))
unfolding is_utf8 chars encode_utf8 digits empty_table added size entry_at leaf_name template_args is_special word_at
    number_from natural_from sequence_len word_read table_from rule eat_at taken_over many all_of rows_of turns
    turns_of optional_at rows_at all_at some_at trial_part taken_word cread expand written scope_leaf scope_argument
    act line_steps inside_steps body print outcome
declares_37 = (refl, refl)

declares_38 : Declares (codes "OFK3foozE") (to rvalue (function (const (class (codes "foo"))) (more (builtin 20)
    none)))
unfolding is_utf8 chars encode_utf8 digits empty_table added size entry_at leaf_name template_args is_special word_at
    number_from natural_from sequence_len word_read table_from rule eat_at taken_over many all_of rows_of turns
    turns_of optional_at rows_at all_at some_at trial_part taken_word cread expand written scope_leaf scope_argument
    act line_steps inside_steps body print outcome
declares_38 = (refl, refl)

declares_39 : Declares (codes "P8_GLOBAL_") (to pointer (class (codes "_GLOBAL_")))
unfolding is_utf8 chars encode_utf8 digits empty_table added size entry_at leaf_name template_args is_special word_at
    number_from natural_from sequence_len word_read table_from rule eat_at taken_over many all_of rows_of turns
    turns_of optional_at rows_at all_at some_at trial_part taken_word cread expand written scope_leaf scope_argument
    act line_steps inside_steps body print outcome
declares_39 = (refl, refl)

declares_40 : Declares (codes "R8_GLOBAL_") (to lvalue (class (codes "_GLOBAL_")))
unfolding is_utf8 chars encode_utf8 digits empty_table added size entry_at leaf_name template_args is_special word_at
    number_from natural_from sequence_len word_read table_from rule eat_at taken_over many all_of rows_of turns
    turns_of optional_at rows_at all_at some_at trial_part taken_word cread expand written scope_leaf scope_argument
    act line_steps inside_steps body print outcome
declares_40 = (refl, refl)

declares_41 : Declares (codes "F3foo1a2" ++ (195 ∷ []) ++ (169 ∷ []) ++ codes "E") (function (class (codes "foo"))
    (more (class (codes "a")) (more (class ((195 ∷ []) ++ (169 ∷ []))) none)))
unfolding is_utf8 chars encode_utf8 digits empty_table added size entry_at leaf_name template_args is_special word_at
    number_from natural_from sequence_len word_read table_from rule eat_at taken_over many all_of rows_of turns
    turns_of optional_at rows_at all_at some_at trial_part taken_word cread expand written scope_leaf scope_argument
    act line_steps inside_steps body print outcome
declares_41 = (refl, refl)

declares_42 : Declares (codes "FPPRP3foovE") (function (to pointer (to pointer (to lvalue (to pointer (class (codes
    "foo")))))) (more (builtin 0) none))
unfolding is_utf8 chars encode_utf8 digits empty_table added size entry_at leaf_name template_args is_special word_at
    number_from natural_from sequence_len word_read table_from rule eat_at taken_over many all_of rows_of turns
    turns_of optional_at rows_at all_at some_at trial_part taken_word cread expand written scope_leaf scope_argument
    act line_steps inside_steps body print outcome
declares_42 = (refl, refl)

declares_43 : Declares (codes "OP8_GLOBAL_") (to rvalue (to pointer (class (codes "_GLOBAL_"))))
unfolding is_utf8 chars encode_utf8 digits empty_table added size entry_at leaf_name template_args is_special word_at
    number_from natural_from sequence_len word_read table_from rule eat_at taken_over many all_of rows_of turns
    turns_of optional_at rows_at all_at some_at trial_part taken_word cread expand written scope_leaf scope_argument
    act line_steps inside_steps body print outcome
declares_43 = (refl, refl)

declares_44 : Declares (codes "PP8_GLOBAL_") (to pointer (to pointer (class (codes "_GLOBAL_"))))
unfolding is_utf8 chars encode_utf8 digits empty_table added size entry_at leaf_name template_args is_special word_at
    number_from natural_from sequence_len word_read table_from rule eat_at taken_over many all_of rows_of turns
    turns_of optional_at rows_at all_at some_at trial_part taken_word cread expand written scope_leaf scope_argument
    act line_steps inside_steps body print outcome
declares_44 = (refl, refl)

declares_45 : Declares (codes "PFPj3foo1afE") (to pointer (function (to pointer (builtin 9)) (more (class (codes
    "foo")) (more (class (codes "a")) (more (builtin 16) none)))))
unfolding is_utf8 chars encode_utf8 digits empty_table added size entry_at leaf_name template_args is_special word_at
    number_from natural_from sequence_len word_read table_from rule eat_at taken_over many all_of rows_of turns
    turns_of optional_at rows_at all_at some_at trial_part taken_word cread expand written scope_leaf scope_argument
    act line_steps inside_steps body print outcome
declares_45 = (refl, refl)

declares_46 : Declares (codes "RFR1aR2" ++ (195 ∷ []) ++ (169 ∷ []) ++ codes "haE") (to lvalue (function (to lvalue
    (class (codes "a"))) (more (to lvalue (class ((195 ∷ []) ++ (169 ∷ [])))) (more (builtin 5) (more (builtin 4)
    none)))))
unfolding is_utf8 chars encode_utf8 digits empty_table added size entry_at leaf_name template_args is_special word_at
    number_from natural_from sequence_len word_read table_from rule eat_at taken_over many all_of rows_of turns
    turns_of optional_at rows_at all_at some_at trial_part taken_word cread expand written scope_leaf scope_argument
    act line_steps inside_steps body print outcome
declares_46 = (refl, refl)

declares_47 : Declares (codes "OFPFP1aRiEPjRvE") (to rvalue (function (to pointer (function (to pointer (class (codes
    "a"))) (more (to lvalue (builtin 8)) none))) (more (to pointer (builtin 9)) (more (to lvalue (builtin 0)) none))))
unfolding is_utf8 chars encode_utf8 digits empty_table added size entry_at leaf_name template_args is_special word_at
    number_from natural_from sequence_len word_read table_from rule eat_at taken_over many all_of rows_of turns
    turns_of optional_at rows_at all_at some_at trial_part taken_word cread expand written scope_leaf scope_argument
    act line_steps inside_steps body print outcome
declares_47 = (refl, refl)

declares_48 : Declares (codes "R12_GLOBAL__N_1") (to lvalue (class (codes "_GLOBAL__N_1")))
unfolding is_utf8 chars encode_utf8 digits empty_table added size entry_at leaf_name template_args is_special word_at
    number_from natural_from sequence_len word_read table_from rule eat_at taken_over many all_of rows_of turns
    turns_of optional_at rows_at all_at some_at trial_part taken_word cread expand written scope_leaf scope_argument
    act line_steps inside_steps body print outcome
declares_48 = (refl, refl)

declares_49 : Declares (codes "KRFP2b2F1avE1azE") (const (to lvalue (function (to pointer (class (codes "b2"))) (more
    (function (class (codes "a")) (more (builtin 0) none)) (more (class (codes "a")) (more (builtin 20) none))))))
unfolding is_utf8 chars encode_utf8 digits empty_table added size entry_at leaf_name template_args is_special word_at
    number_from natural_from sequence_len word_read table_from rule eat_at taken_over many all_of rows_of turns
    turns_of optional_at rows_at all_at some_at trial_part taken_word cread expand written scope_leaf scope_argument
    act line_steps inside_steps body print outcome
declares_49 = (refl, refl)

declares_50 : Declares (codes "FRFb8_GLOBAL_oEvE") (function (to lvalue (function (builtin 2) (more (class (codes
    "_GLOBAL_")) (more (builtin 15) none)))) (more (builtin 0) none))
unfolding is_utf8 chars encode_utf8 digits empty_table added size entry_at leaf_name template_args is_special word_at
    number_from natural_from sequence_len word_read table_from rule eat_at taken_over many all_of rows_of turns
    turns_of optional_at rows_at all_at some_at trial_part taken_word cread expand written scope_leaf scope_argument
    act line_steps inside_steps body print outcome
declares_50 = (refl, refl)

declares_51 : Declares (codes "OF2b2PR8_GLOBAL_E") (to rvalue (function (class (codes "b2")) (more (to pointer (to
    lvalue (class (codes "_GLOBAL_")))) none)))
unfolding is_utf8 chars encode_utf8 digits empty_table added size entry_at leaf_name template_args is_special word_at
    number_from natural_from sequence_len word_read table_from rule eat_at taken_over many all_of rows_of turns
    turns_of optional_at rows_at all_at some_at trial_part taken_word cread expand written scope_leaf scope_argument
    act line_steps inside_steps body print outcome
declares_51 = (refl, refl)

declares_52 : Declares (codes "KPRFKsKfFidEFg2" ++ (195 ∷ []) ++ (169 ∷ []) ++ codes "EE") (const (to pointer (to
    lvalue (function (const (builtin 6)) (more (const (builtin 16)) (more (function (builtin 8) (more (builtin 17)
    none)) (more (function (builtin 19) (more (class ((195 ∷ []) ++ (169 ∷ []))) none)) none)))))))
unfolding is_utf8 chars encode_utf8 digits empty_table added size entry_at leaf_name template_args is_special word_at
    number_from natural_from sequence_len word_read table_from rule eat_at taken_over many all_of rows_of turns
    turns_of optional_at rows_at all_at some_at trial_part taken_word cread expand written scope_leaf scope_argument
    act line_steps inside_steps body print outcome
declares_52 = (refl, refl)

declares_53 : Declares (codes "FRbRP2b2Kz8_GLOBAL_E") (function (to lvalue (builtin 2)) (more (to lvalue (to pointer
    (class (codes "b2")))) (more (const (builtin 20)) (more (class (codes "_GLOBAL_")) none))))
unfolding is_utf8 chars encode_utf8 digits empty_table added size entry_at leaf_name template_args is_special word_at
    number_from natural_from sequence_len word_read table_from rule eat_at taken_over many all_of rows_of turns
    turns_of optional_at rows_at all_at some_at trial_part taken_word cread expand written scope_leaf scope_argument
    act line_steps inside_steps body print outcome
declares_53 = (refl, refl)

declares_54 : Declares (codes "OFK8_GLOBAL_8_GLOBAL_E") (to rvalue (function (const (class (codes "_GLOBAL_"))) (more
    (class (codes "_GLOBAL_")) none)))
unfolding is_utf8 chars encode_utf8 digits empty_table added size entry_at leaf_name template_args is_special word_at
    number_from natural_from sequence_len word_read table_from rule eat_at taken_over many all_of rows_of turns
    turns_of optional_at rows_at all_at some_at trial_part taken_word cread expand written scope_leaf scope_argument
    act line_steps inside_steps body print outcome
declares_54 = (refl, refl)

declares_55 : Declares (codes "OFPR2b212_GLOBAL__N_1E") (to rvalue (function (to pointer (to lvalue (class (codes
    "b2")))) (more (class (codes "_GLOBAL__N_1")) none)))
unfolding is_utf8 chars encode_utf8 digits empty_table added size entry_at leaf_name template_args is_special word_at
    number_from natural_from sequence_len word_read table_from rule eat_at taken_over many all_of rows_of turns
    turns_of optional_at rows_at all_at some_at trial_part taken_word cread expand written scope_leaf scope_argument
    act line_steps inside_steps body print outcome
declares_55 = (refl, refl)

declares_56 : Declares (codes "RPPF12_GLOBAL__N_11atlE") (to lvalue (to pointer (to pointer (function (class (codes
    "_GLOBAL__N_1")) (more (class (codes "a")) (more (builtin 7) (more (builtin 10) none)))))))
unfolding is_utf8 chars encode_utf8 digits empty_table added size entry_at leaf_name template_args is_special word_at
    number_from natural_from sequence_len word_read table_from rule eat_at taken_over many all_of rows_of turns
    turns_of optional_at rows_at all_at some_at trial_part taken_word cread expand written scope_leaf scope_argument
    act line_steps inside_steps body print outcome
declares_56 = (refl, refl)

declares_57 : Declares (codes "RFOPR3fooFRf2b2ERFR3fooyEE") (to lvalue (function (to rvalue (to pointer (to lvalue
    (class (codes "foo"))))) (more (function (to lvalue (builtin 16)) (more (class (codes "b2")) none)) (more (to
    lvalue (function (to lvalue (class (codes "foo"))) (more (builtin 13) none))) none))))
unfolding is_utf8 chars encode_utf8 digits empty_table added size entry_at leaf_name template_args is_special word_at
    number_from natural_from sequence_len word_read table_from rule eat_at taken_over many all_of rows_of turns
    turns_of optional_at rows_at all_at some_at trial_part taken_word cread expand written scope_leaf scope_argument
    act line_steps inside_steps body print outcome
declares_57 = (refl, refl)

declares_58 : Declares (codes "RF12_GLOBAL__N_112_GLOBAL__N_1E") (to lvalue (function (class (codes "_GLOBAL__N_1"))
    (more (class (codes "_GLOBAL__N_1")) none)))
unfolding is_utf8 chars encode_utf8 digits empty_table added size entry_at leaf_name template_args is_special word_at
    number_from natural_from sequence_len word_read table_from rule eat_at taken_over many all_of rows_of turns
    turns_of optional_at rows_at all_at some_at trial_part taken_word cread expand written scope_leaf scope_argument
    act line_steps inside_steps body print outcome
declares_58 = (refl, refl)

declares_59 : Declares (codes "FKPPPeKmFKOnh8_GLOBAL_8_GLOBAL_E2" ++ (195 ∷ []) ++ (169 ∷ []) ++ codes "E") (function
    (const (to pointer (to pointer (to pointer (builtin 18))))) (more (const (builtin 11)) (more (function (const (to
    rvalue (builtin 14))) (more (builtin 5) (more (class (codes "_GLOBAL_")) (more (class (codes "_GLOBAL_")) none))))
    (more (class ((195 ∷ []) ++ (169 ∷ []))) none))))
unfolding is_utf8 chars encode_utf8 digits empty_table added size entry_at leaf_name template_args is_special word_at
    number_from natural_from sequence_len word_read table_from rule eat_at taken_over many all_of rows_of turns
    turns_of optional_at rows_at all_at some_at trial_part taken_word cread expand written scope_leaf scope_argument
    act line_steps inside_steps body print outcome
declares_59 = (refl, refl)

declares_60 : Declares (codes "PFOPR12_GLOBAL__N_1Po12_GLOBAL__N_13fooE") (to pointer (function (to rvalue (to pointer
    (to lvalue (class (codes "_GLOBAL__N_1"))))) (more (to pointer (builtin 15)) (more (class (codes "_GLOBAL__N_1"))
    (more (class (codes "foo")) none)))))
unfolding is_utf8 chars encode_utf8 digits empty_table added size entry_at leaf_name template_args is_special word_at
    number_from natural_from sequence_len word_read table_from rule eat_at taken_over many all_of rows_of turns
    turns_of optional_at rows_at all_at some_at trial_part taken_word cread expand written scope_leaf scope_argument
    act line_steps inside_steps body print outcome
declares_60 = (refl, refl)
