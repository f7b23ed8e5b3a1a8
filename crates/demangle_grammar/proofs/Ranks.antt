-- Ranks of the rows: a row that can be entered before a byte was taken has a smaller one. Checked below by computation.
use Rattle.std.specs.Prelude.{◌<◌, ◌≡◌, ℕ, suc, Bool, true, false, ◌&&◌, ◌||◌, not, nat_lt}
use Rattle.std.proofs.Common.{refl}
use Rattle.std.proofs.lemmas.Bool.{ltb-true}
use Rattle.demangle_grammar.proofs.Truth.{both_true}
use Rattle.demangle_grammar.specs.Rule.{Row, Rule}
use Rattle.demangle_grammar.specs.Rows.{rule}
use Rattle.demangle_grammar.specs.First.{takes_leaf, takes_by, takes_in, takes_row, first_in, first, begins_by, idle, idle_in, idle_by}

abbrev pub rank : Row → ℕ
rank Row.mangled_name = 8
rank Row.lambda_sig = 8
rank Row.bare_function_type = 8
rank Row.template_arg = 8
rank Row.subobject_expr = 8
rank Row.type_handle = 7
rank Row.encoding = 6
rank Row.class_enum_type = 6
rank Row.name = 5
rank Row.unscoped_template_name_handle = 4
rank Row.prefix_handle = 4
rank Row.expression = 4
rank Row.unscoped_name = 3
rank Row.prefix_turn = 3
rank Row.first_turn = 3
rank Row.unresolved_name = 3
rank Row.destructor_name = 3
rank Row.member_name = 3
rank Row.unqualified_name = 2
rank Row.template_template_param_handle = 2
rank Row.unresolved_qualifier_level = 2
rank Row.unresolved_type_handle = 2
rank Row.base_unresolved_name = 2
rank Row.abi_tags = 1
rank Row.nv_offset = 1
rank Row.v_offset = 1
rank Row.substitution = 1
rank Row.operator_name = 1
rank Row.data_member_prefix = 1
rank Row.builtin_type = 1
rank Row.function_type = 1
rank Row.simple_id = 1
rank _ = 0

abbrev pub takes : Rule → Bool
takes r = takes_by takes_row r

-- each row that can be entered before a byte was taken has a rank below n; f: one was taken
abbrev pub guarded : ℕ → Bool → Rule → Bool
guarded n f Rule.done = true
guarded n f (Rule.leaf l k) = guarded n (f || takes_leaf l) k
guarded n f (Rule.call on r k) = (f || nat_lt (rank r) n) && guarded n (f || takes_row r) k
guarded n f (Rule.loop r k) = (f || nat_lt (rank r) n) && guarded n f k
guarded n f (Rule.star x k) = guarded n f x && guarded n f k
guarded n f (Rule.alt x y k) = guarded n f x && (guarded n f y && guarded n (f || (takes x && takes y)) k)
guarded n f (Rule.commit k) = guarded n f k
guarded n f (Rule.block x k) = guarded n true x && guarded n true k
guarded n f (Rule.part m x k) = guarded n f x && guarded n (f || takes x) k
guarded n f (Rule.trial r k) = (f || nat_lt (rank r) n) && guarded n f k

-- ---- the checks, of the whole table
abbrev pub agrees : Row → Bool
agrees r = guarded (rank r) false (rule r) && ((not (takes_row r) || takes (rule r)) && nat_lt (rank r) 10)

pub all_agree : (r : Row) → agrees r ≡ true
unfolding rule takes_in
all_agree Row.number = refl
all_agree _ = refl

pub rank_small : (r : Row) → rank r < 10
rank_small r =
    let a : (guarded (rank r) false (rule r) && ((not (takes_row r) || takes (rule r)) && nat_lt (rank r) 10)) ≡ true = all_agree r in
    let b = both_true (guarded (rank r) false (rule r)) ((not (takes_row r) || takes (rule r)) && nat_lt (rank r) 10) a in
    let c = both_true (not (takes_row r) || takes (rule r)) (nat_lt (rank r) 10) b.1 in
    ltb-true (rank r) 10 c.1

pub takes_is : (r : Row) → takes_row r ≡ takes_by takes_row (rule r)
unfolding rule takes_in
takes_is Row.number = refl
takes_is _ = refl

pub idle_is : (r : Row) → idle r ≡ suc (idle_by takes_row idle (rule r))
unfolding rule takes_in idle_in
idle_is Row.number = refl
idle_is _ = refl

pub first_is : (r : Row) (b : ℕ) → first r b ≡ begins_by takes_row first b (rule r)
unfolding rule takes_in first_in
first_is Row.number b = refl
first_is _ b = refl
