-- The first bytes of each row, and how deep it goes where the next byte is another. Written by tools/write_readings.py.
use Rattle.std.specs.Prelude.{true, false, [], ◌∷◌}
use Rattle.std.proofs.Common.{refl}
use Rattle.demangle_core.specs.Core.{Tag}
use Rattle.demangle_grammar.specs.Rule.{Row}
use Rattle.demangle_grammar.specs.Rows.{rule, global, operators}
use Rattle.demangle_grammar.specs.First.{takes_in, first_in, idle_in}
use Rattle.demangle_grammar.proofs.Conforms.{Begins, PartBegins}

abi_tag : Begins Row.abi_tag true ((66, 66) ∷ []) 1
unfolding rule takes_in first_in idle_in
abi_tag = record { takes = refl; first = refl; idle = refl }

abi_tags : Begins Row.abi_tags false ((66, 66) ∷ []) 2
unfolding rule takes_in first_in idle_in
abi_tags = record { takes = refl; first = refl; idle = refl }

array_type : Begins Row.array_type true ((65, 65) ∷ []) 1
unfolding rule takes_in first_in idle_in
array_type = record { takes = refl; first = refl; idle = refl }

bare_function_type : Begins Row.bare_function_type true ((48, 57) ∷ (65, 65) ∷ (67, 68) ∷ (70, 71) ∷ (75, 80) ∷ (82, 86) ∷ (90, 90) ∷ (97, 106) ∷ (108, 122) ∷ []) 9
unfolding rule takes_in first_in idle_in
bare_function_type = record { takes = refl; first = refl; idle = refl }

base_unresolved_name : Begins Row.base_unresolved_name true ((48, 57) ∷ (100, 100) ∷ (111, 111) ∷ []) 3
unfolding rule takes_in first_in idle_in
base_unresolved_name = record { takes = refl; first = refl; idle = refl }

builtin_type : Begins Row.builtin_type true ((68, 68) ∷ (97, 106) ∷ (108, 111) ∷ (115, 122) ∷ []) 2
unfolding rule takes_in first_in idle_in
builtin_type = record { takes = refl; first = refl; idle = refl }

call_offset : Begins Row.call_offset true ((104, 104) ∷ (118, 118) ∷ []) 1
unfolding rule takes_in first_in idle_in
call_offset = record { takes = refl; first = refl; idle = refl }

class_enum_type : Begins Row.class_enum_type true ((48, 57) ∷ (67, 68) ∷ (76, 76) ∷ (78, 78) ∷ (83, 85) ∷ (90, 90) ∷ (97, 97) ∷ (99, 101) ∷ (103, 103) ∷ (105, 105) ∷ (108, 115) ∷ (118, 118) ∷ []) 7
unfolding rule takes_in first_in idle_in
class_enum_type = record { takes = refl; first = refl; idle = refl }

clone_suffix : Begins Row.clone_suffix true ((46, 46) ∷ []) 1
unfolding rule takes_in first_in idle_in
clone_suffix = record { takes = refl; first = refl; idle = refl }

clone_type_identifier : Begins Row.clone_type_identifier true ((36, 36) ∷ (48, 57) ∷ (65, 90) ∷ (95, 95) ∷ (97, 122) ∷ []) 1
unfolding rule takes_in first_in idle_in
clone_type_identifier = record { takes = refl; first = refl; idle = refl }

closure_type_name : Begins Row.closure_type_name true ((85, 85) ∷ []) 1
unfolding rule takes_in first_in idle_in
closure_type_name = record { takes = refl; first = refl; idle = refl }

ctor_dtor_name : Begins Row.ctor_dtor_name true ((67, 68) ∷ []) 1
unfolding rule takes_in first_in idle_in
ctor_dtor_name = record { takes = refl; first = refl; idle = refl }

cv_qualifiers : Begins Row.cv_qualifiers false ((75, 75) ∷ (86, 86) ∷ (114, 114) ∷ []) 1
unfolding rule takes_in first_in idle_in
cv_qualifiers = record { takes = refl; first = refl; idle = refl }

data_member_prefix : Begins Row.data_member_prefix true ((48, 57) ∷ []) 2
unfolding rule takes_in first_in idle_in
data_member_prefix = record { takes = refl; first = refl; idle = refl }

decltype : Begins Row.decltype true ((68, 68) ∷ []) 1
unfolding rule takes_in first_in idle_in
decltype = record { takes = refl; first = refl; idle = refl }

destructor_name : Begins Row.destructor_name true ((48, 57) ∷ (68, 68) ∷ (83, 84) ∷ []) 4
unfolding rule takes_in first_in idle_in
destructor_name = record { takes = refl; first = refl; idle = refl }

discriminator : Begins Row.discriminator true ((95, 95) ∷ []) 1
unfolding rule takes_in first_in idle_in
discriminator = record { takes = refl; first = refl; idle = refl }

encoding : Begins Row.encoding true ((48, 57) ∷ (67, 68) ∷ (71, 71) ∷ (76, 76) ∷ (78, 78) ∷ (83, 85) ∷ (90, 90) ∷ (97, 97) ∷ (99, 101) ∷ (103, 103) ∷ (105, 105) ∷ (108, 115) ∷ (118, 118) ∷ []) 7
unfolding rule takes_in first_in idle_in
encoding = record { takes = refl; first = refl; idle = refl }

exception_spec : Begins Row.exception_spec true ((68, 68) ∷ []) 1
unfolding rule takes_in first_in idle_in
exception_spec = record { takes = refl; first = refl; idle = refl }

explicit_object_parameter : Begins Row.explicit_object_parameter true ((72, 72) ∷ []) 1
unfolding rule takes_in first_in idle_in
explicit_object_parameter = record { takes = refl; first = refl; idle = refl }

expr_primary : Begins Row.expr_primary true ((76, 76) ∷ []) 1
unfolding rule takes_in first_in idle_in
expr_primary = record { takes = refl; first = refl; idle = refl }

expression : Begins Row.expression true ((48, 57) ∷ (76, 76) ∷ (84, 84) ∷ (97, 97) ∷ (99, 103) ∷ (105, 105) ∷ (108, 116) ∷ (118, 118) ∷ []) 5
unfolding rule takes_in first_in idle_in
expression = record { takes = refl; first = refl; idle = refl }

fold_expr : Begins Row.fold_expr true ((102, 102) ∷ []) 1
unfolding rule takes_in first_in idle_in
fold_expr = record { takes = refl; first = refl; idle = refl }

function_param : Begins Row.function_param true ((102, 102) ∷ []) 1
unfolding rule takes_in first_in idle_in
function_param = record { takes = refl; first = refl; idle = refl }

function_type : Begins Row.function_type true ((68, 68) ∷ (70, 70) ∷ (75, 75) ∷ (86, 86) ∷ (114, 114) ∷ []) 2
unfolding rule takes_in first_in idle_in
function_type = record { takes = refl; first = refl; idle = refl }

global_part : PartBegins (global Tag.ExpressionNew Tag.ExpressionNewArray Tag.ExpressionDelete Tag.ExpressionDeleteArray) ((100, 100) ∷ (110, 110) ∷ []) 0
unfolding rule takes_in first_in idle_in
global_part = record { first = refl; idle = refl }

global_ctor_dtor : Begins Row.global_ctor_dtor true ((36, 36) ∷ (46, 46) ∷ (95, 95) ∷ []) 1
unfolding rule takes_in first_in idle_in
global_ctor_dtor = record { takes = refl; first = refl; idle = refl }

identifier : Begins Row.identifier true ((36, 36) ∷ (46, 46) ∷ (48, 57) ∷ (65, 90) ∷ (95, 95) ∷ (97, 122) ∷ (194, 244) ∷ []) 1
unfolding rule takes_in first_in idle_in
identifier = record { takes = refl; first = refl; idle = refl }

initializer : Begins Row.initializer true ((112, 112) ∷ []) 1
unfolding rule takes_in first_in idle_in
initializer = record { takes = refl; first = refl; idle = refl }

lambda_sig : Begins Row.lambda_sig true ((48, 57) ∷ (65, 65) ∷ (67, 68) ∷ (70, 71) ∷ (75, 80) ∷ (82, 86) ∷ (90, 90) ∷ (97, 106) ∷ (108, 122) ∷ []) 9
unfolding rule takes_in first_in idle_in
lambda_sig = record { takes = refl; first = refl; idle = refl }

local_name : Begins Row.local_name true ((90, 90) ∷ []) 1
unfolding rule takes_in first_in idle_in
local_name = record { takes = refl; first = refl; idle = refl }

mangled_name : Begins Row.mangled_name true ((48, 57) ∷ (65, 65) ∷ (67, 68) ∷ (70, 71) ∷ (75, 80) ∷ (82, 86) ∷ (90, 90) ∷ (95, 95) ∷ (97, 106) ∷ (108, 122) ∷ []) 9
unfolding rule takes_in first_in idle_in
mangled_name = record { takes = refl; first = refl; idle = refl }

member_name : Begins Row.member_name true ((48, 57) ∷ (67, 68) ∷ (76, 76) ∷ (85, 85) ∷ (97, 97) ∷ (99, 101) ∷ (103, 103) ∷ (105, 105) ∷ (108, 115) ∷ (118, 118) ∷ []) 4
unfolding rule takes_in first_in idle_in
member_name = record { takes = refl; first = refl; idle = refl }

name : Begins Row.name true ((48, 57) ∷ (67, 68) ∷ (76, 76) ∷ (78, 78) ∷ (83, 83) ∷ (85, 85) ∷ (90, 90) ∷ (97, 97) ∷ (99, 101) ∷ (103, 103) ∷ (105, 105) ∷ (108, 115) ∷ (118, 118) ∷ []) 6
unfolding rule takes_in first_in idle_in
name = record { takes = refl; first = refl; idle = refl }

nested_name : Begins Row.nested_name true ((78, 78) ∷ []) 1
unfolding rule takes_in first_in idle_in
nested_name = record { takes = refl; first = refl; idle = refl }

number : Begins Row.number true ((48, 57) ∷ (110, 110) ∷ []) 1
unfolding rule takes_in first_in idle_in
number = record { takes = refl; first = refl; idle = refl }

nv_offset : Begins Row.nv_offset true ((48, 57) ∷ (110, 110) ∷ []) 2
unfolding rule takes_in first_in idle_in
nv_offset = record { takes = refl; first = refl; idle = refl }

operator_name : Begins Row.operator_name true ((97, 97) ∷ (99, 101) ∷ (103, 103) ∷ (105, 105) ∷ (108, 115) ∷ (118, 118) ∷ []) 2
unfolding rule takes_in first_in idle_in
operator_name = record { takes = refl; first = refl; idle = refl }

operators_part : PartBegins operators ((97, 97) ∷ (99, 101) ∷ (103, 103) ∷ (105, 105) ∷ (108, 115) ∷ (118, 118) ∷ []) 2
unfolding rule takes_in first_in idle_in
operators_part = record { first = refl; idle = refl }

parametric_builtin_type : Begins Row.parametric_builtin_type true ((68, 68) ∷ []) 1
unfolding rule takes_in first_in idle_in
parametric_builtin_type = record { takes = refl; first = refl; idle = refl }

pointer_to_member_type : Begins Row.pointer_to_member_type true ((77, 77) ∷ []) 1
unfolding rule takes_in first_in idle_in
pointer_to_member_type = record { takes = refl; first = refl; idle = refl }

prefix_handle : Begins Row.prefix_handle true ((48, 57) ∷ (67, 68) ∷ (73, 73) ∷ (76, 76) ∷ (83, 85) ∷ (97, 97) ∷ (99, 101) ∷ (103, 103) ∷ (105, 105) ∷ (108, 115) ∷ (118, 118) ∷ []) 2
unfolding rule takes_in first_in idle_in
prefix_handle = record { takes = refl; first = refl; idle = refl }

ref_qualifier : Begins Row.ref_qualifier true ((79, 79) ∷ (82, 82) ∷ []) 1
unfolding rule takes_in first_in idle_in
ref_qualifier = record { takes = refl; first = refl; idle = refl }

resource_name : Begins Row.resource_name true ((0, 35) ∷ (37, 255) ∷ []) 1
unfolding rule takes_in first_in idle_in
resource_name = record { takes = refl; first = refl; idle = refl }

seq_id : Begins Row.seq_id true ((48, 57) ∷ (65, 90) ∷ []) 1
unfolding rule takes_in first_in idle_in
seq_id = record { takes = refl; first = refl; idle = refl }

simple_id : Begins Row.simple_id true ((48, 57) ∷ []) 2
unfolding rule takes_in first_in idle_in
simple_id = record { takes = refl; first = refl; idle = refl }

simple_operator_name : Begins Row.simple_operator_name true ((97, 97) ∷ (99, 101) ∷ (103, 103) ∷ (105, 105) ∷ (108, 115) ∷ []) 1
unfolding rule takes_in first_in idle_in
simple_operator_name = record { takes = refl; first = refl; idle = refl }

source_name : Begins Row.source_name true ((48, 57) ∷ []) 1
unfolding rule takes_in first_in idle_in
source_name = record { takes = refl; first = refl; idle = refl }

special_name : Begins Row.special_name true ((71, 71) ∷ (84, 84) ∷ []) 1
unfolding rule takes_in first_in idle_in
special_name = record { takes = refl; first = refl; idle = refl }

standard_builtin_type : Begins Row.standard_builtin_type true ((68, 68) ∷ (97, 106) ∷ (108, 111) ∷ (115, 116) ∷ (118, 122) ∷ []) 1
unfolding rule takes_in first_in idle_in
standard_builtin_type = record { takes = refl; first = refl; idle = refl }

subobject_expr : Begins Row.subobject_expr true ((48, 57) ∷ (65, 65) ∷ (67, 68) ∷ (70, 71) ∷ (75, 80) ∷ (82, 86) ∷ (90, 90) ∷ (97, 106) ∷ (108, 122) ∷ []) 9
unfolding rule takes_in first_in idle_in
subobject_expr = record { takes = refl; first = refl; idle = refl }

substitution : Begins Row.substitution true ((83, 83) ∷ []) 2
unfolding rule takes_in first_in idle_in
substitution = record { takes = refl; first = refl; idle = refl }

template_arg : Begins Row.template_arg true ((48, 57) ∷ (65, 65) ∷ (67, 68) ∷ (70, 71) ∷ (73, 80) ∷ (82, 86) ∷ (88, 88) ∷ (90, 90) ∷ (97, 106) ∷ (108, 122) ∷ []) 9
unfolding rule takes_in first_in idle_in
template_arg = record { takes = refl; first = refl; idle = refl }

template_args : Begins Row.template_args true ((73, 73) ∷ []) 1
unfolding rule takes_in first_in idle_in
template_args = record { takes = refl; first = refl; idle = refl }

template_param : Begins Row.template_param true ((84, 84) ∷ []) 1
unfolding rule takes_in first_in idle_in
template_param = record { takes = refl; first = refl; idle = refl }

template_template_param_handle : Begins Row.template_template_param_handle true ((83, 84) ∷ []) 3
unfolding rule takes_in first_in idle_in
template_template_param_handle = record { takes = refl; first = refl; idle = refl }

type_handle : Begins Row.type_handle true ((48, 57) ∷ (65, 65) ∷ (67, 68) ∷ (70, 71) ∷ (75, 80) ∷ (82, 86) ∷ (90, 90) ∷ (97, 106) ∷ (108, 122) ∷ []) 8
unfolding rule takes_in first_in idle_in
type_handle = record { takes = refl; first = refl; idle = refl }

unnamed_type_name : Begins Row.unnamed_type_name true ((85, 85) ∷ []) 1
unfolding rule takes_in first_in idle_in
unnamed_type_name = record { takes = refl; first = refl; idle = refl }

unqualified_name : Begins Row.unqualified_name true ((48, 57) ∷ (67, 68) ∷ (76, 76) ∷ (85, 85) ∷ (97, 97) ∷ (99, 101) ∷ (103, 103) ∷ (105, 105) ∷ (108, 115) ∷ (118, 118) ∷ []) 3
unfolding rule takes_in first_in idle_in
unqualified_name = record { takes = refl; first = refl; idle = refl }

unresolved_name : Begins Row.unresolved_name true ((48, 57) ∷ (100, 100) ∷ (103, 103) ∷ (111, 111) ∷ (115, 115) ∷ []) 4
unfolding rule takes_in first_in idle_in
unresolved_name = record { takes = refl; first = refl; idle = refl }

unresolved_qualifier_level : Begins Row.unresolved_qualifier_level true ((48, 57) ∷ []) 3
unfolding rule takes_in first_in idle_in
unresolved_qualifier_level = record { takes = refl; first = refl; idle = refl }

unresolved_type_handle : Begins Row.unresolved_type_handle true ((68, 68) ∷ (83, 84) ∷ []) 3
unfolding rule takes_in first_in idle_in
unresolved_type_handle = record { takes = refl; first = refl; idle = refl }

unscoped_name : Begins Row.unscoped_name true ((48, 57) ∷ (67, 68) ∷ (76, 76) ∷ (83, 83) ∷ (85, 85) ∷ (97, 97) ∷ (99, 101) ∷ (103, 103) ∷ (105, 105) ∷ (108, 115) ∷ (118, 118) ∷ []) 4
unfolding rule takes_in first_in idle_in
unscoped_name = record { takes = refl; first = refl; idle = refl }

unscoped_template_name_handle : Begins Row.unscoped_template_name_handle true ((48, 57) ∷ (67, 68) ∷ (76, 76) ∷ (83, 83) ∷ (85, 85) ∷ (97, 97) ∷ (99, 101) ∷ (103, 103) ∷ (105, 105) ∷ (108, 115) ∷ (118, 118) ∷ []) 5
unfolding rule takes_in first_in idle_in
unscoped_template_name_handle = record { takes = refl; first = refl; idle = refl }

v_offset : Begins Row.v_offset true ((48, 57) ∷ (110, 110) ∷ []) 2
unfolding rule takes_in first_in idle_in
v_offset = record { takes = refl; first = refl; idle = refl }

vector_type : Begins Row.vector_type true ((68, 68) ∷ []) 1
unfolding rule takes_in first_in idle_in
vector_type = record { takes = refl; first = refl; idle = refl }

well_known_component : Begins Row.well_known_component true ((83, 83) ∷ []) 1
unfolding rule takes_in first_in idle_in
well_known_component = record { takes = refl; first = refl; idle = refl }
