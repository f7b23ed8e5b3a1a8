-- What a row of the grammar is made of. A rule holds what is read after it, so no lists of items are needed.
--
-- A reading of a row keeps the parts so far: what was read of it, one part behind the other. At the row's begin there
-- are none. What is eaten and a row that is called are a part more; `make` and `mark` put one part in the place of all
-- so far; a group of alternatives and a repetition go on from the parts before them, and a part of its own, `part`,
-- begins with none and is then one more. Only `loop` hands the parts on to the row that it calls: from turn to turn
-- they are the prefix so far, and what a turn makes of them stands in their place. At the row's end the parts are the
-- row's node.
use Rattle.std.specs.Prelude.{ℕ, Bool, List}
use Rattle.demangle_core.specs.Core.{Tag}

-- The rows. Three of them the grammar's text doesn't name: qualifiers of which there is one at least, the first turn of
-- a prefix, and a later turn, which goes on from the prefix so far.
pub data Row : Type 0 where
  simple_operator_name standard_builtin_type well_known_component ref_qualifier explicit_object_parameter : Row
  number seq_id source_name identifier clone_type_identifier abi_tag abi_tags : Row
  clone_suffix nv_offset v_offset call_offset discriminator : Row
  template_param function_param cv_qualifiers some_cv_qualifiers unnamed_type_name resource_name substitution : Row
  mangled_name encoding global_ctor_dtor name unscoped_name unscoped_template_name_handle : Row
  nested_name prefix_handle first_turn prefix_turn : Row
  unqualified_name operator_name ctor_dtor_name local_name closure_type_name lambda_sig data_member_prefix : Row
  type_handle builtin_type parametric_builtin_type exception_spec function_type : Row
  bare_function_type decltype class_enum_type : Row
  array_type vector_type pointer_to_member_type template_template_param_handle template_args template_arg : Row
  expression unresolved_name unresolved_qualifier_level unresolved_type_handle : Row
  simple_id destructor_name base_unresolved_name : Row
  expr_primary initializer subobject_expr member_name fold_expr special_name : Row

-- classes of bytes
pub data Class : Type 0 where
  any digits clone resource : Class
  these : List ℕ → Class

-- fixed fields: true, false, no optional part, the number 0, an empty list
pub data Given : Type 0 where
  set unset missing nought empty : Given

-- what is read with no other row
pub data Eat : Type 0 where
  run : Class → Eat  -- the longest run of the class, not an empty one: a place
  identifier : Eat  -- the longest run of characters of an identifier, in UTF-8, not an empty one: a place
  upto : ℕ → Eat  -- the bytes before the next such byte, or all: a place
  byte : Class → Eat  -- one byte of the class, which no field keeps
  digit : Eat  -- one digit: its number
  numeral : (base : ℕ) → (signs : Bool) → Eat  -- a number, with a sign where signs are allowed
  table : (table : ℕ) → (words : List (List ℕ)) → Eat  -- a word of a table: which table, which of its words
  give : Given → Eat  -- nothing: a fixed field
  here : Eat  -- nothing: the index, as the mark of an argument list

-- a condition on the bytes ahead, or on what was read before it in the row
pub data Cond : Type 0 where
  next : Class → Cond  -- the next byte is one of these
  not_next : Class → Cond
  ahead : List (List ℕ) → Cond  -- what follows begins with one of these
  not_ahead : List (List ℕ) → Cond
  ahead_no_digit : List ℕ → Cond  -- it begins so, and then a byte follows that is no digit
  more : ℕ → Cond  -- so many bytes are left at least
  never : Cond
  numbered : Cond  -- the prefix so far is a well-known or a numbered component
  unnumbered : Cond  -- it isn't
  member : Cond  -- the last field is the name of a data member: a plain source name
  ten_or_more : Cond  -- the last number
  arity : ℕ → Cond  -- the operator takes so many operands

-- what the parts so far become
pub data Make : Type 0 where
  one : Tag → Make  -- one node
  dropped : Make  -- nothing
  index : Make  -- the number 0 for nothing, else the number and 1
  longer : ℕ → Make  -- the place, so many bytes longer
  data_member : Make  -- the prefix and the name without tags, as a data member

-- to which list a component is added
pub data Mark : Type 0 where
  numbered' : Mark
  unnumbered' : Mark
  by_end : Mark  -- to the second where `E` is next, else to the first

-- an item that reads no other row
pub data Leaf : Type 0 where
  word : List ℕ → Leaf  -- just these bytes, which no field keeps
  eat : Eat → Leaf
  check : Cond → Leaf
  make : Make → Leaf
  mark : Mark → Leaf  -- the parts so far become a component, and the reference to it
  mark_first : Leaf  -- the first of the parts does, after the others
  refer : Leaf  -- a number becomes the reference to that component, which is to be there
  take_over : Leaf  -- a nested name takes over the entry of its prefix
  no_prefix : Leaf  -- no prefix begins here: a failure

pub data Rule : Type 0 where
  done : Rule
  leaf : Leaf → Rule → Rule
  call : (turns_on : Bool) → Row → Rule → Rule  -- a row, with the conversion flag as it is or on
  loop : Row → Rule → Rule  -- a row that goes on from the parts so far, until it takes no byte
  star : Rule → Rule → Rule  -- as often as it can be read
  alt : Rule → Rule → Rule → Rule  -- the first, or else the second
  commit : Rule → Rule  -- the mark `!`: after it no other alternative is tried
  block : Rule → Rule → Rule  -- a number, and just so many bytes
  part : Make → Rule → Rule → Rule  -- read apart, and made one part
  trial : Row → Rule → Rule  -- refused where the row is next, and then `I`
