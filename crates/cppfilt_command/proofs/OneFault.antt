-- A command without subcommands refuses words for one kind of error at most.
use Rattle.std.proofs.Common.{◌≡◌, ℕ, ◌+◌, ◌≤◌, zero, suc, Bool, true, false, cond, not, List, [], ◌∷◌, length, min}
use Rattle.std.proofs.Common.{Option}
use Rattle.std.proofs.Common.{Some, None, ap, arith, drop, map, subst, sym}
use Rattle.std.specs.Option.{option_map_or}
use Rattle.std.specs.Prelude.{◌&&◌, ◌||◌, ◌==◌, encode_utf8, is_some, nat_lt, slice_get}
use Rattle.std.specs.Str.{bytes_eq, chars}
use Rattle.std.specs.List.{list_any}
use Rattle.clap.specs.Facts.{explicit_source, parser_of_value, unwrap_or_range}
use Rattle.clap.specs.Lexer.{long_of, short_of}
use Rattle.clap.specs.Faults.{action_fault, bundle_fault, bundle_step_fault, built_fault, check_fault, count_fault}
use Rattle.clap.specs.Faults.{default_fault}
use Rattle.clap.specs.Faults.{defaults_fault, entered_fault, flag_word_fault, flags_fault, given_default_fault}
use Rattle.clap.specs.Faults.{level_fault, long_fault, option_fault, other_fault, positional_fault, react_fault}
use Rattle.clap.specs.Faults.{set_fault, settle_fault, short_fault, step_fault, stray_fault, turn_fault, use_fault}
use Rattle.clap.specs.Faults.{values_fault, walk_fault, word_fault}
use Rattle.clap.specs.Kinds.{Kinds, check_kinds, or_else, range_kinds, request_kinds, value_kinds, values_kinds}
use Rattle.clap.specs.Matches.{count_text}
use Rattle.clap.specs.Simple.{App, Shape, entered, label_of, names_of}
use Rattle.clap.specs.Takes.{is_given}
use Rattle.clap.specs.Values.{refused_kind}
use Rattle.clap.specs.Walk.{Held, Names, Row, Rule, Step, Text, Waiting, Walk, action_of, arg_by_id, arg_by_index}
use Rattle.clap.specs.Walk.{arg_by_long, arg_by_short, attached_value, count_of, finished, has_row, idle, is_empty}
use Rattle.clap.specs.Walk.{is_pending, most_values, next, option, positional, reacted, settled, subcommand}
use Rattle.clap.specs.Walk.{takes_several, takes_values, trailing, value, values_or_missing, walk, walk_from, walked}
use Rattle.clap.specs.Walk.{with_default, word_met}
use Rattle.clap.specs.declared.builder.action.ArgAction.{ArgAction}
use Rattle.clap.specs.declared.builder.action.ArgAction.TheVariants as action
use Rattle.clap.specs.declared.builder.value_parser.ValueParser.{ValueParser}
use Rattle.clap.specs.declared.error.kind.ErrorKind.{ErrorKind}
use Rattle.clap.specs.declared.error.kind.ErrorKind.TheVariants as kind

unfoldable pub One : Kinds → Type 0
One kinds = length kinds ≤ 1

-- ---- how kinds are put together
pub none : One []
unfolding One
none = omega arith

pub single : (k : ErrorKind) → One (k ∷ [])
unfolding One
single k = omega arith

or : (a b : Kinds) → One a → One b → One (or_else a b)
or [] b p q = q
or (k ∷ ks) b p q = p

when : (t : Bool) (a b : Kinds) → One a → One b → One (cond t a b)
when true a b p q = p
when false a b p q = q

over : {X : Type 0} (f : X → Kinds) (o : Option X) → ((x : X) → One (f x)) → One (option_map_or f o [])
over f None each = none
over f (Some x) each = each x

-- ---- one use of an argument
of_value : (i : Bool) (p : ValueParser) (t : Text) → One (value_kinds i p t)
of_value i p t = when _ [] (refused_kind p ∷ []) none (single (refused_kind p))

of_values : (i : Bool) (p : ValueParser) (ts : List Text) → One (values_kinds i p ts)
of_values i p [] = none
of_values i p (t ∷ ts) = or (value_kinds i p t) (values_kinds i p ts) (of_value i p t) (of_values i p ts)

range-by : (a b c d e : Bool)
    → One (cond a (kind.InvalidValue ∷ []) (cond b (cond c [] (kind.WrongNumberOfValues ∷ []))
    (cond d (kind.TooFewValues ∷ []) (cond e (kind.TooManyValues ∷ []) []))))
range-by true b c d e = single kind.InvalidValue
range-by false true true d e = none
range-by false true false d e = single kind.WrongNumberOfValues
range-by false false c true e = single kind.TooFewValues
range-by false false c false true = single kind.TooManyValues
range-by false false c false false = none

of_range : (least most n : ℕ) → One (range_kinds least most n)
of_range least most n =
    range-by (nat_lt 0 least && (n == 0)) (least == most) (least == n) (nat_lt n least) (nat_lt most n)

of_count : (a : Rule) (values : List Text) (rows : List Row) → One (count_fault a values rows)
of_count a [] rows =
    of_value a.ignore_case (parser_of_value a.parser) (count_text (min (count_of a.id rows + 1) 255))
of_count a (v ∷ vs) rows = of_values a.ignore_case _ (v ∷ vs)

of_set : (again : Bool) (a : Rule) (values : List Text) (rows : List Row) → One (set_fault again a values rows)
of_set again a values rows = or _ _ (when _ _ [] (single _) none) (of_values a.ignore_case _ values)

of_action : (x : ArgAction) (again : Bool) (a : Rule) (values : List Text) (rows : List Row)
    → One (action_fault x again a values rows)
of_action action.Set again a values rows = of_set again a values rows
of_action action.SetTrue again a values rows = of_set again a values rows
of_action action.SetFalse again a values rows = of_set again a values rows
of_action action.Append again a values rows = of_values a.ignore_case _ values
of_action action.Count again a values rows = of_count a values rows
of_action action.Help again a values rows = single _
of_action action.HelpShort again a values rows = single _
of_action action.HelpLong again a values rows = single _
of_action action.Version again a values rows = single _

of_use : (again : Bool) (a : Rule) (values : List Text) (rows : List Row) → One (use_fault again a values rows)
of_use again a values rows =
    let range = unwrap_or_range a.range in
    let given = values_or_missing a values in
    or (range_kinds range.start_inclusive (most_values a) (length values))
    (action_fault (action_of a) again a given rows)
    (of_range range.start_inclusive (most_values a) (length values)) (of_action (action_of a) again a given rows)

-- ---- one word
of_settle : (c : List Rule) (again : Bool) (h : Held) → One (settle_fault c again h)
of_settle c again h =
    over (λ p. option_map_or (λ a. use_fault again a p.1 h.rows) (arg_by_id c p.0) []) h.pending
    (λ p. over (λ a. use_fault again a p.1 h.rows) (arg_by_id c p.0) (λ a. of_use again a p.1 h.rows))

of_react : (c : List Rule) (again : Bool) (a : Rule) (values : List Text) (h : Held)
    → One (react_fault c again a values h)
of_react c again a values h =
    or (settle_fault c again h) (use_fault again a values (settled c h).rows) (of_settle c again h)
    (of_use again a values (settled c h).rows)

of_option : (c : List Rule) (again : Bool) (a : Rule) (v : Option Text) (h : Held) → One (option_fault c again a v h)
of_option c again a (Some v) h = of_react c again a (v ∷ []) h
of_option c again a None h = of_settle c again h

of_long : (c : List Rule) (again : Bool) (o : Option Rule) (v : Option Text) (h : Held)
    → One (long_fault c again o v h)
of_long c again None v h = single kind.UnknownArgument
of_long c again (Some a) v h =
    when (takes_values a) (option_fault c again a v h)
    (cond (is_some v) (kind.TooManyValues ∷ []) (react_fault c again a [] h)) (of_option c again a v h)
    (when (is_some v) (kind.TooManyValues ∷ []) (react_fault c again a [] h) (single kind.TooManyValues)
    (of_react c again a [] h))

of_short : (c : List Rule) (again : Bool) (o : Option Rule) (rest : Text) (h : Held) (then : Held → Kinds)
    → ((h : Held) → One (then h)) → One (short_fault c again o rest h then)
of_short c again None rest h then each = single kind.UnknownArgument
of_short c again (Some a) rest h then each =
    when (takes_values a) (option_fault c again a (attached_value rest) h)
    (or_else (react_fault c again a [] h) (then (reacted c a [] h))) (of_option c again a (attached_value rest) h)
    (or (react_fault c again a [] h) (then (reacted c a [] h)) (of_react c again a [] h) (each (reacted c a [] h)))

of_step_in_bundle : (c : List Rule) (again : Bool) (o : Option ℕ) (flags : Text) (skip : ℕ) (h : Held)
    (then : Text → ℕ → Held → Kinds) → ((rest : Text) (k : ℕ) (h : Held) → One (then rest k h))
    → One (bundle_step_fault c again o flags skip h then)
of_step_in_bundle c again None flags skip h then each = none
of_step_in_bundle c again (Some x) flags zero h then each =
    let rest = drop (length (encode_utf8 x)) flags in
    of_short c again (arg_by_short c x) rest h (then rest 0) (each rest 0)
of_step_in_bundle c again (Some x) flags (suc skip) h then each = each (drop (length (encode_utf8 x)) flags) skip h

of_flags : (c : List Rule) (again : Bool) (k : ℕ) (flags : Text) (skip : ℕ) (h : Held)
    → One (flags_fault c again k flags skip h)
unfolding flags_fault
of_flags c again zero flags skip h = none
of_flags c again (suc k) flags skip h =
    of_step_in_bundle c again (slice_get (chars flags) 0) flags skip h (flags_fault c again k) (of_flags c again k)

of_flag_word : (c : List Rule) (again : Bool) (o : Option (Text × Option Text)) (word : Text) (h : Held)
    → One (flag_word_fault c again o word h)
of_flag_word c again (Some p) word h = of_long c again (arg_by_long c p.0) p.1 h
of_flag_word c again None word h =
    over (λ flags. bundle_fault c again flags h) (short_of word)
    (λ flags. of_flags c again (length flags) flags h.skip (record h { skip = 0 }))

of_other : (s : Shape) (word : Text) (h : Held) → One (other_fault s None word h)
of_other s word h =
    when (bytes_eq word (45 ∷ 45 ∷ [])) [] (flag_word_fault s.rules s.args_override_self (long_of word) word h) none
    (of_flag_word s.rules s.args_override_self (long_of word) word h)

of_word : (s : Shape) (is_trailing : Bool) (waiting : Waiting) (word : Text) (h : Held)
    → One (word_fault s [] is_trailing waiting word h)
of_word s is_trailing idle word h = when is_trailing [] (other_fault s None word h) none (of_other s word h)
of_word s is_trailing (option id) word h = when is_trailing [] (other_fault s None word h) none (of_other s word h)
of_word s is_trailing positional word h = when is_trailing [] (other_fault s None word h) none (of_other s word h)

of_stray : (s : Shape) → s.is_leaf ≡ true → One (stray_fault s)
of_stray s leaf = rw leaf (single kind.UnknownArgument)

of_positional : (s : Shape) → s.is_leaf ≡ true → (h : Held) (o : Option Rule)
    → One (option_map_or (λ a. positional_fault s.rules s.args_override_self a h) o (stray_fault s))
of_positional s leaf h None = of_stray s leaf
of_positional s leaf h (Some a) =
    when (is_pending a h.pending && takes_several a) [] (settle_fault s.rules s.args_override_self h) none
    (of_settle s.rules s.args_override_self h)

of_step : (s : Shape) → s.is_leaf ≡ true → (position : ℕ) (h : Held) (step : Step) → One (step_fault s position h step)
of_step s leaf position h value = of_positional s leaf h (arg_by_index s.rules position)
of_step s leaf position h (next waiting) = none
of_step s leaf position h (trailing p) = none
of_step s leaf position h (subcommand name) = none

of_turn : (s : Shape) → s.is_leaf ≡ true → (w : Walk) (word : Text) → One (turn_fault s [] w word)
of_turn s leaf w word =
    let met = word_met s.rules [] w.is_trailing w.waiting w.position word w.held in
    let first = word_fault s [] w.is_trailing w.waiting word w.held in
    let then = step_fault s w.position met.0 met.1 in
    when (is_some w.stopped) [] (or_else first then) none
    (or first then (of_word s w.is_trailing w.waiting word w.held) (of_step s leaf w.position met.0 met.1))

-- ---- all words
of_walk : (s : Shape) → s.is_leaf ≡ true → (w : Walk) (words : List Text) → One (walk_fault s [] w words)
unfolding walk_fault
of_walk s leaf w [] = none
of_walk s leaf w (word ∷ rest) =
    let after = walked s.rules [] w word in
    or (turn_fault s [] w word) (walk_fault s [] after rest) (of_turn s leaf w word) (of_walk s leaf after rest)

of_request : (x : ArgAction) → One (request_kinds x)
of_request action.Help = single _
of_request action.HelpShort = single _
of_request action.HelpLong = single _
of_request action.Version = single _
of_request action.Set = none
of_request action.SetTrue = none
of_request action.SetFalse = none
of_request action.Append = none
of_request action.Count = none

of_default : (rows : List Row) (a : Rule) → One (default_fault rows a)
of_default rows a =
    when (has_row a.id rows || is_empty a.defaults) [] (given_default_fault a a.defaults) none
    (or (request_kinds (action_of a)) (values_fault a a.defaults) (of_request (action_of a))
    (of_values a.ignore_case (parser_of_value a.parser) a.defaults))

of_defaults : (rows : List Row) (rules : List Rule) → One (defaults_fault rows rules)
unfolding defaults_fault
of_defaults rows [] = none
of_defaults rows (a ∷ rest) =
    or (default_fault rows a) (defaults_fault (with_default rows a) rest) (of_default rows a)
    (of_defaults (with_default rows a) rest)

check-by : (a b c : Bool) → One (check_kinds a b c)
check-by true b c = single kind.DisplayHelpOnMissingArgumentOrSubcommand
check-by false true c = single kind.MissingSubcommand
check-by false false true = single kind.MissingRequiredArgument
check-by false false false = none

of_check : (s : Shape) (rows : List Row) (has : Bool) → One (check_fault s rows has)
of_check s rows has =
    check-by (not has && (s.arg_required_else_help && not (list_any (λ r. explicit_source r.source) rows)))
    (not has && s.subcommand_required)
    (not (s.subcommand_negates_reqs && has) && list_any (λ a. a.required && not (is_given a.id rows)) s.rules)

of_level : (s : Shape) → s.is_leaf ≡ true → (h : Held) (words : List Text) (has : Bool) (below : Kinds) → One below
    → One (level_fault s [] h words has below)
of_level s leaf h words has below one =
    let end = (walk s.rules [] h words).held in
    let settle = settle_fault s.rules s.args_override_self end in
    let defaults = defaults_fault (settled s.rules end).rows s.rules in
    let check = check_fault s (finished s.rules end) has in
    or (walk_fault s [] (walk_from h) words) (or_else below (or_else settle (or_else defaults check)))
    (of_walk s leaf (walk_from h) words)
    (or below (or_else settle (or_else defaults check)) one
    (or settle (or_else defaults check) (of_settle s.rules s.args_override_self end)
    (or defaults check (of_defaults (settled s.rules end).rows s.rules) (of_check s (finished s.rules end) has))))

of_entered : (a : App) → a.subs ≡ [] → (stop : Option (Text × List Text)) → One (entered_fault a stop)
of_entered a leaves None = none
of_entered a leaves (Some p) = rw leaves none

pub of_built : (a : App) → a.subs ≡ [] → a.top.is_leaf ≡ true → (h : Held) (words : List Text)
    → One (built_fault a h words)
of_built a leaves leaf h words =
    let stop = (walk a.top.rules (names_of a) h words).stopped in
    let below = entered_fault a stop in
    let level : One (level_fault a.top [] h words (is_some (entered a stop)) below) =
    of_level a.top leaf h words (is_some (entered a stop)) below (of_entered a leaves stop) in
    subst (λ (names : Names). One (level_fault a.top names h words (is_some (entered a stop)) below))
    (sym (ap (map label_of) leaves)) level
