-- A parse of a command with no subcommand has one kind of fault at most.
use Rattle.std.proofs.Common.{◌≡◌, ℕ, Bool, true, false, zero, suc, List, [], ◌∷◌, Option, Some, None, is_some, length, refl, sym, subst}
use Rattle.std.specs.Prelude.{⊤, if◌then◌else◌, nat_lt, ◌==◌, not, ◌&&◌, ◌||◌}
use Rattle.std.specs.Option.{option_map_or}
use Rattle.clap.specs.Kinds.{Kinds, check_kinds, or_else, range_kinds, request_kinds, value_kinds, values_kinds}
use Rattle.clap.specs.ValueTests.{accepts}
use Rattle.clap.specs.Facts.{parser_of_value, unwrap_or_range}
use Rattle.clap.specs.Matches.{count_text}
use Rattle.clap.specs.Lexer.{long_of, short_of}
use Rattle.clap.specs.declared.error.kind.ErrorKind.TheVariants as kind
use Rattle.std.specs.Prelude.{◌+◌, drop, encode_utf8, min, slice_get}
use Rattle.std.specs.Str.{bytes_eq, chars}
use Rattle.clap.specs.Walk.{arg_by_id, arg_by_index, arg_by_short, attached_value, count_of, finished, has_row, is_empty, is_pending, most_values, reacted, settled, takes_several, takes_values, values_or_missing, walk, walk_from, word_met, Held, Names, Row, Rule, Step, Text, Waiting, Walk, action_of, idle, option, positional, next, trailing, subcommand, value, subcommand_met, arg_by_long, nothing_held, walked, with_default}
use Rattle.clap.specs.Simple.{App, Shape, argument_words, built}
use Rattle.clap.specs.Faults.{action_fault, built_fault, bundle_fault, bundle_step_fault, check_fault, count_fault, default_fault, defaults_fault, flag_word_fault, flags_fault, given_default_fault, level_fault, long_fault, option_fault, other_fault, positional_fault, react_fault, repeat_fault, set_fault, settle_fault, short_fault, step_fault, stray_fault, turn_fault, use_fault, values_fault, walk_fault, word_fault}
use Rattle.clap.specs.declared.builder.action.ArgAction.{ArgAction}
use Rattle.clap.specs.declared.builder.action.ArgAction.TheVariants.{Set, Append, SetTrue, SetFalse, Count, Help, HelpShort, HelpLong, Version}
use Rattle.clap.specs.declared.builder.value_parser.ValueParser.{ValueParser}
use Rattle.clap.proofs.FaultLemmas.{leaf_fault}
use Rattle.word_settings.specs.CommandLine.{deagle, faults}

abbrev pub IsOne : Kinds → Type 0
IsOne [] = ⊤
IsOne (k ∷ []) = ⊤
IsOne (k ∷ l ∷ ks) = ⊥

either : (a b : Kinds) → IsOne a → IsOne b → IsOne (or_else a b)
either [] b x y = y
either (k ∷ ks) b x y = x

choose : (c : Bool) (a b : Kinds) → IsOne a → IsOne b → IsOne (if c then a else b)
choose true a b x y = x
choose false a b x y = y

at_some : {A : Type 0} (f : A → Kinds) (o : Option A) (d : Kinds) → ((x : A) → IsOne (f x)) → IsOne d → IsOne (option_map_or f o d)
at_some f None d each y = y
at_some f (Some x) d each y = each x

-- ---- values

one_value : (i : Bool) (p : ValueParser) (text : Text) → IsOne (value_kinds i p text)
one_value i p text = choose (accepts i p text) _ _ tt tt

one_values : (i : Bool) (p : ValueParser) (vs : List Text) → IsOne (values_kinds i p vs)
one_values i p [] = tt
one_values i p (v ∷ vs) = either (value_kinds i p v) (values_kinds i p vs) (one_value i p v) (one_values i p vs)

one_range : (least most n : ℕ) → IsOne (range_kinds least most n)
one_range least most n =
    choose (nat_lt 0 least && n == 0) _ _ tt
    (choose (least == most) _ _ (choose (least == n) _ _ tt tt)
    (choose (nat_lt n least) _ _ tt (choose (nat_lt most n) _ _ tt tt)))

one_request : (x : ArgAction) → IsOne (request_kinds x)
one_request Set = tt
one_request Append = tt
one_request SetTrue = tt
one_request SetFalse = tt
one_request Count = tt
one_request Help = tt
one_request HelpShort = tt
one_request HelpLong = tt
one_request Version = tt

one_check : (a b c : Bool) → IsOne (check_kinds a b c)
one_check true b c = tt
one_check false true c = tt
one_check false false true = tt
one_check false false false = tt

-- ---- one use of an argument

one_of_rule : (a : Rule) (vs : List Text) → IsOne (values_fault a vs)
one_of_rule a vs = one_values a.ignore_case (parser_of_value a.parser) vs

one_count : (a : Rule) (vs : List Text) (rows : List Row) → IsOne (count_fault a vs rows)
one_count a [] rows = one_value a.ignore_case (parser_of_value a.parser) (count_text (min (count_of a.id rows + 1) 255))
one_count a (v ∷ vs) rows = one_of_rule a (v ∷ vs)

one_repeat : (again : Bool) (id : Text) (rows : List Row) → IsOne (repeat_fault again id rows)
one_repeat again id rows = choose (has_row id rows && not again) (kind.ArgumentConflict ∷ []) [] tt tt

one_set : (again : Bool) (a : Rule) (vs : List Text) (rows : List Row) → IsOne (set_fault again a vs rows)
one_set again a vs rows = either (repeat_fault again a.id rows) (values_fault a vs) (one_repeat again a.id rows) (one_of_rule a vs)

one_action : (x : ArgAction) (again : Bool) (a : Rule) (vs : List Text) (rows : List Row) → IsOne (action_fault x again a vs rows)
one_action Set again a vs rows = one_set again a vs rows
one_action SetTrue again a vs rows = one_set again a vs rows
one_action SetFalse again a vs rows = one_set again a vs rows
one_action Append again a vs rows = one_of_rule a vs
one_action Count again a vs rows = one_count a vs rows
one_action Help again a vs rows = tt
one_action HelpShort again a vs rows = tt
one_action HelpLong again a vs rows = tt
one_action Version again a vs rows = tt

one_use : (again : Bool) (a : Rule) (vs : List Text) (rows : List Row) → IsOne (use_fault again a vs rows)
one_use again a vs rows =
    either (range_kinds (unwrap_or_range a.range).start_inclusive (most_values a) (length vs)) (action_fault (action_of a) again a (values_or_missing a vs) rows)
    (one_range (unwrap_or_range a.range).start_inclusive (most_values a) (length vs)) (one_action (action_of a) again a (values_or_missing a vs) rows)

-- ---- the walk

one_settle : (c : List Rule) (again : Bool) (h : Held) → IsOne (settle_fault c again h)
one_settle c again h =
    at_some (λ p. option_map_or (λ a. use_fault again a p.1 h.rows) (arg_by_id c p.0) []) h.pending []
    (λ p. at_some (λ a. use_fault again a p.1 h.rows) (arg_by_id c p.0) [] (λ a. one_use again a p.1 h.rows) tt) tt

one_react : (c : List Rule) (again : Bool) (a : Rule) (vs : List Text) (h : Held) → IsOne (react_fault c again a vs h)
one_react c again a vs h = either (settle_fault c again h) (use_fault again a vs (settled c h).rows) (one_settle c again h) (one_use again a vs (settled c h).rows)

one_option : (c : List Rule) (again : Bool) (a : Rule) (v : Option Text) (h : Held) → IsOne (option_fault c again a v h)
one_option c again a (Some v) h = one_react c again a (v ∷ []) h
one_option c again a None h = one_settle c again h

one_long : (c : List Rule) (again : Bool) (a : Option Rule) (v : Option Text) (h : Held) → IsOne (long_fault c again a v h)
one_long c again None v h = tt
one_long c again (Some a) v h =
    choose (takes_values a) (option_fault c again a v h) (if is_some v then kind.TooManyValues ∷ [] else react_fault c again a [] h) (one_option c again a v h)
    (choose (is_some v) (kind.TooManyValues ∷ []) (react_fault c again a [] h) tt (one_react c again a [] h))

one_short : (c : List Rule) (again : Bool) (a : Option Rule) (rest : Text) (h : Held) (more : Held → Kinds) → ((g : Held) → IsOne (more g))
    → IsOne (short_fault c again a rest h more)
one_short c again None rest h more each = tt
one_short c again (Some a) rest h more each =
    choose (takes_values a) (option_fault c again a (attached_value rest) h) (or_else (react_fault c again a [] h) (more (reacted c a [] h)))
    (one_option c again a (attached_value rest) h)
    (either (react_fault c again a [] h) (more (reacted c a [] h)) (one_react c again a [] h) (each (reacted c a [] h)))

one_step : (c : List Rule) (again : Bool) (x : Option ℕ) (flags : Text) (skip : ℕ) (h : Held) (more : Text → ℕ → Held → Kinds)
    → ((t : Text) (n : ℕ) (g : Held) → IsOne (more t n g)) → IsOne (bundle_step_fault c again x flags skip h more)
one_step c again None flags skip h more each = tt
one_step c again (Some x) flags zero h more each =
    let rest = drop (length (encode_utf8 x)) flags in
    one_short c again (arg_by_short c x) rest h (more rest 0) (λ g. each rest 0 g)
one_step c again (Some x) flags (suc skip) h more each = each (drop (length (encode_utf8 x)) flags) skip h

one_bundle : (c : List Rule) (again : Bool) (k : ℕ) (flags : Text) (skip : ℕ) (h : Held) → IsOne (flags_fault c again k flags skip h)
unfolding flags_fault
one_bundle c again zero flags skip h = tt
one_bundle c again (suc k) flags skip h = one_step c again (slice_get (chars flags) 0) flags skip h (flags_fault c again k) (λ t n g. one_bundle c again k t n g)

one_flag : (c : List Rule) (again : Bool) (p : Option (Text × Option Text)) (word : Text) (h : Held) → IsOne (flag_word_fault c again p word h)
one_flag c again (Some p) word h = one_long c again (arg_by_long c p.0) p.1 h
one_flag c again None word h =
    at_some (λ flags. bundle_fault c again flags h) (short_of word) [] (λ flags. one_bundle c again (length flags) flags h.skip (record h { skip = 0 })) tt

one_plain : (s : Shape) (word : Text) (h : Held) → IsOne (other_fault s None word h)
one_plain s word h =
    choose (bytes_eq word (45 ∷ 45 ∷ [])) [] (flag_word_fault s.rules s.args_override_self (long_of word) word h) tt
    (one_flag s.rules s.args_override_self (long_of word) word h)

one_other : (s : Shape) (waiting : Waiting) (word : Text) (h : Held) → IsOne (other_fault s (subcommand_met [] waiting word) word h)
one_other s idle word h = one_plain s word h
one_other s (option id) word h = one_plain s word h
one_other s positional word h = one_plain s word h

one_word : (s : Shape) (is_trailing : Bool) (waiting : Waiting) (word : Text) (h : Held) → IsOne (word_fault s [] is_trailing waiting word h)
one_word s is_trailing waiting word h = choose is_trailing [] (other_fault s (subcommand_met [] waiting word) word h) tt (one_other s waiting word h)

one_stray : (s : Shape) → s.is_leaf ≡ true → IsOne (stray_fault s)
one_stray s leaf = rw leaf tt

one_positional : (c : List Rule) (again : Bool) (a : Rule) (h : Held) → IsOne (positional_fault c again a h)
one_positional c again a h = choose (is_pending a h.pending && takes_several a) [] (settle_fault c again h) tt (one_settle c again h)

one_met : (s : Shape) → s.is_leaf ≡ true → (position : ℕ) (h : Held) (step : Step) → IsOne (step_fault s position h step)
one_met s leaf position h value =
    at_some (λ a. positional_fault s.rules s.args_override_self a h) (arg_by_index s.rules position) (stray_fault s)
    (λ a. one_positional s.rules s.args_override_self a h) (one_stray s leaf)
one_met s leaf position h (next waiting) = tt
one_met s leaf position h (trailing at) = tt
one_met s leaf position h (subcommand name) = tt

one_turn : (s : Shape) → s.is_leaf ≡ true → (w : Walk) (word : Text) → IsOne (turn_fault s [] w word)
one_turn s leaf w word =
    let met = word_met s.rules [] w.is_trailing w.waiting w.position word w.held in
    choose (is_some w.stopped) [] (or_else (word_fault s [] w.is_trailing w.waiting word w.held) (step_fault s w.position met.0 met.1)) tt
    (either (word_fault s [] w.is_trailing w.waiting word w.held) (step_fault s w.position met.0 met.1)
    (one_word s w.is_trailing w.waiting word w.held) (one_met s leaf w.position met.0 met.1))

one_walk : (s : Shape) → s.is_leaf ≡ true → (w : Walk) (words : List Text) → IsOne (walk_fault s [] w words)
unfolding walk_fault
one_walk s leaf w [] = tt
one_walk s leaf w (word ∷ rest) =
    either (turn_fault s [] w word) (walk_fault s [] (walked s.rules [] w word) rest) (one_turn s leaf w word) (one_walk s leaf (walked s.rules [] w word) rest)

-- ---- after the walk

one_default : (rows : List Row) (a : Rule) → IsOne (default_fault rows a)
one_default rows a =
    choose (has_row a.id rows || is_empty a.defaults) [] (given_default_fault a a.defaults) tt
    (either (request_kinds (action_of a)) (values_fault a a.defaults) (one_request (action_of a)) (one_of_rule a a.defaults))

one_of_defaults : (rows : List Row) (rules : List Rule) → IsOne (defaults_fault rows rules)
unfolding defaults_fault
one_of_defaults rows [] = tt
one_of_defaults rows (a ∷ rest) =
    either (default_fault rows a) (defaults_fault (with_default rows a) rest) (one_default rows a) (one_of_defaults (with_default rows a) rest)

one_end : (s : Shape) (rows : List Row) → IsOne (check_fault s rows false)
one_end s rows = one_check _ _ _

one_level : (s : Shape) → s.is_leaf ≡ true → (h : Held) (words : List Text) → IsOne (level_fault s [] h words false [])
one_level s leaf h words =
    let end = (walk s.rules [] h words).held in
    let rows = (settled s.rules end).rows in
    let settling = settle_fault s.rules s.args_override_self end in
    let defaulting = defaults_fault rows s.rules in
    let checking = check_fault s (finished s.rules end) false in
    either (walk_fault s [] (walk_from h) words) (or_else settling (or_else defaulting checking)) (one_walk s leaf (walk_from h) words)
    (either settling (or_else defaulting checking) (one_settle s.rules s.args_override_self end)
    (either defaulting checking (one_of_defaults rows s.rules) (one_end s (finished s.rules end))))

pub one_fault : (words : List Text) → IsOne (faults words)
unfolding deagle faults
one_fault words =
    subst IsOne (sym (leaf_fault (built deagle) nothing_held (argument_words deagle words) refl)) (one_level (built deagle).top refl nothing_held (argument_words deagle words))
