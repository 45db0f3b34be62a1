use Rattle.std.proofs.Common.{◌≡◌, ◌-◌, ◌+◌, ◌*◌, drop, map, []}
use Rattle.std.specs.Prelude.{option_copied}
use Rattle.emit_steps.specs.Emitting.{one, none}
use Rattle.emit_steps.specs.Pieces.{piece, eval, values_of}
use Rattle.loop_unroll.specs.Stating.{execute, execute_all, turns, do_turns, store_values, declare_all, eval_if}
use Rattle.loop_unroll.specs.Whole.{context_at}
use Rattle.emit_steps.specs.Tables.{setting_at}
use Rattle.loop_unroll.proofs.+emit.Given as goal

abbrev pub decreases-expressions::eval : goal.decreases-expressions::eval
decreases-expressions::eval l = 8 * l.room

abbrev pub decreases-expressions::cells : goal.decreases-expressions::cells
decreases-expressions::cells l = 8 * l.room

abbrev pub decreases-statements::exec : goal.decreases-statements::exec
decreases-statements::exec l = 8 * l.room

abbrev pub decreases-expressions::optional : goal.decreases-expressions::optional
decreases-expressions::optional l = 8 * l.room + 1

abbrev pub decreases-calls::argument : goal.decreases-calls::argument
decreases-calls::argument l = 8 * l.room + 1

abbrev pub decreases-calls::argument_cells : goal.decreases-calls::argument_cells
decreases-calls::argument_cells l = 8 * l.room + 1

abbrev pub decreases-expressions::values : goal.decreases-expressions::values
decreases-expressions::values l = 8 * l.room + 1

abbrev pub decreases-expressions::binary : goal.decreases-expressions::binary
decreases-expressions::binary l = 8 * l.room + 1

abbrev pub decreases-expressions::assign : goal.decreases-expressions::assign
decreases-expressions::assign l = 8 * l.room + 1

abbrev pub decreases-expressions::count : goal.decreases-expressions::count
decreases-expressions::count l = 8 * l.room + 1

abbrev pub decreases-expressions::choose : goal.decreases-expressions::choose
decreases-expressions::choose l = 8 * l.room + 1

abbrev pub decreases-declarations::store_values : goal.decreases-declarations::store_values
decreases-declarations::store_values l = 8 * l.room + 1

abbrev pub decreases-statements::sequence : goal.decreases-statements::sequence
decreases-statements::sequence l = 8 * l.room + 1

abbrev pub decreases-statements::inside : goal.decreases-statements::inside
decreases-statements::inside l = 8 * l.room + 1

abbrev pub decreases-declarations::first_values : goal.decreases-declarations::first_values
decreases-declarations::first_values l = 8 * l.room + 2

abbrev pub decreases-statements::one_turn : goal.decreases-statements::one_turn
decreases-statements::one_turn l = 8 * l.room + 2

abbrev pub decreases-calls::statements : goal.decreases-calls::statements
decreases-calls::statements l = 8 * l.room + 2

abbrev pub decreases-calls::call_builtin : goal.decreases-calls::call_builtin
decreases-calls::call_builtin l = 8 * l.room + 2

abbrev pub decreases-declarations::declare_one : goal.decreases-declarations::declare_one
decreases-declarations::declare_one l = 8 * l.room + 3

abbrev pub decreases-statements::turns : goal.decreases-statements::turns
decreases-statements::turns l = 8 * l.room + 3

abbrev pub decreases-statements::do_turns : goal.decreases-statements::do_turns
decreases-statements::do_turns l = 8 * l.room + 3

abbrev pub decreases-calls::body : goal.decreases-calls::body
decreases-calls::body l = 8 * l.room + 3

abbrev pub decreases-declarations::declare : goal.decreases-declarations::declare
decreases-declarations::declare l = 8 * l.room + 4

abbrev pub decreases-calls::call_body : goal.decreases-calls::call_body
decreases-calls::call_body l = 8 * l.room + 4

abbrev pub decreases-statements::begin_for : goal.decreases-statements::begin_for
decreases-statements::begin_for l = 8 * l.room + 5

abbrev pub decreases-calls::call_function : goal.decreases-calls::call_function
decreases-calls::call_function l = 8 * l.room + 5

abbrev pub decreases-calls::call : goal.decreases-calls::call
decreases-calls::call l = 8 * l.room + 6

abbrev pub invariant-expressions::values-loop-expr : goal.invariant-expressions::values-loop-expr
invariant-expressions::values-loop-expr l = values_of l.values (map (piece (context_at l.table)) (drop l.expr-index l.exprs)) l.guard l.emitter ≡ values_of [] (map (piece (context_at l.table)) l.exprs) l.guard l.fn.emitter

abbrev pub invariant-declarations::store_values-loop-j : goal.invariant-declarations::store_values-loop-j
invariant-declarations::store_values-loop-j l = store_values (context_at l.table) l.guard l.first l.count l.j (drop l.j l.values) l.emitter ≡ store_values (context_at l.table) l.guard l.first l.count 0 l.values l.fn.emitter

abbrev pub invariant-declarations::declare-loop-declarator : goal.invariant-declarations::declare-loop-declarator
invariant-declarations::declare-loop-declarator l = declare_all (context_at l.table) l.decl.word l.guard (drop l.declarator-index l.decl.declarators) l.emitter ≡ declare_all (context_at l.table) l.decl.word l.guard l.decl.declarators l.fn.emitter

abbrev pub invariant-statements::sequence-loop-stmt : goal.invariant-statements::sequence-loop-stmt
invariant-statements::sequence-loop-stmt l = execute_all (context_at l.table) (drop l.stmt-index l.body) l.targets l.behind l.emitter ≡ execute_all (context_at l.table) l.body l.targets l.guard l.fn.emitter

abbrev pub invariant-statements::turns-loop-turn : goal.invariant-statements::turns-loop-turn
invariant-statements::turns-loop-turn l =
    let cx = context_at l.table in
    turns (setting_at l.table) l.place (l.table.turns - l._turn) (eval_if cx one (option_copied l.test)) (execute cx l.body) (eval_if cx none (option_copied l.step)) l.done l.value l.here l.emitter
    ≡ turns (setting_at l.table) l.place l.table.turns (eval_if cx one (option_copied l.test)) (execute cx l.body) (eval_if cx none (option_copied l.step)) l.done l.value l.guard l.initial.emitter

abbrev pub invariant-statements::do_turns-loop-turn : goal.invariant-statements::do_turns-loop-turn
invariant-statements::do_turns-loop-turn l =
    let cx = context_at l.table in
    do_turns (setting_at l.table) l.place (l.table.turns - l._turn) (eval cx l.test) (execute cx l.body) l.done l.value l.here l.emitter
    ≡ do_turns (setting_at l.table) l.place l.table.turns (eval cx l.test) (execute cx l.body) l.done l.value l.guard l.initial.emitter
