use Rattle.std.proofs.Common.{◌≡◌, ◌-◌, ◌+◌, ◌*◌, drop, map, []}
use Rattle.std.specs.Prelude.{option_copied}
use Rattle.run_model.specs.Steps.{in_turn, nothing, ◌>>◌}
use Rattle.run_model.specs.Calls.{spend}
use Rattle.run_model.specs.Meaning.{eval, meaning, runs_of}
use Rattle.run_model.specs.Statements.{execute, execute_all, scoped, loop, do_loop, store_from, declare_all, eval_if}
use Rattle.run_model.specs.Running.{context_at}
use Rattle.run_model.proofs.state.Runner.+run.Given as goal

abbrev pub decreases-eval : goal.decreases-eval
decreases-eval l = 8 * l.room

abbrev pub decreases-cell : goal.decreases-cell
decreases-cell l = 8 * l.room

abbrev pub decreases-exec : goal.decreases-exec
decreases-exec l = 8 * l.room

abbrev pub decreases-optional : goal.decreases-optional
decreases-optional l = 8 * l.room + 1

abbrev pub decreases-argument : goal.decreases-argument
decreases-argument l = 8 * l.room + 1

abbrev pub decreases-argument_cell : goal.decreases-argument_cell
decreases-argument_cell l = 8 * l.room + 1

abbrev pub decreases-values : goal.decreases-values
decreases-values l = 8 * l.room + 1

abbrev pub decreases-binary : goal.decreases-binary
decreases-binary l = 8 * l.room + 1

abbrev pub decreases-assign : goal.decreases-assign
decreases-assign l = 8 * l.room + 1

abbrev pub decreases-count : goal.decreases-count
decreases-count l = 8 * l.room + 1

abbrev pub decreases-store_values : goal.decreases-store_values
decreases-store_values l = 8 * l.room + 1

abbrev pub decreases-sequence : goal.decreases-sequence
decreases-sequence l = 8 * l.room + 1

abbrev pub decreases-branch : goal.decreases-branch
decreases-branch l = 8 * l.room + 1

abbrev pub decreases-do_turns : goal.decreases-do_turns
decreases-do_turns l = 8 * l.room + 2

abbrev pub decreases-turns : goal.decreases-turns
decreases-turns l = 8 * l.room + 2

abbrev pub decreases-declare_one : goal.decreases-declare_one
decreases-declare_one l = 8 * l.room + 2

abbrev pub decreases-body : goal.decreases-body
decreases-body l = 8 * l.room + 2

abbrev pub decreases-builtin : goal.decreases-builtin
decreases-builtin l = 8 * l.room + 2

abbrev pub decreases-declare : goal.decreases-declare
decreases-declare l = 8 * l.room + 3

abbrev pub decreases-call_body : goal.decreases-call_body
decreases-call_body l = 8 * l.room + 3

abbrev pub decreases-begin_for : goal.decreases-begin_for
decreases-begin_for l = 8 * l.room + 4

abbrev pub decreases-call_function : goal.decreases-call_function
decreases-call_function l = 8 * l.room + 4

abbrev pub decreases-call : goal.decreases-call
decreases-call l = 8 * l.room + 5

abbrev pub invariant-values-loop-expr : goal.invariant-values-loop-expr
invariant-values-loop-expr l = in_turn l.values (runs_of (map (meaning (context_at l.table)) (drop l.expr-index l.exprs))) l.self ≡ in_turn [] (runs_of (map (meaning (context_at l.table)) l.exprs)) l.fn.self

abbrev pub invariant-store_values-loop-j : goal.invariant-store_values-loop-j
invariant-store_values-loop-j l = store_from l.local l.j (map (eval (context_at l.table)) (drop l.j l.values)) l.self ≡ store_from l.local 0 (map (eval (context_at l.table)) l.values) l.fn.self

abbrev pub invariant-declare-loop-declarator : goal.invariant-declare-loop-declarator
invariant-declare-loop-declarator l = declare_all (context_at l.table) l.decl.word (drop l.declarator-index l.decl.declarators) l.self ≡ declare_all (context_at l.table) l.decl.word l.decl.declarators l.fn.self

abbrev pub invariant-sequence-loop-stmt : goal.invariant-sequence-loop-stmt
invariant-sequence-loop-stmt l = execute_all (context_at l.table) (drop l.stmt-index l.body) l.self ≡ execute_all (context_at l.table) l.body l.fn.self

abbrev pub invariant-turns-loop-turn : goal.invariant-turns-loop-turn
invariant-turns-loop-turn l =
    let cx = context_at l.table in
    loop (spend cx.setting l.place) (l.table.turns - l._turn) (eval_if cx 1 (option_copied l.test)) (scoped (execute cx l.body)) (eval_if cx 0 (option_copied l.step) >> nothing) l.self
    ≡ loop (spend cx.setting l.place) l.table.turns (eval_if cx 1 (option_copied l.test)) (scoped (execute cx l.body)) (eval_if cx 0 (option_copied l.step) >> nothing) l.fn.self

abbrev pub invariant-do_turns-loop-turn : goal.invariant-do_turns-loop-turn
invariant-do_turns-loop-turn l =
    let cx = context_at l.table in
    do_loop (spend cx.setting l.place) (l.table.turns - l._turn) (eval cx l.test) (scoped (execute cx l.body)) l.self
    ≡ do_loop (spend cx.setting l.place) l.table.turns (eval cx l.test) (scoped (execute cx l.body)) l.fn.self
