-- What the code computes of a candidate's threads, by recursion over lists.
use Rattle.std.specs.Prelude.{ℕ, ◌+◌, List, [], ◌∷◌, Bool, true, false, ◌&&◌, cond, Option, Some, None, length, nat_eq, nat_lt}
use Rattle.dg_base.specs.declared.Place.{Place}
use Rattle.axiom_model.specs.declared.ThreadPart.{ThreadPart}
use Rattle.axiom_model.specs.Execution.{Thread}
use Rattle.axiom_model.specs.Failing.{Run, thread_of, failed_by}
use Rattle.c_rules.specs.Names.{or_else}
use Rattle.c_check.specs.declared.checked.Checked.{Checked}
use Rattle.exec_check.specs.declared.Failing.{Failing}
use Rattle.exec_check.specs.declared.Reject.{Reject}
use Rattle.exec_check.specs.declared.Reject.TheVariants.{ScriptShort, ScriptLong, BadRun}
use Rattle.exec_check.specs.Running.{run_told, run_by}

-- the key of the first item that does not pass
abbrev pub first_not : {A B : Type 0} → (A → Bool) → (A → B) → List A → Option B
first_not test key [] = None
first_not test key (a ∷ rest) = cond (test a) (first_not test key rest) (Some (key a))

-- how many items pass
abbrev pub passing : {A : Type 0} → (A → Bool) → List A → ℕ
passing test [] = 0
passing test (a ∷ rest) = cond (test a) (1 + passing test rest) (passing test rest)

abbrev pub is_main : ℕ → ThreadPart → Bool
is_main main t = nat_eq t.handle 0 && (nat_eq t.function main && nat_eq t.arg 0)

-- the first handle that is below the least that may come
abbrev pub not_rising : ℕ → List ThreadPart → Option ℕ
not_rising least [] = None
not_rising least (t ∷ ts) = cond (nat_lt t.handle least) (Some t.handle) (not_rising (t.handle + 1) ts)

abbrev pub is_known : ℕ → ThreadPart → Bool
is_known functions t = nat_lt t.function functions && nat_lt t.handle 16777216

abbrev pub handle_of : ThreadPart → ℕ
handle_of t = t.handle

-- what is wrong with the run of a thread on its script
abbrev pub wrong_run : ThreadPart → Option Run → Option Reject
wrong_run t None = Some (ScriptShort t.handle)
wrong_run t (Some r) = cond (nat_eq r.used (length t.script)) (cond r.bad (Some (BadRun t.handle)) None) (Some (ScriptLong t.handle))

-- what is wrong with the first run that is not good
abbrev pub first_wrong : Checked → List ThreadPart → Option Reject
first_wrong p [] = None
first_wrong p (t ∷ ts) = or_else (wrong_run t (run_told p t)) (first_wrong p ts)

abbrev pub seen_by : Checked → ThreadPart → Thread
seen_by p t = thread_of t (run_by p t)

-- a thread that fails an assertion at this place, or with the flag spends a bound there
abbrev pub failing_at : ThreadPart → Bool → Option Place → Option Failing
failing_at t bound None = None
failing_at t bound (Some at) = Some (record { handle = t.handle; place = at; bound = bound })

-- the first thread that fails an assertion, or with the flag spends a bound
abbrev pub first_failing : Bool → Checked → List ThreadPart → Option Failing
first_failing bound p [] = None
first_failing bound p (t ∷ ts) = or_else (failing_at t bound (failed_by bound (run_by p t))) (first_failing bound p ts)

-- the thread that is told: the first that fails an assertion; where none does, the first that spends a bound
abbrev pub told_failing : Checked → List ThreadPart → Option Failing
told_failing p ts = or_else (first_failing false p ts) (first_failing true p ts)
