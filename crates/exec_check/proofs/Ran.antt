-- The runs of a candidate's threads, and what is wrong with the first that is not good.
use Rattle.std.proofs.Common.{◌≡◌, ◌≢◌, ℕ, zero, suc, ◌<◌, List, [], ◌∷◌, length, Bool, true, false, cond, Option, Some, None, refl, sym, ap, ◌∙◌, subst, ◌⊎◌, inl, inr, ⊎_elim, arith}
use Rattle.std.specs.Prelude.{slice_get, nat_eq}
use Rattle.std.proofs.lemmas.Bool.{cases_Bool, eqb-true, eqb-false, eq-eqb, ne_eqb, cond-true, cond-false}
use Rattle.std.proofs.lemmas.Option.{none-some, same_Some}
use Rattle.dg_base.specs.declared.Place.{Place}
use Rattle.axiom_model.specs.declared.ThreadPart.{ThreadPart}
use Rattle.axiom_model.specs.Failing.{Run, failed_by}
use Rattle.c_check.specs.declared.checked.Checked.{Checked}
use Rattle.run_model.specs.declared.state.Halt.TheVariants.{Over, Short}
use Rattle.run_model.specs.Steps.{Outcome, Goes, Halts}
use Rattle.run_model.specs.Threads.{thread_run, thread_outcome, short_run, run_in, short_in}
use Rattle.run_model.specs.Running.{short_used}
use Rattle.exec_check.specs.declared.Failing.{Failing}
use Rattle.exec_check.specs.declared.Reject.{Reject}
use Rattle.exec_check.specs.declared.Reject.TheVariants.{ScriptShort, ScriptLong, BadRun}
use Rattle.exec_check.specs.First.{EachThread, FirstThread}
use Rattle.exec_check.specs.Running.{run_told, run_by, runs_of}
use Rattle.exec_check.specs.Conditions.{RunsWell, HasThreads}
use Rattle.exec_check.specs.Broken.{ThreadsBreak}
use Rattle.exec_check.specs.ThreadTests.{wrong_run, first_wrong, failing_at, first_failing, told_failing}
use Rattle.exec_check.proofs.Shaped.{told_is}
use Rattle.exec_check.proofs.Listed.{or_else-none, or_else-some}

-- ---- what is wrong with a run

-- what is told of a run that is not good
record Wrong (t : ThreadPart) (o : Option Run) (e : Reject) : Type 1 where
  cases : (P : Reject → Type 0) → (o ≡ None → P (ScriptShort t.handle)) → ((r : Run) → o ≡ Some r → r.used ≢ length t.script → P (ScriptLong t.handle)) → ((r : Run) → o ≡ Some r → r.used ≡ length t.script → r.bad ≡ true → P (BadRun t.handle)) → P e

bad_cases : (b : Bool) (t : ThreadPart) (e : Reject) → cond b (Some (BadRun t.handle)) None ≡ Some e → (b ≡ true) × (BadRun t.handle ≡ e)
bad_cases true t e g = (refl, same_Some (BadRun t.handle) e g)
bad_cases false t e g = absurd (none-some e g)

wrong_cases : (t : ThreadPart) (o : Option Run) (e : Reject) → wrong_run t o ≡ Some e → Wrong t o e
wrong_cases t None e g = record { cases = λ P short long bad. subst P (same_Some (ScriptShort t.handle) e g) (short refl) }
wrong_cases t (Some r) e g = ⊎_elim whole part (cases_Bool (nat_eq r.used (length t.script)))
  where
    whole : nat_eq r.used (length t.script) ≡ true → Wrong t (Some r) e
    whole u =
        let h = bad_cases r.bad t e (sym (cond-true (nat_eq r.used (length t.script)) (cond r.bad (Some (BadRun t.handle)) None) (Some (ScriptLong t.handle)) u) ∙ g) in
        record { cases = λ P short long bad. subst P h.1 (bad r refl (eqb-true r.used (length t.script) u) h.0) }

    part : nat_eq r.used (length t.script) ≡ false → Wrong t (Some r) e
    part u =
        let h : ScriptLong t.handle ≡ e = same_Some (ScriptLong t.handle) e (sym (cond-false (nat_eq r.used (length t.script)) (cond r.bad (Some (BadRun t.handle)) None) (Some (ScriptLong t.handle)) u) ∙ g) in
        record { cases = λ P short long bad. subst P h (long r refl (eqb-false r.used (length t.script) u)) }

-- a run of which nothing is wrong
not_wrong : (t : ThreadPart) (o : Option Run) → wrong_run t o ≡ None → (r : Run) × (o ≡ Some r) × (r.used ≡ length t.script) × (r.bad ≡ false)
not_wrong t None e = cc
not_wrong t (Some r) e = ⊎_elim (λ u. ⊎_elim (λ b. absurd (bad u b)) (λ b. (r, refl, eqb-true r.used (length t.script) u, b)) (cases_Bool r.bad)) (λ u. absurd (long u)) (cases_Bool (nat_eq r.used (length t.script)))
  where
    bad : nat_eq r.used (length t.script) ≡ true → r.bad ≡ true → ⊥
    bad u b =
        let g : wrong_run t (Some r) ≡ Some (BadRun t.handle) = cond-true (nat_eq r.used (length t.script)) (cond r.bad (Some (BadRun t.handle)) None) (Some (ScriptLong t.handle)) u ∙ cond-true r.bad (Some (BadRun t.handle)) None b in
        none-some (BadRun t.handle) (sym e ∙ g)

    long : nat_eq r.used (length t.script) ≡ false → ⊥
    long u =
        let g : wrong_run t (Some r) ≡ Some (ScriptLong t.handle) = cond-false (nat_eq r.used (length t.script)) (cond r.bad (Some (BadRun t.handle)) None) (Some (ScriptLong t.handle)) u in
        none-some (ScriptLong t.handle) (sym e ∙ g)

-- ---- the first

pub none_wrong : (p : Checked) (ps : List ThreadPart) → first_wrong p ps ≡ None → EachThread (RunsWell p) ps
none_wrong p [] e k t g = absurd (none-some t g)
none_wrong p (u ∷ ps) e zero t g =
    subst (λ z. RunsWell p 0 z) (same_Some u t g) (not_wrong u (run_told p u) (or_else-none (wrong_run u (run_told p u)) (first_wrong p ps) e).0)
none_wrong p (u ∷ ps) e (suc k) t g = none_wrong p ps (or_else-none (wrong_run u (run_told p u)) (first_wrong p ps) e).1 k t g

-- the first run that is not good
record FirstIs (p : Checked) (ps : List ThreadPart) (e : Reject) : Type 0 where
  place : ℕ
  part : ThreadPart
  there : slice_get ps place ≡ Some part
  wrong : wrong_run part (run_told p part) ≡ Some e
  before : (k : ℕ) (u : ThreadPart) → k < place → slice_get ps k ≡ Some u → RunsWell p k u

first_is_on : (p : Checked) (u : ThreadPart) (ps : List ThreadPart) (e : Reject) → RunsWell p 0 u → FirstIs p ps e → FirstIs p (u ∷ ps) e
first_is_on p u ps e w r = record { place = suc r.place; part = r.part; there = r.there; wrong = r.wrong; before = before }
  where
    before : (k : ℕ) (v : ThreadPart) → k < suc r.place → slice_get (u ∷ ps) k ≡ Some v → RunsWell p k v
    before zero v l g = subst (λ z. RunsWell p 0 z) (same_Some u v g) w
    before (suc k) v l g = r.before k v (omega arith) g

first_is : (p : Checked) (ps : List ThreadPart) (e : Reject) → first_wrong p ps ≡ Some e → FirstIs p ps e
first_is p [] e g = absurd (none-some e g)
first_is p (u ∷ ps) e g =
    ⊎_elim (λ w. record { place = 0; part = u; there = refl; wrong = w; before = λ k v l h. absurd (omega arith) })
    (λ w. first_is_on p u ps e (not_wrong u (run_told p u) w.0) (first_is p ps e w.1))
    (or_else-some (wrong_run u (run_told p u)) (first_wrong p ps) e g)

pub wrong_is_broken : (p : Checked) (ps : List ThreadPart) (e : Reject) → HasThreads p ps → first_wrong p ps ≡ Some e → ThreadsBreak p ps e
wrong_is_broken p ps e h g =
    let f = first_is p ps e g in
    let w = wrong_cases f.part (run_told p f.part) e f.wrong in
    w.cases (ThreadsBreak p ps) (λ none. (h, (f.part, first f (λ r. none-some r.0 (sym none ∙ r.1)), refl, none)))
    (λ r is n. (h, (f.part, first f (λ q. n (subst (λ z. z.used ≡ length f.part.script) (same_Some q.0 r (sym q.1 ∙ is)) q.2)), refl, (r, is, n))))
    (λ r is n b. (h, (f.part, first f (λ q. let bad : r.bad ≡ false = subst (λ z. z.bad ≡ false) (same_Some q.0 r (sym q.1 ∙ is)) q.3 in cc), refl, (r, is, n, b))))
  where
    first : (f : FirstIs p ps e) → (RunsWell p f.place f.part → ⊥) → FirstThread (RunsWell p) ps f.part
    first f n = record { place = f.place; there = f.there; broken = n; before = f.before }

-- ---- the first that fails

-- the first thread that fails an assertion, or with the flag spends a bound, by its place
pub record Fails (bound : Bool) (p : Checked) (ps : List ThreadPart) (f : Failing) : Type 0 where
  pub place : ℕ
  pub part : ThreadPart
  pub there : slice_get ps place ≡ Some part
  pub handle_is : part.handle ≡ f.handle
  pub fails : failed_by bound (run_by p part) ≡ Some f.place
  pub bound_is : f.bound ≡ bound
  pub before : (k : ℕ) (r : Run) → k < place → slice_get (runs_of p ps) k ≡ Some r → failed_by bound r ≡ None

failing-none : (t : ThreadPart) (b : Bool) (o : Option Place) → failing_at t b o ≡ None → o ≡ None
failing-none t b None e = refl
failing-none t b (Some at) e = cc

failing-some : (t : ThreadPart) (b : Bool) (o : Option Place) (f : Failing) → failing_at t b o ≡ Some f → (t.handle ≡ f.handle) × (o ≡ Some f.place) × (f.bound ≡ b)
failing-some t b None f e = absurd (none-some f e)
failing-some t b (Some at) f e =
    let g = same_Some (record { handle = t.handle; place = at; bound = b }) f e in
    (ap (λ (z : Failing). z.handle) g, ap (λ (z : Failing). Some z.place) g, sym (ap (λ (z : Failing). z.bound) g))

fails_on : (b : Bool) (p : Checked) (u : ThreadPart) (ps : List ThreadPart) (f : Failing) → failed_by b (run_by p u) ≡ None → Fails b p ps f → Fails b p (u ∷ ps) f
fails_on b p u ps f n r = record { place = suc r.place; part = r.part; there = r.there; handle_is = r.handle_is; fails = r.fails; bound_is = r.bound_is; before = before }
  where
    before : (k : ℕ) (q : Run) → k < suc r.place → slice_get (runs_of p (u ∷ ps)) k ≡ Some q → failed_by b q ≡ None
    before zero q l g = subst (λ z. failed_by b z ≡ None) (same_Some (run_by p u) q g) n
    before (suc k) q l g = r.before k q (omega arith) g

pub fails_first : (b : Bool) (p : Checked) (ps : List ThreadPart) (f : Failing) → first_failing b p ps ≡ Some f → Fails b p ps f
fails_first b p [] f e = absurd (none-some f e)
fails_first b p (u ∷ ps) f e =
    ⊎_elim (λ w. let h = failing-some u b (failed_by b (run_by p u)) f w in record { place = 0; part = u; there = refl; handle_is = h.0; fails = h.1; bound_is = h.2; before = λ k r l g. absurd (omega arith) })
    (λ w. fails_on b p u ps f (failing-none u b (failed_by b (run_by p u)) w.0) (fails_first b p ps f w.1))
    (or_else-some (failing_at u b (failed_by b (run_by p u))) (first_failing b p ps) f e)

-- no run fails in this way
pub none_fails_by : (b : Bool) (p : Checked) (ps : List ThreadPart) → first_failing b p ps ≡ None → (k : ℕ) (r : Run) → slice_get (runs_of p ps) k ≡ Some r → failed_by b r ≡ None
none_fails_by b p [] e k r g = absurd (none-some r g)
none_fails_by b p (u ∷ ps) e zero r g =
    subst (λ z. failed_by b z ≡ None) (same_Some (run_by p u) r g) (failing-none u b (failed_by b (run_by p u)) (or_else-none (failing_at u b (failed_by b (run_by p u))) (first_failing b p ps) e).0)
none_fails_by b p (u ∷ ps) e (suc k) r g = none_fails_by b p ps (or_else-none (failing_at u b (failed_by b (run_by p u))) (first_failing b p ps) e).1 k r g

neither : (b : Bool) (o : Option Place) → cond b None o ≡ None → cond b o None ≡ None → o ≡ None
neither true o e f = f
neither false o e f = e

one_of : (b : Bool) (o : Option Place) (at : Place) → (cond b None o ≡ Some at) ⊎ (cond b o None ≡ Some at) → o ≡ Some at
one_of true o at h = ⊎_elim (λ e. absurd (none-some at e)) (λ e. e) h
one_of false o at h = ⊎_elim (λ e. e) (λ e. absurd (none-some at e)) h

-- a run that fails in one of the two ways fails
pub fails_somehow : (b : Bool) (r : Run) (at : Place) → failed_by b r ≡ Some at → r.failed ≡ Some at
fails_somehow true r at e = one_of r.bound r.failed at (inr e)
fails_somehow false r at e = one_of r.bound r.failed at (inl e)

pub none_fails : (p : Checked) (ps : List ThreadPart) → told_failing p ps ≡ None → (k : ℕ) (r : Run) → slice_get (runs_of p ps) k ≡ Some r → r.failed ≡ None
none_fails p ps e k r g =
    let both = or_else-none (first_failing false p ps) (first_failing true p ps) e in
    neither r.bound r.failed (none_fails_by false p ps both.0 k r g) (none_fails_by true p ps both.1 k r g)

-- the thread that is told
pub record Told (p : Checked) (ps : List ThreadPart) (f : Failing) : Type 0 where
  pub first : Fails f.bound p ps f
  pub no_assertion : f.bound ≡ true → (k : ℕ) (r : Run) → slice_get (runs_of p ps) k ≡ Some r → failed_by false r ≡ None

told_by : (b : Bool) (p : Checked) (ps : List ThreadPart) (f : Failing) → Fails b p ps f → (b ≡ true → (k : ℕ) (r : Run) → slice_get (runs_of p ps) k ≡ Some r → failed_by false r ≡ None) → Told p ps f
told_by b p ps f h none = record {
  first = subst (λ z. Fails z p ps f) (sym h.bound_is) h;
  no_assertion = λ e. none (sym h.bound_is ∙ e);
}

pub told : (p : Checked) (ps : List ThreadPart) (f : Failing) → told_failing p ps ≡ Some f → Told p ps f
told p ps f e =
    ⊎_elim (λ w. told_by false p ps f (fails_first false p ps f w) (λ no. absurd (let bad : ◌≡◌ {A = Bool} false true = no in cc)))
    (λ w. told_by true p ps f (fails_first true p ps f w.1) (λ yes. none_fails_by false p ps w.0))
    (or_else-some (first_failing false p ps) (first_failing true p ps) f e)

-- ---- what `run_thread` says

short_none : (o : Option (Outcome ⊥)) (n : ℕ) → short_used (short_in o) ≡ Some n → run_in o ≡ None
short_none None n e = refl
short_none (Some (Goes v s)) n e = absurd v
short_none (Some (Halts (Over f) s)) n e = absurd (none-some n e)
short_none (Some (Halts (Short d) s)) n e = refl

pub told_short : (p : Checked) (t : ThreadPart) (script : List ℕ) (n : ℕ) → script ≡ t.script → short_used (short_run p t.function t.handle t.arg script) ≡ Some n → run_told p t ≡ None
told_short p t script n s e =
    told_is p t ∙ ap (thread_run p t.function t.handle t.arg) (sym s) ∙ short_none (thread_outcome p t.function t.handle t.arg script) n e

pub told_ran : (p : Checked) (t : ThreadPart) (script : List ℕ) (r : Run) → script ≡ t.script → thread_run p t.function t.handle t.arg script ≡ Some r → run_told p t ≡ Some r
told_ran p t script r s e = told_is p t ∙ ap (thread_run p t.function t.handle t.arg) (sym s) ∙ e

pub wrong_short : (t : ThreadPart) (o : Option Run) → o ≡ None → wrong_run t o ≡ Some (ScriptShort t.handle)
wrong_short t o e = ap (wrong_run t) e

pub wrong_long : (t : ThreadPart) (o : Option Run) (r : Run) → o ≡ Some r → r.used ≢ length t.script → wrong_run t o ≡ Some (ScriptLong t.handle)
wrong_long t o r e n =
    ap (wrong_run t) e ∙ cond-false (nat_eq r.used (length t.script)) (cond r.bad (Some (BadRun t.handle)) None) (Some (ScriptLong t.handle)) (ne_eqb r.used (length t.script) n)

pub wrong_bad : (t : ThreadPart) (o : Option Run) (r : Run) → o ≡ Some r → r.used ≡ length t.script → r.bad ≡ true → wrong_run t o ≡ Some (BadRun t.handle)
wrong_bad t o r e n b =
    ap (wrong_run t) e ∙ cond-true (nat_eq r.used (length t.script)) (cond r.bad (Some (BadRun t.handle)) None) (Some (ScriptLong t.handle)) (eq-eqb r.used (length t.script) n) ∙ cond-true r.bad (Some (BadRun t.handle)) None b

pub wrong_not : (t : ThreadPart) (o : Option Run) (r : Run) → o ≡ Some r → r.used ≡ length t.script → r.bad ≡ false → wrong_run t o ≡ None
wrong_not t o r e n b =
    ap (wrong_run t) e ∙ cond-true (nat_eq r.used (length t.script)) (cond r.bad (Some (BadRun t.handle)) None) (Some (ScriptLong t.handle)) (eq-eqb r.used (length t.script) n) ∙ cond-false r.bad (Some (BadRun t.handle)) None b
