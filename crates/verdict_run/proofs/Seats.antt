-- One seat after another is split off.
use Rattle.std.proofs.Common.{◌≡◌, ℕ, zero, suc, ◌+◌, ◌<◌, inl, inr, Bool, true, false, List, [], ◌∷◌, ◌++◌, length, cond, ap, sym, ◌∙◌, subst, arith}
use Rattle.std.specs.Prelude.{nat_lt, not, filter}
use Rattle.std.proofs.lemmas.Bool.{lt-ltb, le-ltb}
use Rattle.dg_base.proofs.Lists.{get_nothing, get_push_cases}
use Rattle.cnf_problem.specs.declared.problem.Problem.{Problem}
use Rattle.clause_exchange.specs.declared.rule.Part.{Part}
use Rattle.clause_exchange.specs.declared.rule.View.{View}
use Rattle.clause_exchange.specs.Rule.{blank_part, blank_parts, new_view}
use Rattle.clause_exchange.specs.Splits.{with_parts, below, from_on}
use Rattle.clause_exchange.specs.Seats.{ExchangeId, exchange_of}
use Rattle.clause_exchange.specs.Steps.{mine}
use Rattle.clause_exchange.specs.Calls.{Cuts}
use Rattle.clause_exchange.proofs.Seating.{blank_listed}
use Rattle.cdcl_worker.specs.Searching.{IsFresh}
use Rattle.verdict_run.specs.declared.jobs.Job.{Job}
use Rattle.verdict_run.specs.Searches.{IsJob, AreJobs}

passes : {X : Type 0} (test : X → Bool) (x : X) (xs : List X) → test x ≡ true → filter test (x ∷ xs) ≡ x ∷ filter test xs
passes test x xs e = ap (λ b. cond b (x ∷ filter test xs) (filter test xs)) e

fails : {X : Type 0} (test : X → Bool) (x : X) (xs : List X) → test x ≡ false → filter test (x ∷ xs) ≡ filter test xs
fails test x xs e = ap (λ b. cond b (x ∷ filter test xs) (filter test xs)) e

-- below the last number are the others
pub below_last : (n from count : ℕ) → below (from + count) (blank_parts n from (suc count)) ≡ blank_parts n from count
below_last n from zero = fails (λ (q : Part). nat_lt q.number (from + 0)) (blank_part n from) [] (le-ltb from (from + 0) (omega arith))
below_last n from (suc count) =
    let e : suc from + count ≡ from + suc count = omega arith in
    passes (λ (q : Part). nat_lt q.number (from + suc count)) (blank_part n from) (blank_parts n (suc from) (suc count)) (lt-ltb from (from + suc count) (omega arith))
    ∙ ap (λ ps. blank_part n from ∷ ps) (subst (λ m. below m (blank_parts n (suc from) (suc count)) ≡ blank_parts n (suc from) count) e (below_last n (suc from) count))

-- and from it on there is it alone
pub from_last : (n from count : ℕ) → from_on (from + count) (blank_parts n from (suc count)) ≡ blank_part n (from + count) ∷ []
from_last n from zero =
    passes (λ (q : Part). not (nat_lt q.number (from + 0))) (blank_part n from) [] (ap not (le-ltb from (from + 0) (omega arith)))
    ∙ ap (λ m. blank_part n m ∷ []) (let e : from ≡ from + 0 = omega arith in e)
from_last n from (suc count) =
    let e : suc from + count ≡ from + suc count = omega arith in
    fails (λ (q : Part). not (nat_lt q.number (from + suc count))) (blank_part n from) (blank_parts n (suc from) (suc count)) (ap not (lt-ltb from (from + suc count) (omega arith)))
    ∙ subst (λ m. from_on m (blank_parts n (suc from) (suc count)) ≡ blank_part n m ∷ []) e (from_last n (suc from) count)

first_below : (n c : ℕ) → below c (blank_parts n 0 (suc c)) ≡ blank_parts n 0 c
first_below n c = subst (λ m. below m (blank_parts n 0 (suc c)) ≡ blank_parts n 0 c) (let e : 0 + c ≡ c = omega arith in e) (below_last n 0 c)

last_from : (n c : ℕ) → from_on c (blank_parts n 0 (suc c)) ≡ blank_part n c ∷ []
last_from n c = subst (λ m. from_on m (blank_parts n 0 (suc c)) ≡ blank_part n m ∷ []) (let e : 0 + c ≡ c = omega arith in e) (from_last n 0 c)

-- a seat of the first numbers, which have done nothing
pub record IsRest (id : ExchangeId) (v : View) (count : ℕ) : Type 0 where
  pub blank : v ≡ with_parts (new_view id.problem id.workers id.share_words) (blank_parts id.workers 0 count)

-- it may be cut at the last of two or more
pub cuts_last : (id : ExchangeId) (v : View) (cut c : ℕ) → cut ≡ c → IsRest id v (suc c) → 0 < c → Cuts v cut
cuts_last id v cut c is rest some =
    subst (Cuts v) (sym is) (subst (λ (u : View). Cuts u c) (sym rest.blank) (
      (blank_part id.workers 0, blank_listed id.workers 0 (suc c) 0 (omega arith), some),
      (blank_part id.workers (0 + c), blank_listed id.workers 0 (suc c) c (omega arith), (omega arith)),
    ))

-- then the others are left
pub rest_of : (id : ExchangeId) (v w : View) (cut c : ℕ) → cut ≡ c → IsRest id v (suc c) → w ≡ with_parts v (below cut v.parts) → IsRest id w c
rest_of id v w cut c cut_is rest is = record {
  blank = is ∙ ap (λ m. with_parts v (below m v.parts)) cut_is ∙ ap (λ (u : View). with_parts u (below c u.parts)) rest.blank
      ∙ ap (with_parts (new_view id.problem id.workers id.share_words)) (first_below id.workers c);
}

-- and the last is split off
pub last_of : (id : ExchangeId) (v w : View) (cut c : ℕ) → cut ≡ c → IsRest id v (suc c) → w ≡ with_parts v (from_on cut v.parts) → w ≡ with_parts (new_view id.problem id.workers id.share_words) (blank_part id.workers cut ∷ [])
last_of id v w cut c cut_is rest is =
    is ∙ ap (λ m. with_parts v (from_on m v.parts)) cut_is ∙ ap (λ (u : View). with_parts u (from_on c u.parts)) rest.blank
    ∙ ap (with_parts (new_view id.problem id.workers id.share_words)) (last_from id.workers c)
    ∙ ap (λ m. with_parts (new_view id.problem id.workers id.share_words) (blank_part id.workers m ∷ [])) (sym cut_is)

-- a job of a number that has done nothing
pub job_made : (id : ExchangeId) (p : Problem) (workers number : ℕ) (job : Job) → id.problem ≡ p → id.workers ≡ workers → exchange_of job.seat ≡ id
    → job.seat.view ≡ with_parts (new_view id.problem id.workers id.share_words) (blank_part id.workers number ∷ []) → IsFresh p number workers job.ended.worker → IsJob id job × ((mine job.seat.view).number ≡ number)
job_made id p workers number job p_is n_is same blank fresh =
    let is : (mine job.seat.view).number ≡ number = ap (λ (u : View). (mine u).number) blank in (
      record {
        same = same;
        blank = blank ∙ ap (λ m. with_parts (new_view id.problem id.workers id.share_words) (blank_part id.workers m ∷ [])) (sym is);
        fresh = subst (λ m. IsFresh id.problem m id.workers job.ended.worker) (sym is) (subst (λ m. IsFresh id.problem number m job.ended.worker) (sym n_is) (subst (λ q. IsFresh q number workers job.ended.worker) (sym p_is) fresh));
      },
      is,
    )

-- a job behind others, of the next lower number
pub jobs_more : (id : ExchangeId) (jobs : List Job) (job : Job) → AreJobs id jobs → IsJob id job → (mine job.seat.view).number + length jobs + 1 ≡ id.workers → AreJobs id (jobs ++ job ∷ [])
jobs_more id jobs job are is number = record {
  each = λ k j at. elim (get_push_cases jobs job k j at) [ inl h ↦ are.each k j h | inr h ↦ subst (IsJob id) (sym h.1) is ];
  numbers = λ k j at. elim (get_push_cases jobs job k j at) [
    | inl h ↦ are.numbers k j h
    | inr h ↦ subst (λ (x : Job). (mine x.seat.view).number + k + 1 ≡ id.workers) (sym h.1) (subst (λ m. (mine job.seat.view).number + m + 1 ≡ id.workers) (sym h.0) number)
  ];
}

pub no_jobs : (id : ExchangeId) → AreJobs id []
no_jobs id = record { each = λ k job at. absurd (get_nothing k job at); numbers = λ k job at. absurd (get_nothing k job at) }

-- the seat of all numbers
pub first_rest : (id : ExchangeId) (p : Problem) (workers count : ℕ) (v : View) → id.problem ≡ p → id.workers ≡ workers → v ≡ new_view p workers id.share_words → suc count ≡ workers → IsRest id v (suc count)
first_rest id p workers count v p_is n_is is all = record {
  blank = is ∙ ap (λ q. new_view q workers id.share_words) (sym p_is) ∙ ap (λ n. new_view id.problem n id.share_words) (sym n_is)
      ∙ ap (λ n. with_parts (new_view id.problem id.workers id.share_words) (blank_parts id.workers 0 n)) (n_is ∙ sym all);
}

-- one number at least is left
pub rest_some : (id : ExchangeId) (v : View) (c n : ℕ) → IsRest id v c → 0 < c → c ≡ n → (d : ℕ) × (suc d ≡ n) × IsRest id v (suc d)
rest_some id v zero n rest some is = absurd (omega arith)
rest_some id v (suc d) n rest some is = (d, is, rest)
