-- How a search begins, what it sees of a verdict, and how its budget ends.
use Rattle.std.proofs.Common.{◌≡◌, ◌≢◌, ℕ, suc, ◌+◌, ◌-◌, ◌<◌, ◌≤◌, inl, inr, List, [], ◌∷◌, ◌++◌, length, refl, ap, sym, ◌∙◌, subst, arith, Option, Some, None, Result, Ok, Err, slice_get}
use Rattle.std.specs.Prelude.{Contains, All, take, IfOk, IfSome}
use Rattle.std.proofs.lemmas.List.Elements.{All-nil}
use Rattle.dg_base.proofs.Lists.{contains_nothing, get_nothing}
use Rattle.dg_base.specs.declared.Lit.{Lit}
use Rattle.cnf_problem.specs.declared.problem.Problem.{Problem}
use Rattle.cnf_problem.specs.Chains.{IsFixpoint}
use Rattle.cnf_problem.proofs.ChainLaws.{fixpoint_no_conflict}
use Rattle.search_core.specs.declared.Entry.{Entry}
use Rattle.search_core.specs.declared.Verdict.{Verdict}
use Rattle.search_core.specs.Core.{lits_of}
use Rattle.trail_state.specs.Trails.{Forced, TrailView, true_lits}
use Rattle.clause_store.specs.Stores.{clauses_of}
use Rattle.clause_exchange.specs.declared.rule.RowView.{RowView}
use Rattle.clause_exchange.specs.declared.rule.Part.{Part}
use Rattle.clause_exchange.specs.declared.rule.View.{View}
use Rattle.clause_exchange.specs.Spelling.{whole_within}
use Rattle.clause_exchange.specs.Steps.{mine, with_part, seeing, reading, received_lits}
use Rattle.clause_exchange.proofs.CallLaws.{whole_first}
use Rattle.worker_log.specs.Newness.{knows, WereNew}
use Rattle.worker_log.specs.Logs.{LogView, IsIdle}
use Rattle.worker_log.specs.Keeping.{IsLogging, IsHeeding, HasSpent}
use Rattle.cdcl_worker.specs.declared.worker.Outcome.{Outcome}
use Rattle.cdcl_worker.specs.declared.worker.Outcome.TheVariants.{Unsat, Model, Spent, Followed, OutOfMemory}
use Rattle.cdcl_worker.specs.Outcomes.{WorkerView, IsOutcome}
use Rattle.cdcl_worker.specs.Searching.{IsUnderWay, IsSearching, MayRestart, IsLeft, IsSilent, IsFresh}
use Rattle.cdcl_worker.proofs.Fresh.{fixpoint_of_same}
use Rattle.cdcl_worker.proofs.Learnt.{known_stored}

-- ---- the beginning

-- nothing is read where no word is loaded
unread_none : (rows : List RowView) → ((j : ℕ) (r : RowView) → slice_get rows j ≡ Some r → r.loaded ≡ 0) → reading rows ≡ []
unread_none [] none = refl
unread_none (r ∷ rows) none =
    ap (λ n. whole_within n r.known ++ reading rows) (none 0 r refl)
    ∙ (ap (λ xs. xs ++ reading rows) (whole_first [] r.known) ∙ unread_none rows (λ j q at. none (suc j) q at))

-- a number that has done nothing knows nothing
idle_knows : (v : View) → IsIdle v → knows (mine v) ≡ []
idle_knows v idle = ap (λ es. lits_of es ++ received_lits (reading (mine v).rows)) idle.log ∙ ap received_lits (unread_none (mine v).rows idle.unread)

-- a new worker may look at the others
pub fresh_may : (p : Problem) (budget : ℕ) (w : WorkerView) (v : View) → IsFresh p (mine v).number v.workers w → v.problem ≡ p → IsIdle v → budget ≤ 1000000 → MayRestart p budget w v
fresh_may p budget w v fresh problem idle few = record {
  logging = inr (fresh.log, idle);
  problem = problem;
  within = (let e = ap length idle.log in omega arith);
  few = few;
  nonempty = subst (λ es. All (λ (e : Entry). e.lemma.lits ≢ []) es) (sym idle.log) (All-nil (λ (e : Entry). e.lemma.lits ≢ []));
  silent = idle.offers;
  thinking = record {
    vars = ap (λ (t : TrailView). t.vars) fresh.trail;
    forced = λ i id l at. absurd (get_nothing i (Forced l id) (subst (λ (t : TrailView). slice_get t.entries i ≡ Some (Forced l id)) fresh.trail at));
    holds = λ c m. absurd (contains_nothing c (subst (λ cs. Contains cs c) (idle_knows v idle) m));
    only = λ c m. absurd (contains_nothing c (subst (λ cs. Contains cs c) fresh.added m));
    ordering = fresh.ordering;
    asserted = subst (λ (ls : List Lit). ls ≡ take (length ls) (true_lits w.trail.entries)) (sym fresh.asserted) refl;
    choice = fresh.choice;
  };
  watching = fresh.watching;
}

-- a search that goes on may look at the others too
pub searching_may : (p : Problem) (budget : ℕ) (w : WorkerView) (v : View) → IsSearching p budget w v → MayRestart p budget w v
searching_may p budget w v s = record {
  logging = inl s.going.logging;
  problem = s.going.problem;
  within = s.going.within;
  few = s.going.few;
  nonempty = s.going.nonempty;
  silent = s.going.silent;
  thinking = s.going.thinking;
  watching = s.watching;
}

-- ---- a look at the verdict

-- it changes nothing of the log
logging_seen : (w : LogView) (v : View) (seen : Option Verdict) → IsLogging w v → IsLogging w (with_part v (seeing (mine v) seen))
logging_seen w v seen logging = record {
  booked = record {
    one = refl;
    number = logging.booked.number;
    log = logging.booked.log;
    reads = record { wide = logging.booked.reads.wide; each = logging.booked.reads.each; own = logging.booked.reads.own };
    tickets = logging.booked.tickets;
    own = logging.booked.own;
    shared = logging.booked.shared;
  };
  numbered = record { within = logging.numbered.within; wide = logging.numbered.wide; own = logging.numbered.own };
  whole = logging.whole;
  new = λ k e at. (let was = logging.new k e at in record { seen = was.seen; new = was.new });
}

-- nor of the search
pub searching_seen : (p : Problem) (budget : ℕ) (w : WorkerView) (v : View) (seen : Option Verdict) → IsSearching p budget w v → IsSearching p budget w (with_part v (seeing (mine v) seen))
searching_seen p budget w v seen s = record {
  going = record {
    logging = logging_seen w.log v seen s.going.logging;
    problem = s.going.problem;
    heeding = s.going.heeding;
    within = s.going.within;
    few = s.going.few;
    nonempty = s.going.nonempty;
    silent = s.going.silent;
    thinking = record {
      vars = s.going.thinking.vars;
      forced = s.going.thinking.forced;
      holds = s.going.thinking.holds;
      only = s.going.thinking.only;
      ordering = s.going.thinking.ordering;
      asserted = s.going.thinking.asserted;
      choice = s.going.thinking.choice;
    };
  };
  watching = s.watching;
}

-- and it is so left
pub left_seen : (p : Problem) (budget : ℕ) (w : WorkerView) (v x : View) (seen : Option Verdict) → x ≡ with_part v (seeing (mine v) seen) → IsSearching p budget w v → IsLeft (mine v) w x
left_seen p budget w v x seen is s = subst (λ (y : View). IsLeft (mine v) w y) (sym is) (record { logging = logging_seen w.log v seen s.going.logging; number = refl; loads = omega arith })

-- a verdict that was loaded is followed
pub followed : (p : Problem) (budget : ℕ) (v x : View) (verdict : Verdict) → x ≡ with_part v (seeing (mine v) (Some verdict)) → (mine v).offers ≡ [] → IsOutcome p budget (mine v) (mine x) (Followed verdict)
followed p budget v x verdict is silent = subst (λ (y : View). IsOutcome p budget (mine v) (mine y) (Followed verdict)) (sym is) (refl, omega arith, silent)

-- ---- what a return leaves

-- a search that goes on may be left
pub silent_here : (p : Problem) (budget : ℕ) (w : WorkerView) (v : View) → IsSearching p budget w v → IsSilent (mine v) w v
silent_here p budget w v s = record { left = record { logging = s.going.logging; number = refl; loads = omega arith }; offers = s.going.silent }

-- its log is short
pub few_entries : (p : Problem) (budget : ℕ) (w : WorkerView) (v : View) → IsSearching p budget w v → length w.log.entries ≤ 1000000
few_entries p budget w v s = (let a = s.going.logging.booked.log.long in let b = s.going.within in let c = s.going.few in omega arith)

-- a log that agrees with the view may be left
pub left_logging : (w : WorkerView) (v : View) → IsLogging w.log v → IsLeft (mine v) w v
left_logging w v logging = record { logging = logging; number = refl; loads = omega arith }

-- a search with all of its budget
pub searching_full : (p : Problem) (budget n : ℕ) (w : WorkerView) (v : View) → budget ≡ n → IsSearching p budget w v → IsSearching p n w v
searching_full p budget n w v full s = subst (λ m. IsSearching p m w v) full s

-- and comes nearer to its end with each lemma
pub nearer : (budget m n : ℕ) → m < n → n ≤ budget → budget - n < budget - m
nearer budget m n lt le = omega arith

-- what is left after two calls
pub left_then : (before : Part) (w u : WorkerView) (v x : View) → IsLeft before w v → IsLeft (mine v) u x → IsLeft before u x
left_then before w u v x first second = record { logging = second.logging; number = second.number ∙ first.number; loads = (let a = first.loads in let b = second.loads in omega arith) }

-- what holds of a result where something stronger does
pub ok_weaker : {T E : Type 0} (P Q : T → Type 0) (r : Result T E) → ((x : T) → P x → Q x) → IfOk r P → IfOk r Q
ok_weaker P Q (Ok x) weaker h = weaker x h
ok_weaker P Q (Err e) weaker h = tt

pub some_weaker : {T E : Type 0} (P Q : T → Type 0) (r : Result (Option T) E) → ((x : T) → P x → Q x) → IfOk r (λ o. IfSome o P) → IfOk r (λ o. IfSome o Q)
some_weaker P Q (Ok None) weaker h = tt
some_weaker P Q (Ok (Some x)) weaker h = weaker x h
some_weaker P Q (Err e) weaker h = tt

-- ---- the end

-- the search has the same end seen from earlier on
pub outcome_since : (p : Problem) (budget : ℕ) (before between after : Part) (o : Outcome) → before.loads ≤ between.loads → IsOutcome p budget between after o → IsOutcome p budget before after o
outcome_since p budget before between after Unsat le end = end
outcome_since p budget before between after (Model assignment) le end = end
outcome_since p budget before between after Spent le end = end
outcome_since p budget before between after (Followed verdict) le end = (end.0, omega (arith, end.1), end.2)
outcome_since p budget before between after OutOfMemory le end = end

-- where all that is known is a fixpoint, a budget that is used up is spent
pub has_spent : (p : Problem) (budget : ℕ) (w : WorkerView) (v : View) (lits : List Lit) → IsUnderWay p budget w v → length (mine v).log ≡ budget → w.since ≡ length (mine v).log → IsFixpoint (clauses_of p w.store) lits → HasSpent p budget (mine v)
has_spent p budget w v lits going full since fixpoint = record {
  full = full;
  nonempty = going.nonempty;
  new = subst (λ q. WereNew q (mine v)) going.problem going.logging.new;
  heeding = subst (λ n. IsHeeding (mine v) n) since going.heeding;
  no_conflict =
      fixpoint_no_conflict (p.clauses ++ knows (mine v)) lits []
      (fixpoint_of_same (clauses_of p w.store) (p.clauses ++ knows (mine v)) lits (known_stored p w (mine v) going.thinking) fixpoint)
      (λ l m. absurd (contains_nothing l m));
}
