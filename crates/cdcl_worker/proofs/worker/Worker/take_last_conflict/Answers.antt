use Rattle.std.proofs.Common.{◌≡◌, ◌++◌, ℕ, true, List, [], length, sym, subst}
use Rattle.std.specs.Prelude.{Contains, ◌==◌}
use Rattle.std.proofs.lemmas.List.Elements.{Contains-append_right}
use Rattle.dg_base.specs.declared.Lit.{Lit}
use Rattle.cnf_problem.specs.declared.problem.Problem.{Problem}
use Rattle.cnf_problem.specs.Laws.{IsWithin}
use Rattle.cnf_problem.specs.Chains.{ReachesConflict}
use Rattle.trail_state.specs.Trails.{IsWell}
use Rattle.clause_store.specs.Stores.{clauses_of}
use Rattle.clause_exchange.specs.Steps.{mine}
use Rattle.worker_log.specs.Newness.{knows}
use Rattle.worker_log.specs.Keeping.{IsHeeding}
use Rattle.cdcl_worker.specs.Outcomes.{WorkerView, IsOutcome}
use Rattle.cdcl_worker.specs.declared.worker.Outcome.{Outcome}
use Rattle.cdcl_worker.proofs.Begun.{ok_weaker, outcome_since}
use Rattle.cdcl_worker.proofs.Learning.{empty_by}
use Rattle.cdcl_worker.proofs.Fresh.{within_nothing}
use Rattle.cdcl_worker.proofs.Levels.{once_of}
use Rattle.cdcl_worker.proofs.Ground.{refuted_by_known}
use Rattle.cdcl_worker.proofs.Learnt.{store_known, within_behind}
use Rattle.cdcl_worker.proofs.Noted.{knows_still, knows_lemma, heeding_still, left_offered, offered_empty}
use Rattle.cdcl_worker.proofs.Steps.{conflict_new, same_problem}
use Rattle.cdcl_worker.proofs.worker.Worker.take_last_conflict.Goals as goal

no_literals : (clause lits : List Lit) → true ≡ (length clause == 0) → IsWithin lits clause → lits ≡ []
no_literals clause lits e within = within_nothing lits (subst (λ xs. IsWithin lits xs) (empty_by clause e) within)

pub note_cycle-requires-clause-new : goal.note_cycle-requires-clause-new
note_cycle-requires-clause-new c some =
    let f = c.requires.found in
    let well = subst (λ (w : WorkerView). IsWell w.trail) c.self.view_is c.know_well.ensures in
    conflict_new c.args.seat.now.view.problem c.args.self.now (mine c.args.seat.now.view) c.args.clause.now f.1.0.going.thinking f.1.1 well f.1.2.1 some

pub offer-requires-clause-cause : goal.offer-requires-clause-cause
offer-requires-clause-cause c =
    let m = c.in_ok-note_cycle.ensures.noted in
    let none = no_literals c.args.clause.now m.0.lits c.if-is_empty.ensures m.2 in
    subst (λ (ls : List Lit). Contains (knows (mine c.note_cycle.new.seat.view)) ls) none (knows_lemma m.0 (mine c.args.seat.now.view) (mine c.note_cycle.new.seat.view) m.1)

pub refute-requires-clause-heeding : goal.refute-requires-clause-heeding
refute-requires-clause-heeding c =
    let m = c.in_ok-note_cycle.ensures.noted in
    let f = c.requires.found in
    let v = c.args.seat.now.view in
    let x = c.note_cycle.new.seat.view in
    subst (λ n. IsHeeding (mine x) n) (sym c.note_cycle.ensures.rest.4) (heeding_still m.0 (mine v) (mine x) m.1 c.args.self.now.since f.1.0.going.heeding)

pub refute-requires-clause-refuted : goal.refute-requires-clause-refuted
refute-requires-clause-refuted c =
    let m = c.in_ok-note_cycle.ensures.noted in
    let f = c.requires.found in
    let w = c.args.self.now in
    let v = c.args.seat.now.view in
    let p = v.problem in
    let x = c.note_cycle.new.seat.view in
    let well = subst (λ (y : WorkerView). IsWell y.trail) c.self.view_is c.know_well.ensures in
    let still = within_behind p.clauses (knows (mine v)) (knows (mine x)) (knows_still m.0 (mine v) (mine x) m.1) in
    let within : IsWithin (clauses_of p w.store) (p.clauses ++ knows (mine x)) = (λ cl h. still cl (store_known p w (mine v) f.1.0.going.thinking cl h)) in
    let listed = Contains-append_right p.clauses (knows (mine x)) m.0.lits (knows_lemma m.0 (mine v) (mine x) m.1) in
    subst (λ (q : Problem). ReachesConflict (q.clauses ++ knows (mine x)) []) (sym (same_problem c.args.seat.now c.note_cycle.new.seat c.note_cycle.ensures.same))
    (refuted_by_known (clauses_of p w.store) (p.clauses ++ knows (mine x)) w.trail.entries m.0.lits (once_of w.trail well) f.1.0.going.thinking.forced within listed
    (λ l h. f.1.2.1 l (m.2 l h)) (λ l h. c.requires.ground l (m.2 l h)))

pub returns-then-is_empty-clause-left : goal.returns-then-is_empty-clause-left
returns-then-is_empty-clause-left c = left_offered (mine c.args.seat.now.view) _ c.note_cycle.new.seat.view c.offer.new.seat.view _ c.offer.result c.note_cycle.ensures.silent.left c.offer.ensures.stands

pub returns-then-is_empty-clause-outcome : goal.returns-then-is_empty-clause-outcome
returns-then-is_empty-clause-outcome c budget =
    let m = c.in_ok-note_cycle.ensures.noted in
    let none = no_literals c.args.clause.now m.0.lits c.if-is_empty.ensures m.2 in
    offered_empty m.0 (mine c.args.seat.now.view) c.note_cycle.new.seat.view c.offer.new.seat.view c.offer.result m.1 none c.requires.found.1.0.going.silent c.offer.ensures.stands

pub returns-clause-outcome : goal.returns-clause-outcome
returns-clause-outcome c =
    let p = c.args.seat.now.view.problem in
    let q = c.note_cycle.new.seat.view.problem in
    let before = mine c.args.seat.now.view in
    let mid = mine c.note_cycle.new.seat.view in
    let after = mine c.refute.new.seat.view in
    ok_weaker (λ (o : Outcome). (budget : ℕ) → IsOutcome q budget mid after o) (λ (o : Outcome). (budget : ℕ) → IsOutcome p budget before after o) c.refute.result
    (λ o told budget. outcome_since p budget before mid after o c.note_cycle.ensures.silent.left.loads
    (subst (λ (x : Problem). IsOutcome x budget mid after o) (same_problem c.args.seat.now c.note_cycle.new.seat c.note_cycle.ensures.same) (told budget)))
    c.refute.ensures.outcome
