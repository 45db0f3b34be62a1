-- That a clause which is false at level 0 shows the empty clause.
use Rattle.std.proofs.Common.{◌≡◌, ℕ, ◌≤◌, inl, inr, List, [], ◌∷◌, take, sym, subst, arith}
use Rattle.std.specs.Prelude.{Contains}
use Rattle.dg_base.proofs.Lists.{contains_head, contains_cases, contains_place}
use Rattle.dg_base.specs.declared.Lit.{Lit}
use Rattle.cnf_problem.specs.Literals.{var, negated}
use Rattle.cnf_problem.specs.Laws.{IsWithin}
use Rattle.cnf_problem.specs.Chains.{IsFalse, AllFalse, ReachesConflict, done}
use Rattle.cnf_problem.proofs.ChainLaws.{conflict_more}
use Rattle.trail_state.specs.Trails.{Assigned, true_lits, level, level_of, up_to}
use Rattle.trail_state.specs.Forcing.{AreForced, IsConflict, reasons}
use Rattle.trail_state.proofs.Cuts.{up_to_all}
use Rattle.conflict_learn.proofs.Levels.{Once}
use Rattle.conflict_learn.proofs.Asserting.{false_up_to}
use Rattle.conflict_learn.proofs.Resolving.{ground_entries, without_front}
use Rattle.cdcl_worker.proofs.Fresh.{reasons_within, follows_from_known}

-- a clause that is false on level 0 leads to a conflict with the reasons
refuted_by_reasons : (clauses : List (List Lit)) (entries : List Assigned) (clause : List Lit) → AreForced clauses entries → AllFalse (true_lits (up_to 0 entries)) clause → ReachesConflict (clause ∷ reasons clauses entries) []
refuted_by_reasons clauses entries clause forced wrong =
    let r = ground_entries entries in
    without_front clauses entries clause [] r.0 forced r.2
    (record {
      reached = true_lits (take r.0 entries);
      chain = done;
      clause = clause;
      listed = contains_head clause (reasons clauses entries);
      conflict = subst (λ (es : List Assigned). AllFalse (true_lits es) clause) r.1 wrong;
    })

-- a clause whose literals are false, each at level 0, is false on level 0
ground_false : (entries : List Assigned) (clause : List Lit) → Once (true_lits entries) → AllFalse (true_lits entries) clause → ((l : Lit) → Contains clause l → level_of (var l) entries ≡ 0) → AllFalse (true_lits (up_to 0 entries)) clause
ground_false entries clause once wrong ground = λ l m. false_up_to 0 entries l once (wrong l m) (let e = ground l m in omega arith)

-- what is known is refuted by a clause that is false at level 0 and known beside the clauses that have the reasons
pub refuted_by_known : (clauses known : List (List Lit)) (entries : List Assigned) (clause : List Lit) → Once (true_lits entries) → AreForced clauses entries → IsWithin clauses known → Contains known clause
    → AllFalse (true_lits entries) clause → ((l : Lit) → Contains clause l → level_of (var l) entries ≡ 0) → ReachesConflict known []
refuted_by_known clauses known entries clause once forced within listed wrong ground =
    conflict_more (clause ∷ reasons clauses entries) known [] []
    (λ c m. elim (contains_cases clause c (reasons clauses entries) m) [ inl same ↦ subst (λ x. Contains known x) (sym same) listed | inr k ↦ within c (reasons_within clauses entries c k) ])
    (λ x m. m)
    (refuted_by_reasons clauses entries clause forced (ground_false entries clause once wrong ground))

-- at level 0 any clause that is false does
pub refuted_at_ground : (clauses : List (List Lit)) (entries : List Assigned) (id : ℕ) → AreForced clauses entries → level entries ≡ 0 → IsConflict clauses id (true_lits entries) → ReachesConflict clauses []
refuted_at_ground clauses entries id forced ground conflict =
    follows_from_known clauses entries conflict.clause [] [] (contains_place clauses id conflict.clause conflict.named) (λ x m. m)
    (refuted_by_reasons clauses entries conflict.clause forced
    (subst (λ (es : List Assigned). AllFalse (true_lits es) conflict.clause) (sym (up_to_all 0 entries (omega arith))) conflict.conflict))
