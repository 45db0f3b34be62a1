-- From what a search says of the problem to what holds of the program.
use Rattle.std.proofs.Common.{◌≡◌, ◌+◌, ◌≤◌, ◌++◌, ℕ, Bool, List, [], ◌∷◌, Option, Some, None, get_or, map, take, arith, subst, sym, ◌∙◌}
use Rattle.std.proofs.lemmas.List.{take_all, take_more}
use Rattle.std.proofs.lemmas.Option.{get_or_from_slice_get, slice_get-get_or}
use Rattle.dg_base.specs.declared.Place.{Place}
use Rattle.dg_base.proofs.Lists.{contains_map, contains_place, get_there}
use Rattle.axiom_model.specs.declared.Candidate.{Candidate}
use Rattle.axiom_model.specs.declared.MemoryModel.{MemoryModel}
use Rattle.axiom_model.specs.Failing.{FailsFirst, Run}
use Rattle.c_check.specs.declared.checked.Checked.{Checked}
use Rattle.run_model.specs.Threads.{ProgramFails}
use Rattle.exec_check.specs.Running.{runs_of}
use Rattle.exec_check.proofs.Excluding.{runs_are}
use Rattle.cnf_problem.specs.declared.problem.Problem.{Problem}
use Rattle.cnf_problem.specs.Problems.{IsConsistent}
use Rattle.cnf_problem.specs.Laws.{RefutedHasNoAssignment}
use Rattle.lemma_log.specs.declared.Entry.{Entry}
use Rattle.lemma_log.specs.declared.Log.{Log}
use Rattle.encode_match.specs.declared.Encoded.{Encoded}
use Rattle.encode_match.specs.Encoding.{IsEncoding, NoAssignmentMeansSafe}
use Rattle.log_checker.specs.Goodness as goodness
use Rattle.program_log.specs.Logs.{HaveWorkers, IsChainOf, IsHintedText}
use Rattle.verdict_run.specs.declared.decision.Report.{Report}
use Rattle.verdict_run.specs.declared.decision.Decision.{Decision}
use Rattle.verdict_run.specs.declared.decision.Decision.TheVariants as decision
use Rattle.verdict_run.specs.Decisions.{AreOf, EndsEmpty, IsDecision, IsGood}
use Rattle.program_verdict.specs.declared.Effort.{Effort}
use Rattle.program_verdict.specs.declared.ProgramVerdict.TheVariants as verdict
use Rattle.program_verdict.specs.Verdicts.{IsKeptProof, IsVerdictOf, IsWhereWanted}

-- the failing thread of the candidate's runs is that of the execution's
pub first_of : (p : Checked) (m : MemoryModel) (c : Candidate) (x : ProgramFails p m c) (h : ℕ) (at : Place) (bound : Bool) → FailsFirst c (runs_of p c.threads) h at bound → FailsFirst c x.allowed.threads h at bound
first_of p m c x h at bound first = subst (λ (rs : List Run). FailsFirst c rs h at bound) (sym (runs_are p c.threads x.allowed.threads x.allowed.whole)) first

-- ---- logs

-- a log that ends at its first empty clause ends in the empty clause
ends_empty : (log : List Entry) → EndsEmpty log → goodness.EndsEmpty log
ends_empty log ends =
    let e = get_there log ends.last (let n = ends.length_is in omega arith) in
    let whole = sym (take_all (ends.last + 1) log (let n = ends.length_is in omega arith)) ∙ take_more log ends.last e.0 (let n = ends.length_is in omega arith) in
    record {
      before = take ends.last log;
      last = e.0;
      parts = subst (λ (x : Entry). log ≡ take ends.last log ++ x ∷ []) (get_or_from_slice_get log ends.last e.0 e.0 e.1) whole;
      empty = ends.empty e.0 e.1;
    }

have_workers : (n : ℕ) (log : List Entry) → n ≤ 16 → AreOf n log → HaveWorkers log
have_workers n log few are k d within = let least = are k (get_or log k d) (slice_get-get_or log k d within) in omega arith

-- a good log that ends in the empty clause leaves no consistent assignment
refuted : RefutedHasNoAssignment → (p : Problem) (log : List Entry) → IsGood p log → EndsEmpty log → (s : List Bool) → IsConsistent p s → ⊥
refuted law p log good ends s =
    let e = get_there log ends.last (let n = ends.length_is in omega arith) in
    law p (map (λ (x : Entry). x.lemma) log) e.0.lemma s good (contains_map (λ (x : Entry). x.lemma) log e.0 (contains_place log ends.last e.0 e.1)) (ends.empty e.0 e.1)

-- ---- what is said where a text is wanted

wanted_more : (P Q : List ℕ → Type 0) (wanted : Bool) (o : Option (List ℕ)) → ((text : List ℕ) → P text → Q text) → IsWhereWanted wanted P o → IsWhereWanted wanted Q o
wanted_more P Q wanted None f w = w
wanted_more P Q wanted (Some text) f w = (w.0, f text w.1)

-- ---- decisions of the program's problem

-- what is said of a decision is said of the one that it is
decided : (p : Problem) (workers budget : ℕ) (d e : Decision) → d ≡ e → IsDecision p workers budget d → IsDecision p workers budget e
decided p workers budget d e same h = subst (λ (d : Decision). IsDecision p workers budget d) same h

module _ (p : Checked) (m : MemoryModel) (e : Effort) (x : Encoded) (d : Decision) (log : Log) (same : x.model ≡ m) (says : IsDecision x.problem e.workers e.budget d) where
  module _ (is : d ≡ decision.Safe log) where
    pub safe_log : IsDecision x.problem e.workers e.budget (decision.Safe log)
    safe_log = decided x.problem e.workers e.budget d (decision.Safe log) is says

    pub safe_workers : e.workers ≤ 16 → HaveWorkers log.entries
    safe_workers few = have_workers e.workers log.entries few safe_log.2

    -- so no execution fails, and the text of the log shows it
    pub is_safe : RefutedHasNoAssignment → NoAssignmentMeansSafe → IsEncoding p x → IsChainOf p m x → (wanted : Bool) (text : Option (List ℕ))
        → IsWhereWanted wanted (IsHintedText p x log.entries) text → IsVerdictOf p m e wanted (verdict.Safe text)
    is_safe refutation means encoding chain wanted text kept = (
      (λ c fails. means p x encoding (refuted refutation x.problem log.entries safe_log.0 safe_log.1) c (subst (λ (k : MemoryModel). ProgramFails p k c) (sym same) fails)),
      wanted_more (IsHintedText p x log.entries) (IsKeptProof p m) wanted text (λ t h. record { encoded = x; chain = chain; log = log.entries; kept = h; empty = ends_empty log.entries safe_log.1 }) kept,
    )

  -- a search without a verdict
  module _ (reports : List Report) (is : d ≡ decision.Unknown log reports) where
    pub unknown_log : IsDecision x.problem e.workers e.budget (decision.Unknown log reports)
    unknown_log = decided x.problem e.workers e.budget d (decision.Unknown log reports) is says

    pub unknown_workers : e.workers ≤ 16 → HaveWorkers log.entries
    unknown_workers few = have_workers e.workers log.entries few unknown_log.2

    pub is_unknown : IsEncoding p x → IsChainOf p m x → (wanted : Bool) (text : Option (List ℕ)) → IsWhereWanted wanted (IsHintedText p x log.entries) text
        → IsVerdictOf p m e wanted (verdict.Unknown reports text)
    is_unknown encoding chain wanted text kept =
        (record { encoded = x; encoding = encoding; same_model = same; chain = chain; log = log.entries; good = unknown_log.0; unknown = unknown_log.1 }, kept)
