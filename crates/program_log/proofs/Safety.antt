-- Why a program whose log is accepted does not fail.
use Rattle.std.proofs.Common.{◌≡◌, ℕ, Bool, List, [], ◌∷◌, ◌++◌, length, subst, sym, refl}
use Rattle.std.specs.Prelude.{Contains}
use Rattle.dg_base.proofs.Lists.{contains_map, contains_place, get_push_last}
use Rattle.axiom_model.specs.declared.MemoryModel.{MemoryModel}
use Rattle.c_check.specs.declared.checked.Checked.{Checked}
use Rattle.run_model.specs.Threads.{ProgramFails}
use Rattle.cnf_problem.specs.declared.problem.Problem.{Problem}
use Rattle.cnf_problem.specs.Problems.{IsConsistent}
use Rattle.cnf_problem.specs.Laws.{RefutedHasNoAssignment}
use Rattle.encode_match.specs.declared.Encoded.{Encoded}
use Rattle.encode_match.specs.Directions.{ChainEncodes}
use Rattle.encode_match.specs.Encoding.{NoAssignmentMeansSafe}
use Rattle.lemma_log.specs.declared.Entry.{Entry}
use Rattle.lemma_log.specs.declared.hints.AnyLog.{AnyLog}
use Rattle.lemma_log.specs.declared.hints.AnyLog.TheVariants.{Plain, Hinted}
use Rattle.log_checker.specs.Goodness.{EndsEmpty, IsGood, lemmas_of}
use Rattle.log_checker.specs.Laws.{GoodHintedIsGood}
use Rattle.program_log.specs.declared.answers.LogAnswer.{LogAnswer}
use Rattle.program_log.specs.declared.answers.LogAnswer.TheVariants.{Accepted}
use Rattle.program_log.specs.declared.answers.Migration.{Migration}
use Rattle.program_log.specs.declared.answers.Migration.TheVariants.{Migrated}
use Rattle.program_log.specs.Laws.{AcceptedIsSafe, IsSafe, KeptIsAccepted, MigratedIsSafe}
use Rattle.program_log.specs.Logs.{IsAnswerFor, IsChainOf, IsGoodLog, IsMigrationFor, IsProofText, accepted, bad_log, entries_of, migrated, other_problem, refused}

-- a log is good by its entries
pub any_good : GoodHintedIsGood → (q : Problem) (log : AnyLog) → IsGoodLog q log → IsGood q (entries_of log)
any_good law q (Plain log) good = good
any_good law q (Hinted h) good = law q h.log.entries h.hints good

-- a good log that ends in the empty clause leaves no consistent assignment
refuted_by : RefutedHasNoAssignment → (q : Problem) (es : List Entry) → IsGood q es → EndsEmpty es → (s : List Bool) → IsConsistent q s → ⊥
refuted_by law q es good ends s =
    let there = subst (λ (l : List Entry). Contains l ends.last) (sym ends.parts) (contains_place (ends.before ++ ends.last ∷ []) (length ends.before) ends.last (get_push_last ends.before ends.last)) in
    law q (lemmas_of es) ends.last.lemma s good (contains_map (λ (e : Entry). e.lemma) es ends.last there) ends.empty

-- so no execution fails
safe : ChainEncodes → NoAssignmentMeansSafe → RefutedHasNoAssignment → GoodHintedIsGood → (m : MemoryModel) (p : Checked) (x : Encoded) (log : AnyLog) (text : List ℕ)
    → IsChainOf p m x → IsProofText p x log text → IsSafe p m
safe chains means refutation hints m p x log text chain proof c fails =
    means p x (chains p m chain.0 x chain.1) (refuted_by refutation x.problem (entries_of log) (any_good hints x.problem log proof.good) proof.empty) c
    (subst (λ (k : MemoryModel). ProgramFails p k c) (sym (chain.1.made.model)) fails)

-- the log that is accepted
pub record IsProofOf (p : Checked) (x : Encoded) (text : List ℕ) (n : ℕ) : Type 0 where
  pub log : AnyLog
  pub proof : IsProofText p x log text
  pub counted : length (entries_of log) ≡ n

pub proof_of : (p : Checked) (x : Encoded) (text : List ℕ) (n : ℕ) (a : LogAnswer) → a ≡ Accepted n → IsAnswerFor p x text a → IsProofOf p x text n
proof_of p x text n a is (bad_log line r) = cc
proof_of p x text n a is (other_problem w place theirs ours s first) = cc
proof_of p x text n a is (refused log r s fails) = cc
proof_of p x text n a is (accepted log proof) = record { log = log; proof = proof; counted = cc }

pub accepted_is_safe : ChainEncodes → NoAssignmentMeansSafe → RefutedHasNoAssignment → GoodHintedIsGood → AcceptedIsSafe
accepted_is_safe chains means refutation hints m p text n check =
    let it = proof_of p check.encoded text n (Accepted n) refl check.answer in
    safe chains means refutation hints m p check.encoded it.log text check.chain it.proof

anew_of : (p : Checked) (x : Encoded) (old new : List ℕ) (n : ℕ) (a : Migration) → a ≡ Migrated n new → IsMigrationFor p x old a → (log : AnyLog) × IsProofText p x log old
anew_of p x old new n a is (migrated count text k) = (k.log, k.proof)
anew_of p x old new n a is _ = cc

pub migrated_is_safe : ChainEncodes → NoAssignmentMeansSafe → RefutedHasNoAssignment → GoodHintedIsGood → MigratedIsSafe
migrated_is_safe chains means refutation hints m p old new n done =
    let it = anew_of p done.encoded old new n (Migrated n new) refl done.answer in
    safe chains means refutation hints m p done.encoded it.0 old done.chain it.1

pub kept_is_accepted : KeptIsAccepted
kept_is_accepted m p x entries text chain kept ends =
    let proof : IsProofText p x (Hinted kept.hinted) text = record { spelled = kept.spelled; good = kept.good; empty = subst EndsEmpty (sym kept.same) ends } in
    record { encoded = x; chain = chain; answer = subst (λ (es : List Entry). IsAnswerFor p x text (Accepted (length es))) kept.same (accepted (Hinted kept.hinted) proof) }
