-- Some answer to a witness's text is allowed.
use Rattle.std.proofs.Common.{ℕ, List, ◌^◌, ◌<◌}
use Rattle.std.specs.Prelude.{All}
use Rattle.std.specs.List.{AllByRecursion}
use Rattle.std.proofs.lemmas.List.Elements.{All-from_recursion}
use Rattle.axiom_model.specs.declared.Candidate.{Candidate}
use Rattle.axiom_model.specs.declared.MemoryModel.{MemoryModel}
use Rattle.axiom_model.specs.declared.ThreadPart.{ThreadPart}
use Rattle.c_check.specs.declared.checked.Checked.{Checked}
use Rattle.c_check.specs.PlainNames.{cell_names}
use Rattle.c_check.specs.WellFormed.{IsChecked}
use Rattle.c_check.proofs.PlainNames.{all_map}
use Rattle.run_model.specs.Threads.{ProgramFails}
use Rattle.witness_text.specs.Spelling.{HasThreadNumbers, IsNumber, Spells}
use Rattle.dg_top.specs.Answers.{Answer, BadWitness, Failing, IsReplay, Rejected, bad_witness, failing, rejected}
use Rattle.answer_laws.specs.Laws.{SomeReplayIsAllowed}
use Rattle.answer_laws.proofs.Spelled.{spelled_or_refused}
use Rattle.answer_laws.proofs.Unbroken.{failing_is_told, unbroken_fails}

-- the numbers of a spelling are words
words_of : (ts : List ThreadPart) → AllByRecursion HasThreadNumbers ts → All (λ (t : ThreadPart). All (λ v. v < 2 ^ 32) t.script) ts
words_of ts h = All-from_recursion (λ (t : ThreadPart). All (λ v. v < 2 ^ 32) t.script) ts (all_map HasThreadNumbers (λ t. All (λ v. v < 2 ^ 32) t.script) ts (λ t n. All-from_recursion IsNumber t.script n.script) h)

module _ (m : MemoryModel) (p : Checked) (witness : List ℕ) (checked : IsChecked p) (none : (a : Answer) → IsReplay m p witness a → ⊥) where
  not_failing : (c : Candidate) → Spells p.functions (cell_names p.cells) c witness → ProgramFails p m c → ⊥
  not_failing c s x =
      let told = failing_is_told p m c x in
      let f = told.0 in
      none (Failing f.handle f.place f.bound) (failing c f.handle f.place f.bound s x told.1)

  not_spelled : (c : Candidate) → Spells p.functions (cell_names p.cells) c witness → ⊥
  not_spelled c s = not_failing c s (unbroken_fails p m c checked (words_of c.threads s.numbers.threads) (λ e n b. none (Rejected p e) (rejected c e s b n)))

  some_replay : ⊥
  some_replay = spelled_or_refused p.functions (cell_names p.cells) witness not_spelled (λ line r. none (BadWitness line) (bad_witness line r))

pub some_replay_is_allowed : SomeReplayIsAllowed
some_replay_is_allowed m p witness checked none = some_replay m p witness checked none
