-- A failing execution is answered with its failing thread, and with nothing else.
use Rattle.std.proofs.Common.{◌≡◌, ◌<◌, ℕ, Bool, true, false, List, [], ◌∷◌, Option, Some, refl, sym, ap, subst, ◌∙◌, ⊎_elim}
use Rattle.std.proofs.lemmas.Bool.{cases_order}
use Rattle.std.specs.Prelude.{slice_get}
use Rattle.dg_base.specs.declared.Place.{Place}
use Rattle.dg_base.specs.declared.refusal.Refusal.{Refusal}
use Rattle.dg_base.proofs.Lists.{not_none, one_answer}
use Rattle.axiom_model.specs.declared.Candidate.{Candidate}
use Rattle.axiom_model.specs.declared.MemoryModel.{MemoryModel}
use Rattle.axiom_model.specs.declared.ThreadPart.{ThreadPart}
use Rattle.axiom_model.specs.Failing.{FailsFirst, Run, failed_by}
use Rattle.c_check.specs.declared.checked.Checked.{Checked}
use Rattle.run_model.specs.Threads.{ProgramFails}
use Rattle.exec_check.specs.Broken.{IsFirstBroken}
use Rattle.exec_check.specs.Running.{runs_of}
use Rattle.exec_check.specs.declared.Reject.{Reject}
use Rattle.exec_check.specs.declared.Reject.TheVariants.{OutOfMemory}
use Rattle.exec_check.proofs.Excluding.{runs_are}
use Rattle.c_check.specs.PlainNames.{cell_names}
use Rattle.witness_text.specs.Spelling.{OneCandidate, Spells}
use Rattle.c_program.specs.Accepting.{IsAccepted, IsRefused, NamesArePlain, NotBoth, OneChecked}
use Rattle.verdict_run.specs.declared.decision.Report.{Report}
use Rattle.program_verdict.specs.declared.Effort.{Effort}
use Rattle.program_log.specs.declared.answers.LogAnswer.{LogAnswer}
use Rattle.word_settings.specs.declared.settings.Job.TheVariants as job
use Rattle.word_settings.specs.declared.settings.Settings.{Settings}
use Rattle.word_settings.specs.Settings.{Word}
use Rattle.dg_top.specs.Answers.{Answer, BadWitness, Failing, IsAnswer, IsMigrated, IsReplay, IsVerdict, Kept, Made, MadeVerdict, Migrated, OfLog, Refused, Rejected, Safe, Unknown, Unsafe, bad_witness, checked, effort_of, failing, made, made_and_refused, made_and_verified, migrated, refused, rejected, replayed, safe, unknown, unsafe, verified}
use Rattle.dg_top.specs.Laws.{FailingIsAlone}

-- ---- the first failing thread

-- no run fails in this way before the first one that does
not_earlier : (c : Candidate) (rs : List Run) (h k : ℕ) (at bt : Place) (b : Bool) (x : FailsFirst c rs h at b) (y : FailsFirst c rs k bt b) → x.number < y.number → ⊥
not_earlier c rs h k at bt b x y less = not_none (failed_by b x.run) at (y.not_before x.number x.run less x.is_run) x.fails

-- a bound is told only where no assertion fails
one_way : (c : Candidate) (rs : List Run) (h k : ℕ) (at bt : Place) (a b : Bool) → FailsFirst c rs h at a → FailsFirst c rs k bt b → b ≡ a
one_way c rs h k at bt true true x y = refl
one_way c rs h k at bt false false x y = refl
one_way c rs h k at bt true false x y = absurd (not_none (failed_by false y.run) bt (x.no_assertion refl y.number y.run y.is_run) y.fails)
one_way c rs h k at bt false true x y = absurd (not_none (failed_by false x.run) at (y.no_assertion refl x.number x.run x.is_run) x.fails)

-- the first failing thread, the place where it fails and the way are one
one_first : (c : Candidate) (rs : List Run) (h k : ℕ) (at bt : Place) (a b : Bool) → FailsFirst c rs h at a → FailsFirst c rs k bt b → (k ≡ h) × (bt ≡ at) × (b ≡ a)
one_first c rs h k at bt a b x y = one (subst (λ (z : Bool). FailsFirst c rs k bt z) way y)
  where
    way : b ≡ a
    way = one_way c rs h k at bt a b x y

    one : FailsFirst c rs k bt a → (k ≡ h) × (bt ≡ at) × (b ≡ a)
    one z = ⊎_elim same (λ o. absurd (⊎_elim (not_earlier c rs h k at bt a x z) (not_earlier c rs k h bt at a z x) o)) (cases_order x.number z.number)
      where
        same : x.number ≡ z.number → (k ≡ h) × (bt ≡ at) × (b ≡ a)
        same e =
            let part : x.part ≡ z.part = one_answer (slice_get c.threads z.number) x.part z.part (subst (λ (n : ℕ). slice_get c.threads n ≡ Some x.part) e x.is_part) z.is_part in
            let run : x.run ≡ z.run = one_answer (slice_get rs z.number) x.run z.run (subst (λ (n : ℕ). slice_get rs n ≡ Some x.run) e x.is_run) z.is_run in (
              sym z.handle_is ∙ sym (ap (λ (t : ThreadPart). t.handle) part) ∙ x.handle_is,
              one_answer (failed_by a z.run) bt at z.fails (subst (λ (r : Run). failed_by a r ≡ Some at) run x.fails),
              way,
            )

-- ---- constructors that differ, and parts of equal ones

failing_parts : (h k : ℕ) (at bt : Place) (a b : Bool) → Failing k bt b ≡ Failing h at a → (k ≡ h) × (bt ≡ at) × (b ≡ a)
failing_parts h k at bt a b e = (cc, cc, cc)

module _ (h : ℕ) (at : Place) (a : Bool) where
  no_line : (line : ℕ) → BadWitness line ≡ Failing h at a → ⊥
  no_line line e = cc

  not_rejected : (p : Checked) (r : Reject) → Rejected p r ≡ Failing h at a → ⊥
  not_rejected p r e = cc

  not_refused : (r : Refusal) → Refused r ≡ Failing h at a → ⊥
  not_refused r e = cc

  not_open : (reports : List Report) → Unknown reports ≡ Failing h at a → ⊥
  not_open reports e = cc

  not_safe : Safe ≡ Failing h at a → ⊥
  not_safe e = cc

  not_unsafe : (w : List ℕ) (k : ℕ) (bt : Place) (b : Bool) → Unsafe w k bt b ≡ Failing h at a → ⊥
  not_unsafe w k bt b e = cc

  not_of_log : (l : LogAnswer) → OfLog l ≡ Failing h at a → ⊥
  not_of_log l e = cc

  not_migrated : (n : ℕ) → Migrated n ≡ Failing h at a → ⊥
  not_migrated n e = cc

  not_made : (n : ℕ) → Made n ≡ Failing h at a → ⊥
  not_made n e = cc

  not_made_verdict : (n : ℕ) (b : Answer) → MadeVerdict n b ≡ Failing h at a → ⊥
  not_made_verdict n b e = cc

first_text : (a c d : List ℕ) (rest : List (List ℕ)) → a ∷ rest ≡ c ∷ d ∷ [] → a ≡ c
first_text a c d rest e = cc

second_text : (a b c d : List ℕ) → a ∷ b ∷ [] ≡ c ∷ d ∷ [] → b ≡ d
second_text a b c d e = cc

not_one_text : (a c d : List ℕ) → a ∷ [] ≡ c ∷ d ∷ [] → ⊥
not_one_text a c d e = cc

no_text : (a : List ℕ) (rest : List (List ℕ)) → [] ≡ a ∷ rest → ⊥
no_text a rest e = cc

-- ---- the answers

-- what a witness that is answered with a failing thread spells
record Shown (m : MemoryModel) (p : Checked) (witness : List ℕ) (h : ℕ) (at : Place) (way : Bool) : Type 0 where
  candidate : Candidate
  spelled : Spells p.functions (cell_names p.cells) candidate witness
  fails : ProgramFails p m candidate
  first : FailsFirst candidate fails.allowed.threads h at way

shown : (m : MemoryModel) (p : Checked) (w : List ℕ) (h : ℕ) (at : Place) (way : Bool) (a : Answer) → a ≡ Failing h at way → IsReplay m p w a → Shown m p w h at way
shown m p w h at way _ e (bad_witness line r) = absurd (no_line h at way line e)
shown m p w h at way _ e (failing c k bt b s x f) =
    let parts = failing_parts h k at bt way b e in
    record {
      candidate = c;
      spelled = s;
      fails = x;
      first = subst (λ (z : Bool). FailsFirst c x.allowed.threads h at z) parts.2 (subst (λ (q : Place). FailsFirst c x.allowed.threads h q b) parts.1 (subst (λ (i : ℕ). FailsFirst c x.allowed.threads i bt b) parts.0 f));
    }
shown m p w h at way _ e (rejected c r s b n) = absurd (not_rejected h at way p r e)

no_verdict : (m : MemoryModel) (effort : Effort) (p : Checked) (log witness : Option Word) (h : ℕ) (at : Place) (way : Bool) (a : Answer) (kept : Option Kept) → a ≡ Failing h at way
    → IsVerdict m effort p log witness a kept → ⊥
no_verdict m effort p log witness h at way _ _ e (safe kept s k) = not_safe h at way e
no_verdict m effort p log witness h at way _ _ e (unsafe c w k bt b kept s x f i) = not_unsafe h at way w k bt b e
no_verdict m effort p log witness h at way _ _ e (unknown reports kept u k) = not_open h at way reports e

no_migration : (m : MemoryModel) (p : Checked) (old : List ℕ) (name : Word) (h : ℕ) (at : Place) (way : Bool) (a : Answer) (kept : Option Kept) → a ≡ Failing h at way
    → IsMigrated m p old name a kept → ⊥
no_migration m p old name h at way _ _ e (migrated n new i) = not_migrated h at way n e
no_migration m p old name h at way _ _ e (refused a i) = not_of_log h at way a e

-- the texts that are answered with a failing thread
record Given (s : Settings) (texts : List (List ℕ)) (h : ℕ) (at : Place) (way : Bool) : Type 0 where
  text : List ℕ
  witness : List ℕ
  program : Checked
  job_is : s.job ≡ job.Replay
  texts_are : texts ≡ text ∷ witness ∷ []
  accepted : IsAccepted s.bound s.full text program
  shown : Shown s.model program witness h at way

given : (s : Settings) (texts : List (List ℕ)) (h : ℕ) (at : Place) (way : Bool) (a : Answer) (kept : Option Kept) → a ≡ Failing h at way → IsAnswer s texts a kept → Given s texts h at way
given s _ h at way _ _ e (refused text others r d) = absurd (not_refused h at way r e)
given s _ h at way a kept e (verified text p l w b k j acc v) = absurd (no_verdict s.model (effort_of s) p l w h at way b k e v)
given s _ h at way a _ e (replayed text witness p b j acc v) =
    record { text = text; witness = witness; program = p; job_is = j; texts_are = refl; accepted = acc; shown = shown s.model p witness h at way b e v }
given s _ h at way _ _ e (checked text l p a j acc v) = absurd (not_of_log h at way a e)
given s _ h at way a kept e (migrated text old p name b k j acc v) = absurd (no_migration s.model p old name h at way b k e v)
given s _ h at way _ _ e (made n j) = absurd (not_made h at way n e)
given s _ h at way _ _ e (made_and_verified n p a j acc v) = absurd (not_made_verdict h at way n a e)
given s _ h at way _ _ e (made_and_refused n r j d) = absurd (not_refused h at way r e)

module _ (one_checked : OneChecked) (not_both : NotBoth) (plain : NamesArePlain) (one_candidate : OneCandidate)
    (unbroken : (p : Checked) (m : MemoryModel) (c : Candidate) (e : Reject) → ProgramFails p m c → IsFirstBroken p m c e → e ≡ OutOfMemory) where
  -- another answer of the same witness is the same
  same_replay : (bound : ℕ) (full : Bool) (text : List ℕ) (m : MemoryModel) (p : Checked) (w : List ℕ) (h : ℕ) (at : Place) (way : Bool) → IsAccepted bound full text p → Shown m p w h at way
      → (a : Answer) → IsReplay m p w a → a ≡ Failing h at way
  same_replay bound full text m p w h at way acc g _ (bad_witness line r) = absurd (r.none g.candidate g.spelled)
  same_replay bound full text m p w h at way acc g _ (failing c k bt b s x f) =
      let one : c ≡ g.candidate = one_candidate p.functions (cell_names p.cells) (plain bound full text p acc) w c g.candidate s g.spelled in
      same_thread c one x f
    where
      same_thread : (d : Candidate) → d ≡ g.candidate → (y : ProgramFails p m d) → FailsFirst d y.allowed.threads k bt b → Failing k bt b ≡ Failing h at way
      same_thread d one y first =
          let mine : FailsFirst g.candidate (runs_of p g.candidate.threads) h at way = subst (λ (rs : List Run). FailsFirst g.candidate rs h at way) (runs_are p g.candidate.threads g.fails.allowed.threads g.fails.allowed.whole) g.first in
          let its : FailsFirst d (runs_of p d.threads) k bt b = subst (λ (rs : List Run). FailsFirst d rs k bt b) (runs_are p d.threads y.allowed.threads y.allowed.whole) first in
          let both = one_first g.candidate (runs_of p g.candidate.threads) h k at bt way b mine (subst (λ (e : Candidate). FailsFirst e (runs_of p e.threads) k bt b) one its) in
          ap (λ (i : ℕ). Failing i bt b) both.0 ∙ ap (λ (q : Place). Failing h q b) both.1 ∙ ap (λ (z : Bool). Failing h at z) both.2
  same_replay bound full text m p w h at way acc g _ (rejected c e s b n) =
      let one : c ≡ g.candidate = one_candidate p.functions (cell_names p.cells) (plain bound full text p acc) w c g.candidate s g.spelled in
      absurd (n (unbroken p m g.candidate e g.fails (subst (λ (d : Candidate). IsFirstBroken p m d e) one b)))

  -- another answer of the same texts: the job is `replay`
  same_answer : (s : Settings) (texts : List (List ℕ)) (h : ℕ) (at : Place) (way : Bool) (a : Answer) (kept : Option Kept) → Given s texts h at way → IsAnswer s texts a kept
      → a ≡ Failing h at way
  same_answer s _ h at way _ _ g (refused text others e d) =
      let first = first_text text g.text g.witness others g.texts_are in
      absurd (not_both s.bound s.full g.text g.program e g.accepted (subst (λ (t : List ℕ). IsRefused s.bound t e) first d))
  same_answer s _ h at way a kept g (verified text p l w b k j acc v) = absurd (not_one_text text g.text g.witness g.texts_are)
  same_answer s _ h at way a _ g (replayed text witness p b j acc v) =
      let first = first_text text g.text g.witness (witness ∷ []) g.texts_are in
      let second = second_text text witness g.text g.witness g.texts_are in
      let program : p ≡ g.program = one_checked s.bound s.full g.text p g.program (subst (λ (t : List ℕ). IsAccepted s.bound s.full t p) first acc) g.accepted in
      same_replay s.bound s.full g.text s.model g.program g.witness h at way g.accepted g.shown b
      (subst (λ (w : List ℕ). IsReplay s.model g.program w b) second (subst (λ (q : Checked). IsReplay s.model q witness b) program v))
  same_answer s _ h at way _ _ g (checked text l p a j acc v) = absurd (let no : job.Check ≡ job.Replay = sym j ∙ g.job_is in cc)
  same_answer s _ h at way a kept g (migrated text old p name b k j acc v) = absurd (let no : job.Migrate name ≡ job.Replay = sym j ∙ g.job_is in cc)
  same_answer s _ h at way _ _ g (made n j) = absurd (no_text g.text (g.witness ∷ []) g.texts_are)
  same_answer s _ h at way _ _ g (made_and_verified n p a j acc v) = absurd (no_text g.text (g.witness ∷ []) g.texts_are)
  same_answer s _ h at way _ _ g (made_and_refused n e j r) = absurd (no_text g.text (g.witness ∷ []) g.texts_are)

  pub failing_alone : FailingIsAlone
  failing_alone s texts h at way a kept other x y = same_answer s texts h at way a other (given s texts h at way (Failing h at way) kept refl x) y
