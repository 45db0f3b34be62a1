-- Which answers of a job there are, and what follows for the status and for what is kept.
use Rattle.std.proofs.Common.{arith, ◌≡◌, ◌≢◌, ◌≤◌, ℕ, true, false, List, [], ◌∷◌, Option, Some, None, Result, Ok, Err, refl, sym, subst, ◌∙◌}
use Rattle.std.specs.Prelude.{Contains, IfSome, IsErr, option_map, string_bytes}
use Rattle.std.proofs.lemmas.Option.{IfSome_then}
use Rattle.dg_base.proofs.Lists.{contains_head, contains_nothing, contains_tail}
use Rattle.axiom_model.specs.declared.MemoryModel.{MemoryModel}
use Rattle.c_check.specs.declared.checked.Checked.{Checked}
use Rattle.program_log.specs.declared.answers.LogAnswer.{LogAnswer}
use Rattle.program_log.specs.declared.answers.LogAnswer.TheVariants as log
use Rattle.program_verdict.specs.declared.Effort.{Effort}
use Rattle.word_settings.specs.declared.fault.WordsFault.{WordsFault}
use Rattle.word_settings.specs.declared.settings.Job.{Job}
use Rattle.word_settings.specs.declared.settings.Job.TheVariants as job
use Rattle.word_settings.specs.declared.settings.Settings.{Settings}
use Rattle.word_settings.specs.Settings.{Word}
use Rattle.dg_top.specs.declared.reply.Keeping.{Keeping}
use Rattle.dg_top.specs.declared.reply.Reply.{Reply}
use Rattle.dg_top.specs.LogLines.{log_status}
use Rattle.dg_top.specs.Answers.{Answer, BadWords, IsAnswer, IsMigrated, IsReplay, IsVerdict, Kept, KeepsIn, LongFile, bad_witness, bytes, checked, effort_of, failing, made, made_and_refused, made_and_verified, migrated, nothing, refused, rejected, replayed, safe, status_of, unknown, unsafe, verdict_word, verified}
use Rattle.dg_top.specs.Replies.{IsOneOf, KeepsAmong, Spells, kept_names, kept_of}
use Rattle.dg_top.proofs.Outcomes.{none_of_map}

-- ---- statuses

log_status_known : (a : LogAnswer) → log_status a ≢ 3
log_status_known (log.Accepted n) = λ e. cc
log_status_known (log.OtherProblem line theirs ours) = λ e. cc
log_status_known (log.Refused why) = λ e. cc
log_status_known (log.BadLog line) = λ e. cc

module _ (m : MemoryModel) (p : Checked) where
  -- a verdict, or what is said of a witness or of a log, is never told with status 3
  verdict_status : (e : Effort) (log witness : Option Word) (a : Answer) (kept : Option Kept) → IsVerdict m e p log witness a kept → status_of a ≤ 2
  verdict_status e log witness _ _ (safe kept n k) = omega arith
  verdict_status e log witness _ _ (unsafe c w h at b kept s x f k) = omega arith
  verdict_status e log witness _ _ (unknown reports kept u k) = omega arith

  replay_status : (w : List ℕ) (a : Answer) → IsReplay m p w a → status_of a ≢ 3
  replay_status w _ (bad_witness line r) = λ e. cc
  replay_status w _ (failing c h at b s x f) = λ e. cc
  replay_status w _ (rejected c e s b n) = λ e. cc

  migrated_status : (old : List ℕ) (name : Word) (a : Answer) (kept : Option Kept) → IsMigrated m p old name a kept → status_of a ≢ 3
  migrated_status old name _ _ (migrated n new i) = λ e. cc
  migrated_status old name _ _ (refused a i) = log_status_known a

answer_status : (s : Settings) (texts : List (List ℕ)) (a : Answer) (kept : Option Kept) → IsAnswer s texts a kept → status_of a ≢ 3
answer_status s _ _ _ (refused text others e r) = λ e. cc
answer_status s _ a kept (verified text p l w b k j acc v) = λ e. let low : status_of b ≤ 2 = verdict_status s.model p (effort_of s) l w b k v in omega arith
answer_status s _ a _ (replayed text witness p b j acc v) = replay_status s.model p witness b v
answer_status s _ _ _ (checked text l p a j acc v) = log_status_known a
answer_status s _ a kept (migrated text old p name b k j acc v) = migrated_status s.model p old name b k v
answer_status s _ _ _ (made n j) = λ e. cc
answer_status s _ _ _ (made_and_verified n p a j acc v) = λ e. let low : status_of a ≤ 2 = verdict_status s.model p (effort_of s) None None a None v in omega arith
answer_status s _ _ _ (made_and_refused n e j r) = λ e. cc

-- a reply with an answer of a job's texts
pub one_status : (s : Settings) (texts : List (List ℕ)) (r : Reply) → IsOneOf (IsAnswer s texts) r → r.status ≢ 3
one_status s texts r o = λ e. answer_status s texts o.answer o.kept o.allowed (sym o.spelled.status ∙ e)

pub long_status : (name : Word) (r : Reply) → Spells (LongFile name) None r → r.status ≢ 3
long_status name r spelled = λ e. let four : r.status ≡ 4 = spelled.status in omega arith

pub bad_status : (e : WordsFault) (r : Reply) → Spells (BadWords e) None r → r.status ≡ 3
bad_status e r spelled = spelled.status

-- ---- what is kept

-- what is kept has the name that was given
is_the_name : (P : List ℕ → Type 0) (file : Option Word) (kept : Option Kept) → KeepsIn P file kept → IfSome kept (λ k. file ≡ Some k.name)
is_the_name P _ _ nothing = tt
is_the_name P _ _ (bytes name text p) = refl

-- where no name is given, nothing is kept
no_name_no_file : (P : List ℕ → Type 0) (file : Option Word) (kept : Option Kept) → KeepsIn P file kept → file ≡ None → kept ≡ None
no_name_no_file P _ _ nothing e = refl
no_name_no_file P _ _ (bytes name text p) e = absurd (let no : Some name ≡ None = e in cc)

-- a name that is given for the log, or for the witness, is among those of the files to keep
log_is_kept : (log witness : Option Word) (name : Word) → log ≡ Some name → Contains (kept_names (job.Verify log witness)) name
log_is_kept None witness name e = absurd (let no : ◌≡◌ {A = Option Word} None (Some name) = e in cc)
log_is_kept (Some x) None name e = let same : name ≡ x = cc in subst (λ (w : Word). Contains (w ∷ []) name) same (contains_head name [])
log_is_kept (Some x) (Some y) name e = let same : name ≡ x = cc in subst (λ (w : Word). Contains (w ∷ y ∷ []) name) same (contains_head name (y ∷ []))

witness_is_kept : (log witness : Option Word) (name : Word) → witness ≡ Some name → Contains (kept_names (job.Verify log witness)) name
witness_is_kept log None name e = absurd (let no : ◌≡◌ {A = Option Word} None (Some name) = e in cc)
witness_is_kept None (Some y) name e = let same : name ≡ y = cc in subst (λ (w : Word). Contains (w ∷ []) name) same (contains_head name [])
witness_is_kept (Some x) (Some y) name e = let same : name ≡ y = cc in contains_tail x name (y ∷ []) (subst (λ (w : Word). Contains (w ∷ []) name) same (contains_head name []))

-- what an answer with such a status keeps has one of these names, and a refusal keeps nothing
record Keeps (names : List Word) (status : ℕ) (kept : Option Kept) : Type 0 where
  unless_refused : 3 ≤ status → kept ≡ None
  named : IfSome kept (λ k. Contains names k.name)

keeps_nothing : (names : List Word) (status : ℕ) → Keeps names status None
keeps_nothing names status = record { unless_refused = λ e. refl; named = tt }

verdict_keeps : (m : MemoryModel) (p : Checked) (e : Effort) (log witness : Option Word) (a : Answer) (kept : Option Kept) → IsVerdict m e p log witness a kept
    → Keeps (kept_names (job.Verify log witness)) (status_of a) kept
verdict_keeps m p e log witness a kept v = record {
  unless_refused = λ high. let low : status_of a ≤ 2 = verdict_status m p e log witness a kept v in absurd (omega arith);
  named = name_of a kept v;
}
  where
    name_of : (a : Answer) (kept : Option Kept) → IsVerdict m e p log witness a kept → IfSome kept (λ k. Contains (kept_names (job.Verify log witness)) k.name)
    name_of _ _ (safe kept n k) = IfSome_then kept (is_the_name _ log kept k) (λ k. log_is_kept log witness k.name)
    name_of _ _ (unsafe c w h at b kept s x f k) = IfSome_then kept (is_the_name _ witness kept k) (λ k. witness_is_kept log witness k.name)
    name_of _ _ (unknown reports kept u k) = IfSome_then kept (is_the_name _ log kept k) (λ k. log_is_kept log witness k.name)

migrated_keeps : (m : MemoryModel) (p : Checked) (old : List ℕ) (name : Word) (a : Answer) (kept : Option Kept) → IsMigrated m p old name a kept
    → Keeps (kept_names (job.Migrate name)) (status_of a) kept
migrated_keeps m p old name _ _ (migrated n new i) = record { unless_refused = λ high. absurd (omega arith); named = contains_head name [] }
migrated_keeps m p old name _ _ (refused a i) = keeps_nothing (name ∷ []) (log_status a)

answer_keeps : (s : Settings) (texts : List (List ℕ)) (a : Answer) (kept : Option Kept) → IsAnswer s texts a kept → Keeps (kept_names s.job) (status_of a) kept
answer_keeps s _ _ _ (refused text others e r) = keeps_nothing (kept_names s.job) 4
answer_keeps s _ a kept (verified text p l w b k j acc v) =
    subst (λ (j : Job). Keeps (kept_names j) (status_of b) k) (sym j) (verdict_keeps s.model p (effort_of s) l w b k v)
answer_keeps s _ a _ (replayed text witness p b j acc v) = keeps_nothing (kept_names s.job) (status_of b)
answer_keeps s _ _ _ (checked text l p a j acc v) = keeps_nothing (kept_names s.job) (log_status a)
answer_keeps s _ a kept (migrated text old p name b k j acc v) =
    subst (λ (j : Job). Keeps (kept_names j) (status_of b) k) (sym j) (migrated_keeps s.model p old name b k v)
answer_keeps s _ _ _ (made n j) = keeps_nothing (kept_names s.job) 0
answer_keeps s _ _ _ (made_and_verified n p a j acc v) = keeps_nothing (kept_names s.job) (status_of a)
answer_keeps s _ _ _ (made_and_refused n e j r) = keeps_nothing (kept_names s.job) 4

-- a reply keeps what its answer does
spelled_keeps : (names : List Word) (a : Answer) (kept : Option Kept) (r : Reply) → Spells a kept r → Keeps names (status_of a) kept → KeepsAmong names r
spelled_keeps names a kept r spelled k = record {
  unless_refused = λ high. none_of_map kept_of r.kept (spelled.keeps ∙ k.unless_refused (subst (λ (n : ℕ). 3 ≤ n) spelled.status high));
  named = of_map r.kept (subst (λ o. IfSome o (λ (x : Kept). Contains names x.name)) (sym spelled.keeps) k.named);
}
  where
    of_map : (o : Option Keeping) → IfSome (option_map kept_of o) (λ (x : Kept). Contains names x.name) → IfSome o (λ x. Contains names (string_bytes x.name))
    of_map None h = tt
    of_map (Some x) h = h

pub one_keeps : (s : Settings) (texts : List (List ℕ)) (r : Reply) → IsOneOf (IsAnswer s texts) r → KeepsAmong (kept_names s.job) r
one_keeps s texts r o = spelled_keeps (kept_names s.job) o.answer o.kept r o.spelled (answer_keeps s texts o.answer o.kept o.allowed)

pub long_keeps : (names : List Word) (name : Word) (r : Reply) → Spells (LongFile name) None r → KeepsAmong names r
long_keeps names name r spelled = spelled_keeps names (LongFile name) None r spelled (keeps_nothing names 4)

pub bad_keeps : (names : List Word) (e : WordsFault) (r : Reply) → Spells (BadWords e) None r → KeepsAmong names r
bad_keeps names e r spelled = spelled_keeps names (BadWords e) None r spelled (keeps_nothing names 3)

-- without a name nothing is kept
pub keeps_none : (r : Reply) → KeepsAmong [] r → r.kept ≡ None
keeps_none r k = none_in r.kept k.named
  where
    none_in : (o : Option Keeping) → IfSome o (λ x. Contains [] (string_bytes x.name)) → o ≡ None
    none_in None h = refl
    none_in (Some x) h = absurd (contains_nothing (string_bytes x.name) h)

-- ---- the verdict of a made program

-- a verdict has a first word
pub has_word : (m : MemoryModel) (p : Checked) (e : Effort) (log witness : Option Word) (a : Answer) (kept : Option Kept) → IsVerdict m e p log witness a kept → verdict_word a ≢ []
has_word m p e log witness _ _ (safe kept n k) = λ e. cc
has_word m p e log witness _ _ (unsafe c w h at b kept s x f k) = λ e. cc
has_word m p e log witness _ _ (unknown reports kept u k) = λ e. cc

-- with no file named, it keeps nothing
pub nothing_named : (m : MemoryModel) (p : Checked) (e : Effort) (a : Answer) (kept : Option Kept) → IsVerdict m e p None None a kept → IsVerdict m e p None None a None
nothing_named m p e a kept v = subst (λ (k : Option Kept). IsVerdict m e p None None a k) (none_kept a kept v) v
  where
    none_kept : (a : Answer) (kept : Option Kept) → IsVerdict m e p None None a kept → kept ≡ None
    none_kept _ _ (safe kept n k) = no_name_no_file _ None kept k refl
    none_kept _ _ (unsafe c w h at b kept s x f k) = no_name_no_file _ None kept k refl
    none_kept _ _ (unknown reports kept u k) = no_name_no_file _ None kept k refl

-- ---- the words

-- words with settings are no fault
pub no_fault : {T E : Type 0} (r : Result T E) (x : T) → r ≡ Ok x → IsErr r → ⊥
no_fault (Ok y) x e f = let no : false ≡ true = f in cc
no_fault (Err y) x e f = let no : Err y ≡ Ok x = e in cc

pub is_fault : {T E : Type 0} (r : Result T E) (x : E) → r ≡ Err x → IsErr r
is_fault (Ok y) x e = absurd (let no : Ok y ≡ Err x = e in cc)
is_fault (Err y) x e = refl
