-- What the settings of words are: a bound from 1 to 64, and as many files as the job reads.
use Rattle.std.proofs.Common.{◌≡◌, ℕ, ◌≤◌, List, [], ◌∷◌, Bool, true, false, Option, Some, None, Result, Ok, Err, refl, sym, subst, ap, ◌∙◌, length, take, arith}
use Rattle.std.specs.Prelude.{if◌then◌else◌, ◌==◌, codes, nat_lt, option_and_then, slice_get}
use Rattle.std.proofs.lemmas.Bool.{eqb-true, ltb-false}
use Rattle.std.proofs.lemmas.List.{length-take-le}
use Rattle.std.proofs.lemmas.Option.{same_Some}
use Rattle.dg_base.proofs.Lists.{from_option_map}
use Rattle.axiom_model.specs.declared.MemoryModel.{MemoryModel}
use Rattle.c_check.specs.WellFormed.{IsBound}
use Rattle.word_settings.specs.declared.fault.WordsFault.TheVariants as fault
use Rattle.word_settings.specs.declared.settings.Job.{Job}
use Rattle.word_settings.specs.declared.settings.Job.TheVariants as job
use Rattle.word_settings.specs.declared.settings.JobName.{JobName}
use Rattle.word_settings.specs.declared.settings.JobName.TheVariants as name
use Rattle.word_settings.specs.declared.settings.Settings.{Settings}
use Rattle.word_settings.specs.CommandLine.{faults, found}
use Rattle.word_settings.specs.Settings.{Word, clap_first, file_count, flag_in, is_unused, job_in, job_of, kept, made_number, model_in, number_of, read_count, settings_of, settled, with_job, with_names, word_count, words_in}

pub record IsSettled (s : Settings) : Type 0 where
  pub bound : IsBound s.bound
  pub files : length s.files ≡ file_count s.job

-- ---- numbers

-- a number that is kept within bounds is within them
kept_within : (low high n : ℕ) → low ≤ high → (low ≤ kept low high n) × (kept low high n ≤ high)
kept_within low high n fits = by (nat_lt n low) (nat_lt high n) refl refl
  where
    by : (below above : Bool) → nat_lt n low ≡ below → nat_lt high n ≡ above
        → (low ≤ (if below then low else (if above then high else n))) × ((if below then low else (if above then high else n)) ≤ high)
    by true above e f = (omega arith, fits)
    by false true e f = (fits, omega arith)
    by false false e f = let least = ltb-false n low e in let most = ltb-false high n f in (least, most)

-- ---- faults

-- where each fault comes first, what is answered is answered without one
no_fault : {K A E : Type 0} (answer : List K → Result A E) (named : K → E) (ks : List K) (a : A) → ((k : K) (more : List K) → answer (k ∷ more) ≡ Err (named k))
    → answer ks ≡ Ok a → answer [] ≡ Ok a
no_fault answer named [] a first e = e
no_fault answer named (k ∷ ks) a first e = let none = first k ks in absurd cc

-- ---- files

-- the files are among the words
reads_from_words : (n : JobName) → read_count n ≤ word_count n
reads_from_words name.Verify = omega arith
reads_from_words name.Replay = omega arith
reads_from_words name.Check = omega arith
reads_from_words name.Migrate = omega arith
reads_from_words name.Make = omega arith

-- ---- settings

module _ (words : List Word) (s : Settings) where
  -- a job reads as many files as one of its name
  reads_as_named : (n : JobName) (ws : List Word) (j : Job) → job_of n ws (found words) ≡ Some j → file_count j ≡ read_count n
  reads_as_named name.Verify ws j e = ap file_count (sym (same_Some _ j e))
  reads_as_named name.Replay ws j e = ap file_count (sym (same_Some job.Replay j e))
  reads_as_named name.Check ws j e = ap file_count (sym (same_Some job.Check j e))
  reads_as_named name.Migrate ws j e = let made = from_option_map job.Migrate (slice_get ws 2) j e in ap file_count (sym made.2)
  reads_as_named name.Make ws j e =
      let made = from_option_map (λ n. job.Make n (flag_in (codes "run") (found words))) (option_and_then made_number (slice_get ws 0)) j e in
      ap file_count (sym made.2)

  module _ (n : JobName) (m : MemoryModel) (ws : List Word) where
    abbrev names : List Word
    names = take (read_count n) ws

    by_job : length ws ≡ word_count n → (o : Option Job) → job_of n ws (found words) ≡ o → with_job o m names (found words) ≡ Ok s → IsSettled s
    by_job long (Some j) is e =
        let count : length names ≡ read_count n = length-take-le (read_count n) ws (let fits = reads_from_words n in omega arith) in
        let same : settled j m names (found words) ≡ s = cc in
        subst IsSettled same (record { bound = kept_within 1 64 (number_of (codes "unroll") (found words)) (omega arith); files = count ∙ sym (reads_as_named n ws j is) })
    by_job long None is e = absurd cc

    by_use : length ws ≡ word_count n → (unused : Bool) → (if unused then Err fault.Unused else with_job (job_of n ws (found words)) m names (found words)) ≡ Ok s → IsSettled s
    by_use long true e = absurd cc
    by_use long false e = by_job long (job_of n ws (found words)) refl e

    by_count : (b : Bool) → (length ws == word_count n) ≡ b
        → (if b then (if is_unused n (found words) then Err fault.Unused else with_job (job_of n ws (found words)) m names (found words)) else Err fault.Files) ≡ Ok s → IsSettled s
    by_count true same e = by_use (eqb-true (length ws) (word_count n) same) (is_unused n (found words)) e
    by_count false same e = absurd cc

  by_names : (n : Option JobName) (m : Option MemoryModel) → with_names n m (found words) ≡ Ok s → IsSettled s
  by_names (Some n) (Some m) e = by_count n m (words_in (found words)) (length (words_in (found words)) == word_count n) refl e
  by_names (Some n) None e = absurd cc
  by_names None m e = absurd cc

  pub is_settled : settings_of words ≡ Ok s → IsSettled s
  is_settled e =
      by_names (job_in (found words)) (model_in (found words)) (no_fault (λ ks. clap_first ks (found words)) fault.Clap (faults words) s (λ k more. refl) e)
