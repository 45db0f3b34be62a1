-- From clap's answer to what the words ask for.
use Rattle.std.proofs.Common.{◌≡◌, ◌∙◌, List, [], ◌∷◌, Result, Ok, Err, IfOk, IfErr, refl, sym, ap}
use Rattle.std.specs.Result.{IsErrAnd}
use Rattle.axiom_model.specs.declared.MemoryModel.{MemoryModel}
use Rattle.clap.specs.Walk.{Row}
use Rattle.clap.specs.declared.error.kind.ErrorKind.{ErrorKind}
use Rattle.word_settings.specs.declared.fault.WordsFault.TheVariants as fault
use Rattle.word_settings.specs.CommandLine.{faults, found}
use Rattle.word_settings.specs.declared.settings.JobName.{JobName}
use Rattle.word_settings.specs.declared.settings.JobName.TheVariants as name
use Rattle.word_settings.specs.Settings.{Word, clap_first, settings_in, settings_of, with_words}

pub asked : (ws vs : List Word) (rows : List Row) → vs ≡ ws → faults vs ≡ [] → rows ≡ found vs → settings_of ws ≡ settings_in rows
asked ws vs rows same none taken = ap settings_of (sym same) ∙ (ap (λ ks. clap_first ks (found vs)) none ∙ ap settings_in (sym taken))

pub refused : (ws vs : List Word) (k : ErrorKind) → vs ≡ ws → faults vs ≡ k ∷ [] → settings_of ws ≡ Err (fault.Clap k)
refused ws vs k same one = ap settings_of (sym same) ∙ ap (λ ks. clap_first ks (found vs)) one

-- each job has a word behind it
pub no_words : (n : JobName) (m : MemoryModel) (rows : List Row) → with_words n m [] rows ≡ Err fault.Files
no_words name.Verify m rows = refl
no_words name.Replay m rows = refl
no_words name.Check m rows = refl
no_words name.Migrate m rows = refl
no_words name.Make m rows = refl

pub refused_by : {T E : Type 0} (r : Result T E) (P Q : E → Type 0) → IsErrAnd r P → ((e : E) → P e → Q e) → IfErr r Q
refused_by (Ok x) P Q none f = tt
refused_by (Err e) P Q holds f = f e holds

pub never_ok : {T E : Type 0} (r : Result T E) (P : E → Type 0) (Q : T → Type 0) → IsErrAnd r P → IfOk r Q
never_ok (Ok x) P Q none = absurd none
never_ok (Err e) P Q holds = tt
