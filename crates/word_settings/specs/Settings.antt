-- What the words of the command line ask for.
use Rattle.std.specs.Prelude.{Result, Ok, Err, ◌==◌, ◌&&◌, ◌||◌, ◌≤◌, ℕ, Bool, true, false, List, [], ◌∷◌, Option, Some, None, codes, if◌then◌else◌, is_some, length, nat_lt, option_and_then, option_map, slice_get, take, unwrap_or}
use Rattle.std.specs.Option.{option_map_or}
use Rattle.std.specs.Str.{bytes_eq}
use Rattle.std.specs.Str.Parse.{digits_value, without_leading_plus}
use Rattle.axiom_model.specs.declared.MemoryModel.{MemoryModel}
use Rattle.axiom_model.specs.declared.MemoryModel.TheVariants.{Sc, Tso, Pso}
use Rattle.clap.specs.Kinds.{Kinds}
use Rattle.clap.specs.ValueTests.{is_unsigned_in}
use Rattle.clap.specs.Walk.{Row, all_of, first_of, one_of}
use Rattle.clap.specs.declared.error.kind.ErrorKind.{ErrorKind}
use Rattle.clap.specs.declared.error.kind.ErrorKind.TheVariants as kind
use Rattle.word_settings.specs.declared.fault.WordsFault.{WordsFault}
use Rattle.word_settings.specs.declared.fault.WordsFault.TheVariants as fault
use Rattle.word_settings.specs.declared.settings.Job.{Job}
use Rattle.word_settings.specs.declared.settings.Job.TheVariants as job
use Rattle.word_settings.specs.declared.settings.JobName.{JobName}
use Rattle.word_settings.specs.declared.settings.JobName.TheVariants as name
use Rattle.word_settings.specs.declared.settings.Settings.{Settings}
use Rattle.word_settings.specs.CommandLine.{faults, found}

abbrev pub Word : Type 0
Word = List ℕ

-- ---- words

abbrev pub job_named : Word → Option JobName
job_named w =
    if bytes_eq w (codes "verify") then Some name.Verify else (
    if bytes_eq w (codes "replay") then Some name.Replay else (
    if bytes_eq w (codes "check") then Some name.Check else (
    if bytes_eq w (codes "migrate") then Some name.Migrate else (
    if bytes_eq w (codes "make") then Some name.Make else None))))

-- how many words stand behind a job's name
abbrev pub word_count : JobName → ℕ
word_count name.Verify = 1
word_count name.Replay = 2
word_count name.Check = 2
word_count name.Migrate = 3
word_count name.Make = 1

-- how many of them name files that the job reads; the third of `migrate` is kept, and that of `make` is a number
abbrev pub read_count : JobName → ℕ
read_count name.Verify = 1
read_count name.Replay = 2
read_count name.Check = 2
read_count name.Migrate = 2
read_count name.Make = 0

abbrev pub model_named : Word → Option MemoryModel
model_named w = if bytes_eq w (codes "sc") then Some Sc else (if bytes_eq w (codes "tso") then Some Tso else (if bytes_eq w (codes "pso") then Some Pso else None))

-- a number in decimal digits, below 2^32; a word that is none counts as 0
abbrev pub number_named : Word → ℕ
number_named w = if is_unsigned_in 0 4294967295 w then digits_value 10 (without_leading_plus w) else 0

-- the first character is no zero and no plus
abbrev pub is_plain : Word → Bool
is_plain w = option_map_or (λ c. nat_lt 48 c) (slice_get w 0) false

-- the number of a made program, from 1 to 16, with nothing in front
abbrev pub made_number : Word → Option ℕ
made_number w =
    let n = number_named w in
    if is_plain w && nat_lt 0 n && nat_lt n 17 then Some n else None

-- ---- what clap found

abbrev pub job_in : List Row → Option JobName
job_in rows = option_and_then job_named (first_of (codes "JOB") rows)

-- the words behind the job's name
abbrev pub words_in : List Row → List Word
words_in rows = unwrap_or (all_of (codes "WORDS") rows) []

abbrev pub model_in : List Row → Option MemoryModel
model_in rows = option_and_then model_named (first_of (codes "model") rows)

-- a number within bounds; clap lets none through that is not
abbrev pub kept : ℕ → ℕ → ℕ → ℕ
kept low high n = if nat_lt n low then low else (if nat_lt high n then high else n)

-- the number that an option has
abbrev pub number_of : Word → List Row → ℕ
number_of name rows = option_map_or number_named (one_of name rows) 0

abbrev pub number_in : Word → ℕ → ℕ → List Row → ℕ
number_in name low high rows = kept low high (number_of name rows)

-- whether an option with no value is given
abbrev pub flag_in : Word → List Row → Bool
flag_in name rows = option_map_or (λ w. bytes_eq w (codes "true")) (first_of name rows) false

-- a file to keep is named
abbrev pub is_keeping : List Row → Bool
is_keeping rows = is_some (first_of (codes "log") rows) || is_some (first_of (codes "witness") rows)

-- ---- settings

-- an option is given that the job does not use
abbrev pub is_unused : JobName → List Row → Bool
is_unused name.Verify rows = flag_in (codes "run") rows
is_unused name.Make rows = is_keeping rows
is_unused name.Replay rows = is_keeping rows || flag_in (codes "run") rows
is_unused name.Check rows = is_keeping rows || flag_in (codes "run") rows
is_unused name.Migrate rows = is_keeping rows || flag_in (codes "run") rows

-- the job with what it alone asks for; none where a number is wanted and the word is none
abbrev pub job_of : JobName → List Word → List Row → Option Job
job_of name.Verify ws rows = Some (job.Verify (first_of (codes "log") rows) (first_of (codes "witness") rows))
job_of name.Replay ws rows = Some job.Replay
job_of name.Check ws rows = Some job.Check
job_of name.Migrate ws rows = option_map job.Migrate (slice_get ws 2)
job_of name.Make ws rows = option_map (λ n. job.Make n (flag_in (codes "run") rows)) (option_and_then made_number (slice_get ws 0))

abbrev pub settled : Job → MemoryModel → List Word → List Row → Settings
settled j m files rows = record {
  job = j;
  model = m;
  bound = number_in (codes "unroll") 1 64 rows;
  workers = number_in (codes "workers") 1 16 rows;
  budget = number_in (codes "budget") 1 1000000 rows;
  share = number_in (codes "share") 0 1048576 rows;
  full = flag_in (codes "full") rows;
  files = files;
}

abbrev pub with_job : Option Job → MemoryModel → List Word → List Row → Result Settings WordsFault
with_job (Some j) m files rows = Ok (settled j m files rows)
with_job None m files rows = Err fault.Number

-- the words are as many as the job has, no option is given that it does not use, and a number is one
abbrev pub with_words : JobName → MemoryModel → List Word → List Row → Result Settings WordsFault
with_words n m ws rows =
    if length ws == word_count n
    then (if is_unused n rows then Err fault.Unused else with_job (job_of n ws rows) m (take (read_count n) ws) rows)
    else Err fault.Files

-- a job and a model have one of their names
abbrev pub with_names : Option JobName → Option MemoryModel → List Row → Result Settings WordsFault
with_names (Some n) (Some m) rows = with_words n m (words_in rows) rows
with_names (Some n) None rows = Err (fault.Clap kind.InvalidValue)
with_names None m rows = Err (fault.Clap kind.InvalidValue)

abbrev pub settings_in : List Row → Result Settings WordsFault
settings_in rows = with_names (job_in rows) (model_in rows) rows

abbrev pub clap_first : Kinds → List Row → Result Settings WordsFault
clap_first [] rows = settings_in rows
clap_first (k ∷ ks) rows = Err (fault.Clap k)

-- the settings that the words ask for, or the first fault: clap's, a name that is none, the number of words, an option that the job
-- does not use, a number that is none
abbrev pub settings_of : List Word → Result Settings WordsFault
settings_of words = clap_first (faults words) (found words)

-- how many files a job reads: the program; and a witness, or a log
abbrev pub file_count : Job → ℕ
file_count (job.Verify log witness) = 1
file_count job.Replay = 2
file_count job.Check = 2
file_count (job.Migrate new) = 2
file_count (job.Make number run) = 0

-- a made program has a number from 1 to 16
abbrev pub IsNumbered : Job → Type 0
IsNumbered (job.Verify log witness) = Unit {0}
IsNumbered job.Replay = Unit {0}
IsNumbered job.Check = Unit {0}
IsNumbered (job.Migrate new) = Unit {0}
IsNumbered (job.Make number run) = (1 ≤ number) × (number ≤ 16)

-- ---- names of faults

abbrev pub kind_name : ErrorKind → List ℕ
kind_name kind.InvalidValue = codes "InvalidValue"
kind_name kind.UnknownArgument = codes "UnknownArgument"
kind_name kind.InvalidSubcommand = codes "InvalidSubcommand"
kind_name kind.NoEquals = codes "NoEquals"
kind_name kind.ValueValidation = codes "ValueValidation"
kind_name kind.TooManyValues = codes "TooManyValues"
kind_name kind.TooFewValues = codes "TooFewValues"
kind_name kind.WrongNumberOfValues = codes "WrongNumberOfValues"
kind_name kind.ArgumentConflict = codes "ArgumentConflict"
kind_name kind.MissingRequiredArgument = codes "MissingRequiredArgument"
kind_name kind.MissingSubcommand = codes "MissingSubcommand"
kind_name kind.DisplayHelp = codes "DisplayHelp"
kind_name kind.DisplayHelpOnMissingArgumentOrSubcommand = codes "DisplayHelpOnMissingArgumentOrSubcommand"
kind_name kind.DisplayVersion = codes "DisplayVersion"
kind_name kind.Io = codes "Io"
kind_name kind.Format = codes "Format"
kind_name kind.OutOfMemory = codes "OutOfMemory"

abbrev pub fault_name : WordsFault → List ℕ
fault_name (fault.Clap k) = kind_name k
fault_name fault.Files = codes "Files"
fault_name fault.Unused = codes "Unused"
fault_name fault.Number = codes "Number"
fault_name fault.OutOfMemory = codes "OutOfMemory"
