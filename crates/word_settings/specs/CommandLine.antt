-- The command line as clap reads it: a job, its words, and options.
use Rattle.std.specs.Prelude.{ℕ, true, pos, List, [], ◌∷◌, Some, codes}
use Rattle.clap.specs.Lexer.{usize_max}
use Rattle.clap.specs.Faults.{fault_of}
use Rattle.clap.specs.Kinds.{Kinds}
use Rattle.clap.specs.Simple.{App, matches_of, new_app, new_rule, on_top, with_rule}
use Rattle.clap.specs.Walk.{Row, Rule, Text}
use Rattle.clap.specs.declared.builder.action.ArgAction.TheVariants.{Append, Set, SetTrue}
use Rattle.clap.specs.declared.builder.value_parser.ValueParser.TheVariants.{Signed}

-- a word that must be there
abbrev pub job_rule : Rule
job_rule = record (new_rule (codes "JOB")) { required = true; action = Some Set }

-- all further words
abbrev pub words_rule : Rule
words_rule = record (new_rule (codes "WORDS")) { action = Some Append; range = Some (record { start_inclusive = 1; end_inclusive = usize_max }) }

-- an option with a value, and the value that it has where it is not given
abbrev pub option_rule : Text → Text → Rule
option_rule name value = record (new_rule name) { long = Some name; action = Some Set; defaults = value ∷ [] }

-- the same, where the value is a number from `low` to `high`
abbrev pub number_rule : Text → Text → ℕ → ℕ → Rule
number_rule name value low high = record (option_rule name value) { parser = Some (Signed (pos low) (pos high)) }

-- an option with a value, and none where it is not given
abbrev pub name_rule : Text → Rule
name_rule name = record (new_rule name) { long = Some name; action = Some Set }

-- an option with no value
abbrev pub flag_rule : Text → Rule
flag_rule name = record (new_rule name) { long = Some name; action = Some SetTrue }

abbrev pub rules : List Rule
rules =
    job_rule
    ∷ words_rule
    ∷ option_rule (codes "model") (codes "sc")
    ∷ number_rule (codes "unroll") (codes "2") 1 64
    ∷ number_rule (codes "workers") (codes "4") 1 16
    ∷ number_rule (codes "budget") (codes "20000") 1 1000000
    ∷ number_rule (codes "share") (codes "65536") 0 1048576
    ∷ flag_rule (codes "full")
    ∷ name_rule (codes "log")
    ∷ name_rule (codes "witness")
    ∷ flag_rule (codes "run")
    ∷ []

abbrev pub with_rules : List Rule → App → App
with_rules [] a = a
with_rules (r ∷ rs) a = with_rules rs (with_rule a r)

-- no help, no version, no subcommand
abbrev pub bare_app : App
bare_app = on_top (λ s. record s { disable_help_flag = true }) (new_app (codes "deagle"))

-- the command
unfoldable pub deagle : App
deagle = with_rules rules bare_app

-- what clap finds in the words, where it takes them
unfoldable pub found : List Text → List Row
found words = matches_of deagle words

-- the kind of clap's fault with the words; none where it takes them
unfoldable pub faults : List Text → Kinds
faults words = fault_of deagle words
