-- What holds of all logs.
use Rattle.std.specs.Prelude.{◌≡◌, ℕ, List, map}
use Rattle.dg_base.specs.declared.Lit.{Lit}
use Rattle.cnf_problem.specs.declared.problem.Problem.{Problem}
use Rattle.cnf_problem.specs.declared.problem.Lemma.{Lemma}
use Rattle.cnf_problem.specs.declared.problem.LemmaKind.TheVariants.{Unit as ByUnit}
use Rattle.cnf_problem.specs.Literals.{negated}
use Rattle.cnf_problem.specs.Problems.{Follows}
use Rattle.lemma_log.specs.declared.Entry.{Entry}
use Rattle.lemma_log.specs.declared.hints.Hint.{Hint}
use Rattle.log_checker.specs.declared.refused.Refused.{Refused}
use Rattle.log_checker.specs.Goodness.{EndsEmpty, IsGood}
use Rattle.log_checker.specs.Hints.{AreRight, FollowsHinted, GoesWrong, IsGoodHinted}
use Rattle.log_checker.specs.Refusals.{EntryFails, Fails, HintedFails}

-- the evidence is enough: an entry that fails doesn't follow
abbrev pub FailingDoesNotFollow : Type 0
FailingDoesNotFollow = (p : Problem) (before : List (List Lit)) (e : Entry) (r : Refused) → EntryFails p before e r → ¬ Follows p before e.lemma

-- so a log with a refusal isn't a good one that ends in the empty clause
abbrev pub RefusedIsNotGood : Type 0
RefusedIsNotGood = (p : Problem) (entries : List Entry) (r : Refused) → Fails p entries r → IsGood p entries → ¬ EndsEmpty entries

abbrev pub HintedRefusedIsNotGood : Type 0
HintedRefusedIsNotGood = (p : Problem) (entries : List Entry) (hints : List (List Hint)) (r : Refused) → HintedFails p entries hints r → IsGoodHinted p entries hints → ¬ EndsEmpty entries

-- an entry with right hints follows, so a good hinted log is good
abbrev pub HintedFollows : Type 0
HintedFollows = (p : Problem) (before : List (List Lit)) (e : Entry) (hints : List Hint) → FollowsHinted p before e hints → Follows p before e.lemma

abbrev pub GoodHintedIsGood : Type 0
GoodHintedIsGood = (p : Problem) (entries : List Entry) (hints : List (List Hint)) → IsGoodHinted p entries hints → IsGood p entries

-- what follows by unit propagation has right hints
abbrev pub FollowingHasHints : Type 0
FollowingHasHints =
    (p : Problem) (before : List (List Lit)) (lemma : Lemma) → lemma.kind ≡ ByUnit → Follows p before lemma → (hints : List Hint) × AreRight p before (map negated lemma.lits) hints

-- hints are right, or go wrong at one position
abbrev pub WrongIsNotRight : Type 0
WrongIsNotRight = (p : Problem) (before : List (List Lit)) (set : List Lit) (hints : List Hint) (n : ℕ) → GoesWrong p before set hints n → ¬ AreRight p before set hints

abbrev pub OneWrongPosition : Type 0
OneWrongPosition = (p : Problem) (before : List (List Lit)) (set : List Lit) (hints : List Hint) (n m : ℕ) → GoesWrong p before set hints n → GoesWrong p before set hints m → n ≡ m
