-- A good log can be written, where its workers are numbered so.
use Rattle.std.proofs.Common.{◌≡◌, ℕ, zero, suc, List, [], ◌∷◌, take, map, get_or, Some, refl, sym, subst, arith}
use Rattle.std.specs.Prelude.{All, slice_get}
use Rattle.std.proofs.lemmas.Option.{get_or_from_slice_get, slice_get-get_or, slice_get_within}
use Rattle.std.proofs.lemmas.List.Elements.{All-cons, All-nil}
use Rattle.dg_base.specs.declared.Lit.{Lit}
use Rattle.dg_base.proofs.Lists.{get_there}
use Rattle.cnf_problem.specs.declared.problem.Head.{Head}
use Rattle.cnf_problem.specs.declared.problem.LemmaKind.{LemmaKind}
use Rattle.cnf_problem.specs.declared.problem.LemmaKind.TheVariants.{Unit as ByUnit, Cycle}
use Rattle.cnf_problem.specs.declared.problem.Problem.{Problem}
use Rattle.cnf_problem.specs.Literals.{negated}
use Rattle.lemma_log.specs.Hinting.{AreHintsFor}
use Rattle.lemma_log.specs.declared.Entry.{Entry}
use Rattle.lemma_log.specs.declared.hints.AnyLog.{AnyLog}
use Rattle.lemma_log.specs.declared.hints.AnyLog.TheVariants.{Plain, Hinted}
use Rattle.lemma_log.specs.declared.hints.Hint.{Hint}
use Rattle.lemma_log.specs.declared.hints.Hint.TheVariants.{Clause, Ticket}
use Rattle.log_checker.specs.Goodness.{clauses_of}
use Rattle.log_checker.specs.Hints.{AreRight, HintedBy, IsGoodHinted, hints_at, last, named, next}
use Rattle.log_text.specs.Spelling.{AreHintsWritable, CanBePrinted, IsEntryWritable, IsHintFromOne}
use Rattle.program_log.specs.Logs.{HaveWorkers, entries_of}

from_places : {A : Type 0} (P : A → Type 0) (xs : List A) → ((k : ℕ) (x : A) → slice_get xs k ≡ Some x → P x) → All P xs
from_places P xs h k d within = h k (get_or xs k d) (slice_get-get_or xs k d within)

-- ---- entries

pub entries_can : (q : Problem) (es : List Entry) (hs : List (List Hint)) → IsGoodHinted q es hs → HaveWorkers es → All IsEntryWritable es
entries_can q es hs good workers k d within =
    let e = get_or es k d in
    record { worker = workers k d within; variables = λ i l inside. ((good k e (slice_get-get_or es k d within)).variables i l inside).0 }

pub have_workers : (head : Head) (log : AnyLog) → CanBePrinted head log → HaveWorkers (entries_of log)
have_workers head (Plain log) can k d within = (can.entries_can k d within).worker
have_workers head (Hinted h) can k d within = (can.0.entries_can k d within).worker

-- ---- hints

-- a hint that names a clause
named_from_one : (q : Problem) (before : List (List Lit)) (h : Hint) (clause : List Lit) → named q before h ≡ Some clause → IsHintFromOne h
named_from_one q before (Clause zero) clause is = cc
named_from_one q before (Clause (suc n)) clause is = omega arith
named_from_one q before (Ticket t) clause is = tt

right_from_one : (q : Problem) (before : List (List Lit)) (set : List Lit) (hs : List Hint) → AreRight q before set hs → All IsHintFromOne hs
right_from_one q before set _ (last h clause is all) = All-cons IsHintFromOne h [] (named_from_one q before h clause is) (All-nil IsHintFromOne)
right_from_one q before set _ (next {hints} h clause l is gives rest) =
    All-cons IsHintFromOne h hints (named_from_one q before h clause is) (right_from_one q before (l ∷ set) hints rest)

-- the hints of an entry, by its kind
hinted_from_one : (q : Problem) (before : List (List Lit)) (lits : List Lit) (hs : List Hint) (kind : LemmaKind) → HintedBy kind q before lits hs → (kind ≡ Cycle → hs ≡ []) → All IsHintFromOne hs
hinted_from_one q before lits hs ByUnit cause none = right_from_one q before (map negated lits) hs cause
hinted_from_one q before lits hs Cycle cause none = subst (All IsHintFromOne) (sym (none refl)) (All-nil IsHintFromOne)

each_can : (q : Problem) (es : List Entry) (hs : List (List Hint)) → AreHintsFor es hs → IsGoodHinted q es hs → (k : ℕ) (x : List Hint) → slice_get hs k ≡ Some x → All IsHintFromOne x
each_can q es hs fit good k x at =
    let long = fit.one_each in
    let inside = slice_get_within hs k x at in
    let e = get_there es k (omega arith) in
    let before = clauses_of (take k es) in
    let is : hints_at hs k ≡ x = get_or_from_slice_get hs k x [] at in
    let cause = subst (λ (z : List Hint). HintedBy e.0.lemma.kind q before e.0.lemma.lits z) is (good k e.0 e.1).cause in
    hinted_from_one q before e.0.lemma.lits x e.0.lemma.kind cause (λ c. fit.none_for_cycles k e.0 x e.1 at c)

pub hints_can : (q : Problem) (es : List Entry) (hs : List (List Hint)) → AreHintsFor es hs → IsGoodHinted q es hs → AreHintsWritable hs
hints_can q es hs fit good = from_places (All IsHintFromOne) hs (each_can q es hs fit good)
