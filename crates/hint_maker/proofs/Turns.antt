-- A log whose entries get their hints in turn.
use Rattle.std.proofs.Common.{◌≡◌, inl, inr, ℕ, suc, zero, ◌<◌, ◌≤◌, ◌+◌, List, [], ◌∷◌, ◌++◌, length, map, get_or, take, Some, refl, sym, subst, ap, ◌∙◌, arith}
use Rattle.std.specs.Prelude.{All, slice_get, min}
use Rattle.dg_base.specs.declared.Lit.{Lit}
use Rattle.cnf_problem.specs.declared.problem.Problem.{Problem}
use Rattle.cnf_problem.specs.declared.problem.LemmaKind.{LemmaKind}
use Rattle.cnf_problem.specs.declared.problem.LemmaKind.TheVariants.{Unit as ByUnit, Cycle as ByCycle}
use Rattle.cnf_problem.specs.Literals.{IsOver, negated, var}
use Rattle.lemma_log.specs.declared.Entry.{Entry}
use Rattle.lemma_log.specs.declared.hints.Hint.{Hint}
use Rattle.log_checker.specs.Goodness.{IsGood, clauses_of}
use Rattle.log_checker.specs.Hints.{hints_at}
use Rattle.cnf_problem.specs.declared.problem.Lemma.{Lemma}
use Rattle.cnf_problem.specs.Problems.{Follows, FollowsBy}
use Rattle.std.specs.List.Sorted.{IsStrictlyIncreasing}
use Rattle.std.proofs.lemmas.Bool.{cases_eq}
use Rattle.std.proofs.lemmas.List.{get_or_append_left, length_push, map-append}
use Rattle.std.proofs.lemmas.List.Elements.{All-append}
use Rattle.std.proofs.lemmas.Option.{get_or_from_slice_get, slice_get-get_or, slice_get_within}
use Rattle.dg_base.proofs.Lists.{get_append_left, get_from_map, get_push_last, get_there, one_answer}
use Rattle.lemma_log.specs.Hinting.{AreHintsFor}
use Rattle.log_checker.specs.Hints.{AreRight, HintedBy, IsGoodHinted}
use Rattle.log_checker.specs.Hints.AreRight.{last as last_right, next as next_right}
use Rattle.log_checker.specs.Refusals.EntryFails.{not_implied}
use Rattle.log_checker.specs.declared.refused.Refused.TheVariants.{NotImplied}
use Rattle.log_checker.proofs.Evidence.{failing_does_not_follow, in_turn_at}
use Rattle.trail_state.specs.Trails.{TrailView, true_lits, up_to}
use Rattle.clause_store.specs.Stores.{clauses_of as stored}
use Rattle.unit_refuter.specs.Refuting.{HasOutcome, IsRaised, RefuterView}
use Rattle.unit_refuter.specs.declared.refuter.Denied.{Denied}
use Rattle.unit_refuter.specs.declared.refuter.Denied.TheVariants.{Satisfied, Conflict, Rest}
use Rattle.hint_maker.specs.Lean.{AreAllLean, AreLean}
use Rattle.hint_maker.specs.Lean.AreLean.{last, next}
use Rattle.hint_maker.specs.Walking.{IsRefuted}
use Rattle.hint_maker.proofs.Few.{denied_once, right_few}
use Rattle.hint_maker.proofs.Fronts.{in_front, taken_more}
use mathlib.Core.HLevel.{Π_prop, is_prop→PathP}
use native.Mathlib.Bridge.{le_prop}

-- the first so many entries have their hints
pub record AreHintedTo (p : Problem) (entries : List Entry) (hints : List (List Hint)) (n : ℕ) : Type 0 where
  pub long : length hints ≡ n
  pub lean : (k : ℕ) (e : Entry) → k < n → slice_get entries k ≡ Some e → e.lemma.kind ≡ ByUnit → AreLean p (clauses_of (take k entries)) (map negated e.lemma.lits) (hints_at hints k)
  pub none : (k : ℕ) (e : Entry) → k < n → slice_get entries k ≡ Some e → e.lemma.kind ≡ ByCycle → hints_at hints k ≡ []

-- ---- a refuter

-- what a denial came to, where the lemma follows by unit propagation
pub refuted : (p : Problem) (clauses : List (List Lit)) (e : Entry) (r : RefuterView) (d : Denied) → e.lemma.kind ≡ ByUnit → Follows p clauses e.lemma → HasOutcome p clauses e.lemma.lits r d → IsRefuted (stored p r.store) e.lemma.lits r.trail.entries d
refuted p clauses e r Satisfied unit follows outcome = outcome.0
refuted p clauses e r (Conflict id) unit follows outcome = outcome.0
refuted p clauses e r Rest unit follows rest = failing_does_not_follow p clauses e (NotImplied e.ticket (true_lits r.trail.entries)) (not_implied (true_lits r.trail.entries) follows.variables unit rest) follows

pub refuted_as : (p : Problem) (clauses : List (List Lit)) (e : Entry) (r : RefuterView) (d : Denied) (lits : List Lit) → lits ≡ e.lemma.lits → e.lemma.kind ≡ ByUnit → Follows p clauses e.lemma → HasOutcome p clauses lits r d
    → IsRefuted (stored p r.store) lits r.trail.entries d
refuted_as p clauses e r d lits same unit follows outcome =
    subst (λ (z : List Lit). IsRefuted (stored p r.store) z r.trail.entries d) (sym same) (refuted p clauses e r d unit follows (subst (λ (z : List Lit). HasOutcome p clauses z r d) same outcome))

-- the clauses that a refuter knows are those that it stores, and further ones
pub record IsStored (p : Problem) (clauses : List (List Lit)) (r : RefuterView) : Type 0 where
  pub further : List (List Lit)
  pub known : clauses ≡ r.store.added ++ further

pub raised_stored : (p : Problem) (clauses : List (List Lit)) (r : RefuterView) → IsRaised p clauses r → IsStored p clauses r
raised_stored p clauses r raised =
    let u : TrailView = record { vars = r.trail.vars; entries = up_to 0 r.trail.entries; taken = min r.trail.taken (length (up_to 0 r.trail.entries)) } in
    let ready = raised u (record { entries = refl; taken = refl; vars = refl }) in
    record { further = ready.further; known = ready.known }

-- their variables are the problem's
all_front : {X : Type 0} (P : X → Type 0) (xs ys : List X) → All P (xs ++ ys) → All P xs
all_front P xs ys all k d within =
    let x = get_or xs k d in
    let at = get_append_left xs ys k x (slice_get-get_or xs k d within) in
    let w = slice_get_within (xs ++ ys) k x at in
    let same : get_or (xs ++ ys) k d ≡ x = one_answer (slice_get (xs ++ ys) k) (get_or (xs ++ ys) k d) x (slice_get-get_or (xs ++ ys) k d w) at in
    subst P same (all k d w)

pub stored_over : (p : Problem) (clauses : List (List Lit)) (r : RefuterView) → IsStored p clauses r → All (All (IsOver p.vars)) clauses → All (All (IsOver p.vars)) (stored p r.store)
stored_over p clauses r s over = All-append (All (IsOver p.vars)) p.clauses r.store.added p.over.each_literal (all_front (All (IsOver p.vars)) r.store.added s.further (subst (λ z. All (All (IsOver p.vars)) z) s.known over))

pub have_room : (p : Problem) (clauses : List (List Lit)) (room : ℕ) → room ≡ p.vars + 1 → All (All (IsOver p.vars)) clauses → All (All (λ m. var m < room)) clauses
have_room p clauses room same over k d within j m there = let o = over k d within j m there in let high = o.1 in omega arith

-- ---- entries

-- an entry is what its parts are
pub same_entry : (ticket worker : ℕ) (a : Lemma) (e : Entry) → ticket ≡ e.ticket → worker ≡ e.worker → a.kind ≡ e.lemma.kind → a.lits ≡ e.lemma.lits → record { ticket = ticket; worker = worker; lemma = a } ≡ e
same_entry ticket worker a e t w k l = λ i. record {
  ticket = t i;
  worker = w i;
  lemma = record { kind = k i; lits = l i; rising = is_prop→PathP (λ j. IsStrictlyIncreasing (map var (l j))) (λ j. Π_prop (λ n. Π_prop (λ h. le_prop))) a.rising e.lemma.rising i };
}

pub hinted_none : (p : Problem) (entries : List Entry) → AreHintedTo p entries [] 0
hinted_none p entries = record { long = refl; lean = λ k e lt. absurd (omega arith); none = λ k e lt. absurd (omega arith) }

pub hinted_more : (p : Problem) (entries : List Entry) (hints : List (List Hint)) (n : ℕ) (e : Entry) (more : List Hint) → slice_get entries n ≡ Some e → AreHintedTo p entries hints n
    → (e.lemma.kind ≡ ByUnit → AreLean p (clauses_of (take n entries)) (map negated e.lemma.lits) more) → (e.lemma.kind ≡ ByCycle → more ≡ []) → AreHintedTo p entries (hints ++ more ∷ []) (n + 1)
hinted_more p entries hints n e more at so_far lean none = record {
  long = long;
  lean = λ k x lt there unit. elim (cases_eq k n) [
    | inl same ↦
        let is : x ≡ e = one_answer (slice_get entries n) x e (subst (λ j. slice_get entries j ≡ Some x) same there) at in
        let said = lean (subst (λ (y : Entry). y.lemma.kind ≡ ByUnit) is unit) in
        subst (λ (y : Entry). AreLean p (clauses_of (take k entries)) (map negated y.lemma.lits) (hints_at (hints ++ more ∷ []) k)) (sym is)
        (subst (λ j. AreLean p (clauses_of (take j entries)) (map negated e.lemma.lits) (hints_at (hints ++ more ∷ []) j)) (sym same)
        (subst (λ hs. AreLean p (clauses_of (take n entries)) (map negated e.lemma.lits) hs) (sym new) said))
    | inr other ↦ subst (λ hs. AreLean p (clauses_of (take k entries)) (map negated x.lemma.lits) hs) (sym (old k (omega arith))) (so_far.lean k x (omega arith) there unit)
  ];
  none = λ k x lt there cycle. elim (cases_eq k n) [
    | inl same ↦
        let is : x ≡ e = one_answer (slice_get entries n) x e (subst (λ j. slice_get entries j ≡ Some x) same there) at in
        ap (λ j. hints_at (hints ++ more ∷ []) j) same ∙ (new ∙ none (subst (λ (y : Entry). y.lemma.kind ≡ ByCycle) is cycle))
    | inr other ↦ old k (omega arith) ∙ so_far.none k x (omega arith) there cycle
  ];
}
  where
    long : length (hints ++ more ∷ []) ≡ n + 1
    long = length_push hints more ∙ ap (λ m. m + 1) so_far.long

    new : hints_at (hints ++ more ∷ []) n ≡ more
    new = get_or_from_slice_get (hints ++ more ∷ []) n more [] (subst (λ k. slice_get (hints ++ more ∷ []) k ≡ Some more) so_far.long (get_push_last hints more))

    old : (k : ℕ) → k < n → hints_at (hints ++ more ∷ []) k ≡ hints_at hints k
    old k lt = get_or_append_left hints (more ∷ []) [] k (omega (arith, lt, so_far.long))

pub clauses_more : (entries : List Entry) (n : ℕ) (e : Entry) → slice_get entries n ≡ Some e → clauses_of (take (n + 1) entries) ≡ clauses_of (take n entries) ++ e.lemma.lits ∷ []
clauses_more entries n e at = ap (λ z. clauses_of z) (taken_more entries n e at) ∙ map-append (λ (x : Entry). x.lemma.lits) (take n entries) (e ∷ [])

-- lean hints are right
pub lean_right : {p : Problem} {before : List (List Lit)} {set : List Lit} {hints : List Hint} → AreLean p before set hints → AreRight p before set hints
lean_right (last h right) = last_right h right.clause right.is right.false
lean_right (next h l right needed rest) = next_right h right.clause l right.is right.gives (lean_right rest)

pub whole_lean : (p : Problem) (entries : List Entry) (hints : List (List Hint)) (n : ℕ) → length entries ≤ n → AreHintedTo p entries hints n → AreAllLean p entries hints
whole_lean p entries hints n done hinted k e at unit = let w = slice_get_within entries k e at in hinted.lean k e (omega arith) at unit

pub whole_good : (p : Problem) (entries : List Entry) (hints : List (List Hint)) → IsGood p entries → AreAllLean p entries hints → IsGoodHinted p entries hints
whole_good p entries hints good lean k e at =
    let follows = in_turn_at p [] entries k e good at in
    record { variables = follows.variables; cause = by e.lemma.kind refl follows.cause }
  where
    by : (kind : LemmaKind) → e.lemma.kind ≡ kind → FollowsBy kind p (clauses_of (take k entries)) e.lemma.lits → HintedBy kind p (clauses_of (take k entries)) e.lemma.lits (hints_at hints k)
    by ByUnit unit cause = lean_right (lean k e at unit)
    by ByCycle cycle cause = cause

pub whole_matched : (p : Problem) (entries : List Entry) (hints : List (List Hint)) (n : ℕ) → length entries ≡ n → AreHintedTo p entries hints n → AreHintsFor entries hints
whole_matched p entries hints n same hinted = record {
  one_each = hinted.long ∙ sym same;
  none_for_cycles = λ k e hs at there cycle.
      let w = slice_get_within entries k e at in
      sym (get_or_from_slice_get hints k hs [] there) ∙ hinted.none k e (omega arith) at cycle;
}

-- the variables of the entries' clauses are the problem's
pub front_over : (p : Problem) (entries : List Entry) (n : ℕ) → IsGood p entries → All (All (IsOver p.vars)) (clauses_of (take n entries))
front_over p entries n good k d within =
    let clause = get_or (clauses_of (take n entries)) k d in
    let e = get_from_map (λ (x : Entry). x.lemma.lits) (take n entries) k clause (slice_get-get_or (clauses_of (take n entries)) k d within) in
    let there = in_front entries n k e.0 e.1 in
    subst (λ (z : List Lit). All (IsOver p.vars) z) e.2 (in_turn_at p [] entries k e.0 good there.1).variables

pub whole_few : (p : Problem) (entries : List Entry) (hints : List (List Hint)) (n : ℕ) → length entries ≡ n → IsGood p entries → AreHintedTo p entries hints n → All (λ hs. length hs ≤ p.vars + 1) hints
whole_few p entries hints n same good hinted k d within =
    let e = get_there entries k (omega (arith, hinted.long)) in
    let is : get_or hints k d ≡ hints_at hints k = sym (get_or_from_slice_get hints k (get_or hints k d) [] (slice_get-get_or hints k d within)) in
    subst (λ hs. length hs ≤ p.vars + 1) (sym is) (by e.0 e.1 e.0.lemma.kind refl)
  where
    by : (e : Entry) → slice_get entries k ≡ Some e → (kind : LemmaKind) → e.lemma.kind ≡ kind → length (hints_at hints k) ≤ p.vars + 1
    by e at ByUnit unit =
        let w = slice_get_within entries k e at in
        let follows = in_turn_at p [] entries k e good at in
        let few = right_few (lean_right (hinted.lean k e (omega arith) at unit)) (front_over p entries k good) (denied_once p.vars e.lemma.lits e.lemma.rising follows.variables) in
        omega (arith, few)
    by e at ByCycle cycle =
        let w = slice_get_within entries k e at in
        let none = ap (λ (hs : List Hint). length hs) (hinted.none k e (omega arith) at cycle) in
        omega (arith, none)

pub all_one : {X : Type 0} (P : X → Type 0) (x : X) → P x → All P (x ∷ [])
all_one P x h zero d within = h
all_one P x h (suc k) d within = absurd (omega arith)
