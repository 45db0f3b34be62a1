-- The evidence of a refusal suffices.
use Rattle.std.proofs.Common.{◌≡◌, ℕ, zero, suc, ◌<◌, ◌≤◌, List, [], ◌∷◌, ◌++◌, map, take, length, Some, refl, sym, subst, ap, append-nil, append_assoc, arith}
use Rattle.std.specs.Prelude.{Contains, slice_get, All}
use Rattle.std.proofs.lemmas.List.Elements.{All-contains}
use Rattle.axiom_model.specs.Sorting.{GoesForward, IsOrderOf}
use Rattle.dg_base.specs.declared.Lit.{Lit}
use Rattle.cnf_problem.specs.declared.problem.Graph.{Graph}
use Rattle.cnf_problem.specs.declared.problem.Graph.TheVariants.{Local, Global}
use Rattle.cnf_problem.specs.declared.problem.Problem.{Problem}
use Rattle.cnf_problem.specs.Literals.{IsOver, negated}
use Rattle.cnf_problem.specs.Chains.{ReachesConflict}
use Rattle.cnf_problem.specs.Edges.{EdgeIn, IsCyclic, Path}
use Rattle.cnf_problem.specs.Edges.Path.{last, then}
use Rattle.cnf_problem.specs.Laws.{IsWithin}
use Rattle.cnf_problem.specs.Problems.{FollowInTurn, Follows, FollowsBy}
use Rattle.cnf_problem.proofs.ChainLaws.{fixpoint_no_conflict}
use Rattle.dg_base.proofs.Lists.{contains_place, get_there, contains_from_map}
use Rattle.cnf_problem.proofs.LemmaLaws.{in_turn_push}
use Rattle.cnf_problem.specs.declared.problem.Lemma.{Lemma}
use Rattle.lemma_log.specs.declared.Entry.{Entry}
use Rattle.lemma_log.specs.declared.hints.Hint.{Hint}
use Rattle.log_checker.specs.declared.refused.Refused.{Refused}
use Rattle.log_checker.specs.Goodness.{IsGood, clauses_of, lemmas_of}
use Rattle.log_checker.specs.Hints.{FollowsHinted, HintedBy, IsGoodHinted, hints_at}
use Rattle.log_checker.specs.Refusals.{HintedEntryFails, IsBadNumber, IsOrder}
use Rattle.unit_refuter.specs.Refuting.{IsRest}
use Rattle.log_checker.specs.Graphs.{IsDenied}
use Rattle.log_checker.specs.Refusals.EntryFails.{bad_number, not_implied, no_cycle}
use Rattle.log_checker.specs.Refusals.HintedEntryFails.{bad_number as hinted_number, bad_hint, no_cycle as hinted_cycle}
use Rattle.log_checker.specs.Refusals.Fails.{entry_fails, no_empty}
use Rattle.log_checker.specs.Refusals.HintedFails.{entry_fails as hinted_entry, no_empty as hinted_empty}
use Rattle.log_checker.specs.Laws.{FailingDoesNotFollow, GoodHintedIsGood, HintedRefusedIsNotGood, RefusedIsNotGood}
use Rattle.log_checker.proofs.HintLaws.{hinted_follows, wrong_is_not_right}

-- along a path the order goes forward
path_forward : (nodes : ℕ) (order : List ℕ) (E : ℕ → ℕ → Type 0) {x y : ℕ} → IsOrderOf nodes order → ((a b : ℕ) → E a b → GoesForward order (a, b)) → Path E x y → GoesForward order (x, y)
path_forward nodes order E {x = x} {y = y} is forward (last e) = forward x y e
path_forward nodes order E {x = x} {y = y} is forward (then {y = z} e rest) =
    let first = forward x z e in
    let more = path_forward nodes order E is forward rest in
    let same = is.once first.1 more.0 z first.4 more.3 in
    let less = first.2 in
    let less_more = more.2 in
    (first.0, more.1, omega (arith, same, less, less_more), first.3, more.4)

no_cycle_in : (nodes : ℕ) (order : List ℕ) (E : ℕ → ℕ → Type 0) (n : ℕ) → IsOrderOf nodes order → ((a b : ℕ) → E a b → GoesForward order (a, b)) → Path E n n → ⊥
no_cycle_in nodes order E n is forward path =
    let f = path_forward nodes order E is forward path in
    let same = is.once f.0 f.1 n f.3 f.4 in
    let less = f.2 in
    absurd (omega (arith, same, less))

rest_within : (clauses : List (List Lit)) (lits reached : List Lit) → IsRest clauses lits reached → IsWithin (map negated lits) reached
rest_within clauses lits reached rest y c =
    let m = contains_from_map negated lits y c in
    subst (λ z. Contains reached z) (sym m.2) (rest.negations m.0 m.1)

-- a variable that the problem doesn't have
number_bad : (p : Problem) (lits : List Lit) (v : ℕ) → IsBadNumber p.vars lits v → All (IsOver p.vars) lits → ⊥
number_bad p lits v bad over =
    bad.bad (All-contains (IsOver p.vars) lits bad.literal over (contains_place lits bad.place bad.literal bad.there))

-- orders of both graphs leave no cycle
cycle_bad : (p : Problem) (lits : List Lit) (local global : List ℕ) → IsOrder p lits Local local → IsOrder p lits Global global → IsCyclic p (IsDenied lits) → ⊥
cycle_bad p lits local global in_local in_global cause = by_graph cause.0 cause.1.0 cause.1.1
  where
    by_graph : (graph : Graph) (n : ℕ) → Path (EdgeIn p (IsDenied lits) graph) n n → ⊥
    by_graph Local n path = no_cycle_in (length p.nodes) local (EdgeIn p (IsDenied lits) Local) n in_local.all in_local.forward path
    by_graph Global n path = no_cycle_in (length p.nodes) global (EdgeIn p (IsDenied lits) Global) n in_global.all in_global.forward path

pub failing_does_not_follow : FailingDoesNotFollow
failing_does_not_follow p before e r (bad_number v bad) follows = number_bad p e.lemma.lits v bad follows.variables
failing_does_not_follow p before e r (not_implied reached over unit rest) follows =
    let cause : ReachesConflict (p.clauses ++ before) (map negated e.lemma.lits) = subst (λ k. FollowsBy k p before e.lemma.lits) unit follows.cause in
    fixpoint_no_conflict (p.clauses ++ before) reached (map negated e.lemma.lits) rest.fixpoint (rest_within (p.clauses ++ before) e.lemma.lits reached rest) cause
failing_does_not_follow p before e r (no_cycle local global over cycle in_local in_global) follows =
    cycle_bad p e.lemma.lits local global in_local in_global (subst (λ k. FollowsBy k p before e.lemma.lits) cycle follows.cause)

hinted_failing : (p : Problem) (before : List (List Lit)) (e : Entry) (hints : List Hint) (r : Refused) → HintedEntryFails p before e hints r → FollowsHinted p before e hints → ⊥
hinted_failing p before e hints r (hinted_number v bad) follows = number_bad p e.lemma.lits v bad follows.variables
hinted_failing p before e hints r (bad_hint n over unit wrong) follows =
    wrong_is_not_right p before (map negated e.lemma.lits) hints n wrong (subst (λ k. HintedBy k p before e.lemma.lits hints) unit follows.cause)
hinted_failing p before e hints r (hinted_cycle local global over cycle in_local in_global) follows =
    cycle_bad p e.lemma.lits local global in_local in_global (subst (λ k. HintedBy k p before e.lemma.lits hints) cycle follows.cause)

-- ---- whole logs

pub map_twice : (es : List Entry) → map (λ (x : Lemma). x.lits) (lemmas_of es) ≡ clauses_of es
map_twice [] = refl
map_twice (e ∷ es) = ap (λ l. e.lemma.lits ∷ l) (map_twice es)

-- in a list of lemmas that follow in turn each follows from those before it
pub in_turn_at : (p : Problem) (cs : List (List Lit)) (es : List Entry) (k : ℕ) (e : Entry) → FollowInTurn p cs (lemmas_of es) → slice_get es k ≡ Some e → Follows p (cs ++ clauses_of (take k es)) e.lemma
in_turn_at p cs [] k e h g = absurd (cc)
in_turn_at p cs (d ∷ es) zero e h g =
    let same : d ≡ e = cc in
    subst (λ (x : Entry). Follows p (cs ++ []) x.lemma) same (subst (λ c. Follows p c d.lemma) (sym (append-nil cs)) h.0)
in_turn_at p cs (d ∷ es) (suc k) e h g =
    subst (λ c. Follows p c e.lemma) (append_assoc cs (d.lemma.lits ∷ []) (clauses_of (take k es))) (in_turn_at p (cs ++ d.lemma.lits ∷ []) es k e h.1 g)

pub refused_is_not_good : RefusedIsNotGood
refused_is_not_good p entries r (entry_fails k e q at good fails) is_good ends = failing_does_not_follow p (clauses_of (take k entries)) e q fails (in_turn_at p [] entries k e is_good at)
refused_is_not_good p entries r (no_empty good none) is_good ends = none ends

pub hinted_refused_is_not_good : HintedRefusedIsNotGood
hinted_refused_is_not_good p entries hints r (hinted_entry k e q at good fails) is_good ends =
    hinted_failing p (clauses_of (take k entries)) e (hints_at hints k) q fails (is_good k e at)
hinted_refused_is_not_good p entries hints r (hinted_empty good none) is_good ends = none ends

pub take_one : {X : Type 0} (xs : List X) (n : ℕ) (x : X) → slice_get xs n ≡ Some x → take (suc n) xs ≡ take n xs ++ x ∷ []
take_one [] n x e = absurd (cc)
take_one (y ∷ ys) zero x e = let f : y ≡ x = cc in ap (λ z. z ∷ []) f
take_one (y ∷ ys) (suc n) x e = ap (λ l. y ∷ l) (take_one ys n x e)

pub take_whole : {X : Type 0} (xs : List X) → take (length xs) xs ≡ xs
take_whole [] = refl
take_whole (x ∷ xs) = ap (λ l. x ∷ l) (take_whole xs)

pub lemmas_push : (es : List Entry) (e : Entry) → lemmas_of (es ++ e ∷ []) ≡ lemmas_of es ++ e.lemma ∷ []
lemmas_push [] e = refl
lemmas_push (d ∷ es) e = ap (λ l. d.lemma ∷ l) (lemmas_push es e)

good_up_to : (p : Problem) (entries : List Entry) (hints : List (List Hint)) → IsGoodHinted p entries hints → (n : ℕ) → n ≤ length entries → IsGood p (take n entries)
good_up_to p entries hints h zero le = tt
good_up_to p entries hints h (suc n) le =
    let at = get_there entries n (omega arith) in
    let e = at.0 in
    let before = good_up_to p entries hints h n (omega arith) in
    let follows = hinted_follows p (clauses_of (take n entries)) e (hints_at hints n) (h n e at.1) in
    let pushed = in_turn_push p [] (lemmas_of (take n entries)) e.lemma before (subst (λ c. Follows p c e.lemma) (sym (map_twice (take n entries))) follows) in
    subst (λ es. IsGood p es) (sym (take_one entries n e at.1)) (subst (FollowInTurn p []) (sym (lemmas_push (take n entries) e)) pushed)

pub good_hinted_is_good : GoodHintedIsGood
good_hinted_is_good p entries hints h = subst (λ es. IsGood p es) (take_whole entries) (good_up_to p entries hints h (length entries) (omega arith))
