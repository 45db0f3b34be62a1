-- How a search comes from one step to the next.
use Rattle.std.proofs.Common.{◌≡◌, ℕ, ◌<◌, ◌≤◌, List, [], ◌∷◌, ◌++◌, length, take, min, Option, Some, None, refl, ap, sym, ◌∙◌, subst, arith}
use Rattle.std.specs.Prelude.{All, Contains, IfNone, IfSome}
use Rattle.std.proofs.lemmas.List.{append-nil, append_assoc, length-append, map-append, take-append-le, length-take}
use Rattle.dg_base.specs.declared.Lit.{Lit}
use Rattle.cnf_problem.specs.declared.problem.Problem.{Problem}
use Rattle.cnf_problem.specs.Literals.{IsOver}
use Rattle.cnf_problem.specs.Laws.{IsWithin}
use Rattle.cnf_problem.specs.Chains.{IsFixpoint, ReachesConflict}
use Rattle.cnf_problem.proofs.ChainLaws.{conflict_more}
use Rattle.trail_state.specs.Trails.{Assigned, Decided, Forced, TrailView, lit_of, true_lits, level, up_to, IsWell}
use Rattle.trail_state.specs.Forcing.{AreForced, AddsForced, none, one, FixpointBelow, IsConflict}
use Rattle.trail_state.proofs.Cuts.{level-forced, up_to-push}
use Rattle.clause_store.specs.Stores.{StoreView, IsUndone, IsSettled, IsWatching, WatchesBelow, clauses_of}
use Rattle.clause_store.proofs.TrailLaws.{fixpoint_below, decided}
use Rattle.order_solver.specs.Ordering.{SolverView, IsOrdering}
use Rattle.clause_exchange.specs.declared.rule.Part.{Part}
use Rattle.clause_exchange.specs.declared.rule.View.{View}
use Rattle.search_core.specs.declared.Verdict.{Verdict}
use Rattle.clause_exchange.specs.Steps.{mine, with_part, offering}
use Rattle.worker_log.specs.Newness.{knows}
use Rattle.worker_log.specs.Logs.{LogView}
use Rattle.worker_log.specs.Keeping.{IsLogging, IsHeeding}
use Rattle.worker_log.proofs.Noting.{logging_offering}
use Rattle.cdcl_worker.specs.Outcomes.{WorkerView}
use Rattle.cdcl_worker.specs.Searching.{IsThinking, IsUnderWay, IsSearching, IsAtConflict, IsLeft, HasCome}
use Rattle.cdcl_worker.proofs.Reasons.{forced_adds, forced_decided}
use Rattle.cdcl_worker.proofs.Ground.{refuted_at_ground}
use Rattle.cdcl_worker.proofs.Learnt.{store_known}

-- one step after another
pub come_then : (p : Problem) (a b c : WorkerView) → HasCome p a b → HasCome p b c → HasCome p a c
come_then p a b c first second = record {
  log = second.log ∙ first.log;
  since = second.since ∙ first.since;
  watching = second.watching;
  thinking = λ part t. second.thinking part (first.thinking part t);
}

-- a search goes on
pub going_come : (p : Problem) (budget : ℕ) (a b : WorkerView) (v : View) → b.log ≡ a.log → b.since ≡ a.since → (IsThinking p a (mine v) → IsThinking p b (mine v)) → IsUnderWay p budget a v → IsUnderWay p budget b v
going_come p budget a b v log since thinking going = record {
  logging = subst (λ (l : LogView). IsLogging l v) (sym log) going.logging;
  problem = going.problem;
  heeding = subst (λ n. IsHeeding (mine v) n) (sym since) going.heeding;
  within = going.within;
  few = going.few;
  nonempty = going.nonempty;
  silent = going.silent;
  thinking = thinking going.thinking;
}

pub searching_come : (p : Problem) (budget : ℕ) (a b : WorkerView) (v : View) → HasCome p a b → IsSearching p budget a v → IsSearching p budget b v
searching_come p budget a b v come s = record { going = going_come p budget a b v come.log come.since (come.thinking (mine v)) s.going; watching = come.watching }

-- ---- forced literals

-- they stay on their level
pub level_adds : {clauses : List (List Lit)} {before after : List Assigned} → AddsForced clauses before after → level after ≡ level before
level_adds none = refl
level_adds {clauses} {before} (one l id force rest) = level_adds rest ∙ level-forced before l id

-- and change no lower one
below_adds : {clauses : List (List Lit)} {before after : List Assigned} (k : ℕ) → AddsForced clauses before after → k < level before → up_to k after ≡ up_to k before
below_adds k none lt = refl
below_adds {clauses} {before} k (one l id force rest) lt =
    let e = level-forced before l id in
    let more : k < level (before ++ Forced l id ∷ []) = omega arith in
    below_adds k rest more ∙ up_to-push k before (Forced l id) more

-- nor those that are there
front_adds : {clauses : List (List Lit)} {before after : List Assigned} → AddsForced clauses before after → (rest : List Assigned) × (after ≡ before ++ rest)
front_adds {clauses} {before} none = ([], sym (append-nil before))
front_adds {clauses} {before} (one l id force rest) =
    let r = front_adds rest in
    (Forced l id ∷ r.0, r.1 ∙ append_assoc before (Forced l id ∷ []) r.0)

-- a beginning of the trail stays one
beginning_more : (lits : List Lit) (before rest : List Assigned) → lits ≡ take (length lits) (true_lits before) → lits ≡ take (length lits) (true_lits (before ++ rest))
beginning_more lits before rest front =
    let few : length lits ≤ length (true_lits before) = (let e = ap length front in let m = length-take (length lits) (true_lits before) in omega arith) in
    front ∙ sym (ap (λ xs. take (length lits) xs) (map-append lit_of before rest) ∙ take-append-le (length lits) (true_lits before) (true_lits rest) few)

pub longer_adds : {clauses : List (List Lit)} {before after : List Assigned} → AddsForced clauses before after → length before ≤ length after
longer_adds {clauses} {before} {after} adds =
    let r = front_adds adds in
    let e = ap length r.1 in
    let m = length-append before r.0 in
    omega arith

fixpoint_adds : (clauses : List (List Lit)) (before after : List Assigned) → AddsForced clauses before after → FixpointBelow clauses before → FixpointBelow clauses after
fixpoint_adds clauses before after adds fixpoint = λ k lt.
    let e = level_adds adds in
    let low : k < level before = omega arith in
    subst (λ (es : List Assigned). IsFixpoint clauses (true_lits es)) (sym (below_adds k adds low)) (fixpoint k low)

-- what is known goes on to hold
pub thinking_adds : (p : Problem) (a b : WorkerView) (part : Part) → AddsForced (clauses_of p a.store) a.trail.entries b.trail.entries → b.store.added ≡ a.store.added → b.order ≡ a.order → b.choice ≡ a.choice → b.trail.vars ≡ p.vars → IsThinking p a part → IsThinking p b part
thinking_adds p a b part adds added order choice vars thinking =
    let r = front_adds adds in
    record {
      vars = vars;
      forced = subst (λ cs. AreForced (p.clauses ++ cs) b.trail.entries) (sym added) (forced_adds (clauses_of p a.store) adds thinking.forced);
      holds = subst (λ cs. IsWithin (knows part) cs) (sym added) thinking.holds;
      only = subst (λ cs. IsWithin cs (knows part)) (sym added) thinking.only;
      ordering = subst (λ (o : SolverView). IsOrdering p o) (sym order) thinking.ordering;
      asserted = subst (λ (o : SolverView). o.asserted ≡ take (length o.asserted) (true_lits b.trail.entries)) (sym order)
          (subst (λ es. a.order.asserted ≡ take (length a.order.asserted) (true_lits es)) (sym r.1) (beginning_more a.order.asserted a.trail.entries r.0 thinking.asserted));
      choice = subst (λ ls. All (IsOver p.vars) ls) (sym choice) thinking.choice;
    }

-- the level 0 of a trail
ground_of : (t : TrailView) → IsUndone 0 t (record { vars = t.vars; entries = up_to 0 t.entries; taken = min t.taken (length (up_to 0 t.entries)) })
ground_of t = record { entries = refl; taken = refl; vars = refl }

-- watches that fit a lower level tell the number of variables
pub vars_below : (p : Problem) (s : StoreView) (t : TrailView) → 0 < level t.entries → WatchesBelow p s t → t.vars ≡ p.vars
vars_below p s t above below = (below 0 (record { vars = t.vars; entries = up_to 0 t.entries; taken = min t.taken (length (up_to 0 t.entries)) }) above (ground_of t)).same_vars

-- a clause that became false above level 0
pub conflict_come : (p : Problem) (budget : ℕ) (a b : WorkerView) (v : View) → b.log ≡ a.log → b.since ≡ a.since → AddsForced (clauses_of p a.store) a.trail.entries b.trail.entries → b.store.added ≡ a.store.added → b.order ≡ a.order → b.choice ≡ a.choice
    → IsWell a.trail → 0 < level b.trail.entries → WatchesBelow p b.store b.trail → IsSearching p budget a v → IsAtConflict p budget b v
conflict_come p budget a b v log since adds added order choice well above below s = record {
  going = going_come p budget a b v log since (thinking_adds p a b (mine v) adds added order choice (vars_below p b.store b.trail above below)) s.going;
  below = below;
  fixpoint = subst (λ cs. FixpointBelow (p.clauses ++ cs) b.trail.entries) (sym added)
      (fixpoint_adds (clauses_of p a.store) a.trail.entries b.trail.entries adds (fixpoint_below (clauses_of p a.store) p.vars a.store.links a.store.examined a.trail s.watching well));
}

-- a clause that became false at level 0
pub refuted_come : (p : Problem) (a : WorkerView) (part : Part) (after : List Assigned) (id : ℕ) → AddsForced (clauses_of p a.store) a.trail.entries after → level after ≡ 0 → IsConflict (clauses_of p a.store) id (true_lits after) → IsThinking p a part → ReachesConflict (p.clauses ++ knows part) []
refuted_come p a part after id adds ground conflict thinking =
    conflict_more (clauses_of p a.store) (p.clauses ++ knows part) [] [] (store_known p a part thinking) (λ l m. m)
    (refuted_at_ground (clauses_of p a.store) after id (forced_adds (clauses_of p a.store) adds thinking.forced) ground conflict)

-- ---- decisions

pub thinking_decides : (p : Problem) (a b : WorkerView) (part : Part) (l : Lit) → b.trail ≡ record a.trail { entries = a.trail.entries ++ Decided l ∷ [] } → b.store ≡ a.store → b.order ≡ a.order → b.choice ≡ a.choice → IsThinking p a part → IsThinking p b part
thinking_decides p a b part l trail store order choice thinking =
    let now : List Assigned = a.trail.entries ++ Decided l ∷ [] in
    let es : b.trail.entries ≡ now = ap (λ (t : TrailView). t.entries) trail in
    record {
      vars = ap (λ (t : TrailView). t.vars) trail ∙ thinking.vars;
      forced = subst (λ (s : StoreView). AreForced (clauses_of p s) b.trail.entries) (sym store)
          (subst (λ x. AreForced (clauses_of p a.store) x) (sym es) (forced_decided (clauses_of p a.store) a.trail.entries l thinking.forced));
      holds = subst (λ (s : StoreView). IsWithin (knows part) s.added) (sym store) thinking.holds;
      only = subst (λ (s : StoreView). IsWithin s.added (knows part)) (sym store) thinking.only;
      ordering = subst (λ (o : SolverView). IsOrdering p o) (sym order) thinking.ordering;
      asserted = subst (λ (o : SolverView). o.asserted ≡ take (length o.asserted) (true_lits b.trail.entries)) (sym order)
          (subst (λ x. a.order.asserted ≡ take (length a.order.asserted) (true_lits x)) (sym es) (beginning_more a.order.asserted a.trail.entries (Decided l ∷ []) thinking.asserted));
      choice = subst (λ ls. All (IsOver p.vars) ls) (sym choice) thinking.choice;
    }

pub come_decided : (p : Problem) (a b : WorkerView) (l : Lit) → b.log ≡ a.log → b.since ≡ a.since → b.trail ≡ record a.trail { entries = a.trail.entries ++ Decided l ∷ [] } → b.store ≡ a.store → b.order ≡ a.order → b.choice ≡ a.choice
    → IsWatching p a.store a.trail → IsSettled p a.store a.trail → HasCome p a b
come_decided p a b l log since trail store order choice watching settled = record {
  log = log;
  since = since;
  watching = subst (λ (s : StoreView). IsWatching p s b.trail) (sym store) (subst (λ (t : TrailView). IsWatching p a.store t) (sym trail)
      (decided (clauses_of p a.store) p.vars a.store.links a.store.examined a.trail l watching settled.examined settled.taken));
  thinking = λ part t. thinking_decides p a b part l trail store order choice t;
}

-- ---- answers with and without a value

pub if_none : {A P : Type 0} (o : Option A) → o ≡ None → P → IfNone o P
if_none None e p = p
if_none (Some x) e p = absurd cc

pub none_of_some : {A : Type 0} (P : Type 0) (o : Option A) (x : A) → o ≡ Some x → IfNone o P
none_of_some P None x e = absurd cc
none_of_some P (Some y) x e = tt

pub if_some : {A : Type 0} (P : A → Type 0) (o : Option A) (x : A) → o ≡ Some x → P x → IfSome o P
if_some P None x e p = tt
if_some P (Some y) x e p = let same : x ≡ y = cc in subst P same p

pub some_of_none : {A : Type 0} (P : A → Type 0) (o : Option A) → o ≡ None → IfSome o P
some_of_none P None e = tt
some_of_none P (Some y) e = absurd cc

-- ---- offers

pub left_offered : (w : WorkerView) (v u : View) (verdict : Verdict) (stands : Option Verdict) → IsLogging w.log v → u ≡ with_part v (offering (mine v) verdict stands) → IsLeft (mine v) w u
left_offered w v u verdict stands logging is =
    let now : View = with_part v (offering (mine v) verdict stands) in
    let left : IsLeft (mine v) w now = record { logging = logging_offering w.log v logging verdict stands; number = refl; loads = omega arith } in
    subst (λ (x : View). IsLeft (mine v) w x) (sym is) left

-- ---- answers of the orders

-- only the orders are others
pub come_asked : (p : Problem) (a b : WorkerView) → b.log ≡ a.log → b.since ≡ a.since → b.store ≡ a.store → b.trail ≡ a.trail → ((part : Part) → IsThinking p a part → IsThinking p b part) → IsWatching p a.store a.trail → HasCome p a b
come_asked p a b log since store trail thinking watching = record {
  log = log;
  since = since;
  watching = subst (λ (s : StoreView). IsWatching p s b.trail) (sym store) (subst (λ (t : TrailView). IsWatching p a.store t) (sym trail) watching);
  thinking = thinking;
}

-- what they answer is said of a search, at a fixpoint
pub at_answer : (p : Problem) (budget : ℕ) (w a b : WorkerView) (v : View) → HasCome p w a → HasCome p a b → b.store ≡ a.store → b.trail ≡ a.trail → IsFixpoint (clauses_of p a.store) (true_lits a.trail.entries) → IsSearching p budget w v
    → IsSearching p budget b v × IsFixpoint (clauses_of p b.store) (true_lits b.trail.entries)
at_answer p budget w a b v first second store trail fixpoint s = (
  searching_come p budget w b v (come_then p w a b first second) s,
  subst (λ (x : StoreView). IsFixpoint (clauses_of p x) (true_lits b.trail.entries)) (sym store) (subst (λ (t : TrailView). IsFixpoint (clauses_of p a.store) (true_lits t.entries)) (sym trail) fixpoint),
)

-- the literals to decide are over the trail's variables
pub choice_over : (p : Problem) (w : WorkerView) (part : Part) → IsThinking p w part → All (IsOver w.trail.vars) w.choice
choice_over p w part thinking = subst (λ n. All (IsOver n) w.choice) (sym thinking.vars) thinking.choice

-- what is known goes on to hold
pub thinking_asked : (p : Problem) (a b : WorkerView) (part : Part) → b.trail ≡ a.trail → b.store ≡ a.store → b.choice ≡ a.choice → b.order.asserted ≡ a.order.asserted → IsOrdering p b.order → IsThinking p a part → IsThinking p b part
thinking_asked p a b part trail store choice asserted ordering thinking = record {
  vars = ap (λ (t : TrailView). t.vars) trail ∙ thinking.vars;
  forced = subst (λ (s : StoreView). AreForced (clauses_of p s) b.trail.entries) (sym store) (subst (λ (t : TrailView). AreForced (clauses_of p a.store) t.entries) (sym trail) thinking.forced);
  holds = subst (λ (s : StoreView). IsWithin (knows part) s.added) (sym store) thinking.holds;
  only = subst (λ (s : StoreView). IsWithin s.added (knows part)) (sym store) thinking.only;
  ordering = ordering;
  asserted = subst (λ (ls : List Lit). ls ≡ take (length ls) (true_lits b.trail.entries)) (sym asserted) (subst (λ (t : TrailView). a.order.asserted ≡ take (length a.order.asserted) (true_lits t.entries)) (sym trail) thinking.asserted);
  choice = subst (λ ls. All (IsOver p.vars) ls) (sym choice) thinking.choice;
}
