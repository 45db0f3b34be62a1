-- An assignment that matches a failing execution spells it, up to the order of its pairs.
use Rattle.std.proofs.Common.{◌≡◌, ℕ, ⊎_elim, Bool, List, ◌∷◌, length, get_or, ap, sym, ◌∙◌, subst, arith}
use Rattle.std.specs.Prelude.{Some, slice_get, Contains}
use Rattle.std.specs.List.{AllZip}
use Rattle.std.proofs.lemmas.List.{same_lists}
use Rattle.std.proofs.lemmas.Option.{same_Some, slice_get-get_or}
use Rattle.dg_base.proofs.Lists.{contains_head, contains_tail, contains_cases, contains_place, place_of, one_answer}
use Rattle.axiom_model.specs.declared.Event.{Event}
use Rattle.axiom_model.specs.declared.Event.TheVariants.{Initial}
use Rattle.axiom_model.specs.declared.RfPair.{RfPair}
use Rattle.axiom_model.specs.declared.ThreadPart.{ThreadPart}
use Rattle.axiom_model.specs.declared.Candidate.{Candidate}
use Rattle.axiom_model.specs.declared.MemoryModel.{MemoryModel}
use Rattle.axiom_model.specs.Execution.{Execution, Precedes, action_at}
use Rattle.axiom_model.specs.Failing.{Run, RunsTo, execution_of}
use Rattle.axiom_model.specs.WellMade.{Shape, WellMade, IsWriteOrder}
use Rattle.c_check.specs.declared.checked.Checked.{Checked}
use Rattle.run_model.specs.Programs.{shape_of}
use Rattle.run_model.specs.Threads.{thread_run, ProgramFails}
use Rattle.cnf_problem.specs.Literals.{AreSatisfied}
use Rattle.flat_prog.specs.declared.Flat.{Flat}
use Rattle.order_vars.specs.Links.{Link}
use Rattle.encode_order.proofs.Lines.{AreSorted}
use Rattle.encode_match.specs.declared.Encoded.{Encoded}
use Rattle.encode_match.specs.Spelling.{threads_of}
use Rattle.encode_match.specs.Encoding.{SameButForOrder}
use Rattle.encode_match.specs.Parts.{IsChain}
use Rattle.encode_match.specs.Matching.{Matches}
use Rattle.encode_match.specs.Directions.{GraphsHold, AssignmentsMatch, AssignmentOf, MatchOf}
use Rattle.encode_match.proofs.Moves.{same_event}
use Rattle.encode_match.proofs.SpelledOnce.{zip_once, same_pair}
use Rattle.encode_match.proofs.SecondLists.{Within, sorted_places, one_sorted}
use Rattle.encode_match.proofs.SecondNodes.{once_listed}
use Rattle.encode_match.proofs.Whole.{cycles_with}

-- ---- a list of writes in their order

module _ (e : Execution) (cell : ℕ) (l : List Event) (o : IsWriteOrder e cell l) where
  -- no two precede each other
  one_way : (a b : Event) → Precedes l a b → Precedes l b a → ⊥
  one_way a b p q =
      let i = once_listed e cell l o p.0 q.1 a p.3 q.4 in
      let j = once_listed e cell l o p.1 q.0 b p.4 q.3 in
      let less = p.2 in
      let more = q.2 in
      omega (arith, i, j, less, more)

  sorted_by : AreSorted (Precedes l) l
  sorted_by = sorted_places (Precedes l) l (λ i j a b h p q. (i, j, h, p, q))

-- write orders of one cell have the same events, where the threads do the same
within : (e u : Execution) (cell : ℕ) (l k : List Event) → IsWriteOrder e cell l → IsWriteOrder u cell k → ((a : Event) → action_at e a ≡ action_at u a) → Within l k
within e u cell l k o q same a c =
    let at = subst (λ (z : List Event). Contains z a) o.initial_first c in
    subst (λ (z : List Event). Contains z a) (sym q.initial_first)
    (⊎_elim
    (λ is. subst (λ (z : Event). Contains (Initial ∷ q.writes) z) (sym is) (contains_head Initial q.writes))
    (λ h.
    let n = place_of o.writes a h in
    let w = o.sound n.0 a n.1 in
    let r = q.complete a w.0 (sym (same a) ∙ w.1) in
    contains_tail Initial a q.writes (contains_place q.writes r.0 a r.1))
    (contains_cases Initial a o.writes at))

-- ---- two candidates that match one assignment

module _ (x : Encoded) (s : List Bool) (links : List Link) (shape : Shape) where
  rf_moved : (c d : Candidate) (rs qs : List Run) → Matches x s links (execution_of c rs) → Matches x s links (execution_of d qs) → (q : RfPair) → Contains c.rf q → Contains d.rf q
  rf_moved c d rs qs a b q h =
      let at = place_of c.rf q h in
      let n = a.rf q.source q.reader (at.0, at.1) in
      let r = b.rf_back n.0 n.1 n.4 in
      let pair : RfPair = record { reader = r.1; source = r.0 } in
      let is : pair ≡ q = same_pair pair q (same_event x s n.1 r.1 q.reader r.3 n.3) (same_event x s n.0 r.0 q.source r.2 n.2) in
      subst (Contains d.rf) is (contains_place d.rf r.4.0 pair r.4.1)

  order_moved : (c d : Candidate) (rs qs : List Run) → Matches x s links (execution_of c rs) → Matches x s links (execution_of d qs)
      → (k : ℕ) (l m : List Event) → slice_get c.co k ≡ Some l → slice_get d.co k ≡ Some m → (v w : Event) → Precedes l v w → Precedes m v w
  order_moved c d rs qs a b k l m p q v w h =
      let n = a.co k v w (l, p, h) in
      let r = b.co_back k n.0 n.1 n.4 in
      let list : r.4.0 ≡ m = one_answer (slice_get d.co k) r.4.0 m r.4.1 q in
      let first : r.0 ≡ v = same_event x s n.0 r.0 v r.2 n.2 in
      let second : r.1 ≡ w = same_event x s n.1 r.1 w r.3 n.3 in
      subst (λ (z : Event). Precedes m v z) second (subst (λ (z : Event). Precedes m z r.1) first (subst (λ (z : List Event). Precedes z r.0 r.1) list r.4.2))

  module _ (c d : Candidate) (rs : List Run) (a : Matches x s links (execution_of c rs)) (b : Matches x s links (execution_of d rs)) (u : WellMade shape (execution_of c rs)) (w : WellMade shape (execution_of d rs))
      (threads : c.threads ≡ d.threads) where
    acts_same : (ev : Event) → action_at (execution_of c rs) ev ≡ action_at (execution_of d rs) ev
    acts_same ev = ap (λ (ts : List ThreadPart). action_at (execution_of (record { threads = ts; rf = c.rf; co = c.co }) rs) ev) threads

    cell_same : (k : ℕ) (l m : List Event) → slice_get c.co k ≡ Some l → slice_get d.co k ≡ Some m → l ≡ m
    cell_same k l m p q =
        let first = u.orders k l p in
        let second = w.orders k m q in
        one_sorted (Precedes m) (one_way (execution_of d rs) k m second) l m
        (sorted_places (Precedes m) l (λ i j v z h f g. order_moved c d rs rs a b k l m p q v z (i, j, h, f, g)))
        (sorted_by (execution_of d rs) k m second)
        (within (execution_of c rs) (execution_of d rs) k l m first second acts_same)
        (within (execution_of d rs) (execution_of c rs) k m l second first (λ ev. sym (acts_same ev)))

    cos_same : c.co ≡ d.co
    cos_same =
        let long : length c.co ≡ length d.co = u.lists ∙ sym w.lists in
        same_lists c.co d.co long (λ k z h. cell_same k (get_or c.co k z) (get_or d.co k z) (slice_get-get_or c.co k z h) (slice_get-get_or d.co k z (omega (arith, h, long))))

    same_but_for_order : SameButForOrder c d
    same_but_for_order = record {
      threads = threads;
      pairs = λ q. (rf_moved c d rs rs a b q, rf_moved d c rs rs b a q);
      co = cos_same;
    }

-- ---- the assignment of a failing execution

module _ (p : Checked) (m : MemoryModel) (x : Encoded) (s : List Bool) (links : List Link) (c : Candidate) (fails : ProgramFails p m c) (threads : c.threads ≡ threads_of x s)
    (matches : Matches x s links (execution_of c fails.allowed.threads)) (r : MatchOf p x s links) where
  threads_same : c.threads ≡ r.candidate.threads
  threads_same = threads ∙ sym r.spelled.threads

  -- threads have one run each
  runs_same : r.runs ≡ fails.allowed.threads
  runs_same =
      zip_once (RunsTo (thread_run p)) (λ t y z h g. same_Some y z (sym h.0 ∙ g.0)) c.threads r.runs fails.allowed.threads
      (subst (λ (ts : List ThreadPart). AllZip (RunsTo (thread_run p)) ts r.runs) (sym threads_same) r.whole) fails.allowed.whole

  sorted_is : SameButForOrder c r.candidate
  sorted_is =
      same_but_for_order x s links (shape_of p.program) c r.candidate fails.allowed.threads matches
      (subst (λ (rs : List Run). Matches x s links (execution_of r.candidate rs)) runs_same r.matches) fails.allowed.well_made
      (subst (λ (rs : List Run). WellMade (shape_of p.program) (execution_of r.candidate rs)) runs_same r.well_made) threads_same

-- an assignment of the clauses that spells the threads of a failing execution and matches it is an assignment of it
pub assignment_of : GraphsHold → AssignmentsMatch → (p : Checked) (m : MemoryModel) (flat : Flat) (x : Encoded) (c : Candidate) (chain : IsChain p m flat x) (fails : ProgramFails p m c) (s : List Bool)
    → length s ≡ x.problem.vars → AreSatisfied s x.problem.clauses → c.threads ≡ threads_of x s → Matches x s chain.made.orders.links (execution_of c fails.allowed.threads)
    → AssignmentOf p m x chain.made.orders.links c fails
assignment_of graphs first p m flat x c chain fails s values clauses threads matches =
    let links = chain.made.orders.links in
    let acyclic = (cycles_with m x s links (execution_of c fails.allowed.threads) (graphs p m flat x s chain clauses) matches).0 fails.allowed.consistent in
    let r = first p m flat x s chain (record { values = values; clauses = clauses; acyclic = acyclic }) in
    record {
      assignment = s;
      values = values;
      clauses = clauses;
      matches = matches;
      sorted = r.candidate;
      same = sorted_is p m x s links c fails threads matches r;
      spelled = r.spelled;
    }
