-- Two first broken conditions of one candidate are one, but for the cycle shown.
use Rattle.std.proofs.Common.{◌≡◌, ◌≢◌, ℕ, List, Some, refl, sym, ap, ◌∙◌, ⊎_elim, inl, inr}
use Rattle.std.specs.Prelude.{slice_get, ◌⊎◌}
use Rattle.std.proofs.lemmas.Bool.{cases_order}
use Rattle.std.proofs.lemmas.Option.{same_Some}
use Rattle.axiom_model.specs.declared.Action.TheVariants.{Create}
use Rattle.axiom_model.specs.declared.Event.{Event}
use Rattle.axiom_model.specs.declared.MemoryModel.{MemoryModel}
use Rattle.axiom_model.specs.declared.ThreadPart.{ThreadPart}
use Rattle.axiom_model.specs.declared.Candidate.{Candidate}
use Rattle.axiom_model.specs.Cycles.{NoCycle}
use Rattle.axiom_model.specs.Execution.{Execution, action_at}
use Rattle.axiom_model.specs.Models.{LocalEdge, GlobalEdge, Leaves}
use Rattle.c_check.specs.declared.checked.Checked.{Checked}
use Rattle.exec_check.specs.declared.Reject.{Reject}
use Rattle.exec_check.specs.declared.Reject.TheVariants.{MainMissing, ThreadTwice, UnknownThread, ScriptShort, ScriptLong, BadRun, NoCreate, NoThread, BadSource, BadOrder, BadJoin, LocalCycle, GlobalCycle, BlockCycle, NotFailing, OutOfMemory}
use Rattle.exec_check.specs.First.{EachThread, FirstThread, FirstHandle, FirstEvent, FirstNumber}
use Rattle.exec_check.specs.Running.{run_told, acting, execution_in, shape}
use Rattle.exec_check.specs.Conditions.{HasMain, IsAboveAll, IsKnown, RunsWell, IsCreated, AtAction, HasItsThread, IsSourced, HasOrder, JoinsAnEnded, HasThreads, HasRuns, HasCreates, HasChildren, HasSources, HasOrders, IsExecution}
use Rattle.exec_check.specs.Broken.{FirstChild, IsFirstBroken, without_cycle}
use Rattle.exec_check.specs.ThreadTests.{wrong_run}
use Rattle.exec_check.proofs.Events.{at_most_cases}
use Rattle.exec_check.proofs.Ran.{wrong_short, wrong_long, wrong_bad}

-- ---- one first place

one_thread : (P : ℕ → ThreadPart → Type 0) (ps : List ThreadPart) (t u : ThreadPart) → FirstThread P ps t → FirstThread P ps u → t ≡ u
one_thread P ps t u f g =
    ⊎_elim (λ e. same_Some t u (sym f.there ∙ ap (λ k. slice_get ps k) e ∙ g.there)) (⊎_elim (λ l. absurd (f.broken (g.before f.place t l f.there))) (λ l. absurd (g.broken (f.before g.place u l g.there)))) (cases_order f.place g.place)

one_handle : (P : ℕ → ThreadPart → Type 0) (ps : List ThreadPart) (h k : ℕ) → FirstHandle P ps h → FirstHandle P ps k → h ≡ k
one_handle P ps h k f g = sym f.2 ∙ ap (λ (t : ThreadPart). t.handle) (one_thread P ps f.0 g.0 f.1 g.1) ∙ g.2

one_event : (P : Event → Type 0) (e f : Event) → FirstEvent P e → FirstEvent P f → e ≡ f
one_event P e f a b =
    ⊎_elim (⊎_elim (λ s. s) (λ l. absurd (a.broken (b.before e l)))) (λ l. absurd (b.broken (a.before f l))) (at_most_cases e f)

one_number : (P : ℕ → Type 0) (m n : ℕ) → FirstNumber P m → FirstNumber P n → m ≡ n
one_number P m n a b = ⊎_elim (λ s. s) (⊎_elim (λ l. absurd (a.broken (b.before m l))) (λ l. absurd (b.broken (a.before n l)))) (cases_order m n)

one_child : (x : Execution) (h k : ℕ) → FirstChild x h → FirstChild x k → h ≡ k
one_child x h k f g =
    let there : action_at x f.0 ≡ Some (Create k g.1 g.2) = ap (action_at x) (one_event (AtAction x (HasItsThread x)) f.0 g.0 f.3 g.3) ∙ g.4 in
    let same : Create h f.1 f.2 ≡ Create k g.1 g.2 = same_Some (Create h f.1 f.2) (Create k g.1 g.2) (sym f.4 ∙ there) in
    cc

-- ---- a condition that is broken, or holds and the rest is told

-- two answers of the kind are one, but for the cycle shown
abbrev One : (Reject → Type 0) → Type 0
One P = (e f : Reject) → P e → P f → without_cycle e ≡ without_cycle f

-- the condition is broken as B says of the answer, or it holds and the answer is as R says
abbrev Next : (Reject → Type 0) → Type 0 → (Reject → Type 0) → Reject → Type 0
Next B C R e = B e ⊎ (C × R e)

next : (B : Reject → Type 0) (C : Type 0) (R : Reject → Type 0) → ((e : Reject) → B e → C → ⊥) → One B → One R → One (Next B C R)
next B C R apart b r =
    λ e f x y. ⊎_elim (λ u. ⊎_elim (λ v. b e f u v) (λ v. absurd (apart e u v.0)) y) (λ u. ⊎_elim (λ v. absurd (apart f v u.0)) (λ v. r e f u.1 v.1) y) x

-- the answer is of a variant with one field, of which P holds
abbrev Tells : {A : Type 0} → (A → Reject) → (A → Type 0) → Reject → Type 0
Tells {A = A} variant P e = (a : A) × (e ≡ variant a) × P a

tells_one : {A : Type 0} (variant : A → Reject) (P : A → Type 0) → ((a b : A) → P a → P b → without_cycle (variant a) ≡ without_cycle (variant b)) → One (Tells variant P)
tells_one variant P one = λ e f x y. ap without_cycle x.1 ∙ one x.0 y.0 x.2 y.2 ∙ sym (ap without_cycle y.1)

tells_same : {A : Type 0} (variant : A → Reject) (P : A → Type 0) → ((a b : A) → P a → P b → a ≡ b) → One (Tells variant P)
tells_same variant P one = tells_one variant P (λ a b p q. ap (λ z. without_cycle (variant z)) (one a b p q))

is_one : (a : Reject) (P : Type 0) → One (λ e. (e ≡ a) × P)
is_one a P = λ e f x y. ap without_cycle (x.0 ∙ sym y.0)

-- ---- the conditions in turn

module _ (p : Checked) (m : MemoryModel) (c : Candidate) where
  -- the first thread that does not run well, and what is wrong with it
  abbrev WrongRun : Reject → Type 0
  WrongRun e = (t : ThreadPart) × FirstThread (RunsWell p) c.threads t × (wrong_run t (run_told p t) ≡ Some e)

  abbrev Joins : Event → Type 0
  Joins = AtAction (execution_in p c) (JoinsAnEnded (execution_in p c))

  abbrev Children : Event → Type 0
  Children = AtAction (acting p c.threads) (HasItsThread (acting p c.threads))

  abbrev OfFailing : Reject → Type 0
  OfFailing e = (e ≡ NotFailing) × Unit {0}

  abbrev OfBlocks : Reject → Type 0
  OfBlocks = Next (Tells BlockCycle (λ l. ¬ NoCycle (Leaves m (execution_in p c)))) (NoCycle (Leaves m (execution_in p c))) OfFailing

  abbrev OfGlobal : Reject → Type 0
  OfGlobal = Next (Tells GlobalCycle (λ l. ¬ NoCycle (GlobalEdge m (execution_in p c)))) (NoCycle (GlobalEdge m (execution_in p c))) OfBlocks

  abbrev OfLocal : Reject → Type 0
  OfLocal = Next (Tells LocalCycle (λ l. ¬ NoCycle (LocalEdge (execution_in p c)))) (NoCycle (LocalEdge (execution_in p c))) OfGlobal

  abbrev OfJoins : Reject → Type 0
  OfJoins = Next (Tells BadJoin (FirstEvent Joins)) ((e : Event) → Joins e) OfLocal

  abbrev OfOrders : Reject → Type 0
  OfOrders = Next (Tells BadOrder (FirstNumber (HasOrder (shape p) (execution_in p c)))) ((n : ℕ) → HasOrder (shape p) (execution_in p c) n) OfJoins

  abbrev OfSources : Reject → Type 0
  OfSources = Next (Tells BadSource (FirstEvent (IsSourced (shape p) (execution_in p c)))) ((e : Event) → IsSourced (shape p) (execution_in p c) e) OfOrders

  abbrev OfChildren : Reject → Type 0
  OfChildren = Next (Tells NoThread (FirstChild (acting p c.threads))) ((e : Event) → Children e) OfSources

  abbrev OfCreates : Reject → Type 0
  OfCreates = Next (Tells NoCreate (FirstHandle (IsCreated (acting p c.threads)) c.threads)) (EachThread (IsCreated (acting p c.threads)) c.threads) OfChildren

  abbrev OfRuns : Reject → Type 0
  OfRuns = Next WrongRun (EachThread (RunsWell p) c.threads) OfCreates

  abbrev OfKnown : Reject → Type 0
  OfKnown = Next (Tells UnknownThread (FirstHandle (IsKnown (shape p)) c.threads)) (EachThread (IsKnown (shape p)) c.threads) OfRuns

  abbrev OfRising : Reject → Type 0
  OfRising = Next (Tells ThreadTwice (FirstHandle (IsAboveAll c.threads) c.threads)) (EachThread (IsAboveAll c.threads) c.threads) OfKnown

  abbrev Told : Reject → Type 0
  Told = Next (λ e. (e ≡ MainMissing) × (¬ HasMain (shape p) c.threads)) (HasMain (shape p) c.threads) OfRising

  -- ---- each answer in its place

  past_threads : HasThreads p c.threads → (e : Reject) → OfRuns e → Told e
  past_threads h e r = inr (h.main, inr (h.rising, inr (h.known, r)))

  past_runs : HasRuns p c.threads → (e : Reject) → OfCreates e → Told e
  past_runs h e r = past_threads h.threads e (inr (h.runs, r))

  past_creates : HasCreates p c.threads → (e : Reject) → OfChildren e → Told e
  past_creates h e r = past_runs h.runs e (inr (h.created, r))

  past_children : HasChildren p c.threads → (e : Reject) → OfSources e → Told e
  past_children h e r = past_creates h.creates e (inr (h.children, r))

  past_sources : HasSources p c → (e : Reject) → OfOrders e → Told e
  past_sources h e r = past_children h.children e (inr (h.sources, r))

  past_orders : HasOrders p c → (e : Reject) → OfJoins e → Told e
  past_orders h e r = past_sources h.sources e (inr (h.orders, r))

  past_joins : IsExecution p c → (e : Reject) → OfLocal e → Told e
  past_joins h e r = past_orders h.orders e (inr (h.joins, r))

  wrong_at : (h : ℕ) (t : ThreadPart) (variant : ℕ → Reject) → t.handle ≡ h → wrong_run t (run_told p t) ≡ Some (variant t.handle) → wrong_run t (run_told p t) ≡ Some (variant h)
  wrong_at h t variant s w = w ∙ ap (λ n. Some (variant n)) s

  tell : (e : Reject) → e ≢ OutOfMemory → IsFirstBroken p m c e → Told e
  tell MainMissing n b = inl (refl, b)
  tell (ThreadTwice h) n b = inr (b.0, inl (h, refl, b.1))
  tell (UnknownThread h) n b = inr (b.0, inr (b.1, inl (h, refl, b.2)))
  tell (ScriptShort h) n b =
      let f = b.1 in
      past_threads b.0 (ScriptShort h) (inl (f.0, f.1, wrong_at h f.0 ScriptShort f.2 (wrong_short f.0 (run_told p f.0) f.3)))
  tell (ScriptLong h) n b =
      let f = b.1 in
      let w = f.3 in
      past_threads b.0 (ScriptLong h) (inl (f.0, f.1, wrong_at h f.0 ScriptLong f.2 (wrong_long f.0 (run_told p f.0) w.0 w.1 w.2)))
  tell (BadRun h) n b =
      let f = b.1 in
      let w = f.3 in
      past_threads b.0 (BadRun h) (inl (f.0, f.1, wrong_at h f.0 BadRun f.2 (wrong_bad f.0 (run_told p f.0) w.0 w.1 w.2 w.3)))
  tell (NoCreate h) n b = past_runs b.0 (NoCreate h) (inl (h, refl, b.1))
  tell (NoThread h) n b = past_creates b.0 (NoThread h) (inl (h, refl, b.1))
  tell (BadSource e) n b = past_children b.0 (BadSource e) (inl (e, refl, b.1))
  tell (BadOrder k) n b = past_sources b.0 (BadOrder k) (inl (k, refl, b.1))
  tell (BadJoin e) n b = past_orders b.0 (BadJoin e) (inl (e, refl, b.1))
  tell (LocalCycle l) n b = past_joins b.0 (LocalCycle l) (inl (l, refl, λ h. h l b.1.cycle))
  tell (GlobalCycle l) n b = past_joins b.0 (GlobalCycle l) (inr (b.1.0, inl (l, refl, λ h. h l b.1.1.cycle)))
  tell (BlockCycle l) n b =
      past_joins b.0 (BlockCycle l) (inr (b.1.0, inr (b.1.1, inl (l, refl, λ h. h b.1.2.pairs b.1.2.cycle))))
  tell NotFailing n b = past_joins b.0 NotFailing (inr (b.1.local, inr (b.1.global, inr (b.1.blocks, (refl, tt)))))
  tell OutOfMemory n b = absurd (n refl)

  -- ---- two answers

  no_thread : (P : ℕ → ThreadPart → Type 0) (h : ℕ) → FirstHandle P c.threads h → EachThread P c.threads → ⊥
  no_thread P h f each = f.1.broken (each f.1.place f.0 f.1.there)

  one_wrong : One WrongRun
  one_wrong = λ e f x y.
      let same : x.0 ≡ y.0 = one_thread (RunsWell p) c.threads x.0 y.0 x.1 y.1 in
      ap without_cycle (same_Some e f (sym x.2 ∙ ap (λ t. wrong_run t (run_told p t)) same ∙ y.2))

  one_blocks : One OfBlocks
  one_blocks =
      next (Tells BlockCycle (λ l. ¬ NoCycle (Leaves m (execution_in p c)))) (NoCycle (Leaves m (execution_in p c))) OfFailing (λ e b h. b.2 h) (tells_one BlockCycle (λ l. ¬ NoCycle (Leaves m (execution_in p c))) (λ a b q r. refl)) (is_one NotFailing (Unit {0}))

  one_global : One OfGlobal
  one_global =
      next (Tells GlobalCycle (λ l. ¬ NoCycle (GlobalEdge m (execution_in p c)))) (NoCycle (GlobalEdge m (execution_in p c))) OfBlocks (λ e b h. b.2 h) (tells_one GlobalCycle (λ l. ¬ NoCycle (GlobalEdge m (execution_in p c))) (λ a b q r. refl)) one_blocks

  one_local : One OfLocal
  one_local =
      next (Tells LocalCycle (λ l. ¬ NoCycle (LocalEdge (execution_in p c)))) (NoCycle (LocalEdge (execution_in p c))) OfGlobal (λ e b h. b.2 h) (tells_one LocalCycle (λ l. ¬ NoCycle (LocalEdge (execution_in p c))) (λ a b q r. refl)) one_global

  one_joins : One OfJoins
  one_joins = next (Tells BadJoin (FirstEvent Joins)) ((e : Event) → Joins e) OfLocal (λ e b h. b.2.broken (h b.0)) (tells_same BadJoin (FirstEvent Joins) (one_event Joins)) one_local

  one_orders : One OfOrders
  one_orders =
      let P = HasOrder (shape p) (execution_in p c) in
      next (Tells BadOrder (FirstNumber (HasOrder (shape p) (execution_in p c)))) ((n : ℕ) → P n) OfJoins (λ e b h. b.2.broken (h b.0)) (tells_same BadOrder (FirstNumber P) (one_number P)) one_joins

  one_sources : One OfSources
  one_sources =
      let P = IsSourced (shape p) (execution_in p c) in
      next (Tells BadSource (FirstEvent (IsSourced (shape p) (execution_in p c)))) ((e : Event) → P e) OfOrders (λ e b h. b.2.broken (h b.0)) (tells_same BadSource (FirstEvent P) (one_event P)) one_orders

  one_children : One OfChildren
  one_children =
      next (Tells NoThread (FirstChild (acting p c.threads))) ((e : Event) → Children e) OfSources (λ e b h. b.2.3.broken (h b.2.0)) (tells_same NoThread (FirstChild (acting p c.threads)) (one_child (acting p c.threads))) one_sources

  one_creates : One OfCreates
  one_creates =
      let P = IsCreated (acting p c.threads) in
      next (Tells NoCreate (FirstHandle (IsCreated (acting p c.threads)) c.threads)) (EachThread P c.threads) OfChildren (λ e b h. no_thread P b.0 b.2 h) (tells_same NoCreate (FirstHandle P c.threads) (one_handle P c.threads)) one_children

  one_runs : One OfRuns
  one_runs = next WrongRun (EachThread (RunsWell p) c.threads) OfCreates (λ e b h. b.1.broken (h b.1.place b.0 b.1.there)) one_wrong one_creates

  one_known : One OfKnown
  one_known =
      let P = IsKnown (shape p) in
      next (Tells UnknownThread (FirstHandle (IsKnown (shape p)) c.threads)) (EachThread P c.threads) OfRuns (λ e b h. no_thread P b.0 b.2 h) (tells_same UnknownThread (FirstHandle P c.threads) (one_handle P c.threads)) one_runs

  one_rising : One OfRising
  one_rising =
      let P = IsAboveAll c.threads in
      next (Tells ThreadTwice (FirstHandle (IsAboveAll c.threads) c.threads)) (EachThread P c.threads) OfKnown (λ e b h. no_thread P b.0 b.2 h) (tells_same ThreadTwice (FirstHandle P c.threads) (one_handle P c.threads)) one_known

  one_told : One Told
  one_told = next (λ e. (e ≡ MainMissing) × (¬ HasMain (shape p) c.threads)) (HasMain (shape p) c.threads) OfRising (λ e b h. b.1 h) (is_one MainMissing (¬ HasMain (shape p) c.threads)) one_rising

pub one_broken_first : (p : Checked) (m : MemoryModel) (c : Candidate) (e f : Reject) → e ≢ OutOfMemory → f ≢ OutOfMemory → IsFirstBroken p m c e → IsFirstBroken p m c f → without_cycle e ≡ without_cycle f
one_broken_first p m c e f n k b d = one_told p m c e f (tell p m c e n b) (tell p m c f k d)
