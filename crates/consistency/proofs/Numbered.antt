-- The nodes of threads whose handles rise are a numbering of the execution.
use Rattle.std.proofs.Common.{◌≡◌, ℕ, zero, suc, ◌+◌, ◌<◌, ◌≤◌, ◌⊎◌, List, [], ◌∷◌, true, length, get_or, map, Option, Some, None, refl, sym, ap, ◌∙◌, subst, ⊎_elim, inl, inr, arith}
use Rattle.std.specs.Prelude.{slice_get, unwrap_or, nat_eq}
use Rattle.std.proofs.lemmas.Bool.{and_parts, and_from, eqb-true, eq-eqb, cases_order}
use Rattle.std.proofs.lemmas.Option.{none-some, same_Some, slice_get_within, get_or_from_slice_get}
use Rattle.dg_base.proofs.Lists.{get_from_map, get_map, get_append_left, get_append_cases}
use Rattle.axiom_model.specs.declared.Action.{Action}
use Rattle.axiom_model.specs.declared.Event.{Event}
use Rattle.axiom_model.specs.declared.Event.TheVariants.{At}
use Rattle.axiom_model.specs.declared.RfPair.{RfPair}
use Rattle.axiom_model.specs.Execution.{Execution, actions_of, action_at, SameBlock}
use Rattle.axiom_model.proofs.PairTests.{same_option}
use Rattle.axiom_model.proofs.Places.{place_right}
use Rattle.axiom_model.proofs.Sections.{section_from, section_of, same_section-same_block, one_section-same_section}
use Rattle.axiom_model.proofs.Threads.{Rising, acts_from, actions_of-thread}
use Rattle.consistency.specs.declared.ThreadActions.{ThreadActions}
use Rattle.consistency.specs.declared.numbering.Node.{Node}
use Rattle.consistency.specs.Seen.{thread_seen, execution_seen}
use Rattle.consistency.specs.Numbering.{open_at, open_behind, thread_nodes, nodes_of, node_event, Earlier, IsNumbering}
use Rattle.consistency.proofs.Opening.{open_at-held, open_behind-behind, opens_in, section_rises}
use Rattle.consistency.proofs.Placing.{length-thread_nodes}

-- ---- the nodes of one thread

-- the index in the thread at which the block of its action opens
abbrev pub start_of : List Action → ℕ → ℕ
start_of acts k = unwrap_or (section_from None 0 acts k) k

-- the node is that of action k of a list that begins at index i
pub record IsThreadNode (h first : ℕ) (s : Option ℕ) (i : ℕ) (acts : List Action) (k : ℕ) (v : Node) : Type 0 where
  pub handle : v.handle ≡ h
  pub index : v.index ≡ i + k
  pub action : slice_get acts k ≡ Some v.action
  pub block : v.block ≡ first + unwrap_or (section_from s i acts k) (i + k)

thread_node : (h first : ℕ) (s : Option ℕ) (i : ℕ) (acts : List Action) (k : ℕ) (v : Node) → slice_get (thread_nodes h first s i acts) k ≡ Some v → IsThreadNode h first s i acts k v
thread_node h first s i [] k v e = absurd (none-some v e)
thread_node h first s i (a ∷ acts) zero v e =
    let n : i ≡ i + 0 = omega arith in
    subst (IsThreadNode h first s i (a ∷ acts) zero) (same_Some (record { handle = h; index = i; action = a; block = first + unwrap_or (open_at s i a) i }) v e)
    (record { handle = refl; index = n; action = refl; block = ap (λ t. first + unwrap_or t i) (open_at-held s i a) ∙ ap (λ m. first + unwrap_or (section_from s i (a ∷ acts) 0) m) n })
thread_node h first s i (a ∷ acts) (suc k) v e =
    let t = thread_node h first (open_behind s i a) (i + 1) acts k v e in
    let n : i + 1 + k ≡ i + suc k = omega arith in
    record {
      handle = t.handle;
      index = t.index ∙ n;
      action = t.action;
      block = t.block ∙ ap (λ z. first + unwrap_or (section_from z (i + 1) acts k) (i + 1 + k)) (open_behind-behind s i a) ∙ ap (λ m. first + unwrap_or (section_from s i (a ∷ acts) (suc k)) m) n;
    }

thread_has : (h first : ℕ) (s : Option ℕ) (i : ℕ) (acts : List Action) (k : ℕ) (p : Action) → slice_get acts k ≡ Some p → (v : Node) × (slice_get (thread_nodes h first s i acts) k ≡ Some v)
thread_has h first s i [] k p e = absurd (none-some p e)
thread_has h first s i (a ∷ acts) zero p e = (record { handle = h; index = i; action = a; block = first + unwrap_or (open_at s i a) i }, refl)
thread_has h first s i (a ∷ acts) (suc k) p e = thread_has h first (open_behind s i a) (i + 1) acts k p e

-- ---- the nodes of all threads

-- the number of the first action of the thread at a place
abbrev base_of : ℕ → List ThreadActions → ℕ → ℕ
base_of n ts zero = n
base_of n [] (suc p) = n
base_of n (t ∷ ts) (suc p) = base_of (n + length t.actions) ts p

base_ge : (n : ℕ) (ts : List ThreadActions) (p : ℕ) → n ≤ base_of n ts p
base_ge n ts zero = omega arith
base_ge n [] (suc p) = omega arith
base_ge n (t ∷ ts) (suc p) = let h = base_ge (n + length t.actions) ts p in omega (arith, h)

base_rises : (n : ℕ) (ts : List ThreadActions) (p q : ℕ) (t : ThreadActions) → p < q → slice_get ts p ≡ Some t → base_of n ts p + length t.actions ≤ base_of n ts q
base_rises n [] p q t l e = absurd (none-some t e)
base_rises n (u ∷ ts) p zero t l e = absurd (omega arith)
base_rises n (u ∷ ts) zero (suc q) t l e =
    let same : u ≡ t = same_Some u t e in
    let h : n + length u.actions ≤ base_of (n + length u.actions) ts q = base_ge (n + length u.actions) ts q in
    subst (λ z. n + length z.actions ≤ base_of (n + length u.actions) ts q) same h
base_rises n (u ∷ ts) (suc p) (suc q) t l e = base_rises (n + length u.actions) ts p q t (omega arith) e

-- the node at place m is that of action k of one of the threads
record OfThread (n : ℕ) (ts : List ThreadActions) (m : ℕ) (v : Node) : Type 0 where
  pub place : ℕ
  pub thread : ThreadActions
  pub there : slice_get ts place ≡ Some thread
  pub k : ℕ
  pub is : n + m ≡ base_of n ts place + k
  pub node : IsThreadNode thread.handle (base_of n ts place) None 0 thread.actions k v

of_thread : (n : ℕ) (ts : List ThreadActions) (m : ℕ) (v : Node) → slice_get (nodes_of n ts) m ≡ Some v → OfThread n ts m v
of_thread n [] m v e = absurd (none-some v e)
of_thread n (t ∷ ts) m v e =
    ⊎_elim
    (λ h. record { place = 0; thread = t; there = refl; k = m; is = refl; node = thread_node t.handle n None 0 t.actions m v h })
    (λ h.
    let r = of_thread (n + length t.actions) ts h.0 v h.2 in
    let len = length-thread_nodes t.handle n None 0 t.actions in
    record { place = suc r.place; thread = r.thread; there = r.there; k = r.k; is = omega (arith, h.1, r.is, len); node = r.node })
    (get_append_cases (thread_nodes t.handle n None 0 t.actions) (nodes_of (n + length t.actions) ts) m v e)

-- every action of a thread has a node
nodes_have : (n : ℕ) (ts : List ThreadActions) (p k : ℕ) (t : ThreadActions) (a : Action) → slice_get ts p ≡ Some t → slice_get t.actions k ≡ Some a → (m : ℕ) × (v : Node) × (slice_get (nodes_of n ts) m ≡ Some v) × (v.handle ≡ t.handle) × (v.index ≡ k)
nodes_have n [] p k t a e f = absurd (none-some t e)
nodes_have n (u ∷ ts) zero k t a e f =
    let same : u ≡ t = same_Some u t e in
    let g : slice_get u.actions k ≡ Some a = subst (λ z. slice_get z.actions k ≡ Some a) (sym same) f in
    let h = thread_has u.handle n None 0 u.actions k a g in
    let i = thread_node u.handle n None 0 u.actions k h.0 h.1 in
    (k, h.0, get_append_left (thread_nodes u.handle n None 0 u.actions) (nodes_of (n + length u.actions) ts) k h.0 h.1, i.handle ∙ ap (λ z. z.handle) same, (let x = i.index in omega arith))
nodes_have n (u ∷ ts) (suc p) k t a e f =
    let r = nodes_have (n + length u.actions) ts p k t a e f in
    (length (thread_nodes u.handle n None 0 u.actions) + r.0, r.1, place_right (thread_nodes u.handle n None 0 u.actions) (nodes_of (n + length u.actions) ts) (length (thread_nodes u.handle n None 0 u.actions) + r.0) r.0 r.1 refl r.2, r.3, r.4)

-- ---- threads

handles_rise : (ts : List ThreadActions) → Rising (map thread_seen ts) → (p q : ℕ) (t u : ThreadActions) → p < q → slice_get ts p ≡ Some t → slice_get ts q ≡ Some u → t.handle < u.handle
handles_rise ts r p q t u l e f =
    let d = thread_seen t in
    let a = get_map thread_seen ts p t e in
    let b = get_map thread_seen ts q u f in
    let h : (get_or (map thread_seen ts) p d).handle < (get_or (map thread_seen ts) q d).handle = r p q d l (slice_get_within (map thread_seen ts) q (thread_seen u) b) in
    let first : (get_or (map thread_seen ts) p d).handle ≡ t.handle = ap (λ z. z.handle) (get_or_from_slice_get (map thread_seen ts) p (thread_seen t) d a) in
    let second : (get_or (map thread_seen ts) q d).handle ≡ u.handle = ap (λ z. z.handle) (get_or_from_slice_get (map thread_seen ts) q (thread_seen u) d b) in
    omega arith

-- ---- the numbering

module _ (ts : List ThreadActions) (rf : List RfPair) (co : List (List Event)) (rising : Rising (map thread_seen ts)) where
  abbrev seen : Execution
  seen = execution_seen ts rf co

  abbrev all : List Node
  all = nodes_of 0 ts

  acts_at : (p : ℕ) (t : ThreadActions) → slice_get ts p ≡ Some t → actions_of seen.threads t.handle ≡ t.actions
  acts_at p t e = actions_of-thread (map thread_seen ts) rising p (thread_seen t) (get_map thread_seen ts p t e)

  complete : (h i : ℕ) (p : Action) → action_at seen (At h i) ≡ Some p → (n : ℕ) × (v : Node) × (slice_get all n ≡ Some v) × (v.handle ≡ h) × (v.index ≡ i)
  complete h i p e =
      let a = acts_from (map thread_seen ts) h i p e in
      let m = get_from_map thread_seen ts a.place a.thread a.there in
      let acts : slice_get m.0.actions i ≡ Some p = subst (λ t. slice_get t.actions i ≡ Some p) (sym m.2) a.acts in
      let same : m.0.handle ≡ h = ap (λ t. t.handle) m.2 ∙ a.same_handle in
      let r = nodes_have 0 ts a.place i m.0 p m.1 acts in
      (r.0, r.1, r.2, r.3 ∙ same, r.4)

  sound : (n : ℕ) (v : Node) → slice_get all n ≡ Some v → action_at seen (node_event v) ≡ Some v.action
  sound n v e =
      let o = of_thread 0 ts n v e in
      let i : v.index ≡ o.k = (let x = o.node.index in omega arith) in
      subst (λ h. slice_get (actions_of seen.threads h) v.index ≡ Some v.action) (sym o.node.handle)
      (subst (λ l. slice_get l v.index ≡ Some v.action) (sym (acts_at o.place o.thread o.there))
      (subst (λ k. slice_get o.thread.actions k ≡ Some v.action) (sym i) o.node.action))

  -- the index of a node's action is within its thread
  within : (n : ℕ) (v : Node) (o : OfThread 0 ts n v) → o.k < length o.thread.actions
  within n v o = slice_get_within o.thread.actions o.k v.action o.node.action

  -- a node with a lower number is not of a later thread
  in_turn : (n m : ℕ) (v w : Node) (o : OfThread 0 ts n v) (q : OfThread 0 ts m w) → n ≤ m → (o.place < q.place) ⊎ (o.place ≡ q.place)
  in_turn n m v w o q l =
      ⊎_elim (λ e. inr e)
      (⊎_elim (λ b. inl b) (λ b.
      let h = base_rises 0 ts q.place o.place q.thread b q.there in
      let k = within m w q in
      let i = o.is in
      let j = q.is in
      absurd (omega arith)))
      (cases_order o.place q.place)

  one_thread : (n m : ℕ) (v w : Node) (o : OfThread 0 ts n v) (q : OfThread 0 ts m w) → o.place ≡ q.place → o.thread ≡ q.thread
  one_thread n m v w o q e = same_Some o.thread q.thread (sym o.there ∙ ap (slice_get ts) e ∙ q.there)

  earlier : (n m : ℕ) (v w : Node) → n < m → slice_get all n ≡ Some v → slice_get all m ≡ Some w → Earlier v w
  earlier n m v w l e f =
      let o = of_thread 0 ts n v e in
      let q = of_thread 0 ts m w f in
      let vh = o.node.handle in
      let wh = q.node.handle in
      let vi = o.node.index in
      let wi = q.node.index in
      ⊎_elim
      (λ b. inl (let h = handles_rise ts rising o.place q.place o.thread q.thread b o.there q.there in omega arith))
      (λ b.
      let t = ap (λ z. z.handle) (one_thread n m v w o q b) in
      let base = ap (base_of 0 ts) b in
      let i = o.is in
      let j = q.is in
      inr (omega arith, omega arith))
      (in_turn n m v w o q (omega arith))

  start_le : (acts : List Action) (k : ℕ) → start_of acts k ≤ k
  start_le acts k = bounded (section_from None 0 acts k) refl
    where
      bounded : (s : Option ℕ) → section_from None 0 acts k ≡ s → unwrap_or s k ≤ k
      bounded None e = omega arith
      bounded (Some p) e = ⊎_elim (λ b. absurd (none-some p b)) (λ r. let i = r.is in let l = r.within in omega arith) (opens_in None 0 acts k p e)

  block_is : (n : ℕ) (v : Node) (o : OfThread 0 ts n v) → v.block ≡ base_of 0 ts o.place + start_of o.thread.actions o.k
  block_is n v o =
      let e : 0 + o.k ≡ o.k = omega arith in
      o.node.block ∙ ap (λ k. base_of 0 ts o.place + unwrap_or (section_from None 0 o.thread.actions o.k) k) e

  block_below : (n : ℕ) (v : Node) → slice_get all n ≡ Some v → v.block < length all
  block_below n v e =
      let o = of_thread 0 ts n v e in
      let b = block_is n v o in
      let s = start_le o.thread.actions o.k in
      let i = o.is in
      let l = slice_get_within all n v e in
      omega arith

  block_rises : (n m : ℕ) (v w : Node) → n ≤ m → slice_get all n ≡ Some v → slice_get all m ≡ Some w → v.block ≤ w.block
  block_rises n m v w l e f =
      let o = of_thread 0 ts n v e in
      let q = of_thread 0 ts m w f in
      let b = block_is n v o in
      let d = block_is m w q in
      ⊎_elim
      (λ h.
      let r = base_rises 0 ts o.place q.place o.thread h o.there in
      let s = start_le o.thread.actions o.k in
      let k = within n v o in
      omega arith)
      (λ h.
      let t : o.thread ≡ q.thread = one_thread n m v w o q h in
      let base : base_of 0 ts o.place ≡ base_of 0 ts q.place = ap (base_of 0 ts) h in
      let i = o.is in
      let j = q.is in
      let r : unwrap_or (section_from None 0 q.thread.actions o.k) (0 + o.k) ≤ unwrap_or (section_from None 0 q.thread.actions q.k) (0 + q.k) = section_rises None 0 q.thread.actions o.k q.k (λ p g. absurd (none-some p g)) (omega arith) (within m w q) in
      let x : 0 + o.k ≡ o.k = omega arith in
      let y : 0 + q.k ≡ q.k = omega arith in
      let c = ap (λ k. unwrap_or (section_from None 0 q.thread.actions o.k) k) x in
      let g = ap (λ k. unwrap_or (section_from None 0 q.thread.actions q.k) k) y in
      let a : start_of o.thread.actions o.k ≡ start_of q.thread.actions o.k = ap (λ z. start_of z.actions o.k) t in
      omega (arith, r, c, g, a, b, d, base))
      (in_turn n m v w o q l)

  -- where blocks start at one place, the actions are one or stand in one section
  one_start : (acts : List Action) (i j : ℕ) → start_of acts i ≡ start_of acts j → (i ≡ j) ⊎ ((p : ℕ) × (section_from None 0 acts i ≡ Some p) × (section_from None 0 acts j ≡ Some p))
  one_start acts i j e = split (section_from None 0 acts i) (section_from None 0 acts j) refl refl e
    where
      -- a section that opens where no section is
      outside : (i j p : ℕ) → section_from None 0 acts i ≡ Some p → section_from None 0 acts j ≡ None → p ≡ j → ⊥
      outside i j p f g h =
          ⊎_elim (λ b. none-some p b)
          (λ r.
          let k = r.is in
          let same : r.place ≡ j = omega arith in
          none-some p (sym g ∙ subst (λ m. section_from None 0 acts m ≡ Some p) same r.itself))
          (opens_in None 0 acts i p f)

      split : (s t : Option ℕ) → section_from None 0 acts i ≡ s → section_from None 0 acts j ≡ t → unwrap_or s i ≡ unwrap_or t j → (i ≡ j) ⊎ ((p : ℕ) × (section_from None 0 acts i ≡ Some p) × (section_from None 0 acts j ≡ Some p))
      split None None f g h = inl h
      split (Some p) None f g h = absurd (outside i j p f g h)
      split None (Some p) f g h = absurd (outside j i p g f (sym h))
      split (Some p) (Some q) f g h = inr (p, f, g ∙ ap Some (sym h))

  section_at : (n : ℕ) (v : Node) (o : OfThread 0 ts n v) → section_of seen (node_event v) ≡ section_from None 0 o.thread.actions o.k
  section_at n v o =
      let i : v.index ≡ o.k = (let x = o.node.index in omega arith) in
      ap (λ h. section_from None 0 (actions_of seen.threads h) v.index) o.node.handle ∙ ap (λ l. section_from None 0 l v.index) (acts_at o.place o.thread o.there) ∙ ap (section_from None 0 o.thread.actions) i

  both_some : (s t : Option ℕ) (p : ℕ) → s ≡ Some p → t ≡ Some p → same_option s t ≡ true
  both_some s t p e f = subst (λ z. same_option z t ≡ true) (sym e) (subst (λ z. same_option (Some p) z ≡ true) (sym f) (eq-eqb p p refl))

  some_both : (s t : Option ℕ) → same_option s t ≡ true → (p : ℕ) × (s ≡ Some p) × (t ≡ Some p)
  some_both (Some c) (Some d) e = (c, refl, ap Some (sym (eqb-true c d e)))
  some_both (Some c) None e = cc
  some_both None d e = cc

  -- the same thread, and a start at one place
  same_start : (n m : ℕ) (v w : Node) (o : OfThread 0 ts n v) (q : OfThread 0 ts m w) → v.block ≡ w.block → (o.place ≡ q.place) × (start_of q.thread.actions o.k ≡ start_of q.thread.actions q.k)
  same_start n m v w o q e =
      let b = block_is n v o in
      let d = block_is m w q in
      let s = start_le o.thread.actions o.k in
      let k = within n v o in
      let t = start_le q.thread.actions q.k in
      let i = within m w q in
      ⊎_elim
      (λ h.
      let base : base_of 0 ts o.place ≡ base_of 0 ts q.place = ap (base_of 0 ts) h in
      let a : start_of o.thread.actions o.k ≡ start_of q.thread.actions o.k = ap (λ z. start_of z.actions o.k) (one_thread n m v w o q h) in
      (h, omega (arith, b, d, e, base, a)))
      (⊎_elim
      (λ h. let r = base_rises 0 ts o.place q.place o.thread h o.there in absurd (omega arith))
      (λ h. let r = base_rises 0 ts q.place o.place q.thread h q.there in absurd (omega arith)))
      (cases_order o.place q.place)

  same_block : (n m : ℕ) (v w : Node) → slice_get all n ≡ Some v → slice_get all m ≡ Some w → v.block ≡ w.block → SameBlock seen (node_event v) (node_event w)
  same_block n m v w e f b =
      let o = of_thread 0 ts n v e in
      let q = of_thread 0 ts m w f in
      let s = same_start n m v w o q b in
      let t = one_thread n m v w o q s.0 in
      let h : v.handle ≡ w.handle = o.node.handle ∙ ap (λ z. z.handle) t ∙ sym q.node.handle in
      let x = o.node.index in
      let y = q.node.index in
      ⊎_elim
      (λ i. (h, inl (omega arith)))
      (λ r.
      let first : section_of seen (node_event v) ≡ Some r.0 = section_at n v o ∙ ap (λ z. section_from None 0 z.actions o.k) t ∙ r.1 in
      let second : section_of seen (node_event w) ≡ Some r.0 = section_at m w q ∙ r.2 in
      same_section-same_block seen (node_event v) (node_event w) (and_from (nat_eq v.handle w.handle) (same_option (section_of seen (node_event v)) (section_of seen (node_event w))) (eq-eqb v.handle w.handle h) (both_some (section_of seen (node_event v)) (section_of seen (node_event w)) r.0 first second)))
      (one_start q.thread.actions o.k q.k s.1)

  -- nodes with one handle are of one thread
  one_place : (n m : ℕ) (v w : Node) (o : OfThread 0 ts n v) (q : OfThread 0 ts m w) → v.handle ≡ w.handle → o.place ≡ q.place
  one_place n m v w o q h =
      let a = o.node.handle in
      let b = q.node.handle in
      ⊎_elim (λ e. e)
      (⊎_elim
      (λ l. let r = handles_rise ts rising o.place q.place o.thread q.thread l o.there q.there in absurd (omega arith))
      (λ l. let r = handles_rise ts rising q.place o.place q.thread o.thread l q.there o.there in absurd (omega arith)))
      (cases_order o.place q.place)

  one_block : (n m : ℕ) (v w : Node) → slice_get all n ≡ Some v → slice_get all m ≡ Some w → SameBlock seen (node_event v) (node_event w) → v.block ≡ w.block
  one_block n m v w e f s =
      let o = of_thread 0 ts n v e in
      let q = of_thread 0 ts m w f in
      let p = one_place n m v w o q s.0 in
      let t = one_thread n m v w o q p in
      let base : base_of 0 ts o.place ≡ base_of 0 ts q.place = ap (base_of 0 ts) p in
      let b = block_is n v o in
      let d = block_is m w q in
      let x = o.node.index in
      let y = q.node.index in
      let moved : start_of o.thread.actions o.k ≡ start_of q.thread.actions o.k = ap (λ z. start_of z.actions o.k) t in
      ⊎_elim
      (λ i. let k : o.k ≡ q.k = omega arith in let g = ap (start_of q.thread.actions) k in omega (arith, b, d, base, moved, g))
      (λ r.
      let tests = and_parts (nat_eq v.handle w.handle) (same_option (section_of seen (node_event v)) (section_of seen (node_event w))) (one_section-same_section seen v.handle w.handle v.index w.index s.0 r) in
      let both = some_both (section_of seen (node_event v)) (section_of seen (node_event w)) tests.1 in
      let first : section_from None 0 q.thread.actions o.k ≡ Some both.0 = ap (λ z. section_from None 0 z.actions o.k) (sym t) ∙ sym (section_at n v o) ∙ both.1 in
      let second : section_from None 0 q.thread.actions q.k ≡ Some both.0 = sym (section_at m w q) ∙ both.2 in
      let g = ap (λ z. unwrap_or z o.k) first in
      let c = ap (λ z. unwrap_or z q.k) second in
      omega (arith, b, d, base, moved, g, c))
      s.1

  pub numbered-is : IsNumbering seen all
  numbered-is = record { complete = complete; sound = sound; rising = earlier; same_block = same_block; one_block = one_block; block_below = block_below; block_rises = block_rises }
