-- The section that holds a place of a list of actions, by a function that reads the list once; and by it a test of "in one section".
use Rattle.std.proofs.Common.{◌≡◌, ℕ, zero, suc, ◌+◌, ◌<◌, ◌≤◌, List, [], ◌∷◌, Bool, true, false, ◌&&◌, Option, Some, None, refl, sym, ap, subst, ⊎_elim, inl, inr, arith}
use Rattle.std.specs.Prelude.{◌⊎◌, slice_get, nat_eq, length}
use Rattle.std.proofs.lemmas.Bool.{and_parts, and_from, eqb-true, eq-eqb}
use Rattle.axiom_model.specs.declared.Action.{Action}
use Rattle.axiom_model.specs.declared.Action.TheVariants.{Open, Close}
use Rattle.axiom_model.specs.declared.Event.{Event}
use Rattle.axiom_model.specs.declared.Event.TheVariants.{Initial, At}
use Rattle.axiom_model.specs.Execution.{Execution, actions_of, InSection, OneSection, SameBlock}
use Rattle.axiom_model.proofs.PairTests.{same_option}

abbrev pub opens : Action → Bool
opens Open = true
opens _ = false

-- the section that holds the action at n, by the place of its Open: s, the one that is open before, or one that opens here
abbrev pub held : Option ℕ → ℕ → Action → Option ℕ
held (Some o) n a = Some o
held None n Open = Some n
held None n _ = None

-- the section that is open behind the action
abbrev pub behind : Option ℕ → ℕ → Action → Option ℕ
behind s n Close = None
behind s n a = held s n a

-- the section that holds place i of a list whose first action is at n
abbrev pub section_from : Option ℕ → ℕ → List Action → ℕ → Option ℕ
section_from s n [] i = None
section_from s n (a ∷ acts) zero = held s n a
section_from s n (a ∷ acts) (suc i) = section_from (behind s n a) (n + 1) acts i

-- ---- places of one section have the same answer

-- no Close stands before place i
abbrev NoClose : List Action → ℕ → Type 0
NoClose acts i = (k : ℕ) → k < i → slice_get acts k ≡ Some Close → ⊥

behind_open : (o n : ℕ) (a : Action) → (a ≡ Close → ⊥) → behind (Some o) n a ≡ Some o
behind_open o n Close c = absurd (c refl)
behind_open o n _ c = refl

stays : (o n : ℕ) (acts : List Action) (i : ℕ) → i < length acts → NoClose acts i → section_from (Some o) n acts i ≡ Some o
stays o n [] i l c = absurd (omega (arith, l))
stays o n (a ∷ acts) zero l c = refl
stays o n (a ∷ acts) (suc i) l c =
    let e = behind_open o n a (λ e. c 0 (omega arith) (ap Some e)) in
    subst (λ s. section_from s (n + 1) acts i ≡ Some o) (sym e) (stays o (n + 1) acts i (omega (arith, l)) (λ k m h. c (suc k) (omega arith) h))

-- at an Open some section is open, and it is open behind it
held_at_open : (s : Option ℕ) (n : ℕ) (a : Action) → a ≡ Open → (p : ℕ) × (held s n a ≡ Some p) × (behind s n a ≡ Some p)
held_at_open (Some o) n a e = (o, refl, ap (behind (Some o) n) e)
held_at_open None n a e = (n, ap (held None n) e, ap (behind None n) e)

-- the section that holds both an Open and a later place before its Close
section_at : (s : Option ℕ) (n : ℕ) (acts : List Action) (o : ℕ) → slice_get acts o ≡ Some Open → (p : ℕ) × ((i : ℕ) → InSection acts o i → section_from s n acts i ≡ Some p)
section_at s n [] o e = let f : None ≡ Some Open = e in cc
section_at s n (a ∷ acts) zero e =
    let f : a ≡ Open = let g : Some a ≡ Some Open = e in cc in
    let h = held_at_open s n a f in
    (h.0, at h)
  where
    at : (h : (p : ℕ) × (held s n a ≡ Some p) × (behind s n a ≡ Some p)) → (i : ℕ) → InSection (a ∷ acts) zero i → section_from s n (a ∷ acts) i ≡ Some h.0
    at h zero q = h.1
    at h (suc i) q =
        subst (λ t. section_from t (n + 1) acts i ≡ Some h.0) (sym h.2) (stays h.0 (n + 1) acts i (omega (arith, q.there)) (λ k l c. q.unclosed (suc k) (omega arith) (omega arith) c))
section_at s n (a ∷ acts) (suc o) e =
    let r = section_at (behind s n a) (n + 1) acts o e in
    (r.0, at r)
  where
    at : (r : (p : ℕ) × ((i : ℕ) → InSection acts o i → section_from (behind s n a) (n + 1) acts i ≡ Some p)) → (i : ℕ) → InSection (a ∷ acts) (suc o) i → section_from s n (a ∷ acts) i ≡ Some r.0
    at r zero q = absurd (omega (arith, q.from))
    at r (suc i) q =
        r.1 i (record { opens = q.opens; from = omega (arith, q.from); there = omega (arith, q.there); unclosed = λ k l m c. q.unclosed (suc k) (omega arith) (omega arith) c })

-- ---- and places with the same answer are of one section

-- the section p was open before the list and is so still, or it opens in the list and holds place i
abbrev Found : Option ℕ → ℕ → List Action → ℕ → ℕ → Type 0
Found s n acts i p = ((s ≡ Some p) × (i < length acts) × NoClose acts i) ⊎ ((q : ℕ) × (p ≡ n + q) × InSection acts q i)

found_here : (s : Option ℕ) (n : ℕ) (a : Action) (acts : List Action) (p : ℕ) → held s n a ≡ Some p → Found s n (a ∷ acts) zero p
found_here (Some o) n a acts p e = inl (e, omega arith, λ k l c. absurd (omega (arith, l)))
found_here None n Open acts p e =
    let f : n ≡ p = let g : Some n ≡ Some p = e in cc in
    inr (0, omega arith, record { opens = refl; from = omega arith; there = omega arith; unclosed = λ k l m c. absurd (omega (arith, l, m)) })
found_here None n _ acts p e = let f : None ≡ Some p = e in cc

no_close_more : (a : Action) (acts : List Action) (i : ℕ) → (a ≡ Close → ⊥) → NoClose acts i → NoClose (a ∷ acts) (suc i)
no_close_more a acts i n c zero l e = n (let f : Some a ≡ Some Close = e in cc)
no_close_more a acts i n c (suc k) l e = c k (omega arith) e

behind_held : (s : Option ℕ) (n : ℕ) (a : Action) (p : ℕ) → behind s n a ≡ Some p → (a ≡ Close → ⊥) × (held s n a ≡ Some p)
behind_held s n Close p e = let f : None ≡ Some p = e in cc
behind_held s n _ p e = (λ x. cc, e)

found_before : (s : Option ℕ) (n : ℕ) (a : Action) (acts : List Action) (i p : ℕ) → held s n a ≡ Some p → i < length acts → NoClose (a ∷ acts) (suc i) → Found s n (a ∷ acts) (suc i) p
found_before (Some o) n a acts i p e l c = inl (e, omega (arith, l), c)
found_before None n Open acts i p e l c =
    let f : n ≡ p = let g : Some n ≡ Some p = e in cc in
    inr (0, omega arith, record { opens = refl; from = omega arith; there = omega (arith, l); unclosed = λ k a b. c k b })
found_before None n _ acts i p e l c = let f : None ≡ Some p = e in cc

found : (s : Option ℕ) (n : ℕ) (acts : List Action) (i p : ℕ) → section_from s n acts i ≡ Some p → Found s n acts i p
found s n [] i p e = let f : None ≡ Some p = e in cc
found s n (a ∷ acts) zero p e = found_here s n a acts p e
found s n (a ∷ acts) (suc i) p e =
    ⊎_elim before later (found (behind s n a) (n + 1) acts i p e)
  where
    before : (behind s n a ≡ Some p) × (i < length acts) × NoClose acts i → Found s n (a ∷ acts) (suc i) p
    before h =
        let b = behind_held s n a p h.0 in
        found_before s n a acts i p b.1 h.1 (no_close_more a acts i b.0 h.2)

    later : ((q : ℕ) × (p ≡ n + 1 + q) × InSection acts q i) → Found s n (a ∷ acts) (suc i) p
    later h = inr (suc h.0, omega (arith, h.1), record { opens = h.2.opens; from = omega (arith, h.2.from); there = omega (arith, h.2.there); unclosed = unclosed h.2 })
      where
        unclosed : InSection acts h.0 i → (k : ℕ) → suc h.0 ≤ k → k < suc i → slice_get (a ∷ acts) k ≡ Some Close → ⊥
        unclosed q zero l m c = absurd (omega (arith, l))
        unclosed q (suc k) l m c = q.unclosed k (omega arith) (omega arith) c

-- ---- two events in one section

abbrev pub section_of : Execution → Event → Option ℕ
section_of x Initial = None
section_of x (At h i) = section_from None 0 (actions_of x.threads h) i

abbrev pub same_handle : Event → Event → Bool
same_handle (At h i) (At k j) = nat_eq h k
same_handle _ _ = false

-- both events stand in one section of a thread
abbrev pub same_section : Execution → Event → Event → Bool
same_section x a b = same_handle a b && same_option (section_of x a) (section_of x b)

same_option_at : (c d : Option ℕ) → same_option c d ≡ true → (p : ℕ) × (c ≡ Some p) × (d ≡ Some p)
same_option_at (Some c) (Some d) t = (c, refl, ap Some (sym (eqb-true c d t)))
same_option_at (Some c) None t = cc
same_option_at None d t = cc

-- a place whose answer is p is held by the section that opens at p
in_section : (acts : List Action) (i p : ℕ) → section_from None 0 acts i ≡ Some p → InSection acts p i
in_section acts i p e =
    ⊎_elim (λ h. let f : None ≡ Some p = h.0 in cc) (λ h. subst (λ q. InSection acts q i) (let f : h.0 ≡ p = omega (arith, h.1) in f) h.2) (found None 0 acts i p e)

-- events in one section by the test are in one block
pub same_section-same_block : (x : Execution) (a b : Event) → same_section x a b ≡ true → SameBlock x a b
same_section-same_block x Initial b t = cc
same_section-same_block x (At h i) Initial t = cc
same_section-same_block x (At h i) (At k j) t =
    let p = and_parts (nat_eq h k) (same_option (section_of x (At h i)) (section_of x (At k j))) t in
    let e : h ≡ k = eqb-true h k p.0 in
    let s = same_option_at (section_of x (At h i)) (section_of x (At k j)) p.1 in
    (e, inr (s.0, subst (λ n. InSection (actions_of x.threads n) s.0 i) e (in_section (actions_of x.threads h) i s.0 s.1), in_section (actions_of x.threads k) j s.0 s.2))

-- events in one section are so by the test
pub one_section-same_section : (x : Execution) (h k i j : ℕ) → h ≡ k → OneSection (actions_of x.threads k) i j → same_section x (At h i) (At k j) ≡ true
one_section-same_section x h k i j e o =
    let r = section_at None 0 (actions_of x.threads k) o.0 o.1.opens in
    let first : section_of x (At h i) ≡ Some r.0 = subst (λ n. section_of x (At n i) ≡ Some r.0) (sym e) (r.1 i o.1) in
    let second : section_of x (At k j) ≡ Some r.0 = r.1 j o.2 in
    and_from (nat_eq h k) (same_option (section_of x (At h i)) (section_of x (At k j))) (eq-eqb h k e) (rw (first, second) (eq-eqb r.0 r.0 refl))
