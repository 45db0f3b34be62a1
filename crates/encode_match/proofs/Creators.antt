-- The steps that create the parts, and the actions that they make.
use Rattle.std.proofs.Common.{◌≡◌, ℕ, zero, suc, ◌+◌, ◌*◌, ◌<◌, ◌≤◌, ◌⊎◌, inl, inr, ⊎_elim, Bool, true, false, cond, List, [], ◌∷◌, ◌++◌, length, refl, ap, sym, ◌∙◌, subst, arith}
use Rattle.std.specs.Prelude.{Some, slice_get, Contains}
use Rattle.std.proofs.lemmas.Bool.{true≢false}
use Rattle.std.proofs.lemmas.Option.{same_Some, slice_get_within}
use Rattle.std.proofs.lemmas.List.Elements.{Contains-append_left, Contains-append_right}
use Rattle.dg_base.proofs.Lists.{get_nothing, get_append_cases, contains_nothing, contains_head, contains_cases}
use Rattle.axiom_model.specs.declared.Action.{Action}
use Rattle.axiom_model.specs.declared.Action.TheVariants as action
use Rattle.bv_term.specs.declared.term.TermId.{TermId}
use Rattle.run_model.specs.Laws.{IsNumbered, creates_in}
use Rattle.flat_prog.specs.Shape.{counted}
use Rattle.ssa_form.specs.declared.SsaPart.{SsaPart}
use Rattle.ssa_form.specs.declared.SsaStep.{SsaStep}
use Rattle.ssa_form.specs.declared.SsaAct.{SsaAct}
use Rattle.ssa_form.specs.declared.SsaAct.TheVariants as act
use Rattle.ssa_form.specs.Parts.{Valuation, created_by, created_in, created_in_all, is_made, made_of, action_by, actions_in}

-- ---- actions of steps that are made

kept_in : (ps : List SsaPart) (v : Valuation) (t : SsaStep) (ms : List SsaStep) (a : Action) (b : Bool) → Contains (actions_in ps v ms) a → Contains (actions_in ps v (cond b (t ∷ ms) ms)) a
kept_in ps v t ms a true c = Contains-append_right (action_by ps v t.act) (actions_in ps v ms) a c
kept_in ps v t ms a false c = c

pub made_in : (ps : List SsaPart) (v : Valuation) (ss : List SsaStep) (k : ℕ) (s : SsaStep) (a : Action) → slice_get ss k ≡ Some s → is_made v s ≡ true → action_by ps v s.act ≡ a ∷ [] → Contains (actions_in ps v (made_of v ss)) a
made_in ps v [] k s a h m e = absurd (get_nothing k s h)
made_in ps v (t ∷ ss) zero s a h m e =
    let same : t ≡ s = same_Some t s h in
    let made : is_made v t ≡ true = ap (is_made v) same ∙ m in
    let act : action_by ps v t.act ≡ a ∷ [] = ap (λ (z : SsaStep). action_by ps v z.act) same ∙ e in
    subst (λ (b : Bool). Contains (actions_in ps v (cond b (t ∷ made_of v ss) (made_of v ss))) a) (sym made)
    (Contains-append_left (action_by ps v t.act) (actions_in ps v (made_of v ss)) a (subst (λ (l : List Action). Contains l a) (sym act) (contains_head a [])))
made_in ps v (t ∷ ss) (suc k) s a h m e = kept_in ps v t (made_of v ss) a (is_made v t) (made_in ps v ss k s a h m e)

-- ---- handles of creates

abbrev handle_of : Action → ℕ
handle_of (action.Create h f v) = h
handle_of _ = 0

abbrev creates : Action → Bool
creates (action.Create h f v) = true
creates _ = false

-- a create of a numbered list has a handle behind those before it, and at most so many
pub record Bounds (own n : ℕ) (acts : List Action) (h : ℕ) : Type 0 where
  pub low : 64 * own + n + 1 ≤ h
  pub high : h ≤ 64 * own + n + creates_in acts

pub bounds : (own n : ℕ) (acts : List Action) (h f v : ℕ) → IsNumbered own n acts → Contains acts (action.Create h f v) → Bounds own n acts h
bounds own n [] h f v p c = absurd (contains_nothing (action.Create h f v) c)
bounds own n (action.Create k g w ∷ acts) h f v p c =
    ⊎_elim
    (λ e. let same : h ≡ k = ap handle_of e in record { low = omega (arith, same, p.0); high = omega (arith, same, p.0) })
    (λ d. let r = bounds own (n + 1) acts h f v p.1 d in record { low = omega (arith, r.low); high = omega (arith, r.high) })
    (contains_cases (action.Create k g w) (action.Create h f v) acts c)
bounds own n (a ∷ acts) h f v p c =
    ⊎_elim
    (λ e. absurd (true≢false (ap creates e)))
    (λ d. let r = bounds own n acts h f v p d in record { low = r.low; high = r.high })
    (contains_cases a (action.Create h f v) acts c)

-- what is behind some actions is numbered too, from some number on
abbrev Numbered : ℕ → ℕ → List Action → Type 0
Numbered own n acts = (k : ℕ) × (n ≤ k) × IsNumbered own k acts

one_less : (own n : ℕ) (a : Action) (acts : List Action) → IsNumbered own n (a ∷ acts) → Numbered own n acts
one_less own n (action.Create h f v) acts p = (n + 1, omega arith, p.1)
one_less own n a acts p = (n, omega arith, p)

behind_these : (own n : ℕ) (xs ys : List Action) → IsNumbered own n (xs ++ ys) → Numbered own n ys
behind_these own n [] ys p = (n, omega arith, p)
behind_these own n (a ∷ xs) ys p =
    let r = one_less own n a (xs ++ ys) p in
    let q = behind_these own r.0 xs ys r.2 in
    (q.0, omega (arith, r.1, q.1), q.2)

behind_step : (ps : List SsaPart) (v : Valuation) (own n : ℕ) (t : SsaStep) (ms : List SsaStep) (b : Bool) → IsNumbered own n (actions_in ps v (cond b (t ∷ ms) ms)) → Numbered own n (actions_in ps v ms)
behind_step ps v own n t ms true p = behind_these own n (action_by ps v t.act) (actions_in ps v ms) p
behind_step ps v own n t ms false p = (n, omega arith, p)

-- a step that is made and creates a thread, with the handle's term
pub record Creator (v : Valuation) (ss : List SsaStep) (k : ℕ) (handle : TermId) : Type 0 where
  pub step : SsaStep
  pub instance : ℕ
  pub arg : TermId
  pub there : slice_get ss k ≡ Some step
  pub made : is_made v step ≡ true
  pub is_create : step.act ≡ act.Create instance handle arg

-- what it does
pub creator_acts : (ps : List SsaPart) (v : Valuation) (ss : List SsaStep) (k : ℕ) (handle : TermId) → Creator v ss k handle → (f : ℕ) × (a : ℕ) × Contains (actions_in ps v (made_of v ss)) (action.Create (v handle) f a)
creator_acts ps v ss k handle c = (_, _, made_in ps v ss k c.step (action.Create (v handle) _ (v c.arg)) c.there c.made (ap (action_by ps v) c.is_create))

creator_behind : (v : Valuation) (t : SsaStep) (ss : List SsaStep) (k : ℕ) (handle : TermId) → Creator v (t ∷ ss) (suc k) handle → Creator v ss k handle
creator_behind v t ss k handle c = record { step = c.step; instance = c.instance; arg = c.arg; there = c.there; made = c.made; is_create = c.is_create }

first_number : (ps : List SsaPart) (v : Valuation) (own n : ℕ) (t : SsaStep) (ms : List SsaStep) (i : ℕ) (handle arg : TermId) → is_made v t ≡ true → t.act ≡ act.Create i handle arg
    → IsNumbered own n (actions_in ps v (cond (is_made v t) (t ∷ ms) ms)) → (v handle ≡ 64 * own + n + 1) × IsNumbered own (n + 1) (actions_in ps v ms)
first_number ps v own n t ms i handle arg m e p =
    let q : IsNumbered own n (actions_in ps v (t ∷ ms)) = subst (λ (b : Bool). IsNumbered own n (actions_in ps v (cond b (t ∷ ms) ms))) m p in
    subst (λ (a : SsaAct). IsNumbered own n (action_by ps v a ++ actions_in ps v ms)) e q

-- the handles of two creators of one run are in their order
pub in_order : (ps : List SsaPart) (v : Valuation) (own n : ℕ) (ss : List SsaStep) (k l : ℕ) (a b : TermId) → IsNumbered own n (actions_in ps v (made_of v ss)) → k < l → Creator v ss k a → Creator v ss l b → v a < v b
in_order ps v own n [] k l a b p h c d = absurd (get_nothing k c.step c.there)
in_order ps v own n (t ∷ ss) k zero a b p h c d = absurd (omega (arith, h))
in_order ps v own n (t ∷ ss) zero (suc l) a b p h c d =
    let same : t ≡ c.step = same_Some t c.step c.there in
    let q = first_number ps v own n t (made_of v ss) c.instance a c.arg (ap (is_made v) same ∙ c.made) (ap (λ (z : SsaStep). z.act) same ∙ c.is_create) p in
    let r = creator_acts ps v ss l b (creator_behind v t ss l b d) in
    let u = bounds own (n + 1) (actions_in ps v (made_of v ss)) (v b) r.0 r.1 q.1 r.2 in
    omega (arith, q.0, u.low)
in_order ps v own n (t ∷ ss) (suc k) (suc l) a b p h c d =
    let q = behind_step ps v own n t (made_of v ss) (is_made v t) p in
    in_order ps v own q.0 ss k l a b q.2 (omega (arith, h)) (creator_behind v t ss k a c) (creator_behind v t ss l b d)

-- ---- which steps create the parts

-- the step at this place creates the instance
pub record CreatesIn (ss : List SsaStep) (k j : ℕ) : Type 0 where
  pub step : SsaStep
  pub handle : TermId
  pub arg : TermId
  pub there : slice_get ss k ≡ Some step
  pub is_create : step.act ≡ act.Create j handle arg

abbrev Found : List SsaStep → ℕ → Type 0
Found ss j = (k : ℕ) × CreatesIn ss k j

abbrev FoundTwo : List SsaStep → ℕ → ℕ → Type 0
FoundTwo ss i j = (k : ℕ) × (l : ℕ) × (k < l) × CreatesIn ss k i × CreatesIn ss l j

creates_behind : (t : SsaStep) (ss : List SsaStep) (k j : ℕ) → CreatesIn ss k j → CreatesIn (t ∷ ss) (suc k) j
creates_behind t ss k j c = record { step = c.step; handle = c.handle; arg = c.arg; there = c.there; is_create = c.is_create }

found_by : (t : SsaStep) (ss : List SsaStep) (a : SsaAct) → t.act ≡ a → ((m j : ℕ) → slice_get (created_in ss) m ≡ Some j → Found ss j) → (m j : ℕ) → slice_get (created_by a ++ created_in ss) m ≡ Some j → Found (t ∷ ss) j
found_by t ss (act.Create i handle arg) e rest zero j h =
    (zero, record { step = t; handle = handle; arg = arg; there = refl; is_create = e ∙ ap (λ (n : ℕ). act.Create n handle arg) (same_Some i j h) })
found_by t ss (act.Create i handle arg) e rest (suc m) j h = let r = rest m j h in (suc r.0, creates_behind t ss r.0 j r.1)
found_by t ss a e rest m j h = let r = rest m j h in (suc r.0, creates_behind t ss r.0 j r.1)

pub found : (ss : List SsaStep) (m j : ℕ) → slice_get (created_in ss) m ≡ Some j → Found ss j
found [] m j h = absurd (get_nothing m j h)
found (t ∷ ss) m j h = found_by t ss t.act refl (found ss) m j h

two_by : (t : SsaStep) (ss : List SsaStep) (a : SsaAct) → t.act ≡ a → ((m n i j : ℕ) → m < n → slice_get (created_in ss) m ≡ Some i → slice_get (created_in ss) n ≡ Some j → FoundTwo ss i j)
    → (m n i j : ℕ) → m < n → slice_get (created_by a ++ created_in ss) m ≡ Some i → slice_get (created_by a ++ created_in ss) n ≡ Some j → FoundTwo (t ∷ ss) i j
two_by t ss (act.Create c handle arg) e rest m zero i j l h k = absurd (omega (arith, l))
two_by t ss (act.Create c handle arg) e rest zero (suc n) i j l h k =
    let r = found ss n j k in
    (zero, suc r.0, omega arith, record { step = t; handle = handle; arg = arg; there = refl; is_create = e ∙ ap (λ (y : ℕ). act.Create y handle arg) (same_Some c i h) }, creates_behind t ss r.0 j r.1)
two_by t ss (act.Create c handle arg) e rest (suc m) (suc n) i j l h k =
    let r = rest m n i j (omega (arith, l)) h k in (suc r.0, suc r.1, omega (arith, r.2), creates_behind t ss r.0 i r.3, creates_behind t ss r.1 j r.4)
two_by t ss a e rest m n i j l h k =
    let r = rest m n i j l h k in (suc r.0, suc r.1, omega (arith, r.2), creates_behind t ss r.0 i r.3, creates_behind t ss r.1 j r.4)

found_two : (ss : List SsaStep) (m n i j : ℕ) → m < n → slice_get (created_in ss) m ≡ Some i → slice_get (created_in ss) n ≡ Some j → FoundTwo ss i j
found_two [] m n i j l h k = absurd (get_nothing m i h)
found_two (t ∷ ss) m n i j l h k = two_by t ss t.act refl (found_two ss) m n i j l h k

-- the part at place c, whose step at place k creates the instance
pub record CreatedBy (ps : List SsaPart) (j c k : ℕ) : Type 0 where
  pub part : SsaPart
  pub there : slice_get ps c ≡ Some part
  pub by : CreatesIn part.steps k j
  pub listed : (m : ℕ) × (slice_get (created_in part.steps) m ≡ Some j)

abbrev pub Earlier : ℕ → ℕ → ℕ → ℕ → Type 0
Earlier c k d l = (c < d) ⊎ ((c ≡ d) × (k < l))

pub record TwoCreated (ps : List SsaPart) (i j : ℕ) : Type 0 where
  pub first_part : ℕ
  pub first_step : ℕ
  pub second_part : ℕ
  pub second_step : ℕ
  pub order : Earlier first_part first_step second_part second_step
  pub first : CreatedBy ps i first_part first_step
  pub second : CreatedBy ps j second_part second_step

created_behind : (p : SsaPart) (ps : List SsaPart) (j c k : ℕ) → CreatedBy ps j c k → CreatedBy (p ∷ ps) j (suc c) k
created_behind p ps j c k r = record { part = r.part; there = r.there; by = r.by; listed = r.listed }

created_first : (p : SsaPart) (ps : List SsaPart) (m j k : ℕ) → slice_get (created_in p.steps) m ≡ Some j → CreatesIn p.steps k j → CreatedBy (p ∷ ps) j zero k
created_first p ps m j k h c = record { part = p; there = refl; by = c; listed = (m, h) }

pub created_at : (ps : List SsaPart) (m j : ℕ) → slice_get (created_in_all ps) m ≡ Some j → (c : ℕ) × (k : ℕ) × CreatedBy ps j c k
created_at [] m j h = absurd (get_nothing m j h)
created_at (p ∷ ps) m j h =
    ⊎_elim
    (λ e. let r = found p.steps m j e in (zero, r.0, created_first p ps m j r.0 e r.1))
    (λ e. let r = created_at ps e.0 j e.2 in (suc r.0, r.1, created_behind p ps j r.0 r.1 r.2))
    (get_append_cases (created_in p.steps) (created_in_all ps) m j h)

later_order : (c k d l : ℕ) → Earlier c k d l → Earlier (suc c) k (suc d) l
later_order c k d l o = ⊎_elim (λ h. inl (omega (arith, h))) (λ h. inr (ap suc h.0, h.1)) o

pub two_created : (ps : List SsaPart) (m n i j : ℕ) → m < n → slice_get (created_in_all ps) m ≡ Some i → slice_get (created_in_all ps) n ≡ Some j → TwoCreated ps i j
two_created [] m n i j l h k = absurd (get_nothing m i h)
two_created (p ∷ ps) m n i j l h k =
    ⊎_elim
    (λ e. ⊎_elim
    (λ d. let r = found_two p.steps m n i j l e d in
    record { first_part = zero; first_step = r.0; second_part = zero; second_step = r.1; order = inr (refl, r.2); first = created_first p ps m i r.0 e r.3; second = created_first p ps n j r.1 d r.4 })
    (λ d. let r = found p.steps m i e in let q = created_at ps d.0 j d.2 in
    record { first_part = zero; first_step = r.0; second_part = suc q.0; second_step = q.1; order = inl (omega arith); first = created_first p ps m i r.0 e r.1; second = created_behind p ps j q.0 q.1 q.2 })
    (get_append_cases (created_in p.steps) (created_in_all ps) n j k))
    (λ e. ⊎_elim
    (λ d. absurd (omega (arith, l, e.1, slice_get_within (created_in p.steps) n j d)))
    (λ d. let r = two_created ps e.0 d.0 i j (omega (arith, l, e.1, d.1)) e.2 d.2 in
    record {
      first_part = suc r.first_part;
      first_step = r.first_step;
      second_part = suc r.second_part;
      second_step = r.second_step;
      order = later_order r.first_part r.first_step r.second_part r.second_step r.order;
      first = created_behind p ps i r.first_part r.first_step r.first;
      second = created_behind p ps j r.second_part r.second_step r.second;
    })
    (get_append_cases (created_in p.steps) (created_in_all ps) n j k))
    (get_append_cases (created_in p.steps) (created_in_all ps) m i h)

counted_at : {A : Type 0} (n k : ℕ) (xs : List A) → k < length xs → slice_get (counted n xs) k ≡ Some (n + k)
counted_at n k [] h = absurd (omega (arith, h))
counted_at n zero (x ∷ xs) h = let same : n ≡ n + 0 = omega arith in ap Some same
counted_at n (suc k) (x ∷ xs) h = let same : (n + 1) + k ≡ n + suc k = omega arith in counted_at (n + 1) k xs (omega (arith, h)) ∙ ap Some same

-- each part but the first is created
pub creation_of : (ps : List SsaPart) (k : ℕ) → 0 ∷ created_in_all ps ≡ counted 0 ps → suc k < length ps → slice_get (created_in_all ps) k ≡ Some (suc k)
creation_of ps k e h = ap (λ (l : List ℕ). slice_get l (suc k)) e ∙ (counted_at 0 (suc k) ps h ∙ (let same : 0 + suc k ≡ suc k = omega arith in ap Some same))
