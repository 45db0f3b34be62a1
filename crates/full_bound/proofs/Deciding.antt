-- Whether there is an edge is decided.
use Rattle.std.proofs.Common.{◌≡◌, ℕ, zero, suc, ◌<◌, ◌≤◌, List, [], ◌∷◌, Option, Some, None, Bool, true, false, length, refl, sym, ap, ◌∙◌, subst, inl, inr, ◌⊎◌, ⊎_elim, arith}
use Rattle.std.specs.Prelude.{slice_get}
use Rattle.std.proofs.lemmas.Bool.{false≢true, cases_Bool, cases_eq, cases_lt}
use Rattle.std.proofs.lemmas.Option.{same_Some, none-some, slice_get_within}
use Rattle.axiom_model.specs.declared.MemoryModel.{MemoryModel}
use Rattle.axiom_model.specs.declared.MemoryModel.TheVariants.{Sc, Tso, Pso}
use Rattle.axiom_model.specs.declared.Action.{Action}
use Rattle.axiom_model.specs.declared.Action.TheVariants.{Read, Open, Close, Create, Join, Start, End}
use Rattle.axiom_model.specs.declared.Event.{Event}
use Rattle.axiom_model.specs.declared.Event.TheVariants.{Initial, At}
use Rattle.axiom_model.specs.declared.RfPair.{RfPair}
use Rattle.axiom_model.specs.Execution.{Execution, actions_of, action_at, IsOf, SameThread, Before, Ordered, cell_of, SameCell, LocalPo, Rf, Precedes, Co, Fr, InSection, OneSection, SameBlock}
use Rattle.axiom_model.specs.Models.{keeps, Kept, GlobalRf, LocalEdge, GlobalEdge}
use Rattle.axiom_model.specs.Models as models
use Rattle.full_bound.proofs.Ascending.{In}
use Rattle.full_bound.proofs.Ranking.{is_event, event_same, event_is}

abbrev pub Dec : Type 0 → Type 0
Dec A = A ⊎ (A → ⊥)

pub dec_and : (A B : Type 0) → Dec A → Dec B → Dec (A × B)
dec_and A B (inl a) (inl b) = inl (a, b)
dec_and A B (inl a) (inr n) = inr (λ z. n z.1)
dec_and A B (inr n) d = inr (λ z. n z.0)

pub dec_or : (A B : Type 0) → Dec A → Dec B → Dec (A ⊎ B)
dec_or A B (inl a) d = inl (inl a)
dec_or A B (inr n) (inl b) = inl (inr b)
dec_or A B (inr n) (inr k) = inr (λ z. ⊎_elim n k z)

pub dec_not : (A : Type 0) → Dec A → Dec (A → ⊥)
dec_not A (inl a) = inr (λ n. n a)
dec_not A (inr n) = inl n

-- the same, by another form of it
pub dec_by : (A B : Type 0) → (A → B) → (B → A) → Dec A → Dec B
dec_by A B f g (inl a) = inl (f a)
dec_by A B f g (inr n) = inr (λ b. n (g b))

pub dec_below : (P : ℕ → Type 0) (n : ℕ) → ((i : ℕ) → Dec (P i)) → Dec ((i : ℕ) × (i < n) × P i)
dec_below P zero d = inr (λ z. omega (arith, z.1))
dec_below P (suc n) d =
    ⊎_elim (λ x. inl (n, omega arith, x))
    (λ no_one. ⊎_elim (λ x. inl (x.0, omega (arith, x.1), x.2))
    (λ k. inr (λ z. ⊎_elim (λ e. no_one (subst P e z.2)) (λ ne. k (z.0, ⊎_elim (λ lt. lt) (λ ge. absurd (ne (omega (arith, ge, z.1)))) (cases_lt z.0 n), z.2)) (cases_eq z.0 n))) (dec_below P n d)) (d n)

pub dec_in : (E : Type 0) (P : E → Type 0) (l : List E) → ((e : E) → In E e l → Dec (P e)) → Dec ((e : E) × In E e l × P e)
dec_in E P [] d = inr (λ z. z.1)
dec_in E P (x ∷ l) d =
    ⊎_elim (λ y. inl (x, inl refl, y))
    (λ no_one. ⊎_elim (λ y. inl (y.0, inr y.1, y.2)) (λ k. inr (λ z. ⊎_elim (λ s. no_one (subst P s z.2)) (λ i. k (z.0, i, z.2)) z.1)) (dec_in E P l (λ e i. d e (inr i))))
    (d x (inl refl))

dec_bool : (b : Bool) → Dec (b ≡ true)
dec_bool true = inl refl
dec_bool false = inr (λ e. false≢true e)

dec_less : (i j : ℕ) → Dec (i < j)
dec_less i j = ⊎_elim inl (λ ge. inr (λ lt. omega (arith, ge, lt))) (cases_lt i j)

dec_most : (i j : ℕ) → Dec (i ≤ j)
dec_most i j = ⊎_elim (λ lt. inr (λ le. omega (arith, lt, le))) inl (cases_lt j i)

dec_event : (a b : Event) → Dec (a ≡ b)
dec_event a b = ⊎_elim (λ t. inl (event_same a b t)) (λ f. inr (λ e. false≢true (sym f ∙ ap (is_event a) (sym e) ∙ event_is a))) (cases_Bool (is_event a b))

-- what an element that is looked up may be
dec_some : (A : Type 0) (P : A → Type 0) (o : Option A) → ((a : A) → o ≡ Some a → Dec (P a)) → Dec ((a : A) × (o ≡ Some a) × P a)
dec_some A P None d = inr (λ z. none-some z.0 z.1)
dec_some A P (Some a) d = ⊎_elim (λ y. inl (a, refl, y)) (λ n. inr (λ z. n (subst P (sym (same_Some a z.0 z.1)) z.2))) (d a refl)

dec_open : (o : Option Action) → Dec (o ≡ Some Open)
dec_open None = inr (λ e. none-some Open e)
dec_open (Some Open) = inl refl
dec_open (Some a) = inr (λ e. cc)

dec_close : (o : Option Action) → Dec (o ≡ Some Close)
dec_close None = inr (λ e. none-some Close e)
dec_close (Some Close) = inl refl
dec_close (Some a) = inr (λ e. cc)

dec_start : (o : Option Action) → Dec (o ≡ Some Start)
dec_start None = inr (λ e. none-some Start e)
dec_start (Some Start) = inl refl
dec_start (Some a) = inr (λ e. cc)

dec_end : (o : Option Action) → Dec (o ≡ Some End)
dec_end None = inr (λ e. none-some End e)
dec_end (Some End) = inl refl
dec_end (Some a) = inr (λ e. cc)

dec_before : (a b : Event) → Dec (Before a b)
dec_before Initial b = inr (λ z. z)
dec_before (At h i) Initial = inr (λ z. z)
dec_before (At h i) (At k j) = dec_and (h ≡ k) (i < j) (cases_eq h k) (dec_less i j)

dec_is_of : (h : ℕ) (e : Event) → Dec (IsOf h e)
dec_is_of h Initial = inr (λ z. z)
dec_is_of h (At k i) = cases_eq k h

dec_same_thread : (a b : Event) → Dec (SameThread a b)
dec_same_thread a Initial = inr (λ z. z)
dec_same_thread a (At h i) = dec_is_of h a

-- ---- sections

dec_in_section : (acts : List Action) (o i : ℕ) → Dec (InSection acts o i)
dec_in_section acts o i =
    let closed = dec_below (λ k. (o ≤ k) × (slice_get acts k ≡ Some Close)) i (λ k. dec_and (o ≤ k) (slice_get acts k ≡ Some Close) (dec_most o k) (dec_close (slice_get acts k))) in
    dec_by ((slice_get acts o ≡ Some Open) × ((o ≤ i) × ((i < length acts) × (((k : ℕ) × (k < i) × ((o ≤ k) × (slice_get acts k ≡ Some Close))) → ⊥)))) (InSection acts o i)
    (λ z. record { opens = z.0; from = z.1.0; there = z.1.1.0; unclosed = λ k p q e. z.1.1.1 (k, q, (p, e)) })
    (λ z. (z.opens, (z.from, (z.there, λ y. z.unclosed y.0 y.2.0 y.1 y.2.1))))
    (dec_and _ _ (dec_open (slice_get acts o)) (dec_and _ _ (dec_most o i) (dec_and _ _ (dec_less i (length acts)) (dec_not _ closed))))

dec_one_section : (acts : List Action) (i j : ℕ) → Dec (OneSection acts i j)
dec_one_section acts i j =
    dec_by ((o : ℕ) × (o < suc i) × (InSection acts o i × InSection acts o j)) (OneSection acts i j)
    (λ z. (z.0, z.2.0, z.2.1)) (λ z. (z.0, (let le = z.1.from in omega (arith, le)), (z.1, z.2)))
    (dec_below (λ o. InSection acts o i × InSection acts o j) (suc i) (λ o. dec_and _ _ (dec_in_section acts o i) (dec_in_section acts o j)))

pub dec_block : (x : Execution) (a b : Event) → Dec (SameBlock x a b)
dec_block x Initial Initial = inl tt
dec_block x Initial (At k j) = inr (λ z. z)
dec_block x (At h i) Initial = inr (λ z. z)
dec_block x (At h i) (At k j) = dec_and (h ≡ k) ((i ≡ j) ⊎ OneSection (actions_of x.threads k) i j) (cases_eq h k) (dec_or _ _ (cases_eq i j) (dec_one_section (actions_of x.threads k) i j))

-- ---- edges

module _ (x : Execution) where
  dec_ordered : (P : Action → Action → Type 0) → ((p q : Action) → Dec (P p q)) → (a b : Event) → Dec (Ordered x P a b)
  dec_ordered P d a b =
      dec_by (Before a b × ((p : Action) × (action_at x a ≡ Some p) × ((q : Action) × (action_at x b ≡ Some q) × P p q))) (Ordered x P a b)
      (λ z. record { before = z.0; first = z.1.0; second = z.1.2.0; is_first = z.1.1; is_second = z.1.2.1; holds = z.1.2.2 })
      (λ z. (z.before, (z.first, z.is_first, (z.second, z.is_second, z.holds))))
      (dec_and _ _ (dec_before a b) (dec_some Action (λ p. (q : Action) × (action_at x b ≡ Some q) × P p q) (action_at x a) (λ p e. dec_some Action (P p) (action_at x b) (λ q f. d p q))))

  dec_cells : (o u : Option ℕ) → Dec ((c : ℕ) × (o ≡ Some c) × (u ≡ Some c))
  dec_cells None u = inr (λ z. none-some z.0 z.1)
  dec_cells (Some c) None = inr (λ z. none-some z.0 z.2)
  dec_cells (Some c) (Some d) = ⊎_elim (λ e. inl (c, refl, ap (λ z. Some z) (sym e))) (λ ne. inr (λ z. ne (same_Some c z.0 z.1 ∙ sym (same_Some d z.0 z.2)))) (cases_eq c d)

  dec_same_cell : (p q : Action) → Dec (SameCell p q)
  dec_same_cell p q = dec_cells (cell_of p) (cell_of q)

  dec_pair : (o : Option RfPair) (r s : Event) → Dec (o ≡ Some (record { reader = r; source = s }))
  dec_pair None r s = inr (λ e. none-some _ e)
  dec_pair (Some u) r s =
      dec_by ((u.reader ≡ r) × (u.source ≡ s)) (◌≡◌ {A = Option RfPair} (Some u) (Some (record { reader = r; source = s })))
      (λ z. ap (λ y. Some (record { reader = y; source = u.source })) z.0 ∙ ap (λ y. Some (record { reader = r; source = y })) z.1)
      (λ e. let same = same_Some u (record { reader = r; source = s }) e in (ap (λ (y : RfPair). y.reader) same, ap (λ (y : RfPair). y.source) same))
      (dec_and _ _ (dec_event u.reader r) (dec_event u.source s))

  dec_rf : (s r : Event) → Dec (Rf x s r)
  dec_rf s r =
      dec_by ((k : ℕ) × (k < length x.rf) × (slice_get x.rf k ≡ Some (record { reader = r; source = s }))) (Rf x s r)
      (λ z. (z.0, z.2)) (λ z. (z.0, slice_get_within x.rf z.0 _ z.1, z.1))
      (dec_below (λ k. slice_get x.rf k ≡ Some (record { reader = r; source = s })) (length x.rf) (λ k. dec_pair (slice_get x.rf k) r s))

  dec_at : (o : Option Event) (a : Event) → Dec (o ≡ Some a)
  dec_at None a = inr (λ e. none-some a e)
  dec_at (Some b) a = ⊎_elim (λ e. inl (ap (λ z. Some z) e)) (λ ne. inr (λ e. ne (same_Some b a e))) (dec_event b a)

  dec_precedes : (l : List Event) (a b : Event) → Dec (Precedes l a b)
  dec_precedes l a b =
      dec_by ((i : ℕ) × (i < length l) × ((j : ℕ) × (j < length l) × ((i < j) × ((slice_get l i ≡ Some a) × (slice_get l j ≡ Some b))))) (Precedes l a b)
      (λ z. (z.0, z.2.0, z.2.2.0, z.2.2.1.0, z.2.2.1.1)) (λ z. (z.0, slice_get_within l z.0 a z.3, (z.1, slice_get_within l z.1 b z.4, (z.2, (z.3, z.4)))))
      (dec_below (λ i. (j : ℕ) × (j < length l) × ((i < j) × ((slice_get l i ≡ Some a) × (slice_get l j ≡ Some b)))) (length l)
      (λ i. dec_below (λ j. (i < j) × ((slice_get l i ≡ Some a) × (slice_get l j ≡ Some b))) (length l) (λ j. dec_and _ _ (dec_less i j) (dec_and _ _ (dec_at (slice_get l i) a) (dec_at (slice_get l j) b)))))

  dec_co : (c : ℕ) (a b : Event) → Dec (Co x c a b)
  dec_co c a b = dec_some (List Event) (λ l. Precedes l a b) (slice_get x.co c) (λ l e. dec_precedes l a b)

  dec_any_co : (a b : Event) → Dec ((c : ℕ) × Co x c a b)
  dec_any_co a b =
      dec_by ((c : ℕ) × (c < length x.co) × Co x c a b) ((c : ℕ) × Co x c a b) (λ z. (z.0, z.2)) (λ z. (z.0, slice_get_within x.co z.0 z.1.0 z.1.1, z.1))
      (dec_below (λ c. Co x c a b) (length x.co) (λ c. dec_co c a b))

  -- the pairs of a read, and what is later than their sources
  abbrev Overtakes : ℕ → Event → Event → Type 0
  Overtakes c r w = (s : Event) × Rf x s r × Co x c s w

  dec_source : (o : Option RfPair) (c : ℕ) (r w : Event) → Dec ((u : RfPair) × (o ≡ Some u) × ((u.reader ≡ r) × Co x c u.source w))
  dec_source o c r w = dec_some RfPair (λ u. (u.reader ≡ r) × Co x c u.source w) o (λ u e. dec_and _ _ (dec_event u.reader r) (dec_co c u.source w))

  dec_overtakes : (c : ℕ) (r w : Event) → Dec (Overtakes c r w)
  dec_overtakes c r w =
      dec_by ((k : ℕ) × (k < length x.rf) × ((u : RfPair) × (slice_get x.rf k ≡ Some u) × ((u.reader ≡ r) × Co x c u.source w))) (Overtakes c r w)
      (λ z. (z.2.0.source, (z.0, z.2.1 ∙ ap (λ y. Some (record { reader = y; source = z.2.0.source })) z.2.2.0), z.2.2.1))
      (λ z. (z.1.0, slice_get_within x.rf z.1.0 _ z.1.1, (record { reader = r; source = z.0 }, z.1.1, (refl, z.2))))
      (dec_below (λ k. (u : RfPair) × (slice_get x.rf k ≡ Some u) × ((u.reader ≡ r) × Co x c u.source w)) (length x.rf) (λ k. dec_source (slice_get x.rf k) c r w))

  fr_at : (o : Option Action) (r w : Event) → action_at x r ≡ o → Dec (Fr x r w)
  fr_at (Some (Read c v)) r w is =
      dec_by (Overtakes c r w) (Fr x r w)
      (λ z. record { cell = c; value = v; source = z.0; reads = is; from = z.1; later = z.2 })
      (λ z. (z.source, z.from, subst (λ d. Co x d z.source w) (cell_same z.cell z.value (same_Some _ _ (sym is ∙ z.reads))) z.later))
      (dec_overtakes c r w) where
        cell_same : (d u : ℕ) → Read c v ≡ Read d u → d ≡ c
        cell_same d u e = sym (ap cell e) where
          cell : Action → ℕ
          cell (Read k n) = k
          cell a = 0
  fr_at None r w is = inr (λ z. none-some _ (sym is ∙ z.reads))
  fr_at (Some a) r w is = inr (λ z. let e : ◌≡◌ {A = Option Action} (Some a) (Some (Read z.cell z.value)) = sym is ∙ z.reads in cc)

  dec_fr : (r w : Event) → Dec (Fr x r w)
  dec_fr r w = fr_at (action_at x r) r w refl

  pub dec_local : (a b : Event) → Dec (LocalEdge x a b)
  dec_local a b =
      dec_by (LocalPo x a b ⊎ (Rf x a b ⊎ (((c : ℕ) × Co x c a b) ⊎ Fr x a b))) (LocalEdge x a b) to from
      (dec_or _ _ (dec_ordered SameCell dec_same_cell a b) (dec_or _ _ (dec_rf a b) (dec_or _ _ (dec_any_co a b) (dec_fr a b)))) where
        to : LocalPo x a b ⊎ (Rf x a b ⊎ (((c : ℕ) × Co x c a b) ⊎ Fr x a b)) → LocalEdge x a b
        to (inl z) = models.LocalEdge.po z
        to (inr (inl z)) = models.LocalEdge.rf z
        to (inr (inr (inl z))) = models.LocalEdge.co z.0 z.1
        to (inr (inr (inr z))) = models.LocalEdge.fr z

        from : LocalEdge x a b → LocalPo x a b ⊎ (Rf x a b ⊎ (((c : ℕ) × Co x c a b) ⊎ Fr x a b))
        from (models.LocalEdge.po z) = inl z
        from (models.LocalEdge.rf z) = inr (inl z)
        from (models.LocalEdge.co c z) = inr (inr (inl (c, z)))
        from (models.LocalEdge.fr z) = inr (inr (inr z))

  -- ---- the global condition

  abbrev Creates : Event → Event → Type 0
  Creates a b = (h : ℕ) × (f : ℕ) × (v : ℕ) × (action_at x a ≡ Some (Create h f v)) × (action_at x b ≡ Some Start) × IsOf h b

  creates_at : (o : Option Action) (a b : Event) → action_at x a ≡ o → Dec (Creates a b)
  creates_at (Some (Create h f v)) a b is =
      dec_by ((action_at x b ≡ Some Start) × IsOf h b) (Creates a b) (λ z. (h, f, v, is, z.0, z.1))
      (λ z. (z.4, subst (λ k. IsOf k b) (same_handle z.0 z.1 z.2 (same_Some _ _ (sym is ∙ z.3))) z.5))
      (dec_and _ _ (dec_start (action_at x b)) (dec_is_of h b)) where
        same_handle : (k g u : ℕ) → Create h f v ≡ Create k g u → k ≡ h
        same_handle k g u e = sym (ap handle e) where
          handle : Action → ℕ
          handle (Create z y q) = z
          handle a = 0
  creates_at None a b is = inr (λ z. none-some _ (sym is ∙ z.3))
  creates_at (Some q) a b is = inr (λ z. let e : ◌≡◌ {A = Option Action} (Some q) (Some (Create z.0 z.1 z.2)) = sym is ∙ z.3 in cc)

  abbrev Joins : Event → Event → Type 0
  Joins a b = (h : ℕ) × (action_at x a ≡ Some End) × IsOf h a × (action_at x b ≡ Some (Join h))

  dec_join : (o : Option Action) (h : ℕ) → Dec (o ≡ Some (Join h))
  dec_join None h = inr (λ e. none-some _ e)
  dec_join (Some (Join k)) h = ⊎_elim (λ e. inl (ap (λ z. Some (Join z)) e)) (λ ne. inr (λ e. ne (ap joined (same_Some _ _ e)))) (cases_eq k h) where
    joined : Action → ℕ
    joined (Join z) = z
    joined a = 0
  dec_join (Some a) h = inr (λ e. cc)

  dec_joins : (a b : Event) → Dec (Joins a b)
  dec_joins Initial b = inr (λ z. z.2)
  dec_joins (At h i) b =
      dec_by ((action_at x (At h i) ≡ Some End) × (action_at x b ≡ Some (Join h))) (Joins (At h i) b) (λ z. (h, z.0, refl, z.1)) (λ z. (z.1, subst (λ k. action_at x b ≡ Some (Join k)) (sym z.2) z.3))
      (dec_and _ _ (dec_end (action_at x (At h i))) (dec_join (action_at x b) h))

  dec_there : (o : Option Action) → Dec ((q : Action) × (o ≡ Some q))
  dec_there None = inr (λ z. none-some z.0 z.1)
  dec_there (Some q) = inl (q, refl)

  module _ (m : MemoryModel) where
    abbrev KeptForms : Event → Event → Type 0
    KeptForms a b = Ordered x (λ p q. keeps m p q ≡ true) a b ⊎ ((Ordered x (λ p q. Unit {0}) a b × SameBlock x a b) ⊎ (Creates a b ⊎ (Joins a b ⊎ ((a ≡ Initial) × ((q : Action) × (action_at x b ≡ Some q))))))

    dec_kept : (a b : Event) → Dec (Kept m x a b)
    dec_kept a b =
        dec_by (KeptForms a b) (Kept m x a b) (to a b) (from a b)
        (dec_or _ _ (dec_ordered (λ p q. keeps m p q ≡ true) (λ p q. dec_bool (keeps m p q)) a b)
        (dec_or _ _ (dec_and _ _ (dec_ordered (λ p q. Unit {0}) (λ p q. inl tt) a b) (dec_block x a b))
        (dec_or _ _ (creates_at (action_at x a) a b refl) (dec_or _ _ (dec_joins a b) (dec_and _ _ (dec_event a Initial) (dec_there (action_at x b))))))) where
          to : (a b : Event) → KeptForms a b → Kept m x a b
          to a b (inl z) = models.Kept.in_thread z
          to a b (inr (inl z)) = models.Kept.in_section z.0 z.1
          to a b (inr (inr (inl z))) = models.Kept.creates {h = z.0} {f = z.1} {v = z.2} z.3 z.4 z.5
          to a b (inr (inr (inr (inl z)))) = models.Kept.joins {h = z.0} z.1 z.2 z.3
          to a b (inr (inr (inr (inr z)))) = subst (λ e. Kept m x e b) (sym z.0) (models.Kept.initial {q = z.1.0} z.1.1)

          from : (a b : Event) → Kept m x a b → KeptForms a b
          from a b (models.Kept.in_thread z) = inl z
          from a b (models.Kept.in_section z y) = inr (inl (z, y))
          from a b (models.Kept.creates {h = h} {f = f} {v = v} z y o) = inr (inr (inl (h, f, v, z, y, o)))
          from a b (models.Kept.joins {h = h} z o y) = inr (inr (inr (inl (h, z, o, y))))
          from a b (models.Kept.initial {q = q} z) = inr (inr (inr (inr (refl, (q, z)))))

    dec_global_rf : (n : MemoryModel) (a b : Event) → Dec (GlobalRf n x a b)
    dec_global_rf Sc a b = dec_rf a b
    dec_global_rf Tso a b = dec_and _ _ (dec_rf a b) (dec_not _ (dec_same_thread a b))
    dec_global_rf Pso a b = dec_and _ _ (dec_rf a b) (dec_not _ (dec_same_thread a b))

    pub dec_global : (a b : Event) → Dec (GlobalEdge m x a b)
    dec_global a b =
        dec_by (Kept m x a b ⊎ (GlobalRf m x a b ⊎ (((c : ℕ) × Co x c a b) ⊎ Fr x a b))) (GlobalEdge m x a b) to from
        (dec_or _ _ (dec_kept a b) (dec_or _ _ (dec_global_rf m a b) (dec_or _ _ (dec_any_co a b) (dec_fr a b)))) where
          to : Kept m x a b ⊎ (GlobalRf m x a b ⊎ (((c : ℕ) × Co x c a b) ⊎ Fr x a b)) → GlobalEdge m x a b
          to (inl z) = models.GlobalEdge.kept z
          to (inr (inl z)) = models.GlobalEdge.rf z
          to (inr (inr (inl z))) = models.GlobalEdge.co z.0 z.1
          to (inr (inr (inr z))) = models.GlobalEdge.fr z

          from : GlobalEdge m x a b → Kept m x a b ⊎ (GlobalRf m x a b ⊎ (((c : ℕ) × Co x c a b) ⊎ Fr x a b))
          from (models.GlobalEdge.kept z) = inl z
          from (models.GlobalEdge.rf z) = inr (inl z)
          from (models.GlobalEdge.co c z) = inr (inr (inl (c, z)))
          from (models.GlobalEdge.fr z) = inr (inr (inr z))
