-- Levels of the literals of a trail, on which no variable stands twice.
use Rattle.std.proofs.Common.{◌≡◌, ℕ, zero, suc, ◌<◌, ◌≤◌, inl, inr, List, [], ◌∷◌, refl, ap, sym, subst, arith}
use Rattle.std.specs.Prelude.{Some, Contains, slice_get}
use Rattle.std.proofs.lemmas.Bool.{eq-eqb, ne_eqb, cases_eq}
use Rattle.dg_base.proofs.Lists.{place_of, get_map, contains_head, contains_tail, contains_nothing, contains_cases}
use Rattle.dg_base.specs.declared.Lit.{Lit}
use Rattle.cnf_problem.specs.Literals.{var}
use Rattle.trail_state.specs.Trails.{Assigned, Decided, Forced, lit_of, reason, true_lits, level, up_to, level_of, reason_of}

-- no two places have one variable
pub record Once (lits : List Lit) : Type 0 where
  pub once : (i j : ℕ) (a b : Lit) → slice_get lits i ≡ Some a → slice_get lits j ≡ Some b → var a ≡ var b → i ≡ j

-- and so it is behind the first
pub once_tail : (x : Lit) (xs : List Lit) → Once (x ∷ xs) → Once xs
once_tail x xs h = record { once = λ i j a b p q e. let r = h.once (suc i) (suc j) a b p q e in omega arith }

-- the first variable stands nowhere behind it
pub once_head : (x : Lit) (xs : List Lit) (k : ℕ) (y : Lit) → Once (x ∷ xs) → slice_get xs k ≡ Some y → var x ≡ var y → ⊥
once_head x xs k y h p e = let r = h.once 0 (suc k) x y refl p e in omega arith

-- two true literals of one variable are one
pub once_same : (lits : List Lit) (a b : Lit) → Once lits → Contains lits a → Contains lits b → var a ≡ var b → a ≡ b
once_same lits a b h ca cb e =
    let p = place_of lits a ca in
    let q = place_of lits b cb in
    let same = h.once p.0 q.0 a b p.1 q.1 e in
    let r : slice_get lits q.0 ≡ Some a = subst (λ k. slice_get lits k ≡ Some a) same p.1 in
    let s = q.1 in
    cc

-- the level of the first entry's variable, and of another one
pub level_of-forced_same : (v id : ℕ) (l : Lit) (es : List Assigned) → var l ≡ v → level_of v (Forced l id ∷ es) ≡ 0
level_of-forced_same v id l es e = let t = eq-eqb (var l) v e in rw t

pub level_of-forced_other : (v id : ℕ) (l : Lit) (es : List Assigned) → (var l ≡ v → ⊥) → level_of v (Forced l id ∷ es) ≡ level_of v es
level_of-forced_other v id l es n = let t = ne_eqb (var l) v n in rw t

pub level_of-decided_same : (v : ℕ) (l : Lit) (es : List Assigned) → var l ≡ v → level_of v (Decided l ∷ es) ≡ 1
level_of-decided_same v l es e = let t = eq-eqb (var l) v e in rw t

pub level_of-decided_other : (v : ℕ) (l : Lit) (es : List Assigned) → (var l ≡ v → ⊥) → level_of v (Decided l ∷ es) ≡ suc (level_of v es)
level_of-decided_other v l es n = let t = ne_eqb (var l) v n in rw t

-- no variable is of a level above the last
pub level_of-le-level : (v : ℕ) (es : List Assigned) → level_of v es ≤ level es
level_of-le-level v [] = omega arith
level_of-le-level v (Forced l id ∷ es) =
    let r = level_of-le-level v es in
    elim (cases_eq (var l) v) [
      | inl e ↦ omega (arith, level_of-forced_same v id l es e)
      | inr n ↦ omega (arith, level_of-forced_other v id l es n)
    ]
level_of-le-level v (Decided l ∷ es) =
    let r = level_of-le-level v es in
    elim (cases_eq (var l) v) [
      | inl e ↦ omega (arith, level_of-decided_same v l es e)
      | inr n ↦ omega (arith, level_of-decided_other v l es n)
    ]

-- a true literal of a level up to n is true up to that level
pub in_up_to : (n : ℕ) (es : List Assigned) (l : Lit) → Once (true_lits es) → Contains (true_lits es) l → level_of (var l) es ≤ n → Contains (true_lits (up_to n es)) l
in_up_to n [] l h c le = absurd (contains_nothing l c)
in_up_to n (Forced m id ∷ es) l h c le =
    elim (contains_cases m l (true_lits es) c) [
      | inl e ↦ subst (λ z. Contains (m ∷ true_lits (up_to n es)) z) (sym e) (contains_head m (true_lits (up_to n es)))
      | inr t ↦
          let p = place_of (true_lits es) l t in
          let q = level_of-forced_other (var l) id m es (once_head m (true_lits es) p.0 l h p.1) in
          contains_tail m l (true_lits (up_to n es)) (in_up_to n es l (once_tail m (true_lits es) h) t (omega arith))
    ]
in_up_to zero (Decided m ∷ es) l h c le =
    elim (cases_eq (var m) (var l)) [
      | inl e ↦ absurd (omega (arith, level_of-decided_same (var l) m es e))
      | inr n ↦ absurd (omega (arith, level_of-decided_other (var l) m es n))
    ]
in_up_to (suc n) (Decided m ∷ es) l h c le =
    elim (contains_cases m l (true_lits es) c) [
      | inl e ↦ subst (λ z. Contains (m ∷ true_lits (up_to n es)) z) (sym e) (contains_head m (true_lits (up_to n es)))
      | inr t ↦
          let p = place_of (true_lits es) l t in
          let q = level_of-decided_other (var l) m es (once_head m (true_lits es) p.0 l h p.1) in
          contains_tail m l (true_lits (up_to n es)) (in_up_to n es l (once_tail m (true_lits es) h) t (omega arith))
    ]

-- a literal that is true up to level n is of such a level
pub from_up_to : (n : ℕ) (es : List Assigned) (l : Lit) → Contains (true_lits (up_to n es)) l → level_of (var l) es ≤ n
from_up_to n [] l c = absurd (contains_nothing l c)
from_up_to n (Forced m id ∷ es) l c =
    elim (cases_eq (var m) (var l)) [
      | inl e ↦ omega (arith, level_of-forced_same (var l) id m es e)
      | inr n' ↦ elim (contains_cases m l (true_lits (up_to n es)) c) [
        | inl e ↦ absurd (n' (ap var (sym e)))
        | inr t ↦ omega (arith, from_up_to n es l t, level_of-forced_other (var l) id m es n')
      ]
    ]
from_up_to zero (Decided m ∷ es) l c = absurd (contains_nothing l c)
from_up_to (suc n) (Decided m ∷ es) l c =
    elim (cases_eq (var m) (var l)) [
      | inl e ↦ omega (arith, level_of-decided_same (var l) m es e)
      | inr n' ↦ elim (contains_cases m l (true_lits (up_to n es)) c) [
        | inl e ↦ absurd (n' (ap var (sym e)))
        | inr t ↦ omega (arith, from_up_to n es l t, level_of-decided_other (var l) m es n')
      ]
    ]

-- a decision is of a level above 0
pub decided_above : (es : List Assigned) (k : ℕ) (l : Lit) → Once (true_lits es) → slice_get es k ≡ Some (Decided l) → 0 < level_of (var l) es
decided_above [] k l h e = absurd (cc)
decided_above (Forced m id ∷ es) zero l h e = absurd (cc)
decided_above (Forced m id ∷ es) (suc k) l h e =
    omega (arith, decided_above es k l (once_tail m (true_lits es) h) e, level_of-forced_other (var l) id m es (once_head m (true_lits es) k l h (decided_true es k l e)))
  where
    decided_true : (es : List Assigned) (k : ℕ) (l : Lit) → slice_get es k ≡ Some (Decided l) → slice_get (true_lits es) k ≡ Some l
    decided_true es k l e = get_map lit_of es k (Decided l) e
decided_above (Decided m ∷ es) k l h e =
    elim (cases_eq (var m) (var l)) [
      | inl same ↦ omega (arith, level_of-decided_same (var l) m es same)
      | inr n ↦ omega (arith, level_of-decided_other (var l) m es n)
    ]

-- an older literal is of no higher level
pub older_le : (es : List Assigned) (j k : ℕ) (m l : Lit) → Once (true_lits es) → slice_get (true_lits es) j ≡ Some m → slice_get (true_lits es) k ≡ Some l → j < k → level_of (var m) es ≤ level_of (var l) es
older_le [] j k m l h p q lt = absurd (cc)
older_le (Forced x id ∷ es) zero k m l h p q lt = let e : x ≡ m = cc in omega (arith, level_of-forced_same (var m) id x es (ap var e))
older_le (Decided x ∷ es) zero k m l h p q lt =
    let e : x ≡ m = cc in
    let s = level_of-decided_same (var m) x es (ap var e) in
    elim (cases_eq (var x) (var l)) [
      | inl same ↦ omega (arith, level_of-decided_same (var l) x es same)
      | inr n ↦ omega (arith, level_of-decided_other (var l) x es n)
    ]
older_le (x ∷ es) (suc j) zero m l h p q lt = absurd (omega arith)
older_le (Forced x id ∷ es) (suc j) (suc k) m l h p q lt =
    omega (arith, older_le es j k m l (once_tail x (true_lits es) h) p q (omega arith), level_of-forced_other (var m) id x es (once_head x (true_lits es) j m h p), level_of-forced_other (var l) id x es (once_head x (true_lits es) k l h q))
older_le (Decided x ∷ es) (suc j) (suc k) m l h p q lt =
    omega (arith, older_le es j k m l (once_tail x (true_lits es) h) p q (omega arith), level_of-decided_other (var m) x es (once_head x (true_lits es) j m h p), level_of-decided_other (var l) x es (once_head x (true_lits es) k l h q))

-- and before a decision each is of a lower level
pub older_lt : (es : List Assigned) (j k : ℕ) (m l : Lit) → Once (true_lits es) → slice_get (true_lits es) j ≡ Some m → slice_get es k ≡ Some (Decided l) → j < k → level_of (var m) es < level_of (var l) es
older_lt [] j k m l h p q lt = absurd (cc)
older_lt (x ∷ es) j zero m l h p q lt = absurd (omega arith)
older_lt (Forced x id ∷ es) zero (suc k) m l h p q lt =
    let e : x ≡ m = cc in
    omega (arith, level_of-forced_same (var m) id x es (ap var e), decided_above (Forced x id ∷ es) (suc k) l h q)
older_lt (Decided x ∷ es) zero (suc k) m l h p q lt =
    let e : x ≡ m = cc in
    let t = once_tail x (true_lits es) h in
    omega (arith, level_of-decided_same (var m) x es (ap var e), level_of-decided_other (var l) x es (once_head x (true_lits es) k l h (get_map lit_of es k (Decided l) q)), decided_above es k l t q)
older_lt (Forced x id ∷ es) (suc j) (suc k) m l h p q lt =
    omega (arith, older_lt es j k m l (once_tail x (true_lits es) h) p q (omega arith), level_of-forced_other (var m) id x es (once_head x (true_lits es) j m h p), level_of-forced_other (var l) id x es (once_head x (true_lits es) k l h (get_map lit_of es k (Decided l) q)))
older_lt (Decided x ∷ es) (suc j) (suc k) m l h p q lt =
    omega (arith, older_lt es j k m l (once_tail x (true_lits es) h) p q (omega arith), level_of-decided_other (var m) x es (once_head x (true_lits es) j m h p), level_of-decided_other (var l) x es (once_head x (true_lits es) k l h (get_map lit_of es k (Decided l) q)))

-- the reason of the literal at a place
pub reason_at : (es : List Assigned) (k : ℕ) (a : Assigned) → Once (true_lits es) → slice_get es k ≡ Some a → reason_of (var (lit_of a)) es ≡ reason a
reason_at [] k a h e = absurd (cc)
reason_at (x ∷ es) zero a h e =
    let f : x ≡ a = cc in
    let t = eq-eqb (var (lit_of x)) (var (lit_of a)) (ap (λ z. var (lit_of z)) f) in
    rw t (ap reason f)
reason_at (x ∷ es) (suc k) a h e =
    let t = ne_eqb (var (lit_of x)) (var (lit_of a)) (once_head (lit_of x) (true_lits es) k (lit_of a) h (get_map lit_of es k a e)) in
    rw t (reason_at es k a (once_tail (lit_of x) (true_lits es) h) e)
