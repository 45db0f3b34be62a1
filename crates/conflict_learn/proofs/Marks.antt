-- What marks say of the literals of a trail, and how one more or one fewer changes their count.
use Rattle.std.proofs.Common.{◌≡◌, ℕ, suc, ◌<◌, ◌≤◌, inl, inr, Bool, true, false, eqb, List, length, get_or, set, ap, sym, ◌∙◌, get_or-set_same, get_or-set_other}
use Rattle.std.specs.Prelude.{slice_get, Some, ◌&&◌}
use Rattle.std.proofs.lemmas.Bool.{and_parts, and_from, eqb-true, eq-eqb, ne_eqb, and_left, and_right, cases_eq}
use Rattle.dg_base.specs.declared.Lit.{Lit}
use Rattle.cnf_problem.specs.Literals.{var, negated}
use Rattle.cnf_problem.proofs.LiteralLaws.{var-negated}
use Rattle.trail_state.specs.Trails.{Assigned, true_lits, level, level_of}
use Rattle.conflict_learn.specs.Marking.{is_marked, is_last, last_count}
use Rattle.conflict_learn.proofs.Counting.{count_agree, count_more, count_le}
use Rattle.conflict_learn.proofs.Levels.{Once}

-- a literal and its negation are marked together
pub marked_negated : (marks : List Bool) (l : Lit) → is_marked marks (negated l) ≡ is_marked marks l
marked_negated marks l = ap (λ v. get_or marks v false) (var-negated l)

-- literals of one variable are marked together
pub marked_alike : (marks : List Bool) (a b : Lit) → var a ≡ var b → is_marked marks a ≡ is_marked marks b
marked_alike marks a b e = ap (λ v. get_or marks v false) e

-- a marked literal of the last level
pub last_parts : (marks : List Bool) (es : List Assigned) (l : Lit) → is_last marks es l ≡ true → (is_marked marks l ≡ true) × (level_of (var l) es ≡ level es)
last_parts marks es l h = let r = and_parts (is_marked marks l) (eqb (level_of (var l) es) (level es)) h in (r.0, eqb-true (level_of (var l) es) (level es) r.1)

pub last_from : (marks : List Bool) (es : List Assigned) (l : Lit) → is_marked marks l ≡ true → level_of (var l) es ≡ level es → is_last marks es l ≡ true
last_from marks es l m e = and_from (is_marked marks l) (eqb (level_of (var l) es) (level es)) m (eq-eqb (level_of (var l) es) (level es) e)

-- of another level
pub last_not_level : (marks : List Bool) (es : List Assigned) (l : Lit) → (level_of (var l) es ≡ level es → ⊥) → is_last marks es l ≡ false
last_not_level marks es l n = and_right (is_marked marks l) (eqb (level_of (var l) es) (level es)) (ne_eqb (level_of (var l) es) (level es) n)

-- not marked
pub last_not_marked : (marks : List Bool) (es : List Assigned) (l : Lit) → is_marked marks l ≡ false → is_last marks es l ≡ false
last_not_marked marks es l f = and_left (is_marked marks l) (eqb (level_of (var l) es) (level es)) f

-- a write at a variable is seen at its literals
pub marked_same : (marks : List Bool) (v : ℕ) (b : Bool) (l : Lit) → v < length marks → var l ≡ v → is_marked (set marks v b) l ≡ b
marked_same marks v b l lt e = rw e (get_or-set_same marks v b false lt)

-- and nowhere else
pub marked_other : (marks : List Bool) (v : ℕ) (b : Bool) (l : Lit) → (var l ≡ v → ⊥) → is_marked (set marks v b) l ≡ is_marked marks l
marked_other marks v b l n = get_or-set_other marks v (var l) b false n

-- literals of other variables are counted as before
pub last_other : (marks : List Bool) (es : List Assigned) (v : ℕ) (b : Bool) (l : Lit) → (var l ≡ v → ⊥) → is_last marks es l ≡ is_last (set marks v b) es l
last_other marks es v b l n = ap (λ m. m && eqb (level_of (var l) es) (level es)) (sym (marked_other marks v b l n))

-- a mark on a variable of the last level is one more
pub count_marked : (marks : List Bool) (es : List Assigned) (k : ℕ) (x : Lit) (v : ℕ) → Once (true_lits es) → slice_get (true_lits es) k ≡ Some x → var x ≡ v → v < length marks
    → is_marked marks x ≡ false → level_of (var x) es ≡ level es → last_count (set marks v true) es ≡ suc (last_count marks es)
count_marked marks es k x v h p e lt f top =
    count_more (is_last marks es) (is_last (set marks v true) es) (true_lits es) k x p (last_not_marked marks es x f)
    (last_from (set marks v true) es x (marked_same marks v true x lt e) top)
    (λ j y q n. last_other marks es v true y (λ s. n (h.once j k y x q p (s ∙ sym e))))

-- one fewer, where it is taken away
pub count_unmarked : (marks : List Bool) (es : List Assigned) (k : ℕ) (x : Lit) (v : ℕ) → Once (true_lits es) → slice_get (true_lits es) k ≡ Some x → var x ≡ v → v < length marks
    → is_last marks es x ≡ true → last_count marks es ≡ suc (last_count (set marks v false) es)
count_unmarked marks es k x v h p e lt t =
    count_more (is_last (set marks v false) es) (is_last marks es) (true_lits es) k x p
    (last_not_marked (set marks v false) es x (marked_same marks v false x lt e)) t
    (λ j y q n. sym (last_other marks es v false y (λ s. n (h.once j k y x q p (s ∙ sym e)))))

-- a mark on a variable of another level changes nothing
pub count_elsewhere : (marks : List Bool) (es : List Assigned) (v : ℕ) → (level_of v es ≡ level es → ⊥) → last_count (set marks v true) es ≡ last_count marks es
count_elsewhere marks es v n =
    count_agree (is_last (set marks v true) es) (is_last marks es) (true_lits es)
    (λ k x p. elim (cases_eq (var x) v) [
      | inl e ↦
          let m : level_of (var x) es ≡ level es → ⊥ = λ s. n (rw e at s) in
          last_not_level (set marks v true) es x m ∙ sym (last_not_level marks es x m)
      | inr o ↦ sym (last_other marks es v true x o)
    ])

-- there are no more than true literals
pub last_count_le : (marks : List Bool) (es : List Assigned) → last_count marks es ≤ length (true_lits es)
last_count_le marks es = count_le (is_last marks es) (true_lits es)
