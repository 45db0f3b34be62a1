-- The walk over a trail from its end, while two literals of the last level are left or more.
use Rattle.std.proofs.Common.{◌≡◌, ℕ, suc, ◌<◌, inl, inr, Bool, true, false, List, length, get_or, refl, ap, sym, ◌∙◌, subst, arith}
use Rattle.std.specs.Prelude.{Contains, slice_get, Some, take}
use Rattle.std.proofs.lemmas.Bool.{cases_eq, false≢true}
use Rattle.std.proofs.lemmas.List.{length-map, get_or_read}
use Rattle.std.proofs.lemmas.Option.{slice_get_within}
use Rattle.dg_base.proofs.Lists.{place_of, contains_place, get_from_map}
use Rattle.dg_base.specs.declared.Lit.{Lit}
use Rattle.cnf_problem.specs.Literals.{var, negated}
use Rattle.cnf_problem.proofs.LiteralLaws.{var-negated}
use Rattle.trail_state.specs.Trails.{TrailView, Assigned, Decided, Forced, lit_of, true_lits, level, level_of, reason_of, IsAssigned, IsWell}
use Rattle.cnf_problem.specs.Chains.{AllFalse}
use Rattle.trail_state.specs.Forcing.{Forces, AreForced}
use Rattle.conflict_learn.specs.Marking.{is_marked, is_last, AreMarks, AddsMarks, LastBelow}
use Rattle.conflict_learn.proofs.Places.{place_in_front}
use Rattle.conflict_learn.proofs.Levels.{Once, level_of-le-level, older_le, older_lt, reason_at}
use Rattle.conflict_learn.proofs.Counting.{one_passes, another_passes, passes_counted}
use Rattle.conflict_learn.proofs.Marks.{marked_alike, marked_negated, last_parts, last_from}
use Rattle.conflict_learn.proofs.Steps.{once_of, has_mark}

-- while some are left, the walk has not come to the beginning
pub walk_goes_on : (t : TrailView) (marks : List Bool) (count n : ℕ) → AreMarks t marks count → LastBelow t.entries marks n → 0 < count → 0 < n
walk_goes_on t marks count n are below some =
    let k = are.counted in
    let r = one_passes (is_last marks t.entries) (true_lits t.entries) (omega arith) in
    let lt = below r.0 r.1 r.2 r.3 in
    omega arith

-- at the start of the walk all are below
pub all_below : (t : TrailView) (marks : List Bool) (n : ℕ) → n ≡ length t.entries → LastBelow t.entries marks n
all_below t marks n e k l p last =
    let r = slice_get_within (true_lits t.entries) k l p in
    let s = length-map t.entries lit_of in
    omega arith

-- a literal that is not marked is passed over
pub passed_over : (es : List Assigned) (marks : List Bool) (n : ℕ) (l : Lit) → slice_get (true_lits es) n ≡ Some l → is_marked marks l ≡ false → LastBelow es marks (suc n) → LastBelow es marks n
passed_over es marks n l p f below k m q last =
    let lt = below k m q last in
    elim (cases_eq k n) [
      | inl e ↦
          let at : slice_get (true_lits es) n ≡ Some m = subst (λ j. slice_get (true_lits es) j ≡ Some m) e q in
          let s : m ≡ l = cc in
          absurd (false≢true (sym f ∙ sym (ap (is_marked marks) s) ∙ (last_parts marks es m last).0))
      | inr o ↦ omega arith
    ]

-- what is known of a marked literal that the walk meets
pub record Met (clauses : List (List Lit)) (t : TrailView) (marks : List Bool) (n : ℕ) (l : Lit) : Type 0 where
  pub id : ℕ
  pub entry : slice_get t.entries n ≡ Some (Forced l id)
  pub forced : Forces clauses id (true_lits (take n t.entries)) l
  pub why : reason_of (var l) t.entries ≡ Some id
  pub last : is_last marks t.entries l ≡ true

-- it is of the last level, and has a reason
pub met_at : (clauses : List (List Lit)) (t : TrailView) (marks : List Bool) (count n : ℕ) (l : Lit) → IsWell t → AreMarks t marks count → AreForced clauses t.entries → LastBelow t.entries marks (suc n) → 1 < count
    → slice_get (true_lits t.entries) n ≡ Some l → is_marked marks l ≡ true → Met clauses t marks n l
met_at clauses t marks count n l w are forced below several p marked =
    let k = are.counted in
    let r = another_passes (is_last marks t.entries) (true_lits t.entries) n (omega arith) in
    let lt = below r.0 r.1 r.2 r.3 in
    let apart = r.4 in
    let older : r.0 < n = elim (cases_eq r.0 n) [ inl e ↦ absurd (apart e) | inr o ↦ omega arith ] in
    let top = (last_parts marks t.entries r.1 r.3).1 in
    let e = get_from_map lit_of t.entries n l p in
    by_entry e.0 r.0 r.1 e.1 e.2 r.2 older top
  where
    by_entry : (a : Assigned) (j : ℕ) (m : Lit) → slice_get t.entries n ≡ Some a → lit_of a ≡ l → slice_get (true_lits t.entries) j ≡ Some m → j < n → level_of (var m) t.entries ≡ level t.entries → Met clauses t marks n l
    by_entry (Decided x) j m e same q older top =
        let here : slice_get t.entries n ≡ Some (Decided l) = subst (λ z. slice_get t.entries n ≡ Some (Decided z)) same e in
        let lt = older_lt t.entries j n m l (once_of t w) q here older in
        let le = level_of-le-level (var l) t.entries in
        absurd (omega arith)
    by_entry (Forced x id) j m e same q older top =
        let here : slice_get t.entries n ≡ Some (Forced l id) = subst (λ z. slice_get t.entries n ≡ Some (Forced z id)) same e in
        let le = older_le t.entries j n m l (once_of t w) q p older in
        let bound = level_of-le-level (var l) t.entries in
        record {
          id = id;
          entry = here;
          forced = forced n id l here;
          why = reason_at t.entries n (Forced l id) (once_of t w) here;
          last = last_from marks t.entries l marked (omega arith);
        }

-- each variable of the reason is assigned
pub reason_assigned : (clauses : List (List Lit)) (es : List Assigned) (clause : List Lit) (n id : ℕ) (l : Lit) → Forces clauses id (true_lits (take n es)) l → slice_get clauses id ≡ Some clause → Contains (true_lits es) l → (m : Lit) → Contains clause m → IsAssigned es (var m)
reason_assigned clauses es clause n id l f named c m cm =
    let g = f.named in
    let same : clause ≡ f.clause = cc in
    elim (f.others_false m (subst (λ x. Contains x m) same cm)) [
      | inl e ↦ (l, c, ap var (sym e))
      | inr front ↦ let p = place_in_front lit_of es n (negated m) front in (negated m, contains_place (true_lits es) p.0 (negated m) p.2, var-negated m)
    ]

-- once it is resolved away, all that are left stand below it
pub resolved_below : (clauses : List (List Lit)) (t : TrailView) (clause : List Lit) (before added after : List Bool) (n id : ℕ) (l : Lit)
    → Once (true_lits t.entries) → LastBelow t.entries before (suc n) → slice_get (true_lits t.entries) n ≡ Some l → Forces clauses id (true_lits (take n t.entries)) l → slice_get clauses id ≡ Some clause
    → AddsMarks t.entries before added clause → is_marked after l ≡ false → ((m : Lit) → (var m ≡ var l → ⊥) → is_marked after m ≡ is_marked added m) → LastBelow t.entries after n
resolved_below clauses t clause before added after n id l h below p f named adds gone kept k m q last =
    elim (cases_eq (var m) (var l)) [
      | inl e ↦ absurd (false≢true (sym gone ∙ sym (marked_alike after m l e) ∙ (last_parts after t.entries m last).0))
      | inr apart ↦
          let parts = last_parts after t.entries m last in
          elim (adds.only m (sym (kept m apart) ∙ parts.0)) [
            | inl old ↦
                let lt = below k m q (last_from before t.entries m old parts.1) in
                elim (cases_eq k n) [
                  | inl e ↦
                      let at : slice_get (true_lits t.entries) n ≡ Some m = subst (λ j. slice_get (true_lits t.entries) j ≡ Some m) e q in
                      let s : m ≡ l = cc in
                      absurd (apart (ap var s))
                  | inr o ↦ omega arith
                ]
            | inr (x, cx, ex) ↦
                let g = f.named in
                let same : clause ≡ f.clause = cc in
                elim (f.others_false x (subst (λ z. Contains z x) same cx)) [
                  | inl e ↦ absurd (apart (sym ex ∙ ap var e))
                  | inr front ↦
                      let r = place_in_front lit_of t.entries n (negated x) front in
                      let s = h.once k r.0 m (negated x) q r.2 (sym ex ∙ sym (var-negated x)) in
                      omega arith
                ]
          ]
    ]

-- what a read of the mark of a true literal's variable says
pub read_mark : (t : TrailView) (marks : List Bool) (count n v : ℕ) (l : Lit) (b : Bool) → IsWell t → AreMarks t marks count → slice_get (true_lits t.entries) n ≡ Some l → v ≡ var l → b ≡ get_or marks v b → is_marked marks l ≡ b
read_mark t marks count n v l b w are p e read =
    let lt : v < length marks = rw e (has_mark t marks count (var l) w are (l, contains_place (true_lits t.entries) n l p, refl)) in
    rw (← e) (sym (get_or_read marks v b lt read false))

-- what is known of a marked literal, by that read
pub met_by_read : (clauses : List (List Lit)) (t : TrailView) (marks : List Bool) (count n v : ℕ) (l : Lit) (b : Bool) → IsWell t → AreMarks t marks count → AreForced clauses t.entries → LastBelow t.entries marks (suc n) → 1 < count
    → slice_get (true_lits t.entries) n ≡ Some l → v ≡ var l → b ≡ get_or marks v b → b ≡ true → Met clauses t marks n l
met_by_read clauses t marks count n v l b w are forced below several p e read is =
    met_at clauses t marks count n l w are forced below several p (read_mark t marks count n v l b w are p e read ∙ is)

-- the conflict has a literal of the last level, so one is marked
pub conflict_counts : (t : TrailView) (conflict : List Lit) (before after : List Bool) (count : ℕ) → AreMarks t after count → AddsMarks t.entries before after conflict → AllFalse (true_lits t.entries) conflict
    → (l : Lit) → Contains conflict l → level_of (var l) t.entries ≡ level t.entries → 0 < level t.entries → 0 < count
conflict_counts t conflict before after count are adds refuted l c top above =
    elim (adds.all l c) [
      | inl m ↦
          let p = place_of (true_lits t.entries) (negated l) (refuted l c) in
          let last = last_from after t.entries (negated l) (marked_negated after l ∙ m) (ap (λ v. level_of v t.entries) (var-negated l) ∙ top) in
          let k = are.counted in
          omega (arith, passes_counted (is_last after t.entries) (true_lits t.entries) p.0 (negated l) p.1 last)
      | inr z ↦ absurd (omega arith)
    ]
