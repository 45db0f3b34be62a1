-- Back along a trail: what the hints so far are from each set between.
use Rattle.std.proofs.Common.{◌≡◌, inl, inr, ℕ, suc, ◌<◌, Bool, true, false, List, [], ◌∷◌, map, take, length, set, Some, refl, sym, subst, ap, ◌∙◌}
use Rattle.std.specs.Prelude.{Contains, slice_get}
use Rattle.dg_base.proofs.Lists.{contains_cases, contains_from_map, contains_head, contains_map, contains_nothing, contains_tail}
use Rattle.dg_base.specs.declared.Lit.{Lit}
use Rattle.cnf_problem.specs.declared.problem.Problem.{Problem}
use Rattle.cnf_problem.specs.Literals.{negated, var}
use Rattle.cnf_problem.proofs.LiteralLaws.{lit_eq_or_not, negated-negated, var-negated}
use Rattle.cnf_problem.proofs.Members.{contains_or_not}
use Rattle.lemma_log.specs.declared.hints.Hint.{Hint}
use Rattle.trail_state.specs.Forcing.{Forces}
use Rattle.trail_state.specs.Trails.{Assigned, Forced, IsWell, TrailView, lit_of, true_lits}
use Rattle.log_checker.specs.Hints.{IsRightNext, named}
use Rattle.hint_maker.specs.Lean.{AreLean, IsNeeded}
use Rattle.hint_maker.specs.Lean.AreLean.{last, next}
use Rattle.hint_maker.specs.Walking.{AddsMarks, AreMarked, IsBetween, IsEnd, IsTail, NoneIsMarked, is_marked}
use Rattle.hint_maker.specs.declared.ends.End.{End}
use Rattle.hint_maker.proofs.Fronts.{front_cases, front_last, front_more, older_other, same_in_front}
use Rattle.hint_maker.proofs.Marking.{marked_other, not_marked, still_marked}

needed_more : (p : Problem) (before : List (List Lit)) (hints : List Hint) (h : Hint) (l : Lit) → IsNeeded p before hints l → IsNeeded p before (h ∷ hints) l
needed_more p before hints h l n = record { hint = n.hint; listed = contains_tail h n.hint hints n.listed; clause = n.clause; is = n.is; has = n.has }

-- ---- one step back

module _ (p : Problem) (before : List (List Lit)) (lits : List Lit) (t : TrailView) (i id : ℕ) (l : Lit) (h : Hint) (clauses : List (List Lit)) (forces : Forces clauses id (true_lits (take i t.entries)) l) (old added : List Bool) where
  -- the literal is needed: its reason comes in front
  pub taken_marked : IsWell t → slice_get t.entries i ≡ Some (Forced l id) → AreMarked lits t.entries old (suc i) → AddsMarks lits forces.clause old added → var l < length added
      → AreMarked lits t.entries (set added (var l) false) i
  taken_marked well at marked adds room = record {
    within = λ v m.
        let still = still_marked added (var l) v room m in
        elim (adds.only v still.1) [
          | inl was ↦
              let w = marked.within v was in
              elim (front_cases t.entries i (Forced l id) w.0 at w.1) [ inl c ↦ (w.0, c, w.2) | inr e ↦ absurd (still.0 (sym w.2 ∙ ap var e)) ]
          | inr w ↦ elim (forces.others_false w.0 w.1) [ inl e ↦ absurd (still.0 (sym w.3 ∙ ap var e)) | inr c ↦ (negated w.0, c, var-negated w.0 ∙ w.3) ]
        ];
    other = λ x c m.
        let still = still_marked added (var l) (var x) room m in
        elim (adds.only (var x) still.1) [
          | inl was ↦ marked.other x (front_more t.entries i (Forced l id) x at c) was
          | inr w ↦ elim (forces.others_false w.0 w.1) [
            | inl e ↦ absurd (still.0 (sym w.3 ∙ ap var e))
            | inr d ↦
                let same : negated w.0 ≡ x = same_in_front t i (negated w.0) x well d c (var-negated w.0 ∙ w.3) in
                λ listed. w.2 (subst (λ y. Contains lits y) (ap negated (sym same) ∙ negated-negated w.0) listed)
          ]
        ];
  }

  pub taken_tail : (hints : List Hint) → IsWell t → slice_get t.entries i ≡ Some (Forced l id) → AreMarked lits t.entries old (suc i) → AddsMarks lits forces.clause old added → var l < length added
      → ((x : Lit) → Contains (true_lits (take (suc i) t.entries)) x → ¬ Contains lits x) → is_marked old (var l) ≡ true → named p before h ≡ Some forces.clause
      → IsTail p before lits t.entries old (suc i) hints → IsTail p before lits t.entries (set added (var l) false) i (h ∷ hints)
  taken_tail hints well at marked adds room apart here named_so tail = record {
    lean = λ between is. next h l (gives between is) (tail.needed l mine here) (tail.lean (l ∷ between) (wider between is));
    needed = λ x c m.
        let still = still_marked added (var l) (var x) room m in
        elim (adds.only (var x) still.1) [
          | inl was ↦ needed_more p before hints h x (tail.needed x (front_more t.entries i (Forced l id) x at c) was)
          | inr w ↦ elim (forces.others_false w.0 w.1) [
            | inl e ↦ absurd (still.0 (sym w.3 ∙ ap var e))
            | inr d ↦
                let same : negated w.0 ≡ x = same_in_front t i (negated w.0) x well d c (var-negated w.0 ∙ w.3) in
                record { hint = h; listed = contains_head h hints; clause = forces.clause; is = named_so; has = subst (λ y. Contains forces.clause y) (sym (negated-negated w.0) ∙ ap negated same) w.1 }
          ]
        ];
  }
    where
      mine : Contains (true_lits (take (suc i) t.entries)) l
      mine = front_last t.entries i (Forced l id) at

      -- a literal that is older than this one and marked is in the set
      older_in : (between : List Lit) → IsBetween lits t.entries (set added (var l) false) i between → (x : Lit) → Contains (true_lits (take i t.entries)) x → is_marked added (var x) ≡ true → Contains between x
      older_in between is x c m = is.marked x c (marked_other added (var l) (var x) false (λ e. older_other t i (Forced l id) x well at c e) ∙ m)

      gives : (between : List Lit) → IsBetween lits t.entries (set added (var l) false) i between → IsRightNext p before between h l
      gives between is = record {
        clause = forces.clause;
        is = named_so;
        gives = record {
          has = forces.has;
          free = (
            (λ c. elim (is.only l c) [ inl d ↦ marked.other l mine here d | inr d ↦ older_other t i (Forced l id) l well at d refl ]),
            (λ c. elim (is.only (negated l) c) [
              | inl d ↦ apart l mine (subst (λ y. Contains lits y) (negated-negated l) d)
              | inr d ↦ older_other t i (Forced l id) (negated l) well at d (var-negated l)
            ]),
          );
          others = λ m c. elim (forces.others_false m c) [
            | inl e ↦ inl e
            | inr d ↦ elim (contains_or_not lit_eq_or_not lits m) [
              | inl listed ↦ inr (is.start m listed)
              | inr not ↦ inr (older_in between is (negated m) d (subst (λ v. is_marked added v ≡ true) (sym (var-negated m)) (adds.each m c not)))
            ]
          ];
        };
      }

      wider : (between : List Lit) → IsBetween lits t.entries (set added (var l) false) i between → IsBetween lits t.entries old (suc i) (l ∷ between)
      wider between is = record {
        start = λ x c. contains_tail l (negated x) between (is.start x c);
        marked = λ x c m. elim (front_cases t.entries i (Forced l id) x at c) [
          | inl d ↦ contains_tail l x between (older_in between is x d (adds.kept (var x) m))
          | inr e ↦ subst (λ y. Contains (l ∷ between) y) (sym e) (contains_head l between)
        ];
        only = λ x c. elim (contains_cases l x between c) [
          | inl e ↦ inr (subst (λ y. Contains (true_lits (take (suc i) t.entries)) y) (sym e) mine)
          | inr d ↦ elim (is.only x d) [ inl f ↦ inl f | inr f ↦ inr (front_more t.entries i (Forced l id) x at f) ]
        ];
      }

-- a literal that is not needed is passed over
pub passed_marked : (lits : List Lit) (entries : List Assigned) (marks : List Bool) (i : ℕ) (a : Assigned) → slice_get entries i ≡ Some a → is_marked marks (var (lit_of a)) ≡ false → AreMarked lits entries marks (suc i) → AreMarked lits entries marks i
passed_marked lits entries marks i a at none marked = record {
  within = λ v m.
      let w = marked.within v m in
      elim (front_cases entries i a w.0 at w.1) [
        | inl c ↦ (w.0, c, w.2)
        | inr e ↦ let no : false ≡ true = sym none ∙ (ap (λ x. is_marked marks (var x)) (sym e) ∙ (ap (λ x. is_marked marks x) w.2 ∙ m)) in absurd (cc)
      ];
  other = λ x c m. marked.other x (front_more entries i a x at c) m;
}

pub passed_tail : (p : Problem) (before : List (List Lit)) (lits : List Lit) (entries : List Assigned) (marks : List Bool) (i : ℕ) (a : Assigned) (hints : List Hint) → slice_get entries i ≡ Some a → is_marked marks (var (lit_of a)) ≡ false
    → IsTail p before lits entries marks (suc i) hints → IsTail p before lits entries marks i hints
passed_tail p before lits entries marks i a hints at none tail = record {
  lean = λ between is. tail.lean between (record {
    start = is.start;
    marked = λ x c m. elim (front_cases entries i a x at c) [
      | inl d ↦ is.marked x d m
      | inr e ↦ let no : false ≡ true = sym none ∙ (ap (λ y. is_marked marks (var y)) (sym e) ∙ m) in absurd (cc)
    ];
    only = λ x c. elim (is.only x c) [ inl f ↦ inl f | inr f ↦ inr (front_more entries i a x at f) ];
  });
  needed = λ x c m. tail.needed x (front_more entries i a x at c) m;
}

-- ---- the end of the chain

pub begun_marked : (clauses : List (List Lit)) (lits : List Lit) (t : TrailView) (end : End) (old marks : List Bool) (e : IsEnd clauses lits t.entries end) → IsWell t → NoneIsMarked old → AddsMarks lits e.clause old marks → AreMarked lits t.entries marks end.before
begun_marked clauses lits t end old marks e well none adds = record {
  within = λ v m. elim (adds.only v m) [
    | inl was ↦ let no : false ≡ true = sym (none v) ∙ was in absurd (cc)
    | inr w ↦ elim (e.false w.0 w.1) [ inl listed ↦ absurd (w.2 listed) | inr c ↦ (negated w.0, c, var-negated w.0 ∙ w.3) ]
  ];
  other = λ x c m. elim (adds.only (var x) m) [
    | inl was ↦ let no : false ≡ true = sym (none (var x)) ∙ was in absurd (cc)
    | inr w ↦ elim (e.false w.0 w.1) [
      | inl listed ↦ absurd (w.2 listed)
      | inr d ↦
          let same : negated w.0 ≡ x = same_in_front t end.before (negated w.0) x well d c (var-negated w.0 ∙ w.3) in
          λ listed. w.2 (subst (λ y. Contains lits y) (ap negated (sym same) ∙ negated-negated w.0) listed)
    ]
  ];
}

pub begun_tail : (p : Problem) (before clauses : List (List Lit)) (lits : List Lit) (t : TrailView) (end : End) (old marks : List Bool) (h : Hint) (e : IsEnd clauses lits t.entries end) → IsWell t → NoneIsMarked old → AddsMarks lits e.clause old marks
    → named p before h ≡ Some e.clause → IsTail p before lits t.entries marks end.before (h ∷ [])
begun_tail p before clauses lits t end old marks h e well none adds named_so = record {
  lean = λ between is. last h (record {
    clause = e.clause;
    is = named_so;
    false = λ m c. elim (contains_or_not lit_eq_or_not lits m) [
      | inl listed ↦ is.start m listed
      | inr not ↦ elim (e.false m c) [
        | inl listed ↦ absurd (not listed)
        | inr d ↦ is.marked (negated m) d (subst (λ v. is_marked marks v ≡ true) (sym (var-negated m)) (adds.each m c not))
      ]
    ];
  });
  needed = λ x c m. elim (adds.only (var x) m) [
    | inl was ↦ let no : false ≡ true = sym (none (var x)) ∙ was in absurd (cc)
    | inr w ↦ elim (e.false w.0 w.1) [
      | inl listed ↦ absurd (w.2 listed)
      | inr d ↦
          let same : negated w.0 ≡ x = same_in_front t end.before (negated w.0) x well d c (var-negated w.0 ∙ w.3) in
          record { hint = h; listed = contains_head h []; clause = e.clause; is = named_so; has = subst (λ y. Contains e.clause y) (sym (negated-negated w.0) ∙ ap negated same) w.1 }
    ]
  ];
}

-- ---- the start of the trail

pub whole_chain : (p : Problem) (before : List (List Lit)) (lits : List Lit) (entries : List Assigned) (marks : List Bool) (hints : List Hint) → IsTail p before lits entries marks 0 hints → AreLean p before (map negated lits) hints
whole_chain p before lits entries marks hints tail = tail.lean (map negated lits) (record {
  start = λ x c. contains_map negated lits x c;
  marked = λ x c m. absurd (contains_nothing x c);
  only = λ x c. let m = contains_from_map negated lits x c in inl (subst (λ y. Contains lits y) (sym (ap negated m.2 ∙ negated-negated m.0)) m.1);
})

pub none_left : (lits : List Lit) (entries : List Assigned) (marks : List Bool) → AreMarked lits entries marks 0 → NoneIsMarked marks
none_left lits entries marks marked v = not_marked marks v (λ m. let w = marked.within v m in contains_nothing w.0 w.1)
