-- The parts of a trail fit each other: at first, with one more entry, and with one less.
use Rattle.std.proofs.Common.{◌≡◌, ◌≢◌, ℕ, zero, suc, ◌+◌, ◌<◌, ◌≤◌, inl, inr, Bool, Option, Some, None, List, [], ◌∷◌, ◌++◌, length, set, get_or, min, refl, ap, sym, ◌∙◌, subst, arith, get_or-set_same, get_or-set_other}
use Rattle.std.specs.Prelude.{Contains, slice_get, option_map}
use Rattle.std.proofs.Math.ListN.{length-set}
use Rattle.std.proofs.lemmas.List.{length_push, map-append}
use Rattle.std.proofs.lemmas.List.Elements.{Contains-append_left, Contains-push, Contains-push_cases}
use Rattle.std.proofs.lemmas.Option.{slice_get_within}
use Rattle.std.proofs.lemmas.Bool.{cases_eq}
use Rattle.dg_base.proofs.Lists.{get_append_front, get_push_last, contains_place}
use Rattle.dg_base.specs.declared.Lit.{Lit}
use Rattle.cnf_problem.specs.Literals.{var, is_positive, IsOver}
use Rattle.cnf_problem.specs.Chains.{IsUnassigned}
use Rattle.trail_state.specs.declared.entry.Origin.{Origin}
use Rattle.trail_state.specs.Trails.{Assigned, TrailView, lit_of, reason, true_lits, level, level_of, reason_of, IsWell}
use Rattle.trail_state.specs.Slots.{value_of, AreParts}
use Rattle.trail_state.specs.Heaps.{IsFull, IsWithout, IsReordered}
use Rattle.trail_state.proofs.Cuts.{level-append}
use Rattle.trail_state.proofs.Assigning.{value_cases, value_of-push_old, value_of-push_new, value_of-here, level_of-push_old, level_of-push_new, level_of-here, reason_of-push_old, reason_of-push_new, reason_of-here, value_of-there, none_missing, some_present, unassigned_none}

-- the literals with one more entry
push_lits : (es : List Assigned) (a : Assigned) → true_lits (es ++ a ∷ []) ≡ true_lits es ++ lit_of a ∷ []
push_lits es a = map-append lit_of es (a ∷ [])

-- a trail stays well with one more entry of a free variable
pub well_push : (vars taken : ℕ) (es : List Assigned) (a : Assigned) → IsWell (record { vars = vars; entries = es; taken = taken }) → IsOver vars (lit_of a) → value_of (var (lit_of a)) es ≡ None → length es < vars → IsWell (record { vars = vars; entries = es ++ a ∷ []; taken = taken })
well_push vars taken es a w over free room = record {
  range = λ l m. elim (Contains-push_cases (true_lits es) (lit_of a) l (subst (λ z. Contains z l) (push_lits es a) m)) [
    | inl old ↦ w.range l old
    | inr same ↦ subst (λ z. IsOver vars z) same over
  ];
  once = λ i j x y ei ej same.
      let gi : slice_get (true_lits es ++ lit_of a ∷ []) i ≡ Some x = ap (λ z. slice_get z i) (sym (push_lits es a)) ∙ ei in
      let gj : slice_get (true_lits es ++ lit_of a ∷ []) j ≡ Some y = ap (λ z. slice_get z j) (sym (push_lits es a)) ∙ ej in
      let li : i < length (true_lits es ++ lit_of a ∷ []) = slice_get_within (true_lits es ++ lit_of a ∷ []) i x gi in
      let lj : j < length (true_lits es ++ lit_of a ∷ []) = slice_get_within (true_lits es ++ lit_of a ∷ []) j y gj in
      let n = length_push (true_lits es) (lit_of a) in
      elim (cases_eq i (length (true_lits es))) [
        | inl e ↦ elim (cases_eq j (length (true_lits es))) [
          | inl f ↦ e ∙ sym f
          | inr ne ↦
              let hj : j < length (true_lits es) = omega arith in
              let x_is : Some (lit_of a) ≡ Some x = sym (get_push_last (true_lits es) (lit_of a)) ∙ (ap (λ z. slice_get (true_lits es ++ lit_of a ∷ []) z) (sym e) ∙ gi) in
              let x_same : lit_of a ≡ x = cc in
              absurd (none_missing (var (lit_of a)) es free y (contains_place (true_lits es) j y (sym (get_append_front (true_lits es) (lit_of a ∷ []) j hj) ∙ gj)) (sym same ∙ ap (λ (z : Lit). var z) (sym x_same)))
        ]
        | inr ne ↦
            let hi : i < length (true_lits es) = omega arith in
            let old_i : slice_get (true_lits es) i ≡ Some x = sym (get_append_front (true_lits es) (lit_of a ∷ []) i hi) ∙ gi in
            elim (cases_eq j (length (true_lits es))) [
              | inl f ↦
                  let y_is : Some (lit_of a) ≡ Some y = sym (get_push_last (true_lits es) (lit_of a)) ∙ (ap (λ z. slice_get (true_lits es ++ lit_of a ∷ []) z) (sym f) ∙ gj) in
                  let y_same : lit_of a ≡ y = cc in
                  absurd (none_missing (var (lit_of a)) es free x (contains_place (true_lits es) i x old_i) (same ∙ ap (λ (z : Lit). var z) (sym y_same)))
              | inr nf ↦
                  let hj : j < length (true_lits es) = omega arith in
                  w.once i j x y old_i (sym (get_append_front (true_lits es) (lit_of a ∷ []) j hj) ∙ gj) same
            ]
      ];
  few = omega (arith, length_push es a);
  taken = let t = w.taken in omega (arith, length_push es a);
}

-- a trail stays well without its last entry
pub well_pop : (vars taken : ℕ) (es : List Assigned) (a : Assigned) → IsWell (record { vars = vars; entries = es ++ a ∷ []; taken = taken }) → IsWell (record { vars = vars; entries = es; taken = min taken (length es) })
well_pop vars taken es a w = record {
  range = λ l m. w.range l (subst (λ z. Contains z l) (sym (push_lits es a)) (Contains-append_left (true_lits es) (lit_of a ∷ []) l m));
  once = λ i j x y ei ej same.
      let up : (k : ℕ) (z : Lit) → slice_get (true_lits es) k ≡ Some z → slice_get (true_lits (es ++ a ∷ [])) k ≡ Some z =
      λ k z e. ap (λ s. slice_get s k) (push_lits es a) ∙ (get_append_front (true_lits es) (lit_of a ∷ []) k (slice_get_within (true_lits es) k z e) ∙ e) in
      w.once i j x y (up i x ei) (up j y ej) same;
  few = let f = w.few in omega (arith, length_push es a);
  taken = omega arith;
}

-- the last entry's variable is that of no other
pub last_free : (vars taken : ℕ) (es : List Assigned) (a : Assigned) → IsWell (record { vars = vars; entries = es ++ a ∷ []; taken = taken }) → value_of (var (lit_of a)) es ≡ None
last_free vars taken es a w =
    elim (value_cases (value_of (var (lit_of a)) es)) [
      | inl e ↦ e
      | inr some ↦
          let p = some_present (var (lit_of a)) es some.0 some.1 in
          let k = place_of (true_lits es) p.0 p.1 in
          let at_k : slice_get (true_lits (es ++ a ∷ [])) k.0 ≡ Some p.0 = ap (λ s. slice_get s k.0) (push_lits es a) ∙ (get_append_front (true_lits es) (lit_of a ∷ []) k.0 k.1 ∙ k.2) in
          let at_n : slice_get (true_lits (es ++ a ∷ [])) (length (true_lits es)) ≡ Some (lit_of a) = ap (λ s. slice_get s (length (true_lits es))) (push_lits es a) ∙ get_push_last (true_lits es) (lit_of a) in
          let same = w.once k.0 (length (true_lits es)) p.0 (lit_of a) at_k at_n p.2 in
          absurd (omega (arith, k.1))
    ]
  where
    place_of : {X : Type 0} (xs : List X) (x : X) → Contains xs x → (k : ℕ) × (k < length xs) × (slice_get xs k ≡ Some x)
    place_of [] x (k, h, e) = absurd (omega arith)
    place_of (y ∷ ys) x (zero, h, e) = (0, omega arith, ap (λ z. Some z) e)
    place_of (y ∷ ys) x (suc k, h, e) = let r = place_of ys x (k, omega arith, e) in (suc r.0, omega arith, r.2)

-- the last entry's variable is one of the trail's
pub last_over : (vars taken : ℕ) (es : List Assigned) (a : Assigned) → IsWell (record { vars = vars; entries = es ++ a ∷ []; taken = taken }) → IsOver vars (lit_of a)
last_over vars taken es a w = w.range (lit_of a) (subst (λ z. Contains z (lit_of a)) (sym (push_lits es a)) (Contains-push (true_lits es) (lit_of a)))

-- another variable's value does not change with one more entry
value_of-push_other : (v : ℕ) (es : List Assigned) (a : Assigned) → var (lit_of a) ≢ v → value_of v (es ++ a ∷ []) ≡ value_of v es
value_of-push_other v es a ne =
    elim (value_cases (value_of v es)) [
      | inl e ↦ value_of-push_new v es (a ∷ []) e ∙ (value_of-there v a [] ne ∙ sym e)
      | inr some ↦ value_of-push_old v es (a ∷ []) some.0 some.1 ∙ sym some.1
    ]

pub value_of-push_same : (es : List Assigned) (a : Assigned) → value_of (var (lit_of a)) es ≡ None → value_of (var (lit_of a)) (es ++ a ∷ []) ≡ Some (is_positive (lit_of a))
value_of-push_same es a e = value_of-push_new (var (lit_of a)) es (a ∷ []) e ∙ value_of-here (var (lit_of a)) a [] refl

-- a variable that has no value with one more entry had none
value_of-push_none : (v : ℕ) (es : List Assigned) (a : Assigned) → value_of v (es ++ a ∷ []) ≡ None → value_of v es ≡ None
value_of-push_none v es a h =
    elim (value_cases (value_of v es)) [
      | inl e ↦ e
      | inr some ↦ let bad : None ≡ Some some.0 = sym h ∙ value_of-push_old v es (a ∷ []) some.0 some.1 in cc
    ]

-- nothing is on a new trail
pub parts_new : (vars at room : ℕ) (values : List (Option Bool)) (origins : List Origin) (phases : List Bool) (free : List ℕ) → vars ≤ 2147483647 → at ≡ 0 → vars ≤ room → length values ≡ vars + 1 → ((v : ℕ) → v ≤ vars → get_or values v None ≡ None) → length origins ≡ vars + 1 → length phases ≡ vars + 1 → IsFull vars free → AreParts (record { vars = vars; entries = []; taken = 0 }) at room values origins phases free
parts_new vars at room values origins phases free small at_zero enough values_long all_none origins_long phases_long full = record {
  well = record { range = λ l m. absurd (omega (arith, m.1)); once = λ i j a b e f same. absurd cc; few = omega arith; taken = omega arith };
  small = small;
  at_level = at_zero;
  enough = enough;
  has_values = record { long = values_long; each = all_none };
  has_origins = record { long = origins_long; each = λ v b d le e. absurd cc };
  phases_long = phases_long;
  has_free = record {
    range = full.from;
    unassigned = λ v m. refl;
    all = λ v low high e. full.has v low high;
    count = omega (arith, full.count);
  };
}

-- one more entry
pub parts_push : (vars taken at room : ℕ) (es : List Assigned) (values : List (Option Bool)) (origins : List Origin) (phases : List Bool) (free : List ℕ) → AreParts (record { vars = vars; entries = es; taken = taken }) at room values origins phases free → (a : Assigned) → IsOver vars (lit_of a) → IsUnassigned (true_lits es) (lit_of a) → (more left : ℕ) (rest : List ℕ) (b : Bool) (o : Origin) → more ≡ level (es ++ a ∷ []) → room ≡ left → IsWithout (var (lit_of a)) free rest → b ≡ is_positive (lit_of a) → o.level ≡ more → option_map (λ r. r.0) o.reason ≡ reason a → AreParts (record { vars = vars; entries = es ++ a ∷ []; taken = taken }) more left (set values (var (lit_of a)) (Some b)) (set origins (var (lit_of a)) o) phases rest
parts_push vars taken at room es values origins phases free parts a over unassigned more left rest b o level_is same_room without sign o_level o_reason = record {
  well = well_push vars taken es a parts.well over none_yet (omega (arith, without.count, parts.has_free.count));
  small = parts.small;
  at_level = level_is;
  enough = let r = parts.enough in omega (arith, same_room);
  has_values = record {
    long = length-set values v (Some b) ∙ parts.has_values.long;
    each = λ u le. elim (cases_eq u v) [
      | inl e ↦ rw e (get_or-set_same values v (Some b) None (omega (arith, parts.has_values.long, over.1)) ∙ (ap (λ z. Some z) sign ∙ sym (value_of-push_same es a none_yet)))
      | inr ne ↦ get_or-set_other values v u (Some b) None ne ∙ (parts.has_values.each u le ∙ sym (value_of-push_other u es a (λ z. ne (sym z))))
    ];
  };
  has_origins = record {
    long = length-set origins v o ∙ parts.has_origins.long;
    each = λ u c d le h. elim (cases_eq u v) [
      | inl e ↦
          let at_v : get_or (set origins v o) u d ≡ o = rw e (get_or-set_same origins v o d (omega (arith, parts.has_origins.long, over.1))) in
          let l : level_of u (es ++ a ∷ []) ≡ level (es ++ a ∷ []) = rw e (level_of-push_new v es (a ∷ []) none_yet ∙ (ap (λ (n : ℕ). level es + n) (level_of-here v a [] refl) ∙ sym (level-append es (a ∷ [])))) in
          let r : reason_of u (es ++ a ∷ []) ≡ reason a = rw e (reason_of-push_new v es (a ∷ []) none_yet ∙ reason_of-here v a [] refl) in
          rw (at_v, l, r) (o_level ∙ level_is, o_reason)
      | inr ne ↦
          let at_u : get_or (set origins v o) u d ≡ get_or origins u d = get_or-set_other origins v u o d ne in
          let old : value_of u es ≡ Some c = sym (value_of-push_other u es a (λ z. ne (sym z))) ∙ h in
          rw (at_u, level_of-push_old u es (a ∷ []) c old, reason_of-push_old u es (a ∷ []) c old) (parts.has_origins.each u c d le old)
    ];
  };
  phases_long = parts.phases_long;
  has_free = record {
    range = λ u m. parts.has_free.range u (without.from u m);
    unassigned = λ u m.
        let ne : var (lit_of a) ≢ u = λ z. without.gone (subst (λ (w : ℕ). Contains rest w) (sym z) m) in
        value_of-push_other u es a ne ∙ parts.has_free.unassigned u (without.from u m);
    all = λ u low high h.
        without.kept u (parts.has_free.all u low high (value_of-push_none u es a h))
        (λ z. let bad : None ≡ Some (is_positive (lit_of a)) = sym h ∙ (ap (λ (w : ℕ). value_of w (es ++ a ∷ [])) z ∙ value_of-push_same es a none_yet) in cc);
    count = omega (arith, without.count, parts.has_free.count, length_push es a);
  };
}
  where
    v : ℕ
    v = var (lit_of a)

    none_yet : value_of (var (lit_of a)) es ≡ None
    none_yet = unassigned_none es (lit_of a) unassigned

-- one entry less
pub parts_pop : (vars taken at room : ℕ) (es : List Assigned) (a : Assigned) (values : List (Option Bool)) (origins : List Origin) (phases : List Bool) (free : List ℕ) → AreParts (record { vars = vars; entries = es ++ a ∷ []; taken = taken }) at room values origins phases free → (less left now : ℕ) (rest : List ℕ) (b : Bool) → less + level (a ∷ []) ≡ at → room ≡ left → now ≡ min taken (length es) → IsWithout (var (lit_of a)) rest free → AreParts (record { vars = vars; entries = es; taken = now }) less left (set values (var (lit_of a)) None) origins (set phases (var (lit_of a)) b) rest
parts_pop vars taken at room es a values origins phases free parts less left now rest b level_is same_room now_is without = record {
  well = rw now_is (well_pop vars taken es a parts.well);
  small = parts.small;
  at_level = omega (arith, level-append es (a ∷ []), parts.at_level, level_is);
  enough = let r = parts.enough in omega (arith, same_room);
  has_values = record {
    long = length-set values v None ∙ parts.has_values.long;
    each = λ u le. elim (cases_eq u v) [
      | inl e ↦ rw e (get_or-set_same values v None None (omega (arith, parts.has_values.long, over.1)) ∙ sym none_now)
      | inr ne ↦ get_or-set_other values v u None None ne ∙ (parts.has_values.each u le ∙ value_of-push_other u es a (λ z. ne (sym z)))
    ];
  };
  has_origins = record {
    long = parts.has_origins.long;
    each = λ u c d le h.
        rw (← level_of-push_old u es (a ∷ []) c h, ← reason_of-push_old u es (a ∷ []) c h)
        (parts.has_origins.each u c d le (value_of-push_old u es (a ∷ []) c h));
  };
  phases_long = length-set phases v b ∙ parts.phases_long;
  has_free = record {
    range = λ u m. elim (cases_eq u v) [
      | inl e ↦ subst (λ (z : ℕ). (1 ≤ z) × (z ≤ vars)) (sym e) over
      | inr ne ↦ parts.has_free.range u (without.kept u m ne)
    ];
    unassigned = λ u m. elim (cases_eq u v) [
      | inl e ↦ rw e none_now
      | inr ne ↦ value_of-push_none u es a (parts.has_free.unassigned u (without.kept u m ne))
    ];
    all = λ u low high h. elim (cases_eq u v) [
      | inl e ↦ subst (λ (z : ℕ). Contains rest z) (sym e) without.had
      | inr ne ↦ without.from u (parts.has_free.all u low high (value_of-push_other u es a (λ z. ne (sym z)) ∙ h))
    ];
    count = omega (arith, without.count, parts.has_free.count, length_push es a);
  };
}
  where
    v : ℕ
    v = var (lit_of a)

    none_now : value_of (var (lit_of a)) es ≡ None
    none_now = last_free vars taken es a parts.well

    over : IsOver vars (lit_of a)
    over = last_over vars taken es a parts.well

-- the free variables in another order
pub parts_reordered : (t : TrailView) (at room : ℕ) (values : List (Option Bool)) (origins : List Origin) (phases : List Bool) (free rest : List ℕ) → AreParts t at room values origins phases free → IsReordered free rest → AreParts t at room values origins phases rest
parts_reordered t at room values origins phases free rest parts r = record {
  well = parts.well;
  small = parts.small;
  at_level = parts.at_level;
  enough = parts.enough;
  has_values = parts.has_values;
  has_origins = parts.has_origins;
  phases_long = parts.phases_long;
  has_free = record {
    range = λ v m. parts.has_free.range v (r.from v m);
    unassigned = λ v m. parts.has_free.unassigned v (r.from v m);
    all = λ v low high e. r.kept v (parts.has_free.all v low high e);
    count = omega (arith, r.count, parts.has_free.count);
  };
}
