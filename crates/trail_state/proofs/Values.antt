-- What the parts of a trail tell.
use Rattle.std.proofs.Common.{◌≡◌, ℕ, zero, suc, ◌<◌, ◌≤◌, inl, inr, Bool, true, false, not, Option, Some, None, List, [], ◌∷◌, map, length, get_or, refl, ap, sym, ◌∙◌, subst, arith}
use Rattle.std.specs.Prelude.{Contains, slice_get, option_map, if◌then◌else◌}
use Rattle.std.proofs.lemmas.List.{length-map}
use Rattle.std.proofs.lemmas.Option.{slice_get-map, slice_get_read}
use Rattle.dg_base.specs.declared.Lit.{Lit}
use Rattle.cnf_problem.specs.Literals.{var, is_positive, negated}
use Rattle.cnf_problem.proofs.LiteralLaws.{var-negated}
use Rattle.trail_state.specs.declared.entry.Entry.{Entry}
use Rattle.trail_state.specs.declared.entry.Origin.{Origin}
use Rattle.trail_state.specs.Entries.{meaning}
use Rattle.trail_state.specs.Trails.{TrailView, lit_of, true_lits, level_of, reason_of, IsAssigned, IsWell, HasValue}
use Rattle.trail_state.specs.Slots.{value_of, signed, AreParts}
use Rattle.trail_state.proofs.Assigning.{value_cases, some_present, none_unassigned, assigned_some, some_assigned, same_or_negated, not_own_negation, negated-sign}

-- where a member stands
pub place_of : {X : Type 0} (xs : List X) (x : X) → Contains xs x → (k : ℕ) × (k < length xs) × (slice_get xs k ≡ Some x)
place_of [] x (k, h, e) = absurd (omega arith)
place_of (y ∷ ys) x (zero, h, e) = (0, omega arith, ap (λ z. Some z) e)
place_of (y ∷ ys) x (suc k, h, e) = let r = place_of ys x (k, omega arith, e) in (suc r.0, omega arith, r.2)

-- a trail has no literal together with its negation
pub not_both : (t : TrailView) → IsWell t → (l : Lit) → Contains (true_lits t.entries) l → Contains (true_lits t.entries) (negated l) → ⊥
not_both t w l here neg =
    let i = place_of (true_lits t.entries) l here in
    let j = place_of (true_lits t.entries) (negated l) neg in
    let same : i.0 ≡ j.0 = w.once i.0 j.0 l (negated l) i.2 j.2 (sym (var-negated l)) in
    let e : Some l ≡ Some (negated l) = sym i.2 ∙ (ap (λ k. slice_get (true_lits t.entries) k) same ∙ j.2) in
    not_own_negation l cc

-- a true literal of the variable, with its sign, tells the value
has_sign : (lits : List Lit) (l m : Lit) → Contains lits m → var m ≡ var l → (Contains lits l → Contains lits (negated l) → ⊥) → (p b : Bool) → is_positive l ≡ p → is_positive m ≡ b → (is_positive (negated l) ≡ not p) → HasValue lits l (Some (if p then b else not b))
has_sign lits l m h e apart p b sl sm sn =
    elim (same_or_negated m l e) [
      | inl same ↦
          let here = subst (λ z. Contains lits z) same h in
          let signs : b ≡ p = sym sm ∙ (ap (λ (z : Lit). is_positive z) same ∙ sl) in
          subst (λ (z : Bool). HasValue lits l (Some (if p then z else not z))) (sym signs) (true_at p here)
      | inr neg ↦
          let here = subst (λ z. Contains lits z) neg h in
          let signs : b ≡ not p = sym sm ∙ (ap (λ (z : Lit). is_positive z) neg ∙ sn) in
          subst (λ (z : Bool). HasValue lits l (Some (if p then z else not z))) (sym signs) (false_at p here)
    ]
  where
    true_at : (q : Bool) → Contains lits l → HasValue lits l (Some (if q then q else not q))
    true_at true here = (here, λ n. apart here n)
    true_at false here = (here, λ n. apart here n)

    false_at : (q : Bool) → Contains lits (negated l) → HasValue lits l (Some (if q then not q else not (not q)))
    false_at true here = (here, λ y. apart y here)
    false_at false here = (here, λ y. apart y here)

-- the variable's value tells the literal's
pub has_value : (t : TrailView) → IsWell t → (l : Lit) → (o : Option Bool) → value_of (var l) t.entries ≡ o → HasValue (true_lits t.entries) l (signed l o)
has_value t w l None h = none_unassigned t.entries l h
has_value t w l (Some b) h =
    let m = some_present (var l) t.entries b h in
    has_sign (true_lits t.entries) l m.0 m.1 m.2 (not_both t w l) (is_positive l) b refl m.3 (negated-sign l)

-- an assigned variable is one of the trail's
pub assigned_over : (t : TrailView) → IsWell t → (v : ℕ) → IsAssigned t.entries v → (1 ≤ v) × (v ≤ t.vars)
assigned_over t w v a = subst (λ (z : ℕ). (1 ≤ z) × (z ≤ t.vars)) a.2 (w.range a.0 a.1)

-- the slot of an assigned variable
pub origin_at : (t : TrailView) (at room : ℕ) (values : List (Option Bool)) (origins : List Origin) (phases : List Bool) (free : List ℕ) → AreParts t at room values origins phases free → (v : ℕ) → IsAssigned t.entries v → (o : Origin) → o ≡ get_or origins v o → (o.level ≡ level_of v t.entries) × (option_map (λ r. r.0) o.reason ≡ reason_of v t.entries)
origin_at t at room values origins phases free parts v a o e =
    let s = assigned_some v t.entries a in
    let w = parts.has_origins.each v s.0 o (assigned_over t parts.well v a).1 s.1 in
    (ap (λ (z : Origin). z.level) e ∙ w.0, ap (λ (z : Origin). option_map (λ r. r.0) z.reason) e ∙ w.1)

-- the literal of an entry that was read
pub lit_read : (items : List Entry) (i : ℕ) (x : Entry) → i < length items → x ≡ get_or items i x → slice_get (true_lits (map meaning items)) i ≡ Some (lit_of (meaning x))
lit_read items i x h e =
    rw (slice_get-map lit_of (map meaning items) i, slice_get-map meaning items i, slice_get_read items (length items) i x refl h e) refl

-- entries as contracts see them are as many
pub entries_long : (items : List Entry) → length (map meaning items) ≡ length items
entries_long items = length-map items meaning

-- where none is free, every variable is assigned
pub none_free : (t : TrailView) (at room : ℕ) (values : List (Option Bool)) (origins : List Origin) (phases : List Bool) (free : List ℕ) → AreParts t at room values origins phases free → length free ≡ 0 → (v : ℕ) → 1 ≤ v → v ≤ t.vars → IsAssigned t.entries v
none_free t at room values origins phases free parts empty v low high =
    elim (value_cases (value_of v t.entries)) [
      | inl e ↦ let m = parts.has_free.all v low high e in absurd (omega (arith, m.1))
      | inr some ↦ some_assigned v t.entries some.0 some.1
    ]
