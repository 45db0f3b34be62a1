-- How the threads end that an assignment of all clauses spells.
use Rattle.std.proofs.Common.{◌≡◌, ℕ, zero, suc, ◌<◌, ⊎_elim, Bool, true, false, cond, List, [], ◌∷◌, map, refl, ap, sym, ◌∙◌, subst, arith}
use Rattle.std.specs.Prelude.{Option, Some, None, slice_get, Contains}
use Rattle.std.proofs.lemmas.Bool.{not-true}
use Rattle.std.proofs.lemmas.Option.{same_Some, none-some}
use Rattle.std.proofs.lemmas.List.Elements.{Contains-append_left, Contains-append_right, Contains-append_cases}
use Rattle.dg_base.specs.declared.Lit.{Lit}
use Rattle.dg_base.specs.declared.Place.{Place}
use Rattle.dg_base.proofs.Lists.{get_nothing, contains_nothing, contains_head, contains_map, contains_from_map}
use Rattle.bv_term.specs.declared.term.TermId.{TermId}
use Rattle.cnf_problem.specs.Literals.{value, negated, AreSatisfied}
use Rattle.cnf_problem.proofs.LiteralLaws.{value-negated}
use Rattle.flat_prog.specs.Runs.{FlatEnding, Ended, Stopped, Broken, Failed, is_broken}
use Rattle.ssa_form.specs.declared.SsaPart.{SsaPart}
use Rattle.ssa_form.specs.declared.SsaStep.{SsaStep}
use Rattle.ssa_form.specs.declared.SsaAct.{SsaAct}
use Rattle.ssa_form.specs.declared.SsaAct.TheVariants as act
use Rattle.ssa_form.specs.Parts.{Valuation, is_made, made_of, ending_by, ending_in, or_ending}
use Rattle.event_graph.specs.Graphs.{guard_lit}
use Rattle.encode_match.specs.Parts.{bad_by, fail_by, guards_in, guards_of, ending_clauses}
use Rattle.memory_models.proofs.Ways.{contains_one}

-- ---- the ending among the steps that are made

-- a step that is made and is this ending
pub record EndsAt (v : Valuation) (ss : List SsaStep) (e : FlatEnding) : Type 0 where
  pub place : ℕ
  pub step : SsaStep
  pub there : slice_get ss place ≡ Some step
  pub made : is_made v step ≡ true
  pub is : ending_by step.act ≡ Some e

ends_behind : (v : Valuation) (t : SsaStep) (ss : List SsaStep) (e : FlatEnding) → EndsAt v ss e → EndsAt v (t ∷ ss) e
ends_behind v t ss e h = record { place = suc h.place; step = h.step; there = h.there; made = h.made; is = h.is }

first_or : (v : Valuation) (t : SsaStep) (ss : List SsaStep) (e : FlatEnding) (o : Option FlatEnding) → ending_by t.act ≡ o → is_made v t ≡ true → (ending_in (made_of v ss) ≡ Some e → EndsAt v ss e) → or_ending o (ending_in (made_of v ss)) ≡ Some e → EndsAt v (t ∷ ss) e
first_or v t ss e None q m go h = ends_behind v t ss e (go h)
first_or v t ss e (Some d) q m go h = record { place = zero; step = t; there = refl; made = m; is = q ∙ h }

ends_by : (v : Valuation) (t : SsaStep) (ss : List SsaStep) (e : FlatEnding) (b : Bool) → is_made v t ≡ b → (ending_in (made_of v ss) ≡ Some e → EndsAt v ss e) → ending_in (cond b (t ∷ made_of v ss) (made_of v ss)) ≡ Some e → EndsAt v (t ∷ ss) e
ends_by v t ss e true m go h = first_or v t ss e (ending_by t.act) refl m go h
ends_by v t ss e false m go h = ends_behind v t ss e (go h)

pub ends_at : (v : Valuation) (ss : List SsaStep) (e : FlatEnding) → ending_in (made_of v ss) ≡ Some e → EndsAt v ss e
ends_at v [] e h = absurd (none-some e h)
ends_at v (t ∷ ss) e h = ends_by v t ss e (is_made v t) refl (ends_at v ss e) h

-- and the first of them is how the part ends
skip : (v : Valuation) (t : SsaStep) (ms : List SsaStep) (e : FlatEnding) (b : Bool) → (b ≡ true → ending_by t.act ≡ None) → ending_in ms ≡ Some e → ending_in (cond b (t ∷ ms) ms) ≡ Some e
skip v t ms e true n h = ap (λ (o : Option FlatEnding). or_ending o (ending_in ms)) (n refl) ∙ h
skip v t ms e false n h = h

pub ending_is : (v : Valuation) (ss : List SsaStep) (l : ℕ) (t : SsaStep) (e : FlatEnding) → slice_get ss l ≡ Some t → is_made v t ≡ true → ending_by t.act ≡ Some e
    → ((k : ℕ) (u : SsaStep) → k < l → slice_get ss k ≡ Some u → is_made v u ≡ true → ending_by u.act ≡ None) → ending_in (made_of v ss) ≡ Some e
ending_is v [] l t e h m q none = absurd (get_nothing l t h)
ending_is v (u ∷ ss) zero t e h m q none =
    let same : u ≡ t = same_Some u t h in
    subst (λ (b : Bool). ending_in (cond b (u ∷ made_of v ss) (made_of v ss)) ≡ Some e) (sym (ap (is_made v) same ∙ m))
    (ap (λ (o : Option FlatEnding). or_ending o (ending_in (made_of v ss))) (ap (λ (z : SsaStep). ending_by z.act) same ∙ q))
ending_is v (u ∷ ss) (suc l) t e h m q none =
    skip v u (made_of v ss) e (is_made v u) (λ b. none zero u (omega arith) refl b) (ending_is v ss l t e h m q (λ k w o. none (suc k) w (omega (arith, o))))

-- ---- the clauses of endings

-- a step of one of these kinds has its guard among those that are listed
pub guard_listed : (g : SsaStep → SsaAct → List TermId) (ps : List SsaPart) (j n : ℕ) (q : SsaPart) (t : SsaStep) → slice_get ps j ≡ Some q → slice_get q.steps n ≡ Some t → Contains (g t t.act) t.guard → Contains (guards_of g ps) t.guard
guard_listed g [] j n q t h i c = absurd (get_nothing j q h)
guard_listed g (a ∷ ps) zero n q t h i c = Contains-append_left (guards_in g a.steps) (guards_of g ps) t.guard (subst (λ (z : SsaPart). Contains (guards_in g z.steps) t.guard) (sym (same_Some a q h)) (in_steps q.steps n i))
  where
    in_steps : (ss : List SsaStep) (m : ℕ) → slice_get ss m ≡ Some t → Contains (guards_in g ss) t.guard
    in_steps [] m e = absurd (get_nothing m t e)
    in_steps (u ∷ ss) zero e = Contains-append_left (g u u.act) (guards_in g ss) t.guard (subst (λ (z : SsaStep). Contains (g z z.act) t.guard) (sym (same_Some u t e)) c)
    in_steps (u ∷ ss) (suc m) e = Contains-append_right (g u u.act) (guards_in g ss) t.guard (in_steps ss m e)
guard_listed g (a ∷ ps) (suc j) n q t h i c = Contains-append_right (guards_in g a.steps) (guards_of g ps) t.guard (guard_listed g ps j n q t h i c)

-- and what is listed is of a step
pub record Listed (g : SsaStep → SsaAct → List TermId) (ps : List SsaPart) (t : TermId) : Type 0 where
  pub number : ℕ
  pub part : SsaPart
  pub place : ℕ
  pub step : SsaStep
  pub is_part : slice_get ps number ≡ Some part
  pub is_step : slice_get part.steps place ≡ Some step
  pub listed : Contains (g step step.act) t

abbrev InSteps : (SsaStep → SsaAct → List TermId) → List SsaStep → TermId → Type 0
InSteps g ss t = (n : ℕ) × (u : SsaStep) × (slice_get ss n ≡ Some u) × Contains (g u u.act) t

steps_where : (g : SsaStep → SsaAct → List TermId) (ss : List SsaStep) (t : TermId) → Contains (guards_in g ss) t → InSteps g ss t
steps_where g [] t c = absurd (contains_nothing t c)
steps_where g (u ∷ ss) t c =
    ⊎_elim (λ h. (zero, u, refl, h)) (λ h. let r = steps_where g ss t h in (suc r.0, r.1, r.2, r.3)) (Contains-append_cases (g u u.act) (guards_in g ss) t c)

pub guard_where : (g : SsaStep → SsaAct → List TermId) (ps : List SsaPart) (t : TermId) → Contains (guards_of g ps) t → Listed g ps t
guard_where g [] t c = absurd (contains_nothing t c)
guard_where g (p ∷ ps) t c =
    ⊎_elim
    (λ h. let r = steps_where g p.steps t h in record { number = zero; part = p; place = r.0; step = r.1; is_part = refl; is_step = r.2; listed = r.3 })
    (λ h. let r = guard_where g ps t h in record { number = suc r.number; part = r.part; place = r.place; step = r.step; is_part = r.is_part; is_step = r.is_step; listed = r.listed })
    (Contains-append_cases (guards_in g p.steps) (guards_of g ps) t c)

-- a step that fails
pub record Fails (u : SsaStep) (a : SsaAct) (t : TermId) : Type 0 where
  pub at : Place
  pub tag : ℕ
  pub is : a ≡ act.Fail at tag
  pub guard : t ≡ u.guard

pub fails_by : (u : SsaStep) (a : SsaAct) (t : TermId) → Contains (fail_by u a) t → Fails u a t
fails_by u (act.Fail p tag) t c = record { at = p; tag = tag; is = refl; guard = contains_one u.guard t c }
fails_by u (act.Take d) t c = absurd (contains_nothing t c)
fails_by u (act.Read d w) t c = absurd (contains_nothing t c)
fails_by u (act.Write d w) t c = absurd (contains_nothing t c)
fails_by u act.Open t c = absurd (contains_nothing t c)
fails_by u act.Close t c = absurd (contains_nothing t c)
fails_by u act.Fence t c = absurd (contains_nothing t c)
fails_by u (act.Create i d w) t c = absurd (contains_nothing t c)
fails_by u (act.Join d) t c = absurd (contains_nothing t c)
fails_by u act.Start t c = absurd (contains_nothing t c)
fails_by u act.End t c = absurd (contains_nothing t c)
fails_by u act.Stop t c = absurd (contains_nothing t c)
fails_by u act.Bad t c = absurd (contains_nothing t c)

abbrev ending_number : FlatEnding → ℕ
ending_number Broken = 1
ending_number _ = 0

-- a Bad step is the broken ending
pub bad_act : (u : SsaStep) (a : SsaAct) → ending_by a ≡ Some Broken → Contains (bad_by u a) u.guard
bad_act u act.Bad h = contains_head u.guard []
bad_act u (act.Fail p tag) h = let n : 0 ≡ 1 = ap ending_number (same_Some (Failed p tag) Broken h) in absurd (omega (arith, n))
bad_act u act.End h = let n : 0 ≡ 1 = ap ending_number (same_Some Ended Broken h) in absurd (omega (arith, n))
bad_act u act.Stop h = let n : 0 ≡ 1 = ap ending_number (same_Some Stopped Broken h) in absurd (omega (arith, n))
bad_act u (act.Take d) h = absurd (none-some Broken h)
bad_act u (act.Read d w) h = absurd (none-some Broken h)
bad_act u (act.Write d w) h = absurd (none-some Broken h)
bad_act u act.Open h = absurd (none-some Broken h)
bad_act u act.Close h = absurd (none-some Broken h)
bad_act u act.Fence h = absurd (none-some Broken h)
bad_act u (act.Create i d w) h = absurd (none-some Broken h)
bad_act u (act.Join d) h = absurd (none-some Broken h)
bad_act u act.Start h = absurd (none-some Broken h)

-- no guard of a Bad step is true
pub bad_false : (s : List Bool) (words : List (List Lit)) (ps : List SsaPart) (t : TermId) → AreSatisfied s (ending_clauses words ps) → Contains (guards_of bad_by ps) t → value s (guard_lit words t) ≡ false
bad_false s words ps t sat c =
    let clauses = map (λ (u : TermId). negated (guard_lit words u) ∷ []) (guards_of bad_by ps) in
    let r = sat (negated (guard_lit words t) ∷ []) (Contains-append_left clauses (map (guard_lit words) (guards_of fail_by ps) ∷ []) (negated (guard_lit words t) ∷ []) (contains_map (λ (u : TermId). negated (guard_lit words u) ∷ []) (guards_of bad_by ps) t c)) in
    not-true (value s (guard_lit words t)) (sym (value-negated s (guard_lit words t)) ∙ (ap (value s) (sym (contains_one (negated (guard_lit words t)) r.0 r.1)) ∙ r.2))

-- some guard of a step that fails is
pub some_fail : (s : List Bool) (words : List (List Lit)) (ps : List SsaPart) → AreSatisfied s (ending_clauses words ps) → (t : TermId) × Contains (guards_of fail_by ps) t × (value s (guard_lit words t) ≡ true)
some_fail s words ps sat =
    let last = map (guard_lit words) (guards_of fail_by ps) in
    let r = sat last (Contains-append_right (map (λ (u : TermId). negated (guard_lit words u) ∷ []) (guards_of bad_by ps)) (last ∷ []) last (contains_head last [])) in
    let m = contains_from_map (guard_lit words) (guards_of fail_by ps) r.0 r.1 in
    (m.0, m.1, ap (value s) (sym m.2) ∙ r.2)

-- an ending that is not broken
pub not_broken : (e : FlatEnding) → (e ≡ Broken → ⊥) → is_broken e ≡ false
not_broken Ended n = refl
not_broken Stopped n = refl
not_broken Broken n = absurd (n refl)
not_broken (Failed p tag) n = refl
