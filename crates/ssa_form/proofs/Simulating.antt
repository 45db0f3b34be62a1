-- Steps that follow those of an instance do under inputs what its run does on the numbers that they take.
use Rattle.std.proofs.Common.{◌≡◌, ℕ, ◌+◌, ◌⊎◌, inl, inr, Bool, true, false, List, [], ◌∷◌, ◌++◌, map, length, Option, Some, None, refl, ap, sym, ◌∙◌, subst, append_assoc, append-nil, length-append, arith}
use Rattle.std.specs.Prelude.{All, slice_get, cond}
use Rattle.std.proofs.lemmas.List.{map-append, length-map}
use Rattle.std.proofs.lemmas.List.Elements.{All-head, All-tail}
use Rattle.dg_base.specs.Values.{truth_of, is_true}
use Rattle.axiom_model.specs.declared.Action.{Action}
use Rattle.axiom_model.specs.declared.Action.TheVariants as action
use Rattle.bv_term.specs.declared.term.TermId.{TermId}
use Rattle.bv_term.specs.declared.term.Term.{Term}
use Rattle.flat_prog.specs.declared.Instance.{Instance}
use Rattle.flat_prog.specs.declared.FlatStep.{FlatStep}
use Rattle.flat_prog.specs.declared.FlatAct.{FlatAct}
use Rattle.flat_prog.specs.declared.FlatAct.TheVariants as flat
use Rattle.flat_prog.specs.Runs as runs
use Rattle.flat_prog.specs.Runs.{FlatState, FlatRun, FlatEnding, Progress, Goes, Over, Short, Ended, Stopped, Broken, Failed, take_into, function_at, act, step, go_on, steps, run_in, with_local}
use Rattle.ssa_form.specs.declared.SsaStep.{SsaStep}
use Rattle.ssa_form.specs.declared.SsaPart.{SsaPart}
use Rattle.ssa_form.specs.declared.SsaAct.{SsaAct}
use Rattle.ssa_form.specs.declared.SsaAct.TheVariants as ssa
use Rattle.ssa_form.specs.declared.walk.Named.{Named}
use Rattle.ssa_form.specs.Parts.{Valuation, input_of, inputs_in, made_of, script_of, function_in, action_by, actions_in, ending_by, or_ending, ending_in}
use Rattle.ssa_form.specs.Walks.{Words, values, act_by, target, is_end, Says, steps_by, changed, guard_value, alive_behind, locals_behind, Follows}
use Rattle.ssa_form.proofs.Acts.{inputs_by}
use Rattle.ssa_form.proofs.Following.{asleep, alive_ended, alive_goes}

-- ---- a step that there may be

abbrev pub actions_by : List SsaPart → Valuation → Option SsaAct → List Action
actions_by ps v None = []
actions_by ps v (Some a) = action_by ps v a

abbrev pub ends_by : Option SsaAct → Option FlatEnding
ends_by None = None
ends_by (Some a) = ending_by a

pub made_one : (v : Valuation) (guard : TermId) (o : Option SsaAct) (rest : List SsaStep) → v guard ≡ 1 → made_of v (steps_by guard o ++ rest) ≡ steps_by guard o ++ made_of v rest
made_one v guard None rest e = refl
made_one v guard (Some a) rest e = ap (λ n. cond (is_true n) (record { guard = guard; act = a } ∷ made_of v rest) (made_of v rest)) e

pub made_none : (v : Valuation) (guard : TermId) (o : Option SsaAct) (rest : List SsaStep) → v guard ≡ 0 → made_of v (steps_by guard o ++ rest) ≡ made_of v rest
made_none v guard None rest e = refl
made_none v guard (Some a) rest e = ap (λ n. cond (is_true n) (record { guard = guard; act = a } ∷ made_of v rest) (made_of v rest)) e

pub none_made : (v : Valuation) (ss : List SsaStep) → All (λ (s : SsaStep). v s.guard ≡ 0) ss → made_of v ss ≡ []
none_made v [] h = refl
none_made v (s ∷ ss) h =
    let P : SsaStep → Type 0 = λ t. v t.guard ≡ 0 in
    ap (λ n. cond (is_true n) (s ∷ made_of v ss) (made_of v ss)) (All-head P s ss h) ∙ none_made v ss (All-tail P s ss h)

pub inputs_first : (v : Valuation) (guard : TermId) (o : Option SsaAct) (rest : List SsaStep) → map v (inputs_in (steps_by guard o ++ rest)) ≡ map v (inputs_by o) ++ map v (inputs_in rest)
inputs_first v guard None rest = refl
inputs_first v guard (Some a) rest = map-append v (input_of a) (inputs_in rest)

actions_first : (ps : List SsaPart) (v : Valuation) (guard : TermId) (o : Option SsaAct) (rest : List SsaStep) → actions_in ps v (steps_by guard o ++ rest) ≡ actions_by ps v o ++ actions_in ps v rest
actions_first ps v guard None rest = refl
actions_first ps v guard (Some a) rest = refl

ending_first : (guard : TermId) (o : Option SsaAct) (rest : List SsaStep) → ending_in (steps_by guard o ++ rest) ≡ or_ending (ends_by o) (ending_in rest)
ending_first guard None rest = refl
ending_first guard (Some a) rest = refl

-- ---- an act that is made

-- what the run does with an act, where the script begins with the number that the step takes
pub record Acts (is : List Instance) (ps : List SsaPart) (v : Valuation) (a : FlatAct) (n : Named) (s : FlatState) (rest : List ℕ) : Type 0 where
  pub next : FlatState
  pub values : next.values ≡ changed s.values (target a) (v n.first)
  pub script : next.script ≡ rest
  pub actions : next.actions ≡ s.actions ++ actions_by ps v (act_by a n)
  pub used : next.used ≡ s.used + length (inputs_by (act_by a n))
  pub result : ((is_end a ≡ false) × (act is a s ≡ Goes next) × (ends_by (act_by a n) ≡ None)) ⊎ ((is_end a ≡ true) × ((e : FlatEnding) × (act is a s ≡ Over e next) × (ends_by (act_by a n) ≡ Some e)))

-- both lists have the same functions
abbrev pub SameFunctions : List Instance → List SsaPart → Type 0
SameFunctions is ps = (i : ℕ) → function_at is i ≡ function_in (slice_get ps i)

pub acts : (is : List Instance) (ps : List SsaPart) (v : Valuation) (a : FlatAct) (n : Named) (s : FlatState) (rest : List ℕ)
    → SameFunctions is ps → Says v s.values a n → s.script ≡ map v (inputs_by (act_by a n)) ++ rest → Acts is ps v a n s rest
acts is ps v (flat.Set to op args) n s rest same says e = record {
  next = runs.set_local to (v n.first) s;
  values = refl;
  script = e;
  actions = sym (append-nil s.actions);
  used = omega arith;
  result = inl (refl, ap (λ x. Goes (runs.set_local to x s)) (sym says), refl);
}
acts is ps v (flat.Put to x) n s rest same says e = record {
  next = runs.set_local to (v n.first) s;
  values = refl;
  script = e;
  actions = sym (append-nil s.actions);
  used = omega arith;
  result = inl (refl, ap (λ y. Goes (runs.set_local to y s)) (sym says), refl);
}
acts is ps v (flat.Take to) n s rest same says e = record {
  next = record { values = with_local s.values to (v n.first); script = rest; used = s.used + 1; actions = s.actions ++ [] };
  values = refl;
  script = refl;
  actions = refl;
  used = refl;
  result = inl (refl, ap (λ xs. take_into to (λ x. []) xs s) e, refl);
}
acts is ps v (flat.Read c to) n s rest same says e = record {
  next = record { values = with_local s.values to (v n.first); script = rest; used = s.used + 1; actions = s.actions ++ action.Read c (v n.first) ∷ [] };
  values = refl;
  script = refl;
  actions = refl;
  used = refl;
  result = inl (refl, ap (λ xs. take_into to (λ x. action.Read c x ∷ []) xs s) e, refl);
}
acts is ps v (flat.Write c from) n s rest same says e = record {
  next = runs.make (action.Write c (s.values from)) s;
  values = refl;
  script = e;
  actions = ap (λ x. s.actions ++ action.Write c x ∷ []) (sym says);
  used = omega arith;
  result = inl (refl, refl, refl);
}
acts is ps v flat.Open n s rest same says e = record { next = runs.make action.Open s; values = refl; script = e; actions = refl; used = omega arith; result = inl (refl, refl, refl) }
acts is ps v flat.Close n s rest same says e = record { next = runs.make action.Close s; values = refl; script = e; actions = refl; used = omega arith; result = inl (refl, refl, refl) }
acts is ps v flat.Fence n s rest same says e = record { next = runs.make action.Fence s; values = refl; script = e; actions = refl; used = omega arith; result = inl (refl, refl, refl) }
acts is ps v (flat.Create i handle arg) n s rest same says e = record {
  next = runs.make (action.Create (s.values handle) (function_at is i) (s.values arg)) s;
  values = refl;
  script = e;
  actions =
      ap (λ x. s.actions ++ action.Create x (function_at is i) (s.values arg) ∷ []) (sym says.0)
      ∙ ap (λ x. s.actions ++ action.Create (v n.first) x (s.values arg) ∷ []) (same i)
      ∙ ap (λ x. s.actions ++ action.Create (v n.first) (function_in (slice_get ps i)) x ∷ []) (sym says.1);
  used = omega arith;
  result = inl (refl, refl, refl);
}
acts is ps v (flat.Join from) n s rest same says e = record {
  next = runs.make (action.Join (s.values from)) s;
  values = refl;
  script = e;
  actions = ap (λ x. s.actions ++ action.Join x ∷ []) (sym says);
  used = omega arith;
  result = inl (refl, refl, refl);
}
acts is ps v flat.End n s rest same says e = record { next = runs.make action.End s; values = refl; script = e; actions = refl; used = omega arith; result = inr (refl, (Ended, refl, refl)) }
acts is ps v flat.Stop n s rest same says e = record { next = s; values = refl; script = e; actions = sym (append-nil s.actions); used = omega arith; result = inr (refl, (Stopped, refl, refl)) }
acts is ps v flat.Bad n s rest same says e = record { next = s; values = refl; script = e; actions = sym (append-nil s.actions); used = omega arith; result = inr (refl, (Broken, refl, refl)) }
acts is ps v (flat.Fail p tag) n s rest same says e = record { next = s; values = refl; script = e; actions = sym (append-nil s.actions); used = omega arith; result = inr (refl, (Failed p tag, refl, refl)) }

-- ---- all steps

-- from this state on the run does what the steps do
pub record RunsOn (is : List Instance) (ps : List SsaPart) (v : Valuation) (ts : List FlatStep) (s : FlatState) (ss : List SsaStep) : Type 0 where
  pub ending : FlatEnding
  pub ends : ending_in (made_of v ss) ≡ Some ending
  pub runs : run_in (steps is ts s) ≡ Some (record { actions = s.actions ++ actions_in ps v (made_of v ss); ending = ending; used = s.used + length (script_of v ss) })

abbrev run_with : List Action → FlatEnding → ℕ → Option FlatRun
run_with xs e n = Some (record { actions = xs; ending = e; used = n })

module _ (is : List Instance) (ps : List SsaPart) (terms : List Term) (w : Words) where
  abbrev v : Valuation
  v = values terms w

  -- where the run goes on, what is behind it counts
  goes : (guard : TermId) (o : Option SsaAct) (ts : List FlatStep) (s next : FlatState) (p : Progress) (rest : List SsaStep) → v guard ≡ 1 → p ≡ Goes next → ends_by o ≡ None
      → next.actions ≡ s.actions ++ actions_by ps v o → next.used ≡ s.used + length (inputs_by o) → RunsOn is ps v ts next rest
      → (e : FlatEnding) × (ending_in (made_of v (steps_by guard o ++ rest)) ≡ Some e)
      × (run_in (go_on p (steps is ts)) ≡ run_with (s.actions ++ actions_in ps v (made_of v (steps_by guard o ++ rest))) e (s.used + length (script_of v (steps_by guard o ++ rest))))
  goes guard o ts s next p rest g e none actions used r =
      let made = made_one v guard o rest g in
      let acting : next.actions ++ actions_in ps v (made_of v rest) ≡ s.actions ++ actions_in ps v (made_of v (steps_by guard o ++ rest)) =
      ap (λ xs. xs ++ actions_in ps v (made_of v rest)) actions ∙ append_assoc s.actions (actions_by ps v o) (actions_in ps v (made_of v rest))
      ∙ ap (λ xs. s.actions ++ xs) (sym (ap (actions_in ps v) made ∙ actions_first ps v guard o (made_of v rest))) in
      let long : length (script_of v (steps_by guard o ++ rest)) ≡ length (inputs_by o) + length (script_of v rest) =
      ap (λ ms. length (map v (inputs_in ms))) made ∙ ap (λ (xs : List ℕ). length xs) (inputs_first v guard o (made_of v rest))
      ∙ length-append (map v (inputs_by o)) (script_of v rest) ∙ ap (λ n. n + length (script_of v rest)) (length-map (inputs_by o) v) in
      let count : next.used + length (script_of v rest) ≡ s.used + length (script_of v (steps_by guard o ++ rest)) = omega (arith, used, long) in (
        r.ending,
        ap ending_in made ∙ ending_first guard o (made_of v rest) ∙ ap (λ x. or_ending x (ending_in (made_of v rest))) none ∙ r.ends,
        ap (λ q. run_in (go_on q (steps is ts))) e ∙ r.runs ∙ ap (λ xs. run_with xs r.ending (next.used + length (script_of v rest))) acting
            ∙ ap (λ n. run_with (s.actions ++ actions_in ps v (made_of v (steps_by guard o ++ rest))) r.ending n) count,
      )

  -- where it is over, nothing is behind it
  ends : (guard : TermId) (o : Option SsaAct) (ts : List FlatStep) (s next : FlatState) (p : Progress) (e : FlatEnding) (rest : List SsaStep) → v guard ≡ 1 → p ≡ Over e next → ends_by o ≡ Some e
      → next.actions ≡ s.actions ++ actions_by ps v o → next.used ≡ s.used + length (inputs_by o) → made_of v rest ≡ []
      → (ending_in (made_of v (steps_by guard o ++ rest)) ≡ Some e)
      × (run_in (go_on p (steps is ts)) ≡ run_with (s.actions ++ actions_in ps v (made_of v (steps_by guard o ++ rest))) e (s.used + length (script_of v (steps_by guard o ++ rest))))
  ends guard o ts s next p e rest g over ending actions used none =
      let made = made_one v guard o rest g in
      let acting : next.actions ≡ s.actions ++ actions_in ps v (made_of v (steps_by guard o ++ rest)) =
      actions ∙ ap (λ xs. s.actions ++ xs)
      (sym (ap (actions_in ps v) made ∙ actions_first ps v guard o (made_of v rest) ∙ ap (λ ms. actions_by ps v o ++ actions_in ps v ms) none ∙ append-nil (actions_by ps v o))) in
      let long : length (script_of v (steps_by guard o ++ rest)) ≡ length (inputs_by o) =
      ap (λ ms. length (map v (inputs_in ms))) made ∙ ap (λ (xs : List ℕ). length xs) (inputs_first v guard o (made_of v rest))
      ∙ ap (λ ms. length (map v (inputs_by o) ++ map v (inputs_in ms))) none ∙ ap (λ (xs : List ℕ). length xs) (append-nil (map v (inputs_by o))) ∙ length-map (inputs_by o) v in
      let count : next.used ≡ s.used + length (script_of v (steps_by guard o ++ rest)) = omega (arith, used, long) in (
        ap ending_in made ∙ ending_first guard o (made_of v rest) ∙ ap (λ x. or_ending x (ending_in (made_of v rest))) ending,
        ap (λ q. run_in (go_on q (steps is ts))) over ∙ ap (λ xs. run_with xs e next.used) acting
            ∙ ap (λ n. run_with (s.actions ++ actions_in ps v (made_of v (steps_by guard o ++ rest))) e n) count,
      )

  -- ---- by induction on the steps

  pub simulates : SameFunctions is ps → (ts : List FlatStep) (locals : Words → ℕ → ℕ) (alive : Words → ℕ) (ss : List SsaStep) (s : FlatState)
      → Follows terms ts locals alive ss → alive w ≡ 1 → s.values ≡ locals w → s.script ≡ script_of v ss → RunsOn is ps v ts s ss
  simulates same [] locals alive ss s f live now script =
      let made : made_of v ss ≡ record { guard = f.guard; act = ssa.End } ∷ [] = ap (made_of v) f.steps ∙ made_one v f.guard (Some ssa.End) [] (f.made w ∙ live) in
      record {
        ending = Ended;
        ends = ap ending_in made;
        runs =
            let count : s.used ≡ s.used + length (script_of v ss) = omega (arith, ap (λ ms. length (map v (inputs_in ms))) made) in
            ap (λ xs. run_with (s.actions ++ xs) Ended s.used) (sym (ap (actions_in ps v) made)) ∙ ap (λ n. run_with (s.actions ++ actions_in ps v (made_of v ss)) Ended n) count;
      }
  simulates same (t ∷ ts) locals alive ss s f live now script =
      subst (λ z. RunsOn is ps v (t ∷ ts) s z) (sym f.steps) (by_guard (λ next. simulates same ts _ _ f.rest next f.behind) (is_true (locals w t.guard)) refl (script ∙ ap (script_of v) f.steps))
    where
      guard_is : (b : Bool) → is_true (locals w t.guard) ≡ b → v f.guard ≡ truth_of b
      guard_is b e = f.made w ∙ ap (λ a. guard_value a (locals w t.guard)) live ∙ ap truth_of e

      now_is : (b : Bool) → is_true (locals w t.guard) ≡ b → step is t s ≡ cond b (act is t.act s) (Goes s)
      now_is b e = ap (λ l. cond (is_true (l t.guard)) (act is t.act s) (Goes s)) now ∙ ap (λ c. cond c (act is t.act s) (Goes s)) e

      by_guard : ((next : FlatState) → alive_behind t.act (alive w) (locals w t.guard) ≡ 1 → next.values ≡ locals_behind v (locals w) t f.named → next.script ≡ script_of v f.rest → RunsOn is ps v ts next f.rest)
          → (b : Bool) → is_true (locals w t.guard) ≡ b → s.script ≡ script_of v (steps_by f.guard (act_by t.act f.named) ++ f.rest) → RunsOn is ps v (t ∷ ts) s (steps_by f.guard (act_by t.act f.named) ++ f.rest)
      by_guard again false e has =
          let none = made_none v f.guard (act_by t.act f.named) f.rest (guard_is false e) in
          let values : s.values ≡ locals_behind v (locals w) t f.named = now ∙ sym (ap (λ b. cond b (changed (locals w) (target t.act) (v f.named.first)) (locals w)) e) in
          let goes_on : alive_behind t.act (alive w) (locals w t.guard) ≡ 1 = ap (λ b. cond (is_end t.act) (cond b 0 (alive w)) (alive w)) e ∙ same_either (is_end t.act) ∙ live in
          let r = again s goes_on values (has ∙ ap (λ ms. map v (inputs_in ms)) none) in
          record {
            ending = r.ending;
            ends = ap ending_in none ∙ r.ends;
            runs = ap (λ p. run_in (go_on p (steps is ts))) (now_is false e) ∙ r.runs
                ∙ sym (ap (λ ms. run_with (s.actions ++ actions_in ps v ms) r.ending (s.used + length (map v (inputs_in ms)))) none);
          }
        where
          same_either : (b : Bool) → cond b (alive w) (alive w) ≡ alive w
          same_either true = refl
          same_either false = refl
      by_guard again true e has =
          let made = made_one v f.guard (act_by t.act f.named) f.rest (guard_is true e) in
          let first : s.script ≡ map v (inputs_by (act_by t.act f.named)) ++ script_of v f.rest = has ∙ ap (λ ms. map v (inputs_in ms)) made ∙ inputs_first v f.guard (act_by t.act f.named) (made_of v f.rest) in
          let says : Says v s.values t.act f.named = subst (λ l. Says v l t.act f.named) (sym now) (f.says w) in
          let a = acts is ps v t.act f.named s (script_of v f.rest) same says first in
          let values : a.next.values ≡ locals_behind v (locals w) t f.named =
          a.values ∙ ap (λ l. changed l (target t.act) (v f.named.first)) now ∙ sym (ap (λ b. cond b (changed (locals w) (target t.act) (v f.named.first)) (locals w)) e) in
          elim a.result [
            | inl g ↦
                let rest = again a.next (alive_goes t.act (alive w) (locals w t.guard) g.0 ∙ live) values a.script in
                let r = goes f.guard (act_by t.act f.named) ts s a.next (step is t s) f.rest (guard_is true e) (now_is true e ∙ g.1) g.2 a.actions a.used rest in
                record { ending = r.0; ends = r.1; runs = r.2 }
            | inr g ↦
                let none = none_made v f.rest (asleep terms w ts _ _ f.rest f.behind (alive_ended t.act (alive w) (locals w t.guard) g.0 e)) in
                let r = ends f.guard (act_by t.act f.named) ts s a.next (step is t s) g.1.0 f.rest (guard_is true e) (now_is true e ∙ g.1.1) g.1.2 a.actions a.used none in
                record { ending = g.1.0; ends = r.0; runs = r.1 }
          ]
