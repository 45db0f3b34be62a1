-- Steps that follow those of an instance are made where its run makes them.
use Rattle.std.proofs.Common.{◌≡◌, ℕ, suc, inl, inr, Bool, true, false, List, [], ◌∷◌, ◌++◌, map, length, refl, ap, sym, ◌∙◌, subst}
use Rattle.std.specs.Prelude.{cond}
use Rattle.std.proofs.lemmas.List.{length-map}
use Rattle.dg_base.specs.Values.{truth_of, is_true}
use Rattle.bv_term.specs.declared.term.TermId.{TermId}
use Rattle.bv_term.specs.declared.term.Term.{Term}
use Rattle.flat_prog.specs.declared.Instance.{Instance}
use Rattle.flat_prog.specs.declared.FlatStep.{FlatStep}
use Rattle.flat_prog.specs.Runs.{FlatState, Progress, Goes, Over, Short, act, step, go_on, steps, made_behind, made_from}
use Rattle.flat_prog.specs.Sections.{Mark, Acts}
use Rattle.flat_prog.specs.Shape as shape
use Rattle.ssa_form.specs.declared.SsaStep.{SsaStep}
use Rattle.ssa_form.specs.declared.SsaPart.{SsaPart}
use Rattle.ssa_form.specs.declared.SsaAct.TheVariants.{End}
use Rattle.ssa_form.specs.declared.walk.Named.{Named}
use Rattle.ssa_form.specs.Parts.{Valuation, inputs_in, is_made, made_of, script_of, mark_of, marks_of}
use Rattle.ssa_form.specs.Walks.{Words, values, act_by, target, is_end, Says, steps_by, changed, guard_value, alive_behind, locals_behind, Follows}
use Rattle.ssa_form.proofs.Acts.{inputs_by}
use Rattle.ssa_form.proofs.Following.{makes, alive_over, alive_ended, alive_goes, guard_over}
use Rattle.ssa_form.proofs.Simulating.{SameFunctions, acts, made_one, made_none, inputs_first}
use Rattle.ssa_form.proofs.Sparse.{Sparse, none, keep, drop}

abbrev IsSparse : Valuation → List SsaStep → List Mark → List Bool → Type 0
IsSparse v ss ns cs = Sparse (marks_of ss) (map (is_made v) ss) ns cs

-- one step of the instance more
one_more : (v : Valuation) (guard : TermId) (t : FlatStep) (n : Named) (ss rest : List SsaStep) (ns : List Mark) (cs : List Bool) (b : Bool) → ss ≡ steps_by guard (act_by t.act n) ++ rest → is_true (v guard) ≡ b
    → IsSparse v rest ns cs → IsSparse v ss (shape.mark_of t.act ∷ ns) (b ∷ cs)
one_more v guard t n ss rest ns cs b e made h =
    elim (makes guard t n ss rest e) [
      | inl q ↦
          let P : Mark → Type 0 = λ m. IsSparse v ss (m ∷ ns) (b ∷ cs) in
          subst P (sym q.quiet.mark) (drop b (marks_of ss) (map (is_made v) ss) ns cs (subst (λ z. IsSparse v z ns cs) (sym q.same) h))
      | inr o ↦
          let all : Sparse (mark_of o.loud.act ∷ marks_of rest) (b ∷ map (is_made v) rest) (mark_of o.loud.act ∷ ns) (b ∷ cs) = keep (mark_of o.loud.act) b (marks_of rest) (map (is_made v) rest) ns cs h in
          let here : Sparse (mark_of o.loud.act ∷ marks_of rest) (is_true (v guard) ∷ map (is_made v) rest) (mark_of o.loud.act ∷ ns) (b ∷ cs) =
          subst (λ c. Sparse (mark_of o.loud.act ∷ marks_of rest) (c ∷ map (is_made v) rest) (mark_of o.loud.act ∷ ns) (b ∷ cs)) (sym made) all in
          let P : Mark → Type 0 = λ m. Sparse (mark_of o.loud.act ∷ marks_of rest) (is_true (v guard) ∷ map (is_made v) rest) (m ∷ ns) (b ∷ cs) in
          subst (λ z. IsSparse v z (shape.mark_of t.act ∷ ns) (b ∷ cs)) (sym o.same) (subst P o.loud.mark here)
    ]

-- the last step, where the run goes on behind the others or not
last_one : (v : Valuation) (guard : TermId) (ss : List SsaStep) (b : Bool) → ss ≡ record { guard = guard; act = End } ∷ [] → is_true (v guard) ≡ b → IsSparse v ss (Acts ∷ []) (b ∷ [])
last_one v guard ss b e made =
    let here : Sparse (Acts ∷ []) (is_true (v guard) ∷ []) (Acts ∷ []) (b ∷ []) = subst (λ c. Sparse (Acts ∷ []) (c ∷ []) (Acts ∷ []) (b ∷ [])) (sym made) (keep Acts b [] [] [] [] none) in
    subst (λ z. IsSparse v z (Acts ∷ []) (b ∷ [])) (sym e) here

-- where the run is over no step is made
pub sparse_over : (terms : List Term) (w : Words) (ts : List FlatStep) (locals : Words → ℕ → ℕ) (alive : Words → ℕ) (ss : List SsaStep) → Follows terms ts locals alive ss → alive w ≡ 0
    → IsSparse (values terms w) ss (shape.marks_of ts ++ Acts ∷ []) (map (λ (t : FlatStep). false) ts ++ false ∷ [])
sparse_over terms w [] locals alive ss f e = last_one (values terms w) f.guard ss false f.steps (ap is_true (f.made w ∙ e))
sparse_over terms w (t ∷ ts) locals alive ss f e =
    one_more (values terms w) f.guard t f.named ss f.rest (shape.marks_of ts ++ Acts ∷ []) (map (λ (u : FlatStep). false) ts ++ false ∷ []) false f.steps
    (ap is_true (f.made w ∙ guard_over (alive w) (locals w t.guard) e))
    (sparse_over terms w ts _ _ f.rest f.behind (alive_over t.act (alive w) (locals w t.guard) e))

-- whether the run goes on
abbrev pub is_going : Progress → Bool
is_going (Goes s) = true
is_going (Over e s) = false
is_going (Short s) = false

module _ (is : List Instance) (ps : List SsaPart) (terms : List Term) (w : Words) where
  abbrev v : Valuation
  v = values terms w

  abbrev made_all : List FlatStep → FlatState → List Bool
  made_all ts s = made_from is ts s ++ is_going (steps is ts s) ∷ []

  behind_going : (t : FlatStep) (ts : List FlatStep) (p : Progress) (next : FlatState) → p ≡ Goes next → made_behind p (made_from is ts) ts ++ is_going (go_on p (steps is ts)) ∷ [] ≡ made_all ts next
  behind_going t ts p next e = ap (λ q. made_behind q (made_from is ts) ts ++ is_going (go_on q (steps is ts)) ∷ []) e

  -- while the run goes on, the steps are made that it makes
  pub sparse_run : SameFunctions is ps → (ts : List FlatStep) (locals : Words → ℕ → ℕ) (alive : Words → ℕ) (ss : List SsaStep) (s : FlatState)
      → Follows terms ts locals alive ss → alive w ≡ 1 → s.values ≡ locals w → s.script ≡ script_of v ss → IsSparse v ss (shape.marks_of ts ++ Acts ∷ []) (made_all ts s)
  sparse_run same [] locals alive ss s f live now script = last_one v f.guard ss true f.steps (ap is_true (f.made w ∙ live))
  sparse_run same (t ∷ ts) locals alive ss s f live now script = by_guard (λ next. sparse_run same ts _ _ f.rest next f.behind) (is_true (locals w t.guard)) refl
    where
      guard_is : (b : Bool) → is_true (locals w t.guard) ≡ b → v f.guard ≡ truth_of b
      guard_is b e = f.made w ∙ ap (λ a. guard_value a (locals w t.guard)) live ∙ ap truth_of e

      now_is : (b : Bool) → is_true (locals w t.guard) ≡ b → step is t s ≡ cond b (act is t.act s) (Goes s)
      now_is b e = ap (λ l. cond (is_true (l t.guard)) (act is t.act s) (Goes s)) now ∙ ap (λ c. cond c (act is t.act s) (Goes s)) e

      has : s.script ≡ script_of v (steps_by f.guard (act_by t.act f.named) ++ f.rest)
      has = script ∙ ap (script_of v) f.steps

      -- the step, and what is behind it
      whole : (b : Bool) (cs : List Bool) → is_true (locals w t.guard) ≡ b → is_true (v f.guard) ≡ b → made_behind (step is t s) (made_from is ts) ts ++ is_going (go_on (step is t s) (steps is ts)) ∷ [] ≡ cs
          → IsSparse v f.rest (shape.marks_of ts ++ Acts ∷ []) cs → IsSparse v ss (shape.marks_of (t ∷ ts) ++ Acts ∷ []) (made_all (t ∷ ts) s)
      whole b cs e made same_rest h =
          let here : is_true (s.values t.guard) ≡ b = ap (λ l. is_true (l t.guard)) now ∙ e in
          let all : made_all (t ∷ ts) s ≡ b ∷ cs = ap (λ c. c ∷ (made_behind (step is t s) (made_from is ts) ts ++ is_going (go_on (step is t s) (steps is ts)) ∷ [])) here ∙ ap (λ xs. b ∷ xs) same_rest in
          subst (λ z. IsSparse v ss (shape.marks_of (t ∷ ts) ++ Acts ∷ []) z) (sym all) (one_more v f.guard t f.named ss f.rest (shape.marks_of ts ++ Acts ∷ []) cs b f.steps made h)

      by_guard : ((next : FlatState) → alive_behind t.act (alive w) (locals w t.guard) ≡ 1 → next.values ≡ locals_behind v (locals w) t f.named → next.script ≡ script_of v f.rest → IsSparse v f.rest (shape.marks_of ts ++ Acts ∷ []) (made_all ts next))
          → (b : Bool) → is_true (locals w t.guard) ≡ b → IsSparse v ss (shape.marks_of (t ∷ ts) ++ Acts ∷ []) (made_all (t ∷ ts) s)
      by_guard again false e =
          let none = made_none v f.guard (act_by t.act f.named) f.rest (guard_is false e) in
          let values : s.values ≡ locals_behind v (locals w) t f.named = now ∙ sym (ap (λ b. cond b (changed (locals w) (target t.act) (v f.named.first)) (locals w)) e) in
          let goes_on : alive_behind t.act (alive w) (locals w t.guard) ≡ 1 = ap (λ b. cond (is_end t.act) (cond b 0 (alive w)) (alive w)) e ∙ same_either (is_end t.act) ∙ live in
          whole false (made_all ts s) e (ap is_true (guard_is false e)) (behind_going t ts (step is t s) s (now_is false e))
          (again s goes_on values (has ∙ ap (λ ms. map v (inputs_in ms)) none))
        where
          same_either : (b : Bool) → cond b (alive w) (alive w) ≡ alive w
          same_either true = refl
          same_either false = refl
      by_guard again true e =
          let made = made_one v f.guard (act_by t.act f.named) f.rest (guard_is true e) in
          let first : s.script ≡ map v (inputs_by (act_by t.act f.named)) ++ script_of v f.rest = has ∙ ap (λ ms. map v (inputs_in ms)) made ∙ inputs_first v f.guard (act_by t.act f.named) (made_of v f.rest) in
          let says : Says v s.values t.act f.named = subst (λ l. Says v l t.act f.named) (sym now) (f.says w) in
          let a = acts is ps v t.act f.named s (script_of v f.rest) same says first in
          let values : a.next.values ≡ locals_behind v (locals w) t f.named =
          a.values ∙ ap (λ l. changed l (target t.act) (v f.named.first)) now ∙ sym (ap (λ b. cond b (changed (locals w) (target t.act) (v f.named.first)) (locals w)) e) in
          elim a.result [
            | inl g ↦
                whole true (made_all ts a.next) e (ap is_true (guard_is true e)) (behind_going t ts (step is t s) a.next (now_is true e ∙ g.1))
                (again a.next (alive_goes t.act (alive w) (locals w t.guard) g.0 ∙ live) values a.script)
            | inr g ↦
                whole true (map (λ (u : FlatStep). false) ts ++ false ∷ []) e (ap is_true (guard_is true e))
                (ap (λ q. made_behind q (made_from is ts) ts ++ is_going (go_on q (steps is ts)) ∷ []) (now_is true e ∙ g.1.1))
                (sparse_over terms w ts _ _ f.rest f.behind (alive_ended t.act (alive w) (locals w t.guard) g.0 e))
          ]

-- as many are told of as there are steps
pub length_made : (is : List Instance) (ts : List FlatStep) (s : FlatState) → length (made_from is ts s) ≡ length (shape.marks_of ts)
length_made is [] s = refl
length_made is (t ∷ ts) s = ap suc (by_progress (λ u. length_made is ts u) (step is t s))
  where
    by_progress : ((u : FlatState) → length (made_from is ts u) ≡ length (shape.marks_of ts)) → (p : Progress) → length (made_behind p (made_from is ts) ts) ≡ length (shape.marks_of ts)
    by_progress again (Goes u) = again u
    by_progress again (Over e u) = length-map ts (λ (x : FlatStep). false) ∙ sym (length-map ts (λ (x : FlatStep). shape.mark_of x.act))
    by_progress again (Short u) = length-map ts (λ (x : FlatStep). false) ∙ sym (length-map ts (λ (x : FlatStep). shape.mark_of x.act))

-- where the run goes on it does so in some state
pub going_state : (p : Progress) → is_going p ≡ true → (s : FlatState) × (p ≡ Goes s)
going_state (Goes s) e = (s, refl)
going_state (Over x s) e = absurd (cc)
going_state (Short s) e = absurd (cc)
