-- A flat run uses the first numbers of its script, and depends on no others.
use Rattle.std.proofs.Common.{◌≡◌, ℕ, suc, ◌+◌, List, [], ◌∷◌, ◌++◌, Bool, true, false, Option, Some, None, length, refl, sym, ap, ◌∙◌, append_assoc, append-nil, length-append, arith}
use Rattle.std.specs.Prelude.{cond}
use Rattle.dg_base.specs.Values.{is_true}
use Rattle.axiom_model.specs.declared.Action.{Action}
use Rattle.axiom_model.specs.declared.Action.TheVariants as action
use Rattle.flat_prog.specs.declared.Instance.{Instance}
use Rattle.flat_prog.specs.declared.FlatStep.{FlatStep}
use Rattle.flat_prog.specs.declared.FlatAct.{FlatAct}
use Rattle.flat_prog.specs.declared.FlatAct.TheVariants.{Set, Put, Take, Read, Write, Open, Close, Fence, Create, Join, End, Stop, Bad, Fail}
use Rattle.flat_prog.specs.Runs.{FlatState, FlatRun, Progress, Goes, Over, Short, take_into, act, step, go_on, steps, begins, run_in, flat_run}
use Rattle.flat_prog.specs.Laws.{UsesFirst, RunsUseFirst}

abbrev with_script : FlatState → List ℕ → FlatState
with_script s xs = record s { script = xs }

-- from s to t some numbers were taken, and the same is done where others stand behind them
record Took (f : FlatState → Progress) (s : FlatState) (o : FlatState → Progress) (t : FlatState) : Type 0 where
  taken : List ℕ
  first : s.script ≡ taken ++ t.script
  count : t.used ≡ s.used + length taken
  same : (others : List ℕ) → f (with_script s (taken ++ others)) ≡ o (with_script t others)

abbrev Reads : (FlatState → Progress) → FlatState → Progress → Type 0
Reads f s (Goes t) = Took f s Goes t
Reads f s (Over e t) = Took f s (Over e) t
Reads f s (Short t) = Unit {0}

abbrev IsReader : (FlatState → Progress) → Type 0
IsReader f = (s : FlatState) → Reads f s (f s)

takes_none : (f : FlatState → Progress) (s : FlatState) (o : FlatState → Progress) (t : FlatState) → s.script ≡ t.script → t.used ≡ s.used → ((others : List ℕ) → f (with_script s others) ≡ o (with_script t others)) → Took f s o t
takes_none f s o t e u h = record { taken = []; first = e; count = omega (arith, u); same = h }

-- ---- one step

taking : (to : ℕ) (made : ℕ → List Action) (s : FlatState) (xs : List ℕ) → s.script ≡ xs → Reads (λ r. take_into to made r.script r) s (take_into to made xs s)
taking to made s [] e = tt
taking to made s (v ∷ vs) e = record { taken = v ∷ []; first = e; count = refl; same = λ others. refl }

act_reads : (is : List Instance) (a : FlatAct) → IsReader (act is a)
act_reads is (Set to op args) s = takes_none _ s Goes _ refl refl (λ others. refl)
act_reads is (Put to v) s = takes_none _ s Goes _ refl refl (λ others. refl)
act_reads is (Take to) s = taking to (λ v. []) s s.script refl
act_reads is (Read c to) s = taking to (λ v. action.Read c v ∷ []) s s.script refl
act_reads is (Write c from) s = takes_none _ s Goes _ refl refl (λ others. refl)
act_reads is Open s = takes_none _ s Goes _ refl refl (λ others. refl)
act_reads is Close s = takes_none _ s Goes _ refl refl (λ others. refl)
act_reads is Fence s = takes_none _ s Goes _ refl refl (λ others. refl)
act_reads is (Create i handle arg) s = takes_none _ s Goes _ refl refl (λ others. refl)
act_reads is (Join from) s = takes_none _ s Goes _ refl refl (λ others. refl)
act_reads is End s = takes_none _ s (Over _) _ refl refl (λ others. refl)
act_reads is Stop s = takes_none _ s (Over _) _ refl refl (λ others. refl)
act_reads is Bad s = takes_none _ s (Over _) _ refl refl (λ others. refl)
act_reads is (Fail p tag) s = takes_none _ s (Over _) _ refl refl (λ others. refl)

guarded : (f : FlatState → Progress) (made : (ℕ → ℕ) → Bool) (s : FlatState) → made s.values ≡ true → (p : Progress) → Reads f s p → Reads (λ r. cond (made r.values) (f r) (Goes r)) s p
guarded f made s e (Goes t) h = record { taken = h.taken; first = h.first; count = h.count; same = λ others. ap (λ b. cond b (f (with_script s (h.taken ++ others))) (Goes (with_script s (h.taken ++ others)))) e ∙ h.same others }
guarded f made s e (Over x t) h = record { taken = h.taken; first = h.first; count = h.count; same = λ others. ap (λ b. cond b (f (with_script s (h.taken ++ others))) (Goes (with_script s (h.taken ++ others)))) e ∙ h.same others }
guarded f made s e (Short t) h = tt

-- the guard does not depend on the script
guarded_reads : (f : FlatState → Progress) (made : (ℕ → ℕ) → Bool) (s : FlatState) (b : Bool) → made s.values ≡ b → Reads f s (f s) → Reads (λ r. cond (made r.values) (f r) (Goes r)) s (cond b (f s) (Goes s))
guarded_reads f made s true e h = guarded f made s e (f s) h
guarded_reads f made s false e h = takes_none _ s Goes s refl refl (λ others. ap (λ b. cond b (f (with_script s others)) (Goes (with_script s others))) e)

step_reads : (is : List Instance) (t : FlatStep) → IsReader (step is t)
step_reads is t s = guarded_reads (act is t.act) (λ values. is_true (values t.guard)) s (is_true (s.values t.guard)) refl (act_reads is t.act s)

-- ---- one step after the other

module _ (f g : FlatState → Progress) (s : FlatState) where
  joined : (t u : FlatState) (o : FlatState → Progress) → Took f s Goes t → Took g t o u → Took (λ r. go_on (f r) g) s o u
  joined t u o one two = record {
    taken = one.taken ++ two.taken;
    first = one.first ∙ ap (λ xs. one.taken ++ xs) two.first ∙ sym (append_assoc one.taken two.taken u.script);
    count = omega (arith, one.count, two.count, length-append one.taken two.taken);
    same = λ others.
        ap (λ xs. go_on (f (with_script s xs)) g) (append_assoc one.taken two.taken others)
        ∙ ap (λ w. go_on w g) (one.same (two.taken ++ others)) ∙ two.same others;
  }

  then_reads : (t : FlatState) → Took f s Goes t → (o : Progress) → Reads g t o → Reads (λ r. go_on (f r) g) s o
  then_reads t one (Goes u) two = joined t u Goes one two
  then_reads t one (Over e u) two = joined t u (Over e) one two
  then_reads t one (Short u) two = tt

  starts_reads : IsReader g → (p : Progress) → Reads f s p → Reads (λ r. go_on (f r) g) s (go_on p g)
  starts_reads h (Goes t) one = then_reads t one (g t) (h t)
  starts_reads h (Over e t) one = record { taken = one.taken; first = one.first; count = one.count; same = λ others. ap (λ w. go_on w g) (one.same others) }
  starts_reads h (Short t) one = tt

steps_read : (is : List Instance) (ts : List FlatStep) → IsReader (steps is ts)
steps_read is [] s = takes_none _ s Goes s refl refl (λ others. refl)
steps_read is (t ∷ ts) s = starts_reads (step is t) (steps is ts) s (steps_read is ts) (step is t s) (step_reads is t s)

-- ---- runs

-- the run uses the first numbers of its script, and depends on no others
record Uses (runs : List ℕ → Option FlatRun) (script : List ℕ) (r : FlatRun) : Type 0 where
  taken : List ℕ
  rest : List ℕ
  first : script ≡ taken ++ rest
  count : r.used ≡ length taken
  same : (others : List ℕ) → runs (taken ++ others) ≡ Some r

abbrev used_by : Option FlatRun → ℕ
used_by None = 0
used_by (Some r) = r.used

module _ (is : List Instance) (i : Instance) (arg handle : ℕ) where
  abbrev runs : List ℕ → Option FlatRun
  runs script = flat_run is i arg handle script

  progress_uses : (script : List ℕ) (r : FlatRun) (p : Progress) → Reads (steps is i.steps) (begins arg handle script) p → run_in p ≡ Some r → Uses runs script r
  progress_uses script r (Goes t) h e = record {
    taken = h.taken;
    rest = t.script;
    first = h.first;
    count = let u : t.used ≡ r.used = ap used_by e in omega (arith, u, h.count);
    same = λ others. ap run_in (h.same others) ∙ e;
  }
  progress_uses script r (Over x t) h e = record {
    taken = h.taken;
    rest = t.script;
    first = h.first;
    count = let u : t.used ≡ r.used = ap used_by e in omega (arith, u, h.count);
    same = λ others. ap run_in (h.same others) ∙ e;
  }
  progress_uses script r (Short t) h e = absurd (let no : ◌≡◌ {A = Option FlatRun} None (Some r) = e in cc)

  uses : (script : List ℕ) (r : FlatRun) → runs script ≡ Some r → Uses runs script r
  uses script r e = progress_uses script r (steps is i.steps (begins arg handle script)) (steps_read is i.steps (begins arg handle script)) e

  none_is_spared : (script : List ℕ) (r : FlatRun) (u : Uses runs script r) (some others : List ℕ) (o : Option FlatRun) → runs some ≡ o → u.taken ≡ some ++ others → (others ≡ [] → ⊥) → runs some ≡ None
  none_is_spared script r u some others None e split more = e
  none_is_spared script r u some [] (Some q) e split more = absurd (more refl)
  none_is_spared script r u some (x ∷ others) (Some q) e split more =
      let v : Uses runs some q = uses some q e in
      let whole : u.taken ≡ v.taken ++ (v.rest ++ x ∷ others) = split ∙ ap (λ xs. xs ++ x ∷ others) v.first ∙ append_assoc v.taken v.rest (x ∷ others) in
      let again : runs u.taken ≡ Some q = ap runs whole ∙ v.same (v.rest ++ x ∷ others) in
      let once : runs u.taken ≡ Some r = ap runs (sym (append-nil u.taken)) ∙ u.same [] in
      let used : q.used ≡ r.used = ap used_by (sym again ∙ once) in
      let longer : length u.taken ≡ length v.taken + (length v.rest + suc (length others)) = ap length whole ∙ length-append v.taken (v.rest ++ x ∷ others) ∙ ap (λ n. length v.taken + n) (length-append v.rest (x ∷ others)) in
      absurd (omega (arith, used, longer, u.count, v.count))

  uses_first : (script : List ℕ) (r : FlatRun) → Uses runs script r → UsesFirst is i arg handle script r
  uses_first script r u = record {
    taken = u.taken;
    rest = u.rest;
    first = u.first;
    count = u.count;
    same = u.same;
    needed = λ some others split more. none_is_spared script r u some others (runs some) refl split more;
  }

pub run_uses_first : RunsUseFirst
run_uses_first is i arg handle script r e = uses_first is i arg handle script r (uses is i arg handle script r e)
