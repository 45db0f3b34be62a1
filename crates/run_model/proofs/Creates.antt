-- Where each thread creates at most 63 others, no two creates have one handle.
use Rattle.std.proofs.Common.{◌≡◌, ℕ, zero, suc, ◌+◌, ◌*◌, ◌<◌, ◌≤◌, List, [], ◌∷◌, Option, Some, None, Bool, true, false, nat_eq, refl, sym, ap, ◌∙◌, subst, add-zero, arith}
use Rattle.std.specs.Prelude.{slice_get, cond}
use Rattle.std.specs.List.{AllZip}
use Rattle.std.proofs.lemmas.Bool.{eqb-true}
use Rattle.axiom_model.specs.declared.Action.{Action}
use Rattle.axiom_model.specs.declared.Action.TheVariants.{Create}
use Rattle.axiom_model.specs.declared.Event.TheVariants.{Initial, At}
use Rattle.axiom_model.specs.declared.ThreadPart.{ThreadPart}
use Rattle.axiom_model.specs.declared.Candidate.{Candidate}
use Rattle.axiom_model.specs.Execution.{actions_of}
use Rattle.axiom_model.specs.Failing.{Run, RunsTo, threads_of, execution_of}
use Rattle.c_check.specs.declared.checked.Checked.{Checked}
use Rattle.run_model.specs.Threads.{thread_run}
use Rattle.run_model.specs.Laws.{IsNumbered, creates_in, CreatesFew, CreatesOnce}
use Rattle.run_model.proofs.Handles.{run_is_numbered}

-- ---- one list of actions

abbrev is_create : Action → ℕ
is_create (Create h f v) = 1
is_create _ = 0

creates-cons : (a : Action) (acts : List Action) → creates_in (a ∷ acts) ≡ is_create a + creates_in acts
creates-cons (Create h f v) acts = refl
creates-cons a acts = omega arith

numbered-tail : (own n : ℕ) (a : Action) (acts : List Action) → IsNumbered own n (a ∷ acts) → IsNumbered own (n + is_create a) acts
numbered-tail own n (Create h f v) acts p = p.1
numbered-tail own n a acts p = subst (λ m. IsNumbered own m acts) (sym (add-zero n)) p

-- the creates before a place
abbrev pub before : List Action → ℕ → ℕ
before [] i = 0
before (a ∷ acts) zero = 0
before (a ∷ acts) (suc i) = is_create a + before acts i

module _ (h f v : ℕ) where
  pub first_is : (a : Action) (acts : List Action) → slice_get (a ∷ acts) 0 ≡ Some (Create h f v) → a ≡ Create h f v
  first_is a acts e = cc

  pub numbered_at : (own n : ℕ) (acts : List Action) (i : ℕ) → IsNumbered own n acts → slice_get acts i ≡ Some (Create h f v) → h ≡ 64 * own + (n + before acts i) + 1
  numbered_at own n [] zero p e = absurd (let no : ◌≡◌ {A = Option Action} None (Some (Create h f v)) = e in cc)
  numbered_at own n [] (suc i) p e = absurd (let no : ◌≡◌ {A = Option Action} None (Some (Create h f v)) = e in cc)
  numbered_at own n (a ∷ acts) zero p e =
      let q : IsNumbered own n (Create h f v ∷ acts) = subst (λ (x : Action). IsNumbered own n (x ∷ acts)) (first_is a acts e) p in omega (arith, q.0)
  numbered_at own n (a ∷ acts) (suc i) p e = omega (arith, numbered_at own (n + is_create a) acts i (numbered-tail own n a acts p) e)

  pub few_before : (acts : List Action) (i : ℕ) → slice_get acts i ≡ Some (Create h f v) → before acts i < creates_in acts
  few_before [] zero e = absurd (let no : ◌≡◌ {A = Option Action} None (Some (Create h f v)) = e in cc)
  few_before [] (suc i) e = absurd (let no : ◌≡◌ {A = Option Action} None (Some (Create h f v)) = e in cc)
  few_before (a ∷ acts) zero e =
      let one : creates_in (a ∷ acts) ≡ 1 + creates_in acts = ap (λ (x : Action). creates_in (x ∷ acts)) (first_is a acts e) in omega (arith, one)
  few_before (a ∷ acts) (suc i) e = omega (arith, few_before acts i e, creates-cons a acts)

  is_one : (a : Action) (acts : List Action) → slice_get (a ∷ acts) 0 ≡ Some (Create h f v) → is_create a ≡ 1
  is_one a acts e = ap is_create (first_is a acts e)

module _ (h f v g w : ℕ) where
  same_place : (acts : List Action) (i j : ℕ) → slice_get acts i ≡ Some (Create h f v) → slice_get acts j ≡ Some (Create h g w) → before acts i ≡ before acts j → i ≡ j
  same_place [] zero j e d same = absurd (let no : ◌≡◌ {A = Option Action} None (Some (Create h f v)) = e in cc)
  same_place [] (suc i) j e d same = absurd (let no : ◌≡◌ {A = Option Action} None (Some (Create h f v)) = e in cc)
  same_place (a ∷ acts) zero zero e d same = refl
  same_place (a ∷ acts) zero (suc j) e d same = omega (arith, is_one h f v a acts e, same)
  same_place (a ∷ acts) (suc i) zero e d same = omega (arith, is_one h g w a acts d, same)
  same_place (a ∷ acts) (suc i) (suc j) e d same = ap suc (same_place acts i j e d (omega (arith, same)))

-- ---- a candidate

-- the actions of the thread with a handle are numbered, and create at most 63 threads
pub record Few (own : ℕ) (acts : List Action) : Type 0 where
  pub numbered : IsNumbered own 0 acts
  pub few : creates_in acts ≤ 63

module _ (p : Checked) where
  few_in : (own : ℕ) (part : ThreadPart) (r : Run) (acts : List Action) (b : Bool) → nat_eq part.handle own ≡ b → RunsTo (thread_run p) part r → creates_in r.actions ≤ 63 → Few own acts → Few own (cond b r.actions acts)
  few_in own part r acts true e runs few rest =
      record { numbered = subst (λ n. IsNumbered n 0 r.actions) (eqb-true part.handle own e) (run_is_numbered p part.function part.handle part.arg part.script r runs.0); few = few }
  few_in own part r acts false e runs few rest = rest

  few_of : (own : ℕ) (ps : List ThreadPart) (rs : List Run) → AllZip (RunsTo (thread_run p)) ps rs → CreatesFew rs → Few own (actions_of (threads_of ps rs) own)
  few_of own [] rs runs few = record { numbered = tt; few = omega arith }
  few_of own (part ∷ ps) [] runs few = absurd runs
  few_of own (part ∷ ps) (r ∷ rs) runs few =
      few_in own part r (actions_of (threads_of ps rs) own) (nat_eq part.handle own) refl runs.0 (few 0 r refl) (few_of own ps rs runs.1 (λ k q e. few (suc k) q e))

  pub creates_once : (c : Candidate) (rs : List Run) → AllZip (RunsTo (thread_run p)) c.threads rs → CreatesFew rs → CreatesOnce (execution_of c rs)
  creates_once c rs runs few Initial b h f g v w e d = absurd (let no : ◌≡◌ {A = Option Action} None (Some (Create h f v)) = e in cc)
  creates_once c rs runs few (At k i) Initial h f g v w e d = absurd (let no : ◌≡◌ {A = Option Action} None (Some (Create h g w)) = d in cc)
  creates_once c rs runs few (At k i) (At m j) h f g v w e d =
      let acts : ℕ → List Action = actions_of (threads_of c.threads rs) in
      let one : Few k (acts k) = few_of k c.threads rs runs few in
      let two : Few m (acts m) = few_of m c.threads rs runs few in
      let first : h ≡ 64 * k + (0 + before (acts k) i) + 1 = numbered_at h f v k 0 (acts k) i one.numbered e in
      let second : h ≡ 64 * m + (0 + before (acts m) j) + 1 = numbered_at h g w m 0 (acts m) j two.numbered d in
      let low : before (acts k) i < 63 + 1 = omega (arith, few_before h f v (acts k) i e, one.few) in
      let high : before (acts m) j < 63 + 1 = omega (arith, few_before h g w (acts m) j d, two.few) in
      let same : k ≡ m = omega (arith, first, second, low, high) in
      let moved : slice_get (acts m) i ≡ Some (Create h f v) = subst (λ n. slice_get (acts n) i ≡ Some (Create h f v)) same e in
      let third : h ≡ 64 * m + (0 + before (acts m) i) + 1 = numbered_at h f v m 0 (acts m) i two.numbered moved in
      let place : i ≡ j = same_place h f v g w (acts m) i j moved d (omega (arith, second, third)) in
      ap (λ n. At n i) same ∙ ap (λ n. At m n) place
