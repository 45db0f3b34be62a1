-- The state of a walk as terms are added.
use Rattle.std.proofs.Common.{◌≡◌, ◌≢◌, ℕ, ◌+◌, ◌<◌, Bool, true, false, List, [], ◌∷◌, map, length, set, get_or, Option, Some, None, refl, ap, sym, ◌∙◌, subst, length-append, arith}
use Rattle.std.specs.Prelude.{All, slice_get, cond, IfSome, unwrap_or, nat_eq, Result, Ok, Err, IfOk, OnOk}
use Rattle.std.specs.Option.{option_map}
use Rattle.std.proofs.lemmas.Option.{none-some, same_Some, slice_get-map, slice_get-get_or, unwrap_or-slice_get}
use Rattle.std.proofs.lemmas.List.{length-set}
use Rattle.std.proofs.lemmas.List.Elements.{All-nil, All-cons, All-head, All-tail, All-weaker, All-set, All-get_or}
use Rattle.std.proofs.lemmas.Bool.{eqb-true, eqb-false}
use Rattle.dg_base.proofs.Lists.{get_append_left, get_set_same, get_set_other}
use Rattle.dg_base.specs.declared.operators.Op.{Op}
use Rattle.dg_base.specs.declared.operators.Op.TheVariants.{NotEqual, Choose}
use Rattle.dg_base.specs.declared.want.OutOfMemory.{OutOfMemory}
use Rattle.dg_base.specs.Values.{truth_of, is_true, value_of}
use Rattle.bv_term.specs.declared.term.TermId.{TermId}
use Rattle.bv_term.specs.declared.term.Term.{Term}
use Rattle.bv_term.specs.declared.term.Term.TheVariants.{Input, Constant}
use Rattle.bv_term.specs.Values.{IsListed, Computes, Grows}
use Rattle.bv_term.proofs.ValueLaws.{grows_steps}
use Rattle.flat_prog.specs.Runs.{with_local}
use Rattle.ssa_form.specs.declared.SsaStep.{SsaStep}
use Rattle.ssa_form.specs.declared.walk.Begin.{Begin}
use Rattle.ssa_form.specs.declared.walk.Guard.{Guard}
use Rattle.ssa_form.specs.declared.walk.Walk.{Walk}
use Rattle.ssa_form.specs.Parts.{Valuation, inputs_in}
use Rattle.ssa_form.specs.Walks.{Words, values, guard_value, AreListed, terms_in}
use Rattle.ssa_form.specs.States.{locals_of, locals_under, IsNumber, IsGuard, IsBeginListed, IsWalk, IsGuardOf, IsApplied, IsChanged}

-- ---- terms

pub listed_more : (s t : List Term) → Grows s t → (x : TermId) → IsListed s x → IsListed t x
listed_more s t g x h = let long : length t ≡ length s + length g.added = ap (λ (l : List Term). length l) g.terms ∙ length-append s g.added in omega arith

pub get_more : (s t : List Term) → Grows s t → (k : ℕ) (x : Term) → slice_get s k ≡ Some x → slice_get t k ≡ Some x
get_more s t g k x e = subst (λ l. slice_get l k ≡ Some x) (sym g.terms) (get_append_left s g.added k x e)

pub number_more : (s t : List Term) → Grows s t → (x : TermId) (n : ℕ) → IsNumber s x n → IsNumber t x n
number_more s t g x n h = record {
  listed = listed_more s t g x h.listed;
  constant = get_more s t g x.0 (Constant n) h.constant;
  value = λ inputs. g.kept inputs x h.listed ∙ h.value inputs;
}

pub all_more : (s t : List Term) → Grows s t → (xs : List TermId) → All (IsListed s) xs → All (IsListed t) xs
all_more s t g xs h = All-weaker (IsListed s) (IsListed t) (listed_more s t g) xs h

pub begins_more : (s t : List Term) → Grows s t → (bs : List Begin) → All (IsBeginListed s) bs → All (IsBeginListed t) bs
begins_more s t g bs h = All-weaker (IsBeginListed s) (IsBeginListed t) (λ b i. all_more s t g (b.start ∷ b.handle ∷ b.arg ∷ []) i) bs h

pub steps_more : (s t : List Term) → Grows s t → (ss : List SsaStep) → AreListed s ss → AreListed t ss
steps_more s t g ss h = record {
  each = All-weaker (λ x. All (IsListed s) (terms_in x)) (λ x. All (IsListed t) (terms_in x)) (λ x i. all_more s t g (terms_in x) i) ss h.each;
  inputs = All-weaker (λ (x : TermId). slice_get s x.0 ≡ Some Input) (λ (x : TermId). slice_get t x.0 ≡ Some Input) (λ x e. get_more s t g x.0 Input e) (inputs_in ss) h.inputs;
}

pub value_more : (s t : List Term) → Grows s t → (w : Words) (x : TermId) → IsListed s x → values t w x ≡ values s w x
value_more s t g w x h = g.kept w.inputs x h

pub values_more : (s t : List Term) → Grows s t → (w : Words) (xs : List TermId) → All (IsListed s) xs → map (values t w) xs ≡ map (values s w) xs
values_more s t g w [] h = refl
values_more s t g w (x ∷ xs) h =
    ap (λ n. n ∷ map (values t w) xs) (value_more s t g w x (All-head (IsListed s) x xs h)) ∙ ap (λ ns. values s w x ∷ ns) (values_more s t g w xs (All-tail (IsListed s) x xs h))

-- ---- locals

pub locals_more : (s t : List Term) → Grows s t → (w : Words) (xs : List TermId) → All (IsListed s) xs → locals_of (values t w) xs ≡ locals_of (values s w) xs
locals_more s t g w xs h = λ i l. get_or (values_more s t g w xs h i) l 0

pub local_read : (v : Valuation) (ts : List TermId) (l : ℕ) → locals_of v ts l ≡ unwrap_or (option_map v (slice_get ts l)) 0
local_read v ts l = sym (unwrap_or-slice_get (map v ts) l 0) ∙ ap (λ o. unwrap_or o 0) (slice_get-map v ts l)

pub local_at : (v : Valuation) (ts : List TermId) (l : ℕ) (d : TermId) → l < length ts → locals_of v ts l ≡ v (get_or ts l d)
local_at v ts l d h = local_read v ts l ∙ ap (λ o. unwrap_or (option_map v o) 0) (slice_get-get_or ts l d h)

-- the locals with one term written
pub local_set : (v : Valuation) (ts : List TermId) (to : ℕ) (x : TermId) → to < length ts → locals_of v (set ts to x) ≡ with_local (locals_of v ts) to (v x)
local_set v ts to x h = λ i l. at l (nat_eq l to) refl i
  where
    at : (l : ℕ) (b : Bool) → nat_eq l to ≡ b → locals_of v (set ts to x) l ≡ cond (nat_eq l to) (v x) (locals_of v ts l)
    at l true e =
        let same : l ≡ to = eqb-true l to e in
        local_read v (set ts to x) l ∙ ap (λ o. unwrap_or (option_map v o) 0) (ap (λ n. slice_get (set ts to x) n) same ∙ get_set_same ts to x h)
        ∙ sym (ap (λ b. cond b (v x) (locals_of v ts l)) e)
    at l false e =
        local_read v (set ts to x) l ∙ ap (λ o. unwrap_or (option_map v o) 0) (get_set_other ts to l x (eqb-false l to e)) ∙ sym (local_read v ts l)
        ∙ sym (ap (λ b. cond b (v x) (locals_of v ts l)) e)

pub other_local : (v : Valuation) (ts : List TermId) (to l : ℕ) (x : TermId) → l ≢ to → locals_of v (set ts to x) l ≡ locals_of v ts l
other_local v ts to l x n = local_read v (set ts to x) l ∙ ap (λ o. unwrap_or (option_map v o) 0) (get_set_other ts to l x n) ∙ sym (local_read v ts l)

-- ---- the state

pub guard_more : (a b : Walk) (g : Guard) → Grows a.terms b.terms → b.values ≡ a.values → b.alive ≡ a.alive → All (IsListed a.terms) a.values → IsListed a.terms a.alive → IsGuard a g → IsGuard b g
guard_more a b g grows same live locals alive h =
    let under : (x : Words) → locals_under x b ≡ locals_under x a = λ x. ap (locals_of (values b.terms x)) same ∙ locals_more a.terms b.terms grows x a.values locals in
    record {
      local = subst (λ ts. g.local < length ts) (sym same) h.local;
      holds_listed = listed_more a.terms b.terms grows g.holds h.holds_listed;
      made_listed = listed_more a.terms b.terms grows g.made h.made_listed;
      holds = λ x. value_more a.terms b.terms grows x g.holds h.holds_listed ∙ h.holds x ∙ ap (λ l. truth_of (is_true (l g.local))) (sym (under x));
      made = λ x.
          let live' : values b.terms x b.alive ≡ values a.terms x a.alive = ap (values b.terms x) live ∙ value_more a.terms b.terms grows x a.alive alive in
          value_more a.terms b.terms grows x g.made h.made_listed ∙ h.made x ∙ ap (λ n. guard_value n (locals_under x a g.local)) (sym live')
          ∙ ap (λ l. guard_value (values b.terms x b.alive) (l g.local)) (sym (under x));
    }

last_more : (a b : Walk) → Grows a.terms b.terms → b.values ≡ a.values → b.alive ≡ a.alive → IsWalk a → (o : Option Guard) → IfSome o (IsGuard a) → IfSome o (IsGuard b)
last_more a b grows same live w None h = tt
last_more a b grows same live w (Some g) h = guard_more a b g grows same live w.locals w.alive h

-- the walk with more terms
pub walk_more : (a : Walk) (t : List Term) → IsWalk a → Grows a.terms t → IsWalk (record a { terms = t })
walk_more a t w g = record {
  zero = number_more a.terms t g a.zero 0 w.zero;
  one = number_more a.terms t g a.one 1 w.one;
  created = begins_more a.terms t g a.created w.created;
  locals = all_more a.terms t g a.values w.locals;
  alive = listed_more a.terms t g a.alive w.alive;
  last = last_more a (record a { terms = t }) g refl refl w a.last w.last;
  steps = steps_more a.terms t g a.steps w.steps;
}

-- the guard of a local
pub guard_of : (a : Walk) (s t : List Term) (local : ℕ) (value holds made d : TermId) → IsWalk a → local < length a.values → value ≡ get_or a.values local d
    → Grows a.terms s → IsListed s holds → Computes s holds NotEqual (value ∷ a.zero ∷ [])
    → Grows s t → IsListed t made → Computes t made Choose (a.alive ∷ holds ∷ a.zero ∷ [])
    → IsGuardOf a (record a { terms = t; last = Some (record { local = local; holds = holds; made = made }) }) local (record { local = local; holds = holds; made = made })
guard_of a s t local value holds made d w within read g h_listed h_is g2 m_listed m_is =
    let all : Grows a.terms t = grows_steps a.terms s t g g2 in
    let more = walk_more a t w all in
    let value_listed : IsListed a.terms value = subst (IsListed a.terms) (sym read) (All-get_or (IsListed a.terms) a.values local d within w.locals) in
    let holds_is : (x : Words) → values t x holds ≡ truth_of (is_true (locals_of (values t x) a.values local)) = λ x.
    value_more s t g2 x holds h_listed ∙ h_is x.inputs x.fit
    ∙ ap (λ n. value_of NotEqual (values s x value ∷ n ∷ [])) (value_more a.terms s g x a.zero w.zero.listed ∙ w.zero.value x.inputs)
    ∙ ap (λ n. truth_of (is_true n))
    (value_more a.terms s g x value value_listed ∙ sym (value_more a.terms t all x value value_listed) ∙ ap (values t x) read ∙ sym (local_at (values t x) a.values local d within)) in
    let made_is : (x : Words) → values t x made ≡ guard_value (values t x a.alive) (locals_of (values t x) a.values local) = λ x.
    m_is x.inputs x.fit
    ∙ ap (λ n. cond (is_true (values t x a.alive)) (values t x holds) n) (more.zero.value x.inputs)
    ∙ ap (λ n. cond (is_true (values t x a.alive)) n 0) (holds_is x) in
    record {
      walk = record {
        zero = more.zero;
        one = more.one;
        created = more.created;
        locals = more.locals;
        alive = more.alive;
        last = record { local = within; holds_listed = listed_more s t g2 holds h_listed; made_listed = m_listed; holds = holds_is; made = made_is };
        steps = more.steps;
      };
      only = record { grows = all; zero = refl; one = refl; created = refl; locals = refl; alive = refl; steps = refl };
      same = refl;
      last = refl;
      guard = record { local = within; holds_listed = listed_more s t g2 holds h_listed; made_listed = m_listed; holds = holds_is; made = made_is };
    }

-- ---- a local that has another term

last_guard : (a : Walk) (g : Guard) (o : Option Guard) → o ≡ Some g → IfSome o (IsGuard a) → IsGuard a g
last_guard a g None e h = absurd (none-some g e)
last_guard a g (Some k) e h = subst (IsGuard a) (same_Some k g e) h

pub the_guard : (a : Walk) (g : Guard) → IsWalk a → a.last ≡ Some g → IsGuard a g
the_guard a g w e = last_guard a g a.last e w.last

pub assigned : (a : Walk) (t : List Term) (g : Guard) (to : ℕ) (term old value d : TermId) (last : Option Guard)
    → IsWalk a → IsGuard a g → to < length a.values → IsListed a.terms term → old ≡ get_or a.values to d
    → Grows a.terms t → IsListed t value → Computes t value Choose (g.holds ∷ term ∷ old ∷ [])
    → IfSome last (IsGuard (record a { terms = t; values = set a.values to value; last = last }))
    → IsChanged a (record a { terms = t; values = set a.values to value; last = last }) g (Some to) term
assigned a t g to term old value d last w guard within listed read grows v_listed v_is l =
    let more = walk_more a t w grows in
    let old_listed : IsListed a.terms old = subst (IsListed a.terms) (sym read) (All-get_or (IsListed a.terms) a.values to d within w.locals) in
    record {
      walk = record {
        zero = more.zero;
        one = more.one;
        created = more.created;
        locals = All-set (IsListed t) a.values to value v_listed more.locals;
        alive = more.alive;
        last = l;
        steps = more.steps;
      };
      grows = grows;
      zero = refl;
      one = refl;
      created = refl;
      alive = refl;
      steps = refl;
      count = length-set a.values to value;
      locals = λ x.
          let before = locals_more a.terms t grows x a.values w.locals in
          let holds : values t x g.holds ≡ truth_of (is_true (locals_under x a g.local)) = value_more a.terms t grows x g.holds guard.holds_listed ∙ guard.holds x in
          let chosen : values t x value ≡ cond (is_true (locals_under x a g.local)) (values a.terms x term) (locals_under x a to) =
          v_is x.inputs x.fit ∙ ap (λ n. cond (is_true n) (values t x term) (values t x old)) holds ∙ by_truth (is_true (locals_under x a g.local)) (values t x term) (values t x old)
          ∙ ap (λ n. cond (is_true (locals_under x a g.local)) n (values t x old)) (value_more a.terms t grows x term listed)
          ∙ ap (λ n. cond (is_true (locals_under x a g.local)) (values a.terms x term) n)
          (value_more a.terms t grows x old old_listed ∙ ap (values a.terms x) read ∙ sym (local_at (values a.terms x) a.values to d within)) in
          local_set (values t x) a.values to value within ∙ ap (λ f. with_local f to (values t x value)) before ∙ ap (λ n. with_local (locals_under x a) to n) chosen
          ∙ one_way (is_true (locals_under x a g.local)) (locals_under x a) to (values a.terms x term);
      none = λ e. absurd (cc);
    }
  where
    by_truth : (b : Bool) (m n : ℕ) → cond (is_true (truth_of b)) m n ≡ cond b m n
    by_truth true m n = refl
    by_truth false m n = refl

    unchanged : (f : ℕ → ℕ) (k : ℕ) → with_local f k (f k) ≡ f
    unchanged f k = λ i l. at l (nat_eq l k) refl i
      where
        at : (l : ℕ) (b : Bool) → nat_eq l k ≡ b → cond (nat_eq l k) (f k) (f l) ≡ f l
        at l true e = ap (λ b. cond b (f k) (f l)) e ∙ ap f (sym (eqb-true l k e))
        at l false e = ap (λ b. cond b (f k) (f l)) e

    one_way : (b : Bool) (f : ℕ → ℕ) (k n : ℕ) → with_local f k (cond b n (f k)) ≡ cond b (with_local f k n) f
    one_way true f k n = refl
    one_way false f k n = unchanged f k

-- a guard of another local is still a guard
pub other_guard : (a : Walk) (t : List Term) (g : Guard) (to : ℕ) (value : TermId) (last : Option Guard) → IsWalk a → IsGuard a g → Grows a.terms t → g.local ≢ to → last ≡ Some g
    → IfSome last (IsGuard (record a { terms = t; values = set a.values to value; last = last }))
other_guard a t g to value last w guard grows other e =
    let more = guard_more a (record a { terms = t }) g grows refl refl w.locals w.alive guard in
    let kept : (x : Words) → locals_of (values t x) (set a.values to value) g.local ≡ locals_of (values t x) a.values g.local = λ x. other_local (values t x) a.values to g.local value other in
    let is : IsGuard (record a { terms = t; values = set a.values to value; last = last }) g = record {
      local = let long = length-set a.values to value in let h = guard.local in omega arith;
      holds_listed = more.holds_listed;
      made_listed = more.made_listed;
      holds = λ x. more.holds x ∙ ap (λ n. truth_of (is_true n)) (sym (kept x));
      made = λ x. more.made x ∙ ap (λ n. guard_value (values t x a.alive) n) (sym (kept x));
    } in
    subst (λ o. IfSome o (IsGuard (record a { terms = t; values = set a.values to value; last = last }))) (sym e) is

-- ---- the terms of locals

pub locals_listed : (terms : List Term) (ts : List TermId) (d : TermId) (args : List ℕ) → All (IsListed terms) ts → All (λ a. a < length ts) args → All (IsListed terms) (map (λ a. get_or ts a d) args)
locals_listed terms ts d [] h k = All-nil (IsListed terms)
locals_listed terms ts d (a ∷ args) h k =
    All-cons (IsListed terms) (get_or ts a d) (map (λ b. get_or ts b d) args) (All-get_or (IsListed terms) ts a d (All-head (λ b. b < length ts) a args k) h)
    (locals_listed terms ts d args h (All-tail (λ b. b < length ts) a args k))

locals_values : (w : Walk) (terms : List Term) (x : Words) (d : TermId) (args : List ℕ) → Grows w.terms terms → All (IsListed w.terms) w.values → All (λ a. a < length w.values) args
    → map (values terms x) (map (λ a. get_or w.values a d) args) ≡ map (locals_under x w) args
locals_values w terms x d [] g h k = refl
locals_values w terms x d (a ∷ args) g h k =
    let within = All-head (λ b. b < length w.values) a args k in
    let first : values terms x (get_or w.values a d) ≡ locals_under x w a =
    value_more w.terms terms g x (get_or w.values a d) (All-get_or (IsListed w.terms) w.values a d within h) ∙ sym (local_at (values w.terms x) w.values a d within) in
    ap (λ n. n ∷ map (values terms x) (map (λ b. get_or w.values b d) args)) first ∙ ap (λ l. locals_under x w a ∷ l) (locals_values w terms x d args g h (All-tail (λ b. b < length w.values) a args k))

-- an operator's term
pub applied_is : (w : Walk) (terms : List Term) (op : Op) (args : List ℕ) (ts : List TermId) (d : TermId) (r : Result TermId OutOfMemory) → IsWalk w → All (λ a. a < length w.values) args → ts ≡ map (λ a. get_or w.values a d) args
    → IfOk r (λ t. Computes terms t op ts) → IfOk r (IsListed terms) → OnOk r (Grows w.terms terms) → IfOk r (IsApplied w (record w { terms = terms }) op args)
applied_is w terms op args ts d (Err e) h within same is listed grows = tt
applied_is w terms op args ts d (Ok t) h within same is listed grows = record {
  only = refl;
  grows = grows;
  listed = listed;
  value = λ x. is x.inputs x.fit ∙ ap (λ l. value_of op (map (values terms x) l)) same ∙ ap (λ l. value_of op l) (locals_values w terms x d args grows h.locals within);
}
