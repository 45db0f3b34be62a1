-- What holds of steps that follow those of an instance.
use Rattle.std.proofs.Common.{◌≡◌, ◌≢◌, ℕ, zero, suc, ◌<◌, ◌≤◌, ◌⊎◌, inl, inr, Bool, true, false, List, [], ◌∷◌, ◌++◌, take, Option, Some, None, refl, ap, sym, ◌∙◌, subst, arith}
use Rattle.std.specs.Prelude.{All, slice_get, cond}
use Rattle.std.proofs.lemmas.Option.{none-some, same_Some}
use Rattle.std.proofs.lemmas.List.Elements.{All-nil, All-cons, All-head, All-tail}
use Rattle.dg_base.specs.Values.{truth_of, is_true}
use Rattle.bv_term.specs.declared.term.TermId.{TermId}
use Rattle.bv_term.specs.declared.term.Term.{Term}
use Rattle.flat_prog.specs.declared.FlatStep.{FlatStep}
use Rattle.flat_prog.specs.declared.FlatAct.{FlatAct}
use Rattle.flat_prog.specs.Shape as shape
use Rattle.ssa_form.specs.declared.SsaStep.{SsaStep}
use Rattle.ssa_form.specs.declared.SsaAct.{SsaAct}
use Rattle.ssa_form.specs.declared.SsaAct.TheVariants.{Start, End}
use Rattle.ssa_form.specs.declared.walk.Named.{Named}
use Rattle.ssa_form.specs.Parts.{input_of, inputs_in, terms_of, created_in, cells_of, ending_by}
use Rattle.ssa_form.specs.Walks.{Words, values, act_by, target, is_end, steps_by, changed, guard_value, alive_behind, locals_behind, Follows}
use Rattle.ssa_form.proofs.Acts.{Quiet, Loud, kinds, cells_by, inputs_by, terms_by, cells_fit, same_terms, same_changed}

-- ---- guards

-- a guard is 0 or 1, and 0 where the run is over
pub guard_is_truth : (alive local : ℕ) → guard_value alive local ≤ 1
guard_is_truth alive local = by_alive (is_true alive) (is_true local)
  where
    by_alive : (b c : Bool) → cond b (truth_of c) 0 ≤ 1
    by_alive true true = omega arith
    by_alive true false = omega arith
    by_alive false c = omega arith

pub guard_over : (alive local : ℕ) → alive ≡ 0 → guard_value alive local ≡ 0
guard_over alive local e = ap (λ a. guard_value a local) e

-- a guard that is not 0 is of a local that is not
pub guard_made : (alive local : ℕ) → guard_value alive local ≡ 1 → is_true local ≡ true
guard_made alive local h = by_alive (is_true alive) (is_true local) h
  where
    by_alive : (b c : Bool) → cond b (truth_of c) 0 ≡ 1 → c ≡ true
    by_alive true true h = refl
    by_alive true false h = absurd (omega arith)
    by_alive false c h = absurd (omega arith)

pub alive_over : (a : FlatAct) (alive local : ℕ) → alive ≡ 0 → alive_behind a alive local ≡ 0
alive_over a alive local e = ap (λ n. alive_behind a n local) e ∙ by_end (is_end a) (is_true local)
  where
    by_end : (b c : Bool) → ◌≡◌ {A = ℕ} (cond b (cond c 0 0) 0) 0
    by_end true true = refl
    by_end true false = refl
    by_end false c = refl

pub alive_truth : (a : FlatAct) (alive local : ℕ) → alive ≤ 1 → alive_behind a alive local ≤ 1
alive_truth a alive local h = by_end (is_end a) (is_true local)
  where
    by_end : (b c : Bool) → cond b (cond c 0 alive) alive ≤ 1
    by_end true true = omega arith
    by_end true false = h
    by_end false c = h

pub alive_ended : (a : FlatAct) (alive local : ℕ) → is_end a ≡ true → is_true local ≡ true → alive_behind a alive local ≡ 0
alive_ended a alive local e h = ap (λ b. cond b (cond (is_true local) 0 alive) alive) e ∙ ap (λ b. cond b 0 alive) h

pub alive_goes : (a : FlatAct) (alive local : ℕ) → is_end a ≡ false → alive_behind a alive local ≡ alive
alive_goes a alive local e = ap (λ b. cond b (cond (is_true local) 0 alive) alive) e

-- ---- step by step

-- what holds of the step that there may be, and of the rest
all_steps : (P : SsaStep → Type 0) (guard : TermId) (o : Option SsaAct) (rest ss : List SsaStep) → ss ≡ steps_by guard o ++ rest → ((a : SsaAct) → o ≡ Some a → P (record { guard = guard; act = a })) → All P rest → All P ss
all_steps P guard None rest ss e h all = subst (λ z. All P z) (sym e) all
all_steps P guard (Some a) rest ss e h all = subst (λ z. All P z) (sym e) (All-cons P (record { guard = guard; act = a }) rest (h a refl) all)

-- where the run is over no guard holds
pub asleep : (terms : List Term) (w : Words) (ts : List FlatStep) (locals : Words → ℕ → ℕ) (alive : Words → ℕ) (ss : List SsaStep) → Follows terms ts locals alive ss → alive w ≡ 0 → All (λ (s : SsaStep). values terms w s.guard ≡ 0) ss
asleep terms w [] locals alive ss f e =
    let P : SsaStep → Type 0 = λ s. values terms w s.guard ≡ 0 in
    subst (λ z. All P z) (sym f.steps) (All-cons P (record { guard = f.guard; act = End }) [] (f.made w ∙ e) (All-nil P))
asleep terms w (t ∷ ts) locals alive ss f e =
    all_steps (λ s. values terms w s.guard ≡ 0) f.guard (act_by t.act f.named) f.rest ss f.steps (λ a i. f.made w ∙ guard_over (alive w) (locals w t.guard) e)
    (asleep terms w ts _ _ f.rest f.behind (alive_over t.act (alive w) (locals w t.guard) e))

-- guards are 0 or 1
pub truths : (terms : List Term) (w : Words) (ts : List FlatStep) (locals : Words → ℕ → ℕ) (alive : Words → ℕ) (ss : List SsaStep) → Follows terms ts locals alive ss → alive w ≤ 1 → All (λ (s : SsaStep). values terms w s.guard ≤ 1) ss
truths terms w [] locals alive ss f h =
    let P : SsaStep → Type 0 = λ s. values terms w s.guard ≤ 1 in
    subst (λ z. All P z) (sym f.steps) (All-cons P (record { guard = f.guard; act = End }) [] (subst (λ n. n ≤ 1) (sym (f.made w)) h) (All-nil P))
truths terms w (t ∷ ts) locals alive ss f h =
    all_steps (λ s. values terms w s.guard ≤ 1) f.guard (act_by t.act f.named) f.rest ss f.steps (λ a i. subst (λ n. n ≤ 1) (sym (f.made w)) (guard_is_truth (alive w) (locals w t.guard)))
    (truths terms w ts _ _ f.rest f.behind (alive_truth t.act (alive w) (locals w t.guard) h))

-- the steps of one step of an instance and the rest, by whether it makes a step
pub record MakesNone (t : FlatStep) (n : Named) (ss rest : List SsaStep) : Type 0 where
  pub quiet : Quiet t.act n
  pub same : ss ≡ rest

pub record MakesOne (guard : TermId) (t : FlatStep) (n : Named) (ss rest : List SsaStep) : Type 0 where
  pub loud : Loud t.act n
  pub same : ss ≡ record { guard = guard; act = loud.act } ∷ rest

pub makes : (guard : TermId) (t : FlatStep) (n : Named) (ss rest : List SsaStep) → ss ≡ steps_by guard (act_by t.act n) ++ rest → MakesNone t n ss rest ⊎ MakesOne guard t n ss rest
makes guard t n ss rest e =
    elim (kinds t.act n) [
      | inl q ↦ inl (record { quiet = q; same = e ∙ ap (λ o. steps_by guard o ++ rest) q.none })
      | inr l ↦ inr (record { loud = l; same = e ∙ ap (λ o. steps_by guard o ++ rest) l.some })
    ]

at_first : (xs : List SsaStep) (x y : SsaStep) (rest : List SsaStep) → xs ≡ x ∷ rest → slice_get xs 0 ≡ Some y → y ≡ x
at_first xs x y rest e h = same_Some y x (sym h ∙ ap (λ z. slice_get z 0) e)

at_later : (xs : List SsaStep) (x y : SsaStep) (rest : List SsaStep) (k : ℕ) → xs ≡ x ∷ rest → slice_get xs (suc k) ≡ Some y → slice_get rest k ≡ Some y
at_later xs x y rest k e h = sym (ap (λ z. slice_get z (suc k)) e) ∙ h

pub at_all : {A : Type 0} (P : A → Type 0) (xs : List A) (k : ℕ) (x : A) → All P xs → slice_get xs k ≡ Some x → P x
at_all P [] k x h e = absurd (none-some x e)
at_all P (y ∷ ys) zero x h e = subst P (same_Some y x e) (All-head P y ys h)
at_all P (y ∷ ys) (suc k) x h e = at_all P ys k x (All-tail P y ys h) e

-- behind an ending that is made no guard holds
pub over : (terms : List Term) (w : Words) (ts : List FlatStep) (locals : Words → ℕ → ℕ) (alive : Words → ℕ) (ss : List SsaStep) (k l : ℕ) (s t : SsaStep)
    → Follows terms ts locals alive ss → k < l → slice_get ss k ≡ Some s → slice_get ss l ≡ Some t → ending_by s.act ≢ None → values terms w s.guard ≡ 1 → values terms w t.guard ≡ 0
over terms w [] locals alive ss k zero s t f h x y n e = absurd (omega arith)
over terms w [] locals alive ss k (suc l) s t f h x y n e = absurd (none-some t (at_later ss _ t [] l f.steps y))
over terms w (u ∷ us) locals alive ss k zero s t f h x y n e = absurd (omega arith)
over terms w (u ∷ us) locals alive ss zero (suc l) s t f h x y n e =
    elim (makes f.guard u f.named ss f.rest f.steps) [
      | inl q ↦ over terms w us _ _ f.rest zero (suc l) s t f.behind h (ap (λ z. slice_get z 0) (sym q.same) ∙ x) (ap (λ z. slice_get z (suc l)) (sym q.same) ∙ y) n e
      | inr o ↦
          let here = at_first ss (record { guard = f.guard; act = o.loud.act }) s f.rest o.same x in
          let ends : is_end u.act ≡ true = o.loud.ends (λ i. n (ap (λ (z : SsaStep). ending_by z.act) here ∙ i)) in
          let made : is_true (locals w u.guard) ≡ true = guard_made (alive w) (locals w u.guard) (sym (f.made w) ∙ ap (λ (z : SsaStep). values terms w z.guard) (sym here) ∙ e) in
          at_all (λ z. values terms w z.guard ≡ 0) f.rest l t (asleep terms w us _ _ f.rest f.behind (alive_ended u.act (alive w) (locals w u.guard) ends made))
          (at_later ss (record { guard = f.guard; act = o.loud.act }) t f.rest l o.same y)
    ]
over terms w (u ∷ us) locals alive ss (suc k) (suc l) s t f h x y n e =
    elim (makes f.guard u f.named ss f.rest f.steps) [
      | inl q ↦ over terms w us _ _ f.rest (suc k) (suc l) s t f.behind h (ap (λ z. slice_get z (suc k)) (sym q.same) ∙ x) (ap (λ z. slice_get z (suc l)) (sym q.same) ∙ y) n e
      | inr o ↦ over terms w us _ _ f.rest k l s t f.behind (omega arith) (at_later ss _ s f.rest k o.same x) (at_later ss _ t f.rest l o.same y) n e
    ]

-- ---- what does not depend on inputs

-- no step is Start
pub no_start : (terms : List Term) (ts : List FlatStep) (locals : Words → ℕ → ℕ) (alive : Words → ℕ) (ss : List SsaStep) → Follows terms ts locals alive ss → All (λ (s : SsaStep). s.act ≢ Start) ss
no_start terms [] locals alive ss f =
    let P : SsaStep → Type 0 = λ s. s.act ≢ Start in
    subst (λ z. All P z) (sym f.steps) (All-cons P (record { guard = f.guard; act = End }) [] (λ e. cc) (All-nil P))
no_start terms (t ∷ ts) locals alive ss f =
    let P : SsaStep → Type 0 = λ s. s.act ≢ Start in
    let rest = no_start terms ts _ _ f.rest f.behind in
    elim (makes f.guard t f.named ss f.rest f.steps) [
      | inl q ↦ subst (λ z. All P z) (sym q.same) rest
      | inr o ↦ subst (λ z. All P z) (sym o.same) (All-cons P (record { guard = f.guard; act = o.loud.act }) f.rest o.loud.no_start rest)
    ]

-- the steps create what the instance does
pub creates : (terms : List Term) (ts : List FlatStep) (locals : Words → ℕ → ℕ) (alive : Words → ℕ) (ss : List SsaStep) → Follows terms ts locals alive ss → created_in ss ≡ shape.created_in ts
creates terms [] locals alive ss f = ap created_in f.steps
creates terms (t ∷ ts) locals alive ss f =
    let rest = creates terms ts _ _ f.rest f.behind in
    elim (makes f.guard t f.named ss f.rest f.steps) [
      | inl q ↦ ap created_in q.same ∙ rest ∙ sym (ap (λ l. l ++ shape.created_in ts) q.quiet.created)
      | inr o ↦ ap created_in o.same ∙ ap (λ l. l ++ created_in f.rest) o.loud.created ∙ ap (λ l. shape.created_by t.act ++ l) rest
    ]

-- the cells are the program's
pub cells_are : (terms : List Term) (n cells : ℕ) (ts : List FlatStep) (locals : Words → ℕ → ℕ) (alive : Words → ℕ) (ss : List SsaStep) → Follows terms ts locals alive ss → All (shape.StepFits n cells) ts
    → All (λ (s : SsaStep). All (λ c. c < cells) (cells_of s.act)) ss
cells_are terms n cells [] locals alive ss f h =
    let P : SsaStep → Type 0 = λ s. All (λ c. c < cells) (cells_of s.act) in
    subst (λ z. All P z) (sym f.steps) (All-cons P (record { guard = f.guard; act = End }) [] (All-nil (λ c. c < cells)) (All-nil P))
cells_are terms n cells (t ∷ ts) locals alive ss f h =
    all_steps (λ s. All (λ c. c < cells) (cells_of s.act)) f.guard (act_by t.act f.named) f.rest ss f.steps
    (λ a i. let all = cells_fit t.act f.named n cells (All-head (shape.StepFits n cells) t ts h).1 in subst (λ o. All (λ c. c < cells) (cells_by o)) i all)
    (cells_are terms n cells ts _ _ f.rest f.behind (All-tail (shape.StepFits n cells) t ts h))

-- ---- two choices of inputs

-- what holds of each item of both lists
pub split : {A : Type 0} (Q : A → Type 0) (xs ys : List A) → All Q (xs ++ ys) → All Q xs × All Q ys
split Q [] ys h = (All-nil Q, h)
split Q (x ∷ xs) ys h = let r = split Q xs ys (All-tail Q x (xs ++ ys) h) in (All-cons Q x xs (All-head Q x (xs ++ ys) h) r.0, r.1)

-- the term has the same value under both
abbrev Same : List Term → Words → Words → TermId → Type 0
Same terms v w x = values terms v x ≡ values terms w x

-- two choices of inputs that give the same to the numbers taken before a step give the same to its terms
pub settles : (terms : List Term) (v w : Words) (ts : List FlatStep) (locals : Words → ℕ → ℕ) (alive : Words → ℕ) (ss : List SsaStep) (n : ℕ) (s : SsaStep)
    → Follows terms ts locals alive ss → locals v ≡ locals w → alive v ≡ alive w → slice_get ss n ≡ Some s
    → All (Same terms v w) (inputs_in (take n ss)) → All (Same terms v w) (s.guard ∷ terms_of s.act)
settles terms v w [] locals alive ss zero s f same live here agree =
    subst (λ (z : SsaStep). All (Same terms v w) (z.guard ∷ terms_of z.act)) (sym (at_first ss (record { guard = f.guard; act = End }) s [] f.steps here))
    (All-cons (Same terms v w) f.guard [] (f.made v ∙ live ∙ sym (f.made w)) (All-nil (Same terms v w)))
settles terms v w [] locals alive ss (suc n) s f same live here agree = absurd (none-some s (at_later ss _ s [] n f.steps here))
settles terms v w (t ∷ ts) locals alive ss n s f same live here agree =
    elim (makes f.guard t f.named ss f.rest f.steps) [ inl q ↦ quietly (λ m. settles terms v w ts _ _ f.rest m s f.behind) q | inr o ↦ loudly (λ m. settles terms v w ts _ _ f.rest m s f.behind) n o here agree ]
  where
    guards : guard_value (alive v) (locals v t.guard) ≡ guard_value (alive w) (locals w t.guard)
    guards = ap (λ a. guard_value a (locals v t.guard)) live ∙ ap (λ l. guard_value (alive w) (l t.guard)) same

    behind : All (Same terms v w) (inputs_by (act_by t.act f.named)) → locals_behind (values terms v) (locals v) t f.named ≡ locals_behind (values terms w) (locals w) t f.named
    behind h =
        let change = same_changed t.act f.named (values terms v) (values terms w) (locals v) (locals w) same (f.says v) (f.says w) h in
        ap (λ l. cond (is_true (l t.guard)) (changed (locals v) (target t.act) (values terms v f.named.first)) (locals v)) same
        ∙ ap (λ c. cond (is_true (locals w t.guard)) c (locals v)) change
        ∙ ap (λ l. cond (is_true (locals w t.guard)) (changed (locals w) (target t.act) (values terms w f.named.first)) l) same

    goes : alive_behind t.act (alive v) (locals v t.guard) ≡ alive_behind t.act (alive w) (locals w t.guard)
    goes = ap (λ a. alive_behind t.act a (locals v t.guard)) live ∙ ap (λ l. alive_behind t.act (alive w) (l t.guard)) same

    quietly : ((m : ℕ) → locals_behind (values terms v) (locals v) t f.named ≡ locals_behind (values terms w) (locals w) t f.named → alive_behind t.act (alive v) (locals v t.guard) ≡ alive_behind t.act (alive w) (locals w t.guard) → slice_get f.rest m ≡ Some s → All (Same terms v w) (inputs_in (take m f.rest)) → All (Same terms v w) (s.guard ∷ terms_of s.act))
        → MakesNone t f.named ss f.rest → All (Same terms v w) (s.guard ∷ terms_of s.act)
    quietly more q =
        more n (behind (subst (λ o. All (Same terms v w) (inputs_by o)) (sym q.quiet.none) (All-nil (Same terms v w)))) goes
        (ap (λ z. slice_get z n) (sym q.same) ∙ here) (subst (λ z. All (Same terms v w) (inputs_in (take n z))) q.same agree)

    loudly : ((m : ℕ) → locals_behind (values terms v) (locals v) t f.named ≡ locals_behind (values terms w) (locals w) t f.named → alive_behind t.act (alive v) (locals v t.guard) ≡ alive_behind t.act (alive w) (locals w t.guard) → slice_get f.rest m ≡ Some s → All (Same terms v w) (inputs_in (take m f.rest)) → All (Same terms v w) (s.guard ∷ terms_of s.act))
        → (m : ℕ) → MakesOne f.guard t f.named ss f.rest → slice_get ss m ≡ Some s → All (Same terms v w) (inputs_in (take m ss)) → All (Same terms v w) (s.guard ∷ terms_of s.act)
    loudly more zero o h a =
        let all = same_terms t.act f.named (values terms v) (values terms w) (locals v) (locals w) same (f.says v) (f.says w) in
        subst (λ (z : SsaStep). All (Same terms v w) (z.guard ∷ terms_of z.act)) (sym (at_first ss (record { guard = f.guard; act = o.loud.act }) s f.rest o.same h))
        (All-cons (Same terms v w) f.guard (terms_of o.loud.act) (f.made v ∙ guards ∙ sym (f.made w)) (subst (λ x. All (Same terms v w) (terms_by x)) o.loud.some all))
    loudly more (suc m) o h a =
        let both : All (Same terms v w) (input_of o.loud.act ++ inputs_in (take m f.rest)) = subst (λ z. All (Same terms v w) (inputs_in (take (suc m) z))) o.same a in
        let parts = split (Same terms v w) (input_of o.loud.act) (inputs_in (take m f.rest)) both in
        more m (behind (subst (λ x. All (Same terms v w) (inputs_by x)) (sym o.loud.some) parts.0)) goes
        (at_later ss _ s f.rest m o.same h) parts.1
