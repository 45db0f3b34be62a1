-- Parts that follow the instances of a flat program are its single assignment form.
use Rattle.std.proofs.Common.{◌≡◌, ◌≢◌, ℕ, zero, suc, ◌+◌, ◌<◌, ◌≤◌, ◌⊎◌, inl, inr, true, false, List, [], ◌∷◌, ◌++◌, map, take, length, Option, Some, None, refl, ap, sym, ◌∙◌, subst, length-append, arith}
use Rattle.std.specs.Prelude.{All, slice_get}
use Rattle.std.specs.List.{AllZip}
use Rattle.std.proofs.lemmas.Option.{none-some, same_Some, slice_get_within}
use Rattle.std.proofs.lemmas.List.Elements.{All-nil, All-cons, All-head, All-tail, All-append}
use Rattle.dg_base.proofs.Lists.{get_there, get_append_left, get_append_right, get_from_map}
use Rattle.dg_base.specs.Values.{is_true}
use Rattle.bv_term.specs.declared.term.TermId.{TermId}
use Rattle.bv_term.specs.declared.term.Term.{Term}
use Rattle.bv_term.specs.Values.{AreTerms, AreWords, IsConstant}
use Rattle.flat_prog.specs.declared.Flat.{Flat}
use Rattle.flat_prog.specs.declared.Instance.{Instance}
use Rattle.flat_prog.specs.declared.FlatStep.{FlatStep}
use Rattle.flat_prog.specs.Runs as runs
use Rattle.flat_prog.specs.Runs.{FlatState, first_values, made_from, begins, steps}
use Rattle.flat_prog.specs.Sections.{Acts, AreInTurn, KeepsSections}
use Rattle.flat_prog.specs.Shape as shape
use Rattle.flat_prog.specs.Shape.{counted, IsFlat, InstanceFits, SectionsClose, SectionsHold, SectionsEnd}
use Rattle.ssa_form.specs.declared.Ssa.{Ssa}
use Rattle.ssa_form.specs.declared.SsaPart.{SsaPart}
use Rattle.ssa_form.specs.declared.SsaStep.{SsaStep}
use Rattle.ssa_form.specs.declared.SsaAct.{SsaAct}
use Rattle.ssa_form.specs.declared.SsaAct.TheVariants.{Take, Read, Write, Open, Close, Fence, Create, Join, Start, End, Stop, Bad, Fail}
use Rattle.ssa_form.specs.declared.walk.Begin.{Begin}
use Rattle.ssa_form.specs.Parts.{Valuation, inputs_in, inputs_in_all, created_by, created_in, created_in_all, cells_of, marks_of, is_made, made_of, script_of, actions_in, ending_by, ending_in}
use Rattle.ssa_form.specs.Form.{IsSsaOf, IsPartOf, StartsPart, RunsAs, Agree, settled_terms, first_steps, under}
use Rattle.ssa_form.specs.Walks.{Words, values, act_by, steps_by, Follows, IsWalked}
use Rattle.ssa_form.specs.States.{begins_by, begins_in, begins_in_all, begin_of, AreOwn}
use Rattle.ssa_form.proofs.Following.{guard_is_truth, asleep, truths, over, no_start, creates, cells_are, settles, at_all}
use Rattle.ssa_form.proofs.Simulating.{SameFunctions, simulates, made_one}
use Rattle.ssa_form.proofs.Marking.{sparse_over, sparse_run, is_going, length_made, going_state}
use Rattle.ssa_form.proofs.Sparse.{Sparse, keeps_sparse, turns_sparse, turns_end, keeps_start, keeps_end, keeps_nothing}
use Rattle.ssa_form.proofs.Taking.{zip_at, zip_left, counted_at}

-- ---- lists side by side

pub length_zip : {A B : Type 0} (R : A → B → Type 0) (xs : List A) (ys : List B) → AllZip R xs ys → length xs ≡ length ys
length_zip R [] [] z = refl
length_zip R [] (y ∷ ys) z = absurd z
length_zip R (x ∷ xs) [] z = absurd z
length_zip R (x ∷ xs) (y ∷ ys) z = ap suc (length_zip R xs ys z.1)

pub zip_push : {A B : Type 0} (R : A → B → Type 0) (xs : List A) (ys : List B) (x : A) (y : B) → AllZip R xs ys → R x y → AllZip R (xs ++ x ∷ []) (ys ++ y ∷ [])
zip_push R [] [] x y z r = (r, tt)
zip_push R [] (b ∷ ys) x y z r = absurd z
zip_push R (a ∷ xs) [] x y z r = absurd z
zip_push R (a ∷ xs) (b ∷ ys) x y z r = (z.0, zip_push R xs ys x y z.1 r)

-- what holds of each place
zip_from : {A B : Type 0} (R S : A → B → Type 0) (xs : List A) (ys : List B) → AllZip R xs ys → ((k : ℕ) (a : A) (b : B) → slice_get xs k ≡ Some a → slice_get ys k ≡ Some b → R a b → S a b) → AllZip S xs ys
zip_from R S [] [] z h = tt
zip_from R S [] (y ∷ ys) z h = absurd z
zip_from R S (x ∷ xs) [] z h = absurd z
zip_from R S (x ∷ xs) (y ∷ ys) z h = (h 0 x y refl refl z.0, zip_from R S xs ys z.1 (λ k a b e g r. h (suc k) a b e g r))

same_functions : (terms : List Term) (is : List Instance) (ps : List SsaPart) → AllZip (IsWalked terms) is ps → SameFunctions is ps
same_functions terms [] [] z k = refl
same_functions terms [] (p ∷ ps) z k = absurd z
same_functions terms (i ∷ is) [] z k = absurd z
same_functions terms (i ∷ is) (p ∷ ps) z zero = sym z.0.function
same_functions terms (i ∷ is) (p ∷ ps) z (suc k) = same_functions terms is ps z.1 k

created_same : (terms : List Term) (i : Instance) (p : SsaPart) → IsWalked terms i p → created_in p.steps ≡ shape.created_in i.steps
created_same terms i p w = ap created_in w.steps ∙ creates terms i.steps _ _ w.rest w.follows

pub all_created : (terms : List Term) (is : List Instance) (ps : List SsaPart) → AllZip (IsWalked terms) is ps → created_in_all ps ≡ shape.created_in_all is
all_created terms [] [] z = refl
all_created terms [] (p ∷ ps) z = absurd z
all_created terms (i ∷ is) [] z = absurd z
all_created terms (i ∷ is) (p ∷ ps) z = ap (λ l. l ++ created_in_all ps) (created_same terms i p z.0) ∙ ap (λ l. shape.created_in i.steps ++ l) (all_created terms is ps z.1)

counted_same : {A B : Type 0} (R : A → B → Type 0) (n : ℕ) (xs : List A) (ys : List B) → AllZip R xs ys → counted n xs ≡ counted n ys
counted_same R n [] [] z = refl
counted_same R n [] (y ∷ ys) z = absurd z
counted_same R n (x ∷ xs) [] z = absurd z
counted_same R n (x ∷ xs) (y ∷ ys) z = ap (λ l. n ∷ l) (counted_same R (n + 1) xs ys z.1)

length_counted : {A : Type 0} (n : ℕ) (xs : List A) → length (counted n xs) ≡ length xs
length_counted n [] = refl
length_counted n (x ∷ xs) = ap suc (length_counted (n + 1) xs)

-- ---- creates

-- each create of an act has a beginning
count_by : (guard : TermId) (a : SsaAct) → length (created_by a) ≡ length (begins_by guard a)
count_by guard (Create i h g) = refl
count_by guard (Take t) = refl
count_by guard (Read c t) = refl
count_by guard (Write c t) = refl
count_by guard Open = refl
count_by guard Close = refl
count_by guard Fence = refl
count_by guard (Join h) = refl
count_by guard Start = refl
count_by guard End = refl
count_by guard Stop = refl
count_by guard Bad = refl
count_by guard (Fail p tag) = refl

count_in : (ss : List SsaStep) → length (created_in ss) ≡ length (begins_in ss)
count_in [] = refl
count_in (s ∷ ss) =
    length-append (created_by s.act) (created_in ss) ∙ ap (λ n. n + length (created_in ss)) (count_by s.guard s.act) ∙ ap (λ n. length (begins_by s.guard s.act) + n) (count_in ss)
    ∙ sym (length-append (begins_by s.guard s.act) (begins_in ss))

pub count_in_all : (ps : List SsaPart) → length (created_in_all ps) ≡ length (begins_in_all ps)
count_in_all [] = refl
count_in_all (p ∷ ps) =
    length-append (created_in p.steps) (created_in_all ps) ∙ ap (λ n. n + length (created_in_all ps)) (count_in p.steps) ∙ ap (λ n. length (begins_in p.steps) + n) (count_in_all ps)
    ∙ sym (length-append (begins_in p.steps) (begins_in_all ps))

abbrev IsBegun : List ℕ → List Begin → ℕ → Begin → Type 0
IsBegun created begins n b = (m : ℕ) × (slice_get created m ≡ Some n) × (slice_get begins m ≡ Some b)

begun_in : (ss : List SsaStep) (k : ℕ) (s : SsaStep) (n : ℕ) (h g : TermId) → slice_get ss k ≡ Some s → s.act ≡ Create n h g → IsBegun (created_in ss) (begins_in ss) n (record { start = s.guard; handle = h; arg = g })
begun_in [] k s n h g e c = absurd (none-some s e)
begun_in (t ∷ ss) zero s n h g e c =
    let same : t ≡ s = same_Some t s e in
    let act : t.act ≡ Create n h g = ap (λ (z : SsaStep). z.act) same ∙ c in (
      0,
      ap (λ a. slice_get (created_by a ++ created_in ss) 0) act,
      ap (λ a. slice_get (begins_by t.guard a ++ begins_in ss) 0) act ∙ ap (λ (z : SsaStep). Some (record { start = z.guard; handle = h; arg = g })) same,
    )
begun_in (t ∷ ss) (suc k) s n h g e c =
    let r = begun_in ss k s n h g e c in
    let m = length (created_by t.act) + r.0 in
    let there : m ≡ length (begins_by t.guard t.act) + r.0 = ap (λ n. n + r.0) (count_by t.guard t.act) in
    (m, get_append_right (created_by t.act) (created_in ss) m r.0 refl ∙ r.1, get_append_right (begins_by t.guard t.act) (begins_in ss) m r.0 there ∙ r.2)

begun_in_all : (ps : List SsaPart) (i k : ℕ) (p : SsaPart) (s : SsaStep) (n : ℕ) (h g : TermId) → slice_get ps i ≡ Some p → slice_get p.steps k ≡ Some s → s.act ≡ Create n h g
    → IsBegun (created_in_all ps) (begins_in_all ps) n (record { start = s.guard; handle = h; arg = g })
begun_in_all [] i k p s n h g d e c = absurd (none-some p d)
begun_in_all (q ∷ ps) zero k p s n h g d e c =
    let same : p ≡ q = sym (same_Some q p d) in
    let r = begun_in q.steps k s n h g (ap (λ (z : SsaPart). slice_get z.steps k) (sym same) ∙ e) c in
    (r.0, get_append_left (created_in q.steps) (created_in_all ps) r.0 n r.1, get_append_left (begins_in q.steps) (begins_in_all ps) r.0 (record { start = s.guard; handle = h; arg = g }) r.2)
begun_in_all (q ∷ ps) (suc i) k p s n h g d e c =
    let r = begun_in_all ps i k p s n h g d e c in
    let m = length (created_in q.steps) + r.0 in
    let there : m ≡ length (begins_in q.steps) + r.0 = ap (λ n. n + r.0) (count_in q.steps) in
    (m, get_append_right (created_in q.steps) (created_in_all ps) m r.0 refl ∙ r.1, get_append_right (begins_in q.steps) (begins_in_all ps) m r.0 there ∙ r.2)

-- ---- guards that threads begin with

abbrev Truth : List Term → Words → Begin → Type 0
Truth terms w b = values terms w b.start ≤ 1

truth_by : (terms : List Term) (w : Words) (guard : TermId) (a : SsaAct) → values terms w guard ≤ 1 → All (Truth terms w) (begins_by guard a)
truth_by terms w guard (Create i h g) e = All-cons (Truth terms w) (record { start = guard; handle = h; arg = g }) [] e (All-nil (Truth terms w))
truth_by terms w guard _ e = All-nil (Truth terms w)

truth_in : (terms : List Term) (w : Words) (ts : List FlatStep) (locals : Words → ℕ → ℕ) (alive : Words → ℕ) (ss : List SsaStep) → Follows terms ts locals alive ss → All (Truth terms w) (begins_in ss)
truth_in terms w [] locals alive ss f = subst (λ z. All (Truth terms w) (begins_in z)) (sym f.steps) (All-nil (Truth terms w))
truth_in terms w (t ∷ ts) locals alive ss f =
    subst (λ z. All (Truth terms w) (begins_in z)) (sym f.steps)
    (by_act (act_by t.act f.named) (subst (λ n. n ≤ 1) (sym (f.made w)) (guard_is_truth (alive w) (locals w t.guard))) (truth_in terms w ts _ _ f.rest f.behind))
  where
    by_act : (o : Option SsaAct) → values terms w f.guard ≤ 1 → All (Truth terms w) (begins_in f.rest) → All (Truth terms w) (begins_in (steps_by f.guard o ++ f.rest))
    by_act None e rest = rest
    by_act (Some a) e rest = All-append (Truth terms w) (begins_by f.guard a) (begins_in f.rest) (truth_by terms w f.guard a e) rest

truth_in_all : (terms : List Term) (w : Words) (is : List Instance) (ps : List SsaPart) → AllZip (IsWalked terms) is ps → All (Truth terms w) (begins_in_all ps)
truth_in_all terms w [] [] z = All-nil (Truth terms w)
truth_in_all terms w [] (p ∷ ps) z = absurd z
truth_in_all terms w (i ∷ is) [] z = absurd z
truth_in_all terms w (i ∷ is) (p ∷ ps) z =
    All-append (Truth terms w) (begins_in p.steps) (begins_in_all ps)
    (subst (λ l. All (Truth terms w) (begins_in l)) (sym z.0.steps) (truth_in terms w i.steps _ _ z.0.rest z.0.follows)) (truth_in_all terms w is ps z.1)

-- ---- a part

-- what was walked: all parts, each with what it begins with
pub record IsWalkOf (f : Flat) (x : Ssa) : Type 0 where
  pub terms : AreTerms x.terms
  pub parts : AllZip (IsWalked x.terms) f.instances x.parts
  pub first : Begin
  pub begins : (k : ℕ) (p : SsaPart) → slice_get x.parts k ≡ Some p → slice_get (first ∷ begins_in_all x.parts) k ≡ Some (begin_of p)
  pub start : IsConstant x.terms first.start 1
  pub handle : IsConstant x.terms first.handle 0
  pub arg : IsConstant x.terms first.arg 0
  pub first_truth : (w : Words) → values x.terms w first.start ≤ 1
  pub initials : AllZip (λ v t. IsConstant x.terms t v) f.initials x.initials
  pub own : AreOwn (inputs_in_all x.parts)

module _ (f : Flat) (x : Ssa) (flat : IsFlat f) (walk : IsWalkOf f x) (k : ℕ) (i : Instance) (p : SsaPart) (here : slice_get f.instances k ≡ Some i) (there : slice_get x.parts k ≡ Some p) (w : IsWalked x.terms i p) where
  abbrev first_step : SsaStep
  first_step = record { guard = p.start; act = Start }

  start_is_truth : (v : Words) → values x.terms v p.start ≤ 1
  start_is_truth v =
      at_all (Truth x.terms v) (walk.first ∷ begins_in_all x.parts) k (begin_of p)
      (All-cons (Truth x.terms v) walk.first (begins_in_all x.parts) (walk.first_truth v) (truth_in_all x.terms v f.instances x.parts walk.parts)) (walk.begins k p there)

  at_start : (s : SsaStep) → slice_get p.steps 0 ≡ Some s → s ≡ first_step
  at_start s e = same_Some s first_step (sym e ∙ ap (λ l. slice_get l 0) w.steps)

  at_rest : (n : ℕ) (s : SsaStep) → slice_get p.steps (suc n) ≡ Some s → slice_get w.rest n ≡ Some s
  at_rest n s e = sym (ap (λ l. slice_get l (suc n)) w.steps) ∙ e

  all_part : (P : SsaStep → Type 0) → P first_step → All P w.rest → All P p.steps
  all_part P first rest = subst (λ z. All P z) (sym w.steps) (All-cons P first_step w.rest first rest)

  starts_once : (n : ℕ) (s : SsaStep) → slice_get p.steps n ≡ Some s → s.act ≡ Start → n ≡ 0
  starts_once zero s e a = refl
  starts_once (suc n) s e a = absurd (at_all (λ (z : SsaStep). z.act ≢ Start) w.rest n s (no_start x.terms i.steps _ _ w.rest w.follows) (at_rest n s e) a)

  over_part : (inputs : ℕ → ℕ) (m n : ℕ) (s t : SsaStep) → AreWords inputs → m < n → slice_get p.steps m ≡ Some s → slice_get p.steps n ≡ Some t → ending_by s.act ≢ None → under inputs x s.guard ≡ 1 → under inputs x t.guard ≡ 0
  over_part inputs m zero s t fit less e h ends made = absurd (omega arith)
  over_part inputs zero (suc n) s t fit less e h ends made = absurd (ends (ap (λ (z : SsaStep). ending_by z.act) (at_start s e)))
  over_part inputs (suc m) (suc n) s t fit less e h ends made = over x.terms (record { inputs = inputs; fit = fit }) i.steps _ _ w.rest m n s t w.follows (omega arith) (at_rest m s e) (at_rest n t h) ends made

  settled_part : (a b : ℕ → ℕ) (n : ℕ) (s : SsaStep) → AreWords a → AreWords b → slice_get p.steps n ≡ Some s → Agree x a b (p.start ∷ p.handle ∷ p.arg ∷ []) → Agree x a b (inputs_in (first_steps n p)) → Agree x a b (settled_terms s)
  settled_part a b zero s fa fb e begin agree =
      let P : TermId → Type 0 = λ t. under a x t ≡ under b x t in
      subst (λ (z : SsaStep). All P (settled_terms z)) (sym (at_start s e)) (All-cons P p.start [] (All-head P p.start (p.handle ∷ p.arg ∷ []) begin) (All-nil P))
  settled_part a b (suc n) s fa fb e begin agree =
      let P : TermId → Type 0 = λ t. under a x t ≡ under b x t in
      let start = All-head P p.start (p.handle ∷ p.arg ∷ []) begin in
      let handle = All-head P p.handle (p.arg ∷ []) (All-tail P p.start (p.handle ∷ p.arg ∷ []) begin) in
      let arg = All-head P p.arg [] (All-tail P p.handle (p.arg ∷ []) (All-tail P p.start (p.handle ∷ p.arg ∷ []) begin)) in
      let locals : first_values (under a x p.arg) (under a x p.handle) ≡ first_values (under b x p.arg) (under b x p.handle) =
      ap (λ m. first_values m (under a x p.handle)) arg ∙ ap (λ m. first_values (under b x p.arg) m) handle in
      let before : All P (inputs_in (take n w.rest)) = subst (λ l. All P (inputs_in (take (suc n) l))) w.steps agree in
      settles x.terms (record { inputs = a; fit = fa }) (record { inputs = b; fit = fb }) i.steps _ _ w.rest n s w.follows locals start (at_rest n s e) before

  same : SameFunctions f.instances x.parts
  same = same_functions x.terms f.instances x.parts walk.parts

  -- where the thread is created
  module _ (v : Words) (started : values x.terms v p.start ≡ 1) where
    abbrev val : Valuation
    val = values x.terms v

    abbrev begun : FlatState
    begun = begins (val p.arg) (val p.handle) (script_of val w.rest)

    made_part : made_of val p.steps ≡ first_step ∷ made_of val w.rest
    made_part = ap (made_of val) w.steps ∙ made_one val p.start (Some Start) w.rest started

    script_part : script_of val p.steps ≡ script_of val w.rest
    script_part = ap (λ l. map val (inputs_in l)) made_part

    runs_part : RunsAs f.instances i x.parts val p
    runs_part =
        let r = simulates f.instances x.parts x.terms v same i.steps _ _ w.rest begun w.follows started refl refl in
        let count : 0 + length (script_of val w.rest) ≡ length (script_of val p.steps) = omega (arith, ap (λ (l : List ℕ). length l) script_part) in
        record {
          run = record { actions = begun.actions ++ actions_in x.parts val (made_of val w.rest); ending = r.ending; used = 0 + length (script_of val w.rest) };
          runs = ap (λ l. runs.flat_run f.instances i (val p.arg) (val p.handle) l) script_part ∙ r.runs;
          actions = sym (ap (actions_in x.parts val) made_part);
          ending = ap ending_in made_part ∙ r.ends;
          used = count;
        }

    sparse : Sparse (marks_of w.rest) (map (is_made val) w.rest) (shape.marks_of i.steps ++ Acts ∷ []) (made_from f.instances i.steps begun ++ is_going (steps f.instances i.steps begun) ∷ [])
    sparse = sparse_run f.instances x.parts x.terms v same i.steps _ _ w.rest begun w.follows started refl refl

    held_started : KeepsSections (marks_of p.steps) (map (is_made val) p.steps)
    held_started =
        let holds = at_all (SectionsHold f.instances) f.instances k i flat.held here (val p.arg) (val p.handle) (script_of val w.rest) in
        let ends = at_all (SectionsEnd f.instances) f.instances k i flat.ended here in
        let whole =
        keeps_end (shape.marks_of i.steps) (made_from f.instances i.steps begun) (is_going (steps f.instances i.steps begun)) (length_made f.instances i.steps begun) holds
        (λ goes o c s opened. let g = going_state (steps f.instances i.steps begun) goes in ends (val p.arg) (val p.handle) (script_of val w.rest) g.0 o c g.1 s opened) in
        let rest = keeps_sparse (marks_of w.rest) (map (is_made val) w.rest) (shape.marks_of i.steps ++ Acts ∷ []) (made_from f.instances i.steps begun ++ is_going (steps f.instances i.steps begun) ∷ []) sparse whole in
        subst (λ l. KeepsSections (marks_of l) (map (is_made val) l)) (sym w.steps) (keeps_start (marks_of w.rest) (map (is_made val) w.rest) (is_true (val p.start)) rest)

  asleep_part : (v : Words) → values x.terms v p.start ≡ 0 → All (λ (s : SsaStep). values x.terms v s.guard ≡ 0) p.steps
  asleep_part v e = all_part (λ s. values x.terms v s.guard ≡ 0) e (asleep x.terms v i.steps _ _ w.rest w.follows e)

  held_asleep : (v : Words) → values x.terms v p.start ≡ 0 → KeepsSections (marks_of p.steps) (map (is_made (values x.terms v)) p.steps)
  held_asleep v e = keeps_nothing (marks_of p.steps) (map (is_made (values x.terms v)) p.steps) none
    where
      none : (m : ℕ) → slice_get (map (is_made (values x.terms v)) p.steps) m ≡ Some true → ⊥
      none m h =
          let r = get_from_map (is_made (values x.terms v)) p.steps m true h in
          let zero_guard : values x.terms v r.0.guard ≡ 0 = at_all (λ (s : SsaStep). values x.terms v s.guard ≡ 0) p.steps m r.0 (asleep_part v e) r.1 in
          let off : is_made (values x.terms v) r.0 ≡ false = ap is_true zero_guard in
          cc

  -- 0 or 1
  either : (n : ℕ) → n ≤ 1 → (n ≡ 0) ⊎ (n ≡ 1)
  either zero h = inl refl
  either (suc n) h = inr (omega arith)

  held_part : (inputs : ℕ → ℕ) → AreWords inputs → KeepsSections (marks_of p.steps) (map (is_made (under inputs x)) p.steps)
  held_part inputs fit =
      let v : Words = record { inputs = inputs; fit = fit } in
      elim (either (values x.terms v p.start) (start_is_truth v)) [ inl e ↦ held_asleep v e | inr e ↦ held_started v e ]

  closed_part : AreInTurn false (marks_of p.steps)
  closed_part =
      let none : AreWords (λ n. 0) = λ n. omega arith in
      let v : Words = record { inputs = λ n. 0; fit = none } in
      let flat_closed : AreInTurn false (shape.marks_of i.steps ++ Acts ∷ []) = turns_end (shape.marks_of i.steps) false (at_all SectionsClose f.instances k i flat.closed here) in
      let rest : AreInTurn false (marks_of w.rest) =
      elim (either (values x.terms v p.start) (start_is_truth v)) [
        | inl e ↦ turns_sparse _ _ _ _ (sparse_over x.terms v i.steps _ _ w.rest w.follows e) false flat_closed
        | inr e ↦ turns_sparse _ _ _ _ (sparse v e) false flat_closed
      ] in
      subst (λ l. AreInTurn false (marks_of l)) (sym w.steps) rest

  pub is_part : IsPartOf f x i p
  is_part = record {
    same_function = w.function;
    listed = w.listed;
    steps_listed = w.are_listed.each;
    inputs = w.are_listed.inputs;
    cells =
        all_part (λ s. All (λ c. c < length f.initials) (cells_of s.act)) (All-nil (λ c. c < length f.initials))
        (cells_are x.terms i.locals (length f.initials) i.steps _ _ w.rest w.follows (at_all (InstanceFits (length f.initials)) f.instances k i flat.fits here).steps);
    starts = ap (λ l. slice_get l 0) w.steps;
    starts_once = starts_once;
    truths = λ inputs fit.
        let v : Words = record { inputs = inputs; fit = fit } in
        all_part (λ s. values x.terms v s.guard ≤ 1) (start_is_truth v) (truths x.terms v i.steps _ _ w.rest w.follows (start_is_truth v));
    asleep = λ inputs fit e. asleep_part (record { inputs = inputs; fit = fit }) e;
    over = over_part;
    settled = settled_part;
    closed = closed_part;
    held = held_part;
    runs = λ inputs fit e. runs_part (record { inputs = inputs; fit = fit }) e;
  }

-- ---- the whole

module _ (f : Flat) (x : Ssa) (flat : IsFlat f) (walk : IsWalkOf f x) where
  in_turn : 0 ∷ created_in_all x.parts ≡ counted 0 x.parts
  in_turn = ap (λ l. 0 ∷ l) (all_created x.terms f.instances x.parts walk.parts) ∙ flat.creates.in_turn ∙ counted_same (IsWalked x.terms) 0 f.instances x.parts walk.parts

  created : (i n k : ℕ) (p : SsaPart) (s : SsaStep) (handle arg : TermId) → slice_get x.parts i ≡ Some p → slice_get p.steps k ≡ Some s → s.act ≡ Create n handle arg → StartsPart x s n handle arg
  created i n k p s handle arg e h c =
      let r = begun_in_all x.parts i k p s n handle arg e h c in
      let m = r.0 in
      let named = slice_get_within (created_in_all x.parts) m n r.1 in
      let long : suc (length (created_in_all x.parts)) ≡ length x.parts = ap (λ (l : List ℕ). length l) in_turn ∙ length_counted 0 x.parts in
      let same : n ≡ 0 + suc m = same_Some n (0 + suc m) (sym r.1 ∙ ap (λ l. slice_get l (suc m)) in_turn ∙ counted_at 0 x.parts (suc m) (omega arith)) in
      let place : suc m ≡ n = omega arith in
      let part = get_there x.parts n (omega arith) in
      let begin : begin_of part.0 ≡ record { start = s.guard; handle = handle; arg = arg } =
      same_Some (begin_of part.0) (record { start = s.guard; handle = handle; arg = arg }) (sym (walk.begins n part.0 part.1) ∙ ap (λ j. slice_get (walk.first ∷ begins_in_all x.parts) j) (sym place) ∙ r.2) in
      record {
        part = part.0;
        there = part.1;
        start = ap (λ (b : Begin). b.start) begin;
        same_handle = ap (λ (b : Begin). b.handle) begin;
        same_arg = ap (λ (b : Begin). b.arg) begin;
      }

  pub is_form : IsSsaOf f x
  is_form = record {
    terms = walk.terms;
    parts = zip_from (IsWalked x.terms) (IsPartOf f x) f.instances x.parts walk.parts (λ k i p here there w. is_part f x flat walk k i p here there w);
    initials = walk.initials;
    main = λ p e.
        let begin : begin_of p ≡ walk.first = same_Some (begin_of p) walk.first (sym (walk.begins 0 p e)) in
        (subst (λ (b : Begin). IsConstant x.terms b.start 1) (sym begin) walk.start, subst (λ (b : Begin). IsConstant x.terms b.handle 0) (sym begin) walk.handle, subst (λ (b : Begin). IsConstant x.terms b.arg 0) (sym begin) walk.arg);
    in_turn = in_turn;
    later = λ i j k p e h.
        let r = zip_left (IsWalked x.terms) f.instances x.parts i p walk.parts e in
        let w = zip_at (IsWalked x.terms) f.instances x.parts i r.0 p walk.parts r.1 e in
        flat.creates.later i j k r.0 r.1 (ap (λ l. slice_get l k) (sym (created_same x.terms r.0 p w)) ∙ h);
    created = created;
    own_inputs = walk.own;
  }
