-- The walk over one instance, and over all.
use Rattle.std.proofs.Common.{◌≡◌, ℕ, suc, ◌+◌, ◌-◌, ◌<◌, ◌≤◌, ◌⊎◌, inl, inr, Bool, true, false, List, [], ◌∷◌, ◌++◌, length, Option, Some, None, refl, ap, sym, ◌∙◌, subst, append-nil, append_assoc, length-append, arith}
use Rattle.std.specs.Prelude.{All, slice_get, cond, nat_eq, IfSome, unwrap_or}
use Rattle.std.specs.Option.{option_map}
use Rattle.std.specs.List.{AllZip}
use Rattle.std.proofs.lemmas.Option.{none-some, slice_get_within, get_or_from_slice_get, slice_get_past}
use Rattle.std.proofs.lemmas.List.Elements.{All-nil, All-cons, All-head, All-tail, All-append, All-weaker}
use Rattle.std.proofs.lemmas.Bool.{eqb-true}
use Rattle.dg_base.proofs.Lists.{get_append_left, get_append_right, get_append_cases, get_push_cases, get_push_last}
use Rattle.bv_term.specs.declared.term.TermId.{TermId}
use Rattle.bv_term.specs.declared.term.Term.{Term}
use Rattle.bv_term.specs.declared.term.Term.TheVariants.{Input, Constant}
use Rattle.bv_term.specs.Values.{IsListed, IsConstant, AreTerms, Grows, value as term_value}
use Rattle.bv_term.proofs.ValueLaws.{grows_self, grows_steps}
use Rattle.flat_prog.specs.declared.Flat.{Flat}
use Rattle.flat_prog.specs.declared.Instance.{Instance}
use Rattle.flat_prog.specs.declared.FlatStep.{FlatStep}
use Rattle.flat_prog.specs.Runs.{first_values}
use Rattle.flat_prog.specs.Shape as shape
use Rattle.flat_prog.specs.Shape.{counted, CreatesInTurn}
use Rattle.ssa_form.specs.declared.Ssa.{Ssa}
use Rattle.ssa_form.specs.declared.SsaPart.{SsaPart}
use Rattle.ssa_form.specs.declared.SsaStep.{SsaStep}
use Rattle.ssa_form.specs.declared.SsaAct.TheVariants.{Start, End}
use Rattle.ssa_form.specs.declared.walk.Begin.{Begin}
use Rattle.ssa_form.specs.declared.walk.Walk.{Walk}
use Rattle.ssa_form.specs.Parts.{inputs_in, inputs_in_all}
use Rattle.ssa_form.specs.Walks.{Words, values, Follows, IsWalked, AreListed, terms_in}
use Rattle.ssa_form.specs.States.{locals_of, IsNumber, IsBeginListed, IsWalk, begins_in, begins_in_all, begin_of, begins_by, noted, AreOwn, StayOwn, IsStepped, first_term, AreFirst, IsEntered, IsParted}
use Rattle.ssa_form.specs.declared.walk.Guard.{Guard}
use Rattle.ssa_form.specs.States.{IsGuard}
use Rattle.ssa_form.proofs.Assembly.{IsWalkOf, all_created, count_in_all, length_zip, zip_push}
use Rattle.ssa_form.proofs.Sparse.{compare}
use Rattle.ssa_form.proofs.Growing.{get_more, all_more, steps_more, number_more, local_at, local_read}
use Rattle.ssa_form.proofs.Stepping.{own_none, noted_walk}
use Rattle.ssa_form.proofs.Taking.{inputs_append, counted_at}

-- ---- lists of steps

begins_append : (xs ys : List SsaStep) → begins_in (xs ++ ys) ≡ begins_in xs ++ begins_in ys
begins_append [] ys = refl
begins_append (x ∷ xs) ys = ap (λ l. begins_by x.guard x.act ++ l) (begins_append xs ys) ∙ sym (append_assoc (begins_by x.guard x.act) (begins_in xs) (begins_in ys))

begins_push : (ps : List SsaPart) (p : SsaPart) → begins_in_all (ps ++ p ∷ []) ≡ begins_in_all ps ++ begins_in p.steps
begins_push [] p = append-nil (begins_in p.steps)
begins_push (q ∷ ps) p = ap (λ l. begins_in q.steps ++ l) (begins_push ps p) ∙ sym (append_assoc (begins_in q.steps) (begins_in_all ps) (begins_in p.steps))

inputs_push : (ps : List SsaPart) (p : SsaPart) → inputs_in_all (ps ++ p ∷ []) ≡ inputs_in_all ps ++ inputs_in p.steps
inputs_push [] p = append-nil (inputs_in p.steps)
inputs_push (q ∷ ps) p = ap (λ l. inputs_in q.steps ++ l) (inputs_push ps p) ∙ sym (append_assoc (inputs_in q.steps) (inputs_in_all ps) (inputs_in p.steps))

inputs_listed : (terms : List Term) (ss : List SsaStep) → AreListed terms ss → All (IsListed terms) (inputs_in ss)
inputs_listed terms ss h = All-weaker (λ (t : TermId). slice_get terms t.0 ≡ Some Input) (IsListed terms) (λ t e. slice_get_within terms t.0 Input e) (inputs_in ss) h.inputs

own_steps : (s t : List Term) (xs ys : List TermId) → Grows s t → All (IsListed t) xs → StayOwn s xs → StayOwn t ys → StayOwn s (xs ++ ys)
own_steps s t xs ys g listed h k ts all own =
    subst AreOwn (append_assoc ts xs ys) (k (ts ++ xs) (All-append (IsListed t) ts xs (all_more s t g ts all) listed) (h ts all own))

-- ---- where an instance begins

-- the locals' terms have the values that a thread begins with
first_are : (a : Walk) (all : List Term) (x : Words) (begin : Begin) (ts : List TermId) → IsNumber all a.zero 0 → IsNumber all a.one 1 → AreFirst a begin ts → 3 ≤ length ts
    → locals_of (values all x) ts ≡ first_values (values all x begin.arg) (values all x begin.handle)
first_are a all x begin ts z o first long = λ i l. at l i
  where
    term : (l : ℕ) → values all x (first_term a begin l) ≡ first_values (values all x begin.arg) (values all x begin.handle) l
    term l = by_zero (nat_eq l 0) (nat_eq l 1) (nat_eq l 2)
      where
        by_zero : (p q r : Bool) → values all x (cond p begin.arg (cond q begin.handle (cond r a.one a.zero))) ≡ cond p (values all x begin.arg) (cond q (values all x begin.handle) (cond r 1 0))
        by_zero true q r = refl
        by_zero false true r = refl
        by_zero false false true = o.value x.inputs
        by_zero false false false = z.value x.inputs

    past : (l : ℕ) → length ts ≤ l → first_values (values all x begin.arg) (values all x begin.handle) l ≡ 0
    past l h = by_zero (nat_eq l 0) refl (nat_eq l 1) refl (nat_eq l 2) refl
      where
        by_zero : (p : Bool) → nat_eq l 0 ≡ p → (q : Bool) → nat_eq l 1 ≡ q → (r : Bool) → nat_eq l 2 ≡ r → cond p (values all x begin.arg) (cond q (values all x begin.handle) (cond r 1 0)) ≡ 0
        by_zero true e q f r g = absurd (let same = eqb-true l 0 e in omega arith)
        by_zero false e true f r g = absurd (let same = eqb-true l 1 f in omega arith)
        by_zero false e false f true g = absurd (let same = eqb-true l 2 g in omega arith)
        by_zero false e false f false g = refl

    at : (l : ℕ) → locals_of (values all x) ts l ≡ first_values (values all x begin.arg) (values all x begin.handle) l
    at l = by_place (compare l (length ts))
      where
        by_place : (l < length ts) ⊎ (length ts ≤ l) → locals_of (values all x) ts l ≡ first_values (values all x begin.arg) (values all x begin.handle) l
        by_place (inl h) = local_at (values all x) ts l a.zero h ∙ ap (values all x) (get_or_from_slice_get ts l (first_term a begin l) a.zero (first l h)) ∙ term l
        by_place (inr h) = local_read (values all x) ts l ∙ ap (λ o. unwrap_or (option_map (values all x) o) 0) (slice_get_past ts l h) ∙ sym (past l h)

-- ---- the walk over the steps

-- the walk so far: what follows these locals follows the instance
pub record IsWalking (a b : Walk) (locals : ℕ) (begin : Begin) (done : List FlatStep) : Type 0 where
  pub walk : IsWalk b
  pub grows : Grows a.terms b.terms
  pub zero : b.zero ≡ a.zero
  pub one : b.one ≡ a.one
  pub count : length b.values ≡ locals
  pub rest : List SsaStep
  pub steps : b.steps ≡ record { guard = begin.start; act = Start } ∷ rest
  pub created : b.created ≡ a.created ++ begins_in rest
  pub own : StayOwn a.terms (inputs_in rest)
  pub follows : (all : List Term) (ts : List FlatStep) (ss : List SsaStep) → Grows b.terms all → Follows all ts (λ x. locals_of (values all x) b.values) (λ x. values all x b.alive) ss
      → Follows all (done ++ ts) (λ x. first_values (values all x begin.arg) (values all x begin.handle)) (λ x. values all x begin.start) (rest ++ ss)

pub walking_starts : (a b : Walk) (locals : ℕ) (begin : Begin) → 3 ≤ locals → IsEntered a b locals begin → IsWalking a b locals begin []
walking_starts a b locals begin enough e = record {
  walk = e.walk;
  grows = grows_self a.terms b.terms e.terms;
  zero = e.zero;
  one = e.one;
  count = e.count;
  rest = [];
  steps = e.steps;
  created = e.created ∙ sym (append-nil a.created);
  own = λ ts all own. own_none ts own;
  follows = λ all ts ss later f.
      let zero_is : IsNumber all a.zero 0 = subst (λ t. IsNumber all t 0) e.zero (number_more b.terms all later b.zero 0 e.walk.zero) in
      let one_is : IsNumber all a.one 1 = subst (λ t. IsNumber all t 1) e.one (number_more b.terms all later b.one 1 e.walk.one) in
      let long : 3 ≤ length b.values = let same = e.count in omega arith in
      let one : Follows all ts (λ x. first_values (values all x begin.arg) (values all x begin.handle)) (λ x. values all x b.alive) ss =
      subst (λ (l : Words → ℕ → ℕ). Follows all ts l (λ x. values all x b.alive) ss) (λ i x. first_are a all x begin b.values zero_is one_is e.first long i) f in
      subst (λ (k : Words → ℕ). Follows all ts (λ x. first_values (values all x begin.arg) (values all x begin.handle)) k ss) (λ i x. values all x (e.alive i)) one;
}

pub walking_more : (a b c : Walk) (locals : ℕ) (begin : Begin) (done : List FlatStep) (t : FlatStep) → IsWalking a b locals begin done → IsStepped b c t → IsWalking a c locals begin (done ++ t ∷ [])
walking_more a b c locals begin done t h s = record {
  walk = s.walk;
  grows = grows_steps a.terms b.terms c.terms h.grows s.grows;
  zero = s.zero ∙ h.zero;
  one = s.one ∙ h.one;
  count = s.count ∙ h.count;
  rest = h.rest ++ s.added;
  steps = s.steps ∙ ap (λ l. l ++ s.added) h.steps;
  created = s.created ∙ ap (λ l. l ++ begins_in s.added) h.created ∙ append_assoc a.created (begins_in h.rest) (begins_in s.added) ∙ ap (λ l. a.created ++ l) (sym (begins_append h.rest s.added));
  own =
      let listed : All (IsListed b.terms) (inputs_in h.rest) = subst (λ l. All (IsListed b.terms) (inputs_in l)) h.steps (inputs_listed b.terms b.steps h.walk.steps) in
      subst (StayOwn a.terms) (sym (inputs_append h.rest s.added)) (own_steps a.terms b.terms (inputs_in h.rest) (inputs_in s.added) h.grows listed h.own s.own);
  follows = λ all ts ss later f.
      let one = s.follows all ts ss later f in
      let both = h.follows all (t ∷ ts) (s.added ++ ss) (grows_steps b.terms c.terms all s.grows later) one in
      let regroup : h.rest ++ (s.added ++ ss) ≡ (h.rest ++ s.added) ++ ss = sym (append_assoc h.rest s.added ss) in
      let steps : done ++ (t ∷ ts) ≡ (done ++ t ∷ []) ++ ts = sym (append_assoc done (t ∷ []) ts) in
      let first : Words → ℕ → ℕ = λ x. first_values (values all x begin.arg) (values all x begin.handle) in
      subst (λ l. Follows all ((done ++ t ∷ []) ++ ts) first (λ x. values all x begin.start) l) regroup
      (subst (λ l. Follows all l first (λ x. values all x begin.start) (h.rest ++ (s.added ++ ss))) steps both);
}

last_kept : (b : Walk) (l : Option Guard) → IfSome l (IsGuard b) → IfSome l (IsGuard (record (noted b b.alive (Some End)) { steps = [] }))
last_kept b None h = tt
last_kept b (Some g) h = record { local = h.local; holds_listed = h.holds_listed; made_listed = h.made_listed; holds = h.holds; made = h.made }

-- behind the last step the thread comes to its end
pub parted : (a b : Walk) (i : Instance) (begin : Begin) (done : List FlatStep) (p : SsaPart) → IsBeginListed a.terms begin → done ≡ i.steps → IsWalking a b i.locals begin done
    → p.function ≡ i.function → begin_of p ≡ begin → p.steps ≡ (noted b b.alive (Some End)).steps → IsParted a (record (noted b b.alive (Some End)) { steps = [] }) i begin p
parted a b i begin done p listed all h function begins steps =
    let whole = noted_walk b b.alive (Some End) h.walk h.walk.alive (All-nil (IsListed b.terms)) (All-nil (λ (t : TermId). slice_get b.terms t.0 ≡ Some Input)) in
    let last : SsaStep = record { guard = b.alive; act = End } in
    let are : p.steps ≡ record { guard = begin.start; act = Start } ∷ (h.rest ++ last ∷ []) = steps ∙ ap (λ l. l ++ last ∷ []) h.steps in
    let begun : begins_in p.steps ≡ begins_in h.rest = ap begins_in are ∙ begins_append h.rest (last ∷ []) ∙ append-nil (begins_in h.rest) in
    let taken : inputs_in p.steps ≡ inputs_in h.rest = ap inputs_in are ∙ inputs_append h.rest (last ∷ []) ∙ append-nil (inputs_in h.rest) in
    let start : p.start ≡ begin.start = ap (λ (z : Begin). z.start) begins in
    let handle : p.handle ≡ begin.handle = ap (λ (z : Begin). z.handle) begins in
    let arg : p.arg ≡ begin.arg = ap (λ (z : Begin). z.arg) begins in
    record {
      walk = record {
        zero = whole.zero;
        one = whole.one;
        created = whole.created;
        locals = whole.locals;
        alive = whole.alive;
        last = last_kept b b.last h.walk.last;
        steps = record { each = All-nil (λ (s : SsaStep). All (IsListed b.terms) (terms_in s)); inputs = All-nil (λ (t : TermId). slice_get b.terms t.0 ≡ Some Input) };
      };
      steps = refl;
      grows = h.grows;
      zero = h.zero;
      one = h.one;
      created = append-nil b.created ∙ h.created ∙ ap (λ l. a.created ++ l) (sym begun);
      begins = begins;
      own = subst (StayOwn a.terms) (sym taken) h.own;
      walked = λ terms later. record {
        function = function;
        listed =
            let old = all_more b.terms terms later (begin.start ∷ begin.handle ∷ begin.arg ∷ []) (all_more a.terms b.terms h.grows (begin.start ∷ begin.handle ∷ begin.arg ∷ []) listed) in
            subst (λ (z : Begin). All (IsListed terms) (z.start ∷ z.handle ∷ z.arg ∷ [])) (sym begins) old;
        rest = h.rest ++ last ∷ [];
        steps = are ∙ ap (λ t. record { guard = t; act = Start } ∷ (h.rest ++ last ∷ [])) (sym start);
        are_listed = steps_more b.terms terms later p.steps (subst (AreListed b.terms) (sym steps) whole.steps);
        follows =
            let end : Follows terms [] (λ x. locals_of (values terms x) b.values) (λ x. values terms x b.alive) (last ∷ []) = record { guard = b.alive; steps = refl; made = λ w. refl } in
            let f = h.follows terms [] (last ∷ []) later end in
            let g : Follows terms i.steps (λ x. first_values (values terms x begin.arg) (values terms x begin.handle)) (λ x. values terms x begin.start) (h.rest ++ last ∷ []) =
            subst (λ l. Follows terms l (λ x. first_values (values terms x begin.arg) (values terms x begin.handle)) (λ x. values terms x begin.start) (h.rest ++ last ∷ [])) (append-nil done ∙ all) f in
            subst (λ (z : Begin). Follows terms i.steps (λ x. first_values (values terms x z.arg) (values terms x z.handle)) (λ x. values terms x z.start) (h.rest ++ last ∷ [])) (sym begins) g;
      };
    }

-- ---- the walk over the instances

pub record AreWalked (is : List Instance) (w : Walk) (ps : List SsaPart) : Type 0 where
  pub walk : IsWalk w
  pub steps : w.steps ≡ []
  pub parts : (terms : List Term) → Grows w.terms terms → AllZip (IsWalked terms) is ps
  pub created : w.created ≡ record { start = w.one; handle = w.zero; arg = w.zero } ∷ begins_in_all ps
  pub begins : (k : ℕ) (p : SsaPart) → slice_get ps k ≡ Some p → slice_get w.created k ≡ Some (begin_of p)
  pub own : AreOwn (inputs_in_all ps)
  pub inputs : All (IsListed w.terms) (inputs_in_all ps)

pub none_walked : (w : Walk) → IsWalk w → w.steps ≡ [] → w.created ≡ record { start = w.one; handle = w.zero; arg = w.zero } ∷ [] → AreWalked [] w []
none_walked w h none created = record {
  walk = h;
  steps = none;
  parts = λ terms later. tt;
  created = created;
  begins = λ k p e. absurd (none-some p e);
  own = λ m n t e f. absurd (none-some t e);
  inputs = All-nil (IsListed w.terms);
}

pub one_more_walked : (is : List Instance) (i : Instance) (a b : Walk) (ps : List SsaPart) (p : SsaPart) (begin : Begin) → AreWalked is a ps → slice_get a.created (length ps) ≡ Some begin → IsParted a b i begin p
    → AreWalked (is ++ i ∷ []) b (ps ++ p ∷ [])
one_more_walked is i a b ps p begin h here n = record {
  walk = n.walk;
  steps = n.steps;
  parts = λ terms later. zip_push (IsWalked terms) is ps i p (h.parts terms (grows_steps a.terms b.terms terms n.grows later)) (n.walked terms later);
  created =
      n.created ∙ ap (λ l. l ++ begins_in p.steps) h.created ∙ ap (λ l. record { start = a.one; handle = a.zero; arg = a.zero } ∷ l) (sym (begins_push ps p))
      ∙ ap (λ t. record { start = t; handle = a.zero; arg = a.zero } ∷ begins_in_all (ps ++ p ∷ [])) (sym n.one) ∙ ap (λ t. record { start = b.one; handle = t; arg = t } ∷ begins_in_all (ps ++ p ∷ [])) (sym n.zero);
  begins = λ k q e.
      let there : (r : Begin) → slice_get a.created k ≡ Some r → slice_get b.created k ≡ Some r = λ r g. ap (λ l. slice_get l k) n.created ∙ get_append_left a.created (begins_in p.steps) k r g in
      elim (get_push_cases ps p k q e) [
        | inl old ↦ there (begin_of q) (h.begins k q old)
        | inr new ↦
            let same : begin_of q ≡ begin = ap begin_of new.1 ∙ n.begins in
            there (begin_of q) (ap (λ j. slice_get a.created j) new.0 ∙ here ∙ ap (λ z. Some z) (sym same))
      ];
  own = subst AreOwn (sym (inputs_push ps p)) (n.own (inputs_in_all ps) h.inputs h.own);
  inputs =
      let grown : Grows a.terms b.terms = n.grows in
      let mine = (n.walked b.terms (grows_self b.terms b.terms refl)).are_listed in
      subst (λ l. All (IsListed b.terms) l) (sym (inputs_push ps p)) (All-append (IsListed b.terms) (inputs_in_all ps) (inputs_in p.steps) (all_more a.terms b.terms grown (inputs_in_all ps) h.inputs) (inputs_listed b.terms p.steps mine));
}

-- ---- each part has been created before it is walked

flat_creator : (is : List Instance) (m n : ℕ) → slice_get (shape.created_in_all is) m ≡ Some n → (k : ℕ) × ((i : Instance) × ((l : ℕ) × (slice_get is k ≡ Some i) × (slice_get (shape.created_in i.steps) l ≡ Some n)))
flat_creator [] m n e = absurd (none-some n e)
flat_creator (i ∷ is) m n e =
    elim (get_append_cases (shape.created_in i.steps) (shape.created_in_all is) m n e) [
      | inl h ↦ (0, (i, (m, refl, h)))
      | inr r ↦ let c = flat_creator is r.0 n r.2 in (suc c.0, (c.1.0, (c.1.1.0, c.1.1.1, c.1.1.2)))
    ]

created_append : (is js : List Instance) → shape.created_in_all (is ++ js) ≡ shape.created_in_all is ++ shape.created_in_all js
created_append [] js = refl
created_append (i ∷ is) js = ap (λ l. shape.created_in i.steps ++ l) (created_append is js) ∙ sym (append_assoc (shape.created_in i.steps) (shape.created_in_all is) (shape.created_in_all js))

-- the instances behind the first n create none of the first n
pub created_before : (is js : List Instance) → CreatesInTurn (is ++ js) → 0 < length js → length is < suc (length (shape.created_in_all is))
created_before is js turn more = by_place (compare (length is) (suc (length (shape.created_in_all is))))
  where
    by_place : (length is < suc (length (shape.created_in_all is))) ⊎ (suc (length (shape.created_in_all is)) ≤ length is) → length is < suc (length (shape.created_in_all is))
    by_place (inl h) = h
    by_place (inr h) =
        let n = length is in
        let long = length-append is js in
        let within : n < length (is ++ js) = omega arith in
        let q : ℕ = n - suc (length (shape.created_in_all is)) in
        let place : n ≡ suc (length (shape.created_in_all is) + q) = omega arith in
        let named : slice_get (0 ∷ shape.created_in_all (is ++ js)) n ≡ Some (0 + n) = ap (λ l. slice_get l n) turn.in_turn ∙ counted_at 0 (is ++ js) n within in
        let later : slice_get (shape.created_in_all js) q ≡ Some (0 + n) =
        sym (get_append_right (shape.created_in_all is) (shape.created_in_all js) (length (shape.created_in_all is) + q) q refl)
        ∙ ap (λ l. slice_get l (length (shape.created_in_all is) + q)) (sym (created_append is js)) ∙ sym (ap (λ k. slice_get (0 ∷ shape.created_in_all (is ++ js)) k) place) ∙ named in
        let c = flat_creator js q (0 + n) later in
        let there : slice_get (is ++ js) (n + c.0) ≡ Some c.1.0 = get_append_right is js (n + c.0) c.0 refl ∙ c.1.1.1 in
        let less = turn.later (n + c.0) (0 + n) c.1.1.0 c.1.0 there c.1.1.2 in
        absurd (omega arith)

-- the next part's beginning is there
pub has_begin : (is js : List Instance) (w : Walk) (ps : List SsaPart) → AreWalked is w ps → CreatesInTurn (is ++ js) → 0 < length js → length ps < length w.created
has_begin is js w ps h turn more =
    let zip = h.parts w.terms (grows_self w.terms w.terms refl) in
    let count : length is ≡ length ps = length_zip (IsWalked w.terms) is ps zip in
    let before = created_before is js turn more in
    let same : length (shape.created_in_all is) ≡ length (begins_in_all ps) = ap (λ (l : List ℕ). length l) (sym (all_created w.terms is ps zip)) ∙ count_in_all ps in
    let long : length w.created ≡ suc (length (begins_in_all ps)) = ap (λ (l : List Begin). length l) h.created in
    omega arith

-- what was walked, with more terms for the initial values
pub walked_form : (f : Flat) (w : Walk) (x : Ssa) → AreWalked f.instances w x.parts → Grows w.terms x.terms → AreTerms x.terms → AllZip (λ v t. IsConstant x.terms t v) f.initials x.initials → IsWalkOf f x
walked_form f w x h later are initials =
    let one = number_more w.terms x.terms later w.one 1 h.walk.one in
    let zero' = number_more w.terms x.terms later w.zero 0 h.walk.zero in
    record {
      terms = are;
      parts = h.parts x.terms later;
      first = record { start = w.one; handle = w.zero; arg = w.zero };
      begins = λ k p e. ap (λ l. slice_get l k) (sym h.created) ∙ h.begins k p e;
      start = one.constant;
      handle = zero'.constant;
      arg = zero'.constant;
      first_truth = λ v. let e : values x.terms v w.one ≡ 1 = one.value v.inputs in omega arith;
      initials = initials;
      own = h.own;
    }

-- ---- locals and initial values, one after the other

pub first_more : (a : Walk) (begin : Begin) (ts : List TermId) (x : TermId) → AreFirst a begin ts → x ≡ first_term a begin (length ts) → AreFirst a begin (ts ++ x ∷ [])
first_more a begin ts x h e l within = by_place (compare l (length ts))
  where
    by_place : (l < length ts) ⊎ (length ts ≤ l) → slice_get (ts ++ x ∷ []) l ≡ Some (first_term a begin l)
    by_place (inl low) = get_append_left ts (x ∷ []) l (first_term a begin l) (h l low)
    by_place (inr high) =
        let long = length-append ts (x ∷ []) in
        let same : l ≡ length ts = omega arith in
        ap (λ k. slice_get (ts ++ x ∷ []) k) same ∙ get_push_last ts x ∙ ap (λ t. Some t) e ∙ ap (λ k. Some (first_term a begin k)) (sym same)

pub constants_more : (s t : List Term) (vs : List ℕ) (ts : List TermId) (v : ℕ) (x : TermId) → Grows s t → AllZip (λ v t. IsConstant s t v) vs ts → IsConstant t x v → AllZip (λ v u. IsConstant t u v) (vs ++ v ∷ []) (ts ++ x ∷ [])
constants_more s t [] [] v x g h e = (e, tt)
constants_more s t [] (u ∷ ts) v x g h e = absurd h
constants_more s t (w ∷ vs) [] v x g h e = absurd h
constants_more s t (w ∷ vs) (u ∷ ts) v x g h e = (get_more s t g u.0 (Constant w) h.0, constants_more s t vs ts v x g h.1 e)

-- ---- where the walk begins

first_listed : (a : Walk) (begin : Begin) → IsWalk a → IsBeginListed a.terms begin → (l : ℕ) → IsListed a.terms (first_term a begin l)
first_listed a begin w h l = by_zero (nat_eq l 0) (nat_eq l 1) (nat_eq l 2)
  where
    rest : All (IsListed a.terms) (begin.handle ∷ begin.arg ∷ [])
    rest = All-tail (IsListed a.terms) begin.start (begin.handle ∷ begin.arg ∷ []) h

    by_zero : (p q r : Bool) → IsListed a.terms (cond p begin.arg (cond q begin.handle (cond r a.one a.zero)))
    by_zero true q r = All-head (IsListed a.terms) begin.arg [] (All-tail (IsListed a.terms) begin.handle (begin.arg ∷ []) rest)
    by_zero false true r = All-head (IsListed a.terms) begin.handle (begin.arg ∷ []) rest
    by_zero false false true = w.one.listed
    by_zero false false false = w.zero.listed

all_first : (a : Walk) (begin : Begin) (ts : List TermId) → IsWalk a → IsBeginListed a.terms begin → AreFirst a begin ts → All (IsListed a.terms) ts
all_first a begin ts w h first k d within =
    subst (IsListed a.terms) (sym (get_or_from_slice_get ts k (first_term a begin k) d (first k within))) (first_listed a begin w h k)

pub entered : (a : Walk) (locals : ℕ) (begin : Begin) (ts : List TermId) → IsWalk a → a.steps ≡ [] → IsBeginListed a.terms begin → length ts ≡ locals → AreFirst a begin ts
    → IsEntered a (noted (record a { values = ts; alive = begin.start; last = None }) begin.start (Some Start)) locals begin
entered a locals begin ts w none h count first =
    let start = All-head (IsListed a.terms) begin.start (begin.handle ∷ begin.arg ∷ []) h in
    let fresh : IsWalk (record a { values = ts; alive = begin.start; last = None }) = record {
      zero = w.zero;
      one = w.one;
      created = w.created;
      locals = all_first a begin ts w h first;
      alive = start;
      last = tt;
      steps = w.steps;
    } in
    record {
      walk =
          noted_walk (record a { values = ts; alive = begin.start; last = None }) begin.start (Some Start) fresh start (All-nil (IsListed a.terms)) (All-nil (λ (t : TermId). slice_get a.terms t.0 ≡ Some Input));
      terms = refl;
      zero = refl;
      one = refl;
      created = append-nil a.created;
      count = count;
      first = first;
      alive = refl;
      steps = ap (λ l. l ++ record { guard = begin.start; act = Start } ∷ []) none;
    }

-- a state in which nothing was walked
pub started : (w : Walk) (s : List Term) → IsConstant s w.zero 0 → ((inputs : ℕ → ℕ) → term_value inputs s w.zero ≡ 0) → Grows s w.terms
    → IsConstant w.terms w.one 1 → ((inputs : ℕ → ℕ) → term_value inputs w.terms w.one ≡ 1) → w.created ≡ record { start = w.one; handle = w.zero; arg = w.zero } ∷ []
    → w.values ≡ [] → w.alive ≡ w.zero → w.last ≡ None → w.steps ≡ [] → IsWalk w
started w s zero_is zero_value grows one_is one_value created locals alive last steps =
    let zero' : IsNumber w.terms w.zero 0 = number_more s w.terms grows w.zero 0 (record { listed = slice_get_within s w.zero.0 (Constant 0) zero_is; constant = zero_is; value = zero_value }) in
    let one : IsNumber w.terms w.one 1 = record { listed = slice_get_within w.terms w.one.0 (Constant 1) one_is; constant = one_is; value = one_value } in
    let L : TermId → Type 0 = IsListed w.terms in
    record {
      zero = zero';
      one = one;
      created =
          subst (λ l. All (IsBeginListed w.terms) l) (sym created)
          (All-cons (IsBeginListed w.terms) (record { start = w.one; handle = w.zero; arg = w.zero }) []
          (All-cons L w.one (w.zero ∷ w.zero ∷ []) one.listed (All-cons L w.zero (w.zero ∷ []) zero'.listed (All-cons L w.zero [] zero'.listed (All-nil L)))) (All-nil (IsBeginListed w.terms)));
      locals = subst (λ l. All L l) (sym locals) (All-nil L);
      alive = subst L (sym alive) zero'.listed;
      last = subst (λ o. IfSome o (IsGuard w)) (sym last) tt;
      steps =
          subst (AreListed w.terms) (sym steps)
          (record { each = All-nil (λ (s : SsaStep). All (IsListed w.terms) (terms_in s)); inputs = All-nil (λ (t : TermId). slice_get w.terms t.0 ≡ Some Input) });
    }
