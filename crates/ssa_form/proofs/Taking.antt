-- Inputs under which a part takes a script.
use Rattle.std.proofs.Common.{◌≡◌, ℕ, zero, suc, ◌+◌, ◌<◌, ◌^◌, ◌⊎◌, inl, inr, Bool, true, false, List, [], ◌∷◌, ◌++◌, map, take, length, Some, refl, ap, sym, ◌∙◌, subst, append_assoc, append-nil, length-append, arith}
use Rattle.std.specs.Prelude.{All, Contains, slice_get, cond, nat_eq}
use Rattle.std.specs.List.{AllZip}
use Rattle.std.proofs.lemmas.Option.{none-some, same_Some, slice_get_within}
use Rattle.std.proofs.lemmas.List.{map-append}
use Rattle.std.proofs.lemmas.List.Elements.{All-nil, All-cons, All-head, All-tail, All-contains, Contains-append_left, Contains-append_right}
use Rattle.std.proofs.lemmas.Bool.{eqb-true, eq-eqb}
use Rattle.dg_base.proofs.Lists.{get_append_left, get_append_right, get_append_cases, place_of, contains_head, contains_tail}
use Rattle.dg_base.specs.Values.{is_true}
use Rattle.bv_term.specs.declared.term.TermId.{TermId}
use Rattle.bv_term.specs.declared.term.Term.TheVariants.{Input, Constant}
use Rattle.bv_term.specs.Values.{AreWords, IsConstant}
use Rattle.bv_term.proofs.ValueLaws.{value_by_term}
use Rattle.flat_prog.specs.declared.Flat.{Flat}
use Rattle.flat_prog.specs.declared.Instance.{Instance}
use Rattle.flat_prog.specs.Shape.{counted}
use Rattle.flat_prog.specs.Runs.{FlatRun, flat_run}
use Rattle.flat_prog.proofs.Scripts.{run_uses_first}
use Rattle.ssa_form.specs.declared.Ssa.{Ssa}
use Rattle.ssa_form.specs.declared.SsaPart.{SsaPart}
use Rattle.ssa_form.specs.declared.SsaStep.{SsaStep}
use Rattle.ssa_form.specs.declared.SsaAct.{SsaAct}
use Rattle.ssa_form.specs.declared.SsaAct.TheVariants.{Take, Read, Write, Open, Close, Fence, Create, Join, Start, End, Stop, Bad, Fail}
use Rattle.ssa_form.specs.Parts.{Valuation, input_of, inputs_in, inputs_in_all, terms_of, created_by, created_in, created_in_all, is_made, made_of, script_of}
use Rattle.ssa_form.specs.Form.{IsSsaOf, IsPartOf, Agree, settled_terms, first_steps, under}
use Rattle.ssa_form.proofs.Following.{split}
use Rattle.ssa_form.specs.Laws.{DiffersAt, Choice, ScriptsCanBeTaken, DoesTheSame, EarlierPartsStay}

-- ---- lists

pub zip_at : {A B : Type 0} (R : A → B → Type 0) (xs : List A) (ys : List B) (i : ℕ) (x : A) (y : B) → AllZip R xs ys → slice_get xs i ≡ Some x → slice_get ys i ≡ Some y → R x y
zip_at R [] ys i x y z e h = absurd (none-some x e)
zip_at R (a ∷ xs) [] i x y z e h = absurd (none-some y h)
zip_at R (a ∷ xs) (b ∷ ys) zero x y z e h = subst (λ v. R v y) (same_Some a x e) (subst (λ v. R a v) (same_Some b y h) z.0)
zip_at R (a ∷ xs) (b ∷ ys) (suc i) x y z e h = zip_at R xs ys i x y z.1 e h

pub zip_left : {A B : Type 0} (R : A → B → Type 0) (xs : List A) (ys : List B) (i : ℕ) (y : B) → AllZip R xs ys → slice_get ys i ≡ Some y → (x : A) × (slice_get xs i ≡ Some x)
zip_left R xs [] i y z h = absurd (none-some y h)
zip_left R [] (b ∷ ys) i y z h = absurd z
zip_left R (a ∷ xs) (b ∷ ys) zero y z h = (a, refl)
zip_left R (a ∷ xs) (b ∷ ys) (suc i) y z h = zip_left R xs ys i y z.1 h

pub counted_at : {A : Type 0} (n : ℕ) (xs : List A) (k : ℕ) → k < length xs → slice_get (counted n xs) k ≡ Some (n + k)
counted_at n [] k h = absurd (omega arith)
counted_at n (x ∷ xs) zero h = let e : n ≡ n + 0 = omega arith in ap (λ m. Some m) e
counted_at n (x ∷ xs) (suc k) h = let e : (n + 1) + k ≡ n + suc k = omega arith in counted_at (n + 1) xs k (omega arith) ∙ ap (λ m. Some m) e

take_length : {A : Type 0} (xs ys : List A) → take (length xs) (xs ++ ys) ≡ xs
take_length [] ys = refl
take_length (x ∷ xs) ys = ap (λ z. x ∷ z) (take_length xs ys)

-- ---- steps

pub inputs_append : (xs ys : List SsaStep) → inputs_in (xs ++ ys) ≡ inputs_in xs ++ inputs_in ys
inputs_append [] ys = refl
inputs_append (x ∷ xs) ys = ap (λ z. input_of x.act ++ z) (inputs_append xs ys) ∙ sym (append_assoc (input_of x.act) (inputs_in xs) (inputs_in ys))

made_append : (v : Valuation) (xs ys : List SsaStep) → made_of v (xs ++ ys) ≡ made_of v xs ++ made_of v ys
made_append v [] ys = refl
made_append v (x ∷ xs) ys = by_made (is_made v x) (made_append v xs ys)
  where
    by_made : (b : Bool) → made_of v (xs ++ ys) ≡ made_of v xs ++ made_of v ys → cond b (x ∷ made_of v (xs ++ ys)) (made_of v (xs ++ ys)) ≡ cond b (x ∷ made_of v xs) (made_of v xs) ++ made_of v ys
    by_made true e = ap (λ z. x ∷ z) e
    by_made false e = e

script_append : (v : Valuation) (xs ys : List SsaStep) → script_of v (xs ++ ys) ≡ script_of v xs ++ script_of v ys
script_append v xs ys =
    ap (λ z. map v (inputs_in z)) (made_append v xs ys) ∙ ap (λ z. map v z) (inputs_append (made_of v xs) (made_of v ys)) ∙ map-append v (inputs_in (made_of v xs)) (inputs_in (made_of v ys))

-- the step that creates an instance
create_step : (ss : List SsaStep) (l n : ℕ) → slice_get (created_in ss) l ≡ Some n → (t : ℕ) × ((s : SsaStep) × ((h : TermId) × ((g : TermId) × (slice_get ss t ≡ Some s) × (s.act ≡ Create n h g))))
create_step [] l n e = absurd (none-some n e)
create_step (s ∷ ss) l n e = first s.act refl e (create_step ss)
  where
    later : ((l n : ℕ) → slice_get (created_in ss) l ≡ Some n → (t : ℕ) × ((s : SsaStep) × ((h : TermId) × ((g : TermId) × (slice_get ss t ≡ Some s) × (s.act ≡ Create n h g)))))
        → (k : ℕ) → slice_get (created_in ss) k ≡ Some n → (t : ℕ) × ((u : SsaStep) × ((h : TermId) × ((g : TermId) × (slice_get (s ∷ ss) t ≡ Some u) × (u.act ≡ Create n h g))))
    later again k i = let r = again k n i in (suc r.0, (r.1.0, (r.1.1.0, (r.1.1.1.0, r.1.1.1.1, r.1.1.1.2))))

    first : (a : SsaAct) → s.act ≡ a → slice_get (created_by a ++ created_in ss) l ≡ Some n
        → ((l n : ℕ) → slice_get (created_in ss) l ≡ Some n → (t : ℕ) × ((s : SsaStep) × ((h : TermId) × ((g : TermId) × (slice_get ss t ≡ Some s) × (s.act ≡ Create n h g)))))
        → (t : ℕ) × ((u : SsaStep) × ((h : TermId) × ((g : TermId) × (slice_get (s ∷ ss) t ≡ Some u) × (u.act ≡ Create n h g))))
    first (Create j h g) is i again = by_place l i
      where
        by_place : (k : ℕ) → slice_get (j ∷ created_in ss) k ≡ Some n → (t : ℕ) × ((u : SsaStep) × ((h : TermId) × ((g : TermId) × (slice_get (s ∷ ss) t ≡ Some u) × (u.act ≡ Create n h g))))
        by_place zero i = (0, (s, (h, (g, refl, is ∙ ap (λ m. Create m h g) (same_Some j n i)))))
        by_place (suc k) i = later again k i
    first _ is i again = later again l i

creator : (ps : List SsaPart) (m n : ℕ) → slice_get (created_in_all ps) m ≡ Some n → (k : ℕ) × ((q : SsaPart) × ((l : ℕ) × (slice_get ps k ≡ Some q) × (slice_get (created_in q.steps) l ≡ Some n)))
creator [] m n e = absurd (none-some n e)
creator (p ∷ ps) m n e =
    elim (get_append_cases (created_in p.steps) (created_in_all ps) m n e) [
      | inl h ↦ (0, (p, (m, refl, h)))
      | inr r ↦ let c = creator ps r.0 n r.2 in (suc c.0, (c.1.0, (c.1.1.0, c.1.1.1, c.1.1.2)))
    ]

-- ---- places of inputs

abbrev offset : List SsaPart → ℕ → ℕ
offset ps i = length (inputs_in_all (take i ps))

place_in_all : (ps : List SsaPart) (i m : ℕ) (p : SsaPart) (t : TermId) → slice_get ps i ≡ Some p → slice_get (inputs_in p.steps) m ≡ Some t → slice_get (inputs_in_all ps) (offset ps i + m) ≡ Some t
place_in_all [] i m p t e h = absurd (none-some p e)
place_in_all (q ∷ ps) zero m p t e h =
    let same : m ≡ 0 + m = omega arith in
    subst (λ k. slice_get (inputs_in_all (q ∷ ps)) k ≡ Some t) same
    (get_append_left (inputs_in q.steps) (inputs_in_all ps) m t (subst (λ (z : SsaPart). slice_get (inputs_in z.steps) m ≡ Some t) (sym (same_Some q p e)) h))
place_in_all (q ∷ ps) (suc i) m p t e h =
    let long = length-append (inputs_in q.steps) (inputs_in_all (take i ps)) in
    get_append_right (inputs_in q.steps) (inputs_in_all ps) (offset (q ∷ ps) (suc i) + m) (offset ps i + m) (omega arith) ∙ place_in_all ps i m p t e h

offset_less : (ps : List SsaPart) (j i m : ℕ) (q : SsaPart) → j < i → slice_get ps j ≡ Some q → m < length (inputs_in q.steps) → offset ps j + m < offset ps i
offset_less [] j i m q h e l = absurd (none-some q e)
offset_less (p ∷ ps) j zero m q h e l = absurd (omega arith)
offset_less (p ∷ ps) zero (suc i) m q h e l =
    let same : p ≡ q = same_Some p q e in
    let long = length-append (inputs_in p.steps) (inputs_in_all (take i ps)) in
    let within : m < length (inputs_in p.steps) = subst (λ (z : SsaPart). m < length (inputs_in z.steps)) (sym same) l in
    omega arith
offset_less (p ∷ ps) (suc j) (suc i) m q h e l =
    let r = offset_less ps j i m q (omega arith) e l in
    let one = length-append (inputs_in p.steps) (inputs_in_all (take j ps)) in
    let two = length-append (inputs_in p.steps) (inputs_in_all (take i ps)) in
    omega arith

take_inputs : (P : TermId → Type 0) (n : ℕ) (ss : List SsaStep) → All P (inputs_in ss) → All P (inputs_in (take n ss))
take_inputs P zero ss h = All-nil P
take_inputs P (suc n) [] h = All-nil P
take_inputs P (suc n) (s ∷ ss) h = both (input_of s.act) h (take_inputs P n ss)
  where
    both : (xs : List TermId) → All P (xs ++ inputs_in ss) → (All P (inputs_in ss) → All P (inputs_in (take n ss))) → All P (xs ++ inputs_in (take n ss))
    both [] h again = again h
    both (x ∷ xs) h again = All-cons P x (xs ++ inputs_in (take n ss)) (All-head P x (xs ++ inputs_in ss) h) (both xs (All-tail P x (xs ++ inputs_in ss) h) again)

-- ---- what does not depend on a part's inputs

module _ (f : Flat) (x : Ssa) (form : IsSsaOf f x) where
  part_of : (i : ℕ) (instance : Instance) (p : SsaPart) → slice_get f.instances i ≡ Some instance → slice_get x.parts i ≡ Some p → IsPartOf f x instance p
  part_of i instance p e h = zip_at (IsPartOf f x) f.instances x.parts i instance p form.parts e h

  some_part : (i : ℕ) (p : SsaPart) → slice_get x.parts i ≡ Some p → (instance : Instance) × IsPartOf f x instance p
  some_part i p h = let r = zip_left (IsPartOf f x) f.instances x.parts i p form.parts h in (r.0, part_of i r.0 p r.1 h)

  constant_is : (a : ℕ → ℕ) (t : TermId) (n : ℕ) → IsConstant x.terms t n → under a x t ≡ n
  constant_is a t n e = value_by_term x.terms a t (Constant n) form.terms e

  input_is : (a : ℕ → ℕ) (t : TermId) → slice_get x.terms t.0 ≡ Some Input → under a x t ≡ a t.0
  input_is a t e = value_by_term x.terms a t Input form.terms e

  constants_agree : (a b : ℕ → ℕ) (t : TermId) (n : ℕ) → IsConstant x.terms t n → under a x t ≡ under b x t
  constants_agree a b t n e = constant_is a t n e ∙ sym (constant_is b t n e)

  -- what a part begins with rests on the numbers that earlier parts take
  begins_settled : (bound j : ℕ) (q : SsaPart) (a b : ℕ → ℕ) → j < bound → slice_get x.parts j ≡ Some q → AreWords a → AreWords b
      → ((k : ℕ) (s : SsaPart) → k < j → slice_get x.parts k ≡ Some s → Agree x a b (inputs_in s.steps)) → Agree x a b (q.start ∷ q.handle ∷ q.arg ∷ [])
  begins_settled zero j q a b h e wa wb agree = absurd (omega arith)
  begins_settled (suc bound) zero q a b h e wa wb agree =
      let P : TermId → Type 0 = λ t. under a x t ≡ under b x t in
      let m = form.main q e in
      All-cons P q.start (q.handle ∷ q.arg ∷ []) (constants_agree a b q.start 1 m.0)
      (All-cons P q.handle (q.arg ∷ []) (constants_agree a b q.handle 0 m.1) (All-cons P q.arg [] (constants_agree a b q.arg 0 m.2) (All-nil P)))
  begins_settled (suc bound) (suc j) q a b h e wa wb agree =
      let P : TermId → Type 0 = λ t. under a x t ≡ under b x t in
      let within = slice_get_within x.parts (suc j) q e in
      let named : slice_get (created_in_all x.parts) j ≡ Some (suc j) =
      ap (λ l. slice_get l (suc j)) form.in_turn ∙ counted_at 0 x.parts (suc j) within ∙ (let z : 0 + suc j ≡ suc j = omega arith in ap (λ m. Some m) z) in
      let c = creator x.parts j (suc j) named in
      let k = c.0 in
      let r = c.1.0 in
      let before : k < suc j = form.later k (suc j) c.1.1.0 r c.1.1.1 c.1.1.2 in
      let s = create_step r.steps c.1.1.0 (suc j) c.1.1.2 in
      let starts = form.created k (suc j) s.0 r s.1.0 s.1.1.0 s.1.1.1.0 c.1.1.1 s.1.1.1.1 s.1.1.1.2 in
      let same : starts.part ≡ q = same_Some starts.part q (sym starts.there ∙ e) in
      let i = some_part k r c.1.1.1 in
      let earlier = begins_settled bound k r a b (omega arith) c.1.1.1 wa wb (λ l t less there. agree l t (omega arith) there) in
      let all : Agree x a b (settled_terms s.1.0) = i.1.settled a b s.0 s.1.0 wa wb s.1.1.1.1 earlier (take_inputs P s.0 r.steps (agree k r before c.1.1.1)) in
      let terms : All P (s.1.0.guard ∷ s.1.1.0 ∷ s.1.1.1.0 ∷ []) = subst (λ z. All P (s.1.0.guard ∷ terms_of z)) s.1.1.1.2 all in
      let here : All P (starts.part.start ∷ starts.part.handle ∷ starts.part.arg ∷ []) =
      All-cons P starts.part.start (starts.part.handle ∷ starts.part.arg ∷ []) (subst P (sym starts.start) (All-head P s.1.0.guard (s.1.1.0 ∷ s.1.1.1.0 ∷ []) terms))
      (All-cons P starts.part.handle (starts.part.arg ∷ []) (subst P (sym starts.same_handle) (All-head P s.1.1.0 (s.1.1.1.0 ∷ []) (All-tail P s.1.0.guard (s.1.1.0 ∷ s.1.1.1.0 ∷ []) terms)))
      (All-cons P starts.part.arg [] (subst P (sym starts.same_arg) (All-head P s.1.1.1.0 [] (All-tail P s.1.1.0 (s.1.1.1.0 ∷ []) (All-tail P s.1.0.guard (s.1.1.0 ∷ s.1.1.1.0 ∷ []) terms)))) (All-nil P))) in
      subst (λ (z : SsaPart). All P (z.start ∷ z.handle ∷ z.arg ∷ [])) same here

  -- an input of an earlier part is none of this one
  other_part : (j i : ℕ) (q p : SsaPart) (t : TermId) → j < i → slice_get x.parts j ≡ Some q → slice_get x.parts i ≡ Some p → Contains (inputs_in q.steps) t → Contains (inputs_in p.steps) t → ⊥
  other_part j i q p t h e g there here =
      let m = place_of (inputs_in q.steps) t there in
      let n = place_of (inputs_in p.steps) t here in
      let same = form.own_inputs (offset x.parts j + m.0) (offset x.parts i + n.0) t (place_in_all x.parts j m.0 q t e m.1) (place_in_all x.parts i n.0 p t g n.1) in
      let within = slice_get_within (inputs_in q.steps) m.0 t m.1 in
      let less = offset_less x.parts j i m.0 q h e within in
      omega arith

  -- a part's inputs are its own
  own_part : (i : ℕ) (p : SsaPart) (m n : ℕ) (t : TermId) → slice_get x.parts i ≡ Some p → slice_get (inputs_in p.steps) m ≡ Some t → slice_get (inputs_in p.steps) n ≡ Some t → m ≡ n
  own_part i p m n t e g h =
      let same = form.own_inputs (offset x.parts i + m) (offset x.parts i + n) t (place_in_all x.parts i m p t e g) (place_in_all x.parts i n p t e h) in
      omega arith

  all_from_contains : (P : TermId → Type 0) (ts : List TermId) → ((t : TermId) → Contains ts t → P t) → All P ts
  all_from_contains P [] h = All-nil P
  all_from_contains P (t ∷ ts) h = All-cons P t ts (h t (contains_head t ts)) (all_from_contains P ts (λ u c. h u (contains_tail t u ts c)))

  -- other inputs of a part leave those of an earlier one
  inputs_kept : (i k : ℕ) (p q : SsaPart) (a b : ℕ → ℕ) → slice_get x.parts i ≡ Some p → slice_get x.parts k ≡ Some q → k < i → DiffersAt (inputs_in p.steps) a b → Agree x a b (inputs_in q.steps)
  inputs_kept i k p q a b e there less differs =
      let is = (some_part k q there).1 in
      all_from_contains (λ t. under a x t ≡ under b x t) (inputs_in q.steps)
      (λ t c. let input = All-contains (λ (u : TermId). slice_get x.terms u.0 ≡ Some Input) (inputs_in q.steps) t is.inputs c in
      input_is a t input ∙ sym (differs t.0 (λ d. other_part k i q p t less there e c d)) ∙ sym (input_is b t input))

  -- and what it begins with
  begins_kept : (i : ℕ) (p : SsaPart) (a b : ℕ → ℕ) → slice_get x.parts i ≡ Some p → AreWords a → AreWords b → DiffersAt (inputs_in p.steps) a b → Agree x a b (p.start ∷ p.handle ∷ p.arg ∷ [])
  begins_kept i p a b e wa wb differs = begins_settled (suc i) i p a b (omega arith) e wa wb (λ k q less there. inputs_kept i k p q a b e there less differs)

  all_from_places : {A : Type 0} (P : A → Type 0) (xs : List A) → ((n : ℕ) (y : A) → slice_get xs n ≡ Some y → P y) → All P xs
  all_from_places P [] h = All-nil P
  all_from_places P (y ∷ ys) h = All-cons P y ys (h 0 y refl) (all_from_places P ys (λ n z e. h (suc n) z e))

  -- an earlier part does the same
  earlier_same : (i k : ℕ) (p q : SsaPart) (a b : ℕ → ℕ) → slice_get x.parts i ≡ Some p → slice_get x.parts k ≡ Some q → k < i → AreWords a → AreWords b → DiffersAt (inputs_in p.steps) a b → DoesTheSame x q a b
  earlier_same i k p q a b e there less wa wb differs =
      let inputs = inputs_kept i k p q a b e there less differs in
      let begins = begins_settled (suc k) k q a b (omega arith) there wa wb (λ l s low here. inputs_kept i l p s a b e here (omega arith) differs) in
      let is = (some_part k q there).1 in
      record {
        begins = begins;
        steps = all_from_places (λ (s : SsaStep). Agree x a b (settled_terms s)) q.steps (λ n s here. is.settled a b n s wa wb here begins (take_inputs (λ t. under a x t ≡ under b x t) n q.steps inputs));
        inputs = inputs;
      }

pub earlier_stay : EarlierPartsStay
earlier_stay f x i p a b form e wa wb differs = (begins_kept f x form i p a b e wa wb differs, λ k q less there. earlier_same f x form i k p q a b e there less wa wb differs)

-- ---- one part, one step after the other

same_map : (v w : Valuation) (ts : List TermId) → All (λ (t : TermId). v t ≡ w t) ts → map v ts ≡ map w ts
same_map v w [] h = refl
same_map v w (t ∷ ts) h =
    let P : TermId → Type 0 = λ u. v u ≡ w u in
    ap (λ n. n ∷ map v ts) (All-head P t ts h) ∙ ap (λ l. w t ∷ l) (same_map v w ts (All-tail P t ts h))

-- what one step takes
one_script : (v w : Valuation) (s : SsaStep) → All (λ (t : TermId). v t ≡ w t) (input_of s.act) → v s.guard ≡ w s.guard → script_of v (s ∷ []) ≡ script_of w (s ∷ [])
one_script v w s h e = ap (λ n. map v (inputs_in (cond (is_true n) (s ∷ []) []))) e ∙ by_made (is_true (w s.guard))
  where
    by_made : (b : Bool) → map v (inputs_in (cond b (s ∷ []) [])) ≡ map w (inputs_in (cond b (s ∷ []) []))
    by_made true = same_map v w (input_of s.act ++ []) (subst (λ l. All (λ (t : TermId). v t ≡ w t) l) (sym (append-nil (input_of s.act))) h)
    by_made false = refl

not_made : (v : Valuation) (s : SsaStep) → is_made v s ≡ false → script_of v (s ∷ []) ≡ []
not_made v s e = ap (λ b. map v (inputs_in (cond b (s ∷ []) []))) e

made_step : (v : Valuation) (s : SsaStep) (ts : List TermId) → is_made v s ≡ true → input_of s.act ≡ ts → script_of v (s ∷ []) ≡ map v ts
made_step v s ts e h = ap (λ b. map v (inputs_in (cond b (s ∷ []) []))) e ∙ ap (map v) (append-nil (input_of s.act) ∙ h)

-- a step takes one number or none
one_input : (a : SsaAct) → (input_of a ≡ []) ⊎ ((t : TermId) × (input_of a ≡ t ∷ []))
one_input (Take t) = inr (t, refl)
one_input (Read c t) = inr (t, refl)
one_input (Write c t) = inl refl
one_input Open = inl refl
one_input Close = inl refl
one_input Fence = inl refl
one_input (Create i h g) = inl refl
one_input (Join h) = inl refl
one_input Start = inl refl
one_input End = inl refl
one_input Stop = inl refl
one_input Bad = inl refl
one_input (Fail q tag) = inl refl

-- inputs under which the first steps take the first numbers
record Taking (x : Ssa) (p : SsaPart) (script : List ℕ) (inputs : ℕ → ℕ) (front : List SsaStep) (rest : List ℕ) : Type 0 where
  chosen : ℕ → ℕ
  fits : AreWords chosen
  differs : DiffersAt (inputs_in p.steps) inputs chosen
  takes : script ≡ script_of (under chosen x) front ++ rest

-- inputs with one changed
abbrev with_input : (ℕ → ℕ) → ℕ → ℕ → ℕ → ℕ
with_input a t y n = cond (nat_eq n t) y (a n)

module _ (f : Flat) (x : Ssa) (form : IsSsaOf f x) (i : ℕ) (instance : Instance) (p : SsaPart) (inputs : ℕ → ℕ) (script : List ℕ) (r : FlatRun)
    (here : slice_get f.instances i ≡ Some instance) (there : slice_get x.parts i ≡ Some p) (words : AreWords inputs) (started : under inputs x p.start ≡ 1)
    (fit : All (λ v. v < 2 ^ 32) script) (run : flat_run f.instances instance (under inputs x p.arg) (under inputs x p.handle) script ≡ Some r) (used : r.used ≡ length script) where
  is : IsPartOf f x instance p
  is = part_of f x form i instance p here there

  -- under such inputs the part takes as many numbers as the script has, if one begins with the other
  as_long : (b : ℕ → ℕ) (more less : List ℕ) → AreWords b → DiffersAt (inputs_in p.steps) inputs b → script_of (under b x) p.steps ++ less ≡ script ++ more → (less ≡ []) ⊎ (more ≡ []) → length (script_of (under b x) p.steps) ≡ length script
  as_long b more less fits differs e one =
      let P : TermId → Type 0 = λ t. under inputs x t ≡ under b x t in
      let kept = begins_kept f x form i p inputs b there words fits differs in
      let start : under b x p.start ≡ 1 = sym (All-head P p.start (p.handle ∷ p.arg ∷ []) kept) ∙ started in
      let handle : under inputs x p.handle ≡ under b x p.handle = All-head P p.handle (p.arg ∷ []) (All-tail P p.start (p.handle ∷ p.arg ∷ []) kept) in
      let arg : under inputs x p.arg ≡ under b x p.arg = All-head P p.arg [] (All-tail P p.handle (p.arg ∷ []) (All-tail P p.start (p.handle ∷ p.arg ∷ []) kept)) in
      let runs = is.runs b fits start in
      let mine : flat_run f.instances instance (under b x p.arg) (under b x p.handle) script ≡ Some r =
      ap (λ n. flat_run f.instances instance n (under b x p.handle) script) (sym arg) ∙ ap (λ n. flat_run f.instances instance (under inputs x p.arg) n script) (sym handle) ∙ run in
      let theirs = run_uses_first f.instances instance (under b x p.arg) (under b x p.handle) (script_of (under b x) p.steps) runs.run runs.runs in
      let ours = run_uses_first f.instances instance (under b x p.arg) (under b x p.handle) script r mine in
      let first : flat_run f.instances instance (under b x p.arg) (under b x p.handle) (script_of (under b x) p.steps ++ less) ≡ Some runs.run =
      ap (λ l. flat_run f.instances instance (under b x p.arg) (under b x p.handle) l) (ap (λ l. l ++ less) theirs.first ∙ append_assoc theirs.taken theirs.rest less) ∙ theirs.same (theirs.rest ++ less) in
      let second : flat_run f.instances instance (under b x p.arg) (under b x p.handle) (script ++ more) ≡ Some r =
      ap (λ l. flat_run f.instances instance (under b x p.arg) (under b x p.handle) l) (ap (λ l. l ++ more) ours.first ∙ append_assoc ours.taken ours.rest more) ∙ ours.same (ours.rest ++ more) in
      let same : runs.run ≡ r = same_Some runs.run r (sym first ∙ ap (λ l. flat_run f.instances instance (under b x p.arg) (under b x p.handle) l) e ∙ second) in
      sym runs.used ∙ ap (λ (q : FlatRun). q.used) same ∙ used

  -- a step's guard, under inputs that agree on what the steps before it take
  guard_kept : (front back : List SsaStep) (s : SsaStep) (a b : ℕ → ℕ) → p.steps ≡ front ++ s ∷ back → AreWords a → AreWords b → DiffersAt (inputs_in p.steps) inputs a → DiffersAt (inputs_in p.steps) inputs b
      → Agree x a b (inputs_in front) → under a x s.guard ≡ under b x s.guard
  guard_kept front back s a b e wa wb da db agree =
      let P : TermId → Type 0 = λ t. under a x t ≡ under b x t in
      let Q : TermId → Type 0 = λ t. under inputs x t ≡ under a x t in
      let R : TermId → Type 0 = λ t. under inputs x t ≡ under b x t in
      let ka = begins_kept f x form i p inputs a there words wa da in
      let kb = begins_kept f x form i p inputs b there words wb db in
      let begins : Agree x a b (p.start ∷ p.handle ∷ p.arg ∷ []) = λ k d h. sym (ka k d h) ∙ kb k d h in
      let zero_more : length front ≡ length front + 0 = omega arith in
      let at : slice_get p.steps (length front) ≡ Some s = ap (λ l. slice_get l (length front)) e ∙ get_append_right front (s ∷ back) (length front) 0 zero_more in
      let before : Agree x a b (inputs_in (first_steps (length front) p)) = subst (λ l. All P (inputs_in l)) (sym (ap (take (length front)) e ∙ take_length front (s ∷ back))) agree in
      All-head P s.guard (terms_of s.act) (is.settled a b (length front) s wa wb at begins before)

  -- what the first steps take, under inputs that agree on it
  script_kept : (front middle back : List SsaStep) (a b : ℕ → ℕ) → p.steps ≡ (front ++ middle) ++ back → AreWords a → AreWords b → DiffersAt (inputs_in p.steps) inputs a → DiffersAt (inputs_in p.steps) inputs b
      → Agree x a b (inputs_in (front ++ middle)) → script_of (under a x) middle ≡ script_of (under b x) middle
  script_kept front [] back a b e wa wb da db agree = refl
  script_kept front (s ∷ middle) back a b e wa wb da db agree =
      let P : TermId → Type 0 = λ t. under a x t ≡ under b x t in
      let regroup : (front ++ s ∷ middle) ++ back ≡ front ++ s ∷ (middle ++ back) = append_assoc front (s ∷ middle) back in
      let next : front ++ s ∷ middle ≡ (front ++ s ∷ []) ++ middle = sym (append_assoc front (s ∷ []) middle) in
      let all : All P (inputs_in front ++ inputs_in (s ∷ middle)) = subst (λ l. All P l) (inputs_append front (s ∷ middle)) agree in
      let parts = split P (inputs_in front) (inputs_in (s ∷ middle)) all in
      let mine = split P (input_of s.act) (inputs_in middle) parts.1 in
      let guard = guard_kept front (middle ++ back) s a b (e ∙ regroup) wa wb da db parts.0 in
      let rest = script_kept (front ++ s ∷ []) middle back a b (e ∙ ap (λ l. l ++ back) next) wa wb da db (subst (λ l. Agree x a b (inputs_in l)) next agree) in
      script_append (under a x) (s ∷ []) middle ∙ ap (λ l. script_of (under a x) (s ∷ []) ++ l) rest
      ∙ ap (λ l. l ++ script_of (under b x) middle) (one_script (under a x) (under b x) s mine.0 guard) ∙ sym (script_append (under b x) (s ∷ []) middle)

  abbrev Now : List SsaStep → List ℕ → Type 0
  Now front rest = Taking x p script inputs front rest

  no_longer : (xs ys : List ℕ) → length xs ≡ length (xs ++ ys) → ys ≡ []
  no_longer xs [] e = refl
  no_longer xs (y ∷ ys) e = let long = length-append xs (y ∷ ys) in absurd (omega arith)

  -- a step that takes nothing
  passes : (front : List SsaStep) (s : SsaStep) (rest : List ℕ) (t : Now front rest) → script_of (under t.chosen x) (s ∷ []) ≡ [] → Now (front ++ s ∷ []) rest
  passes front s rest t e = record {
    chosen = t.chosen;
    fits = t.fits;
    differs = t.differs;
    takes = t.takes ∙ ap (λ l. l ++ rest) (sym (script_append (under t.chosen x) front (s ∷ []) ∙ ap (λ l. script_of (under t.chosen x) front ++ l) e ∙ append-nil (script_of (under t.chosen x) front)));
  }

  -- a step that takes a number finds one
  finds : (front back : List SsaStep) (s : SsaStep) (u : TermId) (t : Now front []) → p.steps ≡ front ++ s ∷ back → script_of (under t.chosen x) (s ∷ []) ≡ under t.chosen x u ∷ [] → ⊥
  finds front back s u t e takes =
      let v : Valuation = under t.chosen x in
      let all : script_of v p.steps ≡ script_of v front ++ (v u ∷ script_of v back) =
      ap (script_of v) e ∙ script_append v front (s ∷ back) ∙ ap (λ l. script_of v front ++ l) (script_append v (s ∷ []) back ∙ ap (λ l. l ++ script_of v back) takes) in
      let first : script ≡ script_of v front = t.takes ∙ append-nil (script_of v front) in
      let whole : script_of v p.steps ≡ script ++ (v u ∷ script_of v back) = all ∙ ap (λ l. l ++ (v u ∷ script_of v back)) (sym first) in
      let same = as_long t.chosen (v u ∷ script_of v back) [] t.fits t.differs (append-nil (script_of v p.steps) ∙ whole) (inl refl) in
      let none = no_longer script (v u ∷ script_of v back) (sym same ∙ ap (λ (l : List ℕ). length l) whole) in
      cc

  -- it is given the next one
  module _ (front back : List SsaStep) (s : SsaStep) (u : TermId) (y : ℕ) (ys : List ℕ) (t : Now front (y ∷ ys)) (e : p.steps ≡ front ++ s ∷ back) (takes : input_of s.act ≡ u ∷ []) where
    abbrev given : ℕ → ℕ
    given = with_input t.chosen u.0 y

    all_inputs : inputs_in p.steps ≡ inputs_in front ++ (u ∷ inputs_in back)
    all_inputs = ap inputs_in e ∙ inputs_append front (s ∷ back) ∙ ap (λ l. inputs_in front ++ (l ++ inputs_in back)) takes

    is_there : Contains (inputs_in p.steps) u
    is_there = subst (λ l. Contains l u) (sym all_inputs) (Contains-append_right (inputs_in front) (u ∷ inputs_in back) u (contains_head u (inputs_in back)))

    fits_given : AreWords given
    fits_given n = by_place (nat_eq n u.0)
      where
        y_fits : y < 2 ^ 32
        y_fits = All-head (λ v. v < 2 ^ 32) y ys (split {A = ℕ} (λ v. v < 2 ^ 32) (script_of (under t.chosen x) front) (y ∷ ys) (subst (λ l. All (λ v. v < 2 ^ 32) l) t.takes fit)).1

        by_place : (b : Bool) → cond b y (t.chosen n) < 2 ^ 32
        by_place true = y_fits
        by_place false = t.fits n

    differs_given : DiffersAt (inputs_in p.steps) inputs given
    differs_given n none = by_place (nat_eq n u.0) refl
      where
        by_place : (b : Bool) → nat_eq n u.0 ≡ b → cond (nat_eq n u.0) y (t.chosen n) ≡ inputs n
        by_place true h = absurd (none (let same : u.0 ≡ n = sym (eqb-true n u.0 h) in let P : ℕ → Type 0 = λ k. Contains (inputs_in p.steps) (record { 0 = k }) in subst P same is_there))
        by_place false h = ap (λ b. cond b y (t.chosen n)) h ∙ t.differs n none

    input_at : (z : TermId) → Contains (inputs_in p.steps) z → slice_get x.terms z.0 ≡ Some Input
    input_at z h = All-contains (λ (w : TermId). slice_get x.terms w.0 ≡ Some Input) (inputs_in p.steps) z is.inputs h

    -- the numbers taken before stay
    older : (z : TermId) → Contains (inputs_in front) z → under t.chosen x z ≡ under given x z
    older z h =
        let within : Contains (inputs_in p.steps) z = subst (λ l. Contains l z) (sym all_inputs) (Contains-append_left (inputs_in front) (u ∷ inputs_in back) z h) in
        let input = input_at z within in
        input_is f x form t.chosen z input ∙ sym (by_place (nat_eq z.0 u.0) refl) ∙ sym (input_is f x form given z input)
      where
        by_place : (b : Bool) → nat_eq z.0 u.0 ≡ b → cond (nat_eq z.0 u.0) y (t.chosen z.0) ≡ t.chosen z.0
        by_place false e = ap (λ b. cond b y (t.chosen z.0)) e
        by_place true g =
            let same : z.0 ≡ u.0 = eqb-true z.0 u.0 g in
            let equal : z ≡ u = ap (λ (k : ℕ). record { 0 = k }) same in
            let m = place_of (inputs_in front) z h in
            let first : slice_get (inputs_in p.steps) m.0 ≡ Some u = ap (λ l. slice_get l m.0) all_inputs ∙ get_append_left (inputs_in front) (u ∷ inputs_in back) m.0 z m.1 ∙ ap (λ w. Some w) equal in
            let zero_more : length (inputs_in front) ≡ length (inputs_in front) + 0 = omega arith in
            let second : slice_get (inputs_in p.steps) (length (inputs_in front)) ≡ Some u =
            ap (λ l. slice_get l (length (inputs_in front))) all_inputs ∙ get_append_right (inputs_in front) (u ∷ inputs_in back) (length (inputs_in front)) 0 zero_more in
            let twice = own_part f x form i p m.0 (length (inputs_in front)) u there first second in
            let before = slice_get_within (inputs_in front) m.0 z m.1 in
            absurd (omega arith)

    agree : Agree x t.chosen given (inputs_in front)
    agree = all_from_contains f x form (λ z. under t.chosen x z ≡ under given x z) (inputs_in front) older

    value_given : under given x u ≡ y
    value_given = input_is f x form given u (input_at u is_there) ∙ ap (λ b. cond b y (t.chosen u.0)) (eq-eqb u.0 u.0 refl)

    gives : is_made (under t.chosen x) s ≡ true → Now (front ++ s ∷ []) ys
    gives made =
        let guard = guard_kept front back s t.chosen given e t.fits fits_given t.differs differs_given agree in
        let kept = script_kept [] front (s ∷ back) t.chosen given e t.fits fits_given t.differs differs_given agree in
        let mine : script_of (under given x) (s ∷ []) ≡ y ∷ [] = made_step (under given x) s (u ∷ []) (ap is_true (sym guard) ∙ made) takes ∙ ap (λ n. n ∷ []) value_given in
        let both : script_of (under given x) (front ++ s ∷ []) ≡ script_of (under t.chosen x) front ++ (y ∷ []) =
        script_append (under given x) front (s ∷ []) ∙ ap (λ l. l ++ script_of (under given x) (s ∷ [])) (sym kept) ∙ ap (λ l. script_of (under t.chosen x) front ++ l) mine in
        record {
          chosen = given;
          fits = fits_given;
          differs = differs_given;
          takes = t.takes ∙ sym (append_assoc (script_of (under t.chosen x) front) (y ∷ []) ys) ∙ ap (λ l. l ++ ys) (sym both);
        }

  -- one step more
  takes_none : (front : List SsaStep) (s : SsaStep) (rest : List ℕ) (t : Now front rest) (b : Bool) → is_made (under t.chosen x) s ≡ b → input_of s.act ≡ [] → Now (front ++ s ∷ []) rest
  takes_none front s rest t true m none = passes front s rest t (made_step (under t.chosen x) s [] m none)
  takes_none front s rest t false m none = passes front s rest t (not_made (under t.chosen x) s m)

  takes_one : (front back : List SsaStep) (s : SsaStep) (u : TermId) (rest : List ℕ) (t : Now front rest) (b : Bool) → is_made (under t.chosen x) s ≡ b → input_of s.act ≡ u ∷ [] → p.steps ≡ front ++ s ∷ back
      → (left : List ℕ) × Now (front ++ s ∷ []) left
  takes_one front back s u rest t false m one e = (rest, passes front s rest t (not_made (under t.chosen x) s m))
  takes_one front back s u [] t true m one e = absurd (finds front back s u t e (made_step (under t.chosen x) s (u ∷ []) m one))
  takes_one front back s u (y ∷ ys) t true m one e = (ys, gives front back s u y ys t e one m)

  next : (front back : List SsaStep) (s : SsaStep) (rest : List ℕ) (t : Now front rest) → p.steps ≡ front ++ s ∷ back → (left : List ℕ) × Now (front ++ s ∷ []) left
  next front back s rest t e =
      elim (one_input s.act) [
        | inl none ↦ (rest, takes_none front s rest t (is_made (under t.chosen x) s) refl none)
        | inr one ↦ takes_one front back s one.0 rest t (is_made (under t.chosen x) s) refl one.1 e
      ]

  -- all steps
  goes : (back front : List SsaStep) (rest : List ℕ) → Now front rest → p.steps ≡ front ++ back → Choice x p script inputs
  goes [] front rest t e =
      let same : p.steps ≡ front = e ∙ append-nil front in
      let all : script ≡ script_of (under t.chosen x) p.steps ++ rest = t.takes ∙ ap (λ l. script_of (under t.chosen x) l ++ rest) (sym same) in
      let long = as_long t.chosen [] rest t.fits t.differs (sym all ∙ sym (append-nil script)) (inr refl) in
      let none = no_longer (script_of (under t.chosen x) p.steps) rest (long ∙ ap (λ (l : List ℕ). length l) all) in
      record {
        chosen = t.chosen;
        words = t.fits;
        differs = t.differs;
        takes = sym (all ∙ ap (λ l. script_of (under t.chosen x) p.steps ++ l) none ∙ append-nil (script_of (under t.chosen x) p.steps));
      }
  goes (s ∷ back) front rest t e =
      let n = next front back s rest t e in
      goes back (front ++ s ∷ []) n.0 n.1 (e ∙ sym (append_assoc front (s ∷ []) back))

  pub chooses : Choice x p script inputs
  chooses = goes p.steps [] script (record { chosen = inputs; fits = words; differs = λ n none. refl; takes = refl }) refl

pub scripts_are_taken : ScriptsCanBeTaken
scripts_are_taken f x i instance p inputs script r form here there words started fit run used = chooses f x form i instance p inputs script r here there words started fit run used
