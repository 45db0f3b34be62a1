-- The terms of events have words, and so their literals have variables.
use Rattle.std.proofs.Common.{◌≡◌, ℕ, zero, suc, ◌+◌, ◌≤◌, List, [], ◌∷◌, length, map, Some, refl, ap, sym, ◌∙◌, subst, arith}
use Rattle.std.specs.Prelude.{slice_get, All}
use Rattle.std.specs.List.{AllZip}
use Rattle.std.proofs.lemmas.List.{length-map, length-append}
use Rattle.std.proofs.lemmas.List.Elements.{All-nil, All-cons, All-get_or, All-append, All-map}
use Rattle.std.proofs.lemmas.Option.{none-some, same_Some, slice_get_within}
use Rattle.dg_base.proofs.Lists.{get_append_left, get_append_right}
use Rattle.bv_term.specs.declared.term.TermId.{TermId}
use Rattle.bv_term.specs.declared.term.Term.{Term}
use Rattle.bv_term.specs.declared.term.Term.TheVariants.{Input}
use Rattle.bv_term.specs.Values.{IsListed, IsConstant}
use Rattle.cnf_problem.specs.Formulas.{true_lit}
use Rattle.cnf_problem.specs.Literals.{IsOver}
use Rattle.bit_gates.specs.Words.{IsWordOver}
use Rattle.bit_blast.specs.Blasting.{word_at}
use Rattle.flat_prog.specs.declared.Flat.{Flat}
use Rattle.ssa_form.specs.declared.Ssa.{Ssa}
use Rattle.ssa_form.specs.declared.SsaPart.{SsaPart}
use Rattle.ssa_form.specs.declared.SsaStep.{SsaStep}
use Rattle.ssa_form.specs.declared.SsaAct.{SsaAct}
use Rattle.ssa_form.specs.declared.SsaAct.TheVariants as act
use Rattle.ssa_form.specs.Parts.{input_of, inputs_in, terms_of}
use Rattle.ssa_form.specs.Form.{IsSsaOf}
use Rattle.memory_models.specs.declared.StaticEvent.{StaticEvent}
use Rattle.memory_models.specs.declared.EventBits.{EventBits}
use Rattle.event_graph.specs.Graphs.{Acting, acting, guard_lit, event_of, initial_events, handle_in, value_term, bits_by, bits_in}
use Rattle.event_graph.specs.Laws.{EventsHaveBits, EventsAreOver}
use Rattle.event_graph.proofs.Origins.{part_of, length_initials, origin}
use Rattle.event_graph.proofs.Making.{all_at}

pub all_from : {A : Type 0} (P : A → Type 0) (xs : List A) → ((k : ℕ) (x : A) → slice_get xs k ≡ Some x → P x) → All P xs
all_from P [] h = All-nil P
all_from P (x ∷ xs) h = All-cons P x xs (h 0 x refl) (all_from P xs (λ k y e. h (suc k) y e))

-- ---- terms

input_at : (ss : List SsaStep) (j : ℕ) (s : SsaStep) (t : TermId) → slice_get ss j ≡ Some s → slice_get (input_of s.act) 0 ≡ Some t → (k : ℕ) × (slice_get (inputs_in ss) k ≡ Some t)
input_at [] j s t e f = absurd (none-some s e)
input_at (u ∷ ss) zero s t e f =
    (0, get_append_left (input_of u.act) (inputs_in ss) 0 t (ap (λ (z : SsaStep). slice_get (input_of z.act) 0) (same_Some u s e) ∙ f))
input_at (u ∷ ss) (suc j) s t e f =
    let r = input_at ss j s t e f in
    (length (input_of u.act) + r.0, get_append_right (input_of u.act) (inputs_in ss) (length (input_of u.act) + r.0) r.0 refl ∙ r.1)

value_listed : (terms : List Term) (own : TermId) (a : SsaAct) → IsListed terms own → All (IsListed terms) (terms_of a) → ((t : TermId) → slice_get (input_of a) 0 ≡ Some t → IsListed terms t) → IsListed terms (value_term own a)
value_listed terms own (act.Read c t) h all input = input t refl
value_listed terms own (act.Write c t) h all input = all_at (IsListed terms) (t ∷ []) 0 t all refl
value_listed terms own (act.Create i handle arg) h all input = all_at (IsListed terms) (handle ∷ arg ∷ []) 0 handle all refl
value_listed terms own (act.Join handle) h all input = all_at (IsListed terms) (handle ∷ []) 0 handle all refl
value_listed terms own _ h all input = h

-- the terms of a step: its guard, and what is the value of its action
pub record HasTerms (terms : List Term) (own : TermId) (s : SsaStep) : Type 0 where
  pub guard : IsListed terms s.guard
  pub value : IsListed terms (value_term own s.act)

pub has_terms : (f : Flat) (x : Ssa) (i j : ℕ) (p : SsaPart) (s : SsaStep) → IsSsaOf f x → slice_get x.parts i ≡ Some p → slice_get p.steps j ≡ Some s → HasTerms x.terms p.handle s
has_terms f x i j p s h part there =
    let of = (part_of f x i p h part).1 in
    let listed = all_at (λ (z : SsaStep). All (IsListed x.terms) (z.guard ∷ terms_of z.act)) p.steps j s of.steps_listed there in
    let handle = all_at (IsListed x.terms) (p.start ∷ p.handle ∷ p.arg ∷ []) 1 p.handle of.listed refl in
    record {
      guard = all_at (IsListed x.terms) (s.guard ∷ terms_of s.act) 0 s.guard listed refl;
      value = value_listed x.terms p.handle s.act handle (all_from (IsListed x.terms) (terms_of s.act) (λ k t e. all_at (IsListed x.terms) (s.guard ∷ terms_of s.act) (suc k) t listed e))
          (λ t e.
          let k = input_at p.steps j s t there e in
          slice_get_within x.terms t.0 Input (all_at (λ (z : TermId). slice_get x.terms z.0 ≡ Some Input) (inputs_in p.steps) k.0 t of.inputs k.1));
    }

-- the terms of initial values
initial_listed : (terms : List Term) (vs : List ℕ) (ts : List TermId) → AllZip (λ v t. IsConstant terms t v) vs ts → All (IsListed terms) ts
initial_listed terms [] [] h = All-nil (IsListed terms)
initial_listed terms [] (t ∷ ts) h = absurd h
initial_listed terms (v ∷ vs) [] h = absurd h
initial_listed terms (v ∷ vs) (t ∷ ts) h = All-cons (IsListed terms) t ts (slice_get_within terms t.0 _ h.0) (initial_listed terms vs ts h.1)

pub initials_listed : (f : Flat) (x : Ssa) → IsSsaOf f x → All (IsListed x.terms) x.initials
initials_listed f x h = initial_listed x.terms f.initials x.initials h.initials

-- ---- bits

pub have_bits : EventsHaveBits
have_bits x words =
    let first = length-append (map (bits_by words) x.initials) (map (bits_in x.parts words) (acting x)) in
    let second = length-append (initial_events 0 x.initials) (map (event_of words) (acting x)) in
    let a = length-map x.initials (bits_by words) in
    let b = length-map (acting x) (bits_in x.parts words) in
    let c = length-map (acting x) (event_of words) in
    let d = length_initials 0 x.initials in
    omega (arith, first, second, a, b, c, d)

initials_over : (vars c : ℕ) (ts : List TermId) → 1 ≤ vars → All (λ (e : StaticEvent). IsOver vars e.guard) (initial_events c ts)
initials_over vars c [] h = All-nil (λ (e : StaticEvent). IsOver vars e.guard)
initials_over vars c (t ∷ ts) h = All-cons (λ (e : StaticEvent). IsOver vars e.guard) _ (initial_events (c + 1) ts) (omega arith, omega arith) (initials_over vars (c + 1) ts h)

pub events_over : EventsAreOver
events_over f x words vars h count over some = (
  All-append (λ (e : StaticEvent). IsOver vars e.guard) (initial_events 0 x.initials) (map (event_of words) (acting x)) (initials_over vars 0 x.initials some)
      (All-map (λ (e : StaticEvent). IsOver vars e.guard) (event_of words) (acting x) (all_from (λ (a : Acting). IsOver vars (guard_lit words a.step.guard)) (acting x) guards)),
  All-append (λ (b : EventBits). IsWordOver vars b.bits) (map (bits_by words) x.initials) (map (bits_in x.parts words) (acting x))
      (All-map (λ (b : EventBits). IsWordOver vars b.bits) (bits_by words) x.initials
      (all_from (λ (t : TermId). IsWordOver vars (word_at words t.0)) x.initials (λ k t e. word t (all_at (IsListed x.terms) x.initials k t (initials_listed f x h) e))))
      (All-map (λ (b : EventBits). IsWordOver vars b.bits) (bits_in x.parts words) (acting x) (all_from (λ (a : Acting). IsWordOver vars (bits_in x.parts words a).bits) (acting x) values)),
)
  where
    word : (t : TermId) → IsListed x.terms t → IsWordOver vars (word_at words t.0)
    word t known = All-get_or (IsWordOver vars) words t.0 [] (omega (arith, count, known)) over

    lit : (t : TermId) → IsListed x.terms t → IsOver vars (guard_lit words t)
    lit t known = let w = word t known in All-get_or (IsOver vars) (word_at words t.0) 0 true_lit (let long = w.0 in omega (arith, long)) w.1

    guards : (k : ℕ) (a : Acting) → slice_get (acting x) k ≡ Some a → IsOver vars (guard_lit words a.step.guard)
    guards k a e =
        let o = origin x k a e in
        subst (λ (z : Acting). IsOver vars (guard_lit words z.step.guard)) (sym o.same) (lit o.step.guard (has_terms f x o.instance o.step_place o.part o.step h o.node.part o.node.there).guard)

    values : (k : ℕ) (a : Acting) → slice_get (acting x) k ≡ Some a → IsWordOver vars (bits_in x.parts words a).bits
    values k a e =
        let o = origin x k a e in
        let t = (has_terms f x o.instance o.step_place o.part o.step h o.node.part o.node.there).value in
        let own : IsWordOver vars (word_at words (value_term (handle_in (slice_get x.parts o.instance)) o.step.act).0) =
        subst (λ q. IsWordOver vars (word_at words (value_term (handle_in q) o.step.act).0)) (sym o.node.part) (word (value_term o.part.handle o.step.act) t) in
        subst (λ (z : Acting). IsWordOver vars (bits_in x.parts words z).bits) (sym o.same) own
