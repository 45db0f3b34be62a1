-- The actions of a run, and the steps that make them.
use Rattle.std.proofs.Common.{◌≡◌, ℕ, zero, suc, ◌+◌, ◌≤◌, Bool, true, false, List, [], ◌∷◌, ◌++◌, length, Some, refl, ap, sym, ◌∙◌, subst, arith}
use Rattle.std.specs.Prelude.{cond, slice_get, slice_index_or, All, ◌&&◌}
use Rattle.std.proofs.lemmas.List.{length-append}
use Rattle.std.proofs.lemmas.List.Elements.{All-get_or}
use Rattle.std.proofs.lemmas.Option.{none-some, same_Some, slice_get_within, get_or_from_slice_get}
use Rattle.dg_base.specs.declared.Lit.{Lit}
use Rattle.dg_base.specs.Values.{is_true, truth_of}
use Rattle.dg_base.proofs.Lists.{one_answer, get_append_right}
use Rattle.cnf_problem.specs.Formulas.{true_lit}
use Rattle.cnf_problem.specs.Literals.{value}
use Rattle.bit_gates.specs.Words.{number}
use Rattle.axiom_model.specs.declared.Action.{Action}
use Rattle.axiom_model.specs.declared.Action.TheVariants as action
use Rattle.ssa_form.specs.declared.SsaPart.{SsaPart}
use Rattle.ssa_form.specs.declared.SsaStep.{SsaStep}
use Rattle.ssa_form.specs.declared.SsaAct.{SsaAct}
use Rattle.ssa_form.specs.declared.SsaAct.TheVariants as act
use Rattle.ssa_form.specs.Parts.{Valuation, is_made, made_of, action_by, actions_in}
use Rattle.event_graph.specs.Graphs.{kind_of}
use Rattle.event_graph.specs.Laws.{count_before}
use Rattle.event_graph.proofs.Counting.{count_all, choose}
use Rattle.event_graph.proofs.Opening.{acts, is_acting}

-- ---- facts of lists

pub all_at : {A : Type 0} (P : A → Type 0) (xs : List A) (k : ℕ) (x : A) → All P xs → slice_get xs k ≡ Some x → P x
all_at P xs k x h e = subst P (get_or_from_slice_get xs k x x e) (All-get_or P xs k x (slice_get_within xs k x e) h)

one_item : {A : Type 0} (xs : List A) → length xs ≡ 1 → (x : A) × (xs ≡ x ∷ [])
one_item [] e = absurd (omega arith)
one_item (x ∷ []) e = (x, refl)
one_item (x ∷ y ∷ xs) e = absurd (omega arith)

-- ---- what a step makes

-- the step is made, and makes an action
abbrev pub made_acting : Valuation → SsaStep → Bool
made_acting v s = is_made v s && is_acting s

-- a step makes one action or none
makes : (ps : List SsaPart) (v : Valuation) (a : SsaAct) → length (action_by ps v a) ≡ truth_of (acts (kind_of a))
makes ps v (act.Read c t) = refl
makes ps v _ = refl

pub makes_one : (ps : List SsaPart) (v : Valuation) (s : SsaStep) → is_acting s ≡ true → (a : Action) × (action_by ps v s.act ≡ a ∷ [])
makes_one ps v s e = one_item (action_by ps v s.act) (makes ps v s.act ∙ ap truth_of e)

pub makes_acting : (ps : List SsaPart) (v : Valuation) (s : SsaStep) (a : Action) → action_by ps v s.act ≡ a ∷ [] → is_acting s ≡ true
makes_acting ps v s a e = by_test (is_acting s) refl
  where
    by_test : (b : Bool) → is_acting s ≡ b → b ≡ true
    by_test true f = refl
    by_test false f =
        let none : length (action_by ps v s.act) ≡ 0 = makes ps v s.act ∙ ap truth_of f in
        let one : length (action_by ps v s.act) ≡ 1 = ap (λ (l : List Action). length l) e in
        absurd (omega (arith, none, one))

pub open_made : (ps : List SsaPart) (v : Valuation) (a : SsaAct) → action_by ps v a ≡ action.Open ∷ [] → a ≡ act.Open
open_made ps v act.Open e = refl
open_made ps v _ e = absurd (cc)

pub close_made : (ps : List SsaPart) (v : Valuation) (a : SsaAct) → action_by ps v a ≡ action.Close ∷ [] → a ≡ act.Close
close_made ps v act.Close e = refl
close_made ps v _ e = absurd (cc)

-- ---- places of actions

module _ (ps : List SsaPart) (v : Valuation) where
  -- what a step makes, if it is made
  abbrev done : Bool → SsaStep → List Action
  done b s = cond b (action_by ps v s.act) []

  made_first : (b : Bool) (s : SsaStep) (ss : List SsaStep) → actions_in ps v (cond b (s ∷ made_of v ss) (made_of v ss)) ≡ done b s ++ actions_in ps v (made_of v ss)
  made_first true s ss = refl
  made_first false s ss = refl

  done_long : (b : Bool) (s : SsaStep) → length (done b s) ≡ truth_of (b && is_acting s)
  done_long true s = makes ps v s.act
  done_long false s = refl

  pub length_actions : (ss : List SsaStep) → length (actions_in ps v (made_of v ss)) ≡ count_all (made_acting v) ss
  length_actions [] = refl
  length_actions (s ∷ ss) =
      let first = ap (λ (l : List Action). length l) (made_first (is_made v s) s ss) in
      let both = length-append (done (is_made v s) s) (actions_in ps v (made_of v ss)) in
      let long = done_long (is_made v s) s in
      let again = length_actions ss in
      omega (arith, first, both, long, again)

  -- the action of a step that is made
  pub action_there : (ss : List SsaStep) (j k : ℕ) (s : SsaStep) (a : Action)
      → slice_get ss j ≡ Some s → is_made v s ≡ true → action_by ps v s.act ≡ a ∷ [] → count_before (made_acting v) j ss ≡ k → slice_get (actions_in ps v (made_of v ss)) k ≡ Some a
  action_there [] j k s a e made one c = absurd (none-some s e)
  action_there (t ∷ ss) zero k s a e made one c =
      let same = same_Some t s e in
      let made_too : is_made v t ≡ true = ap (is_made v) same ∙ made in
      let here : actions_in ps v (made_of v (t ∷ ss)) ≡ (a ∷ []) ++ actions_in ps v (made_of v ss) =
      made_first (is_made v t) t ss ∙ ap (λ b. done b t ++ actions_in ps v (made_of v ss)) made_too
      ∙ ap (λ (z : SsaStep). action_by ps v z.act ++ actions_in ps v (made_of v ss)) same ∙ ap (λ (l : List Action). l ++ actions_in ps v (made_of v ss)) one in
      ap (λ z. slice_get (actions_in ps v (made_of v (t ∷ ss))) z) (sym c) ∙ ap (λ (l : List Action). slice_get l 0) here
  action_there (t ∷ ss) (suc j) k s a e made one c =
      let long = done_long (is_made v t) t in
      let split : k ≡ length (done (is_made v t) t) + count_before (made_acting v) j ss = omega (arith, c, long) in
      ap (λ (l : List Action). slice_get l k) (made_first (is_made v t) t ss)
      ∙ get_append_right (done (is_made v t) t) (actions_in ps v (made_of v ss)) k (count_before (made_acting v) j ss) split
      ∙ action_there ss j (count_before (made_acting v) j ss) s a e made one refl

  -- the step of an action
  pub record Maker (ss : List SsaStep) (k : ℕ) (a : Action) : Type 0 where
    pub place : ℕ
    pub step : SsaStep
    pub there : slice_get ss place ≡ Some step
    pub made : is_made v step ≡ true
    pub acts : is_acting step ≡ true
    pub makes : action_by ps v step.act ≡ a ∷ []
    pub count : count_before (made_acting v) place ss ≡ k

  both : (b c : Bool) → (b && c) ≡ true → (b ≡ true) × (c ≡ true)
  both true c e = (refl, e)
  both false c e = absurd (cc)

  pub action_maker : (ss : List SsaStep) (k : ℕ) (a : Action) → slice_get (actions_in ps v (made_of v ss)) k ≡ Some a → Maker ss k a
  action_maker ss k a e =
      let inner = slice_get_within (actions_in ps v (made_of v ss)) k a e in
      let long = length_actions ss in
      let c = choose (made_acting v) ss k (omega (arith, inner, long)) in
      let passed = both (is_made v c.item) (is_acting c.item) c.passes in
      let m = makes_one ps v c.item passed.1 in
      let there = action_there ss c.place k c.item m.0 c.there passed.0 m.1 c.count in
      let same : m.0 ≡ a = one_answer (slice_get (actions_in ps v (made_of v ss)) k) m.0 a there e in
      record { place = c.place; step = c.item; there = c.there; made = passed.0; acts = passed.1; makes = m.1 ∙ ap (λ z. z ∷ []) same; count = c.count }

-- ---- guards

-- a word that spells 0 or 1 is true in its first literal where the number is not 0
pub first_literal : (s : List Bool) (w : List Lit) (n : ℕ) → length w ≡ 32 → number s w ≡ n → n ≤ 1 → value s (slice_index_or w 0 true_lit) ≡ is_true n
first_literal s [] n long e few = absurd (omega arith)
first_literal s (l ∷ ls) n long e few = by_bit (value s l) refl n e few
  where
    by_bit : (b : Bool) → value s l ≡ b → (m : ℕ) → number s (l ∷ ls) ≡ m → m ≤ 1 → b ≡ is_true m
    by_bit true f zero g h = absurd (let one : truth_of (value s l) ≡ 1 = ap truth_of f in omega (arith, g, one))
    by_bit true f (suc zero) g h = refl
    by_bit true f (suc (suc m)) g h = absurd (omega arith)
    by_bit false f zero g h = refl
    by_bit false f (suc m) g h = absurd (let none : truth_of (value s l) ≡ 0 = ap truth_of f in omega (arith, g, none, h))
