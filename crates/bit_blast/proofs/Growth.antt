-- The words of terms, one behind another.
use Rattle.std.proofs.Common.{◌≡◌, ℕ, zero, suc, ◌+◌, ◌^◌, ◌<◌, ◌≤◌, inl, inr, Bool, List, [], ◌∷◌, ◌++◌, length, take, drop, get_or, refl, ap, sym, ◌∙◌, subst, arith, Some}
use Rattle.std.specs.Prelude.{All, Contains, slice_get}
use Rattle.std.proofs.lemmas.List.{take_all, take_more, take-append-drop, length-take-le, get_or_default, append_assoc, append-nil, length_push, get_or_append_left, get_or_push}
use Rattle.std.proofs.lemmas.List.Elements.{All-head, All-tail, All-weaker, All-push, All-get_or, Contains-append_left, Contains-append_right, Contains-append_cases}
use Rattle.std.proofs.lemmas.Option.{slice_get_within, get_or_from_slice_get}
use Rattle.dg_base.proofs.Lists.{get_nothing, get_there, get_append_left, get_push_cases}
use Rattle.dg_base.specs.declared.Lit.{Lit}
use Rattle.dg_base.specs.Values.{operator}
use Rattle.bv_term.specs.declared.term.Term.{Term}
use Rattle.bv_term.specs.declared.term.Term.TheVariants.{Input, Constant, Apply}
use Rattle.bv_term.specs.Values.{AreTerms, AreWords, IsBehind, value as term_value}
use Rattle.bv_term.proofs.ValueLaws.{value_by_term}
use Rattle.cnf_problem.specs.Literals.{IsOver, IsSatisfied, AreSatisfied}
use Rattle.cnf_problem.specs.Formulas.{Formula, Extension}
use Rattle.cnf_problem.proofs.Assignments.{value-append, over_more}
use Rattle.bit_gates.specs.Words.{number, IsWordOver}
use Rattle.bit_blast.specs.Blasting.{word_at, inputs_under, InputChoice, Blasts, IsTermWord}

-- a word over the older variables keeps its number
pub number-kept : (s t : List Bool) (w : List Lit) → All (IsOver (length s)) w → number (s ++ t) w ≡ number s w
number-kept s t [] over = refl
number-kept s t (l ∷ ls) over =
    let bit = value-append s t l (All-head (IsOver (length s)) l ls over) in
    let rest = number-kept s t ls (All-tail (IsOver (length s)) l ls over) in
    rw (bit, rest) refl

-- extensions in two steps
extension_steps : (f g h : Formula) (added more : List (List Lit)) (s m n : List Bool) → g.clauses ≡ f.clauses ++ added
    → Extension f g added s m → Extension g h more (s ++ m) n → Extension f h (added ++ more) s (m ++ n)
extension_steps f g h added more s m n clauses one two =
    let same : (s ++ m) ++ n ≡ s ++ (m ++ n) = append_assoc s m n in
    record {
      values = subst (λ z. length z ≡ h.vars) same two.values;
      satisfied = λ clause listed. elim (Contains-append_cases added more clause listed) [
        | inl old ↦ subst (λ z. IsSatisfied z clause) same
            (two.kept clause (subst (λ cs. Contains cs clause) (sym clauses) (Contains-append_right f.clauses added clause old)) (one.satisfied clause old))
        | inr new ↦ subst (λ z. IsSatisfied z clause) same (two.satisfied clause new)
      ];
      kept = λ clause listed sat. subst (λ z. IsSatisfied z clause) same
          (two.kept clause (subst (λ cs. Contains cs clause) (sym clauses) (Contains-append_left f.clauses added clause listed)) (one.kept clause listed sat));
    }

-- the number of a term by what it is
abbrev pub number_by : List Bool → List (List Lit) → ℕ → Term → ℕ
number_by s words n Input = number s (word_at words n)
number_by s words n (Constant v) = v
number_by s words n (Apply op a b c) = operator op (number s (word_at words a.0)) (number s (word_at words b.0)) (number s (word_at words c.0))

-- the first so many terms have their words
pub record Made (f g : Formula) (terms : List Term) (words : List (List Lit)) : Type 0 where
  pub count : length words ≡ length terms
  pub each : All (IsWordOver g.vars) words
  pub grows : f.vars ≤ g.vars
  pub added : List (List Lit)
  pub clauses : g.clauses ≡ f.clauses ++ added
  pub exact : (s : List Bool) → AreSatisfied s g.clauses → (n : ℕ) (t : Term) → slice_get terms n ≡ Some t → number s (word_at words n) ≡ number_by s words n t
  pub free : (s : List Bool) (inputs : ℕ → ℕ) → length s ≡ f.vars → AreWords inputs → InputChoice f g added terms words s inputs

-- what one more word adds: its clauses, what it spells, and an extension that gives it a value where it is an input
record OneMore (g h : Formula) (words : List (List Lit)) (t : Term) (w : List Lit) : Type 0 where
  over : IsWordOver h.vars w
  grows : g.vars ≤ h.vars
  added : List (List Lit)
  clauses : h.clauses ≡ g.clauses ++ added
  exact : (s : List Bool) → AreSatisfied s h.clauses → (all : List (List Lit)) → ((k : ℕ) → k < length words → word_at all k ≡ word_at words k) → word_at all (length words) ≡ w → IsBehind (length words) t
      → number s w ≡ number_by s all (length words) t
  free : (s : List Bool) (n : ℕ) → length s ≡ g.vars → n < 2 ^ 32 → (more : List Bool) × Extension g h added s more × (t ≡ Input → number (s ++ more) w ≡ n)

one_more : (g h : Formula) (words : List (List Lit)) (t : Term) (w : List Lit) → IsTermWord g h words t w → OneMore g h words t w
one_more g h words Input w fresh = record {
  over = fresh.over;
  grows = fresh.grows;
  added = [];
  clauses = fresh.clauses ∙ sym (append-nil g.clauses);
  exact = λ s sat all older here behind. ap (number s) (sym here);
  free = λ s n long fits. let r = fresh.choice s n long fits in (r.0, r.1, λ e. r.2);
}
one_more g h words (Constant v) w gate = record {
  over = gate.over;
  grows = gate.extends.grows;
  added = gate.extends.added;
  clauses = gate.extends.clauses;
  exact = λ s sat all older here behind. gate.exact s sat;
  free = λ s n long fits. let r = gate.extends.extension s long in (r.0, r.1, λ e. absurd (cc));
}
one_more g h words (Apply op a b c) w gate = record {
  over = gate.over;
  grows = gate.extends.grows;
  added = gate.extends.added;
  clauses = gate.extends.clauses;
  exact = λ s sat all older here behind.
      let x = ap (number s) (older a.0 behind.0) in
      let y = ap (number s) (older b.0 behind.1) in
      let z = ap (number s) (older c.0 behind.2) in
      gate.exact s sat ∙ ap (λ n. operator op n (number s (word_at words b.0)) (number s (word_at words c.0))) (sym x)
      ∙ ap (λ n. operator op (number s (word_at all a.0)) n (number s (word_at words c.0))) (sym y)
      ∙ ap (λ n. operator op (number s (word_at all a.0)) (number s (word_at all b.0)) n) (sym z);
  free = λ s n long fits. let r = gate.extends.extension s long in (r.0, r.1, λ e. absurd (cc));
}

-- the value of an older term is told by the older words
older_number : (s : List Bool) (words : List (List Lit)) (w : List Lit) (n : ℕ) (t : Term) → n < length words → IsBehind n t
    → number_by s words n t ≡ number_by s (words ++ w ∷ []) n t
older_number s words w n Input h behind = ap (number s) (sym (get_or_append_left words (w ∷ []) [] n h))
older_number s words w n (Constant v) h behind = refl
older_number s words w n (Apply op a b c) h behind =
    let x = get_or_append_left words (w ∷ []) [] a.0 (omega arith) in
    let y = get_or_append_left words (w ∷ []) [] b.0 (omega arith) in
    let z = get_or_append_left words (w ∷ []) [] c.0 (omega arith) in
    rw (x, y, z) refl

older_sat : (g h : Formula) (added : List (List Lit)) (s : List Bool) → h.clauses ≡ g.clauses ++ added → AreSatisfied s h.clauses → AreSatisfied s g.clauses
older_sat g h added s e sat clause listed = sat clause (subst (λ cs. Contains cs clause) (sym e) (Contains-append_left g.clauses added clause listed))

-- a term listed among the first so many is behind its place
behind_at : (terms : List Term) (t : Term) (n : ℕ) → ((k : ℕ) (x : Term) → slice_get terms k ≡ Some x → IsBehind k x) → slice_get terms n ≡ Some t → IsBehind n t
behind_at terms t n all e = all n t e

made_more : (f g h : Formula) (terms : List Term) (words : List (List Lit)) (t : Term) (w : List Lit)
    → ((k : ℕ) (x : Term) → slice_get terms k ≡ Some x → IsBehind k x) → IsBehind (length words) t → Made f g terms words → OneMore g h words t w → Made f h (terms ++ t ∷ []) (words ++ w ∷ [])
made_more f g h terms words t w all behind far one = record {
  count = length_push words w ∙ ap (λ n. n + 1) far.count ∙ sym (length_push terms t);
  each = All-push (IsWordOver h.vars) words w
      (All-weaker (IsWordOver g.vars) (IsWordOver h.vars) (λ x over. (over.0, All-weaker (IsOver g.vars) (IsOver h.vars) (λ l o. over_more g.vars h.vars l one.grows o) x over.1)) words far.each) one.over;
  grows = let a = far.grows in let b = one.grows in omega arith;
  added = far.added ++ one.added;
  clauses = one.clauses ∙ ap (λ c. c ++ one.added) far.clauses ∙ append_assoc f.clauses far.added one.added;
  exact = λ s sat n x e. elim (get_push_cases terms t n x e) [
    | inl old ↦
        let within = slice_get_within terms n x old in
        let count = far.count in
        let inside : n < length words = omega arith in
        ap (number s) (get_or_append_left words (w ∷ []) [] n inside)
        ∙ far.exact s (older_sat g h one.added s one.clauses sat) n x old
        ∙ older_number s words w n x inside (all n x old)
    | inr new ↦
        let at : n ≡ length words = new.0 ∙ sym far.count in
        let here : word_at (words ++ w ∷ []) (length words) ≡ w = get_or_push words w [] (length words) refl in
        let v = one.exact s sat (words ++ w ∷ []) (λ k h. get_or_append_left words (w ∷ []) [] k h) here behind in
        rw (at, new.1) (ap (number s) here ∙ v)
  ];
  free = λ s inputs long fit.
      let r = far.free s inputs long fit in
      let q = one.free (s ++ r.more) (inputs (length terms)) r.extends.values (fit (length terms)) in
      let same : (s ++ r.more) ++ q.0 ≡ s ++ (r.more ++ q.0) = append_assoc s r.more q.0 in
      record {
        more = r.more ++ q.0;
        extends = extension_steps f g h far.added one.added s r.more q.0 far.clauses r.extends q.1;
        spelled = λ n e. subst (λ z. number z (word_at (words ++ w ∷ []) n) ≡ inputs n) same (elim (get_push_cases terms t n Input e) [
          | inl old ↦
              let within = slice_get_within terms n Input old in
              let count = far.count in
              let inside : n < length words = omega arith in
              let over : IsWordOver g.vars (word_at words n) = All-get_or (IsWordOver g.vars) words n [] inside far.each in
              ap (number ((s ++ r.more) ++ q.0)) (get_or_append_left words (w ∷ []) [] n inside)
              ∙ number-kept (s ++ r.more) q.0 (word_at words n) (subst (λ v. All (IsOver v) (word_at words n)) (sym r.extends.values) over.1)
              ∙ r.spelled n old
          | inr new ↦
              let at : n ≡ length words = new.0 ∙ sym far.count in
              let here : word_at (words ++ w ∷ []) n ≡ w = get_or_push words w [] n (sym at) in
              ap (number ((s ++ r.more) ++ q.0)) here ∙ q.2 (sym new.1) ∙ ap inputs (sym new.0)
        ]);
      };
}

-- one more term
pub term_made : (f g h : Formula) (terms : List Term) (words : List (List Lit)) (t : Term) (w : List Lit)
    → ((k : ℕ) (x : Term) → slice_get terms k ≡ Some x → IsBehind k x) → IsBehind (length words) t → Made f g terms words → IsTermWord g h words t w → Made f h (terms ++ t ∷ []) (words ++ w ∷ [])
term_made f g h terms words t w all behind far word = made_more f g h terms words t w all behind far (one_more g h words t w word)

-- no term
pub none_made : (f : Formula) → Made f f [] []
none_made f = record {
  count = refl;
  each = λ k d h. absurd (omega arith);
  grows = omega arith;
  added = [];
  clauses = sym (append-nil f.clauses);
  exact = λ s sat n t e. absurd (get_nothing n t e);
  free = λ s inputs long fit. record {
    more = [];
    extends = record {
      values = ap length (append-nil s) ∙ long;
      satisfied = λ clause listed. absurd (nothing clause listed);
      kept = λ clause listed h. subst (λ z. IsSatisfied z clause) (sym (append-nil s)) h;
    };
    spelled = λ n e. absurd (get_nothing n Input e);
  };
}
  where
    nothing : (clause : List Lit) → Contains [] clause → ⊥
    nothing clause (k, h, e) = omega arith

-- the value of a term by those of its arguments
value_of_term : (s : List Bool) (terms : List Term) (words : List (List Lit)) → AreTerms terms → (n bound : ℕ)
    → ((m : ℕ) → m < bound → m < length terms → number s (word_at words m) ≡ term_value (inputs_under s words) terms (record { 0 = m }))
    → n ≤ bound → n < length terms → (t : Term) → slice_get terms n ≡ Some t → IsBehind n t → number_by s words n t ≡ term_value (inputs_under s words) terms (record { 0 = n })
value_of_term s terms words are n bound earlier low within Input e behind = sym (value_by_term terms (inputs_under s words) (record { 0 = n }) Input are e)
value_of_term s terms words are n bound earlier low within (Constant v) e behind = sym (value_by_term terms (inputs_under s words) (record { 0 = n }) (Constant v) are e)
value_of_term s terms words are n bound earlier low within (Apply op a b c) e behind =
    let x = earlier a.0 (omega arith) (omega arith) in
    let y = earlier b.0 (omega arith) (omega arith) in
    let z = earlier c.0 (omega arith) (omega arith) in
    rw (x, y, z) (sym (value_by_term terms (inputs_under s words) (record { 0 = n }) (Apply op a b c) are e))

-- the numbers that the words spell are the terms' values
values_below : (s : List Bool) (terms : List Term) (words : List (List Lit)) → AreTerms terms
    → ((n : ℕ) (t : Term) → slice_get terms n ≡ Some t → number s (word_at words n) ≡ number_by s words n t)
    → (bound n : ℕ) → n < bound → n < length terms → number s (word_at words n) ≡ term_value (inputs_under s words) terms (record { 0 = n })
values_below s terms words are exact zero n h within = absurd (omega arith)
values_below s terms words are exact (suc bound) n h within =
    let there = get_there terms n within in
    let behind : IsBehind n there.0 = subst (λ x. IsBehind n x) (get_or_from_slice_get terms n there.0 Input there.1) (are n within) in
    exact n there.0 there.1 ∙ value_of_term s terms words are n bound (values_below s terms words are exact bound) (omega arith) (omega arith) there.0 there.1 behind

-- all terms
pub blasted : (f g : Formula) (terms : List Term) (words : List (List Lit)) → AreTerms terms → Made f g terms words → Blasts f g terms words
blasted f g terms words are made = record {
  count = made.count;
  each = made.each;
  grows = made.grows;
  added = made.added;
  clauses = made.clauses;
  exact = λ s sat n within. values_below s terms words are (made.exact s sat) (suc n) n (omega arith) within;
  free = made.free;
}

-- the terms before a place are behind theirs
terms_behind : (terms : List Term) (i : ℕ) → AreTerms terms → (k : ℕ) (x : Term) → slice_get (take i terms) k ≡ Some x → IsBehind k x
terms_behind terms i are k x e =
    let listed : slice_get terms k ≡ Some x = subst (λ z. slice_get z k ≡ Some x) (take-append-drop i terms) (get_append_left (take i terms) (drop i terms) k x e) in
    let within = slice_get_within terms k x listed in
    subst (λ z. IsBehind k z) (get_or_from_slice_get terms k x Input listed) (are k within)

-- a term is behind its place
pub term_behind : (terms : List Term) (words : List (List Lit)) (i : ℕ) (d : Term) → i < length terms → AreTerms terms → length words ≡ length (take i terms) → IsBehind (length words) (get_or terms i d)
term_behind terms words i d within are count =
    let at : length words ≡ i = count ∙ length-take-le i terms (omega arith) in
    subst (λ n. IsBehind n (get_or terms i d)) (sym at) (subst (λ z. IsBehind i z) (get_or_default terms i Input d within) (are i within))

-- one more word
pub blast_more : (f g h : Formula) (terms : List Term) (words : List (List Lit)) (w : List Lit) (i : ℕ) (d : Term) → i < length terms → AreTerms terms → Made f g (take i terms) words
    → IsTermWord g h words (get_or terms i d) w → Made f h (take (i + 1) terms) (words ++ w ∷ [])
blast_more f g h terms words w i d within are made word =
    subst (λ z. Made f h z (words ++ w ∷ [])) (sym (take_more terms i d within))
    (term_made f g h (take i terms) words (get_or terms i d) w (terms_behind terms i are) (term_behind terms words i d within are made.count) made word)

-- all words
pub blast_made : (f g : Formula) (terms : List Term) (words : List (List Lit)) (i : ℕ) → length terms ≤ i → AreTerms terms → Made f g (take i terms) words → Blasts f g terms words
blast_made f g terms words i all are made = blasted f g terms words are (subst (λ z. Made f g z words) (take_all i terms all) made)
