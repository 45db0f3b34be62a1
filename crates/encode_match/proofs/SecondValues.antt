-- An assignment of the values' clauses for each choice of the inputs.
use Rattle.std.proofs.Common.{◌≡◌, ℕ, suc, ◌+◌, true, List, [], ◌∷◌, ◌++◌, length, refl, ap, sym, ◌∙◌, subst, arith}
use Rattle.std.specs.Prelude.{Some, slice_get, slice_index, Contains}
use Rattle.std.proofs.lemmas.List.{length_push}
use Rattle.std.proofs.lemmas.List.Elements.{Contains-append_cases}
use Rattle.std.proofs.Common.{⊎_elim}
use Rattle.dg_base.specs.declared.Lit.{Lit}
use Rattle.dg_base.proofs.Lists.{contains_head}
use Rattle.axiom_model.specs.declared.MemoryModel.{MemoryModel}
use Rattle.bv_term.specs.declared.term.TermId.{TermId}
use Rattle.bv_term.specs.declared.term.Term.{Term}
use Rattle.bv_term.specs.declared.term.Term.TheVariants.{Input, Constant, Apply}
use Rattle.bv_term.specs.Values.{AreWords, value_behind, values_from, value}
use Rattle.cnf_problem.specs.Literals.{IsSatisfied, AreSatisfied}
use Rattle.cnf_problem.specs.Literals as literals
use Rattle.cnf_problem.specs.Formulas.{true_lit}
use Rattle.bit_blast.specs.Blasting.{inputs_under}
use Rattle.flat_prog.specs.declared.Flat.{Flat}
use Rattle.memory_models.proofs.Ways.{contains_one}
use Rattle.encode_match.specs.declared.Encoded.{Encoded}
use Rattle.encode_match.specs.Parts.{IsMadeOf, no_gates}
use Rattle.encode_match.proofs.SecondParts.{InputsTaken}

-- ---- values rest on the inputs of Input terms

same_behind : (a b : ℕ → ℕ) (before : List ℕ) (t : Term) → (t ≡ Input → a (length before) ≡ b (length before)) → value_behind a before t ≡ value_behind b before t
same_behind a b before Input h = h refl
same_behind a b before (Constant v) h = refl
same_behind a b before (Apply op c d e) h = refl

same_from : (a b : ℕ → ℕ) (before : List ℕ) (ts : List Term) → ((n : ℕ) → slice_get ts n ≡ Some Input → a (length before + n) ≡ b (length before + n)) → values_from a before ts ≡ values_from b before ts
same_from a b before [] h = refl
same_from a b before (t ∷ ts) h =
    let at : length before + 0 ≡ length before = omega arith in
    let one = same_behind a b before t (λ e. subst (λ (n : ℕ). a n ≡ b n) at (h 0 (ap (λ (z : Term). Some z) e))) in
    let long = length_push before (value_behind a before t) in
    same_from a b (before ++ value_behind a before t ∷ []) ts
    (λ n e. let there : length before + suc n ≡ length (before ++ value_behind a before t ∷ []) + n = omega (arith, long) in subst (λ (m : ℕ). a m ≡ b m) there (h (suc n) e))
    ∙ ap (λ (v : ℕ). values_from b (before ++ v ∷ []) ts) one

pub same_values : (a b : ℕ → ℕ) (ts : List Term) → ((n : ℕ) → slice_get ts n ≡ Some Input → a n ≡ b n) → (t : TermId) → value a ts t ≡ value b ts t
unfolding value
same_values a b ts h t =
    ap (λ (vs : List ℕ). slice_index vs t.0) (same_from a b [] ts (λ n e. let there : n ≡ 0 + n = omega arith in subst (λ (m : ℕ). a m ≡ b m) there (h n e)))

-- ---- the assignment

constant_true : literals.value (true ∷ []) true_lit ≡ true
unfolding literals.value
constant_true = refl

gates_satisfied : (c : List Lit) → Contains no_gates.clauses c → IsSatisfied (true ∷ []) c
gates_satisfied c k = subst (IsSatisfied (true ∷ [])) (sym (contains_one (true_lit ∷ []) c k)) (true_lit, contains_head true_lit [], constant_true)

-- each choice of words for the inputs has one, under which each term has the value that it has under them
pub inputs_taken : (m : MemoryModel) (flat : Flat) (x : Encoded) (made : IsMadeOf m flat x) (inputs : ℕ → ℕ) → AreWords inputs → InputsTaken m flat x made inputs
inputs_taken m flat x made inputs words =
    let o = made.blasts.free (true ∷ []) inputs refl words in
    let s = (true ∷ []) ++ o.more in
    record {
      assignment = s;
      values = o.extends.values;
      clauses = subst (AreSatisfied s) (sym made.blasts.clauses) (λ c k. ⊎_elim
          (λ old. o.extends.kept c old (gates_satisfied c old))
          (λ new. o.extends.satisfied c new)
          (Contains-append_cases no_gates.clauses made.blasts.added c k));
      same = λ t h. same_values (inputs_under s made.words) inputs made.form.terms o.spelled t;
    }
