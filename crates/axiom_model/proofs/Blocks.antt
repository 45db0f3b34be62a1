-- Being in one block is an equivalence.
use Rattle.std.proofs.Common.{◌≡◌, ℕ, ◌≤◌, List, sym, ◌∙◌, subst, ⊎_elim, inl, inr, arith}
use Rattle.std.specs.Prelude.{◌⊎◌}
use Rattle.std.proofs.lemmas.Bool.{cases_lt}
use Rattle.axiom_model.specs.declared.Action.{Action}
use Rattle.axiom_model.specs.declared.Event.{Event}
use Rattle.axiom_model.specs.declared.Event.TheVariants.{Initial, At}
use Rattle.axiom_model.specs.Execution.{Execution, actions_of, InSection, OneSection, SameBlock}

-- a place of a later section that shares a place with an earlier one lies in the earlier one too
further : (acts : List Action) (o u j k : ℕ) → o ≤ u → InSection acts o j → InSection acts u j → InSection acts u k → InSection acts o k
further acts o u j k l a b c = record {
  opens = a.opens;
  from = omega (arith, c.from);
  there = c.there;
  unclosed = λ m p q e. ⊎_elim (λ h. a.unclosed m p h e) (λ h. c.unclosed m (omega (arith, b.from)) q e) (cases_lt m j);
}

-- sections that share a place are one
one_section_trans : (acts : List Action) (i j k : ℕ) → OneSection acts i j → OneSection acts j k → OneSection acts i k
one_section_trans acts i j k p q =
    ⊎_elim (λ h. (p.0, p.1, further acts p.0 q.0 j k (omega arith) p.2 q.1 q.2)) (λ h. (q.0, further acts q.0 p.0 j i h q.1 p.2 p.1, q.2)) (cases_lt p.0 q.0)

one_section_sym : (acts : List Action) (i j : ℕ) → OneSection acts i j → OneSection acts j i
one_section_sym acts i j p = (p.0, p.2, p.1)

-- the relation of being in one block is symmetric
pub same_block_sym : (x : Execution) (a b : Event) → SameBlock x a b → SameBlock x b a
same_block_sym x Initial Initial s = tt
same_block_sym x Initial (At k j) s = absurd s
same_block_sym x (At h i) Initial s = absurd s
same_block_sym x (At h i) (At k j) s =
    (sym s.0, ⊎_elim (λ e. inl (sym e)) (λ p. inr (subst (λ n. OneSection (actions_of x.threads n) j i) (sym s.0) (one_section_sym (actions_of x.threads k) i j p))) s.1)

trans_in : (acts : List Action) (i j k : ℕ) → (i ≡ j) ⊎ OneSection acts i j → (j ≡ k) ⊎ OneSection acts j k → (i ≡ k) ⊎ OneSection acts i k
trans_in acts i j k p q =
    ⊎_elim (λ e. subst (λ n. (n ≡ k) ⊎ OneSection acts n k) (sym e) q) (λ r. ⊎_elim (λ e. inr (subst (λ n. OneSection acts i n) e r)) (λ t. inr (one_section_trans acts i j k r t)) q) p

-- and transitive
pub same_block_trans : (x : Execution) (a b c : Event) → SameBlock x a b → SameBlock x b c → SameBlock x a c
same_block_trans x Initial Initial c s t = t
same_block_trans x Initial (At k j) c s t = absurd s
same_block_trans x (At h i) Initial c s t = absurd s
same_block_trans x (At h i) (At k j) Initial s t = absurd t
same_block_trans x (At h i) (At k j) (At m l) s t =
    (s.0 ∙ t.0, trans_in (actions_of x.threads m) i j l (subst (λ n. (i ≡ j) ⊎ OneSection (actions_of x.threads n) i j) t.0 s.1) t.1)
