-- A consistent assignment spells one candidate at most.
use Rattle.std.proofs.Common.{◌≡◌, ℕ, ◌+◌, Bool, List, [], ◌∷◌, length, refl, ap, sym, ◌∙◌, subst, arith}
use Rattle.std.specs.List.{AllZip}
use Rattle.axiom_model.specs.declared.Event.{Event}
use Rattle.axiom_model.specs.declared.MemoryModel.{MemoryModel}
use Rattle.axiom_model.specs.declared.RfPair.{RfPair}
use Rattle.axiom_model.specs.declared.ThreadPart.{ThreadPart}
use Rattle.axiom_model.specs.declared.Candidate.{Candidate}
use Rattle.cnf_problem.specs.Problems.{IsConsistent}
use Rattle.flat_prog.specs.declared.Flat.{Flat}
use Rattle.encode_order.proofs.Cells.{one_order}
use Rattle.encode_order.proofs.Reading.{one_source}
use Rattle.encode_match.specs.declared.Encoded.{Encoded}
use Rattle.encode_match.specs.Spelling.{IsEvent, IsCoOf, IsPairOf, AreCosFrom, Spells}
use Rattle.encode_match.specs.Parts.{IsMadeOf, words_of}
use Rattle.encode_match.specs.Matching.{GraphHolds}
use Rattle.encode_match.specs.Directions.{GraphsHold, SpelledOnce}
use Rattle.encode_match.proofs.Moves.{same_event}
use Rattle.encode_match.proofs.FirstCandidate.{order_events, one_initial}

-- ---- lists

-- lists that a relation makes from one list, where it makes one thing of each, are one
pub zip_once : {A B : Type 0} (R : A → B → Type 0) → ((a : A) (b c : B) → R a b → R a c → b ≡ c) → (xs : List A) (ys zs : List B) → AllZip R xs ys → AllZip R xs zs → ys ≡ zs
zip_once R f [] [] [] p q = refl
zip_once R f [] [] (z ∷ zs) p q = absurd q
zip_once R f [] (y ∷ ys) zs p q = absurd p
zip_once R f (x ∷ xs) [] zs p q = absurd p
zip_once R f (x ∷ xs) (y ∷ ys) [] p q = absurd q
zip_once R f (x ∷ xs) (y ∷ ys) (z ∷ zs) p q = ap (λ l. y ∷ l) (zip_once R f xs ys zs p.1 q.1) ∙ ap (λ v. v ∷ zs) (f x y z p.0 q.0)

same_candidate : (c d : Candidate) → c.threads ≡ d.threads → c.rf ≡ d.rf → c.co ≡ d.co → c ≡ d
same_candidate c d p q r =
    let f : List ThreadPart → Candidate = λ z. record { threads = z; rf = c.rf; co = c.co } in
    let g : List RfPair → Candidate = λ z. record { threads = d.threads; rf = z; co = c.co } in
    let h : List (List Event) → Candidate = λ z. record { threads = d.threads; rf = d.rf; co = z } in
    ap f p ∙ (ap g q ∙ ap h r)

pub same_pair : (p q : RfPair) → p.reader ≡ q.reader → p.source ≡ q.source → p ≡ q
same_pair p q e h =
    let f : Event → RfPair = λ z. record { reader = z; source = p.source } in
    let g : Event → RfPair = λ z. record { reader = q.reader; source = z } in
    ap f e ∙ ap g h

-- ---- candidates

module _ (m : MemoryModel) (flat : Flat) (x : Encoded) (s : List Bool) (made : IsMadeOf m flat x) (g : GraphHolds m x s) (con : IsConsistent x.problem s) where
  source_once : (r : ℕ) (p q : RfPair) (a : IsPairOf x s r p) (b : IsPairOf x s r q) → a.write ≡ b.write
  source_once r p q a b =
      one_source m x.map.graph.events (words_of x.map.graph.bits) x.problem s (order_events m flat x s made g con) con (one_initial m flat x s made g con) a.write b.write r a.source.is_true b.source.is_true

  pair_once : (r : ℕ) (p q : RfPair) → IsPairOf x s r p → IsPairOf x s r q → p ≡ q
  pair_once r p q a b =
      same_pair p q (same_event x s r p.reader q.reader a.is_reader b.is_reader)
      (same_event x s b.write p.source q.source (subst (λ (n : ℕ). IsEvent x s n p.source) (source_once r p q a b) a.is_source) b.is_source)

  co_once : (c : ℕ) (l k : List Event) → IsCoOf x s c l → IsCoOf x s c k → l ≡ k
  co_once c l k a b =
      zip_once (IsEvent x s) (λ n u v p q. same_event x s n u v p q) b.nodes l k (subst (λ (z : List ℕ). AllZip (IsEvent x s) z l) (one_order x.map.graph.events x.problem.atoms s c a.nodes b.nodes a.order b.order) a.events) b.events

  cos_once : (c : ℕ) (l k : List (List Event)) → length l ≡ length k → AreCosFrom x s c l → AreCosFrom x s c k → l ≡ k
  cos_once c [] [] e p q = refl
  cos_once c [] (b ∷ k) e p q = absurd (omega (arith, e))
  cos_once c (a ∷ l) [] e p q = absurd (omega (arith, e))
  cos_once c (a ∷ l) (b ∷ k) e p q =
      ap (λ (z : List Event). z ∷ l) (co_once c a b p.0 q.0) ∙ ap (λ (z : List (List Event)). b ∷ z) (cos_once (c + 1) l k (omega (arith, e)) p.1 q.1)

  spells_once : (c d : Candidate) → Spells x s c → Spells x s d → c ≡ d
  spells_once c d p q =
      same_candidate c d (p.threads ∙ sym q.threads) (zip_once (IsPairOf x s) pair_once _ c.rf d.rf p.rf q.rf) (cos_once 0 c.co d.co (p.cells ∙ sym q.cells) p.co q.co)

pub spelled_once : GraphsHold → SpelledOnce
spelled_once graphs p m flat x s c d chain k a b = spells_once m flat x s chain.made (graphs p m flat x s chain k.clauses).graph k c d a b
