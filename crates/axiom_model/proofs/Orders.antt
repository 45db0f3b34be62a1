-- An order in which every edge goes forward excludes cycles.
use Rattle.std.proofs.Common.{◌≡◌, ℕ, ◌<◌, List, [], ◌∷◌, map, sym, ◌∙◌, arith}
use Rattle.axiom_model.specs.Cycles.{Chain, Cycle, NoCycle}
pub use Rattle.axiom_model.specs.Orders.{Forward}

chain_rises : {E : Type 0} {R : E → E → Type 0} (rank : E → ℕ) → Forward rank R → (a : E) (l : List E) (b : E) → Chain R a l b → rank a < rank b
chain_rises rank f a [] b e = f a b e
chain_rises rank f a (x ∷ xs) b e =
    let here : rank a < rank x = f a x e.0 in
    let rest : rank x < rank b = chain_rises rank f x xs b e.1 in
    omega arith

-- a rank that rises along every edge excludes cycles
pub forward-no_cycle : {E : Type 0} {R : E → E → Type 0} (rank : E → ℕ) → Forward rank R → NoCycle R
forward-no_cycle rank f [] c = c
forward-no_cycle rank f (x ∷ xs) c = let h : rank x < rank x = chain_rises rank f x xs x c in absurd (omega arith)

-- an edge that leaves a block, followed by one that begins in the block where it ends
abbrev pub Leaving : {E : Type 0} → (E → E → Type 0) → (E → E → Type 0) → E × E → E × E → Type 0
Leaving R Same p q = R p.0 p.1 × (¬ Same p.0 p.1) × Same p.1 q.0

-- the same between blocks: the rank is one for a block, and rises along every edge that leaves one
pub forward-no_block_cycle : {E : Type 0} (R Same : E → E → Type 0) (rank : E → ℕ) → ((a b : E) → Same a b → rank a ≡ rank b) → ((a b : E) → R a b → ¬ Same a b → rank a < rank b) → NoCycle (Leaving R Same)
forward-no_block_cycle {E} R Same rank one rises =
    forward-no_cycle (λ p. rank p.0) f
  where
    f : (p q : E × E) → Leaving R Same p q → rank p.0 < rank q.0
    f p q e =
        let out : rank p.0 < rank p.1 = rises p.0 p.1 e.0 e.1 in
        let same : rank p.1 ≡ rank q.0 = one p.1 q.0 e.2 in
        omega arith

-- a map that keeps edges keeps cycles
chain_map : {D E : Type 0} (R : D → D → Type 0) (S : E → E → Type 0) (f : D → E) → ((a b : D) → R a b → S (f a) (f b)) → (a : D) (l : List D) (b : D) → Chain R a l b → Chain S (f a) (map f l) (f b)
chain_map R S f k a [] b c = k a b c
chain_map R S f k a (x ∷ xs) b c = (k a x c.0, chain_map R S f k x xs b c.1)

pub cycle_map : {D E : Type 0} (R : D → D → Type 0) (S : E → E → Type 0) (f : D → E) → ((a b : D) → R a b → S (f a) (f b)) → (l : List D) → Cycle R l → Cycle S (map f l)
cycle_map R S f k [] c = c
cycle_map R S f k (x ∷ xs) c = chain_map R S f k x xs x c

-- a cycle of blocks, each edge of which comes from an edge between events, gives a cycle of pairs
module _ {E B : Type 0} (R Same : E → E → Type 0) (block : E → B) (one : (a b : E) → block a ≡ block b → Same a b) where
  abbrev pub BlockEdge : B → B → Type 0
  BlockEdge x y = (a : E) × (b : E) × R a b × (¬ Same a b) × (block a ≡ x) × (block b ≡ y)

  abbrev first_pair : (x : B) (l : List B) (y : B) → Chain BlockEdge x l y → E × E
  first_pair x [] y e = (e.0, e.1)
  first_pair x (z ∷ zs) y e = (e.0.0, e.0.1)

  begins : (x : B) (l : List B) (y : B) → (c : Chain BlockEdge x l y) → block (first_pair x l y c).0 ≡ x
  begins x [] y e = e.4
  begins x (z ∷ zs) y e = e.0.4

  pairs_of : (x : B) (l : List B) (y : B) → (c : Chain BlockEdge x l y) → (q : E × E) → block q.0 ≡ y → (ps : List (E × E)) × Chain (Leaving R Same) (first_pair x l y c) ps q
  pairs_of x [] y e q h = ([], (e.2, e.3, one e.1 q.0 (e.5 ∙ sym h)))
  pairs_of x (z ∷ zs) y e q h =
      let rest = pairs_of z zs y e.1 q h in
      (first_pair z zs y e.1 ∷ rest.0, ((e.0.2, e.0.3, one e.0.1 (first_pair z zs y e.1).0 (e.0.5 ∙ sym (begins z zs y e.1))), rest.1))

  pub block_cycle-pairs : (l : List B) → Cycle BlockEdge l → (ps : List (E × E)) × Cycle (Leaving R Same) ps
  block_cycle-pairs [] c = absurd c
  block_cycle-pairs (x ∷ xs) c =
      let r = pairs_of x xs x c (first_pair x xs x c) (begins x xs x c) in
      (first_pair x xs x c ∷ r.0, r.1)
