-- Chains of listed edges.
use Rattle.std.proofs.Common.{ℕ, List, [], ◌∷◌, ◌++◌}
use Rattle.axiom_model.specs.Cycles.{Chain}
use Rattle.axiom_model.specs.Sorting.{HasEdge}
use Rattle.consistency.specs.Graphs.{Reaches}
use Rattle.consistency.proofs.Members.{has_left, has_right}

pub reach_edge : (edges : List (ℕ × ℕ)) (a b : ℕ) → HasEdge edges a b → Reaches edges a b
reach_edge edges a b h = ([], h)

chain_join : (edges : List (ℕ × ℕ)) (a : ℕ) (l : List ℕ) (b : ℕ) (m : List ℕ) (c : ℕ) → Chain (HasEdge edges) a l b → Chain (HasEdge edges) b m c → Chain (HasEdge edges) a (l ++ b ∷ m) c
chain_join edges a [] b m c p q = (p, q)
chain_join edges a (x ∷ xs) b m c p q = (p.0, chain_join edges x xs b m c p.1 q)

pub reach_join : (edges : List (ℕ × ℕ)) (a b c : ℕ) → Reaches edges a b → Reaches edges b c → Reaches edges a c
reach_join edges a b c p q = (p.0 ++ b ∷ q.0, chain_join edges a p.0 b q.0 c p.1 q.1)

chain_more : (l m : List (ℕ × ℕ)) → ((a b : ℕ) → HasEdge l a b → HasEdge m a b) → (a : ℕ) (xs : List ℕ) (b : ℕ) → Chain (HasEdge l) a xs b → Chain (HasEdge m) a xs b
chain_more l m f a [] b c = f a b c
chain_more l m f a (x ∷ xs) b c = (f a x c.0, chain_more l m f x xs b c.1)

pub reach_left : (l m : List (ℕ × ℕ)) (a b : ℕ) → Reaches l a b → Reaches (l ++ m) a b
reach_left l m a b r = (r.0, chain_more l (l ++ m) (λ c d h. has_left l m (c, d) h) a r.0 b r.1)

pub reach_right : (l m : List (ℕ × ℕ)) (a b : ℕ) → Reaches m a b → Reaches (l ++ m) a b
reach_right l m a b r = (r.0, chain_more m (l ++ m) (λ c d h. has_right l m (c, d) h) a r.0 b r.1)
