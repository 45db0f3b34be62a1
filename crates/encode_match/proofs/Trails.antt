-- How far a walk along edges between events has come, told by blocks: what it needs of an execution alone.
use Rattle.std.proofs.Common.{◌≡◌, List, [], ◌∷◌, ◌++◌, ◌⊎◌, inl, inr, sym, subst}
use Rattle.axiom_model.specs.declared.MemoryModel.{MemoryModel}
use Rattle.axiom_model.specs.declared.Event.{Event}
use Rattle.axiom_model.specs.Cycles.{Chain}
use Rattle.axiom_model.specs.Execution.{Execution, SameBlock}
use Rattle.axiom_model.specs.Models.{GlobalEdge, Leaves, Consistent}
use Rattle.axiom_model.proofs.Blocks.{same_block_sym, same_block_trans}

-- one more edge behind a chain
pub chain_push : {E : Type 0} (R : E → E → Type 0) (a : E) (l : List E) (b c : E) → Chain R a l b → R b c → Chain R a (l ++ b ∷ []) c
chain_push R a [] b c p e = (p, e)
chain_push R a (x ∷ xs) b c p e = (p.0, chain_push R x xs b c p.1 e)

-- an edge from one block to another
pub record Crosses (m : MemoryModel) (x : Execution) (e : Event × Event) : Type 0 where
  pub is_edge : GlobalEdge m x e.0 e.1
  pub leaves : ¬ SameBlock x e.0 e.1

-- a walk of one edge or more from p, which has come to z or to its block: by edges inside the block of p, by one edge that crosses to
-- another block, or by several, each of which crosses to the block where the next begins
pub data Trail (m : MemoryModel) (x : Execution) (p z : Event) : Type 0 where
  inside : (l : List Event) → Chain (GlobalEdge m x) p l z → SameBlock x p z → Trail m x p z
  across : (e : Event × Event) → SameBlock x p e.0 → Crosses m x e → SameBlock x e.1 z → Trail m x p z
  beyond : (e f : Event × Event) (l : List (Event × Event)) → SameBlock x p e.0 → Chain (Leaves m x) e l f → Crosses m x f → SameBlock x f.1 z → Trail m x p z

-- a walk of no edge is nowhere else
abbrev pub Stretch : MemoryModel → Execution → Event → Event → Type 0
Stretch m x p z = (p ≡ z) ⊎ Trail m x p z

-- one more edge inside a block
within_trail : (m : MemoryModel) (x : Execution) (p z w : Event) → Trail m x p z → GlobalEdge m x z w → SameBlock x z w → Trail m x p w
within_trail m x p z w (inside l c s) e t = inside (l ++ z ∷ []) (chain_push (GlobalEdge m x) p l z w c e) (same_block_trans x p z w s t)
within_trail m x p z w (across a s c b) e t = across a s c (same_block_trans x a.1 z w b t)
within_trail m x p z w (beyond a f l s c k b) e t = beyond a f l s c k (same_block_trans x f.1 z w b t)

pub within : (m : MemoryModel) (x : Execution) (p z w : Event) → Stretch m x p z → GlobalEdge m x z w → SameBlock x z w → Trail m x p w
within m x p z w (inl same) e t = subst (λ q. Trail m x q w) (sym same) (inside [] e t)
within m x p z w (inr r) e t = within_trail m x p z w r e t

-- one more edge that crosses, from an event of the block to one of another
crosses : (m : MemoryModel) (x : Execution) (p a b w : Event) → SameBlock x p a → GlobalEdge m x a b → ¬ SameBlock x a b → SameBlock x b w → Trail m x p w
crosses m x p a b w s e n t = across (a, b) s (record { is_edge = e; leaves = n }) t

out_trail : (m : MemoryModel) (x : Execution) (p z a b w : Event) → Trail m x p z → SameBlock x z a → GlobalEdge m x a b → ¬ SameBlock x a b → SameBlock x b w → Trail m x p w
out_trail m x p z a b w (inside l c s) t e n u = crosses m x p a b w (same_block_trans x p z a s t) e n u
out_trail m x p z a b w (across f s c v) t e n u =
    beyond f (a, b) [] s (c.is_edge, c.leaves, same_block_trans x f.1 z a v t) (record { is_edge = e; leaves = n }) u
out_trail m x p z a b w (beyond g f l s c k v) t e n u =
    beyond g (a, b) (l ++ f ∷ []) s (chain_push (Leaves m x) g l f (a, b) c (k.is_edge, k.leaves, same_block_trans x f.1 z a v t)) (record { is_edge = e; leaves = n }) u

pub out : (m : MemoryModel) (x : Execution) (p z a b w : Event) → Stretch m x p z → SameBlock x z a → GlobalEdge m x a b → ¬ SameBlock x a b → SameBlock x b w → Trail m x p w
out m x p z a b w (inl same) t e n u = crosses m x p a b w (subst (λ q. SameBlock x q a) (sym same) t) e n u
out m x p z a b w (inr r) t e n u = out_trail m x p z a b w r t e n u

-- a consistent execution has no walk back to where it began
pub closed : (m : MemoryModel) (x : Execution) (p : Event) → Consistent m x → Trail m x p p → ⊥
closed m x p c (inside l k s) = c.global (p ∷ l) k
closed m x p c (across e s k t) = k.leaves (same_block_sym x e.1 e.0 (same_block_trans x e.1 p e.0 t s))
closed m x p c (beyond e f l s k g t) =
    c.blocks (e ∷ (l ++ f ∷ [])) (chain_push (Leaves m x) e l f e k (g.is_edge, g.leaves, same_block_trans x f.1 p e.0 t s))
