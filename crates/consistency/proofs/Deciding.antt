-- What the answers of the searches for cycles say of the execution.
use Rattle.std.proofs.Common.{◌≡◌, ℕ, List, length, get_or, Option, Some, None, refl, sym, subst}
use Rattle.std.specs.Prelude.{All, MatchOption}
use Rattle.std.proofs.lemmas.Option.{slice_get-get_or}
use Rattle.axiom_model.specs.declared.MemoryModel.{MemoryModel}
use Rattle.axiom_model.specs.declared.Event.{Event}
use Rattle.axiom_model.specs.declared.RfPair.{RfPair}
use Rattle.axiom_model.specs.Cycles.{NoCycle}
use Rattle.axiom_model.specs.Execution.{Execution}
use Rattle.axiom_model.specs.Models.{GlobalEdge, Leaves}
use Rattle.axiom_model.specs.Sorting.{EndsBelow}
use Rattle.axiom_model.specs.WellMade.{Shape, WellMade}
use Rattle.consistency.specs.declared.ThreadActions.{ThreadActions}
use Rattle.consistency.specs.declared.Inconsistent.{Inconsistent}
use Rattle.consistency.specs.declared.Inconsistent.TheVariants.{LocalCycle, GlobalCycle, BlockCycle, OutOfMemory}
use Rattle.consistency.specs.declared.numbering.Node.{Node}
use Rattle.consistency.specs.declared.relations.Condition.{Condition}
use Rattle.consistency.specs.declared.relations.Condition.TheVariants.{Global}
use Rattle.consistency.specs.Seen.{execution_seen}
use Rattle.consistency.specs.Evidence.{IsEventCycle, IsBlockCycle, IsEvidence, FirstBroken}
use Rattle.consistency.specs.Numbering.{nodes_of, IsNumbering}
use Rattle.consistency.specs.Relations.{Edge}
use Rattle.consistency.specs.Edges.{edges_of}
use Rattle.consistency.specs.Blocks.{BlocksBelow}
use Rattle.consistency.specs.Graphs.{Lists}
use Rattle.consistency.proofs.Numbered.{numbered-is}
use Rattle.consistency.proofs.Joining.{edges_of-lists}

-- evidence shows which condition is the first that is broken
pub evidence_breaks : (m : MemoryModel) (x : Execution) (e : Inconsistent) → IsEvidence m x e → FirstBroken m x e
evidence_breaks m x (LocalCycle l) e = λ n. n l e.cycle
evidence_breaks m x (GlobalCycle l) e = (e.0, λ n. n l e.1.cycle)
evidence_breaks m x (BlockCycle l) e = (e.0, e.1, λ n. n e.2.pairs e.2.cycle)
evidence_breaks m x OutOfMemory e = tt

-- the ends of edges that stand for a relation are numbers of nodes
pub ends_below : (nodes : List Node) (R : Event → Event → Type 0) (edges : List (ℕ × ℕ)) → Lists nodes R edges → All (EndsBelow (length nodes)) edges
ends_below nodes R edges lists k d l =
    let e = get_or edges k d in
    lists.below e.0 e.1 (k, slice_get-get_or edges k d l)

-- the first of two facts, where there is no value
match_none : {X : Type 0} (o : Option X) (P : Type 0) (Q : X → Type 0) → MatchOption o P Q → ((x : X) → o ≡ Some x → ⊥) → P
match_none None P Q m n = m
match_none (Some x) P Q m n = absurd (n x refl)

module _ (threads : List ThreadActions) (rf : List RfPair) (co : List (List Event)) (made : (s : Shape) × WellMade s (execution_seen threads rf co)) (nodes : List Node) (is : nodes ≡ nodes_of 0 threads) where
  pub numbering : IsNumbering (execution_seen threads rf co) nodes
  numbering = subst (IsNumbering (execution_seen threads rf co)) (sym is) (numbered-is threads rf co made.1.rising)

  pub lists_of : (c : Condition) (edges : List (ℕ × ℕ)) → edges ≡ edges_of c nodes rf co → Lists nodes (Edge c (execution_seen threads rf co)) edges
  lists_of c edges e = subst (Lists nodes (Edge c (execution_seen threads rf co))) (sym e) (edges_of-lists made.0 (execution_seen threads rf co) made.1 nodes numbering c)

  pub blocks_numbered : BlocksBelow nodes
  blocks_numbered = numbering.block_below

  -- what is said of the events' cycle that was found, if one was
  abbrev pub CycleSaid : List (ℕ × ℕ) → Option (List Event) → Type 0
  CycleSaid edges o = (c : Condition) (x : Execution) → IsNumbering x nodes → Lists nodes (Edge c x) edges → MatchOption o (NoCycle (Edge c x)) (IsEventCycle x (Edge c x))

  pub none_found : (c : Condition) (edges : List (ℕ × ℕ)) (o : Option (List Event)) → edges ≡ edges_of c nodes rf co → CycleSaid edges o → ((l : List Event) → o ≡ Some l → ⊥) → NoCycle (Edge c (execution_seen threads rf co))
  none_found c edges o e said none =
      match_none o (NoCycle (Edge c (execution_seen threads rf co))) (IsEventCycle (execution_seen threads rf co) (Edge c (execution_seen threads rf co))) (said c (execution_seen threads rf co) numbering (lists_of c edges e)) none

  pub one_found : (c : Condition) (edges : List (ℕ × ℕ)) (o : Option (List Event)) (l : List Event) → edges ≡ edges_of c nodes rf co → CycleSaid edges o → o ≡ Some l → IsEventCycle (execution_seen threads rf co) (Edge c (execution_seen threads rf co)) l
  one_found c edges o l e said some =
      subst (λ p. MatchOption p (NoCycle (Edge c (execution_seen threads rf co))) (IsEventCycle (execution_seen threads rf co) (Edge c (execution_seen threads rf co)))) some (said c (execution_seen threads rf co) numbering (lists_of c edges e))

  -- and of the blocks' cycle
  abbrev pub BlocksSaid : List (ℕ × ℕ) → Option (List Event) → Type 0
  BlocksSaid edges o = (m : MemoryModel) (x : Execution) → IsNumbering x nodes → Lists nodes (GlobalEdge m x) edges → MatchOption o (NoCycle (Leaves m x)) (IsBlockCycle m x)

  pub no_blocks_found : (m : MemoryModel) (edges : List (ℕ × ℕ)) (o : Option (List Event)) → edges ≡ edges_of (Global m) nodes rf co → BlocksSaid edges o → ((l : List Event) → o ≡ Some l → ⊥) → NoCycle (Leaves m (execution_seen threads rf co))
  no_blocks_found m edges o e said none =
      match_none o (NoCycle (Leaves m (execution_seen threads rf co))) (IsBlockCycle m (execution_seen threads rf co)) (said m (execution_seen threads rf co) numbering (lists_of (Global m) edges e)) none

  pub blocks_found : (m : MemoryModel) (edges : List (ℕ × ℕ)) (o : Option (List Event)) (l : List Event) → edges ≡ edges_of (Global m) nodes rf co → BlocksSaid edges o → o ≡ Some l → IsBlockCycle m (execution_seen threads rf co) l
  blocks_found m edges o l e said some =
      subst (λ p. MatchOption p (NoCycle (Leaves m (execution_seen threads rf co))) (IsBlockCycle m (execution_seen threads rf co))) some (said m (execution_seen threads rf co) numbering (lists_of (Global m) edges e))
