-- The nodes of events.
use Rattle.std.proofs.Common.{◌≡◌, ℕ, suc, ◌+◌, ◌<◌, cond, nat_eq, List, [], ◌∷◌, ◌++◌, length, refl, ap, ◌∙◌, arith}
use Rattle.cnf_problem.specs.declared.problem.Node.{Node}
use Rattle.memory_models.specs.declared.StaticEvent.{StaticEvent}
use Rattle.order_vars.specs.Atoms.{last_in, node_of, nodes_in, nodes_of}

nodes_length : (all es : List StaticEvent) → length (nodes_in all es) ≡ length es
nodes_length all [] = refl
nodes_length all (e ∷ es) = ap suc (nodes_length all es)

-- each event has a node
pub has_node : (es : List StaticEvent) (nodes : List Node) (k : ℕ) → nodes ≡ nodes_of es → k < length es → k < length nodes
has_node es nodes k e h = let same : length nodes ≡ length es = ap length e ∙ nodes_length es es in omega arith

-- one more event
pub last_push : (b found n : ℕ) (es : List StaticEvent) (e : StaticEvent) → last_in b found n (es ++ e ∷ []) ≡ cond (nat_eq e.block b) (n + length es) (last_in b found n es)
last_push b found n [] e = let same : n ≡ n + 0 = omega arith in ap (λ (k : ℕ). cond (nat_eq e.block b) k found) same
last_push b found n (x ∷ es) e =
    let same : (n + 1) + length es ≡ n + length (x ∷ es) = omega arith in
    last_push b (cond (nat_eq x.block b) n found) (n + 1) es e
    ∙ ap (λ (k : ℕ). cond (nat_eq e.block b) k (last_in b (cond (nat_eq x.block b) n found) (n + 1) es)) same

pub nodes_push : (all es : List StaticEvent) (e : StaticEvent) → nodes_in all (es ++ e ∷ []) ≡ nodes_in all es ++ node_of all e ∷ []
nodes_push all [] e = refl
nodes_push all (x ∷ es) e = ap (λ ns. node_of all x ∷ ns) (nodes_push all es e)
