-- A weaker model allows more.
use Rattle.std.proofs.Common.{◌≡◌, true, map, refl}
use Rattle.axiom_model.specs.declared.MemoryModel.{MemoryModel}
use Rattle.axiom_model.specs.declared.MemoryModel.TheVariants.{Sc, Tso, Pso}
use Rattle.axiom_model.specs.declared.Action.{Action}
use Rattle.axiom_model.specs.declared.Action.TheVariants.{Read, Write}
use Rattle.axiom_model.specs.declared.Event.{Event}
use Rattle.axiom_model.specs.Execution.{Execution}
use Rattle.axiom_model.specs.Models.{keeps, Kept, in_thread, in_section, creates, joins, initial, GlobalRf, GlobalEdge, Leaves, Consistent}
use Rattle.axiom_model.specs.Models as models
use Rattle.axiom_model.proofs.Orders.{cycle_map}

-- where m keeps no pair that n does not keep, and no source of m is hidden under n, m allows what n allows
module _ (m n : MemoryModel) (x : Execution) (order : (p q : Action) → keeps m p q ≡ true → keeps n p q ≡ true) (sources : (s r : Event) → GlobalRf m x s r → GlobalRf n x s r) where
  kept_into : (a b : Event) → Kept m x a b → Kept n x a b
  kept_into a b (in_thread o) =
      in_thread (record { before = o.before; first = o.first; second = o.second; is_first = o.is_first; is_second = o.is_second; holds = order o.first o.second o.holds })
  kept_into a b (in_section o s) = in_section o s
  kept_into a b (creates p q o) = creates p q o
  kept_into a b (joins p o q) = joins p o q
  kept_into a b (initial e) = initial e

  edge_into : (a b : Event) → GlobalEdge m x a b → GlobalEdge n x a b
  edge_into a b (models.GlobalEdge.kept k) = models.GlobalEdge.kept (kept_into a b k)
  edge_into a b (models.GlobalEdge.rf g) = models.GlobalEdge.rf (sources a b g)
  edge_into a b (models.GlobalEdge.co c o) = models.GlobalEdge.co c o
  edge_into a b (models.GlobalEdge.fr f) = models.GlobalEdge.fr f

  allows : Consistent n x → Consistent m x
  allows c = record {
    local = c.local;
    global = λ l k. c.global (map (λ e. e) l) (cycle_map (GlobalEdge m x) (GlobalEdge n x) (λ e. e) edge_into l k);
    blocks = λ l k. c.blocks (map (λ p. p) l) (cycle_map (Leaves m x) (Leaves n x) (λ p. p) (λ p q e. (edge_into p.0 p.1 e.0, e.1, e.2)) l k);
  }

-- TSO keeps what PSO keeps
kept_by_tso : (p q : Action) → keeps Pso p q ≡ true → keeps Tso p q ≡ true
kept_by_tso (Write c v) (Read d w) h = h
kept_by_tso (Write c v) _ h = refl
kept_by_tso _ q h = refl

-- what SC allows, TSO allows
pub sc-tso : (x : Execution) → Consistent Sc x → Consistent Tso x
sc-tso x = allows Tso Sc x (λ p q h. refl) (λ s r g. g.0)

-- what TSO allows, PSO allows
pub tso-pso : (x : Execution) → Consistent Tso x → Consistent Pso x
tso-pso x = allows Pso Tso x kept_by_tso (λ s r g. g)

-- what SC allows, every model allows
pub allowed_by_all : (x : Execution) → Consistent Sc x → (m : MemoryModel) → Consistent m x
allowed_by_all x c Sc = c
allowed_by_all x c Tso = sc-tso x c
allowed_by_all x c Pso = tso-pso x (sc-tso x c)

-- what PSO forbids, every model forbids
pub forbidden_by_all : (x : Execution) → ¬ Consistent Pso x → (m : MemoryModel) → ¬ Consistent m x
forbidden_by_all x n Sc c = n (tso-pso x (sc-tso x c))
forbidden_by_all x n Tso c = n (tso-pso x c)
forbidden_by_all x n Pso c = n c
