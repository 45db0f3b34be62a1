-- What the calls of a trail keep of a store's watches.
use Rattle.std.specs.Prelude.{◌∷◌, ◌++◌, [], ℕ}
use Rattle.dg_base.specs.declared.Lit.{Lit}
use Rattle.cnf_problem.specs.declared.problem.Problem.{Problem}
use Rattle.trail_state.specs.Trails.{Decided, Forced, TrailView, IsWell}
use Rattle.trail_state.specs.Forcing.{FixpointBelow}
use Rattle.clause_store.specs.Stores.{StoreView, IsWatching, IsSettled, IsUndone, clauses_of}

-- a decision is made once all is settled
abbrev pub DecidingKeeps : Type 0
DecidingKeeps =
    (p : Problem) (s : StoreView) (t : TrailView) (l : Lit)
    → IsWatching p s t → IsSettled p s t → IsWell t → IsWatching p s (record t { entries = t.entries ++ Decided l ∷ [] })

-- a literal is made true by a clause
abbrev pub AssigningKeeps : Type 0
AssigningKeeps =
    (p : Problem) (s : StoreView) (t : TrailView) (l : Lit) (id : ℕ)
    → IsWatching p s t → IsWell t → IsWatching p s (record t { entries = t.entries ++ Forced l id ∷ [] })

-- the trail is undone to a lower level, or to its own
abbrev pub UndoingKeeps : Type 0
UndoingKeeps =
    (p : Problem) (s : StoreView) (t u : TrailView) (n : ℕ)
    → IsWatching p s t → IsWell t → IsUndone n t u → IsWatching p s u

-- where the watches fit a trail, each lower level is a fixpoint
abbrev pub WatchedIsFixpointBelow : Type 0
WatchedIsFixpointBelow =
    (p : Problem) (s : StoreView) (t : TrailView) → IsWatching p s t → IsWell t → FixpointBelow (clauses_of p s) t.entries
