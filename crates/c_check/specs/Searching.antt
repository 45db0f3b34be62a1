-- A search for what numbers lead to; no public contract cites it.
use Rattle.std.specs.Prelude.{ℕ, ◌+◌, List, [], ◌∷◌, ◌++◌, Bool, true, false, cond, slice_index_or, slice_set}
use Rattle.c_check.specs.declared.reachability.Search.{Search}

abbrev pub is_marked : List Bool → ℕ → Bool
is_marked marks v = slice_index_or marks v false

-- a number is marked, and waits where it was not marked before
abbrev pub mark_one : Search → ℕ → Search
mark_one s v = cond (is_marked s.marks v) s (record { marks = slice_set s.marks v true; pending = s.pending ++ v ∷ [] })

abbrev pub mark_all : Search → List ℕ → Search
mark_all s [] = s
mark_all s (v ∷ vs) = mark_all (mark_one s v) vs

abbrev pub unmarked : List Bool → ℕ
unmarked [] = 0
unmarked (true ∷ bs) = unmarked bs
unmarked (false ∷ bs) = 1 + unmarked bs
