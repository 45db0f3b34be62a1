-- The instances of a program, first in first out.
use Rattle.std.specs.Prelude.{◌≡◌, ℕ, ◌+◌, List, [], ◌∷◌, ◌++◌, Some, length, slice_get, unwrap_or, codes}
use Rattle.c_tree.specs.declared.program.Function.{Function}
use Rattle.run_model.specs.Names.{first_named}
use Rattle.run_model.specs.Calls.{Setting}
use Rattle.flat_prog.specs.declared.Instance.{Instance}
use Rattle.emit_steps.specs.declared.table.Table.{Table}
use Rattle.emit_steps.specs.Emitting.{Emitted}
use Rattle.emit_steps.specs.Pieces.{Context}
use Rattle.emit_steps.specs.Tables.{setting_at}
use Rattle.emit_steps.specs.Instances.{begins, instance_of}
use Rattle.loop_unroll.specs.Stating.{context_within, instance_body}

abbrev pub context_at : Table → Context
context_at t = context_within t.calls (setting_at t)

-- what is emitted of an instance of a function whose first Create names the instance i
abbrev pub emitted : Setting → Function → ℕ → Emitted
emitted s f i = (instance_body s f (begins i)).1

-- what is emitted of the function of a number
abbrev pub IsEmitted : Setting → ℕ → ℕ → Emitted → Type 0
IsEmitted s f i e = (h : Function) × (slice_get s.functions f ≡ Some h) × (e ≡ emitted s h i)

-- the instances of the functions that wait, where so many instances are named: each names its own, which wait behind the others
abbrev pub AreQueued : Setting → ℕ → List ℕ → List Instance → Type 0
AreQueued s n [] [] = Unit {0}
AreQueued s n [] (i ∷ is) = ⊥
AreQueued s n (f ∷ fs) [] = ⊥
AreQueued s n (f ∷ fs) (i ∷ is) = (e : Emitted) × IsEmitted s f n e × (i ≡ instance_of f e) × AreQueued s (n + length e.created) (fs ++ e.created) is

abbrev pub AreInstances : Setting → ℕ → List Instance → Type 0
AreInstances s main is = AreQueued s 1 (main ∷ []) is

abbrev pub main_in : List Function → ℕ
main_in fs = unwrap_or (first_named (λ (f : Function). f.name) 0 fs (codes "main")) 0
