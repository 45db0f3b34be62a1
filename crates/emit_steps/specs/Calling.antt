-- What is emitted for the body of a function and for calls of it: the form of these, from what is emitted for a statement.
use Rattle.std.specs.Prelude.{ℕ, ◌+◌, List, [], ◌∷◌, ◌++◌, cond, Option, Some, None, slice_get, unwrap_or}
use Rattle.c_tree.specs.declared.expr.TypeWord.{TypeWord}
use Rattle.c_tree.specs.declared.program.Param.{Param}
use Rattle.c_tree.specs.declared.program.Function.{Function}
use Rattle.c_tree.specs.Operators.{word_unsigned}
use Rattle.c_rules.specs.Names.{Name}
use Rattle.run_model.specs.Threads.{is_atomic}
use Rattle.emit_steps.specs.Emitting.{Emit, ◌>>=◌, ◌>>◌, pure, nothing, change, none, copy, stop, begin_section, end_section}

-- a variable comes into scope, whose first cell is this local
abbrev pub enter : TypeWord → Name → ℕ → ℕ → Emit (Unit {0})
enter w name l n = change (λ e. record e { scope = e.scope ++ record { name = name; unsigned = word_unsigned w; first = l; count = n } ∷ [] })

-- a parameter is a copy of its argument
abbrev pub parameter : ℕ → Param → ℕ → Emit (Unit {0})
parameter g p from = copy g from >>= (λ l. enter p.word p.name l 1)

-- one that has no argument is 0
abbrev pub parameters : ℕ → ℕ → List Param → List ℕ → Emit (Unit {0})
parameters g i [] vs = nothing
parameters g i (p ∷ ps) vs = parameter g p (unwrap_or (slice_get vs i) none) >> parameters g (i + 1) ps vs

abbrev pub in_section : ℕ → Emit ℕ → Emit ℕ
in_section g m = do
  begin_section g
  v ← m
  end_section
  pure v

-- a call of a function whose name begins with __VERIFIER_atomic_ is a section
abbrev pub call_body : Function → ℕ → Emit ℕ → Emit ℕ
call_body f g m = cond (is_atomic f) (in_section g m) m

abbrev pub with_function : Option Function → ℕ → (Function → Emit ℕ) → Emit ℕ
with_function None g m = stop g >> pure none
with_function (Some f) g m = m f
