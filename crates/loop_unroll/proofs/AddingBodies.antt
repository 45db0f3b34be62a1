-- Statements whose sections stand as they should add steps under their guards.
use Rattle.std.proofs.Common.{◌≡◌, ℕ, ◌+◌, ◌≤◌, ◌⊎◌, inl, inr, List, [], ◌∷◌, ◌++◌, length, take, refl, sym, ap, ◌∙◌, subst, append_assoc, append-nil, arith}
use Rattle.dg_base.specs.declared.operators.Op.{Op}
use Rattle.emit_steps.specs.declared.state.Variable.{Variable}
use Rattle.emit_steps.specs.Emitting.{Emitted, Emit, ◌>>=◌, pure, none, fresh, set, join_guards, scoped}
use Rattle.emit_steps.proofs.Growth.{New, new_behind, One, IsGuardOf, guard_inside, Neat, Grown}
use Rattle.emit_steps.proofs.Adding.{Since, Adds, since_none, since_then, since_under, adds_fresh, fresh_new, adds_set, adds_join}
use Rattle.emit_steps.proofs.AddingForms.{since_before, since_more}
use Rattle.emit_steps.proofs.Running.{Among, Stacked}

-- ---- guards that are made

-- what was emitted since e, and a guard of what follows
pub record Left (gs : List ℕ) (e f : Emitted) (h : ℕ) : Type 0 where
  pub since : Since gs e f
  pub out : IsGuardOf gs e f h

pub record AddsGuard (gs : List ℕ) (m : Emit ℕ) : Type 0 where
  pub add : (e : Emitted) → Neat e → Left gs e (m e).1 (m e).0

out_or_old : (gs : List ℕ) (e f : Emitted) (h k : ℕ) → IsGuardOf gs e f h → One (h ∷ gs) k → IsGuardOf gs e f k
out_or_old gs e f h k out (inl same) = subst (IsGuardOf gs e f) (sym same) out
out_or_old gs e f h k out (inr old) = inl old

pub guard_then : {B : Type 0} (gs : List ℕ) (m : Emit ℕ) (f : ℕ → Emit B) → AddsGuard gs m → ((h : ℕ) → Adds (h ∷ gs) (f h)) → Adds gs (m >>= f)
guard_then gs m f h rest = record {
  add = λ e neat.
      let first : Left gs e (m e).1 (m e).0 = h.add e neat in
      since_then gs ((m e).0 ∷ gs) e (m e).1 (f (m e).0 (m e).1).1 first.since (λ k one. out_or_old gs e (m e).1 (m e).0 k first.out one) ((rest (m e).0).add (m e).1 first.since.neat);
}

pub guard_guard : (gs : List ℕ) (m : Emit ℕ) (f : ℕ → Emit ℕ) → AddsGuard gs m → ((h : ℕ) → AddsGuard (h ∷ gs) (f h)) → AddsGuard gs (m >>= f)
guard_guard gs m f h rest = record {
  add = λ e neat.
      let first : Left gs e (m e).1 (m e).0 = h.add e neat in
      let then : Left ((m e).0 ∷ gs) (m e).1 (f (m e).0 (m e).1).1 (f (m e).0 (m e).1).0 = (rest (m e).0).add (m e).1 first.since.neat in
      record {
        since = since_then gs ((m e).0 ∷ gs) e (m e).1 (f (m e).0 (m e).1).1 first.since (λ k one. out_or_old gs e (m e).1 (m e).0 k first.out one) then.since;
        out = guard_inside gs ((m e).0 ∷ gs) e (m e).1 (f (m e).0 (m e).1).1 (f (m e).0 (m e).1).0 first.since.grown.next then.since.grown (λ k one. out_or_old gs e (m e).1 (m e).0 k first.out one) then.out;
      };
}

-- something is emitted before
pub before_guard : {A : Type 0} (gs : List ℕ) (m : Emit A) (f : A → Emit ℕ) → Adds gs m → ((a : A) → AddsGuard gs (f a)) → AddsGuard gs (m >>= f)
before_guard gs m f h rest = record {
  add = λ e neat.
      let first : Since gs e (m e).1 = h.add e neat in
      let then : Left gs (m e).1 (f (m e).0 (m e).1).1 (f (m e).0 (m e).1).0 = (rest (m e).0).add (m e).1 first.neat in
      record {
        since = since_more gs e (m e).1 (f (m e).0 (m e).1).1 first then.since;
        out = since_before gs e (m e).1 (f (m e).0 (m e).1).1 (f (m e).0 (m e).1).0 first.grown.next then.out;
      };
}

pub out_under : (gs hs : List ℕ) (e f : Emitted) (h : ℕ) → ((k : ℕ) → One hs k → One gs k) → IsGuardOf hs e f h → IsGuardOf gs e f h
out_under gs hs e f h outer (inl some) = inl (outer h some)
out_under gs hs e f h outer (inr new) = inr new

pub guard_under : (gs hs : List ℕ) (m : Emit ℕ) → ((k : ℕ) → One hs k → One gs k) → AddsGuard hs m → AddsGuard gs m
guard_under gs hs m outer h = record {
  add = λ e neat. let it : Left hs e (m e).1 (m e).0 = h.add e neat in record { since = since_under gs hs e (m e).1 neat outer it.since; out = out_under gs hs e (m e).1 (m e).0 outer it.out };
}

pub guard_is : (gs : List ℕ) (g : ℕ) → One gs g → AddsGuard gs (pure g)
guard_is gs g there = record { add = λ e neat. record { since = since_none gs e neat; out = inl there } }

pub guard_none : (gs : List ℕ) → AddsGuard gs (pure none)
guard_none gs = record { add = λ e neat. record { since = since_none gs e neat; out = inr (inl refl) } }

pub guard_fresh : (gs : List ℕ) → AddsGuard gs fresh
guard_fresh gs = record { add = λ e neat. record { since = (adds_fresh gs 1).add e neat; out = inr (inr (fresh_new e neat)) } }

pub guard_set : (gs : List ℕ) (g : ℕ) (o : Op) (args : List ℕ) → One gs g → AddsGuard gs (set g o args)
guard_set gs g o args there = record { add = λ e neat. record { since = (adds_set gs g o args there).add e neat; out = inr (inr (fresh_new e neat)) } }

pub guard_join : (gs : List ℕ) (a b : ℕ) → One gs a → One gs b → AddsGuard gs (join_guards a b)
guard_join gs a b ha hb = record { add = λ e neat. record { since = (adds_join gs a b ha hb).add e neat; out = inr (inr (fresh_new e neat)) } }

one_under : (gs : List ℕ) (g k : ℕ) → One gs g → One (g ∷ []) k → One gs k
one_under gs g k there (inl same) = subst (One gs) (sym same) there
one_under gs g k there (inr off) = absurd off

pub guard_one : (gs : List ℕ) (g : ℕ) (m : Emit ℕ) → One gs g → AddsGuard (g ∷ []) m → AddsGuard gs m
guard_one gs g m there h = guard_under gs (g ∷ []) m (λ k one. one_under gs g k there one) h

-- ---- scopes that grow

pub grown_scoped : (gs : List ℕ) (e f : Emitted) (vs ws : List Variable) → Grown gs e f → Grown gs (record e { scope = vs }) (record f { scope = ws })
grown_scoped gs e f vs ws h = record {
  next = h.next;
  numbers = h.numbers;
  numbers_behind = h.numbers_behind;
  numbers_above = h.numbers_above;
  numbers_below = h.numbers_below;
  rising = h.rising;
  created = h.created;
  created_behind = h.created_behind;
  instances = h.instances;
  steps = h.steps;
  steps_behind = h.steps_behind;
  guards = h.guards;
  depth = h.depth;
  opened = h.opened;
}

pub since_scoped : (gs : List ℕ) (e f : Emitted) (vs : List Variable) → Since gs e f → Since gs (record e { scope = vs }) (record f { scope = vs })
since_scoped gs e f vs h = record { grown = grown_scoped gs e f vs vs h.grown; scope = refl; neat = h.neat }

-- what was emitted since e, where more variables came into scope; their cells are new
pub record Behind (gs : List ℕ) (e f : Emitted) (h : ℕ) : Type 0 where
  pub vars : List Variable
  pub scope : f.scope ≡ e.scope ++ vars
  pub since : Since gs e (record f { scope = e.scope })
  pub stacked : Stacked e.next vars f.next
  pub cells : (l : ℕ) → Among vars l → New e f l
  pub out : IsGuardOf gs e f h

pub record AddsBehind (gs : List ℕ) (m : Emit ℕ) : Type 0 where
  pub add : (e : Emitted) → Neat e → Behind gs e (m e).1 (m e).0

-- where none came into scope
pub behind_left : (gs : List ℕ) (e f : Emitted) (h : ℕ) → Left gs e f h → Behind gs e f h
behind_left gs e f h l = record {
  vars = [];
  scope = l.since.scope ∙ sym (append-nil e.scope);
  since = since_scoped gs e f e.scope l.since;
  stacked = l.since.grown.next;
  cells = λ k none. absurd none;
  out = l.out;
}

pub adds_left : (gs : List ℕ) (m : Emit ℕ) → AddsGuard gs m → AddsBehind gs m
adds_left gs m h = record { add = λ e neat. behind_left gs e (m e).1 (m e).0 (h.add e neat) }

among_side : (v : Variable) (vs ws : List Variable) (l : ℕ) → Among vs l ⊎ Among ws l → Among (v ∷ vs) l ⊎ Among ws l
among_side v vs ws l (inl a) = inl (inr a)
among_side v vs ws l (inr a) = inr a

pub among_append : (vs ws : List Variable) (l : ℕ) → Among (vs ++ ws) l → Among vs l ⊎ Among ws l
among_append [] ws l h = inr h
among_append (v ∷ vs) ws l (inl here) = inl (inl here)
among_append (v ∷ vs) ws l (inr there) = among_side v vs ws l (among_append vs ws l there)

pub stacked_append : (low : ℕ) (vs : List Variable) (mid : ℕ) (ws : List Variable) (high : ℕ) → Stacked low vs mid → Stacked mid ws high → Stacked low (vs ++ ws) high
stacked_append low [] mid [] high h k = omega arith
stacked_append low [] mid (w ∷ ws) high h k = (omega (arith, k.0), k.1)
stacked_append low (v ∷ vs) mid ws high h k = (h.0, stacked_append (v.first + v.count) vs mid ws high h.1 k)

new_before : (e f h : Emitted) (l : ℕ) → e.next ≤ f.next → New f h l → New e h l
new_before e f h l le new = (omega (arith, new.0), new.1, new.2)

pub both_new : (gs hs : List ℕ) (e f h : Emitted) (vs ws : List Variable) → e.next ≤ f.next → Grown hs f h → ((l : ℕ) → Among vs l → New e f l) → ((l : ℕ) → Among ws l → New f h l) → (l : ℕ) → Among vs l ⊎ Among ws l → New e h l
both_new gs hs e f h vs ws le grown a b l (inl x) = new_behind hs e f h l grown (a l x)
both_new gs hs e f h vs ws le grown a b l (inr x) = new_before e f h l le (b l x)

pub behind_then : (gs hs : List ℕ) (e f i : Emitted) (h k : ℕ) → Behind gs e f h → ((l : ℕ) → One hs l → IsGuardOf gs e f l) → Behind hs f i k → Behind gs e i k
behind_then gs hs e f i h k a outer b =
    let grown : Grown hs f i = grown_scoped hs f (record i { scope = f.scope }) f.scope i.scope b.since.grown in
    record {
      vars = a.vars ++ b.vars;
      scope = b.scope ∙ (ap (λ vs. vs ++ b.vars) a.scope ∙ append_assoc e.scope a.vars b.vars);
      since = since_then gs hs e (record f { scope = e.scope }) (record i { scope = e.scope }) a.since outer (since_scoped hs f (record i { scope = f.scope }) e.scope b.since);
      stacked = stacked_append e.next a.vars f.next b.vars i.next a.stacked b.stacked;
      cells = λ l x. both_new gs hs e f i a.vars b.vars a.since.grown.next grown a.cells b.cells l (among_append a.vars b.vars l x);
      out = guard_inside gs hs e f i k a.since.grown.next grown outer b.out;
    }

pub only_out : (gs : List ℕ) (e f : Emitted) (h k : ℕ) → IsGuardOf gs e f h → One (h ∷ []) k → IsGuardOf gs e f k
only_out gs e f h k out (inl same) = subst (IsGuardOf gs e f) (sym same) out
only_out gs e f h k out (inr off) = absurd off

-- the next statement stands under the guard that the one before left
pub behind_next : (gs : List ℕ) (m : Emit ℕ) (f : ℕ → Emit ℕ) → AddsBehind gs m → ((h : ℕ) → AddsBehind (h ∷ []) (f h)) → AddsBehind gs (m >>= f)
behind_next gs m f h rest = record {
  add = λ e neat.
      let first : Behind gs e (m e).1 (m e).0 = h.add e neat in
      behind_then gs ((m e).0 ∷ []) e (m e).1 (f (m e).0 (m e).1).1 (m e).0 (f (m e).0 (m e).1).0 first (λ k one. only_out gs e (m e).1 (m e).0 k first.out one) ((rest (m e).0).add (m e).1 first.since.neat);
}

pub take_front : {X : Type 0} (xs ys : List X) → take (length xs) (xs ++ ys) ≡ xs
take_front [] ys = refl
take_front (x ∷ xs) ys = ap (λ zs. x ∷ zs) (take_front xs ys)

-- what came into scope inside is gone behind it
pub scoped_left : (gs : List ℕ) (m : Emit ℕ) → AddsBehind gs m → AddsGuard gs (scoped m)
scoped_left gs m h = record {
  add = λ e neat.
      let b : Behind gs e (m e).1 (m e).0 = h.add e neat in
      let same : take (length e.scope) (m e).1.scope ≡ e.scope = ap (take (length e.scope)) b.scope ∙ take_front e.scope b.vars in
      record { since = subst (λ vs. Since gs e (record (m e).1 { scope = vs })) (sym same) b.since; out = b.out };
}
