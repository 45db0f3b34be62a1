-- The parts that all emissions are made of add steps under their guards.
use Rattle.std.proofs.Common.{◌≡◌, ℕ, ◌+◌, ◌<◌, inl, inr, List, [], ◌∷◌, Bool, true, false, Option, Some, None, refl, sym, ◌∙◌, subst, append-nil, arith}
use Rattle.std.specs.Prelude.{cond, nat_eq}
use Rattle.dg_base.specs.declared.Place.{Place}
use Rattle.dg_base.specs.declared.operators.Op.{Op}
use Rattle.dg_base.specs.declared.operators.Op.TheVariants as op
use Rattle.flat_prog.specs.declared.FlatAct.{FlatAct}
use Rattle.flat_prog.specs.declared.FlatAct.TheVariants as act
use Rattle.emit_steps.specs.declared.state.Number.{Number}
use Rattle.emit_steps.specs.declared.state.Cell.{Cell}
use Rattle.emit_steps.specs.declared.state.Cell.TheVariants.{Own, Common}
use Rattle.emit_steps.specs.Emitting.{Emitted, Emit, ◌>>=◌, pure, nothing, one, none, fresh_cells, fresh, holder_in, hold, number, emit, set, copy_to, mark, join_guards, fail, outside, stop, ask}
use Rattle.emit_steps.specs.Pieces.{read_cell, read_cells, read, write_cell, write}
use Rattle.emit_steps.proofs.Growth.{Each, each_append, each_map, plain_below, New, One, IsGuardOf, Neat, Grown, grown_none, grown_then}

-- what was emitted since e, under these guards: the variables in scope are the same
pub record Since (gs : List ℕ) (e f : Emitted) : Type 0 where
  pub grown : Grown gs e f
  pub scope : f.scope ≡ e.scope
  pub neat : Neat f

pub record Adds {A : Type 0} (gs : List ℕ) (m : Emit A) : Type 0 where
  pub add : (e : Emitted) → Neat e → Since gs e (m e).1

pub since_none : (gs : List ℕ) (e : Emitted) → Neat e → Since gs e e
since_none gs e neat = record { grown = grown_none gs e; scope = refl; neat = neat }

pub since_then : (gs hs : List ℕ) (e f h : Emitted) → Since gs e f → ((k : ℕ) → One hs k → IsGuardOf gs e f k) → Since hs f h → Since gs e h
since_then gs hs e f h a outer b = record { grown = grown_then gs hs e f h a.grown outer b.grown; scope = b.scope ∙ a.scope; neat = b.neat }

-- the same under more guards
pub since_under : (gs hs : List ℕ) (e f : Emitted) → Neat e → ((k : ℕ) → One hs k → One gs k) → Since hs e f → Since gs e f
since_under gs hs e f neat outer h = since_then gs hs e e f (since_none gs e neat) (λ k one. inl (outer k one)) h

pub adds_under : {A : Type 0} (gs hs : List ℕ) (m : Emit A) → ((k : ℕ) → One hs k → One gs k) → Adds hs m → Adds gs m
adds_under gs hs m outer h = record { add = λ e neat. since_under gs hs e (m e).1 neat outer (h.add e neat) }

-- an emission under one guard is one under some with this
only_one : (gs : List ℕ) (g k : ℕ) → One gs g → One (g ∷ []) k → One gs k
only_one gs g k there (inl same) = subst (One gs) (sym same) there
only_one gs g k there (inr none) = absurd none

pub adds_one : {A : Type 0} (gs : List ℕ) (g : ℕ) (m : Emit A) → One gs g → Adds (g ∷ []) m → Adds gs m
adds_one gs g m there h = adds_under gs (g ∷ []) m (λ k one. only_one gs g k there one) h

pub adds_pure : {A : Type 0} (gs : List ℕ) (a : A) → Adds gs (pure a)
adds_pure gs a = record { add = λ e neat. since_none gs e neat }

pub adds_nothing : (gs : List ℕ) → Adds gs nothing
adds_nothing gs = record { add = λ e neat. since_none gs e neat }

pub adds_then : {A B : Type 0} (gs : List ℕ) (m : Emit A) (f : A → Emit B) → Adds gs m → ((a : A) → Adds gs (f a)) → Adds gs (m >>= f)
adds_then gs m f h k = record {
  add = λ e neat. let first : Since gs e (m e).1 = h.add e neat in since_then gs gs e (m e).1 (f (m e).0 (m e).1).1 first (λ l one. inl one) ((k (m e).0).add (m e).1 first.neat);
}

pub adds_cond : {A : Type 0} (gs : List ℕ) (b : Bool) (m n : Emit A) → Adds gs m → Adds gs n → Adds gs (cond b m n)
adds_cond gs true m n h k = h
adds_cond gs false m n h k = k

-- ---- the simplest emissions

pub adds_fresh : (gs : List ℕ) (n : ℕ) → Adds gs (fresh_cells n)
adds_fresh gs n = record {
  add = λ e neat.
      record {
        grown = record {
          next = omega arith;
          numbers = [];
          numbers_behind = sym (append-nil e.numbers);
          numbers_above = tt;
          numbers_below = tt;
          rising = tt;
          created = [];
          created_behind = sym (append-nil e.created);
          instances = omega arith;
          steps = [];
          steps_behind = sym (append-nil e.steps);
          guards = tt;
          depth = refl;
          opened = λ h. refl;
        };
        scope = refl;
        neat = each_map (λ (x : Number). x.local < e.next) (λ (x : Number). x.local < e.next + n) (λ x b. omega arith) e.numbers neat;
      };
}

-- the first of some locals is new
pub fresh_new : (e : Emitted) → Neat e → New e (fresh e).1 e.next
fresh_new e neat = (omega arith, omega arith, plain_below e.numbers e.next e.next (omega arith) neat)

pub adds_hold : (gs : List ℕ) (v : ℕ) (o : Option ℕ) → Adds gs (hold v o)
adds_hold gs v (Some l) = record { add = λ e neat. since_none gs e neat }
adds_hold gs v None = record {
  add = λ e neat. record {
    grown = record {
      next = omega arith;
      numbers = record { value = v; local = e.next } ∷ [];
      numbers_behind = refl;
      numbers_above = (omega arith, tt);
      numbers_below = (omega arith, tt);
      rising = (tt, tt);
      created = [];
      created_behind = sym (append-nil e.created);
      instances = omega arith;
      steps = [];
      steps_behind = sym (append-nil e.steps);
      guards = tt;
      depth = refl;
      opened = λ h. refl;
    };
    scope = refl;
    neat =
        each_append (λ (x : Number). x.local < e.next + 1) e.numbers (record { value = v; local = e.next } ∷ [])
        (each_map (λ (x : Number). x.local < e.next) (λ (x : Number). x.local < e.next + 1) (λ x b. omega arith) e.numbers neat) (omega arith, tt);
  };
}

pub adds_number : (gs : List ℕ) (v : ℕ) → Adds gs (number v)
adds_number gs v =
    adds_cond gs (nat_eq v 0) (pure none) (cond (nat_eq v 1) (pure one) (λ e. hold v (holder_in e.numbers v) e)) (adds_pure gs none)
    (adds_cond gs (nat_eq v 1) (pure one) (λ e. hold v (holder_in e.numbers v) e) (adds_pure gs one) (record { add = λ e neat. (adds_hold gs v (holder_in e.numbers v)).add e neat }))

pub adds_emit : (gs : List ℕ) (g : ℕ) (a : FlatAct) → One gs g → Adds gs (emit g a)
adds_emit gs g a there = record {
  add = λ e neat.
      record {
        grown = record {
          next = omega arith;
          numbers = [];
          numbers_behind = sym (append-nil e.numbers);
          numbers_above = tt;
          numbers_below = tt;
          rising = tt;
          created = [];
          created_behind = sym (append-nil e.created);
          instances = omega arith;
          steps = record { guard = g; act = a } ∷ [];
          steps_behind = refl;
          guards = (inl there, tt);
          depth = refl;
          opened = λ h. refl;
        };
        scope = refl;
        neat = neat;
      };
}

pub adds_set : (gs : List ℕ) (g : ℕ) (o : Op) (args : List ℕ) → One gs g → Adds gs (set g o args)
adds_set gs g o args there = adds_then gs fresh _ (adds_fresh gs 1) (λ to. adds_then gs (emit g (act.Set to o args)) (λ _. pure to) (adds_emit gs g (act.Set to o args) there) (λ _. adds_pure gs to))

-- what follows may stand under the new value as a guard
new_or_old : (gs : List ℕ) (e f : Emitted) (l k : ℕ) → New e f l → One (l ∷ gs) k → IsGuardOf gs e f k
new_or_old gs e f l k new (inl same) = subst (IsGuardOf gs e f) (sym same) (inr (inr new))
new_or_old gs e f l k new (inr old) = inl old

pub adds_new : {B : Type 0} (gs : List ℕ) (g : ℕ) (o : Op) (args : List ℕ) (f : ℕ → Emit B) → One gs g → ((k : ℕ) → Adds (k ∷ gs) (f k)) → Adds gs (set g o args >>= f)
adds_new gs g o args f there rest = record {
  add = λ e neat.
      let first : Since gs e (set g o args e).1 = (adds_set gs g o args there).add e neat in
      since_then gs (e.next ∷ gs) e (set g o args e).1 (f e.next (set g o args e).1).1 first (λ k one. new_or_old gs e (set g o args e).1 e.next k (fresh_new e neat) one) ((rest e.next).add (set g o args e).1 first.neat);
}

pub adds_copy : (gs : List ℕ) (g to from : ℕ) → One gs g → Adds gs (copy_to g to from)
adds_copy gs g to from there = adds_emit gs g (act.Set to op.UnaryPlus (from ∷ [])) there

pub adds_mark : (gs : List ℕ) (g to : ℕ) → One gs g → Adds gs (mark g to)
adds_mark gs g to there = adds_emit gs g (act.Put to 1) there

pub adds_join : (gs : List ℕ) (a b : ℕ) → One gs a → One gs b → Adds gs (join_guards a b)
adds_join gs a b ha hb =
    adds_then gs fresh _ (adds_fresh gs 1) (λ j. adds_then gs (mark a j) _ (adds_mark gs a j ha) (λ _. adds_then gs (mark b j) _ (adds_mark gs b j hb) (λ _. adds_pure gs j)))

pub adds_fail : (gs : List ℕ) (g : ℕ) (p : Place) → One gs g → Adds gs (fail g p)
adds_fail gs g p there = adds_emit gs g (act.Fail p 0) there

pub adds_outside : (gs : List ℕ) (m : Emit (Unit {0})) → Adds gs m → Adds gs (outside m)
adds_outside gs m h = record { add = λ e neat. (adds_cond gs (nat_eq e.depth 0) m nothing h (adds_nothing gs)).add e neat }

pub adds_stop : (gs : List ℕ) (g : ℕ) → One gs g → Adds gs (stop g)
adds_stop gs g there = record { add = λ e neat. (adds_emit gs g (cond (nat_eq e.depth 0) act.Stop act.Bad) there).add e neat }

pub here : (g : ℕ) (gs : List ℕ) → One (g ∷ gs) g
here g gs = inl refl

pub adds_ask : (gs : List ℕ) (g : ℕ) → One gs g → Adds gs (ask g)
adds_ask gs g there =
    adds_then gs fresh _ (adds_fresh gs 1) (λ t.
    adds_then gs (emit g (act.Take t)) _ (adds_emit gs g (act.Take t) there) (λ _.
    adds_new gs g op.Equal (t ∷ none ∷ []) _ there (λ z.
    adds_then (z ∷ gs) (emit z act.Stop) _ (adds_emit (z ∷ gs) z act.Stop (here z gs)) (λ _.
    adds_new (z ∷ gs) g op.NotEqual (t ∷ one ∷ []) _ (inr there) (λ b. adds_emit (b ∷ z ∷ gs) b act.Bad (here b (z ∷ gs)))))))

-- ---- cells

abbrev pub guard_of : Cell → ℕ
guard_of (Own g l) = g
guard_of (Common g c) = g

-- the guards of cells are among these
abbrev pub CellsUnder : List ℕ → List Cell → Type 0
CellsUnder gs cs = Each (λ c. One gs (guard_of c)) cs

pub adds_read_cell : (gs : List ℕ) (v : ℕ) (c : Cell) → One gs (guard_of c) → Adds gs (read_cell v c)
adds_read_cell gs v (Own g l) there = adds_copy gs g v l there
adds_read_cell gs v (Common g c) there = adds_emit gs g (act.Read c v) there

pub adds_read_cells : (gs : List ℕ) (v : ℕ) (cs : List Cell) → CellsUnder gs cs → Adds gs (read_cells v cs)
adds_read_cells gs v [] h = adds_nothing gs
adds_read_cells gs v (c ∷ cs) h = adds_then gs (read_cell v c) _ (adds_read_cell gs v c h.0) (λ _. adds_read_cells gs v cs h.1)

pub adds_read : (gs : List ℕ) (cs : List Cell) → CellsUnder gs cs → Adds gs (read cs)
adds_read gs cs h = adds_then gs fresh _ (adds_fresh gs 1) (λ v. adds_then gs (read_cells v cs) _ (adds_read_cells gs v cs h) (λ _. adds_pure gs v))

pub adds_write_cell : (gs : List ℕ) (v : ℕ) (c : Cell) → One gs (guard_of c) → Adds gs (write_cell v c)
adds_write_cell gs v (Own g l) there = adds_copy gs g l v there
adds_write_cell gs v (Common g c) there = adds_emit gs g (act.Write c v) there

pub adds_write : (gs : List ℕ) (cs : List Cell) (v : ℕ) → CellsUnder gs cs → Adds gs (write cs v)
adds_write gs [] v h = adds_nothing gs
adds_write gs (c ∷ cs) v h = adds_then gs (write_cell v c) _ (adds_write_cell gs v c h.0) (λ _. adds_write gs cs v h.1)
