-- Sections, built-in calls and expressions without a begin or an end add steps under their guards.
use Rattle.std.proofs.Common.{◌≡◌, ℕ, zero, suc, ◌+◌, ◌≤◌, inl, inr, List, [], ◌∷◌, ◌++◌, map, Bool, true, false, Option, Some, None, refl, sym, ◌∙◌, subst, append-nil, arith}
use Rattle.std.proofs.lemmas.Bool.{eqb-true, eq-eqb}
use Rattle.std.specs.Prelude.{cond, nat_eq}
use Rattle.dg_base.specs.declared.Place.{Place}
use Rattle.dg_base.specs.declared.operators.Op.TheVariants as op
use Rattle.c_tree.specs.declared.expr.StepOp.{StepOp}
use Rattle.c_tree.specs.declared.expr.BinaryOp.{BinaryOp}
use Rattle.c_tree.specs.declared.expr.BinaryOp.TheVariants as binary
use Rattle.c_tree.specs.declared.expr.AssignOp.{AssignOp}
use Rattle.c_tree.specs.declared.expr.AssignOp.TheVariants.{Plain, With}
use Rattle.c_tree.specs.Operators.{binary_op, divides, step_op}
use Rattle.c_rules.specs.declared.builtin.Builtin.{Builtin}
use Rattle.c_rules.specs.declared.builtin.Builtin.TheVariants as b
use Rattle.c_rules.specs.Names.{Name}
use Rattle.run_model.specs.declared.state.Shared.{Shared}
use Rattle.run_model.specs.Calls.{Setting, function_in}
use Rattle.run_model.specs.Cells.{shared_named}
use Rattle.flat_prog.specs.declared.FlatAct.TheVariants as act
use Rattle.emit_steps.specs.declared.state.Variable.{Variable}
use Rattle.emit_steps.specs.declared.state.Cell.{Cell}
use Rattle.emit_steps.specs.declared.state.Cell.TheVariants.{Own, Common}
use Rattle.emit_steps.specs.Emitting.{Emitted, Emit, ◌>>=◌, ◌>>◌, pure, nothing, own_handle, one, none, creates, fresh, number, emit, set, copy_to, when, unless, fail, outside, stop, ask, keep_guard, open_there, open_section, open_at_once, close_section}
use Rattle.emit_steps.specs.Pieces.{Piece, value, lvalue, read_cell, read_cells, read, write_cell, write, cell, cells_where, cells_at, first_cell, at_index, no_cell, in_shared, in_scope, variable_named, find_cells, test_divisor, operate, typed, binary_run, assign, count, choose, no_argument, argument, common_in, hold_cells, lock_cells, unlock_cells, exit_thread, any, any_bool, name_instance, next_handle, create, no_value, join, assert, assume, builtin_call, values_of}
use Rattle.emit_steps.proofs.Marks.{IsPlainCall}
use Rattle.emit_steps.proofs.Growth.{Each, each_append, each_map, One, IsGuardOf, guard_behind, Neat}
use Rattle.emit_steps.proofs.Adding.{Since, Adds, since_none, since_then, adds_one, adds_pure, adds_nothing, adds_then, adds_cond, adds_fresh, fresh_new, adds_number, adds_emit, adds_set, adds_new, adds_copy, adds_fail, adds_outside, adds_stop, here, adds_ask, guard_of, CellsUnder, adds_read, adds_write}

-- ---- cells that are found

abbrev pub guards_of : List Cell → List ℕ
guards_of cs = map guard_of cs

pub one_behind : (hs gs : List ℕ) (k : ℕ) → One gs k → One (hs ++ gs) k
one_behind [] gs k h = h
one_behind (x ∷ xs) gs k h = inr (one_behind xs gs k h)

pub one_front : (hs gs : List ℕ) (k : ℕ) → One hs k → One (hs ++ gs) k
one_front [] gs k h = absurd h
one_front (x ∷ xs) gs k (inl same) = inl same
one_front (x ∷ xs) gs k (inr h) = inr (one_front xs gs k h)

pub cells_guarded : (cs ds : List Cell) → ((k : ℕ) → One (guards_of ds) k → One (guards_of cs) k) → CellsUnder (guards_of cs) ds
cells_guarded cs [] h = tt
cells_guarded cs (d ∷ ds) h = (h (guard_of d) (inl refl), cells_guarded cs ds (λ k one. h k (inr one)))

pub cells_under : (cs : List Cell) (gs : List ℕ) → CellsUnder (guards_of cs ++ gs) cs
cells_under cs gs = each_map (λ c. One (guards_of cs) (guard_of c)) (λ c. One (guards_of cs ++ gs) (guard_of c)) (λ c h. one_front (guards_of cs) gs (guard_of c) h) cs (cells_guarded cs cs (λ k h. h))

abbrev pub Found : List ℕ → Emitted → Emitted → List Cell → Type 0
Found gs e f cs = Each (λ c. IsGuardOf gs e f (guard_of c)) cs

-- the cells that are found are meant under guards of the emission
pub record Finds (gs : List ℕ) (e f : Emitted) (cs : List Cell) : Type 0 where
  pub since : Since gs e f
  pub found : Found gs e f cs

pub record AddsCells (gs : List ℕ) (m : Emit (List Cell)) : Type 0 where
  pub add : (e : Emitted) → Neat e → Finds gs e (m e).1 (m e).0

found_or_old : (gs : List ℕ) (e f : Emitted) (cs : List Cell) (k : ℕ) → Found gs e f cs → One (guards_of cs ++ gs) k → IsGuardOf gs e f k
found_or_old gs e f [] k h old = inl old
found_or_old gs e f (c ∷ cs) k h (inl same) = subst (IsGuardOf gs e f) (sym same) h.0
found_or_old gs e f (c ∷ cs) k h (inr rest) = found_or_old gs e f cs k h.1 rest

pub cells_then : {B : Type 0} (gs : List ℕ) (m : Emit (List Cell)) (f : List Cell → Emit B) → AddsCells gs m → ((cs : List Cell) → Adds (guards_of cs ++ gs) (f cs)) → Adds gs (m >>= f)
cells_then gs m f h rest = record {
  add = λ e neat.
      let first : Finds gs e (m e).1 (m e).0 = h.add e neat in
      since_then gs (guards_of (m e).0 ++ gs) e (m e).1 (f (m e).0 (m e).1).1 first.since (λ k one. found_or_old gs e (m e).1 (m e).0 k first.found one) ((rest (m e).0).add (m e).1 first.since.neat);
}

pub since_before : (gs : List ℕ) (e f h : Emitted) (k : ℕ) → e.next ≤ f.next → IsGuardOf gs f h k → IsGuardOf gs e h k
since_before gs e f h k le (inl old) = inl old
since_before gs e f h k le (inr (inl is)) = inr (inl is)
since_before gs e f h k le (inr (inr new)) = inr (inr (omega (arith, new.0), new.1, new.2))

-- something is emitted first
pub before_cells : {A : Type 0} (gs : List ℕ) (m : Emit A) (f : A → Emit (List Cell)) → Adds gs m → ((a : A) → AddsCells gs (f a)) → AddsCells gs (m >>= f)
before_cells gs m f h rest = record {
  add = λ e neat.
      let first : Since gs e (m e).1 = h.add e neat in
      let then : Finds gs (m e).1 (f (m e).0 (m e).1).1 (f (m e).0 (m e).1).0 = (rest (m e).0).add (m e).1 first.neat in
      record {
        since = since_then gs gs e (m e).1 (f (m e).0 (m e).1).1 first (λ k one. inl one) then.since;
        found = each_map (λ c. IsGuardOf gs (m e).1 (f (m e).0 (m e).1).1 (guard_of c)) (λ c. IsGuardOf gs e (f (m e).0 (m e).1).1 (guard_of c)) (λ c k. since_before gs e (m e).1 (f (m e).0 (m e).1).1 (guard_of c) first.grown.next k) (f (m e).0 (m e).1).0 then.found;
      };
}

adds_cells : (gs : List ℕ) (m : Emit (Unit {0})) → Adds gs m → AddsCells gs (m >> pure [])
adds_cells gs m h = record { add = λ e neat. record { since = h.add e neat; found = tt } }

pub adds_no_cell : (gs : List ℕ) (g : ℕ) → One gs g → AddsCells gs (no_cell g)
adds_no_cell gs g there = adds_cells gs (stop g) (adds_stop gs g there)

pub cell_guard : (own : Bool) (g n : ℕ) → guard_of (cell own g n) ≡ g
cell_guard true g n = refl
cell_guard false g n = refl

pub adds_cells_where : (gs : List ℕ) (done : List Cell) (own : Bool) (g i n j m : ℕ) (e f : Emitted) → One gs g → Since gs e f → Found gs e f done
    → Finds gs e (cells_where done own g i n j m f).1 (cells_where done own g i n j m f).0
adds_cells_where gs done own g i n j zero e f there since found = record { since = since; found = found }
adds_cells_where gs done own g i n j (suc m) e f there since found =
    let c : ℕ = (number j f).0 in
    let f1 : Emitted = (number j f).1 in
    let s1 : Since gs f f1 = (adds_number gs j).add f since.neat in
    let f2 : Emitted = (set g op.Equal (i ∷ c ∷ []) f1).1 in
    let s2 : Since gs f1 f2 = (adds_set gs g op.Equal (i ∷ c ∷ []) there).add f1 s1.neat in
    let s3 : Since gs f f2 = since_then gs gs f f1 f2 s1 (λ k one. inl one) s2 in
    let s4 : Since gs e f2 = since_then gs gs e f f2 since (λ k one. inl one) s3 in
    let new : IsGuardOf gs e f2 f1.next = since_before gs e f1 f2 f1.next (omega (arith, since.grown.next, s1.grown.next)) (inr (inr (fresh_new f1 s1.neat))) in
    adds_cells_where gs (done ++ cell own f1.next (n + j) ∷ []) own g i n (j + 1) m e f2 there s4
    (each_append (λ d. IsGuardOf gs e f2 (guard_of d)) done (cell own f1.next (n + j) ∷ [])
    (each_map (λ d. IsGuardOf gs e f (guard_of d)) (λ d. IsGuardOf gs e f2 (guard_of d)) (λ d k. guard_behind gs gs e f f2 (guard_of d) s3.grown k) done found)
    (subst (IsGuardOf gs e f2) (sym (cell_guard own f1.next (n + j))) new, tt))

pub adds_cells_at : (gs : List ℕ) (p : Place) (own : Bool) (g n m i : ℕ) → One gs g → AddsCells gs (cells_at p own g n m i)
adds_cells_at gs p own g n m i there =
    before_cells gs (number m) _ (adds_number gs m) (λ c.
    before_cells gs (set g op.LessUint (i ∷ c ∷ [])) _ (adds_set gs g op.LessUint (i ∷ c ∷ []) there) (λ ok.
    before_cells gs (unless g ok >>= (λ bad. fail bad p)) (λ _. cells_where [] own g i n 0 m)
    (adds_new gs g op.Equal (ok ∷ none ∷ []) (λ bad. fail bad p) there (λ k. adds_fail (k ∷ gs) k p (here k gs)))
    (λ _. record { add = λ e neat. adds_cells_where gs [] own g i n 0 m e e there (since_none gs e neat) tt })))

pub adds_first_cell : (gs : List ℕ) (p : Place) (own : Bool) (g n m : ℕ) → One gs g → AddsCells gs (first_cell p own g n m)
adds_first_cell gs p own g n zero there = adds_cells gs (fail g p) (adds_fail gs g p there)
adds_first_cell gs p own g n (suc m) there = record { add = λ e neat. record { since = since_none gs e neat; found = (inl (subst (One gs) (sym (cell_guard own g n)) there), tt) } }

pub adds_at_index : (gs : List ℕ) (p : Place) (own : Bool) (g n m : ℕ) (i : Option ℕ) → One gs g → AddsCells gs (at_index p own g n m i)
adds_at_index gs p own g n m None there = adds_first_cell gs p own g n m there
adds_at_index gs p own g n m (Some i) there = adds_cells_at gs p own g n m i there

adds_in_shared : (gs : List ℕ) (p : Place) (g : ℕ) (i : Option ℕ) (o : Option Shared) → One gs g → AddsCells gs (in_shared p g i o)
adds_in_shared gs p g i None there = adds_no_cell gs g there
adds_in_shared gs p g i (Some v) there = adds_at_index gs p false g v.first v.count i there

adds_in_scope : (gs : List ℕ) (shared : List Shared) (p : Place) (name : Name) (g : ℕ) (i : Option ℕ) (o : Option Variable) → One gs g → AddsCells gs (in_scope shared p name g i o)
adds_in_scope gs shared p name g i None there = adds_in_shared gs p g i (shared_named shared name) there
adds_in_scope gs shared p name g i (Some v) there = adds_at_index gs p true g v.first v.count i there

pub adds_find : (gs : List ℕ) (shared : List Shared) (p : Place) (name : Name) (g : ℕ) (i : Option ℕ) → One gs g → AddsCells gs (find_cells shared p name g i)
adds_find gs shared p name g i there = record { add = λ e neat. (adds_in_scope gs shared p name g i (variable_named e.scope name) there).add e neat }

-- ---- sections

-- the guard of the open section is kept where no section was open before
pub since_kept : (gs : List ℕ) (g : ℕ) (e : Emitted) → Neat e → e.depth ≡ 0 → Since gs e (keep_guard g e).1
since_kept gs g e neat z = record {
  grown = record {
    next = omega arith;
    numbers = [];
    numbers_behind = sym (append-nil e.numbers);
    numbers_above = tt;
    numbers_below = tt;
    rising = tt;
    created = [];
    created_behind = sym (append-nil e.created);
    instances = omega arith;
    steps = [];
    steps_behind = sym (append-nil e.steps);
    guards = tt;
    depth = refl;
    opened = λ deep. absurd (deep z);
  };
  scope = refl;
  neat = neat;
}

-- a section that was opened: where none was open, its guard is kept
pub record Opened (gs : List ℕ) (g : ℕ) (e f : Emitted) : Type 0 where
  pub since : Since gs e f
  pub kept : e.depth ≡ 0 → f.opened ≡ g

pub since_more : (gs : List ℕ) (e f h : Emitted) → Since gs e f → Since gs f h → Since gs e h
since_more gs e f h a b = since_then gs gs e f h a (λ k one. inl one) b

pub opens : (gs : List ℕ) (g : ℕ) (m : Emit (Unit {0})) (e : Emitted) → One gs g → Neat e → Adds gs m → (b : Bool) → nat_eq e.depth 0 ≡ b → Opened gs g e (cond b (m >> open_there g) nothing e).1
opens gs g m e there neat h true is =
    let z : e.depth ≡ 0 = eqb-true e.depth 0 is in
    let s1 : Since gs e (m e).1 = h.add e neat in
    let f : Emitted = (emit g act.Open (m e).1).1 in
    let s2 : Since gs (m e).1 f = (adds_emit gs g act.Open there).add (m e).1 s1.neat in
    let s3 : Since gs e f = since_more gs e (m e).1 f s1 s2 in
    record { since = since_more gs e f (keep_guard g f).1 s3 (since_kept gs g f s3.neat (s3.grown.depth ∙ z)); kept = λ _. refl }
opens gs g m e there neat h false is = record { since = since_none gs e neat; kept = λ z. absurd (let no : true ≡ false = sym (eq-eqb e.depth 0 z) ∙ is in cc) }

pub opens_section : (gs : List ℕ) (g : ℕ) (e : Emitted) → One gs g → Neat e → Opened gs g e (open_section g e).1
opens_section gs g e there neat = opens gs g (ask g) e there neat (adds_ask gs g there) (nat_eq e.depth 0) refl

pub opens_at_once : (gs : List ℕ) (g : ℕ) (e : Emitted) → One gs g → Neat e → Opened gs g e (open_at_once g e).1
opens_at_once gs g e there neat = opens gs g nothing e there neat (adds_nothing gs) (nat_eq e.depth 0) refl

closes : (gs : List ℕ) (e : Emitted) → Neat e → (b : Bool) → nat_eq e.depth 0 ≡ b → (e.depth ≡ 0 → One gs e.opened) → Since gs e (cond b (λ f. emit f.opened act.Close f) nothing e).1
closes gs e neat true is h = (adds_emit gs e.opened act.Close (h (eqb-true e.depth 0 is))).add e neat
closes gs e neat false is h = since_none gs e neat

pub closes_section : (gs : List ℕ) (e : Emitted) → Neat e → (e.depth ≡ 0 → One gs e.opened) → Since gs e (close_section e).1
closes_section gs e neat h = closes gs e neat (nat_eq e.depth 0) refl h

-- emissions that leave the guard of the open section as it is
abbrev Steady : {A : Type 0} → Emit A → Type 0
Steady m = (e : Emitted) → (m e).1.opened ≡ e.opened

steady_read_cell : (v : ℕ) (c : Cell) → Steady (read_cell v c)
steady_read_cell v (Own g l) e = refl
steady_read_cell v (Common g c) e = refl

steady_read_cells : (v : ℕ) (cs : List Cell) → Steady (read_cells v cs)
steady_read_cells v [] e = refl
steady_read_cells v (c ∷ cs) e = steady_read_cells v cs (read_cell v c e).1 ∙ steady_read_cell v c e

steady_write_cell : (v : ℕ) (c : Cell) → Steady (write_cell v c)
steady_write_cell v (Own g l) e = refl
steady_write_cell v (Common g c) e = refl

pub steady_write : (cs : List Cell) (v : ℕ) → Steady (write cs v)
steady_write [] v e = refl
steady_write (c ∷ cs) v e = steady_write cs v (write_cell v c e).1 ∙ steady_write_cell v c e

pub steady_hold : (g : ℕ) (cs : List Cell) → Steady (hold_cells g cs)
steady_hold g cs e =
    let r : Emitted = (read cs e).1 in
    steady_write cs one (emit (set g op.NotEqual ((read cs e).0 ∷ none ∷ []) r).0 act.Bad (set g op.NotEqual ((read cs e).0 ∷ none ∷ []) r).1).1 ∙ steady_read_cells e.next cs (fresh e).1

pub common_under : (gs : List ℕ) (cs : List Cell) → CellsUnder gs cs → CellsUnder gs (common_in cs)
common_under gs [] h = tt
common_under gs (Own g l ∷ cs) h = common_under gs cs h.1
common_under gs (Common g c ∷ cs) h = (h.0, common_under gs cs h.1)

pub adds_hold_cells : (gs : List ℕ) (g : ℕ) (cs : List Cell) → One gs g → CellsUnder gs cs → Adds gs (hold_cells g cs)
adds_hold_cells gs g cs there h =
    adds_then gs (read cs) _ (adds_read gs cs h) (λ v.
    adds_new gs g op.NotEqual (v ∷ none ∷ []) _ there (λ k.
    adds_then (k ∷ gs) (emit k act.Bad) _ (adds_emit (k ∷ gs) k act.Bad (here k gs)) (λ _.
    adds_write (k ∷ gs) cs one (each_map (λ c. One gs (guard_of c)) (λ c. One (k ∷ gs) (guard_of c)) (λ c o. inr o) cs h))))

-- what stands between an opening and a close leaves the guard as it is
in_between : (gs : List ℕ) (g : ℕ) (m : Emit (Unit {0})) (e f : Emitted) → One gs g → Opened gs g e f → Adds gs m → Steady m → Since gs e (close_section (m f).1).1
in_between gs g m e f there o h steady =
    let s : Since gs f (m f).1 = h.add f o.since.neat in
    since_more gs e f (close_section (m f).1).1 o.since
    (since_more gs f (m f).1 (close_section (m f).1).1 s
    (closes_section gs (m f).1 s.neat (λ z. subst (One gs) (sym (steady f ∙ o.kept (sym o.since.grown.depth ∙ (sym s.grown.depth ∙ z)))) there)))

pub adds_lock : (gs : List ℕ) (g : ℕ) (cs : List Cell) → One gs g → CellsUnder gs cs → Adds gs (lock_cells g cs)
adds_lock gs g cs there h = record {
  add = λ e neat.
      in_between gs g (hold_cells g (common_in cs)) e (open_section g e).1 there (opens_section gs g e there neat) (adds_hold_cells gs g (common_in cs) there (common_under gs cs h)) (steady_hold g (common_in cs));
}

pub adds_unlock : (gs : List ℕ) (g : ℕ) (cs : List Cell) → One gs g → CellsUnder gs cs → Adds gs (unlock_cells g cs)
adds_unlock gs g cs there h = record {
  add = λ e neat.
      in_between gs g (write cs none) e (open_at_once g e).1 there (opens_at_once gs g e there neat) (adds_write gs cs none h) (steady_write cs none);
}

-- ---- threads

pub adds_name : (gs : List ℕ) (f : ℕ) → Adds gs (name_instance f)
adds_name gs f = record {
  add = λ e neat. record {
    grown = record {
      next = omega arith;
      numbers = [];
      numbers_behind = sym (append-nil e.numbers);
      numbers_above = tt;
      numbers_below = tt;
      rising = tt;
      created = f ∷ [];
      created_behind = refl;
      instances = omega arith;
      steps = [];
      steps_behind = sym (append-nil e.steps);
      guards = tt;
      depth = refl;
      opened = λ h. refl;
    };
    scope = refl;
    neat = neat;
  };
}

pub adds_next_handle : (gs : List ℕ) (g : ℕ) → One gs g → Adds gs (next_handle g)
adds_next_handle gs g there =
    adds_then gs (number 64) _ (adds_number gs 64) (λ c.
    adds_then gs (set g op.Times (own_handle ∷ c ∷ [])) _ (adds_set gs g op.Times (own_handle ∷ c ∷ []) there) (λ b.
    adds_then gs (set g op.Plus (b ∷ creates ∷ [])) _ (adds_set gs g op.Plus (b ∷ creates ∷ []) there) (λ s.
    adds_set gs g op.Plus (s ∷ one ∷ []) there)))

pub adds_create : (gs : List ℕ) (g : ℕ) (cs : List Cell) (f arg : ℕ) → One gs g → CellsUnder gs cs → Adds gs (create g cs f arg)
adds_create gs g cs f arg there h =
    adds_then gs (next_handle g) _ (adds_next_handle gs g there) (λ n.
    adds_then gs (name_instance f) _ (adds_name gs f) (λ i.
    adds_then gs (emit g (act.Set creates op.Plus (creates ∷ one ∷ []))) _ (adds_emit gs g (act.Set creates op.Plus (creates ∷ one ∷ [])) there) (λ _.
    adds_then gs (write cs n) _ (adds_write gs cs n h) (λ _.
    adds_then gs (emit g (act.Create i n arg)) _ (adds_emit gs g (act.Create i n arg) there) (λ _. adds_pure gs none)))))

pub adds_no_value : (gs : List ℕ) (m : Emit (Unit {0})) → Adds gs m → Adds gs (no_value m)
adds_no_value gs m h = adds_then gs m (λ _. pure none) h (λ _. adds_pure gs none)

pub adds_exit : (gs : List ℕ) (g : ℕ) → One gs g → Adds gs (exit_thread g)
adds_exit gs g there = record { add = λ e neat. (adds_emit gs g (cond (nat_eq e.depth 0) act.End act.Bad) there).add e neat }

pub adds_any : (gs : List ℕ) (g : ℕ) → One gs g → Adds gs (any g)
adds_any gs g there = adds_then gs fresh _ (adds_fresh gs 1) (λ v. adds_then gs (emit g (act.Take v)) _ (adds_emit gs g (act.Take v) there) (λ _. adds_pure gs v))

pub adds_any_bool : (gs : List ℕ) (g : ℕ) → One gs g → Adds gs (any_bool g)
adds_any_bool gs g there =
    adds_then gs (any g) _ (adds_any gs g there) (λ v.
    adds_new gs g op.LessUint (one ∷ v ∷ []) _ there (λ k. adds_then (k ∷ gs) (emit k act.Bad) _ (adds_emit (k ∷ gs) k act.Bad (here k gs)) (λ _. adds_pure (k ∷ gs) v)))

pub adds_handle : (gs : List ℕ) (g h : ℕ) → One gs g → Adds gs (join g h)
adds_handle gs g h there =
    adds_no_value gs (outside (ask g) >> emit g (act.Join h))
    (adds_then gs (outside (ask g)) (λ _. emit g (act.Join h)) (adds_outside gs (ask g) (adds_ask gs g there)) (λ _. adds_emit gs g (act.Join h) there))

pub adds_assert : (gs : List ℕ) (p : Place) (g v : ℕ) → One gs g → Adds gs (assert p g v)
adds_assert gs p g v there =
    adds_no_value gs (unless g v >>= (λ z. fail z p)) (adds_new gs g op.Equal (v ∷ none ∷ []) (λ z. fail z p) there (λ k. adds_fail (k ∷ gs) k p (here k gs)))

pub adds_assume : (gs : List ℕ) (g v : ℕ) → One gs g → Adds gs (assume g v)
adds_assume gs g v there = adds_no_value gs (unless g v >>= stop) (adds_new gs g op.Equal (v ∷ none ∷ []) stop there (λ k. adds_stop (k ∷ gs) k (here k gs)))

-- ---- pieces

pub record AddsPiece (m : Piece) : Type 0 where
  pub run : (g : ℕ) → Adds (g ∷ []) (m.run g)
  pub find : (g : ℕ) → AddsCells (g ∷ []) (m.find g)

pub adds_value : (u : List Variable → Bool) (run : ℕ → Emit ℕ) → ((g : ℕ) → Adds (g ∷ []) (run g)) → AddsPiece (value u run)
adds_value u run h = record { run = h; find = λ g. adds_no_cell (g ∷ []) g (here g []) }

-- the value of the cells that are found
adds_found : (g : ℕ) (m : Emit (List Cell)) → AddsCells (g ∷ []) m → Adds (g ∷ []) (m >>= read)
adds_found g m h = cells_then (g ∷ []) m read h (λ cs. adds_read (guards_of cs ++ g ∷ []) cs (cells_under cs (g ∷ [])))

pub adds_lvalue : (n : Option Name) (u : List Variable → Bool) (find : ℕ → Emit (List Cell)) → ((g : ℕ) → AddsCells (g ∷ []) (find g)) → AddsPiece (lvalue n u find)
adds_lvalue n u find h = record { run = λ g. adds_found g (find g) (h g); find = h }

-- ---- operators

pub adds_divisor : (gs : List ℕ) (p : Place) (o : BinaryOp) (g y : ℕ) → One gs g → Adds gs (test_divisor p o g y)
adds_divisor gs p o g y there =
    adds_cond gs (divides o) (unless g y >>= (λ z. fail z p)) nothing (adds_new gs g op.Equal (y ∷ none ∷ []) (λ z. fail z p) there (λ k. adds_fail (k ∷ gs) k p (here k gs))) (adds_nothing gs)

pub adds_operate : (gs : List ℕ) (p : Place) (o : BinaryOp) (u w : Bool) (g x y : ℕ) → One gs g → Adds gs (operate p o u w g x y)
adds_operate gs p o u w g x y there = adds_then gs (test_divisor p o g y) _ (adds_divisor gs p o g y there) (λ _. adds_set gs g (binary_op o u w) (x ∷ y ∷ []) there)

pub adds_typed : (gs : List ℕ) (p : Place) (o : BinaryOp) (l r : Piece) (g x y : ℕ) → One gs g → Adds gs (typed p o l r g x y)
adds_typed gs p o l r g x y there = record { add = λ e neat. (adds_operate gs p o (l.unsigned e.scope) (r.unsigned e.scope) g x y there).add e neat }

adds_both : (p : Place) (o : BinaryOp) (l r : Piece) (g : ℕ) → AddsPiece l → AddsPiece r → Adds (g ∷ []) (l.run g >>= (λ x. r.run g >>= typed p o l r g x))
adds_both p o l r g h k =
    adds_then (g ∷ []) (l.run g) _ (h.run g) (λ x. adds_then (g ∷ []) (r.run g) (typed p o l r g x) (k.run g) (λ y. adds_typed (g ∷ []) p o l r g x y (here g [])))

pub adds_binary : (p : Place) (o : BinaryOp) (l r : Piece) → AddsPiece l → AddsPiece r → (g : ℕ) → Adds (g ∷ []) (binary_run p o l r g)
adds_binary p binary.LogicAnd l r h k g =
    adds_then (g ∷ []) (l.run g) _ (h.run g) (λ x.
    adds_new (g ∷ []) g op.NotEqual (x ∷ none ∷ []) _ (here g []) (λ c.
    adds_then (c ∷ g ∷ []) (r.run c) _ (adds_one (c ∷ g ∷ []) c (r.run c) (here c (g ∷ [])) (k.run c)) (λ y. adds_set (c ∷ g ∷ []) c op.NotEqual (y ∷ none ∷ []) (here c (g ∷ [])))))
adds_binary p binary.LogicOr l r h k g =
    adds_then (g ∷ []) (l.run g) _ (h.run g) (λ x.
    adds_then (g ∷ []) (when g x) _ (adds_set (g ∷ []) g op.NotEqual (x ∷ none ∷ []) (here g [])) (λ v.
    adds_new (g ∷ []) g op.Equal (x ∷ none ∷ []) _ (here g []) (λ c.
    adds_then (c ∷ g ∷ []) (r.run c) _ (adds_one (c ∷ g ∷ []) c (r.run c) (here c (g ∷ [])) (k.run c)) (λ y.
    adds_then (c ∷ g ∷ []) (emit c (act.Set v op.NotEqual (y ∷ none ∷ []))) (λ _. pure v) (adds_emit (c ∷ g ∷ []) c (act.Set v op.NotEqual (y ∷ none ∷ [])) (here c (g ∷ []))) (λ _. adds_pure (c ∷ g ∷ []) v)))))
adds_binary p binary.BitOr l r h k g = adds_both p binary.BitOr l r g h k
adds_binary p binary.BitXor l r h k g = adds_both p binary.BitXor l r g h k
adds_binary p binary.BitAnd l r h k g = adds_both p binary.BitAnd l r g h k
adds_binary p binary.Equal l r h k g = adds_both p binary.Equal l r g h k
adds_binary p binary.NotEqual l r h k g = adds_both p binary.NotEqual l r g h k
adds_binary p binary.Less l r h k g = adds_both p binary.Less l r g h k
adds_binary p binary.Greater l r h k g = adds_both p binary.Greater l r g h k
adds_binary p binary.AtMost l r h k g = adds_both p binary.AtMost l r g h k
adds_binary p binary.AtLeast l r h k g = adds_both p binary.AtLeast l r g h k
adds_binary p binary.ShiftLeft l r h k g = adds_both p binary.ShiftLeft l r g h k
adds_binary p binary.ShiftRight l r h k g = adds_both p binary.ShiftRight l r g h k
adds_binary p binary.Plus l r h k g = adds_both p binary.Plus l r g h k
adds_binary p binary.Minus l r h k g = adds_both p binary.Minus l r g h k
adds_binary p binary.Times l r h k g = adds_both p binary.Times l r g h k
adds_binary p binary.Divide l r h k g = adds_both p binary.Divide l r g h k
adds_binary p binary.Remainder l r h k g = adds_both p binary.Remainder l r g h k

own_behind : (cs : List Cell) (g : ℕ) → One (guards_of cs ++ g ∷ []) g
own_behind cs g = one_behind (guards_of cs) (g ∷ []) g (here g [])

adds_run : (cs : List Cell) (g : ℕ) (m : Piece) → AddsPiece m → Adds (guards_of cs ++ g ∷ []) (m.run g)
adds_run cs g m h = adds_one (guards_of cs ++ g ∷ []) g (m.run g) (own_behind cs g) (h.run g)

adds_write_found : (cs : List Cell) (g v : ℕ) → Adds (guards_of cs ++ g ∷ []) (write cs v)
adds_write_found cs g v = adds_write (guards_of cs ++ g ∷ []) cs v (cells_under cs (g ∷ []))

pub adds_assign : (p : Place) (o : AssignOp) (l r : Piece) → AddsPiece l → AddsPiece r → (g : ℕ) → Adds (g ∷ []) (assign p o l r g)
adds_assign p Plain l r h k g =
    cells_then (g ∷ []) (l.find g) _ (h.find g) (λ cs.
    adds_then (guards_of cs ++ g ∷ []) (r.run g) _ (adds_run cs g r k) (λ v.
    adds_then (guards_of cs ++ g ∷ []) (write cs v) _ (adds_write_found cs g v) (λ _. adds_pure (guards_of cs ++ g ∷ []) v)))
adds_assign p (With o) l r h k g =
    cells_then (g ∷ []) (l.find g) _ (h.find g) (λ cs.
    adds_then (guards_of cs ++ g ∷ []) (read cs) _ (adds_read (guards_of cs ++ g ∷ []) cs (cells_under cs (g ∷ []))) (λ old.
    adds_then (guards_of cs ++ g ∷ []) (r.run g) _ (adds_run cs g r k) (λ v.
    adds_then (guards_of cs ++ g ∷ []) (typed p o l r g old v) _ (adds_typed (guards_of cs ++ g ∷ []) p o l r g old v (own_behind cs g)) (λ new.
    adds_then (guards_of cs ++ g ∷ []) (write cs new) _ (adds_write_found cs g new) (λ _. adds_pure (guards_of cs ++ g ∷ []) new)))))

pub adds_count : (p : Place) (o : StepOp) (l : Piece) → AddsPiece l → (g : ℕ) → Adds (g ∷ []) (count p o l g)
adds_count p o l h g =
    cells_then (g ∷ []) (l.find g) _ (h.find g) (λ cs.
    adds_then (guards_of cs ++ g ∷ []) (read cs) _ (adds_read (guards_of cs ++ g ∷ []) cs (cells_under cs (g ∷ []))) (λ old.
    adds_then (guards_of cs ++ g ∷ []) (λ e. operate p (step_op o) (l.unsigned e.scope) false g old one e) _ (record { add = λ e neat. (adds_operate (guards_of cs ++ g ∷ []) p (step_op o) (l.unsigned e.scope) false g old one (own_behind cs g)).add e neat }) (λ new.
    adds_then (guards_of cs ++ g ∷ []) (write cs new) _ (adds_write_found cs g new) (λ _. adds_pure (guards_of cs ++ g ∷ []) (old, new)))))

pub adds_choose : (t l r : Piece) → AddsPiece t → AddsPiece l → AddsPiece r → (g : ℕ) → Adds (g ∷ []) (choose t l r g)
adds_choose t l r ht hl hr g =
    adds_then (g ∷ []) (t.run g) _ (ht.run g) (λ x.
    adds_new (g ∷ []) g op.NotEqual (x ∷ none ∷ []) _ (here g []) (λ a.
    adds_new (a ∷ g ∷ []) g op.Equal (x ∷ none ∷ []) _ (inr (here g [])) (λ c.
    let gs : List ℕ = c ∷ a ∷ g ∷ [] in
    adds_then gs fresh _ (adds_fresh gs 1) (λ v.
    adds_then gs (l.run a) _ (adds_one gs a (l.run a) (inr (inl refl)) (hl.run a)) (λ y.
    adds_then gs (copy_to a v y) _ (adds_copy gs a v y (inr (inl refl))) (λ _.
    adds_then gs (r.run c) _ (adds_one gs c (r.run c) (inl refl) (hr.run c)) (λ z.
    adds_then gs (copy_to c v z) _ (adds_copy gs c v z (inl refl)) (λ _. adds_pure gs v))))))))

-- ---- calls

pub adds_no_argument : AddsPiece no_argument
adds_no_argument = record { run = λ g. adds_pure (g ∷ []) none; find = λ g. adds_no_cell (g ∷ []) g (here g []) }

pub adds_argument : (ms : List Piece) (i : ℕ) → Each AddsPiece ms → AddsPiece (argument ms i)
adds_argument [] zero h = adds_no_argument
adds_argument [] (suc i) h = adds_no_argument
adds_argument (m ∷ ms) zero h = h.0
adds_argument (m ∷ ms) (suc i) h = adds_argument ms i h.1

adds_mutex : (g : ℕ) (m : Emit (List Cell)) (f : List Cell → Emit (Unit {0})) → AddsCells (g ∷ []) m → ((cs : List Cell) → Adds (guards_of cs ++ g ∷ []) (f cs)) → Adds (g ∷ []) (m >>= (λ cs. no_value (f cs)))
adds_mutex g m f h k = cells_then (g ∷ []) m _ h (λ cs. adds_no_value (guards_of cs ++ g ∷ []) (f cs) (k cs))

pub adds_builtin : (s : Setting) (p : Place) (c : Builtin) (ms : List Piece) (g : ℕ) → IsPlainCall c → Each AddsPiece ms → Adds (g ∷ []) (builtin_call s p c ms g)
adds_builtin s p b.PthreadCreate ms g plain h =
    cells_then (g ∷ []) ((argument ms 0).find g) _ ((adds_argument ms 0 h).find g) (λ cs.
    adds_then (guards_of cs ++ g ∷ []) ((argument ms 3).run g) _ (adds_run cs g (argument ms 3) (adds_argument ms 3 h)) (λ v.
    adds_create (guards_of cs ++ g ∷ []) g cs (function_in s (argument ms 2).spelled) v (own_behind cs g) (cells_under cs (g ∷ []))))
adds_builtin s p b.PthreadJoin ms g plain h = adds_then (g ∷ []) ((argument ms 0).run g) (join g) ((adds_argument ms 0 h).run g) (λ v. adds_handle (g ∷ []) g v (here g []))
adds_builtin s p b.PthreadExit ms g plain h = adds_then (g ∷ []) ((argument ms 0).run g) _ ((adds_argument ms 0 h).run g) (λ _. adds_no_value (g ∷ []) (exit_thread g) (adds_exit (g ∷ []) g (here g [])))
adds_builtin s p b.Exit ms g plain h = adds_then (g ∷ []) ((argument ms 0).run g) _ ((adds_argument ms 0 h).run g) (λ _. adds_no_value (g ∷ []) (stop g) (adds_stop (g ∷ []) g (here g [])))
adds_builtin s p b.Abort ms g plain h = adds_no_value (g ∷ []) (stop g) (adds_stop (g ∷ []) g (here g []))
adds_builtin s p b.Lock ms g plain h = adds_mutex g ((argument ms 0).find g) (lock_cells g) ((adds_argument ms 0 h).find g) (λ cs. adds_lock (guards_of cs ++ g ∷ []) g cs (own_behind cs g) (cells_under cs (g ∷ [])))
adds_builtin s p b.Unlock ms g plain h = adds_mutex g ((argument ms 0).find g) (unlock_cells g) ((adds_argument ms 0 h).find g) (λ cs. adds_unlock (guards_of cs ++ g ∷ []) g cs (own_behind cs g) (cells_under cs (g ∷ [])))
adds_builtin s p b.Init ms g plain h = adds_mutex g ((argument ms 0).find g) (unlock_cells g) ((adds_argument ms 0 h).find g) (λ cs. adds_unlock (guards_of cs ++ g ∷ []) g cs (own_behind cs g) (cells_under cs (g ∷ [])))
adds_builtin s p b.Destroy ms g plain h = cells_then (g ∷ []) ((argument ms 0).find g) (λ _. pure none) ((adds_argument ms 0 h).find g) (λ cs. adds_pure (guards_of cs ++ g ∷ []) none)
adds_builtin s p b.Assert ms g plain h = adds_then (g ∷ []) ((argument ms 0).run g) (assert p g) ((adds_argument ms 0 h).run g) (λ v. adds_assert (g ∷ []) p g v (here g []))
adds_builtin s p b.Assume ms g plain h = adds_then (g ∷ []) ((argument ms 0).run g) (assume g) ((adds_argument ms 0 h).run g) (λ v. adds_assume (g ∷ []) g v (here g []))
adds_builtin s p b.AssertFail ms g plain h = adds_no_value (g ∷ []) (fail g p) (adds_fail (g ∷ []) g p (here g []))
adds_builtin s p b.ReachError ms g plain h = adds_no_value (g ∷ []) (fail g p) (adds_fail (g ∷ []) g p (here g []))
adds_builtin s p b.AnyInt ms g plain h = adds_any (g ∷ []) g (here g [])
adds_builtin s p b.AnyUint ms g plain h = adds_any (g ∷ []) g (here g [])
adds_builtin s p b.AnyBool ms g plain h = adds_any_bool (g ∷ []) g (here g [])
adds_builtin s p b.Begin ms g plain h = absurd plain
adds_builtin s p b.Finish ms g plain h = absurd plain
adds_builtin s p b.Synchronize ms g plain h = adds_no_value (g ∷ []) (emit g act.Fence) (adds_emit (g ∷ []) g act.Fence (here g []))

pub adds_values : (done : List ℕ) (ms : List Piece) (g : ℕ) → Each AddsPiece ms → Adds (g ∷ []) (values_of done ms g)
adds_values done [] g h = adds_pure (g ∷ []) done
adds_values done (m ∷ ms) g h = adds_then (g ∷ []) (m.run g) _ (h.0.run g) (λ v. adds_values (done ++ v ∷ []) ms g h.1)
