-- Numbers that are taken, actions, reads and writes of cells: what is emitted does what the thread does.
use Rattle.std.proofs.Common.{◌≡◌, ℕ, ◌+◌, ◌<◌, ◌≤◌, inl, inr, List, [], ◌∷◌, ◌++◌, refl, sym, ap, ◌∙◌, subst, append-nil, arith}
use Rattle.dg_base.specs.declared.operators.Op.TheVariants as op
use Rattle.axiom_model.specs.declared.Action.{Action}
use Rattle.axiom_model.specs.declared.Action.TheVariants as action
use Rattle.run_model.specs.declared.state.Halt.TheVariants as halt
use Rattle.run_model.specs.declared.state.Need.{Need}
use Rattle.run_model.specs.declared.state.Need.TheVariants.{ReadOf}
use Rattle.run_model.specs.declared.state.Slot.{Slot}
use Rattle.run_model.specs.declared.state.Slot.TheVariants as slot
use Rattle.run_model.specs.Steps.{State, Outcome, Step}
use Rattle.run_model.specs.Steps as machine
use Rattle.run_model.specs.Cells as cells
use Rattle.flat_prog.specs.declared.FlatAct.{FlatAct}
use Rattle.flat_prog.specs.declared.FlatAct.TheVariants as act
use Rattle.flat_prog.specs.Runs.{FlatState, Goes, Over, Short, with_local, set_local, go_on, steps, take_into}
use Rattle.flat_prog.specs.Runs as runs
use Rattle.emit_steps.specs.declared.state.Cell.{Cell}
use Rattle.emit_steps.specs.declared.state.Cell.TheVariants.{Own, Common}
use Rattle.emit_steps.specs.Emitting.{Emitted, Emit, fresh, emit, copy_to}
use Rattle.emit_steps.specs.Pieces.{any, read_cell, read_cells, read, write_cell, write}
use Rattle.emit_steps.proofs.Growth.{Each, each_map, New, new_behind, One, Neat}
use Rattle.emit_steps.proofs.Adding.{Since, Adds, adds_fresh, fresh_new, adds_emit, guard_of, adds_read_cells, adds_read, adds_write, adds_read_cell, adds_write_cell}
use Rattle.emit_steps.proofs.AddingForms.{guards_of, cells_guarded, adds_any}
use Rattle.emit_steps.proofs.Running.{local_same, local_other, Among, among_within, Matches, constants_kept, Reaches, reaches_before, Machine, ran, Beside, Kept, Follows, beside_dead, ran_over, ran_short}
use Rattle.emit_steps.proofs.Simulating.{Held, ValueAt, IsAt, Denotes, Holds, Val, Done, denotes_behind, holds_behind, Finds, finds_holds, kept_none, Sim, follows_after, ran_made, beside_next, few_kept, Writable, beside_wrote, wrote, new_writable, new_safe, Has, has_value}
use Rattle.emit_steps.proofs.VariableCells.{cell_value, matches_written, among_there}

module _ (m : Machine) where
  -- ---- what does nothing

  -- an emission under guards that are 0 does nothing
  pub sim_skip : {A : Type 0} (xs : List ℕ) (held : Held) (gs : List ℕ) (em : Emit A) → Adds gs em → ((k : ℕ) → One gs k → Has m held k 0) → Sim m {B = Unit {0}} Done xs held em (machine.pure tt)
  sim_skip xs held gs em adds dead = record {
    long = λ e neat. (gs, adds.add e neat);
    live = λ e t s b reach holds. record {
      state = t;
      beside = beside_dead m gs e (em e).1 t s (adds.add e b.neat) reach b (λ k one. has_value m xs e t s held k 0 b holds (dead k one));
      kept = kept_none xs e t;
      answer = tt;
    };
  }

  -- ---- actions

  -- the step makes an action
  pub acted :
      (xs : List ℕ) (e : Emitted) (t : FlatState) (s : State) (g : ℕ) (a : FlatAct) (made : Action) → Beside m e t s → t.values g ≡ 1 → runs.act m.instances a t ≡ Goes (runs.make made t) →
      Follows {B = Unit {0}} Done m xs e t (emit g a e) (machine.make made s)
  acted xs e t s g a made b live does =
      let f : Emitted = (emit g a e).1 in
      let since : Since (g ∷ []) e f = (adds_emit (g ∷ []) g a (inl refl)).add e b.neat in
      let u : FlatState = runs.make made t in
      let run : ran m f ≡ Goes u = ran_made m e t g a b.ran live ∙ ap (λ p. go_on p (steps m.instances [])) does in
      record {
        state = u;
        beside = beside_next m (g ∷ []) e f t u s (record s { actions = s.actions ++ made ∷ [] }) since b (record {
          ran = run;
          constants = b.constants;
          idle = λ l le plain. b.idle l le plain;
          matches = b.matches;
          creates = b.creates;
          few = few_kept m (g ∷ []) e f t s since b;
          depth = refl;
          opened = λ deep. refl;
          script = b.script;
          used = b.used;
          actions = ap (λ acts. acts ++ made ∷ []) b.actions;
        });
        kept = λ l used apart other free. refl;
        answer = tt;
      }

  pub sim_make :
      (xs : List ℕ) (held : Held) (g : ℕ) (a : FlatAct) (made : Action) → Has m held g 1 →
      ((e : Emitted) (t : FlatState) (s : State) → Beside m e t s → Holds xs e t held → runs.act m.instances a t ≡ Goes (runs.make made t)) → Sim m {B = Unit {0}} Done xs held (emit g a) (machine.make made)
  sim_make xs held g a made live does = record {
    long = λ e neat. (g ∷ [], (adds_emit (g ∷ []) g a (inl refl)).add e neat);
    live = λ e t s b reach holds. acted xs e t s g a made b (has_value m xs e t s held g 1 b holds live) (does e t s b holds);
  }

  -- ---- numbers

  -- the value that was taken, or read, is in the local
  abbrev pub Stored : ℕ → Emitted → FlatState → Unit {0} → ℕ → Type 0
  Stored to f t a v = t.values to ≡ v

  -- the step takes a number into a local, and makes an action with it or none
  taken :
      (xs : List ℕ) (e : Emitted) (t : FlatState) (s : State) (g to : ℕ) (a : FlatAct) (need : Need) (made : ℕ → List Action) → Beside m e t s → t.values g ≡ 1 → Writable m e (emit g a e).1 to →
      runs.act m.instances a t ≡ take_into to made t.script t → (script : List ℕ) → t.script ≡ script → s.script ≡ script →
      Follows (Stored to) m (to ∷ xs) e t (emit g a e) (machine.go_on (machine.take_from need script s) (λ v r. machine.Goes v (record r { actions = r.actions ++ made v })))
  taken xs e t s g to a need made b live w does [] same_flat same =
      let f : Emitted = (emit g a e).1 in
      record {
        state = t;
        short = ran_made m e t g a b.ran live ∙ (ap (λ p. go_on p (steps m.instances [])) does ∙ ap (λ ss. go_on (take_into to made ss t) (steps m.instances [])) same_flat);
      }
  taken xs e t s g to a need made b live w does (v ∷ vs) same_flat same =
      let f : Emitted = (emit g a e).1 in
      let since : Since (g ∷ []) e f = (adds_emit (g ∷ []) g a (inl refl)).add e b.neat in
      let u : FlatState = wrote m t to v vs (t.used + 1) (t.actions ++ made v) in
      let run : ran m f ≡ Goes u = ran_made m e t g a b.ran live ∙ (ap (λ p. go_on p (steps m.instances [])) does ∙ ap (λ ss. go_on (take_into to made ss t) (steps m.instances [])) same_flat) in
      record {
        state = u;
        beside = beside_wrote m (g ∷ []) e f t s to v vs vs (t.used + 1) (s.used + 1) (t.actions ++ made v) (s.actions ++ made v) since b w refl (ap (λ n. n + 1) b.used) (ap (λ xs. xs ++ made v) b.actions) run;
        kept = λ l used apart other free. local_other t.values to v l (λ is. free (inl is));
        answer = local_same t.values to v;
      }

  -- an action that is none
  no_action : (s : State) → record s { actions = s.actions ++ [] } ≡ s
  no_action s = ap (λ acts. record s { actions = acts }) (append-nil s.actions)

  after_none : (o : Outcome ℕ) → machine.go_on o (λ v r. machine.Goes v (record r { actions = r.actions ++ [] })) ≡ o
  after_none (machine.Goes v s) = ap (λ r. machine.Goes v r) (no_action s)
  after_none (machine.Halts h s) = refl

  new_or_free : (xs : List ℕ) (e : Emitted) (l : ℕ) → l < e.next → (One xs l → ⊥) → One (e.next ∷ xs) l → ⊥
  new_or_free xs e l used free (inl same) = absurd (omega arith)
  new_or_free xs e l used free (inr some) = free some

  pub beside_fresh : (e : Emitted) (t : FlatState) (s : State) → Reaches (fresh e).1 m.last → Beside m e t s → Beside m (fresh e).1 t s
  beside_fresh e t s reach b = beside_dead m [] e (fresh e).1 t s ((adds_fresh [] 1).add e b.neat) reach b (λ k none. absurd none)

  -- a local that is new may be written from then on
  pub fresh_writable : (e f : Emitted) (t : FlatState) (s : State) → Beside m e t s → Reaches f m.last → (fresh e).1.next ≤ f.next → f.numbers ≡ e.numbers → Writable m (fresh e).1 f e.next
  fresh_writable e f t s b reach le same =
      let w : Writable m e f e.next = new_writable m e f t s e.next b reach (omega arith, omega (arith, le), subst (λ ns. Each (λ n. n.local ≡ e.next → ⊥) ns) (sym same) (fresh_new e b.neat).2) in
      record { high = w.high; used = w.used; plain = w.plain; apart = w.apart; opened = w.opened }

  -- a number that is taken is in a new local
  any_at : (xs : List ℕ) (e : Emitted) (t : FlatState) (g : ℕ) (held : Held) (s : State) (o : Outcome ℕ) → Neat e → Beside m e t s → Reaches (any g e).1 m.last → Holds xs e t held
      → Follows (Stored e.next) m (e.next ∷ xs) (fresh e).1 t (emit g (act.Take e.next) (fresh e).1) o → Follows (Val xs) m xs e t (any g e) o
  any_at xs e t g held s (machine.Goes v r) neat b reach holds w =
      let since : Since (g ∷ []) e (any g e).1 = (adds_any (g ∷ []) g (inl refl)).add e neat in
      record {
        state = w.state;
        beside = w.beside;
        kept = λ l used apart other free. w.kept l (omega arith) apart other (new_or_free xs e l used free);
        answer = (new_safe m (g ∷ []) e (any g e).1 t s e.next since b (fresh_new e neat), λ some. let low : e.next < e.next = holds.low e.next some in absurd (omega arith), w.answer);
      }
  any_at xs e t g held s (machine.Halts (halt.Over x) r) neat b reach holds w = w
  any_at xs e t g held s (machine.Halts (halt.Short n) r) neat b reach holds w = w

  -- any number
  pub sim_any : (xs : List ℕ) (held : Held) (g : ℕ) (need : Need) → Has m held g 1 → Sim m (Val xs) xs held (any g) (machine.take_number need)
  sim_any xs held g need live = record {
    long = λ e neat. (g ∷ [], (adds_any (g ∷ []) g (inl refl)).add e neat);
    live = λ e t s b reach holds.
        let f : Emitted = (fresh e).1 in
        let before : Reaches f m.last = reaches_before (g ∷ []) f (any g e).1 m.last ((adds_emit (g ∷ []) g (act.Take e.next) (inl refl)).add f ((adds_fresh [] 1).add e b.neat).neat).grown reach in
        let at : Beside m f t s = beside_fresh e t s before b in
        let w : Writable m f (any g e).1 e.next = fresh_writable e (any g e).1 t s b reach (omega arith) refl in
        any_at xs e t g held s (machine.take_from need s.script s) b.neat b reach holds
        (subst (Follows (Stored e.next) m (e.next ∷ xs) f t (emit g (act.Take e.next) f)) (after_none (machine.take_from need s.script s))
        (taken xs f t s g e.next (act.Take e.next) need (λ v. []) at (has_value m xs e t s held g 1 b holds live) w refl s.script b.script refl));
  }

  -- ---- what follows does nothing more

  dead_after :
      (to : ℕ) (xs : List ℕ) (e : Emitted) (t : FlatState) (gs : List ℕ) (em : Emit (Unit {0})) (n : Emit (Unit {0})) (o : Outcome ℕ) → Neat (em e).1 → Adds gs n → Reaches (n (em e).1).1 m.last →
      ((u : FlatState) → Kept xs e t u → (k : ℕ) → One gs k → u.values k ≡ 0) → Follows (Stored to) m xs e t (em e) o → Follows (Stored to) m xs e t (n (em e).1) o
  dead_after to xs e t gs em n (machine.Goes v s) neat adds reach dead w = record {
    state = w.state;
    beside = beside_dead m gs (em e).1 (n (em e).1).1 w.state s (adds.add (em e).1 neat) reach w.beside (λ k one. dead w.state w.kept k one);
    kept = w.kept;
    answer = w.answer;
  }
  dead_after to xs e t gs em n (machine.Halts (halt.Over x) s) neat adds reach dead w =
      record { state = w.state; over = ran_over m gs (em e).1 (n (em e).1).1 _ w.state (adds.add (em e).1 neat).grown w.over; used = w.used; actions = w.actions }
  dead_after to xs e t gs em n (machine.Halts (halt.Short k) s) neat adds reach dead w =
      record { state = w.state; short = ran_short m gs (em e).1 (n (em e).1).1 w.state (adds.add (em e).1 neat).grown w.short }

  -- the guards of cells that are not meant
  off_guards : (xs : List ℕ) (e : Emitted) (t u : FlatState) (cs : List Cell) → Kept xs e t u → Each (λ d. ValueAt xs e t (guard_of d) 0) cs → (k : ℕ) → One (guards_of cs) k → u.values k ≡ 0
  off_guards xs e t u [] kept off k none = absurd none
  off_guards xs e t u (c ∷ cs) kept off k (inl same) = ap u.values same ∙ (kept (guard_of c) off.0.0.used off.0.0.apart off.0.0.other off.0.1 ∙ off.0.2)
  off_guards xs e t u (c ∷ cs) kept off k (inr rest) = off_guards xs e t u cs kept off.1 k rest

  -- ---- reads

  -- one cell is read into a local
  read_one :
      (xs : List ℕ) (e : Emitted) (t : FlatState) (s : State) (to : ℕ) (c : Cell) (x : Slot) → Beside m e t s → Writable m e (read_cell to c e).1 to → t.values (guard_of c) ≡ 1 → IsAt e.scope c x →
      Follows (Stored to) m (to ∷ xs) e t (read_cell to c e) (cells.read x s)
  read_one xs e t s to (Own g l) (slot.Own i j) b w live at =
      let f : Emitted = (copy_to g to l e).1 in
      let since : Since (g ∷ []) e f = (adds_emit (g ∷ []) g (act.Set to op.UnaryPlus (l ∷ [])) (inl refl)).add e b.neat in
      let run : ran m f ≡ Goes (set_local to (t.values l) t) = ran_made m e t g (act.Set to op.UnaryPlus (l ∷ [])) b.ran live in
      record {
        state = set_local to (t.values l) t;
        beside = beside_wrote m (g ∷ []) e f t s to (t.values l) t.script s.script t.used s.used t.actions s.actions since b w b.script b.used b.actions run;
        kept = λ k used apart other free. local_other t.values to (t.values l) k (λ is. free (inl is));
        answer = local_same t.values to (t.values l) ∙ (ap t.values at.3 ∙ sym (cell_value t.values e.scope s.locals i j at.0 b.matches at.1 at.2));
      }
  read_one xs e t s to (Own g l) (slot.Common d) b w live at = absurd at
  read_one xs e t s to (Common g c) (slot.Own i j) b w live at = absurd at
  read_one xs e t s to (Common g c) (slot.Common d) b w live at =
      subst (λ k. Follows (Stored to) m (to ∷ xs) e t (emit g (act.Read c to) e) (cells.read (slot.Common k) s)) at
      (taken xs e t s g to (act.Read c to) (ReadOf c) (λ v. action.Read c v ∷ []) b live w refl s.script b.script refl)

  writable_later : (e f : Emitted) (to : ℕ) → e.next ≤ f.next → Writable m e e to → Writable m e f to
  writable_later e f to le w = record { high = w.high; used = omega (arith, w.used); plain = w.plain; apart = w.apart; opened = w.opened }

  writable_behind : (gs : List ℕ) (e f : Emitted) (to : ℕ) → Since gs e f → Writable m e e to → Writable m f f to
  writable_behind gs e f to h w = record {
    high = w.high;
    used = omega (arith, w.used, h.grown.next);
    plain = w.plain;
    apart = λ a. w.apart (subst (λ vs. Among vs to) h.scope a);
    opened = λ deep same. let there : e.depth ≡ 0 → ⊥ = λ z. deep (h.grown.depth ∙ z) in w.opened there (sym (h.grown.opened there) ∙ same);
  }

  -- the cells are read in turn, of which one is meant
  read_all :
      (xs : List ℕ) (e : Emitted) (t : FlatState) (s : State) (to : ℕ) (cs : List Cell) (x : Slot) → Beside m e t s → Writable m e e to → Reaches (read_cells to cs e).1 m.last → Denotes (to ∷ xs) e t cs x →
      Follows (Stored to) m (to ∷ xs) e t (read_cells to cs e) (cells.read x s)
  read_all xs e t s to [] x b w reach d = absurd d
  read_all xs e t s to (c ∷ cs) x b w reach (inl on) =
      let f : Emitted = (read_cell to c e).1 in
      let first : Since (guard_of c ∷ []) e f = (adds_read_cell (guard_of c ∷ []) to c (inl refl)).add e b.neat in
      let rest : Adds (guards_of cs) (read_cells to cs) = adds_read_cells (guards_of cs) to cs (cells_guarded cs cs (λ k h. h)) in
      dead_after to (to ∷ xs) e t (guards_of cs) (read_cell to c) (read_cells to cs) (cells.read x s) first.neat rest reach (λ u kept. off_guards (to ∷ xs) e t u cs kept on.2)
      (read_one xs e t s to c x b (writable_later e f to first.grown.next w) on.0.2 on.1)
  read_all xs e t s to (c ∷ cs) x b w reach (inr off) =
      let f : Emitted = (read_cell to c e).1 in
      let gs : List ℕ = guard_of c ∷ [] in
      let first : Since gs e f = (adds_read_cell gs to c (inl refl)).add e b.neat in
      let rest : Adds (guards_of cs) (read_cells to cs) = adds_read_cells (guards_of cs) to cs (cells_guarded cs cs (λ k h. h)) in
      let before : Reaches f m.last = reaches_before (guards_of cs) f (read_cells to cs f).1 m.last (rest.add f first.neat).grown reach in
      let at : Beside m f t s = beside_dead m gs e f t s first before b (λ k one. off_guards (to ∷ xs) e t t (c ∷ []) (kept_none (to ∷ xs) e t) (off.0, tt) k one) in
      follows_after m (Stored to) gs (to ∷ xs) e f t t (read_cells to cs f) (cells.read x s) first (kept_none (to ∷ xs) e t)
      (read_all xs f t s to cs x at (writable_behind gs e f to first w) reach (denotes_behind gs (to ∷ xs) e f t t cs x first (kept_none (to ∷ xs) e t) off.1))

  -- the guards of what is found are older than a new local
  pub value_fresh : (xs : List ℕ) (e : Emitted) (t : FlatState) (a v : ℕ) → ValueAt xs e t a v → ValueAt (e.next ∷ xs) (fresh e).1 t a v
  value_fresh xs e t a v at = (record { used = omega (arith, at.0.used); apart = at.0.apart; other = at.0.other }, new_or_free xs e a at.0.used at.1, at.2)

  pub denotes_fresh : (xs : List ℕ) (e : Emitted) (t : FlatState) (cs : List Cell) (x : Slot) → Denotes xs e t cs x → Denotes (e.next ∷ xs) (fresh e).1 t cs x
  denotes_fresh xs e t [] x d = absurd d
  denotes_fresh xs e t (c ∷ cs) x (inl on) =
      inl (value_fresh xs e t (guard_of c) 1 on.0, on.1, each_map (λ d. ValueAt xs e t (guard_of d) 0) (λ d. ValueAt (e.next ∷ xs) (fresh e).1 t (guard_of d) 0) (λ d at. value_fresh xs e t (guard_of d) 0 at) cs on.2)
  denotes_fresh xs e t (c ∷ cs) x (inr off) = inr (value_fresh xs e t (guard_of c) 0 off.0, denotes_fresh xs e t cs x off.1)

  pub stored_value : (xs : List ℕ) (e f : Emitted) (t : FlatState) (s : State) (held : Held) (o : Outcome ℕ) → Since [] e (fresh e).1 → Beside m e t s → Holds xs e t held → (gs : List ℕ) → Since gs e f → New e f e.next
      → Follows (Stored e.next) m (e.next ∷ xs) (fresh e).1 t (tt, f) o → Follows (Val xs) m xs e t (e.next, f) o
  stored_value xs e f t s held (machine.Goes v r) h b holds gs since new w = record {
    state = w.state;
    beside = w.beside;
    kept = λ l used apart other free. w.kept l (omega arith) apart other (new_or_free xs e l used free);
    answer = (new_safe m gs e f t s e.next since b new, λ some. let low : e.next < e.next = holds.low e.next some in absurd (omega arith), w.answer);
  }
  stored_value xs e f t s held (machine.Halts (halt.Over x) r) h b holds gs since new w = w
  stored_value xs e f t s held (machine.Halts (halt.Short n) r) h b holds gs since new w = w

  -- the value of a slot
  pub sim_read : (xs : List ℕ) (held : Held) (cs : List Cell) (x : Slot) → Finds m held cs x → Sim m (Val xs) xs held (read cs) (cells.read x)
  sim_read xs held cs x there = record {
    long = λ e neat. (guards_of cs, (adds_read (guards_of cs) cs (cells_guarded cs cs (λ k h. h))).add e neat);
    live = λ e t s b reach holds.
        let gs : List ℕ = guards_of cs in
        let f : Emitted = (fresh e).1 in
        let h : Since [] e f = (adds_fresh [] 1).add e b.neat in
        let rest : Since gs f (read_cells e.next cs f).1 = (adds_read_cells gs e.next cs (cells_guarded cs cs (λ k h. h))).add f h.neat in
        let since : Since gs e (read cs e).1 = (adds_read gs cs (cells_guarded cs cs (λ k h. h))).add e b.neat in
        let before : Reaches f m.last = reaches_before gs f (read_cells e.next cs f).1 m.last rest.grown reach in
        let w : Writable m f f e.next = fresh_writable e f t s b before (omega arith) refl in
        stored_value xs e (read cs e).1 t s held (cells.read x s) h b holds gs since (new_behind gs e f (read_cells e.next cs f).1 e.next rest.grown (fresh_new e b.neat))
        (read_all xs f t s e.next cs x (beside_fresh e t s before b) w reach (denotes_fresh xs e t cs x (finds_holds m xs e t held cs x holds.all there)));
  }

  -- ---- writes

  -- one cell is written
  write_one :
      (xs : List ℕ) (held : Held) (e : Emitted) (t : FlatState) (s : State) (v n : ℕ) (c : Cell) (x : Slot) → Beside m e t s → Holds xs e t held → Reaches (write_cell v c e).1 m.last → t.values (guard_of c) ≡ 1 → Has m held v n → IsAt e.scope c x →
      Follows {B = Unit {0}} Done m xs e t (write_cell v c e) (cells.write x n s)
  write_one xs held e t s v n (Own g l) (slot.Own i j) b holds reach live has at =
      let f : Emitted = (copy_to g l v e).1 in
      let since : Since (g ∷ []) e f = (adds_emit (g ∷ []) g (act.Set l op.UnaryPlus (v ∷ [])) (inl refl)).add e b.neat in
      let value : t.values v ≡ n = has_value m xs e t s held v n b holds has in
      let among : Among e.scope l = subst (Among e.scope) (sym at.3) (among_there e.scope i j at.0 at.1 at.2) in
      let within : (5 ≤ l) × (l < e.next) = among_within 5 e.scope e.next l b.stacked among in
      let run : ran m f ≡ Goes (set_local l n t) = ran_made m e t g (act.Set l op.UnaryPlus (v ∷ [])) b.ran live ∙ ap (λ w. Goes (set_local l w t)) value in
      let there : Matches (with_local t.values l n) e.scope (cells.with_cell s.locals i j n) =
      subst (λ k. Matches (with_local t.values k n) e.scope (cells.with_cell s.locals i j n)) (sym at.3) (matches_written t.values 5 e.scope e.next s.locals i j n at.0 b.stacked b.matches at.1 at.2) in
      record {
        state = set_local l n t;
        beside = beside_next m (g ∷ []) e f t (set_local l n t) s (record s { locals = cells.with_cell s.locals i j n }) since b (record {
          ran = run;
          constants = constants_kept m t.values l n (omega (arith, within.0)) (b.plain l among) b.constants;
          idle = λ k le plain. local_other t.values l n k (λ is. absurd (omega (arith, within.1))) ∙ b.idle k le plain;
          matches = there;
          creates = local_other t.values l n 4 (λ is. absurd (omega (arith, within.0))) ∙ b.creates;
          few = few_kept m (g ∷ []) e f t s since b;
          depth = refl;
          opened = λ deep. local_other t.values l n e.opened (λ is. (b.opened deep).0.apart (subst (Among e.scope) (sym is) among));
          script = b.script;
          used = b.used;
          actions = b.actions;
        });
        kept = λ k used apart other free. local_other t.values l n k (λ is. apart (subst (Among e.scope) (sym is) among));
        answer = tt;
      }
  write_one xs held e t s v n (Own g l) (slot.Common d) b holds reach live has at = absurd at
  write_one xs held e t s v n (Common g c) (slot.Own i j) b holds reach live has at = absurd at
  write_one xs held e t s v n (Common g c) (slot.Common d) b holds reach live has at =
      let value : t.values v ≡ n = has_value m xs e t s held v n b holds has in
      acted xs e t s g (act.Write c v) (action.Write d n) b live
      (ap (λ k. Goes (runs.make (action.Write c k) t)) value ∙ ap (λ k. Goes (runs.make (action.Write k n) t)) at)

  done_after :
      (xs : List ℕ) (e : Emitted) (t : FlatState) (gs : List ℕ) (em n : Emit (Unit {0})) (o : Outcome (Unit {0})) → Neat (em e).1 → Adds gs n → Reaches (n (em e).1).1 m.last →
      ((u : FlatState) → Kept xs e t u → (k : ℕ) → One gs k → u.values k ≡ 0) → Follows {B = Unit {0}} Done m xs e t (em e) o → Follows {B = Unit {0}} Done m xs e t (n (em e).1) o
  done_after xs e t gs em n (machine.Goes v s) neat adds reach dead w = record {
    state = w.state;
    beside = beside_dead m gs (em e).1 (n (em e).1).1 w.state s (adds.add (em e).1 neat) reach w.beside (λ k one. dead w.state w.kept k one);
    kept = w.kept;
    answer = tt;
  }
  done_after xs e t gs em n (machine.Halts (halt.Over x) s) neat adds reach dead w =
      record { state = w.state; over = ran_over m gs (em e).1 (n (em e).1).1 _ w.state (adds.add (em e).1 neat).grown w.over; used = w.used; actions = w.actions }
  done_after xs e t gs em n (machine.Halts (halt.Short k) s) neat adds reach dead w =
      record { state = w.state; short = ran_short m gs (em e).1 (n (em e).1).1 w.state (adds.add (em e).1 neat).grown w.short }

  write_all :
      (xs : List ℕ) (held : Held) (e : Emitted) (t : FlatState) (s : State) (v n : ℕ) (cs : List Cell) (x : Slot) → Beside m e t s → Holds xs e t held → Reaches (write cs v e).1 m.last → Has m held v n → Denotes xs e t cs x →
      Follows {B = Unit {0}} Done m xs e t (write cs v e) (cells.write x n s)
  write_all xs held e t s v n [] x b holds reach has d = absurd d
  write_all xs held e t s v n (c ∷ cs) x b holds reach has (inl on) =
      let f : Emitted = (write_cell v c e).1 in
      let first : Since (guard_of c ∷ []) e f = (adds_write_cell (guard_of c ∷ []) v c (inl refl)).add e b.neat in
      let rest : Adds (guards_of cs) (write cs v) = adds_write (guards_of cs) cs v (cells_guarded cs cs (λ k h. h)) in
      let before : Reaches f m.last = reaches_before (guards_of cs) f (write cs v f).1 m.last (rest.add f first.neat).grown reach in
      done_after xs e t (guards_of cs) (write_cell v c) (write cs v) (cells.write x n s) first.neat rest reach (λ u kept. off_guards xs e t u cs kept on.2)
      (write_one xs held e t s v n c x b holds before on.0.2 has on.1)
  write_all xs held e t s v n (c ∷ cs) x b holds reach has (inr off) =
      let f : Emitted = (write_cell v c e).1 in
      let gs : List ℕ = guard_of c ∷ [] in
      let first : Since gs e f = (adds_write_cell gs v c (inl refl)).add e b.neat in
      let rest : Adds (guards_of cs) (write cs v) = adds_write (guards_of cs) cs v (cells_guarded cs cs (λ k h. h)) in
      let before : Reaches f m.last = reaches_before (guards_of cs) f (write cs v f).1 m.last (rest.add f first.neat).grown reach in
      let at : Beside m f t s = beside_dead m gs e f t s first before b (λ k one. off_guards xs e t t (c ∷ []) (kept_none xs e t) (off.0, tt) k one) in
      follows_after m {B = Unit {0}} Done gs xs e f t t (write cs v f) (cells.write x n s) first (kept_none xs e t)
      (write_all xs held f t s v n cs x at (holds_behind gs xs e f t t held first (kept_none xs e t) holds) reach has (denotes_behind gs xs e f t t cs x first (kept_none xs e t) off.1))

  -- a value is stored in a slot
  pub sim_write : (xs : List ℕ) (held : Held) (cs : List Cell) (x : Slot) (v n : ℕ) → Finds m held cs x → Has m held v n → Sim m Done xs held (write cs v) (cells.write x n)
  sim_write xs held cs x v n there has = record {
    long = λ e neat. (guards_of cs, (adds_write (guards_of cs) cs v (cells_guarded cs cs (λ k h. h))).add e neat);
    live = λ e t s b reach holds. write_all xs held e t s v n cs x b holds reach has (finds_holds m xs e t held cs x holds.all there);
  }
