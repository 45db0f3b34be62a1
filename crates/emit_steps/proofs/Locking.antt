-- Mutexes, sections and creates do what the thread does.
use Rattle.std.proofs.Common.{◌≡◌, ℕ, inl, inr, List, [], ◌∷◌, Bool, true, false, refl, sym, ap, ◌∙◌}
use Rattle.std.proofs.lemmas.Bool.{eqb-true, eq-eqb}
use Rattle.std.specs.Prelude.{cond, nat_eq, not}
use Rattle.dg_base.specs.Values.{is_true, truth_of}
use Rattle.axiom_model.specs.declared.Action.TheVariants as action
use Rattle.run_model.specs.declared.state.Ending.TheVariants as ending
use Rattle.run_model.specs.declared.state.Need.TheVariants.{ReadOf}
use Rattle.run_model.specs.declared.state.Slot.{Slot}
use Rattle.run_model.specs.declared.state.Slot.TheVariants as slot
use Rattle.run_model.specs.Steps.{State, Outcome, Step}
use Rattle.run_model.specs.Steps as machine
use Rattle.run_model.specs.Cells as cells
use Rattle.run_model.specs.Calls as calls
use Rattle.flat_prog.specs.declared.FlatAct.TheVariants as act
use Rattle.flat_prog.specs.Runs.{FlatState}
use Rattle.emit_steps.specs.declared.state.Cell.{Cell}
use Rattle.emit_steps.specs.declared.state.Cell.TheVariants.{Own, Common}
use Rattle.emit_steps.specs.Emitting.{Emitted, Emit, ◌>>◌, nothing, none, one, fresh, emit, when, ask, keep_guard, open_there, open_section, open_at_once, close_section}
use Rattle.emit_steps.specs.Pieces.{read, read_cells, write, common_in, hold_cells, lock_cells, unlock_cells}
use Rattle.emit_steps.proofs.Growth.{Each, New, new_behind, One, Neat}
use Rattle.emit_steps.proofs.Adding.{Since, since_then, adds_emit, adds_fresh, fresh_new, adds_read, adds_read_cells, adds_write, guard_of}
use Rattle.emit_steps.proofs.AddingForms.{guards_of, cells_guarded, since_kept, opens_section, opens_at_once, closes_section, steady_hold, steady_write}
use Rattle.emit_steps.proofs.Running.{Reaches, reaches_before, Machine, Beside, Follows}
use Rattle.emit_steps.proofs.Simulating.{Long, long_then, sim_same, go_on_twice, beside_next, Value, Points, Held, ValueAt, Denotes, Holds, Val, Done, kept_none, Sim, Next, sim_then, next_value, sim_pure, sim_also, follows_then, In, Finds, has_value, finds_holds, sim_quiet, sim_silent, sim_halted}
use Rattle.emit_steps.proofs.Acting.{sim_skip, sim_read, sim_write, acted}
use Rattle.emit_steps.proofs.Finding.{sim_when, sim_ends, only_off}
use Rattle.emit_steps.proofs.Evaluating.{sim_untouched}
use Rattle.emit_steps.proofs.Routines.{sim_ask}

module _ (m : Machine) where
  -- ---- a mutex that is held

  -- a mutex is one of the shared cells
  common_off : (xs : List ℕ) (e : Emitted) (t : FlatState) (cs : List Cell) → Each (λ c. ValueAt xs e t (guard_of c) 0) cs → Each (λ c. ValueAt xs e t (guard_of c) 0) (common_in cs)
  common_off xs e t [] h = tt
  common_off xs e t (Own g l ∷ cs) h = common_off xs e t cs h.1
  common_off xs e t (Common g c ∷ cs) h = (h.0, common_off xs e t cs h.1)

  common_denotes : (xs : List ℕ) (e : Emitted) (t : FlatState) (cs : List Cell) (d : ℕ) → Denotes xs e t cs (slot.Common d) → Denotes xs e t (common_in cs) (slot.Common d)
  common_denotes xs e t [] d h = absurd h
  common_denotes xs e t (Own g l ∷ cs) d (inl on) = absurd on.1
  common_denotes xs e t (Own g l ∷ cs) d (inr off) = common_denotes xs e t cs d off.1
  common_denotes xs e t (Common g c ∷ cs) d (inl on) = inl (on.0, on.1, common_off xs e t cs on.2)
  common_denotes xs e t (Common g c ∷ cs) d (inr off) = inr (off.0, common_denotes xs e t cs d off.1)

  -- the mutex is read as 0, and then is 1
  adds_written : (cs : List Cell) (e : Emitted) → Neat e → Since (guards_of cs) e (write cs one e).1
  adds_written cs e neat = (adds_write (guards_of cs) cs one (cells_guarded cs cs (λ k h. h))).add e neat

  held_free : (xs : List ℕ) (held : Held) (cs : List Cell) (d z n : ℕ) (b : Bool) → nat_eq n 0 ≡ b → Finds m held cs (slot.Common d) → In m held z (truth_of (not b)) →
      Sim m Done xs held (emit z act.Bad >> write cs one) (machine.◌>>◌ (cond b machine.nothing (machine.ends ending.Bad)) (machine.make (action.Write d 1)))
  held_free xs held cs d z n true is there off =
      sim_silent m Done xs held (emit z act.Bad) (λ _. write cs one) (machine.make (action.Write d 1)) (sim_skip m xs held (z ∷ []) (emit z act.Bad) (adds_emit (z ∷ []) z act.Bad (inl refl)) (λ l k. only_off m held l z off k))
      (λ _. sim_write m xs held cs (slot.Common d) one 1 there (inr (inl (refl, refl))))
  held_free xs held cs d z n false is there on =
      sim_halted m Done xs held (emit z act.Bad) (λ _. write cs one) _ (λ s. (ending.Bad, s, refl)) (sim_ends m Done xs held z act.Bad ending.Bad (inl on) (λ u. refl))
      (λ _ e neat. (guards_of cs, (adds_written cs e neat)))

  hold_common : (xs : List ℕ) (held : Held) (g : ℕ) (cs : List Cell) (d : ℕ) → Finds m held cs (slot.Common d) → In m held g 1 → Sim m Done xs held (hold_cells g cs) (calls.hold (slot.Common d))
  hold_common xs held g cs d there live =
      sim_same m Done xs held (hold_cells g cs) (machine.◌>>=◌ (cells.read (slot.Common d)) (λ n. machine.◌>>◌ (cond (nat_eq n 0) machine.nothing (machine.ends ending.Bad)) (machine.make (action.Write d 1)))) (calls.hold (slot.Common d))
      (λ s. go_on_twice m (machine.take_from (ReadOf d) s.script s) (λ v. machine.◌>>◌ (machine.make (action.Read d v)) (machine.pure v)) (λ n. machine.◌>>◌ (cond (nat_eq n 0) machine.nothing (machine.ends ending.Bad)) (machine.make (action.Write d 1))))
      (sim_then m (Val xs) Done xs held (read cs) (cells.read (slot.Common d)) _ (λ n. machine.◌>>◌ (cond (nat_eq n 0) machine.nothing (machine.ends ending.Bad)) (machine.make (action.Write d 1))) (sim_read m xs held cs (slot.Common d) there)
      (next_value m xs held _ _ Done (λ v n.
      sim_quiet m Done xs (Value v n ∷ held) (when g v) (truth_of (is_true n)) _ _ (sim_when m xs (Value v n ∷ held) g v n (inl (inr live)) (inl (inl (refl, refl)))) (λ z.
      held_free xs (Value z (truth_of (is_true n)) ∷ Value v n ∷ held) cs d z n (nat_eq n 0) refl there (inl (refl, refl))))))

  -- ---- sections

  -- a section that is open was opened under this guard
  abbrev pub Under : ℕ → Emitted → FlatState → Unit {0} → Unit {0} → Type 0
  Under g f t a b = f.depth ≡ 0 → f.opened ≡ g

  -- where a section is closed
  close_case :
      (xs : List ℕ) (held : Held) (g : ℕ) (e : Emitted) (t : FlatState) (s : State) (b c : Bool) → nat_eq e.depth 0 ≡ b → b ≡ c → Beside m e t s → Holds xs e t held → In m held g 1 → (e.depth ≡ 0 → e.opened ≡ g) →
      Follows {B = Unit {0}} Done m xs e t (cond b (λ f. emit f.opened act.Close f) nothing e) (cond c (machine.make action.Close) machine.nothing s)
  close_case xs held g e t s true true is same b holds live under =
      acted m xs e t s e.opened act.Close action.Close b (ap t.values (under (eqb-true e.depth 0 is)) ∙ has_value m xs e t s held g 1 b holds (inl live)) refl
  close_case xs held g e t s false false is same b holds live under = record { state = t; beside = b; kept = kept_none xs e t; answer = tt }
  close_case xs held g e t s true false is same b holds live under = absurd (let no : true ≡ false = same in cc)
  close_case xs held g e t s false true is same b holds live under = absurd (let no : false ≡ true = same in cc)

  pub close_follows :
      (xs : List ℕ) (held : Held) (g : ℕ) (e : Emitted) (t : FlatState) (s : State) → Beside m e t s → Holds xs e t held → In m held g 1 → (e.depth ≡ 0 → e.opened ≡ g) →
      Follows {B = Unit {0}} Done m xs e t (close_section e) (machine.outside (machine.make action.Close) s)
  close_follows xs held g e t s b holds live under = close_case xs held g e t s (nat_eq e.depth 0) (nat_eq s.depth 0) refl (ap (λ d. nat_eq d 0) b.depth) b holds live under

  -- the guard is kept where no section was open
  beside_kept : (g : ℕ) (e : Emitted) (t : FlatState) (s : State) → Beside m e t s → e.depth ≡ 0 → Beside m (keep_guard g e).1 t s
  beside_kept g e t s b z = beside_next m [] e (keep_guard g e).1 t t s s (since_kept [] g e b.neat z) b (record {
    ran = b.ran;
    constants = b.constants;
    idle = λ l le plain. b.idle l le plain;
    matches = b.matches;
    creates = b.creates;
    few = b.few;
    depth = refl;
    opened = λ deep. refl;
    script = b.script;
    used = b.used;
    actions = b.actions;
  })

  kept_follows : (xs : List ℕ) (g : ℕ) (e : Emitted) (t : FlatState) (s : State) → Beside m e t s → e.depth ≡ 0 → Follows {B = Unit {0}} (Under g) m xs e t (keep_guard g e) (machine.nothing s)
  kept_follows xs g e t s b z = record { state = t; beside = beside_kept g e t s b z; kept = kept_none xs e t; answer = λ _. refl }

  since_there : (g : ℕ) (e : Emitted) → Neat e → e.depth ≡ 0 → Since (g ∷ []) e (open_there g e).1
  since_there g e neat z =
      let first : Since (g ∷ []) e (emit g act.Open e).1 = (adds_emit (g ∷ []) g act.Open (inl refl)).add e neat in
      since_then (g ∷ []) (g ∷ []) e (emit g act.Open e).1 (open_there g e).1 first (λ k one. inl one) (since_kept (g ∷ []) g (emit g act.Open e).1 first.neat z)

  there_follows : (xs : List ℕ) (held : Held) (g : ℕ) (e : Emitted) (t : FlatState) (s : State) → Beside m e t s → Holds xs e t held → In m held g 1 → e.depth ≡ 0 → Follows {B = Unit {0}} (Under g) m xs e t (open_there g e) (machine.make action.Open s)
  there_follows xs held g e t s b holds live z =
      let first : Since (g ∷ []) e (emit g act.Open e).1 = (adds_emit (g ∷ []) g act.Open (inl refl)).add e b.neat in
      follows_then m {B = Unit {0}} {D = Unit {0}} Done (Under g) xs held (emit g act.Open) (λ _. keep_guard g) (λ _. machine.nothing) e t (machine.make action.Open s) (g ∷ [], first) ([], since_kept [] g (emit g act.Open e).1 first.neat z) holds
      (λ _ u r b1 h1 _. kept_follows xs g (emit g act.Open e).1 u r b1 z)
      (acted m xs e t s g act.Open action.Open b (has_value m xs e t s held g 1 b holds (inl live)) refl)

  -- a section is opened behind what is emitted first
  open_case :
      (xs : List ℕ) (held : Held) (g : ℕ) (em : Emit (Unit {0})) (st : Step (Unit {0})) (e : Emitted) (t : FlatState) (s : State) (b c : Bool) → nat_eq e.depth 0 ≡ b → b ≡ c → Sim m Done xs held em st → In m held g 1 → Beside m e t s →
      Reaches (cond b (em >> open_there g) nothing e).1 m.last → Holds xs e t held → Follows {B = Unit {0}} (Under g) m xs e t (cond b (em >> open_there g) nothing e) (cond c (machine.◌>>◌ st (machine.make action.Open)) machine.nothing s)
  open_case xs held g em st e t s true true is same sim live b reach holds =
      let z : e.depth ≡ 0 = eqb-true e.depth 0 is in
      let one : Long e (em e).1 = sim.long e b.neat in
      let z1 : (em e).1.depth ≡ 0 = one.1.grown.depth ∙ z in
      let more : Since (g ∷ []) (em e).1 (open_there g (em e).1).1 = since_there g (em e).1 one.1.neat z1 in
      follows_then m {B = Unit {0}} {D = Unit {0}} Done (Under g) xs held em (λ _. open_there g) (λ _. machine.make action.Open) e t (st s) one (g ∷ [], more) holds
      (λ _ u r b1 h1 _. there_follows xs held g (em e).1 u r b1 h1 live z1)
      (sim.live e t s b (reaches_before (g ∷ []) (em e).1 (open_there g (em e).1).1 m.last more.grown reach) holds)
  open_case xs held g em st e t s false false is same sim live b reach holds =
      record { state = t; beside = b; kept = kept_none xs e t; answer = λ z. absurd (let no : true ≡ false = sym (eq-eqb e.depth 0 z) ∙ is in cc) }
  open_case xs held g em st e t s true false is same sim live b reach holds = absurd (let no : true ≡ false = same in cc)
  open_case xs held g em st e t s false true is same sim live b reach holds = absurd (let no : false ≡ true = same in cc)

  pub sim_open : (xs : List ℕ) (held : Held) (g : ℕ) → In m held g 1 → Sim m (Under g) xs held (open_section g) machine.open_section
  sim_open xs held g live = record {
    long = λ e neat. (g ∷ [], (opens_section (g ∷ []) g e (inl refl) neat).since);
    live = λ e t s b reach holds. open_case xs held g (ask g) machine.ask e t s (nat_eq e.depth 0) (nat_eq s.depth 0) refl (ap (λ d. nat_eq d 0) b.depth) (sim_ask m xs held g live) live b reach holds;
  }

  nothing_sim : (xs : List ℕ) (held : Held) → Sim m {B = Unit {0}} Done xs held nothing machine.nothing
  nothing_sim xs held = sim_pure m Done xs held tt tt (λ e t s b holds. tt)

  pub sim_open_at_once : (xs : List ℕ) (held : Held) (g : ℕ) → In m held g 1 → Sim m (Under g) xs held (open_at_once g) (machine.outside (machine.make action.Open))
  sim_open_at_once xs held g live = record {
    long = λ e neat. (g ∷ [], (opens_at_once (g ∷ []) g e (inl refl) neat).since);
    live = λ e t s b reach holds. open_case xs held g nothing machine.nothing e t s (nat_eq e.depth 0) (nat_eq s.depth 0) refl (ap (λ d. nat_eq d 0) b.depth) (nothing_sim xs held) live b reach holds;
  }

  long_close : (e : Emitted) → Neat e → Long e (close_section e).1
  long_close e neat = (e.opened ∷ [], closes_section (e.opened ∷ []) e neat (λ _. inl refl))

  -- what stands in a section of its own
  next_enclosed :
      (xs : List ℕ) (held : Held) (g : ℕ) (em : Emit (Unit {0})) (st : Step (Unit {0})) → In m held g 1 → ((e : Emitted) → (em e).1.opened ≡ e.opened) → Sim m Done xs held em st →
      Next m (Under g) xs held (λ (_ : Unit {0}). em >> close_section) (λ (_ : Unit {0}). machine.◌>>◌ st (machine.outside (machine.make action.Close))) Done
  next_enclosed xs held g em st live steady sim = record {
    long = λ a e neat. let one : Long e (em e).1 = sim.long e neat in long_then e (em e).1 (close_section (em e).1).1 neat one (long_close (em e).1 one.1.neat);
    live = λ a b e t s beside reach holds under.
        let one : Long e (em e).1 = sim.long e beside.neat in
        let more : Long (em e).1 (close_section (em e).1).1 = long_close (em e).1 one.1.neat in
        follows_then m {B = Unit {0}} {D = Unit {0}} Done Done xs held em (λ _. close_section) (λ _. machine.outside (machine.make action.Close)) e t (st s) one more holds
        (λ _ u r b1 h1 _. close_follows xs held g (em e).1 u r b1 h1 live (λ z. steady e ∙ under (sym one.1.grown.depth ∙ z)))
        (sim.live e t s beside (reaches_before more.0 (em e).1 (close_section (em e).1).1 m.last more.1.grown reach) holds);
  }

  -- ---- locks

  -- items that say of each of these cells that it is not meant
  abbrev offs : List Cell → Held → Held
  offs [] held = held
  offs (c ∷ cs) held = Value (guard_of c) 0 ∷ offs cs held

  drop_offs : (xs : List ℕ) (e : Emitted) (t : FlatState) (held : Held) (cs : List Cell) → Holds xs e t (offs cs held) → Holds xs e t held
  drop_offs xs e t held [] holds = holds
  drop_offs xs e t held (c ∷ cs) holds = drop_offs xs e t held cs (record { low = holds.low; high = holds.high; plain = holds.plain; apart = holds.apart; opened = holds.opened; all = holds.all.1 })

  sim_offs :
      {A B : Type 0} (R : Emitted → FlatState → A → B → Type 0) (xs : List ℕ) (held : Held) (cs : List Cell) (em : Emit A) (st : Step B) →
      ((e : Emitted) (t : FlatState) (s : State) → Beside m e t s → Holds xs e t held → Each (λ c. ValueAt xs e t (guard_of c) 0) cs) → Sim m R xs (offs cs held) em st → Sim m R xs held em st
  sim_offs R xs held [] em st off h = h
  sim_offs R xs held (c ∷ cs) em st off h =
      sim_offs R xs held cs em st (λ e t s b holds. (off e t s b holds).1)
      (sim_also m R xs (Value (guard_of c) 0) (offs cs held) em st (λ e t s b holds. (off e t s b (drop_offs xs e t held cs holds)).0) h)

  in_offs : (held : Held) (cs : List Cell) (k : ℕ) → One (guards_of cs) k → In m (offs cs held) k 0
  in_offs held [] k none = absurd none
  in_offs held (c ∷ cs) k (inl same) = inl (sym same, refl)
  in_offs held (c ∷ cs) k (inr rest) = inr (in_offs held cs k rest)

  in_behind : (held : Held) (cs : List Cell) (a v : ℕ) → In m held a v → In m (offs cs held) a v
  in_behind held [] a v h = h
  in_behind held (c ∷ cs) a v h = inr (in_behind held cs a v h)

  -- a mutex that is a local: none of the shared cells is meant
  own_off : (xs : List ℕ) (e : Emitted) (t : FlatState) (cs : List Cell) (i j : ℕ) → Denotes xs e t cs (slot.Own i j) → Each (λ c. ValueAt xs e t (guard_of c) 0) (common_in cs)
  own_off xs e t [] i j h = absurd h
  own_off xs e t (Own g l ∷ cs) i j (inl on) = common_off xs e t cs on.2
  own_off xs e t (Own g l ∷ cs) i j (inr off) = own_off xs e t cs i j off.1
  own_off xs e t (Common g c ∷ cs) i j (inl on) = absurd on.1
  own_off xs e t (Common g c ∷ cs) i j (inr off) = (off.0, own_off xs e t cs i j off.1)

  read_new : (cs : List Cell) (e : Emitted) → Neat e → New e (read cs e).1 (read cs e).0
  read_new cs e neat =
      let first : Since (guards_of cs) e (fresh e).1 = (adds_fresh (guards_of cs) 1).add e neat in
      let rest : Since (guards_of cs) (fresh e).1 (read_cells e.next cs (fresh e).1).1 = (adds_read_cells (guards_of cs) e.next cs (cells_guarded cs cs (λ k h. h))).add (fresh e).1 first.neat in
      new_behind (guards_of cs) e (fresh e).1 (read_cells e.next cs (fresh e).1).1 e.next rest.grown (fresh_new e neat)

  hold_none : (xs : List ℕ) (held : Held) (g : ℕ) (cs : List Cell) → ((k : ℕ) → One (guards_of cs) k → In m held k 0) → In m held g 1 → Sim m {B = Unit {0}} Done xs held (hold_cells g cs) machine.nothing
  hold_none xs held g cs off live =
      sim_quiet m Done xs held (read cs) 0 _ machine.nothing
      (sim_untouched m xs held (guards_of cs) (read cs) (adds_read (guards_of cs) cs (cells_guarded cs cs (λ k h. h))) (λ e neat. read_new cs e neat) (λ k one. inl (off k one))) (λ v.
      let with_value : Held = Value v 0 ∷ held in
      sim_quiet m Done xs with_value (when g v) 0 _ machine.nothing (sim_when m xs with_value g v 0 (inl (inr live)) (inl (inl (refl, refl)))) (λ z.
      let all : Held = Value z 0 ∷ with_value in
      sim_silent m Done xs all (emit z act.Bad) (λ _. write cs one) machine.nothing (sim_skip m xs all (z ∷ []) (emit z act.Bad) (adds_emit (z ∷ []) z act.Bad (inl refl)) (λ l k. only_off m all l z (inl (refl, refl)) k)) (λ _.
      sim_skip m xs all (guards_of cs) (write cs one) (adds_write (guards_of cs) cs one (cells_guarded cs cs (λ k h. h))) (λ k k1. inl (inr (inr (off k k1)))))))

  hold_slot : (xs : List ℕ) (held : Held) (g : ℕ) (cs : List Cell) (x : Slot) → Finds m held cs x → In m held g 1 → Sim m Done xs held (hold_cells g (common_in cs)) (calls.hold x)
  hold_slot xs held g cs (slot.Own i j) there live =
      sim_offs {B = Unit {0}} Done xs held (common_in cs) (hold_cells g (common_in cs)) machine.nothing (λ e t s b holds. own_off xs e t cs i j (finds_holds m xs e t held cs (slot.Own i j) holds.all there))
      (hold_none xs (offs (common_in cs) held) g (common_in cs) (λ k one. in_offs held (common_in cs) k one) (in_behind held (common_in cs) g 1 live))
  hold_slot xs held g cs (slot.Common d) there live =
      sim_also m Done xs (Points (common_in cs) (slot.Common d)) held (hold_cells g (common_in cs)) (calls.hold (slot.Common d)) (λ e t s b holds. common_denotes xs e t cs d (finds_holds m xs e t held cs (slot.Common d) holds.all there))
      (hold_common xs (Points (common_in cs) (slot.Common d) ∷ held) g (common_in cs) d (inl (refl, refl)) live)

  pub sim_lock : (xs : List ℕ) (held : Held) (g : ℕ) (cs : List Cell) (x : Slot) → Finds m held cs x → In m held g 1 → Sim m Done xs held (lock_cells g cs) (calls.lock_cell x)
  sim_lock xs held g cs x there live =
      sim_then m {B = Unit {0}} (Under g) Done xs held (open_section g) machine.open_section _ _ (sim_open xs held g live)
      (next_enclosed xs held g (hold_cells g (common_in cs)) (calls.hold x) live (steady_hold g (common_in cs)) (hold_slot xs held g cs x there live))

  pub sim_unlock : (xs : List ℕ) (held : Held) (g : ℕ) (cs : List Cell) (x : Slot) → Finds m held cs x → In m held g 1 → Sim m Done xs held (unlock_cells g cs) (calls.unlock_cell x)
  sim_unlock xs held g cs x there live =
      sim_then m {B = Unit {0}} (Under g) Done xs held (open_at_once g) (machine.outside (machine.make action.Open)) _ _ (sim_open_at_once xs held g live)
      (next_enclosed xs held g (write cs none) (cells.write x 0) live (steady_write cs none) (sim_write m xs held cs x none 0 there (inr (inr (inl (refl, refl))))))
