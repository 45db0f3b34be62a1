-- The cells that are found for a name are the slot that the thread finds.
use Rattle.std.proofs.Common.{◌≡◌, ℕ, zero, suc, ◌+◌, ◌<◌, inl, inr, List, [], ◌∷◌, length, Bool, true, false, Option, Some, None, refl, sym, ap, ◌∙◌, subst, add-zero, arith}
use Rattle.std.proofs.lemmas.Bool.{lt-ltb}
use Rattle.std.specs.Prelude.{cond, nat_eq, nat_lt, slice_get}
use Rattle.std.specs.Str.{bytes_eq}
use Rattle.dg_base.specs.declared.Place.{Place}
use Rattle.c_rules.specs.Names.{Name, or_else}
use Rattle.run_model.specs.declared.state.Ending.TheVariants as ending
use Rattle.run_model.specs.declared.state.Local.{Local}
use Rattle.run_model.specs.declared.state.Shared.{Shared}
use Rattle.run_model.specs.declared.state.Slot.{Slot}
use Rattle.run_model.specs.declared.state.Slot.TheVariants as slot
use Rattle.run_model.specs.Names.{last_named}
use Rattle.run_model.specs.Steps.{State, Step}
use Rattle.run_model.specs.Steps as machine
use Rattle.run_model.specs.Cells as cells
use Rattle.flat_prog.specs.Runs.{FlatState}
use Rattle.emit_steps.specs.declared.state.Variable.{Variable}
use Rattle.emit_steps.specs.Emitting.{Emitted, pure, stop, fail}
use Rattle.emit_steps.specs.Pieces.{cell, first_cell, at_index, no_cell, in_shared, in_scope, last_of, find_cells, name_unsigned, unsigned_by}
use Rattle.emit_steps.proofs.Growth.{Neat}
use Rattle.emit_steps.proofs.Adding.{since_none}
use Rattle.emit_steps.proofs.AddingForms.{adds_find, cell_guard}
use Rattle.emit_steps.proofs.Running.{Machine, Reaches, Beside, Matches, Follows}
use Rattle.emit_steps.proofs.Simulating.{Long, Declared, Held, ValueAt, IsAt, Holds, Meant, Done, Sim, sim_pure, sim_halted, AlwaysEnds, Has, In, in_holds}
use Rattle.emit_steps.proofs.VariableCells.{length_values, match_cells}
use Rattle.emit_steps.proofs.Finding.{Slotted, slotted_at, find_at, sim_fail, sim_stop, fails_always}

-- ---- names

abbrev AtNumber : {A : Type 0} → ℕ → List A → ℕ → Type 0
AtNumber {A} i xs k = (j : ℕ) × (k ≡ i + j) × (x : A) × (slice_get xs j ≡ Some x)

last_case :
    {A : Type 0} (i : ℕ) (x : A) (xs : List A) (k : ℕ) (rest : Option ℕ) (b : Bool) → or_else rest (cond b (Some i) None) ≡ Some k → (rest ≡ Some k → AtNumber (i + 1) xs k) → AtNumber i (x ∷ xs) k
last_case i x xs k (Some j) b e more = let there : AtNumber (i + 1) xs k = more e in (suc there.0, omega (arith, there.1), there.2, there.3)
last_case i x xs k None true e more = let same : i ≡ k = (let q : ◌≡◌ {A = Option ℕ} (Some i) (Some k) = e in cc) in (0, omega (arith, same), x, refl)
last_case i x xs k None false e more = absurd (let no : ◌≡◌ {A = Option ℕ} None (Some k) = e in cc)

-- the last one of a name is at its number
pub last_at : {A : Type 0} (name : A → Name) (i : ℕ) (xs : List A) (n : Name) (k : ℕ) → last_named name i xs n ≡ Some k → AtNumber i xs k
last_at name i [] n k e = absurd (let no : ◌≡◌ {A = Option ℕ} None (Some k) = e in cc)
last_at name i (x ∷ xs) n k e = last_case i x xs k (last_named name (i + 1) xs n) (bytes_eq (name x) n) e (λ more. last_at name (i + 1) xs n k more)

same_last : (f : ℕ → ℕ) (n : Name) (i : ℕ) (vs : List Variable) (ls : List Local) → Matches f vs ls → last_named (λ (v : Variable). v.name) i vs n ≡ last_named (λ (l : Local). l.name) i ls n
same_last f n i [] [] m = refl
same_last f n i [] (l ∷ ls) m = absurd m
same_last f n i (v ∷ vs) [] m = absurd m
same_last f n i (v ∷ vs) (l ∷ ls) m =
    ap (λ o. or_else o (cond (bytes_eq v.name n) (Some i) None)) (same_last f n (i + 1) vs ls m.3)
    ∙ ap (λ name. or_else (last_named (λ (k : Local). k.name) (i + 1) ls n) (cond (bytes_eq name n) (Some i) None)) m.0

same_unsigned : (f : ℕ → ℕ) (vs : List Variable) (ls : List Local) (i : ℕ) (v : Variable) → Matches f vs ls → slice_get vs i ≡ Some v → v.unsigned ≡ cells.local_unsigned (slice_get ls i)
same_unsigned f [] [] i v m e = absurd (let no : ◌≡◌ {A = Option Variable} None (Some v) = e in cc)
same_unsigned f [] (l ∷ ls) i v m e = absurd m
same_unsigned f (w ∷ vs) [] i v m e = absurd m
same_unsigned f (w ∷ vs) (l ∷ ls) zero v m e = let same : w ≡ v = (let is : ◌≡◌ {A = Option Variable} (Some w) (Some v) = e in cc) in ap (λ (u : Variable). u.unsigned) (sym same) ∙ m.1
same_unsigned f (w ∷ vs) (l ∷ ls) (suc i) v m e = same_unsigned f vs ls i v m.3 e

module _ (m : Machine) where
  adds_long : (shared : List Shared) (p : Place) (name : Name) (g : ℕ) (i : Option ℕ) (e : Emitted) → Neat e → Long e (find_cells shared p name g i e).1
  adds_long shared p name g i e neat = (g ∷ [], ((adds_find (g ∷ []) shared p name g i (inl refl)).add e neat).since)

  pub stops_always : {D : Type 0} → AlwaysEnds m {D = D} machine.stop
  stops_always s = (cond (nat_eq s.depth 0) ending.Stopped ending.Bad, s, refl)

  -- no cell
  pub sim_no_cell : (xs : List ℕ) (held : Held) (g : ℕ) → Has m held g 1 → Sim m (Meant xs) xs held (no_cell g) machine.stop
  sim_no_cell xs held g live = sim_halted m (Meant xs) xs held (stop g) (λ _. pure []) machine.stop stops_always (sim_stop m Done xs held g live) (λ _ e neat. ([], since_none [] e neat))

  -- the first cell of a variable, where it has one
  first_at :
      (xs : List ℕ) (held : Held) (p : Place) (own : Bool) (g n count : ℕ) (x : Slot) → Has m held g 1 → In m held g 1 → (0 < count → Slotted m held own n 0 x) →
      Sim m (Meant xs) xs held (first_cell p own g n count) (cond (nat_lt 0 count) (machine.pure x) (machine.fail p))
  first_at xs held p own g n zero x live there at =
      sim_halted m (Meant xs) xs held (fail g p) (λ _. pure []) (machine.fail p) (fails_always m p) (sim_fail m Done xs held g p live) (λ _ e neat. ([], since_none [] e neat))
  first_at xs held p own g n (suc count) x live there at =
      subst (λ b. Sim m (Meant xs) xs held (first_cell p own g n (suc count)) (cond b (machine.pure x) (machine.fail p))) (sym (lt-ltb 0 (suc count) (omega arith)))
      (sim_pure m (Meant xs) xs held (cell own g n ∷ []) x (λ e t s b holds.
      inl (
        subst (λ l. ValueAt xs e t l 1) (sym (cell_guard own g n)) (in_holds m xs e t held g 1 holds.all there),
        subst (λ k. IsAt e.scope (cell own g k) x) (add-zero n) (slotted_at m xs e t s held own g n 0 x holds (at (omega arith))),
        tt,
      )))

  -- the index, if there is one, is 0 where there is none
  abbrev pub Index : Held → Option ℕ → ℕ → Type 0
  Index held None k = k ≡ 0
  Index held (Some i) k = Has m held i k

  at_slot :
      (xs : List ℕ) (held : Held) (p : Place) (own : Bool) (g n count : ℕ) (i : Option ℕ) (k : ℕ) (x : Slot) → Has m held g 1 → In m held g 1 → Index held i k → (k < count → Slotted m held own n k x) →
      Sim m (Meant xs) xs held (at_index p own g n count i) (cond (nat_lt k count) (machine.pure x) (machine.fail p))
  at_slot xs held p own g n count None k x live there index at =
      subst (λ j. Sim m (Meant xs) xs held (first_cell p own g n count) (cond (nat_lt j count) (machine.pure x) (machine.fail p))) (sym index)
      (first_at xs held p own g n count x live there (λ low. subst (λ j. Slotted m held own n j x) index (at (subst (λ j. j < count) (sym index) low))))
  at_slot xs held p own g n count (Some i) k x live there index at = find_at m xs held p own g n count i k x (nat_lt k count) refl live index at

  shared_slot :
      (xs : List ℕ) (held : Held) (p : Place) (g : ℕ) (i : Option ℕ) (k : ℕ) (o : Option Shared) → Has m held g 1 → In m held g 1 → Index held i k → Sim m (Meant xs) xs held (in_shared p g i o) (cells.slot_in_shared p o k)
  shared_slot xs held p g i k None live there index = sim_no_cell xs held g live
  shared_slot xs held p g i k (Some v) live there index = at_slot xs held p false g v.first v.count i k (slot.Common (v.first + k)) live there index (λ low. refl)

  has_declared : (n : ℕ) (v : Variable) (held : Held) (l w : ℕ) → Has m held l w → Has m (Declared n v ∷ held) l w
  has_declared n v held l w (inl there) = inl there
  has_declared n v held l w (inr fixed) = inr fixed

  index_declared : (n : ℕ) (v : Variable) (held : Held) (i : Option ℕ) (k : ℕ) → Index held i k → Index (Declared n v ∷ held) i k
  index_declared n v held None k h = h
  index_declared n v held (Some i) k h = has_declared n v held i k h

  -- the same at the variable's number
  named_follows :
      (xs : List ℕ) (shared : List Shared) (p : Place) (name : Name) (g : ℕ) (i : Option ℕ) (k : ℕ) (e : Emitted) (t : FlatState) (s : State) (n : ℕ) (v : Variable) → slice_get e.scope n ≡ Some v → length (cells.cells_at s.locals n) ≡ v.count →
      (Reaches (at_index p true g v.first v.count i e).1 m.last → Follows (Meant xs) m xs e t (at_index p true g v.first v.count i e) (cond (nat_lt k v.count) (machine.pure (slot.Own n k)) (machine.fail p) s)) →
      Reaches (in_scope shared p name g i (slice_get e.scope n) e).1 m.last → Follows (Meant xs) m xs e t (in_scope shared p name g i (slice_get e.scope n) e) (cells.slot_in shared p name (Some n) k s)
  named_follows xs shared p name g i k e t s n v found count follows reach =
      let here : Follows (Meant xs) m xs e t (at_index p true g v.first v.count i e) (cond (nat_lt k v.count) (machine.pure (slot.Own n k)) (machine.fail p) s) =
      follows (subst (λ (o : Option Variable). Reaches (in_scope shared p name g i o e).1 m.last) found reach) in
      subst (λ c. Follows (Meant xs) m xs e t (in_scope shared p name g i (slice_get e.scope n) e) (cond (nat_lt k c) (machine.pure (slot.Own n k)) (machine.fail p) s)) (sym count)
      (subst (λ (o : Option Variable). Follows (Meant xs) m xs e t (in_scope shared p name g i o e) (cond (nat_lt k v.count) (machine.pure (slot.Own n k)) (machine.fail p) s)) (sym found) here)

  -- the innermost variable of the name is the thread's
  scope_follows :
      (xs : List ℕ) (held : Held) (shared : List Shared) (p : Place) (name : Name) (g : ℕ) (i : Option ℕ) (k : ℕ) (e : Emitted) (t : FlatState) (s : State) (o : Option ℕ) → last_named (λ (v : Variable). v.name) 0 e.scope name ≡ o →
      Has m held g 1 → In m held g 1 → Index held i k → Beside m e t s → Reaches (in_scope shared p name g i (last_of e.scope o) e).1 m.last → Holds xs e t held →
      Follows (Meant xs) m xs e t (in_scope shared p name g i (last_of e.scope o) e) (cells.slot_in shared p name o k s)
  scope_follows xs held shared p name g i k e t s None is live there index b reach holds = (shared_slot xs held p g i k (cells.shared_named shared name) live there index).live e t s b reach holds
  scope_follows xs held shared p name g i k e t s (Some n) is live there index b reach holds =
      let at : AtNumber 0 e.scope n = last_at (λ (v : Variable). v.name) 0 e.scope name n is in
      let v : Variable = at.2 in
      let found : slice_get e.scope n ≡ Some v = ap (λ j. slice_get e.scope j) (let same : n ≡ at.0 = omega (arith, at.1) in same) ∙ at.3 in
      let count : length (cells.cells_at s.locals n) ≡ v.count = ap length (match_cells t.values e.scope s.locals n v b.matches found) ∙ length_values t.values v.first v.count in
      let with_it : Held = Declared n v ∷ held in
      let sim : Sim m (Meant xs) xs with_it (at_index p true g v.first v.count i) (cond (nat_lt k v.count) (machine.pure (slot.Own n k)) (machine.fail p)) =
      at_slot xs with_it p true g v.first v.count i k (slot.Own n k) (has_declared n v held g 1 live) there (index_declared n v held i k index) (λ low. (n, v, refl, inl (refl, refl), refl, low)) in
      let all : Holds xs e t with_it = record { low = holds.low; high = holds.high; plain = holds.plain; apart = holds.apart; opened = holds.opened; all = (found, holds.all) } in
      named_follows xs shared p name g i k e t s n v found count (λ reaches. sim.live e t s b reaches all) reach

  -- the cells of a name, at an index if there is one
  pub sim_find : (xs : List ℕ) (held : Held) (shared : List Shared) (p : Place) (name : Name) (g : ℕ) (i : Option ℕ) (k : ℕ) → In m held g 1 → Index held i k → Sim m (Meant xs) xs held (find_cells shared p name g i) (cells.slot shared p name k)
  sim_find xs held shared p name g i k there index = record {
    long = λ e neat. adds_long shared p name g i e neat;
    live = λ e t s b reach holds.
        subst (λ (o : Option ℕ). Follows (Meant xs) m xs e t (find_cells shared p name g i e) (cells.slot_in shared p name o k s)) (same_last t.values name 0 e.scope s.locals b.matches)
        (scope_follows xs held shared p name g i k e t s (last_named (λ (v : Variable). v.name) 0 e.scope name) refl (inl there) there index b reach holds);
  }

  unsigned_of :
      (shared : List Shared) (name : Name) (e : Emitted) (t : FlatState) (s : State) (o : Option ℕ) → last_named (λ (v : Variable). v.name) 0 e.scope name ≡ o → Beside m e t s → unsigned_by shared name (last_of e.scope o) ≡ cells.unsigned_in shared name s.locals o
  unsigned_of shared name e t s None is b = refl
  unsigned_of shared name e t s (Some n) is b =
      let at : AtNumber 0 e.scope n = last_at (λ (v : Variable). v.name) 0 e.scope name n is in
      let found : slice_get e.scope n ≡ Some at.2 = ap (λ j. slice_get e.scope j) (let same : n ≡ at.0 = omega (arith, at.1) in same) ∙ at.3 in
      ap (λ (v : Option Variable). unsigned_by shared name v) found ∙ same_unsigned t.values e.scope s.locals n at.2 b.matches found

  -- the type of the name
  pub name_type : (shared : List Shared) (name : Name) (e : Emitted) (t : FlatState) (s : State) → Beside m e t s → name_unsigned shared name e.scope ≡ cells.name_unsigned shared name s
  name_type shared name e t s b =
      unsigned_of shared name e t s (last_named (λ (v : Variable). v.name) 0 e.scope name) refl b
      ∙ ap (λ (o : Option ℕ). cells.unsigned_in shared name s.locals o) (same_last t.values name 0 e.scope s.locals b.matches)
