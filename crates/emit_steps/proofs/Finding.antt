-- Numbers, and the cells that a variable's name and an index mean.
use Rattle.std.proofs.Common.{◌≡◌, ℕ, zero, suc, ◌+◌, ◌<◌, ◌≤◌, ◌⊎◌, inl, inr, List, [], ◌∷◌, ◌++◌, Bool, true, false, Option, Some, None, refl, sym, ap, ◌∙◌, subst, arith}
use Rattle.std.proofs.lemmas.Bool.{eqb-true, eq-eqb, ne_eqb, cases_eq, ltb-true}
use Rattle.std.specs.Prelude.{cond, nat_eq, nat_lt}
use Rattle.dg_base.specs.declared.Place.{Place}
use Rattle.dg_base.specs.declared.operators.Op.TheVariants as op
use Rattle.dg_base.specs.Values.{is_true, truth_of}
use Rattle.run_model.specs.declared.state.Ending.{Ending}
use Rattle.run_model.specs.declared.state.Ending.TheVariants as ending
use Rattle.run_model.specs.declared.state.Slot.{Slot}
use Rattle.run_model.specs.declared.state.Slot.TheVariants as slot
use Rattle.run_model.specs.Steps.{State, Outcome, Step}
use Rattle.run_model.specs.Steps as machine
use Rattle.flat_prog.specs.declared.FlatAct.{FlatAct}
use Rattle.flat_prog.specs.declared.FlatAct.TheVariants as act
use Rattle.flat_prog.specs.Runs.{FlatState, Goes, Over, go_on, steps, Stopped, Broken}
use Rattle.flat_prog.specs.Runs as runs
use Rattle.emit_steps.specs.declared.state.Number.{Number}
use Rattle.emit_steps.specs.declared.state.Variable.{Variable}
use Rattle.emit_steps.specs.declared.state.Cell.{Cell}
use Rattle.emit_steps.specs.declared.state.Cell.TheVariants.{Own, Common}
use Rattle.emit_steps.specs.Emitting.{Emitted, Emit, ◌>>◌, pure, none, one, holder_in, hold, number, emit, set, when, unless, fail, stop}
use Rattle.emit_steps.specs.Pieces.{cell, cells_where, cells_at}
use Rattle.emit_steps.proofs.Growth.{Each, each_append, each_front, Plain, One, Neat}
use Rattle.emit_steps.proofs.Adding.{Since, since_none, adds_number, adds_hold, adds_emit, adds_stop, adds_fail, guard_of}
use Rattle.emit_steps.proofs.AddingForms.{cell_guard, adds_cells_where}
use Rattle.emit_steps.proofs.Running.{among_within, Reaches, Machine, Beside, ending_of, WentOn, WentOver, beside_dead}
use Rattle.emit_steps.proofs.Simulating.{Long, Value, Points, Held, ValueAt, IsAt, Denotes, HeldAt, Holds, Val, Meant, Done, kept_none, Sim, sim_pure, sim_also, AlwaysEnds, sim_halted, sim_quiet, sim_silent, Sees, sees_holds, in_holds, ran_made, In, Finds, finds_holds, Has, has_value, sim_set}
use Rattle.emit_steps.proofs.Acting.{sim_skip}

abbrev FoundIn : (Number → Type 0) → ℕ → ℕ → Type 0
FoundIn P v l = (n : Number) × P n × (n.local ≡ l) × (n.value ≡ v)

holder_at : (P : Number → Type 0) (n : Number) (rest : Option ℕ) (v l : ℕ) (b : Bool) → nat_eq n.value v ≡ b → cond b (Some n.local) rest ≡ Some l → P n → (rest ≡ Some l → FoundIn P v l) → FoundIn P v l
holder_at P n rest v l true is e h more = (n, h, (let q : ◌≡◌ {A = Option ℕ} (Some n.local) (Some l) = e in cc), eqb-true n.value v is)
holder_at P n rest v l false is e h more = more e

-- the number that a local holds
holder_found : (P : Number → Type 0) (ns : List Number) (v l : ℕ) → holder_in ns v ≡ Some l → Each P ns → FoundIn P v l
holder_found P [] v l e h = absurd (let no : ◌≡◌ {A = Option ℕ} None (Some l) = e in cc)
holder_found P (n ∷ ns) v l e h = holder_at P n (holder_in ns v) v l (nat_eq n.value v) refl e h.0 (λ more. holder_found P ns v l more h.1)

each_last : {X : Type 0} (P : X → Type 0) (xs : List X) (x : X) → Each P (xs ++ x ∷ []) → P x
each_last P [] x h = h.0
each_last P (y ∷ xs) x h = each_last P xs x h.1

module _ (m : Machine) where
  -- ---- the numbers that are held throughout

  -- a local that holds a number
  number_value : (xs : List ℕ) (e : Emitted) (t : FlatState) (s : State) (held : Held) (v l : ℕ) → Beside m e t s → Reaches e m.last → Holds xs e t held → holder_in e.numbers v ≡ Some l → Val xs e t l v
  number_value xs e t s held v l b reach holds found =
      let used : (n : Number) × (n.local < e.next) × (n.local ≡ l) × (n.value ≡ v) = holder_found (λ n. n.local < e.next) e.numbers v l found b.neat in
      let all_high : Each (λ (n : Number). 5 ≤ n.local) e.numbers = each_front (λ (n : Number). 5 ≤ n.local) e.numbers reach.numbers (subst (Each (λ (n : Number). 5 ≤ n.local)) reach.numbers_behind m.high) in
      let high : (n : Number) × (5 ≤ n.local) × (n.local ≡ l) × (n.value ≡ v) = holder_found (λ n. 5 ≤ n.local) e.numbers v l found all_high in
      let values : Each (λ (n : Number). t.values n.local ≡ n.value) e.numbers = each_front (λ (n : Number). t.values n.local ≡ n.value) e.numbers reach.numbers (subst (Each (λ (n : Number). t.values n.local ≡ n.value)) reach.numbers_behind b.constants.numbers) in
      let value : (n : Number) × (t.values n.local ≡ n.value) × (n.local ≡ l) × (n.value ≡ v) = holder_found (λ n. t.values n.local ≡ n.value) e.numbers v l found values in (
        record {
          used = omega (arith, used.1, used.2);
          apart = λ a.
              let plain : Each (λ (n : Number). n.local ≡ l → ⊥) e.numbers = each_front (λ (n : Number). n.local ≡ l → ⊥) e.numbers reach.numbers (subst (λ ns. Plain ns l) reach.numbers_behind (b.plain l a)) in
              let clash : (n : Number) × (n.local ≡ l → ⊥) × (n.local ≡ l) × (n.value ≡ v) = holder_found (λ n. n.local ≡ l → ⊥) e.numbers v l found plain in
              clash.1 clash.2;
          other = λ same. absurd (omega (arith, high.1, high.2));
        },
        λ some.
            let clash : (n : Number) × (n.local ≡ l → ⊥) × (n.local ≡ l) × (n.value ≡ v) = holder_found (λ n. n.local ≡ l → ⊥) e.numbers v l found (holds.plain l some) in
            clash.1 clash.2,
        ap t.values (sym value.2) ∙ (value.1 ∙ value.3),
      )

  -- a local that nobody writes is safe
  pub fixed_value : (xs : List ℕ) (e : Emitted) (t : FlatState) (s : State) (held : Held) (l v : ℕ) → Beside m e t s → Holds xs e t held → l < 4 → t.values l ≡ v → Val xs e t l v
  fixed_value xs e t s held l v b holds low value = (
    record {
      used = omega (arith, b.base);
      apart = λ a. let within : (5 ≤ l) × (l < e.next) = among_within 5 e.scope e.next l b.stacked a in absurd (omega (arith, within.0));
      other = λ same. absurd (omega arith);
    },
    λ some. let high : 5 ≤ l = holds.high l some in absurd (omega arith),
    value,
  )

  hold_follows : (xs : List ℕ) (e : Emitted) (t : FlatState) (s : State) (held : Held) (v : ℕ) (o : Option ℕ) → holder_in e.numbers v ≡ o → Beside m e t s → Reaches (hold v o e).1 m.last → Holds xs e t held → WentOn (Val xs) m xs e t (hold v o e).1 (hold v o e).0 v s
  hold_follows xs e t s held v (Some l) found b reach holds = record { state = t; beside = b; kept = kept_none xs e t; answer = number_value xs e t s held v l b reach holds found }
  hold_follows xs e t s held v None found b reach holds =
      let f : Emitted = (hold v None e).1 in
      let since : Since [] e f = (adds_hold [] v None).add e b.neat in
      let values : Each (λ (n : Number). t.values n.local ≡ n.value) f.numbers = each_front (λ (n : Number). t.values n.local ≡ n.value) f.numbers reach.numbers (subst (Each (λ (n : Number). t.values n.local ≡ n.value)) reach.numbers_behind b.constants.numbers) in
      record {
        state = t;
        beside = beside_dead m [] e f t s since reach b (λ k none. absurd none);
        kept = kept_none xs e t;
        answer = (
          record {
            used = omega arith;
            apart = λ a. let within : (5 ≤ e.next) × (e.next < e.next) = among_within 5 e.scope e.next e.next b.stacked a in absurd (omega (arith, within.1));
            other = λ same. absurd (omega (arith, b.base));
          },
          λ some. let low : e.next < e.next = holds.low e.next some in absurd (omega arith),
          (each_last (λ (n : Number). t.values n.local ≡ n.value) e.numbers (record { value = v; local = e.next }) values),
        );
      }

  number_follows : (xs : List ℕ) (e : Emitted) (t : FlatState) (s : State) (held : Held) (v : ℕ) (a b : Bool) → nat_eq v 0 ≡ a → nat_eq v 1 ≡ b → Beside m e t s → Holds xs e t held →
      Reaches (cond a (pure none) (cond b (pure one) (λ f. hold v (holder_in f.numbers v) f)) e).1 m.last →
      WentOn (Val xs) m xs e t (cond a (pure none) (cond b (pure one) (λ f. hold v (holder_in f.numbers v) f)) e).1 (cond a (pure none) (cond b (pure one) (λ f. hold v (holder_in f.numbers v) f)) e).0 v s
  number_follows xs e t s held v true b is_zero is_one beside holds reach =
      record { state = t; beside = beside; kept = kept_none xs e t; answer = fixed_value xs e t s held none v beside holds (omega arith) (beside.constants.none ∙ sym (eqb-true v 0 is_zero)) }
  number_follows xs e t s held v false true is_zero is_one beside holds reach =
      record { state = t; beside = beside; kept = kept_none xs e t; answer = fixed_value xs e t s held one v beside holds (omega arith) (beside.constants.one ∙ sym (eqb-true v 1 is_one)) }
  number_follows xs e t s held v false false is_zero is_one beside holds reach = hold_follows xs e t s held v (holder_in e.numbers v) refl beside reach holds

  -- a number
  pub sim_number : (xs : List ℕ) (held : Held) (v : ℕ) → Sim m (Val xs) xs held (number v) (machine.pure v)
  sim_number xs held v = record {
    long = λ e neat. ([], (adds_number [] v).add e neat);
    live = λ e t s b reach holds. number_follows xs e t s held v (nat_eq v 0) (nat_eq v 1) refl refl b holds reach;
  }

  -- one that nobody writes
  pub sim_none : (xs : List ℕ) (held : Held) → Sim m (Val xs) xs held (pure none) (machine.pure 0)
  sim_none xs held = sim_pure m (Val xs) xs held none 0 (λ e t s b holds. fixed_value xs e t s held none 0 b holds (omega arith) b.constants.none)

  pub sim_one : (xs : List ℕ) (held : Held) → Sim m (Val xs) xs held (pure one) (machine.pure 1)
  sim_one xs held = sim_pure m (Val xs) xs held one 1 (λ e t s b holds. fixed_value xs e t s held one 1 b holds (omega arith) b.constants.one)

  -- ---- guards

  pub sim_when : (xs : List ℕ) (held : Held) (g c v : ℕ) → Has m held g 1 → Has m held c v → Sim m (Val xs) xs held (when g c) (machine.pure (truth_of (is_true v)))
  sim_when xs held g c v live has = sim_set m xs held g op.NotEqual (c ∷ none ∷ []) (v ∷ 0 ∷ []) live (has, (inr (inr (inl (refl, refl))), tt))

  pub sim_unless : (xs : List ℕ) (held : Held) (g c v : ℕ) → Has m held g 1 → Has m held c v → Sim m (Val xs) xs held (unless g c) (machine.pure (truth_of (nat_eq v 0)))
  sim_unless xs held g c v live has = sim_set m xs held g op.Equal (c ∷ none ∷ []) (v ∷ 0 ∷ []) live (has, (inr (inr (inl (refl, refl))), tt))

  -- ---- ends

  -- a step under a guard that is 1 ends the run
  pub sim_ends : {B : Type 0} (R : Emitted → FlatState → Unit {0} → B → Type 0) (xs : List ℕ) (held : Held) (g : ℕ) (a : FlatAct) (x : Ending) → Has m held g 1 →
      ((t : FlatState) → runs.act m.instances a t ≡ Over (ending_of x) t) → Sim m R xs held (emit g a) (machine.ends x)
  sim_ends R xs held g a x live does = record {
    long = λ e neat. (g ∷ [], (adds_emit (g ∷ []) g a (inl refl)).add e neat);
    live = λ e t s b reach holds. record {
      state = t;
      over = ran_made m e t g a b.ran (has_value m xs e t s held g 1 b holds live) ∙ ap (λ p. go_on p (steps m.instances [])) (does t);
      used = b.used;
      actions = b.actions;
    };
  }

  pub sim_fail : {B : Type 0} (R : Emitted → FlatState → Unit {0} → B → Type 0) (xs : List ℕ) (held : Held) (g : ℕ) (p : Place) → Has m held g 1 → Sim m R xs held (fail g p) (machine.fail p)
  sim_fail R xs held g p live = sim_ends R xs held g (act.Fail p 0) (ending.Failed p) live (λ t. refl)

  stopped : (e : Emitted) (t : FlatState) (s : State) (g : ℕ) (b c : Bool) → Beside m e t s → t.values g ≡ 1 → b ≡ c → WentOver m (emit g (cond b act.Stop act.Bad) e).1 (cond c ending.Stopped ending.Bad) s
  stopped e t s g true true b live same = record { state = t; over = ran_made m e t g act.Stop b.ran live; used = b.used; actions = b.actions }
  stopped e t s g false false b live same = record { state = t; over = ran_made m e t g act.Bad b.ran live; used = b.used; actions = b.actions }
  stopped e t s g true false b live same = absurd (let no : true ≡ false = same in cc)
  stopped e t s g false true b live same = absurd (let no : false ≡ true = same in cc)

  -- the run goes no further
  pub sim_stop : {B : Type 0} (R : Emitted → FlatState → Unit {0} → B → Type 0) (xs : List ℕ) (held : Held) (g : ℕ) → Has m held g 1 → Sim m R xs held (stop g) machine.stop
  sim_stop R xs held g live = record {
    long = λ e neat. (g ∷ [], (adds_stop (g ∷ []) g (inl refl)).add e neat);
    live = λ e t s b reach holds. stopped e t s g (nat_eq e.depth 0) (nat_eq s.depth 0) b (has_value m xs e t s held g 1 b holds live) (ap (λ d. nat_eq d 0) b.depth);
  }

  -- ---- cells where the index is their own

  -- what a slot is, whose cell has the number n + i: one of a variable in scope, or a shared one
  abbrev pub Slotted : Held → Bool → ℕ → ℕ → Slot → Type 0
  Slotted held true n i x = (k : ℕ) × (v : Variable) × (x ≡ slot.Own k i) × Sees m held k v × (v.first ≡ n) × (i < v.count)
  Slotted held false n i x = x ≡ slot.Common (n + i)

  pub slotted_at : (xs : List ℕ) (e : Emitted) (t : FlatState) (s : State) (held : Held) (own : Bool) (g n i : ℕ) (x : Slot) → Holds xs e t held → Slotted held own n i x → IsAt e.scope (cell own g (n + i)) x
  slotted_at xs e t s held true g n i x holds h =
      subst (IsAt e.scope (Own g (n + i))) (sym h.2) (h.1, sees_holds m xs e t held h.0 h.1 holds.all h.3, h.5, ap (λ k. k + i) (sym h.4))
  slotted_at xs e t s held false g n i x holds h = subst (IsAt e.scope (Common g (n + i))) (sym h) refl

  abbrev AllOff : Held → List Cell → Type 0
  AllOff held cs = Each (λ d. In m held (guard_of d) 0) cs

  off_values : (xs : List ℕ) (e : Emitted) (t : FlatState) (held : Held) (cs : List Cell) → Each (HeldAt xs e t) held → AllOff held cs → Each (λ d. ValueAt xs e t (guard_of d) 0) cs
  off_values xs e t held [] h off = tt
  off_values xs e t held (c ∷ cs) h off = (in_holds m xs e t held (guard_of c) 0 h off.0, off_values xs e t held cs h off.1)

  denotes_last : (xs : List ℕ) (e : Emitted) (t : FlatState) (cs : List Cell) (d : Cell) (x : Slot) → Each (λ c. ValueAt xs e t (guard_of c) 0) cs → ValueAt xs e t (guard_of d) 1 → IsAt e.scope d x → Denotes xs e t (cs ++ d ∷ []) x
  denotes_last xs e t [] d x off on at = inl (on, at, tt)
  denotes_last xs e t (c ∷ cs) d x off on at = inr (off.0, denotes_last xs e t cs d x off.1 on at)

  denotes_more : (xs : List ℕ) (e : Emitted) (t : FlatState) (cs : List Cell) (d : Cell) (x : Slot) → Denotes xs e t cs x → ValueAt xs e t (guard_of d) 0 → Denotes xs e t (cs ++ d ∷ []) x
  denotes_more xs e t [] d x h off = absurd h
  denotes_more xs e t (c ∷ cs) d x (inl on) off = inl (on.0, on.1, each_append (λ c. ValueAt xs e t (guard_of c) 0) cs (d ∷ []) on.2 (off, tt))
  denotes_more xs e t (c ∷ cs) d x (inr h) off = inr (h.0, denotes_more xs e t cs d x h.1 off)

  off_more : (a v b w : ℕ) (held : Held) (cs : List Cell) → AllOff held cs → AllOff (Value a v ∷ Value b w ∷ held) cs
  off_more a v b w held [] h = tt
  off_more a v b w held (c ∷ cs) h = (inr (inr h.0), off_more a v b w held cs h.1)

  off_last : (held : Held) (cs : List Cell) (d : Cell) → AllOff held cs → In m held (guard_of d) 0 → AllOff held (cs ++ d ∷ [])
  off_last held cs d h off = each_append (λ c. In m held (guard_of c) 0) cs (d ∷ []) h (off, tt)

  pub has_more : (a v b w : ℕ) (held : Held) (l n : ℕ) → Has m held l n → Has m (Value a v ∷ Value b w ∷ held) l n
  has_more a v b w held l n (inl there) = inl (inr (inr there))
  has_more a v b w held l n (inr fixed) = inr fixed

  slotted_more : (a v b w : ℕ) (held : Held) (own : Bool) (n i : ℕ) (x : Slot) → Slotted held own n i x → Slotted (Value a v ∷ Value b w ∷ held) own n i x
  slotted_more a v b w held true n i x h = h
  slotted_more a v b w held false n i x h = h

  -- whether the index is this cell's
  index_is : (i j : ℕ) → i ≡ j → truth_of (nat_eq i j) ≡ 1
  index_is i j same = ap truth_of (eq-eqb i j same)

  index_not : (i j : ℕ) → (i ≡ j → ⊥) → truth_of (nat_eq i j) ≡ 0
  index_not i j other = ap truth_of (ne_eqb i j other)

  not_yet : (k j : ℕ) → j ≤ k → (k ≡ j → ⊥) → j + 1 ≤ k
  not_yet k j low other = omega (arith, other)

  has_points : (cs : List Cell) (x : Slot) (held : Held) (l v : ℕ) → Has m held l v → Has m (Points cs x ∷ held) l v
  has_points cs x held l v (inl there) = inl there
  has_points cs x held l v (inr fixed) = inr fixed

  slotted_points : (cs : List Cell) (y : Slot) (held : Held) (own : Bool) (n k : ℕ) (x : Slot) → Slotted held own n k x → Slotted (Points cs y ∷ held) own n k x
  slotted_points cs y held true n k x h = h
  slotted_points cs y held false n k x h = h

  pub has_value_more : (a v : ℕ) (held : Held) (l n : ℕ) → Has m held l n → Has m (Value a v ∷ held) l n
  has_value_more a v held l n (inl there) = inl (inr there)
  has_value_more a v held l n (inr fixed) = inr fixed

  abbrev Place_of : Held → List Cell → ℕ → ℕ → ℕ → Slot → Type 0
  Place_of held done k j count x = ((k < j) × Finds m held done x) ⊎ ((j ≤ k) × (k < j + count) × AllOff held done)

  next_at :
      (xs : List ℕ) (held : Held) (done : List Cell) (own : Bool) (a c k n j count : ℕ) (x : Slot) (rest : List Cell → Emit (List Cell)) → Slotted held own n k x → j ≤ k → k < j + suc count → AllOff held done →
      ((more : Held) (d : List Cell) → ((l v : ℕ) → Has m held l v → Has m more l v) → Slotted more own n k x → Place_of more d k (j + 1) count x → Sim m (Meant xs) xs more (rest d) (machine.pure x)) →
      (k ≡ j) ⊎ (k ≡ j → ⊥) → Sim m (Meant xs) xs (Value a (truth_of (nat_eq k j)) ∷ Value c j ∷ held) (rest (done ++ cell own a (n + j) ∷ [])) (machine.pure x)
  next_at xs held done own a c k n j count x rest at low high off go (inl same) =
      let d : Cell = cell own a (n + j) in
      let all : Held = Value a 1 ∷ Value c j ∷ held in
      subst (λ w. Sim m (Meant xs) xs (Value a w ∷ Value c j ∷ held) (rest (done ++ d ∷ [])) (machine.pure x)) (sym (index_is k j same))
      (sim_also m (Meant xs) xs (Points (done ++ d ∷ []) x) all (rest (done ++ d ∷ [])) (machine.pure x)
      (λ e t s b holds. denotes_last xs e t done d x (off_values xs e t all done holds.all (off_more a 1 c j held done off)) (subst (λ l. ValueAt xs e t l 1) (sym (cell_guard own a (n + j))) holds.all.0)
      (subst (λ q. IsAt e.scope (cell own a (n + q)) x) same (slotted_at xs e t s all own a n k x holds (slotted_more a 1 c j held own n k x at))))
      (go (Points (done ++ d ∷ []) x ∷ all) (done ++ d ∷ []) (λ l v h. has_points (done ++ d ∷ []) x all l v (has_more a 1 c j held l v h)) (slotted_points (done ++ d ∷ []) x all own n k x (slotted_more a 1 c j held own n k x at))
      (inl (omega (arith, same), inl (refl, refl)))))
  next_at xs held done own a c k n j count x rest at low high off go (inr other) =
      let d : Cell = cell own a (n + j) in
      let all : Held = Value a 0 ∷ Value c j ∷ held in
      subst (λ w. Sim m (Meant xs) xs (Value a w ∷ Value c j ∷ held) (rest (done ++ d ∷ [])) (machine.pure x)) (sym (index_not k j other))
      (go all (done ++ d ∷ []) (λ l v h. has_more a 0 c j held l v h) (slotted_more a 0 c j held own n k x at)
      (inr (not_yet k j low other, omega (arith, high), off_last all done d (off_more a 0 c j held done off) (subst (λ l. In m all l 0) (sym (cell_guard own a (n + j))) (inl (refl, refl))))))

  -- the next cell, by whether the index is its own
  next_cell :
      (xs : List ℕ) (held : Held) (done : List Cell) (own : Bool) (a c i g k n j count : ℕ) (x : Slot) (rest : List Cell → Emit (List Cell)) → Slotted held own n k x → Place_of held done k j (suc count) x →
      ((more : Held) (d : List Cell) → ((l v : ℕ) → Has m held l v → Has m more l v) → Slotted more own n k x → Place_of more d k (j + 1) count x → Sim m (Meant xs) xs more (rest d) (machine.pure x)) →
      Sim m (Meant xs) xs (Value a (truth_of (nat_eq k j)) ∷ Value c j ∷ held) (rest (done ++ cell own a (n + j) ∷ [])) (machine.pure x)
  next_cell xs held done own a c i g k n j count x rest at (inl before) go =
      let d : Cell = cell own a (n + j) in
      let off : truth_of (nat_eq k j) ≡ 0 = index_not k j (λ same. absurd (omega (arith, before.0))) in
      let all : Held = Value a 0 ∷ Value c j ∷ held in
      subst (λ w. Sim m (Meant xs) xs (Value a w ∷ Value c j ∷ held) (rest (done ++ d ∷ [])) (machine.pure x)) (sym off)
      (sim_also m (Meant xs) xs (Points (done ++ d ∷ []) x) all (rest (done ++ d ∷ [])) (machine.pure x)
      (λ e t s b holds. denotes_more xs e t done d x (finds_holds m xs e t all done x holds.all before.1) (subst (λ l. ValueAt xs e t l 0) (sym (cell_guard own a (n + j))) holds.all.0))
      (go (Points (done ++ d ∷ []) x ∷ all) (done ++ d ∷ []) (λ l v h. has_points (done ++ d ∷ []) x all l v (has_more a 0 c j held l v h)) (slotted_points (done ++ d ∷ []) x all own n k x (slotted_more a 0 c j held own n k x at))
      (inl (omega (arith, before.0), inl (refl, refl)))))
  next_cell xs held done own a c i g k n j count x rest at (inr behind) go = next_at xs held done own a c k n j count x rest at behind.0 behind.1 behind.2 go (cases_eq k j)

  -- so many cells from one on, of which one is meant: where it stood before, or comes yet
  where_on :
      (xs : List ℕ) (held : Held) (done : List Cell) (own : Bool) (g i k n j count : ℕ) (x : Slot) → Has m held g 1 → Has m held i k → Slotted held own n k x →
      ((k < j) × Finds m held done x) ⊎ ((j ≤ k) × (k < j + count) × AllOff held done) → Sim m (Meant xs) xs held (cells_where done own g i n j count) (machine.pure x)
  where_on xs held done own g i k n j zero x live index at (inl before) =
      sim_pure m (Meant xs) xs held done x (λ e t s b holds. finds_holds m xs e t held done x holds.all before.1)
  where_on xs held done own g i k n j zero x live index at (inr behind) = absurd (omega (arith, behind.0, behind.1))
  where_on xs held done own g i k n j (suc count) x live index at place =
      sim_quiet m (Meant xs) xs held (number j) j _ (machine.pure x) (sim_number xs held j) (λ c.
      let with_number : Held = Value c j ∷ held in
      sim_quiet m (Meant xs) xs with_number (set g op.Equal (i ∷ c ∷ [])) (truth_of (nat_eq k j)) _ (machine.pure x)
      (sim_set m xs with_number g op.Equal (i ∷ c ∷ []) (k ∷ j ∷ []) (has_value_more c j held g 1 live) (has_value_more c j held i k index, (inl (inl (refl, refl)), tt))) (λ a.
      next_cell xs held done own a c i g k n j count x (λ d. cells_where d own g i n (j + 1) count) at place
      (λ more d has slots there. where_on xs more d own g i k n (j + 1) count x (has g 1 live) (has i k index) slots there)))

  -- ---- an index that is tested

  pub only_off : (held : Held) (l bad : ℕ) → In m held bad 0 → One (bad ∷ []) l → Has m held l 0
  only_off held l bad there (inl same) = inl (subst (λ k. In m held k 0) (sym same) there)
  only_off held l bad there (inr none) = absurd none

  has_three : (a v b w c u : ℕ) (held : Held) (l n : ℕ) → Has m held l n → Has m (Value a v ∷ Value b w ∷ Value c u ∷ held) l n
  has_three a v b w c u held l n (inl there) = inl (inr (inr (inr there)))
  has_three a v b w c u held l n (inr fixed) = inr fixed

  slotted_three : (a v b w c u : ℕ) (held : Held) (own : Bool) (n i : ℕ) (x : Slot) → Slotted held own n i x → Slotted (Value a v ∷ Value b w ∷ Value c u ∷ held) own n i x
  slotted_three a v b w c u held true n i x h = h
  slotted_three a v b w c u held false n i x h = h

  adds_rest : (own : Bool) (g i n count : ℕ) (e : Emitted) → Neat e → Long e (cells_where [] own g i n 0 count e).1
  adds_rest own g i n count e neat = (g ∷ [], (adds_cells_where (g ∷ []) [] own g i n 0 count e e (inl refl) (since_none (g ∷ []) e neat) tt).since)

  pub fails_always : {D : Type 0} (p : Place) → AlwaysEnds m {D = D} (machine.fail p)
  fails_always p s = (ending.Failed p, s, refl)

  tested :
      (xs : List ℕ) (held : Held) (p : Place) (own : Bool) (g n count i k : ℕ) (x : Slot) (b : Bool) → nat_lt k count ≡ b → Has m held g 1 → Has m held i k → (k < count → Slotted held own n k x) → (ok c bad : ℕ) →
      Sim m (Meant xs) xs (Value bad (truth_of (nat_eq (truth_of (nat_lt k count)) 0)) ∷ Value ok (truth_of (nat_lt k count)) ∷ Value c count ∷ held) (fail bad p >> cells_where [] own g i n 0 count) (cond b (machine.pure x) (machine.fail p))
  tested xs held p own g n count i k x true is live index at ok c bad =
      let low : k < count = ltb-true k count is in
      let all : Held = Value bad 0 ∷ Value ok 1 ∷ Value c count ∷ held in
      subst (λ w. Sim m (Meant xs) xs (Value bad (truth_of (nat_eq (truth_of w) 0)) ∷ Value ok (truth_of w) ∷ Value c count ∷ held) (fail bad p >> cells_where [] own g i n 0 count) (machine.pure x)) (sym is)
      (sim_silent m (Meant xs) xs all (fail bad p) (λ _. cells_where [] own g i n 0 count) (machine.pure x)
      (sim_skip m xs all (bad ∷ []) (fail bad p) (adds_fail (bad ∷ []) bad p (inl refl)) (λ l one. only_off all l bad (inl (refl, refl)) one)) (λ _.
      where_on xs all [] own g i k n 0 count x (has_three bad 0 ok 1 c count held g 1 live) (has_three bad 0 ok 1 c count held i k index) (slotted_three bad 0 ok 1 c count held own n k x (at low))
      (inr (omega arith, omega (arith, low), tt))))
  tested xs held p own g n count i k x false is live index at ok c bad =
      let all : Held = Value bad 1 ∷ Value ok 0 ∷ Value c count ∷ held in
      subst (λ w. Sim m (Meant xs) xs (Value bad (truth_of (nat_eq (truth_of w) 0)) ∷ Value ok (truth_of w) ∷ Value c count ∷ held) (fail bad p >> cells_where [] own g i n 0 count) (machine.fail p)) (sym is)
      (sim_halted m (Meant xs) xs all (fail bad p) (λ _. cells_where [] own g i n 0 count) (machine.fail p) (fails_always p) (sim_fail Done xs all bad p (inl (inl (refl, refl)))) (λ _ e neat. adds_rest own g i n count e neat))

  -- where the index is in range, its cell is found; where it is not, the run fails
  pub find_at :
      (xs : List ℕ) (held : Held) (p : Place) (own : Bool) (g n count i k : ℕ) (x : Slot) (b : Bool) → nat_lt k count ≡ b → Has m held g 1 → Has m held i k → (k < count → Slotted held own n k x) →
      Sim m (Meant xs) xs held (cells_at p own g n count i) (cond b (machine.pure x) (machine.fail p))
  find_at xs held p own g n count i k x b is live index at =
      sim_quiet m (Meant xs) xs held (number count) count _ (cond b (machine.pure x) (machine.fail p)) (sim_number xs held count) (λ c.
      sim_quiet m (Meant xs) xs (Value c count ∷ held) (set g op.LessUint (i ∷ c ∷ [])) (truth_of (nat_lt k count)) _ (cond b (machine.pure x) (machine.fail p))
      (sim_set m xs (Value c count ∷ held) g op.LessUint (i ∷ c ∷ []) (k ∷ count ∷ []) (has_value_more c count held g 1 live) (has_value_more c count held i k index, (inl (inl (refl, refl)), tt))) (λ ok.
      let all : Held = Value ok (truth_of (nat_lt k count)) ∷ Value c count ∷ held in
      sim_quiet m (Meant xs) xs all (unless g ok) (truth_of (nat_eq (truth_of (nat_lt k count)) 0)) _ (cond b (machine.pure x) (machine.fail p))
      (sim_unless xs all g ok (truth_of (nat_lt k count)) (has_more ok (truth_of (nat_lt k count)) c count held g 1 live) (inl (inl (refl, refl)))) (λ bad.
      tested xs held p own g n count i k x b is live index at ok c bad)))
