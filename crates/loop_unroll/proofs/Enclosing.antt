-- Where a section begins and ends, the emission does what the thread does.
use Rattle.std.proofs.Common.{◌≡◌, ℕ, zero, suc, ◌+◌, ◌-◌, inl, inr, List, [], ◌∷◌, refl, sym, ap, ◌∙◌, subst, arith}
use Rattle.run_model.specs.declared.state.Flow.{Flow}
use Rattle.run_model.specs.declared.state.Halt.TheVariants as halt
use Rattle.run_model.specs.declared.state.Slot.{Slot}
use Rattle.run_model.specs.Steps.{State, Outcome, Step}
use Rattle.run_model.specs.Steps as machine
use Rattle.flat_prog.specs.Runs.{FlatState}
use Rattle.emit_steps.specs.declared.state.Cell.{Cell}
use Rattle.loop_unroll.specs.declared.targets.Targets.{Targets}
use Rattle.emit_steps.specs.Emitting.{Emitted, open_section, begin_section, end_section}
use Rattle.emit_steps.proofs.Growth.{each_map, One, Neat}
use Rattle.emit_steps.proofs.Adding.{Since, guard_of}
use Rattle.emit_steps.proofs.AddingForms.{opens_section}
use Rattle.emit_steps.proofs.Running.{Machine, Reaches, Safe, Beside, Follows}
use Rattle.emit_steps.proofs.Simulating.{Item, Value, Points, Declared, Held, ValueAt, Denotes, HeldAt, Holds, Done, holds_behind, In, in_holds}
use Rattle.emit_steps.proofs.Locking.{Under, sim_open, close_follows}
use Rattle.loop_unroll.proofs.Flows.{Flowed}

-- seen from another depth

pub safe_deep : (e : Emitted) (d l : ℕ) → Safe e l → Safe (record e { depth = d }) l
safe_deep e d l safe = record { used = safe.used; apart = safe.apart; other = safe.other }

pub value_deep : (xs : List ℕ) (e : Emitted) (d : ℕ) (t : FlatState) (a v : ℕ) → ValueAt xs e t a v → ValueAt xs (record e { depth = d }) t a v
value_deep xs e d t a v at = (safe_deep e d a at.0, at.1, at.2)

denotes_deep : (xs : List ℕ) (e : Emitted) (d : ℕ) (t : FlatState) (cs : List Cell) (x : Slot) → Denotes xs e t cs x → Denotes xs (record e { depth = d }) t cs x
denotes_deep xs e d t [] x h = h
denotes_deep xs e d t (c ∷ cs) x (inl on) =
    inl (value_deep xs e d t (guard_of c) 1 on.0, on.1, each_map (λ k. ValueAt xs e t (guard_of k) 0) (λ k. ValueAt xs (record e { depth = d }) t (guard_of k) 0) (λ k at. value_deep xs e d t (guard_of k) 0 at) cs on.2)
denotes_deep xs e d t (c ∷ cs) x (inr off) = inr (value_deep xs e d t (guard_of c) 0 off.0, denotes_deep xs e d t cs x off.1)

item_deep : (xs : List ℕ) (e : Emitted) (d : ℕ) (t : FlatState) (p : Item) → HeldAt xs e t p → HeldAt xs (record e { depth = d }) t p
item_deep xs e d t (Value a v) at = value_deep xs e d t a v at
item_deep xs e d t (Points cs x) at = denotes_deep xs e d t cs x at
item_deep xs e d t (Declared i v) at = at

pub reaches_deep : (e z : Emitted) (d : ℕ) → Reaches (record e { depth = d }) z → Reaches e z
reaches_deep e z d r = record { numbers = r.numbers; numbers_behind = r.numbers_behind; numbers_above = r.numbers_above; created = r.created; created_behind = r.created_behind }

pub follows_deep :
    {A B : Type 0} (R : Emitted → FlatState → A → B → Type 0) (m : Machine) (xs : List ℕ) (e : Emitted) (d : ℕ) (t : FlatState) (o : A × Emitted) (r : Outcome B) → Follows R m xs (record e { depth = d }) t o r → Follows R m xs e t o r
follows_deep R m xs e d t o (machine.Goes b s) w = record { state = w.state; beside = w.beside; kept = w.kept; answer = w.answer }
follows_deep R m xs e d t o (machine.Halts (halt.Over x) s) w = w
follows_deep R m xs e d t o (machine.Halts (halt.Short n) s) w = w

pub flow_deep : (m : Machine) (t : Targets) (e : Emitted) (d : ℕ) (u : FlatState) (o : ℕ × Emitted) (r : Outcome Flow) → Flowed m t (record e { depth = d }) u o r → Flowed m t e u o r
flow_deep m t e d u o (machine.Goes flow s) w = record { state = w.state; vars = w.vars; more = w.more; scope = w.scope; exact = w.exact; beside = w.beside; kept = w.kept; post = w.post }
flow_deep m t e d u o (machine.Halts (halt.Over x) s) w = w
flow_deep m t e d u o (machine.Halts (halt.Short n) s) w = w

module _ (m : Machine) where
  -- ---- the depth grows

  deep_opened :
      (g : ℕ) (e : Emitted) (t : FlatState) (n : ℕ) → e.depth ≡ n → ((e.depth ≡ 0 → ⊥) → Safe e e.opened × (t.values e.opened ≡ 1)) → (e.depth ≡ 0 → e.opened ≡ g) → Safe e g → t.values g ≡ 1 →
      Safe e e.opened × (t.values e.opened ≡ 1)
  deep_opened g e t zero is before under safe live = (subst (Safe e) (sym (under is)) safe, ap t.values (under is) ∙ live)
  deep_opened g e t (suc n) is before under safe live = before (λ z. absurd (omega (arith, is, z)))

  -- where no section was open, the one that is was opened under this guard
  beside_deeper : (g : ℕ) (e : Emitted) (t : FlatState) (s : State) → Beside m e t s → (e.depth ≡ 0 → e.opened ≡ g) → Safe e g → t.values g ≡ 1 → Beside m (record e { depth = e.depth + 1 }) t (record s { depth = s.depth + 1 })
  beside_deeper g e t s b under safe live = record {
    ran = b.ran;
    base = b.base;
    neat = b.neat;
    stacked = b.stacked;
    plain = b.plain;
    constants = b.constants;
    idle = b.idle;
    matches = b.matches;
    creates = b.creates;
    few = b.few;
    numbered = b.numbered;
    depth = ap (λ n. n + 1) b.depth;
    opened = λ _. let it : Safe e e.opened × (t.values e.opened ≡ 1) = deep_opened g e t e.depth refl b.opened under safe live in (safe_deep e (e.depth + 1) e.opened it.0, it.1);
    script = b.script;
    used = b.used;
    actions = b.actions;
  }

  begun :
      (xs : List ℕ) (held : Held) (g : ℕ) (e : Emitted) (t : FlatState) (o : Outcome (Unit {0})) → In m held g 1 → Holds xs e t held → Neat e → Follows {B = Unit {0}} (Under m g) m xs e t (open_section g e) o →
      Follows {B = Unit {0}} Done m xs e t (begin_section g e) (machine.go_on o (λ _. machine.change (λ r. record r { depth = r.depth + 1 })))
  begun xs held g e t (machine.Goes a s) live holds neat w =
      let f : Emitted = (open_section g e).1 in
      let since : Since (g ∷ []) e f = (opens_section (g ∷ []) g e (inl refl) neat).since in
      let at : ValueAt xs f w.state g 1 = in_holds m xs f w.state held g 1 (holds_behind (g ∷ []) xs e f t w.state held since w.kept holds).all live in
      record { state = w.state; beside = beside_deeper g f w.state s w.beside w.answer at.0 at.2; kept = w.kept; answer = tt }
  begun xs held g e t (machine.Halts (halt.Over x) s) live holds neat w = record { state = w.state; over = w.over; used = w.used; actions = w.actions }
  begun xs held g e t (machine.Halts (halt.Short n) s) live holds neat w = record { state = w.state; short = w.short }

  pub begin_follows :
      (xs : List ℕ) (held : Held) (g : ℕ) (e : Emitted) (t : FlatState) (s : State) → In m held g 1 → Beside m e t s → Reaches (begin_section g e).1 m.last → Holds xs e t held →
      Follows {B = Unit {0}} Done m xs e t (begin_section g e) (machine.begin_section s)
  begin_follows xs held g e t s live b reach holds =
      begun xs held g e t (machine.open_section s) live holds b.neat ((sim_open m xs held g live).live e t s b (reaches_deep (open_section g e).1 m.last ((open_section g e).1.depth + 1) reach) holds)

  deep_free : (xs : List ℕ) (g : ℕ) (e : Emitted) (n : ℕ) → e.depth ≡ n → ((e.depth ≡ 0 → ⊥) → One xs e.opened → ⊥) → (e.depth ≡ 0 → e.opened ≡ g) → (One xs g → ⊥) → One xs e.opened → ⊥
  deep_free xs g e zero is before under free some = free (subst (One xs) (under is) some)
  deep_free xs g e (suc n) is before under free some = before (λ z. absurd (omega (arith, is, z))) some

  -- what is held is held inside too
  pub holds_deeper : (xs : List ℕ) (held : Held) (g : ℕ) (e : Emitted) (t : FlatState) → In m held g 1 → (e.depth ≡ 0 → e.opened ≡ g) → Holds xs e t held → Holds xs (record e { depth = e.depth + 1 }) t held
  holds_deeper xs held g e t live under h = record {
    low = h.low;
    high = h.high;
    plain = h.plain;
    apart = h.apart;
    opened = λ _ some. deep_free xs g e e.depth refl h.opened under (in_holds m xs e t held g 1 h.all live).1 some;
    all = each_map (HeldAt xs e t) (HeldAt xs (record e { depth = e.depth + 1 }) t) (λ p at. item_deep xs e (e.depth + 1) t p at) held h.all;
  }

  -- ---- and falls

  still_deep : (d : ℕ) → (d - 1 ≡ 0 → ⊥) → d ≡ 0 → ⊥
  still_deep d deep z = deep (omega (arith, z))

  beside_shallower : (e : Emitted) (t : FlatState) (s : State) → Beside m e t s → Beside m (record e { depth = e.depth - 1 }) t (record s { depth = s.depth - 1 })
  beside_shallower e t s b = record {
    ran = b.ran;
    base = b.base;
    neat = b.neat;
    stacked = b.stacked;
    plain = b.plain;
    constants = b.constants;
    idle = b.idle;
    matches = b.matches;
    creates = b.creates;
    few = b.few;
    numbered = b.numbered;
    depth = ap (λ n. n - 1) b.depth;
    opened = λ deep. (safe_deep e (e.depth - 1) e.opened (b.opened (still_deep e.depth deep)).0, (b.opened (still_deep e.depth deep)).1);
    script = b.script;
    used = b.used;
    actions = b.actions;
  }

  -- what is held at a lower depth
  pub holds_shallower : (xs : List ℕ) (held : Held) (e : Emitted) (t : FlatState) → Holds xs e t held → Holds xs (record e { depth = e.depth - 1 }) t held
  holds_shallower xs held e t h = record {
    low = h.low;
    high = h.high;
    plain = h.plain;
    apart = h.apart;
    opened = λ deep. h.opened (still_deep e.depth deep);
    all = each_map (HeldAt xs e t) (HeldAt xs (record e { depth = e.depth - 1 }) t) (λ p at. item_deep xs e (e.depth - 1) t p at) held h.all;
  }

  -- the close stands under the guard of the open
  pub end_follows :
      (xs : List ℕ) (held : Held) (e : Emitted) (t : FlatState) (s : State) → Beside m e t s → Holds xs e t held → (e.depth ≡ 0 → ⊥) → Follows {B = Unit {0}} Done m xs (record e { depth = e.depth - 1 }) t (end_section e) (machine.end_section s)
  end_follows xs held e t s b holds deep =
      let low : Emitted = record e { depth = e.depth - 1 } in
      let at : Safe e e.opened × (t.values e.opened ≡ 1) = b.opened deep in
      let here : Holds xs low t (Value e.opened 1 ∷ []) = record {
        low = holds.low;
        high = holds.high;
        plain = holds.plain;
        apart = holds.apart;
        opened = λ _. holds.opened deep;
        all = ((safe_deep e (e.depth - 1) e.opened at.0, holds.opened deep, at.1), tt);
      } in
      close_follows m xs (Value e.opened 1 ∷ []) e.opened low t (record s { depth = s.depth - 1 }) (beside_shallower e t s b) here (inl (refl, refl)) (λ _. refl)
