-- Loops: what is emitted for their turns does what the thread does.
use Rattle.std.proofs.Common.{◌≡◌, ℕ, zero, suc, ◌<◌, ◌≤◌, inl, inr, List, [], ◌∷◌, ◌++◌, Bool, true, false, refl, sym, ap, ◌∙◌, subst, append-nil, arith}
use Rattle.std.specs.Prelude.{cond, nat_eq, not}
use Rattle.dg_base.specs.declared.Place.{Place}
use Rattle.dg_base.specs.declared.operators.Op.TheVariants as op
use Rattle.dg_base.specs.Values.{is_true, truth_of}
use Rattle.run_model.specs.declared.state.Ending.TheVariants as ending
use Rattle.run_model.specs.declared.state.Flow.{Flow}
use Rattle.run_model.specs.declared.state.Flow.TheVariants.{Next as Onward, Broke, Continued, Returned}
use Rattle.run_model.specs.declared.state.Halt.TheVariants as halt
use Rattle.run_model.specs.Steps.{State, Outcome, Step}
use Rattle.run_model.specs.Steps as machine
use Rattle.run_model.specs.Calls.{Setting}
use Rattle.run_model.specs.Calls as calls
use Rattle.run_model.specs.Statements as model
use Rattle.flat_prog.specs.declared.FlatAct.TheVariants as act
use Rattle.flat_prog.specs.Runs.{FlatState, Goes, set_local}
use Rattle.loop_unroll.specs.declared.targets.Targets.{Targets}
use Rattle.emit_steps.specs.Emitting.{Emitted, Emit, ◌>>=◌, ◌>>◌, pure, none, fresh, emit, mark, when, unless, join_guards, stop}
use Rattle.loop_unroll.specs.Stating.{Body, inside, spend, leave, targets, one_turn, turns, do_turns}
use Rattle.emit_steps.proofs.Growth.{New, new_behind, One}
use Rattle.emit_steps.proofs.Adding.{Since, Adds, adds_one, adds_then, adds_fresh, fresh_new, adds_set, adds_mark, adds_join}
use Rattle.emit_steps.proofs.AddingForms.{since_more}
use Rattle.loop_unroll.proofs.AddingBodies.{Left, guard_then, guard_guard, before_guard, guard_is, guard_fresh, guard_join}
use Rattle.loop_unroll.proofs.AddingStatements.{AddsInside, adds_leave, adds_spend, adds_turn, adds_turns, adds_do_turns}
use Rattle.emit_steps.proofs.Running.{local_same, local_other, Reaches, reaches_before, plain_in_end, Machine, ran, Beside, Kept, ending_of, WentOn, WentOver, WentShort, Follows, ran_over, ran_short, beside_dead}
use Rattle.emit_steps.proofs.Simulating.{Value, Held, ValueAt, Holds, Val, Done, holds_behind, kept_then, kept_none, In, in_holds, Sim, ran_made, Writable, beside_written, new_safe}
use Rattle.emit_steps.proofs.Acting.{beside_fresh}
use Rattle.emit_steps.proofs.Finding.{sim_when, sim_unless, sim_ends, sim_stop}
use Rattle.emit_steps.proofs.Evaluating.{holds_fresh}
use Rattle.loop_unroll.proofs.Flows.{Distinct, written, Marked, Ran, Flowed, SimBody}
use Rattle.loop_unroll.proofs.Leaving.{holds_free, kept_more}
use Rattle.loop_unroll.proofs.Joining.{first_ran, second_ran, Joined, joined, not_joined}
use Rattle.loop_unroll.proofs.Branching.{holds_more, value_new, one_zero, SimPart, inside_part}

-- ---- lists that nothing is added to

none_more : {X : Type 0} (xs ys : List X) → xs ++ ys ≡ xs → ys ≡ []
none_more [] ys h = h
none_more (x ∷ xs) ys h = none_more xs ys (let same : xs ++ ys ≡ xs = cc in same)

front_none : {X : Type 0} (xs ys : List X) → xs ++ ys ≡ [] → xs ≡ []
front_none [] ys h = refl
front_none (x ∷ xs) ys h = absurd (let no : x ∷ (xs ++ ys) ≡ [] = h in cc)

-- ---- what is held and written

-- one value is held, and what is written is among what was
holds_one : (xs ys : List ℕ) (e : Emitted) (t : FlatState) (held : Held) (a v : ℕ) → ((k : ℕ) → One ys k → One xs k) → Holds xs e t held → ValueAt xs e t a v → Holds ys e t (Value a v ∷ [])
holds_one xs ys e t held a v fewer h at = record {
  low = λ x one. h.low x (fewer x one);
  high = λ x one. h.high x (fewer x one);
  plain = λ x one. h.plain x (fewer x one);
  apart = λ x one. h.apart x (fewer x one);
  opened = λ deep one. h.opened deep (fewer e.opened one);
  all = ((at.0, λ one. at.1 (fewer a one), at.2), tt);
}

-- what is written elsewhere stays where an expression is evaluated
pub written_same : (xs : List ℕ) (e : Emitted) (u v : FlatState) (held : Held) (x : ℕ) → One xs x → Holds xs e u held → Kept [] e u v → v.values x ≡ u.values x
written_same xs e u v held x there h kept = kept x (h.low x there) (h.apart x there) (λ same. let high : 5 ≤ x = h.high x there in absurd (omega arith)) (λ off. off)

-- the three that a turn may write are the loop's two and one that is new
turn_marks : (done result new k : ℕ) → One (done ∷ new ∷ result ∷ []) k → One (new ∷ done ∷ result ∷ []) k
turn_marks done result new k (inl same) = inr (inl same)
turn_marks done result new k (inr (inl same)) = inl same
turn_marks done result new k (inr (inr (inl same))) = inr (inr (inl same))
turn_marks done result new k (inr (inr (inr off))) = absurd off

loop_marks : (done result new k : ℕ) → One (done ∷ result ∷ []) k → One (done ∷ new ∷ result ∷ []) k
loop_marks done result new k (inl same) = inl same
loop_marks done result new k (inr (inl same)) = inr (inr (inl same))
loop_marks done result new k (inr (inr off)) = absurd off

no_turn_mark : (done result new l high : ℕ) → high ≤ new → l < high → (One (done ∷ result ∷ []) l → ⊥) → One (done ∷ new ∷ result ∷ []) l → ⊥
no_turn_mark done result new l high le low free (inl same) = free (inl same)
no_turn_mark done result new l high le low free (inr (inl same)) = absurd (omega arith)
no_turn_mark done result new l high le low free (inr (inr (inl same))) = free (inr (inl same))
no_turn_mark done result new l high le low free (inr (inr (inr off))) = absurd off

module _ (m : Machine) where
  same_state : (f : Emitted) (t u : FlatState) → ran m f ≡ Goes t → ran m f ≡ Goes u → t ≡ u
  same_state f t u a b = let same : Goes t ≡ Goes u = sym a ∙ b in cc

  -- a value that is in none of some locals, which the evaluation does not write
  pub value_apart : (xs : List ℕ) (e : Emitted) (t : FlatState) (o : ℕ × Emitted) (r : Outcome ℕ) → Follows (Val []) m [] e t o r → Follows (Val xs) m xs e t o r → Follows (Val xs) m [] e t o r
  value_apart xs e t o (machine.Goes v s) a b = record { state = a.state; beside = a.beside; kept = a.kept; answer = subst (λ u. ValueAt xs o.1 u o.0 v) (sym (same_state o.1 a.state b.state a.beside.ran b.beside.ran)) b.answer }
  value_apart xs e t o (machine.Halts (halt.Over x) s) a b = a
  value_apart xs e t o (machine.Halts (halt.Short n) s) a b = a

  -- where no variable is left in scope
  pub all_gone : (t : Targets) (e : Emitted) (u : FlatState) (f : Emitted) (h : ℕ) (flow : Flow) (s : State) (w : Ran m t e u f h flow s) → f.scope ≡ e.scope → Beside m f w.state s
  all_gone t e u f h flow s w same =
      let none_there : w.vars ≡ [] = front_none w.vars w.more (none_more e.scope (w.vars ++ w.more) (sym w.scope ∙ same)) in
      let whole : e.scope ++ w.vars ≡ f.scope = ap (λ vs. e.scope ++ vs) none_there ∙ (append-nil e.scope ∙ sym same) in
      subst (λ vs. Beside m (record f { scope = vs }) w.state s) whole w.beside

  -- an expression, or what stands for one that is left out
  pub record SimValue (em : ℕ → Emit ℕ) (st : Step ℕ) : Type 0 where
    pub adds : (k : ℕ) → Adds (k ∷ []) (em k)
    pub run : (xs : List ℕ) (held : Held) (g : ℕ) → In m held g 1 → Sim m (Val xs) xs held (em g) st

  -- ---- how the turns of a loop leave off

  module _ (done result : ℕ) (other : done ≡ result → ⊥) where
    abbrev pub marks : List ℕ
    marks = done ∷ result ∷ []

    -- the loop is done, or a value is returned
    abbrev pub LoopPost : FlatState → Flow → Type 0
    LoopPost u Onward = (u.values done ≡ 1) × (u.values result ≡ 0)
    LoopPost u Broke = ⊥
    LoopPost u Continued = ⊥
    LoopPost u (Returned v) = (u.values done ≡ 0) × (u.values result ≡ v)

    pub record Turned (e : Emitted) (u : FlatState) (f : Emitted) (flow : Flow) (s : State) : Type 0 where
      pub state : FlatState
      pub beside : Beside m f state s
      pub kept : Kept marks e u state
      pub post : LoopPost state flow

    abbrev pub Looped : Emitted → FlatState → Emitted → Outcome Flow → Type 0
    Looped e u f (machine.Goes flow s) = Turned e u f flow s
    Looped e u f (machine.Halts (halt.Over x) s) = WentOver m f x s
    Looped e u f (machine.Halts (halt.Short n) s) = WentShort m f

    -- control is at the guard of a turn
    pub record Ready (g : ℕ) (e : Emitted) (u : FlatState) (s : State) : Type 0 where
      pub beside : Beside m e u s
      pub holds : Holds marks e u (Value g 1 ∷ [])
      pub done_off : u.values done ≡ 0
      pub result_off : u.values result ≡ 0

    -- what comes next of a loop, from each place where control may be
    abbrev pub Goes_on : (ℕ → Emit (Unit {0})) → Step Flow → Type 0
    Goes_on rest more = (g : ℕ) (e : Emitted) (u : FlatState) (s : State) → Ready g e u s → Reaches (rest g e).1 m.last → Looped e u (rest g e).1 (more s)

    looped_before : (gs : List ℕ) (e f : Emitted) (u w : FlatState) (i : Emitted) (o : Outcome Flow) → Since gs e f → Kept marks e u w → Looped f w i o → Looped e u i o
    looped_before gs e f u w i (machine.Goes flow s) since kept l = record { state = l.state; beside = l.beside; kept = kept_then gs marks e f u w l.state since kept l.kept; post = l.post }
    looped_before gs e f u w i (machine.Halts (halt.Over x) s) since kept l = l
    looped_before gs e f u w i (machine.Halts (halt.Short n) s) since kept l = l

    -- where the loop is left, the rest is not reached
    left_dead :
        (g : ℕ) (e : Emitted) (u : FlatState) (f : Emitted) (w : FlatState) (i : Emitted) (flow : Flow) (s : State) → Since (g ∷ []) f i → Reaches i m.last → Beside m f w s → w.values g ≡ 0 → Kept marks e u w → LoopPost w flow → Turned e u i flow s
    left_dead g e u f w i flow s since reach b off kept post = record { state = w; beside = beside_dead m (g ∷ []) f i w s since reach b (λ l one. one_zero g l w off one); kept = kept; post = post }

    ready_behind : (gs : List ℕ) (g : ℕ) (e f : Emitted) (u w : FlatState) (s r : State) → Ready g e u s → Since gs e f → Kept [] e u w → Beside m f w r → Ready g f w r
    ready_behind gs g e f u w s r ready since kept b = record {
      beside = b;
      holds = holds_behind gs marks e f u w (Value g 1 ∷ []) since (kept_more marks e u w kept) ready.holds;
      done_off = written_same marks e u w (Value g 1 ∷ []) done (inl refl) ready.holds kept ∙ ready.done_off;
      result_off = written_same marks e u w (Value g 1 ∷ []) result (inr (inl refl)) ready.holds kept ∙ ready.result_off;
    }

    -- a value, and then what goes by it
    loop_value :
        (gs hs : List ℕ) (e : Emitted) (u : FlatState) (em : Emit ℕ) (f : ℕ → Emit (Unit {0})) (k : ℕ → Step Flow) (o : Outcome ℕ) → Since gs e (em e).1 → Since hs (em e).1 (f (em e).0 (em e).1).1 →
        ((v : ℕ) (w : FlatState) (r : State) → Beside m (em e).1 w r → Kept [] e u w → ValueAt marks (em e).1 w (em e).0 v → Looped (em e).1 w (f (em e).0 (em e).1).1 (k v r)) →
        Follows (Val marks) m [] e u (em e) o → Looped e u (f (em e).0 (em e).1).1 (machine.go_on o k)
    loop_value gs hs e u em f k (machine.Goes v r) first rest next w = looped_before gs e (em e).1 u w.state (f (em e).0 (em e).1).1 (k v r) first (kept_more marks e u w.state w.kept) (next v w.state r w.beside w.kept w.answer)
    loop_value gs hs e u em f k (machine.Halts (halt.Over x) r) first rest next w = record { state = w.state; over = ran_over m hs (em e).1 (f (em e).0 (em e).1).1 (ending_of x) w.state rest.grown w.over; used = w.used; actions = w.actions }
    loop_value gs hs e u em f k (machine.Halts (halt.Short n) r) first rest next w = record { state = w.state; short = ran_short m hs (em e).1 (f (em e).0 (em e).1).1 w.state rest.grown w.short }

    -- an expression whose value does not count
    step_value :
        (gs hs : List ℕ) (e : Emitted) (u : FlatState) (em : Emit ℕ) (f : Emit (Unit {0})) (k : Step Flow) (o : Outcome ℕ) → Since gs e (em e).1 → Since hs (em e).1 (f (em e).1).1 →
        ((w : FlatState) (r : State) → Beside m (em e).1 w r → Kept [] e u w → Looped (em e).1 w (f (em e).1).1 (k r)) →
        Follows (Val []) m [] e u (em e) o → Looped e u (f (em e).1).1 (machine.go_on (machine.go_on o (λ _. machine.nothing)) (λ _. k))
    step_value gs hs e u em f k (machine.Goes v r) first rest next w = looped_before gs e (em e).1 u w.state (f (em e).1).1 (k r) first (kept_more marks e u w.state w.kept) (next w.state r w.beside w.kept)
    step_value gs hs e u em f k (machine.Halts (halt.Over x) r) first rest next w = record { state = w.state; over = ran_over m hs (em e).1 (f (em e).1).1 (ending_of x) w.state rest.grown w.over; used = w.used; actions = w.actions }
    step_value gs hs e u em f k (machine.Halts (halt.Short n) r) first rest next w = record { state = w.state; short = ran_short m hs (em e).1 (f (em e).1).1 w.state rest.grown w.short }

    -- ---- where the test does not hold

    record Marking (b : Bool) (e : Emitted) (u : FlatState) (f : Emitted) (s : State) : Type 0 where
      state : FlatState
      beside : Beside m f state s
      kept : Kept marks e u state
      done_is : state.values done ≡ truth_of b
      result_is : state.values result ≡ u.values result

    marking : (b : Bool) (out : ℕ) (held : Held) (e : Emitted) (u : FlatState) (s : State) → Beside m e u s → Reaches (mark out done e).1 m.last → Holds marks e u held → u.values out ≡ truth_of b → u.values done ≡ 0 → Marking b e u (mark out done e).1 s
    marking true out held e u s b reach holds live off =
        let f : Emitted = (mark out done e).1 in
        let since : Since (out ∷ []) e f = (adds_mark (out ∷ []) out done (inl refl)).add e b.neat in
        let run : ran m f ≡ Goes (set_local done 1 u) = ran_made m e u out (act.Put done 1) b.ran live in
        let may : Writable m e f done = record {
          high = holds.high done (inl refl);
          used = holds.low done (inl refl);
          plain = plain_in_end f m.last done reach (holds.low done (inl refl)) (holds.plain done (inl refl));
          apart = holds.apart done (inl refl);
          opened = λ deep same. holds.opened deep (inl same);
        } in
        record {
          state = set_local done 1 u;
          beside = beside_written m (out ∷ []) e f u s done 1 since b may run;
          kept = λ l used apart not_creates free. local_other u.values done 1 l (λ same. free (inl same));
          done_is = local_same u.values done 1;
          result_is = local_other u.values done 1 result (λ same. other (sym same));
        }
    marking false out held e u s b reach holds live off =
        let f : Emitted = (mark out done e).1 in
        let since : Since (out ∷ []) e f = (adds_mark (out ∷ []) out done (inl refl)).add e b.neat in
        record { state = u; beside = beside_dead m (out ∷ []) e f u s since reach b (λ l one. one_zero out l u live one); kept = kept_none marks e u; done_is = off; result_is = refl }

    -- the loop is done, or goes on under the new guard
    parted :
        (b : Bool) (on : ℕ) (held : Held) (rest : ℕ → Emit (Unit {0})) (more : Step Flow) (e : Emitted) (u : FlatState) (s : State) → Beside m e u s → Holds marks e u held → ValueAt marks e u on (truth_of (not b)) → u.values done ≡ truth_of b → u.values result ≡ 0 →
        Adds (on ∷ []) (rest on) → Reaches (rest on e).1 m.last → Goes_on rest more → Looped e u (rest on e).1 (cond (not b) more (machine.pure Onward) s)
    parted true on held rest more e u s b holds at is_done no_result adds reach next = left_dead on e u e u (rest on e).1 Onward s (adds.add e b.neat) reach b at.2 (kept_none marks e u) (is_done, no_result)
    parted false on held rest more e u s b holds at is_done no_result adds reach next = next on e u s (record { beside = b; holds = holds_one marks marks e u held on 1 (λ k one. one) holds at; done_off = is_done; result_off = no_result }) reach

    leave_then :
        (g x v : ℕ) (rest : ℕ → Emit (Unit {0})) (more : Step Flow) → ((k : ℕ) → Adds (k ∷ []) (rest k)) → Goes_on rest more → (e : Emitted) (u : FlatState) (s : State) → Ready g e u s → ValueAt marks e u x v → Reaches ((leave done g x >>= rest) e).1 m.last →
        Looped e u ((leave done g x >>= rest) e).1 (cond (is_true v) more (machine.pure Onward) s)
    leave_then g x v rest more adds next e u s ready at reach =
        let gs : List ℕ = g ∷ [] in
        let out : ℕ = e.next in
        let e1 : Emitted = (unless g x e).1 in
        let e2 : Emitted = (mark out done e1).1 in
        let e3 : Emitted = (when g x e2).1 in
        let on : ℕ = e2.next in
        let last : Emitted = (rest on e3).1 in
        let left : Left gs e e3 on = (adds_leave done g x).add e ready.beside.neat in
        let s1 : Since gs e e1 = (adds_set gs g op.Equal (x ∷ none ∷ []) (inl refl)).add e ready.beside.neat in
        let s2 : Since (out ∷ []) e1 e2 = (adds_mark (out ∷ []) out done (inl refl)).add e1 s1.neat in
        let s3 : Since gs e2 e3 = (adds_set gs g op.NotEqual (x ∷ none ∷ []) (inl refl)).add e2 s2.neat in
        let s4 : Since (on ∷ []) e3 last = (adds on).add e3 s3.neat in
        let reach3 : Reaches e3 m.last = reaches_before (on ∷ []) e3 last m.last s4.grown reach in
        let reach2 : Reaches e2 m.last = reaches_before gs e2 e3 m.last s3.grown reach3 in
        let reach1 : Reaches e1 m.last = reaches_before (out ∷ []) e1 e2 m.last s2.grown reach2 in
        let held : Held = Value x v ∷ Value g 1 ∷ [] in
        let h0 : Holds marks e u held = holds_more marks e u (Value g 1 ∷ []) x v at ready.holds in
        let w1 : WentOn (Val []) m [] e u e1 out (truth_of (nat_eq v 0)) s = (sim_unless m [] held g x v (inl (inr (inl (refl, refl)))) (inl (inl (refl, refl)))).live e u s ready.beside reach1 (holds_free marks e u held h0) in
        let h1 : Holds marks e1 w1.state held = holds_behind gs marks e e1 u w1.state held s1 (kept_more marks e u w1.state w1.kept) h0 in
        let done1 : w1.state.values done ≡ 0 = written_same marks e u w1.state held done (inl refl) h0 w1.kept ∙ ready.done_off in
        let result1 : w1.state.values result ≡ 0 = written_same marks e u w1.state held result (inr (inl refl)) h0 w1.kept ∙ ready.result_off in
        let w2 : Marking (nat_eq v 0) e1 w1.state e2 s = marking (nat_eq v 0) out held e1 w1.state s w1.beside reach2 h1 w1.answer.2 done1 in
        let h2 : Holds marks e2 w2.state held = holds_behind (out ∷ []) marks e1 e2 w1.state w2.state held s2 w2.kept h1 in
        let w3 : WentOn (Val []) m [] e2 w2.state e3 on (truth_of (is_true v)) s = (sim_when m [] held g x v (inl (inr (inl (refl, refl)))) (inl (inl (refl, refl)))).live e2 w2.state s w2.beside reach3 (holds_free marks e2 w2.state held h2) in
        let h3 : Holds marks e3 w3.state held = holds_behind gs marks e2 e3 w2.state w3.state held s3 (kept_more marks e2 w2.state w3.state w3.kept) h2 in
        let done3 : w3.state.values done ≡ truth_of (nat_eq v 0) = written_same marks e2 w2.state w3.state held done (inl refl) h2 w3.kept ∙ w2.done_is in
        let result3 : w3.state.values result ≡ 0 = written_same marks e2 w2.state w3.state held result (inr (inl refl)) h2 w3.kept ∙ (w2.result_is ∙ result1) in
        let at3 : ValueAt marks e3 w3.state on (truth_of (is_true v)) = value_new marks e2 e3 w2.state w3.state held on (truth_of (is_true v)) h2 (omega arith) w3.answer in
        let kept : Kept marks e u w3.state =
        kept_then gs marks e e1 u w1.state w3.state s1 (kept_more marks e u w1.state w1.kept) (kept_then (out ∷ []) marks e1 e2 w1.state w2.state w3.state s2 w2.kept (kept_more marks e2 w2.state w3.state w3.kept)) in
        looped_before gs e e3 u w3.state last (cond (is_true v) more (machine.pure Onward) s) left.since kept (parted (nat_eq v 0) on held rest more e3 w3.state s w3.beside h3 at3 done3 result3 (adds on) reach next)

    -- the test, and then what goes by it
    tested_flow :
        (test : ℕ → Emit ℕ) (st : Step ℕ) (rest : ℕ → Emit (Unit {0})) (more : Step Flow) → SimValue test st → ((k : ℕ) → Adds (k ∷ []) (rest k)) → Goes_on rest more →
        Goes_on (λ g. test g >>= (λ v. leave done g v >>= rest)) (machine.◌>>=◌ st (λ v. cond (is_true v) more (machine.pure Onward)))
    tested_flow test st rest more ht adds next g e u s ready reach =
        let gs : List ℕ = g ∷ [] in
        let f : Emitted = (test g e).1 in
        let x : ℕ = (test g e).0 in
        let held : Held = Value g 1 ∷ [] in
        let last : Emitted = ((leave done g x >>= rest) f).1 in
        let first : Since gs e f = (ht.adds g).add e ready.beside.neat in
        let then : Since gs f last = (guard_then gs (leave done g x) rest (adds_leave done g x) (λ on. adds_one (on ∷ gs) on (rest on) (inl refl) (adds on))).add f first.neat in
        let before : Reaches f m.last = reaches_before gs f last m.last then.grown reach in
        loop_value gs gs e u (test g) (λ v. leave done g v >>= rest) (λ v. cond (is_true v) more (machine.pure Onward)) (st s) first then
        (λ v w r b kept at. leave_then g x v rest more adds next f w r (ready_behind gs g e f u w s r ready first kept b) at reach)
        (value_apart marks e u (test g e) (st s) ((ht.run [] held g (inl (refl, refl))).live e u s ready.beside before (holds_free marks e u held ready.holds)) ((ht.run marks held g (inl (refl, refl))).live e u s ready.beside before ready.holds))

    -- ---- one turn

    turn_kept : (e : Emitted) (u w : FlatState) → Kept (written (targets done e.next result)) (fresh e).1 u w → Kept marks e u w
    turn_kept e u w kept l used apart not_creates free = kept l (omega (arith, used)) apart not_creates (no_turn_mark done result e.next l e.next (omega arith) used free)

    turn_holds : (e : Emitted) (u : FlatState) (s : State) (g : ℕ) → Reaches (fresh e).1 m.last → Ready g e u s → Holds (written (targets done e.next result)) (fresh e).1 u (Value g 1 ∷ [])
    turn_holds e u s g reach ready =
        let h : Holds (e.next ∷ marks) (fresh e).1 u (Value g 1 ∷ []) = holds_fresh m marks e u s (Value g 1 ∷ []) ready.beside reach ready.holds in
        holds_one (e.next ∷ marks) (written (targets done e.next result)) (fresh e).1 u (Value g 1 ∷ []) g 1 (λ k one. turn_marks done result e.next k one) h h.all.0

    -- the turn came to its end, or was left by `continue`
    came_round :
        (body : Body) (st : Step Flow) → SimBody m body st → (g : ℕ) (rest : ℕ → Emit (Unit {0})) (more : Step Flow) → ((k : ℕ) → Adds (k ∷ []) (rest k)) → Goes_on rest more → (e : Emitted) (u w : FlatState) (s r : State) → Ready g e u s →
        (f : Emitted) (out : ℕ) → f ≡ (inside body (targets done e.next result) g (fresh e).1).1 → out ≡ (inside body (targets done e.next result) g (fresh e).1).0 → Reaches (rest f.next (join_guards out e.next f).1).1 m.last →
        Kept (written (targets done e.next result)) (fresh e).1 u w → Beside m f w r → Holds (written (targets done e.next result)) (fresh e).1 u (Value g 1 ∷ []) → ran m (join_guards out e.next f).1 ≡ Goes (set_local f.next 1 w) → w.values done ≡ 0 → w.values result ≡ 0 →
        Looped e u (rest f.next (join_guards out e.next f).1).1 (more r)
    came_round body st hb g rest more adds next e u w s r ready f out same_f same_out reach kept b holds run done_off result_off =
        let t : Targets = targets done e.next result in
        let part : SimPart m (inside body) (model.scoped st) = inside_part m body st hb in
        let e1 : Emitted = (fresh e).1 in
        let i : Emitted = (join_guards out e.next f).1 in
        let s1 : Since (g ∷ []) e e1 = (adds_fresh (g ∷ []) 1).add e ready.beside.neat in
        let made : Left (g ∷ []) e1 (inside body t g e1).1 (inside body t g e1).0 = (part.adds t g).add e1 s1.neat in
        let inner : Since (g ∷ []) e1 f = subst (λ x. Since (g ∷ []) e1 x) (sym same_f) made.since in
        let joins : Since (out ∷ e.next ∷ []) f i = (adds_join (out ∷ e.next ∷ []) out e.next (inl refl) (inr (inl refl))).add f inner.neat in
        let rests : Since (f.next ∷ []) i (rest f.next i).1 = (adds f.next).add i joins.neat in
        let turn : Left (g ∷ []) e (one_turn body done result g e).1 (one_turn body done result g e).0 = (adds_turn body (record { add = part.adds }) done result g).add e ready.beside.neat in
        let since : Since (g ∷ []) e i = subst (λ x. Since (g ∷ []) e (join_guards out e.next x).1) (sym same_f) (subst (λ x. Since (g ∷ []) e (join_guards x e.next (inside body t g e1).1).1) (sym same_out) turn.since) in
        let h : Holds (written t) f w (Value g 1 ∷ []) = holds_behind (g ∷ []) (written t) e1 f u w (Value g 1 ∷ []) inner kept holds in
        let j : Joined m t f i w f.next r = joined m t (Value g 1 ∷ []) f w r out e.next b h (reaches_before (f.next ∷ []) i (rest f.next i).1 m.last rests.grown reach) run in
        let after : Holds (written t) i j.state (Value g 1 ∷ []) = holds_behind (out ∷ e.next ∷ []) (written t) f i w j.state (Value g 1 ∷ []) joins j.kept h in
        let ready_next : Ready f.next i j.state r = record {
          beside = j.beside;
          holds = holds_one (written t) marks i j.state (Value g 1 ∷ []) f.next 1 (λ k one. loop_marks done result e.next k one) after j.live;
          done_off = j.marks done (inl refl) ∙ done_off;
          result_off = j.marks result (inr (inr (inl refl))) ∙ result_off;
        } in
        looped_before (g ∷ []) e i u j.state (rest f.next i).1 (more r) since (turn_kept e u j.state (kept_then (g ∷ []) (written t) e1 f u w j.state inner kept j.kept)) (next f.next i j.state r ready_next reach)

    -- the loop is left in the turn
    left_turn :
        (e : Emitted) (u : FlatState) (f : Emitted) (w : FlatState) (out : ℕ) (rest : ℕ → Emit (Unit {0})) (flow : Flow) (r : State) → ((k : ℕ) → Adds (k ∷ []) (rest k)) → Reaches (rest f.next (join_guards out e.next f).1).1 m.last →
        Kept (written (targets done e.next result)) (fresh e).1 u w → Beside m f w r → w.values out ≡ 0 → w.values e.next ≡ 0 → LoopPost w flow → Turned e u (rest f.next (join_guards out e.next f).1).1 flow r
    left_turn e u f w out rest flow r adds reach kept b off_out off_again post =
        let i : Emitted = (join_guards out e.next f).1 in
        let joins : Since (out ∷ e.next ∷ []) f i = (adds_join (out ∷ e.next ∷ []) out e.next (inl refl) (inr (inl refl))).add f b.neat in
        let rests : Since (f.next ∷ []) i (rest f.next i).1 = (adds f.next).add i joins.neat in
        let both : Beside m i w r × (w.values f.next ≡ 0) = not_joined m f w r out e.next b (reaches_before (f.next ∷ []) i (rest f.next i).1 m.last rests.grown reach) off_out off_again in
        left_dead f.next e u i w (rest f.next i).1 flow r rests reach both.0 both.1 (turn_kept e u w kept) post

    joins_rest : (out again : ℕ) (rest : ℕ → Emit (Unit {0})) → ((k : ℕ) → Adds (k ∷ []) (rest k)) → Adds (out ∷ again ∷ []) (join_guards out again >>= rest)
    joins_rest out again rest adds =
        guard_then (out ∷ again ∷ []) (join_guards out again) rest (guard_join (out ∷ again ∷ []) out again (inl refl) (inr (inl refl))) (λ k. adds_one (k ∷ out ∷ again ∷ []) k (rest k) (inl refl) (adds k))

    turned :
        (body : Body) (st : Step Flow) → SimBody m body st → (g : ℕ) (rest : ℕ → Emit (Unit {0})) (more : Step Flow) → ((k : ℕ) → Adds (k ∷ []) (rest k)) → Goes_on rest more → (e : Emitted) (u : FlatState) (s : State) → Ready g e u s →
        Reaches ((one_turn body done result g >>= rest) e).1 m.last → Holds (written (targets done e.next result)) (fresh e).1 u (Value g 1 ∷ []) → (o : Outcome Flow) → Flowed m (targets done e.next result) (fresh e).1 u (inside body (targets done e.next result) g (fresh e).1) o →
        Looped e u ((one_turn body done result g >>= rest) e).1 (machine.go_on o (λ f. model.after_body f more))
    turned body st hb g rest more adds next e u s ready reach holds (machine.Goes Onward r) w =
        let t : Targets = targets done e.next result in
        let f : Emitted = (inside body t g (fresh e).1).1 in
        let out : ℕ = (inside body t g (fresh e).1).0 in
        let made : Left (g ∷ []) (fresh e).1 f out = ((inside_part m body st hb).adds t g).add (fresh e).1 ((adds_fresh [] 1).add e ready.beside.neat).neat in
        let b : Beside m f w.state r = all_gone t (fresh e).1 u f out Onward r w made.since.scope in
        came_round body st hb g rest more adds next e u w.state s r ready f out refl refl reach w.kept b holds (first_ran m f w.state out e.next b.ran w.post.0.2 w.post.1.1 (λ same. absurd (omega (arith, made.since.grown.next)))) w.post.1.0 w.post.1.2
    turned body st hb g rest more adds next e u s ready reach holds (machine.Goes Continued r) w =
        let t : Targets = targets done e.next result in
        let f : Emitted = (inside body t g (fresh e).1).1 in
        let out : ℕ = (inside body t g (fresh e).1).0 in
        let made : Left (g ∷ []) (fresh e).1 f out = ((inside_part m body st hb).adds t g).add (fresh e).1 ((adds_fresh [] 1).add e ready.beside.neat).neat in
        let b : Beside m f w.state r = all_gone t (fresh e).1 u f out Continued r w made.since.scope in
        came_round body st hb g rest more adds next e u w.state s r ready f out refl refl reach w.kept b holds (second_ran m f w.state out e.next b.ran w.post.0 w.post.1.1) w.post.1.0 w.post.1.2
    turned body st hb g rest more adds next e u s ready reach holds (machine.Goes Broke r) w =
        let t : Targets = targets done e.next result in
        let f : Emitted = (inside body t g (fresh e).1).1 in
        let out : ℕ = (inside body t g (fresh e).1).0 in
        let made : Left (g ∷ []) (fresh e).1 f out = ((inside_part m body st hb).adds t g).add (fresh e).1 ((adds_fresh [] 1).add e ready.beside.neat).neat in
        left_turn e u f w.state out rest Onward r adds reach w.kept (all_gone t (fresh e).1 u f out Broke r w made.since.scope) w.post.0 w.post.1.1 (w.post.1.0, w.post.1.2)
    turned body st hb g rest more adds next e u s ready reach holds (machine.Goes (Returned v) r) w =
        let t : Targets = targets done e.next result in
        let f : Emitted = (inside body t g (fresh e).1).1 in
        let out : ℕ = (inside body t g (fresh e).1).0 in
        let made : Left (g ∷ []) (fresh e).1 f out = ((inside_part m body st hb).adds t g).add (fresh e).1 ((adds_fresh [] 1).add e ready.beside.neat).neat in
        left_turn e u f w.state out rest (Returned v) r adds reach w.kept (all_gone t (fresh e).1 u f out (Returned v) r w made.since.scope) w.post.0 w.post.1.1 (w.post.1.0, w.post.1.2)
    turned body st hb g rest more adds next e u s ready reach holds (machine.Halts (halt.Over x) r) w =
        let t : Targets = targets done e.next result in
        let f : Emitted = (inside body t g (fresh e).1).1 in
        let out : ℕ = (inside body t g (fresh e).1).0 in
        let made : Left (g ∷ []) (fresh e).1 f out = ((inside_part m body st hb).adds t g).add (fresh e).1 ((adds_fresh [] 1).add e ready.beside.neat).neat in
        let tail : Since (out ∷ e.next ∷ []) f ((one_turn body done result g >>= rest) e).1 = (joins_rest out e.next rest adds).add f made.since.neat in
        record { state = w.state; over = ran_over m (out ∷ e.next ∷ []) f ((one_turn body done result g >>= rest) e).1 (ending_of x) w.state tail.grown w.over; used = w.used; actions = w.actions }
    turned body st hb g rest more adds next e u s ready reach holds (machine.Halts (halt.Short n) r) w =
        let t : Targets = targets done e.next result in
        let f : Emitted = (inside body t g (fresh e).1).1 in
        let out : ℕ = (inside body t g (fresh e).1).0 in
        let made : Left (g ∷ []) (fresh e).1 f out = ((inside_part m body st hb).adds t g).add (fresh e).1 ((adds_fresh [] 1).add e ready.beside.neat).neat in
        let tail : Since (out ∷ e.next ∷ []) f ((one_turn body done result g >>= rest) e).1 = (joins_rest out e.next rest adds).add f made.since.neat in
        record { state = w.state; short = ran_short m (out ∷ e.next ∷ []) f ((one_turn body done result g >>= rest) e).1 w.state tail.grown w.short }

    turn_flow :
        (body : Body) (st : Step Flow) (rest : ℕ → Emit (Unit {0})) (more : Step Flow) → SimBody m body st → ((k : ℕ) → Adds (k ∷ []) (rest k)) → Goes_on rest more →
        Goes_on (λ g. one_turn body done result g >>= rest) (machine.◌>>=◌ (model.scoped st) (λ f. model.after_body f more))
    turn_flow body st rest more hb adds next g e u s ready reach =
        let t : Targets = targets done e.next result in
        let part : SimPart m (inside body) (model.scoped st) = inside_part m body st hb in
        let e1 : Emitted = (fresh e).1 in
        let f : Emitted = (inside body t g e1).1 in
        let out : ℕ = (inside body t g e1).0 in
        let s1 : Since [] e e1 = (adds_fresh [] 1).add e ready.beside.neat in
        let made : Left (g ∷ []) e1 f out = (part.adds t g).add e1 s1.neat in
        let tail : Since (out ∷ e.next ∷ []) f ((one_turn body done result g >>= rest) e).1 = (joins_rest out e.next rest adds).add f made.since.neat in
        let reach_f : Reaches f m.last = reaches_before (out ∷ e.next ∷ []) f ((one_turn body done result g >>= rest) e).1 m.last tail.grown reach in
        let reach_1 : Reaches e1 m.last = reaches_before (g ∷ []) e1 f m.last made.since.grown reach_f in
        let holds : Holds (written t) e1 u (Value g 1 ∷ []) = turn_holds e u s g reach_1 ready in
        let distinct : Distinct t = record {
          done_again = λ same. let low : done < e.next = ready.holds.low done (inl refl) in absurd (omega arith);
          done_result = other;
          again_result = λ same. let low : result < e.next = ready.holds.low result (inr (inl refl)) in absurd (omega arith);
        } in
        let idle : u.values e.next ≡ 0 = ready.beside.idle e.next (omega arith) (plain_in_end e1 m.last e.next reach_1 (omega arith) (fresh_new e ready.beside.neat).2) in
        turned body st hb g rest more adds next e u s ready reach holds (model.scoped st s)
        (part.live t distinct (Value g 1 ∷ []) g (inl (refl, refl)) e1 u s (beside_fresh m e u s reach_1 ready.beside) reach_f holds (ready.done_off, idle, ready.result_off))

    -- ---- the bound is spent

    spent : (full : Bool) (p : Place) (held : Held) (g : ℕ) (e : Emitted) (u : FlatState) (s : State) → In m held g 1 → Beside m e u s → Holds [] e u held → Reaches (cond full (emit g (act.Fail p 1)) (stop g) e).1 m.last →
        WentOver m (cond full (emit g (act.Fail p 1)) (stop g) e).1 (cond full (ending.Bound p) (cond (nat_eq s.depth 0) ending.Stopped ending.Bad)) s
    spent true p held g e u s there b holds reach = (sim_ends m {B = Unit {0}} Done [] held g (act.Fail p 1) (ending.Bound p) (inl there) (λ t. refl)).live e u s b reach holds
    spent false p held g e u s there b holds reach = (sim_stop m {B = Unit {0}} Done [] held g (inl there)).live e u s b reach holds

    spend_flow : (a b : Setting) (p : Place) → a.full ≡ b.full → Goes_on (spend a p) (calls.spend b p)
    spend_flow a b p same g e u s ready reach =
        subst (λ x. WentOver m (cond a.full (emit g (act.Fail p 1)) (stop g) e).1 (cond x (ending.Bound p) (cond (nat_eq s.depth 0) ending.Stopped ending.Bad)) s) same
        (spent a.full p (Value g 1 ∷ []) g e u s (inl (refl, refl)) ready.beside (holds_free marks e u (Value g 1 ∷ []) ready.holds) reach)

    -- ---- turns

    step_flow :
        (em : ℕ → Emit ℕ) (st : Step ℕ) (rest : ℕ → Emit (Unit {0})) (more : Step Flow) → SimValue em st → ((k : ℕ) → Adds (k ∷ []) (rest k)) → Goes_on rest more →
        Goes_on (λ j. em j >> rest j) (machine.◌>>◌ (machine.◌>>◌ st machine.nothing) more)
    step_flow em st rest more h adds next j e u s ready reach =
        let f : Emitted = (em j e).1 in
        let first : Since (j ∷ []) e f = (h.adds j).add e ready.beside.neat in
        let then : Since (j ∷ []) f (rest j f).1 = (adds j).add f first.neat in
        step_value (j ∷ []) (j ∷ []) e u (em j) (rest j) more (st s) first then (λ w r b kept. next j f w r (ready_behind (j ∷ []) j e f u w s r ready first kept b) reach)
        ((h.run [] (Value j 1 ∷ []) j (inl (refl, refl))).live e u s ready.beside (reaches_before (j ∷ []) f (rest j f).1 m.last then.grown reach) (holds_free marks e u (Value j 1 ∷ []) ready.holds))

    module _ (a b : Setting) (same : a.full ≡ b.full) (p : Place) (test : ℕ → Emit ℕ) (tests : Step ℕ) (ht : SimValue test tests) (body : Body) (st : Step Flow) (hb : SimBody m body st) where
      ins : AddsInside body
      ins = record { add = (inside_part m body st hb).adds }

      pub turns_flow : (step : ℕ → Emit ℕ) (steps : Step ℕ) → SimValue step steps → (n : ℕ) →
          Goes_on (λ g. turns a p n test body step done result g) (model.loop (calls.spend b p) n tests (model.scoped st) (machine.◌>>◌ steps machine.nothing))
      turns_flow step steps hs zero = tested_flow test tests (spend a p) (calls.spend b p) ht (λ k. adds_spend a p k) (spend_flow a b p same)
      turns_flow step steps hs (suc n) =
          let more : (k : ℕ) → Adds (k ∷ []) (turns a p n test body step done result k) = λ k. adds_turns a p n test body step done result k ht.adds ins hs.adds in
          let stepped : (k : ℕ) → Adds (k ∷ []) (step k >> turns a p n test body step done result k) = λ k. adds_then (k ∷ []) (step k) _ (hs.adds k) (λ _. more k) in
          tested_flow test tests (λ on. one_turn body done result on >>= (λ j. step j >> turns a p n test body step done result j))
          (machine.◌>>=◌ (model.scoped st) (λ f. model.after_body f (machine.◌>>◌ (machine.◌>>◌ steps machine.nothing) (model.loop (calls.spend b p) n tests (model.scoped st) (machine.◌>>◌ steps machine.nothing))))) ht
          (λ k. guard_then (k ∷ []) (one_turn body done result k) _ (adds_turn body ins done result k) (λ j. adds_one (j ∷ k ∷ []) j _ (inl refl) (stepped j)))
          (turn_flow body st (λ j. step j >> turns a p n test body step done result j) _ hb stepped (step_flow step steps (λ j. turns a p n test body step done result j) _ hs more (turns_flow step steps hs n)))

      pub do_turns_flow : (n : ℕ) → Goes_on (λ g. do_turns a p n test body done result g) (model.do_loop (calls.spend b p) n tests (model.scoped st))
      do_turns_flow zero = spend_flow a b p same
      do_turns_flow (suc n) =
          let more : (k : ℕ) → Adds (k ∷ []) (do_turns a p n test body done result k) = λ k. adds_do_turns a p n test body done result k ht.adds ins in
          let left : (k : ℕ) → Adds (k ∷ []) (test k >>= (λ v. leave done k v >>= (λ on. do_turns a p n test body done result on))) = λ k.
          adds_then (k ∷ []) (test k) _ (ht.adds k) (λ v. guard_then (k ∷ []) (leave done k v) _ (adds_leave done k v) (λ on. adds_one (on ∷ k ∷ []) on _ (inl refl) (more on))) in
          turn_flow body st (λ j. test j >>= (λ v. leave done j v >>= (λ on. do_turns a p n test body done result on))) _ hb left
          (tested_flow test tests (λ on. do_turns a p n test body done result on) (model.do_loop (calls.spend b p) n tests (model.scoped st)) ht more (do_turns_flow n))

  -- ---- loops

  loop_free : (t : Targets) (new l high : ℕ) → high ≤ new → l < high → (One (written t) l → ⊥) → One (new ∷ t.result ∷ []) l → ⊥
  loop_free t new l high le low free (inl same) = absurd (omega arith)
  loop_free t new l high le low free (inr (inl same)) = free (inr (inr (inl same)))
  loop_free t new l high le low free (inr (inr off)) = absurd off

  loop_written : (t : Targets) (new k : ℕ) → One (new ∷ t.result ∷ []) k → One (new ∷ written t) k
  loop_written t new k (inl same) = inl same
  loop_written t new k (inr (inl same)) = inr (inr (inr (inl same)))
  loop_written t new k (inr (inr off)) = absurd off

  target_free : (t : Targets) (new x high : ℕ) → high ≤ new → x < high → (x ≡ t.result → ⊥) → One (new ∷ t.result ∷ []) x → ⊥
  target_free t new x high le low free (inl same) = absurd (omega arith)
  target_free t new x high le low free (inr (inl same)) = free same
  target_free t new x high le low free (inr (inr off)) = absurd off

  -- the targets of the statement in which the loop stands keep their values in it
  outer_kept :
      (t : Targets) (held : Held) (e : Emitted) (u w : FlatState) (x : ℕ) → One (written t) x → (x ≡ t.result → ⊥) → Holds (written t) e u held → Kept (e.next ∷ t.result ∷ []) (fresh e).1 u w → w.values x ≡ u.values x
  outer_kept t held e u w x there free h kept =
      let low : x < e.next = h.low x there in
      kept x (omega arith) (h.apart x there) (λ same. let high : 5 ≤ x = h.high x there in absurd (omega arith)) (target_free t e.next x e.next (omega arith) low free)

  left_loop :
      (t : Targets) → Distinct t → (held : Held) (gs : List ℕ) (e : Emitted) (u : FlatState) (s : State) (i : Emitted) (other : e.next ≡ t.result → ⊥) → Since gs e i → Beside m e u s → Holds (written t) e u held → Marked t u 0 0 0 → New e i e.next → (o : Outcome Flow) →
      Looped e.next t.result other (fresh e).1 u i o → Flowed m t e u (e.next, i) o
  left_loop t d held gs e u s i other since b h is new (machine.Goes Onward r) w = record {
    state = w.state;
    vars = [];
    more = [];
    scope = since.scope ∙ sym (append-nil e.scope);
    exact = λ _. refl;
    beside = subst (λ vs. Beside m (record i { scope = vs }) w.state r) (since.scope ∙ sym (append-nil e.scope)) w.beside;
    kept = λ l used apart not_creates free. w.kept l (omega arith) apart not_creates (loop_free t e.next l e.next (omega arith) used free);
    post = (
      (new_safe m gs e i u s e.next since b new, λ some. let low : e.next < e.next = h.low e.next some in absurd (omega arith), w.post.0),
      (outer_kept t held e u w.state t.done (inl refl) d.done_result h w.kept ∙ is.0, outer_kept t held e u w.state t.again (inr (inl refl)) d.again_result h w.kept ∙ is.1, w.post.1),
    );
  }
  left_loop t d held gs e u s i other since b h is new (machine.Goes Broke r) w = absurd w.post
  left_loop t d held gs e u s i other since b h is new (machine.Goes Continued r) w = absurd w.post
  left_loop t d held gs e u s i other since b h is new (machine.Goes (Returned v) r) w = record {
    state = w.state;
    vars = [];
    more = [];
    scope = since.scope ∙ sym (append-nil e.scope);
    exact = λ _. refl;
    beside = subst (λ vs. Beside m (record i { scope = vs }) w.state r) (since.scope ∙ sym (append-nil e.scope)) w.beside;
    kept = λ l used apart not_creates free. w.kept l (omega arith) apart not_creates (loop_free t e.next l e.next (omega arith) used free);
    post = (w.post.0, (outer_kept t held e u w.state t.done (inl refl) d.done_result h w.kept ∙ is.0, outer_kept t held e u w.state t.again (inr (inl refl)) d.again_result h w.kept ∙ is.1, w.post.1));
  }
  left_loop t d held gs e u s i other since b h is new (machine.Halts (halt.Over x) r) w = w
  left_loop t d held gs e u s i other since b h is new (machine.Halts (halt.Short n) r) w = w

  -- A loop: the local that becomes 1 where it is done is the guard behind it. What a body returns goes to the result of the
  -- statement in which the loop stands.
  pub loop_part :
      (em : ℕ → ℕ → ℕ → Emit (Unit {0})) (st : Step Flow) → ((done result g : ℕ) → Adds (g ∷ []) (em done result g)) → ((done result : ℕ) (other : done ≡ result → ⊥) → Goes_on done result other (em done result) st) →
      SimPart m (λ t g. fresh >>= (λ done. em done t.result g >> pure done)) st
  loop_part em st adds next = record {
    adds = λ t g.
        guard_guard (g ∷ []) fresh _ (guard_fresh (g ∷ [])) (λ done.
        before_guard (done ∷ g ∷ []) (em done t.result g) (λ _. pure done) (adds_one (done ∷ g ∷ []) g _ (inr (inl refl)) (adds done t.result g)) (λ _. guard_is (done ∷ g ∷ []) done (inl refl)));
    live = λ t d held g there e u s b reach holds is.
        let f : Emitted = (fresh e).1 in
        let i : Emitted = (em e.next t.result g f).1 in
        let other : e.next ≡ t.result → ⊥ = λ same. let low : t.result < e.next = holds.low t.result (inr (inr (inl refl))) in absurd (omega arith) in
        let first : Since (g ∷ []) e f = (adds_fresh (g ∷ []) 1).add e b.neat in
        let rest : Since (g ∷ []) f i = (adds e.next t.result g).add f first.neat in
        let reach_f : Reaches f m.last = reaches_before (g ∷ []) f i m.last rest.grown reach in
        let h : Holds (e.next ∷ written t) f u held = holds_fresh m (written t) e u s held b reach_f holds in
        let ready : Ready e.next t.result other g f u s = record {
          beside = beside_fresh m e u s reach_f b;
          holds = holds_one (e.next ∷ written t) (e.next ∷ t.result ∷ []) f u held g 1 (λ k one. loop_written t e.next k one) h (in_holds m (e.next ∷ written t) f u held g 1 h.all there);
          done_off = b.idle e.next (omega arith) (plain_in_end f m.last e.next reach_f (omega arith) (fresh_new e b.neat).2);
          result_off = is.2;
        } in
        left_loop t d held (g ∷ []) e u s i other (since_more (g ∷ []) e f i first rest) b holds is (new_behind (g ∷ []) e f i e.next rest.grown (fresh_new e b.neat)) (st s) (next e.next t.result other g f u s ready reach);
  }
