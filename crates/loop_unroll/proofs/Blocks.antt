-- The statements of a block in turn, with the sections among them, do what the thread does.
use Rattle.std.proofs.Common.{◌≡◌, ℕ, zero, suc, ◌+◌, ◌-◌, inl, inr, List, [], ◌∷◌, true, false, None, map, refl, sym, ◌∙◌, subst, arith}
use Rattle.std.proofs.lemmas.Bool.{and_parts, both_ways}
use Rattle.std.specs.Prelude.{◌&&◌, ◌||◌}
use Rattle.c_tree.specs.declared.stmt.Stmt.{Stmt}
use Rattle.c_rules.specs.Names.{or_else}
use Rattle.c_check.specs.declared.sections.Inside.{Inside}
use Rattle.c_check.specs.declared.sections.Inside.TheVariants.{InSection}
use Rattle.c_check.specs.declared.sections.Mark.{Mark}
use Rattle.c_check.specs.declared.sections.Mark.TheVariants.{Begins, Ends, Neither}
use Rattle.c_check.specs.Sections.{is_outside, behind_mark, some_marked, broken_there, in_block, sectioned}
use Rattle.run_model.specs.declared.state.Ending.{Ending}
use Rattle.run_model.specs.declared.state.Flow.{Flow}
use Rattle.run_model.specs.declared.state.Flow.TheVariants.{Next as Onward, Broke, Continued, Returned}
use Rattle.run_model.specs.declared.state.Halt.TheVariants as halt
use Rattle.run_model.specs.Steps.{State, Outcome, Step}
use Rattle.run_model.specs.Steps as machine
use Rattle.run_model.specs.Calls as calls
use Rattle.run_model.specs.Statements as model
use Rattle.flat_prog.specs.Runs.{FlatState}
use Rattle.loop_unroll.specs.declared.targets.Targets.{Targets}
use Rattle.emit_steps.specs.Emitting.{Emitted, none, open_section, begin_section, end_section}
use Rattle.emit_steps.specs.Pieces as pieces
use Rattle.loop_unroll.specs.Stating.{sequence, inside, execute, execute_all}
use Rattle.emit_steps.proofs.Growth.{Neat, Grown}
use Rattle.emit_steps.proofs.Marks.{both_none, holds_at, rest_marked}
use Rattle.emit_steps.proofs.Adding.{Since}
use Rattle.emit_steps.proofs.AddingForms.{Opened, opens_section, closes_section}
use Rattle.emit_steps.proofs.AddingExprs.{AddsCalls}
use Rattle.loop_unroll.proofs.AddingBodies.{Behind, AddsBehind, adds_left, behind_left, grown_scoped, scoped_left}
use Rattle.loop_unroll.proofs.AddingFunctions.{NoMarks, Sequence, sequenced, sound, all_sound}
use Rattle.emit_steps.proofs.Running.{Machine, Reaches, reaches_before, Beside, Kept, ending_of, Follows, WentOver, WentShort, ran_over, ran_short}
use Rattle.emit_steps.proofs.Simulating.{Value, ValueAt, Holds, Done, holds_behind, in_holds}
use Rattle.loop_unroll.proofs.Flows.{Distinct, written, Marked, Flowed, SimBody, holds_grown, scoped_flow, flow_before, flow_then, all_in_scope}
use Rattle.loop_unroll.proofs.Leaving.{holds_free, kept_more, marked_kept, stays as comes_to_end}
use Rattle.loop_unroll.proofs.Staying.{LeavesAs, stays}
use Rattle.loop_unroll.proofs.Enclosing.{reaches_deep, flow_deep, begin_follows, holds_deeper, end_follows, holds_shallower}

pub behind_grown : (gs : List ℕ) (e f : Emitted) (h : ℕ) → Behind gs e f h → Grown gs e f
behind_grown gs e f h b = grown_scoped gs e (record f { scope = e.scope }) e.scope f.scope b.since.grown

one_more : (n : ℕ) → (n ≡ 0 → ⊥) → n ≡ n - 1 + 1
one_more zero h = absurd (h refl)
one_more (suc n) h = omega arith

module _ (m : Machine) where
  -- control is at a statement
  pub record Ready (t : Targets) (g : ℕ) (e : Emitted) (u : FlatState) (s : State) : Type 0 where
    pub beside : Beside m e u s
    pub holds : Holds (written t) e u (Value g 1 ∷ [])
    pub marked : Marked t u 0 0 0

  pub over_after : (gs : List ℕ) (f i : Emitted) (x : Ending) (s : State) → Grown gs f i → WentOver m f x s → WentOver m i x s
  over_after gs f i x s grown w = record { state = w.state; over = ran_over m gs f i (ending_of x) w.state grown w.over; used = w.used; actions = w.actions }

  pub short_after : (gs : List ℕ) (f i : Emitted) → Grown gs f i → WentShort m f → WentShort m i
  short_after gs f i grown w = record { state = w.state; short = ran_short m gs f i w.state grown w.short }

  -- behind a statement that came to its end control is at the next one
  pub ready_next : (t : Targets) (gs : List ℕ) (g : ℕ) (e : Emitted) (u : FlatState) (f : Emitted) (h : ℕ) (v : FlatState) (r : State) → Behind gs e f h → Holds (written t) e u (Value g 1 ∷ []) → Beside m f v r → Kept (written t) e u v → ValueAt (written t) f v h 1 → Marked t v 0 0 0 → Ready t h f v r
  ready_next t gs g e u f h v r behind holds b kept at is =
      let after : Holds (written t) f v (Value g 1 ∷ []) = holds_grown gs (written t) e f h u v (Value g 1 ∷ []) behind kept holds in
      record { beside = b; holds = record { low = after.low; high = after.high; plain = after.plain; apart = after.apart; opened = after.opened; all = (at, tt) }; marked = is }

  module _
      (ec : pieces.Context) (rc : calls.Context) (adds : AddsCalls ec) (emits : NoMarks ec.setting) (runs : NoMarks rc.setting) (Part : Type 0) (stmt : Part → Stmt)
      (part : (y : Part) (i : Inside) → (sectioned (stmt y)).found i ≡ None → SimBody m (execute ec (stmt y)) (model.execute rc (stmt y))) where
    abbrev emitted : List Part → Targets → ℕ → Emitted → ℕ × Emitted
    emitted ys t g = execute_all ec (map stmt ys) t g

    abbrev run : List Part → Step Flow
    run ys = model.execute_all rc (map stmt ys)

    added : (ys : List Part) → Sequence ec adds emits (map stmt ys)
    added ys = sequenced ec adds emits (map stmt ys) (all_sound ec adds emits (map stmt ys))

    pub record SimSequence (ys : List Part) : Type 0 where
      pub closed :
          (i : Inside) → in_block false i (map sectioned (map stmt ys)) ≡ None → (t : Targets) → Distinct t → (g : ℕ) (e : Emitted) (u : FlatState) (s : State) → Ready t g e u s → Reaches (emitted ys t g e).1 m.last →
          Flowed m t e u (emitted ys t g e) (run ys s)
      pub opened :
          (i : Inside) → in_block true i (map sectioned (map stmt ys)) ≡ None → some_marked (map sectioned (map stmt ys)) ≡ true → (t : Targets) → Distinct t → (g : ℕ) (e : Emitted) (u : FlatState) (s : State) → (e.depth ≡ 0 → ⊥) →
          Ready t g e u s → Reaches (emitted ys t g e).1 m.last → Flowed m t e u (emitted ys t g e) (run ys s)

    -- ---- a begin, and what stands behind it

    begun :
        (ys : List Part) (i : Inside) (t : Targets) (g : ℕ) (e : Emitted) (u : FlatState) (s : State) (o : Outcome (Unit {0})) → SimSequence ys → in_block true i (map sectioned (map stmt ys)) ≡ None → some_marked (map sectioned (map stmt ys)) ≡ true →
        Distinct t → Ready t g e u s → Reaches (emitted ys t g (begin_section g e).1).1 m.last → Follows {B = Unit {0}} Done m [] e u (begin_section g e) o →
        Flowed m t e u (emitted ys t g (begin_section g e).1) (machine.go_on (machine.go_on (machine.go_on o (λ _. machine.pure {A = ℕ} 0)) (λ _. machine.pure Onward)) (λ w. model.then_next w (run ys)))
    begun ys i t g e u s (machine.Goes a r) rest whole follows apart ready reach w =
        let o : Opened (g ∷ []) g e (open_section g e).1 = opens_section (g ∷ []) g e (inl refl) ready.beside.neat in
        let f : Emitted = (open_section g e).1 in
        let f1 : Emitted = (begin_section g e).1 in
        let under : f.depth ≡ 0 → f.opened ≡ g = λ z. o.kept (sym o.since.grown.depth ∙ z) in
        let here : Holds (written t) f w.state (Value g 1 ∷ []) = holds_behind (g ∷ []) (written t) e f u w.state (Value g 1 ∷ []) o.since (kept_more (written t) e u w.state w.kept) ready.holds in
        let next : Ready t g f1 w.state r = record {
          beside = w.beside;
          holds = holds_deeper m (written t) (Value g 1 ∷ []) g f w.state (inl (refl, refl)) under here;
          marked = marked_kept t e u w.state (Value g 1 ∷ []) 0 0 0 ready.holds w.kept ready.marked;
        } in
        flow_before m (g ∷ []) t e f g u w.state (emitted ys t g f1) (run ys r) (behind_left (g ∷ []) e f g (record { since = o.since; out = inl (inl refl) })) (kept_more (written t) e u w.state w.kept)
        (flow_deep m t f (f.depth + 1) w.state (emitted ys t g f1) (run ys r) (rest.opened i whole follows t apart g f1 w.state r (λ z. absurd (omega (arith, z))) next reach))
    begun ys i t g e u s (machine.Halts (halt.Over x) r) rest whole follows apart ready reach w =
        let f : Emitted = (open_section g e).1 in
        let f1 : Emitted = (begin_section g e).1 in
        let o : Opened (g ∷ []) g e f = opens_section (g ∷ []) g e (inl refl) ready.beside.neat in
        let more : Behind (g ∷ g ∷ []) f (emitted ys t g f1).1 (emitted ys t g f1).0 = (added ys).opened i whole follows t g g f.depth f1 o.since.neat refl (λ z. o.kept (sym o.since.grown.depth ∙ z)) in
        over_after (g ∷ g ∷ []) f (emitted ys t g f1).1 x r (behind_grown (g ∷ g ∷ []) f (emitted ys t g f1).1 (emitted ys t g f1).0 more) (record { state = w.state; over = w.over; used = w.used; actions = w.actions })
    begun ys i t g e u s (machine.Halts (halt.Short n) r) rest whole follows apart ready reach w =
        let f : Emitted = (open_section g e).1 in
        let f1 : Emitted = (begin_section g e).1 in
        let o : Opened (g ∷ []) g e f = opens_section (g ∷ []) g e (inl refl) ready.beside.neat in
        let more : Behind (g ∷ g ∷ []) f (emitted ys t g f1).1 (emitted ys t g f1).0 = (added ys).opened i whole follows t g g f.depth f1 o.since.neat refl (λ z. o.kept (sym o.since.grown.depth ∙ z)) in
        short_after (g ∷ g ∷ []) f (emitted ys t g f1).1 (behind_grown (g ∷ g ∷ []) f (emitted ys t g f1).1 (emitted ys t g f1).0 more) (record { state = w.state; short = w.short })

    -- ---- an end, and what stands behind it

    ended :
        (ys : List Part) (i : Inside) (t : Targets) (g : ℕ) (e : Emitted) (u : FlatState) (s : State) (o : Outcome (Unit {0})) → SimSequence ys → in_block false i (map sectioned (map stmt ys)) ≡ None →
        Distinct t → Ready t g e u s → Reaches (emitted ys t g (end_section e).1).1 m.last → Follows {B = Unit {0}} Done m [] (record e { depth = e.depth - 1 }) u (end_section e) o →
        Flowed m t e u (emitted ys t g (end_section e).1) (machine.go_on (machine.go_on (machine.go_on o (λ _. machine.pure {A = ℕ} 0)) (λ _. machine.pure Onward)) (λ w. model.then_next w (run ys)))
    ended ys i t g e u s (machine.Goes a r) rest whole apart ready reach w =
        let low : Emitted = record e { depth = e.depth - 1 } in
        let f : Emitted = (end_section e).1 in
        let closing : Since (e.opened ∷ []) low f = closes_section (e.opened ∷ []) low ready.beside.neat (λ _. inl refl) in
        let here : Holds (written t) low u (Value g 1 ∷ []) = holds_shallower m (written t) (Value g 1 ∷ []) e u ready.holds in
        let kept : Kept (written t) low u w.state = kept_more (written t) low u w.state w.kept in
        let next : Ready t g f w.state r = record {
          beside = w.beside;
          holds = holds_behind (e.opened ∷ []) (written t) low f u w.state (Value g 1 ∷ []) closing kept here;
          marked = marked_kept t low u w.state (Value g 1 ∷ []) 0 0 0 here w.kept ready.marked;
        } in
        flow_deep m t e (e.depth - 1) u (emitted ys t g f) (run ys r)
        (flow_before m (e.opened ∷ []) t low f none u w.state (emitted ys t g f) (run ys r) (behind_left (e.opened ∷ []) low f none (record { since = closing; out = inr (inl refl) })) kept
        (rest.closed i whole t apart g f w.state r next reach))
    ended ys i t g e u s (machine.Halts (halt.Over x) r) rest whole apart ready reach w =
        let low : Emitted = record e { depth = e.depth - 1 } in
        let f : Emitted = (end_section e).1 in
        let closing : Since (e.opened ∷ []) low f = closes_section (e.opened ∷ []) low ready.beside.neat (λ _. inl refl) in
        let more : Behind (g ∷ []) f (emitted ys t g f).1 (emitted ys t g f).0 = ((added ys).closed i whole t g).add f closing.neat in
        over_after (g ∷ []) f (emitted ys t g f).1 x r (behind_grown (g ∷ []) f (emitted ys t g f).1 (emitted ys t g f).0 more) w
    ended ys i t g e u s (machine.Halts (halt.Short n) r) rest whole apart ready reach w =
        let low : Emitted = record e { depth = e.depth - 1 } in
        let f : Emitted = (end_section e).1 in
        let closing : Since (e.opened ∷ []) low f = closes_section (e.opened ∷ []) low ready.beside.neat (λ _. inl refl) in
        let more : Behind (g ∷ []) f (emitted ys t g f).1 (emitted ys t g f).0 = ((added ys).closed i whole t g).add f closing.neat in
        short_after (g ∷ []) f (emitted ys t g f).1 (behind_grown (g ∷ []) f (emitted ys t g f).1 (emitted ys t g f).0 more) w

    -- ---- a statement of a section, and what stands behind it

    inner :
        (y : Part) (ys : List Part) (i : Inside) (t : Targets) (g : ℕ) (e : Emitted) (u : FlatState) (s : State) (o : Outcome Flow) → SimSequence ys → in_block true i (map sectioned (map stmt ys)) ≡ None → some_marked (map sectioned (map stmt ys)) ≡ true →
        Distinct t → (e.depth ≡ 0 → ⊥) → Behind (g ∷ []) e (execute ec (stmt y) t g e).1 (execute ec (stmt y) t g e).0 → Ready t g e u s → Reaches (emitted (y ∷ ys) t g e).1 m.last → LeavesAs InSection o →
        Flowed m t e u (execute ec (stmt y) t g e) o → Flowed m t e u (emitted (y ∷ ys) t g e) (machine.go_on o (λ w. model.then_next w (run ys)))
    inner y ys i t g e u s (machine.Goes Onward r) rest whole follows apart deep behind ready reach ok w =
        let f : Emitted = (execute ec (stmt y) t g e).1 in
        let h : ℕ = (execute ec (stmt y) t g e).0 in
        let b : Beside m f w.state r = all_in_scope m t e u f h r w in
        flow_before m (g ∷ []) t e f h u w.state (emitted ys t h f) (run ys r) behind w.kept
        (rest.opened i whole follows t apart h f w.state r (λ z. deep (sym behind.since.grown.depth ∙ z)) (ready_next t (g ∷ []) g e u f h w.state r behind ready.holds b w.kept w.post.0 w.post.1) reach)
    inner y ys i t g e u s (machine.Goes Broke r) rest whole follows apart deep behind ready reach ok w = absurd ok
    inner y ys i t g e u s (machine.Goes Continued r) rest whole follows apart deep behind ready reach ok w = absurd ok
    inner y ys i t g e u s (machine.Goes (Returned v) r) rest whole follows apart deep behind ready reach ok w = absurd ok
    inner y ys i t g e u s (machine.Halts (halt.Over x) r) rest whole follows apart deep behind ready reach ok w =
        let f : Emitted = (execute ec (stmt y) t g e).1 in
        let h : ℕ = (execute ec (stmt y) t g e).0 in
        let low : Emitted = record f { depth = f.depth - 1 } in
        let more : Behind (f.opened ∷ h ∷ []) low (emitted ys t h f).1 (emitted ys t h f).0 =
        (added ys).opened i whole follows t h f.opened (f.depth - 1) f behind.since.neat (one_more f.depth (λ z. deep (sym behind.since.grown.depth ∙ z))) (λ _. refl) in
        over_after (f.opened ∷ h ∷ []) low (emitted ys t h f).1 x r (behind_grown (f.opened ∷ h ∷ []) low (emitted ys t h f).1 (emitted ys t h f).0 more) (record { state = w.state; over = w.over; used = w.used; actions = w.actions })
    inner y ys i t g e u s (machine.Halts (halt.Short n) r) rest whole follows apart deep behind ready reach ok w =
        let f : Emitted = (execute ec (stmt y) t g e).1 in
        let h : ℕ = (execute ec (stmt y) t g e).0 in
        let low : Emitted = record f { depth = f.depth - 1 } in
        let more : Behind (f.opened ∷ h ∷ []) low (emitted ys t h f).1 (emitted ys t h f).0 =
        (added ys).opened i whole follows t h f.opened (f.depth - 1) f behind.since.neat (one_more f.depth (λ z. deep (sym behind.since.grown.depth ∙ z))) (λ _. refl) in
        short_after (f.opened ∷ h ∷ []) low (emitted ys t h f).1 (behind_grown (f.opened ∷ h ∷ []) low (emitted ys t h f).1 (emitted ys t h f).0 more) (record { state = w.state; short = w.short })

    -- ---- one more statement, where no section of the block is open, and where one is

    plain_there : (y : Part) (i : Inside) → (sectioned (stmt y)).found i ≡ None → (t : Targets) (g : ℕ) → AddsBehind (g ∷ []) (execute ec (stmt y) t g)
    plain_there y i here t g = (sound ec adds emits (stmt y)).plain i here t g

    reach_begin : (ys : List Part) (i : Inside) (t : Targets) (g : ℕ) (e : Emitted) → Neat e → in_block true i (map sectioned (map stmt ys)) ≡ None → some_marked (map sectioned (map stmt ys)) ≡ true → Reaches (emitted ys t g (begin_section g e).1).1 m.last → Reaches (begin_section g e).1 m.last
    reach_begin ys i t g e neat whole follows reach =
        let f : Emitted = (open_section g e).1 in
        let f1 : Emitted = (begin_section g e).1 in
        let o : Opened (g ∷ []) g e f = opens_section (g ∷ []) g e (inl refl) neat in
        let more : Behind (g ∷ g ∷ []) f (emitted ys t g f1).1 (emitted ys t g f1).0 = (added ys).opened i whole follows t g g f.depth f1 o.since.neat refl (λ z. o.kept (sym o.since.grown.depth ∙ z)) in
        let r : Reaches f m.last = reaches_before (g ∷ g ∷ []) f (emitted ys t g f1).1 m.last (behind_grown (g ∷ g ∷ []) f (emitted ys t g f1).1 (emitted ys t g f1).0 more) reach in
        record { numbers = r.numbers; numbers_behind = r.numbers_behind; numbers_above = r.numbers_above; created = r.created; created_behind = r.created_behind }

    closed_case :
        (y : Part) (ys : List Part) (i : Inside) (q : Mark) → (sectioned (stmt y)).mark ≡ q → SimSequence ys →
        or_else (broken_there false i (some_marked (map sectioned (map stmt ys))) (sectioned (stmt y)).found q) (in_block (behind_mark false q) i (map sectioned (map stmt ys))) ≡ None →
        (t : Targets) → Distinct t → (g : ℕ) (e : Emitted) (u : FlatState) (s : State) → Ready t g e u s → Reaches (emitted (y ∷ ys) t g e).1 m.last → Flowed m t e u (emitted (y ∷ ys) t g e) (run (y ∷ ys) s)
    closed_case y ys i (Begins p) is rest whole t apart g e u s ready reach =
        let both : (broken_there false i (some_marked (map sectioned (map stmt ys))) (sectioned (stmt y)).found (Begins p) ≡ None) × (in_block true i (map sectioned (map stmt ys)) ≡ None) = both_none _ _ whole in
        let follows : some_marked (map sectioned (map stmt ys)) ≡ true = (and_parts (is_outside i) (true && some_marked (map sectioned (map stmt ys))) (holds_at (is_outside i && (true && some_marked (map sectioned (map stmt ys)))) p both.0)).1 in
        let emits_begin : execute ec (stmt y) t g e ≡ (g, (begin_section g e).1) = (sound ec adds emits (stmt y)).begins p is t g e in
        let there : Reaches (emitted ys t g (begin_section g e).1).1 m.last = subst (λ (o : ℕ × Emitted). Reaches (sequence (map (execute ec) (map stmt ys)) t o.0 o.1).1 m.last) emits_begin reach in
        subst (λ (o : ℕ × Emitted). Flowed m t e u (sequence (map (execute ec) (map stmt ys)) t o.0 o.1) (run (y ∷ ys) s)) (sym emits_begin)
        (subst (λ (o : Outcome Flow). Flowed m t e u (emitted ys t g (begin_section g e).1) (machine.go_on o (λ w. model.then_next w (run ys)))) (sym ((stays rc runs (stmt y)).begins p is s))
        (begun ys i t g e u s (machine.begin_section s) rest both.1 follows apart ready there
        (begin_follows m [] (Value g 1 ∷ []) g e u s (inl (refl, refl)) ready.beside (reach_begin ys i t g e ready.beside.neat both.1 follows there) (holds_free (written t) e u (Value g 1 ∷ []) ready.holds))))
    closed_case y ys i (Ends p) is rest whole t apart g e u s ready reach =
        let both : (broken_there false i (some_marked (map sectioned (map stmt ys))) (sectioned (stmt y)).found (Ends p) ≡ None) × (in_block false i (map sectioned (map stmt ys)) ≡ None) = both_none _ _ whole in
        absurd (both_ways false refl ((and_parts (is_outside i) false (holds_at (is_outside i && false) p both.0)).1))
    closed_case y ys i Neither is rest whole t apart g e u s ready reach =
        let both : ((sectioned (stmt y)).found i ≡ None) × (in_block false i (map sectioned (map stmt ys)) ≡ None) = both_none _ _ whole in
        let behind : Behind (g ∷ []) e (execute ec (stmt y) t g e).1 (execute ec (stmt y) t g e).0 = (plain_there y i both.0 t g).add e ready.beside.neat in
        let f : Emitted = (execute ec (stmt y) t g e).1 in
        let h : ℕ = (execute ec (stmt y) t g e).0 in
        let more : Behind (h ∷ []) f (emitted ys t h f).1 (emitted ys t h f).0 = ((added ys).closed i both.1 t h).add f behind.since.neat in
        flow_then m t (g ∷ []) e u (execute ec (stmt y) t g) (emitted ys t) (run ys) (model.execute rc (stmt y) s) behind (λ k. (added ys).closed i both.1 t k) reach
        (λ v r b kept at marks. rest.closed i both.1 t apart h f v r (ready_next t (g ∷ []) g e u f h v r behind ready.holds b kept at marks) reach)
        ((part y i both.0).live t apart (Value g 1 ∷ []) g (inl (refl, refl)) e u s ready.beside (reaches_before (h ∷ []) f (emitted ys t h f).1 m.last (behind_grown (h ∷ []) f (emitted ys t h f).1 (emitted ys t h f).0 more) reach) ready.holds ready.marked)

    opened_case :
        (y : Part) (ys : List Part) (i : Inside) (q : Mark) → (sectioned (stmt y)).mark ≡ q → SimSequence ys →
        or_else (broken_there true i (some_marked (map sectioned (map stmt ys))) (sectioned (stmt y)).found q) (in_block (behind_mark true q) i (map sectioned (map stmt ys))) ≡ None → (q ≡ Neither → some_marked (map sectioned (map stmt ys)) ≡ true) →
        (t : Targets) → Distinct t → (g : ℕ) (e : Emitted) (u : FlatState) (s : State) → (e.depth ≡ 0 → ⊥) → Ready t g e u s → Reaches (emitted (y ∷ ys) t g e).1 m.last → Flowed m t e u (emitted (y ∷ ys) t g e) (run (y ∷ ys) s)
    opened_case y ys i (Begins p) is rest whole follows t apart g e u s deep ready reach =
        let both : (broken_there true i (some_marked (map sectioned (map stmt ys))) (sectioned (stmt y)).found (Begins p) ≡ None) × (in_block true i (map sectioned (map stmt ys)) ≡ None) = both_none _ _ whole in
        absurd (both_ways false refl ((and_parts false (some_marked (map sectioned (map stmt ys))) (and_parts (is_outside i) (false && some_marked (map sectioned (map stmt ys))) (holds_at (is_outside i && (false && some_marked (map sectioned (map stmt ys)))) p both.0)).1).0))
    opened_case y ys i (Ends p) is rest whole follows t apart g e u s deep ready reach =
        let both : (broken_there true i (some_marked (map sectioned (map stmt ys))) (sectioned (stmt y)).found (Ends p) ≡ None) × (in_block false i (map sectioned (map stmt ys)) ≡ None) = both_none _ _ whole in
        let emits_end : execute ec (stmt y) t g e ≡ (g, (end_section e).1) = (sound ec adds emits (stmt y)).ends p is t g e in
        let there : Reaches (emitted ys t g (end_section e).1).1 m.last = subst (λ (o : ℕ × Emitted). Reaches (sequence (map (execute ec) (map stmt ys)) t o.0 o.1).1 m.last) emits_end reach in
        subst (λ (o : ℕ × Emitted). Flowed m t e u (sequence (map (execute ec) (map stmt ys)) t o.0 o.1) (run (y ∷ ys) s)) (sym emits_end)
        (subst (λ (o : Outcome Flow). Flowed m t e u (emitted ys t g (end_section e).1) (machine.go_on o (λ w. model.then_next w (run ys)))) (sym ((stays rc runs (stmt y)).ends p is s))
        (ended ys i t g e u s (machine.end_section s) rest both.1 apart ready there (end_follows m [] (Value g 1 ∷ []) e u s ready.beside (holds_free (written t) e u (Value g 1 ∷ []) ready.holds) deep)))
    opened_case y ys i Neither is rest whole follows t apart g e u s deep ready reach =
        let both : ((sectioned (stmt y)).found InSection ≡ None) × (in_block true i (map sectioned (map stmt ys)) ≡ None) = both_none _ _ whole in
        let behind : Behind (g ∷ []) e (execute ec (stmt y) t g e).1 (execute ec (stmt y) t g e).0 = (plain_there y InSection both.0 t g).add e ready.beside.neat in
        let f : Emitted = (execute ec (stmt y) t g e).1 in
        let h : ℕ = (execute ec (stmt y) t g e).0 in
        let low : Emitted = record f { depth = f.depth - 1 } in
        let more : Behind (f.opened ∷ h ∷ []) low (emitted ys t h f).1 (emitted ys t h f).0 =
        (added ys).opened i both.1 (follows refl) t h f.opened (f.depth - 1) f behind.since.neat (one_more f.depth (λ z. deep (sym behind.since.grown.depth ∙ z))) (λ _. refl) in
        let there : Reaches f m.last = reaches_deep f m.last (f.depth - 1) (reaches_before (f.opened ∷ h ∷ []) low (emitted ys t h f).1 m.last (behind_grown (f.opened ∷ h ∷ []) low (emitted ys t h f).1 (emitted ys t h f).0 more) reach) in
        inner y ys i t g e u s (model.execute rc (stmt y) s) rest both.1 (follows refl) apart deep behind ready reach (((stays rc runs (stmt y)).plain InSection both.0).at s)
        ((part y InSection both.0).live t apart (Value g 1 ∷ []) g (inl (refl, refl)) e u s ready.beside there ready.holds ready.marked)

    pub sim_sequence : (ys : List Part) → SimSequence ys
    sim_sequence [] = record {
      closed = λ i whole t apart g e u s ready reach. comes_to_end m t e u s g ready.beside ready.holds.all.0 ready.marked;
      opened = λ i whole follows t apart g e u s deep ready reach. absurd (both_ways false refl follows);
    }
    sim_sequence (y ∷ ys) =
        let rest : SimSequence ys = sim_sequence ys in
        record {
          closed = λ i whole t apart g e u s ready reach. closed_case y ys i (sectioned (stmt y)).mark refl rest whole t apart g e u s ready reach;
          opened = λ i whole follows t apart g e u s deep ready reach.
              opened_case y ys i (sectioned (stmt y)).mark refl rest whole (rest_marked (sectioned (stmt y)).mark (some_marked (map sectioned (map stmt ys))) follows) t apart g e u s deep ready reach;
        }

    -- a block's statements do what the thread does
    pub sim_statements : (ys : List Part) (i : Inside) → in_block false i (map sectioned (map stmt ys)) ≡ None → SimBody m (execute_all ec (map stmt ys)) (model.execute_all rc (map stmt ys))
    sim_statements ys i whole = record {
      adds = λ t g. (added ys).closed i whole t g;
      live = λ t apart held g live e u s b reach holds marks.
          (sim_sequence ys).closed i whole t apart g e u s
          (record {
            beside = b;
            holds = record { low = holds.low; high = holds.high; plain = holds.plain; apart = holds.apart; opened = holds.opened; all = (in_holds m (written t) e u held g 1 holds.all live, tt) };
            marked = marks;
          }) reach;
    }

    -- and so does the block, a scope of its own
    pub sim_block : (ys : List Part) (i : Inside) → in_block false i (map sectioned (map stmt ys)) ≡ None → SimBody m (inside (execute_all ec (map stmt ys))) (model.scoped (model.execute_all rc (map stmt ys)))
    sim_block ys i whole = record {
      adds = λ t g. adds_left (g ∷ []) (inside (execute_all ec (map stmt ys)) t g) (scoped_left (g ∷ []) (execute_all ec (map stmt ys) t g) ((added ys).closed i whole t g));
      live = λ t apart held g live e u s b reach holds marks.
          scoped_flow m t e u s (execute_all ec (map stmt ys) t g) (run ys) b
          ((sim_statements ys i whole).live t apart held g live e u s b (record { numbers = reach.numbers; numbers_behind = reach.numbers_behind; numbers_above = reach.numbers_above; created = reach.created; created_behind = reach.created_behind }) holds marks);
    }
