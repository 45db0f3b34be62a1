-- Declarations: what is emitted for them does what the thread does, and the variables come into scope as the thread's locals.
use Rattle.std.proofs.Common.{◌≡◌, ℕ, zero, suc, ◌+◌, ◌<◌, ◌≤◌, ◌⊎◌, inl, inr, List, [], ◌∷◌, ◌++◌, length, map, replicate, Bool, true, false, Option, Some, None, refl, sym, ap, ◌∙◌, subst, append-nil, arith}
use Rattle.std.proofs.lemmas.Bool.{ltb-true, ltb-false}
use Rattle.std.proofs.lemmas.List.{set_past}
use Rattle.std.specs.Prelude.{cond, nat_lt, slice_get}
use Rattle.dg_base.proofs.Lists.{get_push_last}
use Rattle.c_tree.specs.declared.expr.TypeWord.{TypeWord}
use Rattle.c_tree.specs.declared.expr.TypeWord.TheVariants as type
use Rattle.c_tree.specs.declared.expr.Expr.{Expr}
use Rattle.c_tree.specs.declared.stmt.Initialiser.{Initialiser}
use Rattle.c_tree.specs.declared.stmt.Initialiser.TheVariants.{One as Single, Braces}
use Rattle.c_tree.specs.declared.stmt.Declarator.{Declarator}
use Rattle.c_tree.specs.declared.stmt.Start.{Start}
use Rattle.c_tree.specs.declared.stmt.Start.TheVariants as start
use Rattle.c_tree.specs.Operators.{word_unsigned}
use Rattle.c_rules.specs.Names.{Name, or_else}
use Rattle.c_rules.specs.Scopes.{First, first_of}
use Rattle.c_check.specs.Limits.{cell_count}
use Rattle.c_check.specs.Sections.{first_mark, mark_in_option, mark_in_start, mark_in_declarator, mark_in_declarators, mark_in_for}
use Rattle.run_model.specs.declared.state.Flow.{Flow}
use Rattle.run_model.specs.declared.state.Flow.TheVariants.{Next as Onward}
use Rattle.run_model.specs.declared.state.Halt.TheVariants as halt
use Rattle.run_model.specs.declared.state.Local.{Local}
use Rattle.run_model.specs.declared.state.Need.TheVariants.{Any}
use Rattle.run_model.specs.declared.state.Slot.TheVariants as slot
use Rattle.run_model.specs.Steps.{State, Outcome, Step}
use Rattle.run_model.specs.Steps as machine
use Rattle.run_model.specs.Cells as cells
use Rattle.run_model.specs.Calls as calls
use Rattle.run_model.specs.Meaning as meanings
use Rattle.run_model.specs.Statements as model
use Rattle.flat_prog.specs.declared.FlatAct.TheVariants as act
use Rattle.flat_prog.specs.Runs.{FlatState, take_into, go_on, steps}
use Rattle.emit_steps.specs.declared.state.Variable.{Variable}
use Rattle.emit_steps.specs.declared.state.Cell.{Cell}
use Rattle.emit_steps.specs.declared.state.Cell.TheVariants.{Own}
use Rattle.loop_unroll.specs.declared.targets.Targets.{Targets}
use Rattle.emit_steps.specs.Emitting.{Emitted, Emit, ◌>>◌, pure, nothing, none, fresh_cells, emit, copy_to}
use Rattle.emit_steps.specs.Pieces as pieces
use Rattle.emit_steps.specs.Pieces.{write}
use Rattle.emit_steps.specs.Calling.{enter}
use Rattle.loop_unroll.specs.Stating.{Body, take_cells, store_value, store_values, first_values, declare_one, declare_all, begin_for}
use Rattle.emit_steps.proofs.Growth.{Plain, plain_below}
use Rattle.emit_steps.proofs.Marks.{both_none}
use Rattle.emit_steps.proofs.Adding.{Since, since_none, adds_fresh, adds_emit, adds_nothing, adds_then}
use Rattle.loop_unroll.proofs.AddingBodies.{Behind, among_append}
use Rattle.emit_steps.proofs.AddingExprs.{AddsCalls}
use Rattle.loop_unroll.proofs.AddingStatements.{AddsScope, scope_adds, scope_then, scope_guard, scope_behind, adds_declare_one}
use Rattle.emit_steps.proofs.Running.{local_other, Among, among_within, values_from, Matches, constants_kept, Reaches, reaches_before, plain_in_end, Machine, Safe, Beside, Kept, ending_of, WentOver, WentShort, Follows, ran_over, ran_short, beside_dead}
use Rattle.emit_steps.proofs.Simulating.{Long, Value, Points, Declared, Held, ValueAt, Holds, Val, Done, kept_none, In, in_holds, Sees, sees_holds, Sim, sim_then, next_value, next_done, sim_pure, sim_also, sim_same, go_on_twice, ran_made, beside_next, few_kept, wrote}
use Rattle.emit_steps.proofs.VariableCells.{length_values, with_next, matches_written, among_there}
use Rattle.emit_steps.proofs.Acting.{sim_write}
use Rattle.emit_steps.proofs.Evaluating.{SimPiece}
use Rattle.loop_unroll.proofs.Flows.{written, Marked, Flowed, SimBody, holds_grown, kept_grown, flow_before, same_length}
use Rattle.loop_unroll.proofs.Leaving.{holds_free, kept_more, marked_kept}
use Rattle.loop_unroll.proofs.Looping.{SimValue}
use Rattle.loop_unroll.proofs.Blocks.{behind_grown}
use Rattle.loop_unroll.proofs.Entering.{beside_entered}

-- ---- new variables

-- cells that hold 0
zeros_from : (f : ℕ → ℕ) (first n : ℕ) → ((l : ℕ) → first ≤ l → l < first + n → f l ≡ 0) → replicate n 0 ≡ values_from f first n
zeros_from f first zero h = refl
zeros_from f first (suc n) h =
    ap (λ x. x ∷ replicate n 0) (sym (h first (omega arith) (omega arith))) ∙ ap (λ xs. f first ∷ xs) (zeros_from f (first + 1) n (λ l a b. h l (omega arith) (omega arith)))

-- a cell that a variable does not have is not written
no_cell_written : (f : ℕ → ℕ) (vs : List Variable) (ls : List Local) (i j x : ℕ) (v : Variable) → Matches f vs ls → slice_get vs i ≡ Some v → v.count ≤ j → cells.with_cell ls i j x ≡ ls
no_cell_written f [] ls i j x v m e past = absurd (let no : ◌≡◌ {A = Option Variable} None (Some v) = e in cc)
no_cell_written f (w ∷ vs) [] i j x v m e past = absurd m
no_cell_written f (w ∷ vs) (l ∷ ls) zero j x v m e past =
    let same : w ≡ v = (let is : ◌≡◌ {A = Option Variable} (Some w) (Some v) = e in cc) in
    let long : length l.cells ≡ w.count = ap length m.2 ∙ length_values f w.first w.count in
    let few : w.count ≤ j = subst (λ (u : Variable). u.count ≤ j) (sym same) past in
    ap (λ cs. record l { cells = cs } ∷ ls) (set_past l.cells j x (omega (arith, long, few)))
no_cell_written f (w ∷ vs) (l ∷ ls) (suc i) j x v m e past = with_next l ls i j x (slice_get ls i) ∙ ap (λ ks. l ∷ ks) (no_cell_written f vs ls i j x v m.3 e past)

module _ (m : Machine) where
  new_apart : (e : Emitted) (v : Variable) (l : ℕ) → v.first ≡ e.next → l < e.next → (Among e.scope l → ⊥) → Among e.scope l ⊎ Among (v ∷ []) l → ⊥
  new_apart e v l first low apart (inl old) = apart old
  new_apart e v l first low apart (inr (inl new)) = absurd (omega (arith, first, new.0))
  new_apart e v l first low apart (inr (inr off)) = off

  -- a variable comes into scope whose cells were not used: the thread has a local more, whose cells are 0
  pub entered_beside :
      (w : TypeWord) (name : Name) (n : ℕ) (e : Emitted) (u : FlatState) (s : State) → Beside m e u s → Reaches (enter w name e.next n (fresh_cells n e).1).1 m.last →
      Beside m (enter w name e.next n (fresh_cells n e).1).1 u (record s { locals = s.locals ++ record { name = name; unsigned = word_unsigned w; cells = replicate n 0 } ∷ [] })
  entered_beside w name n e u s b reach =
      let f : Emitted = (fresh_cells n e).1 in
      let v : Variable = record { name = name; unsigned = word_unsigned w; first = e.next; count = n } in
      let since : Since [] e f = (adds_fresh [] n).add e b.neat in
      let reach_f : Reaches f m.last = record { numbers = reach.numbers; numbers_behind = reach.numbers_behind; numbers_above = reach.numbers_above; created = reach.created; created_behind = reach.created_behind } in
      let plain : (l : ℕ) → e.next ≤ l → l < e.next + n → Plain m.last.numbers l = λ l low high. plain_in_end f m.last l reach_f high (plain_below e.numbers l e.next low b.neat) in
      beside_entered m f u s v (record { name = name; unsigned = word_unsigned w; cells = replicate n 0 }) (beside_dead m [] e f u s since reach_f b (λ l off. absurd off))
      (record { behind = b.stacked; used = omega arith; plain = plain; opened = λ deep low high. let safe : Safe e e.opened = (b.opened deep).0 in absurd (omega (arith, safe.used, low)) })
      refl refl (zeros_from u.values e.next n (λ l low high. b.idle l low (plain l low high)))

  -- ---- scopes that grow

  pub record Entered (e : Emitted) (u : FlatState) (f : Emitted) (s : State) : Type 0 where
    pub state : FlatState
    pub beside : Beside m f state s
    pub kept : Kept [] e u state

  abbrev pub Grew : Emitted → FlatState → Emitted → Outcome (Unit {0}) → Type 0
  Grew e u f (machine.Goes v s) = Entered e u f s
  Grew e u f (machine.Halts (halt.Over x) s) = WentOver m f x s
  Grew e u f (machine.Halts (halt.Short n) s) = WentShort m f

  -- what is emitted does what the step does, and all variables that it declares are the thread's
  pub record SimScope (em : ℕ → Emit (Unit {0})) (st : Step (Unit {0})) : Type 0 where
    pub adds : (g : ℕ) → AddsScope (g ∷ []) (em g)
    pub live : (held : Held) (g : ℕ) → In m held g 1 → (e : Emitted) (u : FlatState) (s : State) → Beside m e u s → Reaches (em g e).1 m.last → Holds [] e u held → Grew e u (em g e).1 (st s)

  grew_before : (gs : List ℕ) (e f : Emitted) (u w : FlatState) (i : Emitted) (o : Outcome (Unit {0})) → Behind gs e f none → Kept [] e u w → Grew f w i o → Grew e u i o
  grew_before gs e f u w i (machine.Goes v s) b kept g = record { state = g.state; beside = g.beside; kept = kept_grown gs [] e f none u w g.state b kept g.kept }
  grew_before gs e f u w i (machine.Halts (halt.Over x) s) b kept g = g
  grew_before gs e f u w i (machine.Halts (halt.Short n) s) b kept g = g

  grew_then :
      (gs hs : List ℕ) (e f i : Emitted) (u : FlatState) (k : Step (Unit {0})) (o : Outcome (Unit {0})) → Behind gs e f none → Behind hs f i none → ((w : FlatState) (r : State) → Beside m f w r → Kept [] e u w → Grew f w i (k r)) → Grew e u f o →
      Grew e u i (machine.go_on o (λ _. k))
  grew_then gs hs e f i u k (machine.Goes v r) first rest next g = grew_before gs e f u g.state i (k r) first g.kept (next g.state r g.beside g.kept)
  grew_then gs hs e f i u k (machine.Halts (halt.Over x) r) first rest next g = record { state = g.state; over = ran_over m hs f i (ending_of x) g.state (behind_grown hs f i none rest) g.over; used = g.used; actions = g.actions }
  grew_then gs hs e f i u k (machine.Halts (halt.Short n) r) first rest next g = record { state = g.state; short = ran_short m hs f i g.state (behind_grown hs f i none rest) g.short }

  pub scope_nothing : SimScope (λ g. nothing) machine.nothing
  scope_nothing = record {
    adds = λ g. scope_adds (g ∷ []) nothing (adds_nothing (g ∷ []));
    live = λ held g there e u s b reach holds. record { state = u; beside = b; kept = kept_none [] e u };
  }

  pub scope_next : (a b : ℕ → Emit (Unit {0})) (sa sb : Step (Unit {0})) → SimScope a sa → SimScope b sb → SimScope (λ g. a g >> b g) (machine.◌>>◌ sa sb)
  scope_next a b sa sb ha hb = record {
    adds = λ g. scope_then (g ∷ []) (a g) (λ _. b g) (ha.adds g) (λ _. hb.adds g);
    live = λ held g there e u s beside reach holds.
        let f : Emitted = (a g e).1 in
        let i : Emitted = (b g f).1 in
        let first : Behind (g ∷ []) e f none = (ha.adds g).add e beside.neat in
        let rest : Behind (g ∷ []) f i none = (hb.adds g).add f first.since.neat in
        grew_then (g ∷ []) (g ∷ []) e f i u sb (sa s) first rest (λ w r b_f kept. hb.live held g there f w r b_f reach (holds_grown (g ∷ []) [] e f none u w held first kept holds))
        (ha.live held g there e u s beside (reaches_before (g ∷ []) f i m.last (behind_grown (g ∷ []) f i none rest) reach) holds);
  }

  value_done : (e : Emitted) (u : FlatState) (f : Emitted) (a : ℕ) (o : Outcome ℕ) → Follows (Val []) m [] e u (a, f) o → Grew e u f (machine.go_on o (λ _. machine.nothing))
  value_done e u f a (machine.Goes v s) w = record { state = w.state; beside = w.beside; kept = w.kept }
  value_done e u f a (machine.Halts (halt.Over x) s) w = w
  value_done e u f a (machine.Halts (halt.Short n) s) w = w

  -- an expression
  pub scope_value : (em : ℕ → Emit ℕ) (st : Step ℕ) → SimValue m em st → SimScope (λ g. em g >> nothing) (machine.◌>>◌ st machine.nothing)
  scope_value em st h = record {
    adds = λ g. scope_adds (g ∷ []) (em g >> nothing) (adds_then (g ∷ []) (em g) (λ _. nothing) (h.adds g) (λ _. adds_nothing (g ∷ [])));
    live = λ held g there e u s b reach holds. value_done e u (em g e).1 (em g e).0 (st s) ((h.run [] held g there).live e u s b reach holds);
  }

  -- ---- statements in which a scope grows

  grew_flow : (t : Targets) (held : Held) (g : ℕ) → In m held g 1 → (gs : List ℕ) (e f : Emitted) (u : FlatState) (s : State) (o : Outcome (Unit {0})) → Behind gs e f none → Holds (written t) e u held → Marked t u 0 0 0 → Grew e u f o →
      Flowed m t e u (g, f) (machine.go_on o (λ _. machine.pure Onward))
  grew_flow t held g there gs e f u s (machine.Goes v r) b holds is w = record {
    state = w.state;
    vars = b.vars;
    more = [];
    scope = b.scope ∙ ap (λ vs. e.scope ++ vs) (sym (append-nil b.vars));
    exact = λ _. refl;
    beside = subst (λ vs. Beside m (record f { scope = vs }) w.state r) b.scope w.beside;
    kept = kept_more (written t) e u w.state w.kept;
    post = (in_holds m (written t) f w.state held g 1 (holds_grown gs (written t) e f none u w.state held b (kept_more (written t) e u w.state w.kept) holds).all there, marked_kept t e u w.state held 0 0 0 holds w.kept is);
  }
  grew_flow t held g there gs e f u s (machine.Halts (halt.Over x) r) b holds is w = w
  grew_flow t held g there gs e f u s (machine.Halts (halt.Short n) r) b holds is w = w

  -- control comes to the end behind it
  pub scope_body : (em : ℕ → Emit (Unit {0})) (st : Step (Unit {0})) → SimScope em st → SimBody m (λ t g. em g >> pure g) (machine.◌>>◌ st (machine.pure Onward))
  scope_body em st h = record {
    adds = λ t g. scope_guard (g ∷ []) (em g) g (inl refl) (h.adds g);
    live = λ t d held g there e u s b reach holds is.
        grew_flow t held g there (g ∷ []) e (em g e).1 u s (st s) ((h.adds g).add e b.neat) holds is (h.live held g there e u s b reach (holds_free (written t) e u held holds));
  }

  grew_then_flow :
      (t : Targets) (gs hs : List ℕ) (e f : Emitted) (u : FlatState) (i : ℕ × Emitted) (k : Step Flow) (o : Outcome (Unit {0})) → Behind gs e f none → Behind hs f i.1 i.0 → ((w : FlatState) (r : State) → Beside m f w r → Kept [] e u w → Flowed m t f w i (k r)) → Grew e u f o →
      Flowed m t e u i (machine.go_on o (λ _. k))
  grew_then_flow t gs hs e f u i k (machine.Goes v r) first rest next w = flow_before m gs t e f none u w.state i (k r) first (kept_more (written t) e u w.state w.kept) (next w.state r w.beside w.kept)
  grew_then_flow t gs hs e f u i k (machine.Halts (halt.Over x) r) first rest next w = record { state = w.state; over = ran_over m hs f i.1 (ending_of x) w.state (behind_grown hs f i.1 i.0 rest) w.over; used = w.used; actions = w.actions }
  grew_then_flow t gs hs e f u i k (machine.Halts (halt.Short n) r) first rest next w = record { state = w.state; short = ran_short m hs f i.1 w.state (behind_grown hs f i.1 i.0 rest) w.short }

  -- a statement behind it, in the scope that grew
  pub scope_before : (em : ℕ → Emit (Unit {0})) (st : Step (Unit {0})) (b : Body) (sb : Step Flow) → SimScope em st → SimBody m b sb → SimBody m (λ t g. em g >> b t g) (machine.◌>>◌ st sb)
  scope_before em st b sb h hb = record {
    adds = λ t g. scope_behind (g ∷ []) (em g) (b t g) (h.adds g) (hb.adds t g);
    live = λ t d held g there e u s beside reach holds is.
        let f : Emitted = (em g e).1 in
        let first : Behind (g ∷ []) e f none = (h.adds g).add e beside.neat in
        let rest : Behind (g ∷ []) f (b t g f).1 (b t g f).0 = (hb.adds t g).add f first.since.neat in
        grew_then_flow t (g ∷ []) (g ∷ []) e f u (b t g f) sb (st s) first rest
        (λ w r b_f kept. hb.live t d held g there f w r b_f reach (holds_grown (g ∷ []) (written t) e f none u w held first (kept_more (written t) e u w kept) holds) (marked_kept t e u w held 0 0 0 holds kept is))
        (h.live held g there e u s beside (reaches_before (g ∷ []) f (b t g f).1 m.last (behind_grown (g ∷ []) f (b t g f).1 (b t g f).0 rest) reach) (holds_free (written t) e u held holds));
  }

  -- ---- first values

  -- a value is stored where there is a cell for it
  stored : (held : Held) (g i j a x : ℕ) (v : Variable) (b : Bool) → nat_lt j v.count ≡ b → In m held g 1 → Sees m held i v → In m held a x → Sim m {A = Unit {0}} {B = Unit {0}} Done [] held (cond b (copy_to g (v.first + j) a) nothing) (cells.write (slot.Own i j) x)
  stored held g i j a x v true is live sees has =
      let cs : List Cell = Own g (v.first + j) ∷ [] in
      sim_also m Done [] (Points cs (slot.Own i j)) held (copy_to g (v.first + j) a) (cells.write (slot.Own i j) x)
      (λ e t s b holds. inl (in_holds m [] e t held g 1 holds.all live, (v, sees_holds m [] e t held i v holds.all sees, ltb-true j v.count is, refl), tt))
      (sim_write m [] (Points cs (slot.Own i j) ∷ held) cs (slot.Own i j) a x (inl (refl, refl)) (inl has))
  stored held g i j a x v false is live sees has = record {
    long = λ e neat. ([], since_none [] e neat);
    live = λ e t s b reach holds. record {
      state = t;
      beside = subst (λ ls. Beside m e t (record s { locals = ls })) (sym (no_cell_written t.values e.scope s.locals i j x v b.matches (sees_holds m [] e t held i v holds.all sees) (ltb-false j v.count is))) b;
      kept = kept_none [] e t;
      answer = tt;
    };
  }

  -- a number is taken for a cell
  taken_cell :
      (e : Emitted) (t : FlatState) (s : State) (g i j : ℕ) (v : Variable) → Beside m e t s → t.values g ≡ 1 → slice_get e.scope i ≡ Some v → j < v.count → (script : List ℕ) → t.script ≡ script →
      Follows {A = Unit {0}} {B = Unit {0}} Done m [] e t (emit g (act.Take (v.first + j)) e) (machine.go_on (machine.take_from Any script s) (λ x. cells.write (slot.Own i j) x))
  taken_cell e t s g i j v b live sees inside [] same = record {
    state = t;
    short = ran_made m e t g (act.Take (v.first + j)) b.ran live ∙ ap (λ ss. go_on (take_into (v.first + j) (λ x. []) ss t) (steps m.instances [])) same;
  }
  taken_cell e t s g i j v b live sees inside (x ∷ xs) same =
      let l : ℕ = v.first + j in
      let f : Emitted = (emit g (act.Take l) e).1 in
      let since : Since (g ∷ []) e f = (adds_emit (g ∷ []) g (act.Take l) (inl refl)).add e b.neat in
      let among : Among e.scope l = among_there e.scope i j v sees inside in
      let within : (5 ≤ l) × (l < e.next) = among_within 5 e.scope e.next l b.stacked among in
      let u : FlatState = wrote m t l x xs (t.used + 1) (t.actions ++ []) in
      let r : State = record s { locals = cells.with_cell s.locals i j x; script = xs; used = s.used + 1 } in
      record {
        state = u;
        beside = beside_next m (g ∷ []) e f t u s r since b (record {
          ran = ran_made m e t g (act.Take l) b.ran live ∙ ap (λ ss. go_on (take_into l (λ y. []) ss t) (steps m.instances [])) same;
          constants = constants_kept m t.values l x (omega (arith, within.0)) (b.plain l among) b.constants;
          idle = λ k le plain. local_other t.values l x k (λ is. absurd (omega (arith, within.1))) ∙ b.idle k le plain;
          matches = matches_written t.values 5 e.scope e.next s.locals i j x v b.stacked b.matches sees inside;
          creates = local_other t.values l x 4 (λ is. absurd (omega (arith, within.0))) ∙ b.creates;
          few = few_kept m (g ∷ []) e f t s since b;
          depth = refl;
          opened = λ deep. local_other t.values l x e.opened (λ is. (b.opened deep).0.apart (subst (Among e.scope) (sym is) among));
          script = refl;
          used = ap (λ n. n + 1) b.used;
          actions = append-nil t.actions ∙ b.actions;
        });
        kept = λ k used apart other free. local_other t.values l x k (λ is. apart (subst (Among e.scope) (sym is) among));
        answer = tt;
      }

  sim_take_cell : (held : Held) (g i j : ℕ) (v : Variable) → In m held g 1 → Sees m held i v → j < v.count → Sim m {A = Unit {0}} {B = Unit {0}} Done [] held (emit g (act.Take (v.first + j))) (machine.◌>>=◌ (machine.take_number Any) (λ x. cells.write (slot.Own i j) x))
  sim_take_cell held g i j v live sees inside = record {
    long = λ e neat. (g ∷ [], (adds_emit (g ∷ []) g (act.Take (v.first + j)) (inl refl)).add e neat);
    live = λ e t s b reach holds. taken_cell e t s g i j v b (in_holds m [] e t held g 1 holds.all live).2 (sees_holds m [] e t held i v holds.all sees) inside s.script b.script;
  }

  sim_take : (held : Held) (g i : ℕ) (v : Variable) (n j l : ℕ) → l ≡ v.first + j → j + n ≤ v.count → In m held g 1 → Sees m held i v → Sim m {A = Unit {0}} {B = Unit {0}} Done [] held (take_cells g l n) (model.store_from i j (replicate n (machine.take_number Any)))
  sim_take held g i v zero j l same room live sees = sim_pure m Done [] held tt tt (λ e t s b holds. tt)
  sim_take held g i v (suc n) j l same room live sees =
      let more : Step (Unit {0}) = model.store_from i (j + 1) (replicate n (machine.take_number Any)) in
      let first : Sim m {A = Unit {0}} {B = Unit {0}} Done [] held (emit g (act.Take l)) (machine.◌>>=◌ (machine.take_number Any) (λ x. cells.write (slot.Own i j) x)) =
      subst (λ k. Sim m {A = Unit {0}} {B = Unit {0}} Done [] held (emit g (act.Take k)) (machine.◌>>=◌ (machine.take_number Any) (λ x. cells.write (slot.Own i j) x))) (sym same) (sim_take_cell held g i j v live sees (omega (arith, room))) in
      sim_same m Done [] held (take_cells g l (suc n)) (machine.◌>>◌ (machine.◌>>=◌ (machine.take_number Any) (λ x. cells.write (slot.Own i j) x)) more) (model.store_from i j (replicate (suc n) (machine.take_number Any)))
      (λ s. go_on_twice m (machine.take_number Any s) (λ x. cells.write (slot.Own i j) x) (λ _. more))
      (sim_then m Done Done [] held (emit g (act.Take l)) (machine.◌>>=◌ (machine.take_number Any) (λ x. cells.write (slot.Own i j) x)) (λ _. take_cells g (l + 1) n) (λ _. more) first
      (next_done m [] held (take_cells g (l + 1) n) more Done (sim_take held g i v n (j + 1) (l + 1) (omega (arith, same)) (omega (arith, room)) live sees)))

  module _ (ec : pieces.Context) (rc : calls.Context) (adding : AddsCalls ec) (sims : (x : Expr) → first_mark x ≡ None → SimPiece m (pieces.piece ec x) (meanings.meaning rc x)) where
    pub eval_value : (x : Expr) → first_mark x ≡ None → SimValue m (pieces.eval ec x) (meanings.eval rc x)
    eval_value x whole = record { adds = (sims x whole).adds.run; run = (sims x whole).run }

    sim_store : (held : Held) (g i : ℕ) (v : Variable) (j : ℕ) (es : List Expr) → first_of (map first_mark es) ≡ None → In m held g 1 → Sees m held i v →
        Sim m {A = Unit {0}} {B = Unit {0}} Done [] held (store_values ec g v.first v.count j es) (model.store_from i j (map (meanings.eval rc) es))
    sim_store held g i v j [] whole live sees = sim_pure m Done [] held tt tt (λ e t s b holds. tt)
    sim_store held g i v j (x ∷ es) whole live sees =
        let both : (first_mark x ≡ None) × (first_of (map first_mark es) ≡ None) = both_none (first_mark x) (first_of (map first_mark es)) whole in
        sim_then m (Val []) Done [] held (pieces.eval ec x g) (meanings.eval rc x) _ _ ((sims x both.0).run [] held g live) (next_value m [] held _ _ Done (λ a n.
        sim_then m Done Done [] (Value a n ∷ held) (store_value g v.first v.count j a) (cells.write (slot.Own i j) n) (λ _. store_values ec g v.first v.count (j + 1) es) (λ _. model.store_from i (j + 1) (map (meanings.eval rc) es))
        (stored (Value a n ∷ held) g i j a n v (nat_lt j v.count) refl (inr live) sees (inl (refl, refl)))
        (next_done m [] (Value a n ∷ held) (store_values ec g v.first v.count (j + 1) es) (model.store_from i (j + 1) (map (meanings.eval rc) es)) Done (sim_store (Value a n ∷ held) g i v (j + 1) es both.1 (inr live) sees))))

    sim_first : (held : Held) (g i : ℕ) (v : Variable) (w : TypeWord) (o : Option Initialiser) → mark_in_start o ≡ None → In m held g 1 → Sees m held i v →
        Sim m {A = Unit {0}} {B = Unit {0}} Done [] held (first_values ec w g v.first v.count o) (model.store_from i 0 (model.first_values rc w v.count o))
    sim_first held g i v type.Thread None whole live sees = sim_pure m Done [] held tt tt (λ e t s b holds. tt)
    sim_first held g i v type.Int None whole live sees = sim_take held g i v v.count 0 v.first (omega arith) (omega arith) live sees
    sim_first held g i v type.Uint None whole live sees = sim_take held g i v v.count 0 v.first (omega arith) (omega arith) live sees
    sim_first held g i v type.Void None whole live sees = sim_take held g i v v.count 0 v.first (omega arith) (omega arith) live sees
    sim_first held g i v type.VoidPointer None whole live sees = sim_take held g i v v.count 0 v.first (omega arith) (omega arith) live sees
    sim_first held g i v type.Mutex None whole live sees = sim_take held g i v v.count 0 v.first (omega arith) (omega arith) live sees
    sim_first held g i v type.Cond None whole live sees = sim_take held g i v v.count 0 v.first (omega arith) (omega arith) live sees
    sim_first held g i v w (Some (Single x)) whole live sees = sim_store held g i v 0 (x ∷ []) (ap (λ (z : First). or_else z None) whole) live sees
    sim_first held g i v w (Some (Braces es)) whole live sees = sim_store held g i v 0 es whole live sees

    -- ---- declarations

    first_done : (e : Emitted) (u : FlatState) (f i : Emitted) (w : TypeWord) (name : Name) (n : ℕ) (o : Outcome (Unit {0})) → f ≡ (enter w name e.next n (fresh_cells n e).1).1 → Follows {A = Unit {0}} {B = Unit {0}} Done m [] f u (tt, i) o → Grew e u i o
    first_done e u f i w name n (machine.Goes x s) is h =
        let v : Variable = record { name = name; unsigned = word_unsigned w; first = e.next; count = n } in
        let scope : f.scope ≡ e.scope ++ v ∷ [] = ap (λ (y : Emitted). y.scope) is in
        let next : f.next ≡ e.next + n = ap (λ (y : Emitted). y.next) is in
        record {
          state = h.state;
          beside = h.beside;
          kept = λ l used apart other free. h.kept l (omega (arith, used, next)) (λ a. new_apart e v l refl used apart (among_append e.scope (v ∷ []) l (subst (λ vs. Among vs l) scope a))) other free;
        }
    first_done e u f i w name n (machine.Halts (halt.Over x) s) is h = h
    first_done e u f i w name n (machine.Halts (halt.Short k) s) is h = h

    pub scope_declare_one : (w : TypeWord) (d : Declarator) → mark_in_declarator d ≡ None → SimScope (λ g. declare_one ec w g d) (model.declare_one rc w d)
    scope_declare_one w d whole = record {
      adds = λ g. adds_declare_one ec adding w g d whole;
      live = λ held g there e u s b reach holds.
          let n : ℕ = cell_count d in
          let f : Emitted = (enter w d.name e.next n (fresh_cells n e).1).1 in
          let v : Variable = record { name = d.name; unsigned = word_unsigned w; first = e.next; count = n } in
          let k : ℕ = length s.locals in
          let r : State = record s { locals = s.locals ++ record { name = d.name; unsigned = word_unsigned w; cells = replicate n 0 } ∷ [] } in
          let there_one : In m (Value g 1 ∷ Declared k v ∷ []) g 1 = inl (refl, refl) in
          let sees : Sees m (Value g 1 ∷ Declared k v ∷ []) k v = inl (refl, refl) in
          let first : Sim m {A = Unit {0}} {B = Unit {0}} Done [] (Value g 1 ∷ Declared k v ∷ []) (first_values ec w g e.next n d.initialiser) (model.store_from k 0 (model.first_values rc w n d.initialiser)) =
          sim_first (Value g 1 ∷ Declared k v ∷ []) g k v w d.initialiser (both_none (mark_in_option d.size) (mark_in_start d.initialiser) whole).1 there_one sees in
          let i : Emitted = (first_values ec w g e.next n d.initialiser f).1 in
          let long : Long f i = first.long f ((adds_fresh [] n).add e b.neat).neat in
          let reach_f : Reaches f m.last = reaches_before long.0 f i m.last long.1.grown reach in
          let at : ValueAt [] e u g 1 = in_holds m [] e u held g 1 holds.all there in
          let same : length e.scope ≡ k = sym (same_length m u.values e.scope s.locals b.matches) in
          let at_f : ValueAt [] f u g 1 = (record { used = omega (arith, at.0.used); apart = λ a. new_apart e v g refl at.0.used at.0.apart (among_append e.scope (v ∷ []) g a); other = at.0.other }, (λ off. off), at.2) in
          let in_scope : slice_get (e.scope ++ v ∷ []) k ≡ Some v = subst (λ x. slice_get (e.scope ++ v ∷ []) x ≡ Some v) same (get_push_last e.scope v) in
          let holds_f : Holds [] f u (Value g 1 ∷ Declared k v ∷ []) = record { low = λ x off. absurd off; high = λ x off. absurd off; plain = λ x off. absurd off; apart = λ x off. absurd off; opened = λ deep off. off; all = (at_f, (in_scope, tt)) } in
          first_done e u f i w d.name n (model.store_from k 0 (model.first_values rc w n d.initialiser) r) refl (first.live f u r (entered_beside w d.name n e u s b reach_f) reach holds_f);
    }

    pub scope_declare : (w : TypeWord) (ds : List Declarator) → mark_in_declarators ds ≡ None → SimScope (λ g. declare_all ec w g ds) (model.declare_all rc w ds)
    scope_declare w [] whole = scope_nothing
    scope_declare w (d ∷ ds) whole =
        let both : (mark_in_declarator d ≡ None) × (mark_in_declarators ds ≡ None) = both_none (mark_in_declarator d) (mark_in_declarators ds) whole in
        scope_next (λ g. declare_one ec w g d) (λ g. declare_all ec w g ds) (model.declare_one rc w d) (model.declare_all rc w ds) (scope_declare_one w d both.0) (scope_declare w ds both.1)

    -- what stands before a loop
    pub scope_begin : (t : Start) → mark_in_for t ≡ None → SimScope (λ g. begin_for ec t g) (model.begin_for rc t)
    scope_begin start.Nothing whole = scope_nothing
    scope_begin (start.Expr x) whole = scope_value (pieces.eval ec x) (meanings.eval rc x) (eval_value x whole)
    scope_begin (start.Declare d) whole = scope_declare d.word d.declarators whole
