-- A create does what the thread does: the same handle, of the same function, with the same argument.
use Rattle.std.proofs.Common.{◌≡◌, ℕ, ◌+◌, ◌*◌, ◌<◌, ◌≤◌, ◌^◌, ◌%◌, inl, inr, List, [], ◌∷◌, ◌++◌, length, map, refl, sym, ap, ◌∙◌, subst, length-append, mod-eq_of_lt, arith}
use Rattle.std.specs.Prelude.{slice_get}
use Rattle.dg_base.specs.declared.operators.Op.TheVariants as op
use Rattle.dg_base.specs.Values.{value_of}
use Rattle.dg_base.proofs.Lists.{get_append_left, get_push_last}
use Rattle.axiom_model.specs.declared.Action.TheVariants as action
use Rattle.run_model.specs.declared.state.Slot.{Slot}
use Rattle.run_model.specs.Steps.{State, Step}
use Rattle.run_model.specs.Steps as machine
use Rattle.run_model.specs.Cells as cells
use Rattle.run_model.specs.Calls.{Setting}
use Rattle.run_model.specs.Calls as calls
use Rattle.flat_prog.specs.declared.FlatAct.TheVariants as act
use Rattle.flat_prog.specs.Runs.{FlatState, Goes, with_local, set_local, function_at}
use Rattle.flat_prog.specs.Runs as runs
use Rattle.emit_steps.specs.declared.state.Number.{Number}
use Rattle.emit_steps.specs.declared.state.Cell.{Cell}
use Rattle.emit_steps.specs.Emitting.{Emitted, ◌>>◌, pure, none, one, own_handle, creates, number, emit, set}
use Rattle.emit_steps.specs.Pieces.{write, name_instance, next_handle, create}
use Rattle.emit_steps.proofs.Growth.{each_map, Plain}
use Rattle.emit_steps.proofs.Adding.{Since, Adds, adds_number, adds_set, adds_emit, adds_write, adds_pure, adds_then}
use Rattle.emit_steps.proofs.AddingForms.{guards_of, one_behind, cells_under, adds_next_handle, adds_name, adds_create, since_more}
use Rattle.emit_steps.proofs.Running.{local_same, local_other, among_within, matches_kept, Reaches, reaches_before, Machine, constants_kept, ran, Beside, Kept, WentOn, Follows, beside_dead}
use Rattle.emit_steps.proofs.Simulating.{Value, Held, ValueAt, Holds, Val, Done, holds_behind, kept_none, kept_then, Sim, follows_after, sim_then, next_done, ran_made, beside_next, few_kept, In, Finds, has_value, set_at}
use Rattle.emit_steps.proofs.Acting.{sim_make, sim_write}
use Rattle.emit_steps.proofs.Finding.{sim_number, sim_none}

module _ (m : Machine) where
  -- the next handle, by the number of creates done
  abbrev pub handle_of : ℕ → ℕ
  handle_of n = 64 * m.handle + n + 1

  -- no sum is too large for a word
  times_small : (h : ℕ) → h < 2 ^ 24 → (h * 64) % 2 ^ 32 ≡ 64 * h
  times_small h low = let fits : h * 64 < 2 ^ 32 = omega arith in mod-eq_of_lt fits ∙ (let same : h * 64 ≡ 64 * h = omega arith in same)

  plus_small : (a b : ℕ) → a + b < 2 ^ 32 → (a + b) % 2 ^ 32 ≡ a + b
  plus_small a b fits = mod-eq_of_lt fits

  handle_follows : (xs : List ℕ) (held : Held) (g : ℕ) (e : Emitted) (t : FlatState) (s : State) → In m held g 1 → Beside m e t s → Reaches (next_handle g e).1 m.last → Holds xs e t held → s.created < 2 ^ 24 →
      WentOn (Val xs) m xs e t (next_handle g e).1 (next_handle g e).0 (handle_of s.created) s
  handle_follows xs held g e t s live b reach holds few =
      let gs : List ℕ = g ∷ [] in
      let c : ℕ = (number 64 e).0 in
      let e1 : Emitted = (number 64 e).1 in
      let s1 : Since gs e e1 = (adds_number gs 64).add e b.neat in
      let e2 : Emitted = (set g op.Times (own_handle ∷ c ∷ []) e1).1 in
      let s2 : Since gs e1 e2 = (adds_set gs g op.Times (own_handle ∷ c ∷ []) (inl refl)).add e1 s1.neat in
      let e3 : Emitted = (set g op.Plus (e1.next ∷ creates ∷ []) e2).1 in
      let s3 : Since gs e2 e3 = (adds_set gs g op.Plus (e1.next ∷ creates ∷ []) (inl refl)).add e2 s2.neat in
      let e4 : Emitted = (set g op.Plus (e2.next ∷ one ∷ []) e3).1 in
      let s4 : Since gs e3 e4 = (adds_set gs g op.Plus (e2.next ∷ one ∷ []) (inl refl)).add e3 s3.neat in
      let r3 : Reaches e3 m.last = reaches_before gs e3 e4 m.last s4.grown reach in
      let r2 : Reaches e2 m.last = reaches_before gs e2 e3 m.last s3.grown r3 in
      let r1 : Reaches e1 m.last = reaches_before gs e1 e2 m.last s2.grown r2 in
      let w1 : WentOn (Val xs) m xs e t e1 c 64 s = (sim_number m xs held 64).live e t s b r1 holds in
      let h1 : Holds xs e1 w1.state held = holds_behind gs xs e e1 t w1.state held s1 w1.kept holds in
      let w2 : WentOn (Val xs) m xs e1 w1.state e2 e1.next (value_of op.Times (map w1.state.values (own_handle ∷ c ∷ []))) s =
      set_at m xs held e1 w1.state s g op.Times (own_handle ∷ c ∷ []) w1.beside r2 h1 (has_value m xs e1 w1.state s held g 1 w1.beside h1 (inl live)) in
      let base : w2.state.values e1.next ≡ 64 * m.handle =
      w2.answer.2 ∙ (ap (λ k. (k * w1.state.values c) % 2 ^ 32) w1.beside.constants.own ∙ (ap (λ k. (m.handle * k) % 2 ^ 32) w1.answer.2 ∙ times_small m.handle m.small)) in
      let h2 : Holds xs e2 w2.state held = holds_behind gs xs e1 e2 w1.state w2.state held s2 w2.kept h1 in
      let w3 : WentOn (Val xs) m xs e2 w2.state e3 e2.next (value_of op.Plus (map w2.state.values (e1.next ∷ creates ∷ []))) s =
      set_at m xs held e2 w2.state s g op.Plus (e1.next ∷ creates ∷ []) w2.beside r3 h2 (has_value m xs e2 w2.state s held g 1 w2.beside h2 (inl live)) in
      let sum : w3.state.values e2.next ≡ 64 * m.handle + s.created =
      w3.answer.2 ∙ (ap (λ k. (k + w2.state.values 4) % 2 ^ 32) base ∙ (ap (λ k. (64 * m.handle + k) % 2 ^ 32) w2.beside.creates ∙ plus_small (64 * m.handle) s.created (omega (arith, m.small, few)))) in
      let h3 : Holds xs e3 w3.state held = holds_behind gs xs e2 e3 w2.state w3.state held s3 w3.kept h2 in
      let w4 : WentOn (Val xs) m xs e3 w3.state e4 e3.next (value_of op.Plus (map w3.state.values (e2.next ∷ one ∷ []))) s =
      set_at m xs held e3 w3.state s g op.Plus (e2.next ∷ one ∷ []) w3.beside reach h3 (has_value m xs e3 w3.state s held g 1 w3.beside h3 (inl live)) in
      let all : w4.state.values e3.next ≡ handle_of s.created =
      w4.answer.2 ∙ (ap (λ k. (k + w3.state.values 2) % 2 ^ 32) sum ∙ (ap (λ k. (64 * m.handle + s.created + k) % 2 ^ 32) w3.beside.constants.one ∙ plus_small (64 * m.handle + s.created) 1 (omega (arith, m.small, few)))) in
      record {
        state = w4.state;
        beside = w4.beside;
        kept = kept_then gs xs e e1 t w1.state w4.state s1 w1.kept (kept_then gs xs e1 e2 w1.state w2.state w4.state s2 w2.kept (kept_then gs xs e2 e3 w2.state w3.state w4.state s3 w3.kept w4.kept));
        answer = (w4.answer.0, w4.answer.1, all);
      }

  -- the number of creates is one more
  counted_follows : (g : ℕ) (e : Emitted) (t : FlatState) (s : State) (xs : List ℕ) → Beside m e t s → t.values g ≡ 1 → s.created + 1 ≤ length e.created → s.created < 2 ^ 24 →
      WentOn {A = Unit {0}} {B = Unit {0}} Done m xs e t (emit g (act.Set creates op.Plus (creates ∷ one ∷ [])) e).1 tt tt (record s { created = s.created + 1 })
  counted_follows g e t s xs b live room few =
      let f : Emitted = (emit g (act.Set creates op.Plus (creates ∷ one ∷ [])) e).1 in
      let since : Since (g ∷ []) e f = (adds_emit (g ∷ []) g (act.Set creates op.Plus (creates ∷ one ∷ [])) (inl refl)).add e b.neat in
      let value : value_of op.Plus (map t.values (creates ∷ one ∷ [])) ≡ s.created + 1 =
      ap (λ k. (k + t.values 2) % 2 ^ 32) b.creates ∙ (ap (λ k. (s.created + k) % 2 ^ 32) b.constants.one ∙ plus_small s.created 1 (omega (arith, few))) in
      let run : ran m f ≡ Goes (set_local 4 (s.created + 1) t) = ran_made m e t g (act.Set creates op.Plus (creates ∷ one ∷ [])) b.ran live ∙ ap (λ k. Goes (set_local 4 k t)) value in
      let plain : Plain m.last.numbers 4 = each_map (λ (n : Number). 5 ≤ n.local) (λ (n : Number). n.local ≡ 4 → ⊥) (λ n high same. absurd (omega arith)) m.last.numbers m.high in
      record {
        state = set_local 4 (s.created + 1) t;
        beside = beside_next m (g ∷ []) e f t (set_local 4 (s.created + 1) t) s (record s { created = s.created + 1 }) since b (record {
          ran = run;
          constants = constants_kept m t.values 4 (s.created + 1) (omega arith) plain b.constants;
          idle = λ l le free. local_other t.values 4 (s.created + 1) l (λ same. absurd (omega (arith, b.base))) ∙ b.idle l le free;
          matches = matches_kept t.values (with_local t.values 4 (s.created + 1)) e.scope s.locals (λ l a. local_other t.values 4 (s.created + 1) l (λ same. let within : (5 ≤ l) × (l < e.next) = among_within 5 e.scope e.next l b.stacked a in absurd (omega (arith, within.0)))) b.matches;
          creates = local_same t.values 4 (s.created + 1);
          few = room;
          depth = refl;
          opened = λ deep. local_other t.values 4 (s.created + 1) e.opened (b.opened deep).0.other;
          script = b.script;
          used = b.used;
          actions = b.actions;
        });
        kept = λ l used apart other free. local_other t.values 4 (s.created + 1) l other;
        answer = tt;
      }

  -- the handle is stored, and the create made
  made_sim :
      (xs : List ℕ) (held : Held) (g i a h v w f : ℕ) (cs : List Cell) (x : Slot) → function_at m.instances i ≡ f → In m held g 1 → In m held a h → In m held v w → Finds m held cs x →
      Sim m (Val xs) xs held (write cs a >> (emit g (act.Create i a v) >> pure none)) (machine.◌>>◌ (cells.write x h) (machine.◌>>◌ (machine.make (action.Create h f w)) (machine.pure 0)))
  made_sim xs held g i a h v w f cs x named live ha hv there =
      sim_then m {B = Unit {0}} Done (Val xs) xs held (write cs a) (cells.write x h) (λ _. emit g (act.Create i a v) >> pure none) (λ _. machine.◌>>◌ (machine.make (action.Create h f w)) (machine.pure 0)) (sim_write m xs held cs x a h there (inl ha))
      (next_done m xs held _ _ (Val xs)
      (sim_then m {B = Unit {0}} Done (Val xs) xs held (emit g (act.Create i a v)) (machine.make (action.Create h f w)) (λ _. pure none) (λ _. machine.pure 0)
      (sim_make m xs held g (act.Create i a v) (action.Create h f w) (inl live) (λ e t s b holds.
      ap (λ k. Goes (runs.make (action.Create k (function_at m.instances i) (t.values v)) t)) (has_value m xs e t s held a h b holds (inl ha))
      ∙ (ap (λ k. Goes (runs.make (action.Create h k (t.values v)) t)) named ∙ ap (λ k. Goes (runs.make (action.Create h f k) t)) (has_value m xs e t s held v w b holds (inl hv)))))
      (next_done m xs held (pure none) (machine.pure 0) (Val xs) (sim_none m xs held))))

  adds_creating : (g : ℕ) (cs : List Cell) (f v : ℕ) → Adds (guards_of cs ++ g ∷ []) (create g cs f v)
  adds_creating g cs f v = adds_create (guards_of cs ++ g ∷ []) g cs f v (one_behind (guards_of cs) (g ∷ []) g (inl refl)) (cells_under cs (g ∷ []))

  with_value : (xs : List ℕ) (e : Emitted) (t : FlatState) (held : Held) (a v : ℕ) → Holds xs e t held → ValueAt xs e t a v → Holds xs e t (Value a v ∷ held)
  with_value xs e t held a v holds at = record { low = holds.low; high = holds.high; plain = holds.plain; apart = holds.apart; opened = holds.opened; all = (at, holds.all) }

  created :
      (xs : List ℕ) (held : Held) (set : Setting) (g f v w : ℕ) (cs : List Cell) (x : Slot) → set.handle ≡ m.handle → In m held g 1 → In m held v w → Finds m held cs x → (e : Emitted) (t : FlatState) (s : State) → Beside m e t s → Reaches (create g cs f v e).1 m.last → Holds xs e t held →
      Follows (Val xs) m xs e t (create g cs f v e) (calls.create set x f w s)
  created xs held set g f v w cs x own live hv there e t s b reach holds =
      let gs : List ℕ = g ∷ [] in
      let f1 : Emitted = (next_handle g e).1 in
      let a : ℕ = (next_handle g e).0 in
      let s1 : Since gs e f1 = (adds_next_handle gs g (inl refl)).add e b.neat in
      let i : ℕ = (name_instance f f1).0 in
      let f2 : Emitted = (name_instance f f1).1 in
      let s2 : Since gs f1 f2 = (adds_name gs f).add f1 s1.neat in
      let f3 : Emitted = (emit g (act.Set creates op.Plus (creates ∷ one ∷ [])) f2).1 in
      let s3 : Since gs f2 f3 = (adds_emit gs g (act.Set creates op.Plus (creates ∷ one ∷ [])) (inl refl)).add f2 s2.neat in
      let hs : List ℕ = guards_of cs ++ gs in
      let rest : Adds hs (write cs a >> (emit g (act.Create i a v) >> pure none)) =
      adds_then hs (write cs a) _ (adds_write hs cs a (cells_under cs gs)) (λ _. adds_then hs (emit g (act.Create i a v)) _ (adds_emit hs g (act.Create i a v) (one_behind (guards_of cs) gs g (inl refl))) (λ _. adds_pure hs none)) in
      let s4 : Since hs f3 (create g cs f v e).1 = rest.add f3 s3.neat in
      let r3 : Reaches f3 m.last = reaches_before hs f3 (create g cs f v e).1 m.last s4.grown reach in
      let r2 : Reaches f2 m.last = reaches_before gs f2 f3 m.last s3.grown r3 in
      let r1 : Reaches f1 m.last = reaches_before gs f1 f2 m.last s2.grown r2 in
      let room : length f1.created + 1 ≤ length m.last.created =
      omega (arith, ap length r2.created_behind, length-append (f1.created ++ f ∷ []) r2.created, length-append f1.created (f ∷ [])) in
      let few : s.created < 2 ^ 24 = omega (arith, few_kept m gs e f1 t s s1 b, room, m.few) in
      let w1 : WentOn (Val xs) m xs e t f1 a (handle_of s.created) s = handle_follows xs held g e t s live b r1 holds few in
      let h1 : Holds xs f1 w1.state (Value a (handle_of s.created) ∷ held) = with_value xs f1 w1.state held a (handle_of s.created) (holds_behind gs xs e f1 t w1.state held s1 w1.kept holds) w1.answer in
      let all : Held = Value a (handle_of s.created) ∷ held in
      let b2 : Beside m f2 w1.state s = beside_dead m [] f1 f2 w1.state s ((adds_name [] f).add f1 s1.neat) r2 w1.beside (λ k off. absurd off) in
      let h2 : Holds xs f2 w1.state all = holds_behind gs xs f1 f2 w1.state w1.state all s2 (kept_none xs f1 w1.state) h1 in
      let named : function_at m.instances i ≡ f =
      ap (λ k. function_at m.instances k) w1.beside.numbered ∙ m.named (length f1.created) f
      (ap (λ ns. slice_get ns (length f1.created)) r2.created_behind ∙ get_append_left (f1.created ++ f ∷ []) r2.created (length f1.created) f (get_push_last f1.created f)) in
      let w3 : WentOn {A = Unit {0}} {B = Unit {0}} Done m xs f2 w1.state f3 tt tt (record s { created = s.created + 1 }) =
      counted_follows g f2 w1.state s xs b2 (has_value m xs f2 w1.state s all g 1 b2 h2 (inl (inr live))) (omega (arith, w1.beside.few, length-append f1.created (f ∷ []))) few in
      let h3 : Holds xs f3 w3.state all = holds_behind gs xs f2 f3 w1.state w3.state all s3 w3.kept h2 in
      let since : Since gs e f3 = since_more gs e f2 f3 (since_more gs e f1 f2 s1 s2) s3 in
      let kept : Kept xs e t w3.state = kept_then gs xs e f1 t w1.state w3.state s1 w1.kept (kept_then gs xs f1 f2 w1.state w1.state w3.state s2 (kept_none xs f1 w1.state) w3.kept) in
      subst (λ h. Follows (Val xs) m xs e t (create g cs f v e) ((machine.◌>>◌ (cells.write x (64 * h + s.created + 1)) (machine.◌>>◌ (machine.make (action.Create (64 * h + s.created + 1) f w)) (machine.pure 0))) (record s { created = s.created + 1 }))) (sym own)
      (follows_after m (Val xs) gs xs e f3 t w3.state (create g cs f v e) _ since kept
      ((made_sim xs all g i a (handle_of s.created) v w f cs x named (inr live) (inl (refl, refl)) (inr hv) there).live f3 w3.state (record s { created = s.created + 1 }) w3.beside reach h3))

  pub sim_create :
      (xs : List ℕ) (held : Held) (set : Setting) (g f v w : ℕ) (cs : List Cell) (x : Slot) → set.handle ≡ m.handle → In m held g 1 → In m held v w → Finds m held cs x → Sim m (Val xs) xs held (create g cs f v) (calls.create set x f w)
  sim_create xs held set g f v w cs x own live hv there = record {
    long = λ e neat. (guards_of cs ++ g ∷ [], (adds_creating g cs f v).add e neat);
    live = λ e t s b reach holds. created xs held set g f v w cs x own live hv there e t s b reach holds;
  }
