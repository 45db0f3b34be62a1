-- Operators, assignments and choices: what is emitted does what the thread does.
use Rattle.std.proofs.Common.{◌≡◌, ℕ, ◌+◌, ◌<◌, ◌≤◌, inl, inr, List, [], ◌∷◌, Bool, true, false, map, refl, sym, ap, ◌∙◌, subst, arith}
use Rattle.std.specs.Prelude.{cond, nat_eq, ◌&&◌}
use Rattle.dg_base.specs.declared.Place.{Place}
use Rattle.dg_base.specs.declared.operators.Op.{Op}
use Rattle.dg_base.specs.Values.{value_of, truth_of}
use Rattle.c_tree.specs.declared.expr.BinaryOp.{BinaryOp}
use Rattle.c_tree.specs.Operators.{binary_op, divides}
use Rattle.run_model.specs.Steps.{State, Outcome, Step}
use Rattle.run_model.specs.Steps as machine
use Rattle.run_model.specs.Calls.{Meaning}
use Rattle.run_model.specs.Meaning as meanings
use Rattle.flat_prog.specs.declared.FlatAct.TheVariants as act
use Rattle.flat_prog.specs.Runs.{FlatState, Goes, set_local}
use Rattle.emit_steps.specs.Emitting.{Emitted, Emit, ◌>>=◌, ◌>>◌, pure, nothing, fresh, emit, set, unless, fail}
use Rattle.emit_steps.specs.Pieces.{Piece, operate, typed}
use Rattle.emit_steps.proofs.Growth.{each_map, Plain as PlainIn, New, new_behind, One, Neat}
use Rattle.emit_steps.proofs.Adding.{Since, Adds, since_then, adds_then, adds_fresh, fresh_new, adds_emit, adds_set, adds_fail, adds_pure}
use Rattle.emit_steps.proofs.AddingForms.{AddsPiece, adds_typed}
use Rattle.emit_steps.proofs.Running.{Among, Reaches, reaches_before, plain_in_end, Machine, ran, Beside, WentOn, Follows, beside_dead, local_same, local_other}
use Rattle.emit_steps.proofs.Simulating.{Item, Value, Points, Declared, Held, HeldAt, Holds, Val, Meant, Done, kept_none, Sim, Next, ran_made, Writable, beside_written, new_safe, In, Has, HasAll, has_value, has_values, sim_set, sim_quiet, sim_silent, sim_halted}
use Rattle.emit_steps.proofs.Acting.{sim_skip, value_fresh, denotes_fresh, stored_value, beside_fresh, fresh_writable}
use Rattle.emit_steps.proofs.Finding.{sim_unless, sim_fail, fails_always, only_off, has_value_more}

module _ (m : Machine) where
  -- ---- a new local, which may be written more than once

  -- the value is in this local
  abbrev pub Into : ℕ → Emitted → FlatState → Unit {0} → ℕ → Type 0
  Into v f t a w = t.values v ≡ w

  -- a local that may be written becomes the operator's value
  pub sim_into : (xs : List ℕ) (held : Held) (g v : ℕ) (o : Op) (args vs : List ℕ) → One xs v → Has m held g 1 → HasAll m held args vs → Sim m (Into v) xs held (emit g (act.Set v o args)) (machine.pure (value_of o vs))
  sim_into xs held g v o args vs there live has = record {
    long = λ e neat. (g ∷ [], (adds_emit (g ∷ []) g (act.Set v o args) (inl refl)).add e neat);
    live = λ e t s b reach holds.
        let f : Emitted = (emit g (act.Set v o args) e).1 in
        let since : Since (g ∷ []) e f = (adds_emit (g ∷ []) g (act.Set v o args) (inl refl)).add e b.neat in
        let w : ℕ = value_of o (map t.values args) in
        let is : w ≡ value_of o vs = ap (λ ys. value_of o ys) (has_values m xs e t s held args vs b holds has) in
        let may : Writable m e f v = record {
          high = holds.high v there;
          used = holds.low v there;
          plain = plain_in_end f m.last v reach (holds.low v there) (holds.plain v there);
          apart = holds.apart v there;
          opened = λ deep same. holds.opened deep (subst (One xs) (sym same) there);
        } in
        let run : ran m f ≡ Goes (set_local v w t) = ran_made m e t g (act.Set v o args) b.ran (has_value m xs e t s held g 1 b holds live) in
        record {
          state = set_local v w t;
          beside = beside_written m (g ∷ []) e f t s v w since b may run;
          kept = λ l used apart other free. local_other t.values v w l (λ same. free (subst (One xs) (sym same) there));
          answer = local_same t.values v w ∙ is;
        };
  }

  -- the same, whatever the value
  pub sim_over : (xs : List ℕ) (held : Held) (g v : ℕ) (o : Op) (args vs : List ℕ) → One xs v → Has m held g 1 → HasAll m held args vs → Sim m {B = Unit {0}} Done xs held (emit g (act.Set v o args)) (machine.pure tt)
  sim_over xs held g v o args vs there live has =
      let first : Sim m (Into v) xs held (emit g (act.Set v o args)) (machine.pure (value_of o vs)) = sim_into xs held g v o args vs there live has in
      record {
        long = first.long;
        live = λ e t s b reach holds. let w : WentOn (Into v) m xs e t (emit g (act.Set v o args) e).1 tt (value_of o vs) s = first.live e t s b reach holds in record { state = w.state; beside = w.beside; kept = w.kept; answer = tt };
      }

  item_fresh : (xs : List ℕ) (e : Emitted) (t : FlatState) (p : Item) → HeldAt xs e t p → HeldAt (e.next ∷ xs) (fresh e).1 t p
  item_fresh xs e t (Value a v) at = value_fresh m xs e t a v at
  item_fresh xs e t (Points cs x) at = denotes_fresh m xs e t cs x at
  item_fresh xs e t (Declared i v) at = at

  fresh_one : (P : ℕ → Type 0) (n : ℕ) (xs : List ℕ) (x : ℕ) → P n → (One xs x → P x) → One (n ∷ xs) x → P x
  fresh_one P n xs x h more (inl same) = subst P (sym same) h
  fresh_one P n xs x h more (inr some) = more some

  pub holds_fresh : (xs : List ℕ) (e : Emitted) (t : FlatState) (s : State) (held : Held) → Beside m e t s → Reaches (fresh e).1 m.last → Holds xs e t held → Holds (e.next ∷ xs) (fresh e).1 t held
  holds_fresh xs e t s held b reach holds =
      let w : Writable m (fresh e).1 (fresh e).1 e.next = fresh_writable m e (fresh e).1 t s b reach (omega arith) refl in
      record {
        low = λ x one. fresh_one (λ k. k < e.next + 1) e.next xs x (omega arith) (λ some. let low : x < e.next = holds.low x some in omega arith) one;
        high = λ x one. fresh_one (λ k. 5 ≤ k) e.next xs x b.base (holds.high x) one;
        plain = λ x one. fresh_one (λ k. PlainIn e.numbers k) e.next xs x (fresh_new e b.neat).2 (holds.plain x) one;
        apart = λ x one. fresh_one (λ k. Among e.scope k → ⊥) e.next xs x w.apart (holds.apart x) one;
        opened = λ deep one. fresh_one (λ k. k ≡ e.opened → ⊥) e.next xs e.opened (λ same. w.opened deep (sym same)) (λ some same. holds.opened deep some) one refl;
        all = each_map (HeldAt xs e t) (HeldAt (e.next ∷ xs) (fresh e).1 t) (λ p at. item_fresh xs e t p at) held holds.all;
      }

  -- a value that is put into a new local by what follows
  pub sim_in_new :
      (xs : List ℕ) (held : Held) (gs : List ℕ) (body : ℕ → Emit (Unit {0})) (st : Step ℕ) → ((v : ℕ) → Adds gs (body v)) → ((v : ℕ) → Sim m (Into v) (v ∷ xs) held (body v) st) → Sim m (Val xs) xs held (fresh >>= (λ v. body v >> pure v)) st
  sim_in_new xs held gs body st adds sim = record {
    long = λ e neat. (gs, (adds_then gs fresh _ (adds_fresh gs 1) (λ v. adds_then gs (body v) (λ _. pure v) (adds v) (λ _. adds_pure gs v))).add e neat);
    live = λ e t s b reach holds.
        let f : Emitted = (fresh e).1 in
        let h : Since [] e f = (adds_fresh [] 1).add e b.neat in
        let rest : Since gs f (body e.next f).1 = (adds e.next).add f h.neat in
        let since : Since gs e (body e.next f).1 = since_then gs gs e f (body e.next f).1 ((adds_fresh gs 1).add e b.neat) (λ k one. inl one) rest in
        let before : Reaches f m.last = reaches_before gs f (body e.next f).1 m.last rest.grown reach in
        stored_value m xs e (body e.next f).1 t s held (st s) h b holds gs since (new_behind gs e f (body e.next f).1 e.next rest.grown (fresh_new e b.neat))
        ((sim e.next).live f t s (beside_fresh m e t s before b) reach (holds_fresh xs e t s held b before holds));
  }

  -- a value that stays where nothing more is done
  pub next_keep : (v : ℕ) (xs : List ℕ) (held : Held) (gs : List ℕ) (em : Emit (Unit {0})) → Adds gs em → ((k : ℕ) → One gs k → Has m held k 0) → Next m (Into v) xs held (λ (_ : Unit {0}). em) (λ w. machine.pure w) (Into v)
  next_keep v xs held gs em adds dead = record {
    long = λ a e neat. (gs, adds.add e neat);
    live = λ a w e t s b reach holds at. record {
      state = t;
      beside = beside_dead m gs e (em e).1 t s (adds.add e b.neat) reach b (λ k one. has_value m xs e t s held k 0 b holds (dead k one));
      kept = kept_none xs e t;
      answer = at;
    };
  }

  -- a new local that is not written holds 0
  pub sim_untouched : (xs : List ℕ) (held : Held) (gs : List ℕ) (em : Emit ℕ) → Adds gs em → ((e : Emitted) → Neat e → New e (em e).1 (em e).0) → ((k : ℕ) → One gs k → Has m held k 0) → Sim m (Val xs) xs held em (machine.pure 0)
  sim_untouched xs held gs em adds new dead = record {
    long = λ e neat. (gs, adds.add e neat);
    live = λ e t s b reach holds.
        let since : Since gs e (em e).1 = adds.add e b.neat in
        let it : New e (em e).1 (em e).0 = new e b.neat in
        record {
          state = t;
          beside = beside_dead m gs e (em e).1 t s since reach b (λ k one. has_value m xs e t s held k 0 b holds (dead k one));
          kept = kept_none xs e t;
          answer = (new_safe m gs e (em e).1 t s (em e).0 since b it, λ some. let low : (em e).0 < e.next = holds.low (em e).0 some in absurd (omega (arith, it.0)), b.idle (em e).0 it.0 (plain_in_end (em e).1 m.last (em e).0 reach it.1 it.2));
        };
  }

  -- ---- operators

  by_zero :
      (xs : List ℕ) (held : Held) (p : Place) (b : Bool) (z g x y a c : ℕ) (o : Op) → Has m held g 1 → Has m held x a → Has m held y c →
      Sim m (Val xs) xs (Value z (truth_of b) ∷ held) (fail z p >> set g o (x ∷ y ∷ [])) (cond b (machine.fail p) (machine.pure (value_of o (a ∷ c ∷ []))))
  by_zero xs held p true z g x y a c o live hx hy =
      sim_halted m (Val xs) xs (Value z 1 ∷ held) (fail z p) (λ _. set g o (x ∷ y ∷ [])) (machine.fail p) (fails_always m p) (sim_fail m Done xs (Value z 1 ∷ held) z p (inl (inl (refl, refl))))
      (λ _ e neat. (g ∷ [], (adds_set (g ∷ []) g o (x ∷ y ∷ []) (inl refl)).add e neat))
  by_zero xs held p false z g x y a c o live hx hy =
      let all : Held = Value z 0 ∷ held in
      sim_silent m (Val xs) xs all (fail z p) (λ _. set g o (x ∷ y ∷ [])) (machine.pure (value_of o (a ∷ c ∷ [])))
      (sim_skip m xs all (z ∷ []) (fail z p) (adds_fail (z ∷ []) z p (inl refl)) (λ l one. only_off m all l z (inl (refl, refl)) one))
      (λ _. sim_set m xs all g o (x ∷ y ∷ []) (a ∷ c ∷ []) (has_value_more m z 0 held g 1 live) (has_value_more m z 0 held x a hx, (has_value_more m z 0 held y c hy, tt)))

  divided :
      (xs : List ℕ) (held : Held) (p : Place) (d : Bool) (g x y a c : ℕ) (o : Op) → Has m held g 1 → Has m held x a → Has m held y c →
      Sim m (Val xs) xs held (cond d (unless g y >>= (λ z. fail z p)) nothing >> set g o (x ∷ y ∷ [])) (cond (d && nat_eq c 0) (machine.fail p) (machine.pure (value_of o (a ∷ c ∷ []))))
  divided xs held p false g x y a c o live hx hy = sim_set m xs held g o (x ∷ y ∷ []) (a ∷ c ∷ []) live (hx, (hy, tt))
  divided xs held p true g x y a c o live hx hy =
      sim_quiet m (Val xs) xs held (unless g y) (truth_of (nat_eq c 0)) _ _ (sim_unless m xs held g y c live hy) (λ z.
      by_zero xs held p (nat_eq c 0) z g x y a c o live hx hy)

  pub sim_operate :
      (xs : List ℕ) (held : Held) (p : Place) (o : BinaryOp) (u w : Bool) (g x y a c : ℕ) → Has m held g 1 → Has m held x a → Has m held y c → Sim m (Val xs) xs held (operate p o u w g x y) (meanings.operate p o u w a c)
  sim_operate xs held p o u w g x y a c live hx hy = divided xs held p (divides o) g x y a c (binary_op o u w) live hx hy

  -- ---- pieces and what they mean

  pub record SimPiece (p : Piece) (q : Meaning) : Type 0 where
    pub adds : AddsPiece p
    pub run : (xs : List ℕ) (held : Held) (g : ℕ) → In m held g 1 → Sim m (Val xs) xs held (p.run g) q.run
    pub find : (xs : List ℕ) (held : Held) (g : ℕ) → In m held g 1 → Sim m (Meant xs) xs held (p.find g) q.find
    pub unsigned : (e : Emitted) (t : FlatState) (s : State) → Beside m e t s → p.unsigned e.scope ≡ q.unsigned s
    pub spelled : p.spelled ≡ q.spelled

  -- the operator of the types that the operands have
  pub sim_typed :
      (xs : List ℕ) (held : Held) (p : Place) (o : BinaryOp) (l r : Piece) (l' r' : Meaning) (g x y a c : ℕ) → SimPiece l l' → SimPiece r r' → Has m held g 1 → Has m held x a → Has m held y c →
      Sim m (Val xs) xs held (typed p o l r g x y) (λ s. meanings.operate p o (l'.unsigned s) (r'.unsigned s) a c s)
  sim_typed xs held p o l r l' r' g x y a c hl hr live hx hy = record {
    long = λ e neat. (g ∷ [], (adds_typed (g ∷ []) p o l r g x y (inl refl)).add e neat);
    live = λ e t s b reach holds.
        subst (λ u. Follows (Val xs) m xs e t (typed p o l r g x y e) (meanings.operate p o u (r'.unsigned s) a c s)) (hl.unsigned e t s b)
        (subst (λ w. Follows (Val xs) m xs e t (typed p o l r g x y e) (meanings.operate p o (l.unsigned e.scope) w a c s)) (hr.unsigned e t s b)
        ((sim_operate xs held p o (l.unsigned e.scope) (r.unsigned e.scope) g x y a c live hx hy).live e t s b reach holds));
  }

  in_more : (a v : ℕ) (held : Held) (l n : ℕ) → In m held l n → In m (Value a v ∷ held) l n
  in_more a v held l n there = inr there
