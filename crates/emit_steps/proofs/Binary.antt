-- Operators between operands, assignments and choices do what the thread does.
use Rattle.std.proofs.Common.{◌≡◌, ℕ, inl, inr, List, [], ◌∷◌, Bool, true, false, refl, sym, ap, subst, arith}
use Rattle.std.specs.Prelude.{cond, nat_eq, not, ◌&&◌, ◌||◌}
use Rattle.dg_base.specs.declared.Place.{Place}
use Rattle.dg_base.specs.declared.operators.Op.TheVariants as op
use Rattle.dg_base.specs.Values.{is_true, truth_of}
use Rattle.c_tree.specs.declared.expr.StepOp.{StepOp}
use Rattle.c_tree.specs.declared.expr.BinaryOp.{BinaryOp}
use Rattle.c_tree.specs.declared.expr.BinaryOp.TheVariants as binary
use Rattle.c_tree.specs.declared.expr.AssignOp.{AssignOp}
use Rattle.c_tree.specs.declared.expr.AssignOp.TheVariants.{Plain, With}
use Rattle.c_tree.specs.Operators.{step_op}
use Rattle.run_model.specs.declared.state.Slot.{Slot}
use Rattle.run_model.specs.declared.state.Slot.TheVariants as slot
use Rattle.run_model.specs.Steps.{State, Step}
use Rattle.run_model.specs.Steps as machine
use Rattle.run_model.specs.Cells as cells
use Rattle.run_model.specs.Calls.{Meaning}
use Rattle.run_model.specs.Meaning as meanings
use Rattle.flat_prog.specs.declared.FlatAct.TheVariants as act
use Rattle.flat_prog.specs.Runs.{FlatState}
use Rattle.emit_steps.specs.declared.state.Cell.{Cell}
use Rattle.emit_steps.specs.Emitting.{Emitted, ◌>>=◌, ◌>>◌, pure, none, one, fresh, emit, copy_to, when, unless}
use Rattle.emit_steps.specs.Pieces.{Piece, read, write, operate, typed, binary_run, assign, count, choose}
use Rattle.emit_steps.proofs.Growth.{New, One}
use Rattle.emit_steps.proofs.Adding.{Since, Adds, adds_one, adds_then, adds_emit, adds_set, adds_copy, adds_new, fresh_new}
use Rattle.emit_steps.proofs.AddingForms.{adds_operate}
use Rattle.emit_steps.proofs.Running.{Machine, Follows}
use Rattle.emit_steps.proofs.Simulating.{Value, Points, Held, Val, Meant, Done, Sim, sim_then, next_value, next_cells, next_done, sim_pure, In, Finds, Has, in_holds, sim_quiet, sim_silent, sim_unit}
use Rattle.emit_steps.proofs.Acting.{sim_skip, sim_read, sim_write}
use Rattle.emit_steps.proofs.Finding.{sim_when, sim_unless, only_off}
use Rattle.emit_steps.proofs.Evaluating.{Into, sim_into, sim_over, sim_in_new, next_keep, sim_untouched, sim_operate, sim_typed, SimPiece}

module _ (m : Machine) where
  -- ---- both operands

  both_run :
      (p : Place) (o : BinaryOp) (l r : Piece) (l' r' : Meaning) → SimPiece m l l' → SimPiece m r r' → (xs : List ℕ) (held : Held) (g : ℕ) → In m held g 1 →
      Sim m (Val xs) xs held (l.run g >>= (λ x. r.run g >>= typed p o l r g x)) (machine.◌>>=◌ l'.run (λ x. machine.◌>>=◌ r'.run (λ y s. meanings.operate p o (l'.unsigned s) (r'.unsigned s) x y s)))
  both_run p o l r l' r' hl hr xs held g live =
      sim_then m (Val xs) (Val xs) xs held (l.run g) l'.run _ _ (hl.run xs held g live) (next_value m xs held _ _ (Val xs) (λ x a.
      sim_then m (Val xs) (Val xs) xs (Value x a ∷ held) (r.run g) r'.run _ _ (hr.run xs (Value x a ∷ held) g (inr live)) (next_value m xs (Value x a ∷ held) _ _ (Val xs) (λ y c.
      sim_typed m xs (Value y c ∷ Value x a ∷ held) p o l r l' r' g x y a c hl hr (inl (inr (inr live))) (inl (inr (inl (refl, refl)))) (inl (inl (refl, refl)))))))

  -- ---- `&&`: the right operand stands under the guard of the left one

  and_new : (r : Piece) (c : ℕ) (e : Emitted) → Since (c ∷ []) e (r.run c e).1 → New e ((r.run c >>= when c) e).1 ((r.run c >>= when c) e).0
  and_new r c e since =
      let new : New (r.run c e).1 ((r.run c >>= when c) e).1 (r.run c e).1.next = fresh_new (r.run c e).1 since.neat in
      (omega (arith, since.grown.next, new.0), new.1, new.2)

  and_right :
      (p : Place) (r : Piece) (l' r' : Meaning) → SimPiece m r r' → (xs : List ℕ) (held : Held) (c v : ℕ) (b : Bool) → is_true v ≡ b → In m held c (truth_of b) →
      Sim m (Val xs) xs held (r.run c >>= when c) (cond (not b) (machine.pure (truth_of b)) (machine.◌>>=◌ r'.run (λ y s. meanings.operate p binary.LogicAnd (l'.unsigned s) (r'.unsigned s) v y s)))
  and_right p r l' r' hr xs held c v true is live =
      sim_then m (Val xs) (Val xs) xs held (r.run c) r'.run (when c) _ (hr.run xs held c live) (next_value m xs held (when c) _ (Val xs) (λ y w.
      subst (λ n. Sim m (Val xs) xs (Value y w ∷ held) (when c y) (machine.pure n)) (ap (λ b. truth_of (b && is_true w)) (sym is)) (sim_when m xs (Value y w ∷ held) c y w (inl (inr live)) (inl (inl (refl, refl))))))
  and_right p r l' r' hr xs held c v false is live =
      sim_untouched m xs held (c ∷ []) (r.run c >>= when c) (adds_then (c ∷ []) (r.run c) (when c) (hr.adds.run c) (λ y. adds_set (c ∷ []) c op.NotEqual (y ∷ none ∷ []) (inl refl)))
      (λ e neat. and_new r c e ((hr.adds.run c).add e neat)) (λ k one. only_off m held k c live one)

  and_run : (p : Place) (l r : Piece) (l' r' : Meaning) → SimPiece m l l' → SimPiece m r r' → (xs : List ℕ) (held : Held) (g : ℕ) → In m held g 1 → Sim m (Val xs) xs held (binary_run p binary.LogicAnd l r g) (meanings.binary p binary.LogicAnd l' r')
  and_run p l r l' r' hl hr xs held g live =
      sim_then m (Val xs) (Val xs) xs held (l.run g) l'.run _ _ (hl.run xs held g live) (next_value m xs held _ _ (Val xs) (λ x v.
      sim_quiet m (Val xs) xs (Value x v ∷ held) (when g x) (truth_of (is_true v)) _ _ (sim_when m xs (Value x v ∷ held) g x v (inl (inr live)) (inl (inl (refl, refl)))) (λ c.
      and_right p r l' r' hr xs (Value c (truth_of (is_true v)) ∷ Value x v ∷ held) c v (is_true v) refl (inl (refl, refl)))))

  -- ---- `||`

  -- what follows the left operand, where its value is true: its own value stands
  or_left :
      (r : Piece) (r' : Meaning) → SimPiece m r r' → (xs : List ℕ) (held : Held) (g x w : ℕ) (st : Step ℕ) → In m held g 1 → In m held x w → truth_of (is_true w) ≡ 1 → truth_of (nat_eq w 0) ≡ 0 →
      Sim m (Val xs) xs held (when g x >>= (λ v. unless g x >>= (λ c. r.run c >>= (λ y. emit c (act.Set v op.NotEqual (y ∷ none ∷ [])) >> pure v)))) (machine.pure 1)
  or_left r r' hr xs held g x w st live has taken left_out =
      sim_quiet m (Val xs) xs held (when g x) 1 _ (machine.pure 1) (subst (λ n. Sim m (Val xs) xs held (when g x) (machine.pure n)) taken (sim_when m xs held g x w (inl live) (inl has))) (λ v.
      sim_quiet m (Val xs) xs (Value v 1 ∷ held) (unless g x) 0 _ (machine.pure 1)
      (subst (λ n. Sim m (Val xs) xs (Value v 1 ∷ held) (unless g x) (machine.pure n)) left_out (sim_unless m xs (Value v 1 ∷ held) g x w (inl (inr live)) (inl (inr has)))) (λ c.
      let all : Held = Value c 0 ∷ Value v 1 ∷ held in
      sim_silent m (Val xs) xs all (r.run c >>= (λ y. emit c (act.Set v op.NotEqual (y ∷ none ∷ [])))) (λ _. pure v) (machine.pure 1)
      (sim_skip m xs all (c ∷ []) (r.run c >>= (λ y. emit c (act.Set v op.NotEqual (y ∷ none ∷ []))))
      (adds_then (c ∷ []) (r.run c) (λ y. emit c (act.Set v op.NotEqual (y ∷ none ∷ []))) (hr.adds.run c) (λ y. adds_emit (c ∷ []) c (act.Set v op.NotEqual (y ∷ none ∷ [])) (inl refl)))
      (λ k one. only_off m all k c (inl (refl, refl)) one))
      (λ _. sim_pure m (Val xs) xs all v 1 (λ e t s b holds. holds.all.1.0))))

  -- where it is false: the right operand's value
  or_right :
      (r : Piece) (r' : Meaning) → SimPiece m r r' → (xs : List ℕ) (held : Held) (g x w : ℕ) → In m held g 1 → In m held x w → truth_of (nat_eq w 0) ≡ 1 →
      Sim m (Val xs) xs held (when g x >>= (λ v. unless g x >>= (λ c. r.run c >>= (λ y. emit c (act.Set v op.NotEqual (y ∷ none ∷ [])) >> pure v)))) (machine.◌>>=◌ r'.run (λ y. machine.pure (truth_of (is_true y))))
  or_right r r' hr xs held g x w live has taken =
      sim_in_new m xs held (g ∷ []) (λ v. emit g (act.Set v op.NotEqual (x ∷ none ∷ [])) >> (unless g x >>= (λ c. r.run c >>= (λ y. emit c (act.Set v op.NotEqual (y ∷ none ∷ [])))))) _
      (λ v. adds_then (g ∷ []) (emit g (act.Set v op.NotEqual (x ∷ none ∷ []))) _ (adds_emit (g ∷ []) g (act.Set v op.NotEqual (x ∷ none ∷ [])) (inl refl)) (λ _.
      adds_new (g ∷ []) g op.Equal (x ∷ none ∷ []) _ (inl refl) (λ c.
      adds_then (c ∷ g ∷ []) (r.run c) _ (adds_one (c ∷ g ∷ []) c (r.run c) (inl refl) (hr.adds.run c)) (λ y. adds_emit (c ∷ g ∷ []) c (act.Set v op.NotEqual (y ∷ none ∷ [])) (inl refl)))))
      (λ v.
      sim_silent m (Into m v) (v ∷ xs) held (emit g (act.Set v op.NotEqual (x ∷ none ∷ []))) _ _
      (sim_over m (v ∷ xs) held g v op.NotEqual (x ∷ none ∷ []) (w ∷ 0 ∷ []) (inl refl) (inl live) (inl has, (inr (inr (inl (refl, refl))), tt))) (λ _.
      sim_quiet m (Into m v) (v ∷ xs) held (unless g x) 1 _ _ (subst (λ n. Sim m (Val (v ∷ xs)) (v ∷ xs) held (unless g x) (machine.pure n)) taken (sim_unless m (v ∷ xs) held g x w (inl live) (inl has))) (λ c.
      let all : Held = Value c 1 ∷ held in
      sim_then m (Val (v ∷ xs)) (Into m v) (v ∷ xs) all (r.run c) r'.run _ _ (hr.run (v ∷ xs) all c (inl (refl, refl))) (next_value m (v ∷ xs) all _ _ (Into m v) (λ y n.
      sim_into m (v ∷ xs) (Value y n ∷ all) c v op.NotEqual (y ∷ none ∷ []) (n ∷ 0 ∷ []) (inl refl) (inl (inr (inl (refl, refl)))) (inl (inl (refl, refl)), (inr (inr (inl (refl, refl))), tt)))))))

  or_case :
      (p : Place) (r : Piece) (l' r' : Meaning) → SimPiece m r r' → (xs : List ℕ) (held : Held) (g x w : ℕ) (b : Bool) → nat_eq w 0 ≡ b → In m held g 1 → In m held x w →
      Sim m (Val xs) xs held (when g x >>= (λ v. unless g x >>= (λ c. r.run c >>= (λ y. emit c (act.Set v op.NotEqual (y ∷ none ∷ [])) >> pure v))))
      (cond (not b) (machine.pure (truth_of (not b))) (machine.◌>>=◌ r'.run (λ y s. machine.pure (truth_of (not b || is_true y)) s)))
  or_case p r l' r' hr xs held g x w true is live has = or_right r r' hr xs held g x w live has (ap truth_of is)
  or_case p r l' r' hr xs held g x w false is live has = or_left r r' hr xs held g x w (machine.pure 1) live has (ap (λ b. truth_of (not b)) is) (ap truth_of is)

  or_run : (p : Place) (l r : Piece) (l' r' : Meaning) → SimPiece m l l' → SimPiece m r r' → (xs : List ℕ) (held : Held) (g : ℕ) → In m held g 1 → Sim m (Val xs) xs held (binary_run p binary.LogicOr l r g) (meanings.binary p binary.LogicOr l' r')
  or_run p l r l' r' hl hr xs held g live =
      sim_then m (Val xs) (Val xs) xs held (l.run g) l'.run _ _ (hl.run xs held g live) (next_value m xs held _ _ (Val xs) (λ x w.
      or_case p r l' r' hr xs (Value x w ∷ held) g x w (nat_eq w 0) refl (inr live) (inl (refl, refl))))

  -- ---- each operator

  pub sim_binary : (p : Place) (o : BinaryOp) (l r : Piece) (l' r' : Meaning) → SimPiece m l l' → SimPiece m r r' → (xs : List ℕ) (held : Held) (g : ℕ) → In m held g 1 → Sim m (Val xs) xs held (binary_run p o l r g) (meanings.binary p o l' r')
  sim_binary p binary.LogicAnd l r l' r' hl hr xs held g live = and_run p l r l' r' hl hr xs held g live
  sim_binary p binary.LogicOr l r l' r' hl hr xs held g live = or_run p l r l' r' hl hr xs held g live
  sim_binary p binary.BitOr l r l' r' hl hr xs held g live = both_run p binary.BitOr l r l' r' hl hr xs held g live
  sim_binary p binary.BitXor l r l' r' hl hr xs held g live = both_run p binary.BitXor l r l' r' hl hr xs held g live
  sim_binary p binary.BitAnd l r l' r' hl hr xs held g live = both_run p binary.BitAnd l r l' r' hl hr xs held g live
  sim_binary p binary.Equal l r l' r' hl hr xs held g live = both_run p binary.Equal l r l' r' hl hr xs held g live
  sim_binary p binary.NotEqual l r l' r' hl hr xs held g live = both_run p binary.NotEqual l r l' r' hl hr xs held g live
  sim_binary p binary.Less l r l' r' hl hr xs held g live = both_run p binary.Less l r l' r' hl hr xs held g live
  sim_binary p binary.Greater l r l' r' hl hr xs held g live = both_run p binary.Greater l r l' r' hl hr xs held g live
  sim_binary p binary.AtMost l r l' r' hl hr xs held g live = both_run p binary.AtMost l r l' r' hl hr xs held g live
  sim_binary p binary.AtLeast l r l' r' hl hr xs held g live = both_run p binary.AtLeast l r l' r' hl hr xs held g live
  sim_binary p binary.ShiftLeft l r l' r' hl hr xs held g live = both_run p binary.ShiftLeft l r l' r' hl hr xs held g live
  sim_binary p binary.ShiftRight l r l' r' hl hr xs held g live = both_run p binary.ShiftRight l r l' r' hl hr xs held g live
  sim_binary p binary.Plus l r l' r' hl hr xs held g live = both_run p binary.Plus l r l' r' hl hr xs held g live
  sim_binary p binary.Minus l r l' r' hl hr xs held g live = both_run p binary.Minus l r l' r' hl hr xs held g live
  sim_binary p binary.Times l r l' r' hl hr xs held g live = both_run p binary.Times l r l' r' hl hr xs held g live
  sim_binary p binary.Divide l r l' r' hl hr xs held g live = both_run p binary.Divide l r l' r' hl hr xs held g live
  sim_binary p binary.Remainder l r l' r' hl hr xs held g live = both_run p binary.Remainder l r l' r' hl hr xs held g live

  -- ---- assignments

  stored :
      (xs : List ℕ) (held : Held) (cs : List Cell) (x : Slot) (v n : ℕ) → Finds m held cs x → In m held v n → Sim m (Val xs) xs held (write cs v >> pure v) (machine.◌>>◌ (cells.write x n) (machine.pure n))
  stored xs held cs x v n there has =
      sim_then m {B = Unit {0}} Done (Val xs) xs held (write cs v) (cells.write x n) (λ _. pure v) (λ _. machine.pure n) (sim_write m xs held cs x v n there (inl has))
      (next_done m xs held (pure v) (machine.pure n) (Val xs) (sim_pure m (Val xs) xs held v n (λ e t s b holds. in_holds m xs e t held v n holds.all has)))

  some_slot : Slot
  some_slot = slot.Common 0

  pub sim_assign : (p : Place) (o : AssignOp) (l r : Piece) (l' r' : Meaning) → SimPiece m l l' → SimPiece m r r' → (xs : List ℕ) (held : Held) (g : ℕ) → In m held g 1 → Sim m (Val xs) xs held (assign p o l r g) (meanings.assign p o l' r')
  sim_assign p Plain l r l' r' hl hr xs held g live =
      sim_then m (Meant xs) (Val xs) xs held (l.find g) l'.find _ _ (hl.find xs held g live) (next_cells m xs held _ _ (Val xs) some_slot (λ cs x.
      sim_then m (Val xs) (Val xs) xs (Points cs x ∷ held) (r.run g) r'.run _ _ (hr.run xs (Points cs x ∷ held) g live) (next_value m xs (Points cs x ∷ held) _ _ (Val xs) (λ v n.
      stored xs (Value v n ∷ Points cs x ∷ held) cs x v n (inl (refl, refl)) (inl (refl, refl))))))
  sim_assign p (With o) l r l' r' hl hr xs held g live =
      sim_then m (Meant xs) (Val xs) xs held (l.find g) l'.find _ _ (hl.find xs held g live) (next_cells m xs held _ _ (Val xs) some_slot (λ cs x.
      sim_then m (Val xs) (Val xs) xs (Points cs x ∷ held) (read cs) (cells.read x) _ _ (sim_read m xs (Points cs x ∷ held) cs x (inl (refl, refl))) (next_value m xs (Points cs x ∷ held) _ _ (Val xs) (λ old a.
      sim_then m (Val xs) (Val xs) xs (Value old a ∷ Points cs x ∷ held) (r.run g) r'.run _ _ (hr.run xs (Value old a ∷ Points cs x ∷ held) g (inr live)) (next_value m xs (Value old a ∷ Points cs x ∷ held) _ _ (Val xs) (λ v c.
      let all : Held = Value v c ∷ Value old a ∷ Points cs x ∷ held in
      sim_then m (Val xs) (Val xs) xs all (typed p o l r g old v) (λ s. meanings.operate p o (l'.unsigned s) (r'.unsigned s) a c s) _ _
      (sim_typed m xs all p o l r l' r' g old v a c hl hr (inl (inr (inr live))) (inl (inr (inl (refl, refl)))) (inl (inl (refl, refl)))) (next_value m xs all _ _ (Val xs) (λ new n.
      stored xs (Value new n ∷ all) cs x new n (inl (refl, refl)) (inl (refl, refl))))))))))

  -- two values
  abbrev pub Vals : List ℕ → Emitted → FlatState → ℕ × ℕ → ℕ × ℕ → Type 0
  Vals xs f t a v = Val xs f t a.0 v.0 × Val xs f t a.1 v.1

  stepped :
      (p : Place) (o : StepOp) (l : Piece) (l' : Meaning) → SimPiece m l l' → (xs : List ℕ) (held : Held) (g old a : ℕ) → Has m held g 1 → Has m held old a →
      Sim m (Val xs) xs held (λ e. operate p (step_op o) (l.unsigned e.scope) false g old one e) (λ s. meanings.operate p (step_op o) (l'.unsigned s) false a 1 s)
  stepped p o l l' hl xs held g old a live has = record {
    long = λ e neat. (g ∷ [], (adds_operate (g ∷ []) p (step_op o) (l.unsigned e.scope) false g old one (inl refl)).add e neat);
    live = λ e t s b reach holds.
        subst (λ u. Follows (Val xs) m xs e t (operate p (step_op o) (l.unsigned e.scope) false g old one e) (meanings.operate p (step_op o) u false a 1 s)) (hl.unsigned e t s b)
        ((sim_operate m xs held p (step_op o) (l.unsigned e.scope) false g old one a 1 live has (inr (inl (refl, refl)))).live e t s b reach holds);
  }

  pub sim_count : (p : Place) (o : StepOp) (l : Piece) (l' : Meaning) → SimPiece m l l' → (xs : List ℕ) (held : Held) (g : ℕ) → In m held g 1 → Sim m (Vals xs) xs held (count p o l g) (meanings.count p o l')
  sim_count p o l l' hl xs held g live =
      sim_then m (Meant xs) (Vals xs) xs held (l.find g) l'.find _ _ (hl.find xs held g live) (next_cells m xs held _ _ (Vals xs) some_slot (λ cs x.
      sim_then m (Val xs) (Vals xs) xs (Points cs x ∷ held) (read cs) (cells.read x) _ _ (sim_read m xs (Points cs x ∷ held) cs x (inl (refl, refl))) (next_value m xs (Points cs x ∷ held) _ _ (Vals xs) (λ old a.
      let all : Held = Value old a ∷ Points cs x ∷ held in
      sim_then m (Val xs) (Vals xs) xs all (λ e. operate p (step_op o) (l.unsigned e.scope) false g old one e) (λ s. meanings.operate p (step_op o) (l'.unsigned s) false a 1 s) _ _
      (stepped p o l l' hl xs all g old a (inl (inr live)) (inl (inl (refl, refl)))) (next_value m xs all _ _ (Vals xs) (λ new n.
      let more : Held = Value new n ∷ all in
      sim_then m {B = Unit {0}} Done (Vals xs) xs more (write cs new) (cells.write x n) (λ _. pure (old, new)) (λ _. machine.pure (a, n)) (sim_write m xs more cs x new n (inl (refl, refl)) (inl (inl (refl, refl))))
      (next_done m xs more (pure (old, new)) (machine.pure (a, n)) (Vals xs) (sim_pure m (Vals xs) xs more (old, new) (a, n) (λ e t s b holds. (holds.all.1.0, holds.all.0))))))))))

  -- ---- choices

  adds_part : (gs : List ℕ) (l : Piece) (l' : Meaning) (a v : ℕ) → SimPiece m l l' → One gs a → Adds gs (l.run a >>= (λ y. copy_to a v y))
  adds_part gs l l' a v hl there = adds_then gs (l.run a) (λ y. copy_to a v y) (adds_one gs a (l.run a) there (hl.adds.run a)) (λ y. adds_copy gs a v y there)

  -- the branch that is taken puts its value into the local
  part_taken : (l : Piece) (l' : Meaning) → SimPiece m l l' → (xs : List ℕ) (held : Held) (a v : ℕ) → In m held a 1 → Sim m (Into m v) (v ∷ xs) held (l.run a >>= (λ y. copy_to a v y)) l'.run
  part_taken l l' hl xs held a v live =
      sim_unit m (Into m v) (v ∷ xs) held (l.run a >>= (λ y. copy_to a v y)) l'.run
      (sim_then m (Val (v ∷ xs)) (Into m v) (v ∷ xs) held (l.run a) l'.run (λ y. copy_to a v y) (λ n. machine.pure n) (hl.run (v ∷ xs) held a live) (next_value m (v ∷ xs) held (λ y. copy_to a v y) (λ n. machine.pure n) (Into m v) (λ y n.
      sim_into m (v ∷ xs) (Value y n ∷ held) a v op.UnaryPlus (y ∷ []) (n ∷ []) (inl refl) (inl (inr live)) (inl (inl (refl, refl)), tt))))

  chosen :
      (l r : Piece) (l' r' : Meaning) → SimPiece m l l' → SimPiece m r r' → (xs : List ℕ) (held : Held) (a c : ℕ) (b : Bool) → In m held a (truth_of (not b)) → In m held c (truth_of b) →
      Sim m (Val xs) xs held (fresh >>= (λ v. ((l.run a >>= (λ y. copy_to a v y)) >> (r.run c >>= (λ z. copy_to c v z))) >> pure v)) (cond (not b) l'.run r'.run)
  chosen l r l' r' hl hr xs held a c false taken left_out =
      sim_in_new m xs held (a ∷ c ∷ []) (λ v. (l.run a >>= (λ y. copy_to a v y)) >> (r.run c >>= (λ z. copy_to c v z))) l'.run
      (λ v. adds_then (a ∷ c ∷ []) (l.run a >>= (λ y. copy_to a v y)) (λ _. r.run c >>= (λ z. copy_to c v z)) (adds_part (a ∷ c ∷ []) l l' a v hl (inl refl)) (λ _. adds_part (a ∷ c ∷ []) r r' c v hr (inr (inl refl))))
      (λ v. sim_unit m (Into m v) (v ∷ xs) held ((l.run a >>= (λ y. copy_to a v y)) >> (r.run c >>= (λ z. copy_to c v z))) l'.run
      (sim_then m (Into m v) (Into m v) (v ∷ xs) held (l.run a >>= (λ y. copy_to a v y)) l'.run (λ _. r.run c >>= (λ z. copy_to c v z)) (λ n. machine.pure n) (part_taken l l' hl xs held a v taken)
      (next_keep m v (v ∷ xs) held (c ∷ []) (r.run c >>= (λ z. copy_to c v z)) (adds_part (c ∷ []) r r' c v hr (inl refl)) (λ k one. only_off m held k c left_out one))))
  chosen l r l' r' hl hr xs held a c true left_out taken =
      sim_in_new m xs held (a ∷ c ∷ []) (λ v. (l.run a >>= (λ y. copy_to a v y)) >> (r.run c >>= (λ z. copy_to c v z))) r'.run
      (λ v. adds_then (a ∷ c ∷ []) (l.run a >>= (λ y. copy_to a v y)) (λ _. r.run c >>= (λ z. copy_to c v z)) (adds_part (a ∷ c ∷ []) l l' a v hl (inl refl)) (λ _. adds_part (a ∷ c ∷ []) r r' c v hr (inr (inl refl))))
      (λ v. sim_silent m (Into m v) (v ∷ xs) held (l.run a >>= (λ y. copy_to a v y)) (λ _. r.run c >>= (λ z. copy_to c v z)) r'.run
      (sim_skip m (v ∷ xs) held (a ∷ []) (l.run a >>= (λ y. copy_to a v y)) (adds_part (a ∷ []) l l' a v hl (inl refl)) (λ k one. only_off m held k a left_out one))
      (λ _. part_taken r r' hr xs held c v taken))

  pub sim_choose :
      (t l r : Piece) (t' l' r' : Meaning) → SimPiece m t t' → SimPiece m l l' → SimPiece m r r' → (xs : List ℕ) (held : Held) (g : ℕ) → In m held g 1 →
      Sim m (Val xs) xs held (choose t l r g) (machine.◌>>=◌ t'.run (λ x. cond (is_true x) l'.run r'.run))
  sim_choose t l r t' l' r' ht hl hr xs held g live =
      sim_then m (Val xs) (Val xs) xs held (t.run g) t'.run _ _ (ht.run xs held g live) (next_value m xs held _ _ (Val xs) (λ x w.
      sim_quiet m (Val xs) xs (Value x w ∷ held) (when g x) (truth_of (is_true w)) _ _ (sim_when m xs (Value x w ∷ held) g x w (inl (inr live)) (inl (inl (refl, refl)))) (λ a.
      sim_quiet m (Val xs) xs (Value a (truth_of (is_true w)) ∷ Value x w ∷ held) (unless g x) (truth_of (nat_eq w 0)) _ _ (sim_unless m xs (Value a (truth_of (is_true w)) ∷ Value x w ∷ held) g x w (inl (inr (inr live))) (inl (inr (inl (refl, refl))))) (λ c.
      chosen l r l' r' hl hr xs (Value c (truth_of (nat_eq w 0)) ∷ Value a (truth_of (is_true w)) ∷ Value x w ∷ held) a c (nat_eq w 0) (inr (inl (refl, refl))) (inl (refl, refl))))))
