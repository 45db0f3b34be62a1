-- The stack as the code has it, the topmost node last.
use Rattle.std.proofs.Common.{◌≡◌, ℕ, Bool, true, false, cond, IsTrue, List, [], ◌∷◌, length, reverse, None, Result, Ok, Err, refl, sym, ap, ◌∙◌, arith}
use Rattle.std.specs.Prelude.{◌↔◌, nat_lt, IfOk}
use Rattle.std.proofs.lemmas.Bool.{lt-ltb, cond-true, ltb-true}
use Rattle.std.proofs.lemmas.List.{length-reverse}
use Rattle.std.specs.declared.alloc.AllocError.{AllocError}
use Rattle.c_tree.specs.declared.expr.Expr.{Expr}
use Rattle.c_expr.specs.declared.frame.Frame.{Frame}
use Rattle.c_expr.specs.declared.frame.Stepped.{Stepped}
use Rattle.c_expr.specs.declared.frame.Stepped.TheVariants as stepped
use Rattle.c_expr.specs.Parser.{StepGives}
use Rattle.dg_base.specs.declared.Place.{Place}
use Rattle.c_expr.specs.declared.word.Word.{Word}
use Rattle.c_expr.specs.declared.word.Word.TheVariants as w
use Rattle.c_expr.specs.Machine.{reach, filled, Held, close, State, Have, Next, shuts, behind_closed, extend, whole, finish}

pub whole_not : (x : Expr) (s t : List Frame) → reverse s ≡ t → (s ≡ [] → ⊥) → whole x t ≡ None
whole_not x [] t is filled_in = absurd (filled_in refl)
whole_not x (f ∷ s) [] is filled_in = let bad : length (reverse (f ∷ s)) ≡ 0 = ap length is in absurd (omega (arith, length-reverse (f ∷ s)))
whole_not x (f ∷ s) (g ∷ t) is filled_in = refl

pub whole_unless : (x : Expr) (s : List Frame) (b : Bool) → (IsTrue b ↔ (s ≡ [])) → b ≡ false → None ≡ whole x (reverse s)
whole_unless x s b iff is = sym (whole_not x s (reverse s) refl (λ e. let t : b ≡ true = iff.1 e in let no : true ≡ false = sym t ∙ is in cc))

-- what an operator closes is closed at the end too
by_test : (b c : Bool) (x y : Held) → (b ≡ true → c ≡ true) → (b ≡ true → close 0 x.tree x.stack ≡ close 0 y.tree y.stack) → (z : Held) → (b ≡ false → close 0 z.tree z.stack ≡ cond c (close 0 y.tree y.stack) z)
    → close 0 (cond b x z).tree (cond b x z).stack ≡ cond c (close 0 y.tree y.stack) z
by_test true c x y low ih z out = ih refl ∙ sym (cond-true c (close 0 y.tree y.stack) z (low refl))
by_test false c x y low ih z out = out refl

pub close_close : (l : ℕ) (x : Expr) (s : List Frame) → close 0 (close l x s).tree (close l x s).stack ≡ close 0 x s
close_close l x [] = refl
close_close l x (g ∷ s) =
    by_test (nat_lt l (reach g)) (nat_lt 0 (reach g)) (close l (filled g x) s) (record { tree = filled g x; stack = s })
    (λ is. let lt = ltb-true l (reach g) is in lt-ltb 0 (reach g) (omega arith)) (λ is. close_close l (filled g x) s) (record { tree = x; stack = g ∷ s }) (λ is. refl)

-- and so a run may be finished after closing
pub finish_close : (l : ℕ) (x : Expr) (s : List Frame) (h : Held) → h ≡ close l x s → finish (Have h.tree h.stack) ≡ finish (Have x s)
finish_close l x s h is = ap (λ (k : Held). finish (Have k.tree k.stack)) is ∙ ap (λ (k : Held). whole k.tree k.stack) (close_close l x s)

-- a step over what has been closed is a step over what there was
pub moved_step : (r : Result Stepped AllocError) (s : List Frame) (next : Held → Next) (l : ℕ) (x : Expr) (t : List Frame) (h : Held) → h ≡ close l x t
    → IfOk r (λ r. StepGives r s (next h) (Have h.tree h.stack)) → IfOk r (λ r. StepGives r s (next (close l x t)) (Have x t))
moved_step (Ok (stepped.Go reading)) s next l x t h is k = ap next (sym is) ∙ k
moved_step (Ok (stepped.Stop done)) s next l x t h is k = (ap next (sym is) ∙ k.0, sym (finish_close l x t h is) ∙ k.1)
moved_step (Err e) s next l x t h is k = tt

-- a step tells the same of two states that are finished alike
pub restated : (r : Result Stepped AllocError) (s : List Frame) (next : Next) (a b : State) → finish a ≡ finish b → IfOk r (λ r. StepGives r s next a) → IfOk r (λ r. StepGives r s next b)
restated (Ok (stepped.Go reading)) s next a b same k = k
restated (Ok (stepped.Stop done)) s next a b same k = (k.0, sym same ∙ k.1)
restated (Err e) s next a b same k = tt

-- a closing word closes what is open first
pub extend_shuts : (f n : ℕ) (v : Word) (p : Place) (x : Expr) (s : List Frame) → shuts v ≡ true → behind_closed f n v p (close 0 x s).tree (close 0 x s).stack ≡ extend f n v p x s
extend_shuts f n w.Right p x s is = refl
extend_shuts f n w.RightSquare p x s is = refl
extend_shuts f n w.Comma p x s is = refl
extend_shuts f n w.Colon p x s is = refl
extend_shuts f n _ p x s is = let bad : false ≡ true = is in cc
