-- What is emitted in turn, where each part is known.
use Rattle.std.proofs.Common.{◌≡◌, ℕ, zero, suc, ◌+◌, ◌-◌, ◌<◌, List, [], ◌∷◌, ◌++◌, length, take, drop, Option, Some, None, refl, sym, ap, ◌∙◌, subst, append_assoc, append-nil, length-append, arith}
use Rattle.std.specs.Prelude.{slice_get}
use Rattle.dg_base.specs.declared.Place.{Place}
use Rattle.c_tree.specs.declared.expr.BinaryOp.{BinaryOp}
use Rattle.c_tree.specs.declared.expr.AssignOp.{AssignOp}
use Rattle.c_tree.specs.declared.expr.AssignOp.TheVariants.{With}
use Rattle.c_tree.specs.declared.expr.Expr.{Expr}
use Rattle.c_tree.specs.declared.stmt.Start.{Start}
use Rattle.c_tree.specs.declared.stmt.Stmt.{Stmt, fold-roll-Stmt}
use Rattle.c_tree.specs.declared.stmt.Stmt.TheVariants as stmt
use Rattle.c_tree.specs.declared.stmt.Stmt.TheOpen.{Stmt-F}
use Rattle.c_tree.specs.declared.program.Function.{Function}
use Rattle.run_model.specs.Calls.{Setting}
use Rattle.flat_prog.specs.declared.Instance.{Instance}
use Rattle.emit_steps.specs.declared.state.Cell.{Cell}
use Rattle.emit_steps.specs.Emitting.{Emitted, Emit, ◌>>=◌, ◌>>◌, pure, one, scoped}
use Rattle.emit_steps.specs.Pieces.{Piece, Context, read, write, typed, assign}
use Rattle.emit_steps.specs.Instances.{begins, instance_of}
use Rattle.loop_unroll.specs.declared.targets.Targets.{Targets}
use Rattle.loop_unroll.specs.Stating.{Body, targets, leave, one_turn, turns, loop, begin_for, stmt_step, execute, run_body, context_within}
use Rattle.loop_unroll.specs.Whole.{emitted, IsEmitted, AreQueued, AreInstances}
use Rattle.loop_unroll.proofs.Counting.{turn_left}

-- an assignment with an operator
pub assign_with :
    (p : Place) (a : AssignOp) (o : BinaryOp) (l r : Piece) (g : ℕ) (e e1 e2 e3 e4 e5 : Emitted) (cs : List Cell) (old v new : ℕ) → a ≡ With o → (cs, e1) ≡ l.find g e → (old, e2) ≡ read cs e1 → (v, e3) ≡ r.run g e2 → (new, e4) ≡ typed p o l r g old v e3 →
    ◌≡◌ {A = (Unit {0}) × Emitted} (tt, e5) (write cs new e4) → ◌≡◌ {A = ℕ × Emitted} (new, e5) (assign p a l r g e)
assign_with p a o l r g e e1 e2 e3 e4 e5 cs old v new is h1 h2 h3 h4 h5 =
    ap (λ (x : (Unit {0}) × Emitted). (new, x.1)) h5
    ∙ (ap (λ (x : ℕ × Emitted). (write cs x.0 >> pure x.0) x.1) h4
    ∙ (ap (λ (x : ℕ × Emitted). (typed p o l r g old x.0 >>= (λ n. write cs n >> pure n)) x.1) h3
    ∙ (ap (λ (x : ℕ × Emitted). (r.run g >>= (λ w. typed p o l r g x.0 w >>= (λ n. write cs n >> pure n))) x.1) h2
    ∙ (ap (λ (x : List Cell × Emitted). (read x.0 >>= (λ b. r.run g >>= (λ w. typed p o l r g b w >>= (λ n. write x.0 n >> pure n)))) x.1) h1 ∙ ap (λ b. assign p b l r g e) (sym is)))))

-- one turn of a loop
pub turn_made :
    (s : Setting) (p : Place) (n i : ℕ) (test : ℕ → Emit ℕ) (body : Body) (step : ℕ → Emit ℕ) (done result here v on j w : ℕ) (e e1 e2 e3 e4 : Emitted) (o : (Unit {0}) × Emitted) → i < n → turns s p (n - i) test body step done result here e ≡ o → (v, e1) ≡ test here e → (on, e2) ≡ leave done here v e1 →
    (j, e3) ≡ one_turn body done result on e2 → (w, e4) ≡ step j e3 → turns s p (n - (i + 1)) test body step done result j e4 ≡ o
turn_made s p n i test body step done result here v on j w e e1 e2 e3 e4 o lt before h1 h2 h3 h4 =
    ap (λ (x : ℕ × Emitted). turns s p (n - (i + 1)) test body step done result j x.1) h4
    ∙ (ap (λ (x : ℕ × Emitted). (step x.0 >> turns s p (n - (i + 1)) test body step done result x.0) x.1) h3
    ∙ (ap (λ (x : ℕ × Emitted). (one_turn body done result x.0 >>= (λ k. step k >> turns s p (n - (i + 1)) test body step done result k)) x.1) h2
    ∙ (ap (λ (x : ℕ × Emitted). (leave done here x.0 >>= (λ on. one_turn body done result on >>= (λ k. step k >> turns s p (n - (i + 1)) test body step done result k))) x.1) h1
    ∙ (sym (turn_left s p n i test body step done result here e lt) ∙ before))))

-- a `for`: what its start declares is gone behind it
pub for_made :
    (cx : Context) (p : Place) (start : Start) (x z : Option Expr) (b : Body) (t : Targets) (g h n : ℕ) (e e1 e2 : Emitted) → n ≡ length e.scope → ◌≡◌ {A = (Unit {0}) × Emitted} (tt, e1) (begin_for cx start g e) → (h, e2) ≡ loop cx p x z b (targets 0 0 t.result) g e1 →
    ◌≡◌ {A = ℕ × Emitted} (h, record e2 { scope = take n e2.scope }) (scoped (begin_for cx start g >> loop cx p x z b t g) e)
for_made cx p start x z b t g h n e e1 e2 size h1 h2 =
    ap (λ m. (h, record e2 { scope = take m e2.scope })) size
    ∙ (ap (λ (w : ℕ × Emitted). (w.0, record w.1 { scope = take (length e.scope) w.1.scope })) h2
    ∙ ap (λ (w : (Unit {0}) × Emitted). ((loop cx p x z b t g w.1).0, record (loop cx p x z b t g w.1).1 { scope = take (length e.scope) (loop cx p x z b t g w.1).1.scope })) h1)

-- the statement's emission is that of its parts
pub for_stmt : (cx : Context) (p : Place) (start : Start) (x z : Option Expr) (b : Stmt) → execute cx (stmt.For p start x z b) ≡ stmt_step cx (Stmt-F.For p start x z (execute cx b))
for_stmt cx p start x z b = ap (execute cx) (sym (stmt.rolls-For p start x z b)) ∙ fold-roll-Stmt Body (stmt_step cx) (Stmt-F.For p start x z b)

-- what is emitted of an instance, where calls stand at most as deep as there are functions
pub emitted_there :
    (s : Setting) (n : ℕ) (h : Function) (first v : ℕ) (e e0 : Emitted) → n ≡ length s.functions → e0 ≡ begins first → (v, e) ≡ run_body (context_within n s) h (0 ∷ []) one e0 → e ≡ emitted s h first
emitted_there s n h first v e e0 deep from made =
    ap (λ (x : ℕ × Emitted). x.1) made ∙ (ap (λ (x : Emitted). (run_body (context_within n s) h (0 ∷ []) one x).1) from ∙ ap (λ m. (run_body (context_within m s) h (0 ∷ []) one (begins first)).1) deep)

-- ---- the queue

nothing_left : (fs : List ℕ) (k : ℕ) → slice_get fs k ≡ None → drop k fs ≡ []
nothing_left [] zero e = refl
nothing_left [] (suc k) e = refl
nothing_left (f ∷ fs) zero e = absurd (let off : ◌≡◌ {A = Option ℕ} (Some f) None = e in cc)
nothing_left (f ∷ fs) (suc k) e = nothing_left fs k e

pub none_wait : (s : Setting) (n k : ℕ) (fs : List ℕ) (is : List Instance) (main : ℕ) → slice_get fs k ≡ None → ((rest : List Instance) → AreQueued s n (drop k fs) rest → AreInstances s main (is ++ rest)) → AreInstances s main is
none_wait s n k fs is main none h = subst (AreInstances s main) (append-nil is) (h [] (subst (λ xs. AreQueued s n xs []) (sym (nothing_left fs k none)) tt))

next_left : (fs : List ℕ) (k f : ℕ) → slice_get fs k ≡ Some f → drop k fs ≡ f ∷ drop (suc k) fs
next_left [] k f e = absurd (let off : ◌≡◌ {A = Option ℕ} None (Some f) = e in cc)
next_left (x ∷ fs) zero f e = let same : x ≡ f = (let is : ◌≡◌ {A = Option ℕ} (Some x) (Some f) = e in cc) in ap (λ y. y ∷ fs) same
next_left (x ∷ fs) (suc k) f e = next_left fs k f e

left_behind : (fs ys : List ℕ) (k f : ℕ) → slice_get fs k ≡ Some f → drop (suc k) (fs ++ ys) ≡ drop (suc k) fs ++ ys
left_behind [] ys k f e = absurd (let off : ◌≡◌ {A = Option ℕ} None (Some f) = e in cc)
left_behind (x ∷ fs) ys zero f e = refl
left_behind (x ∷ fs) ys (suc k) f e = left_behind fs ys k f e

pub one_waits :
    (s : Setting) (n k f : ℕ) (fs created : List ℕ) (is : List Instance) (main : ℕ) (i : Instance) (e : Emitted) → slice_get fs k ≡ Some f → IsEmitted s f n e → i ≡ instance_of f e → created ≡ e.created → n ≡ length fs →
    ((rest : List Instance) → AreQueued s (length fs) (drop k fs) rest → AreInstances s main (is ++ rest)) → (rest : List Instance) → AreQueued s (length (fs ++ created)) (drop (k + 1) (fs ++ created)) rest → AreInstances s main ((is ++ i ∷ []) ++ rest)
one_waits s n k f fs created is main i e there emitted same those many h rest q =
    let next : k + 1 ≡ suc k = omega arith in
    let list : drop (k + 1) (fs ++ created) ≡ drop (suc k) fs ++ e.created = ap (λ j. drop j (fs ++ created)) next ∙ (left_behind fs created k f there ∙ ap (λ ys. drop (suc k) fs ++ ys) those) in
    let count : length (fs ++ created) ≡ n + length e.created = omega (arith, many, length-append fs created, ap length those) in
    let waits : AreQueued s (n + length e.created) (drop (suc k) fs ++ e.created) rest = subst (λ x. AreQueued s x (drop (suc k) fs ++ e.created) rest) count (subst (λ xs. AreQueued s (length (fs ++ created)) xs rest) list q) in
    subst (AreInstances s main) (sym (append_assoc is (i ∷ []) rest)) (h (i ∷ rest) (subst (λ x. AreQueued s x (drop k fs) (i ∷ rest)) many (subst (λ xs. AreQueued s n xs (i ∷ rest)) (sym (next_left fs k f there)) (e, emitted, same, waits))))
