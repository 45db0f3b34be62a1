-- A function's body that fits its types makes at most what it counts.
use Rattle.std.proofs.Common.{◌≡◌, ℕ, zero, suc, ◌+◌, ◌*◌, ◌≤◌, List, [], ◌∷◌, ◌++◌, Option, Some, None, Bool, true, false, map, length, take, refl, sym, ap, ◌∙◌, subst, arith, append-nil, append_assoc}
use Rattle.std.specs.Prelude.{◌&&◌, cond, replicate}
use Rattle.std.proofs.lemmas.Bool.{false≢true, and_parts}
use Rattle.dg_base.specs.declared.Place.{Place}
use Rattle.dg_base.specs.Values.{is_true}
use Rattle.c_tree.specs.declared.expr.TypeWord.{TypeWord}
use Rattle.c_tree.specs.declared.expr.TypeWord.TheVariants as type
use Rattle.c_tree.specs.declared.expr.Expr.{Expr}
use Rattle.c_tree.specs.declared.stmt.Initialiser.{Initialiser}
use Rattle.c_tree.specs.declared.stmt.Initialiser.TheVariants.{One, Braces}
use Rattle.c_tree.specs.declared.stmt.Declarator.{Declarator}
use Rattle.c_tree.specs.declared.stmt.Start.{Start}
use Rattle.c_tree.specs.declared.stmt.Start.TheVariants as start
use Rattle.c_tree.specs.declared.stmt.Stmt.{Stmt, fold-roll-Stmt, ind-Stmt, map-Stmt, roll-Stmt}
use Rattle.c_tree.specs.declared.stmt.Stmt.TheOpen.{Stmt-F}
use Rattle.c_tree.specs.declared.program.Function.{Function}
use Rattle.c_tree.specs.Operators.{word_unsigned}
use Rattle.c_rules.specs.declared.builtin.Role.{Role}
use Rattle.c_rules.specs.declared.builtin.Role.TheVariants as role
use Rattle.c_rules.specs.declared.names.Entry.{Entry}
use Rattle.c_rules.specs.declared.names.Meaning.{Meaning as Meant}
use Rattle.c_rules.specs.Names.{Name, Scope, or_else, meaning_of}
use Rattle.c_rules.specs.Walk.{Walk, Walked, declare, declare_all as declared, declarators, in_turn, enter, loop_in, found_start, behind_start, found_test, found_value, found_returned, walk_step, walk, function_scope, walk_body}
use Rattle.c_rules.specs.Scopes.{First, first_of, rule_walk, is_mutex}
use Rattle.c_rules.specs.Types.{broken_in, broken_size, broken_value, broken_start, broken_declarator, is_mutex_start, word_fits, declarator_fits, typed_rules}
use Rattle.c_check.specs.declared.counts.Counts.{Counts}
use Rattle.c_check.specs.Limits.{cell_count}
use Rattle.c_check.specs.Counts.{exact, no_counts, counts_in, counts_in_all, counts_at_start, weighed, counts_walk}
use Rattle.run_model.specs.declared.state.Local.{Local}
use Rattle.run_model.specs.declared.state.Flow.{Flow}
use Rattle.run_model.specs.declared.state.Flow.TheVariants.{Next, Broke, Continued, Returned}
use Rattle.run_model.specs.declared.state.Need.TheVariants.{Any}
use Rattle.run_model.specs.declared.state.Slot.TheVariants.{Own}
use Rattle.run_model.specs.Steps.{Step, ◌>>=◌, ◌>>◌, pure, nothing, look, change, take_number, begin_section, end_section}
use Rattle.run_model.specs.Cells.{write}
use Rattle.run_model.specs.Calls.{Context, spend}
use Rattle.run_model.specs.Meaning.{eval}
use Rattle.run_model.specs.Statements.{then_next, scoped, turns, first_values, store_from, enter as enter_local, declare_one, declare_all, eval_if, begin_for, stmt_step, execute, execute_all}
use Rattle.run_model.specs.Threads.{parameters, result_of, run_body, is_atomic, in_section, call_body}
use Rattle.run_laws.proofs.Naming.{names, names-append, names_length, first_names, param_names, body_names, AllCounted, covers_params, Inside, inside_declared}
use Rattle.run_laws.proofs.Growing.{Size, size_of, actions, none, plus, Fits, anything, Within, within_weaker, within_then, calm_then, behind, before, within_cond, calm_pure, within_pure, calm_nothing, calm_look, within_locals, within_spend, calm_taking, calm_begin, calm_end, calm_write}
use Rattle.run_laws.proofs.Meanings.{still, Makes, makes_more}
use Rattle.run_laws.proofs.Expressions.{both_none, holds_at, Bound, Low, left_of, right_of, IsUsed, Bounds, eval_limited}
use Rattle.run_laws.proofs.Loops.{times, loop_makes, do_loop_makes}

-- ---- scopes

-- what is behind a statement does not depend on what a walk finds
abbrev LeavesSame : {M N : Type 0} → Walk M → Walk N → Stmt-F Stmt → Type 0
LeavesSame v w z = (s : Scope) → (walk_step v (map-Stmt Stmt _ (walk v) z)).behind s ≡ (walk_step w (map-Stmt Stmt _ (walk w) z)).behind s

behind_layer : {M N : Type 0} (v : Walk M) (w : Walk N) (z : Stmt-F Stmt) → LeavesSame v w z
behind_layer v w (Stmt-F.Empty p) s = refl
behind_layer v w (Stmt-F.Expr p e) s = refl
behind_layer v w (Stmt-F.Declare d) s = refl
behind_layer v w (Stmt-F.Block p xs) s = refl
behind_layer v w (Stmt-F.Label p n x) s = refl
behind_layer v w (Stmt-F.If p t x y) s = refl
behind_layer v w (Stmt-F.While p t x) s = refl
behind_layer v w (Stmt-F.DoWhile p x t) s = refl
behind_layer v w (Stmt-F.For p st t e x) s = refl
behind_layer v w (Stmt-F.Return p x) s = refl
behind_layer v w (Stmt-F.Break p) s = refl
behind_layer v w (Stmt-F.Continue p) s = refl

same_behind : {M N : Type 0} (v : Walk M) (w : Walk N) (t : Stmt) (s : Scope) → (walk v t).behind s ≡ (walk w t).behind s
same_behind {M = M} {N = N} v w =
    ind-Stmt (λ t. (s : Scope) → (walk v t).behind s ≡ (walk w t).behind s) (λ z y is s.
    ap (λ (x : Walked M). x.behind s) (fold-roll-Stmt (Walked M) (walk_step v) z) ∙ behind_layer v w z s ∙ sym (ap (λ (x : Walked N). x.behind s) (fold-roll-Stmt (Walked N) (walk_step w) z)))

-- in a loop, and behind its start
inside_loop : (s : Scope) (ns : List Name) → Inside s ns → Inside (loop_in s) ns
inside_loop s ns h = record { inner = h.inner; covers = h.covers }

inside_entered : (s : Scope) (ns : List Name) → Inside s ns → Inside (enter s) ns
inside_entered s ns h = record { inner = refl; covers = h.covers }

-- these names, and others behind them
abbrev pub Extends : List Name → List Name → Type 0
Extends ns ks = (more : List Name) × (ks ≡ ns ++ more)

extends_same : (ns ks : List Name) → ks ≡ ns → Extends ns ks
extends_same ns ks e = ([], e ∙ sym (append-nil ns))

extends_more : (ns ks ms : List Name) → Extends ns ks → Extends ks ms → Extends ns ms
extends_more ns ks ms (more, e) (others, g) = (more ++ others, g ∙ ap (λ (xs : List Name). xs ++ others) e ∙ append_assoc ns more others)

-- what holds behind a statement or a declaration that stands in a scope: of the scope behind it, and of the names before it
abbrev pub Leaves : {A : Type 0} → Scope → List Name → A → List Name → Type 0
Leaves s ns x ks = Inside s ks × Extends ns ks

-- a mutex is no local
no_mutex : (w : TypeWord) → word_fits false w ≡ true → is_mutex w ≡ false
no_mutex type.Mutex e = absurd (false≢true e)
no_mutex _ e = refl

-- ---- loops

more_turns : (k a b : ℕ) → 1 ≤ k → k * a ≤ b → a ≤ b
more_turns zero a b low h = absurd (omega (arith, low))
more_turns (suc k) a b low h = omega (arith, h)

-- what is turned keeps the bounds
turned_low : (k : ℕ) (c : Counts) (t : Bound) → 1 ≤ k → Low t (exact.times k c) → Low t c
turned_low k c t low h = (omega (arith, h.0), omega (arith, h.1), more_turns k c.accesses 1024 low h.2, more_turns k c.weight 32768 low h.3)

turns_room : (k ta tw sa sw ba bw : ℕ) → (k + 1) * (4 * (ta + tw)) + (k * (4 * (sa + sw)) + k * (4 * (ba + bw))) ≤ 4 * (((k + 1) * ta + (k * sa + k * ba)) + ((k + 1) * tw + (k * sw + k * bw)))
turns_room k ta tw sa sw ba bw = grind arith

while_room : (k ta tw ba bw : ℕ) → (k + 1) * (4 * (ta + tw)) + (k * (4 * (0 + 0)) + k * (4 * (ba + bw))) ≤ 4 * (((k + 1) * ta + k * ba) + ((k + 1) * tw + k * bw))
while_room k ta tw ba bw = grind arith

do_room : (k ta tw ba bw : ℕ) → k * (4 * (ba + bw) + 4 * (ta + tw)) ≤ 4 * (k * (ba + ta) + k * (bw + tw))
do_room k ta tw ba bw = grind arith

module _ (q : ℕ → Type 0) (top : Bound) (cx : Context) (body : Name → Counts) (bounds : Bounds q top cx body) where
  abbrev pub counted : Walk Counts
  counted = counts_walk exact cx.setting.turns body

  abbrev pub typed : Walk First
  typed = rule_walk (typed_rules cx.setting.functions)

  abbrev means : Scope → Name → Meant
  means s = meaning_of cx.setting.functions s

  -- ---- expressions in their scopes

  module _ (s : Scope) (ns : List Name) (inside : Inside s ns) where
    evals : (x : Expr) (r : Role) → IsUsed r → broken_in (means s) x r ≡ None → Low top (counts_in exact body s x) → Makes q ns (size_of (counts_in exact body s x)) ℕ (eval cx x)
    evals x r u e h = eval_limited q top cx body bounds s ns inside x r u e h

    weighs : (x : Expr) → broken_in (means s) x role.Value ≡ None → Low top (weighed exact body s x) → Makes q ns (size_of (weighed exact body s x)) ℕ (eval cx x)
    weighs x e h =
        makes_more q ns (size_of (counts_in exact body s x)) (size_of (weighed exact body s x)) ℕ (eval cx x) (omega arith, omega arith)
        (evals x role.Value refl e (right_of (exact.weight 1) (counts_in exact body s x) top h))

    test_within : (o : Option Expr) → found_test typed o s ≡ None → Low top (found_test counted o s) → Makes q ns (size_of (found_test counted o s)) ℕ (eval_if cx 1 o)
    test_within None e h = calm_pure q (size_of (exact.weight 1)) ns ℕ anything 1 tt
    test_within (Some x) e h = weighs x e h

    value_within : (o : Option Expr) → found_value typed o s ≡ None → Low top (found_value counted o s) → Makes q ns (size_of (found_value counted o s)) ℕ (eval_if cx 0 o)
    value_within None e h = calm_pure q (size_of no_counts) ns ℕ anything 0 tt
    value_within (Some x) e h = evals x role.Value refl e h

    returned_within : (p : Place) (o : Option Expr) → found_returned typed p o s ≡ None → Low top (found_returned counted p o s) → Makes q ns (size_of (found_returned counted p o s)) ℕ (eval_if cx 0 o)
    returned_within p None e h = calm_pure q (size_of no_counts) ns ℕ anything 0 tt
    returned_within p (Some x) e h = weighs x (both_none (broken_in (means s) x role.Value) _ e).0 h

    -- ---- values that variables begin with

    -- a value that a variable begins with
    first_within : (w : TypeWord) (x : Expr) → is_mutex w ≡ false → broken_value (means s) w x ≡ None → Low top (counts_in exact body s x) → Makes q ns (size_of (counts_in exact body s x)) ℕ (eval cx x)
    first_within w x plain e h =
        evals x role.Value refl (subst (λ (t : Bool). cond (t && is_mutex_start x) None (broken_in (means s) x role.Value) ≡ None) plain e) h

    store_within : (a c n : Size) (l j : ℕ) (m : Step ℕ) (rest : Step (Unit {0})) → Fits (plus a c) n → Makes q ns a ℕ m → Makes q ns c (Unit {0}) rest → Makes q ns n (Unit {0}) (m >>= (λ v. write (Own l j) v >> rest))
    store_within a c n l j m rest low h k =
        calm_then q a c n ns ℕ (Unit {0}) anything (still q ns) m (λ v. write (Own l j) v >> rest) low h (λ v _.
        before q c ns (Unit {0}) (Unit {0}) anything (still q ns) (write (Own l j) v) (λ _. rest) (calm_write q none ns (Own l j) v tt) (λ _ _. k))

    store_taken_within : (n : Size) (l j k : ℕ) → Makes q ns n (Unit {0}) (store_from l j (replicate k (take_number Any)))
    store_taken_within n l j zero = calm_nothing q n ns
    store_taken_within n l j (suc k) =
        store_within none n n l j (take_number Any) (store_from l (j + 1) (replicate k (take_number Any))) (omega arith, omega arith) (calm_taking q none ns Any) (store_taken_within n l (j + 1) k)

    store_all_within : (w : TypeWord) (l j : ℕ) (xs : List Expr) → is_mutex w ≡ false → first_of (map (broken_value (means s) w) xs) ≡ None → Low top (counts_in_all exact body s xs)
        → Makes q ns (size_of (counts_in_all exact body s xs)) (Unit {0}) (store_from l j (map (eval cx) xs))
    store_all_within w l j [] plain e h = calm_nothing q (size_of no_counts) ns
    store_all_within w l j (x ∷ xs) plain e h =
        let parts = both_none (broken_value (means s) w x) (first_of (map (broken_value (means s) w) xs)) e in
        let one : Counts = counts_in exact body s x in
        let rest : Counts = counts_in_all exact body s xs in
        store_within (size_of one) (size_of rest) (size_of (exact.together one rest)) l j (eval cx x) (store_from l (j + 1) (map (eval cx) xs)) (omega arith, omega arith)
        (first_within w x plain parts.0 (left_of one rest top h)) (store_all_within w l (j + 1) xs plain parts.1 (right_of one rest top h))

    begins_within : (l : ℕ) (w : TypeWord) (n : ℕ) (o : Option Initialiser) → is_mutex w ≡ false → broken_start (means s) w o ≡ None → Low top (counts_at_start exact body s o)
        → Makes q ns (size_of (counts_at_start exact body s o)) (Unit {0}) (store_from l 0 (first_values cx w n o))
    begins_within l type.Thread n None plain e h = calm_nothing q (size_of no_counts) ns
    begins_within l type.Int n None plain e h = store_taken_within (size_of no_counts) l 0 n
    begins_within l type.Uint n None plain e h = store_taken_within (size_of no_counts) l 0 n
    begins_within l type.Void n None plain e h = store_taken_within (size_of no_counts) l 0 n
    begins_within l type.VoidPointer n None plain e h = store_taken_within (size_of no_counts) l 0 n
    begins_within l type.Mutex n None plain e h = store_taken_within (size_of no_counts) l 0 n
    begins_within l type.Cond n None plain e h = store_taken_within (size_of no_counts) l 0 n
    begins_within l w n (Some (One x)) plain e h =
        let one : Counts = counts_in exact body s x in
        store_within (size_of one) none (size_of (exact.together (exact.weight 1) one)) l 0 (eval cx x) nothing (omega arith, omega arith) (first_within w x plain e (right_of (exact.weight 1) one top h)) (calm_nothing q none ns)
    begins_within l w n (Some (Braces xs)) plain e h =
        let all : Counts = counts_in_all exact body s xs in
        makes_more q ns (size_of all) (size_of (exact.together (exact.weight 1) all)) (Unit {0}) (store_from l 0 (map (eval cx) xs)) (omega arith, omega arith)
        (store_all_within w l 0 xs plain e (right_of (exact.weight 1) all top h))

  -- ---- declarations

  declare_one_within : (s : Scope) (ns : List Name) → Inside s ns → (w : TypeWord) (d : Declarator) → broken_declarator cx.setting.functions s w d ≡ None → Low top (counts_at_start exact body (declare w d s) d.initialiser)
      → Within q (size_of (counts_at_start exact body (declare w d s) d.initialiser)) ns (Unit {0}) (still q (ns ++ d.name ∷ [])) (declare_one cx w d)
  declare_one_within s ns inside w d e h =
      let n : Size = size_of (counts_at_start exact body (declare w d s) d.initialiser) in
      let behind_it : List Name = ns ++ d.name ∷ [] in
      let rest = both_none (broken_start (means (declare w d s)) w d.initialiser) _ (both_none (broken_size (means s) d.size) _ e).1 in
      let fits : declarator_fits s.top w d ≡ true = holds_at (declarator_fits s.top w d) d.place rest.1 in
      let plain : is_mutex w ≡ false = no_mutex w (subst (λ (t : Bool). word_fits t w ≡ true) inside.inner (and_parts (word_fits s.top w) _ fits).0) in
      before q n ns ℕ (Unit {0}) anything (still q behind_it) (look (λ s. length s.locals)) _ (calm_look q none ns ℕ anything (λ s. length s.locals) (λ s e. tt)) (λ l _.
      within_then q none n n ns (Unit {0}) (Unit {0}) (λ x ks. ks ≡ behind_it) (still q behind_it) (enter_local w d.name (cell_count d)) (λ _. store_from l 0 (first_values cx w (cell_count d) d.initialiser)) (omega arith, omega arith)
      (within_locals q none ns (λ x ks. ks ≡ behind_it) (λ ls. ls ++ record { name = d.name; unsigned = word_unsigned w; cells = replicate (cell_count d) 0 } ∷ [])
      (λ ls same. names-append ls _ ∙ ap (λ (ks : List Name). ks ++ d.name ∷ []) same))
      (λ x ks is. subst (λ (ks : List Name). Within q n ks (Unit {0}) (still q behind_it) (store_from l 0 (first_values cx w (cell_count d) d.initialiser))) (sym is)
      (begins_within (declare w d s) behind_it (inside_declared w d s ns inside) l w (cell_count d) d.initialiser plain rest.0 h)))

  declares_within : (w : TypeWord) (ds : List Declarator) (s : Scope) (ns : List Name) → Inside s ns → declarators typed w ds s ≡ None → Low top (declarators counted w ds s)
      → Within q (size_of (declarators counted w ds s)) ns (Unit {0}) (Leaves (declared w ds s) ns) (declare_all cx w ds)
  declares_within w [] s ns inside e h = within_pure q (size_of no_counts) ns (Unit {0}) (Leaves s ns) tt (inside, extends_same ns ns refl)
  declares_within w (d ∷ ds) s ns inside e h =
      let one : Counts = counts_at_start exact body (declare w d s) d.initialiser in
      let rest : Counts = declarators counted w ds (declare w d s) in
      let more : List Name = ns ++ d.name ∷ [] in
      let parts = both_none (broken_declarator cx.setting.functions s w d) (declarators typed w ds (declare w d s)) e in
      within_then q (size_of one) (size_of rest) (size_of (exact.together one rest)) ns (Unit {0}) (Unit {0}) (still q more) (Leaves (declared w (d ∷ ds) s) ns) (declare_one cx w d) (λ _. declare_all cx w ds) (omega arith, omega arith)
      (declare_one_within s ns inside w d parts.0 (left_of one rest top h)) (λ x ks given.
      subst (λ (ks : List Name). Within q (size_of rest) ks (Unit {0}) (Leaves (declared w (d ∷ ds) s) ns) (declare_all cx w ds)) (sym given.1)
      (within_weaker q (size_of rest) more (Unit {0}) (Leaves (declared w ds (declare w d s)) more) (Leaves (declared w (d ∷ ds) s) ns) (declare_all cx w ds)
      (λ x ms left. (left.0, extends_more ns more ms (d.name ∷ [], refl) left.1))
      (declares_within w ds (declare w d s) more (inside_declared w d s ns inside) parts.1 (right_of one rest top h))))

  -- what keeps the names leaves the scope as it is
  kept : (n : Size) (s : Scope) (ns : List Name) → Inside s ns → (A : Type 0) (m : Step A) → Makes q ns n A m → Within q n ns A (Leaves s ns) m
  kept n s ns inside A m h = within_weaker q n ns A (still q ns) (Leaves s ns) m (λ x ks given. (subst (Inside s) (sym given.1) inside, extends_same ns ks given.1)) h

  start_within : (t : Start) (s : Scope) (ns : List Name) → Inside s ns → found_start typed t s ≡ None → Low top (found_start counted t s) → Within q (size_of (found_start counted t s)) ns (Unit {0}) (Leaves (behind_start t s) ns) (begin_for cx t)
  start_within start.Nothing s ns inside e h = kept (size_of no_counts) s ns inside (Unit {0}) nothing (calm_nothing q (size_of no_counts) ns)
  start_within (start.Expr x) s ns inside e h =
      kept (size_of (counts_in exact body s x)) s ns inside (Unit {0}) (eval cx x >> nothing)
      (behind q (size_of (counts_in exact body s x)) ns ℕ (Unit {0}) anything (still q ns) (eval cx x) (λ _. nothing) (evals s ns inside x role.Value refl e h) (λ _ _. calm_nothing q none ns))
  start_within (start.Declare d) s ns inside e h = declares_within d.word d.declarators s ns inside e h

  -- ---- statements

  scoped_within : (n : Size) (ns : List Name) (m : Step Flow) → Within q n ns Flow (λ f ks. Extends ns ks) m → Makes q ns n Flow (scoped m)
  scoped_within n ns m h =
      before q n ns ℕ Flow (λ k. k ≡ length ns) (still q ns) (look (λ s. length s.locals)) _ (calm_look q none ns ℕ (λ k. k ≡ length ns) (λ s. length s.locals) (λ s e. names_length s.locals ∙ ap length e)) (λ k is_k.
      within_then q n none n ns Flow Flow (λ f ks. Extends ns ks) (still q ns) m _ (omega arith, omega arith) h (λ f ks more.
      within_then q none none none ks (Unit {0}) Flow (λ x ms. ms ≡ ns) (still q ns) (change (λ s. record s { locals = take k s.locals })) (λ _. pure f) (omega arith, omega arith)
      (within_locals q none ks (λ x ms. ms ≡ ns) (λ ls. take k ls) (λ ls e. ap (λ (k : ℕ). names (take k ls)) is_k ∙ first_names ns ls more.0 (e ∙ more.1)))
      (λ x ms is. within_pure q none ms Flow (still q ns) f (tt, is))))

  -- what leaves some scope, in a scope of its own
  scoped_leaves : (n : Size) (s : Scope) (ns : List Name) (m : Step Flow) → Within q n ns Flow (Leaves s ns) m → Makes q ns n Flow (scoped m)
  scoped_leaves n s ns m h = scoped_within n ns m (within_weaker q n ns Flow (Leaves s ns) (λ f ks. Extends ns ks) m (λ f ks left. left.1) h)

  turns_within : (p : Place) (t e : Option Expr) (m : Step Flow) (s : Scope) (ns : List Name) (n : Size) → Inside s ns → found_test typed t s ≡ None → found_value typed e s ≡ None → Low top (found_test counted t s) → Low top (found_value counted e s) → Makes q ns n Flow (scoped m)
      → Makes q ns (plus (times (cx.setting.turns + 1) (size_of (found_test counted t s))) (plus (times cx.setting.turns (size_of (found_value counted e s))) (times cx.setting.turns n))) Flow (turns cx p t e m)
  turns_within p t e m s ns n inside a b c d h =
      loop_makes q ns (spend cx.setting p) (within_spend q none ns Flow (still q ns) cx.setting p) (size_of (found_test counted t s)) n (size_of (found_value counted e s)) cx.setting.turns (eval_if cx 1 t) (scoped m) (eval_if cx 0 e >> nothing)
      (test_within s ns inside t a c) h
      (behind q (size_of (found_value counted e s)) ns ℕ (Unit {0}) anything (still q ns) (eval_if cx 0 e) (λ _. nothing) (value_within s ns inside e b d) (λ _ _. calm_nothing q none ns))

  next_within : (n : Size) (ns ks : List Name) (f : Flow) (m : Step Flow) → Extends ns ks → Within q n ks Flow (λ f ms. Extends ns ms) m → Within q n ks Flow (λ f ms. Extends ns ms) (then_next f m)
  next_within n ns ks Next m more h = h
  next_within n ns ks Broke m more h = within_pure q n ks Flow (λ f ms. Extends ns ms) Broke more
  next_within n ns ks Continued m more h = within_pure q n ks Flow (λ f ms. Extends ns ms) Continued more
  next_within n ns ks (Returned v) m more h = within_pure q n ks Flow (λ f ms. Extends ns ms) (Returned v) more

  -- where nothing is broken and the bounds are kept
  abbrev IsLimited : Stmt → Type 0
  IsLimited t = (s : Scope) (ns : List Name) → Inside s ns → (walk typed t).found s ≡ None → Low top ((walk counted t).found s) → Within q (size_of ((walk counted t).found s)) ns Flow (Leaves ((walk counted t).behind s) ns) (execute cx t)

  abbrev Piece : Type 0
  Piece = (t : Stmt) × IsLimited t

  abbrev stmts : List Piece → List Stmt
  stmts ys = map (λ e. e.0) ys

  abbrev sum : List Stmt → Scope → Counts
  sum ts s = in_turn counted (map (walk counted) ts) s

  sequence_within : (ys : List Piece) (s : Scope) (ns : List Name) → Inside s ns → in_turn typed (map (walk typed) (stmts ys)) s ≡ None → Low top (sum (stmts ys) s) → Within q (size_of (sum (stmts ys) s)) ns Flow (λ f ks. Extends ns ks) (execute_all cx (stmts ys))
  sequence_within [] s ns inside e h = within_pure q (size_of no_counts) ns Flow (λ f ks. Extends ns ks) Next (extends_same ns ns refl)
  sequence_within (y ∷ ys) s ns inside e h =
      let one : Counts = (walk counted y.0).found s in
      let after : Scope = (walk counted y.0).behind s in
      let rest : Counts = sum (stmts ys) after in
      let parts = both_none ((walk typed y.0).found s) (in_turn typed (map (walk typed) (stmts ys)) ((walk typed y.0).behind s)) e in
      let later : in_turn typed (map (walk typed) (stmts ys)) after ≡ None =
      subst (λ (u : Scope). in_turn typed (map (walk typed) (stmts ys)) u ≡ None) (same_behind typed counted y.0 s) parts.1 in
      within_then q (size_of one) (size_of rest) (size_of (exact.together one rest)) ns Flow Flow (Leaves after ns) (λ f ks. Extends ns ks) (execute cx y.0) (λ f. then_next f (execute_all cx (stmts ys))) (omega arith, omega arith)
      (y.1 s ns inside parts.0 (left_of one rest top h)) (λ f ks left.
      next_within (size_of rest) ns ks f (execute_all cx (stmts ys)) left.1
      (within_weaker q (size_of rest) ks Flow (λ f ms. Extends ks ms) (λ f ms. Extends ns ms) (execute_all cx (stmts ys)) (λ f ms more. extends_more ns ks ms left.1 more)
      (sequence_within ys after ks left.0 later (right_of one rest top h))))

  abbrev kids : Stmt-F Piece → Stmt-F Stmt
  kids y = map-Stmt Piece Stmt (λ e. e.0) y

  abbrev FormLimited : Stmt-F Stmt → Type 0
  FormLimited z = (s : Scope) (ns : List Name) → Inside s ns → (walk_step typed (map-Stmt Stmt (Walked First) (walk typed) z)).found s ≡ None → Low top ((walk_step counted (map-Stmt Stmt (Walked Counts) (walk counted) z)).found s)
      → Within q (size_of ((walk_step counted (map-Stmt Stmt (Walked Counts) (walk counted) z)).found s)) ns Flow (Leaves ((walk_step counted (map-Stmt Stmt (Walked Counts) (walk counted) z)).behind s) ns) (stmt_step cx (map-Stmt Stmt (Step Flow) (execute cx) z))

  -- a part that is a scope of its own
  part_within : (y : Piece) (s : Scope) (ns : List Name) → Inside s ns → (walk typed y.0).found s ≡ None → Low top ((walk counted y.0).found s) → Makes q ns (size_of ((walk counted y.0).found s)) Flow (scoped (execute cx y.0))
  part_within y s ns inside e h = scoped_leaves (size_of ((walk counted y.0).found s)) ((walk counted y.0).behind s) ns (execute cx y.0) (y.1 s ns inside e h)

  if_within : (t : Expr) (s : Scope) (ns : List Name) (n : Size) (one other : Counts) (m o : Step Flow) → Inside s ns → Fits (plus (size_of (weighed exact body s t)) (plus (size_of one) (size_of other))) n → broken_in (means s) t role.Value ≡ None → Low top (weighed exact body s t)
      → Makes q ns (size_of one) Flow m → Makes q ns (size_of other) Flow o → Within q n ns Flow (Leaves s ns) (eval cx t >>= (λ v. cond (is_true v) m o))
  if_within t s ns n one other m o inside low e h a c =
      let both : Size = plus (size_of one) (size_of other) in
      kept n s ns inside Flow (eval cx t >>= (λ v. cond (is_true v) m o))
      (calm_then q (size_of (weighed exact body s t)) both n ns ℕ Flow anything (still q ns) (eval cx t) _ low (weighs s ns inside t e h) (λ v _.
      within_cond q both ns Flow (still q ns) (is_true v) m o
      (makes_more q ns (size_of one) both Flow m (omega arith, omega arith) a) (makes_more q ns (size_of other) both Flow o (omega arith, omega arith) c)))

  form : (y : Stmt-F Piece) → FormLimited (kids y)
  form (Stmt-F.Empty p) s ns inside e h = kept (size_of no_counts) s ns inside Flow (pure Next) (calm_pure q (size_of no_counts) ns Flow anything Next tt)
  form (Stmt-F.Expr p x) s ns inside e h =
      let n : Size = size_of (counts_in exact body s x) in
      kept n s ns inside Flow (eval cx x >> pure Next) (behind q n ns ℕ Flow anything (still q ns) (eval cx x) (λ _. pure Next) (evals s ns inside x role.Statement refl e h) (λ _ _. calm_pure q none ns Flow anything Next tt))
  form (Stmt-F.Declare d) s ns inside e h =
      let n : Size = size_of (declarators counted d.word d.declarators s) in
      let after : Scope = declared d.word d.declarators s in
      within_then q n none n ns (Unit {0}) Flow (Leaves after ns) (Leaves after ns) (declare_all cx d.word d.declarators) (λ _. pure Next) (omega arith, omega arith) (declares_within d.word d.declarators s ns inside e h)
      (λ x ks left. within_pure q none ks Flow (Leaves after ns) Next left)
  form (Stmt-F.Block p ys) s ns inside e h =
      let n : Size = size_of (sum (stmts ys) (enter s)) in
      kept n s ns inside Flow (scoped (execute_all cx (stmts ys))) (scoped_within n ns (execute_all cx (stmts ys)) (sequence_within ys (enter s) ns (inside_entered s ns inside) e h))
  form (Stmt-F.Label p n y) s ns inside e h = kept (size_of ((walk counted y.0).found s)) s ns inside Flow (scoped (execute cx y.0)) (part_within y s ns inside e h)
  form (Stmt-F.If p t y None) s ns inside e h =
      let test : Counts = weighed exact body s t in
      let yes : Counts = (walk counted y.0).found s in
      let parts = both_none (broken_in (means s) t role.Value) (or_else ((walk typed y.0).found s) None) e in
      let rest : Low top (exact.together yes no_counts) = right_of test (exact.together yes no_counts) top h in
      if_within t s ns (size_of (exact.together test (exact.together yes no_counts))) yes no_counts (scoped (execute cx y.0)) (pure Next) inside (omega arith, omega arith) parts.0 (left_of test (exact.together yes no_counts) top h)
      (part_within y s ns inside (both_none ((walk typed y.0).found s) None parts.1).0 (left_of yes no_counts top rest)) (calm_pure q (size_of no_counts) ns Flow anything Next tt)
  form (Stmt-F.If p t y (Some z)) s ns inside e h =
      let test : Counts = weighed exact body s t in
      let yes : Counts = (walk counted y.0).found s in
      let no : Counts = (walk counted z.0).found s in
      let parts = both_none (broken_in (means s) t role.Value) (or_else ((walk typed y.0).found s) ((walk typed z.0).found s)) e in
      let both = both_none ((walk typed y.0).found s) ((walk typed z.0).found s) parts.1 in
      let rest : Low top (exact.together yes no) = right_of test (exact.together yes no) top h in
      if_within t s ns (size_of (exact.together test (exact.together yes no))) yes no (scoped (execute cx y.0)) (scoped (execute cx z.0)) inside (omega arith, omega arith) parts.0 (left_of test (exact.together yes no) top h)
      (part_within y s ns inside both.0 (left_of yes no top rest)) (part_within z s ns inside both.1 (right_of yes no top rest))
  form (Stmt-F.While p t y) s ns inside e h =
      let k : ℕ = cx.setting.turns in
      let test : Counts = weighed exact body s t in
      let turn : Counts = (walk counted y.0).found (loop_in s) in
      let parts = both_none (broken_in (means s) t role.Value) ((walk typed y.0).found (loop_in s)) e in
      let all : Counts = exact.together (exact.times (k + 1) test) (exact.times k turn) in
      let tested : Low top test = turned_low (k + 1) test top (omega arith) (left_of (exact.times (k + 1) test) (exact.times k turn) top h) in
      let turned : Low top turn = turned_low k turn top bounds.turns (right_of (exact.times (k + 1) test) (exact.times k turn) top h) in
      kept (size_of all) s ns inside Flow (turns cx p (Some t) None (execute cx y.0))
      (makes_more q ns (plus (times (k + 1) (size_of test)) (plus (times k (size_of no_counts)) (times k (size_of turn)))) (size_of all) Flow (turns cx p (Some t) None (execute cx y.0))
      (omega arith, while_room k test.accesses test.weight turn.accesses turn.weight)
      (turns_within p (Some t) None (execute cx y.0) s ns (size_of turn) inside parts.0 refl tested (omega arith, omega arith, omega arith, omega arith) (part_within y (loop_in s) ns (inside_loop s ns inside) parts.1 turned)))
  form (Stmt-F.DoWhile p y t) s ns inside e h =
      let k : ℕ = cx.setting.turns in
      let test : Counts = weighed exact body s t in
      let turn : Counts = (walk counted y.0).found (loop_in s) in
      let parts = both_none ((walk typed y.0).found (loop_in s)) (broken_in (means s) t role.Value) e in
      let all : Counts = exact.times k (exact.together turn test) in
      let one : Low top (exact.together turn test) = turned_low k (exact.together turn test) top bounds.turns h in
      kept (size_of all) s ns inside Flow _
      (makes_more q ns (times k (plus (size_of turn) (size_of test))) (size_of all) Flow _
      (omega arith, do_room k test.accesses test.weight turn.accesses turn.weight)
      (do_loop_makes q ns (spend cx.setting p) (within_spend q none ns Flow (still q ns) cx.setting p) (size_of test) (size_of turn) k (eval cx t) (scoped (execute cx y.0)) (weighs s ns inside t parts.1 (right_of turn test top one))
      (part_within y (loop_in s) ns (inside_loop s ns inside) parts.0 (left_of turn test top one))))
  form (Stmt-F.For p first t x y) s ns inside e h =
      let k : ℕ = cx.setting.turns in
      let within : Scope = behind_start first (enter s) in
      let begun : Counts = found_start counted first (enter s) in
      let test : Counts = found_test counted t within in
      let step : Counts = found_value counted x within in
      let turn : Counts = (walk counted y.0).found (loop_in within) in
      let turning : Counts = exact.together (exact.times (k + 1) test) (exact.together (exact.times k step) (exact.times k turn)) in
      let loops : Size = plus (times (k + 1) (size_of test)) (plus (times k (size_of step)) (times k (size_of turn))) in
      let parts = both_none (found_start typed first (enter s)) (or_else (found_test typed t within) (or_else (found_value typed x within) ((walk typed y.0).found (loop_in within)))) e in
      let rest = both_none (found_test typed t within) (or_else (found_value typed x within) ((walk typed y.0).found (loop_in within))) parts.1 in
      let last = both_none (found_value typed x within) ((walk typed y.0).found (loop_in within)) rest.1 in
      let most : Low top turning = right_of begun turning top h in
      let least : Low top (exact.together (exact.times k step) (exact.times k turn)) = right_of (exact.times (k + 1) test) (exact.together (exact.times k step) (exact.times k turn)) top most in
      let tested : Low top test = turned_low (k + 1) test top (omega arith) (left_of (exact.times (k + 1) test) (exact.together (exact.times k step) (exact.times k turn)) top most) in
      let stepped : Low top step = turned_low k step top bounds.turns (left_of (exact.times k step) (exact.times k turn) top least) in
      let turned : Low top turn = turned_low k turn top bounds.turns (right_of (exact.times k step) (exact.times k turn) top least) in
      let room : Fits loops (size_of turning) = (omega arith, turns_room k test.accesses test.weight step.accesses step.weight turn.accesses turn.weight) in
      let n : Size = size_of (exact.together begun turning) in
      kept n s ns inside Flow (scoped (begin_for cx first >> turns cx p t x (execute cx y.0)))
      (scoped_within n ns (begin_for cx first >> turns cx p t x (execute cx y.0))
      (within_then q (size_of begun) (size_of turning) n ns (Unit {0}) Flow (Leaves within ns) (λ f ks. Extends ns ks) (begin_for cx first) (λ _. turns cx p t x (execute cx y.0)) (omega arith, omega arith)
      (start_within first (enter s) ns (inside_entered s ns inside) parts.0 (left_of begun turning top h)) (λ _ ks left.
      within_weaker q (size_of turning) ks Flow (still q ks) (λ f ms. Extends ns ms) (turns cx p t x (execute cx y.0)) (λ f ms same. extends_more ns ks ms left.1 (extends_same ks ms same.1))
      (makes_more q ks loops (size_of turning) Flow (turns cx p t x (execute cx y.0)) room
      (turns_within p t x (execute cx y.0) within ks (size_of turn) left.0 rest.0 last.0 tested stepped (part_within y (loop_in within) ks (inside_loop within ks left.0) last.1 turned))))))
  form (Stmt-F.Return p x) s ns inside e h =
      let n : Size = size_of (found_returned counted p x s) in
      kept n s ns inside Flow (eval_if cx 0 x >>= (λ v. pure (Returned v)))
      (behind q n ns ℕ Flow anything (still q ns) (eval_if cx 0 x) (λ v. pure (Returned v)) (returned_within s ns inside p x e h) (λ v _. calm_pure q none ns Flow anything (Returned v) tt))
  form (Stmt-F.Break p) s ns inside e h = kept (size_of no_counts) s ns inside Flow (pure Broke) (calm_pure q (size_of no_counts) ns Flow anything Broke tt)
  form (Stmt-F.Continue p) s ns inside e h = kept (size_of no_counts) s ns inside Flow (pure Continued) (calm_pure q (size_of no_counts) ns Flow anything Continued tt)

  rolled : (z : Stmt-F Stmt) → FormLimited z → IsLimited (roll-Stmt z)
  rolled z f s ns inside e h =
      let walk_is : walk counted (roll-Stmt z) ≡ walk_step counted (map-Stmt Stmt (Walked Counts) (walk counted) z) = fold-roll-Stmt (Walked Counts) (walk_step counted) z in
      let it = f s ns inside (sym (ap (λ (w : Walked First). w.found s) (fold-roll-Stmt (Walked First) (walk_step typed) z)) ∙ e) (subst (λ (w : Walked Counts). Low top (w.found s)) walk_is h) in
      subst (λ (m : Step Flow). Within q (size_of ((walk counted (roll-Stmt z)).found s)) ns Flow (Leaves ((walk counted (roll-Stmt z)).behind s) ns) m) (sym (fold-roll-Stmt (Step Flow) (stmt_step cx) z))
      (subst (λ (w : Walked Counts). Within q (size_of (w.found s)) ns Flow (Leaves (w.behind s) ns) (stmt_step cx (map-Stmt Stmt (Step Flow) (execute cx) z))) (sym walk_is) it)

  stmt_limited : (t : Stmt) → IsLimited t
  stmt_limited = ind-Stmt IsLimited (λ z y is. rolled z (subst FormLimited is (form y)))

  -- the statements, each with its proof
  pieces : List Stmt → List Piece
  pieces [] = []
  pieces (t ∷ ts) = (t, stmt_limited t) ∷ pieces ts

  pieces_are : (ts : List Stmt) → stmts (pieces ts) ≡ ts
  unfolding pieces
  pieces_are [] = refl
  pieces_are (t ∷ ts) = ap (λ (l : List Stmt). t ∷ l) (pieces_are ts)

  abbrev AllLimited : List Stmt → Type 0
  AllLimited ts = (s : Scope) (ns : List Name) → Inside s ns → in_turn typed (map (walk typed) ts) s ≡ None → Low top (sum ts s) → Within q (size_of (sum ts s)) ns Flow (λ f ks. Extends ns ks) (execute_all cx ts)

  body_limited : (ts : List Stmt) → AllLimited ts
  body_limited ts = subst AllLimited (pieces_are ts) (sequence_within (pieces ts))

  -- ---- functions

  module _ (entries : List Entry) (counts : AllCounted entries) (f : Function) (e : walk_body typed entries f ≡ None) (h : Low top (walk_body counted entries f)) (ns : List Name) (args : List ℕ) where
    abbrev bound : Size
    bound = size_of (walk_body counted entries f)

    abbrev own : List Name
    own = param_names f.params

    begun : Inside (function_scope entries f) own
    begun = record { inner = refl; covers = covers_params entries f.params counts }

    -- the caller's locals come back
    abbrev back : List Local → Flow → Step ℕ
    back outer flow = change (λ s. record s { locals = outer }) >> pure (result_of flow)

    abbrev runs : List Local → Step ℕ
    runs outer = execute_all cx f.body >>= back outer

    back_within : (outer : List Local) → names outer ≡ ns → (flow : Flow) (ms : List Name) → Within q none ms ℕ (still q ns) (back outer flow)
    back_within outer outer_is flow ms =
        within_then q none none none ms (Unit {0}) ℕ (λ x ks. ks ≡ ns) (still q ns) (change (λ s. record s { locals = outer })) (λ _. pure (result_of flow)) (omega arith, omega arith)
        (within_locals q none ms (λ x ks. ks ≡ ns) (λ ls. outer) (λ ls same. outer_is)) (λ x ks same. within_pure q none ks ℕ (still q ns) (result_of flow) (tt, same))

    runs_within : (outer : List Local) → names outer ≡ ns → Within q bound own ℕ (still q ns) (runs outer)
    runs_within outer outer_is =
        within_then q bound none bound own Flow ℕ (λ flow ks. Extends own ks) (still q ns) (execute_all cx f.body) (back outer) (omega arith, omega arith) (body_limited f.body (function_scope entries f) own begun e h)
        (λ flow ms more. back_within outer outer_is flow ms)

    -- a body on arguments
    pub run_body_within : Makes q ns bound ℕ (run_body cx f args)
    run_body_within =
        before q bound ns (List Local) ℕ (λ outer. names outer ≡ ns) (still q ns) (look (λ s. s.locals)) (λ outer. change (λ s. record s { locals = parameters [] 0 f.params args }) >> runs outer)
        (calm_look q none ns (List Local) (λ outer. names outer ≡ ns) (λ s. s.locals) (λ s same. same)) (λ outer outer_is.
        within_then q none bound bound ns (Unit {0}) ℕ (λ x ks. ks ≡ own) (still q ns) (change (λ s. record s { locals = parameters [] 0 f.params args })) (λ _. runs outer) (omega arith, omega arith)
        (within_locals q none ns (λ x ks. ks ≡ own) (λ ls. parameters [] 0 f.params args) (λ ls same. body_names f.params args))
        (λ x ks is. subst (λ (ks : List Name). Within q bound ks ℕ (still q ns) (runs outer)) (sym is) (runs_within outer outer_is)))

    -- the same for a call, which may be a section
    pub call_body_within : Makes q ns (size_of (exact.together (exact.weight 1) (walk_body counted entries f))) ℕ (call_body cx f args)
    call_body_within =
        let n : Size = size_of (exact.together (exact.weight 1) (walk_body counted entries f)) in
        within_cond q n ns ℕ (still q ns) (is_atomic f) (in_section (run_body cx f args)) (run_body cx f args)
        (calm_then q (actions 1) (plus bound (actions 1)) n ns (Unit {0}) ℕ anything (still q ns) begin_section _ (omega arith, omega arith) (calm_begin q ns) (λ _ _.
        calm_then q bound (actions 1) (plus bound (actions 1)) ns ℕ ℕ anything (still q ns) (run_body cx f args) _ (omega arith, omega arith) run_body_within (λ v _.
        behind q (actions 1) ns (Unit {0}) ℕ anything (still q ns) end_section (λ _. pure v) (calm_end q ns) (λ _ _. calm_pure q none ns ℕ anything v tt))))
        (makes_more q ns bound n ℕ (run_body cx f args) (omega arith, omega arith) run_body_within)
