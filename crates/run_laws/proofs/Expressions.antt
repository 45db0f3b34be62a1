-- An expression that fits its types makes at most what it counts.
use Rattle.std.proofs.Common.{◌≡◌, ℕ, zero, suc, ◌+◌, ◌≤◌, List, [], ◌∷◌, ◌++◌, Option, Some, None, Bool, true, false, cond, map, refl, sym, ap, ◌∙◌, subst, arith}
use Rattle.std.specs.Prelude.{unwrap_or}
use Rattle.std.specs.Str.{bytes_eq}
use Rattle.std.proofs.lemmas.Bool.{false≢true}
use Rattle.dg_base.specs.declared.Place.{Place}
use Rattle.dg_base.specs.Values.{value_of, is_true}
use Rattle.c_tree.specs.declared.expr.Expr.{Expr, fold-roll-Expr, ind-Expr, map-Expr, roll-Expr}
use Rattle.c_tree.specs.declared.expr.Expr.TheOpen.{Expr-F}
use Rattle.c_tree.specs.declared.program.Function.{Function}
use Rattle.c_tree.specs.Operators.{unary_op}
use Rattle.c_rules.specs.declared.builtin.Builtin.{Builtin}
use Rattle.c_rules.specs.declared.builtin.Builtin.TheVariants as b
use Rattle.c_rules.specs.declared.builtin.Role.{Role}
use Rattle.c_rules.specs.declared.builtin.Role.TheVariants as role
use Rattle.c_rules.specs.declared.names.Variable.{Variable}
use Rattle.c_rules.specs.declared.names.Meaning.{Meaning as Meant}
use Rattle.c_rules.specs.declared.names.Meaning.TheVariants as meant
use Rattle.c_rules.specs.Names.{Name, Scope, or_else, builtin_named, variable_named, meaning_in, meaning_of}
use Rattle.c_rules.specs.Names.{function_named as function_of}
use Rattle.c_rules.specs.Scopes.{First, unless}
use Rattle.c_rules.specs.Types.{Judged, judged, judged_step, wholes, found_step, broken_in, broken_arguments, roles_in, call_fits, name_fits, index_fits, is_routine_role, inside_brackets, behind_address, right_of_comma}
use Rattle.c_rules.proofs.Wholes.{wholes_are}
use Rattle.c_check.specs.declared.counts.Counts.{Counts}
use Rattle.c_rules.specs.Routines.{created_by}
use Rattle.c_check.specs.Counts.{exact, Cost, cost, cost_step, cost_namings, access_to, operator_weight, assign_weight, reading, accessing, arguments, thread_of, first_accesses, assign_accesses}
use Rattle.c_check.specs.Counts.{call as call_counts}
use Rattle.c_check.proofs.Namings.{same_created}
use Rattle.run_model.specs.declared.state.Slot.{Slot}
use Rattle.run_model.specs.Names.{first_named}
use Rattle.run_model.specs.Steps.{Step, ◌>>=◌, pure, in_turn}
use Rattle.run_model.specs.Cells.{slot}
use Rattle.run_model.specs.Calls.{Meaning, Context, no_other, function_named, function_in, create, argument, builtin_call}
use Rattle.run_model.specs.Meaning.{count, call, call_builtin, runs_of, expr_step, meaning, eval}
use Rattle.run_laws.proofs.Naming.{Covers, counted_at, Inside}
use Rattle.run_laws.proofs.Growing.{Size, size_of, actions, none, plus, Fits, anything, Touches, Found, Calm, calm_then, behind, within_cond, calm_pure, within_stop, calm_slot, calm_create}
use Rattle.run_laws.proofs.Meanings.{still, Makes, Limited, Argument, makes_more, any_found, argument_more, worth, limited_lvalue, limited_binary, limited_assign, limited_count, argument_none, limited_builtin}
use Rattle.run_laws.proofs.Routines.{Creating, creating, runs_function, has_number, no_name}

-- ---- what nothing breaks, and what is no more than a bound

pub both_none : (f g : First) → or_else f g ≡ None → (f ≡ None) × (g ≡ None)
both_none (Some p) g e = absurd (let no : ◌≡◌ {A = First} (Some p) None = e in cc)
both_none None g e = (refl, e)

pub holds_at : (t : Bool) (p : Place) → unless t p ≡ None → t ≡ true
holds_at true p e = refl
holds_at false p e = absurd (let no : ◌≡◌ {A = First} (Some p) None = e in cc)

-- bounds on counts: how many threads a thread below creates, and how many creations lie one below the other
pub record Bound : Type 0 where
  pub most : ℕ
  pub depth : ℕ

-- within these, and within the limits on one thread and all below it
abbrev pub Low : Bound → Counts → Type 0
Low t c = (c.most ≤ t.most) × (c.depth ≤ t.depth) × (c.accesses ≤ 1024) × (c.weight ≤ 32768)

pub left_of : (a b : Counts) (t : Bound) → Low t (exact.together a b) → Low t a
left_of a b t h = (omega (arith, h.0), omega (arith, h.1), omega (arith, h.2), omega (arith, h.3))

pub right_of : (a b : Counts) (t : Bound) → Low t (exact.together a b) → Low t b
right_of a b t h = (omega (arith, h.0), omega (arith, h.1), omega (arith, h.2), omega (arith, h.3))

-- ---- roles

-- what stands there is evaluated, or its cell is found
abbrev pub IsUsed : Role → Type 0
IsUsed r = is_routine_role r ≡ false

comma_used : (r : Role) → IsUsed (right_of_comma r)
comma_used role.LeftOfComma = refl
comma_used _ = refl

brackets_used : (r : Role) → IsUsed r → IsUsed (inside_brackets r)
brackets_used role.RoutineName u = absurd (false≢true (sym u))
brackets_used _ u = refl

address_used : (r : Role) → IsUsed r → IsUsed (behind_address r)
address_used role.Routine u = absurd (false≢true (sym u))
address_used _ u = refl

-- the first argument is used, and so is the fourth
first_used : (m : Meant) → IsUsed (roles_in m 0)
first_used (meant.Builtin b.PthreadCreate) = refl
first_used (meant.Builtin b.PthreadJoin) = refl
first_used (meant.Builtin b.Lock) = refl
first_used (meant.Builtin b.Unlock) = refl
first_used (meant.Builtin b.Init) = refl
first_used (meant.Builtin b.Destroy) = refl
first_used (meant.Builtin b.AssertFail) = refl
first_used (meant.Builtin _) = refl
first_used _ = refl

fourth_used : (m : Meant) → IsUsed (roles_in m 3)
fourth_used (meant.Builtin b.PthreadCreate) = refl
fourth_used (meant.Builtin b.PthreadJoin) = refl
fourth_used (meant.Builtin b.Lock) = refl
fourth_used (meant.Builtin b.Unlock) = refl
fourth_used (meant.Builtin b.Init) = refl
fourth_used (meant.Builtin b.Destroy) = refl
fourth_used (meant.Builtin b.AssertFail) = refl
fourth_used (meant.Builtin _) = refl
fourth_used _ = refl

-- so is each of a function
all_used : (o : Option Variable) (h : Option Function) (c : Option Builtin) → (h ≡ None → ⊥) → (j : ℕ) → IsUsed (roles_in (meaning_in o h c) j)
all_used (Some v) h c there j = refl
all_used None (Some h) c there j = refl
all_used None None c there j = absurd (there refl)

unnumbered_at : (x : Function) (fs : List Function) (i : ℕ) (n : Name) (t : Bool) → (function_of fs n ≡ None → first_named (λ (f : Function). f.name) (i + 1) fs n ≡ None)
    → cond t (Some x) (function_of fs n) ≡ None → cond t (Some i) (first_named (λ (f : Function). f.name) (i + 1) fs n) ≡ None
unnumbered_at x fs i n true rest e = absurd (let no : ◌≡◌ {A = Option Function} (Some x) None = e in cc)
unnumbered_at x fs i n false rest e = rest e

unnumbered : (fs : List Function) (i : ℕ) (n : Name) → function_of fs n ≡ None → first_named (λ (f : Function). f.name) i fs n ≡ None
unnumbered [] i n e = refl
unnumbered (x ∷ fs) i n e = unnumbered_at x fs i n (bytes_eq x.name n) (unnumbered fs (i + 1) n) e

-- a name that is used is a variable's
name_variable : (r : Role) (o : Option Variable) (h : Option Function) (c : Option Builtin) → IsUsed r → name_fits r (meaning_in o h c) ≡ true → (v : Variable) × (o ≡ Some v)
name_variable r (Some v) h c u e = (v, refl)
name_variable r None (Some h) c u e = absurd (false≢true (sym u ∙ e))
name_variable r None None (Some c) u e = absurd (false≢true e)
name_variable r None None None u e = absurd (false≢true e)

index_variable : (r : Role) (o : Option Variable) (h : Option Function) (c : Option Builtin) → index_fits r (meaning_in o h c) ≡ true → (v : Variable) × (o ≡ Some v)
index_variable r (Some v) h c e = (v, refl)
index_variable r None (Some h) c e = absurd (false≢true e)
index_variable r None None (Some c) e = absurd (false≢true e)
index_variable r None None None e = absurd (false≢true e)

-- What the calls of a context do, by what bodies come to: a call makes at most what its body counts and four actions, and a
-- function of which a thread is made has this property, where what is made keeps the bounds.
pub record Bounds (q : ℕ → Type 0) (top : Bound) (cx : Context) (body : Name → Counts) : Type 0 where
  pub calls : (n : Name) (f : ℕ) → function_named cx.setting n ≡ Some f → Low top (body n) → (ns : List Name) (args : List ℕ) → Calm q (size_of (exact.together (exact.weight 1) (body n))) ns ℕ anything (cx.call f args)
  pub creates : (n : Name) (f : ℕ) → function_named cx.setting n ≡ Some f → Low top (exact.new_thread (body n)) → q f
  pub only : cx.setting.other ≡ no_other
  pub turns : 1 ≤ cx.setting.turns

module _ (q : ℕ → Type 0) (top : Bound) (cx : Context) (body : Name → Counts) (bounds : Bounds q top cx body) (s : Scope) (ns : List Name) (inside : Inside s ns) where
  abbrev means : Name → Meant
  means = meaning_of cx.setting.functions s

  abbrev costs : Expr → Cost
  costs = cost exact body (variable_named s)

  -- where nothing is broken and the bounds are kept
  abbrev IsLimited : Expr → Type 0
  IsLimited x = (r : Role) → IsUsed r → broken_in means x r ≡ None → Low top (costs x).parts → Limited q ns (costs x) (meaning cx x)

  abbrev Part : Type 0
  Part = (x : Expr) × IsLimited x

  abbrev exprs : List Part → List Expr
  exprs ys = map (λ e. e.0) ys

  abbrev kids : Expr-F Part → Expr-F Expr
  kids y = map-Expr Part Expr (λ e. e.0) y

  read : (y : Part) (r : Role) → IsUsed r → broken_in means y.0 r ≡ None → Low top (reading exact (costs y.0)) → Limited q ns (costs y.0) (meaning cx y.0)
  read y r u e h = y.1 r u e (right_of (costs y.0).access (costs y.0).parts top h)

  accessed : (m : ℕ) (y : Part) (r : Role) → IsUsed r → broken_in means y.0 r ≡ None → Low top (accessing exact m (costs y.0)) → Limited q ns (costs y.0) (meaning cx y.0)
  accessed m y r u e h = y.1 r u e (right_of (exact.times m (costs y.0).access) (costs y.0).parts top h)

  -- ---- arguments

  abbrev judges : List Part → List Judged
  judges ys = map (judged means) (exprs ys)

  abbrev metas : List Part → List Meaning
  metas ys = map (meaning cx) (exprs ys)

  abbrev sums : ℕ → List Part → Counts
  sums m ys = arguments exact m (map costs (exprs ys))

  first_most : (m : ℕ) (y : Part) (ys : List Part) → Low top (sums m (y ∷ ys)) → Low top (accessing exact m (costs y.0))
  first_most m y ys h = left_of (accessing exact m (costs y.0)) (sums 1 ys) top (right_of (exact.weight 1) (exact.together (accessing exact m (costs y.0)) (sums 1 ys)) top h)

  rest_most : (m : ℕ) (y : Part) (ys : List Part) → Low top (sums m (y ∷ ys)) → Low top (sums 1 ys)
  rest_most m y ys h = right_of (accessing exact m (costs y.0)) (sums 1 ys) top (right_of (exact.weight 1) (exact.together (accessing exact m (costs y.0)) (sums 1 ys)) top h)

  -- an argument alone
  abbrev alone : Part → Size
  alone y = plus (size_of (costs y.0).parts) (actions 1)

  -- arguments in turn
  all_limited : (roles : ℕ → Role) → ((j : ℕ) → IsUsed (roles j)) → (i m : ℕ) (done : List ℕ) (ys : List Part) → broken_arguments roles i (judges ys) ≡ None → Low top (sums m ys) → Makes q ns (size_of (sums m ys)) (List ℕ) (in_turn done (runs_of (metas ys)))
  all_limited roles u i m done [] e h = calm_pure q (size_of (sums m [])) ns (List ℕ) anything done tt
  all_limited roles u i m done (y ∷ ys) e h =
      let parts = both_none (broken_in means y.0 (roles i)) (broken_arguments roles (i + 1) (judges ys)) e in
      calm_then q (alone y) (size_of (sums 1 ys)) (size_of (sums m (y ∷ ys))) ns ℕ (List ℕ) anything (still q ns) (meaning cx y.0).run (λ v. in_turn (done ++ v ∷ []) (runs_of (metas ys)))
      (omega arith, omega arith) (accessed m y (roles i) (u i) parts.0 (first_most m y ys h)).once (λ v _. all_limited roles u (i + 1) 1 (done ++ v ∷ []) ys parts.1 (rest_most m y ys h))

  first_argument : (m : ℕ) (y : Part) (ys : List Part) → Limited q ns (costs y.0) (meaning cx y.0) → Argument q ns (size_of (sums m (y ∷ ys))) (meaning cx y.0)
  first_argument m y ys it = record {
    run = makes_more q ns (alone y) (size_of (sums m (y ∷ ys))) ℕ (meaning cx y.0).run (omega arith, omega arith) it.once;
    find = any_found q ns (size_of (costs y.0).parts) (size_of (sums m (y ∷ ys))) (costs y.0).access.accesses (meaning cx y.0).find (omega arith, omega arith) it.find;
  }

  -- each of them alone
  one_limited : (roles : ℕ → Role) (i m : ℕ) (ys : List Part) (k j : ℕ) → j ≡ i + k → IsUsed (roles j) → broken_arguments roles i (judges ys) ≡ None → Low top (sums m ys) → Argument q ns (size_of (sums m ys)) (argument (metas ys) k)
  one_limited roles i m [] zero j is u e h = argument_none q ns (size_of (sums m []))
  one_limited roles i m [] (suc k) j is u e h = argument_none q ns (size_of (sums m []))
  one_limited roles i m (y ∷ ys) zero j is u e h =
      let same : j ≡ i = omega (arith, is) in
      first_argument m y ys (accessed m y (roles i) (subst (λ (n : ℕ). IsUsed (roles n)) same u) (both_none (broken_in means y.0 (roles i)) (broken_arguments roles (i + 1) (judges ys)) e).0 (first_most m y ys h))
  one_limited roles i m (y ∷ ys) (suc k) j is u e h =
      argument_more q ns (size_of (sums 1 ys)) (size_of (sums m (y ∷ ys))) (argument (metas ys) k) (omega arith, omega arith)
      (one_limited roles (i + 1) 1 ys k j (omega (arith, is)) u (both_none (broken_in means y.0 (roles i)) (broken_arguments roles (i + 1) (judges ys)) e).1 (rest_most m y ys h))

  -- ---- calls

  abbrev one_thread : Size
  one_thread = record { creates = 1; actions = 2 }

  -- a create, behind its first argument and its fourth
  create_limited : (f : ℕ) (n : Size) (roles : ℕ → Role) (i m : ℕ) (ys : List Part) → q f → Fits (plus (size_of (sums m ys)) one_thread) n → IsUsed (roles i) → IsUsed (roles (i + 3)) → broken_arguments roles i (judges ys) ≡ None → Low top (sums m ys)
      → Makes q ns n ℕ ((argument (metas ys) 0).find >>= (λ c. (argument (metas ys) 3).run >>= (λ v. create cx.setting c f v)))
  create_limited f n roles i m [] h low u w e most =
      calm_then q none one_thread n ns Slot ℕ anything (still q ns) (argument (metas []) 0).find (λ c. (argument (metas []) 3).run >>= (λ v. create cx.setting c f v)) low (argument_none q ns none).find (λ c _.
      calm_then q none one_thread one_thread ns ℕ ℕ anything (still q ns) (argument (metas []) 3).run (λ v. create cx.setting c f v) (omega arith, omega arith) (argument_none q ns none).run (λ v _. calm_create q cx.setting ns c f v h))
  create_limited f n roles i m (y ∷ ys) h low u w e most =
      let parts = both_none (broken_in means y.0 (roles i)) (broken_arguments roles (i + 1) (judges ys)) e in
      let first : Limited q ns (costs y.0) (meaning cx y.0) = accessed m y (roles i) u parts.0 (first_most m y ys most) in
      calm_then q (size_of (costs y.0).parts) (plus (size_of (sums 1 ys)) one_thread) n ns Slot ℕ (Touches (costs y.0).access.accesses) (still q ns) (meaning cx y.0).find (λ c. (argument (metas ys) 2).run >>= (λ v. create cx.setting c f v))
      (omega (arith, low.0), omega (arith, low.1)) first.find (λ c _.
      calm_then q (size_of (sums 1 ys)) one_thread (plus (size_of (sums 1 ys)) one_thread) ns ℕ ℕ anything (still q ns) (argument (metas ys) 2).run (λ v. create cx.setting c f v) (omega arith, omega arith)
      (one_limited roles (i + 1) 1 ys 2 (i + 3) (omega arith) w parts.1 (rest_most m y ys most)).run (λ v _. calm_create q cx.setting ns c f v h))

  abbrev call_sum : Name → List Part → Counts
  call_sum n ys = call_counts exact body n (map costs (exprs ys))

  abbrev thread_sum : Name → List Part → Counts
  thread_sum n ys = thread_of exact body (created_by n (cost_namings (map costs (exprs ys))))

  abbrev before_body : Name → List Part → Counts
  before_body n ys = exact.together (exact.weight 1) (sums (first_accesses n) ys)

  arguments_most : (n : Name) (ys : List Part) → Low top (call_sum n ys) → Low top (sums (first_accesses n) ys)
  arguments_most n ys h =
      right_of (exact.weight 1) (sums (first_accesses n) ys) top (left_of (before_body n ys) (exact.together (body n) (thread_sum n ys)) top h)

  body_most : (n : Name) (ys : List Part) → Low top (call_sum n ys) → Low top (body n)
  body_most n ys h = left_of (body n) (thread_sum n ys) top (right_of (before_body n ys) (exact.together (body n) (thread_sum n ys)) top h)

  thread_most : (n : Name) (ys : List Part) → Low top (call_sum n ys) → Low top (thread_sum n ys)
  thread_most n ys h = right_of (body n) (thread_sum n ys) top (right_of (before_body n ys) (exact.together (body n) (thread_sum n ys)) top h)

  -- a call of a function
  function_limited : (p : Place) (n : Name) (f : ℕ) (roles : ℕ → Role) (ys : List Part) → function_named cx.setting n ≡ Some f → ((j : ℕ) → IsUsed (roles j)) → broken_arguments roles 0 (judges ys) ≡ None → Low top (call_sum n ys)
      → Makes q ns (size_of (call_sum n ys)) ℕ (call cx p n (metas ys) (Some f))
  function_limited p n f roles ys named u e h =
      calm_then q (size_of (sums (first_accesses n) ys)) (size_of (exact.together (exact.weight 1) (body n))) (size_of (call_sum n ys)) ns (List ℕ) ℕ anything (still q ns) (in_turn [] (runs_of (metas ys))) (cx.call f) (omega arith, omega arith)
      (all_limited roles u 0 (first_accesses n) [] ys e (arguments_most n ys h)) (λ args _. bounds.calls n f named (body_most n ys h) ns args)

  -- the function of a new thread
  made_limited : (n m : Name) (f : ℕ) (ys : List Part) → thread_sum n ys ≡ exact.new_thread (body m) → function_named cx.setting m ≡ Some f → Low top (call_sum n ys) → q f
  made_limited n m f ys same named h = bounds.creates m f named (subst (λ (c : Counts). Low top c) same (thread_most n ys h))

  create_call_limited : (p : Place) (n : Name) (r : Role) (roles : ℕ → Role) (ys : List Part) → Creating cx means n (exprs ys) → IsUsed (roles 0) → IsUsed (roles 3) → broken_arguments roles 0 (judges ys) ≡ None → Low top (call_sum n ys)
      → Makes q ns (size_of (call_sum n ys)) ℕ (builtin_call cx.setting p b.PthreadCreate (metas ys))
  create_call_limited p n r roles ys made u w e h =
      let found = runs_function cx.setting.functions s made.name made.fits in
      let numbered = has_number cx.setting.functions 0 made.name found.0 found.1 in
      let f : ℕ = numbered.0 in
      let named : function_named cx.setting made.name ≡ Some f = numbered.1 in
      let same : thread_sum n ys ≡ exact.new_thread (body made.name) = ap (thread_of exact body) (same_created exact body (variable_named s) n (exprs ys) ∙ made.counted) in
      let is : f ≡ function_in cx.setting (argument (metas ys) 2).spelled = sym (ap (function_in cx.setting) made.run ∙ ap (λ (o : Option ℕ). unwrap_or o 0) named) in
      let one : (thread_sum n ys).creates ≡ 1 = ap (λ (c : Counts). c.creates) same in
      create_limited (function_in cx.setting (argument (metas ys) 2).spelled) (size_of (call_sum n ys)) roles 0 (first_accesses n) ys
      (subst q is (made_limited n made.name f ys same named h)) (omega (arith, one), omega arith) u w e (arguments_most n ys h)

  builtin_limited : (p : Place) (n : Name) (r : Role) (roles : ℕ → Role) (ys : List Part) (d : Option Builtin) → builtin_named n ≡ d → function_named cx.setting n ≡ None → IsUsed (roles 0) → IsUsed (roles 3)
      → broken_arguments roles 0 (judges ys) ≡ None → call_fits means r (means n) (exprs ys) ≡ true → Low top (call_sum n ys)
      → Makes q ns (size_of (call_sum n ys)) ℕ (call_builtin cx.setting p n d (metas ys))
  builtin_limited p n r roles ys None built none u w e fits h =
      subst (λ (o : Name → List Meaning → Step ℕ). Makes q ns (size_of (call_sum n ys)) ℕ (o n (metas ys))) (sym bounds.only) (within_stop q (size_of (call_sum n ys)) ns ℕ (still q ns))
  builtin_limited p n r roles ys (Some c) built none u w e fits h =
      limited_builtin q ns (size_of (sums (first_accesses n) ys)) (size_of (call_sum n ys)) (omega arith, omega arith) cx p c (metas ys)
      (λ is. subst (λ (v : Builtin). Makes q ns (size_of (call_sum n ys)) ℕ (builtin_call cx.setting p v (metas ys))) (sym is)
      (create_call_limited p n r roles ys (creating cx cx.setting.functions s r n (exprs ys) (built ∙ ap Some is) (no_name cx.setting.functions 0 n none) fits) u w e h))
      (one_limited roles 0 (first_accesses n) ys 0 0 refl u e (arguments_most n ys h))

  call_limited : (p : Place) (n : Name) (r : Role) (ys : List Part) (o : Option ℕ) → function_named cx.setting n ≡ o
      → broken_arguments (roles_in (means n)) 0 (judges ys) ≡ None → call_fits means r (means n) (exprs ys) ≡ true → Low top (call_sum n ys)
      → Makes q ns (size_of (call_sum n ys)) ℕ (call cx p n (metas ys) o)
  call_limited p n r ys (Some f) named e fits h =
      let there : function_of cx.setting.functions n ≡ None → ⊥ = λ none. absurd (let no : ◌≡◌ {A = Option ℕ} None (Some f) = sym (unnumbered cx.setting.functions 0 n none) ∙ named in cc) in
      function_limited p n f (roles_in (means n)) ys named (all_used (variable_named s n) (function_of cx.setting.functions n) (builtin_named n) there) e h
  call_limited p n r ys None named e fits h =
      builtin_limited p n r (roles_in (means n)) ys (builtin_named n) refl named (first_used (means n)) (fourth_used (means n)) e fits h

  -- ---- the forms

  abbrev kid_cost : Expr-F Part → Cost
  kid_cost y = cost_step exact body (variable_named s) (map-Expr Expr Cost costs (kids y))

  -- a cell of a variable in scope
  found_at : (n : Name) (v : Variable) → variable_named s n ≡ Some v → Found q (access_to exact (variable_named s n)).accesses ns n
  found_at n v e ls same none =
      subst (λ (o : Option Variable). 1 ≤ (access_to exact o).accesses) (sym e) (counted_at s.entries ls n v (subst (Covers s.entries) (sym same) inside.covers) e none)

  layer : (y : Expr-F Part) (r : Role) → IsUsed r → found_step means (map-Expr Expr Judged (judged means) (kids y)) r ≡ None → Low top (kid_cost y).parts
      → Limited q ns (kid_cost y) (expr_step cx (map-Expr Expr Meaning (meaning cx) (kids y)))
  layer (Expr-F.Name p n) r u e h =
      let c : Cost = kid_cost (Expr-F.Name p n) in
      let there = name_variable r (variable_named s n) (function_of cx.setting.functions n) (builtin_named n) u (holds_at (name_fits r (means n)) p e) in
      limited_lvalue q ns c (Some n) _ (slot cx.setting.shared p n 0) (calm_slot q (size_of c.parts) ns c.access.accesses p cx.setting.shared n 0 (found_at n there.0 there.1))
  layer (Expr-F.Number p v w) r u e h = worth q ns (kid_cost (Expr-F.Number p v w)) none _ (pure v) (omega arith, omega arith) (calm_pure q none ns ℕ anything v tt)
  layer (Expr-F.Text p) r u e h = worth q ns (kid_cost (Expr-F.Text p)) none _ (pure 0) (omega arith, omega arith) (calm_pure q none ns ℕ anything 0 tt)
  layer (Expr-F.Bracket p x) r u e h =
      let inner : Limited q ns (costs x.0) (meaning cx x.0) = x.1 (inside_brackets r) (brackets_used r u) e h in
      record { run = inner.run; once = inner.once; find = inner.find }
  layer (Expr-F.Index p n x) r u e h =
      let c : Cost = kid_cost (Expr-F.Index p n x) in
      let parts = both_none (broken_in means x.0 role.Value) (unless (index_fits r (means n)) p) e in
      let there = index_variable r (variable_named s n) (function_of cx.setting.functions n) (builtin_named n) (holds_at (index_fits r (means n)) p parts.1) in
      limited_lvalue q ns c None _ _
      (calm_then q (size_of c.parts) none (size_of c.parts) ns ℕ Slot anything (λ x ks. Touches c.access.accesses x × (ks ≡ ns)) (meaning cx x.0).run (slot cx.setting.shared p n) (omega arith, omega arith)
      (read x role.Value refl parts.0 h).run (λ i _. calm_slot q none ns c.access.accesses p cx.setting.shared n i (found_at n there.0 there.1)))
  layer (Expr-F.Call p n xs) r u e h =
      let parts = both_none (broken_arguments (roles_in (means n)) 0 (judges xs)) (unless (call_fits means r (means n) (wholes (judges xs))) p) e in
      let fits : call_fits means r (means n) (exprs xs) ≡ true = subst (λ (ws : List Expr). call_fits means r (means n) ws ≡ true) (wholes_are means (exprs xs)) (holds_at (call_fits means r (means n) (wholes (judges xs))) p parts.1) in
      worth q ns (kid_cost (Expr-F.Call p n xs)) (size_of (call_sum n xs)) _ _ (omega arith, omega arith) (call_limited p n r xs (function_named cx.setting n) refl parts.0 fits h)
  layer (Expr-F.Cast p w x) r u e h =
      worth q ns (kid_cost (Expr-F.Cast p w x)) (size_of (reading exact (costs x.0))) _ _ (omega arith, omega arith) (read x role.Value refl (both_none (broken_in means x.0 role.Value) _ e).0 h).run
  layer (Expr-F.Unary p o x) r u e h =
      let a : Counts = reading exact (costs x.0) in
      worth q ns (kid_cost (Expr-F.Unary p o x)) (size_of a) _ _ (omega arith, omega arith)
      (behind q (size_of a) ns ℕ ℕ anything (still q ns) (meaning cx x.0).run (λ v. pure (value_of (unary_op o) (v ∷ [])))
      (read x role.Value refl e (right_of (exact.weight 1) a top h)).run (λ v _. calm_pure q none ns ℕ anything (value_of (unary_op o) (v ∷ [])) tt))
  layer (Expr-F.StepBefore p o x) r u e h =
      let a : Counts = accessing exact 2 (costs x.0) in
      worth q ns (kid_cost (Expr-F.StepBefore p o x)) (size_of a) _ _ (omega arith, omega arith)
      (behind q (size_of a) ns (ℕ × ℕ) ℕ anything (still q ns) (count p o (meaning cx x.0)) (λ w. pure w.1)
      (limited_count q ns (costs x.0) (size_of a) p o (meaning cx x.0) (omega arith, omega arith) (accessed 2 x role.Value refl e (right_of (exact.weight 1) a top h)).find) (λ w _. calm_pure q none ns ℕ anything w.1 tt))
  layer (Expr-F.StepAfter p o x) r u e h =
      let a : Counts = accessing exact 2 (costs x.0) in
      worth q ns (kid_cost (Expr-F.StepAfter p o x)) (size_of a) _ _ (omega arith, omega arith)
      (behind q (size_of a) ns (ℕ × ℕ) ℕ anything (still q ns) (count p o (meaning cx x.0)) (λ w. pure w.0)
      (limited_count q ns (costs x.0) (size_of a) p o (meaning cx x.0) (omega arith, omega arith) (accessed 2 x role.Value refl e (right_of (exact.weight 1) a top h)).find) (λ w _. calm_pure q none ns ℕ anything w.0 tt))
  layer (Expr-F.Binary p o x y) r u e h =
      let parts = both_none (broken_in means x.0 role.Value) (broken_in means y.0 role.Value) e in
      let a : Counts = reading exact (costs x.0) in
      let c : Counts = reading exact (costs y.0) in
      let most : Low top (exact.together a c) = right_of (exact.weight (operator_weight o (costs y.0).bare)) (exact.together a c) top h in
      worth q ns (kid_cost (Expr-F.Binary p o x y)) (plus (size_of a) (size_of c)) _ _ (omega arith, omega arith)
      (limited_binary q ns (size_of a) (size_of c) (plus (size_of a) (size_of c)) p o (meaning cx x.0) (meaning cx y.0) (omega arith, omega arith)
      (read x role.Value refl parts.0 (left_of a c top most)).run (read y role.Value refl parts.1 (right_of a c top most)).run)
  layer (Expr-F.Choose p x y z) r u e h =
      let parts = both_none (broken_in means x.0 role.Value) (or_else (broken_in means y.0 role.Value) (broken_in means z.0 role.Value)) e in
      let others = both_none (broken_in means y.0 role.Value) (broken_in means z.0 role.Value) parts.1 in
      let a : Counts = reading exact (costs x.0) in
      let c : Counts = reading exact (costs y.0) in
      let d : Counts = reading exact (costs z.0) in
      let most : Low top (exact.together a (exact.together c d)) = right_of (exact.weight 1) (exact.together a (exact.together c d)) top h in
      let last : Low top (exact.together c d) = right_of a (exact.together c d) top most in
      let both : Size = plus (size_of c) (size_of d) in
      worth q ns (kid_cost (Expr-F.Choose p x y z)) (plus (size_of a) both) _ _ (omega arith, omega arith)
      (calm_then q (size_of a) both (plus (size_of a) both) ns ℕ ℕ anything (still q ns) (meaning cx x.0).run (λ v. cond (is_true v) (meaning cx y.0).run (meaning cx z.0).run) (omega arith, omega arith)
      (read x role.Value refl parts.0 (left_of a (exact.together c d) top most)).run
      (λ v _. within_cond q both ns ℕ (still q ns) (is_true v) (meaning cx y.0).run (meaning cx z.0).run
      (makes_more q ns (size_of c) both ℕ (meaning cx y.0).run (omega arith, omega arith) (read y role.Value refl others.0 (left_of c d top last)).run)
      (makes_more q ns (size_of d) both ℕ (meaning cx z.0).run (omega arith, omega arith) (read z role.Value refl others.1 (right_of c d top last)).run)))
  layer (Expr-F.Assign p o x y) r u e h =
      let parts = both_none (broken_in means x.0 role.Value) (broken_in means y.0 role.Value) e in
      let a : Counts = accessing exact (assign_accesses o) (costs x.0) in
      let c : Counts = reading exact (costs y.0) in
      let most : Low top (exact.together a c) = right_of (exact.weight (assign_weight o (costs y.0).bare)) (exact.together a c) top h in
      worth q ns (kid_cost (Expr-F.Assign p o x y)) (plus (size_of a) (size_of c)) _ _ (omega arith, omega arith)
      (limited_assign q ns (costs x.0) (size_of c) (plus (size_of a) (size_of c)) p o (meaning cx x.0) (meaning cx y.0) (omega arith, omega arith)
      (accessed (assign_accesses o) x role.Value refl parts.0 (left_of a c top most)).find (read y role.Value refl parts.1 (right_of a c top most)).run)
  layer (Expr-F.Comma p x y) r u e h =
      let parts = both_none (broken_in means x.0 role.LeftOfComma) (broken_in means y.0 (right_of_comma r)) e in
      let a : Counts = reading exact (costs x.0) in
      let c : Counts = reading exact (costs y.0) in
      worth q ns (kid_cost (Expr-F.Comma p x y)) (plus (size_of a) (size_of c)) _ _ (omega arith, omega arith)
      (calm_then q (size_of a) (size_of c) (plus (size_of a) (size_of c)) ns ℕ ℕ anything (still q ns) (meaning cx x.0).run (λ _. (meaning cx y.0).run) (omega arith, omega arith)
      (read x role.LeftOfComma refl parts.0 (left_of a c top h)).run (λ _ _. (read y (right_of_comma r) (comma_used r) parts.1 (right_of a c top h)).run))
  layer (Expr-F.Address p x) r u e h =
      let inner : Limited q ns (costs x.0) (meaning cx x.0) = x.1 (behind_address r) (address_used r u) (both_none (broken_in means x.0 (behind_address r)) _ e).0 h in
      record {
        run = calm_pure q (size_of (reading exact (costs x.0))) ns ℕ anything 0 tt;
        once = calm_pure q (alone x) ns ℕ anything 0 tt;
        find = inner.find;
      }

  abbrev LayerLimited : Expr-F Expr → Type 0
  LayerLimited z = (r : Role) → IsUsed r → found_step means (map-Expr Expr Judged (judged means) z) r ≡ None → Low top (cost_step exact body (variable_named s) (map-Expr Expr Cost costs z)).parts
      → Limited q ns (cost_step exact body (variable_named s) (map-Expr Expr Cost costs z)) (expr_step cx (map-Expr Expr Meaning (meaning cx) z))

  rolled : (z : Expr-F Expr) → LayerLimited z → IsLimited (roll-Expr z)
  rolled z h r u e most =
      let cost_is : costs (roll-Expr z) ≡ cost_step exact body (variable_named s) (map-Expr Expr Cost costs z) = fold-roll-Expr Cost (cost_step exact body (variable_named s)) z in
      let typed : found_step means (map-Expr Expr Judged (judged means) z) r ≡ None = sym (ap (λ (j : Judged). j.found r) (fold-roll-Expr Judged (judged_step means) z)) ∙ e in
      let it = h r u typed (subst (λ (c : Cost). Low top c.parts) cost_is most) in
      subst (λ (m : Meaning). Limited q ns (costs (roll-Expr z)) m) (sym (fold-roll-Expr Meaning (expr_step cx) z))
      (subst (λ (c : Cost). Limited q ns c (expr_step cx (map-Expr Expr Meaning (meaning cx) z))) (sym cost_is) it)

  pub meaning_limited : (x : Expr) → IsLimited x
  meaning_limited = ind-Expr IsLimited (λ z y is. rolled z (subst LayerLimited is (layer y)))

  -- the value of an expression
  pub eval_limited : (x : Expr) (r : Role) → IsUsed r → broken_in means x r ≡ None → Low top (reading exact (costs x)) → Makes q ns (size_of (reading exact (costs x))) ℕ (eval cx x)
  eval_limited x r u e h = (read (x, meaning_limited x) r u e h).run
