-- The run of a thread makes at most what its function counts, and its first and last action.
use Rattle.std.proofs.Common.{◌≡◌, ℕ, zero, suc, ◌+◌, ◌-◌, ◌≤◌, List, [], ◌∷◌, Option, Some, None, length, take, refl, sym, subst, arith}
use Rattle.std.specs.Prelude.{slice_get}
use Rattle.std.proofs.lemmas.Option.{same_Some}
use Rattle.axiom_model.specs.declared.Action.{Action}
use Rattle.axiom_model.specs.declared.Action.TheVariants.{Start}
use Rattle.axiom_model.specs.Failing.{Run}
use Rattle.c_tree.specs.declared.program.Function.{Function}
use Rattle.c_tree.specs.declared.program.Item.{Item}
use Rattle.c_tree.specs.declared.program.Item.TheVariants as item
use Rattle.c_rules.specs.declared.names.Entry.{Entry}
use Rattle.c_rules.specs.Names.{Name, Scope}
use Rattle.c_rules.specs.Walk.{walk_body, walk_item, walk_items, behind_item, top_scope}
use Rattle.c_rules.specs.Scopes.{Rules, rule_walk}
use Rattle.c_rules.specs.Types.{typed_rules}
use Rattle.c_rules.specs.Typing.{IsTyped}
use Rattle.c_check.specs.declared.checked.Checked.{Checked}
use Rattle.c_check.specs.declared.counts.Counts.{Counts}
use Rattle.c_check.specs.Counts.{exact, behind_items, top_before}
use Rattle.run_model.specs.Steps.{State, Outcome, make}
use Rattle.run_model.specs.Calls.{Setting, finish}
use Rattle.run_model.specs.Programs.{setting_of}
use Rattle.run_model.specs.Threads.{ShortRun, call_within, call_body, run_body, with_function, context_within, thread_steps, thread_run, short_run, begins}
use Rattle.run_model.specs.Laws.{creates_in}
use Rattle.run_model.proofs.Handles.{state_in}
use Rattle.run_model.proofs.Fuel.{number_in, stands_at}
use Rattle.run_laws.proofs.Naming.{AllCounted}
use Rattle.run_laws.proofs.Growing.{Size, size_of, actions, plus, anything, CreatesOf, Grows, Within, calm_then, calm_make, within_stop, within_finish}
use Rattle.run_laws.proofs.Meanings.{still, Makes}
use Rattle.run_laws.proofs.Expressions.{both_none, Bound, Low, Bounds}
use Rattle.run_laws.proofs.FunctionCounts.{counts_for, bodies, body_counts, named_counts, counts_are}
use Rattle.run_laws.proofs.Bodies.{run_body_within, call_body_within}
use Rattle.run_laws.proofs.Shares.{top_counts}
use Rattle.run_laws.proofs.Told.{Ran, ran, RanShort, ran_short}

-- ---- a program that fits its types

module _ (r : Rules) where
  abbrev Unbroken : Item → Scope → Type 0
  Unbroken x s = walk_item (rule_walk r) x s ≡ None

  -- where nothing in the items is broken, nothing in a function's body is
  body_unbroken : (xs : List Item) (s : Scope) (i : ℕ) (f : Function) → walk_items (rule_walk r) xs s ≡ None → slice_get xs i ≡ Some (item.Function f) → walk_body (rule_walk r) (behind_items (take i xs) s).entries f ≡ None
  body_unbroken [] s zero f e g = absurd (let no : ◌≡◌ {A = Option Item} None (Some (item.Function f)) = g in cc)
  body_unbroken [] s (suc i) f e g = absurd (let no : ◌≡◌ {A = Option Item} None (Some (item.Function f)) = g in cc)
  body_unbroken (x ∷ xs) s zero f e g =
      let it : Unbroken (item.Function f) s = subst (λ (y : Item). Unbroken y s) (same_Some x (item.Function f) g) (both_none (walk_item (rule_walk r) x s) (walk_items (rule_walk r) xs (behind_item x s)) e).0 in
      (both_none (r.head s f) (walk_body (rule_walk r) s.entries f) it).1
  body_unbroken (x ∷ xs) s (suc i) f e g = body_unbroken xs (behind_item x s) i f (both_none (walk_item (rule_walk r) x s) (walk_items (rule_walk r) xs (behind_item x s)) e).1 g

-- d creations below main: each thread creates at most 63 threads, and 4 - d creations lie below
abbrev pub at_level : ℕ → Bound
at_level d = record { most = 63; depth = 4 - d }

-- a function d creations below main: a thread of it creates at most 63 threads, and so does each thread below it, by counts with at least so much fuel
pub record Fine (p : Checked) (least d f : ℕ) : Type 0 where
  pub fuel : ℕ
  pub enough : least ≤ fuel
  pub level : d ≤ 4
  pub few : (counts_for p fuel f).creates ≤ 63
  pub low : Low (at_level d) (counts_for p fuel f)

-- what a thread is made of, where what is made keeps the bounds
one_below : (p : Checked) (least m d f : ℕ) → least ≤ m → Low (at_level d) (exact.new_thread (counts_for p m f)) → Fine p least (suc d) f
one_below p least m d f low h = record {
  fuel = m;
  enough = low;
  level = omega (arith, h.1);
  few = omega (arith, h.0);
  low = (omega (arith, h.0), omega (arith, h.1), omega (arith, h.2), omega (arith, h.3));
}

module _ (p : Checked) (handle least d : ℕ) (typed : IsTyped p.program) (turns : 1 ≤ p.k) where
  abbrev items : List Item
  items = p.program.items

  abbrev g : Setting
  g = setting_of p handle

  abbrev Kept : Counts → Type 0
  Kept c = Low (at_level d) c

  abbrev Made : ℕ → Type 0
  Made f = Fine p least (suc d) f

  abbrev before_it : ℕ → List Entry
  before_it f = top_before items (number_in items f)

  body_typed : (f : ℕ) (h : Function) → slice_get g.functions f ≡ Some h → walk_body (rule_walk (typed_rules g.functions)) (before_it f) h ≡ None
  body_typed f h e = body_unbroken (typed_rules g.functions) items top_scope (number_in items f) h typed (stands_at items f h e)

  top_counted : (f : ℕ) → AllCounted (before_it f)
  top_counted f = top_counts g.functions items (number_in items f) typed

  -- a call, beside what its function counts with this fuel
  abbrev call_size : Counts → Size
  call_size c = size_of (exact.together (exact.weight 1) c)

  -- a call makes at most so much
  abbrev Counted : ℕ → ℕ → Type 0
  Counted n m = (f : ℕ) (ns : List Name) (args : List ℕ) → Kept (counts_for p m f) → Makes Made ns (call_size (counts_for p m f)) ℕ (call_within n g f args)

  bounds : (n m : ℕ) → least ≤ m → Counted n m → Bounds Made (at_level d) (context_within n g) (bodies p m)
  bounds n m low rest = record {
    calls = λ a f named kept ns args.
        let same : bodies p m a ≡ counts_for p m f = named_counts p a m f named in
        subst (λ (c : Counts). Makes Made ns (call_size c) ℕ (call_within n g f args)) (sym same) (rest f ns args (subst Kept same kept));
    creates = λ a f named kept.
        let same : bodies p m a ≡ counts_for p m f = named_counts p a m f named in
        one_below p least m d f low (subst (λ (c : Counts). Kept (exact.new_thread c)) same kept);
    only = refl;
    turns = turns;
  }

  called_at : (n m f : ℕ) (ns : List Name) (args : List ℕ) (o : Option Function) → slice_get g.functions f ≡ o → least ≤ m → Counted n m → Kept (counts_for p (suc m) f)
      → Makes Made ns (call_size (counts_for p (suc m) f)) ℕ (with_function o (λ h. call_body (context_within n g) h args))
  called_at n m f ns args None e low rest kept = within_stop Made (call_size (counts_for p (suc m) f)) ns ℕ (still Made ns)
  called_at n m f ns args (Some h) e low rest kept =
      let same : counts_for p (suc m) f ≡ body_counts p m f h = counts_are p m f h e in
      subst (λ (c : Counts). Makes Made ns (call_size c) ℕ (call_body (context_within n g) h args)) (sym same)
      (call_body_within Made (at_level d) (context_within n g) (bodies p m) (bounds n m low rest) (before_it f) (top_counted f) h (body_typed f h e) (subst Kept same kept) ns args)

  counted : (n m : ℕ) → least + n ≤ m → Counted n m
  counted zero m low f ns args kept = within_stop Made (call_size (counts_for p m f)) ns ℕ (still Made ns)
  counted (suc n) zero low f ns args kept = absurd (omega (arith, low))
  counted (suc n) (suc m) low f ns args kept = called_at n m f ns args (slice_get g.functions f) refl (omega (arith, low)) (counted n m (omega (arith, low))) kept

  -- a thread, beside what its function counts
  abbrev thread_size : Counts → Size
  thread_size c = plus (size_of c) (actions 2)

  -- a thread makes at most so much
  thread_limited : (m f : ℕ) (h : Function) (arg : ℕ) → least + length g.functions ≤ m → slice_get g.functions f ≡ Some h → Kept (counts_for p (suc m) f)
      → Within Made (thread_size (counts_for p (suc m) f)) [] ⊥ (still Made []) (thread_steps g h arg)
  thread_limited m f h arg low e kept =
      let same : counts_for p (suc m) f ≡ body_counts p m f h = counts_are p m f h e in
      let n : ℕ = length g.functions in
      let sum : Size = size_of (body_counts p m f h) in
      let runs : Makes Made [] sum ℕ (run_body (context_within n g) h (arg ∷ [])) =
      run_body_within Made (at_level d) (context_within n g) (bodies p m) (bounds n m (omega (arith, low)) (counted n m low)) (before_it f) (top_counted f) h (body_typed f h e) (subst Kept same kept) [] (arg ∷ [])
      in
      subst (λ (c : Counts). Within Made (thread_size c) [] ⊥ (still Made []) (thread_steps g h arg)) (sym same)
      (calm_then Made (actions 1) (plus sum (actions 1)) (plus sum (actions 2)) [] (Unit {0}) ⊥ anything (still Made []) (make Start) _ (omega arith, omega arith) (calm_make Made (actions 1) [] Start tt (omega arith)) (λ _ _.
      calm_then Made sum (actions 1) (plus sum (actions 1)) [] ℕ ⊥ anything (still Made []) (run_body (context_within n g) h (arg ∷ [])) (λ _. finish) (omega arith, omega arith) runs (λ _ _. within_finish Made [] ⊥ (still Made []))))

  -- ---- runs

  -- the actions are at most so many, and create at most so many threads, of functions that are fine
  abbrev Few : Size → List Action → Type 0
  Few n acts = (creates_in acts ≤ n.creates) × (length acts ≤ n.actions) × CreatesOf Made acts

  few_in : (n : Size) (script : List ℕ) (t : State) → Grows Made n (begins script) t → Few n t.actions
  few_in n script t grows = subst (Few n) (sym grows.actions) (grows.few, grows.short, grows.fine)

  outcome_few : (m f arg : ℕ) (h : Function) (script : List ℕ) (o : Outcome ⊥) → least + length g.functions ≤ m → Kept (counts_for p (suc m) f) → slice_get g.functions f ≡ Some h → thread_steps g h arg (begins script) ≡ o
      → Few (thread_size (counts_for p (suc m) f)) (state_in o).actions
  outcome_few m f arg h script o low kept is goes =
      few_in (thread_size (counts_for p (suc m) f)) script (state_in o)
      (subst (λ (o : Outcome ⊥). Grows Made (thread_size (counts_for p (suc m) f)) (begins script) (state_in o)) goes ((thread_limited m f h arg low is kept).adds (begins script) refl))

  -- its run
  pub run_few : (m f arg : ℕ) (script : List ℕ) (r : Run) → least + length g.functions ≤ m → Kept (counts_for p (suc m) f) → thread_run p f handle arg script ≡ Some r → Few (thread_size (counts_for p (suc m) f)) r.actions
  run_few m f arg script r low kept e =
      let it : Ran p f handle arg script r = ran p f handle arg script r e in
      subst (λ (r : Run). Few (thread_size (counts_for p (suc m) f)) r.actions) it.run (outcome_few m f arg it.function script _ low kept it.is it.goes)

  -- and a run for which the script is too short
  pub short_few : (m f arg : ℕ) (script : List ℕ) (s : ShortRun) → least + length g.functions ≤ m → Kept (counts_for p (suc m) f) → short_run p f handle arg script ≡ Some s → Few (thread_size (counts_for p (suc m) f)) s.actions
  short_few m f arg script s low kept e =
      let it : RanShort p f handle arg script s = ran_short p f handle arg script s e in
      subst (λ (s : ShortRun). Few (thread_size (counts_for p (suc m) f)) s.actions) it.run (outcome_few m f arg it.function script _ low kept it.is it.goes)
