-- A run that is cut outside of sections can be ended by its thread alone, whatever the cells hold then.
use Rattle.std.proofs.Common.{◌≡◌, ℕ, ◌<◌, ◌≤◌, List, [], ◌∷◌, ◌++◌, Bool, true, false, length, take, refl, sym, ap, ◌∙◌, subst, append_assoc, inl, inr, ◌⊎◌}
use Rattle.std.specs.Prelude.{nat_eq, All}
use Rattle.std.proofs.lemmas.List.Elements.{All-append}
use Rattle.axiom_model.specs.declared.Action.{Action}
use Rattle.axiom_model.specs.declared.Action.TheVariants as action
use Rattle.run_model.specs.declared.state.Halt.{Halt}
use Rattle.run_model.specs.declared.state.Halt.TheVariants.{Over, Short}
use Rattle.run_model.specs.declared.state.Need.{Need}
use Rattle.run_model.specs.Steps.{State, Outcome, Goes, Halts, Step, go_on, ◌>>=◌}
use Rattle.run_model.specs.Threads.{is_bad}
use Rattle.run_model.proofs.Handles.{state_in}
use Rattle.run_model.proofs.Scripts.{with_script}
use Rattle.run_laws.specs.Words.{IsWord}
use Rattle.run_laws.specs.Short.{IsBehind}
use Rattle.run_laws.proofs.Joint.{Ok}
use Rattle.full_bound.specs.Lone.{Memory, written, memory_behind, IsLone, is_opened}

-- ---- lists of actions

pub behind_append : (mem : Memory) (xs ys : List Action) → memory_behind mem (xs ++ ys) ≡ memory_behind (memory_behind mem xs) ys
behind_append mem [] ys = refl
behind_append mem (action.Write c v ∷ xs) ys = behind_append (written mem c v) xs ys
behind_append mem (x ∷ xs) ys = behind_append mem xs ys

pub lone_append : (mem : Memory) (xs ys : List Action) → IsLone mem xs → IsLone (memory_behind mem xs) ys → IsLone mem (xs ++ ys)
lone_append mem [] ys p q = q
lone_append mem (action.Read c v ∷ xs) ys p q = (p.0, lone_append mem xs ys p.1 q)
lone_append mem (action.Write c v ∷ xs) ys p q = lone_append (written mem c v) xs ys p q
lone_append mem (action.Join h ∷ xs) ys p q = absurd p
lone_append mem (x ∷ xs) ys p q = lone_append mem xs ys p q

pub opened_append : (b : Bool) (xs ys : List Action) → is_opened b (xs ++ ys) ≡ is_opened (is_opened b xs) ys
opened_append b [] ys = refl
opened_append b (action.Open ∷ xs) ys = opened_append true xs ys
opened_append b (action.Close ∷ xs) ys = opened_append false xs ys
opened_append b (x ∷ xs) ys = opened_append b xs ys

-- ---- a run that goes on alone

-- the outcome with this rest of the script
abbrev pub with_rest : {A : Type 0} → Outcome A → List ℕ → Outcome A
with_rest (Goes a t) xs = Goes a (with_script t xs)
with_rest (Halts h t) xs = Halts h (with_script t xs)

-- outside of sections, or over and not Bad
abbrev pub IsFine : {A : Type 0} → Outcome A → Type 0
IsFine (Goes a t) = nat_eq t.depth 0 ≡ true
IsFine (Halts (Over e) t) = is_bad e ≡ false
IsFine (Halts (Short n) t) = ⊥

-- on some script of words the step makes these actions, and then others alone
pub record Done (A : Type 0) (m : Step A) (s : State) (acts : List Action) (mem : Memory) : Type 0 where
  pub script : List ℕ
  pub words : All IsWord script
  pub made : List Action
  pub out : Outcome A
  pub runs : (others : List ℕ) → m (with_script s (script ++ others)) ≡ with_rest out others
  pub actions : (state_in out).actions ≡ acts ++ made
  pub lone : IsLone mem made
  pub fine : IsFine out

-- so it does, but it comes to a cell that holds no word
pub record Stuck (A : Type 0) (m : Step A) (s : State) (acts : List Action) (mem : Memory) : Type 0 where
  pub script : List ℕ
  pub words : All IsWord script
  pub made : List Action
  pub cell : ℕ
  pub no_word : IsWord (memory_behind mem made cell) → ⊥
  pub need : Need
  pub state : State
  pub runs : m (with_script s script) ≡ Halts (Short need) state
  pub actions : state.actions ≡ acts ++ made
  pub lone : IsLone mem made

abbrev pub Alone : (A : Type 0) → Step A → State → List Action → Memory → Type 0
Alone A m s acts mem = Done A m s acts mem ⊎ Stuck A m s acts mem

-- a step that goes on took some numbers, and does the same where others stand behind them
pub record Taken (A : Type 0) (m : Step A) (s : State) (a : A) (t : State) : Type 0 where
  pub taken : List ℕ
  pub first : s.script ≡ taken ++ t.script
  pub same : (others : List ℕ) → m (with_script s (taken ++ others)) ≡ Goes a (with_script t others)

abbrev pub Takes : (A : Type 0) → Step A → State → Outcome A → Type 0
Takes A m s (Goes a t) = Taken A m s a t
Takes A m s (Halts h t) = Unit {0}

-- at depth 0, or in an open section
abbrev pub Level : State → Type 0
Level s = (nat_eq s.depth 0 ≡ true) ⊎ (is_opened false s.actions ≡ true)

abbrev pub LevelIn : {A : Type 0} → Outcome A → Type 0
LevelIn (Goes a t) = Level t
LevelIn (Halts h t) = Unit {0}

-- the step can be cut before each of its actions that stands in no section
abbrev pub CutsAt : (A : Type 0) → Step A → State → List Action → ℕ → Type 0
CutsAt A m s acts n = (mem : Memory) → (is_opened false (take n acts) ≡ true) ⊎ Alone A m s (take n acts) mem

abbrev pub Cuts : (A : Type 0) → Step A → State → List Action → Type 0
Cuts A m s acts = (n : ℕ) → length s.actions ≤ n → n < length acts → CutsAt A m s acts n

pub record Ends (A : Type 0) (Q : A → Type 0) (m : Step A) : Type 0 where
  pub gives : (s : State) → Ok Q (m s)
  pub adds : (s : State) → IsBehind s.actions (state_in (m s)).actions
  pub takes : (s : State) → Takes A m s (m s)
  pub level : (s : State) → Level s → LevelIn (m s)
  pub alone : (s : State) (mem : Memory) → nat_eq s.depth 0 ≡ true → Alone A m s s.actions mem
  pub cuts : (s : State) → Level s → All IsWord s.script → Cuts A m s (state_in (m s)).actions

-- ---- one step after the other

module _ (A B : Type 0) (P : A → Type 0) (m : Step A) (f : A → Step B) (gives : (s : State) → Ok P (m s))
    (f_alone : (a : A) → P a → (s : State) (mem : Memory) → nat_eq s.depth 0 ≡ true → Alone B (f a) s s.actions mem) (s : State) (acts : List Action) (mem : Memory) where
  abbrev both : Step B
  both = m >>= f

  -- behind a step that goes on
  after : (a : A) (t : State) (xs : List ℕ) → All IsWord xs → (made : List Action) → ((others : List ℕ) → m (with_script s (xs ++ others)) ≡ Goes a (with_script t others))
      → t.actions ≡ acts ++ made → IsLone mem made → Alone B (f a) t t.actions (memory_behind mem made) → Alone B both s acts mem
  after a t xs w made runs e lone (inl d) = inl (record {
    script = xs ++ d.script;
    words = All-append IsWord xs d.script w d.words;
    made = made ++ d.made;
    out = d.out;
    runs = λ others. ap (λ ys. both (with_script s ys)) (append_assoc xs d.script others) ∙ ap (λ (o : Outcome A). go_on o f) (runs (d.script ++ others)) ∙ d.runs others;
    actions = d.actions ∙ ap (λ ys. ys ++ d.made) e ∙ append_assoc acts made d.made;
    lone = lone_append mem made d.made lone d.lone;
    fine = d.fine;
  })
  after a t xs w made runs e lone (inr d) = inr (record {
    script = xs ++ d.script;
    words = All-append IsWord xs d.script w d.words;
    made = made ++ d.made;
    cell = d.cell;
    no_word = λ h. d.no_word (subst (λ (z : Memory). IsWord (z d.cell)) (behind_append mem made d.made) h);
    need = d.need;
    state = d.state;
    runs = ap (λ (o : Outcome A). go_on o f) (runs d.script) ∙ d.runs;
    actions = d.actions ∙ ap (λ ys. ys ++ d.made) e ∙ append_assoc acts made d.made;
    lone = lone_append mem made d.made lone d.lone;
  })

  done_then : (out : Outcome A) (d : Done A m s acts mem) → d.out ≡ out → Alone B both s acts mem
  done_then (Goes a t) d is =
      let runs : (others : List ℕ) → m (with_script s (d.script ++ others)) ≡ Goes a (with_script t others) = λ others. d.runs others ∙ ap (λ (o : Outcome A). with_rest o others) is in
      let good : P a = subst (λ (o : Outcome A). Ok P o) (runs []) (gives (with_script s (d.script ++ []))) in
      let level : nat_eq t.depth 0 ≡ true = subst (λ (o : Outcome A). IsFine o) is d.fine in
      after a t d.script d.words d.made runs (sym (ap (λ (o : Outcome A). (state_in o).actions) is) ∙ d.actions) d.lone (f_alone a good t (memory_behind mem d.made) level)
  done_then (Halts h t) d is = inl (record {
    script = d.script;
    words = d.words;
    made = d.made;
    out = Halts h t;
    runs = λ others. ap (λ (o : Outcome A). go_on o f) (d.runs others ∙ ap (λ (o : Outcome A). with_rest o others) is);
    actions = sym (ap (λ (o : Outcome A). (state_in o).actions) is) ∙ d.actions;
    lone = d.lone;
    fine = let x : IsFine {A = A} (Halts h t) = subst (λ (o : Outcome A). IsFine o) is d.fine in halted h x;
  }) where
    halted : (h : Halt) → IsFine {A = A} (Halts h t) → IsFine {A = B} (Halts h t)
    halted (Over e) x = x
    halted (Short n) x = x

  pub alone_then : Alone A m s acts mem → Alone B both s acts mem
  alone_then (inl d) = done_then d.out d refl
  alone_then (inr d) = inr (record {
    script = d.script;
    words = d.words;
    made = d.made;
    cell = d.cell;
    no_word = d.no_word;
    need = d.need;
    state = d.state;
    runs = ap (λ (o : Outcome A). go_on o f) d.runs;
    actions = d.actions;
    lone = d.lone;
  })
