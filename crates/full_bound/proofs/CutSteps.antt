-- The parts of every run can be cut, and ended alone.
use Rattle.std.proofs.Common.{◌≡◌, ℕ, ◌<◌, ◌≤◌, List, ◌++◌, true, false, length, take, refl, sym, ap, ◌∙◌, subst, append_assoc, inl, inr, ◌⊎◌, ⊎_elim, arith}
use Rattle.std.specs.Prelude.{nat_eq, All}
use Rattle.std.proofs.lemmas.List.{take_at, drop_at, take-append-le}
use Rattle.std.proofs.lemmas.List.Elements.{All-append, All-take, All-drop}
use Rattle.std.proofs.lemmas.Bool.{cases_lt}
use Rattle.axiom_model.specs.declared.Action.{Action}
use Rattle.run_model.specs.Steps.{State, Outcome, Goes, Halts, Step, go_on, ◌>>=◌}
use Rattle.run_model.proofs.Handles.{state_in}
use Rattle.run_model.proofs.Scripts.{with_script}
use Rattle.run_laws.specs.Short.{IsBehind}
use Rattle.run_laws.proofs.Resuming.{behind_both}
use Rattle.run_laws.specs.Words.{IsWord}
use Rattle.run_laws.proofs.Joint.{Ok}
use Rattle.full_bound.specs.Lone.{Memory, is_opened}
use Rattle.full_bound.proofs.Cuts.{Taken, Takes, Alone, LevelIn, CutsAt, Cuts, Ends, alone_then}

-- ---- lists

-- a list before what was added, cut no later
pub cut_before : (xs ys made : List Action) (n : ℕ) → ys ≡ xs ++ made → n ≤ length xs → take n ys ≡ take n xs
cut_before xs ys made n e h = ap (take n) e ∙ take-append-le n xs made h

pub all_before : (xs ys : List ℕ) → All IsWord (xs ++ ys) → All IsWord xs × All IsWord ys
all_before xs ys h = (
  subst (All IsWord) (take_at xs ys (length xs) refl) (All-take IsWord (length xs) (xs ++ ys) h),
  subst (All IsWord) (drop_at xs ys (length xs) refl) (All-drop IsWord (length xs) (xs ++ ys) h),
)

-- ---- one step after the other

module _ (A B : Type 0) (P : A → Type 0) (Q : B → Type 0) (m : Step A) (f : A → Step B) (first : Ends A P m) (second : (a : A) → P a → Ends B Q (f a)) where
  abbrev both : Step B
  both = m >>= f

  f_alone : (a : A) → P a → (s : State) (mem : Memory) → nat_eq s.depth 0 ≡ true → Alone B (f a) s s.actions mem
  f_alone a p s mem l = (second a p).alone s mem l

  gives_on : (o : Outcome A) → Ok P o → Ok Q (go_on o f)
  gives_on (Goes a t) p = (second a p).gives t
  gives_on (Halts h t) p = tt

  level_on : (o : Outcome A) → Ok P o → LevelIn o → LevelIn (go_on o f)
  level_on (Goes a t) p l = (second a p).level t l
  level_on (Halts h t) p l = tt

  -- a cut in the first step
  cuts_first : (s : State) (n : ℕ) (acts : List Action) → CutsAt A m s acts n → CutsAt B both s acts n
  cuts_first s n acts h mem = ⊎_elim inl (λ x. inr (alone_then A B P m f first.gives f_alone s (take n acts) mem x)) (h mem)

  -- a cut in the second
  cuts_second : (s t : State) (a : A) (n : ℕ) (acts : List Action) → P a → Taken A m s a t → All IsWord s.script → CutsAt B (f a) t acts n → CutsAt B both s acts n
  cuts_second s t a n acts p took w h mem =
      ⊎_elim inl
      (λ x. inr (
      let words : All IsWord took.taken = (all_before took.taken t.script (subst (All IsWord) took.first w)).0 in
      ⊎_elim
      (λ d. inl (record {
        script = took.taken ++ d.script;
        words = All-append IsWord took.taken d.script words d.words;
        made = d.made;
        out = d.out;
        runs = λ others. ap (λ ys. both (with_script s ys)) (append_assoc took.taken d.script others) ∙ ap (λ (o : Outcome A). go_on o f) (took.same (d.script ++ others)) ∙ d.runs others;
        actions = d.actions;
        lone = d.lone;
        fine = d.fine;
      }))
      (λ d. inr (record {
        script = took.taken ++ d.script;
        words = All-append IsWord took.taken d.script words d.words;
        made = d.made;
        cell = d.cell;
        no_word = d.no_word;
        need = d.need;
        state = d.state;
        runs = ap (λ (o : Outcome A). go_on o f) (took.same d.script) ∙ d.runs;
        actions = d.actions;
        lone = d.lone;
      })) x))
      (h mem)

  cuts_on : (s : State) → All IsWord s.script → (o : Outcome A) → Ok P o → Takes A m s o → LevelIn o → IsBehind s.actions (state_in o).actions → Cuts A m s (state_in o).actions → Cuts B both s (state_in (go_on o f)).actions
  cuts_on s w (Halts h t) p r l adds c n low high = cuts_first s n t.actions (c n low high)
  cuts_on s w (Goes a t) p r l adds c n low high =
      let more : IsBehind t.actions (state_in (f a t)).actions = (second a p).adds t in
      let acts : List Action = (state_in (f a t)).actions in
      ⊎_elim
      (λ (before : n < length t.actions).
      let same : take n acts ≡ take n t.actions = cut_before t.actions acts more.0 n more.1 (omega (arith, before)) in
      subst (λ (ys : List Action). (mem : Memory) → (is_opened false ys ≡ true) ⊎ Alone B both s ys mem) (sym same) (cuts_first s n t.actions (c n low before)))
      (λ (behind : length t.actions ≤ n).
      let words : All IsWord t.script = (all_before r.taken t.script (subst (All IsWord) r.first w)).1 in
      cuts_second s t a n acts p r w ((second a p).cuts t l words n behind high))
      (cases_lt n (length t.actions))

  adds_on : (s : State) (o : Outcome A) → Ok P o → IsBehind s.actions (state_in o).actions → IsBehind s.actions (state_in (go_on o f)).actions
  adds_on s (Goes a t) p b = behind_both s.actions t.actions (state_in (f a t)).actions b ((second a p).adds t)
  adds_on s (Halts h t) p b = b

  takes_on : (s t : State) (a : A) → Taken A m s a t → (o : Outcome B) → Takes B (f a) t o → Takes B both s o
  takes_on s t a one (Halts h u) two = tt
  takes_on s t a one (Goes b u) two = record {
    taken = one.taken ++ two.taken;
    first = one.first ∙ ap (λ xs. one.taken ++ xs) two.first ∙ sym (append_assoc one.taken two.taken u.script);
    same = λ others. ap (λ xs. both (with_script s xs)) (append_assoc one.taken two.taken others) ∙ ap (λ (o : Outcome A). go_on o f) (one.same (two.taken ++ others)) ∙ two.same others;
  }

  takes_first : (s : State) (o : Outcome A) → Ok P o → Takes A m s o → Takes B both s (go_on o f)
  takes_first s (Goes a t) p one = takes_on s t a one (f a t) ((second a p).takes t)
  takes_first s (Halts h t) p one = tt

  pub ends_then : Ends B Q both
  ends_then = record {
    gives = λ s. gives_on (m s) (first.gives s);
    adds = λ s. adds_on s (m s) (first.gives s) (first.adds s);
    takes = λ s. takes_first s (m s) (first.gives s) (first.takes s);
    level = λ s l. level_on (m s) (first.gives s) (first.level s l);
    alone = λ s mem l. alone_then A B P m f first.gives f_alone s s.actions mem (first.alone s mem l);
    cuts = λ s l w. cuts_on s w (m s) (first.gives s) (first.takes s) (first.level s l) (first.adds s) (first.cuts s l w);
  }
