-- What is emitted of a program is a flat program.
use Rattle.std.proofs.Common.{◌≡◌, ℕ, zero, suc, ◌+◌, ◌<◌, ◌≤◌, List, [], ◌∷◌, ◌++◌, length, Bool, false, Option, Some, None, refl, sym, ap, ◌∙◌, subst, length-append, arith}
use Rattle.std.proofs.lemmas.Bool.{ne_eqb, cond-false}
use Rattle.std.specs.Prelude.{cond, nat_eq, slice_get, unwrap_or, All}
use Rattle.dg_base.specs.Values.{is_true}
use Rattle.c_tree.specs.declared.expr.Expr.{Expr}
use Rattle.c_tree.specs.declared.expr.TypeWord.{TypeWord}
use Rattle.c_tree.specs.declared.stmt.Declarator.{Declarator}
use Rattle.c_tree.specs.declared.program.Function.{Function}
use Rattle.c_tree.specs.declared.program.Item.{Item}
use Rattle.c_tree.specs.declared.program.Item.TheVariants as item
use Rattle.c_rules.specs.Names.{Name}
use Rattle.c_rules.specs.Walk.{cells_of_size}
use Rattle.c_check.specs.Checked.{array_cells, variable_cells, cells_of_declarators, cells_of_items, first_values as written}
use Rattle.c_check.specs.Limits.{cell_count, cells_of_all}
use Rattle.c_check.specs.Sections.{unmatched_in_function}
use Rattle.run_model.specs.declared.state.Shared.{Shared}
use Rattle.run_model.specs.Calls.{Setting}
use Rattle.run_model.specs.Programs.{shared_variable, shared_declared, shared_from, shared_of}
use Rattle.flat_prog.specs.declared.Flat.{Flat}
use Rattle.flat_prog.specs.declared.Instance.{Instance}
use Rattle.flat_prog.specs.declared.FlatStep.{FlatStep}
use Rattle.flat_prog.specs.declared.FlatAct.TheVariants as act
use Rattle.flat_prog.specs.Sections.{AreInTurn}
use Rattle.flat_prog.specs.Shape.{StepFits, InstanceFits, created_in, created_in_all, counted, marks_of, SectionsClose, SectionsHold, SectionsEnd, IsFlat}
use Rattle.flat_prog.specs.Runs.{FlatState, Progress, Goes, set_local, step, steps, go_on, begins as run_begins, first_values, made_behind, made_from, made_in}
use Rattle.emit_steps.specs.declared.state.Number.{Number}
use Rattle.emit_steps.specs.Emitting.{Emitted, one, none}
use Rattle.emit_steps.specs.Instances.{begins, put_numbers, instance_of}
use Rattle.emit_steps.proofs.Growth.{Each, each_append, Plain, Above, Below}
use Rattle.emit_steps.proofs.Adding.{Since as AddedSince}
use Rattle.emit_steps.proofs.Running.{local_other}
use Rattle.emit_steps.proofs.Laying.{Out, lays_fit, lays_turn, lays_created, Numbered, numbered_append}
use Rattle.emit_steps.proofs.Keeping.{Outside, Keeps, NoneMade, Never, keeps_closed, keeps_sections}
use Rattle.emit_steps.proofs.LayingRuns.{Stands, laid_keeps, laid_ends}
use Rattle.emit_steps.proofs.Shaping.{Laid, Guard}
use Rattle.emit_steps.proofs.ShapingForms.{SharedFit}
use Rattle.loop_unroll.specs.Stating.{context_within}
use Rattle.loop_unroll.specs.Whole.{emitted, IsEmitted, AreQueued, AreInstances}
use Rattle.loop_unroll.proofs.AddingFunctions.{NoMarks, adds_body, adds_calls}
use Rattle.loop_unroll.proofs.ShapingStatements.{does_body, shaped_calls}
use Rattle.loop_unroll.proofs.Threading.{each_all}

-- ---- an instance

laid_begins : (cells first : ℕ) → Laid cells first (Out []) (begins first)
laid_begins cells first = record {
  base = omega arith;
  neat = tt;
  above = tt;
  steps = (omega arith, refl, tt);
  scope = λ l off. absurd off;
  site = record { older = tt; kept = tt };
}

one_guard : (cells first : ℕ) → Guard cells first (Out []) one (begins first)
one_guard cells first = record { used = omega arith; at = tt; other = λ same. absurd (omega arith); apart = λ off. off }

module _ (s : Setting) (marks : NoMarks s) (whole : Each (λ f. unmatched_in_function f ≡ None) s.functions) where
  each_at : {X : Type 0} (P : X → Type 0) (xs : List X) (i : ℕ) (x : X) → Each P xs → slice_get xs i ≡ Some x → P x
  each_at P [] i x h e = absurd (let off : ◌≡◌ {A = Option _} None (Some x) = e in cc)
  each_at P (y ∷ xs) zero x h e = let same : y ≡ x = (let is : ◌≡◌ {A = Option _} (Some y) (Some x) = e in cc) in subst P same h.0
  each_at P (y ∷ xs) (suc i) x h e = each_at P xs i x h.1 e

  -- what is emitted of a function is laid
  emitted_laid : (cells first i : ℕ) (f : Function) → SharedFit cells s.shared → slice_get s.functions i ≡ Some f → Laid cells first (Out []) (emitted s f first)
  emitted_laid cells first i f fit is =
      (does_body cells first (context_within (length s.functions) s) (adds_calls s marks whole (length s.functions)) (shaped_calls cells first s marks whole (adds_calls s marks whole) fit (length s.functions)) fit marks (Out []) (begins first) f (0 ∷ []) one
      (each_at (λ f. unmatched_in_function f ≡ None) s.functions i f whole is) (laid_begins cells first) refl (one_guard cells first) (omega arith, tt)).since.laid

  -- and names its instances in turn
  emitted_named : (first i : ℕ) (f : Function) → slice_get s.functions i ≡ Some f → (emitted s f first).instances ≡ first + length (emitted s f first).created
  emitted_named first i f is =
      let a : AddedSince (one ∷ []) (begins first) (emitted s f first) =
      (adds_body (context_within (length s.functions) s) (adds_calls s marks whole (length s.functions)) marks f (0 ∷ []) one (each_at (λ f. unmatched_in_function f ≡ None) s.functions i f whole is)).add (begins first) tt
      in a.grown.instances ∙ ap (λ (xs : List ℕ). first + length xs) (sym a.grown.created_behind)

-- ---- the numbers in front

marks_behind : (ns : List Number) (ts : List FlatStep) → AreInTurn false (marks_of ts) → AreInTurn false (marks_of (put_numbers ns ++ ts))
marks_behind [] ts h = h
marks_behind (n ∷ ns) ts h = marks_behind ns ts h

created_behind : (ns : List Number) (ts : List FlatStep) → created_in (put_numbers ns ++ ts) ≡ created_in ts
created_behind [] ts = refl
created_behind (n ∷ ns) ts = created_behind ns ts

numbers_fit : (cells n : ℕ) (ns : List Number) → 3 ≤ n → Below n ns → Each (StepFits n cells) (put_numbers ns)
numbers_fit cells n [] low h = tt
numbers_fit cells n (x ∷ ns) low h = ((omega arith, h.0), numbers_fit cells n ns low h.1)

put_goes : (is : List Instance) (n : Number) (v : FlatState) → v.values 2 ≡ 1 → step is (record { guard = one; act = act.Put n.local n.value }) v ≡ Goes (set_local n.local n.value v)
put_goes is n v on = ap (λ x. cond (is_true x) (Goes (set_local n.local n.value v)) (Goes v)) on

module _ (is : List Instance) (Z : List Bool → Type 0) (Q : List FlatStep → FlatState → Type 0) (goes : (t : FlatStep) (ts : List FlatStep) (v u : FlatState) → step is t v ≡ Goes u → Q (t ∷ ts) v → Q ts u) (all : List Number) (ts : List FlatStep)
    (run : (u : FlatState) → Stands all 5 (Out []) Outside u.values → Q ts u → Keeps Z Outside (marks_of ts) (made_from is ts u)) where
  numbers_keep :
      (ns : List Number) → ((l : ℕ) → Plain all l → Plain ns l) → Above 5 ns → (v : FlatState) → v.values 2 ≡ 1 → Stands all 5 (Out []) Outside v.values → Q (put_numbers ns ++ ts) v → Keeps Z Outside (marks_of (put_numbers ns ++ ts)) (made_from is (put_numbers ns ++ ts) v)
  numbers_keep [] sub above v on st q = run v st q
  numbers_keep (n ∷ ns) sub above v on st q =
      let u : FlatState = set_local n.local n.value v in
      let there : step is (record { guard = one; act = act.Put n.local n.value }) v ≡ Goes u = put_goes is n v on in
      let kept : (l : ℕ) → (l ≡ n.local → ⊥) → u.values l ≡ v.values l = λ l other. local_other v.values n.local n.value l other in
      let stands : Stands all 5 (Out []) Outside u.values = record {
        idle = λ l low plain. kept l (λ same. (sub l plain).0 (sym same)) ∙ st.idle l low plain;
        nil = kept none (λ same. absurd (omega (arith, above.0, same))) ∙ st.nil;
        off = tt;
        site = tt;
      } in
      subst (λ (p : Progress). Keeps Z Outside (marks_of (put_numbers ns ++ ts)) (made_behind p (made_from is (put_numbers ns ++ ts)) (put_numbers ns ++ ts))) (sym there)
      (numbers_keep ns (λ l plain. (sub l plain).1) above.1 u (kept 2 (λ same. absurd (omega (arith, above.0, same))) ∙ on) stands (goes (record { guard = one; act = act.Put n.local n.value }) (put_numbers ns ++ ts) v u there q))

first_idle : (arg handle l : ℕ) → 5 ≤ l → first_values arg handle l ≡ 0
first_idle arg handle l low =
    cond-false (nat_eq l 0) arg (cond (nat_eq l 1) handle (cond (nat_eq l 2) 1 0)) (ne_eqb l 0 (λ same. absurd (omega arith)))
    ∙ (cond-false (nat_eq l 1) handle (cond (nat_eq l 2) 1 0) (ne_eqb l 1 (λ same. absurd (omega arith))) ∙ cond-false (nat_eq l 2) 1 0 (ne_eqb l 2 (λ same. absurd (omega arith))))

stands_first : (ns : List Number) (arg handle : ℕ) (script : List ℕ) → Stands ns 5 (Out []) Outside (run_begins arg handle script).values
stands_first ns arg handle script = record { idle = λ l low plain. first_idle arg handle l low; nil = refl; off = tt; site = tt }

steps_after : (is : List Instance) (t : FlatStep) (ts : List FlatStep) (v u w : FlatState) → step is t v ≡ Goes u → steps is (t ∷ ts) v ≡ Goes w → steps is ts u ≡ Goes w
steps_after is t ts v u w there e = sym (ap (λ p. go_on p (steps is ts)) there) ∙ e

module _ (cells first : ℕ) (e : Emitted) (h : Laid cells first (Out []) e) (f : ℕ) where
  fits_there : InstanceFits cells (instance_of f e)
  fits_there = record {
    locals = omega (arith, h.base);
    steps = each_all (StepFits e.next cells) (put_numbers e.numbers ++ e.steps) (each_append (StepFits e.next cells) (put_numbers e.numbers) e.steps (numbers_fit cells e.next e.numbers (omega (arith, h.base)) h.neat) (lays_fit cells e.numbers 5 first (Out []) e.steps e.next e.instances (Out []) h.steps));
  }

  closes_there : SectionsClose (instance_of f e)
  closes_there = marks_behind e.numbers e.steps (lays_turn cells e.numbers 5 first (Out []) e.steps e.next e.instances [] h.steps)

  holds_there : (is : List Instance) → SectionsHold is (instance_of f e)
  holds_there is arg handle script =
      keeps_sections (marks_of (put_numbers e.numbers ++ e.steps)) (made_in is (instance_of f e) arg handle script)
      (numbers_keep is NoneMade (λ ts v. Unit {0}) (λ t ts v u there q. tt) e.numbers e.steps (λ u st q. laid_keeps is cells e.numbers 5 first [] e.steps e.next e.instances (Out []) h.steps u st)
      e.numbers (λ l plain. plain) h.above (run_begins arg handle script) refl (stands_first e.numbers arg handle script) tt)

  ends_there : (is : List Instance) → SectionsEnd is (instance_of f e)
  ends_there is arg handle script w o c comes section opened =
      keeps_closed Never Outside (marks_of (put_numbers e.numbers ++ e.steps)) (made_in is (instance_of f e) arg handle script)
      (numbers_keep is Never (λ ts v. steps is ts v ≡ Goes w) (λ t ts v u there q. steps_after is t ts v u w there q) e.numbers e.steps (λ u st q. laid_ends is cells e.numbers 5 first [] e.steps e.next e.instances (Out []) h.steps u w st q)
      e.numbers (λ l plain. plain) h.above (run_begins arg handle script) refl (stands_first e.numbers arg handle script) comes)
      o c section opened (λ xs same off. off)

  created_there : Numbered first (created_in (instance_of f e).steps) e.instances
  created_there = subst (λ xs. Numbered first xs e.instances) (sym (created_behind e.numbers e.steps)) (lays_created cells e.numbers 5 first (Out []) e.steps e.next e.instances (Out []) h.steps)

-- ---- creates in turn

numbered_up : (n : ℕ) (xs : List ℕ) (m : ℕ) → Numbered n xs m → n ≤ m
numbered_up n [] m h = omega arith
numbered_up n (x ∷ xs) m h = let le : n + 1 ≤ m = numbered_up (n + 1) xs m h.1 in omega arith

numbered_low : (n : ℕ) (xs : List ℕ) (m k j : ℕ) → Numbered n xs m → slice_get xs k ≡ Some j → n ≤ j
numbered_low n [] m k j h e = absurd (let off : ◌≡◌ {A = Option ℕ} None (Some j) = e in cc)
numbered_low n (x ∷ xs) m zero j h e = let same : x ≡ j = (let is : ◌≡◌ {A = Option ℕ} (Some x) (Some j) = e in cc) in omega (arith, h.0, same)
numbered_low n (x ∷ xs) m (suc k) j h e = let le : n + 1 ≤ j = numbered_low (n + 1) xs m k j h.1 e in omega arith

numbered_counted : {X : Type 0} (n : ℕ) (xs : List ℕ) (ys : List X) → Numbered n xs (n + length ys) → xs ≡ counted n ys
numbered_counted n [] [] h = refl
numbered_counted n [] (y ∷ ys) h = absurd (omega arith)
numbered_counted n (x ∷ xs) [] h = absurd (let le : n + 1 ≤ n + 0 = numbered_up (n + 1) xs (n + 0) h.1 in omega arith)
numbered_counted n (x ∷ xs) (y ∷ ys) h =
    let same : n + suc (length ys) ≡ n + 1 + length ys = omega arith in
    ap (λ z. z ∷ xs) h.0 ∙ ap (λ zs. n ∷ zs) (numbered_counted (n + 1) xs ys (subst (Numbered (n + 1) xs) same h.1))

-- ---- the queue

module _ (s : Setting) (marks : NoMarks s) (whole : Each (λ f. unmatched_in_function f ≡ None) s.functions) (cells : ℕ) (fit : SharedFit cells s.shared) where
  laid_of : (n i : ℕ) (e : Emitted) → IsEmitted s i n e → Laid cells n (Out []) e
  laid_of n i e h = subst (Laid cells n (Out [])) (sym h.2) (emitted_laid s marks whole cells n i h.0 fit h.1)

  named_of : (n i : ℕ) (e : Emitted) → IsEmitted s i n e → e.instances ≡ n + length e.created
  named_of n i e h = subst (λ (x : Emitted). x.instances ≡ n + length x.created) (sym h.2) (emitted_named s marks whole n i h.0 h.1)

  queue_each : (P : Instance → Type 0) → ((n i : ℕ) (e : Emitted) → Laid cells n (Out []) e → P (instance_of i e)) → (n : ℕ) (fs : List ℕ) (is : List Instance) → AreQueued s n fs is → Each P is
  queue_each P all n [] [] q = tt
  queue_each P all n [] (i ∷ is) q = absurd q
  queue_each P all n (f ∷ fs) [] q = absurd q
  queue_each P all n (f ∷ fs) (i ∷ is) q =
      (subst P (sym q.2) (all n f q.0 (laid_of n f q.0 q.1)), queue_each P all (n + length q.0.created) (fs ++ q.0.created) is q.3)

  created_at : (n f : ℕ) (e : Emitted) (i : Instance) → IsEmitted s f n e → i ≡ instance_of f e → Numbered n (created_in i.steps) (n + length e.created)
  created_at n f e i h is =
      subst (λ (x : Instance). Numbered n (created_in x.steps) (n + length e.created)) (sym is)
      (subst (Numbered n (created_in (instance_of f e).steps)) (named_of n f e h) (created_there cells n e (laid_of n f e h) f))

  -- the instances are created in turn
  queue_created : (n : ℕ) (fs : List ℕ) (is : List Instance) → AreQueued s n fs is → (m : ℕ) × Numbered n (created_in_all is) m × (m + length fs ≡ n + length is)
  queue_created n [] [] q = (n, refl, refl)
  queue_created n [] (i ∷ is) q = absurd q
  queue_created n (f ∷ fs) [] q = absurd q
  queue_created n (f ∷ fs) (i ∷ is) q =
      let k : ℕ = n + length q.0.created in
      let rest : (m : ℕ) × Numbered k (created_in_all is) m × (m + length (fs ++ q.0.created) ≡ k + length is) = queue_created k (fs ++ q.0.created) is q.3 in (
        rest.0,
        numbered_append n (created_in i.steps) k (created_in_all is) rest.0 (created_at n f q.0 i q.1 q.2) rest.1,
        omega (arith, rest.2, length-append fs q.0.created),
      )

  queue_later :
      (p n : ℕ) (fs : List ℕ) (is : List Instance) → p + length fs ≡ n → AreQueued s n fs is → (i j k : ℕ) (x : Instance) → slice_get is i ≡ Some x → slice_get (created_in x.steps) k ≡ Some j → p + i < j
  queue_later p n [] [] at q i j k x e c = absurd (let off : ◌≡◌ {A = Option Instance} None (Some x) = e in cc)
  queue_later p n [] (y ∷ is) at q i j k x e c = absurd q
  queue_later p n (f ∷ fs) [] at q i j k x e c = absurd q
  queue_later p n (f ∷ fs) (y ∷ is) at q zero j k x e c =
      let same : y ≡ x = (let there : ◌≡◌ {A = Option Instance} (Some y) (Some x) = e in cc) in
      let low : n ≤ j = numbered_low n (created_in y.steps) (n + length q.0.created) k j (created_at n f q.0 y q.1 q.2) (subst (λ (z : Instance). slice_get (created_in z.steps) k ≡ Some j) (sym same) c) in
      omega arith
  queue_later p n (f ∷ fs) (y ∷ is) at q (suc i) j k x e c =
      let next : p + 1 + length (fs ++ q.0.created) ≡ n + length q.0.created = omega (arith, at, length-append fs q.0.created) in
      let low : p + 1 + i < j = queue_later (p + 1) (n + length q.0.created) (fs ++ q.0.created) is next q.3 i j k x e c in
      omega arith

  in_turn : (main : ℕ) (is : List Instance) → AreInstances s main is → 0 ∷ created_in_all is ≡ counted 0 is
  in_turn main [] q = absurd q
  in_turn main (i ∷ is) q =
      let all : (m : ℕ) × Numbered 1 (created_in_all (i ∷ is)) m × (m + 1 ≡ 1 + length (i ∷ is)) = queue_created 1 (main ∷ []) (i ∷ is) q in
      let end : all.0 ≡ 1 + length is = omega (arith, all.2) in
      ap (λ xs. 0 ∷ xs) (numbered_counted 1 (created_in_all (i ∷ is)) is (subst (Numbered 1 (created_in_all (i ∷ is))) end all.1))

  -- the instances and the values that the shared cells begin with
  pub flat_there : (main : ℕ) (f : Flat) → length f.initials ≡ cells → AreInstances s main f.instances → IsFlat f
  flat_there main f many q = record {
    fits = subst (λ n. All (InstanceFits n) f.instances) (sym many) (each_all (InstanceFits cells) f.instances (queue_each (InstanceFits cells) (λ n i e h. fits_there cells n e h i) 1 (main ∷ []) f.instances q));
    creates = record { in_turn = in_turn main f.instances q; later = λ i j k x e c. let lt : 0 + i < j = queue_later 0 1 (main ∷ []) f.instances (omega arith) q i j k x e c in omega arith };
    closed = each_all SectionsClose f.instances (queue_each SectionsClose (λ n i e h. closes_there cells n e h i) 1 (main ∷ []) f.instances q);
    held = each_all (SectionsHold f.instances) f.instances (queue_each (SectionsHold f.instances) (λ n i e h. holds_there cells n e h i f.instances) 1 (main ∷ []) f.instances q);
    ended = each_all (SectionsEnd f.instances) f.instances (queue_each (SectionsEnd f.instances) (λ n i e h. ends_there cells n e h i f.instances) 1 (main ∷ []) f.instances q);
  }

-- ---- shared cells

array_length : (m : ℕ) (n : Name) (i : ℕ) (xs : List Expr) → length (array_cells m n i xs) ≡ m
array_length zero n i xs = refl
array_length (suc m) n i xs = ap suc (array_length m n (i + 1) xs)

variable_length : (n : Name) (o : Option ℕ) (xs : List Expr) → length (variable_cells n o xs) ≡ unwrap_or o 1
variable_length n None xs = refl
variable_length n (Some m) xs = array_length m n 0 xs

declarators_length : (ds : List Declarator) → length (cells_of_declarators ds) ≡ cells_of_all ds
declarators_length [] = refl
declarators_length (d ∷ ds) =
    let here : length (variable_cells d.name (cells_of_size d.size) (written d.initialiser)) ≡ cell_count d = variable_length d.name (cells_of_size d.size) (written d.initialiser) in
    let rest : length (cells_of_declarators ds) ≡ cells_of_all ds = declarators_length ds in
    length-append (variable_cells d.name (cells_of_size d.size) (written d.initialiser)) (cells_of_declarators ds) ∙ (ap (λ x. x + length (cells_of_declarators ds)) here ∙ ap (λ x. cell_count d + x) rest)

declared_fit : (top : ℕ) (done : List Shared) (n : ℕ) (w : TypeWord) (ds : List Declarator) → SharedFit top done → n + cells_of_all ds ≤ top → SharedFit top (shared_declared done n w ds)
declared_fit top done n w [] h le = h
declared_fit top done n w (d ∷ ds) h le =
    declared_fit top (done ++ shared_variable n w d ∷ []) (n + cell_count d) w ds (each_append (λ (v : Shared). v.first + v.count ≤ top) done (shared_variable n w d ∷ []) h (omega arith, tt)) (omega arith)

from_fit : (top : ℕ) (done : List Shared) (n : ℕ) (xs : List Item) → SharedFit top done → n + length (cells_of_items xs) ≤ top → SharedFit top (shared_from done n xs)
from_fit top done n [] h le = h
from_fit top done n (item.Function f ∷ xs) h le = from_fit top done n xs h le
from_fit top done n (item.Prototype p w name ∷ xs) h le = from_fit top done n xs h le
from_fit top done n (item.Shared d ∷ xs) h le =
    let many : length (cells_of_declarators d.declarators ++ cells_of_items xs) ≡ cells_of_all d.declarators + length (cells_of_items xs) =
    length-append (cells_of_declarators d.declarators) (cells_of_items xs) ∙ ap (λ x. x + length (cells_of_items xs)) (declarators_length d.declarators) in
    from_fit top (shared_declared done n d.word d.declarators) (n + cells_of_all d.declarators) xs (declared_fit top done n d.word d.declarators h (omega arith)) (omega arith)

-- the shared variables of a program lie in its shared cells
pub shared_fit : (xs : List Item) → SharedFit (length (cells_of_items xs)) (shared_of xs)
shared_fit xs = from_fit (length (cells_of_items xs)) [] 0 xs tt (omega arith)
