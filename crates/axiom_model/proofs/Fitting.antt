-- A test that a written-out execution is well made, and what it shows.
use Rattle.std.proofs.Common.{◌≡◌, ℕ, zero, suc, ◌+◌, ◌<◌, ◌^◌, List, [], ◌∷◌, Bool, true, false, not, ◌&&◌, ◌||◌, Option, Some, None, refl, sym, ap, subst, ⊎_elim, arith, length}
use Rattle.std.specs.Prelude.{◌≢◌, slice_get, get_or, nat_eq, nat_lt, All, AllPairs}
use Rattle.std.specs.List.{list_all}
use Rattle.std.proofs.lemmas.Bool.{and_parts, and_from, or_cases, eqb-true, eq-eqb, ltb-true, cases_lt}
use Rattle.std.proofs.lemmas.Option.{slice_get-get_or}
use Rattle.dg_base.proofs.Lists.{list_all_at}
use Rattle.axiom_model.specs.declared.Action.{Action}
use Rattle.axiom_model.specs.declared.Action.TheVariants.{Read, Write, Create, Join}
use Rattle.axiom_model.specs.declared.Event.{Event}
use Rattle.axiom_model.specs.declared.Event.TheVariants.{Initial, At}
use Rattle.axiom_model.specs.declared.RfPair.{RfPair}
use Rattle.axiom_model.specs.Execution.{Thread, Execution, actions_of, action_at}
use Rattle.axiom_model.specs.WellMade.{Shape, Writes, SomeThread, ReadsOnce, IsWriteOrder, WellMade}
use Rattle.axiom_model.proofs.Each.{each, each_event}
use Rattle.axiom_model.proofs.PairTests.{same_option}

-- ---- lists

-- the test holds of some item
abbrev pub some : {A : Type 0} → (A → Bool) → List A → Bool
some f [] = false
some f (a ∷ l) = f a || some f l

some_at : {A : Type 0} (f : A → Bool) (l : List A) → some f l ≡ true → (k : ℕ) × (a : A) × (slice_get l k ≡ Some a) × (f a ≡ true)
some_at f [] t = cc
some_at f (a ∷ l) t =
    ⊎_elim (λ h. (0, a, refl, h)) (λ h. let r = some_at f l h in (suc r.0, r.1, r.2, r.3)) (or_cases (f a) (some f l) t)

-- the test holds of each item and each later one
abbrev pub each_two : {A : Type 0} → (A → A → Bool) → List A → Bool
each_two f [] = true
each_two f (a ∷ l) = list_all (f a) l && each_two f l

each_two_at : {A : Type 0} (f : A → A → Bool) (l : List A) → each_two f l ≡ true → (i j : ℕ) (a b : A) → i < j → slice_get l i ≡ Some a → slice_get l j ≡ Some b → f a b ≡ true
each_two_at f [] t i j a b h p q = cc
each_two_at f (c ∷ l) t i zero a b h p q = absurd (omega arith)
each_two_at f (c ∷ l) t zero (suc j) a b h p q =
    let e : c ≡ a = cc in
    subst (λ z. f z b ≡ true) e (list_all_at (f c) l (and_parts _ _ t).0 j b q)
each_two_at f (c ∷ l) t (suc i) (suc j) a b h p q = each_two_at f l (and_parts _ _ t).1 i j a b (omega arith) p q

-- what a test shows of an item holds of all items of a list that passes
all_by : {A : Type 0} (f : A → Bool) (P : A → Type 0) → ((a : A) → f a ≡ true → P a) → (l : List A) → list_all f l ≡ true → All P l
all_by f P h l t k d b = h (get_or l k d) (list_all_at f l t k (get_or l k d) (slice_get-get_or l k d b))

-- and of each item and each later one
all_two_by : {A : Type 0} (f : A → A → Bool) (R : A → A → Type 0) → ((a b : A) → f a b ≡ true → R a b) → (l : List A) → each_two f l ≡ true → AllPairs R l
all_two_by f R h l t i j d a b =
    h (get_or l i d) (get_or l j d) (each_two_at f l t i j (get_or l i d) (get_or l j d) a (slice_get-get_or l i d (omega (arith, a, b))) (slice_get-get_or l j d b))

-- ---- events

-- both are one event
abbrev pub same_event : Event → Event → Bool
same_event Initial Initial = true
same_event (At h i) (At k j) = nat_eq h k && nat_eq i j
same_event _ _ = false

same_event_from : (a b : Event) → same_event a b ≡ true → a ≡ b
same_event_from Initial Initial t = refl
same_event_from Initial (At k j) t = cc
same_event_from (At h i) Initial t = cc
same_event_from (At h i) (At k j) t =
    let p = and_parts (nat_eq h k) (nat_eq i j) t in
    cc (eqb-true h k p.0, eqb-true i j p.1)

same_event_refl : (a : Event) → same_event a a ≡ true
same_event_refl Initial = refl
same_event_refl (At h i) = and_from (nat_eq h h) (nat_eq i i) (eq-eqb h h refl) (eq-eqb i i refl)

-- no two places of a list have one event, by a key of its items
apart : {A : Type 0} (key : A → Event) (l : List A) → each_two (λ a b. not (same_event (key a) (key b))) l ≡ true → (i j : ℕ) (a b : A) → slice_get l i ≡ Some a → slice_get l j ≡ Some b → key a ≡ key b → i ≡ j
apart {A = A} key l t i j a b p q e =
    ⊎_elim (λ h. absurd (clash a b (each_two_at (λ u v. not (same_event (key u) (key v))) l t i j a b h p q) e)) (λ h. ⊎_elim (λ g. absurd (clash b a (each_two_at (λ u v. not (same_event (key u) (key v))) l t j i b a g q p) (sym e))) (λ g. omega arith) (cases_lt j i)) (cases_lt i j)
  where
    clash : (u v : A) → not (same_event (key u) (key v)) ≡ true → key u ≡ key v → ⊥
    clash u v n g =
        let s : same_event (key u) (key v) ≡ true = subst (λ z. same_event (key u) z ≡ true) g (same_event_refl (key u)) in
        let m : not true ≡ true = subst (λ z. not z ≡ true) s n in
        cc

-- ---- the sentences, one by one

-- the action creates this thread
abbrev pub is_create : Thread → Action → Bool
is_create t (Create h f v) = nat_eq h t.handle && nat_eq f t.function && nat_eq v t.arg
is_create t _ = false

is_create_from : (t : Thread) (a : Action) → is_create t a ≡ true → a ≡ Create t.handle t.function t.arg
is_create_from t (Create h f v) e =
    let p = and_parts (nat_eq h t.handle && nat_eq f t.function) (nat_eq v t.arg) e in
    let q = and_parts (nat_eq h t.handle) (nat_eq f t.function) p.0 in
    cc (eqb-true h t.handle q.0, eqb-true f t.function q.1, eqb-true v t.arg p.1)
is_create_from t _ e = cc

-- the thread is the main thread, or some thread creates it
abbrev pub created_test : Execution → Thread → Bool
created_test x t = nat_eq t.handle 0 || some (λ (u : Thread). some (is_create t) (actions_of x.threads u.handle)) x.threads

created_at : (x : Execution) (t : Thread) → created_test x t ≡ true → t.handle ≢ 0 → (e : Event) × (action_at x e ≡ Some (Create t.handle t.function t.arg))
created_at x t c n =
    ⊎_elim (λ h. absurd (n (eqb-true t.handle 0 h))) found (or_cases (nat_eq t.handle 0) (some (λ (u : Thread). some (is_create t) (actions_of x.threads u.handle)) x.threads) c)
  where
    found : some (λ (u : Thread). some (is_create t) (actions_of x.threads u.handle)) x.threads ≡ true → (e : Event) × (action_at x e ≡ Some (Create t.handle t.function t.arg))
    found h =
        let r = some_at (λ (u : Thread). some (is_create t) (actions_of x.threads u.handle)) x.threads h in
        let q = some_at (is_create t) (actions_of x.threads r.1.handle) r.3 in
        (At r.1.handle q.0, subst (λ a. slice_get (actions_of x.threads r.1.handle) q.0 ≡ Some a) (is_create_from t q.1 q.3) q.2)

-- there is a thread with this handle that passes the test
abbrev pub thread_test : Execution → ℕ → (Thread → Bool) → Bool
thread_test x h f = some (λ (t : Thread). nat_eq t.handle h && f t) x.threads

thread_at : (x : Execution) (h : ℕ) (f : Thread → Bool) (P : Thread → Type 0) → ((t : Thread) → f t ≡ true → P t) → thread_test x h f ≡ true → SomeThread x h P
thread_at x h f P g t =
    let r = some_at (λ (u : Thread). nat_eq u.handle h && f u) x.threads t in
    let p = and_parts (nat_eq r.1.handle h) (f r.1) r.3 in
    (r.0, r.1, r.2, eqb-true r.1.handle h p.0, g r.1 p.1)

-- the action is a write of the value to the cell
abbrev pub writes_to : ℕ → ℕ → Option Action → Bool
writes_to c v (Some (Write d w)) = nat_eq d c && nat_eq w v
writes_to c v _ = false

writes_to_from : (c v : ℕ) (o : Option Action) → writes_to c v o ≡ true → o ≡ Some (Write c v)
writes_to_from c v (Some (Write d w)) t =
    let p = and_parts (nat_eq d c) (nat_eq w v) t in
    cc (eqb-true d c p.0, eqb-true w v p.1)
writes_to_from c v (Some _) t = cc
writes_to_from c v None t = cc

-- the event writes the value to the cell
abbrev pub writes_test : Shape → Execution → Event → ℕ → ℕ → Bool
writes_test s x Initial c v = same_option (slice_get s.initials c) (Some v)
writes_test s x (At h i) c v = writes_to c v (action_at x (At h i))

is_value : (o : Option ℕ) (v : ℕ) → same_option o (Some v) ≡ true → o ≡ Some v
is_value (Some w) v t = ap Some (eqb-true w v t)
is_value None v t = cc

writes_at : (s : Shape) (x : Execution) (e : Event) (c v : ℕ) → writes_test s x e c v ≡ true → Writes s x e c v
writes_at s x Initial c v t = is_value (slice_get s.initials c) v t
writes_at s x (At h i) c v t = writes_to_from c v (action_at x (At h i)) t

-- some pair has this reader, and a source that writes the value to the cell
abbrev pub source_test : Shape → Execution → Event → ℕ → ℕ → RfPair → Bool
source_test s x e c v p = same_event p.reader e && writes_test s x p.source c v

-- where no reader stands in two pairs, one pair with a good source is the one source of the read
reads_once : (s : Shape) (x : Execution) → each_two (λ (p q : RfPair). not (same_event p.reader q.reader)) x.rf ≡ true → (e : Event) (c v : ℕ) → some (source_test s x e c v) x.rf ≡ true → ReadsOnce s x e c v
reads_once s x one e c v t =
    let r = some_at (source_test s x e c v) x.rf t in
    let p = and_parts (same_event r.1.reader e) (writes_test s x r.1.source c v) r.3 in
    let g : r.1.reader ≡ e = same_event_from r.1.reader e p.0 in
    record {
      place = r.0;
      source = r.1.source;
      pair = subst (λ z. slice_get x.rf r.0 ≡ Some (record { reader = z; source = r.1.source })) g r.2;
      only = λ k q h w. apart (λ (z : RfPair). z.reader) x.rf one k r.0 q r.1 h r.2 (cc (w, g));
      writes = writes_at s x r.1.source c v p.1;
    }

-- the action is a read
abbrev pub is_read : Option Action → Bool
is_read (Some (Read c v)) = true
is_read _ = false

is_read_from : (o : Option Action) → is_read o ≡ true → (c : ℕ) × (v : ℕ) × (o ≡ Some (Read c v))
is_read_from (Some (Read c v)) t = (c, v, refl)
is_read_from (Some _) t = cc
is_read_from None t = cc

-- the action is a write to the cell
abbrev pub writes_cell : ℕ → Option Action → Bool
writes_cell c (Some (Write d w)) = nat_eq d c
writes_cell c _ = false

writes_cell_from : (c : ℕ) (o : Option Action) → writes_cell c o ≡ true → (v : ℕ) × (o ≡ Some (Write c v))
writes_cell_from c (Some (Write d w)) t = (w, ap (λ n. Some (Write n w)) (eqb-true d c t))
writes_cell_from c (Some _) t = cc
writes_cell_from c None t = cc

-- an action that writes the cell is in the list
abbrev pub listed_test : ℕ → List Event → Event → Action → Bool
listed_test c ws e a = not (writes_cell c (Some a)) || some (same_event e) ws

-- the initial write, then the cell's writes, each once
abbrev pub order_test : Execution → ℕ → List Event → Bool
order_test x c (Initial ∷ ws) = (each_two (λ a b. not (same_event a b)) ws && list_all (λ e. writes_cell c (action_at x e)) ws) && each x.threads (listed_test c ws)
order_test x c _ = false

order_at : (x : Execution) (c : ℕ) (l : List Event) → order_test x c l ≡ true → IsWriteOrder x c l
order_at x c [] t = cc
order_at x c (At h i ∷ ws) t = cc
order_at x c (Initial ∷ ws) t =
    let p = and_parts (each_two (λ a b. not (same_event a b)) ws && list_all (λ e. writes_cell c (action_at x e)) ws) (each x.threads (listed_test c ws)) t in
    let q = and_parts (each_two (λ a b. not (same_event a b)) ws) (list_all (λ e. writes_cell c (action_at x e)) ws) p.0 in
    record {
      writes = ws;
      initial_first = refl;
      once = λ i j e f g. apart (λ z. z) ws q.0 i j e e f g refl;
      sound = λ i e f. writes_cell_from c (action_at x e) (list_all_at (λ z. writes_cell c (action_at x z)) ws q.1 i e f);
      complete = λ e v f. complete e v (each_event x (listed_test c ws) p.1 e (Write c v) f);
    }
  where
    complete : (e : Event) (v : ℕ) → listed_test c ws e (Write c v) ≡ true → (i : ℕ) × (slice_get ws i ≡ Some e)
    complete e v f =
        ⊎_elim (λ n. let m : not true ≡ true = subst (λ b. not b ≡ true) (eq-eqb c c refl) n in cc) (λ n. let r = some_at (same_event e) ws n in (r.0, subst (λ z. slice_get ws r.0 ≡ Some z) (sym (same_event_from e r.1 r.3)) r.2)) (or_cases (not (writes_cell c (Some (Write c v)))) (some (same_event e) ws) f)

-- the lists are orders of the cells from c on
abbrev pub orders_test : Execution → ℕ → List (List Event) → Bool
orders_test x c [] = true
orders_test x c (l ∷ ls) = order_test x c l && orders_test x (c + 1) ls

orders_at : (x : Execution) (c : ℕ) (ls : List (List Event)) → orders_test x c ls ≡ true → (k : ℕ) (l : List Event) → slice_get ls k ≡ Some l → IsWriteOrder x (c + k) l
orders_at x c [] t k l e = cc
orders_at x c (m ∷ ls) t zero l e =
    let g : m ≡ l = cc in
    let z : c ≡ c + 0 = omega arith in
    subst (λ n. IsWriteOrder x n l) z (subst (λ w. IsWriteOrder x c w) g (order_at x c m (and_parts _ _ t).0))
orders_at x c (m ∷ ls) t (suc k) l e =
    let z : c + 1 + k ≡ c + suc k = omega arith in
    subst (λ n. IsWriteOrder x n l) z (orders_at x (c + 1) ls (and_parts _ _ t).1 k l e)

-- what an action asks of the execution: a Create or a Join of its thread, a read of its source
abbrev pub action_test : Shape → Execution → Event → Action → Bool
action_test s x e (Read c v) = some (source_test s x e c v) x.rf
action_test s x e (Create h f v) = thread_test x h (λ t. true)
action_test s x e (Join h) = nat_lt 0 h && thread_test x h (λ t. t.ended)
action_test s x e _ = true

-- the tests of a well made execution: main, rising handles, known functions and handles, no bad thread, creators, what each action asks, one pair for each reader, readers that read, a list for each cell, orders of writes
abbrev pub tests : Shape → Execution → List Bool
tests s x =
    thread_test x 0 (λ t. nat_eq t.function s.main && nat_eq t.arg 0)
    ∷ each_two (λ (t u : Thread). nat_lt t.handle u.handle) x.threads
    ∷ list_all (λ (t : Thread). nat_lt t.function s.functions && nat_lt t.handle (2 ^ 24)) x.threads
    ∷ list_all (λ (t : Thread). not t.bad) x.threads
    ∷ list_all (created_test x) x.threads
    ∷ each x.threads (action_test s x)
    ∷ each_two (λ (p q : RfPair). not (same_event p.reader q.reader)) x.rf
    ∷ list_all (λ (p : RfPair). is_read (action_at x p.reader)) x.rf
    ∷ nat_eq (length x.co) (length s.initials)
    ∷ orders_test x 0 x.co ∷ []

-- the execution passes all
abbrev pub fits : Shape → Execution → Bool
fits s x = list_all (λ b. b) (tests s x)

not_true : (b : Bool) → not b ≡ true → b ≡ false
not_true true t = cc
not_true false t = refl

-- an execution that passes the tests is well made
pub fits-well_made : (s : Shape) (x : Execution) → fits s x ≡ true → WellMade s x
fits-well_made s x t = record {
  has_main = thread_at x 0 (λ t. nat_eq t.function s.main && nat_eq t.arg 0) (λ t. (t.function ≡ s.main) × (t.arg ≡ 0)) (λ t e. let p = and_parts (nat_eq t.function s.main) (nat_eq t.arg 0) e in (eqb-true t.function s.main p.0, eqb-true t.arg 0 p.1)) (passes 0 refl);
  rising = all_two_by (λ (t u : Thread). nat_lt t.handle u.handle) (λ t u. t.handle < u.handle) (λ t u e. ltb-true t.handle u.handle e) x.threads (passes 1 refl);
  known = all_by (λ (t : Thread). nat_lt t.function s.functions && nat_lt t.handle (2 ^ 24)) (λ t. (t.function < s.functions) × (t.handle < 2 ^ 24)) (λ t e. let p = and_parts (nat_lt t.function s.functions) (nat_lt t.handle (2 ^ 24)) e in (ltb-true t.function s.functions p.0, ltb-true t.handle (2 ^ 24) p.1)) x.threads (passes 2 refl);
  none_bad = all_by (λ (t : Thread). not t.bad) (λ t. t.bad ≡ false) (λ t e. not_true t.bad e) x.threads (passes 3 refl);
  created = all_by (created_test x) (λ t. t.handle ≢ 0 → (e : Event) × (action_at x e ≡ Some (Create t.handle t.function t.arg))) (created_at x) x.threads (passes 4 refl);
  creates = λ e h g v a. thread_at x h (λ t. true) (λ t. Unit {0}) (λ t u. tt) (each_event x (action_test s x) (passes 5 refl) e (Create h g v) a);
  reads = λ e c v a. reads_once s x (passes 6 refl) e c v (each_event x (action_test s x) (passes 5 refl) e (Read c v) a);
  readers = all_by (λ (p : RfPair). is_read (action_at x p.reader)) (λ p. (c : ℕ) × (v : ℕ) × (action_at x p.reader ≡ Some (Read c v))) (λ p e. is_read_from (action_at x p.reader) e) x.rf (passes 7 refl);
  lists = eqb-true (length x.co) (length s.initials) (passes 8 refl);
  orders = λ c l e. let z : 0 + c ≡ c = omega arith in subst (λ n. IsWriteOrder x n l) z (orders_at x 0 x.co (passes 9 refl) c l e);
  joins = λ e h a. let p = and_parts (nat_lt 0 h) (thread_test x h (λ t. t.ended)) (each_event x (action_test s x) (passes 5 refl) e (Join h) a) in let b : 0 < h = ltb-true 0 h p.0 in ((λ z. absurd (omega arith)), thread_at x h (λ t. t.ended) (λ t. t.ended ≡ true) (λ t u. u) p.1);
}
  where
    passes : {b : Bool} (k : ℕ) → slice_get (tests s x) k ≡ Some b → b ≡ true
    passes {b = b} k e = list_all_at (λ b. b) (tests s x) t k b e
