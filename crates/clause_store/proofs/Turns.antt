-- What the visits of a literal that was taken keep of the watches.
use Rattle.std.proofs.Common.{◌≡◌, ℕ, zero, suc, ◌+◌, ◌/◌, ◌<◌, ◌≤◌, ◌⊎◌, inl, inr, Bool, false, List, [], ◌∷◌, ◌++◌, length, min, take, refl, ap, sym, ◌∙◌, subst, arith, add-one}
use Rattle.std.specs.Prelude.{Contains, slice_get, Some, None}
use Rattle.std.proofs.lemmas.List.{map-append, length-map}
use Rattle.std.proofs.lemmas.Bool.{cases_lt}
use Rattle.std.proofs.lemmas.Option.{slice_get_within}
use Rattle.dg_base.proofs.Lists.{get_append_front, contains_head, contains_tail, contains_nothing, contains_cases}
use Rattle.dg_base.specs.declared.Lit.{Lit}
use Rattle.cnf_problem.specs.Literals.{negated, var}
use Rattle.cnf_problem.specs.Chains.{IsFixpoint}
use Rattle.cnf_problem.proofs.LiteralLaws.{negated-negated, var-negated}
use Rattle.trail_state.specs.Trails.{Assigned, Forced, TrailView, IsWell, lit_of, true_lits, level, up_to}
use Rattle.trail_state.specs.Forcing.{AddsForced, none, one}
use Rattle.clause_store.specs.Linked.{IsLinked, LinksView, end_of_list}
use Rattle.clause_store.specs.Watching.{IsRoomy, LowerTaken, watched}
use Rattle.clause_store.specs.Visiting.{IsFree, IsAt, IsOwing, IsVisiting}
use Rattle.clause_store.specs.Stores.{AreWatched, IsUndone}
use Rattle.trail_state.proofs.Cuts.{up_to_front, up_to-append, level-forced}
use Rattle.clause_store.proofs.Watches.{fixpoint_from_quiet}
use Rattle.clause_store.proofs.TrailLaws.{place_of, well_free, undone_lower}
use Rattle.clause_store.proofs.Visits.{ends_linked, ends_watched, quiet_at_end}

-- a member of the first so many and one more is the last of them or among the others
pub take_more : (lits : List Lit) (n : ℕ) (p l : Lit) → slice_get lits n ≡ Some p → Contains (take (suc n) lits) l → (l ≡ p) ⊎ Contains (take n lits) l
take_more [] n p l h c = absurd (let e : None ≡ Some p = h in cc)
take_more (x ∷ xs) zero p l h c =
    elim (contains_cases x l (take 0 xs) c) [
      | inl e ↦ inl (e ∙ (let q : Some x ≡ Some p = h in cc))
      | inr m ↦ absurd (contains_nothing l m)
    ]
take_more (x ∷ xs) (suc n) p l h c =
    elim (contains_cases x l (take (suc n) xs) c) [
      | inl e ↦ inr (subst (λ z. Contains (x ∷ take n xs) z) (sym e) (contains_head x (take n xs)))
      | inr m ↦ elim (take_more xs n p l h m) [
        | inl e ↦ inl e
        | inr r ↦ inr (contains_tail x l (take n xs) r)
      ]
    ]

-- the literal that was taken last is not on a lower level
pub late_on_trail : (t : TrailView) (p : Lit) → IsWell t → LowerTaken t.entries t.taken → slice_get (true_lits t.entries) t.taken ≡ Some p → (n : ℕ) → n < level t.entries → ¬ Contains (true_lits (up_to n t.entries)) p
late_on_trail t p well lower there n lt c =
    let i = place_of (true_lits (up_to n t.entries)) p c in
    let r = up_to_front n t.entries in
    let parts : true_lits t.entries ≡ true_lits (up_to n t.entries) ++ true_lits r.0 = ap true_lits (sym r.1) ∙ map-append lit_of (up_to n t.entries) r.0 in
    let at_i : slice_get (true_lits t.entries) i.0 ≡ Some p = rw parts (get_append_front (true_lits (up_to n t.entries)) (true_lits r.0) i.0 i.1 ∙ i.2) in
    let same = well.once i.0 t.taken p p at_i there refl in
    let low = lower n lt in
    let short = i.1 in
    let long : length (true_lits (up_to n t.entries)) ≡ length (up_to n t.entries) = rw length-map refl in
    omega arith

-- the literal that is taken next
pub at_next : (t : TrailView) (p : Lit) → IsWell t → LowerTaken t.entries t.taken → slice_get (true_lits t.entries) t.taken ≡ Some p → IsAt t.entries (t.taken + 1) p
at_next t p well lower there =
    let within = slice_get_within (true_lits t.entries) t.taken p there in
    let long : length (true_lits t.entries) ≡ length t.entries = rw length-map refl in
    let member : Contains (true_lits t.entries) p = member_at (true_lits t.entries) t.taken there in
    let over = well.range p member in
    let same = var-negated p in
    record {
      free = well_free t well;
      there = member;
      late = late_on_trail t p well lower there;
      within = omega arith;
      real = λ z. (let a = over.0 in let v : var (negated p) ≡ var p = same in omega arith);
    }
  where
    member_at : (xs : List Lit) (k : ℕ) → slice_get xs k ≡ Some p → Contains xs p
    member_at [] k h = absurd (let e : None ≡ Some p = h in cc)
    member_at (x ∷ xs) zero h = subst (λ z. Contains (x ∷ xs) z) (let e : Some x ≡ Some p = h in cc) (contains_head x xs)
    member_at (x ∷ xs) (suc k) h = contains_tail x p xs (member_at xs k h)

-- only the links that watch the negation of the literal that is taken next owe a guard
pub owing_next : (clauses : List (List Lit)) (vars : ℕ) (l : LinksView) (t : TrailView) (p : Lit) → AreWatched clauses vars l (length clauses) t → slice_get (true_lits t.entries) t.taken ≡ Some p → IsOwing clauses t.entries (t.taken + 1) p l.next l.heads l.owner_of
owing_next clauses vars l t p w there = record {
  lists = w.lists;
  linked = w.linked;
  each = w.each;
  short = λ k h z. (w.known k h (in_known k h)).short z;
  here = λ k h real other c. elim (take_more (true_lits t.entries) t.taken p (negated (watched l.owner_of k)) there (rw add-one at c)) [
    | inl e ↦ absurd (other (sym (negated-negated (watched l.owner_of k)) ∙ ap negated e))
    | inr old ↦ (w.known k h (in_known k h)).here real old
  ];
}
  where
    in_known : (k : ℕ) → k < length l.owner_of → k / 2 < length clauses
    in_known k h = let a = w.linked.long in let b = w.room.links in omega arith

-- forced literals leave the lower levels as they were
pub lower_forced : (clauses : List (List Lit)) (before after : List Assigned) (taken : ℕ) → AddsForced clauses before after → LowerTaken before taken → LowerTaken after taken
lower_forced clauses before after taken none low = low
lower_forced clauses before after taken (one l id f rest) low =
    lower_forced clauses (before ++ Forced l id ∷ []) after taken rest (λ n lt.
    let e = level-forced before l id in
    rw (up_to-append n before (Forced l id ∷ []) (omega arith)) (low n (omega arith)))

-- one more literal was taken
pub lower_more : (entries : List Assigned) (taken : ℕ) → LowerTaken entries taken → LowerTaken entries (taken + 1)
lower_more entries taken low n lt = let q = low n lt in omega arith

-- the links after a visit
module _ (clauses : List (List Lit)) (vars : ℕ) (l : LinksView) (t : TrailView) (p : Lit) (left : ℕ) (stop : Bool)
    (same_vars : t.vars ≡ vars)
    (room : IsRoomy clauses vars l.next l.heads)
    (lower : LowerTaken t.entries t.taken)
    (v : IsVisiting clauses t.entries t.taken p l.next l.heads l.owner_of end_of_list left stop)
  where
    linked : (lists : List (List ℕ)) × IsLinked l.next l.heads l.owner_of end_of_list [] lists
    linked = ends_linked clauses t.entries t.taken p l.next l.heads l.owner_of left stop v room.small

    in_known : (k : ℕ) → k < length l.owner_of → k / 2 < length clauses
    in_known k h = let a = linked.1.long in let b = room.links in omega arith

    -- where no clause is false, they fit the trail
    pub visited_calm : stop ≡ false → AreWatched clauses vars l (length clauses) t
    visited_calm calm = record {
      same_vars = same_vars;
      room = room;
      lists = linked.0;
      linked = linked.1;
      within = omega arith;
      lower = lower;
      each = v.each;
      known = λ k h lt. record {
        here = ends_watched clauses t.entries t.taken p l.next l.heads l.owner_of left (subst (λ s. IsVisiting clauses t.entries t.taken p l.next l.heads l.owner_of end_of_list left s) calm v) room.small k h;
        short = v.short k h;
      };
      fresh = λ k h ge. absurd (let q = in_known k h in omega arith);
    }

    -- in any case they fit it once it is undone to a lower level
    pub visited_below : (n : ℕ) (u : TrailView) → n < level t.entries → IsUndone n t u → AreWatched clauses vars l (length clauses) u
    visited_below n u lt un =
        undone_lower clauses vars l (length clauses) t u n lt un same_vars room linked.0 linked.1 (omega arith) lower v.each
        (λ k h z. (in_known k h, v.short k h z))

-- where all was looked at and taken, no clause is false and none is unit
pub settled_fixpoint : (clauses : List (List Lit)) (vars : ℕ) (l : LinksView) (t : TrailView) → AreWatched clauses vars l (length clauses) t → IsFree t.entries → t.taken ≡ length t.entries → IsFixpoint clauses (true_lits t.entries)
settled_fixpoint clauses vars l t w free all =
    fixpoint_from_quiet t.entries clauses free
    (quiet_at_end clauses vars t.entries l.next l.heads l.owner_of w.room w.linked.long w.each
    (λ k h z. (w.known k h (in_known k h)).short z)
    (λ k h real. rw all at (w.known k h (in_known k h)).here real))
  where
    in_known : (k : ℕ) → k < length l.owner_of → k / 2 < length clauses
    in_known k h = let a = w.linked.long in let b = w.room.links in omega arith

-- a turn begins: the next literal is taken
pub record Begun (clauses : List (List Lit)) (l : LinksView) (t u : TrailView) (p : Lit) : Type 0 where
  pub same : u ≡ record t { taken = t.taken + 1 }
  pub at : IsAt u.entries u.taken p
  pub owing : IsOwing clauses u.entries u.taken p l.next l.heads l.owner_of
  pub head : (negated p).0 < length l.heads
  pub room : IsRoomy clauses u.vars l.next l.heads
  pub left : t.taken < t.vars

pub turn_begins : (clauses : List (List Lit)) (vars : ℕ) (l : LinksView) (t u : TrailView) (p : Lit)
    → AreWatched clauses vars l (length clauses) t → t.taken ≤ length t.entries
    → u ≡ record t { taken = min (t.taken + 1) (length t.entries) } → slice_get (true_lits t.entries) t.taken ≡ Some p → IsWell u
    → Begun clauses l t u p
turn_begins clauses vars l t u p w few e there well =
    rw next (record {
      same = refl;
      at = at_next t p before w.lower there;
      owing = owing_next clauses vars l t p w there;
      head = (let a = (before.range p member).1 in let v : var (negated p) ≡ var p = var-negated p in let h = w.room.codes in let s = w.same_vars in omega arith);
      room = rw w.same_vars w.room;
      left = (let q = within in let f = before.few in omega arith);
    })
  where
    within : t.taken < length t.entries
    within = let q = slice_get_within (true_lits t.entries) t.taken p there in let long : length (true_lits t.entries) ≡ length t.entries = rw length-map refl in omega arith

    count : min (t.taken + 1) (length t.entries) ≡ t.taken + 1
    count = let q = within in omega arith

    next : u ≡ record t { taken = t.taken + 1 }
    next = e ∙ ap (λ (n : ℕ). let x : TrailView = record { vars = t.vars; entries = t.entries; taken = n } in x) count

    well_next : IsWell (record t { taken = t.taken + 1 })
    well_next = subst (λ z. IsWell z) next well

    before : IsWell t
    before = record { range = well_next.range; once = well_next.once; few = well_next.few; taken = few }

    member : Contains (true_lits t.entries) p
    member = (at_next t p before w.lower there).there

-- a turn ends: the clauses that watch the negation of the literal were visited
pub record Ended (clauses : List (List Lit)) (vars : ℕ) (l : LinksView) (t : TrailView) (stop : Bool) : Type 0 where
  pub calm : stop ≡ false → AreWatched clauses vars l (length clauses) t
  pub below : (n : ℕ) (u : TrailView) → n < level t.entries → IsUndone n t u → AreWatched clauses vars l (length clauses) u

pub turn_ends : (clauses : List (List Lit)) (vars : ℕ) (l m : LinksView) (t u v : TrailView) (p : Lit) (left : ℕ) (stop : Bool)
    → AreWatched clauses vars l (length clauses) t → u ≡ record t { taken = t.taken + 1 }
    → v.vars ≡ u.vars → v.taken ≡ u.taken → AddsForced clauses u.entries v.entries → IsRoomy clauses v.vars m.next m.heads
    → IsVisiting clauses v.entries v.taken p m.next m.heads m.owner_of end_of_list left stop
    → Ended clauses vars m v stop
turn_ends clauses vars l m t u v p left stop w e vars_same taken_same forced room visiting = record {
  calm = visited_calm clauses vars m v p left stop same_vars (rw same_vars at room) lower visiting;
  below = visited_below clauses vars m v p left stop same_vars (rw same_vars at room) lower visiting;
}
  where
    same_vars : v.vars ≡ vars
    same_vars = vars_same ∙ ap (λ (x : TrailView). x.vars) e ∙ w.same_vars

    lower_u : LowerTaken u.entries u.taken
    lower_u = rw e (lower_more t.entries t.taken w.lower)

    lower : LowerTaken v.entries v.taken
    lower = rw taken_same (lower_forced clauses u.entries v.entries u.taken forced lower_u)

-- no literal is left to take
pub all_taken : (t u : TrailView) → t.taken ≤ length t.entries → u ≡ record t { taken = min (t.taken + 1) (length t.entries) } → slice_get (true_lits t.entries) t.taken ≡ None → (u ≡ t) × (u.taken ≡ length u.entries)
all_taken t u few e gone =
    let full : t.taken ≡ length t.entries = (elim (cases_lt t.taken (length t.entries)) [
      | inl lt ↦ absurd (some_there (true_lits t.entries) t.taken (rw length-map lt) gone)
      | inr ge ↦ omega arith
    ]) in
    let count : min (t.taken + 1) (length t.entries) ≡ t.taken = omega arith in
    let same : u ≡ t = e ∙ ap (λ (n : ℕ). let x : TrailView = record { vars = t.vars; entries = t.entries; taken = n } in x) count in
    (same, rw same full)
  where
    some_there : (xs : List Lit) (k : ℕ) → k < length xs → slice_get xs k ≡ None → ⊥
    some_there [] k h e = omega arith
    some_there (x ∷ xs) zero h e = let q : Some x ≡ None = e in cc
    some_there (x ∷ xs) (suc k) h e = some_there xs k (omega arith) e
