-- What the calls of a trail keep of a store's watches.
use Rattle.std.proofs.Common.{◌≡◌, ℕ, zero, suc, ◌/◌, ◌<◌, ◌≤◌, inl, inr, List, [], ◌∷◌, ◌++◌, length, refl, ap, sym, ◌∙◌, subst, arith}
use Rattle.std.specs.Prelude.{Contains, slice_get, slice_index, Some}
use Rattle.std.proofs.lemmas.List.{map-append, length-append}
use Rattle.std.proofs.lemmas.List.Elements.{Contains-append_left}
use Rattle.std.proofs.lemmas.Bool.{cases_lt}
use Rattle.dg_base.specs.declared.Lit.{Lit}
use Rattle.cnf_problem.specs.Literals.{negated}
use Rattle.cnf_problem.proofs.LiteralLaws.{var-negated}
use Rattle.trail_state.specs.Trails.{Assigned, Decided, Forced, TrailView, IsWell, true_lits, level, up_to}
use Rattle.trail_state.specs.Forcing.{FixpointBelow}
use Rattle.clause_store.specs.Linked.{IsLinked, LinksView, end_of_list}
use Rattle.clause_store.specs.Watching.{GuardsBelow, IsLink, IsRoomy, IsTrueForEver, LowerTaken, Watches, clause_of, watched, twin}
use Rattle.clause_store.specs.Visiting.{IsFree}
use Rattle.clause_store.specs.Stores.{AreWatched, IsUndone}
use Rattle.trail_state.proofs.Cuts.{up_to_all, up_to-up_to, level-up_to, up_to-append, up_to-decided, up_to_front, level-forced, level-decided}
use Rattle.clause_store.proofs.Watches.{fixpoint_from_quiet, cut_within, below_after_undo, here_after_undo, below_after_assign, below_after_decide, here_after_more}
use Rattle.clause_store.proofs.Visits.{negated-other, forever_more, quiet_at_end}

-- a member has a place
pub place_of : (lits : List Lit) (l : Lit) → Contains lits l → (i : ℕ) × (i < length lits) × (slice_get lits i ≡ Some l)
place_of [] l (k, h, e) = absurd (omega arith)
place_of (x ∷ xs) l (zero, h, e) = (0, omega arith, ap Some e)
place_of (x ∷ xs) l (suc k, h, e) = let r = place_of xs l (k, omega arith, e) in (suc r.0, omega (arith, r.1), r.2)

-- no literal of a trail is there with its negation
pub well_free : (t : TrailView) → IsWell t → IsFree t.entries
well_free t w l c d =
    let i = place_of (true_lits t.entries) l c in
    let j = place_of (true_lits t.entries) (negated l) d in
    let same = w.once i.0 j.0 l (negated l) i.2 j.2 (sym (var-negated l)) in
    negated-other l (let e : Some (negated l) ≡ Some l = sym j.2 ∙ (rw same at i.2) in cc)

-- nor of a part of it
pub free_part : (entries : List Assigned) (n : ℕ) → IsFree entries → IsFree (up_to n entries)
free_part entries n free l c d = free l (cut_within n entries l c) (cut_within n entries (negated l) d)

pub link_more : (clauses : List (List Lit)) (before after : List Assigned) (owner_of : List ℕ) (k : ℕ) → ((a b : Lit) → GuardsBelow before a b → GuardsBelow after a b) → IsLink clauses before owner_of k → IsLink clauses after owner_of k
link_more clauses before after owner_of k grow l = record {
  listed = l.listed;
  apart = l.apart;
  paired = l.paired;
  below = grow (watched owner_of k) (watched owner_of (twin k)) l.below;
}

-- a literal is made true by a clause
pub assigned : (clauses : List (List Lit)) (vars : ℕ) (s : LinksView) (examined : ℕ) (t : TrailView) (l : Lit) (id : ℕ) → AreWatched clauses vars s examined t → t.taken ≤ length t.entries → AreWatched clauses vars s examined (record t { entries = t.entries ++ Forced l id ∷ [] })
assigned clauses vars s examined t l id w few = record {
  same_vars = w.same_vars;
  room = w.room;
  lists = w.lists;
  linked = w.linked;
  within = w.within;
  lower = λ n lt.
      let e = level-forced t.entries l id in
      rw (up_to-append n t.entries (Forced l id ∷ []) (omega arith)) (w.lower n (omega arith));
  each = λ k h real. link_more clauses t.entries (t.entries ++ Forced l id ∷ []) s.owner_of k (λ a b. below_after_assign t.entries l a b id) (w.each k h real);
  known = λ k h lt. let old = w.known k h lt in record {
    here = λ real. here_after_more t.entries (Forced l id ∷ []) t.taken (watched s.owner_of k) (watched s.owner_of (twin k)) few (old.here real);
    short = λ z. forever_more t.entries (Forced l id ∷ []) (clause_of clauses k) (old.short z);
  };
  fresh = λ k h le. let old = w.fresh k h le in record {
    here = λ real. elim (old.here real) [
      | inl g ↦ inl (here_after_more t.entries (Forced l id ∷ []) t.taken (watched s.owner_of k) (watched s.owner_of (twin k)) few g)
      | inr others ↦ inr (λ m c. elim (others m c) [
        | inl e ↦ inl e
        | inr f ↦ inr (rw map-append (Contains-append_left (true_lits t.entries) (l ∷ []) (negated m) f))
      ])
    ];
    short = λ z. let q = old.short z in (rw (level-forced t.entries l id) q.0, q.1);
  };
}

-- a decision, once all is settled
pub decided : (clauses : List (List Lit)) (vars : ℕ) (s : LinksView) (examined : ℕ) (t : TrailView) (l : Lit) → AreWatched clauses vars s examined t → examined ≡ length clauses → t.taken ≡ length t.entries → AreWatched clauses vars s examined (record t { entries = t.entries ++ Decided l ∷ [] })
decided clauses vars s examined t l w all taken = record {
  same_vars = w.same_vars;
  room = w.room;
  lists = w.lists;
  linked = w.linked;
  within = w.within;
  lower = λ n lt. lower n lt;
  each = λ k h real. let old = w.each k h real in record {
    listed = old.listed;
    apart = old.apart;
    paired = old.paired;
    below = below_after_decide t.entries l (watched s.owner_of k) (watched s.owner_of (twin k)) old.below (rw taken at (w.known k h (in_known k h)).here real);
  };
  known = λ k h lt. let old = w.known k h lt in record {
    here = λ real. here_after_more t.entries (Decided l ∷ []) t.taken (watched s.owner_of k) (watched s.owner_of (twin k)) (omega arith) (old.here real);
    short = λ z. forever_more t.entries (Decided l ∷ []) (clause_of clauses k) (old.short z);
  };
  fresh = λ k h le. absurd (let q = in_known k h in omega arith);
}
  where
    in_known : (k : ℕ) → k < length s.owner_of → k / 2 < examined
    in_known k h = let a = w.linked.long in let b = w.room.links in omega arith

    lower : (n : ℕ) → n < level (t.entries ++ Decided l ∷ []) → length (up_to n (t.entries ++ Decided l ∷ [])) ≤ t.taken
    lower n lt = elim (cases_lt n (level t.entries)) [
      | inl less ↦ rw (up_to-append n t.entries (Decided l ∷ []) less) (w.lower n less)
      | inr ge ↦
          let e : n ≡ level t.entries = (let q = level-decided t.entries l in omega arith) in
          rw (up_to-decided t.entries (Decided l) n e l refl) (omega arith)
    ]

-- the trail is undone to a lower level: what the lower levels know is enough
pub undone_lower : (clauses : List (List Lit)) (vars : ℕ) (s : LinksView) (examined : ℕ) (t u : TrailView) (n : ℕ) → n < level t.entries → IsUndone n t u
    → t.vars ≡ vars → IsRoomy clauses vars s.next s.heads → (lists : List (List ℕ)) → IsLinked s.next s.heads s.owner_of end_of_list [] lists → examined ≤ length clauses → LowerTaken t.entries t.taken
    → ((k : ℕ) → k < length s.owner_of → Watches s.owner_of k → IsLink clauses t.entries s.owner_of k)
    → ((k : ℕ) → k < length s.owner_of → slice_index s.owner_of k ≡ 0 → (k / 2 < examined) × IsTrueForEver t.entries (clause_of clauses k))
    → AreWatched clauses vars s examined u
undone_lower clauses vars s examined t u n lt un same_vars room lists linked within lower each short = record {
  same_vars = un.vars ∙ same_vars;
  room = room;
  lists = lists;
  linked = linked;
  within = within;
  lower = λ m less.
      let q = level-up_to n t.entries (omega arith) in
      let e = un.entries in
      let v = un.taken in
      let less2 : m < level (up_to n t.entries) = rw (← e) less in
      let m_n : m < n = omega arith in
      let a = lower m (omega arith) in
      let b = front_shorter m n t.entries (omega arith) in
      let same : up_to m u.entries ≡ up_to m t.entries = rw e (up_to-up_to m n t.entries (omega arith)) in
      rw same (let c = ap length e in omega arith);
  each = λ k h real. rw un.entries (link_more clauses t.entries (up_to n t.entries) s.owner_of k (λ a b. below_after_undo n t.entries a b (omega arith)) (each k h real));
  known = λ k h less. record {
    here = λ real. rw un.entries (here_after_undo n t.entries u.taken (watched s.owner_of k) (watched s.owner_of (twin k)) lt (each k h real).below);
    short = λ z. rw un.entries (let q = (short k h z).1 in (q.0, q.1, rw (up_to-up_to 0 n t.entries (omega arith)) q.2));
  };
  fresh = λ k h ge. record {
    here = λ real. inl (rw un.entries (here_after_undo n t.entries u.taken (watched s.owner_of k) (watched s.owner_of (twin k)) lt (each k h real).below));
    short = λ z. absurd (let q = (short k h z).0 in omega arith);
  };
}
  where
    front_shorter : (m n : ℕ) (entries : List Assigned) → m ≤ n → length (up_to m entries) ≤ length (up_to n entries)
    front_shorter m n entries le =
        let r = up_to_front m (up_to n entries) in
        let e = ap length r.1 in
        let same = up_to-up_to m n entries le in
        let l = length-append (up_to m (up_to n entries)) r.0 in
        let x = ap length same in
        omega arith

-- what is unwatched is examined above level 0
pub short_known : (clauses : List (List Lit)) (vars : ℕ) (s : LinksView) (examined : ℕ) (t : TrailView) → AreWatched clauses vars s examined t → 0 < level t.entries → (k : ℕ) → k < length s.owner_of → slice_index s.owner_of k ≡ 0 → (k / 2 < examined) × IsTrueForEver t.entries (clause_of clauses k)
short_known clauses vars s examined t w above k h z =
    elim (cases_lt (k / 2) examined) [
      | inl lt ↦ (lt, (w.known k h lt).short z)
      | inr ge ↦ absurd (let q = ((w.fresh k h ge).short z).0 in omega arith)
    ]

-- a trail is told by its parts
pub same_view : (t u : TrailView) → t.vars ≡ u.vars → t.entries ≡ u.entries → t.taken ≡ u.taken → t ≡ u
same_view t u a b c =
    ap (λ (v : ℕ). let x : TrailView = record { vars = v; entries = t.entries; taken = t.taken } in x) a
    ∙ ap (λ (es : List Assigned). let x : TrailView = record { vars = u.vars; entries = es; taken = t.taken } in x) b
    ∙ ap (λ (n : ℕ). let x : TrailView = record { vars = u.vars; entries = u.entries; taken = n } in x) c

-- the trail is undone to any level
pub undone : (clauses : List (List Lit)) (vars : ℕ) (s : LinksView) (examined : ℕ) (t u : TrailView) (n : ℕ) → AreWatched clauses vars s examined t → t.taken ≤ length t.entries → IsUndone n t u → AreWatched clauses vars s examined u
undone clauses vars s examined t u n w few un =
    elim (cases_lt n (level t.entries)) [
      | inl lt ↦ undone_lower clauses vars s examined t u n lt un w.same_vars w.room w.lists w.linked w.within w.lower w.each (short_known clauses vars s examined t w (omega arith))
      | inr ge ↦
          let e : u.entries ≡ t.entries = un.entries ∙ up_to_all n t.entries ge in
          let v : u.taken ≡ t.taken = (let a = un.taken in let b = ap length e in omega arith) in
          let same : t ≡ u = same_view t u (sym un.vars) (sym e) (sym v) in
          subst (λ z. AreWatched clauses vars s examined z) same w
    ]

-- each lower level is a fixpoint
pub fixpoint_below : (clauses : List (List Lit)) (vars : ℕ) (s : LinksView) (examined : ℕ) (t : TrailView) → AreWatched clauses vars s examined t → IsWell t → FixpointBelow clauses t.entries
fixpoint_below clauses vars s examined t w well n lt =
    fixpoint_from_quiet (up_to n t.entries) clauses (free_part t.entries n (well_free t well))
    (quiet_at_end clauses vars (up_to n t.entries) s.next s.heads s.owner_of w.room w.linked.long
    (λ k h real. link_more clauses t.entries (up_to n t.entries) s.owner_of k (λ a b. below_after_undo n t.entries a b (omega arith)) (w.each k h real))
    (λ k h z. let q = (short_known clauses vars s examined t w (omega arith) k h z).1 in (q.0, q.1, rw (up_to-up_to 0 n t.entries (omega arith)) q.2))
    (λ k h real. here_after_undo n t.entries (length (up_to n t.entries)) (watched s.owner_of k) (watched s.owner_of (twin k)) lt (w.each k h real).below))
