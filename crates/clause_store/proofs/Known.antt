-- What a look at a whole clause makes known.
use Rattle.std.proofs.Common.{◌≡◌, ◌≢◌, ℕ, ◌+◌, ◌*◌, ◌/◌, ◌<◌, ◌≤◌, ◌⊎◌, inl, inr, Bool, true, false, List, [], ◌∷◌, ◌++◌, length, get_or, refl, ap, sym, ◌∙◌, subst, arith}
use Rattle.std.specs.Prelude.{Contains, slice_get, slice_index, Some}
use Rattle.std.proofs.lemmas.List.{map-append, length-append}
use Rattle.std.proofs.lemmas.Option.{get_or_from_slice_get}
use Rattle.std.proofs.lemmas.List.Elements.{Contains-append_right}
use Rattle.std.proofs.lemmas.Bool.{cases_lt}
use Rattle.dg_base.proofs.Lists.{contains_head}
use Rattle.dg_base.specs.declared.Lit.{Lit}
use Rattle.cnf_problem.specs.Literals.{negated}
use Rattle.cnf_problem.specs.Chains.{IsFalse, AllFalse}
use Rattle.cnf_problem.proofs.Members.{contains_take}
use Rattle.cnf_problem.proofs.LiteralLaws.{parity}
use Rattle.trail_state.specs.Trails.{Assigned, Forced, TrailView, true_lits}
use Rattle.trail_state.specs.Forcing.{AddsForced, none, one}
use Rattle.clause_store.specs.Linked.{LinksView}
use Rattle.clause_store.specs.Watching.{GuardsHere, IsTrueForEver, Watches, clause_of, watched, twin}
use Rattle.clause_store.specs.Visiting.{IsFree, IsDone, IsLookedAt, satisfied, moved, forced, refuted}
use Rattle.clause_store.specs.Stores.{AreWatched}
use Rattle.trail_state.proofs.Cuts.{up_to_all}
use Rattle.clause_store.proofs.Twins.{twin-odd}
use Rattle.clause_store.proofs.TrailLaws.{assigned}
use Rattle.clause_store.proofs.Visits.{contrary, done_forced, free_push}

-- a clause with a true literal is known, where its first link watches that literal
module _ (clauses : List (List Lit)) (vars : ℕ) (l : LinksView) (e : ℕ) (t : TrailView) (other : Lit)
    (w : AreWatched clauses vars l e t)
    (free : IsFree t.entries)
    (listed : Contains (clause_of clauses (2 * e)) other)
    (watching : Watches l.owner_of (2 * e) → other ≡ watched l.owner_of (2 * e))
    (settled : Contains (true_lits t.entries) other
    ⊎ ((m : Lit) × Contains (clause_of clauses (2 * e)) m × (m ≢ other) × ¬ IsFalse (true_lits t.entries) m))
    (in_clauses : e < length clauses)
  where
    first_watches : (k : ℕ) → k < length l.owner_of → k / 2 ≡ e → Watches l.owner_of k → Watches l.owner_of (2 * e)
    first_watches k h same real =
        elim (parity k) [
          | inl even ↦ let x : k ≡ 2 * e = omega arith in subst (λ n. Watches l.owner_of n) x real
          | inr odd ↦
              let t = twin-odd k odd in
              let x : twin k ≡ 2 * e = omega arith in
              subst (λ n. Watches l.owner_of n) x (w.each k h real).paired
        ]

    true_here : (k : ℕ) → k / 2 ≡ e → other ≡ watched l.owner_of (2 * e) → Contains (true_lits t.entries) other → GuardsHere t.entries t.taken (watched l.owner_of k) (watched l.owner_of (twin k))
    true_here k same is there c =
        elim (parity k) [
          | inl even ↦
              let x : 2 * e ≡ k = omega arith in
              let own : other ≡ watched l.owner_of k = is ∙ ap (λ n. watched l.owner_of n) x in
              absurd (free other there (subst (λ z. Contains (true_lits t.entries) (negated z)) (sym own) (contains_take t.taken (true_lits t.entries) (negated (watched l.owner_of k)) c)))
          | inr odd ↦
              let q = twin-odd k odd in
              let x : 2 * e ≡ twin k = omega arith in
              let own : other ≡ watched l.owner_of (twin k) = is ∙ ap (λ n. watched l.owner_of n) x in
              subst (λ z. Contains (true_lits t.entries) z) own there
        ]

    here : (k : ℕ) → k < length l.owner_of → k / 2 ≡ e → Watches l.owner_of k → GuardsHere t.entries t.taken (watched l.owner_of k) (watched l.owner_of (twin k))
    here k h same real =
        let is = watching (first_watches k h same real) in
        elim settled [
          | inl there ↦ true_here k same is there
          | inr r ↦ elim ((w.fresh k h (omega arith)).here real) [
            | inl g ↦ g
            | inr others ↦
                let half : (2 * (k / 2)) ≡ 2 * e = omega arith in
                let alike : (2 * e) / 2 ≡ k / 2 = omega arith in
                let m_in : Contains (clause_of clauses k) r.0 = subst (λ n. Contains (get_or clauses n []) r.0) alike r.1 in
                elim (others r.0 m_in) [
                  | inl is_watch ↦ absurd (r.2 (is_watch ∙ ap (λ n. watched l.owner_of n) half ∙ sym is))
                  | inr false_here ↦ absurd (r.3 false_here)
                ]
          ]
        ]

    short : (k : ℕ) → k < length l.owner_of → k / 2 ≡ e → slice_index l.owner_of k ≡ 0 → IsTrueForEver t.entries (clause_of clauses k)
    short k h same z =
        let alike : (2 * e) / 2 ≡ k / 2 = omega arith in
        let f = (w.fresh k h (omega arith)).short z in
        let there : Contains (clause_of clauses k) other = subst (λ n. Contains (get_or clauses n []) other) alike listed in
        let all = up_to_all 0 t.entries (let q = f.0 in omega arith) in
        elim settled [
          | inl is_true ↦ (other, there, rw all is_true)
          | inr r ↦ absurd (r.2 (f.1 r.0 other (subst (λ n. Contains (get_or clauses n []) r.0) alike r.1) there))
        ]

    pub next_known : AreWatched clauses vars l (e + 1) t
    next_known = record {
      same_vars = w.same_vars;
      room = w.room;
      lists = w.lists;
      linked = w.linked;
      within = omega arith;
      lower = w.lower;
      each = w.each;
      known = λ k h lt. elim (cases_lt (k / 2) e) [
        | inl less ↦ w.known k h less
        | inr ge ↦ let same : k / 2 ≡ e = omega arith in record { here = here k h same; short = short k h same }
      ];
      fresh = λ k h le. w.fresh k h (omega arith);
    }

-- a look at a whole clause: where it isn't false, one more clause is known
pub examined_next : (clauses : List (List Lit)) (vars : ℕ) (l : LinksView) (e : ℕ) (t : TrailView) (after : List Assigned) (stop : Bool)
    → AreWatched clauses vars l e t → IsFree t.entries → t.taken ≤ length t.entries → e < length clauses
    → IsLookedAt (clause_of clauses (2 * e)) t.entries e (watched l.owner_of (2 * e)) after stop → stop ≡ false
    → AreWatched clauses vars l (e + 1) (record t { entries = after }) × IsFree after
examined_next clauses vars l e t after stop w free few within look calm = by_case after look.to stop look.done look.listed calm
  where
    by_case : (after : List Assigned) (to : Lit) (stop : Bool) → IsDone (clause_of clauses (2 * e)) t.entries e look.other look.other after to stop → (stop ≡ false → Contains (clause_of clauses (2 * e)) look.other) → stop ≡ false
        → AreWatched clauses vars l (e + 1) (record t { entries = after }) × IsFree after
    by_case after to stop (satisfied is_true) listed calm = (next_known clauses vars l e t look.other w free (listed refl) look.watching (inl is_true) within, free)
    by_case after to stop (moved m there apart n) listed calm = (next_known clauses vars l e t look.other w free (listed refl) look.watching (inr (m, there, apart, n)) within, free)
    by_case after to stop (forced others u) listed calm =
        let more = assigned clauses vars l e t look.other e w few in
        let free_more = free_push t.entries look.other e free u in (
          next_known clauses vars l e (record t { entries = t.entries ++ Forced look.other e ∷ [] }) look.other more free_more (listed refl) look.watching
              (inl (rw map-append (Contains-append_right (true_lits t.entries) (look.other ∷ []) look.other (contains_head look.other [])))) within,
          free_more,
        )
    by_case after to stop (refuted all) listed calm = absurd (contrary calm)

-- a look at a false clause changes nothing
pub look_false : (clause : List Lit) (entries after : List Assigned) (id : ℕ) (watch : Lit) (stop : Bool) → IsLookedAt clause entries id watch after stop → stop ≡ true → (after ≡ entries) × AllFalse (true_lits entries) clause
look_false clause entries after id watch stop look stopped = by_case after look.to stop look.done stopped
  where
    by_case : (after : List Assigned) (to : Lit) (stop : Bool) → IsDone clause entries id look.other look.other after to stop → stop ≡ true → (after ≡ entries) × AllFalse (true_lits entries) clause
    by_case after to stop (satisfied t) e = absurd (contrary (sym e))
    by_case after to stop (moved m there apart n) e = absurd (contrary (sym e))
    by_case after to stop (forced others u) e = absurd (contrary (sym e))
    by_case after to stop (refuted all) e = (refl, all)

-- a look at a clause adds what the clause forces
pub look_forced : (clauses : List (List Lit)) (clause : List Lit) (entries after : List Assigned) (id : ℕ) (watch : Lit) (stop : Bool) → slice_get clauses id ≡ Some clause → IsLookedAt clause entries id watch after stop → stop ≡ false → AddsForced clauses entries after
look_forced clauses clause entries after id watch stop named look calm =
    done_forced clauses clause entries after id look.other look.other look.to stop named (look.listed calm) look.done

-- forced literals make a trail longer
pub forced_longer : (clauses : List (List Lit)) (before after : List Assigned) → AddsForced clauses before after → length before ≤ length after
forced_longer clauses before after none = omega arith
forced_longer clauses before after (one l id f rest) =
    let q = forced_longer clauses (before ++ Forced l id ∷ []) after rest in
    let n = length-append before (Forced l id ∷ []) in
    omega arith

-- the first link of a clause watches a literal of it, if any
pub first_listed : (clauses : List (List Lit)) (vars : ℕ) (l : LinksView) (examined e : ℕ) (t : TrailView) → AreWatched clauses vars l examined t → e < length clauses → Watches l.owner_of (2 * e) → Contains (clause_of clauses (2 * e)) (watched l.owner_of (2 * e))
first_listed clauses vars l examined e t w within real =
    (w.each (2 * e) (let a = w.linked.long in let b = w.room.links in omega arith) real).listed

-- the clause of its first link
pub first_clause : (clauses : List (List Lit)) (e : ℕ) (clause : List Lit) → slice_get clauses e ≡ Some clause → clause_of clauses (2 * e) ≡ clause
first_clause clauses e clause h =
    let half : (2 * e) / 2 ≡ e = omega arith in
    rw half (get_or_from_slice_get clauses e clause [] h)
