-- A clause is put behind the others.
use Rattle.std.proofs.Common.{◌≡◌, ◌≢◌, ℕ, zero, suc, ◌+◌, ◌*◌, ◌/◌, ◌<◌, ◌≤◌, ◌⊎◌, inl, inr, List, [], ◌∷◌, ◌++◌, length, take, get_or, refl, ap, sym, ◌∙◌, arith, length-append, add-one}
use Rattle.std.specs.Prelude.{All, Contains, Some, slice_get, slice_index, replicate}
use Rattle.std.proofs.lemmas.Bool.{cases_eq, cases_lt}
use Rattle.std.proofs.lemmas.List.{length-replicate}
use Rattle.std.proofs.lemmas.List.Elements.{All-contains}
use Rattle.std.proofs.lemmas.Option.{get_or_from_slice_get, slice_get_within}
use Rattle.std.proofs.Math.Seq.{take-suc}
use Rattle.dg_base.proofs.Lists.{contains_nothing}
use Rattle.dg_base.specs.declared.Lit.{Lit}
use Rattle.cnf_problem.specs.Literals.{negated, IsOver}
use Rattle.cnf_problem.specs.Chains.{IsFalse}
use Rattle.cnf_problem.proofs.Members.{contains_take}
use Rattle.cnf_problem.proofs.LiteralLaws.{same_lit}
use Rattle.trail_state.specs.Trails.{Assigned, TrailView, true_lits}
use Rattle.clause_store.specs.Choosing.{IsChosen}
use Rattle.clause_store.specs.Linked.{IsLaid, LinksView, end_of_list}
use Rattle.clause_store.specs.NewWatch.{AreOver}
use Rattle.clause_store.specs.Stores.{AreWatched, IsExamined, IsFresh, IsNotFalseBelow}
use Rattle.clause_store.specs.Watching.{GuardsBelow, GuardsHere, IsLink, Watches, clause_of, watched, twin}
use Rattle.clause_store.proofs.Laying.{index_left, index_right, no_links}
use Rattle.clause_store.proofs.Twins.{twin-even, twin-odd, twin-within}

-- a clause among the first ones
pub clause_left : (clauses more : List (List Lit)) (c : ℕ) → c < length clauses → get_or (clauses ++ more) c [] ≡ get_or clauses c []
clause_left [] more c h = absurd (omega arith)
clause_left (x ∷ xs) more zero h = refl
clause_left (x ∷ xs) more (suc c) h = clause_left xs more c (omega arith)

-- the clause behind them, and nothing behind that
pub clause_last : (clauses : List (List Lit)) (clause : List Lit) → get_or (clauses ++ clause ∷ []) (length clauses) [] ≡ clause
clause_last [] clause = refl
clause_last (x ∷ xs) clause = clause_last xs clause

pub clause_past : (clauses : List (List Lit)) (c : ℕ) → length clauses ≤ c → get_or clauses c [] ≡ []
clause_past [] c h = refl
clause_past (x ∷ xs) zero h = absurd (omega arith)
clause_past (x ∷ xs) (suc c) h = clause_past xs c (omega arith)

module _ (clauses : List (List Lit)) (vars : ℕ) (l m : LinksView) (examined : ℕ) (t : TrailView) (clause : List Lit) (a b : Lit)
    (w : AreWatched clauses vars l examined t)
    (laid : IsLaid l a.0 b.0 m)
    (over : AreOver vars clause)
    (chosen : IsChosen t.entries clause a b)
  where
    all : List (List Lit)
    all = clauses ++ clause ∷ []

    old_links : length l.owner_of ≡ 2 * length clauses
    old_links = w.linked.long ∙ w.room.links

    new_links : length m.owner_of ≡ 2 * length clauses + 2
    new_links = let e = old_links in rw laid.owners (let q = length-append l.owner_of (a.0 ∷ b.0 ∷ []) in omega arith)

    same_owner : (k : ℕ) → k < 2 * length clauses → slice_index m.owner_of k ≡ slice_index l.owner_of k
    same_owner k h = rw laid.owners (index_left l.owner_of (a.0 ∷ b.0 ∷ []) k (let e = old_links in omega arith))

    same_watched : (k : ℕ) → k < 2 * length clauses → watched m.owner_of k ≡ watched l.owner_of k
    same_watched k h = same_lit (watched m.owner_of k) (watched l.owner_of k) (same_owner k h)

    same_clause : (k : ℕ) → k < 2 * length clauses → clause_of (clauses ++ clause ∷ []) k ≡ clause_of clauses k
    same_clause k h = clause_left clauses (clause ∷ []) (k / 2) (omega arith)

    even_at : slice_index m.owner_of (2 * length clauses) ≡ a.0
    even_at = rw laid.owners (index_right l.owner_of (a.0 ∷ b.0 ∷ []) (2 * length clauses) 0 (let e = old_links in omega arith))

    odd_at : slice_index m.owner_of (2 * length clauses + 1) ≡ b.0
    odd_at = rw laid.owners (index_right l.owner_of (a.0 ∷ b.0 ∷ []) (2 * length clauses + 1) 1 (let e = old_links in omega arith))

    even_twin : twin (2 * length clauses) ≡ 2 * length clauses + 1
    even_twin = twin-even (2 * length clauses) (omega arith)

    odd_twin : twin (2 * length clauses + 1) ≡ 2 * length clauses
    odd_twin = let t = twin-odd (2 * length clauses + 1) (omega arith) in omega arith

    even_watched : watched m.owner_of (2 * length clauses) ≡ a
    even_watched = same_lit (watched m.owner_of (2 * length clauses)) a even_at

    odd_watched : watched m.owner_of (2 * length clauses + 1) ≡ b
    odd_watched = same_lit (watched m.owner_of (2 * length clauses + 1)) b odd_at

    even_clause : clause_of (clauses ++ clause ∷ []) (2 * length clauses) ≡ clause
    even_clause = let e : (2 * length clauses) / 2 ≡ length clauses = omega arith in ap (λ n. get_or (clauses ++ clause ∷ []) n []) e ∙ clause_last clauses clause

    odd_clause : clause_of (clauses ++ clause ∷ []) (2 * length clauses + 1) ≡ clause
    odd_clause = let e : (2 * length clauses + 1) / 2 ≡ length clauses = omega arith in ap (λ n. get_or (clauses ++ clause ∷ []) n []) e ∙ clause_last clauses clause

    -- a link is an old one or one of the two
    which : (k : ℕ) → k < length m.owner_of → (k < 2 * length clauses) ⊎ ((k ≡ 2 * length clauses) ⊎ (k ≡ 2 * length clauses + 1))
    which k h = elim (cases_lt k (2 * length clauses)) [
      | inl lt ↦ inl lt
      | inr ge ↦ inr (elim (cases_eq k (2 * length clauses)) [
        | inl e ↦ inl e
        | inr other ↦ inr (let e = new_links in omega arith)
      ])
    ]

    guards_below : (x y : Lit) → IsNotFalseBelow t.entries x → GuardsBelow t.entries x y
    guards_below x y n j lt c = absurd (n j lt c)

    guards_here : (x y : Lit) → ¬ IsFalse (true_lits t.entries) x → GuardsHere t.entries t.taken x y
    guards_here x y n c = absurd (n (contains_take t.taken (true_lits t.entries) (negated x) c))

    each : (k : ℕ) → k < length m.owner_of → Watches m.owner_of k → IsLink (clauses ++ clause ∷ []) t.entries m.owner_of k
    each k h real = elim (which k h) [
      | inl lt ↦
          let twin_lt = twin-within k (length clauses) lt in
          let old = w.each k (let e = old_links in omega arith) (λ z. real (same_owner k lt ∙ z)) in
          record {
            listed = rw (same_clause k lt, same_watched k lt) old.listed;
            apart = rw (same_watched k lt, same_watched (twin k) twin_lt) old.apart;
            paired = (λ z. old.paired (sym (same_owner (twin k) twin_lt) ∙ z));
            below = rw (same_watched k lt, same_watched (twin k) twin_lt) old.below;
          }
      | inr new ↦ elim new [
        | inl e ↦
            let some : a.0 ≢ 0 = (λ z. real (ap (λ n. slice_index m.owner_of n) e ∙ even_at ∙ z)) in
            rw e (record {
              listed = rw (even_clause, even_watched) (chosen.first_listed some);
              apart = rw (even_twin, even_watched, odd_watched) (chosen.apart some);
              paired = rw (even_twin) (λ z. some (chosen.neither (sym odd_at ∙ z)));
              below = rw (even_twin, even_watched, odd_watched) (guards_below a b (chosen.first_below some));
            })
        | inr e ↦
            let some_b : b.0 ≢ 0 = (λ z. real (ap (λ n. slice_index m.owner_of n) e ∙ odd_at ∙ z)) in
            let some : a.0 ≢ 0 = (λ z. some_b (chosen.both z)) in
            rw e (record {
              listed = rw (odd_clause, odd_watched) (chosen.second_listed some);
              apart = rw (odd_twin, even_watched, odd_watched) (λ q. chosen.apart some (sym q));
              paired = rw (odd_twin) (λ z. some (sym even_at ∙ z));
              below = rw (odd_twin, even_watched, odd_watched) (guards_below b a (chosen.second_below some));
            })
      ]
    ]

    known : (k : ℕ) → k < length m.owner_of → k / 2 < examined → IsExamined (clauses ++ clause ∷ []) t m.owner_of k
    known k h lt =
        let within = w.within in
        let k_old : k < 2 * length clauses = omega arith in
        let twin_lt = twin-within k (length clauses) k_old in
        let old = w.known k (let e = old_links in omega arith) lt in
        record {
          here = λ real. rw (same_watched k k_old, same_watched (twin k) twin_lt) (old.here (λ z. real (same_owner k k_old ∙ z)));
          short = λ z. rw (same_clause k k_old) (old.short (sym (same_owner k k_old) ∙ z));
        }

    fresh : (k : ℕ) → k < length m.owner_of → examined ≤ k / 2 → IsFresh (clauses ++ clause ∷ []) t m.owner_of k
    fresh k h le = elim (which k h) [
      | inl lt ↦
          let twin_lt = twin-within k (length clauses) lt in
          let first_lt : 2 * (k / 2) < 2 * length clauses = omega arith in
          let old = w.fresh k (let e = old_links in omega arith) le in
          record {
            here = λ real. rw (same_clause k lt, same_watched k lt, same_watched (twin k) twin_lt, same_watched (2 * (k / 2)) first_lt) (old.here (λ z. real (same_owner k lt ∙ z)));
            short = λ z. rw (same_clause k lt) (old.short (sym (same_owner k lt) ∙ z));
          }
      | inr new ↦ elim new [
        | inl e ↦
            let first : 2 * ((2 * length clauses) / 2) ≡ 2 * length clauses = omega arith in
            rw e (record {
              here = λ real.
                  (let some : a.0 ≢ 0 = (λ z. real (even_at ∙ z)) in
                  rw (first, even_twin, even_clause, even_watched, odd_watched) (elim (chosen.here some) [ inl n ↦ inl (guards_here a b n.0) | inr others ↦ inr others ]));
              short = λ z. rw even_clause (chosen.short (sym even_at ∙ z));
            })
        | inr e ↦
            let first : 2 * ((2 * length clauses + 1) / 2) ≡ 2 * length clauses = omega arith in
            rw e (record {
              here = λ real.
                  (let some_b : b.0 ≢ 0 = (λ z. real (odd_at ∙ z)) in
                  let some : a.0 ≢ 0 = (λ z. some_b (chosen.both z)) in
                  rw (first, odd_twin, odd_clause, even_watched, odd_watched) (elim (chosen.here some) [ inl n ↦ inl (guards_here b a n.1) | inr others ↦ inr others ]));
              short = λ z. rw odd_clause (chosen.short (chosen.neither (sym odd_at ∙ z)));
            })
      ]
    ]

    range : (k : ℕ) (x : Lit) → Contains (clause_of (clauses ++ clause ∷ []) k) x → IsOver vars x
    range k x c = elim (cases_lt (k / 2) (length clauses)) [
      | inl lt ↦ w.room.range k x (rw (clause_left clauses (clause ∷ []) (k / 2) lt) at c)
      | inr ge ↦ elim (cases_eq (k / 2) (length clauses)) [
        | inl e ↦ over x (rw (e, clause_last clauses clause) at c)
        | inr other ↦ absurd (contains_nothing x (rw (clause_past (clauses ++ clause ∷ []) (k / 2) (let q = length-append clauses (clause ∷ []) in omega arith)) at c))
      ]
    ]

    -- the longer list of clauses is watched
    pub added : AreWatched (clauses ++ clause ∷ []) vars m examined t
    added = record {
      same_vars = w.same_vars;
      room = record {
        links = (let a = laid.next in let b = w.room.links in let q = length-append clauses (clause ∷ []) in omega arith);
        small = laid.small;
        codes = laid.heads ∙ w.room.codes;
        range = range;
      };
      lists = (laid.linked w.lists w.linked).0;
      linked = (laid.linked w.lists w.linked).1;
      within = (let v = w.within in let q = length-append clauses (clause ∷ []) in omega arith);
      lower = w.lower;
      each = each;
      known = known;
      fresh = fresh;
    }

-- no clauses
pub nothing_added : (vars : ℕ) (l : LinksView) → l.next ≡ [] → l.heads ≡ replicate (2 * vars + 2) end_of_list → l.owner_of ≡ [] → AreWatched [] vars l 0 (record { vars = vars; entries = []; taken = 0 })
nothing_added vars l next heads owners = record {
  same_vars = refl;
  room = record {
    links = rw next refl;
    small = rw next (omega arith);
    codes = rw heads (length-replicate (2 * vars + 2) end_of_list);
    range = λ k x c. absurd (contains_nothing x c);
  };
  lists = replicate (2 * vars + 2) [];
  linked = rw (next, heads, owners) (no_links (2 * vars + 2));
  within = omega arith;
  lower = λ n lt. absurd (omega arith);
  each = λ k h. absurd (let z : length l.owner_of ≡ 0 = rw owners refl in omega arith);
  known = λ k h. absurd (let z : length l.owner_of ≡ 0 = rw owners refl in omega arith);
  fresh = λ k h. absurd (let z : length l.owner_of ≡ 0 = rw owners refl in omega arith);
}

-- the chosen literals' codes are those of heads
pub chosen_within : (vars : ℕ) (clause : List Lit) (entries : List Assigned) (a b : Lit) → AreOver vars clause → IsChosen entries clause a b → (a.0 < 2 * vars + 2) × (b.0 < 2 * vars + 2)
chosen_within vars clause entries a b over c =
    elim (cases_eq a.0 0) [
      | inl z ↦ (omega arith, (let y = c.both z in omega arith))
      | inr real ↦ ((let o = (over a (c.first_listed real)).1 in omega arith), (let o = (over b (c.second_listed real)).1 in omega arith))
    ]

-- a clause of a problem is over its variables
pub clause_over : (vars : ℕ) (clauses : List (List Lit)) (k : ℕ) (clause : List Lit) → All (All (IsOver vars)) clauses → slice_get clauses k ≡ Some clause → AreOver vars clause
clause_over vars clauses k clause all e l m =
    All-contains (IsOver vars) clause l
    (All-contains (All (IsOver vars)) clauses clause all (k, slice_get_within clauses k clause e, get_or_from_slice_get clauses k clause clause e)) m

-- one clause more of a list
pub one_more : (clauses : List (List Lit)) (k : ℕ) (clause : List Lit) → slice_get clauses k ≡ Some clause → take (k + 1) clauses ≡ take k clauses ++ clause ∷ []
one_more clauses k clause e =
    rw add-one (take-suc clauses k [] (slice_get_within clauses k clause e) ∙ ap (λ z. take k clauses ++ z ∷ []) (get_or_from_slice_get clauses k clause [] e))
