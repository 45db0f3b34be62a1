-- What one visited link keeps.
use Rattle.std.proofs.Common.{◌≡◌, ◌≢◌, ℕ, suc, ◌*◌, ◌/◌, ◌%◌, ◌<◌, ◌≤◌, inl, inr, Bool, true, false, List, [], ◌∷◌, ◌++◌, length, get_or, set, refl, ap, sym, ◌∙◌, subst, arith}
use Rattle.std.specs.Prelude.{Contains, slice_index, slice_get, Some}
use Rattle.std.proofs.lemmas.List.{length-set, get_or-set_same, get_or-set_other, map-append, length-append}
use Rattle.std.proofs.lemmas.List.Elements.{Contains-append_left, Contains-append_right, Contains-push_cases}
use Rattle.std.proofs.lemmas.Bool.{cases_eq}
use Rattle.dg_base.specs.declared.Lit.{Lit}
use Rattle.cnf_problem.specs.Literals.{negated}
use Rattle.cnf_problem.specs.Chains.{IsFalse, AllFalse, IsUnassigned}
use Rattle.cnf_problem.proofs.Members.{contains_take}
use Rattle.cnf_problem.proofs.LiteralLaws.{negated-negated, negated-even, negated-odd, parity, same_lit}
use Rattle.trail_state.specs.Trails.{Assigned, Forced, true_lits, level, up_to}
use Rattle.clause_store.specs.Linked.{IsChain, end_of_list, list_of, IsLinked}
use Rattle.clause_store.specs.Watching.{GuardsBelow, GuardsHere, IsLink, IsRoomy, IsTrueForEver, Watches, clause_of, watched, twin}
use Rattle.clause_store.specs.Visiting.{IsFree, IsAt, IsVisiting, IsOwing, IsPlaced, IsDone, satisfied, moved, forced, refuted}
use Rattle.trail_state.specs.Forcing.{AddsForced, none, one}
use Rattle.trail_state.proofs.Cuts.{up_to-append, level-forced}
use Rattle.clause_store.proofs.Cuts.{kept-up_to}
use Rattle.clause_store.proofs.Watches.{cut_within, below_after_assign, here_after_more}
use Rattle.clause_store.proofs.Chains.{relinked, chain_once, taken_out}
use Rattle.std.proofs.lemmas.List.{get_or_default}
use Rattle.std.proofs.lemmas.Option.{slice_get-get_or}
use Rattle.dg_base.proofs.Lists.{contains_head, contains_tail, contains_nothing, contains_cases}
use Rattle.clause_store.proofs.Watches.{IsQuiet}
use Rattle.clause_store.proofs.Twins.{twin-even, twin-twin, twin-half, twin-within, twin-other}

-- a test has one answer
pub contrary : true ≡ false → ⊥
contrary e = cc

-- no literal is its own negation
pub negated-other : (l : Lit) → negated l ≡ l → ⊥
negated-other l e =
    elim (parity l.0) [
      | inl q ↦ let n = negated-even l q in let c = ap (λ (x : Lit). x.0) e in omega arith
      | inr q ↦ let n = negated-odd l q in let c = ap (λ (x : Lit). x.0) e in omega arith
    ]

-- one more literal that was unassigned
pub free_push : (entries : List Assigned) (other : Lit) (id : ℕ) → IsFree entries → IsUnassigned (true_lits entries) other → IsFree (entries ++ Forced other id ∷ [])
free_push entries other id free u l c d =
    elim (Contains-push_cases (true_lits entries) other l (rw map-append at c)) [
      | inl l_old ↦ elim (Contains-push_cases (true_lits entries) other (negated l) (rw map-append at d)) [
        | inl n_old ↦ free l l_old n_old
        | inr e ↦ u.1 (subst (λ z. Contains (true_lits entries) z) (sym (ap negated e ∙ negated-negated l)) l_old)
      ]
      | inr e ↦ elim (Contains-push_cases (true_lits entries) other (negated l) (rw map-append at d)) [
        | inl n_old ↦ u.1 (subst (λ z. Contains (true_lits entries) (negated z)) (sym e) n_old)
        | inr f ↦ negated-other l (sym f ∙ e)
      ]
    ]

-- the guards on lower levels of a literal that became false on this one
pub below_late : (entries : List Assigned) (taken : ℕ) (p a b : Lit) → IsAt entries taken p → a ≡ negated p → GuardsBelow entries a b
below_late entries taken p a b at e n lt c =
    absurd (at.late n lt (subst (λ z. Contains (true_lits (up_to n entries)) z) (ap negated e ∙ negated-negated p) c))

-- a literal that isn't false guards each other
pub below_not_false : (entries : List Assigned) (a b : Lit) → ¬ IsFalse (true_lits entries) a → GuardsBelow entries a b
below_not_false entries a b h n lt c = absurd (h (cut_within n entries (negated a) c))

pub here_not_false : (entries : List Assigned) (taken : ℕ) (a b : Lit) → ¬ IsFalse (true_lits entries) a → GuardsHere entries taken a b
here_not_false entries taken a b h c = absurd (h (contains_take taken (true_lits entries) (negated a) c))

-- a guard of a false literal says that its watch isn't false, so it guards each other
pub below_changed : (entries : List Assigned) (taken : ℕ) (p a b c : Lit) → IsAt entries taken p → a ≡ negated p → GuardsBelow entries b a → GuardsBelow entries b c
below_changed entries taken p a b c at e g n lt f =
    absurd (at.free p at.there (subst (λ z. Contains (true_lits entries) z) e (cut_within n entries a (g n lt f))))

pub here_changed : (entries : List Assigned) (taken : ℕ) (p a b c : Lit) → IsAt entries taken p → a ≡ negated p → GuardsHere entries taken b a → GuardsHere entries taken b c
here_changed entries taken p a b c at e g f =
    absurd (at.free p at.there (subst (λ z. Contains (true_lits entries) z) e (g f)))

pub watch_same : (owner_of : List ℕ) (k : ℕ) (l : Lit) → k < length owner_of → watched (set owner_of k l.0) k ≡ l
watch_same owner_of k l h = same_lit (watched (set owner_of k l.0) k) l (get_or-set_same owner_of k l.0 0 h)

pub watch_other : (owner_of : List ℕ) (k j n : ℕ) → j ≢ k → watched (set owner_of k n) j ≡ watched owner_of j
watch_other owner_of k j n h = same_lit (watched (set owner_of k n) j) (watched owner_of j) (get_or-set_other owner_of k j n 0 h)

watches_same : (owner_of : List ℕ) (k n : ℕ) → k < length owner_of → n ≢ 0 → Watches (set owner_of k n) k
watches_same owner_of k n h real e = real (sym (get_or-set_same owner_of k n 0 h) ∙ e)

watches_other : (owner_of : List ℕ) (k j n : ℕ) → j ≢ k → Watches owner_of j → Watches (set owner_of k n) j
watches_other owner_of k j n h w e = w (sym (get_or-set_other owner_of k j n 0 h) ∙ e)

watches_back : (owner_of : List ℕ) (k j n : ℕ) → j ≢ k → Watches (set owner_of k n) j → Watches owner_of j
watches_back owner_of k j n h w e = w (get_or-set_other owner_of k j n 0 h ∙ e)

-- the code of a literal of a clause is a head's, and not 0
pub code_within : (clauses : List (List Lit)) (vars : ℕ) (next heads : List ℕ) (k : ℕ) (l : Lit) → IsRoomy clauses vars next heads → Contains (clause_of clauses k) l → l.0 < length heads
code_within clauses vars next heads k l r c = let o = r.range k l c in let h = r.codes in let a = o.0 in let b = o.1 in omega arith

pub code_real : (clauses : List (List Lit)) (vars : ℕ) (next heads : List ℕ) (k : ℕ) (l : Lit) → IsRoomy clauses vars next heads → Contains (clause_of clauses k) l → l.0 ≢ 0
code_real clauses vars next heads k l r c e = let o = r.range k l c in let a = o.0 in omega arith

-- what is true for ever stays so
pub forever_more : (entries more : List Assigned) (clause : List Lit) → IsTrueForEver entries clause → IsTrueForEver (entries ++ more) clause
forever_more entries more clause t = (t.0, t.1, kept-up_to 0 entries more t.0 t.2)

-- one link was visited, and watches `to` from now on
module _ (clauses : List (List Lit)) (entries after : List Assigned) (taken : ℕ) (p : Lit) (next heads owner_of : List ℕ) (k left : ℕ) (rest : List ℕ) (lists : List (List ℕ)) (to : Lit) (stop : Bool)
    (small : length next ≤ end_of_list)
    (even : length next ≡ 2 * length clauses)
    (to_head : to.0 < length heads)
    (linked : IsLinked next heads owner_of k (k ∷ rest) lists)
    (few : length (k ∷ rest) ≤ suc left)
    (mine : (j : ℕ) → Contains (k ∷ rest) j → watched owner_of j ≡ negated p)
    (each : (j : ℕ) → j < length owner_of → Watches owner_of j → IsLink clauses entries owner_of j)
    (short : (j : ℕ) → j < length owner_of → slice_index owner_of j ≡ 0 → IsTrueForEver entries (clause_of clauses j))
    (here : stop ≡ false → (j : ℕ) → j < length owner_of → Watches owner_of j → ¬ Contains (k ∷ rest) j → GuardsHere entries taken (watched owner_of j) (watched owner_of (twin j)))
    (to_real : to.0 ≢ 0)
    (k_watches : Watches owner_of k)
    (twin_watches : Watches owner_of (twin k))
    (grow_short : (clause : List Lit) → IsTrueForEver entries clause → IsTrueForEver after clause)
    (grow_below : (a b : Lit) → GuardsBelow entries a b → GuardsBelow after a b)
    (grow_here : (a b : Lit) → GuardsHere entries taken a b → GuardsHere after taken a b)
    (listed : Contains (clause_of clauses k) to)
    (apart : to ≢ watched owner_of (twin k))
    (below_k : GuardsBelow after to (watched owner_of (twin k)))
    (below_twin : GuardsBelow after (watched owner_of (twin k)) to)
    (here_k : stop ≡ false → GuardsHere after taken to (watched owner_of (twin k)))
    (here_twin : stop ≡ false → ¬ Contains (k ∷ rest) (twin k) → GuardsHere after taken (watched owner_of (twin k)) to)
  where
    owners : List ℕ
    owners = set owner_of k to.0

    k_in : k < length owner_of
    k_in = let w : k < length next = linked.out_chain.1 in let l = linked.long in omega arith

    twin_in : twin k < length owner_of
    twin_in = let w = twin-within k (length clauses) (let l = linked.long in let q = k_in in omega arith) in let l = linked.long in omega arith

    at_k : watched (set owner_of k to.0) k ≡ to
    at_k = watch_same owner_of k to k_in

    at_twin : watched (set owner_of k to.0) (twin k) ≡ watched owner_of (twin k)
    at_twin = watch_other owner_of k (twin k) to.0 (twin-other k)

    k_once : Contains rest k → ⊥
    k_once c = chain_once next k rest small linked.out_chain c

    each_after : (j : ℕ) → j < length (set owner_of k to.0) → Watches (set owner_of k to.0) j → IsLink clauses after (set owner_of k to.0) j
    each_after j h w = elim (cases_eq j k) [
      | inl e ↦ rw e (record {
        listed = rw at_k listed;
        apart = rw (at_k, at_twin) apart;
        paired = watches_other owner_of k (twin k) to.0 (twin-other k) twin_watches;
        below = rw (at_k, at_twin) below_k;
      })
      | inr other ↦ elim (cases_eq j (twin k)) [
        | inl e ↦
            let old = each (twin k) twin_in twin_watches in
            rw e (record {
              listed = rw at_twin old.listed;
              apart = rw (at_twin, twin-twin, at_k) (λ q. apart (sym q));
              paired = rw twin-twin (watches_same owner_of k to.0 k_in to_real);
              below = rw (at_twin, twin-twin, at_k) below_twin;
            })
        | inr far ↦
            let old = each j (rw length-set at h) (watches_back owner_of k j to.0 other w) in
            let away : twin j ≢ k = (λ q. far (sym (twin-twin j) ∙ ap twin q)) in
            record {
              listed = rw (watch_other owner_of k j to.0 other) old.listed;
              apart = rw (watch_other owner_of k j to.0 other, watch_other owner_of k (twin j) to.0 away) old.apart;
              paired = watches_other owner_of k (twin j) to.0 away old.paired;
              below = rw (watch_other owner_of k j to.0 other, watch_other owner_of k (twin j) to.0 away) (grow_below (watched owner_of j) (watched owner_of (twin j)) old.below);
            }
      ]
    ]

    short_after : (j : ℕ) → j < length (set owner_of k to.0) → slice_index (set owner_of k to.0) j ≡ 0 → IsTrueForEver after (clause_of clauses j)
    short_after j h z = elim (cases_eq j k) [
      | inl e ↦ absurd (to_real (sym (get_or-set_same owner_of k to.0 0 k_in) ∙ (rw e at z)))
      | inr other ↦ grow_short (clause_of clauses j) (short j (rw length-set at h) (sym (get_or-set_other owner_of k j to.0 0 other) ∙ z))
    ]

    here_after : stop ≡ false → (j : ℕ) → j < length (set owner_of k to.0) → Watches (set owner_of k to.0) j → ¬ Contains rest j → GuardsHere after taken (watched (set owner_of k to.0) j) (watched (set owner_of k to.0) (twin j))
    here_after go j h w away = elim (cases_eq j k) [
      | inl e ↦ rw (e, at_k, at_twin) (here_k go)
      | inr other ↦
          let gone : ¬ Contains (k ∷ rest) j = (λ c. elim (contains_cases k j rest c) [ inl e ↦ other e | inr m ↦ away m ]) in
          elim (cases_eq j (twin k)) [
            | inl e ↦ rw (e, at_twin, twin-twin, at_k) (here_twin go (subst (λ n. ¬ Contains (k ∷ rest) n) e gone))
            | inr far ↦
                let apart_twin : twin j ≢ k = (λ q. far (sym (twin-twin j) ∙ ap twin q)) in
                rw (watch_other owner_of k j to.0 other, watch_other owner_of k (twin j) to.0 apart_twin)
                (grow_here (watched owner_of j) (watched owner_of (twin j)) (here go j (rw length-set at h) (watches_back owner_of k j to.0 other w) gone))
          ]
    ]

    pub put : IsVisiting clauses after taken p (set next k (slice_index heads to.0)) (set heads to.0 k) (set owner_of k to.0) (slice_index next k) left stop
    put = record {
      out = rest;
      lists = set lists to.0 (k ∷ list_of lists to.0);
      linked = relinked next heads owner_of k k rest lists to.0 small to_head linked;
      few = omega arith;
      mine = λ j c. rw (watch_other owner_of k j to.0 (λ e. k_once (subst (λ z. Contains rest z) e c))) (mine j (contains_tail k j rest c));
      each = each_after;
      short = short_after;
      here = here_after;
    }

-- what holds when link k is the next one, with its parts
pub record Before (clauses : List (List Lit)) (vars : ℕ) (entries : List Assigned) (taken : ℕ) (p : Lit) (next heads owner_of : List ℕ) (k left : ℕ) (rest : List ℕ) (lists : List (List ℕ)) : Type 0 where
  pub roomy : IsRoomy clauses vars next heads
  pub at : IsAt entries taken p
  pub linked : IsLinked next heads owner_of k (k ∷ rest) lists
  pub few : length (k ∷ rest) ≤ suc left
  pub mine : (j : ℕ) → Contains (k ∷ rest) j → watched owner_of j ≡ negated p
  pub each : (j : ℕ) → j < length owner_of → Watches owner_of j → IsLink clauses entries owner_of j
  pub short : (j : ℕ) → j < length owner_of → slice_index owner_of j ≡ 0 → IsTrueForEver entries (clause_of clauses j)
  pub here : (j : ℕ) → j < length owner_of → Watches owner_of j → ¬ Contains (k ∷ rest) j → GuardsHere entries taken (watched owner_of j) (watched owner_of (twin j))

pub visited : (clauses : List (List Lit)) (vars : ℕ) (entries after : List Assigned) (taken : ℕ) (p : Lit) (next heads owner_of : List ℕ) (k left id : ℕ) (rest : List ℕ) (lists : List (List ℕ)) (to : Lit) (stop : Bool)
    → Before clauses vars entries taken p next heads owner_of k left rest lists
    → IsDone (clause_of clauses k) entries id (watched owner_of k) (watched owner_of (twin k)) after to stop
    → IsVisiting clauses after taken p (set next k (slice_index heads to.0)) (set heads to.0 k) (set owner_of k to.0) (slice_index next k) left stop
visited clauses vars entries after taken p next heads owner_of k left id rest lists to stop b done = by_case after to stop done
  where
    k_next : k < length next
    k_next = b.linked.out_chain.1

    k_in : k < length owner_of
    k_in = let w = k_next in let l = b.linked.long in omega arith

    t_in : twin k < length owner_of
    t_in = let r = b.roomy.links in let w = twin-within k (length clauses) (let w = k_next in omega arith) in let l = b.linked.long in omega arith

    is_p : watched owner_of k ≡ negated p
    is_p = b.mine k (contains_head k rest)

    k_watches : Watches owner_of k
    k_watches e = b.at.real (ap (λ (l : Lit). l.0) (sym is_p) ∙ e)

    old : IsLink clauses entries owner_of k
    old = b.each k k_in k_watches

    t_watches : Watches owner_of (twin k)
    t_watches = old.paired

    back : GuardsBelow entries (watched owner_of (twin k)) (watched owner_of k)
    back = rw twin-twin at ((b.each (twin k) t_in t_watches).below)

    back_here : ¬ Contains (k ∷ rest) (twin k) → GuardsHere entries taken (watched owner_of (twin k)) (watched owner_of k)
    back_here away = rw twin-twin at (b.here (twin k) t_in t_watches away)

    by_case : (after : List Assigned) (to : Lit) (stop : Bool) → IsDone (clause_of clauses k) entries id (watched owner_of k) (watched owner_of (twin k)) after to stop → IsVisiting clauses after taken p (set next k (slice_index heads to.0)) (set heads to.0 k) (set owner_of k to.0) (slice_index next k) left stop
    by_case after to stop (satisfied t) =
        put clauses entries entries taken p next heads owner_of k left rest lists (watched owner_of k) false b.roomy.small b.roomy.links
        (code_within clauses vars next heads k (watched owner_of k) b.roomy old.listed) b.linked b.few b.mine b.each b.short (λ go. b.here) k_watches k_watches t_watches (λ x t. t) (λ x y g. g) (λ x y g. g)
        old.listed old.apart old.below back (λ go c. t) (λ go away. back_here away)
    by_case after to stop (moved l m apart n) =
        put clauses entries entries taken p next heads owner_of k left rest lists l false b.roomy.small b.roomy.links
        (code_within clauses vars next heads k l b.roomy m) b.linked b.few b.mine b.each b.short (λ go. b.here) (code_real clauses vars next heads k l b.roomy m) k_watches t_watches (λ x t. t) (λ x y g. g) (λ x y g. g)
        m apart (below_not_false entries l (watched owner_of (twin k)) n)
        (below_changed entries taken p (watched owner_of k) (watched owner_of (twin k)) l b.at is_p back)
        (λ go. here_not_false entries taken l (watched owner_of (twin k)) n)
        (λ go away. here_changed entries taken p (watched owner_of k) (watched owner_of (twin k)) l b.at is_p (back_here away))
    by_case after to stop (forced others u) =
        let grow = (λ (x y : Lit). below_after_assign entries (watched owner_of (twin k)) x y id) in
        let grow_here = (λ (x y : Lit). here_after_more entries (Forced (watched owner_of (twin k)) id ∷ []) taken x y b.at.within) in
        put clauses entries (entries ++ Forced (watched owner_of (twin k)) id ∷ []) taken p next heads owner_of k left rest lists (watched owner_of k) false b.roomy.small b.roomy.links
        (code_within clauses vars next heads k (watched owner_of k) b.roomy old.listed) b.linked b.few b.mine b.each b.short (λ go. b.here) k_watches k_watches t_watches (forever_more entries (Forced (watched owner_of (twin k)) id ∷ [])) grow grow_here
        old.listed old.apart (grow (watched owner_of k) (watched owner_of (twin k)) old.below) (grow (watched owner_of (twin k)) (watched owner_of k) back)
        (λ go c. rw map-append (Contains-append_right (true_lits entries) (watched owner_of (twin k) ∷ []) (watched owner_of (twin k)) (contains_head (watched owner_of (twin k)) [])))
        (λ go away. grow_here (watched owner_of (twin k)) (watched owner_of k) (back_here away))
    by_case after to stop (refuted all) =
        put clauses entries entries taken p next heads owner_of k left rest lists (watched owner_of k) true b.roomy.small b.roomy.links
        (code_within clauses vars next heads k (watched owner_of k) b.roomy old.listed) b.linked b.few b.mine b.each b.short (λ go. b.here) k_watches k_watches t_watches (λ x t. t) (λ x y g. g) (λ x y g. g)
        old.listed old.apart old.below back (λ go. absurd (contrary go)) (λ go away. absurd (contrary go))

-- after a conflict the links are only put back
pub skipped : (clauses : List (List Lit)) (vars : ℕ) (entries : List Assigned) (taken : ℕ) (p : Lit) (next heads owner_of : List ℕ) (k left : ℕ)
    → IsRoomy clauses vars next heads → IsAt entries taken p → k ≢ end_of_list
    → IsVisiting clauses entries taken p next heads owner_of k (suc left) true
    → IsVisiting clauses entries taken p (set next k (slice_index heads (slice_index owner_of k))) (set heads (slice_index owner_of k) k) (set owner_of k (slice_index owner_of k)) (slice_index next k) left true
skipped clauses vars entries taken p next heads owner_of k left roomy at more v = by_out v.out v.linked v.few v.mine
  where
    by_out : (out : List ℕ) → IsLinked next heads owner_of k out v.lists → length out ≤ suc left → ((j : ℕ) → Contains out j → watched owner_of j ≡ negated p) → IsVisiting clauses entries taken p (set next k (slice_index heads (slice_index owner_of k))) (set heads (slice_index owner_of k) k) (set owner_of k (slice_index owner_of k)) (slice_index next k) left true
    by_out [] linked few mine = absurd (more linked.out_chain)
    by_out (x ∷ rest) linked few mine =
        let e : k ≡ x = linked.out_chain.0 in
        let there : IsLinked next heads owner_of k (k ∷ rest) v.lists = subst (λ z. IsLinked next heads owner_of k (z ∷ rest) v.lists) (sym e) linked in
        let mine_k = subst (λ z. (j : ℕ) → Contains (z ∷ rest) j → watched owner_of j ≡ negated p) (sym e) mine in
        let k_in : k < length owner_of = (let w = there.out_chain.1 in let l = linked.long in omega arith) in
        let t_in : twin k < length owner_of = (let r = roomy.links in let w = twin-within k (length clauses) (let w = there.out_chain.1 in omega arith) in let l = linked.long in omega arith) in
        let watches : Watches owner_of k = (λ z. at.real (ap (λ (l : Lit). l.0) (sym (mine_k k (contains_head k rest))) ∙ z)) in
        let old = v.each k k_in watches in
        put clauses entries entries taken p next heads owner_of k left rest v.lists (watched owner_of k) true roomy.small roomy.links
        (code_within clauses vars next heads k (watched owner_of k) roomy old.listed) there few mine_k v.each v.short (λ go. absurd (contrary go)) watches watches old.paired (λ x t. t) (λ x y g. g) (λ x y g. g)
        old.listed old.apart old.below (rw twin-twin at ((v.each (twin k) t_in old.paired).below)) (λ go. absurd (contrary go)) (λ go away. absurd (contrary go))

-- the next link of a visit
pub visited_next : (clauses : List (List Lit)) (vars : ℕ) (entries after : List Assigned) (taken : ℕ) (p : Lit) (next heads owner_of : List ℕ) (k left id : ℕ) (to : Lit) (stop : Bool)
    → IsRoomy clauses vars next heads → IsAt entries taken p → k ≢ end_of_list
    → IsVisiting clauses entries taken p next heads owner_of k (suc left) false
    → IsDone (clause_of clauses k) entries id (watched owner_of k) (watched owner_of (twin k)) after to stop
    → IsVisiting clauses after taken p (set next k (slice_index heads to.0)) (set heads to.0 k) (set owner_of k to.0) (slice_index next k) left stop
visited_next clauses vars entries after taken p next heads owner_of k left id to stop roomy at more v done = by_out v.out v.linked v.few v.mine (v.here refl)
  where
    by_out : (out : List ℕ) → IsLinked next heads owner_of k out v.lists → length out ≤ suc left → ((j : ℕ) → Contains out j → watched owner_of j ≡ negated p)
        → ((j : ℕ) → j < length owner_of → Watches owner_of j → ¬ Contains out j → GuardsHere entries taken (watched owner_of j) (watched owner_of (twin j)))
        → IsVisiting clauses after taken p (set next k (slice_index heads to.0)) (set heads to.0 k) (set owner_of k to.0) (slice_index next k) left stop
    by_out [] linked few mine here = absurd (more linked.out_chain)
    by_out (x ∷ rest) linked few mine here =
        let e : k ≡ x = linked.out_chain.0 in
        visited clauses vars entries after taken p next heads owner_of k left id rest v.lists to stop
        (record {
          roomy = roomy;
          at = at;
          linked = subst (λ z. IsLinked next heads owner_of k (z ∷ rest) v.lists) (sym e) linked;
          few = few;
          mine = subst (λ z. (j : ℕ) → Contains (z ∷ rest) j → watched owner_of j ≡ negated p) (sym e) mine;
          each = v.each;
          short = v.short;
          here = subst (λ z. (j : ℕ) → j < length owner_of → Watches owner_of j → ¬ Contains (z ∷ rest) j → GuardsHere entries taken (watched owner_of j) (watched owner_of (twin j))) (sym e) here;
        })
        done

-- the place of a visit stays
pub at_done : (clause : List Lit) (entries after : List Assigned) (taken id : ℕ) (p here other to : Lit) (stop : Bool) → IsAt entries taken p → IsDone clause entries id here other after to stop → IsAt after taken p
at_done clause entries after taken id p here other to stop at (satisfied t) = at
at_done clause entries after taken id p here other to stop at (moved l m apart n) = at
at_done clause entries after taken id p here other to stop at (refuted all) = at
at_done clause entries after taken id p here other to stop at (forced others u) = record {
  free = free_push entries other id at.free u;
  there = rw map-append (Contains-append_left (true_lits entries) (other ∷ []) p at.there);
  late = λ n lt c.
      let k : n < level entries = (let q = level-forced entries other id in omega arith) in
      at.late n k (rw (up_to-append n entries (Forced other id ∷ []) k) at c);
  within = (let q = length-append entries (Forced other id ∷ []) in let w = at.within in omega arith);
  real = at.real;
}

-- the next link of a visit
pub link_facts : (clauses : List (List Lit)) (vars : ℕ) (entries : List Assigned) (taken : ℕ) (p : Lit) (next heads owner_of : List ℕ) (k left : ℕ) (stop : Bool)
    → IsRoomy clauses vars next heads → IsAt entries taken p → k ≢ end_of_list
    → IsVisiting clauses entries taken p next heads owner_of k left stop
    → IsPlaced clauses vars next heads owner_of k
link_facts clauses vars entries taken p next heads owner_of k left stop roomy at more v = by_out v.out v.linked v.mine
  where
    by_out : (out : List ℕ) → IsLinked next heads owner_of k out v.lists → ((j : ℕ) → Contains out j → watched owner_of j ≡ negated p) → IsPlaced clauses vars next heads owner_of k
    by_out [] linked mine = absurd (more linked.out_chain)
    by_out (x ∷ rest) linked mine =
        let k_in : k < length next = rw (linked.out_chain.0) (linked.out_chain.1) in
        let long = linked.long in
        let links = roomy.links in
        let small = roomy.small in
        let t_in : twin k < length owner_of = (let w = twin-within k (length clauses) (omega arith) in omega arith) in
        let k_own : k < length owner_of = omega arith in
        let is_p : watched owner_of k ≡ negated p = rw (linked.out_chain.0) (mine x (contains_head x rest)) in
        let watches : Watches owner_of k = (λ z. at.real (ap (λ (l : Lit). l.0) (sym is_p) ∙ z)) in
        let old = v.each k k_own watches in
        record {
          within = k_in;
          own = k_own;
          long = long;
          half = omega arith;
          twin_own = t_in;
          small = omega arith;
          listed = old.listed;
          named = slice_get-get_or clauses (k / 2) [] (omega arith);
          twin_listed = subst (λ n. Contains (get_or clauses n []) (watched owner_of (twin k))) (twin-half k) ((v.each (twin k) t_in old.paired).listed);
          over = λ l c. roomy.range k l c;
          owner = code_within clauses vars next heads k (watched owner_of k) roomy old.listed;
        }

-- what a link watches now is in its clause
pub done_listed : (clause : List Lit) (entries after : List Assigned) (id : ℕ) (here other to : Lit) (stop : Bool) → Contains clause here → IsDone clause entries id here other after to stop → Contains clause to
done_listed clause entries after id here other to stop c (satisfied t) = c
done_listed clause entries after id here other to stop c (moved l m apart n) = m
done_listed clause entries after id here other to stop c (forced others u) = c
done_listed clause entries after id here other to stop c (refuted all) = c

-- a visit begins with the list of the literal that became false
pub begins : (clauses : List (List Lit)) (entries : List Assigned) (taken : ℕ) (p : Lit) (next heads owner_of : List ℕ) → (negated p).0 < length heads
    → IsOwing clauses entries taken p next heads owner_of
    → IsVisiting clauses entries taken p next (set heads (negated p).0 end_of_list) owner_of (slice_index heads (negated p).0) (length next) false
begins clauses entries taken p next heads owner_of within w = record {
  out = list_of w.lists (negated p).0;
  lists = set w.lists (negated p).0 [];
  linked = linked;
  few = (let t = linked.total in omega arith);
  mine = λ j c. same_lit (watched owner_of j) (negated p) (w.linked.owned (negated p).0 j within c);
  each = w.each;
  short = w.short;
  here = λ go j h real away. w.here j h real (λ e. away (there j h (ap (λ (l : Lit). l.0) e)));
}
  where
    linked : IsLinked next (set heads (negated p).0 end_of_list) owner_of (slice_index heads (negated p).0) (list_of w.lists (negated p).0) (set w.lists (negated p).0 [])
    linked = taken_out next heads owner_of w.lists (negated p).0 within w.linked

    there : (j : ℕ) → j < length owner_of → slice_index owner_of j ≡ (negated p).0 → Contains (list_of w.lists (negated p).0) j
    there j h e = elim (w.linked.listed j (let l = w.linked.long in omega arith)) [
      | inl m ↦ absurd (contains_nothing j m)
      | inr q ↦ subst (λ n. Contains (list_of w.lists n) j) e q.1
    ]

pub roomy_set : (clauses : List (List Lit)) (vars : ℕ) (next heads more fewer : List ℕ) → length more ≡ length next → length fewer ≡ length heads → IsRoomy clauses vars next heads → IsRoomy clauses vars more fewer
roomy_set clauses vars next heads more fewer e f r = record {
  links = e ∙ r.links;
  small = (let s = r.small in omega arith);
  codes = f ∙ r.codes;
  range = r.range;
}

-- once no link is left, each is in its list
pub ends_linked : (clauses : List (List Lit)) (entries : List Assigned) (taken : ℕ) (p : Lit) (next heads owner_of : List ℕ) (left : ℕ) (stop : Bool)
    → IsVisiting clauses entries taken p next heads owner_of end_of_list left stop → length next ≤ end_of_list
    → (lists : List (List ℕ)) × IsLinked next heads owner_of end_of_list [] lists
ends_linked clauses entries taken p next heads owner_of left stop v small = by_out v.out v.linked
  where
    by_out : (out : List ℕ) → IsLinked next heads owner_of end_of_list out v.lists → (lists : List (List ℕ)) × IsLinked next heads owner_of end_of_list [] lists
    by_out [] linked = (v.lists, linked)
    by_out (x ∷ rest) linked = absurd (let e = linked.out_chain.0 in let w = linked.out_chain.1 in omega arith)

-- and each link guards its literal here too, unless a clause is false
pub ends_watched : (clauses : List (List Lit)) (entries : List Assigned) (taken : ℕ) (p : Lit) (next heads owner_of : List ℕ) (left : ℕ)
    → IsVisiting clauses entries taken p next heads owner_of end_of_list left false → length next ≤ end_of_list
    → (k : ℕ) → k < length owner_of → Watches owner_of k → GuardsHere entries taken (watched owner_of k) (watched owner_of (twin k))
ends_watched clauses entries taken p next heads owner_of left v small k h real = by_out v.out v.linked.out_chain (v.here refl)
  where
    by_out : (out : List ℕ) → IsChain next end_of_list out → ((j : ℕ) → j < length owner_of → Watches owner_of j → ¬ Contains out j → GuardsHere entries taken (watched owner_of j) (watched owner_of (twin j))) → GuardsHere entries taken (watched owner_of k) (watched owner_of (twin k))
    by_out [] chain here = here k h real (λ c. contains_nothing k c)
    by_out (x ∷ rest) (e, within, more) here = absurd (omega arith)

-- where all was taken, each clause with such links is quiet
pub quiet_at_end : (clauses : List (List Lit)) (vars : ℕ) (entries : List Assigned) (next heads owner_of : List ℕ) → IsRoomy clauses vars next heads → length owner_of ≡ length next
    → ((k : ℕ) → k < length owner_of → Watches owner_of k → IsLink clauses entries owner_of k)
    → ((k : ℕ) → k < length owner_of → slice_index owner_of k ≡ 0 → IsTrueForEver entries (clause_of clauses k))
    → ((k : ℕ) → k < length owner_of → Watches owner_of k → GuardsHere entries (length entries) (watched owner_of k) (watched owner_of (twin k)))
    → (clause : List Lit) → Contains clauses clause → IsQuiet entries clause
quiet_at_end clauses vars entries next heads owner_of roomy long each short here clause c =
    let k = c.0 * 2 in
    let e : k % 2 ≡ 0 = omega arith in
    let half : k / 2 ≡ c.0 = omega arith in
    let t = twin-even k e in
    let links = roomy.links in
    let lt = c.1 in
    let k_in : k < length owner_of = omega arith in
    let t_in : twin k < length owner_of = omega arith in
    let is_clause : clause_of clauses k ≡ clause = (rw half (get_or_default clauses c.0 [] clause lt ∙ c.2)) in
    elim (cases_eq (slice_index owner_of k) 0) [
      | inl z ↦
          let t = short k k_in z in
          inr (t.0, subst (λ z. Contains z t.0) is_clause t.1, cut_within 0 entries t.0 t.2)
      | inr real ↦
          let one = each k k_in real in
          let two = each (twin k) t_in one.paired in
          inl (
            watched owner_of k,
            watched owner_of (twin k),
            record {
              first = subst (λ z. Contains z (watched owner_of k)) is_clause one.listed;
              second = subst (λ z. Contains z (watched owner_of (twin k))) (ap (λ n. get_or clauses n []) (twin-half k) ∙ is_clause) two.listed;
              different = one.apart;
              forth = here k k_in real;
              back = rw twin-twin at (here (twin k) t_in one.paired);
            },
          )
    ]

-- what is done adds what the clause forces
pub done_forced : (clauses : List (List Lit)) (clause : List Lit) (entries after : List Assigned) (id : ℕ) (here other to : Lit) (stop : Bool)
    → slice_get clauses id ≡ Some clause → Contains clause other → IsDone clause entries id here other after to stop → AddsForced clauses entries after
done_forced clauses clause entries after id here other to stop named c (satisfied t) = none
done_forced clauses clause entries after id here other to stop named c (moved l m apart n) = none
done_forced clauses clause entries after id here other to stop named c (forced others u) = one other id (record { clause = clause; named = named; has = c; others_false = others }) none
done_forced clauses clause entries after id here other to stop named c (refuted all) = none

-- forced twice in turn
pub forced_then : (clauses : List (List Lit)) (before between after : List Assigned) → AddsForced clauses before between → AddsForced clauses between after → AddsForced clauses before after
forced_then clauses before between after none second = second
forced_then clauses before between after (one l id f rest) second = one l id f (forced_then clauses _ between after rest second)

pub done_refuted : (clause : List Lit) (entries after : List Assigned) (id : ℕ) (here other to : Lit) (stop : Bool) → IsDone clause entries id here other after to stop → stop ≡ true → AllFalse (true_lits after) clause
done_refuted clause entries after id here other to stop (satisfied t) e = absurd (contrary (sym e))
done_refuted clause entries after id here other to stop (moved l m apart n) e = absurd (contrary (sym e))
done_refuted clause entries after id here other to stop (forced others u) e = absurd (contrary (sym e))
done_refuted clause entries after id here other to stop (refuted all) e = all

pub visiting_more : (clauses : List (List Lit)) (entries : List Assigned) (taken : ℕ) (p : Lit) (next heads owner_of : List ℕ) (at left more : ℕ) (stop : Bool) → left ≤ more → IsVisiting clauses entries taken p next heads owner_of at left stop → IsVisiting clauses entries taken p next heads owner_of at more stop
visiting_more clauses entries taken p next heads owner_of at left more stop le v = record {
  out = v.out;
  lists = v.lists;
  linked = v.linked;
  few = (let f = v.few in omega arith);
  mine = v.mine;
  each = v.each;
  short = v.short;
  here = v.here;
}

pub visiting_none_left : (clauses : List (List Lit)) (entries : List Assigned) (taken : ℕ) (p : Lit) (next heads owner_of : List ℕ) (at left : ℕ) (stop : Bool) → left ≡ 0 → IsVisiting clauses entries taken p next heads owner_of at left stop → at ≡ end_of_list
visiting_none_left clauses entries taken p next heads owner_of at left stop e v = by_out v.out v.few v.linked.out_chain
  where
    by_out : (out : List ℕ) → length out ≤ left → IsChain next at out → at ≡ end_of_list
    by_out [] few chain = chain
    by_out (x ∷ rest) few chain = absurd (omega arith)
