-- What is known and what is read of rows, where one row is looked at or read.
use Rattle.std.proofs.Common.{◌≡◌, ℕ, zero, suc, ◌+◌, ◌<◌, ◌≤◌, ◌⊎◌, inl, inr, List, [], ◌∷◌, ◌++◌, map, length, take, set, refl, ap, sym, ◌∙◌, subst, arith, Some, slice_get}
use Rattle.std.specs.Prelude.{Contains, All}
use Rattle.std.proofs.lemmas.List.{length-append, length-set, append_assoc, take_all, take-append-le}
use Rattle.std.proofs.lemmas.List.Elements.{All-nil, All-cons, All-append, Contains-append_left, Contains-append_right, Contains-append_cases}
use Rattle.std.proofs.lemmas.Option.{same_Some}
use Rattle.dg_base.proofs.Lists.{get_nothing, get_set_cases, contains_head, contains_nothing, contains_cases, contains_map, contains_from_map}
use mathlib.Core.List.{IsPrefix}
use Rattle.dg_base.specs.declared.Lit.{Lit}
use Rattle.cnf_problem.specs.Literals.{IsOver}
use Rattle.clause_exchange.specs.declared.rule.Received.{Received}
use Rattle.clause_exchange.specs.declared.rule.RowView.{RowView}
use Rattle.clause_exchange.specs.Spelling.{spelled, spelled_entry, entry_size, whole_within}
use Rattle.clause_exchange.specs.Steps.{reading, received_lits, with_loaded, IsAt}
use Rattle.clause_exchange.specs.Seats.{IsWhole}
use Rattle.clause_exchange.specs.Calls.{IsAllRead}
use Rattle.clause_exchange.proofs.Listed.{prefix_length, spelled_append}
use Rattle.clause_exchange.proofs.Words.{lits_size}
use Rattle.clause_exchange.proofs.CallLaws.{whole_first, reading_is_all_law}
use Rattle.worker_log.specs.Newness.{first_known, AreSeen}
use Rattle.worker_log.specs.Keeping.{AreHeard, unread}

-- ---- one row

-- what is whole within the words read is what was read
pub whole_read_is : (r : RowView) (w : IsWhole r) → whole_within r.loaded r.known ≡ w.read
whole_read_is r w = ap (λ m. whole_within m r.known) w.place ∙ (ap (λ l. whole_within (length (spelled w.read)) l) w.all ∙ whole_first w.read w.unread)

-- a look changes nothing of it
pub looked_reading : (r : RowView) (known : List Received) → IsWhole r → IsPrefix r.known known → whole_within r.loaded known ≡ whole_within r.loaded r.known
looked_reading r known w (more, e) =
    let all : known ≡ w.read ++ (w.unread ++ more) = sym e ∙ (ap (λ l. l ++ more) w.all ∙ append_assoc w.read w.unread more) in
    (ap (λ m. whole_within m known) w.place ∙ (ap (λ l. whole_within (length (spelled w.read)) l) all ∙ whole_first w.read (w.unread ++ more))) ∙ sym (whole_read_is r w)

-- the words of the entry that comes next are among those that were seen
entry_seen : (r : RowView) (h : Received) → IsAt r h 0 → r.loaded + entry_size (length h.lits) ≤ length (spelled r.known)
entry_seen r h at =
    let a = ap (λ l. length (spelled l)) at.all in
    let b = ap length (spelled_append at.before (h ∷ at.later)) in
    let c = length-append (spelled at.before) (spelled (h ∷ at.later)) in
    let d = length-append (spelled_entry h) (spelled at.later) in
    let e = lits_size h.lits in
    let f = at.place in
    omega arith

-- after it is read fewer words are unread
pub unread_less : (r : RowView) (h : Received) (loaded : ℕ) → IsAt r h 0 → loaded ≡ r.loaded + entry_size (length h.lits) → unread (with_loaded r loaded) < unread r
unread_less r h loaded at is = let a = entry_seen r h at in omega arith

-- each entry is spelled by a word at least
entries_few : (hs : List Received) → length hs ≤ length (spelled hs)
entries_few [] = omega arith
entries_few (h ∷ hs) = let a = length-append (spelled_entry h) (spelled hs) in let b = entries_few hs in omega arith

-- so the entries read are fewer than the words that were seen, where one comes next
pub reads_few : (r : RowView) (h : Received) → IsAt r h 0 → length (whole_within r.loaded r.known) + 1 ≤ length (spelled r.known)
reads_few r h at =
    let first : r.loaded ≡ length (spelled at.before) = (let p = at.place in omega arith) in
    let old : whole_within r.loaded r.known ≡ at.before = ap (λ m. whole_within m r.known) first ∙ (ap (λ l. whole_within (length (spelled at.before)) l) at.all ∙ whole_first at.before (h ∷ at.later)) in
    let a = ap length old in
    let b = ap length at.all in
    let c = length-append at.before (h ∷ at.later) in
    let d = entries_few r.known in
    omega arith

-- ---- all rows

-- where all that was seen is read, the reading is all that is known
pub reading_all : (rows : List RowView) → ((j : ℕ) (r : RowView) → slice_get rows j ≡ Some r → IsAllRead r) → first_known (map (λ (r : RowView). length r.known) rows) rows ≡ reading rows
reading_all [] all = refl
reading_all (r ∷ rows) all =
    ap (λ l. l ++ first_known (map (λ (x : RowView). length x.known) rows) rows) (take_all (length r.known) r.known (omega arith) ∙ sym (reading_is_all_law r (all 0 r refl)))
    ∙ ap (λ l. whole_within r.loaded r.known ++ l) (reading_all rows (λ j x at. all (suc j) x at))

-- the reading where one row is another of which as much is read
pub reading_same : (rows : List RowView) (j : ℕ) (r q : RowView) → slice_get rows j ≡ Some r → whole_within q.loaded q.known ≡ whole_within r.loaded r.known → reading (set rows j q) ≡ reading rows
reading_same [] j r q at same = absurd (get_nothing j r at)
reading_same (z ∷ zs) zero r q at same = ap (λ l. l ++ reading zs) (same ∙ ap (λ (x : RowView). whole_within x.loaded x.known) (sym (same_Some z r at)))
reading_same (z ∷ zs) (suc j) r q at same = ap (λ l. whole_within z.loaded z.known ++ l) (reading_same zs j r q at same)

-- one entry came to a list
pub record HasMore (h : Received) (before after : List Received) : Type 0 where
  pub kept : (x : Received) → Contains before x → Contains after x
  pub added : Contains after h
  pub only : (x : Received) → Contains after x → Contains before x ⊎ (x ≡ h)

more_between : (h : Received) (xs ys : List Received) → HasMore h (xs ++ ys) ((xs ++ h ∷ []) ++ ys)
more_between h xs ys = record {
  kept = λ x m. elim (Contains-append_cases xs ys x m) [
    | inl k ↦ Contains-append_left (xs ++ h ∷ []) ys x (Contains-append_left xs (h ∷ []) x k)
    | inr k ↦ Contains-append_right (xs ++ h ∷ []) ys x k
  ];
  added = Contains-append_left (xs ++ h ∷ []) ys h (Contains-append_right xs (h ∷ []) h (contains_head h []));
  only = λ x m. elim (Contains-append_cases (xs ++ h ∷ []) ys x m) [
    | inl k ↦ elim (Contains-append_cases xs (h ∷ []) x k) [
      | inl n ↦ inl (Contains-append_left xs ys x n)
      | inr n ↦ elim (contains_cases h x [] n) [ inl same ↦ inr same | inr none ↦ absurd (contains_nothing x none) ]
    ]
    | inr k ↦ inl (Contains-append_right xs ys x k)
  ];
}

more_behind : (h : Received) (front before after : List Received) → HasMore h before after → HasMore h (front ++ before) (front ++ after)
more_behind h front before after more = record {
  kept = λ x m. elim (Contains-append_cases front before x m) [
    | inl k ↦ Contains-append_left front after x k
    | inr k ↦ Contains-append_right front after x (more.kept x k)
  ];
  added = Contains-append_right front after h more.added;
  only = λ x m. elim (Contains-append_cases front after x m) [
    | inl k ↦ inl (Contains-append_left front before x k)
    | inr k ↦ elim (more.only x k) [ inl n ↦ inl (Contains-append_right front before x n) | inr same ↦ inr same ]
  ];
}

-- the reading where one entry more is read of a row
pub reading_more : (rows : List RowView) (j : ℕ) (r q : RowView) (h : Received) → slice_get rows j ≡ Some r → whole_within q.loaded q.known ≡ whole_within r.loaded r.known ++ h ∷ [] → HasMore h (reading rows) (reading (set rows j q))
reading_more [] j r q h at more = absurd (get_nothing j r at)
reading_more (z ∷ zs) zero r q h at more =
    let now : whole_within q.loaded q.known ≡ whole_within z.loaded z.known ++ h ∷ [] = more ∙ ap (λ (x : RowView). whole_within x.loaded x.known ++ h ∷ []) (sym (same_Some z r at)) in
    subst (λ l. HasMore h (whole_within z.loaded z.known ++ reading zs) (l ++ reading zs)) (sym now) (more_between h (whole_within z.loaded z.known) (reading zs))
reading_more (z ∷ zs) (suc j) r q h at more = more_behind h (whole_within z.loaded z.known) (reading zs) (reading (set zs j q)) (reading_more zs j r q h at more)

-- ---- what might be read at an append

pub seen_rest : (n : ℕ) (seen : List ℕ) (r : RowView) (rows : List RowView) → AreSeen (r ∷ rows) (n ∷ seen) → AreSeen rows seen
seen_rest n seen r rows s = record { wide = (let w = s.wide in omega arith); known = λ j m x a b. s.known (suc j) m x a b }

-- it is the same where more is known of a row
pub first_known_same : (seen : List ℕ) (rows : List RowView) (j : ℕ) (r q : RowView) → AreSeen rows seen → slice_get rows j ≡ Some r → IsPrefix r.known q.known → first_known seen (set rows j q) ≡ first_known seen rows
first_known_same [] rows j r q s at pre = refl
first_known_same (n ∷ ns) [] j r q s at pre = absurd (get_nothing j r at)
first_known_same (n ∷ ns) (z ∷ zs) zero r q s at pre =
    let same : z ≡ r = same_Some z r at in
    let few : n ≤ length r.known = subst (λ (x : RowView). n ≤ length x.known) same (s.known 0 n z refl refl) in
    ap (λ l. l ++ first_known ns zs) (ap (λ l. take n l) (sym pre.1) ∙ (take-append-le n r.known pre.0 few ∙ ap (λ (x : RowView). take n x.known) (sym same)))
first_known_same (n ∷ ns) (z ∷ zs) (suc j) r q s at pre = ap (λ l. take n z.known ++ l) (first_known_same ns zs j r q (seen_rest n ns z zs s) at pre)

pub seen_after : (rows : List RowView) (seen : List ℕ) (j : ℕ) (r q : RowView) → AreSeen rows seen → slice_get rows j ≡ Some r → IsPrefix r.known q.known → AreSeen (set rows j q) seen
seen_after rows seen j r q s at pre = record {
  wide = s.wide ∙ sym (length-set rows j q);
  known = λ k n x a b. elim (get_set_cases rows j k q x b) [
    | inl e ↦
        let few = s.known k n r a (subst (λ m. slice_get rows m ≡ Some r) (sym e.0) at) in
        let more = prefix_length r.known q.known pre in
        subst (λ (y : RowView). n ≤ length y.known) (sym e.1) (omega arith)
    | inr e ↦ s.known k n x a e.1
  ];
}

-- ---- clauses that are heard

pub heard_none : (vars : ℕ) (known : List (List Lit)) → AreHeard vars [] known known
heard_none vars known = record { over = All-nil (All (IsOver vars)); kept = λ x m. m; added = λ x m. absurd (contains_nothing x m); only = λ x m. inl m }

-- first these and then those
pub heard_more : (vars : ℕ) (first second start middle end : List (List Lit)) → AreHeard vars first start middle → AreHeard vars second middle end → AreHeard vars (first ++ second) start end
heard_more vars first second start middle end a b = record {
  over = All-append (All (IsOver vars)) first second a.over b.over;
  kept = λ x m. b.kept x (a.kept x m);
  added = λ x m. elim (Contains-append_cases first second x m) [ inl k ↦ b.kept x (a.added x k) | inr k ↦ b.added x k ];
  only = λ x m. elim (b.only x m) [
    | inl k ↦ elim (a.only x k) [ inl n ↦ inl n | inr n ↦ inr (Contains-append_left first second x n) ]
    | inr k ↦ inr (Contains-append_right first second x k)
  ];
}

-- an entry that is read is heard
pub heard_entry : (vars : ℕ) (h : Received) (own : List (List Lit)) (before after : List Received) → All (IsOver vars) h.lits → HasMore h before after → AreHeard vars (h.lits ∷ []) (own ++ received_lits before) (own ++ received_lits after)
heard_entry vars h own before after over more = record {
  over = All-cons (All (IsOver vars)) h.lits [] over (All-nil (All (IsOver vars)));
  kept = λ x m. elim (Contains-append_cases own (received_lits before) x m) [
    | inl k ↦ Contains-append_left own (received_lits after) x k
    | inr k ↦
        let e = contains_from_map (λ (r : Received). r.lits) before x k in
        subst (λ z. Contains (own ++ received_lits after) z) (sym e.2) (Contains-append_right own (received_lits after) ((e.0).lits) (contains_map (λ (r : Received). r.lits) after e.0 (more.kept e.0 e.1)))
  ];
  added = λ x m. elim (contains_cases h.lits x [] m) [
    | inl e ↦ subst (λ z. Contains (own ++ received_lits after) z) (sym e) (Contains-append_right own (received_lits after) h.lits (contains_map (λ (r : Received). r.lits) after h more.added))
    | inr none ↦ absurd (contains_nothing x none)
  ];
  only = λ x m. elim (Contains-append_cases own (received_lits after) x m) [
    | inl k ↦ inl (Contains-append_left own (received_lits before) x k)
    | inr k ↦
        let e = contains_from_map (λ (r : Received). r.lits) after x k in
        elim (more.only e.0 e.1) [
          | inl n ↦ inl (subst (λ z. Contains (own ++ received_lits before) z) (sym e.2) (Contains-append_right own (received_lits before) ((e.0).lits) (contains_map (λ (r : Received). r.lits) before e.0 n)))
          | inr same ↦ inr (subst (λ z. Contains (h.lits ∷ []) z) (sym (e.2 ∙ ap (λ (r : Received). r.lits) same)) (contains_head h.lits []))
        ]
  ];
}
