-- The step on the ticket word is an append of the core.
use Rattle.std.proofs.Common.{◌≡◌, ◌≢◌, ℕ, suc, ◌+◌, ◌-◌, ◌%◌, ◌^◌, ◌<◌, ◌≤◌, inl, inr, Bool, true, false, List, [], ◌∷◌, ◌++◌, map, length, take, set, refl, ap, sym, ◌∙◌, subst, arith, Some, slice_get}
use Rattle.std.specs.Prelude.{slice_index, Contains, nat_lt, if◌then◌else◌}
use Rattle.std.proofs.lemmas.List.{length-map, length-set, length-append, map-set, get_or-set_same, get_or-set_other}
use Rattle.std.proofs.lemmas.List.Elements.{Contains-append_left, Contains-append_right, Contains-append_cases}
use Rattle.std.proofs.lemmas.Option.{get_or_from_slice_get, slice_get_within}
use Rattle.dg_base.proofs.Lists.{get_map, get_there, place_of, contains_head, contains_tail, contains_nothing, contains_cases, contains_map, contains_from_map}
use mathlib.Core.Option.{none}
use mathlib.Core.List.{IsPrefix}
use Rattle.atomic_table.specs.Table.{Me, step, keeps, Allows}
use Rattle.cnf_problem.specs.declared.problem.Lemma.{Lemma}
use Rattle.cnf_problem.specs.declared.problem.Problem.{Problem}
use Rattle.cnf_problem.specs.Problems.{Follows}
use Rattle.cnf_problem.proofs.LemmaLaws.{follows_more}
use Rattle.cnf_problem.specs.Laws.{IsWithin}
use Rattle.search_core.proofs.Laws.{sound_after_events}
use Rattle.search_core.specs.declared.Entry.{Entry}
use Rattle.search_core.specs.Core.{Worker, Event, Append, IsReached, MayHappen, after, worker, idle, known, readable, lits_of, appended}
use Rattle.search_core.specs.Core
use Rattle.clause_exchange.specs.declared.rule.Received.{Received}
use Rattle.clause_exchange.specs.declared.rule.RowView.{RowView}
use Rattle.clause_exchange.specs.declared.rule.Part.{Part}
use Rattle.clause_exchange.specs.declared.rule.View.{View}
use Rattle.clause_exchange.specs.Spelling.{received_of, all_received, spelled_entry, whole_within}
use Rattle.clause_exchange.specs.Rule.{verdict_of, worker_of, core_of, IsReceived, IsKept, HoldsFor}
use Rattle.clause_exchange.specs.Steps.{with_part, with_entry, IsAbove, Appends, MayAppend, reading, received_lits}
use Rattle.clause_exchange.proofs.Listed.{prefix_refl}
use Rattle.clause_exchange.proofs.Keeping.{verdict_stays, row_stays, kept_after, worker_there}
use Rattle.clause_exchange.proofs.Stepping.{step_tells, reached_after, next_small}

-- what is whole within some words is of the list
pub whole_contained : (m : ℕ) (hs : List Received) (h : Received) → Contains (whole_within m hs) h → Contains hs h
whole_contained m [] h c = c
whole_contained m (x ∷ xs) h c = by_size (nat_lt m (length (spelled_entry x))) c (whole_contained (m - length (spelled_entry x)) xs h)
  where
    by_size : (b : Bool) → Contains (if b then [] else x ∷ whole_within (m - length (spelled_entry x)) xs) h → (Contains (whole_within (m - length (spelled_entry x)) xs) h → Contains xs h) → Contains (x ∷ xs) h
    by_size true c rest = absurd (contains_nothing h c)
    by_size false c rest = elim (contains_cases x h (whole_within (m - length (spelled_entry x)) xs) c) [
      | inl e ↦ subst (λ z. Contains (x ∷ xs) z) (sym e) (contains_head x xs)
      | inr t ↦ contains_tail x h xs (rest t)
    ]

-- an element of the beginning of a mapped list comes from the beginning of the list
pub from_prefix : {X Y : Type 0} (f : Y → X) (xs : List X) (ys : List Y) (x : X) → IsPrefix xs (map f ys) → Contains xs x → (y : Y) × Contains (take (length xs) ys) y × (f y ≡ x)
from_prefix f [] ys x pre c = absurd (contains_nothing x c)
from_prefix f (z ∷ zs) [] x (a, e) c = absurd (let n = ap length e in omega arith)
from_prefix f (z ∷ zs) (y ∷ ys) x (a, e) c = elim (contains_cases z x zs c) [
  | inl q ↦ (y, contains_head y (take (length zs) ys), (let head : z ≡ f y = cc in sym (q ∙ head)))
  | inr t ↦ (let tail : zs ++ a ≡ map f ys = cc in let r = from_prefix f zs ys x (a, tail) t in (r.0, contains_tail y r.0 (take (length zs) ys) r.1, r.2))
]

-- what was read may be read in the core
pub read_known : (parts : List Part) (rows : List RowView) → length rows ≤ length parts → ((j : ℕ) (other : Part) (r : RowView) → slice_get parts j ≡ Some other → slice_get rows j ≡ Some r → IsReceived r other)
    → (h : Received) → Contains (reading rows) h → (e : Entry) × Contains (readable (map (λ (r : RowView). length r.known) rows) (map worker_of parts)) e × (received_of e ≡ h)
read_known parts [] le received h c = absurd (contains_nothing h c)
read_known [] (r ∷ rs) le received h c = absurd (omega arith)
read_known (q ∷ qs) (r ∷ rs) le received h c = elim (Contains-append_cases (whole_within r.loaded r.known) (reading rs) h c) [
  | inl m ↦
      let e = from_prefix received_of r.known q.shared h ((received 0 q r refl refl).known) (whole_contained r.loaded r.known h m) in
      (e.0, Contains-append_left (take (length r.known) q.shared) (readable (map (λ (x : RowView). length x.known) rs) (map worker_of qs)) e.0 e.1, e.2)
  | inr m ↦
      let e = read_known qs rs (omega arith) (λ j other x a b. received (suc j) other x a b) h m in
      (e.0, Contains-append_right (take (length r.known) q.shared) (readable (map (λ (x : RowView). length x.known) rs) (map worker_of qs)) e.0 e.1, e.2)
]

-- the clauses of the log and of what was read are known in the core
pub read_within : (p : Problem) (n share_words : ℕ) (words : List ℕ) (parts : List Part) (part : Part) → slice_get parts part.number ≡ Some part → IsKept p n share_words words parts
    → IsWithin (lits_of part.log ++ received_lits (reading part.rows)) (lits_of (part.log ++ readable (map (λ (r : RowView). length r.known) part.rows) (map worker_of parts)))
read_within p n share_words words parts part at kept x c = elim (Contains-append_cases (lits_of part.log) (received_lits (reading part.rows)) x c) [
  | inl m ↦
      let e = contains_from_map (λ (y : Entry). y.lemma.lits) part.log x m in
      subst (λ z. Contains (lits_of (part.log ++ may_read)) z) (sym e.2) (contains_map (λ (y : Entry). y.lemma.lits) (part.log ++ may_read) e.0 (Contains-append_left part.log may_read e.0 e.1))
  | inr m ↦
      let h = contains_from_map (λ (y : Received). y.lits) (reading part.rows) x m in
      let e = read_known parts part.rows (let a = (kept.rows part.number part at).wide in let b = kept.numbers in omega arith) (λ j other r there row. kept.received part.number j part other r at there row) h.0 h.1 in
      let same : x ≡ e.0.lemma.lits = h.2 ∙ ap (λ (y : Received). y.lits) (sym e.2) in
      subst (λ z. Contains (lits_of (part.log ++ may_read)) z) (sym same) (contains_map (λ (y : Entry). y.lemma.lits) (part.log ++ may_read) e.0 (Contains-append_right part.log may_read e.0 e.1))
]
  where
    may_read : List Entry
    may_read = readable (map (λ (r : RowView). length r.known) part.rows) (map worker_of parts)

-- the next ticket is above those of a number's log
next_is_above : (p : Problem) (n share_words : ℕ) (words : List ℕ) (parts : List Part) (part : Part) → slice_get parts part.number ≡ Some part → IsKept p n share_words words parts → IsAbove (slice_index words 0) part.log
next_is_above p n share_words words parts part at kept e h =
    let k = place_of part.log e h in
    (sound_after_events p n (core_of words parts) kept.reached).tickets.below part.number k.0 e
    (subst (λ (w : Worker). slice_get w.log k.0 ≡ Some e) (sym (worker_there words parts part.number part at)) k.1)

module _ (p : Problem) (v : View) (part : Part) (lemma : Lemma) (words : List ℕ) (parts : List Part)
    (may : MayAppend p v part lemma) (at : slice_get parts part.number ≡ Some part) (kept : IsKept p v.workers v.share_words words parts) where
  follows_now : Follows p (lits_of (part.log ++ readable (map (λ (r : RowView). length r.known) part.rows) (map worker_of parts))) lemma
  follows_now = follows_more p (lits_of part.log ++ received_lits (reading part.rows)) (lits_of (part.log ++ readable (map (λ (r : RowView). length r.known) part.rows) (map worker_of parts))) lemma (read_within p v.workers v.share_words words parts part at kept) may.follows

  may_append : MayHappen p (core_of words parts) (Append part.number lemma)
  may_append =
      let w = worker_there words parts part.number part at in (
        (let a = length-map parts worker_of in let b = slice_get_within parts part.number part at in omega arith),
        subst (λ (x : Worker). Follows p (lits_of (x.log ++ readable x.may_read (map worker_of parts))) lemma) (sym w) follows_now,
        λ j inside apart. subst (λ (x : Worker). length x.log < slice_index x.looked j + 1024) (sym w) (looked j inside apart),
      )
    where
      looked : (j : ℕ) → j < length (map worker_of parts) → j ≢ part.number → length part.log < slice_index (map (λ (r : RowView). r.log_then) part.rows) j + 1024
      looked j inside apart =
          let r = get_there part.rows j (let a = length-map parts worker_of in let b = kept.numbers in let c = (kept.rows part.number part at).wide in omega arith) in
          let m = may.looked j r.0 apart r.1 in
          let e = get_or_from_slice_get (map (λ (x : RowView). x.log_then) part.rows) j r.0.log_then 0 (get_map (λ (x : RowView). x.log_then) part.rows j r.0 r.1) in
          omega arith

  core_appended : core_of (set words 0 (slice_index words 0 + 1)) (set parts part.number (with_entry part (slice_index words 0) lemma)) ≡ after (core_of words parts) (Append part.number lemma)
  core_appended =
      let size = kept.size in
      let zero_new = get_or-set_same words 0 (slice_index words 0 + 1) 0 (omega arith) in
      let one_same = get_or-set_other words 0 1 (slice_index words 0 + 1) 0 (λ e. omega arith) in
      let w = worker_there words parts part.number part at in
      rw (zero_new, one_same, map-set)
      (ap (λ (x : Worker). grown (set (map worker_of parts) part.number (appended x (slice_index words 0) lemma))) (sym w))
    where
      grown : List Worker → Core.State
      grown ws = record { workers = ws; next = slice_index words 0 + 1; verdict = verdict_of (slice_index words 1) }

  kept_append : IsKept p v.workers v.share_words (set words 0 (slice_index words 0 + 1)) (set parts part.number (with_entry part (slice_index words 0) lemma))
  kept_append =
      let old = row_stays v.workers v.share_words words 0 (slice_index words 0 + 1) part.number part (λ e. omega arith) (λ m lt e. omega arith) (kept.rows part.number part at) in
      let one_same = get_or-set_other words 0 1 (slice_index words 0 + 1) 0 (λ e. omega arith) in
      kept_after p v.workers v.share_words words (set words 0 (slice_index words 0 + 1)) parts part.number part (with_entry part (slice_index words 0) lemma) at kept
      (length-set words 0 (slice_index words 0 + 1))
      (verdict_stays (slice_index words 1) (slice_index (set words 0 (slice_index words 0 + 1)) 1) parts part.number part (with_entry part (slice_index words 0) lemma) at refl refl one_same kept.verdict)
      (subst (λ t. IsReached p v.workers t) (sym core_appended) (reached_after p v.workers (core_of words parts) (Append part.number lemma) kept.reached may_append))
      (record { count = old.count; fits = old.fits; begins = old.begins; plain = old.plain; wide = old.wide; short = (let room = may.room in let l = length-append part.log (record { ticket = slice_index words 0; lemma = lemma; seen = map (λ (r : RowView). length r.known) part.rows } ∷ []) in omega arith) })
      (λ j other apart there. row_stays v.workers v.share_words words 0 (slice_index words 0 + 1) j other (λ e. omega arith) (λ m lt e. omega arith) (kept.rows j other there))
      (prefix_refl (all_received part.shared))
      (λ j other r there row. kept.received part.number j part other r at there row)

-- the step on the ticket word is allowed
pub appends : (p : Problem) (n share_words slots id : ℕ) (me : Me Lemma View) (lemma : Lemma) (part : Part) → MayAppend p me.0 part lemma → me.0.announced ≡ Some lemma → Allows (HoldsFor p n share_words) slots id me 0 (λ n. (n + 1) % 2 ^ 64) (Appends (step slots 0 1 0 none) me)
appends p n share_words slots id me lemma part may is_announced s h homes there small =
    let result = step_tells p n share_words s (set s.words 0 ((slice_index s.words 0 + 1) % 2 ^ 64)) s.homes id me.0 part tell h there may.one
    (λ parts at kept.
    let fits = next_small p me.0.workers me.0.share_words s.words parts kept in
    let wraps : (slice_index s.words 0 + 1) % 2 ^ 64 ≡ slice_index s.words 0 + 1 = omega arith in
    (with_entry part (slice_index s.words 0) lemma, refl, rw wraps (kept_append p me.0 part lemma s.words parts may at kept), told fits (next_is_above p me.0.workers me.0.share_words s.words parts part at kept))) in
    (result.0, keeps, tt, result.1, result.2)
  where
    tell : View → Type 0
    tell w = Appends (step slots 0 1 0 none) me (slice_index s.words 0) (w, me.1)

    told : slice_index s.words 0 ≤ 16000016 → IsAbove (slice_index s.words 0) part.log → tell (with_part me.0 (with_entry part (slice_index s.words 0) lemma))
    told fits above = (
      refl,
      fits,
      λ q one e h. above e (subst (λ (x : Part). Contains x.log e) (let same_part : q ≡ part = (let e = sym may.one.one ∙ one in cc) in same_part) h),
      λ other q announced one.
          let same_part : part ≡ q = (let e = sym may.one.one ∙ one in cc) in
          let same_lemma : lemma ≡ other = (let e = sym is_announced ∙ announced in cc) in
          ap (λ (x : Part). with_part me.0 (with_entry x (slice_index s.words 0) lemma)) same_part
          ∙ ap (λ (z : Lemma). with_part me.0 (with_entry q (slice_index s.words 0) z)) same_lemma,
    )
