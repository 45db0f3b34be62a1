-- A store behind the own row changes nothing of the core, and a store of the own count is a share.
use Rattle.std.proofs.Common.{◌≡◌, ℕ, zero, suc, ◌+◌, ◌*◌, ◌<◌, ◌≤◌, inl, inr, List, [], ◌∷◌, ◌++◌, map, length, set, refl, ap, sym, ◌∙◌, subst, arith, Some, slice_get}
use Rattle.std.specs.Prelude.{slice_index, Contains}
use Rattle.std.proofs.lemmas.Bool.{cases_lt}
use Rattle.std.proofs.lemmas.List.{length-map, length-set, map-append, map-set, append_assoc, append-nil, get_or-set_same, get_or-set_other, length_push}
use Rattle.std.proofs.lemmas.List.Elements.{Contains-push_cases}
use Rattle.std.proofs.lemmas.Option.{slice_get_within, same_Some}
use Rattle.dg_base.proofs.Lists.{place_of}
use mathlib.Core.Option.{none}
use Rattle.atomic_table.specs.Table.{Me, step, keeps, Allows}
use Rattle.cnf_problem.specs.declared.problem.Lemma.{Lemma}
use Rattle.cnf_problem.specs.declared.problem.Problem.{Problem}
use Rattle.search_core.proofs.Laws.{sound_after_events}
use Rattle.search_core.specs.declared.Entry.{Entry}
use Rattle.search_core.specs.Core.{Worker, Event, Share, IsReached, MayHappen, after, worker, idle, has_shared}
use Rattle.search_core.specs.Core
use Rattle.clause_exchange.specs.declared.rule.Part.{Part}
use Rattle.clause_exchange.specs.declared.rule.View.{View}
use Rattle.clause_exchange.specs.Spelling.{received_of, all_received, spelled, spelled_entry, IsPlain}
use Rattle.clause_exchange.specs.Rule.{verdict_of, worker_of, core_of, row_words, row_start, IsRow, IsKept, HoldsFor}
use Rattle.clause_exchange.specs.Steps.{IsOne, with_part, with_word, with_shared, Stores, Shares, MayShare}
use Rattle.clause_exchange.proofs.Listed.{prefix_refl, spelled_append}
use Rattle.clause_exchange.proofs.Keeping.{verdict_stays, same_row, row_inside, row_stays, kept_after, core_stays, worker_there}
use Rattle.clause_exchange.proofs.Stepping.{step_tells, reached_after}

more_words : (part : Part) (x : ℕ) → row_words (with_word part x) ≡ row_words part ++ x ∷ []
more_words part x = sym (append_assoc (spelled (all_received part.shared)) part.stored (x ∷ []))

module _ (p : Problem) (v : View) (part : Part) (x : ℕ) (words : List ℕ) (parts : List Part)
    (room : length (row_words part) < v.share_words) (at : slice_get parts part.number ≡ Some part) (kept : IsKept p v.workers v.share_words words parts) where
  abbrev end : ℕ
  end = row_start v.workers v.share_words part.number + length (row_words part)

  number : part.number < v.workers
  number = let a = slice_get_within parts part.number part at in let b = kept.numbers in omega arith

  end_inside : end < length words
  end_inside = let a = row_inside v.workers v.share_words part.number (length (row_words part)) number room in let b = kept.size in omega arith

  behind : (m : ℕ) → m < suc (length (row_words part)) → slice_index (set words end x) (row_start v.workers v.share_words part.number + m) ≡ slice_index (row_words part ++ x ∷ []) m
  behind m lt = elim (cases_lt m (length (row_words part))) [
    | inl old ↦ get_or-set_other words end (row_start v.workers v.share_words part.number + m) x 0 (λ e. omega arith) ∙ (kept.rows part.number part at).begins m old ∙ sym (left (row_words part) m old)
    | inr new ↦
        let last : m ≡ length (row_words part) = omega arith in
        rw last (get_or-set_same words end x 0 end_inside ∙ sym (last_of (row_words part)))
  ]
    where
      left : (xs : List ℕ) (m : ℕ) → m < length xs → slice_index (xs ++ x ∷ []) m ≡ slice_index xs m
      left [] m lt = absurd (omega arith)
      left (y ∷ ys) zero lt = refl
      left (y ∷ ys) (suc m) lt = left ys m (omega arith)

      last_of : (xs : List ℕ) → slice_index (xs ++ x ∷ []) (length xs) ≡ x
      last_of [] = refl
      last_of (y ∷ ys) = last_of ys

  own : IsRow v.workers v.share_words (set words end x) part.number (with_word part x)
  own =
      let old = kept.rows part.number part at in
      let long = length_push (row_words part) x in
      let words_now = more_words part x in
      record {
        count = get_or-set_other words end (2 + part.number) x 0 (let n = number in λ e. omega arith) ∙ old.count;
        fits = (let e = ap length words_now in omega arith);
        begins = λ m lt. rw words_now (behind m (let e = ap length words_now in omega arith));
        plain = old.plain;
        short = old.short;
        wide = old.wide;
      }

  kept_store : IsKept p v.workers v.share_words (set words end x) (set parts part.number (with_word part x))
  kept_store =
      let zero_same = get_or-set_other words end 0 x 0 (λ e. omega arith) in
      let one_same = get_or-set_other words end 1 x 0 (λ e. omega arith) in
      kept_after p v.workers v.share_words words (set words end x) parts part.number part (with_word part x) at kept
      (length-set words end x)
      (verdict_stays (slice_index words 1) (slice_index (set words end x) 1) parts part.number part (with_word part x) at refl refl one_same kept.verdict)
      (subst (λ t. IsReached p v.workers t) (sym (core_stays words (set words end x) parts part.number part (with_word part x) at refl zero_same one_same)) kept.reached)
      own
      (λ j other apart there.
      let inside : j < v.workers = (let a = slice_get_within parts j other there in let b = kept.numbers in omega arith) in
      row_stays v.workers v.share_words words end x j other (λ e. omega arith) (λ m lt e. apart (sym (same_row v.workers v.share_words part.number j (length (row_words part)) m room lt e))) (kept.rows j other there))
      (prefix_refl (all_received part.shared))
      (λ j other r there row. kept.received part.number j part other r at there row)

-- the store behind the own row is allowed
pub stores : (p : Problem) (n share_words slots id : ℕ) (me : Me Lemma View) (part : Part) (x : ℕ) → IsOne me.0 part → length (row_words part) < me.0.share_words
    → Allows (HoldsFor p n share_words) slots id me (row_start me.0.workers me.0.share_words part.number + length (row_words part)) (λ _. x) (λ _. Stores (step slots (row_start me.0.workers me.0.share_words part.number + length (row_words part)) x 0 none) me x)
stores p n share_words slots id me part x one room s h homes there small =
    let result = step_tells p n share_words s (set s.words (row_start me.0.workers me.0.share_words part.number + length (row_words part)) x) s.homes id me.0 part then h there one
    (λ parts at kept. (with_word part x, refl, kept_store p me.0 part x s.words parts room at kept, (refl, λ q is. ap (λ (z : Part). with_part me.0 (with_word z x)) (let same : part ≡ q = (let e = sym one.one ∙ is in cc) in same)))) in
    (result.0, keeps, tt, result.1, result.2)
  where
    then : View → Type 0
    then w = Stores (step slots (row_start me.0.workers me.0.share_words part.number + length (row_words part)) x 0 none) me x (w, me.1)

-- the words that were stored spell one more entry
more_shared : (part : Part) (e : Entry) → all_received (part.shared ++ e ∷ []) ≡ all_received part.shared ++ received_of e ∷ []
more_shared part e = map-append received_of part.shared (e ∷ [])

spelled_more : (part : Part) (e : Entry) → part.stored ≡ spelled_entry (received_of e) → spelled (all_received (part.shared ++ e ∷ [])) ≡ row_words part
spelled_more part e is =
    ap spelled (more_shared part e)
    ∙ spelled_append (all_received part.shared) (received_of e ∷ [])
    ∙ ap (λ l. spelled (all_received part.shared) ++ l) (append-nil (spelled_entry (received_of e)))
    ∙ ap (λ l. spelled (all_received part.shared) ++ l) (sym is)

same_ticket : (t u l m : ℕ) → l ≤ 32 → m ≤ 32 → 64 * t + l ≡ 64 * u + m → t ≡ u
same_ticket t u l m a b e = omega arith

module _ (p : Problem) (v : View) (part : Part) (e : Entry) (words : List ℕ) (parts : List Part)
    (may : MayShare v part e) (at : slice_get parts part.number ≡ Some part) (kept : IsKept p v.workers v.share_words words parts) where
  abbrev total : ℕ
  total = length (row_words part)

  within : part.number < v.workers
  within = let a = slice_get_within parts part.number part at in let b = kept.numbers in omega arith

  may_share : MayHappen p (core_of words parts) (Share part.number e)
  may_share = (
    (let a = length-map parts worker_of in let b = slice_get_within parts part.number part at in omega arith),
    subst (λ (x : Worker). Contains x.log e) (sym (worker_there words parts part.number part at)) may.listed,
  )

  core_shared : core_of (set words (2 + part.number) total) (set parts part.number (with_shared part e)) ≡ after (core_of words parts) (Share part.number e)
  core_shared =
      let zero_same = get_or-set_other words (2 + part.number) 0 total 0 (λ e. omega arith) in
      let one_same = get_or-set_other words (2 + part.number) 1 total 0 (λ e. omega arith) in
      rw (zero_same, one_same, map-set) (ap changed (sym (worker_there words parts part.number part at)))
    where
      changed : Worker → Core.State
      changed x = record { workers = set (map worker_of parts) part.number (has_shared x e); next = slice_index words 0; verdict = verdict_of (slice_index words 1) }

  own_shared : IsRow v.workers v.share_words (set words (2 + part.number) total) part.number (with_shared part e)
  own_shared =
      let old = kept.rows part.number part at in
      let spells = spelled_more part e may.spelled in
      let row_same : row_words (with_shared part e) ≡ row_words part = append-nil (spelled (all_received (part.shared ++ e ∷ []))) ∙ spells in
      record {
        count = get_or-set_same words (2 + part.number) total 0 (let a = within in let b = kept.size in omega arith) ∙ sym (ap length spells);
        fits = (let a = ap length row_same in let b = old.fits in omega arith);
        begins = λ m lt. rw row_same (get_or-set_other words (2 + part.number) (row_start v.workers v.share_words part.number + m) total 0 (λ q. let a = within in omega arith) ∙ old.begins m (let a = ap length row_same in omega arith));
        plain = λ h c. elim (Contains-push_cases (all_received part.shared) (received_of e) h (subst (λ l. Contains l h) (more_shared part e) c)) [
          | inl m ↦ old.plain h m
          | inr q ↦ subst (λ z. IsPlain z) q may.plain
        ];
        short = old.short;
        wide = old.wide;
      }

  kept_share : IsKept p v.workers v.share_words (set words (2 + part.number) total) (set parts part.number (with_shared part e))
  kept_share =
      kept_after p v.workers v.share_words words (set words (2 + part.number) total) parts part.number part (with_shared part e) at kept
      (length-set words (2 + part.number) total)
      (verdict_stays (slice_index words 1) (slice_index (set words (2 + part.number) total) 1) parts part.number part (with_shared part e) at refl refl (get_or-set_other words (2 + part.number) 1 total 0 (λ e. omega arith)) kept.verdict)
      (subst (λ t. IsReached p v.workers t) (sym core_shared) (reached_after p v.workers (core_of words parts) (Share part.number e) kept.reached may_share))
      own_shared
      (λ j other apart there. row_stays v.workers v.share_words words (2 + part.number) total j other (λ q. apart (omega arith)) (λ m lt q. let a = within in omega arith) (kept.rows j other there))
      (received_of e ∷ [], sym (more_shared part e))
      (λ j other r there row. kept.received part.number j part other r at there row)

  -- the stored words tell the entry of the log
  only_one : (f : Entry) → Contains part.log f → length f.lemma.lits ≤ 32 → part.stored ≡ spelled_entry (received_of f) → e ≡ f
  only_one f listed few spells =
      let tickets = (sound_after_events p v.workers (core_of words parts) kept.reached).tickets in
      let heads = ap (λ l. slice_index l 0) (sym may.spelled ∙ spells) in
      let ticket : e.ticket ≡ f.ticket = same_ticket e.ticket f.ticket (length e.lemma.lits) (length f.lemma.lits) may.plain.few few heads in
      let a = place_of part.log e may.listed in
      let b = place_of part.log f listed in
      let w = worker_there words parts part.number part at in
      let here = subst (λ (x : Worker). slice_get x.log a.0 ≡ Some e) (sym w) a.1 in
      let here2 = subst (λ (x : Worker). slice_get x.log b.0 ≡ Some f) (sym w) b.1 in
      let place = (tickets.once part.number part.number a.0 b.0 e f here here2 ticket).1 in
      same_Some e f (sym a.1 ∙ subst (λ m. slice_get part.log m ≡ Some f) (sym place) b.1)

-- the store of the own count is allowed
pub shares : (p : Problem) (n share_words slots id : ℕ) (me : Me Lemma View) (part : Part) (e : Entry) → MayShare me.0 part e
    → Allows (HoldsFor p n share_words) slots id me (2 + part.number) (λ _. length (row_words part)) (λ _. Shares (step slots (2 + part.number) (length (row_words part)) 0 none) me (length (row_words part)))
shares p n share_words slots id me part e may s h homes there small =
    let result = step_tells p n share_words s (set s.words (2 + part.number) (length (row_words part))) s.homes id me.0 part then h there may.one
    (λ parts at kept. (with_shared part e, refl, kept_share p me.0 part e s.words parts may at kept, told parts at kept)) in
    (result.0, keeps, tt, result.1, result.2)
  where
    then : View → Type 0
    then w = Shares (step slots (2 + part.number) (length (row_words part)) 0 none) me (length (row_words part)) (w, me.1)

    told : (parts : List Part) → slice_get parts part.number ≡ Some part → IsKept p me.0.workers me.0.share_words s.words parts → then (with_part me.0 (with_shared part e))
    told parts at kept = (
      refl,
      λ q f is listed few spells.
          let same : part ≡ q = (let z = sym may.one.one ∙ is in cc) in
          let entry : e ≡ f = only_one p me.0 part e s.words parts may at kept f (subst (λ (z : Part). Contains z.log f) (sym same) listed) few (subst (λ (z : Part). z.stored ≡ spelled_entry (received_of f)) (sym same) spells) in
          ap (λ (z : Part). with_part me.0 (with_shared z e)) same ∙ ap (λ z. with_part me.0 (with_shared q z)) entry,
    )
