-- The rule holds at the start, and what it says at the end.
use Rattle.std.proofs.Common.{◌≡◌, ℕ, zero, suc, ◌+◌, ◌*◌, ◌<◌, ◌≤◌, false, List, [], ◌∷◌, map, length, replicate, refl, ap, sym, ◌∙◌, subst, arith, Some, None, slice_get}
use Rattle.std.specs.Prelude.{slice_index, Contains}
use Rattle.std.proofs.lemmas.List.{length-replicate, length-map}
use Rattle.std.proofs.lemmas.Option.{slice_get_within, same_Some, none-some}
use Rattle.dg_base.proofs.Lists.{get_nothing, place_of, contains_place, contains_nothing}
use mathlib.Core.Option.{some, some-injective, some-ne-none}
use lib.ListN.{get_elem?}
use Rattle.atomic_table.specs.Table.{Final, Seen}
use Rattle.cnf_problem.specs.declared.problem.Lemma.{Lemma}
use Rattle.cnf_problem.specs.declared.problem.Problem.{Problem}
use Rattle.search_core.specs.declared.Verdict.TheVariants.{Safe, Unsafe}
use Rattle.search_core.specs.Core.{Worker, IsReached, worker, idle, start}
use Rattle.search_core.specs.Core
use Rattle.clause_exchange.specs.declared.rule.RowView.{RowView}
use Rattle.clause_exchange.specs.declared.rule.Part.{Part}
use Rattle.clause_exchange.specs.declared.rule.View.{View}
use Rattle.clause_exchange.specs.Rule.{blank_row, blank_part, blank_parts, worker_of, core_of, verdict_of, IsRow, IsReceived, IsKept, Has, AreShared, HoldsFor}
use Rattle.clause_exchange.specs.Closing.{IsClosed}
use Rattle.clause_exchange.proofs.Keeping.{worker_there}
use Rattle.clause_exchange.proofs.Stepping.{next_small}

map_same : {X Y : Type 0} (f : X → Y) (n : ℕ) (x : X) → map f (replicate n x) ≡ replicate n (f x)
map_same f zero x = refl
map_same f (suc n) x = ap (λ l. f x ∷ l) (map_same f n x)

pub there_same : {X : Type 0} (n k : ℕ) (x y : X) → slice_get (replicate n x) k ≡ Some y → y ≡ x
there_same zero k x y h = absurd (get_nothing k y h)
there_same (suc n) zero x y h = sym (same_Some x y h)
there_same (suc n) (suc k) x y h = there_same n k x y h

pub blank_length : (n from count : ℕ) → length (blank_parts n from count) ≡ count
blank_length n from zero = refl
blank_length n from (suc count) = ap suc (blank_length n (suc from) count)

-- what stands at a place
pub blank_there : (n from count i : ℕ) (x : Part) → slice_get (blank_parts n from count) i ≡ Some x → x ≡ blank_part n (from + i)
blank_there n from zero i x h = absurd (get_nothing i x h)
blank_there n from (suc count) zero x h = sym (same_Some (blank_part n from) x h) ∙ ap (blank_part n) (omega arith)
blank_there n from (suc count) (suc i) x h = blank_there n (suc from) count i x h ∙ ap (blank_part n) (omega arith)

blank_workers : (n from count : ℕ) → map worker_of (blank_parts n from count) ≡ replicate count (idle n)
blank_workers n from zero = refl
blank_workers n from (suc count) = ap (λ ws. worker_of (blank_part n from) ∷ ws) (blank_workers n (suc from) count) ∙ ap (λ w. w ∷ replicate count (idle n)) blank_worker
  where
    blank_worker : worker_of (blank_part n from) ≡ idle n
    blank_worker =
        ap (λ l. quiet l (map (λ (r : RowView). r.log_then) (replicate n blank_row))) (map_same (λ (r : RowView). length r.known) n blank_row)
        ∙ ap (λ l. quiet (replicate n 0) l) (map_same (λ (r : RowView). r.log_then) n blank_row)
      where
        quiet : List ℕ → List ℕ → Worker
        quiet may_read looked = record { log = []; shared = []; may_read = may_read; looked = looked }

module _ (p : Problem) (n share_words : ℕ) (v : View) (words : List ℕ)
    (problem : v.problem ≡ p) (workers : v.workers ≡ n) (rows : v.share_words ≡ share_words) (all : v.parts ≡ blank_parts n 0 n)
    (few : n ≤ 16) (size : length words ≡ 2 + n + n * share_words) (zeros : (i : ℕ) → ◌≡◌ {A = ℕ} (slice_index words i) 0) where
  -- the only view
  only : (id : ℕ) (u : View) → get_elem? (v ∷ []) id ≡ some u → (id ≡ 0) × (v ≡ u)
  only zero u h = (refl, some-injective v u h)
  only (suc id) u h = absurd (some-ne-none u (sym h))

  numbered : (k id : ℕ) (x : Part) → Has (v ∷ []) k id x → slice_get (blank_parts n 0 n) k ≡ Some x
  numbered k id x h =
      let o = only id h.view h.there in
      let c = place_of (blank_parts n 0 n) x (subst (λ ps. Contains ps x) (ap (λ (u : View). u.parts) (sym o.1) ∙ all) h.listed) in
      let b = blank_there n 0 n c.0 x c.1 in
      let e : c.0 ≡ k = (let q = ap (λ (z : Part). z.number) b in let i = h.is in omega arith) in
      subst (λ m. slice_get (blank_parts n 0 n) m ≡ Some x) e c.1

  shared_start : v.spent ≡ false → AreShared p n share_words (v ∷ []) (blank_parts n 0 n)
  shared_start live = record {
    told = λ id u at alive. subst (λ (x : View). (x.problem ≡ p) × (x.workers ≡ n) × (x.share_words ≡ share_words)) ((only id u at).1) (problem, workers, rows);
    same = numbered;
    once = λ k a b x y ha hb. (only a ha.view ha.there).0 ∙ sym ((only b hb.view hb.there).0);
    each = λ k x at. (0, record { view = v; there = refl; live = live; listed = subst (λ ps. Contains ps x) (sym all) (contains_place (blank_parts n 0 n) k x at); is = (let e = ap (λ (z : Part). z.number) (blank_there n 0 n k x at) in omega arith) });
  }

  core_start : core_of words (blank_parts n 0 n) ≡ start n
  core_start = rw (zeros 0, zeros 1) (ap (λ ws. begun ws) (blank_workers n 0 n))
    where
      begun : List Worker → Core.State
      begun ws = record { workers = ws; next = 0; verdict = None }

  kept_start : IsKept p n share_words words (blank_parts n 0 n)
  kept_start = record {
    size = size;
    numbers = blank_length n 0 n;
    few = few;
    verdict = record {
      small = (let e = zeros 1 in omega arith);
      seen = λ k part v at is. absurd (let e = ap (λ (z : Part). z.seen) (sym (blank_there n 0 n k part at)) in none-some v (e ∙ is));
      offered = λ k part v at is. absurd (contains_nothing v (subst (λ vs. Contains vs v) (ap (λ (z : Part). z.offers) (blank_there n 0 n k part at)) is));
      unsafe = λ two. absurd (let e = zeros 1 in omega arith);
    };
    reached = record { events = []; allowed = tt; reached = sym core_start };
    rows = λ k part at. subst (λ (x : Part). IsRow n share_words words k x) (sym (blank_there n 0 n k part at)) (record {
      count = zeros (2 + k);
      fits = omega arith;
      begins = λ m lt. absurd (omega arith);
      plain = λ h c. absurd (contains_nothing h c);
      short = omega arith;
      wide = length-replicate n blank_row;
    });
    received = λ k j part other r at there row.
        let e : r ≡ blank_row = there_same n j blank_row r (subst (λ (x : Part). slice_get x.rows j ≡ Some r) (blank_there n 0 n k part at) row) in
        subst (λ z. IsReceived z other) (sym e) (record { known = (_, refl); loaded = omega arith });
  }

  pub holds_start : v.spent ≡ false → (homes : List (mathlib.Core.Option.Option Lemma)) → HoldsFor p n share_words (record { words = words; homes = homes; views = v ∷ [] })
  holds_start live homes = record { parts = blank_parts n 0 n; views = shared_start live; kept = kept_start }

none_zero : (word : ℕ) → verdict_of word ≡ None → word ≡ 0
none_zero zero e = refl
none_zero (suc zero) e = absurd (none-some Safe (sym e))
none_zero (suc (suc n)) e = absurd (none-some Unsafe (sym e))

unsafe_two : (word : ℕ) → word < 3 → verdict_of word ≡ Some Unsafe → word ≡ 2
unsafe_two zero lt e = absurd (none-some Unsafe e)
unsafe_two (suc zero) lt e = absurd (let q : Safe ≡ Unsafe = same_Some Safe Unsafe e in cc)
unsafe_two (suc (suc n)) lt e = omega arith

-- at the end
pub closed_with : (p : Problem) (n share_words id : ℕ) (v : View) (words : List ℕ) (slots : List Lemma) → v.spent ≡ false → Final (Seen (HoldsFor p n share_words) id v) words slots
    → (v.workers ≡ n) × IsClosed v (slice_index words 0) (verdict_of (slice_index words 1)) × (slice_index words 1 < 3) × (slice_index words 0 ≤ 16000016)
closed_with p n share_words id v words slots live (s, seen, same_words, homes, values) =
    let r = seen.0 in
    let t = r.views.told id v seen.1 live in
    let has : (x : Part) → Contains v.parts x → Has s.views x.number id x = (λ x c. record { view = v; there = seen.1; live = live; listed = c; is = refl }) in
    let at : (x : Part) → Contains v.parts x → slice_get r.parts x.number ≡ Some x = (λ x c. r.views.same x.number id x (has x c)) in (
      t.1,
      record {
        state = record {
          core = core_of s.words r.parts;
          reached = subst (λ q. IsReached q v.workers (core_of s.words r.parts)) (sym t.0) (subst (λ m. IsReached p m (core_of s.words r.parts)) (sym t.1) r.kept.reached);
          ticket = ap (λ ws. slice_index ws 0) same_words;
          found = ap (λ ws. verdict_of (slice_index ws 1)) same_words;
          count = length-map r.parts worker_of ∙ r.kept.numbers ∙ sym t.1;
          shown = λ x c. ((let a = slice_get_within r.parts x.number x (at x c) in let b = r.kept.numbers in let e = t.1 in omega arith), worker_there s.words r.parts x.number x (at x c));
          one = λ a b ca cb e. same_Some a b (sym (at a ca) ∙ subst (λ m. slice_get r.parts m ≡ Some b) (sym e) (at b cb));
        };
        seen = λ x u c is. ap (λ ws. verdict_of (slice_index ws 1)) (sym same_words) ∙ r.kept.verdict.seen x.number x u (at x c) is;
        offered = λ x u c is none. r.kept.verdict.offered x.number x u (at x c) is (none_zero (slice_index s.words 1) (ap (λ ws. verdict_of (slice_index ws 1)) same_words ∙ none));
        unsafe = λ all stands.
            let two = unsafe_two (slice_index s.words 1) r.kept.verdict.small (ap (λ ws. verdict_of (slice_index ws 1)) same_words ∙ stands) in
            let f = r.kept.verdict.unsafe two in
            let mine = all f.0 (let a = slice_get_within r.parts f.0 f.1 f.2 in let b = r.kept.numbers in let e = t.1 in omega arith) in
            let same : f.1 ≡ mine.0 = same_Some f.1 mine.0 (sym f.2 ∙ subst (λ m. slice_get r.parts m ≡ Some mine.0) mine.2 (at mine.0 mine.1)) in
            (mine.0, mine.1, subst (λ (z : Part). Contains z.offers Unsafe) same f.3);
        received = λ a b q ca cb row. r.kept.received a.number b.number a b q (at a ca) (at b cb) row;
      },
      subst (λ ws. slice_index ws 1 < 3) same_words r.kept.verdict.small,
      subst (λ ws. slice_index ws 0 ≤ 16000016) same_words (next_small p n share_words s.words r.parts r.kept),
    )

pub all_zero : (n i : ℕ) → ◌≡◌ {A = ℕ} (slice_index (replicate n 0) i) 0
all_zero zero i = refl
all_zero (suc n) zero = refl
all_zero (suc n) (suc i) = all_zero n i

pub index_of : (words : List ℕ) (i n : ℕ) → get_elem? words i ≡ some n → slice_index words i ≡ n
index_of [] i n h = absurd (some-ne-none n (sym h))
index_of (w ∷ ws) zero n h = some-injective w n h
index_of (w ∷ ws) (suc i) n h = index_of ws i n h
