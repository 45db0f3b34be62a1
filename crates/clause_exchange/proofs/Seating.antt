-- The counters of a new seat, of the two halves of a seat, and of two seats that are joined.
use Rattle.std.proofs.Common.{◌≡◌, ℕ, zero, suc, ◌+◌, ◌<◌, ◌≤◌, ◌⊎◌, inl, inr, Bool, true, false, not, List, [], ◌++◌, get_or, refl, ap, sym, ◌∙◌, subst, arith}
use Rattle.std.specs.Prelude.{Contains, nat_lt, slice_index}
use Rattle.std.proofs.lemmas.Bool.{cases_lt, lt-ltb, le-ltb}
use Rattle.std.proofs.lemmas.Bool.Decides.{nat_tests}
use Rattle.std.proofs.lemmas.List.{length-replicate}
use Rattle.std.proofs.lemmas.List.Elements.{Contains-append_left, Contains-append_right, Contains-append_cases}
use Rattle.std.proofs.lemmas.Option.{slice_get_within}
use Rattle.dg_base.proofs.Lists.{contains_from_filter, place_of, contains_head, contains_tail}
use Rattle.cnf_problem.specs.declared.problem.Problem.{Problem}
use Rattle.cnf_problem.proofs.ChainLaws.{contains_filter}
use Rattle.clause_exchange.specs.declared.rule.RowView.{RowView}
use Rattle.clause_exchange.specs.declared.rule.Part.{Part}
use Rattle.clause_exchange.specs.declared.rule.View.{View}
use Rattle.clause_exchange.specs.declared.counters.Counters.{Counters}
use Rattle.clause_exchange.specs.Rule.{blank_row, blank_part, blank_parts, new_view}
use Rattle.clause_exchange.specs.Splits.{with_parts, below, from_on}
use Rattle.clause_exchange.specs.Counting.{Owns, AreNew, CountsAs, TakesOver}
use Rattle.clause_exchange.specs.Seats.{IsTied, IsTiedPart, IsTiedRow, IsBlank, HasNumber, cell}
use Rattle.clause_exchange.proofs.Opening.{there_same, blank_there, blank_length}

pub blank_listed : (n from count i : ℕ) → i < count → Contains (blank_parts n from count) (blank_part n (from + i))
blank_listed n from zero i lt = absurd (omega arith)
blank_listed n from (suc count) zero lt = subst (λ m. Contains (blank_parts n from (suc count)) (blank_part n m)) (let e : from ≡ from + 0 = omega arith in e) (contains_head (blank_part n from) (blank_parts n (suc from) count))
blank_listed n from (suc count) (suc i) lt =
    contains_tail (blank_part n from) (blank_part n (from + suc i)) (blank_parts n (suc from) count)
    (subst (λ m. Contains (blank_parts n (suc from) count) (blank_part n m)) (let e : suc from + i ≡ from + suc i = omega arith in e) (blank_listed n (suc from) count i (omega arith)))

-- the seat of all numbers
pub tied_new : (p : Problem) (n share_words : ℕ) (c : Counters) → 0 < n → n ≤ 16 → share_words ≤ 1048576 → AreNew n c → IsTied (new_view p n share_words) 0 c
tied_new p n share_words c some few narrow new = record {
  live = refl;
  few = few;
  narrow = narrow;
  among = new.first 0 some;
  owned = λ k own. record { part = blank_part n k; listed = subst (λ m. Contains (blank_parts n 0 n) (blank_part n m)) (let e : 0 + k ≡ k = omega arith in e) (blank_listed n 0 n k (new.only k own)); is = refl };
  parts = λ part h.
      let at = place_of (blank_parts n 0 n) part h in
      let is = blank_there n 0 n at.0 part at.1 in
      let inside = slice_get_within (blank_parts n 0 n) at.0 part at.1 in
      let size = blank_length n 0 n in
      subst (λ x. IsTiedPart n share_words c x) (sym is) (blank at.0 (omega arith));
}
  where
    blank_row_tied : (i : ℕ) (r : RowView) → r ≡ blank_row → IsTiedRow share_words (slice_index c.looked i) (slice_index c.loaded i) r
    blank_row_tied i r e = subst (λ x. IsTiedRow share_words (slice_index c.looked i) (slice_index c.loaded i) x) (sym e) (record {
      looked_is = new.looked i;
      fits = (let z = new.looked i in omega arith);
      loaded_is = new.loaded i;
      whole = record { read = []; unread = []; all = refl; place = refl };
    })

    blank : (k : ℕ) → k < n → IsTiedPart n share_words c (blank_part n (0 + k))
    blank k lt = record {
      within = omega arith;
      own = new.first (0 + k) (omega arith);
      idle = refl;
      written_is = new.written (0 + k);
      fits = omega arith;
      wide = length-replicate n blank_row;
      blank = λ r at. subst IsBlank (sym (there_same n (0 + k) blank_row r at)) (record { known = refl; loaded = refl });
      rows = λ j r at. blank_row_tied (cell (0 + k) j) r (there_same n j blank_row r at);
    }

-- some of the numbers, with the same counts
module _ (v : View) (number : ℕ) (c : Counters) (tied : IsTied v number c) where
  tied_some : (parts : List Part) (least : ℕ) (d : Counters) → d.written ≡ c.written → d.looked ≡ c.looked → d.loaded ≡ c.loaded
      → ((x : Part) → Contains parts x → Contains v.parts x × Owns d x.number) → ((k : ℕ) → Owns d k → HasNumber (with_parts v parts) k) → Owns d least → IsTied (with_parts v parts) least d
  tied_some parts least d writes looks loads sub owned among = record {
    live = tied.live;
    few = tied.few;
    narrow = tied.narrow;
    among = among;
    owned = owned;
    parts = λ x h. some x (sub x h).1 (tied.parts x (sub x h).0);
  }
    where
      some : (x : Part) → Owns d x.number → IsTiedPart v.workers v.share_words c x → IsTiedPart v.workers v.share_words d x
      some x own h = record {
        within = h.within;
        own = own;
        idle = h.idle;
        written_is = ap (λ ws. slice_index ws x.number) writes ∙ h.written_is;
        fits = h.fits;
        wide = h.wide;
        blank = h.blank;
        rows = λ j r at. subst (λ (ls : List ℕ). IsTiedRow v.share_words (slice_index ls (cell x.number j)) (slice_index d.loaded (cell x.number j)) r) (sym looks)
            (subst (λ (ls : List ℕ). IsTiedRow v.share_words (slice_index c.looked (cell x.number j)) (slice_index ls (cell x.number j)) r) (sym loads) (h.rows j r at));
      }

  -- a number that the counters have is below 16
  pub owns_few : (k : ℕ) → Owns c k → k < 16
  owns_few k own =
      let h = tied.owned k own in
      let w = (tied.parts h.part h.listed).within in
      let e = h.is in
      let few = tied.few in
      omega arith

  pub tied_below : (at least : ℕ) (d : Counters) → d.written ≡ c.written → d.looked ≡ c.looked → d.loaded ≡ c.loaded
      → ((k : ℕ) → k < at → get_or d.owns k false ≡ get_or c.owns k false) → ((k : ℕ) → at ≤ k → k < 16 → get_or d.owns k false ≡ false) → ((k : ℕ) → 16 ≤ k → get_or d.owns k false ≡ get_or c.owns k false)
      → Owns d least → IsTied (with_parts v (below at v.parts)) least d
  tied_below at least d writes looks loads kept gone behind among = tied_some (below at v.parts) least d writes looks loads
      (λ x h.
      let f = contains_from_filter (λ (q : Part). nat_lt q.number at) v.parts x h in
      let t = f.1 in
      (f.0, kept x.number (grind (arith, nat_tests)) ∙ (tied.parts x f.0).own))
      (λ k own. elim (cases_lt k at) [
        | inl lt ↦
            let h = tied.owned k (sym (kept k lt) ∙ own) in
            record { part = h.part; listed = contains_filter (λ (q : Part). nat_lt q.number at) v.parts h.part h.listed (lt-ltb h.part.number at (let e = h.is in omega arith)); is = h.is }
        | inr ge ↦ elim (cases_lt k 16) [
          | inl few ↦ absurd (let e : false ≡ true = sym (gone k ge few) ∙ own in cc)
          | inr far ↦ absurd (let few = owns_few k (sym (behind k far) ∙ own) in omega arith)
        ]
      ])
      among

  pub tied_from : (at least : ℕ) (d : Counters) → d.written ≡ c.written → d.looked ≡ c.looked → d.loaded ≡ c.loaded
      → ((k : ℕ) → k < at → get_or d.owns k false ≡ false) → ((k : ℕ) → at ≤ k → get_or d.owns k false ≡ get_or c.owns k false)
      → Owns d least → IsTied (with_parts v (from_on at v.parts)) least d
  tied_from at least d writes looks loads gone kept among = tied_some (from_on at v.parts) least d writes looks loads
      (λ x h.
      let f = contains_from_filter (λ (q : Part). not (nat_lt q.number at)) v.parts x h in
      let t = f.1 in
      (f.0, kept x.number (grind (arith, nat_tests)) ∙ (tied.parts x f.0).own))
      (λ k own. elim (cases_lt k at) [
        | inl lt ↦ absurd (let e : false ≡ true = sym (gone k lt) ∙ own in cc)
        | inr ge ↦
            let h = tied.owned k (sym (kept k ge) ∙ own) in
            record { part = h.part; listed = contains_filter (λ (q : Part). not (nat_lt q.number at)) v.parts h.part h.listed (ap not (le-ltb h.part.number at (let e = h.is in omega arith))); is = h.is }
      ])
      among

-- the same counts of one number
counted_as : (n share_words : ℕ) (c d : Counters) (part : Part) → n ≤ 16 → CountsAs c d part.number → Owns d part.number → IsTiedPart n share_words c part → IsTiedPart n share_words d part
counted_as n share_words c d part few counts own h = record {
  within = h.within;
  own = own;
  idle = h.idle;
  written_is = counts.written ∙ h.written_is;
  fits = h.fits;
  wide = h.wide;
  blank = h.blank;
  rows = λ j r at.
      let inside = slice_get_within part.rows j r at in
      let wide = h.wide in
      let within = h.within in
      let looks = counts.looked (cell part.number j) (omega arith) (omega arith) in
      let loads = counts.loaded (cell part.number j) (omega arith) (omega arith) in
      subst (λ m. IsTiedRow share_words m (slice_index d.loaded (cell part.number j)) r) (sym looks)
      (subst (λ m. IsTiedRow share_words (slice_index c.looked (cell part.number j)) m r) (sym loads) (h.rows j r at));
}

tested : (b : Bool) → (b ≡ true) ⊎ (b ≡ false)
tested true = inl refl
tested false = inr refl

-- both seats' numbers
pub tied_both : (v w : View) (k m : ℕ) (c d e : Counters) → IsTied v k c → IsTied w m d → w.workers ≡ v.workers → w.share_words ≡ v.share_words → TakesOver c d e
    → ((a b : Part) → Contains (v.parts ++ w.parts) a → Contains (v.parts ++ w.parts) b → a.number ≡ b.number → a ≡ b) → IsTied (with_parts v (v.parts ++ w.parts)) k e
tied_both v w k m c d e tv tw workers share_words takes agree = record {
  live = tv.live;
  few = tv.few;
  narrow = tv.narrow;
  among = takes.kept k tv.among;
  owned = λ i own. elim (takes.only i own) [
    | inl old ↦ let h = tv.owned i old in record { part = h.part; listed = left h.part h.listed; is = h.is }
    | inr new ↦ let h = tw.owned i new in record { part = h.part; listed = right h.part h.listed; is = h.is }
  ];
  parts = λ x h. elim (Contains-append_cases v.parts w.parts x h) [
    | inl mine ↦ ours x mine
    | inr his ↦ elim (tested (get_or c.owns x.number false)) [
      | inl own ↦
          let a = tv.owned x.number own in
          let same = agree a.part x (left a.part a.listed) h a.is in
          subst (λ z. IsTiedPart v.workers v.share_words e z) same (ours a.part a.listed)
      | inr other ↦ theirs x his other
    ]
  ];
}
  where
    left : (x : Part) → Contains v.parts x → Contains (v.parts ++ w.parts) x
    left x h = Contains-append_left v.parts w.parts x h

    right : (x : Part) → Contains w.parts x → Contains (v.parts ++ w.parts) x
    right x h = Contains-append_right v.parts w.parts x h

    ours : (x : Part) → Contains v.parts x → IsTiedPart v.workers v.share_words e x
    ours x h =
        let old = tv.parts x h in
        counted_as v.workers v.share_words c e x tv.few (takes.as_old x.number old.own) (takes.kept x.number old.own) old

    theirs : (x : Part) → Contains w.parts x → get_or c.owns x.number false ≡ false → IsTiedPart v.workers v.share_words e x
    theirs x h none =
        let old : IsTiedPart v.workers v.share_words d x = subst (λ n. IsTiedPart n v.share_words d x) workers (subst (λ n. IsTiedPart w.workers n d x) share_words (tw.parts x h)) in
        counted_as v.workers v.share_words d e x tv.few (takes.as_other x.number (let a = old.within in let b = tv.few in omega arith) none) (takes.added x.number old.own) old
