-- The counters of a seat go on having what its view keeps.
use Rattle.std.proofs.Common.{◌≡◌, ◌≢◌, ℕ, ◌+◌, ◌-◌, ◌<◌, ◌≤◌, inl, inr, Bool, true, false, List, [], ◌∷◌, ◌++◌, length, set, get_or, refl, ap, sym, ◌∙◌, subst, arith, Option, Some, slice_get}
use Rattle.std.specs.Prelude.{Contains, nat_lt, if◌then◌else◌, slice_index}
use Rattle.std.proofs.lemmas.Bool.{lt-ltb, le-ltb}
use Rattle.std.proofs.lemmas.List.{length-append, length-set, append_assoc, append-nil, map-append, get_or-set_same}
use Rattle.std.proofs.lemmas.Option.{get_or_from_slice_get}
use Rattle.dg_base.proofs.Lists.{get_set_cases, get_there, contains_head, contains_nothing, contains_cases}
use mathlib.Core.List.{IsPrefix}
use Rattle.search_core.specs.declared.Entry.{Entry}
use Rattle.search_core.specs.declared.Verdict.{Verdict}
use Rattle.clause_exchange.specs.declared.rule.Received.{Received}
use Rattle.clause_exchange.specs.declared.rule.RowView.{RowView}
use Rattle.clause_exchange.specs.declared.rule.Part.{Part}
use Rattle.clause_exchange.specs.declared.rule.View.{View}
use Rattle.clause_exchange.specs.declared.counters.Counters.{Counters}
use Rattle.clause_exchange.specs.Spelling.{spelled_entry, spelled, entry_size, received_of, all_received}
use Rattle.clause_exchange.specs.Steps.{mine, row_of, with_part, with_shared, with_row, with_loaded, looked_at, IsAt}
use Rattle.clause_exchange.specs.Rule.{blank_row, row_words}
use Rattle.clause_exchange.specs.Seats.{IsTied, IsTiedPart, IsTiedRow, IsWhole, cell, written}
use Rattle.clause_exchange.specs.Calls.{HasOne}
use Rattle.clause_exchange.proofs.Listed.{spelled_append}
use Rattle.clause_exchange.proofs.Words.{lits_size}

-- the entry that begins behind so many words
abbrev pub next_of : ℕ → List Received → Received
next_of m [] = record { ticket = 0; lits = [] }
next_of m (h ∷ hs) = if nat_lt m (length (spelled_entry h)) then h else next_of (m - length (spelled_entry h)) hs

-- a part with another log, other verdicts and other offers
abbrev pub quiet : Part → List Entry → Option Verdict → List Verdict → ℕ → Part
quiet part log seen offers loads = record { number = part.number; log = log; shared = part.shared; stored = part.stored; rows = part.rows; seen = seen; offers = offers; loads = loads }

-- the words of the row after one more entry is shared
words_after : (part : Part) (e : Entry) → written (with_shared part e) ≡ written part + entry_size (length e.lemma.lits)
words_after part e =
    let a = ap (λ hs. length (spelled hs)) (map-append received_of part.shared (e ∷ [])) in
    let b = ap length (spelled_append (all_received part.shared) (received_of e ∷ [])) in
    let d = length-append (spelled (all_received part.shared)) (spelled (received_of e ∷ [])) in
    let f = length-append (spelled_entry (received_of e)) [] in
    let g = lits_size e.lemma.lits in
    omega arith

module _ (v : View) (number : ℕ) (c : Counters) (tied : IsTied v number c) (one : HasOne v) where
  only_part : (part : Part) → Contains v.parts part → part ≡ mine v
  only_part part h = elim (contains_cases (mine v) part [] (subst (λ ps. Contains ps part) one h)) [ inl e ↦ e | inr none ↦ absurd (contains_nothing part none) ]

  -- the seat's number is that of its one part
  pub one_number : number ≡ (mine v).number
  one_number =
      let h = tied.owned number tied.among in
      sym h.is ∙ ap (λ (q : Part). q.number) (only_part h.part h.listed)

  pub one_tied : IsTiedPart v.workers v.share_words c (mine v)
  one_tied = tied.parts (mine v) (subst (λ ps. Contains ps (mine v)) (sym one) (contains_head (mine v) []))

  -- the words of the own row
  pub words_tied : slice_index c.written number ≡ length (row_words (mine v))
  words_tied =
      let h = one_tied in
      ap (λ k. slice_index c.written k) one_number ∙ (h.written_is ∙ (sym (ap length (append-nil (spelled (all_received (mine v).shared)))) ∙ ap (λ ws. length (spelled (all_received (mine v).shared) ++ ws)) (sym h.idle)))

  -- another part of the same number, with other counts
  pub tied_with : (d : Counters) (q : Part) → q.number ≡ (mine v).number → d.owns ≡ c.owns → IsTiedPart v.workers v.share_words d q → IsTied (with_part v q) number d
  tied_with d q same owns now = record {
    live = tied.live;
    few = tied.few;
    narrow = tied.narrow;
    among = subst (λ (os : List Bool). get_or os number false ≡ true) (sym owns) tied.among;
    owned = λ k own.
        let h = tied.owned k (subst (λ (os : List Bool). get_or os k false ≡ true) owns own) in
        record { part = q; listed = contains_head q []; is = same ∙ sym (ap (λ (x : Part). x.number) (only_part h.part h.listed)) ∙ h.is };
    parts = λ part h. elim (contains_cases q part [] h) [
      | inl e ↦ subst (λ x. IsTiedPart v.workers v.share_words d x) (sym e) now
      | inr none ↦ absurd (contains_nothing part none)
    ];
  }

  -- a part that differs in its log, its verdicts and its offers alone
  pub tied_same : (log : List Entry) (seen : Option Verdict) (offers : List Verdict) (loads : ℕ) → IsTied (with_part v (quiet (mine v) log seen offers loads)) number c
  tied_same log seen offers loads =
      let h = one_tied in
      tied_with c (quiet (mine v) log seen offers loads) refl refl (record { within = h.within; own = h.own; idle = h.idle; written_is = h.written_is; fits = h.fits; wide = h.wide; blank = h.blank; rows = h.rows })

  -- one more entry is shared
  pub tied_shared : (d : Counters) (e : Entry) → d.owns ≡ c.owns → d.looked ≡ c.looked → d.loaded ≡ c.loaded → d.written ≡ set c.written number (slice_index c.written number + entry_size (length e.lemma.lits)) → length c.written ≡ 16
      → slice_index c.written number + entry_size (length e.lemma.lits) ≤ v.share_words → IsTied (with_part v (with_shared (mine v) e)) number d
  tied_shared d e owns looked loaded writes long room =
      let h = one_tied in
      let here = one_number in
      let size = words_after (mine v) e in
      tied_with d (with_shared (mine v) e) refl owns (record {
        within = h.within;
        own = subst (λ (os : List Bool). get_or os (mine v).number false ≡ true) (sym owns) h.own;
        idle = refl;
        written_is = (let w = wrote (mine v).number (sym here) in let old = h.written_is in omega arith);
        fits = (let old = h.written_is in let m = ap (λ k. slice_index c.written k) here in omega arith);
        wide = h.wide;
        blank = h.blank;
        rows = λ j r at. subst (λ (ls : List ℕ). IsTiedRow v.share_words (slice_index ls (cell (mine v).number j)) (slice_index d.loaded (cell (mine v).number j)) r) (sym looked)
            (subst (λ (ls : List ℕ). IsTiedRow v.share_words (slice_index c.looked (cell (mine v).number j)) (slice_index ls (cell (mine v).number j)) r) (sym loaded) (h.rows j r at));
      })
    where
      wrote : (k : ℕ) → k ≡ number → slice_index d.written k ≡ slice_index c.written k + entry_size (length e.lemma.lits)
      wrote k e2 = rw (e2, writes) (get_or-set_same c.written number (slice_index c.written number + entry_size (length e.lemma.lits)) 0 (let few = tied.few in let w = one_tied.within in let h = one_number in omega arith))

  -- a row of the one part
  pub row_there : (row : ℕ) → row < v.workers → slice_get (mine v).rows row ≡ Some (row_of (mine v) row)
  row_there row inside =
      let r = get_there (mine v).rows row (let w = one_tied.wide in omega arith) in
      r.1 ∙ ap Some (sym (get_or_from_slice_get (mine v).rows row r.0 blank_row r.1))

  -- what the counters have of a row
  pub row_tied : (row : ℕ) → row < v.workers → IsTiedRow v.share_words (slice_index c.looked (cell number row)) (slice_index c.loaded (cell number row)) (row_of (mine v) row)
  row_tied row inside =
      let place : cell (mine v).number row ≡ cell number row = (let n = one_number in omega arith) in
      subst (λ k. IsTiedRow v.share_words (slice_index c.looked k) (slice_index c.loaded k) (row_of (mine v) row)) place (one_tied.rows row (row_of (mine v) row) (row_there row inside))

  -- another row, with other counts of it
  pub tied_row : (d : Counters) (row : ℕ) (q : RowView) → d.owns ≡ c.owns → d.written ≡ c.written → row < v.workers → row ≢ (mine v).number
      → ((i : ℕ) → i ≢ cell number row → (slice_index d.looked i ≡ slice_index c.looked i) × (slice_index d.loaded i ≡ slice_index c.loaded i))
      → IsTiedRow v.share_words (slice_index d.looked (cell number row)) (slice_index d.loaded (cell number row)) q → IsTied (with_part v (with_row (mine v) row q)) number d
  tied_row d row q owns writes inside apart others now =
      let h = one_tied in
      let here = one_number in
      tied_with d (with_row (mine v) row q) refl owns (record {
        within = h.within;
        own = subst (λ (os : List Bool). get_or os (mine v).number false ≡ true) (sym owns) h.own;
        idle = h.idle;
        written_is = ap (λ ws. slice_index ws (mine v).number) writes ∙ h.written_is;
        fits = h.fits;
        wide = length-set (mine v).rows row q ∙ h.wide;
        blank = λ x at. elim (get_set_cases (mine v).rows row (mine v).number q x at) [ inl e ↦ absurd (apart (sym e.0)) | inr e ↦ h.blank x e.1 ];
        rows = λ j x at. elim (get_set_cases (mine v).rows row j q x at) [
          | inl e ↦
              let place : cell number row ≡ cell (mine v).number j = (let n = here in let m = e.0 in omega arith) in
              subst (λ z. IsTiedRow v.share_words (slice_index d.looked (cell (mine v).number j)) (slice_index d.loaded (cell (mine v).number j)) z) (sym e.1)
              (subst (λ k. IsTiedRow v.share_words (slice_index d.looked k) (slice_index d.loaded k) q) place now)
          | inr e ↦
              let o = others (cell (mine v).number j) (λ same. e.0 (let n = here in omega arith)) in
              subst (λ k. IsTiedRow v.share_words k (slice_index d.loaded (cell (mine v).number j)) x) (sym o.0)
              (subst (λ k. IsTiedRow v.share_words (slice_index c.looked (cell (mine v).number j)) k x) (sym o.1) (h.rows j x e.1))
        ];
      })

-- what was read still ends with an entry after a look
pub whole_looked : (r : RowView) (known : List Received) (log_then : ℕ) → IsWhole r → IsPrefix r.known known → IsWhole (looked_at r known log_then)
whole_looked r known log_then w (more, e) = record {
  read = w.read;
  unread = w.unread ++ more;
  all = sym e ∙ (ap (λ l. l ++ more) w.all ∙ append_assoc w.read w.unread more);
  place = w.place;
}

-- behind the first entries comes the next
next_behind : (read : List Received) (h : Received) (later : List Received) → next_of (length (spelled read)) (read ++ h ∷ later) ≡ h
next_behind [] h later = rw (lt-ltb 0 (length (spelled_entry h)) (omega arith)) refl
next_behind (b ∷ bs) h later =
    let n = length-append (spelled_entry b) (spelled bs) in
    rw (le-ltb (length (spelled (b ∷ bs))) (length (spelled_entry b)) (omega arith))
    (ap (λ m. next_of m (bs ++ h ∷ later)) (let e : length (spelled (b ∷ bs)) - length (spelled_entry b) ≡ length (spelled bs) = omega arith in e) ∙ next_behind bs h later)

-- where not all is read there is a next entry
pub next_at : (r : RowView) (loaded looked : ℕ) → IsWhole r → loaded ≡ r.loaded → looked ≡ length (spelled r.known) → loaded ≢ looked → IsAt r (next_of loaded r.known) 0
next_at r loaded looked w same all apart = by_rest w.unread w.all
  where
    by_rest : (unread : List Received) → r.known ≡ w.read ++ unread → IsAt r (next_of loaded r.known) 0
    by_rest [] e = absurd (apart (same ∙ (w.place ∙ (ap (λ l. length (spelled l)) (sym (append-nil w.read)) ∙ (ap (λ l. length (spelled l)) (sym e) ∙ sym all)))))
    by_rest (h ∷ later) e =
        let is : next_of loaded r.known ≡ h = ap (λ m. next_of m r.known) (same ∙ w.place) ∙ (ap (λ l. next_of (length (spelled w.read)) l) e ∙ next_behind w.read h later) in
        subst (λ z. IsAt r z 0) (sym is) (record { before = w.read; later = later; all = e; place = (let p = w.place in omega arith) })

-- what was read ends with the next entry after that is read
pub whole_read : (r : RowView) (h : Received) (loaded : ℕ) → IsAt r h 0 → loaded ≡ r.loaded + entry_size (length h.lits) → IsWhole (with_loaded r loaded)
whole_read r h loaded at is = record {
  read = at.before ++ h ∷ [];
  unread = at.later;
  all = at.all ∙ sym (append_assoc at.before (h ∷ []) at.later);
  place = (
      let p = at.place in
      let a = ap length (spelled_append at.before (h ∷ [])) in
      let b = length-append (spelled at.before) (spelled (h ∷ [])) in
      let d = length-append (spelled_entry h) [] in
      let e = lits_size h.lits in
      omega arith
      );
}
