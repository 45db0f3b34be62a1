-- Entries placed at their tickets, one after another.
use Rattle.std.proofs.Common.{◌≡◌, ◌≢◌, ℕ, ◌+◌, ◌<◌, ◌≤◌, ◌⊎◌, inl, inr, List, [], ◌∷◌, ◌++◌, length, sum_by, set, ap, sym, ◌∙◌, subst, arith}
use Rattle.std.specs.Prelude.{Some, slice_get}
use Rattle.std.proofs.lemmas.Option.{slice_get_within, get_or_from_slice_get}
use Rattle.std.proofs.Common.{get_or}
use Rattle.dg_base.proofs.Lists.{one_answer, get_there, get_set_same, get_set_other, get_push_cases}
use Rattle.lemma_log.specs.declared.Entry.{Entry}
use Rattle.lemma_log.specs.declared.merging.Spot.{Spot}
use Rattle.lemma_log.specs.Merging.{IsLogged, AreOnce, ArePlaced, AreSpots, IsCopy, IsMerged}

up_to : (m k : ℕ) → m < k + 1 → (m < k) ⊎ (m ≡ k)
up_to m k lt = grind arith

in_rows : (j i m : ℕ) → (j < i + 1) ⊎ ((j ≡ i + 1) × (m < 0)) → (j < i) ⊎ (j ≡ i)
in_rows j i m before = elim before [ inl lt ↦ up_to j i lt | inr r ↦ absurd (omega (arith, r.1)) ]

-- at first nothing is to be placed
pub nothing_placed : (logs : List (List Entry)) (spots : List Spot) → ArePlaced logs 0 0 spots
nothing_placed logs spots j m e is before = absurd (elim before [ inl lt ↦ omega arith | inr r ↦ omega (arith, r.1) ])

-- an entry is placed, and those before it stay
pub place_next : (logs : List (List Entry)) (log : List Entry) (i k : ℕ) (d : Entry) (spots : List Spot) → AreOnce logs → length spots ≡ sum_by length logs → slice_get logs i ≡ Some log → slice_get log k ≡ Some d → ArePlaced logs i k spots → ArePlaced logs i (k + 1) (set spots d.ticket (record { log = i; at = k }))
place_next logs log i k d spots once long is_log is_d placed j m e is before =
    let there : IsLogged logs i k d = (log, is_log, is_d) in
    let fits : d.ticket < length spots = subst (λ n. d.ticket < n) (sym long) (once.below i k d there) in
    let here : (j ≡ i) → (m ≡ k) → slice_get (set spots d.ticket (record { log = i; at = k })) e.ticket ≡ Some (record { log = j; at = m }) =
    λ ji mk.
    let row : slice_get logs i ≡ Some is.0 = ap (slice_get logs) (sym ji) ∙ is.1 in
    let same : is.0 ≡ log = one_answer (slice_get logs i) is.0 log row is_log in
    let at_k : slice_get log k ≡ Some e = ap (λ n. slice_get log n) (sym mk) ∙ ap (λ l. slice_get l m) (sym same) ∙ is.2 in
    let e_is : e ≡ d = one_answer (slice_get log k) e d at_k is_d in
    ap (λ (x : Entry). slice_get (set spots d.ticket (record { log = i; at = k })) x.ticket) e_is
    ∙ get_set_same spots d.ticket (record { log = i; at = k }) fits
    ∙ ap (λ n. Some (record { log = n; at = k })) (sym ji) ∙ ap (λ n. Some (record { log = j; at = n })) (sym mk) in
    let other : (j < i) ⊎ ((j ≡ i) × (m < k)) → slice_get (set spots d.ticket (record { log = i; at = k })) e.ticket ≡ Some (record { log = j; at = m }) =
    λ earlier.
    let differ : e.ticket ≢ d.ticket = λ t. let at = once.once j i m k e d is there t in elim earlier [ inl lt ↦ omega (arith, at.0) | inr r ↦ omega (arith, at.1, r.1) ] in
    get_set_other spots d.ticket e.ticket (record { log = i; at = k }) differ ∙ placed j m e is earlier in
    elim before [
      | inl lt ↦ other (inl lt)
      | inr r ↦ elim (up_to m k r.1) [ inl lt ↦ other (inr (r.0, lt)) | inr mk ↦ here r.0 mk ]
    ]

-- entries with the same ticket are one
pub same_entry : (logs : List (List Entry)) (i j k m : ℕ) (d e : Entry) → AreOnce logs → IsLogged logs i k d → IsLogged logs j m e → d.ticket ≡ e.ticket → e ≡ d
same_entry logs i j k m d e once is_d is_e t =
    let at = once.once i j k m d e is_d is_e t in
    let row : slice_get logs j ≡ Some is_d.0 = ap (slice_get logs) (sym at.0) ∙ is_d.1 in
    let same : is_e.0 ≡ is_d.0 = one_answer (slice_get logs j) is_e.0 is_d.0 is_e.1 row in
    let place : slice_get is_d.0 k ≡ Some e = ap (slice_get is_d.0) at.1 ∙ ap (λ l. slice_get l m) (sym same) ∙ is_e.2 in
    one_answer (slice_get is_d.0 k) e d place is_d.2

-- behind the end of a log the next begins
pub place_end : (logs : List (List Entry)) (log : List Entry) (i k : ℕ) (spots : List Spot) → slice_get logs i ≡ Some log → length log ≤ k → ArePlaced logs i k spots → ArePlaced logs (i + 1) 0 spots
place_end logs log i k spots is_log past placed j m e is before = elim (in_rows j i m before) [
  | inl lt ↦ placed j m e is (inl lt)
  | inr ji ↦
      let row : slice_get logs i ≡ Some is.0 = ap (slice_get logs) (sym ji) ∙ is.1 in
      let same : is.0 ≡ log = one_answer (slice_get logs i) is.0 log row is_log in
      let within : m < length is.0 = slice_get_within is.0 m e is.2 in
      let less : m < length log = subst (λ l. m < length l) same within in
      placed j m e is (inr (ji, omega arith))
]

-- behind the last log all are placed
pub all_placed : (logs : List (List Entry)) (i : ℕ) (spots : List Spot) → length logs ≤ i → ArePlaced logs i 0 spots → AreSpots logs spots
all_placed logs i spots past placed j m e is = placed j m e is (inl (let within = slice_get_within logs j is.0 is.1 in omega arith))

-- the entry that stands where the spot of a ticket says has that ticket
pub at_spot : (logs : List (List Entry)) (spots : List Spot) (t : ℕ) (s : Spot) → AreOnce logs → AreSpots logs spots → length spots ≡ sum_by length logs → t < length spots → (e : Entry) × IsLogged logs (get_or spots t s).log (get_or spots t s).at e × (e.ticket ≡ t)
at_spot logs spots t s once are long lt =
    let found = once.found t (subst (λ n. t < n) long lt) in
    let spot : slice_get spots t ≡ Some (record { log = found.0; at = found.1 }) = subst (λ n. slice_get spots n ≡ Some (record { log = found.0; at = found.1 })) found.4 (are found.0 found.1 found.2 found.3) in
    let is : get_or spots t s ≡ record { log = found.0; at = found.1 } = get_or_from_slice_get spots t (record { log = found.0; at = found.1 }) s spot in
    (found.2, subst (λ (x : Spot). IsLogged logs x.log x.at found.2) (sym is) found.3, found.4)

-- a place has one entry
pub one_logged : (logs : List (List Entry)) (i k : ℕ) (d e : Entry) → IsLogged logs i k d → IsLogged logs i k e → d ≡ e
one_logged logs i k d e is_d is_e =
    let same : is_d.0 ≡ is_e.0 = one_answer (slice_get logs i) is_d.0 is_e.0 is_d.1 is_e.1 in
    one_answer (slice_get is_e.0 k) d e (subst (λ l. slice_get l k ≡ Some d) same is_d.2) is_e.2

-- the spot is within the logs
pub spot_within : (logs : List (List Entry)) (s : Spot) (e : Entry) → IsLogged logs s.log s.at e → (s.log < length logs) × (s.at < length (get_or logs s.log []))
spot_within logs s e is = (slice_get_within logs s.log is.0 is.1, subst (λ l. s.at < length l) (sym (get_or_from_slice_get logs s.log is.0 [] is.1)) (slice_get_within is.0 s.at e is.2))

-- each is a copy of the entry that has its place as its ticket
abbrev pub AreCopies : List (List Entry) → List Entry → Type 0
AreCopies logs entries = (t : ℕ) (f : Entry) → slice_get entries t ≡ Some f → (e : Entry) × ((i : ℕ) × (k : ℕ) × IsLogged logs i k e) × (e.ticket ≡ t) × IsCopy f e

-- one copy more
pub copy_next : (logs : List (List Entry)) (entries : List Entry) (f e : Entry) (i k : ℕ) → AreCopies logs entries → IsLogged logs i k e → e.ticket ≡ length entries → IsCopy f e → AreCopies logs (entries ++ f ∷ [])
copy_next logs entries f e i k copies is ticket copy t g at = elim (get_push_cases entries f t g at) [
  | inl before ↦ copies t g before
  | inr last ↦ (e, (i, k, is), ticket ∙ sym last.0, subst (λ (x : Entry). IsCopy x e) (sym last.1) copy)
]

-- copies of the entries of all tickets are the merged log
pub merged_from : (logs : List (List Entry)) (entries : List Entry) → AreOnce logs → length entries ≡ sum_by length logs → AreCopies logs entries → IsMerged logs entries
merged_from logs entries once long copies = record {
  all = long;
  each = λ i k e is.
      let there = get_there entries e.ticket (subst (λ n. e.ticket < n) (sym long) (once.below i k e is)) in
      let copy = copies e.ticket there.0 there.1 in
      (there.0, there.1, subst (IsCopy there.0) (same_entry logs i copy.1.0 k copy.1.1 e copy.0 once is copy.1.2 (sym copy.2)) copy.3);
}
