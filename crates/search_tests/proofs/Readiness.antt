-- A seat that shares each entry as soon as it is appended may append the next lemma.
use Rattle.std.proofs.Common.{◌≡◌, ◌≢◌, ℕ, zero, suc, ◌+◌, ◌<◌, ◌≤◌, ◌⊎◌, inl, inr, Bool, true, false, List, [], ◌∷◌, ◌++◌, map, length, lit<, lit≤, sym, ◌∙◌, ap, subst, arith, refl, Some, slice_get}
use Rattle.std.specs.Prelude.{Contains, All, MatchBool}
use Rattle.std.proofs.lemmas.List.{length-append, length-replicate, map-append}
use Rattle.std.proofs.lemmas.List.Elements.{All-contains, Contains-append_left, Contains-append_right, Contains-append_cases}
use Rattle.dg_base.proofs.Lists.{contains_head, contains_nothing, contains_cases, contains_map}
use Rattle.dg_base.specs.declared.Lit.{Lit}
use Rattle.cnf_problem.specs.declared.problem.Lemma.{Lemma}
use Rattle.cnf_problem.specs.declared.problem.LemmaKind.TheVariants.{Unit as ByUnit}
use Rattle.cnf_problem.specs.declared.problem.Problem.{Problem}
use Rattle.cnf_problem.specs.Literals.{negated, IsOver}
use Rattle.cnf_problem.specs.Chains.{done}
use Rattle.cnf_problem.specs.Problems.{Follows, FollowsBy}
use Rattle.cnf_problem.proofs.LemmaLaws.{follows_more}
use Rattle.search_core.specs.declared.Entry.{Entry}
use Rattle.lemma_log.specs.declared.Entry as Logged
use Rattle.clause_exchange.specs.declared.rule.Received.{Received}
use Rattle.clause_exchange.specs.declared.rule.RowView.{RowView}
use Rattle.clause_exchange.specs.declared.rule.Part.{Part}
use Rattle.clause_exchange.specs.declared.rule.View.{View}
use Rattle.clause_exchange.specs.Rule.{blank_row, blank_part, new_view}
use Rattle.clause_exchange.specs.Spelling.{spelled, received_of, all_received}
use Rattle.clause_exchange.specs.Steps.{mine, with_part, with_entry}
use Rattle.clause_exchange.specs.Splits.{with_parts, below, from_on}
use Rattle.clause_exchange.specs.Seats.{written}
use Rattle.clause_exchange.specs.Calls.{HasOne, HasRoom, HasNoRoom, AllShared, IsAllRead, CanAppend, IsLogged, IsOther, Cuts, after_share, after_read}
use Rattle.clause_exchange.specs.Closing.{HasAll}
use Rattle.search_tests.specs.Ready.{IsReady, GoesOn}
use Rattle.clause_exchange.proofs.Opening.{there_same}
use Rattle.clause_exchange.proofs.Listed.{spelled_append}

-- a lemma that is a clause of the problem
pub follows_listed : (p : Problem) (l : Lemma) → Contains p.clauses l.lits → l.kind ≡ ByUnit → Follows p [] l
follows_listed p l listed kind = record {
  variables = All-contains (All (IsOver p.vars)) p.clauses l.lits p.over.each_literal listed;
  cause = subst (λ k. FollowsBy k p [] l.lits) (sym kind) (record {
    reached = map negated l.lits;
    chain = done;
    clause = l.lits;
    listed = Contains-append_left p.clauses [] l.lits listed;
    conflict = λ m h. contains_map negated l.lits m h;
  });
}

-- the same, where the clause is named
pub follows_clause : (p : Problem) (l : Lemma) (clause : List Lit) → Contains p.clauses clause → l.lits ≡ clause → l.kind ≡ ByUnit → Follows p [] l
follows_clause p l clause listed lits kind = follows_listed p l (subst (λ c. Contains p.clauses c) (sym lits) listed) kind

-- a lemma that was appended is in the log
pub logged : (v w : View) (t : ℕ) (l : Lemma) (entry : Logged.Entry) → w ≡ with_part v (with_entry (mine v) t l) → t ≡ entry.ticket → l ≡ entry.lemma → (e : Entry) × IsLogged (mine w) entry e
logged v w t l entry e ticket lemma = subst (λ (u : View). (x : Entry) × IsLogged (mine u) entry x) (sym e) (_, record { listed = Contains-append_right (mine v).log (_ ∷ []) _ (contains_head _ []); ticket_is = ticket; lemma_is = lemma })

pub ready_append : (v : View) (n : ℕ) (l : Lemma) → IsReady v (suc n) → Follows v.problem [] l → CanAppend v l
ready_append v n l r f = record {
  follows = follows_more v.problem [] _ l (λ x h. absurd (contains_nothing x h)) f;
  room = (let a = r.room in omega arith);
  shared = r.shared;
  read = r.read;
  looked = λ j q apart at. (let a = r.looked j q apart at in omega arith);
}

-- the new entry of a log
abbrev pub entry_of : Part → ℕ → Lemma → Entry
entry_of part t l = record { ticket = t; lemma = l; seen = map (λ (r : RowView). length r.known) part.rows }

module _ (v : View) (t : ℕ) (l : Lemma) where
  abbrev here : View
  here = with_part v (with_entry (mine v) t l)

  is_logged : (entry : Logged.Entry) → t ≡ entry.ticket → l ≡ entry.lemma → IsLogged (mine here) entry (entry_of (mine v) t l)
  is_logged entry ticket lemma = record { listed = Contains-append_right (mine v).log (entry_of (mine v) t l ∷ []) _ (contains_head _ []); ticket_is = ticket; lemma_is = lemma }

  more_written : (e : Entry) → written (mine here) ≤ written (mine (after_share here e))
  more_written e =
      let a = ap (λ hs. length (spelled hs)) (map-append received_of (mine v).shared (e ∷ [])) in
      let b = ap length (spelled_append (all_received (mine v).shared) (received_of e ∷ [])) in
      let d = length-append (spelled (all_received (mine v).shared)) (spelled (received_of e ∷ [])) in
      omega arith

  -- the row has room no more where it had none
  still_none : (e : Entry) (lits : ℕ) → HasNoRoom v.share_words (mine v) lits → HasNoRoom v.share_words (mine (after_share here e)) lits
  still_none e lits (inl long) = inl long
  still_none e lits (inr full) = inr (let a = more_written e in omega arith)

  log_length : length (mine here).log ≡ suc (length (mine v).log)
  log_length = let a = length-append (mine v).log (entry_of (mine v) t l ∷ []) in omega arith

  -- the entry is shared
  ready_shared : (n : ℕ) → IsReady v (suc n) → IsReady (after_share here (entry_of (mine v) t l)) n
  ready_shared n r = record {
    one = refl;
    wide = r.wide;
    room = (let a = r.room in let b = log_length in omega arith);
    shared = λ e h. elim (Contains-append_cases (mine v).log (entry_of (mine v) t l ∷ []) e h) [
      | inl m ↦ elim (r.shared e m) [ inl s ↦ inl (Contains-append_left (mine v).shared (entry_of (mine v) t l ∷ []) e s) | inr none ↦ inr (still_none (entry_of (mine v) t l) _ none) ]
      | inr m ↦ inl (Contains-append_right (mine v).shared (entry_of (mine v) t l ∷ []) e m)
    ];
    read = r.read;
    looked = λ j q apart at. (let a = r.looked j q apart at in let b = log_length in omega arith);
  }

  -- the row has no room for it
  ready_full : (n : ℕ) → IsReady v (suc n) → HasNoRoom v.share_words (mine v) (length l.lits) → IsReady here n
  ready_full n r full = record {
    one = refl;
    wide = r.wide;
    room = (let a = r.room in let b = log_length in omega arith);
    shared = λ e h. elim (Contains-append_cases (mine v).log (entry_of (mine v) t l ∷ []) e h) [
      | inl m ↦ r.shared e m
      | inr m ↦ elim (contains_cases (entry_of (mine v) t l) e [] m) [ inl same ↦ inr (subst (λ (x : Entry). HasNoRoom v.share_words (mine v) (length x.lemma.lits)) (sym same) full) | inr none ↦ absurd (contains_nothing e none) ]
    ];
    read = r.read;
    looked = λ j q apart at. (let a = r.looked j q apart at in let b = log_length in omega arith);
  }

-- a lemma is appended and its entry is shared
pub goes_on : (v w z : View) (t : ℕ) (l : Lemma) (entry : Logged.Entry) (b : Bool) → w ≡ with_part v (with_entry (mine v) t l) → t ≡ entry.ticket → l ≡ entry.lemma
    → MatchBool b ((e : Entry) → IsLogged (mine w) entry e → z ≡ after_share w e) (z ≡ w)
    → MatchBool b (HasRoom w.share_words (mine w) (length entry.lemma.lits)) (HasNoRoom w.share_words (mine w) (length entry.lemma.lits)) → GoesOn v z
goes_on v w z t l entry true e ticket lemma told room =
    let is : IsLogged (mine w) entry (entry_of (mine v) t l) = subst (λ (u : View). IsLogged (mine u) entry (entry_of (mine v) t l)) (sym e) (is_logged v t l entry ticket lemma) in
    let seen : z ≡ after_share (here v t l) (entry_of (mine v) t l) = told (entry_of (mine v) t l) is ∙ ap (λ u. after_share u (entry_of (mine v) t l)) e in
    subst (λ u. GoesOn v u) (sym seen) (record { number = refl; longer = log_length v t l; ready = ready_shared v t l })
goes_on v w z t l entry false e ticket lemma told room =
    let none : HasNoRoom v.share_words (mine v) (length entry.lemma.lits) = subst (λ (u : View). HasNoRoom u.share_words (mine u) (length entry.lemma.lits)) e room in
    let full : HasNoRoom v.share_words (mine v) (length l.lits) = subst (λ (x : Lemma). HasNoRoom v.share_words (mine v) (length x.lits)) (sym lemma) none in
    subst (λ u. GoesOn v u) (sym (told ∙ e)) (record { number = refl; longer = log_length v t l; ready = λ n r. ready_full v t l n r full })

-- a seat of one number that has done nothing
pub ready_blank : (p : Problem) (n words k count : ℕ) (v : View) → count ≤ 1024 → v ≡ with_parts (new_view p n words) (blank_part n k ∷ []) → IsReady v count
ready_blank p n words k count v few e = subst (λ u. IsReady u count) (sym e) (record {
  one = refl;
  wide = length-replicate n blank_row;
  room = omega arith;
  shared = λ x h. absurd (contains_nothing x h);
  read = λ j r at. subst (λ (q : RowView). q.loaded ≡ length (spelled q.known)) (sym (there_same n j blank_row r at)) refl;
  looked = λ j r apart at. subst (λ (q : RowView). 0 + count ≤ q.log_then + 1024) (sym (there_same n j blank_row r at)) (omega arith);
})

-- two seats of one number each, out of two numbers
pub cut_two : (p : Problem) (words : ℕ) (v : View) → v ≡ new_view p 2 words → Cuts v 1
cut_two p words v e = subst (λ (u : View). Cuts u 1) (sym e) ((blank_part 2 0, (0, lit< tt, refl), lit< tt), (blank_part 2 1, (1, lit< tt, refl), lit≤ tt))

pub left_one : (p : Problem) (words : ℕ) (v l : View) → v ≡ new_view p 2 words → l ≡ with_parts v (below 1 v.parts) → l ≡ with_parts (new_view p 2 words) (blank_part 2 0 ∷ [])
left_one p words v l e is = is ∙ ap (λ (u : View). with_parts u (below 1 u.parts)) e

pub right_one : (p : Problem) (words : ℕ) (v r : View) → v ≡ new_view p 2 words → r ≡ with_parts v (from_on 1 v.parts) → r ≡ with_parts (new_view p 2 words) (blank_part 2 1 ∷ [])
right_one p words v r e is = is ∙ ap (λ (u : View). with_parts u (from_on 1 u.parts)) e

-- the joined seat has both numbers
pub has_both : (a b w : View) → a.workers ≡ 2 → HasOne a → HasOne b → (mine a).number ≡ 0 → (mine b).number ≡ 1 → w ≡ with_parts a (a.parts ++ b.parts) → HasAll w
has_both a b w two one_a one_b zeroth first e =
    subst HasAll (sym (e ∙ (ap (λ ps. with_parts a (ps ++ b.parts)) one_a ∙ ap (λ ps. with_parts a (mine a ∷ ps)) one_b))) by_number
  where
    by_number : HasAll (with_parts a (mine a ∷ mine b ∷ []))
    by_number zero lt = (mine a, (0, lit< tt, refl), zeroth)
    by_number (suc zero) lt = (mine b, (1, lit< tt, refl), first)
    by_number (suc (suc k)) lt = absurd (omega arith)

pub ready_less : (v : View) (m n : ℕ) → n ≤ m → IsReady v m → IsReady v n
ready_less v m n less r = record {
  one = r.one;
  wide = r.wide;
  room = (let a = r.room in omega arith);
  shared = r.shared;
  read = r.read;
  looked = λ j q apart at. (let a = r.looked j q apart at in omega arith);
}

pub other_kept : (v w : View) (row : ℕ) → w.workers ≡ v.workers → (mine w).number ≡ (mine v).number → IsOther v row → IsOther w row
other_kept v w row workers number h = ((let a = h.0 in omega arith), λ e. h.1 (e ∙ number))

-- a seat of one number after it looked
pub one_after : (v w : View) (part : Part) → w ≡ with_part v part → part.number ≡ (mine v).number → HasOne w × ((mine w).number ≡ (mine v).number)
one_after v w part e same = subst (λ u. HasOne u × ((mine u).number ≡ (mine v).number)) (sym e) (refl, same)

-- or read, or found nothing more
pub one_read : (b : Bool) (v w : View) (row : ℕ) (X : Received → Type 0) (Y Z : Type 0) → MatchBool b ((h : Received) × X h × (w ≡ after_read v row h)) (Y × (w ≡ v) × Z) → HasOne v → HasOne w × ((mine w).number ≡ (mine v).number)
one_read true v w row X Y Z told one = subst (λ u. HasOne u × ((mine u).number ≡ (mine v).number)) (sym told.2) (refl, refl)
one_read false v w row X Y Z told one = subst (λ u. HasOne u × ((mine u).number ≡ (mine v).number)) (sym told.1) (one, refl)
