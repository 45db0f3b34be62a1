-- What an appended and shared lemma keeps of a worker's log.
use Rattle.std.proofs.Common.{◌≡◌, ◌≢◌, ℕ, ◌<◌, ◌≤◌, inl, inr, Bool, true, false, List, [], ◌∷◌, ◌++◌, map, length, take, refl, ap, sym, ◌∙◌, subst, arith, Some, slice_get}
use Rattle.std.specs.Prelude.{Contains, Option, MatchBool}
use Rattle.std.proofs.lemmas.List.{length-append, length-map, map-append, take_at, take-append-le}
use Rattle.std.proofs.lemmas.List.Elements.{Contains-append_left, Contains-append_right, Contains-append_cases}
use Rattle.std.proofs.lemmas.Option.{slice_get_within}
use Rattle.dg_base.proofs.Lists.{get_push_cases, get_map, contains_head, contains_nothing, contains_cases, contains_place, one_answer}
use Rattle.cnf_problem.specs.declared.problem.Lemma.{Lemma}
use Rattle.cnf_problem.specs.declared.problem.Problem.{Problem}
use Rattle.cnf_problem.specs.Chains.{IsNew}
use Rattle.search_core.specs.declared.Entry.{Entry}
use Rattle.search_core.specs.declared.Verdict.{Verdict}
use Rattle.search_core.specs.Core.{lits_of}
use Rattle.lemma_log.specs.declared.Entry as Logged
use Rattle.clause_exchange.specs.declared.rule.Received.{Received}
use Rattle.clause_exchange.specs.declared.rule.RowView.{RowView}
use Rattle.clause_exchange.specs.declared.rule.Part.{Part}
use Rattle.clause_exchange.specs.declared.rule.View.{View}
use Rattle.clause_exchange.specs.Spelling.{spelled, received_of, all_received}
use Rattle.clause_exchange.specs.Steps.{mine, received_lits, with_part, with_entry, with_shared, seeing, offering}
use Rattle.clause_exchange.specs.Seats.{written}
use Rattle.clause_exchange.specs.Calls.{HasRoom, HasNoRoom, IsAllRead, CanAppend, IsLogged, after_share}
use Rattle.clause_exchange.proofs.Listed.{spelled_append}
use Rattle.worker_log.specs.Newness.{knows, first_known, AreSeen, WasNew, WereNew}
use Rattle.worker_log.specs.Logs.{LogView, IsEntryOf, IsLogOf, TicketsDiffer}
use Rattle.worker_log.specs.Keeping.{IsLogging, IsHeeding, MayNote, Notes}
use Rattle.worker_log.proofs.Rows.{reading_all}

-- ---- before the ticket

pub heeded_all : (part : Part) (since : ℕ) → IsHeeding part since → (j : ℕ) (r : RowView) → slice_get part.rows j ≡ Some r → IsAllRead r
heeded_all part since heeding j r at = (heeding j r (slice_get_within part.rows j r at) at).0

pub may_append : (w : LogView) (v : View) (lemma : Lemma) → IsLogging w v → MayNote v lemma → CanAppend v lemma
may_append w v lemma here may = record {
  follows = may.follows;
  room = may.room;
  shared = here.booked.shared;
  read = heeded_all (mine v) may.since may.heeding;
  looked = λ j r apart at. (
      let then = (may.heeding j r (slice_get_within (mine v).rows j r at) at).1 apart in
      let recent = may.recent in
      omega arith
      );
}

-- ---- the entry

-- the entry of an append
abbrev pub entry_of : Part → ℕ → Lemma → Entry
entry_of part t l = record { ticket = t; lemma = l; seen = map (λ (r : RowView). length r.known) part.rows }

-- the numbers of what is known are numbers of what is known
pub seen_all : (rows : List RowView) → AreSeen rows (map (λ (r : RowView). length r.known) rows)
seen_all rows = record {
  wide = length-map rows (λ (r : RowView). length r.known);
  known = λ j n r a b. (
      let same : length r.known ≡ n = one_answer (slice_get (map (λ (x : RowView). length x.known) rows) j) (length r.known) n (get_map (λ (x : RowView). length x.known) rows j r b) a in
      omega arith
      );
}

module _ (p : Problem) (part : Part) (t : ℕ) (l : Lemma) where
  -- the entry itself was new
  last_new : ((j : ℕ) (r : RowView) → slice_get part.rows j ≡ Some r → IsAllRead r) → (l.lits ≢ [] → IsNew (p.clauses ++ knows part) l.lits) → WasNew p (with_entry part t l) (length part.log) (entry_of part t l)
  last_new read new = record {
    seen = record { wide = (seen_all part.rows).wide; known = (seen_all part.rows).known };
    new = λ some.
        subst (λ (es : List Entry). IsNew (p.clauses ++ (lits_of es ++ received_lits (first_known (map (λ (r : RowView). length r.known) part.rows) part.rows))) l.lits) (sym (take_at part.log (entry_of part t l ∷ []) (length part.log) refl))
        (subst (λ (hs : List Received). IsNew (p.clauses ++ (lits_of part.log ++ received_lits hs)) l.lits) (sym (reading_all part.rows read)) (new some));
  }

  -- those before it were
  new_with_entry : ((j : ℕ) (r : RowView) → slice_get part.rows j ≡ Some r → IsAllRead r) → (l.lits ≢ [] → IsNew (p.clauses ++ knows part) l.lits) → WereNew p part → WereNew p (with_entry part t l)
  new_with_entry read new were = λ k e here. elim (get_push_cases part.log (entry_of part t l) k e here) [
    | inl old ↦
        let was = were k e old in
        let within = slice_get_within part.log k e old in
        record {
          seen = was.seen;
          new = λ some. subst (λ (es : List Entry). IsNew (p.clauses ++ (lits_of es ++ received_lits (first_known e.seen part.rows))) e.lemma.lits) (sym (take-append-le k part.log (entry_of part t l ∷ []) (omega arith))) (was.new some);
        }
    | inr last ↦
        subst (λ m. WasNew p (with_entry part t l) m e) (sym last.0) (subst (λ (x : Entry). WasNew p (with_entry part t l) (length part.log) x) (sym last.1) (last_new read new))
  ]

-- what was new stays so where only the log and the rows are the same
new_same : (p : Problem) (before after : Part) → after.log ≡ before.log → after.rows ≡ before.rows → WereNew p before → WereNew p after
new_same p before after log rows were = λ k e at.
    let was = were k e (subst (λ (l : List Entry). slice_get l k ≡ Some e) log at) in
    record {
      seen = subst (λ (rs : List RowView). AreSeen rs e.seen) (sym rows) was.seen;
      new = λ some.
          subst (λ (es : List Entry). IsNew (p.clauses ++ (lits_of (take k es) ++ received_lits (first_known e.seen after.rows))) e.lemma.lits) (sym log)
          (subst (λ (rs : List RowView). IsNew (p.clauses ++ (lits_of (take k before.log) ++ received_lits (first_known e.seen rs))) e.lemma.lits) (sym rows) (was.new some));
    }

-- ---- the worker's log

-- a worker's log with one entry more is the number's with one more
longer_log : (number : ℕ) (entries : List Logged.Entry) (log : List Entry) (a : Logged.Entry) (e : Entry) → IsLogOf number entries log → IsEntryOf number a e → IsLogOf number (entries ++ a ∷ []) (log ++ e ∷ [])
longer_log number entries log a e same last = record {
  long = (let x = length-append entries (a ∷ []) in let y = length-append log (e ∷ []) in let z = same.long in omega arith);
  each = λ k b d at_b at_d. elim (get_push_cases entries a k b at_b) [
    | inl x ↦ elim (get_push_cases log e k d at_d) [
      | inl y ↦ same.each k b d x y
      | inr y ↦ absurd (let z = slice_get_within entries k b x in let n = y.0 in let m = same.long in omega arith)
    ]
    | inr x ↦ elim (get_push_cases log e k d at_d) [
      | inl y ↦ absurd (let z = slice_get_within log k d y in let n = x.0 in let m = same.long in omega arith)
      | inr y ↦ subst (λ (c : Logged.Entry). IsEntryOf number c d) (sym x.1) (subst (λ (c : Entry). IsEntryOf number a c) (sym y.1) last)
    ]
  ];
}

more_written : (part : Part) (e : Entry) → written part ≤ written (with_shared part e)
more_written part e =
    let a = ap (λ hs. length (spelled hs)) (map-append received_of part.shared (e ∷ [])) in
    let b = ap length (spelled_append (all_received part.shared) (received_of e ∷ [])) in
    let c = length-append (spelled (all_received part.shared)) (spelled (received_of e ∷ [])) in
    omega arith

-- the row has no room where it had none
still_none : (share_words : ℕ) (part : Part) (e : Entry) (lits : ℕ) → HasNoRoom share_words part lits → HasNoRoom share_words (with_shared part e) lits
still_none share_words part e lits (inl long) = inl long
still_none share_words part e lits (inr full) = inr (let a = more_written part e in omega arith)

-- tickets that differ, and one that is above them
tickets_more : (shared : List Entry) (e : Entry) → TicketsDiffer shared → ((d : Entry) → Contains shared d → d.ticket < e.ticket) → TicketsDiffer (shared ++ e ∷ [])
tickets_more shared e differ above = λ i j c d at_c at_d same. elim (get_push_cases shared e i c at_c) [
  | inl x ↦ elim (get_push_cases shared e j d at_d) [
    | inl y ↦ differ i j c d x y same
    | inr y ↦ absurd (let n = above c (contains_place shared i c x) in let m = ap (λ (z : Entry). z.ticket) y.1 in omega arith)
  ]
  | inr x ↦ elim (get_push_cases shared e j d at_d) [
    | inl y ↦ absurd (let n = above d (contains_place shared j d y) in let m = ap (λ (z : Entry). z.ticket) x.1 in omega arith)
    | inr y ↦ x.0 ∙ sym y.0
  ]
]

-- an entry that was appended is in the log
pub logged_then : (v u : View) (t : ℕ) (l : Lemma) (entry : Logged.Entry) → u ≡ with_part v (with_entry (mine v) t l) → t ≡ entry.ticket → l ≡ entry.lemma → (e : Entry) × IsLogged (mine u) entry e
logged_then v u t l entry e ticket lemma = subst (λ (x : View). (d : Entry) × IsLogged (mine x) entry d) (sym e)
    (entry_of (mine v) t l, record { listed = Contains-append_right (mine v).log (entry_of (mine v) t l ∷ []) (entry_of (mine v) t l) (contains_head (entry_of (mine v) t l) []); ticket_is = ticket; lemma_is = lemma })

module _ (w : LogView) (v : View) (t : ℕ) (l : Lemma) (here : IsLogging w v) (may : MayNote v l) (fresh : (e : Entry) → Contains (mine v).log e → e.ticket < t) where
  abbrev last : Entry
  last = entry_of (mine v) t l

  -- the view after the append
  abbrev then : View
  then = with_part v (with_entry (mine v) t l)

  abbrev pub longer : LogView
  longer = record { number = w.number; entries = w.entries ++ record { ticket = t; worker = w.number; lemma = l } ∷ []; reads = w.reads }

  pub is_logged : (entry : Logged.Entry) → t ≡ entry.ticket → l ≡ entry.lemma → IsLogged (mine then) entry last
  is_logged entry ticket lemma = record { listed = Contains-append_right (mine v).log (last ∷ []) last (contains_head last []); ticket_is = ticket; lemma_is = lemma }

  log_then : IsLogOf w.number longer.entries (mine then).log
  log_then = longer_log w.number w.entries (mine v).log (record { ticket = t; worker = w.number; lemma = l }) last (record { long = here.booked.log.long; each = here.booked.log.each }) (record { ticket = refl; worker = refl; lemma_is = refl })

  new_then : WereNew v.problem (mine then)
  new_then = new_with_entry v.problem (mine v) t l (heeded_all (mine v) may.since may.heeding) may.new here.new

  -- the entry is shared
  pub logging_shared : IsLogging longer (after_share then last)
  logging_shared =
      let b = here.booked in
      record {
        booked = record {
          one = refl;
          number = b.number;
          log = log_then;
          reads = record { wide = b.reads.wide; each = b.reads.each; own = b.reads.own };
          tickets = tickets_more (mine v).shared last b.tickets (λ d m. fresh d (b.own d m));
          own = λ e m. elim (Contains-append_cases (mine v).shared (last ∷ []) e m) [
            | inl k ↦ Contains-append_left (mine v).log (last ∷ []) e (b.own e k)
            | inr k ↦ Contains-append_right (mine v).log (last ∷ []) e k
          ];
          shared = λ e m. elim (Contains-append_cases (mine v).log (last ∷ []) e m) [
            | inl k ↦ elim (b.shared e k) [
              | inl s ↦ inl (Contains-append_left (mine v).shared (last ∷ []) e s)
              | inr none ↦ inr (still_none v.share_words (mine v) last (length e.lemma.lits) none)
            ]
            | inr k ↦ inl (Contains-append_right (mine v).shared (last ∷ []) e k)
          ];
        };
        numbered = record { within = here.numbered.within; wide = here.numbered.wide; own = here.numbered.own };
        whole = here.whole;
        new = new_same v.problem (mine then) (mine (after_share then last)) refl refl new_then;
      }

  -- the entry is too long, or the row has no room for it
  pub logging_unshared : HasNoRoom v.share_words (mine then) (length l.lits) → IsLogging longer then
  logging_unshared full =
      let b = here.booked in
      record {
        booked = record {
          one = refl;
          number = b.number;
          log = log_then;
          reads = record { wide = b.reads.wide; each = b.reads.each; own = b.reads.own };
          tickets = b.tickets;
          own = λ e m. Contains-append_left (mine v).log (last ∷ []) e (b.own e m);
          shared = λ e m. elim (Contains-append_cases (mine v).log (last ∷ []) e m) [
            | inl k ↦ b.shared e k
            | inr k ↦ elim (contains_cases last e [] k) [ inl same ↦ inr (subst (λ (x : Entry). HasNoRoom v.share_words (mine then) (length x.lemma.lits)) (sym same) full) | inr none ↦ absurd (contains_nothing e none) ]
          ];
        };
        numbered = record { within = here.numbered.within; wide = here.numbered.wide; own = here.numbered.own };
        whole = here.whole;
        new = new_then;
      }

  notes_shared : Notes l (mine v) (mine (after_share then last))
  notes_shared = record { entry = last; log = refl; lemma_is = refl; number = refl; rows = refl; seen = refl; offers = refl; loads = refl }

  notes_unshared : Notes l (mine v) (mine then)
  notes_unshared = record { entry = last; log = refl; lemma_is = refl; number = refl; rows = refl; seen = refl; offers = refl; loads = refl }

  -- an append, and the sharing of its entry, as the calls tell them
  pub noted : (u z : View) (entry : Logged.Entry) (b : Bool) → u ≡ then → t ≡ entry.ticket → l ≡ entry.lemma
      → MatchBool b ((e : Entry) → IsLogged (mine u) entry e → z ≡ after_share u e) (z ≡ u) → MatchBool b (HasRoom u.share_words (mine u) (length entry.lemma.lits)) (HasNoRoom u.share_words (mine u) (length entry.lemma.lits))
      → IsLogging longer z × Notes l (mine v) (mine z)
  noted u z entry true e ticket lemma told room =
      let is : IsLogged (mine u) entry last = subst (λ (x : View). IsLogged (mine x) entry last) (sym e) (is_logged entry ticket lemma) in
      let now : z ≡ after_share then last = told last is ∙ ap (λ x. after_share x last) e in
      subst (λ x. IsLogging longer x × Notes l (mine v) (mine x)) (sym now) (logging_shared, notes_shared)
  noted u z entry false e ticket lemma told room =
      let none : HasNoRoom v.share_words (mine then) (length entry.lemma.lits) = subst (λ (x : View). HasNoRoom x.share_words (mine x) (length entry.lemma.lits)) e room in
      let full : HasNoRoom v.share_words (mine then) (length l.lits) = subst (λ (x : Lemma). HasNoRoom v.share_words (mine then) (length x.lits)) (sym lemma) none in
      subst (λ x. IsLogging longer x × Notes l (mine v) (mine x)) (sym (told ∙ e)) (logging_unshared full, notes_unshared)

-- ---- the verdict

-- a load of the verdict, and an offer, keep the log
module _ (w : LogView) (v : View) (here : IsLogging w v) where
  pub logging_seeing : (found : Option Verdict) → IsLogging w (with_part v (seeing (mine v) found))
  logging_seeing found =
      let b = here.booked in
      record {
        booked = record {
          one = refl;
          number = b.number;
          log = record { long = b.log.long; each = b.log.each };
          reads = record { wide = b.reads.wide; each = b.reads.each; own = b.reads.own };
          tickets = b.tickets;
          own = b.own;
          shared = b.shared;
        };
        numbered = record { within = here.numbered.within; wide = here.numbered.wide; own = here.numbered.own };
        whole = here.whole;
        new = new_same v.problem (mine v) (seeing (mine v) found) refl refl here.new;
      }

  pub logging_offering : (verdict : Verdict) (stands : Option Verdict) → IsLogging w (with_part v (offering (mine v) verdict stands))
  logging_offering verdict stands =
      let b = here.booked in
      record {
        booked = record {
          one = refl;
          number = b.number;
          log = record { long = b.log.long; each = b.log.each };
          reads = record { wide = b.reads.wide; each = b.reads.each; own = b.reads.own };
          tickets = b.tickets;
          own = b.own;
          shared = b.shared;
        };
        numbered = record { within = here.numbered.within; wide = here.numbered.wide; own = here.numbered.own };
        whole = here.whole;
        new = new_same v.problem (mine v) (offering (mine v) verdict stands) refl refl here.new;
      }
