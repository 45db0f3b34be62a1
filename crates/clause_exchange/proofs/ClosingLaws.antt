-- What holds of the logs and the verdict once the exchange is closed with all numbers.
use Rattle.std.proofs.Common.{◌≡◌, ℕ, ◌-◌, inl, inr, Bool, true, false, List, [], ◌∷◌, map, length, refl, ap, sym, ◌∙◌, subst, arith, Option, Some, slice_get}
use Rattle.std.specs.Prelude.{Contains, nat_lt}
use Rattle.std.proofs.lemmas.Bool.{cases_lt}
use Rattle.std.proofs.lemmas.List.{get_or_past}
use Rattle.std.proofs.lemmas.Option.{get_or_from_slice_get}
use Rattle.dg_base.proofs.Lists.{get_map, get_nothing, place_of}
use mathlib.Core.List.{IsPrefix}
use Rattle.cnf_problem.proofs.LemmaLaws.{follows_more}
use Rattle.cnf_problem.specs.Laws.{IsWithin}
use Rattle.search_core.specs.declared.Entry.{Entry}
use Rattle.search_core.specs.declared.Verdict.{Verdict}
use Rattle.search_core.specs.declared.Verdict.TheVariants.{Safe}
use Rattle.search_core.specs.Core.{Worker, worker, idle}
use Rattle.search_core.specs.CoreLaws.{IsRight, clauses_below}
use Rattle.search_core.proofs.Laws.{sound_after_events, below_only, below_has}
use Rattle.clause_exchange.specs.declared.rule.Received.{Received}
use Rattle.clause_exchange.specs.declared.rule.Part.{Part}
use Rattle.clause_exchange.specs.declared.rule.View.{View}
use Rattle.clause_exchange.specs.Spelling.{spelled_entry, whole_within, all_received}
use Rattle.clause_exchange.specs.Rule.{worker_of}
use Rattle.clause_exchange.specs.Closing.{HasAll, IsShown, IsClosed, HasEntry, HasEmptyClause, TicketsAreIn, EntriesFollow, ReadsWereShared}
use Rattle.clause_exchange.proofs.Listed.{prefix_trans}

module _ (v : View) (next : ℕ) (verdict : Option Verdict) (c : IsShown v next verdict) where
  -- an entry of a number's log is one of the core
  here : (part : Part) (k : ℕ) (e : Entry) → HasEntry v part k e → slice_get (worker c.core part.number).log k ≡ Some e
  here part k e h = subst (λ (w : Worker). slice_get w.log k ≡ Some e) (sym ((c.shown part h.0).1)) h.1

  -- an entry of the core is one of a number's log
  there : HasAll v → (i k : ℕ) (e : Entry) → slice_get (worker c.core i).log k ≡ Some e → (part : Part) × (part.number ≡ i) × HasEntry v part k e
  there all i k e h = elim (cases_lt i v.workers) [
    | inl inside ↦
        let mine = all i inside in
        let w = (c.shown mine.0 mine.1).1 in
        (mine.0, mine.2, (mine.1, subst (λ (x : Worker). slice_get x.log k ≡ Some e) w (subst (λ n. slice_get (worker c.core n).log k ≡ Some e) (sym mine.2) h)))
    | inr outside ↦ absurd (let q = get_or_past c.core.workers i (idle 0) (let n = c.count in omega arith) in get_nothing k e (subst (λ (x : Worker). slice_get x.log k ≡ Some e) q h))
  ]

  pub tickets_in : HasAll v → TicketsAreIn v next
  tickets_in all =
      let once = (sound_after_events v.problem v.workers c.core c.reached).tickets in
      record {
        found = λ t lt.
            let r = once.found t (let n = c.ticket in omega arith) in
            let m = there all r.0 r.1 r.2 r.3 in
            (m.0, r.1, r.2, m.2, r.4);
        below = λ part k e h. (let b = once.below part.number k e (here part k e h) in let n = c.ticket in omega arith);
        once = λ a b k m e f ha hb same.
            let o = once.once a.number b.number k m e f (here a k e ha) (here b m f hb) same in
            (c.one a b ha.0 hb.0 o.0, o.1);
      }

  -- the clauses with lower tickets stand in the logs of the view
  lower_within : HasAll v → (t : ℕ) → IsWithin (clauses_below t c.core.workers) (clauses_below t (map worker_of v.parts))
  lower_within all t x h =
      let r = below_only t c.core.workers x h in
      let m = there all r.0 r.1 r.2 r.3 in
      let place = place_of v.parts m.0 m.2.0 in
      let w = get_or_from_slice_get (map worker_of v.parts) place.0 (worker_of m.0) (idle 0) (get_map worker_of v.parts place.0 m.0 place.1) in
      subst (λ z. Contains (clauses_below t (map worker_of v.parts)) z) (sym r.5) (below_has t (map worker_of v.parts) place.0 r.1 r.2 (subst (λ (y : Worker). slice_get y.log r.1 ≡ Some r.2) (sym w) m.2.1) r.4)

  pub entries_follow : HasAll v → EntriesFollow v
  entries_follow all part k e h =
      follows_more v.problem (clauses_below e.ticket c.core.workers) (clauses_below e.ticket (map worker_of v.parts)) e.lemma (lower_within all e.ticket)
      ((sound_after_events v.problem v.workers c.core c.reached).follows part.number k e (here part k e h))

  pub safe_is_empty : HasAll v → verdict ≡ Some Safe → HasEmptyClause v
  safe_is_empty all stands =
      let right : IsRight v.problem c.core (Some Safe) = subst (λ u. IsRight v.problem c.core u) (c.found ∙ stands) ((sound_after_events v.problem v.workers c.core c.reached).verdict) in
      let r = right.0 in
      let m = there all r.0 r.1 r.2 r.3 in
      (m.0, r.1, r.2, m.2, r.4)

-- what is whole within some words begins the list
within_begins : (m : ℕ) (hs : List Received) → IsPrefix (whole_within m hs) hs
within_begins m [] = ([], refl)
within_begins m (h ∷ hs) = by_test (nat_lt m (length (spelled_entry h))) refl (within_begins (m - length (spelled_entry h)) hs)
  where
    by_test : (b : Bool) → nat_lt m (length (spelled_entry h)) ≡ b → IsPrefix (whole_within (m - length (spelled_entry h)) hs) hs → IsPrefix (whole_within m (h ∷ hs)) (h ∷ hs)
    by_test true q later = rw q (h ∷ hs, refl)
    by_test false q later = rw q (later.0, ap (λ l. h ∷ l) later.1)

pub reads_were_shared : (v : View) (next : ℕ) (verdict : Option Verdict) → IsClosed v next verdict → ReadsWereShared v
reads_were_shared v next verdict c a b r ca cb at = prefix_trans (whole_within r.loaded r.known) r.known (all_received b.shared) (within_begins r.loaded r.known) ((c.received a b r ca cb at).known)
