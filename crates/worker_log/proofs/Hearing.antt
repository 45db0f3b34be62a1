-- What a look at a row and a reading of it keep of a worker's log.
use Rattle.std.proofs.Common.{◌≡◌, ◌≢◌, ℕ, ◌+◌, ◌<◌, ◌≤◌, ◌⊎◌, inl, inr, List, [], ◌∷◌, ◌++◌, length, take, set, get_or, replicate, refl, ap, sym, ◌∙◌, subst, arith, Some, slice_get}
use Rattle.std.specs.Prelude.{Contains, All}
use Rattle.std.proofs.lemmas.Bool.{cases_eq}
use Rattle.std.proofs.lemmas.List.{length-append, length-set, length-replicate}
use Rattle.std.proofs.lemmas.Option.{slice_get-get_or, get_or_from_slice_get}
use Rattle.dg_base.proofs.Lists.{get_nothing, get_there, get_set_other, get_set_cases, contains_head, contains_nothing, one_answer}
use mathlib.Core.List.{IsPrefix}
use Rattle.dg_base.specs.declared.Lit.{Lit}
use Rattle.cnf_problem.specs.declared.problem.Problem.{Problem}
use Rattle.cnf_problem.specs.Literals.{IsOver}
use Rattle.cnf_problem.specs.Chains.{IsNew}
use Rattle.search_core.specs.declared.Entry.{Entry}
use Rattle.search_core.specs.Core.{lits_of}
use Rattle.clause_exchange.specs.declared.rule.Received.{Received}
use Rattle.clause_exchange.specs.declared.rule.RowView.{RowView}
use Rattle.clause_exchange.specs.declared.rule.Part.{Part}
use Rattle.clause_exchange.specs.declared.rule.View.{View}
use Rattle.clause_exchange.specs.Rule.{blank_row}
use Rattle.clause_exchange.specs.Spelling.{spelled, entry_size, whole_within}
use Rattle.clause_exchange.specs.Steps.{mine, reading, received_lits, row_of, with_row, with_part, looked_at, with_loaded, IsAt}
use Rattle.clause_exchange.specs.Seats.{IsWhole, SeatState, ExchangeId, exchange_of}
use Rattle.clause_exchange.specs.Calls.{IsOther, IsNumbered, IsAllRead, after_look, after_read}
use Rattle.clause_exchange.proofs.Listed.{written_here, prefix_refl, row_written}
use Rattle.clause_exchange.proofs.Opening.{there_same}
use Rattle.clause_exchange.proofs.Tying.{whole_looked, whole_read}
use Rattle.clause_exchange.proofs.CallLaws.{whole_first, reading_grows_law}
use Rattle.worker_log.specs.Newness.{knows, WereNew}
use Rattle.worker_log.specs.Logs.{LogView, IsUnused}
use Rattle.worker_log.specs.Keeping.{IsLogging, HasHeeded, OnlyReads, OnlyRow, AreHeard, unread}
use Rattle.worker_log.proofs.Rows.{looked_reading, reading_same, reading_more, first_known_same, seen_after, heard_entry, unread_less, reads_few}

-- what was new stays so where more is known of a row
new_with_row : (p : Problem) (part : Part) (j : ℕ) (r q : RowView) → slice_get part.rows j ≡ Some r → IsPrefix r.known q.known → WereNew p part → WereNew p (with_row part j q)
new_with_row p part j r q at pre new = λ k e here.
    let w = new k e here in
    record {
      seen = seen_after part.rows e.seen j r q w.seen at pre;
      new = λ some. subst (λ (hs : List Received). IsNew (p.clauses ++ (lits_of (take k part.log) ++ received_lits hs)) e.lemma.lits) (sym (first_known_same e.seen part.rows j r q w.seen at pre)) (w.new some);
    }

-- the row after a look that found these entries
abbrev pub seen_row : View → ℕ → List Received → RowView
seen_row v row known = looked_at (row_of (mine v) row) known (length (mine v).log)

-- the row after its next entry is read
abbrev pub read_row : View → ℕ → Received → RowView
read_row v row h = with_loaded (row_of (mine v) row) ((row_of (mine v) row).loaded + entry_size (length h.lits))

module _ (w : LogView) (v : View) (row : ℕ) (here : IsLogging w v) (other : IsOther v row) where
  pub row_here : slice_get (mine v).rows row ≡ Some (row_of (mine v) row)
  row_here =
      let r = get_there (mine v).rows row (let wide = here.numbered.wide in let within = other.0 in omega arith) in
      r.1 ∙ ap Some (sym (get_or_from_slice_get (mine v).rows row r.0 blank_row r.1))

  -- another row, of which no less is known, and other numbers of readings that fit it
  logging_row : (q : RowView) (reads : List ℕ) → IsPrefix (row_of (mine v) row).known q.known → IsWhole q → length reads ≡ length w.reads
      → ((n : ℕ) → slice_get reads row ≡ Some n → length (whole_within q.loaded q.known) ≡ n) → ((j : ℕ) → j ≢ row → slice_get reads j ≡ slice_get w.reads j)
      → IsLogging (record { number = w.number; entries = w.entries; reads = reads }) (with_part v (with_row (mine v) row q))
  logging_row q reads pre whole long now others =
      let b = here.booked in
      record {
        booked = record {
          one = refl;
          number = b.number;
          log = record { long = b.log.long; each = b.log.each };
          reads = record {
            wide = long ∙ (b.reads.wide ∙ sym (length-set (mine v).rows row q));
            each = λ j n r a at. elim (get_set_cases (mine v).rows row j q r at) [
              | inl e ↦ subst (λ (x : RowView). length (whole_within x.loaded x.known) ≡ n) (sym e.1) (now n (subst (λ k. slice_get reads k ≡ Some n) e.0 a))
              | inr e ↦ b.reads.each j n r (sym (others j e.0) ∙ a) e.1
            ];
            own = others (mine v).number (λ e. other.1 (sym e)) ∙ b.reads.own;
          };
          tickets = b.tickets;
          own = b.own;
          shared = b.shared;
        };
        numbered = record {
          within = here.numbered.within;
          wide = length-set (mine v).rows row q ∙ here.numbered.wide;
          own = λ x at. elim (get_set_cases (mine v).rows row (mine v).number q x at) [ inl e ↦ absurd (other.1 (sym e.0)) | inr e ↦ here.numbered.own x e.1 ];
        };
        whole = λ j x at. elim (get_set_cases (mine v).rows row j q x at) [ inl e ↦ subst (λ (y : RowView). IsWhole y) (sym e.1) whole | inr e ↦ here.whole j x e.1 ];
        new = new_with_row v.problem (mine v) row (row_of (mine v) row) q row_here pre here.new;
      }

  -- how many entries were read of it
  pub has_count : (d : ℕ) → slice_get w.reads row ≡ Some (get_or w.reads row d)
  has_count d = slice_get-get_or w.reads row d (let a = here.booked.reads.wide in let b = here.numbered.wide in let e = other.0 in omega arith)

  -- ---- a look

  whole_here : IsWhole (row_of (mine v) row)
  whole_here = here.whole row (row_of (mine v) row) row_here

  module _ (known : List Received) (pre : IsPrefix (row_of (mine v) row).known known) where
    pub logging_looked : IsLogging w (after_look v row known)
    logging_looked =
        logging_row (seen_row v row known) w.reads pre (whole_looked (row_of (mine v) row) known (length (mine v).log) whole_here pre) refl
        (λ n a. ap length (looked_reading (row_of (mine v) row) known whole_here pre) ∙ here.booked.reads.each row n (row_of (mine v) row) a row_here) (λ j apart. refl)

    pub looked_row : row_of (mine (after_look v row known)) row ≡ (seen_row v row known)
    looked_row = row_written (mine v).rows row (row_of (mine v) row) (seen_row v row known) row_here

    -- what is known by reading stays
    pub knows_looked : knows (mine (after_look v row known)) ≡ knows (mine v)
    knows_looked = ap (λ hs. lits_of (mine v).log ++ received_lits hs) (reading_same (mine v).rows row (row_of (mine v) row) (seen_row v row known) row_here (looked_reading (row_of (mine v) row) known whole_here pre))

  -- ---- a reading

  module _ (h : Received) (at : IsAt (row_of (mine v) row) h 0) where
    -- how many entries were read of the row
    pub read_here : (n : ℕ) → slice_get w.reads row ≡ Some n → length (whole_within (row_of (mine v) row).loaded (row_of (mine v) row).known) ≡ n
    read_here n a = here.booked.reads.each row n (row_of (mine v) row) a row_here

    pub logging_read : (n : ℕ) → slice_get w.reads row ≡ Some n → IsLogging (record { number = w.number; entries = w.entries; reads = set w.reads row (n + 1) }) (after_read v row h)
    logging_read n a =
        logging_row (read_row v row h) (set w.reads row (n + 1)) (prefix_refl (row_of (mine v) row).known)
        (whole_read (row_of (mine v) row) h ((row_of (mine v) row).loaded + entry_size (length h.lits)) at refl) (length-set w.reads row (n + 1))
        (λ m b.
        let now : n + 1 ≡ m = one_answer (slice_get (set w.reads row (n + 1)) row) (n + 1) m (written_here w.reads row (n + 1) n a) b in
        let long = ap length (reading_grows_law (row_of (mine v) row) h at) in
        let push = length-append (whole_within (row_of (mine v) row).loaded (row_of (mine v) row).known) (h ∷ []) in
        let old = read_here n a in
        omega arith)
        (λ j apart. get_set_other w.reads row j (n + 1) apart)

    pub heard_read : All (IsOver v.problem.vars) h.lits → AreHeard v.problem.vars (h.lits ∷ []) (knows (mine v)) (knows (mine (after_read v row h)))
    heard_read over =
        heard_entry v.problem.vars h (lits_of (mine v).log) (reading (mine v).rows) (reading (set (mine v).rows row (read_row v row h))) over
        (reading_more (mine v).rows row (row_of (mine v) row) (read_row v row h) h row_here (reading_grows_law (row_of (mine v) row) h at))

    -- and the count of them fits a word
    pub reads_fit : (n : ℕ) → slice_get w.reads row ≡ Some n → n + 1 ≤ length (spelled (row_of (mine v) row).known)
    reads_fit n a = let old = read_here n a in let few = reads_few (row_of (mine v) row) h at in omega arith

    pub less_unread : unread (row_of (mine (after_read v row h)) row) < unread (row_of (mine v) row)
    less_unread =
        subst (λ (x : RowView). unread x < unread (row_of (mine v) row)) (sym (row_written (mine v).rows row (row_of (mine v) row) (read_row v row h) row_here))
        (unread_less (row_of (mine v) row) h ((row_of (mine v) row).loaded + entry_size (length h.lits)) at refl)

-- ---- the first look

-- a log begins with its seat's number
pub logging_begun : (w : LogView) (v : View) → ((part : Part) → Contains v.parts part → IsNumbered v.workers part) → IsLogging w v ⊎ IsUnused w v → IsLogging w v
logging_begun w v numbers (inl here) = here
logging_begun w v numbers (inr (same, idle)) =
    let numbered = numbers (mine v) (subst (λ (ps : List Part). Contains ps (mine v)) (sym idle.one) (contains_head (mine v) [])) in
    subst (λ (x : LogView). IsLogging x v) (sym same) (record {
      booked = record {
        one = idle.one;
        number = refl;
        log = record { long = ap length (sym idle.log); each = λ k a e at bt. absurd (get_nothing k a at) };
        reads = record {
          wide = length-replicate v.workers 0 ∙ sym numbered.wide;
          each = λ j n r a bt.
              ap (λ m. length (whole_within m r.known)) (idle.unread j r bt) ∙ (ap length (whole_first [] r.known) ∙ sym (there_same v.workers j 0 n a));
          own = (
              let zeros : List ℕ = replicate v.workers 0 in
              let long : length zeros ≡ v.workers = length-replicate v.workers 0 in
              let r = get_there zeros (mine v).number (let b = numbered.within in omega arith) in
              r.1 ∙ ap Some (there_same v.workers (mine v).number 0 r.0 r.1)
              );
        };
        tickets = λ i j d e a b same. absurd (get_nothing i d (subst (λ (l : List Entry). slice_get l i ≡ Some d) idle.shared a));
        own = λ e m. absurd (contains_nothing e (subst (λ (l : List Entry). Contains l e) idle.shared m));
        shared = λ e m. absurd (contains_nothing e (subst (λ (l : List Entry). Contains l e) idle.log m));
      };
      numbered = numbered;
      whole = λ j r at. record { read = []; unread = r.known; all = refl; place = idle.unread j r at };
      new = λ k e at. absurd (get_nothing k e (subst (λ (l : List Entry). slice_get l k ≡ Some e) idle.log at));
    })

-- ---- row by row

-- one row more is heeded
pub heeded_more : (before after : Part) (row : ℕ) → OnlyRow row before after → HasHeeded before (length before.log) row → IsAllRead (row_of after row) → (row_of after row).log_then ≡ length after.log → HasHeeded after (length after.log) (row + 1)
heeded_more before after row only heeded read looked = λ j r lt at. elim (cases_eq j row) [
  | inl e ↦
      let is : row_of after row ≡ r = get_or_from_slice_get after.rows row r blank_row (subst (λ k. slice_get after.rows k ≡ Some r) e at) in
      (subst (λ (x : RowView). IsAllRead x) is read, λ apart. subst (λ (x : RowView). x.log_then ≡ length after.log) is looked)
  | inr apart ↦
      let old = heeded j r (omega arith) (sym (only.others j apart) ∙ at) in
      (old.0, λ other. old.1 (λ e. other (e ∙ sym only.only.number)) ∙ ap length (sym only.only.log))
]

-- the own row needs no look
pub heeded_own : (part : Part) (since row workers : ℕ) → IsNumbered workers part → row ≡ part.number → HasHeeded part since row → HasHeeded part since (row + 1)
heeded_own part since row workers numbered here heeded = λ j r lt at. elim (cases_eq j row) [
  | inl e ↦
      let blank = numbered.own r (subst (λ k. slice_get part.rows k ≡ Some r) (e ∙ here) at) in
      (blank.loaded ∙ ap (λ (k : List Received). length (spelled k)) (sym blank.known), λ apart. absurd (apart (e ∙ here)))
  | inr apart ↦ heeded j r (omega arith) at
]

-- readings one after another
pub only_then : (a b c : Part) → OnlyReads a b → OnlyReads b c → OnlyReads a c
only_then a b c x y = record {
  number = y.number ∙ x.number;
  log = y.log ∙ x.log;
  shared = y.shared ∙ x.shared;
  seen = y.seen ∙ x.seen;
  offers = y.offers ∙ x.offers;
  loads = y.loads ∙ x.loads;
}

pub only_row_then : (row : ℕ) (a b c : Part) → OnlyRow row a b → OnlyRow row b c → OnlyRow row a c
only_row_then row a b c x y = record { only = only_then a b c x.only y.only; others = λ j apart. y.others j apart ∙ x.others j apart }

pub only_same : (a : Part) → OnlyReads a a
only_same a = record { number = refl; log = refl; shared = refl; seen = refl; offers = refl; loads = refl }

-- another row
pub only_row : (part : Part) (row : ℕ) (q : RowView) → OnlyRow row part (with_row part row q)
only_row part row q = record { only = record { number = refl; log = refl; shared = refl; seen = refl; offers = refl; loads = refl }; others = λ j apart. get_set_other part.rows row j q apart }

-- ---- the loop over the rows

-- the first rows are heeded, and these clauses were heard since the start
pub record HeardTo (start now : SeatState) (w : LogView) (clauses : List (List Lit)) (row : ℕ) : Type 0 where
  pub same : exchange_of now ≡ exchange_of start
  pub logging : IsLogging w now.view
  pub only : OnlyReads (mine start.view) (mine now.view)
  pub heeded : HasHeeded (mine now.view) (length (mine now.view).log) row
  pub heard : AreHeard start.view.problem.vars clauses (knows (mine start.view)) (knows (mine now.view))

pub heard_row : (start now end : SeatState) (w x : LogView) (heard more : List (List Lit)) (row : ℕ) → HeardTo start now w heard row → exchange_of end ≡ exchange_of now → IsLogging x end.view → OnlyRow row (mine now.view) (mine end.view)
    → ((known : List (List Lit)) → AreHeard now.view.problem.vars heard known (knows (mine now.view)) → AreHeard now.view.problem.vars more known (knows (mine end.view)))
    → IsAllRead (row_of (mine end.view) row) × ((row_of (mine end.view) row).log_then ≡ length (mine end.view).log) → HeardTo start end x more (row + 1)
heard_row start now end w x heard more row to same logging only hears heeds =
    let vars = ap (λ (e : ExchangeId). e.problem.vars) to.same in
    record {
      same = same ∙ to.same;
      logging = logging;
      only = only_then (mine start.view) (mine now.view) (mine end.view) to.only only.only;
      heeded = heeded_more (mine now.view) (mine end.view) row only to.heeded heeds.0 heeds.1;
      heard =
          subst (λ n. AreHeard n more (knows (mine start.view)) (knows (mine end.view))) vars
          (hears (knows (mine start.view)) (subst (λ n. AreHeard n heard (knows (mine start.view)) (knows (mine now.view))) (sym vars) to.heard));
    }

pub heard_own : (start now : SeatState) (w : LogView) (heard : List (List Lit)) (row : ℕ) → HeardTo start now w heard row → row ≡ w.number → HeardTo start now w heard (row + 1)
heard_own start now w heard row to own = record {
  same = to.same;
  logging = to.logging;
  only = to.only;
  heeded = heeded_own (mine now.view) (length (mine now.view).log) row now.view.workers to.logging.numbered (own ∙ to.logging.booked.number) to.heeded;
  heard = to.heard;
}
