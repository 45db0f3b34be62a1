-- How a log stands behind one entry more, and behind one piece more.
use Rattle.std.proofs.Common.{◌≡◌, ◌≢◌, ℕ, Bool, true, false, List, [], ◌∷◌, ◌++◌, length, take, Option, Some, None, refl, ap, sym, ◌∙◌, subst, append_assoc, append-nil, arith}
use Rattle.std.specs.Prelude.{IfOk, OnOk, Result, Ok, Err}
use Rattle.std.proofs.lemmas.List.{take-append-le, take_at}
use Rattle.std.proofs.lemmas.Option.{slice_get_within}
use Rattle.dg_base.proofs.Lists.{get_append_left, get_push_last}
use Rattle.dg_base.specs.declared.Lit.{Lit}
use Rattle.line_text.specs.Lines.{Refuses}
use Rattle.line_text.proofs.Reading.{refused_more}
use Rattle.cnf_problem.specs.declared.problem.Head.{Head}
use Rattle.cnf_problem.specs.declared.problem.Problem.{Problem}
use Rattle.lemma_log.specs.declared.Entry.{Entry}
use Rattle.lemma_log.specs.declared.hints.Hint.{Hint}
use Rattle.lemma_log.specs.declared.hints.HintedEntry.{HintedEntry}
use Rattle.log_checker.specs.declared.refused.Refused.{Refused as Refusal}
use Rattle.log_checker.specs.declared.refused.Refused.TheVariants as refusal
use Rattle.log_checker.specs.Checking.{CheckerView, HasTaken}
use Rattle.log_checker.specs.Goodness.{IsGood, clauses_of}
use Rattle.log_checker.specs.Refusals.{EntryFails, IsEntryRefusal}
use Rattle.log_text.specs.declared.reading.LogFault.{LogFault}
use Rattle.log_text.specs.declared.reading.LogFault.TheVariants.{LogText, OutOfMemory as NoMemory}
use Rattle.log_text.specs.Faults.{IsFaultOf, IsFaultOfLines}
use Rattle.log_text.specs.Fed.{HasRead, ReaderView, Tells}
use Rattle.log_text.specs.Formats.{Row, Written}
use Rattle.log_text.specs.Spelling.{Spells, row_of, rows_of}
use Rattle.log_text.proofs.Logs.{one_more_each, rows_len, rows_push}
use Rattle.program_log.specs.declared.standing.Standing.{Standing}
use Rattle.program_log.specs.declared.standing.Standing.TheVariants.{Other, Plain, Hinted, Failed}
use Rattle.program_log.specs.Pieces.{HasStanding, IsBetween, IsChecked, IsFed, IsHeadOf, IsItsHead, IsNext, IsOfSame, IsStanding, IsWhole, MayTake, OneFails}
use Rattle.program_log.proofs.Readings.{next_entry}

-- ---- one entry fails

-- no want of memory is told
fails_of : (q : Problem) (before : List (List Lit)) (e : Entry) (r : Refusal) → IsEntryRefusal q before e r → r ≢ refusal.OutOfMemory → EntryFails q before e r
fails_of q before e (refusal.BadNumber t v) h not = h
fails_of q before e (refusal.NotImplied t reached) h not = h
fails_of q before e (refusal.BadHint t n) h not = h
fails_of q before e (refusal.NoCycle t local global) h not = h
fails_of q before e (refusal.NoEmpty n) h not = h
fails_of q before e refusal.OutOfMemory h not = absurd (not refl)

pub last_fails : (q : Problem) (es : List Entry) (e : Entry) (r : Refusal) → IsGood q es → IsEntryRefusal q (clauses_of es) e r → r ≢ refusal.OutOfMemory → OneFails q (es ++ e ∷ []) r
last_fails q es e r good h not =
    let front : take (length es) (es ++ e ∷ []) ≡ es = take_at es (e ∷ []) (length es) refl in
    record {
      place = length es;
      entry = e;
      there = get_push_last es e;
      good = subst (IsGood q) (sym front) good;
      fails = subst (λ (l : List Entry). EntryFails q (clauses_of l) e r) (sym front) (fails_of q (clauses_of es) e r h not);
    }

-- an answer that is one value, where a refusal is told
pub told_so : {T E : Type 0} (r : Result T E) (v : T) (why : Refusal) (P : T → Type 0) → IfOk r (λ t. t ≡ v) → OnOk r (why ≢ refusal.OutOfMemory) → (why ≢ refusal.OutOfMemory → P v) → IfOk r P
told_so (Ok t) v why P is told f = subst P (sym is) (f told)
told_so (Err e) v why P is told f = tt

pub fails_still : (q : Problem) (es : List Entry) (e : Entry) (r : Refusal) → OneFails q es r → OneFails q (es ++ e ∷ []) r
fails_still q es e r f =
    let within = slice_get_within es f.place f.entry f.there in
    let front : take f.place (es ++ e ∷ []) ≡ take f.place es = take-append-le f.place es (e ∷ []) (omega arith) in
    record {
      place = f.place;
      entry = f.entry;
      there = get_append_left es (e ∷ []) f.place f.entry f.there;
      good = subst (IsGood q) (sym front) f.good;
      fails = subst (λ (l : List Entry). EntryFails q (clauses_of l) f.entry r) (sym front) f.fails;
    }

-- ---- one entry more

pub same_more : (ours : Head) (Known : Head → Bool → Type 0) (given : List Row) (hinted : Bool) (P Q : List Entry → List (List Hint) → Type 0) (e : Entry) (h : List Hint)
    → ((es : List Entry) (hs : List (List Hint)) → P es hs → Q (es ++ e ∷ []) (hs ++ h ∷ [])) → IsOfSame ours Known given hinted P → IsOfSame ours Known (given ++ row_of e h ∷ []) hinted Q
same_more ours Known given hinted P Q e h f x = record {
  head = x.head;
  known = x.known;
  same = x.same;
  entries = x.entries ++ e ∷ [];
  hints = x.hints ++ h ∷ [];
  rows = rows_push x.entries x.hints e h x.one_each ∙ ap (λ l. l ++ row_of e h ∷ []) x.rows;
  one_each = one_more_each x.entries x.hints e h x.one_each;
  holds = f x.entries x.hints x.holds;
}

-- a checker that was given the entry
pub checked_more : (q : Problem) (ours : Head) (Known : Head → Bool → Type 0) (given : List Row) (c : CheckerView) (e : Entry) (h : List Hint) (s : Standing)
    → ((es : List Entry) → HasTaken q es c → IsChecked q (es ++ e ∷ []) s) → IsStanding q ours Known given (Plain c) → IsStanding q ours Known (given ++ row_of e h ∷ []) s
checked_more q ours Known given c e h (Other o) f x = absurd (f x.entries x.holds)
checked_more q ours Known given c e h (Plain d) f x = same_more ours Known given false _ _ e h (λ es hs t. f es t) x
checked_more q ours Known given c e h (Hinted fs gs) f x = absurd (f x.entries x.holds)
checked_more q ours Known given c e h (Failed r) f x = same_more ours Known given false _ _ e h (λ es hs t. f es t) x

-- the entry that comes next may be taken
pub may_take : (q : Problem) (ours : Head) (r : ReaderView) (fed : List ℕ) (s : Standing) (e : Entry) (h : List Hint) (rest : List HintedEntry)
    → r.ready ≡ record { entry = e; hints = h } ∷ rest → HasStanding q ours r fed s → MayTake q e s
may_take q ours r fed (Other o) e h rest ready x = tt
may_take q ours r fed (Plain c) e h rest ready x =
    let y = x.standing in
    let next = next_entry r fed x.given e h rest x.read ready in
    let long : length x.given ≡ c.taken = ap (λ (l : List Row). length l) (sym y.rows) ∙ (rows_len y.entries y.hints ∙ sym (y.holds).counted) in
    ((y.entries, y.holds), subst (IsNext e) long next)
may_take q ours r fed (Hinted es hs) e h rest ready x = tt
may_take q ours r fed (Failed why) e h rest ready x = tt

-- ---- what is known of the head

pub head_more : (fed piece : List ℕ) (head : Head) (hinted : Bool) → IsHeadOf fed head hinted → IsHeadOf (fed ++ piece) head hinted
head_more fed piece head hinted h w more s = h w (piece ++ more) (subst (Spells false w) (append_assoc fed piece more) s)

module _ (ours : Head) (K L : Head → Bool → Type 0) (f : (h : Head) (b : Bool) → K h b → L h b) where
  same_known : (given : List Row) (hinted : Bool) (P : List Entry → List (List Hint) → Type 0) → IsOfSame ours K given hinted P → IsOfSame ours L given hinted P
  same_known given hinted P x = record { head = x.head; known = f x.head hinted x.known; same = x.same; entries = x.entries; hints = x.hints; rows = x.rows; one_each = x.one_each; holds = x.holds }

  pub standing_known : (q : Problem) (given : List Row) (s : Standing) → IsStanding q ours K given s → IsStanding q ours L given s
  standing_known q given (Other o) x = record { head = x.head; hinted = x.hinted; known = f x.head x.hinted x.known; first = x.first }
  standing_known q given (Plain c) x = same_known given false _ x
  standing_known q given (Hinted es hs) x = same_known given true _ x
  standing_known q given (Failed r) x = same_known given false _ x

-- ---- one piece more

pub fed_more : (q : Problem) (ours : Head) (old new : ReaderView) (fed piece : List ℕ) (o : Option Standing)
    → ((b : Bool) (fed : List ℕ) (given : List Row) → HasRead b old fed given → HasRead b new (fed ++ piece) given) → IsBetween q ours old fed o → IsFed q ours new (fed ++ piece) o
fed_more q ours old new fed piece None reads h = reads false fed [] h.0
fed_more q ours old new fed piece (Some s) reads h =
    let x = h.0 in
    record {
      given = x.given;
      read = reads false fed x.given x.read;
      standing = standing_known ours (IsHeadOf fed) (IsHeadOf (fed ++ piece)) (head_more fed piece) q x.given s x.standing;
    }

pub between_read : (q : Problem) (ours : Head) (r : ReaderView) (fed : List ℕ) (o : Option Standing) → IsBetween q ours r fed o → (given : List Row) × HasRead false r fed given
between_read q ours r fed None h = ([], h.0)
between_read q ours r fed (Some s) h = let x = h.0 in (x.given, x.read)

-- the lines that were read go wrong, and so the whole text
pub goes_wrong : (text fed behind : List ℕ) (e : LogFault) → text ≡ fed ++ behind → IsFaultOfLines false fed e → IsFaultOf false text e
goes_wrong text fed behind (LogText line) is h = subst (λ t. Refuses (Spells false) t line) (sym is) (refused_more (Spells false) fed behind line h).refuses
goes_wrong text fed behind NoMemory is h = tt

-- ---- the whole text

pub whole : (q : Problem) (ours : Head) (r : ReaderView) (text : List ℕ) (s : Standing) → IsBetween q ours r text (Some s) → ((given : List Row) → HasRead false r text given → (w : Written) × Spells false w text × Tells r given w)
    → IsWhole q ours text s
whole q ours r text s h told =
    let x = h.0 in
    let t = told x.given x.read in
    let w = t.0 in
    let rows : x.given ≡ w.rows = sym (append-nil x.given) ∙ (ap (λ l. x.given ++ rows_of l) (sym h.1) ∙ sym (t.2).rows) in
    let all = subst (Spells false w) (sym (append-nil text)) t.1 in
    let standing = standing_known ours (IsHeadOf text) (IsItsHead w) (λ head hinted k. k w [] all) q x.given s x.standing in
    record { log = w; spelled = t.1; standing = subst (λ (l : List Row). IsStanding q ours (IsItsHead w) l s) rows standing }
