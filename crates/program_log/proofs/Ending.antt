-- The answer to a whole text whose entries were taken as they came.
use Rattle.std.proofs.Common.{◌≡◌, ◌≢◌, ℕ, ◌+◌, Bool, true, false, List, ◌<◌, length, refl, ap, sym, ◌∙◌, subst}
use Rattle.std.proofs.lemmas.Option.{slice_get_within}
use Rattle.c_check.specs.declared.checked.Checked.{Checked}
use Rattle.cnf_problem.specs.declared.problem.Head.{Head}
use Rattle.encode_match.specs.declared.Encoded.{Encoded}
use Rattle.lemma_log.specs.Hinting.{AreHintsFor}
use Rattle.lemma_log.specs.Tickets.{AreInOrder}
use Rattle.lemma_log.specs.declared.Entry.{Entry}
use Rattle.lemma_log.specs.declared.Log.{Log}
use Rattle.lemma_log.specs.declared.hints.Hint.{Hint}
use Rattle.lemma_log.specs.declared.hints.HintedLog.{HintedLog}
use Rattle.lemma_log.specs.declared.hints.AnyLog.TheVariants as any
use Rattle.log_checker.specs.declared.refused.Refused.{Refused as Refusal}
use Rattle.log_checker.specs.declared.refused.Refused.TheVariants.{OutOfMemory as NoMemory}
use Rattle.log_checker.specs.Checking.{CheckerView, HasTaken}
use Rattle.log_checker.specs.Goodness.{EndsEmpty, IsGood}
use Rattle.log_checker.specs.Hints.{IsGoodHinted}
use Rattle.log_checker.specs.Refusals.{Fails, IsHintedRefusal, IsRefusal}
use Rattle.log_checker.specs.Refusals.Fails.{entry_fails}
use Rattle.log_text.specs.Formats.{Row, Written, head_lines}
use Rattle.log_text.specs.Spelling.{HasHead, Spells, hinted_rows}
use Rattle.log_text.proofs.Logs.{hints_for, in_order, plain_told}
use Rattle.program_log.specs.declared.answers.LogAnswer.{LogAnswer}
use Rattle.program_log.specs.declared.answers.LogAnswer.TheVariants.{Accepted, OtherProblem, Refused}
use Rattle.program_log.specs.declared.heads.OtherLine.{OtherLine}
use Rattle.program_log.specs.declared.standing.Standing.TheVariants.{Other, Plain, Hinted, Failed}
use Rattle.program_log.specs.Heads.{FirstOther, head_of}
use Rattle.program_log.specs.Logs.{IsAnswerFor, IsLogText, accepted, other_problem, refused}
use Rattle.program_log.specs.Pieces.{IsItsHead, IsOfSame, IsWhole}
use Rattle.program_log.proofs.Answering.{refused_log, with_head}

-- the line in which the heads differ is one of theirs
pub other_place : (p : Checked) (x : Encoded) (text : List ℕ) (o : OtherLine) → IsWhole x.problem (head_of p x) text (Other o) → o.place < 6
other_place p x text o h = let first = (h.standing).first in slice_get_within (head_lines (head_of p x)) o.place o.ours first.here

pub is_other : (p : Checked) (x : Encoded) (text : List ℕ) (o : OtherLine) (a : LogAnswer) → a ≡ OtherProblem (o.place + 2) o.theirs o.ours → IsWhole x.problem (head_of p x) text (Other o) → IsAnswerFor p x text a
is_other p x text o a is h =
    let y = h.standing in
    let first = subst (λ (d : Head). FirstOther (head_lines d) (head_lines (head_of p x)) o.place o.theirs o.ours) (sym (y.known).0) y.first in
    subst (IsAnswerFor p x text) (sym is) (other_problem h.log o.place o.theirs o.ours h.spelled first)

-- a log with these entries, whose text it is
record IsPlainText (p : Checked) (x : Encoded) (text : List ℕ) (es : List Entry) : Type 0 where
  log : Log
  same : log.entries ≡ es
  spelled : IsLogText p x (any.Plain log) text

record IsHintsText (p : Checked) (x : Encoded) (text : List ℕ) (es : List Entry) (hs : List (List Hint)) : Type 0 where
  log : HintedLog
  same : log.log.entries ≡ es
  same_hints : log.hints ≡ hs
  spelled : IsLogText p x (any.Hinted log) text

module _ (p : Checked) (x : Encoded) (text : List ℕ) (can : HasHead (head_of p x)) where
  -- the text with the problem's own head
  own_text : (w : Written) (hinted : Bool) (P : List Entry → List (List Hint) → Type 0) → Spells false w text → (y : IsOfSame (head_of p x) (IsItsHead w) w.rows hinted P)
      → Spells false (record { hinted = hinted; head = head_of p x; rows = hinted_rows y.entries y.hints }) text
  own_text w hinted P s y =
      let known = y.known in
      let lines : head_lines w.head ≡ head_lines (head_of p x) = ap (λ (d : Head). head_lines d) known.0 ∙ y.same in
      let own = with_head w (head_of p x) text lines can s in
      subst (λ (rs : List Row). Spells false (record { hinted = hinted; head = head_of p x; rows = rs }) text) (sym y.rows)
      (subst (λ (b : Bool). Spells false (record { hinted = b; head = head_of p x; rows = w.rows }) text) known.1 own)

  -- ---- without hints

  plain_text : (w : Written) (P : List Entry → List (List Hint) → Type 0) → Spells false w text → (y : IsOfSame (head_of p x) (IsItsHead w) w.rows false P) → IsPlainText p x text y.entries
  plain_text w P s y =
      let own = own_text w false P s y in
      let can = own.writable in
      record {
        log = record { entries = y.entries; in_order = in_order y.entries y.hints can.in_turn can.few };
        same = refl;
        spelled = plain_told false (head_of p x) false y.entries y.hints text refl own;
      }

  pub plain_accepted : (c : CheckerView) (n : ℕ) → ((es : List Entry) → HasTaken x.problem es c → EndsEmpty es × (n ≡ length es)) → IsWhole x.problem (head_of p x) text (Plain c) → IsAnswerFor p x text (Accepted n)
  plain_accepted c n f h =
      let y = h.standing in
      let t = plain_text h.log (λ entries hints. HasTaken x.problem entries c) h.spelled y in
      let end = f y.entries y.holds in
      let count : length t.log.entries ≡ n = ap (λ (l : List Entry). length l) t.same ∙ sym end.1 in
      subst (λ (m : ℕ). IsAnswerFor p x text (Accepted m)) count (accepted (any.Plain t.log) (record {
        spelled = t.spelled;
        good = subst (IsGood x.problem) (sym t.same) (y.holds).good;
        empty = subst EndsEmpty (sym t.same) end.0;
      }))

  pub plain_refused : (c : CheckerView) (why : Refusal) → ((es : List Entry) → HasTaken x.problem es c → IsRefusal x.problem es why) → why ≢ NoMemory → IsWhole x.problem (head_of p x) text (Plain c) → IsAnswerFor p x text (Refused why)
  plain_refused c why f not h =
      let y = h.standing in
      let t = plain_text h.log (λ entries hints. HasTaken x.problem entries c) h.spelled y in
      (refused_log p x (any.Plain t.log) text why (Refused why) (subst (λ (es : List Entry). IsRefusal x.problem es why) (sym t.same) (f y.entries y.holds)) not refl t.spelled).0

  pub failed_refused : (why : Refusal) → IsWhole x.problem (head_of p x) text (Failed why) → IsAnswerFor p x text (Refused why)
  failed_refused why h =
      let y = h.standing in
      let f = y.holds in
      let t = plain_text h.log _ h.spelled y in
      let fails : Fails x.problem y.entries why = entry_fails f.place f.entry why f.there f.good f.fails in
      refused (any.Plain t.log) why t.spelled (subst (λ (es : List Entry). Fails x.problem es why) (sym t.same) fails)

  -- ---- with hints

  hinted_text : (es : List Entry) (hs : List (List Hint)) → IsWhole x.problem (head_of p x) text (Hinted es hs) → IsHintsText p x text es hs
  hinted_text es hs h =
      let y = h.standing in
      let own = own_text h.log true (λ entries hints. (entries ≡ es) × (hints ≡ hs)) h.spelled y in
      let can = own.writable in
      record {
        log = record {
          log = record { entries = y.entries; in_order = in_order y.entries y.hints can.in_turn can.few };
          hints = y.hints;
          matched = hints_for true y.entries y.hints y.one_each can.rows;
        };
        same = (y.holds).0;
        same_hints = (y.holds).1;
        spelled = own;
      }

  pub hinted_in_order : (es : List Entry) (hs : List (List Hint)) → IsWhole x.problem (head_of p x) text (Hinted es hs) → AreInOrder es
  hinted_in_order es hs h = let t = hinted_text es hs h in subst AreInOrder t.same t.log.log.in_order

  pub hinted_matched : (es : List Entry) (hs : List (List Hint)) → IsWhole x.problem (head_of p x) text (Hinted es hs) → AreHintsFor es hs
  hinted_matched es hs h = let t = hinted_text es hs h in subst (λ (gs : List (List Hint)). AreHintsFor es gs) t.same_hints (subst (λ (fs : List Entry). AreHintsFor fs t.log.hints) t.same t.log.matched)

  pub hinted_accepted : (es : List Entry) (hs : List (List Hint)) (n : ℕ) → IsGoodHinted x.problem es hs → EndsEmpty es → n ≡ length es → IsWhole x.problem (head_of p x) text (Hinted es hs) → IsAnswerFor p x text (Accepted n)
  hinted_accepted es hs n good ends is h =
      let t = hinted_text es hs h in
      let count : length t.log.log.entries ≡ n = ap (λ (l : List Entry). length l) t.same ∙ sym is in
      subst (λ (m : ℕ). IsAnswerFor p x text (Accepted m)) count (accepted (any.Hinted t.log) (record {
        spelled = t.spelled;
        good = subst (λ (fs : List Entry). IsGoodHinted x.problem fs t.log.hints) (sym t.same) (subst (λ (gs : List (List Hint)). IsGoodHinted x.problem es gs) (sym t.same_hints) good);
        empty = subst EndsEmpty (sym t.same) ends;
      }))

  pub hinted_refused : (es : List Entry) (hs : List (List Hint)) (why : Refusal) → IsHintedRefusal x.problem es hs why → why ≢ NoMemory → IsWhole x.problem (head_of p x) text (Hinted es hs) → IsAnswerFor p x text (Refused why)
  hinted_refused es hs why r not h =
      let t = hinted_text es hs h in
      let own = subst (λ (fs : List Entry). IsHintedRefusal x.problem fs t.log.hints why) (sym t.same) (subst (λ (gs : List (List Hint)). IsHintedRefusal x.problem es gs why) (sym t.same_hints) r) in
      (refused_log p x (any.Hinted t.log) text why (Refused why) own not refl t.spelled).0
