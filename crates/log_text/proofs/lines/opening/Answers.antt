use Rattle.std.proofs.Common.{◌≡◌, ◌<◌, drop, Some, None, refl, ap, sym, ◌∙◌, arith}
use Rattle.line_text.specs.Words.{Cut, front_word, next_word, number_in, place}
use Rattle.line_text.proofs.Worded.{next_words}
use Rattle.log_text.specs.Lines.{kind_in}
use Rattle.log_text.proofs.Taking.{opening_no_worker, opening_short, opening_shorter, opening_with}
use Rattle.log_text.proofs.lines.opening.Goals as goal

pub returns-in_err-word : goal.returns-in_err-word
returns-in_err-word c =
    let line = c.args.line.now in
    let none : next_word (drop (place 32 line) line) ≡ None = ap next_word (sym c.first_word.ensures.rest) ∙ c.in_err-word.ensures.word in
    rw c.from_residual-in_err-word.ensures (opening_short c.args.next line none)

pub returns-in_err-worker : goal.returns-in_err-worker
returns-in_err-worker c =
    let line = c.args.line.now in
    let p : Cut = record { front = c.in_ok-word.word.now; behind = c.in_ok-word.rest.now } in
    let first : next_word (drop (place 32 line) line) ≡ Some p = ap next_word (sym c.first_word.ensures.rest) ∙ c.in_ok-word.ensures.word in
    rw c.from_residual-in_err-worker.ensures (opening_no_worker c.args.next line p first (sym c.in_err-worker.ensures))

pub returns-in_err-word-2 : goal.returns-in_err-word-2
returns-in_err-word-2 c =
    let line = c.args.line.now in
    let p : Cut = record { front = c.in_ok-word.word.now; behind = c.in_ok-word.rest.now } in
    let first : next_word (drop (place 32 line) line) ≡ Some p = ap next_word (sym c.first_word.ensures.rest) ∙ c.in_ok-word.ensures.word in
    rw c.from_residual-in_err-word-2.ensures (opening_shorter c.args.next line p first c.in_err-word-2.ensures.word)

pub returns-in_err-kind : goal.returns-in_err-kind
returns-in_err-kind c =
    let line = c.args.line.now in
    let p : Cut = record { front = c.in_ok-word.word.now; behind = c.in_ok-word.rest.now } in
    let q : Cut = record { front = c.in_ok-word-2.word.now; behind = c.in_ok-word-2.rest.now } in
    let first : next_word (drop (place 32 line) line) ≡ Some p = ap next_word (sym c.first_word.ensures.rest) ∙ c.in_ok-word.ensures.word in
    let same : c.in_ok-number.field-0 ≡ c.args.next = omega arith in
    let number : number_in (front_word line) ≡ Some c.args.next = ap number_in (sym c.first_word.ensures.word) ∙ (sym c.in_ok-number.ensures ∙ ap Some same) in
    let small : c.args.next < 4294967295 = omega arith in
    let all = opening_with c.args.next line p q c.in_ok-worker.worker number small first (sym c.in_ok-worker.ensures) c.in_ok-word-2.ensures.word in
    let none : kind_in q.front ≡ None = sym c.in_err-kind.ensures in
    rw c.from_residual-in_err-kind.ensures (all ∙ rw none refl)

pub returns : goal.returns
returns c =
    let line = c.args.line.now in
    let p : Cut = record { front = c.in_ok-word.word.now; behind = c.in_ok-word.rest.now } in
    let q : Cut = record { front = c.in_ok-word-2.word.now; behind = c.in_ok-word-2.rest.now } in
    let first : next_word (drop (place 32 line) line) ≡ Some p = ap next_word (sym c.first_word.ensures.rest) ∙ c.in_ok-word.ensures.word in
    let same : c.in_ok-number.field-0 ≡ c.args.next = omega arith in
    let number : number_in (front_word line) ≡ Some c.args.next = ap number_in (sym c.first_word.ensures.word) ∙ (sym c.in_ok-number.ensures ∙ ap Some same) in
    let small : c.args.next < 4294967295 = omega arith in
    let all = opening_with c.args.next line p q c.in_ok-worker.worker number small first (sym c.in_ok-worker.ensures) c.in_ok-word-2.ensures.word in
    let some : kind_in q.front ≡ Some c.in_ok-kind.kind = sym c.in_ok-kind.ensures in
    (all ∙ rw some refl, (next_words c.in_ok-word.rest.now q c.in_ok-word-2.ensures.word).opens_behind, small)
