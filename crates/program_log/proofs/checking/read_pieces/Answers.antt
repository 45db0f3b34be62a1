use Rattle.std.proofs.Common.{◌≡◌, [], ◌++◌, rules, false, refl, ap, sym, ◌∙◌, append_assoc, append-nil, subst, Some}
use Rattle.std.proofs.lemmas.List.{nil_from_length}
use Rattle.log_text.specs.Faults.{IsFaultOf}
use Rattle.program_log.specs.Pieces.{IsBetween}
use Rattle.program_log.proofs.Readings.{nothing_known}
use Rattle.program_log.proofs.Standings.{between_read, fed_more, goes_wrong, whole}
use Rattle.program_log.proofs.checking.read_pieces.Goals as goal

pub loop-rest-init : goal.loop-rest-init
loop-rest-init c = record { fed = []; parts = refl; between = (c.in_ok-reader.ensures, nothing_known c.in_ok-reader.reader [] c.in_ok-reader.ensures) }

pub returns-in_err-feed-clause-refused : goal.returns-in_err-feed-clause-refused
returns-in_err-feed-clause-refused c =
    let text = c.args.text.now in
    let was = c.loop-rest.invariant in
    let piece = c.split_at.result.0.now in
    let behind = c.split_at.result.1.now in
    let read = between_read c.args.problem.now c.args.ours.now c.loop-rest.reader was.fed c.loop-rest.standing was.between in
    let e = c.in_err-feed.field-0.0 in
    let parts : text ≡ (was.fed ++ piece) ++ behind = was.parts ∙ (ap (λ l. was.fed ++ l) c.split_at.ensures.by_index.0 ∙ sym (append_assoc was.fed piece behind)) in
    let fact : IsFaultOf false text e = goes_wrong text (was.fed ++ piece) behind e parts (c.in_err-feed.ensures.refused false was.fed read.0 read.1) in
    search rules

pub go_on-requires : goal.go_on-requires
go_on-requires c =
    let was = c.loop-rest.invariant in
    let piece = c.split_at.result.0.now in
    (was.fed ++ piece, fed_more c.args.problem.now c.args.ours.now c.loop-rest.reader c.feed.new.self was.fed piece c.loop-rest.standing (c.in_ok-feed.ensures.reads (λ e. cc)) was.between)

pub loop-rest-preserved : goal.loop-rest-preserved
loop-rest-preserved c =
    let was = c.loop-rest.invariant in
    let piece = c.split_at.result.0.now in
    let behind = c.split_at.result.1.now in
    let fed = fed_more c.args.problem.now c.args.ours.now c.loop-rest.reader c.feed.new.self was.fed piece c.loop-rest.standing (c.in_ok-feed.ensures.reads (λ e. cc)) was.between in
    record {
      fed = was.fed ++ piece;
      parts = was.parts ∙ (ap (λ l. was.fed ++ l) c.split_at.ensures.by_index.0 ∙ sym (append_assoc was.fed piece behind));
      between = c.in_ok-standing.ensures (was.fed ++ piece) fed;
    }

pub returns-in_err-finish-clause-refused : goal.returns-in_err-finish-clause-refused
returns-in_err-finish-clause-refused c =
    let was = c.loop-rest.invariant in
    let empty : c.loop-rest.rest.now ≡ [] = nil_from_length c.loop-rest.rest.now (search rules) in
    let all : was.fed ≡ c.args.text.now = sym (was.parts ∙ (ap (λ l. was.fed ++ l) empty ∙ append-nil was.fed)) in
    let read = between_read c.args.problem.now c.args.ours.now c.loop-rest.reader was.fed c.loop-rest.standing was.between in
    let e = c.in_err-finish.field-0.0 in
    let fact : IsFaultOf false c.args.text.now e = subst (λ t. IsFaultOf false t e) all (c.in_err-finish.ensures.refused false was.fed read.0 read.1) in
    search rules

pub unreachable-requires : goal.unreachable-requires
unreachable-requires c =
    let was = c.loop-rest.invariant in
    let none = subst (IsBetween c.args.problem.now c.args.ours.now c.loop-rest.reader was.fed) c.in-None.is was.between in
    let t = c.in_ok-finish.ensures.ok false was.fed [] none.0 in
    none.1 t.0.head t.0.hinted t.2.head t.2.hinted

pub returns-clause-ok : goal.returns-clause-ok
returns-clause-ok c =
    let q = c.args.problem.now in
    let ours = c.args.ours.now in
    let text = c.args.text.now in
    let was = c.loop-rest.invariant in
    let empty : c.loop-rest.rest.now ≡ [] = nil_from_length c.loop-rest.rest.now (search rules) in
    let all : was.fed ≡ text = sym (was.parts ∙ (ap (λ l. was.fed ++ l) empty ∙ append-nil was.fed)) in
    let standing = subst (IsBetween q ours c.loop-rest.reader was.fed) c.in-Some.is was.between in
    whole q ours c.loop-rest.reader text c.in-Some.standing (subst (λ t. IsBetween q ours c.loop-rest.reader t (Some c.in-Some.standing)) all standing) (λ given read. c.in_ok-finish.ensures.ok false text given read)
