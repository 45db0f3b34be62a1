use Rattle.std.proofs.Common.{◌≡◌, [], ◌++◌, rules, append-nil, ap, sym, ◌∙◌}
use Rattle.log_text.specs.Fed.{HasRead, ReaderView}
use Rattle.log_text.specs.Spelling.{hinted_rows, rows_of}
use Rattle.log_text.proofs.Feeding.{given_all, whole_told}
use Rattle.log_text.proofs.whole.parts.Goals as goal

pub returns-in_err-finish-clause-refused : goal.returns-in_err-finish-clause-refused
returns-in_err-finish-clause-refused c =
    let text = c.args.text.now in
    let p = c.args.plain_only in
    let fed : HasRead p c.feed.new.self text [] = c.in_ok-feed.ensures.reads (λ e. cc) p [] [] c.in_ok-reader.ensures in
    let taken = given_all p c.feed.new.self c.take_all.new.reader text [] c.in_ok-entries.ensures.taken fed in
    let fact = c.in_err-finish.ensures.refused p text (rows_of c.feed.new.self.ready) taken in
    search rules

pub returns-clause-read : goal.returns-clause-read
returns-clause-read c =
    let text = c.args.text.now in
    let p = c.args.plain_only in
    let rows = rows_of c.feed.new.self.ready in
    let fed : HasRead p c.feed.new.self text [] = c.in_ok-feed.ensures.reads (λ e. cc) p [] [] c.in_ok-reader.ensures in
    let taken : HasRead p c.take_all.new.reader text rows = given_all p c.feed.new.self c.take_all.new.reader text [] c.in_ok-entries.ensures.taken fed in
    let ready : c.take_all.new.reader.ready ≡ [] = ap (λ (r : ReaderView). r.ready) c.in_ok-entries.ensures.taken in
    let all : hinted_rows c.in_ok-entries.entries c.in_ok-entries.lists ≡ rows ++ rows_of c.take_all.new.reader.ready = c.in_ok-entries.ensures.rows ∙ (sym (append-nil rows) ∙ ap (λ l. rows ++ rows_of l) (sym ready)) in
    whole_told p text c.take_all.new.reader rows (hinted_rows c.in_ok-entries.entries c.in_ok-entries.lists) _ _ (c.in_ok-finish.ensures.ok p text rows taken) (search rules) (search rules) all
