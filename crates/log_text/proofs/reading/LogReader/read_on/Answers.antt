use Rattle.std.proofs.Common.{◌≡◌, ◌++◌, ap, ◌∙◌, refl}
use Rattle.log_text.specs.Fed.{ReaderView}
use Rattle.log_text.proofs.Passing.{read_on_stopped}
use Rattle.log_text.proofs.reading.LogReader.read_on.Goals as goal

pub returns-then-stopped-clause-read : goal.returns-then-stopped-clause-read
returns-then-stopped-clause-read c =
    let old = c.args.self.now in
    let first = c.new-run.result in
    let last = c.lines.new.self in
    let stage : first.stage ≡ old.stage = c.new-run.ensures.0 ∙ ap (λ (r : ReaderView). r.stage) c.self.view_is in
    let number : first.number ≡ old.number = c.new-run.ensures.1 ∙ ap (λ (r : ReaderView). r.number) c.self.view_is in
    let done = rw c.if-stopped.true at c.in_ok-stopped.ensures.done in
    let appended : c.append.new.self.items ≡ c.self.inside.ready.items ++ last.fresh.items = c.in_ok-append.ensures.items in
    let ready : c.append.new.self.items ≡ old.ready ++ last.fresh.items = appended ∙ ap (λ (r : ReaderView). r.ready ++ last.fresh.items) c.self.view_is in
    λ _. read_on_stopped old _ first last c.args.bytes.now c.in_ok-stopped.rest.now stage number c.new-run.ensures.2 c.in_ok-stopped.ensures.taken done refl refl ready refl
