use Rattle.std.proofs.Common.{◌≡◌, ◌∷◌, ap, sym, ◌∙◌}
use Rattle.log_text.specs.Fed.{ReaderView}
use Rattle.log_text.proofs.Feeding.{given_next}
use Rattle.log_text.proofs.reading.LogReader.next_hints.Goals as goal

pub returns-clause-reads : goal.returns-clause-reads
returns-clause-reads c =
    let e = c.in_ok-entry.field-0 in
    let rest = c.pop_front.new.self.items in
    let ready : c.args.self.now.ready ≡ e ∷ rest = ap (λ (r : ReaderView). r.ready) (sym c.self.view_is) ∙ c.in_ok-entry.ensures.items in
    let same = ap (λ (r : ReaderView). let v : ReaderView = record r { ready = rest } in v) c.self.view_is in
    λ b fed rows h. given_next b c.args.self.now _ fed rows e ready same h
