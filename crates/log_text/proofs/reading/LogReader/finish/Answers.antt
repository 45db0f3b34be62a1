use Rattle.std.proofs.Common.{◌≡◌, Some, None, true, false, ap, sym, ◌∙◌, subst}
use Rattle.line_text.specs.Lines.{Refuses}
use Rattle.log_text.specs.Fed.{ReaderView}
use Rattle.log_text.specs.Machine.{has_ended}
use Rattle.log_text.specs.Spelling.{Spells}
use Rattle.log_text.proofs.Feeding.{ended_badly, ended_well, refused_of}
use Rattle.log_text.proofs.reading.LogReader.finish.Goals as goal

pub returns-in-Some-clause-refused : goal.returns-in-Some-clause-refused
returns-in-Some-clause-refused c =
    let some : c.args.self.fault ≡ Some c.in-Some.line = ap (λ (r : ReaderView). r.fault) (sym c.self.view_is) ∙ c.in-Some.is in
    λ b fed rows h. (refused_of b c.args.self fed rows c.in-Some.line h some).refuses

pub returns-then-has_ended-clause-ok : goal.returns-then-has_ended-clause-ok
returns-then-has_ended-clause-ok c =
    let none : c.args.self.fault ≡ None = ap (λ (r : ReaderView). r.fault) (sym c.self.view_is) ∙ c.in_default.is in
    let inside : true ≡ has_ended c.self.inside.stage c.self.inside.held.items = c.if-has_ended.ensures ∙ ap (has_ended c.self.inside.stage) c.as_slice.ensures.value in
    let ended : has_ended c.args.self.stage c.args.self.held ≡ true = ap (λ (r : ReaderView). has_ended r.stage r.held) (sym c.self.view_is) ∙ sym inside in
    λ b fed rows h. ended_well b c.args.self fed rows none ended h

pub returns-clause-refused : goal.returns-clause-refused
returns-clause-refused c =
    let none : c.args.self.fault ≡ None = ap (λ (r : ReaderView). r.fault) (sym c.self.view_is) ∙ c.in_default.is in
    let inside : false ≡ has_ended c.self.inside.stage c.self.inside.held.items = c.if-has_ended.ensures ∙ ap (has_ended c.self.inside.stage) c.as_slice.ensures.value in
    let ended : has_ended c.args.self.stage c.args.self.held ≡ false = ap (λ (r : ReaderView). has_ended r.stage r.held) (sym c.self.view_is) ∙ sym inside in
    let number : c.args.self.number ≡ c.self.inside.number = ap (λ (r : ReaderView). r.number) (sym c.self.view_is) in
    λ b fed rows h. subst (Refuses (Spells b) fed) number (ended_badly b c.args.self fed rows none ended h)
