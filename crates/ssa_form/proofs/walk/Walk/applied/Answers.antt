use Rattle.std.proofs.Common.{◌∙◌, ap, sym, subst, map, take, get_or, List, ◌<◌, length, arith}
use Rattle.std.specs.Prelude.{All}
use Rattle.std.proofs.lemmas.List.{take_all}
use Rattle.std.proofs.lemmas.List.Elements.{All-take}
use Rattle.bv_term.specs.declared.term.TermId.{TermId}
use Rattle.bv_term.specs.Values.{IsListed}
use Rattle.ssa_form.proofs.Growing.{locals_listed, applied_is}
use Rattle.ssa_form.proofs.walk.Walk.applied.Goals as goal

pub make-requires-clause-listed : goal.make-requires-clause-listed
make-requires-clause-listed c =
    let w = c.args.self.now in
    subst (λ (l : List TermId). All (IsListed w.terms) l) (sym (c.as_slice-2.ensures ∙ c.loop-arg.invariant))
    (locals_listed w.terms w.values (record { 0 = 0 }) (take c.loop-arg.arg-index c.args.args.now) c.requires.walk.locals (All-take (λ a. a < length w.values) c.loop-arg.arg-index c.args.args.now c.requires.locals))

pub returns : goal.returns
returns c =
    let w = c.args.self.now in
    let whole = take_all c.loop-arg.arg-index c.args.args.now (omega arith) in
    applied_is w c.make.new.self c.args.op c.args.args.now c.as_slice-2.result.now (record { 0 = 0 }) c.make.result c.requires.walk c.requires.locals
    (c.as_slice-2.ensures ∙ c.loop-arg.invariant ∙ ap (λ l. map (λ a. get_or w.values a (record { 0 = 0 })) l) whole) c.make.ensures.value c.make.ensures.listed c.make.ensures.grows
