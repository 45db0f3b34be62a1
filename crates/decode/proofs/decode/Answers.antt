use Rattle.std.proofs.Common.{List, Bool, sym, subst, length}
use Rattle.std.proofs.lemmas.Result.{IfOk-weaker}
use Rattle.axiom_model.specs.declared.Candidate.{Candidate}
use Rattle.cnf_problem.specs.declared.problem.Atom.{Atom}
use Rattle.memory_models.specs.declared.StaticEvent.{StaticEvent}
use Rattle.memory_models.specs.declared.EventBits.{EventBits}
use Rattle.encode_match.specs.declared.PartMap.{PartMap}
use Rattle.encode_match.specs.Encoding.{SpellsFailure}
use Rattle.decode.specs.Fitting.{AreFit, IsTabled}
use Rattle.decode.proofs.Whole.{chain_fits, chain_spells, failure}
use Rattle.decode.proofs.decode.Goals as goal

pub spell-requires : goal.spell-requires
spell-requires c =
    let x = c.args.encoded.now in
    let s = c.args.assignment.now in
    let fit = chain_fits c.events_are_static.ensures.listed c.args.checked.now x.model c.requires.chain.0 x s c.requires.chain.1 c.requires.consistent in
    subst (λ (l : List Bool). AreFit l c.as_slice-atoms.result.now c.as_slice-events.result.now c.as_slice-bits.result.now (length c.as_slice-parts.result.now)) (sym c.as_slice-truths.ensures)
    (subst (λ (l : List Atom). AreFit s l c.as_slice-events.result.now c.as_slice-bits.result.now (length c.as_slice-parts.result.now)) (sym c.as_slice-atoms.ensures)
    (subst (λ (l : List StaticEvent). AreFit s x.problem.atoms l c.as_slice-bits.result.now (length c.as_slice-parts.result.now)) (sym c.as_slice-events.ensures)
    (subst (λ (l : List EventBits). AreFit s x.problem.atoms x.map.graph.events l (length c.as_slice-parts.result.now)) (sym c.as_slice-bits.ensures)
    (subst (λ (l : List PartMap). AreFit s x.problem.atoms x.map.graph.events x.map.graph.bits (length l)) (sym c.as_slice-parts.ensures) fit))))

pub returns : goal.returns
returns c =
    let x = c.args.encoded.now in
    let s = c.args.assignment.now in
    IfOk-weaker c.spell.result (IsTabled c.as_slice-truths.result.now c.as_slice-atoms.result.now c.as_slice-events.result.now c.as_slice-bits.result.now c.as_slice-parts.result.now)
    (SpellsFailure c.args.checked.now x s)
    (λ (k : Candidate) t.
    let a = subst (λ (l : List Bool). IsTabled l c.as_slice-atoms.result.now c.as_slice-events.result.now c.as_slice-bits.result.now c.as_slice-parts.result.now k) c.as_slice-truths.ensures t in
    let b = subst (λ (l : List Atom). IsTabled s l c.as_slice-events.result.now c.as_slice-bits.result.now c.as_slice-parts.result.now k) c.as_slice-atoms.ensures a in
    let d = subst (λ (l : List StaticEvent). IsTabled s x.problem.atoms l c.as_slice-bits.result.now c.as_slice-parts.result.now k) c.as_slice-events.ensures b in
    let e = subst (λ (l : List EventBits). IsTabled s x.problem.atoms x.map.graph.events l c.as_slice-parts.result.now k) c.as_slice-bits.ensures d in
    let f = subst (λ (l : List PartMap). IsTabled s x.problem.atoms x.map.graph.events x.map.graph.bits l k) c.as_slice-parts.ensures e in
    failure c.args.checked.now x s k (c.chain_encodes.ensures c.args.checked.now x.model c.requires.chain.0 x c.requires.chain.1) c.requires.consistent
    (chain_spells c.events_are_static.ensures.listed c.args.checked.now x.model c.requires.chain.0 x s c.requires.chain.1 c.requires.consistent k f))
    c.spell.ensures
