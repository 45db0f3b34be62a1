use Rattle.std.proofs.Common.{length, ap, sym, ◌∙◌, subst}
use Rattle.std.specs.Prelude.{All}
use Rattle.bv_term.specs.declared.term.Term.TheVariants.{Input}
use Rattle.bv_term.specs.Values.{AreTerms}
use Rattle.bit_gates.specs.Words.{IsWordOver}
use Rattle.bit_blast.specs.Blasting.{Blasts}
use Rattle.bit_blast.proofs.Growth.{none_made, term_behind, blast_more, blast_made}
use Rattle.bit_blast.proofs.blast.Goals as goal

pub loop-term-init : goal.loop-term-init
loop-term-init c = rw c.new-words.ensures (none_made c.args.gates.now)

pub term_word-requires-clause-behind : goal.term_word-requires-clause-behind
term_word-requires-clause-behind c =
    let are : AreTerms c.as_slice-list.result.now = subst (λ z. AreTerms z) (sym c.as_slice-list.ensures.value) c.as_slice-list.ensures.terms in
    term_behind c.as_slice-list.result.now c.as_slice.result.now c.loop-term.term-index Input c.loop-term-test.true are (ap (λ z. length z) c.as_slice.ensures ∙ c.loop-term.invariant.count)

pub term_word-requires-clause-over : goal.term_word-requires-clause-over
term_word-requires-clause-over c = subst (λ z. All (IsWordOver c.loop-term.gates.vars) z) (sym c.as_slice.ensures) c.loop-term.invariant.each

pub loop-term-preserved : goal.loop-term-preserved
loop-term-preserved c =
    let are : AreTerms c.as_slice-list.result.now = subst (λ z. AreTerms z) (sym c.as_slice-list.ensures.value) c.as_slice-list.ensures.terms in
    let word = rw c.as_slice.ensures at c.in_ok-word.ensures in
    rw c.in_ok-push.ensures.ok (blast_more _ _ _ c.as_slice-list.result.now c.loop-term.words _ c.loop-term.term-index Input c.loop-term-test.true are c.loop-term.invariant word)

pub returns : goal.returns
returns c =
    let are : AreTerms c.as_slice-list.result.now = subst (λ z. AreTerms z) (sym c.as_slice-list.ensures.value) c.as_slice-list.ensures.terms in
    subst (λ z. Blasts c.args.gates.now c.loop-term.gates z c.loop-term.words) c.as_slice-list.ensures.value
    (blast_made c.args.gates.now c.loop-term.gates c.as_slice-list.result.now c.loop-term.words c.loop-term.term-index c.loop-term-test.false are c.loop-term.invariant)
