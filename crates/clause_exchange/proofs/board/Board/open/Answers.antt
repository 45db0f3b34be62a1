use Rattle.std.proofs.Common.{◌≡◌, ◌+◌, ◌*◌, length, replicate, [], ap, ◌∙◌, refl}
use Rattle.std.specs.Prelude.{slice_index}
use Rattle.std.proofs.lemmas.List.{length-replicate}
use Rattle.clause_exchange.specs.Rule.{first_view}
use Rattle.clause_exchange.proofs.Opening.{holds_start, all_zero}
use Rattle.clause_exchange.proofs.board.Board.open.Goals as goal

pub of_words-requires : goal.of_words-requires
of_words-requires c =
    let n = c.args.workers in
    let w = c.args.share_words in
    let e : c.as_slice.result.now ≡ replicate (2 + n + n * w) 0 = c.as_slice.ensures.value ∙ c.in_ok-words.ensures.items_if_clones_equal (λ y same. same) in
    holds_start c.args.problem.now n w (first_view (record { problem = c.args.problem; workers = n; share_words = w })) c.as_slice.result.now refl refl refl refl c.requires.few
    (ap length e ∙ length-replicate (2 + n + n * w) 0)
    (λ i. ap (λ l. slice_index l i) e ∙ all_zero (2 + n + n * w) i)
    refl []
