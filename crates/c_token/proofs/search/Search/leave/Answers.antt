use Rattle.std.proofs.Common.{ℕ, sym, subst}
use Rattle.c_token.specs.declared.search.Passage.{Passage}
use Rattle.c_token.specs.Searching.{IsPassage}
use Rattle.c_token.proofs.Passing.{all_put}
use Rattle.c_token.proofs.search.Search.leave.Goals as goal

pub returns-clause-passages : goal.returns-clause-passages
returns-clause-passages c = λ bodies holds words a p.
    let left : ℕ → Passage = λ n. record { entry = c.args.frame.now.entry; context = c.args.self.now.sieve.context; region = c.args.self.now.sieve.region; first = c.args.frame.now.count; count = n } in
    let here = subst (λ (n : ℕ). IsPassage bodies holds words (left n)) (sym c.saturating_sub.ensures) p in
    all_put (IsPassage bodies holds words) _ c.args.self.now.passages.entries c.insert.new.self.entries c.args.frame.now.entry (left c.saturating_sub.result) c.in_ok-insert.field-0 c.in_ok-insert.ensures.entries a here
