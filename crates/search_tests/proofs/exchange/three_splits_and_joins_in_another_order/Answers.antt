use Rattle.std.proofs.Common.{List, [], ◌∷◌, ap, sym, ◌∙◌, subst, lit≤}
use Rattle.std.specs.Prelude.{Contains}
use Rattle.dg_base.proofs.Lists.{contains_head}
use Rattle.dg_base.specs.declared.Lit.{Lit}
use Rattle.cnf_problem.specs.declared.problem.Problem.{Problem}
use Rattle.cnf_problem.specs.Formulas.{true_lit}
use Rattle.cnf_problem.specs.Problems.{Follows}
use Rattle.clause_exchange.specs.declared.rule.View.{View}
use Rattle.clause_exchange.specs.Steps.{mine}
use Rattle.search_tests.proofs.NewSeats.{cut_at_one, cut_at_two, cut_at_three, zeroth_seat, first_seat, second_seat, third_seat, all_joined}
use Rattle.search_tests.proofs.Readiness.{follows_clause, ready_blank}
use Rattle.search_tests.proofs.exchange.three_splits_and_joins_in_another_order.Goals as goal

pub split-two-requires-clause-within : goal.split-two-requires-clause-within
split-two-requires-clause-within g c = cut_at_two _ 64 _ c.in_ok-exchange.ensures.view

pub split-one-requires-clause-within : goal.split-one-requires-clause-within
split-one-requires-clause-within g c = cut_at_one _ 64 _ _ c.in_ok-exchange.ensures.view c.split-two.ensures.left

pub split-three-requires-clause-within : goal.split-three-requires-clause-within
split-three-requires-clause-within g c = cut_at_three _ 64 _ _ c.in_ok-exchange.ensures.view c.split-two.ensures.right

pub append_and_share-ticket-requires-clause-ready : goal.append_and_share-ticket-requires-clause-ready
append_and_share-ticket-requires-clause-ready g c =
    ready_blank _ 4 64 1 1 _ (lit≤ tt) (first_seat _ 64 _ _ _ c.in_ok-exchange.ensures.view c.split-two.ensures.left c.split-one.ensures.right)

pub append_and_share-ticket-requires-clause-follows : goal.append_and_share-ticket-requires-clause-follows
append_and_share-ticket-requires-clause-follows g c =
    subst (λ (p : Problem). Follows p [] c.in_ok-lemma.lemma) (sym (ap (λ (u : View). u.problem) (first_seat _ 64 _ _ _ c.in_ok-exchange.ensures.view c.split-two.ensures.left c.split-one.ensures.right)))
    (follows_clause c.in_ok-problem.problem c.in_ok-lemma.lemma (true_lit ∷ []) (subst (λ (cs : List (List Lit)). Contains cs (true_lit ∷ [])) (sym c.in_ok-problem.ensures.1) (contains_head (true_lit ∷ []) [])) c.in_ok-lemma.ensures.1 c.in_ok-lemma.ensures.0)

pub close-next-requires-clause-all : goal.close-next-requires-clause-all
close-next-requires-clause-all g c =
    let one = first_seat _ 64 _ _ _ c.in_ok-exchange.ensures.view c.split-two.ensures.left c.split-one.ensures.right in
    all_joined _ 64 c.split-one.new.seat.view c.append_and_share-ticket.new.seat.view c.split-three.new.seat.view c.split-three.result.view _ _ _
    (zeroth_seat _ 64 _ _ _ c.in_ok-exchange.ensures.view c.split-two.ensures.left c.split-one.ensures.left)
    (c.append_and_share-ticket.ensures.on.ready 0 (ready_blank _ 4 64 1 1 _ (lit≤ tt) one)).one
    (c.append_and_share-ticket.ensures.on.number ∙ ap (λ (u : View). (mine u).number) one)
    (second_seat _ 64 _ _ _ c.in_ok-exchange.ensures.view c.split-two.ensures.right c.split-three.ensures.left)
    (third_seat _ 64 _ _ _ c.in_ok-exchange.ensures.view c.split-two.ensures.right c.split-three.ensures.right)
    c.join.ensures.both c.join-2.ensures.both c.join-3.ensures.both
