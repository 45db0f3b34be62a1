-- A log up to its first empty clause.
use Rattle.std.proofs.Common.{◌≡◌, ℕ, zero, suc, ◌+◌, List, [], ◌∷◌, ◌++◌, map, length, take, ap, sym, ◌∙◌, subst, arith}
use Rattle.std.specs.Prelude.{slice_get, Some}
use Rattle.std.proofs.lemmas.List.{length-take}
use Rattle.std.proofs.lemmas.Option.{none-some, slice_get_within}
use Rattle.dg_base.proofs.Lists.{one_answer}
use Rattle.dg_base.specs.declared.Lit.{Lit}
use Rattle.cnf_problem.specs.declared.problem.Problem.{Problem}
use Rattle.cnf_problem.specs.Problems.{FollowInTurn}
use Rattle.lemma_log.specs.declared.Entry.{Entry}
use Rattle.verdict_run.specs.Decisions.{IsGood, EndsEmpty, AreOf}
use Rattle.verdict_run.specs.Searches.{IsCut}

-- the first of lemmas that follow in turn follow in turn
first_follow : (p : Problem) (clauses : List (List Lit)) (n : ℕ) (xs : List Entry) → FollowInTurn p clauses (map (λ (e : Entry). e.lemma) xs) → FollowInTurn p clauses (map (λ (e : Entry). e.lemma) (take n xs))
first_follow p clauses zero xs follow = tt
first_follow p clauses (suc n) [] follow = tt
first_follow p clauses (suc n) (x ∷ xs) follow = (follow.0, first_follow p (clauses ++ x.lemma.lits ∷ []) n xs follow.1)

first_get : {X : Type 0} (n : ℕ) (xs : List X) (k : ℕ) (x : X) → slice_get (take n xs) k ≡ Some x → slice_get xs k ≡ Some x
first_get zero xs k x at = absurd (none-some x at)
first_get (suc n) [] k x at = absurd (none-some x at)
first_get (suc n) (y ∷ ys) zero x at = at
first_get (suc n) (y ∷ ys) (suc k) x at = first_get n ys k x at

pub safe_log : (p : Problem) (workers : ℕ) (log left : List Entry) → IsGood p log → AreOf workers log → IsCut log left → IsGood p left × EndsEmpty left × AreOf workers left
safe_log p workers log left good of cut =
    let within = slice_get_within log cut.place cut.first.entry cut.first.is in
    let place : (k : ℕ) (e : Entry) → slice_get left k ≡ Some e → slice_get log k ≡ Some e = λ k e at. first_get (cut.place + 1) log k e (subst (λ es. slice_get es k ≡ Some e) cut.left_is at) in (
      subst (IsGood p) (sym cut.left_is) (first_follow p [] (cut.place + 1) log good),
      record {
        last = cut.place;
        length_is = ap length cut.left_is ∙ length-take (cut.place + 1) log ∙ omega (arith, within);
        empty = λ e at. ap (λ (x : Entry). x.lemma.lits) (one_answer (slice_get log cut.place) e cut.first.entry (place cut.place e at) cut.first.is) ∙ cut.first.empty;
        first = λ k e lt at. cut.first.first k e lt (place k e at);
      },
      λ k e at. of k e (place k e at),
    )
