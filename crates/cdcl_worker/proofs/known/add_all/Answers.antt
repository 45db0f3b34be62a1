use Rattle.std.proofs.Common.{◌≡◌, ℕ, Some, slice_get, ◌+◌, ◌<◌, ◌++◌, ◌∷◌, [], List, length, take, ap, sym, ◌∙◌, subst, arith}
use Rattle.std.specs.Prelude.{All}
use Rattle.std.proofs.lemmas.List.{append_assoc, take_more}
use Rattle.std.proofs.lemmas.List.Elements.{All-contains}
use Rattle.std.proofs.lemmas.Option.{slice_get_within, get_or_from_slice_get}
use Rattle.dg_base.proofs.Lists.{contains_place}
use Rattle.dg_base.specs.declared.Lit.{Lit}
use Rattle.cnf_problem.specs.Literals.{IsOver}
use Rattle.cdcl_worker.proofs.known.add_all.Goals as goal

take_next : {X : Type 0} (xs : List X) (i : ℕ) (x : X) → slice_get xs i ≡ Some x → take (i + 1) xs ≡ take i xs ++ x ∷ []
take_next xs i x at =
    let le = slice_get_within xs i x at in
    take_more xs i x (omega arith) ∙ ap (λ y. take i xs ++ y ∷ []) (get_or_from_slice_get xs i x x at)

pub add-requires-clause-watching : goal.add-requires-clause-watching
add-requires-clause-watching c = (c.requires.watching.0, c.loop-i.invariant.watching c.requires.watching.0 c.requires.watching.1)

pub add-requires-clause-over : goal.add-requires-clause-over
add-requires-clause-over c l m =
    let vars = c.args.trail.now.vars in
    All-contains (IsOver vars) c.get.result.now l
    (All-contains (λ (clause : List Lit). All (IsOver vars) clause) c.args.clauses.now c.get.result.now c.requires.over (contains_place c.args.clauses.now c.loop-i.i c.get.result.now c.get.ensures)) m

pub loop-i-preserved : goal.loop-i-preserved
loop-i-preserved c =
    let cs = c.args.clauses.now in
    let i = c.loop-i.i in
    let new = c.get.result.now in
    let old = c.args.store.now.added in
    record {
      added = c.in_ok-add.ensures.added ∙ ap (λ (xs : List (List Lit)). xs ++ new ∷ []) c.loop-i.invariant.added ∙ append_assoc old (take i cs) (new ∷ []) ∙ ap (λ (xs : List (List Lit)). old ++ xs) (sym (take_next cs i new c.get.ensures));
      watching = λ p w. c.in_ok-add.ensures.watching p (c.loop-i.invariant.watching p w);
    }
