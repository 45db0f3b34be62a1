use Rattle.std.proofs.Common.{List, ◌++◌, ◌∷◌, [], sym, subst}
use Rattle.std.specs.Prelude.{All}
use Rattle.std.proofs.lemmas.List.Elements.{All-append, All-contains}
use Rattle.dg_base.specs.declared.Lit.{Lit}
use Rattle.cnf_problem.specs.Literals.{IsOver}
use Rattle.unit_refuter.specs.Refuting.{IsReady}
use Rattle.hint_maker.proofs.Turns.{all_one}
use Rattle.hint_maker.proofs.adding.Hinter.add.Goals as goal

pub add-requires : goal.add-requires
add-requires c =
    let r = c.requires.ready in
    let over = subst (λ (z : List Lit). All (IsOver r.0.vars) z) (sym c.as_slice.ensures) r.1.2 in
    (r.0, (r.1.0, r.1.1.ready, (λ l m. All-contains (IsOver r.0.vars) c.as_slice.result.now l over m)))

pub returns : goal.returns
returns c p clauses ready over = record {
  ready = subst (λ (z : List Lit). IsReady p (clauses ++ z ∷ []) c.add.new.self) c.as_slice.ensures (c.in_ok-add.ensures.ok p clauses ready.ready);
  over = All-append (All (IsOver p.vars)) clauses (c.args.entry.now.lemma.lits ∷ []) ready.over (all_one (All (IsOver p.vars)) c.args.entry.now.lemma.lits over);
  room = ready.room;
  none = ready.none;
}
