-- The lemmas of a spent worker differ.
use Rattle.std.proofs.Common.{◌≡◌, ◌++◌, take, get_or, sym, ◌∙◌, subst}
use Rattle.std.specs.Prelude.{Contains}
use Rattle.std.proofs.lemmas.List.Elements.{Contains-append_left, Contains-append_right}
use Rattle.std.proofs.lemmas.Option.{slice_get-get_or, same_Some}
use Rattle.dg_base.proofs.Lists.{contains_place, contains_map}
use Rattle.cnf_problem.specs.Chains.{IsNew}
use Rattle.cnf_problem.proofs.ChainLaws.{new_differs}
use Rattle.search_core.specs.declared.Entry.{Entry}
use Rattle.search_core.specs.Core.{worker, readable, lits_of}
use Rattle.search_core.specs.Spent.{SpentLemmasDiffer}
use Rattle.search_core.proofs.Laws.{taken_place}

-- an entry that was new has other literals than each entry before it
pub spent_differ : SpentLemmasDiffer
spent_differ p s budget i k m d e spent lt inside at_k at_m same =
    let log = (worker s i).log in
    let is_e : get_or (worker s i).log m e ≡ e = same_Some (get_or (worker s i).log m e) e (sym (slice_get-get_or (worker s i).log m e inside) ∙ at_m) in
    let new = subst (λ (x : Entry). IsNew (p.clauses ++ lits_of (take m (worker s i).log ++ readable x.seen s.workers)) x.lemma.lits) is_e (spent.new m e inside) in
    let there : Contains (take m (worker s i).log) d = contains_place (take m (worker s i).log) k d (taken_place (worker s i).log m k d lt at_k) in
    let listed = Contains-append_right p.clauses (lits_of (take m (worker s i).log ++ readable e.seen s.workers)) d.lemma.lits
    (contains_map (λ (x : Entry). x.lemma.lits) (take m (worker s i).log ++ readable e.seen s.workers) d (Contains-append_left (take m (worker s i).log) (readable e.seen s.workers) d there)) in
    new_differs (p.clauses ++ lits_of (take m (worker s i).log ++ readable e.seen s.workers)) e.lemma.lits (subst (λ z. Contains (p.clauses ++ lits_of (take m (worker s i).log ++ readable e.seen s.workers)) z) same listed) new
