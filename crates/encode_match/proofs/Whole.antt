-- The encoding, from the laws of both directions and of cycles.
use Rattle.std.proofs.Common.{Bool, List, sym, subst}
use Rattle.axiom_model.specs.declared.Candidate.{Candidate}
use Rattle.axiom_model.specs.declared.MemoryModel.{MemoryModel}
use Rattle.axiom_model.specs.Failing.{execution_of}
use Rattle.axiom_model.specs.Execution.{Execution}
use Rattle.c_check.specs.declared.checked.Checked.{Checked}
use Rattle.run_model.specs.Threads.{ProgramFails}
use Rattle.cnf_problem.specs.Problems.{IsConsistent}
use Rattle.order_vars.specs.Links.{Link}
use Rattle.encode_match.specs.declared.Encoded.{Encoded}
use Rattle.encode_match.specs.Encoding.{IsSpelled, NoAssignmentMeansSafe, SpelledFails}
use Rattle.encode_match.specs.Matching.{Matches, SameCycles}
use Rattle.encode_match.specs.Directions.{GraphOf, GraphsHold, MatchOf, AssignmentsMatch, AssignmentOf, FailuresMatch, ChainEncodes}
use Rattle.encode_match.proofs.CycleLaw.{cycles_agree}
use Rattle.encode_match.proofs.SpelledOnce.{spelled_once}

-- cycles, with the links of the chain
pub cycles_with : (m : MemoryModel) (x : Encoded) (s : List Bool) (links : List Link) (e : Execution) → GraphOf m x s links → Matches x s links e → SameCycles m x s e
cycles_with m x s links e g t = cycles_agree m x s e g.graph (subst (λ (l : List Link). Matches x s l e) (sym g.same_links) t)

fails_from : (p : Checked) (m : MemoryModel) (x : Encoded) (s : List Bool) (links : List Link) → GraphOf m x s links → IsConsistent x.problem s → (r : MatchOf p x s links) → ProgramFails p m r.candidate
fails_from p m x s links g c r = record {
  allowed = record { threads = r.runs; words = r.words; whole = r.whole; well_made = r.well_made; consistent = (cycles_with m x s links (execution_of r.candidate r.runs) g r.matches).1 c.acyclic };
  fails = r.fails;
}

spelled_from : (p : Checked) (m : MemoryModel) (x : Encoded) (links : List Link) (c : Candidate) (f : ProgramFails p m c) (a : AssignmentOf p m x links c f) → GraphOf m x a.assignment links → IsSpelled x c
spelled_from p m x links c f a g = record {
  assignment = a.assignment;
  consistent = record { values = a.values; clauses = a.clauses; acyclic = (cycles_with m x a.assignment links (execution_of c f.allowed.threads) g a.matches).0 f.allowed.consistent };
  sorted = a.sorted;
  same = a.same;
  spelled = a.spelled;
}

-- the chain encodes, where its graphs hold and both directions do
pub encodes : GraphsHold → AssignmentsMatch → FailuresMatch → ChainEncodes
encodes graphs first second p m flat x chain = record {
  sound = λ s c.
      let r = first p m flat x s chain c in
      let f = fails_from p m x s chain.made.orders.links (graphs p m flat x s chain c.clauses) c r in
      (r.candidate, record { spelled = r.spelled; fails = subst (λ (k : MemoryModel). ProgramFails p k r.candidate) (sym chain.made.model) f });
  once = λ s c d k a b. spelled_once graphs p m flat x s c d chain k a b;
  complete = λ c f.
      let h = subst (λ (k : MemoryModel). ProgramFails p k c) chain.made.model f in
      let a = second p m flat x c chain h in
      spelled_from p m x chain.made.orders.links c h a (graphs p m flat x a.assignment chain a.clauses);
}

-- ---- what the layers above use

pub no_assignment_means_safe : NoAssignmentMeansSafe
no_assignment_means_safe p x e n c f = let r = e.complete c f in n r.assignment r.consistent

pub spelled_fails : SpelledFails
spelled_fails p x s c e k h =
    let r = e.sound s k in
    subst (λ (d : Candidate). ProgramFails p x.model d) (e.once s r.0 c k r.1.spelled h) r.1.fails
