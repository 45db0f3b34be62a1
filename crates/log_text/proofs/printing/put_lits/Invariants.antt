use Rattle.std.proofs.Common.{◌≡◌, ◌≤◌, ◌++◌, drop}
use Rattle.std.specs.List.{AllByRecursion}
use Rattle.dg_base.specs.declared.Lit.{Lit}
use Rattle.cnf_problem.specs.Literals.{var}
use Rattle.line_text.specs.Words.{shown}
use Rattle.log_text.specs.Formats.{lit_text}
use Rattle.log_text.proofs.printing.put_lits.Given as goal

-- what is written, with what is still to be written, is what was there with all; and if the numbers to come have 32 bits, all have
abbrev pub invariant-loop-lit : goal.invariant-loop-lit
invariant-loop-lit l = record {
  text : l.out.items ++ shown lit_text (drop l.lit-index l.lits) ≡ l.fn.out.items ++ shown lit_text l.lits;
  numbers : AllByRecursion (λ (l : Lit). var l ≤ 2147483647) (drop l.lit-index l.lits) → AllByRecursion (λ (l : Lit). var l ≤ 2147483647) l.lits;
}
