use Rattle.std.proofs.Common.{◌≡◌, drop}
use Rattle.std.specs.Prelude.{codes}
use Rattle.run_model.specs.Names.{first_named}
use Rattle.exec_check.proofs.parts.main_number.Given as goal

abbrev pub invariant-loop-name : goal.invariant-loop-name
invariant-loop-name l = record {
  counted : l.number ≡ l.name-index;
  left : first_named (λ n. n) l.number (drop l.name-index l.functions) (codes "main") ≡ first_named (λ n. n) 0 l.functions (codes "main");
}
