-- Each execution has one answer.
use Rattle.std.proofs.Common.{◌≡◌, refl}
use Rattle.axiom_model.specs.declared.MemoryModel.{MemoryModel}
use Rattle.axiom_model.specs.Execution.{Execution}
use Rattle.axiom_model.specs.Models.{Consistent}
use Rattle.consistency.specs.declared.Inconsistent.{Inconsistent}
use Rattle.consistency.specs.declared.Inconsistent.TheVariants.{LocalCycle, GlobalCycle, BlockCycle, OutOfMemory}
use Rattle.consistency.specs.Evidence.{FirstBroken, SameKind}

pub none_broken : (m : MemoryModel) (x : Execution) (e : Inconsistent) → Consistent m x → FirstBroken m x e → e ≡ OutOfMemory
none_broken m x (LocalCycle l) c b = absurd (b c.local)
none_broken m x (GlobalCycle l) c b = absurd (b.1 c.global)
none_broken m x (BlockCycle l) c b = absurd (b.2 c.blocks)
none_broken m x OutOfMemory c b = refl

pub one_broken : (m : MemoryModel) (x : Execution) (e f : Inconsistent) → FirstBroken m x e → FirstBroken m x f → SameKind e f
one_broken m x OutOfMemory f b d = tt
one_broken m x (LocalCycle l) (LocalCycle k) b d = tt
one_broken m x (LocalCycle l) (GlobalCycle k) b d = b d.0
one_broken m x (LocalCycle l) (BlockCycle k) b d = b d.0
one_broken m x (LocalCycle l) OutOfMemory b d = tt
one_broken m x (GlobalCycle l) (LocalCycle k) b d = d b.0
one_broken m x (GlobalCycle l) (GlobalCycle k) b d = tt
one_broken m x (GlobalCycle l) (BlockCycle k) b d = b.1 d.1
one_broken m x (GlobalCycle l) OutOfMemory b d = tt
one_broken m x (BlockCycle l) (LocalCycle k) b d = d b.0
one_broken m x (BlockCycle l) (GlobalCycle k) b d = d.1 b.1
one_broken m x (BlockCycle l) (BlockCycle k) b d = tt
one_broken m x (BlockCycle l) OutOfMemory b d = tt
