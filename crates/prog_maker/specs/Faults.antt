-- Why no program is made.
use Rattle.std.specs.Prelude.{◌≡◌, ◌⊎◌, ℕ, ◌<◌}
use Rattle.prog_maker.specs.declared.making.MakeFault.{MakeFault}
use Rattle.prog_maker.specs.declared.making.MakeFault.TheVariants.{Number, OutOfMemory}

-- only want of memory has no cause in the number
abbrev pub IsFaultOf : ℕ → MakeFault → Type 0
IsFaultOf n Number = (n ≡ 0) ⊎ (16 < n)
IsFaultOf n OutOfMemory = Unit {0}
