use Rattle.std.proofs.Common.{◌≡◌, map, drop}
use Rattle.c_token.specs.Macros.{Reading, nothing_read, read}
use Rattle.c_token.specs.Seen.{segment}
use Rattle.c_token.specs.Tables.{Reads}
use Rattle.c_token.proofs.macros.read.Given as goal

abbrev pub invariant-loop-part : goal.invariant-loop-part
invariant-loop-part l = (r : Reading) × Reads l.reader r × (read r (map segment (drop l.part-index l.parts)) ≡ read nothing_read (map segment l.parts))
