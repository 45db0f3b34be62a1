use Rattle.std.proofs.Common.{◌≡◌, map, take}
use Rattle.encode_match.specs.Parts.{part_map}
use Rattle.encode.proofs.parts.part_maps.Given as goal

abbrev pub invariant-loop-part : goal.invariant-loop-part
invariant-loop-part l = l.maps ≡ map (part_map l.words) (take l.part-index l.parts)
