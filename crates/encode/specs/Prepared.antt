-- What is made of a form before its events are ordered. No public contract cites it.
use Rattle.std.specs.Prelude.{◌≡◌, List, map}
use Rattle.dg_base.specs.declared.Lit.{Lit}
use Rattle.cnf_problem.specs.Formulas.{Formula}
use Rattle.bit_blast.specs.Blasting.{Blasts}
use Rattle.ssa_form.specs.declared.Ssa.{Ssa}
use Rattle.event_graph.specs.Graphs.{events_of, bits_of, guard_lit}
use Rattle.encode_match.specs.declared.EventMap.{EventMap}
use Rattle.encode_match.specs.Parts.{bad_by, fail_by, guards_of, part_map}

-- the events with their values, the map of the instances, and the guards of endings
pub record IsPrepared (form : Ssa) (old new : Formula) (x : EventMap) (bad fails : List Lit) : Type 0 where
  pub words : List (List Lit)
  pub blasts : Blasts old new form.terms words
  pub events : x.graph.events ≡ events_of form words
  pub bits : x.graph.bits ≡ bits_of form words
  pub parts : x.parts ≡ map (part_map words) form.parts
  pub bad_are : bad ≡ map (guard_lit words) (guards_of bad_by form.parts)
  pub fails_are : fails ≡ map (guard_lit words) (guards_of fail_by form.parts)
