-- What is asked of truth values, atoms and events, and what is made of them. No public contract cites it.
use Rattle.std.specs.Prelude.{◌≡◌, ℕ, List, Bool, Option, length, map}
use Rattle.axiom_model.specs.declared.Event.{Event}
use Rattle.axiom_model.specs.declared.Candidate.{Candidate}
use Rattle.cnf_problem.specs.declared.problem.Atom.{Atom}
use Rattle.memory_models.specs.declared.StaticEvent.{StaticEvent}
use Rattle.memory_models.specs.declared.EventBits.{EventBits}
use Rattle.encode_match.specs.declared.PartMap.{PartMap}
use Rattle.encode_match.specs.Spelling.{reads_from}
use Rattle.decode.specs.Tables.{threads_with, AreHandles, AreNumbered, ArePlaces, AreOfNodes, AreSources, AreRanks}
use Rattle.decode.specs.Relations.{pair_of, AreApart, AreLines}

-- each event has its value, those of threads are of so many instances, the atoms are of the events, and no two writes of a cell have one rank
pub record AreFit (s : List Bool) (atoms : List Atom) (es : List StaticEvent) (bs : List EventBits) (count : ℕ) : Type 0 where
  pub values : length bs ≡ length es
  pub numbered : AreNumbered s es count
  pub nodes : AreOfNodes (length es) atoms
  pub apart : (ranks : List ℕ) → AreRanks s atoms (length es) ranks → (c : ℕ) → AreApart s es ranks c

-- the candidate is what these tables say
pub record IsTabled (s : List Bool) (atoms : List Atom) (es : List StaticEvent) (bs : List EventBits) (ps : List PartMap) (c : Candidate) : Type 0 where
  pub handles : List (Option ℕ)
  pub places : List Event
  pub sources : List ℕ
  pub ranks : List ℕ
  pub are_handles : AreHandles s es bs (length ps) handles
  pub are_places : ArePlaces s es handles places
  pub are_sources : AreSources s atoms (length es) sources
  pub are_ranks : AreRanks s atoms (length es) ranks
  pub threads : c.threads ≡ threads_with s handles ps
  pub rf : c.rf ≡ map (pair_of places sources) (reads_from s 0 es)
  pub co : AreLines s es places ranks c.co
