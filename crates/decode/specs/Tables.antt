-- Tables by instance and by node. No public contract cites it.
use Rattle.std.specs.Prelude.{◌≡◌, ℕ, ◌+◌, ◌<◌, List, [], ◌∷◌, ◌++◌, Bool, true, not, cond, ◌&&◌, Option, Some, None, All, length, slice_get, slice_index_or, slice_set, unwrap_or}
use Rattle.std.specs.List.{count_by}
use Rattle.axiom_model.specs.declared.Event.{Event}
use Rattle.axiom_model.specs.declared.Event.TheVariants.{Initial, At}
use Rattle.axiom_model.specs.declared.ThreadPart.{ThreadPart}
use Rattle.cnf_problem.specs.Literals.{value}
use Rattle.cnf_problem.specs.Bounds.{nodes_of}
use Rattle.cnf_problem.specs.declared.problem.Atom.{Atom}
use Rattle.cnf_problem.specs.declared.problem.AtomKind.{AtomKind}
use Rattle.cnf_problem.specs.declared.problem.AtomKind.TheVariants.{ReadFrom, WriteOrder, Plain}
use Rattle.dg_base.specs.declared.Lit.{Lit}
use Rattle.bit_gates.specs.Words.{number}
use Rattle.memory_models.specs.declared.StaticEvent.{StaticEvent}
use Rattle.memory_models.specs.declared.StaticKind.TheVariants as kind
use Rattle.memory_models.specs.declared.EventBits.{EventBits}
use Rattle.memory_models.specs.Events.{IsAt, IsOfThread}
use Rattle.event_graph.specs.Laws.{earlier, is_initial}
use Rattle.encode_order.specs.Counts.{puts_before}
use Rattle.encode_order.specs.Sources.{MayComeFrom}
use Rattle.encode_match.specs.declared.PartMap.{PartMap}
use Rattle.encode_match.specs.Spelling.{handles_in, starts, thread_with}

-- ---- instances

-- the handle that is there, if one is
abbrev pub listed : Option ℕ → List ℕ
listed None = []
listed (Some h) = h ∷ []

-- for each of so many instances its handle, where it runs
pub record AreHandles (s : List Bool) (es : List StaticEvent) (bs : List EventBits) (count : ℕ) (handles : List (Option ℕ)) : Type 0 where
  pub counted : length handles ≡ count
  pub each : (i : ℕ) (h : Option ℕ) → slice_get handles i ≡ Some h → listed h ≡ handles_in s i es bs

-- the handle of an instance, from an event's bits where it is the instance's start, and from what is known of later events elsewhere
abbrev pub handle_by : List Bool → ℕ → StaticEvent → EventBits → Option ℕ → Option ℕ
handle_by s i e b h = cond (starts s i e) (Some (number s b.bits)) h

-- the thread of an instance that runs
abbrev pub thread_of : List Bool → Option ℕ → PartMap → List ThreadPart
thread_of s None p = []
thread_of s (Some h) p = thread_with s p h ∷ []

-- the threads of these instances
abbrev pub threads_with : List Bool → List (Option ℕ) → List PartMap → List ThreadPart
threads_with s (h ∷ hs) (p ∷ ps) = thread_of s h p ++ threads_with s hs ps
threads_with s _ _ = []

-- ---- nodes

-- each event of a thread that happens is of one of so many instances
abbrev pub AreNumbered : List Bool → List StaticEvent → ℕ → Type 0
AreNumbered s es count = (n : ℕ) (e : StaticEvent) → IsOfThread es n e → value s e.guard ≡ true → e.instance < count

-- whether it is an action of a thread, and happens
abbrev pub acts : List Bool → StaticEvent → Bool
acts s e = not (is_initial e.kind) && value s e.guard

-- the event of a node, by the handles of the instances and the number of their events so far
abbrev pub place_by : List Bool → StaticEvent → List (Option ℕ) → List ℕ → Event
place_by s e hs counts = cond (acts s e) (At (unwrap_or (slice_index_or hs e.instance None) 0) (slice_index_or counts e.instance 0)) Initial

-- these numbers behind a node
abbrev pub indices_behind : List Bool → StaticEvent → List ℕ → List ℕ
indices_behind s e counts = cond (acts s e) (slice_set counts e.instance (slice_index_or counts e.instance 0 + 1)) counts

-- the events of nodes that happen
pub record ArePlaces (s : List Bool) (es : List StaticEvent) (handles : List (Option ℕ)) (places : List Event) : Type 0 where
  pub counted : length places ≡ length es
  pub initial : (n : ℕ) (e : StaticEvent) → IsAt es n e → e.kind ≡ kind.Initial → slice_get places n ≡ Some Initial
  pub action : (n : ℕ) (e : StaticEvent) (h : Option ℕ) → IsOfThread es n e → value s e.guard ≡ true → slice_get handles e.instance ≡ Some h
      → slice_get places n ≡ Some (At (unwrap_or h 0) (earlier s e.instance n es))

-- ---- atoms

-- each atom is of so many nodes
abbrev pub AreOfNodes : ℕ → List Atom → Type 0
AreOfNodes count atoms = All (λ (a : Atom). All (λ n. n < count) (nodes_of a.kind)) atoms

-- the sources behind an atom
abbrev pub sources_behind : List Bool → Lit → List ℕ → AtomKind → List ℕ
sources_behind s l sources (ReadFrom w r) = cond (value s l) (slice_set sources r w) sources
sources_behind s l sources (WriteOrder w v) = sources
sources_behind s l sources Plain = sources

-- the ranks behind an atom
abbrev pub ranks_behind : List Bool → Lit → List ℕ → AtomKind → List ℕ
ranks_behind s l ranks (WriteOrder w v) = cond (value s l) (slice_set ranks v (slice_index_or ranks v 0 + 1)) ranks
ranks_behind s l ranks (ReadFrom w r) = ranks
ranks_behind s l ranks Plain = ranks

-- for each of so many nodes a write that it reads from, where a true atom says that there is one
pub record AreSources (s : List Bool) (atoms : List Atom) (count : ℕ) (sources : List ℕ) : Type 0 where
  pub counted : length sources ≡ count
  pub low : (r w : ℕ) → slice_get sources r ≡ Some w → w < count
  pub each : (w r : ℕ) → MayComeFrom atoms s w r → (v : ℕ) × (slice_get sources r ≡ Some v) × MayComeFrom atoms s v r

-- for each of so many nodes how many true atoms put a write before it
pub record AreRanks (s : List Bool) (atoms : List Atom) (count : ℕ) (ranks : List ℕ) : Type 0 where
  pub counted : length ranks ≡ count
  pub each : (v : ℕ) → v < count → slice_get ranks v ≡ Some (count_by (puts_before s v) atoms)
