-- The candidate that an assignment spells.
use Rattle.std.specs.Prelude.{◌≡◌, ℕ, ◌+◌, List, [], ◌∷◌, ◌++◌, Bool, true, false, cond, ◌&&◌, nat_eq, length, slice_index_or, map}
use Rattle.std.specs.List.{AllZip}
use Rattle.axiom_model.specs.declared.Event.{Event}
use Rattle.axiom_model.specs.declared.Event.TheVariants.{Initial, At}
use Rattle.axiom_model.specs.declared.RfPair.{RfPair}
use Rattle.axiom_model.specs.declared.ThreadPart.{ThreadPart}
use Rattle.axiom_model.specs.declared.Candidate.{Candidate}
use Rattle.cnf_problem.specs.Literals.{value}
use Rattle.bit_gates.specs.Words.{number}
use Rattle.memory_models.specs.declared.StaticEvent.{StaticEvent}
use Rattle.memory_models.specs.declared.StaticKind.{StaticKind}
use Rattle.memory_models.specs.declared.StaticKind.TheVariants as kind
use Rattle.memory_models.specs.declared.EventBits.{EventBits}
use Rattle.memory_models.specs.Events.{IsAt}
use Rattle.event_graph.specs.Laws.{earlier}
use Rattle.order_vars.specs.Links.{is_initial}
use Rattle.encode_order.specs.Coherence as coherence
use Rattle.encode_order.specs.Sources.{MayComeFrom}
use Rattle.encode_match.specs.declared.Taken.{Taken}
use Rattle.encode_match.specs.declared.PartMap.{PartMap}
use Rattle.encode_match.specs.declared.Encoded.{Encoded}

-- ---- threads

-- the numbers that are taken, in order
abbrev pub script_in : List Bool → List Taken → List ℕ
script_in s [] = []
script_in s (t ∷ ts) = cond (value s t.guard) (number s t.bits ∷ script_in s ts) (script_in s ts)

abbrev pub is_start : StaticKind → Bool
is_start kind.Start = true
is_start _ = false

-- whether the event is the Start of this instance, and happens
abbrev pub starts : List Bool → ℕ → StaticEvent → Bool
starts s i e = (is_start e.kind && nat_eq e.instance i) && value s e.guard

-- the handle of an instance that runs, from the value at its Start; none of one that does not run
abbrev pub handles_in : List Bool → ℕ → List StaticEvent → List EventBits → List ℕ
handles_in s i (e ∷ es) (b ∷ bs) = cond (starts s i e) (number s b.bits ∷ []) (handles_in s i es bs)
handles_in s i _ _ = []

abbrev pub thread_with : List Bool → PartMap → ℕ → ThreadPart
thread_with s p h = record { handle = h; function = p.function; arg = number s p.arg; script = script_in s p.script }

-- the threads: the instances that run, in their order, from number i on
abbrev pub threads_from : List Bool → ℕ → List StaticEvent → List EventBits → List PartMap → List ThreadPart
threads_from s i es bs [] = []
threads_from s i es bs (p ∷ ps) = map (thread_with s p) (handles_in s i es bs) ++ threads_from s (i + 1) es bs ps

abbrev pub threads_of : Encoded → List Bool → List ThreadPart
threads_of x s = threads_from s 0 x.map.graph.events x.map.graph.bits x.map.parts

-- ---- events

abbrev pub first_or_none : List ℕ → ℕ
first_or_none l = slice_index_or l 0 0

-- the event of a thread at node n
abbrev pub thread_event : Encoded → List Bool → ℕ → ℕ → Event
thread_event x s n i = At (first_or_none (handles_in s i x.map.graph.events x.map.graph.bits)) (earlier s i n x.map.graph.events)

-- the event at node n, which is this static event
abbrev pub event_by : Encoded → List Bool → ℕ → StaticEvent → Event
event_by x s n e = cond (is_initial e.kind) Initial (thread_event x s n e.instance)

-- the node is this event of the candidate: it happens, and its index counts the earlier ones of its instance
pub record IsEvent (x : Encoded) (s : List Bool) (n : ℕ) (e : Event) : Type 0 where
  pub static : StaticEvent
  pub there : IsAt x.map.graph.events n static
  pub happens : value s static.guard ≡ true
  pub same : event_by x s n static ≡ e

-- ---- relations

-- an atom that says that w precedes v is true
abbrev pub IsBefore : Encoded → List Bool → ℕ → ℕ → Type 0
IsBefore x s w v = coherence.IsBefore x.problem.atoms s w v

-- an atom that says that r reads from w is true
abbrev pub ReadsFrom : Encoded → List Bool → ℕ → ℕ → Type 0
ReadsFrom x s w r = MayComeFrom x.problem.atoms s w r

-- the nodes are the cell's writes that happen, each once, in the order of the true atoms
abbrev pub IsOrderOfNodes : Encoded → List Bool → ℕ → List ℕ → Type 0
IsOrderOfNodes x s c nodes = coherence.IsOrderOfNodes x.map.graph.events x.problem.atoms s c nodes

-- a cell's list is that of its writes in their order
pub record IsCoOf (x : Encoded) (s : List Bool) (c : ℕ) (l : List Event) : Type 0 where
  pub nodes : List ℕ
  pub order : IsOrderOfNodes x s c nodes
  pub events : AllZip (IsEvent x s) nodes l

-- the source of a read is the first of its true sources, in the order of its cell
pub record IsSourceOf (x : Encoded) (s : List Bool) (r w : ℕ) : Type 0 where
  pub is_true : ReadsFrom x s w r
  pub first : (v : ℕ) → ReadsFrom x s v r → ¬ (v ≡ w) → IsBefore x s w v

abbrev pub is_read : StaticKind → Bool
is_read kind.Read = true
is_read _ = false

-- the reads that happen, by node, from node n on
abbrev pub reads_from : List Bool → ℕ → List StaticEvent → List ℕ
reads_from s n [] = []
reads_from s n (e ∷ es) = cond (is_read e.kind && value s e.guard) (n ∷ reads_from s (n + 1) es) (reads_from s (n + 1) es)

-- a read's pair
pub record IsPairOf (x : Encoded) (s : List Bool) (r : ℕ) (p : RfPair) : Type 0 where
  pub write : ℕ
  pub is_reader : IsEvent x s r p.reader
  pub is_source : IsEvent x s write p.source
  pub source : IsSourceOf x s r write

-- the lists of the cells from number c on
abbrev pub AreCosFrom : Encoded → List Bool → ℕ → List (List Event) → Type 0
AreCosFrom x s c [] = Unit {0}
AreCosFrom x s c (l ∷ ls) = IsCoOf x s c l × AreCosFrom x s (c + 1) ls

abbrev pub initials_in : List StaticEvent → ℕ
initials_in [] = 0
initials_in (e ∷ es) = cond (is_initial e.kind) (1 + initials_in es) (initials_in es)

-- the assignment spells the candidate
pub record Spells (x : Encoded) (s : List Bool) (c : Candidate) : Type 0 where
  pub threads : c.threads ≡ threads_of x s
  pub rf : AllZip (IsPairOf x s) (reads_from s 0 x.map.graph.events) c.rf
  pub cells : length c.co ≡ initials_in x.map.graph.events
  pub co : AreCosFrom x s 0 c.co
