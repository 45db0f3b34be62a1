-- Executions whose outcome tells the models apart, or that each model must refuse. Cell 0 is x, cell 1 is y, both begin as 0.
use Rattle.std.specs.Prelude.{ℕ, List, [], ◌∷◌, ◌++◌, true, false, map}
use Rattle.axiom_model.specs.declared.Action.{Action}
use Rattle.axiom_model.specs.declared.Action.TheVariants.{Read, Write, Open, Close, Fence, Create, Join, Start, End}
use Rattle.axiom_model.specs.declared.Event.{Event}
use Rattle.axiom_model.specs.declared.Event.TheVariants.{Initial, At}
use Rattle.axiom_model.specs.declared.RfPair.{RfPair}
use Rattle.axiom_model.specs.Execution.{Thread, Execution}
use Rattle.axiom_model.specs.WellMade.{Shape}

-- the programs behind them: up to five functions, of which function 0 is main, and two cells
abbrev pub shape : Shape
shape = record { functions = 5; main = 0; initials = 0 ∷ 0 ∷ [] }

-- the thread with handle h, which runs function h: Start is its action 0, so the first of these is its action 1
abbrev pub whole : ℕ → List Action → Thread
whole h acts = record { handle = h; function = h; arg = 0; actions = Start ∷ acts ++ End ∷ []; ended = true; bad = false }

-- the same, but the thread stops before its end
abbrev pub cut : ℕ → List Action → Thread
cut h acts = record { handle = h; function = h; arg = 0; actions = Start ∷ acts; ended = false; bad = false }

-- the main thread, which creates the threads with these handles and joins them
abbrev pub main : List ℕ → Thread
main hs = whole 0 (map (λ h. Create h h 0) hs ++ map (λ h. Join h) hs)

-- the read at the first event takes its value from the write at the second
abbrev pub takes : Event → Event → RfPair
takes r s = record { reader = r; source = s }

-- store buffering: each thread writes one cell and reads 0 from the other
abbrev pub store_buffering : Execution
store_buffering = record {
  threads = main (1 ∷ 2 ∷ []) ∷ whole 1 (Write 0 1 ∷ Read 1 0 ∷ []) ∷ whole 2 (Write 1 1 ∷ Read 0 0 ∷ []) ∷ [];
  rf = takes (At 1 2) Initial ∷ takes (At 2 2) Initial ∷ [];
  co = (Initial ∷ At 1 1 ∷ []) ∷ (Initial ∷ At 2 1 ∷ []) ∷ [];
}

-- store buffering with a fence between the write and the read
abbrev pub fenced_store_buffering : Execution
fenced_store_buffering = record {
  threads = main (1 ∷ 2 ∷ []) ∷ whole 1 (Write 0 1 ∷ Fence ∷ Read 1 0 ∷ []) ∷ whole 2 (Write 1 1 ∷ Fence ∷ Read 0 0 ∷ []) ∷ [];
  rf = takes (At 1 3) Initial ∷ takes (At 2 3) Initial ∷ [];
  co = (Initial ∷ At 1 1 ∷ []) ∷ (Initial ∷ At 2 1 ∷ []) ∷ [];
}

-- store forwarding: as store buffering, but each thread first reads its own write
abbrev pub store_forwarding : Execution
store_forwarding = record {
  threads = main (1 ∷ 2 ∷ []) ∷ whole 1 (Write 0 1 ∷ Read 0 1 ∷ Read 1 0 ∷ []) ∷ whole 2 (Write 1 1 ∷ Read 1 1 ∷ Read 0 0 ∷ []) ∷ [];
  rf = takes (At 1 2) (At 1 1) ∷ takes (At 1 3) Initial ∷ takes (At 2 2) (At 2 1) ∷ takes (At 2 3) Initial ∷ [];
  co = (Initial ∷ At 1 1 ∷ []) ∷ (Initial ∷ At 2 1 ∷ []) ∷ [];
}

-- message passing: one thread writes x, then y; the other reads the new y, then the old x
abbrev pub message_passing : Execution
message_passing = record {
  threads = main (1 ∷ 2 ∷ []) ∷ whole 1 (Write 0 1 ∷ Write 1 1 ∷ []) ∷ whole 2 (Read 1 1 ∷ Read 0 0 ∷ []) ∷ [];
  rf = takes (At 2 1) (At 1 2) ∷ takes (At 2 2) Initial ∷ [];
  co = (Initial ∷ At 1 1 ∷ []) ∷ (Initial ∷ At 1 2 ∷ []) ∷ [];
}

-- two writes in each thread, 1 then 2, in opposite orders of the cells: both cells end as 1
abbrev pub two_plus_two_writes : Execution
two_plus_two_writes = record {
  threads = main (1 ∷ 2 ∷ []) ∷ whole 1 (Write 0 1 ∷ Write 1 2 ∷ []) ∷ whole 2 (Write 1 1 ∷ Write 0 2 ∷ []) ∷ [];
  rf = [];
  co = (Initial ∷ At 2 2 ∷ At 1 1 ∷ []) ∷ (Initial ∷ At 1 2 ∷ At 2 1 ∷ []) ∷ [];
}

-- load buffering: each thread reads from one cell the value that the other thread writes only later
abbrev pub load_buffering : Execution
load_buffering = record {
  threads = main (1 ∷ 2 ∷ []) ∷ whole 1 (Read 0 1 ∷ Write 1 1 ∷ []) ∷ whole 2 (Read 1 1 ∷ Write 0 1 ∷ []) ∷ [];
  rf = takes (At 1 1) (At 2 2) ∷ takes (At 2 1) (At 1 2) ∷ [];
  co = (Initial ∷ At 2 2 ∷ []) ∷ (Initial ∷ At 1 2 ∷ []) ∷ [];
}

-- independent reads of independent writes: two readers see the writes of two others in opposite orders
abbrev pub independent_reads : Execution
independent_reads = record {
  threads =
      main (1 ∷ 2 ∷ 3 ∷ 4 ∷ [])
      ∷ whole 1 (Write 0 1 ∷ [])
      ∷ whole 2 (Write 1 1 ∷ [])
      ∷ whole 3 (Read 0 1 ∷ Read 1 0 ∷ [])
      ∷ whole 4 (Read 1 1 ∷ Read 0 0 ∷ []) ∷ [];
  rf = takes (At 3 1) (At 1 1) ∷ takes (At 3 2) Initial ∷ takes (At 4 1) (At 2 1) ∷ takes (At 4 2) Initial ∷ [];
  co = (Initial ∷ At 1 1 ∷ []) ∷ (Initial ∷ At 2 1 ∷ []) ∷ [];
}

-- two reads of one cell: the new value, then the old one
abbrev pub read_read_coherence : Execution
read_read_coherence = record {
  threads = main (1 ∷ 2 ∷ []) ∷ whole 1 (Write 0 1 ∷ []) ∷ whole 2 (Read 0 1 ∷ Read 0 0 ∷ []) ∷ [];
  rf = takes (At 2 1) (At 1 1) ∷ takes (At 2 2) Initial ∷ [];
  co = (Initial ∷ At 1 1 ∷ []) ∷ (Initial ∷ []) ∷ [];
}

-- a thread writes a cell and then reads its old value
abbrev pub write_read_coherence : Execution
write_read_coherence = record {
  threads = main (1 ∷ []) ∷ whole 1 (Write 0 1 ∷ Read 0 0 ∷ []) ∷ [];
  rf = takes (At 1 2) Initial ∷ [];
  co = (Initial ∷ At 1 1 ∷ []) ∷ (Initial ∷ []) ∷ [];
}

-- a thread writes a cell twice, and the first write is the last in the cell's order
abbrev pub write_write_coherence : Execution
write_write_coherence = record {
  threads = main (1 ∷ []) ∷ whole 1 (Write 0 1 ∷ Write 0 2 ∷ []) ∷ [];
  rf = [];
  co = (Initial ∷ At 1 2 ∷ At 1 1 ∷ []) ∷ (Initial ∷ []) ∷ [];
}

-- the main thread writes a cell and creates a thread, which reads the old value
abbrev pub stale_after_create : Execution
stale_after_create = record {
  threads = whole 0 (Write 0 1 ∷ Create 1 1 0 ∷ Join 1 ∷ []) ∷ whole 1 (Read 0 0 ∷ []) ∷ [];
  rf = takes (At 1 1) Initial ∷ [];
  co = (Initial ∷ At 0 1 ∷ []) ∷ (Initial ∷ []) ∷ [];
}

-- a thread writes a cell, and the main thread, which has joined it, reads the old value
abbrev pub stale_after_join : Execution
stale_after_join = record {
  threads = whole 0 (Create 1 1 0 ∷ Join 1 ∷ Read 0 0 ∷ []) ∷ whole 1 (Write 0 1 ∷ []) ∷ [];
  rf = takes (At 0 3) Initial ∷ [];
  co = (Initial ∷ At 1 1 ∷ []) ∷ (Initial ∷ []) ∷ [];
}

-- a thread reads between the two writes of another thread's section
abbrev pub peeked_section : Execution
peeked_section = record {
  threads = main (1 ∷ 2 ∷ []) ∷ whole 1 (Open ∷ Write 0 1 ∷ Write 0 2 ∷ Close ∷ []) ∷ whole 2 (Read 0 1 ∷ []) ∷ [];
  rf = takes (At 2 1) (At 1 2) ∷ [];
  co = (Initial ∷ At 1 2 ∷ At 1 3 ∷ []) ∷ (Initial ∷ []) ∷ [];
}

-- a section that reads its own write and in which the run stops
abbrev pub open_section : Execution
open_section = record {
  threads = whole 0 (Create 1 1 0 ∷ []) ∷ cut 1 (Open ∷ Write 0 1 ∷ Read 0 1 ∷ []) ∷ [];
  rf = takes (At 1 3) (At 1 2) ∷ [];
  co = (Initial ∷ At 1 2 ∷ []) ∷ (Initial ∷ []) ∷ [];
}
