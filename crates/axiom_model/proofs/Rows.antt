-- Which models allow the written-out executions: a witness order for each that is allowed, a cycle for each that is not.
use Rattle.std.proofs.Common.{ℕ, List, [], ◌∷◌, refl, arith, inl}
use Rattle.std.specs.Prelude.{slice_index, get_or}
use Rattle.axiom_model.specs.declared.MemoryModel.{MemoryModel}
use Rattle.axiom_model.specs.declared.MemoryModel.TheVariants.{Sc, Tso, Pso}
use Rattle.axiom_model.specs.declared.Action.TheVariants.{Read, Write}
use Rattle.axiom_model.specs.declared.Event.{Event}
use Rattle.axiom_model.specs.declared.Event.TheVariants.{Initial, At}
use Rattle.axiom_model.specs.Cycles.{NoCycle}
use Rattle.axiom_model.specs.Execution.{Fr}
use Rattle.axiom_model.specs.Models.{GlobalEdge, Consistent}
use Rattle.axiom_model.specs.Models as models
use Rattle.axiom_model.specs.Outcomes.{store_buffering, fenced_store_buffering, message_passing, two_plus_two_writes, load_buffering, independent_reads, read_read_coherence, peeked_section, open_section, store_forwarding, write_read_coherence, write_write_coherence, stale_after_create, stale_after_join}
use Rattle.axiom_model.proofs.Checks.{consistent_from, consistent_by_sections, global_forward}
use Rattle.axiom_model.proofs.Sections.{same_section-same_block}
use Rattle.axiom_model.proofs.Edges.{po_edge, rf_edge, initial_fr, fr_edge, co_edge, create_edge, join_edge}
use Rattle.axiom_model.proofs.Orders.{forward-no_cycle}
use Rattle.axiom_model.proofs.Weaker.{tso-pso, allowed_by_all, forbidden_by_all}

-- a rank by a table for each handle; the initial writes come first
abbrev pub rank_by : List (List ℕ) → Event → ℕ
rank_by t Initial = 0
rank_by t (At h i) = slice_index (get_or t h []) i

-- ---- store buffering

-- both reads come before both writes
abbrev reads_first : Event → ℕ
reads_first = rank_by ((1 ∷ 2 ∷ 3 ∷ 12 ∷ 13 ∷ 14 ∷ []) ∷ (4 ∷ 8 ∷ 6 ∷ 10 ∷ []) ∷ (5 ∷ 9 ∷ 7 ∷ 11 ∷ []) ∷ [])

pub store_buffering_tso : Consistent Tso store_buffering
store_buffering_tso =
    consistent_from Tso store_buffering reads_first reads_first (record { po = refl; rf = refl; co = refl; fr = refl }) (record { kept = refl; sections = refl; initial = refl; rf = refl; ranked = refl; co = refl; fr = refl }) refl

pub store_buffering_pso : Consistent Pso store_buffering
store_buffering_pso = tso-pso store_buffering store_buffering_tso

pub store_buffering_sc : ¬ Consistent Sc store_buffering
store_buffering_sc c =
    let x = store_buffering in
    c.global (At 1 1 ∷ At 1 2 ∷ At 2 1 ∷ At 2 2 ∷ []) (po_edge Sc x 1 1 2 refl, (fr_edge Sc x (At 1 2) (At 2 1) 0 1 refl refl refl, (po_edge Sc x 2 1 2 refl, fr_edge Sc x (At 2 2) (At 1 1) 1 0 refl refl refl)))

pub fenced_store_buffering_all : (m : MemoryModel) → ¬ Consistent m fenced_store_buffering
fenced_store_buffering_all =
    let x = fenced_store_buffering in
    forbidden_by_all x (λ c. c.global (At 1 1 ∷ At 1 2 ∷ At 1 3 ∷ At 2 1 ∷ At 2 2 ∷ At 2 3 ∷ []) (po_edge Pso x 1 1 2 refl, (po_edge Pso x 1 2 3 refl, (fr_edge Pso x (At 1 3) (At 2 1) 0 1 refl refl refl, (po_edge Pso x 2 1 2 refl, (po_edge Pso x 2 2 3 refl, fr_edge Pso x (At 2 3) (At 1 1) 1 0 refl refl refl))))))

-- all reads come before both writes, which others see last; in each thread its own write comes first
abbrev forwarded : Event → ℕ
forwarded = rank_by ((1 ∷ 2 ∷ 3 ∷ 14 ∷ 15 ∷ 16 ∷ []) ∷ (4 ∷ 10 ∷ 6 ∷ 8 ∷ 12 ∷ []) ∷ (5 ∷ 11 ∷ 7 ∷ 9 ∷ 13 ∷ []) ∷ [])

abbrev forwarded_locally : Event → ℕ
forwarded_locally = rank_by ((1 ∷ 2 ∷ 3 ∷ 14 ∷ 15 ∷ 16 ∷ []) ∷ (4 ∷ 8 ∷ 10 ∷ 6 ∷ 12 ∷ []) ∷ (5 ∷ 9 ∷ 11 ∷ 7 ∷ 13 ∷ []) ∷ [])

pub store_forwarding_tso : Consistent Tso store_forwarding
store_forwarding_tso =
    consistent_from Tso store_forwarding forwarded_locally forwarded (record { po = refl; rf = refl; co = refl; fr = refl }) (record { kept = refl; sections = refl; initial = refl; rf = refl; ranked = refl; co = refl; fr = refl }) refl

pub store_forwarding_pso : Consistent Pso store_forwarding
store_forwarding_pso = tso-pso store_forwarding store_forwarding_tso

pub store_forwarding_sc : ¬ Consistent Sc store_forwarding
store_forwarding_sc c =
    let x = store_forwarding in
    c.global (At 1 1 ∷ At 1 3 ∷ At 2 1 ∷ At 2 3 ∷ []) (po_edge Sc x 1 1 3 refl, (fr_edge Sc x (At 1 3) (At 2 1) 1 1 refl refl refl, (po_edge Sc x 2 1 3 refl, fr_edge Sc x (At 2 3) (At 1 1) 3 0 refl refl refl)))

-- ---- message passing

-- the write of x comes last
abbrev late_write : Event → ℕ
late_write = rank_by ((1 ∷ 2 ∷ 3 ∷ 12 ∷ 13 ∷ 14 ∷ []) ∷ (4 ∷ 9 ∷ 6 ∷ 10 ∷ []) ∷ (5 ∷ 7 ∷ 8 ∷ 11 ∷ []) ∷ [])

pub message_passing_pso : Consistent Pso message_passing
message_passing_pso =
    consistent_from Pso message_passing late_write late_write (record { po = refl; rf = refl; co = refl; fr = refl }) (record { kept = refl; sections = refl; initial = refl; rf = refl; ranked = refl; co = refl; fr = refl }) refl

pub message_passing_tso : ¬ Consistent Tso message_passing
message_passing_tso c =
    let x = message_passing in
    c.global (At 1 1 ∷ At 1 2 ∷ At 2 1 ∷ At 2 2 ∷ []) (po_edge Tso x 1 1 2 refl, (rf_edge Tso x (At 1 2) (At 2 1) 0 refl (λ e. absurd (omega (arith, e))), (po_edge Tso x 2 1 2 refl, fr_edge Tso x (At 2 2) (At 1 1) 1 0 refl refl refl)))

-- ---- two writes in each thread

-- the second write of each thread comes first
abbrev second_first : Event → ℕ
second_first = rank_by ((1 ∷ 2 ∷ 3 ∷ 12 ∷ 13 ∷ 14 ∷ []) ∷ (4 ∷ 8 ∷ 6 ∷ 10 ∷ []) ∷ (5 ∷ 9 ∷ 7 ∷ 11 ∷ []) ∷ [])

pub two_plus_two_writes_pso : Consistent Pso two_plus_two_writes
two_plus_two_writes_pso =
    consistent_from Pso two_plus_two_writes second_first second_first (record { po = refl; rf = refl; co = refl; fr = refl }) (record { kept = refl; sections = refl; initial = refl; rf = refl; ranked = refl; co = refl; fr = refl }) refl

pub two_plus_two_writes_tso : ¬ Consistent Tso two_plus_two_writes
two_plus_two_writes_tso c =
    let x = two_plus_two_writes in
    c.global (At 1 1 ∷ At 1 2 ∷ At 2 1 ∷ At 2 2 ∷ []) (po_edge Tso x 1 1 2 refl, (co_edge Tso x (At 1 2) (At 2 1) 1 refl, (po_edge Tso x 2 1 2 refl, co_edge Tso x (At 2 2) (At 1 1) 0 refl)))

-- ---- what no model allows

pub load_buffering_all : (m : MemoryModel) → ¬ Consistent m load_buffering
load_buffering_all =
    let x = load_buffering in
    forbidden_by_all x (λ c. c.global (At 1 1 ∷ At 1 2 ∷ At 2 1 ∷ At 2 2 ∷ []) (po_edge Pso x 1 1 2 refl, (rf_edge Pso x (At 1 2) (At 2 1) 1 refl (λ e. absurd (omega (arith, e))), (po_edge Pso x 2 1 2 refl, rf_edge Pso x (At 2 2) (At 1 1) 0 refl (λ e. absurd (omega (arith, e)))))))

pub independent_reads_all : (m : MemoryModel) → ¬ Consistent m independent_reads
independent_reads_all =
    let x = independent_reads in
    forbidden_by_all x (λ c. c.global (At 1 1 ∷ At 3 1 ∷ At 3 2 ∷ At 2 1 ∷ At 4 1 ∷ At 4 2 ∷ []) (rf_edge Pso x (At 1 1) (At 3 1) 0 refl (λ e. absurd (omega (arith, e))), (po_edge Pso x 3 1 2 refl, (fr_edge Pso x (At 3 2) (At 2 1) 1 1 refl refl refl, (rf_edge Pso x (At 2 1) (At 4 1) 2 refl (λ e. absurd (omega (arith, e))), (po_edge Pso x 4 1 2 refl, fr_edge Pso x (At 4 2) (At 1 1) 3 0 refl refl refl))))))

pub read_read_coherence_all : (m : MemoryModel) → ¬ Consistent m read_read_coherence
read_read_coherence_all =
    let x = read_read_coherence in
    forbidden_by_all x (λ c. c.global (At 1 1 ∷ At 2 1 ∷ At 2 2 ∷ []) (rf_edge Pso x (At 1 1) (At 2 1) 0 refl (λ e. absurd (omega (arith, e))), (po_edge Pso x 2 1 2 refl, fr_edge Pso x (At 2 2) (At 1 1) 1 0 refl refl refl)))

-- the local condition forbids what the kept order of a weak model would let pass
pub write_read_coherence_all : (m : MemoryModel) → ¬ Consistent m write_read_coherence
write_read_coherence_all m c =
    c.local (At 1 1 ∷ At 1 2 ∷ []) (models.LocalEdge.po (record { before = (refl, omega arith); first = Write 0 1; second = Read 0 0; is_first = refl; is_second = refl; holds = (0, refl, refl) }), models.LocalEdge.fr (initial_fr write_read_coherence (At 1 2) (At 1 1) 0 0 refl refl refl))

pub write_write_coherence_all : (m : MemoryModel) → ¬ Consistent m write_write_coherence
write_write_coherence_all m c =
    c.local (At 1 1 ∷ At 1 2 ∷ []) (models.LocalEdge.po (record { before = (refl, omega arith); first = Write 0 1; second = Write 0 2; is_first = refl; is_second = refl; holds = (0, refl, refl) }), models.LocalEdge.co 0 (Initial ∷ At 1 2 ∷ At 1 1 ∷ [], refl, (1, 2, omega arith, refl, refl)))

pub stale_after_create_all : (m : MemoryModel) → ¬ Consistent m stale_after_create
stale_after_create_all =
    let x = stale_after_create in
    forbidden_by_all x (λ c. c.global (At 0 1 ∷ At 0 2 ∷ At 1 0 ∷ At 1 1 ∷ []) (po_edge Pso x 0 1 2 refl, (create_edge Pso x (At 0 2) 1 0 1 0 refl refl, (po_edge Pso x 1 0 1 refl, fr_edge Pso x (At 1 1) (At 0 1) 0 0 refl refl refl))))

pub stale_after_join_all : (m : MemoryModel) → ¬ Consistent m stale_after_join
stale_after_join_all =
    let x = stale_after_join in
    forbidden_by_all x (λ c. c.global (At 1 1 ∷ At 1 2 ∷ At 0 2 ∷ At 0 3 ∷ []) (po_edge Pso x 1 1 2 refl, (join_edge Pso x (At 0 2) 1 2 refl refl, (po_edge Pso x 0 2 3 refl, fr_edge Pso x (At 0 3) (At 1 1) 0 0 refl refl refl))))

-- ---- a section that another thread looks into

abbrev peek_order : Event → ℕ
peek_order = rank_by ((1 ∷ 2 ∷ 3 ∷ 12 ∷ 13 ∷ 14 ∷ []) ∷ (4 ∷ 5 ∷ 6 ∷ 8 ∷ 9 ∷ 10 ∷ []) ∷ (4 ∷ 7 ∷ 11 ∷ []) ∷ [])

pub peeked_section-no_event_cycle : NoCycle (GlobalEdge Sc peeked_section)
peeked_section-no_event_cycle =
    forward-no_cycle peek_order (global_forward Sc peeked_section peek_order (record { kept = refl; sections = refl; initial = refl; rf = refl; ranked = refl; co = refl; fr = refl }))

-- out of the section to the read, and from the read back into it
pub peeked_section_all : (m : MemoryModel) → ¬ Consistent m peeked_section
peeked_section_all =
    let x = peeked_section in
    forbidden_by_all x (λ c. c.blocks ((At 1 2, At 2 1) ∷ (At 2 1, At 1 3) ∷ []) ((rf_edge Pso x (At 1 2) (At 2 1) 0 refl (λ e. absurd (omega (arith, e))), (λ s. absurd (omega (arith, s.0))), (refl, inl refl)), (models.GlobalEdge.fr back, (λ s. absurd (omega (arith, s.0))), same_section-same_block x (At 1 3) (At 1 2) refl)))
  where
    back : Fr peeked_section (At 2 1) (At 1 3)
    back = record { cell = 0; value = 1; source = At 1 2; reads = refl; from = (0, refl); later = (Initial ∷ At 1 2 ∷ At 1 3 ∷ [], refl, (1, 2, omega arith, refl, refl)) }

-- ---- a section in which the run stops

abbrev open_order : Event → ℕ
open_order = rank_by ((1 ∷ 2 ∷ 3 ∷ []) ∷ (4 ∷ 5 ∷ 6 ∷ 7 ∷ []) ∷ [])

-- the actions from its Open to the run's end are one block
abbrev open_blocks : Event → ℕ
open_blocks = rank_by ((1 ∷ 2 ∷ 3 ∷ []) ∷ (4 ∷ 5 ∷ 5 ∷ 5 ∷ []) ∷ [])

pub open_section_all : (m : MemoryModel) → Consistent m open_section
open_section_all =
    allowed_by_all open_section (consistent_by_sections Sc open_section open_order open_order open_blocks (record { po = refl; rf = refl; co = refl; fr = refl }) (record { kept = refl; sections = refl; initial = refl; rf = refl; ranked = refl; co = refl; fr = refl }) refl (record { kept = refl; sections = refl; initial = refl; rf = refl; ranked = refl; co = refl; fr = refl }))
