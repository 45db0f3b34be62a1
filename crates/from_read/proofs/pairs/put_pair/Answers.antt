use Rattle.std.proofs.Common.{ap, sym, subst, arith}
use Rattle.cnf_problem.specs.declared.problem.Edge.{Edge}
use Rattle.cnf_problem.specs.declared.problem.Graph.TheVariants.{Local}
use Rattle.cnf_problem.specs.Edges.{global_edge}
use Rattle.from_read.specs.Parts.{IsDerivable}
use Rattle.from_read.proofs.Deriving.{pairing, able_within, both_put, nothing_first, nothing_second, nothing_other}
use Rattle.from_read.proofs.Kept.{fine_room, fine_put}
use Rattle.from_read.proofs.pairs.put_pair.Goals as goal

pub returns-in_default : goal.returns-in_default
returns-in_default c = record {
  put = nothing_first c.args.nodes.now c.args.kinds.now c.args.read_from c.args.write_order _ c.args.found.now.list c.requires.read_from c.in_default.not-ReadFrom;
  fine = c.requires.fine;
}

pub returns-in_default-kinds : goal.returns-in_default-kinds
returns-in_default-kinds c = record {
  put = nothing_second c.args.nodes.now c.args.kinds.now c.args.read_from c.args.write_order _ c.args.found.now.list c.requires.write_order c.in_default-kinds.not-WriteOrder;
  fine = c.requires.fine;
}

pub put-requires-clause-from : goal.put-requires-clause-from
put-requires-clause-from c =
    let p = pairing c.args.nodes.now c.args.kinds.now c.args.found.now c.args.read_from c.args.write_order c.in-ReadFrom.write c.in-ReadFrom.read c.in-WriteOrder.first c.in-WriteOrder.second _ _ c.requires.fine c.requires.read_from c.requires.write_order c.in-ReadFrom.is c.in-WriteOrder.is c.if-write-first.true in
    omega (arith, p.read_in, c.requires.fine.sizes)

pub put-requires-clause-to : goal.put-requires-clause-to
put-requires-clause-to c =
    let p = pairing c.args.nodes.now c.args.kinds.now c.args.found.now c.args.read_from c.args.write_order c.in-ReadFrom.write c.in-ReadFrom.read c.in-WriteOrder.first c.in-WriteOrder.second _ _ c.requires.fine c.requires.read_from c.requires.write_order c.in-ReadFrom.is c.in-WriteOrder.is c.if-write-first.true in
    omega (arith, p.second_in, c.requires.fine.sizes)

pub put-requires-clause-room : goal.put-requires-clause-room
put-requires-clause-room c = λ free.
    let p = pairing c.args.nodes.now c.args.kinds.now c.args.found.now c.args.read_from c.args.write_order c.in-ReadFrom.write c.in-ReadFrom.read c.in-WriteOrder.first c.in-WriteOrder.second _ _ c.requires.fine c.requires.read_from c.requires.write_order c.in-ReadFrom.is c.in-WriteOrder.is c.if-write-first.true in
    fine_room c.args.nodes.now c.args.kinds.now c.args.found.now (record { graph = Local; from = c.in-ReadFrom.read; to = c.in-WriteOrder.second }) c.requires.fine p.local_able free

pub edge_between-requires-clause-read : goal.edge_between-requires-clause-read
edge_between-requires-clause-read c =
    let p = pairing c.args.nodes.now c.args.kinds.now c.args.found.now c.args.read_from c.args.write_order c.in-ReadFrom.write c.in-ReadFrom.read c.in-WriteOrder.first c.in-WriteOrder.second _ _ c.requires.fine c.requires.read_from c.requires.write_order c.in-ReadFrom.is c.in-WriteOrder.is c.if-write-first.true in
    p.read_in

pub edge_between-requires-clause-second : goal.edge_between-requires-clause-second
edge_between-requires-clause-second c =
    let p = pairing c.args.nodes.now c.args.kinds.now c.args.found.now c.args.read_from c.args.write_order c.in-ReadFrom.write c.in-ReadFrom.read c.in-WriteOrder.first c.in-WriteOrder.second _ _ c.requires.fine c.requires.read_from c.requires.write_order c.in-ReadFrom.is c.in-WriteOrder.is c.if-write-first.true in
    p.second_in

pub put-requires-then-write-first-clause-from : goal.put-requires-then-write-first-clause-from
put-requires-then-write-first-clause-from c =
    let p = pairing c.args.nodes.now c.args.kinds.now c.args.found.now c.args.read_from c.args.write_order c.in-ReadFrom.write c.in-ReadFrom.read c.in-WriteOrder.first c.in-WriteOrder.second _ _ c.requires.fine c.requires.read_from c.requires.write_order c.in-ReadFrom.is c.in-WriteOrder.is c.if-write-first.true in
    let in_nodes = able_within c.args.nodes.now c.args.kinds.now c.args.found.now (global_edge c.args.nodes.now c.in-ReadFrom.read c.in-WriteOrder.second) c.requires.fine p.global_able in
    let same = ap (λ (e : Edge). e.from) c.edge_between.ensures in
    omega (arith, in_nodes.0, same, c.requires.fine.sizes, c.put.ensures.sizes.0)

pub put-requires-then-write-first-clause-to : goal.put-requires-then-write-first-clause-to
put-requires-then-write-first-clause-to c =
    let p = pairing c.args.nodes.now c.args.kinds.now c.args.found.now c.args.read_from c.args.write_order c.in-ReadFrom.write c.in-ReadFrom.read c.in-WriteOrder.first c.in-WriteOrder.second _ _ c.requires.fine c.requires.read_from c.requires.write_order c.in-ReadFrom.is c.in-WriteOrder.is c.if-write-first.true in
    let in_nodes = able_within c.args.nodes.now c.args.kinds.now c.args.found.now (global_edge c.args.nodes.now c.in-ReadFrom.read c.in-WriteOrder.second) c.requires.fine p.global_able in
    let same = ap (λ (e : Edge). e.to) c.edge_between.ensures in
    omega (arith, in_nodes.1, same, c.requires.fine.sizes, c.put.ensures.sizes.0)

pub put-requires-then-write-first-clause-room : goal.put-requires-then-write-first-clause-room
put-requires-then-write-first-clause-room c = λ free.
    let p = pairing c.args.nodes.now c.args.kinds.now c.args.found.now c.args.read_from c.args.write_order c.in-ReadFrom.write c.in-ReadFrom.read c.in-WriteOrder.first c.in-WriteOrder.second _ _ c.requires.fine c.requires.read_from c.requires.write_order c.in-ReadFrom.is c.in-WriteOrder.is c.if-write-first.true in
    let fine = fine_put c.args.nodes.now c.args.kinds.now c.args.found.now c.put.new.self (record { edge = record { graph = Local; from = c.in-ReadFrom.read; to = c.in-WriteOrder.second }; read_from = c.args.read_from; write_order = c.args.write_order }) c.requires.fine p.local_able c.put.ensures.put c.put.ensures.sizes.0 c.put.ensures.sizes.1 in
    fine_room c.args.nodes.now c.args.kinds.now c.put.new.self c.edge_between.result fine (subst (λ (e : Edge). IsDerivable c.args.nodes.now c.args.kinds.now e) (sym c.edge_between.ensures) p.global_able) free

pub returns-then-write-first-clause-put : goal.returns-then-write-first-clause-put
returns-then-write-first-clause-put c =
    let p = pairing c.args.nodes.now c.args.kinds.now c.args.found.now c.args.read_from c.args.write_order c.in-ReadFrom.write c.in-ReadFrom.read c.in-WriteOrder.first c.in-WriteOrder.second _ _ c.requires.fine c.requires.read_from c.requires.write_order c.in-ReadFrom.is c.in-WriteOrder.is c.if-write-first.true in
    both_put c.args.nodes.now c.args.kinds.now c.args.read_from c.args.write_order c.in-ReadFrom.read c.in-WriteOrder.second c.edge_between.result c.args.found.now.list c.put.new.self.list c.put-then-write-first.new.self.list p c.edge_between.ensures c.put.ensures.put c.put-then-write-first.ensures.put

pub returns-then-write-first-clause-fine : goal.returns-then-write-first-clause-fine
returns-then-write-first-clause-fine c =
    let p = pairing c.args.nodes.now c.args.kinds.now c.args.found.now c.args.read_from c.args.write_order c.in-ReadFrom.write c.in-ReadFrom.read c.in-WriteOrder.first c.in-WriteOrder.second _ _ c.requires.fine c.requires.read_from c.requires.write_order c.in-ReadFrom.is c.in-WriteOrder.is c.if-write-first.true in
    let fine = fine_put c.args.nodes.now c.args.kinds.now c.args.found.now c.put.new.self (record { edge = record { graph = Local; from = c.in-ReadFrom.read; to = c.in-WriteOrder.second }; read_from = c.args.read_from; write_order = c.args.write_order }) c.requires.fine p.local_able c.put.ensures.put c.put.ensures.sizes.0 c.put.ensures.sizes.1 in
    let able = subst (λ (e : Edge). IsDerivable c.args.nodes.now c.args.kinds.now e) (sym c.edge_between.ensures) p.global_able in
    fine_put c.args.nodes.now c.args.kinds.now c.put.new.self c.put-then-write-first.new.self (record { edge = c.edge_between.result; read_from = c.args.read_from; write_order = c.args.write_order }) fine able c.put-then-write-first.ensures.put c.put-then-write-first.ensures.sizes.0 c.put-then-write-first.ensures.sizes.1

pub returns-else-write-first-clause-put : goal.returns-else-write-first-clause-put
returns-else-write-first-clause-put c =
    nothing_other c.args.nodes.now c.args.kinds.now c.args.read_from c.args.write_order c.in-ReadFrom.write c.in-ReadFrom.read c.in-WriteOrder.first c.in-WriteOrder.second _ _ c.args.found.now.list c.requires.read_from c.requires.write_order c.in-ReadFrom.is c.in-WriteOrder.is c.if-write-first.false
