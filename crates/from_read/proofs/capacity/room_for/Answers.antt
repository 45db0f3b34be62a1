use Rattle.std.proofs.Common.{◌≡◌, ℕ, ◌*◌, List, Bool, true, ap, subst, ◌∙◌, arith}
use Rattle.std.specs.Prelude.{count_by}
use Rattle.std.proofs.lemmas.List.{length-set, take_all}
use Rattle.cnf_problem.specs.declared.problem.AtomKind.{AtomKind}
use Rattle.from_read.proofs.Deriving.{at_kind, read_below, order_below}
use Rattle.from_read.proofs.Enough.{AreFlagged, enough, flag_read, flag_second, flag_plain}
use Rattle.from_read.proofs.capacity.room_for.Goals as goal
use Rattle.from_read.proofs.capacity.room_for.Goals.{in-ReadFrom, in-WriteOrder, in-Plain}

pub index_mut-requires : goal.index_mut-requires
index_mut-requires c =
    let r = read_below c.args.kinds.now c.loop-kind.kind-index c.in-ReadFrom.write c.in-ReadFrom.read c.args.nodes _ c.requires.over c.loop-kind-test.true c.in-ReadFrom.is in
    let long = c.loop-kind.reads.ok.0 in
    omega (arith, r.1, c.loop-kind.invariant.reads_long, long)

pub index_mut-requires-in-WriteOrder : goal.index_mut-requires-in-WriteOrder
index_mut-requires-in-WriteOrder c =
    let r = order_below c.args.kinds.now c.loop-kind.kind-index c.in-WriteOrder.first c.in-WriteOrder.second c.args.nodes _ c.requires.over c.loop-kind-test.true c.in-WriteOrder.is in
    let long = c.loop-kind.seconds.ok.0 in
    omega (arith, r.1, c.loop-kind.invariant.seconds_long, long)

pub loop-kind-preserved : goal.loop-kind-preserved
loop-kind-preserved c =
    let kinds = c.args.kinds.now in
    let k = c.loop-kind.kind-index in
    let h = c.loop-kind-test.true in
    let reads = c.loop-kind.reads.items in
    let seconds = c.loop-kind.seconds.items in
    let before = c.loop-kind.invariant in
    elim c.match-kind.branch [
      | in-ReadFrom w ↦
          let r = read_below kinds k w.in-ReadFrom.write w.in-ReadFrom.read c.args.nodes _ c.requires.over h w.in-ReadFrom.is in
          rw (w.reads-is, w.seconds-is) (record {
            set_so_far = flag_read kinds k w.in-ReadFrom.write w.in-ReadFrom.read reads seconds h (at_kind kinds k _ _ h w.in-ReadFrom.is) (omega (arith, r.1, before.reads_long)) before.set_so_far;
            reads_long = omega (arith, length-set reads w.in-ReadFrom.read true, before.reads_long);
            seconds_long = before.seconds_long;
          })
      | in-WriteOrder w ↦
          let r = order_below kinds k w.in-WriteOrder.first w.in-WriteOrder.second c.args.nodes _ c.requires.over h w.in-WriteOrder.is in
          rw (w.reads-is, w.seconds-is) (record {
            set_so_far = flag_second kinds k w.in-WriteOrder.first w.in-WriteOrder.second reads seconds h (at_kind kinds k _ _ h w.in-WriteOrder.is) (omega (arith, r.1, before.seconds_long)) before.set_so_far;
            reads_long = before.reads_long;
            seconds_long = omega (arith, length-set seconds w.in-WriteOrder.second true, before.seconds_long);
          })
      | in-Plain w ↦
          rw (w.reads-is, w.seconds-is) (record {
            set_so_far = flag_plain kinds k reads seconds h (at_kind kinds k _ _ h w.in-Plain.is) before.set_so_far;
            reads_long = before.reads_long;
            seconds_long = before.seconds_long;
          })
    ]

pub returns : goal.returns
returns c = λ table.
    let kinds = c.args.kinds.now in
    let reads = c.loop-kind.reads.items in
    let seconds = c.loop-kind.seconds.items in
    let flagged = subst (λ (l : List AtomKind). AreFlagged l reads seconds) (take_all c.loop-kind.kind-index kinds (omega (arith, c.loop-kind-test.false))) c.loop-kind.invariant.set_so_far in
    let a : c.count_set.result ≡ count_by (λ b. b) reads = c.count_set.ensures ∙ ap (λ (l : List Bool). count_by (λ b. b) l) c.deref.ensures.value in
    let b : c.count_set-2.result ≡ count_by (λ b. b) seconds = c.count_set-2.ensures ∙ ap (λ (l : List Bool). count_by (λ b. b) l) c.deref-2.ensures.value in
    let m : c.count_set.result * c.count_set-2.result ≡ count_by (λ b. b) reads * count_by (λ b. b) seconds = ap (λ (n : ℕ). n * c.count_set-2.result) a ∙ ap (λ (n : ℕ). count_by (λ b. b) reads * n) b in
    enough table kinds reads seconds (2 * (c.count_set.result * c.count_set-2.result)) flagged (omega (arith, m))
