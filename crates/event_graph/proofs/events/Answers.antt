use Rattle.std.proofs.Common.{◌≡◌, ◌∙◌, ◌++◌, List, None, length, map, refl, ap, sym, subst, arith}
use Rattle.std.specs.Prelude.{slice_get, Some}
use Rattle.std.proofs.lemmas.Option.{slice_get_read}
use Rattle.dg_base.specs.declared.Lit.{Lit}
use Rattle.bv_term.specs.declared.term.TermId.{TermId}
use Rattle.ssa_form.specs.declared.SsaPart.{SsaPart}
use Rattle.memory_models.specs.declared.EventBits.{EventBits}
use Rattle.event_graph.specs.Graphs.{acting_in, event_of, initial_events, bits_by, bits_in}
use Rattle.event_graph.specs.Walks.{HaveWords, HasWords, own_bits}
use Rattle.event_graph.proofs.Walking.{have_words, has_words, own_are, begun, part_on}
use Rattle.event_graph.proofs.events.Goals as goal

pub initial_writes-requires : goal.initial_writes-requires
initial_writes-requires c =
    subst (λ (ts : List TermId). HaveWords c.as_slice-words.result.now ts) (sym c.as_slice.ensures)
    (subst (λ (ws : List (List Lit)). HaveWords ws c.args.ssa.now.initials) (sym c.as_slice-words.ensures) (have_words c.args.ssa.now c.args.bits.now.words c.requires.form c.requires.words))

pub loop-instance-init : goal.loop-instance-init
loop-instance-init c =
    let events : c.in_ok-graph.graph.events ≡ initial_events 0 c.args.ssa.now.initials = c.in_ok-graph.ensures.events ∙ ap (λ (ts : List TermId). initial_events 0 ts) c.as_slice.ensures in
    let bits : c.in_ok-graph.graph.bits ≡ map (bits_by c.args.bits.now.words) c.args.ssa.now.initials =
    c.in_ok-graph.ensures.bits ∙ ap (λ (ts : List TermId). map (bits_by c.as_slice-words.result.now) ts) c.as_slice.ensures ∙ ap (λ (ws : List (List Lit)). map (bits_by ws) c.args.ssa.now.initials) c.as_slice-words.ensures in
    record {
      long = c.in-Ok.ensures.1 ∙ ap (λ (ps : List SsaPart). length ps) c.as_slice-parts.ensures;
      events = begun (event_of c.args.bits.now.words) c.in_ok-graph.graph.events (initial_events 0 c.args.ssa.now.initials) c.in_ok-graph.graph.events c.args.ssa.now events events;
      bits = begun (bits_in c.args.ssa.now.parts c.args.bits.now.words) c.in_ok-graph.graph.bits (map (bits_by c.args.bits.now.words) c.args.ssa.now.initials) c.in_ok-graph.graph.events c.args.ssa.now bits events;
    }

pub walk_part-requires : goal.walk_part-requires
walk_part-requires c =
    let p = c.index-parts-instance.result in
    let read = slice_get_read c.as_slice-parts.result.now (length c.as_slice-parts.result.now) c.loop-instance.instance p refl
    (omega (arith, c.loop-instance-test.true, c.loop-instance.invariant.long, ap (λ (ps : List SsaPart). length ps) c.as_slice-parts.ensures)) c.index-parts-instance.is in
    let there : slice_get c.args.ssa.now.parts c.loop-instance.instance ≡ Some p = ap (λ (ps : List SsaPart). slice_get ps c.loop-instance.instance) (sym c.as_slice-parts.ensures) ∙ read in
    subst (λ (ws : List (List Lit)). HasWords ws p) (sym c.as_slice-words.ensures) (has_words c.args.ssa.now c.args.bits.now.words c.loop-instance.instance p c.requires.form c.requires.words there)

pub loop-instance-preserved : goal.loop-instance-preserved
loop-instance-preserved c =
    let p = c.index-parts-instance.result in
    let n = c.loop-instance.instance in
    let es = c.loop-instance.graph.events in
    let ys = c.loop-instance.graph.bits in
    let ps = c.args.ssa.now.parts in
    let words = c.args.bits.now.words in
    let read = slice_get_read c.as_slice-parts.result.now (length c.as_slice-parts.result.now) n p refl
    (omega (arith, c.loop-instance-test.true, c.loop-instance.invariant.long, ap (λ (qs : List SsaPart). length qs) c.as_slice-parts.ensures)) c.index-parts-instance.is in
    let there : slice_get ps n ≡ Some p = ap (λ (qs : List SsaPart). slice_get qs n) (sym c.as_slice-parts.ensures) ∙ read in
    let events : c.walk_part.new.graph.events ≡ es ++ map (event_of words) (acting_in n (length es) None p.steps) =
    c.in_ok-walk_part.ensures.events ∙ ap (λ (ws : List (List Lit)). es ++ map (event_of ws) (acting_in n (length es) None p.steps)) c.as_slice-words.ensures in
    let own : c.walk_part.new.graph.bits ≡ ys ++ map (own_bits words p.handle) (acting_in n (length es) None p.steps) =
    c.in_ok-walk_part.ensures.bits ∙ ap (λ (ws : List (List Lit)). ys ++ map (own_bits ws p.handle) (acting_in n (length es) None p.steps)) c.as_slice-words.ensures in
    let bits = own ∙ ap (λ (zs : List EventBits). ys ++ zs) (own_are words ps n (length es) p there) in
    record {
      long = c.loop-instance.invariant.long;
      events = part_on (event_of words) (event_of words) ps n p es c.walk_part.new.graph.events es c.walk_part.new.graph.events _ there events c.loop-instance.invariant.events events;
      bits = part_on (event_of words) (bits_in ps words) ps n p es c.walk_part.new.graph.events ys c.walk_part.new.graph.bits _ there events c.loop-instance.invariant.bits bits;
    }
