use Rattle.std.proofs.Common.{◌≡◌, ◌<◌, length, get_or, ◌∙◌, arith}
use Rattle.std.proofs.lemmas.Option.{slice_get-get_or}
use Rattle.memory_models.specs.declared.StaticEvent.{StaticEvent}
use Rattle.memory_models.specs.declared.StaticKind.TheVariants as kind
use Rattle.order_vars.proofs.EventWords.{words_of, events_more, guard_over}
use Rattle.order_vars.proofs.Into.{into_none, first_choice, first_over, into_link, linked_grows, linked_over, into_choice, into_plain}
use Rattle.order_vars.proofs.links.link_into.Goals as goal
use Rattle.order_vars.proofs.links.link_into.Goals.{then-is_choosing+in_ok-clause, else-is_choosing}

-- what the code reads past the last event
abbrev default : StaticEvent
default = record { instance = 0; kind = kind.Initial; cell = 0; guard = record { 0 = 0 }; block = 0 }

pub loop-from-init : goal.loop-from-init
loop-from-init c =
    let es = c.args.scene.now.events.now in
    let guard = (get_or es c.args.to default).guard in
    let within : c.args.to < length es = omega arith in
    let one = first_choice c.new-choices.result c.push.new.self c.negated.result guard c.new-choices.ensures c.in_ok-push.ensures.ok c.negated.ensures.value in
    record {
      over = c.requires.over;
      choices_over = first_over c.args.gates.now.vars c.push.new.self guard one (guard_over c.args.gates.now.vars es (words_of c.args.scene.now.values.now) c.args.to default c.requires.over within);
      built = λ base far. into_none c.args.scene.now.model es (words_of c.args.scene.now.values.now) base c.args.gates.now c.args.atoms.now c.push.new.self guard c.args.to one far;
    }

pub loop-from-preserved : goal.loop-from-preserved
loop-from-preserved c = record {
  over = events_more c.loop-from.gates.vars c.link.new.gates.vars c.args.scene.now.events.now (words_of c.args.scene.now.values.now)
      (linked_grows _ _ _ _ _ _ _ _ _ _ _ c.in_ok-link.ensures) c.loop-from.invariant.over;
  choices_over = linked_over _ _ _ _ _ _ _ _ _ _ _ c.in_ok-link.ensures c.loop-from.invariant.choices_over;
  built = λ base far. into_link c.args.scene.now.model c.args.scene.now.events.now (words_of c.args.scene.now.values.now) base _ _ _ _ _ _ _ c.args.to c.loop-from.from
      c.loop-from.invariant.over c.in_ok-link.ensures (c.loop-from.invariant.built base far);
}

pub returns : goal.returns
returns c = λ base far.
    let es = c.args.scene.now.events.now in
    let within : c.args.to < length es = omega arith in
    let at = slice_get-get_or es c.args.to default within in
    let all : c.loop-from.from ≡ length es = omega arith in
    let built = c.loop-from.invariant.built base far in
    elim c.if-is_choosing.branch [
      | then-is_choosing+in_ok-clause w ↦ into_choice c.args.scene.now.model es (words_of c.args.scene.now.values.now) base c.loop-from.gates c.if-is_choosing.gates c.loop-from.atoms
          c.loop-from.choices w.as_slice.result.now c.args.to c.loop-from.from (get_or es c.args.to default) at (c.is_choosing.ensures.0 w.if-is_choosing.true) all
          w.as_slice.ensures (w.gates-is ∙ w.in_ok-clause.ensures.ok) built
      | else-is_choosing w ↦ into_plain c.args.scene.now.model es (words_of c.args.scene.now.values.now) base c.loop-from.gates c.if-is_choosing.gates c.loop-from.atoms
          c.loop-from.choices (get_or es c.args.to default).guard c.args.to c.loop-from.from (get_or es c.args.to default) at
          (λ kinds. let yes = c.is_choosing.ensures.1 kinds in let no = w.if-is_choosing.false in absurd (cc)) all w.gates-is built
    ]
