use Rattle.std.proofs.Common.{◌∷◌, [], ◌++◌, get_or, refl, sym, ◌∙◌, ap}
use Rattle.std.proofs.lemmas.List.{append-nil}
use Rattle.std.proofs.lemmas.Bool.{lt-ltb, ltb-true}
use Rattle.std.proofs.lemmas.Option.{slice_get-get_or}
use Rattle.memory_models.specs.declared.StaticEvent.{StaticEvent}
use Rattle.memory_models.specs.declared.StaticKind.TheVariants as kind
use Rattle.order_vars.specs.Links.{reading, beginning, rivalry, joining}
use Rattle.order_vars.specs.Growing.{apart, tied}
use Rattle.order_vars.proofs.EventWords.{words_of, guard_over}
use Rattle.order_vars.proofs.LinkMaking.{begin_added}
use Rattle.order_vars.proofs.Tying.{tied_apart, tied_source, tied_initial, tied_rival, tied_end, reads_alone, begins_alone, rivals_alone, joins_alone}
use Rattle.order_vars.proofs.links.link.Goals as goal

pub link_source-requires-clause-tied : goal.link_source-requires-clause-tied
link_source-requires-clause-tied c = tied_source c.args.scene.now.events.now _ _ c.args.from c.args.to _
    (slice_get-get_or c.args.scene.now.events.now c.args.from _ c.requires.from) (slice_get-get_or c.args.scene.now.events.now c.args.to _ c.requires.to) (sym c.in-Source.ensures)

pub link_rivals-requires-clause-tied : goal.link_rivals-requires-clause-tied
link_rivals-requires-clause-tied c = tied_rival c.args.scene.now.events.now _ _ c.args.from c.args.to _
    (slice_get-get_or c.args.scene.now.events.now c.args.from _ c.requires.from) (slice_get-get_or c.args.scene.now.events.now c.args.to _ c.requires.to)
    (ltb-true c.args.from c.args.to) (sym c.in-Rival.ensures)

pub link_end-requires-clause-tied : goal.link_end-requires-clause-tied
link_end-requires-clause-tied c = tied_end c.args.scene.now.events.now _ _ c.args.from c.args.to _
    (slice_get-get_or c.args.scene.now.events.now c.args.from _ c.requires.from) (slice_get-get_or c.args.scene.now.events.now c.args.to _ c.requires.to) (sym c.in-End.ensures)

pub returns-in-Apart : goal.returns-in-Apart
returns-in-Apart c = apart (tied_apart c.args.scene.now.events.now _ _ c.args.from c.args.to _
    (slice_get-get_or c.args.scene.now.events.now c.args.from _ c.requires.from) (slice_get-get_or c.args.scene.now.events.now c.args.to _ c.requires.to)
    (lt-ltb c.args.from c.args.to) (sym c.in-Apart.ensures)) refl refl refl

pub returns-in_ok-push-in-Source : goal.returns-in_ok-push-in-Source
returns-in_ok-push-in-Source c = tied (reading c.args.from c.args.to c.in_ok-link_source-in-Source.field-0) refl refl
    (reads_alone c.args.scene.now.events.now c.args.from c.args.to c.in_ok-link_source-in-Source.field-0 c.in_ok-link_source-in-Source.ensures.added.is)
    c.in_ok-link_source-in-Source.ensures.added c.in_ok-link_source-in-Source.ensures.atoms c.in_ok-push-in-Source.ensures.ok

-- what the code reads past the last event
abbrev default : StaticEvent
default = record { instance = 0; kind = kind.Initial; cell = 0; guard = record { 0 = 0 }; block = 0 }

pub returns-in_ok-push-in-Initial : goal.returns-in_ok-push-in-Initial
returns-in_ok-push-in-Initial c =
    let es = c.args.scene.now.events.now in
    let at = slice_get-get_or es c.args.to default c.requires.to in
    let may = tied_initial es (get_or es c.args.from default) (get_or es c.args.to default) c.args.from c.args.to _
    (slice_get-get_or es c.args.from default c.requires.from) at (sym c.in-Initial.ensures) in
    tied (beginning c.args.from c.args.to (get_or es c.args.to default).guard) refl refl
    (begins_alone es c.args.from c.args.to (get_or es c.args.to default).guard may)
    (begin_added es (words_of c.args.scene.now.values.now) c.args.gates.now c.args.from c.args.to (get_or es c.args.to default).guard may
    (get_or es c.args.to default, at, refl) (guard_over c.args.gates.now.vars es (words_of c.args.scene.now.values.now) c.args.to default c.requires.over c.requires.to))
    (c.in_ok-push-in-Initial.ensures.ok ∙ ap (λ x. c.args.atoms.now ++ x ∷ []) c.in_ok-order_atom-in-Initial.ensures)
    (sym (append-nil c.args.choices.now))

pub returns-in_ok-link_rivals-in-Rival : goal.returns-in_ok-link_rivals-in-Rival
returns-in_ok-link_rivals-in-Rival c = tied (rivalry c.args.from c.args.to c.in_ok-link_rivals-in-Rival.field-0.0 c.in_ok-link_rivals-in-Rival.field-0.1) refl refl
    (rivals_alone c.args.scene.now.events.now c.args.from c.args.to c.in_ok-link_rivals-in-Rival.field-0.0 c.in_ok-link_rivals-in-Rival.field-0.1 c.in_ok-link_rivals-in-Rival.ensures.0.is)
    c.in_ok-link_rivals-in-Rival.ensures.0 c.in_ok-link_rivals-in-Rival.ensures.1 (sym (append-nil c.args.choices.now))

pub returns-in_ok-push-in-End : goal.returns-in_ok-push-in-End
returns-in_ok-push-in-End c = tied (joining c.args.from c.args.to c.in_ok-link_end-in-End.field-0) refl refl
    (joins_alone c.args.scene.now.events.now c.args.from c.args.to c.in_ok-link_end-in-End.field-0 c.in_ok-link_end-in-End.ensures.added.is)
    c.in_ok-link_end-in-End.ensures.added c.in_ok-link_end-in-End.ensures.atoms c.in_ok-push-in-End.ensures.ok
