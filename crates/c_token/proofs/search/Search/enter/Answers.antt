use Rattle.std.proofs.Common.{◌≡◌, Option, IfSome, List, [], get_or, refl, sym, ap, subst, ◌∙◌}
use Rattle.std.specs.HashMap.{values}
use Rattle.c_token.specs.declared.search.Entry.{Entry}
use Rattle.c_token.specs.declared.search.Frame.{Frame}
use Rattle.c_token.specs.declared.search.Passage.{Passage}
use Rattle.c_token.specs.declared.skim.Context.{Context}
use Rattle.c_token.specs.declared.skim.Region.{Region}
use Rattle.c_token.specs.Searching.{frames_of, Seeking}
use Rattle.c_token.specs.Sieving.{state}
use Rattle.c_token.specs.Skimming.{effect, effect_in}
use Rattle.c_token.proofs.Ends.{effects_used, effect_in_is}
use Rattle.c_token.proofs.Hunting.{reverse_last}
use Rattle.c_token.proofs.Passing.{RegionBehind, seeks_passed, seeks_repeated, seeks_begun, is_entry, on_ok}
use Rattle.c_token.proofs.search.Search.enter.Goals as goal

pub returns-in-Some-clause-seeks : goal.returns-in-Some-clause-seeks
returns-in-Some-clause-seeks c = λ bodies holds j w t b none s.
    let e = c.args.self.now.sieve.context.in_extern in
    let all = effects_used c.args.macros.now bodies c.args.number c.index-macros-number.result _ _ c.effects_behind-effects.result t c.requires c.index-macros-number.is c.as_slice.ensures c.as_slice-2.ensures (c.effects_behind-effects.ensures bodies) in
    let one : c.at-effect.result ≡ effect e (get_or bodies c.args.number []) = c.at-effect.ensures ∙ (ap (effect_in e) all ∙ effect_in_is e (get_or bodies c.args.number [])) in
    let found = subst (λ (o : Option Region). IfSome o (λ r. RegionBehind c.args.self.now.sieve.region c.at-effect.result r)) c.in-Some.is c.in_ok-region.ensures in
    seeks_passed c.args.macros.now bodies c.args.place holds (state c.args.self.now.sieve) _ (values c.args.self.now.passages) (frames_of c.args.self.now) j c.args.number w c.at-effect.result c.in-Some.region s none one found
    (ap (λ (m : Context). record (state c.args.self.now.sieve) { context = m; region = c.in-Some.region }) c.context_behind-self.ensures)

pub returns-in-Some-known-clause-seeks : goal.returns-in-Some-known-clause-seeks
returns-in-Some-known-clause-seeks c = λ bodies holds j w t b none s.
    let e = c.args.self.now.sieve.context.in_extern in
    let all = effects_used c.args.macros.now bodies c.args.number c.index-macros-number.result _ _ c.effects_behind-effects.result t c.requires c.index-macros-number.is c.as_slice.ensures c.as_slice-2.ensures (c.effects_behind-effects.ensures bodies) in
    let one : c.at-effect.result ≡ effect e (get_or bodies c.args.number []) = c.at-effect.ensures ∙ (ap (effect_in e) all ∙ effect_in_is e (get_or bodies c.args.number [])) in
    let here : Entry = record { number = c.args.number; context = c.args.self.now.sieve.context; region = c.args.self.now.sieve.region; behind = c.in_ok-behind.behind } in
    let entry = is_entry (state c.args.self.now.sieve) bodies c.args.number j c.args.behind c.least.result c.in_ok-behind.behind c.at-effect.result here one b c.least.ensures c.in_ok-behind.ensures.exact refl in
    let known = c.in-Some-known.ensures in
    on_ok c.repeat.result _ _
    (λ is.
    subst (λ (ps : List Passage). Seeking c.args.macros.now bodies c.args.place holds (state c.repeat.new.self.sieve) ps (frames_of c.repeat.new.self) 0 [] w) (sym (ap values c.repeat.ensures.passages))
    (subst (λ (fs : List Frame). Seeking c.args.macros.now bodies c.args.place holds (state c.repeat.new.self.sieve) (values c.args.self.now.passages) fs 0 [] w) (sym (ap (λ fs. frames_of (record c.args.self.now { frames = fs })) c.repeat.ensures.frames))
    (seeks_repeated c.args.macros.now bodies c.args.place holds (state c.args.self.now.sieve) (state c.repeat.new.self.sieve) (values c.args.self.now.passages) (frames_of c.args.self.now) j c.args.number w here c.in-Some-known.passage s none entry known.0 known.1 is)))
    c.repeat.ensures.sieve

pub returns-clause-seeks : goal.returns-clause-seeks
returns-clause-seeks c = λ bodies holds j w t b none s.
    let e = c.args.self.now.sieve.context.in_extern in
    let all = effects_used c.args.macros.now bodies c.args.number c.index-macros-number.result _ _ c.effects_behind-effects.result t c.requires c.index-macros-number.is c.as_slice.ensures c.as_slice-2.ensures (c.effects_behind-effects.ensures bodies) in
    let one : c.at-effect.result ≡ effect e (get_or bodies c.args.number []) = c.at-effect.ensures ∙ (ap (effect_in e) all ∙ effect_in_is e (get_or bodies c.args.number [])) in
    let here : Entry = record { number = c.args.number; context = c.args.self.now.sieve.context; region = c.args.self.now.sieve.region; behind = c.in_ok-behind.behind } in
    let entry = is_entry (state c.args.self.now.sieve) bodies c.args.number j c.args.behind c.least.result c.in_ok-behind.behind c.at-effect.result here one b c.least.ensures c.in_ok-behind.ensures.exact refl in
    let begun : Frame = record { entry = here; next = 0; count = c.args.self.now.sieve.count } in
    subst (λ (fs : List Frame). Seeking c.args.macros.now bodies c.args.place holds (state c.args.self.now.sieve) (values c.args.self.now.passages) fs 0 [] w) (sym (reverse_last _ _ begun c.in_ok-push.ensures.items))
    (seeks_begun c.args.macros.now bodies c.args.place holds (state c.args.self.now.sieve) (values c.args.self.now.passages) (frames_of c.args.self.now) j c.args.number w begun t c.requires s none entry refl refl)
