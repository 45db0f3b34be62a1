use Rattle.std.proofs.Common.{◌≡◌, ◌∙◌, [], Some, None, ap, sym, inl, inr, codes, map}
use Rattle.std.proofs.lemmas.Result.{IfErr-weaker, IfOk-weaker}
use Rattle.std.specs.Option.{option_map, unwrap_or}
use Rattle.clap.specs.Matches.{found_of}
use Rattle.clap.specs.Walk.{all_of, rows_of}
use Rattle.clap.proofs.WalkLemmas.{raw_values-rows}
use Rattle.word_settings.proofs.Asked.{no_words}
use Rattle.word_settings.specs.Settings as spec
use Rattle.word_settings.proofs.read.with_names.Goals as goal

pub returns-in-Some-clause-ok : goal.returns-in-Some-clause-ok
returns-in-Some-clause-ok c =
    let rows = rows_of (found_of c.args.matches.now) in
    let all : Some (map (λ v. v.now) c.in-Some.words.now) ≡ all_of (codes "WORDS") rows =
    sym (ap (option_map (λ s. map (λ v. v.now) s.now)) c.in-Some.is) ∙ (c.get_strs.ensures ∙ raw_values-rows (found_of c.args.matches.now) (codes "WORDS")) in
    IfOk-weaker c.with_words.result _ _ (λ s h. ap (λ o. spec.with_words c.args.name c.args.model (unwrap_or o []) rows) (sym all) ∙ h) c.with_words.ensures.ok

pub returns-in-Some-clause-fault : goal.returns-in-Some-clause-fault
returns-in-Some-clause-fault c =
    let rows = rows_of (found_of c.args.matches.now) in
    let all : Some (map (λ v. v.now) c.in-Some.words.now) ≡ all_of (codes "WORDS") rows =
    sym (ap (option_map (λ s. map (λ v. v.now) s.now)) c.in-Some.is) ∙ (c.get_strs.ensures ∙ raw_values-rows (found_of c.args.matches.now) (codes "WORDS")) in
    IfErr-weaker c.with_words.result _ _
    (λ e h. elim h [
      | inl memory ↦ inl memory
      | inr is ↦ inr (ap (λ o. spec.with_words c.args.name c.args.model (unwrap_or o []) rows) (sym all) ∙ is)
    ]) c.with_words.ensures.fault

pub returns-in-None-clause-fault : goal.returns-in-None-clause-fault
returns-in-None-clause-fault c =
    let rows = rows_of (found_of c.args.matches.now) in
    let none : None ≡ all_of (codes "WORDS") rows =
    sym (ap (option_map (λ s. map (λ v. v.now) s.now)) c.in-None.is) ∙ (c.get_strs.ensures ∙ raw_values-rows (found_of c.args.matches.now) (codes "WORDS")) in
    inr (ap (λ o. spec.with_words c.args.name c.args.model (unwrap_or o []) rows) (sym none) ∙ no_words c.args.name c.args.model rows)
