use Rattle.std.proofs.Common.{◌≡◌, ◌∙◌, Err, ap, inl, inr, map, sym}
use Rattle.std.proofs.lemmas.Result.{IfErr-weaker, IfOk-weaker}
use Rattle.clap.specs.Matches.{found_of}
use Rattle.clap.specs.Walk.{rows_of}
use Rattle.word_settings.proofs.Asked.{asked, never_ok, refused, refused_by}
use Rattle.word_settings.proofs.read.settings_of.Goals as goal

pub returns : goal.returns
returns c =
    let same = asked c.args.words.now (map (λ s. s.now) c.as_slice.result.now) (rows_of (found_of c.in_ok-matches.matches))
    (ap (map (λ s. s.now)) c.as_slice.ensures.value ∙ c.in_ok-texts.ensures) c.in_ok-matches.ensures.taken c.in_ok-matches.ensures.found in
    record {
      ok = IfOk-weaker c.settings_in.result _ _ (λ s h. same ∙ h) c.settings_in.ensures.ok;
      fault = IfErr-weaker c.settings_in.result _ _ (λ e h. elim h [ inl memory ↦ inl memory | inr is ↦ inr (same ∙ is) ]) c.settings_in.ensures.fault;
      bound = c.settings_in.ensures.bound;
      workers = c.settings_in.ensures.workers;
      budget = c.settings_in.ensures.budget;
      share = c.settings_in.ensures.share;
      number = c.settings_in.ensures.number;
      files = c.settings_in.ensures.files;
    }

pub returns-in_err-texts : goal.returns-in_err-texts
returns-in_err-texts c =
    let r = c.from_residual.result in
    let e = c.from_residual.ensures.1 in
    record {
      ok = never_ok r _ _ e;
      fault = refused_by r _ _ e (λ _ is. inl is);
      bound = never_ok r _ _ e;
      workers = never_ok r _ _ e;
      budget = never_ok r _ _ e;
      share = never_ok r _ _ e;
      number = never_ok r _ _ e;
      files = never_ok r _ _ e;
    }

pub returns-in_err-matches : goal.returns-in_err-matches
returns-in_err-matches c =
    let r = c.from_residual-in_err-matches.result in
    let e = c.from_residual-in_err-matches.ensures.1 in
    let same = ap (map (λ s. s.now)) c.as_slice.ensures.value ∙ c.in_ok-texts.ensures in
    record {
      ok = never_ok r _ _ e;
      fault = refused_by r _ _ e (λ _ is. elim c.in_err-matches.ensures.fault [
        | inl memory ↦ inl (is ∙ memory)
        | inr k ↦ inr (refused c.args.words.now (map (λ s. s.now) c.as_slice.result.now) k.0 same k.2 ∙ ap Err (sym (is ∙ k.1)))
      ]);
      bound = never_ok r _ _ e;
      workers = never_ok r _ _ e;
      budget = never_ok r _ _ e;
      share = never_ok r _ _ e;
      number = never_ok r _ _ e;
      files = never_ok r _ _ e;
    }
