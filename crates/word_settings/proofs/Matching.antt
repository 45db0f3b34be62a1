-- What clap's answer says of the words.
use Rattle.std.proofs.Common.{◌≡◌, ◌⊎◌, ◌∙◌, List, [], ◌∷◌, true, Result, Ok, Err, IfOk, inl, inr, refl, sym, ap, subst}
use Rattle.clap.specs.Faults.{fault_of, is_simple_and_free}
use Rattle.clap.specs.Kinds.{FailsBy, HasKind, IsAmong, Kinds}
use Rattle.clap.specs.Matches.{found_of}
use Rattle.clap.specs.Simple.{App, HasMatchesOf, is_simple, matches_of}
use Rattle.clap.specs.Values.{kind_of}
use Rattle.clap.specs.Walk.{Text, rows_of}
use Rattle.clap.specs.declared.error.Error.{Error}
use Rattle.clap.specs.declared.error.kind.ErrorKind.{ErrorKind}
use Rattle.clap.specs.declared.error.kind.ErrorKind.TheVariants as kind
use Rattle.clap.specs.declared.parser.matches.ArgMatches.{ArgMatches}
use Rattle.word_settings.specs.CommandLine.{deagle, faults, found}
use Rattle.word_settings.proofs.OneKind.{IsOne, one_fault}

simple_and_free : is_simple_and_free deagle ≡ true
unfolding deagle
simple_and_free = refl

simple : is_simple deagle ≡ true
unfolding deagle
simple = refl

as_faults : (a : App) (ws : List Text) → a ≡ deagle → fault_of a ws ≡ faults ws
unfolding faults
as_faults a ws same = ap (λ x. fault_of x ws) same

as_found : (a : App) (ws : List Text) → a ≡ deagle → matches_of a ws ≡ found ws
unfolding found
as_found a ws same = ap (λ x. matches_of x ws) same

only_one : (ks : Kinds) (k : ErrorKind) → IsOne ks → IsAmong k ks → ks ≡ k ∷ []
only_one [] k one among = absurd among
only_one (x ∷ []) k one (inl e) = ap (λ y. y ∷ []) (sym e)
only_one (x ∷ []) k one (inr none) = absurd none
only_one (x ∷ y ∷ ks) k one among = absurd one

module _ (a : App) (ws : List Text) (r : Result ArgMatches Error) (same : a ≡ deagle) where
  pub none_taken : (m : ArgMatches) → (is_simple_and_free a ≡ true → FailsBy (fault_of a ws) r) → r ≡ Ok m → faults ws ≡ []
  none_taken m fails is =
      let none : fault_of a ws ≡ [] = subst (FailsBy (fault_of a ws)) is (fails (ap is_simple_and_free same ∙ simple_and_free)) in
      sym (as_faults a ws same) ∙ none

  pub rows_taken : (m : ArgMatches) → IfOk r (HasMatchesOf a ws) → r ≡ Ok m → rows_of (found_of m) ≡ found ws
  rows_taken m has is =
      let mine : HasMatchesOf a ws m = subst (λ x. IfOk x (HasMatchesOf a ws)) is has in
      (mine (ap is_simple same ∙ simple)).0 ∙ as_found a ws same

  pub one_refused : (e : Error) → (is_simple_and_free a ≡ true → FailsBy (fault_of a ws) r) → r ≡ Err e
      → (kind_of e ≡ kind.OutOfMemory) ⊎ (faults ws ≡ kind_of e ∷ [])
  one_refused e fails is =
      let has : HasKind (fault_of a ws) e = subst (FailsBy (fault_of a ws)) is (fails (ap is_simple_and_free same ∙ simple_and_free)) in
      let mine : HasKind (faults ws) e = subst (λ ks. HasKind ks e) (as_faults a ws same) has in
      elim mine [
        | inl memory ↦ inl memory
        | inr among ↦ inr (only_one (faults ws) (kind_of e) (one_fault ws) among)
      ]
