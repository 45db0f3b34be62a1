-- A text has one refusal at most.
use Rattle.std.proofs.Common.{◌≡◌, ◌⊎◌, inl, inr, List, [], ◌∷◌, ◌++◌, sym, ap, ◌∙◌, subst, append_assoc}
use Rattle.dg_base.specs.declared.Place.{Place}
use Rattle.dg_base.specs.declared.refusal.Refusal.TheVariants as refusal
use Rattle.token_list.specs.declared.Token.{Token}
use Rattle.token_list.specs.declared.Tokens.{Tokens}
use Rattle.c_expr.specs.Parser.{place_of}
use Rattle.c_expr.proofs.OneRun.{IsFront, fronts}
use Rattle.c_stmt.specs.Programs.{OneProgram, ReadsProgram, BeginsProgram, IsLongestStart, HasCause}
use Rattle.c_check.specs.WellFormed.{IsFirstRefusal}
use Rattle.c_program.specs.Accepting.{OneRefusal, no_tokens, no_program, broken}
use Rattle.c_program.proofs.FirstRefusal.{one_first}
use Rattle.c_program.proofs.OneAnswer.{same_tokens, one_program_of_text}

-- what begins a program, begins one with its front
begins_front : (a b : List Token) → BeginsProgram (a ++ b) → BeginsProgram a
begins_front a b h = (b ++ h.0, h.1, subst (λ l. ReadsProgram l h.1) (append_assoc a b h.0) h.2)

no_front : {list a b s t : List Token} → IsLongestStart list a s → IsLongestStart list b t → IsFront a b s → ⊥
no_front {a = a} x y h =
    let whole : (a ++ h.token ∷ []) ++ h.more ≡ _ = append_assoc a (h.token ∷ []) h.more ∙ h.longer in
    x.ends h.token h.after h.follows (begins_front (a ++ h.token ∷ []) h.more (subst BeginsProgram (sym whole) y.begins))

-- behind the longest run with which some program begins stands one rest
one_rest : {list a b s t : List Token} → IsLongestStart list a s → IsLongestStart list b t → s ≡ t
one_rest {a = a} {b = b} {s = s} {t = t} x y = by (fronts a b s t (x.all ∙ sym y.all))
  where
    by : ((a ≡ b) × (s ≡ t)) ⊎ (IsFront a b s ⊎ IsFront b a t) → s ≡ t
    by (inl e) = e.1
    by (inr (inl h)) = absurd (no_front x y h)
    by (inr (inr h)) = absurd (no_front y x h)

one_cause : (tokens : Tokens) (p q : Place) → HasCause tokens (refusal.Syntax p) → HasCause tokens (refusal.Syntax q) → p ≡ q
one_cause tokens p q h k = h.4 ∙ (ap (λ r. place_of r tokens.end) (one_rest h.2 k.2) ∙ sym k.4)

pub one_refusal : OneProgram → OneRefusal
one_refusal one bound text _ _ (no_tokens e h) (no_tokens f k) = let same : e ≡ f = cc in same
one_refusal one bound text _ _ (no_tokens e h) (no_program tokens q l cause) = absurd cc
one_refusal one bound text _ _ (no_tokens e h) (broken program f r first n) = let lexed = r.lexed in absurd cc
one_refusal one bound text _ _ (no_program tokens p l cause) (no_tokens f k) = absurd cc
one_refusal one bound text _ _ (no_program tokens p l cause) (no_program others q k other) =
    ap refusal.Syntax (one_cause others p q (subst (λ (t : Tokens). HasCause t (refusal.Syntax p)) (same_tokens text tokens others l k) cause) other)
one_refusal one bound text _ _ (no_program tokens p l cause) (broken program f r first n) =
    absurd (cause.3 program (subst (λ (t : Tokens). ReadsProgram t.list program) (same_tokens text r.tokens tokens r.lexed l) r.read))
one_refusal one bound text _ _ (broken program e r first n) (no_tokens f k) = let lexed = r.lexed in absurd cc
one_refusal one bound text _ _ (broken program e r first n) (no_program tokens q l cause) =
    absurd (cause.3 program (subst (λ (t : Tokens). ReadsProgram t.list program) (same_tokens text r.tokens tokens r.lexed l) r.read))
one_refusal one bound text _ _ (broken program e r first n) (broken other f s second m) =
    let same = one_program_of_text one text program other r s in
    one_first bound other e f (subst (λ p. IsFirstRefusal bound p e) same first) n second m
