-- A text that has no refusal is accepted: each rule holds, or is first broken somewhere.
use Rattle.std.proofs.Common.{◌≡◌, ◌≢◌, ℕ, zero, suc, ◌<◌, Bool, List, [], ◌∷◌, ◌++◌, append_assoc, Option, Some, None, Result, Ok, Err, refl, subst, ◌∙◌, arith, ⊎_elim, inl, inr}
use Rattle.std.specs.Prelude.{◌⊎◌}
use Rattle.dg_base.specs.declared.Place.{Place}
use Rattle.dg_base.specs.declared.refusal.Refusal.{Refusal}
use Rattle.dg_base.specs.declared.refusal.Refusal.TheVariants as refusal
use Rattle.token_list.specs.declared.Token.{Token}
use Rattle.token_list.specs.declared.Tokens.{Tokens}
use Rattle.c_token.specs.Tokens.{answer}
use Rattle.c_tree.specs.Level.{capped}
use Rattle.c_tree.specs.declared.program.Item.{Item}
use Rattle.c_tree.specs.declared.program.Program.{Program}
use Rattle.c_expr.specs.Parser.{place_of}
use Rattle.c_stmt.specs.Programs.{BeginsProgram, HasCause, IsLongestStart, ReadsProgram, no_item}
use Rattle.c_rules.specs.Naming.{HasMain, DeclaresOnce, IsNamed}
use Rattle.c_rules.specs.Scopes.{first_duplicate, first_unknown}
use Rattle.c_rules.specs.Types.{first_bad_type}
use Rattle.c_rules.specs.Typing.{IsTyped}
use Rattle.c_check.specs.declared.checked.Checked.{Checked}
use Rattle.c_check.specs.Checked.{function_names, cells_of}
use Rattle.c_check.specs.Limits.{exceeds}
use Rattle.c_check.specs.Recursion.{Calls, Leads, NoRecursion, IsFirstRecursive, at_once, over}
use Rattle.c_check.specs.Sections.{first_unmatched}
use Rattle.c_check.specs.WellFormed.{MatchesSections, IsNotRecursive, IsFirstRefusal, IsWellFormed, IsBound}
use Rattle.c_program.specs.Accepting.{IsAccepted, IsRead, IsRefused, NotNeither, no_tokens, no_program, broken}

either : {A : Type 0} (o : Option A) → (o ≡ None) ⊎ ((x : A) × (o ≡ Some x))
either None = inl refl
either (Some x) = inr (x, refl)

-- ---- the grammar

-- from a run with which some program begins on, there is a longest one
longest : (list run rest : List Token) → run ++ rest ≡ list → BeginsProgram run → ((run rest : List Token) → IsLongestStart list run rest → ⊥) → ⊥
longest list run [] all begins none = none run [] (record { all = all; begins = begins; ends = λ t more e. absurd cc })
longest list run (t ∷ rest) all begins none = none run (t ∷ rest) (record {
  all = all;
  begins = begins;
  ends = λ u more e next. let same : u ≡ t = cc in
      longest list (run ++ t ∷ []) rest (append_assoc run (t ∷ []) rest ∙ all) (subst (λ (z : Token). BeginsProgram (run ++ z ∷ [])) same next) none;
})

-- tokens that are no program have a first place where they go wrong
syntax_told : (tokens : Tokens) → ((program : Program) → ReadsProgram tokens.list program → ⊥) → ((place : Place) → HasCause tokens (refusal.Syntax place) → ⊥) → ⊥
syntax_told tokens wrong none =
    longest tokens.list [] tokens.list refl ([], record { items = [] }, no_item)
    (λ run rest longest. none (place_of rest tokens.end) (run, rest, longest, wrong, refl))

-- ---- recursion

-- where no function is the first of the text that leads back to itself, none does
module _ (items : List Item) (none : (place : Place) → IsFirstRecursive items place → ⊥) where
  below : (n i : ℕ) → i < n → Leads items i i → ⊥
  below zero i less leads = absurd (omega arith)
  below (suc n) i less leads = from_call (calls_first leads) (λ j earlier. below n j (omega arith))
    where
      calls_first : {k j : ℕ} → Leads items k j → (m : ℕ) × Calls items k m
      calls_first (at_once {j = j} c) = (j, c)
      calls_first (over {m = m} c l) = (m, c)

      from_call : (m : ℕ) × Calls items i m → ((j : ℕ) → j < i → Leads items j j → ⊥) → ⊥
      from_call c first = none c.1.caller.place (record {
        number = i;
        function = c.1.caller;
        stands = c.1.stands;
        recursive = leads;
        first = first;
        is = refl;
      })

  not_recursive : NoRecursion items
  not_recursive i leads = below (suc i) i (omega arith) leads

-- ---- the checks

-- a program without a first refusal is well formed
module _ (k : ℕ) (program : Program) (none : (e : Refusal) → e ≢ refusal.OutOfMemory → IsFirstRefusal k program e → ⊥) (fails : IsWellFormed k program → ⊥) where
  by_limits : IsNamed program → IsTyped program → MatchesSections program → IsNotRecursive program → ⊥
  by_limits named typed sections straight =
      ⊎_elim
      (λ limits. fails (record { main = named.main; once = named.once; known = named.known; typed = typed; sections = sections; straight = straight; limits = limits }))
      (λ l. none (refusal.Limit l.0.kind (capped l.0.count)) (λ e. cc) (named, typed, sections, straight, record { limited = l.0; first = l.1; same_kind = refl; told = refl }))
      (either (exceeds k program))

  by_recursion : IsNamed program → IsTyped program → MatchesSections program → ⊥
  by_recursion named typed sections =
      by_limits named typed sections (not_recursive program.items (λ place first. none (refusal.Recursion place) (λ e. cc) (named, typed, sections, first)))

  by_sections : IsNamed program → IsTyped program → ⊥
  by_sections named typed =
      ⊎_elim (λ sections. by_recursion named typed sections) (λ p. none (refusal.UnmatchedAtomic p.0) (λ e. cc) (named, typed, p.1)) (either (first_unmatched program))

  by_types : IsNamed program → ⊥
  by_types named = ⊎_elim (λ typed. by_sections named typed) (λ p. none (refusal.BadType p.0) (λ e. cc) (named, p.1)) (either (first_bad_type program))

  by_unknown : HasMain program → DeclaresOnce program → ⊥
  by_unknown main once =
      ⊎_elim (λ known. by_types (record { main = main; once = once; known = known })) (λ p. none (refusal.Unknown p.0) (λ e. cc) (main, once, p.1)) (either (first_unknown program))

  by_duplicate : HasMain program → ⊥
  by_duplicate main = ⊎_elim (λ once. by_unknown main once) (λ p. none (refusal.Duplicate p.0) (λ e. cc) (main, p.1)) (either (first_duplicate program))

  refused_or_formed : ⊥
  refused_or_formed = none refusal.NoMain (λ e. cc) (λ main. by_duplicate main)

-- ---- the text

-- the program, checked for a bound
checked_for : ℕ → Bool → Program → Checked
checked_for bound full program = record { program = program; functions = function_names program; cells = cells_of program; k = bound; full = full }

module _ (bound : ℕ) (full : Bool) (text : List ℕ) (within : IsBound bound) (accepted : (p : Checked) → IsAccepted bound full text p → ⊥) (refused : (e : Refusal) → IsRefused bound text e → ⊥) where
  by_program : (tokens : Tokens) → answer text ≡ Ok tokens → (program : Program) → ReadsProgram tokens.list program → ⊥
  unfolding checked_for
  by_program tokens lexed program reads =
      let read : IsRead text program = record { tokens = tokens; lexed = lexed; read = reads } in
      refused_or_formed bound program (λ e known first. refused e (broken program e read first known))
      (λ formed. accepted (checked_for bound full program) (record {
        read = read;
        checked = record { bound = within; well_formed = formed; functions = refl; cells = refl };
        for_bound = refl;
        for_full = refl;
      }))

  by_tokens : (r : Result Tokens Refusal) → answer text ≡ r → ⊥
  by_tokens (Err e) lexed = refused e (no_tokens e lexed)
  by_tokens (Ok tokens) lexed = syntax_told tokens (by_program tokens lexed) (λ place cause. refused (refusal.Syntax place) (no_program tokens place lexed cause))

pub not_neither : NotNeither
not_neither bound full text within accepted refused = by_tokens bound full text within accepted refused (answer text) refl
