-- What the layers above use of the static events of a form.
use Rattle.std.specs.Prelude.{◌≡◌, ℕ, zero, suc, ◌+◌, ◌<◌, ◌≤◌, ◌⊎◌, List, [], ◌∷◌, Bool, true, false, not, ◌&&◌, nat_eq, Some, length, slice_get, slice_index_or, All, ◌↔◌}
use Rattle.axiom_model.specs.declared.Action.{Action}
use Rattle.axiom_model.specs.Execution.{OneSection}
use Rattle.dg_base.specs.declared.Lit.{Lit}
use Rattle.dg_base.specs.Values.{truth_of}
use Rattle.cnf_problem.specs.Literals.{value, IsOver}
use Rattle.bit_gates.specs.Words.{IsWordOver}
use Rattle.bit_blast.specs.Blasting.{SpellsTerms, inputs_under}
use Rattle.flat_prog.specs.declared.Flat.{Flat}
use Rattle.ssa_form.specs.declared.Ssa.{Ssa}
use Rattle.ssa_form.specs.declared.SsaPart.{SsaPart}
use Rattle.ssa_form.specs.Parts.{Valuation, actions_of, action_by}
use Rattle.ssa_form.specs.Form.{IsSsaOf, under}
use Rattle.memory_models.specs.Events.{AreStatic, IsPossible, IsOfThread, OneBlock}
use Rattle.memory_models.specs.declared.StaticEvent.{StaticEvent}
use Rattle.memory_models.specs.declared.StaticKind.{StaticKind}
use Rattle.memory_models.specs.declared.StaticKind.TheVariants.{Full, Initial}
use Rattle.memory_models.specs.declared.EventBits.{EventBits}
use Rattle.event_graph.specs.Graphs.{Acting, acting, guard_lit, events_of, bits_of}

-- ---- which events happen

-- the guard of the event at place n; a literal that is false where there is none
abbrev pub guard_at : List StaticEvent → ℕ → Lit
guard_at es n = (slice_index_or es n (record { instance = 0; kind = Full; cell = 0; guard = record { 0 = 3 }; block = n })).guard

-- whether the event at place n happens
abbrev pub happens : List Bool → List StaticEvent → ℕ → Bool
happens s es n = value s (guard_at es n)

abbrev pub is_initial : StaticKind → Bool
is_initial Initial = true
is_initial _ = false

-- whether an event is an action of this instance, and happens
abbrev pub happens_in : List Bool → ℕ → StaticEvent → Bool
happens_in s i e = (not (is_initial e.kind) && nat_eq e.instance i) && value s e.guard

-- how many of the first n items pass a test
abbrev pub count_before : {X : Type 0} → (X → Bool) → ℕ → List X → ℕ
count_before p zero xs = 0
count_before p (suc n) [] = 0
count_before p (suc n) (x ∷ xs) = truth_of (p x) + count_before p n xs

-- how many of the first n events are actions of this instance, and happen
abbrev pub earlier : List Bool → ℕ → ℕ → List StaticEvent → ℕ
earlier s i n es = count_before (happens_in s i) n es

-- ---- words that spell terms

-- what is asked of a form, of words for its terms and of an assignment
pub record IsSpelled (f : Flat) (x : Ssa) (words : List (List Lit)) (s : List Bool) : Type 0 where
  pub form : IsSsaOf f x
  pub count : length words ≡ length x.terms
  pub wide : All (λ w. length w ≡ 32) words
  pub spelled : SpellsTerms s words x.terms

-- the values of the terms
abbrev pub spelled_values : Ssa → List (List Lit) → List Bool → Valuation
spelled_values x words s = under (inputs_under s words) x

-- node n happens, and is the action at place k of the run of part i
pub record ActsAt (x : Ssa) (words : List (List Lit)) (s : List Bool) (i k n : ℕ) (a : Action) : Type 0 where
  pub place : ℕ
  pub act : Acting
  pub there : slice_get (acting x) place ≡ Some act
  pub node : n ≡ length x.initials + place
  pub of_part : act.instance ≡ i
  pub happens : value s (guard_lit words act.step.guard) ≡ true
  pub index : earlier s i n (events_of x words) ≡ k
  pub makes : action_by x.parts (spelled_values x words s) act.step.act ≡ a ∷ []

-- node n happens, and is an action of part i
pub record Acts (x : Ssa) (words : List (List Lit)) (s : List Bool) (i n : ℕ) : Type 0 where
  pub part : SsaPart
  pub there : slice_get x.parts i ≡ Some part
  pub place : ℕ
  pub action : Action
  pub acts : ActsAt x words s i place n action

-- ---- laws

-- the events are static events
abbrev pub EventsAreStatic : Type 0
EventsAreStatic = (f : Flat) (x : Ssa) (words : List (List Lit)) → IsSsaOf f x → AreStatic (events_of x words)

-- each event has its value
abbrev pub EventsHaveBits : Type 0
EventsHaveBits = (x : Ssa) (words : List (List Lit)) → length (bits_of x words) ≡ length (events_of x words)

-- guards and values are over the variables of the words
abbrev pub EventsAreOver : Type 0
EventsAreOver =
    (f : Flat) (x : Ssa) (words : List (List Lit)) (vars : ℕ)
    → IsSsaOf f x → length words ≡ length x.terms → All (IsWordOver vars) words → 1 ≤ vars
    → All (λ (e : StaticEvent). IsOver vars e.guard) (events_of x words) × All (λ (b : EventBits). IsWordOver vars b.bits) (bits_of x words)

-- those that happen under an assignment may happen together
abbrev pub EventsArePossible : Type 0
EventsArePossible =
    (f : Flat) (x : Ssa) (words : List (List Lit)) (s : List Bool)
    → IsSpelled f x words s
    → IsPossible (events_of x words) (happens s (events_of x words))

-- the actions of a part's run are its nodes that happen, in their order
abbrev pub ActionsAreNodes : Type 0
ActionsAreNodes =
    (f : Flat) (x : Ssa) (words : List (List Lit)) (s : List Bool) (i k : ℕ) (p : SsaPart) (a : Action)
    → IsSpelled f x words s → slice_get x.parts i ≡ Some p
    → (slice_get (actions_of x.parts (spelled_values x words s) p) k ≡ Some a) ↔ ((n : ℕ) × ActsAt x words s i k n a)

-- each event of a thread that happens is an action of its part's run
abbrev pub NodesAct : Type 0
NodesAct =
    (f : Flat) (x : Ssa) (words : List (List Lit)) (s : List Bool) (n : ℕ) (e : StaticEvent)
    → IsSpelled f x words s → IsOfThread (events_of x words) n e → value s e.guard ≡ true → Acts x words s e.instance n

-- of one part the earlier action has the lower node
abbrev pub NodesAreInOrder : Type 0
NodesAreInOrder =
    (x : Ssa) (words : List (List Lit)) (s : List Bool) (i j k m n : ℕ) (a b : Action)
    → ActsAt x words s i j m a → ActsAt x words s i k n b → (j < k) ↔ (m < n)

-- blocks of nodes that happen are sections of the run
abbrev pub BlocksAreSections : Type 0
BlocksAreSections =
    (f : Flat) (x : Ssa) (words : List (List Lit)) (s : List Bool) (i j k m n : ℕ) (p : SsaPart) (a b : Action)
    → IsSpelled f x words s → slice_get x.parts i ≡ Some p → ActsAt x words s i j m a → ActsAt x words s i k n b
    → ((j ≡ k) ⊎ OneSection (actions_of x.parts (spelled_values x words s) p) j k) ↔ OneBlock (events_of x words) m n
