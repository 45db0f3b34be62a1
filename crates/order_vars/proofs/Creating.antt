-- The edges of creates, as pairs of events are met.
use Rattle.std.proofs.Common.{◌≡◌, ◌≢◌, ℕ, ◌+◌, ◌<◌, ◌≤◌, ◌⊎◌, inl, inr, List, [], ◌∷◌, ◌++◌, length, ap, sym, ◌∙◌, subst, arith}
use Rattle.std.specs.Prelude.{Contains}
use Rattle.std.proofs.lemmas.Option.{slice_get_within}
use Rattle.std.proofs.lemmas.List.Elements.{Contains-append_left, Contains-append_right, Contains-append_cases}
use Rattle.dg_base.proofs.Lists.{contains_head, contains_cases, contains_nothing, one_answer}
use Rattle.cnf_problem.specs.declared.problem.Edge.{Edge}
use Rattle.cnf_problem.specs.Edges.{global_edge}
use Rattle.memory_models.specs.declared.StaticEvent.{StaticEvent}
use Rattle.memory_models.specs.declared.StaticKind.TheVariants as kind
use Rattle.memory_models.specs.Events.{IsAt}
use Rattle.order_vars.specs.Atoms.{nodes_of, IsCreateEdge, AreCreateEdges}

-- the first event creates the thread that the second starts
abbrev pub Creates : StaticEvent → StaticEvent → Type 0
Creates a b = (a.kind ≡ kind.Create b.instance) × (b.kind ≡ kind.Start)

-- the edges of the pairs from the events before a place, and of those from the event there to the events before another
pub record AreFound (es : List StaticEvent) (edges : List Edge) (from to : ℕ) : Type 0 where
  pub sound : (e : Edge) → Contains edges e → IsCreateEdge es e
  pub complete : (e : Edge) (h : IsCreateEdge es e) → h.create ≤ from → (h.create ≡ from → h.start < to) → Contains edges e

pub none_found : (es : List StaticEvent) → AreFound es [] 0 0
none_found es = record {
  sound = λ e h. absurd (contains_nothing e h);
  complete = λ e h below last. let same : h.create ≡ 0 = omega arith in let none : h.start < 0 = last same in absurd (omega arith);
}

-- before the next event's pairs
pub found_next : (es : List StaticEvent) (edges : List Edge) (from : ℕ) → AreFound es edges from (length es) → AreFound es edges (from + 1) 0
found_next es edges from far = record {
  sound = far.sound;
  complete = λ e h below last.
      let apart : h.create ≢ from + 1 = λ same. let none : h.start < 0 = last same in omega arith in
      far.complete e h (omega arith) (λ same. slice_get_within es h.start h.starting h.starts);
}

-- no edge behind the last pair
pub found_all : (es : List StaticEvent) (edges : List Edge) (from : ℕ) → length es ≤ from → AreFound es edges from 0 → AreCreateEdges es edges
found_all es edges from all far = record {
  sound = far.sound;
  complete = λ e h.
      let within : h.create < length es = slice_get_within es h.create h.creating h.creates in
      far.complete e h (omega arith) (λ same. absurd (omega arith));
}

-- the pair of two places is that of the events there
pair_there : (es : List StaticEvent) (from to : ℕ) (a b : StaticEvent) (e : Edge) → IsAt es from a → IsAt es to b → (h : IsCreateEdge es e) → h.create ≡ from → h.start ≡ to
    → Creates a b × (e ≡ global_edge (nodes_of es) from to)
pair_there es from to a b e at there h is_from is_to =
    let first : h.creating ≡ a = one_answer _ h.creating a (subst (λ n. IsAt es n h.creating) is_from h.creates) at in
    let second : h.starting ≡ b = one_answer _ h.starting b (subst (λ n. IsAt es n h.starting) is_to h.starts) there in (
      subst (λ (x : StaticEvent). Creates x b) first (subst (λ (x : StaticEvent). Creates h.creating x) second h.same_kinds),
      h.same_edge ∙ ap (λ n. global_edge (nodes_of es) n h.start) is_from ∙ ap (λ n. global_edge (nodes_of es) from n) is_to,
    )

before_or_there : (n k : ℕ) → n < k + 1 → (n < k) ⊎ (n ≡ k)
before_or_there n k h = grind arith

-- the pairs met before one more, or that one
met_before : (es : List StaticEvent) (edges : List Edge) (from to : ℕ) (e : Edge) → AreFound es edges from to → (h : IsCreateEdge es e) → h.create ≤ from → (h.create ≡ from → h.start < to + 1)
    → Contains edges e ⊎ ((h.create ≡ from) × (h.start ≡ to))
met_before es edges from to e far h below last =
    elim (before_or_there h.create from (omega arith)) [
      | inl older ↦ inl (far.complete e h below (λ same. absurd (omega arith)))
      | inr same ↦ elim (before_or_there h.start to (last same)) [
        | inl before ↦ inl (far.complete e h below (λ _. before))
        | inr there ↦ inr (same, there)
      ]
    ]

-- a pair that creates nothing
pub found_apart : (es : List StaticEvent) (edges : List Edge) (from to : ℕ) (a b : StaticEvent) → IsAt es from a → IsAt es to b → ¬ Creates a b → AreFound es edges from to → AreFound es edges from (to + 1)
found_apart es edges from to a b at there apart far = record {
  sound = far.sound;
  complete = λ e h below last. elim (met_before es edges from to e far h below last) [
    | inl found ↦ found
    | inr here ↦ absurd (apart (pair_there es from to a b e at there h here.0 here.1).0)
  ];
}

-- a pair with its edge
pub found_more : (es : List StaticEvent) (edges : List Edge) (from to : ℕ) (a b : StaticEvent) → IsAt es from a → IsAt es to b → Creates a b → AreFound es edges from to
    → AreFound es (edges ++ global_edge (nodes_of es) from to ∷ []) from (to + 1)
found_more es edges from to a b at there creates far = record {
  sound = λ e listed. elim (Contains-append_cases edges (global_edge (nodes_of es) from to ∷ []) e listed) [
    | inl old ↦ far.sound e old
    | inr new ↦ elim (contains_cases (global_edge (nodes_of es) from to) e [] new) [
      | inl same ↦ record { create = from; start = to; creating = a; starting = b; creates = at; starts = there; same_kinds = creates; same_edge = same }
      | inr none ↦ absurd (contains_nothing e none)
    ]
  ];
  complete = λ e h below last. elim (met_before es edges from to e far h below last) [
    | inl found ↦ Contains-append_left edges (global_edge (nodes_of es) from to ∷ []) e found
    | inr here ↦ Contains-append_right edges (global_edge (nodes_of es) from to ∷ []) e
        (subst (λ (x : Edge). Contains (global_edge (nodes_of es) from to ∷ []) x) (sym (pair_there es from to a b e at there h here.0 here.1).1) (contains_head (global_edge (nodes_of es) from to) []))
  ];
}
