-- How links and their clauses add up.
use Rattle.std.proofs.Common.{◌≡◌, ℕ, ◌+◌, ◌<◌, ◌≤◌, inl, inr, ◌⊎◌, Bool, true, List, [], ◌∷◌, ◌++◌, length, get_or, ap, sym, ◌∙◌, subst, arith}
use Rattle.std.specs.Prelude.{Contains}
use Rattle.std.proofs.lemmas.List.{append-nil, append_assoc}
use Rattle.std.proofs.lemmas.List.Elements.{Contains-append_left, Contains-append_right, Contains-append_cases}
use Rattle.std.proofs.lemmas.List.Quantifiers.{all_pairs_push}
use Rattle.std.proofs.lemmas.Option.{slice_get_within, slice_get-get_or}
use Rattle.dg_base.specs.declared.Lit.{Lit}
use Rattle.dg_base.proofs.Lists.{contains_head, contains_cases, contains_nothing, contains_place, one_answer}
use Rattle.cnf_problem.specs.Literals.{value, negated, IsSatisfied}
use Rattle.cnf_problem.specs.Formulas.{Formula}
use Rattle.cnf_problem.proofs.Assignments.{value-append, over_more}
use Rattle.memory_models.specs.declared.StaticEvent.{StaticEvent}
use Rattle.memory_models.specs.declared.StaticKind.TheVariants as kind
use Rattle.memory_models.specs.Events.{IsAt}
use Rattle.order_vars.specs.Links.{Link, reading, beginning, rivalry, joining, MayRead, MayJoin, IsLink, HasLinks, from_of, to_of, ComeInOrder}
use Rattle.order_vars.specs.Holding.{LinkHolds, OrderHolds}
use Rattle.order_vars.specs.Clauses.{link_clauses}
use Rattle.axiom_model.specs.declared.MemoryModel.{MemoryModel}
use Rattle.cnf_problem.specs.declared.problem.Atom.{Atom}
use Rattle.cnf_problem.specs.declared.problem.Edge.{Edge}
use Rattle.order_vars.specs.Atoms.{atoms_of, AreCreateEdges}
use Rattle.order_vars.specs.Orders.{AreEventsOver, IsLinkOver, Choice, IsChosen, IsOrderOf}
use Rattle.order_vars.specs.Growing.{IsMet, HasLinksAt, IsInto, HasSome, Held, Grown, AddsLink, AreChoices}
use Rattle.order_vars.proofs.Implying.{satisfied_parts, satisfied_both, satisfied_none, satisfied_first, satisfied_one, not_both, true_or_negated}
use Rattle.order_vars.proofs.Linking.{link_says, link_held}

-- ---- lists of links

pub one_listed : (x y : Link) → Contains (x ∷ []) y → y ≡ x
one_listed x y h = elim (contains_cases x y [] h) [ inl e ↦ e | inr none ↦ absurd (contains_nothing y none) ]

-- a link of more variables
over_grown : (n m : ℕ) (x : Link) → n ≤ m → IsLinkOver n x → IsLinkOver m x
over_grown n m (reading w r l) h over = over_more n m l h over
over_grown n m (beginning i w l) h over = over_more n m l h over
over_grown n m (rivalry w v l back) h over = (over_more n m l h over.0, over_more n m back h over.1)
over_grown n m (joining e j l) h over = over_more n m l h over

-- a choice that was made stays made
chosen_kept : (s t : List Bool) (c : Choice) (x : Link) → IsLinkOver (length s) x → IsChosen s c x → IsChosen (s ++ t) c x
chosen_kept s t c (reading w r l) over h = value-append s t l over ∙ h
chosen_kept s t c (beginning i w l) over h = tt
chosen_kept s t c (rivalry w v l back) over h = (value-append s t l over.0 ∙ h.0, value-append s t back over.1 ∙ h.1)
chosen_kept s t c (joining e j l) over h = value-append s t l over ∙ h

-- what leads into an event is among all links, and among those that lead there
pub into_left : (links more : List Link) (b : ℕ) (l : Lit) → IsInto links b l → IsInto (links ++ more) b l
into_left links more b l (a, h) = (
  a,
  elim h [
    | inl r ↦ inl (Contains-append_left links more (reading a b l) r)
    | inr j ↦ inr (Contains-append_left links more (joining a b l) j)
  ],
)

into_older : (links : List Link) (x : Link) (b : ℕ) (l : Lit) → b < to_of x → IsInto (links ++ x ∷ []) b l → IsInto links b l
into_older links x b l below (a, h) = (
  a,
  elim h [
    | inl r ↦ elim (Contains-append_cases links (x ∷ []) (reading a b l) r) [
      | inl old ↦ inl old
      | inr new ↦ let same : b ≡ to_of x = ap to_of (one_listed x (reading a b l) new) in absurd (omega arith)
    ]
    | inr j ↦ elim (Contains-append_cases links (x ∷ []) (joining a b l) j) [
      | inl old ↦ inr old
      | inr new ↦ let same : b ≡ to_of x = ap to_of (one_listed x (joining a b l) new) in absurd (omega arith)
    ]
  ],
)

-- ---- what holds of more links

held_more : (es : List StaticEvent) (words : List (List Lit)) (links : List Link) (x : Link) (n : ℕ) (s : List Bool) → to_of x ≡ n → Held es words links n s → LinkHolds s es words x → Held es words (links ++ x ∷ []) n s
held_more es words links x n s to far one = record {
  each = λ y h. elim (Contains-append_cases links (x ∷ []) y h) [
    | inl old ↦ far.each y old
    | inr new ↦ subst (λ z. LinkHolds s es words z) (sym (one_listed x y new)) one
  ];
  some = λ b below e at kinds true_guard. let r = far.some b below e at kinds true_guard in (r.0, into_left links (x ∷ []) b r.0 r.1, r.2);
}

held_parts : (es : List StaticEvent) (words : List (List Lit)) (links : List Link) (x : Link) (n : ℕ) (s : List Bool) → to_of x ≡ n → Held es words (links ++ x ∷ []) n s → Held es words links n s × LinkHolds s es words x
held_parts es words links x n s to all = (
  record {
    each = λ y h. all.each y (Contains-append_left links (x ∷ []) y h);
    some = λ b below e at kinds true_guard. let r = all.some b below e at kinds true_guard in (r.0, into_older links x b r.0 (omega arith) r.1, r.2);
  },
  all.each x (Contains-append_right links (x ∷ []) x (contains_head x [])),
)

-- ---- no link

pub none_grown : (es : List StaticEvent) (words : List (List Lit)) (f : Formula) → Grown es words f f [] 0 0
none_grown es words f = record {
  sound = λ x h. absurd (contains_nothing x h);
  complete = λ a b met. elim met [ inl h ↦ absurd (omega arith) | inr h ↦ absurd (omega (arith, h.1)) ];
  once = λ i j d low high. absurd (omega arith);
  grows = omega arith;
  added = [];
  clauses = sym (append-nil f.clauses);
  exact = λ s. (
    (λ sat. record { each = λ x h. absurd (contains_nothing x h); some = λ b below. absurd (omega arith) }),
    (λ held. satisfied_none s),
  );
  free = λ s c long. record { more = []; values = ap length (append-nil s) ∙ long; chosen = λ x h. absurd (contains_nothing x h) };
}

-- ---- one more link

-- a pair that was met is the last one or was met before
met_cases : (n k a b : ℕ) → IsMet n (k + 1) a b → IsMet n k a b ⊎ ((a ≡ k) × (b ≡ n))
met_cases n k a b met = elim met [
  | inl h ↦ inl (inl h)
  | inr h ↦ by_place h.0 h.1
]
  where
    by_place : b ≡ n → a < k + 1 → IsMet n k a b ⊎ ((a ≡ k) × (b ≡ n))
    by_place e below = elim (lower a k below) [ inl h ↦ inl (inr (e, h)) | inr h ↦ inr (h, e) ]
      where
        lower : (a k : ℕ) → a < k + 1 → (a < k) ⊎ (a ≡ k)
        lower a k h = grind arith

met_more : (n k a b : ℕ) → IsMet n k a b → IsMet n (k + 1) a b
met_more n k a b met = elim met [ inl h ↦ inl h | inr h ↦ let below = h.1 in inr (h.0, omega arith) ]

-- links at a pair are there when more are
links_left : (es : List StaticEvent) (links more : List Link) (a b : ℕ) → HasLinksAt es links a b → HasLinksAt es (links ++ more) a b
links_left es links more a b has = record {
  reads = λ may. let r = has.reads may in (r.0, Contains-append_left links more (reading a b r.0) r.1);
  begins = λ may. let r = has.begins may in (r.0, Contains-append_left links more (beginning a b r.0) r.1);
  rivals = λ may. let r = has.rivals may in (r.0, r.1, Contains-append_left links more (rivalry a b r.0 r.1) r.2);
  joins = λ may. let r = has.joins may in (r.0, Contains-append_left links more (joining a b r.0) r.1);
}

links_right : (es : List StaticEvent) (links more : List Link) (a b : ℕ) → HasLinksAt es more a b → HasLinksAt es (links ++ more) a b
links_right es links more a b has = record {
  reads = λ may. let r = has.reads may in (r.0, Contains-append_right links more (reading a b r.0) r.1);
  begins = λ may. let r = has.begins may in (r.0, Contains-append_right links more (beginning a b r.0) r.1);
  rivals = λ may. let r = has.rivals may in (r.0, r.1, Contains-append_right links more (rivalry a b r.0 r.1) r.2);
  joins = λ may. let r = has.joins may in (r.0, Contains-append_right links more (joining a b r.0) r.1);
}

-- a pair that is not tied
pub grown_apart : (es : List StaticEvent) (words : List (List Lit)) (f g : Formula) (links : List Link) (n k : ℕ) → Grown es words f g links n k → HasLinksAt es [] k n → Grown es words f g links n (k + 1)
grown_apart es words f g links n k far apart = record {
  sound = λ x h. let r = far.sound x h in (r.0, r.1, met_more n k (from_of x) (to_of x) r.2);
  complete = λ a b met. elim (met_cases n k a b met) [
    | inl before ↦ far.complete a b before
    | inr here ↦ subst (λ z. HasLinksAt es links z b) (sym here.0) (subst (λ z. HasLinksAt es links k z) (sym here.1)
        (subst (λ z. HasLinksAt es z k n) (append-nil links) (links_right es links [] k n apart)))
  ];
  once = far.once;
  grows = far.grows;
  added = far.added;
  clauses = far.clauses;
  exact = far.exact;
  free = far.free;
}

-- a link of the pair that comes next
behind : (links : List Link) (x : Link) (n k : ℕ) → from_of x ≡ k → to_of x ≡ n → ((y : Link) → Contains links y → IsMet n k (from_of y) (to_of y)) → (y : Link) → Contains links y → ComeInOrder y x
behind links x n k from to met y listed = elim (met y listed) [
  | inl h ↦ inl (omega arith)
  | inr h ↦ let same = h.0 in let below = h.1 in inr (omega arith, omega arith)
]

-- a pair that is tied by a link
pub grown_link : (es : List StaticEvent) (words : List (List Lit)) (f g h : Formula) (links : List Link) (x : Link) (vars n k : ℕ)
    → AreEventsOver vars es words → from_of x ≡ k → to_of x ≡ n → HasLinksAt es (x ∷ []) k n
    → Grown es words f g links n k → AddsLink es words g h x → Grown es words f h (links ++ x ∷ []) n (k + 1)
grown_link es words f g h links x vars n k over from to tied far one = record {
  sound = λ y listed. elim (Contains-append_cases links (x ∷ []) y listed) [
    | inl old ↦ let r = far.sound y old in (r.0, over_grown g.vars h.vars y one.grows r.1, met_more n k (from_of y) (to_of y) r.2)
    | inr new ↦ subst (λ z. IsLink es z × IsLinkOver h.vars z × IsMet n (k + 1) (from_of z) (to_of z)) (sym (one_listed x y new)) (one.is, one.over, inr (to, omega arith))
  ];
  complete = λ a b met. elim (met_cases n k a b met) [
    | inl before ↦ links_left es links (x ∷ []) a b (far.complete a b before)
    | inr here ↦ subst (λ z. HasLinksAt es (links ++ x ∷ []) z b) (sym here.0) (subst (λ z. HasLinksAt es (links ++ x ∷ []) k z) (sym here.1) (links_right es links (x ∷ []) k n tied))
  ];
  once = all_pairs_push ComeInOrder links x far.once (λ i d below. behind links x n k from to (λ y listed. (far.sound y listed).2) (get_or links i d) (contains_place links i (get_or links i d) (slice_get-get_or links i d below)));
  grows = let a = far.grows in let b = one.grows in omega arith;
  added = far.added ++ link_clauses es words x;
  clauses = one.clauses ∙ ap (λ c. c ++ link_clauses es words x) far.clauses ∙ append_assoc f.clauses far.added (link_clauses es words x);
  exact = λ s. (
    (λ sat.
        let p = satisfied_parts s far.added (link_clauses es words x) sat in
        held_more es words links x n s to ((far.exact s).0 p.0) (link_says vars es words s x over one.is p.1)),
    (λ held.
        let p = held_parts es words links x n s to held in
        satisfied_both s far.added (link_clauses es words x) ((far.exact s).1 p.0) (link_held es words s x one.is p.1)),
  );
  free = λ s c long.
      let r = far.free s c long in
      let q = one.free (s ++ r.more) c r.values in
      let same : (s ++ r.more) ++ q.more ≡ s ++ (r.more ++ q.more) = append_assoc s r.more q.more in
      record {
        more = r.more ++ q.more;
        values = subst (λ z. length z ≡ h.vars) same q.values;
        chosen = λ y listed. subst (λ z. IsChosen z c y) same (elim (Contains-append_cases links (x ∷ []) y listed) [
          | inl old ↦ chosen_kept (s ++ r.more) q.more c y (subst (λ v. IsLinkOver v y) (sym r.values) (far.sound y old).1) (r.chosen y old)
          | inr new ↦ q.chosen y new
        ]);
      };
}

-- ---- the next event

-- all pairs into the event were met
met_next : (es : List StaticEvent) (n a b : ℕ) (e : StaticEvent) → IsAt es a e → IsMet (n + 1) 0 a b → IsMet n (length es) a b
met_next es n a b e at met =
    let within = slice_get_within es a e at in
    elim met [
      | inl h ↦ elim (lower b n h) [ inl below ↦ inl below | inr same ↦ inr (same, within) ]
      | inr h ↦ absurd (omega (arith, h.1))
    ]
  where
    lower : (b n : ℕ) → b < n + 1 → (b < n) ⊎ (b ≡ n)
    lower b n h = grind arith

met_on : (n k a b : ℕ) → IsMet n k a b → IsMet (n + 1) 0 a b
met_on n k a b met = elim met [ inl h ↦ inl (omega arith) | inr h ↦ let same = h.0 in inl (omega arith) ]

complete_next : (es : List StaticEvent) (words : List (List Lit)) (f g : Formula) (links : List Link) (n : ℕ) → Grown es words f g links n (length es) → (a b : ℕ) → IsMet (n + 1) 0 a b → HasLinksAt es links a b
complete_next es words f g links n far a b met = record {
  reads = λ may. (far.complete a b (met_next es n a b may.1.event may.1.there met)).reads may;
  begins = λ may. (far.complete a b (met_next es n a b may.1.event may.1.there met)).begins may;
  rivals = λ may. (far.complete a b (met_next es n a b may.1.event may.1.there met)).rivals may;
  joins = λ may. (far.complete a b (met_next es n a b may.0.event may.0.there met)).joins may;
}

-- an event before the next one is the last of them or before it
some_more : (s : List Bool) (es : List StaticEvent) (links : List Link) (n : ℕ) → ((b : ℕ) → b < n → HasSome s es links b) → HasSome s es links n → (b : ℕ) → b < n + 1 → HasSome s es links b
some_more s es links n below here b h = elim (lower b n h) [ inl less ↦ below b less | inr same ↦ subst (λ z. HasSome s es links z) (sym same) here ]
  where
    lower : (b n : ℕ) → b < n + 1 → (b < n) ⊎ (b ≡ n)
    lower b n h = grind arith

-- the clause of choices says that some one is true where the event happens
choices_say : (s : List Bool) (es : List StaticEvent) (links : List Link) (n : ℕ) (e : StaticEvent) (choices : List Lit)
    → IsAt es n e → AreChoices es links n e.guard choices → IsSatisfied s choices → HasSome s es links n
choices_say s es links n e choices at are (l, listed, v) f at2 kinds happens =
    let same : e ≡ f = one_answer _ e f at at2 in
    elim (are.sound l listed) [
      | inl denied ↦ absurd (not_both s f.guard happens (subst (λ (x : StaticEvent). value s (negated x.guard) ≡ true) same (subst (λ z. value s z ≡ true) denied v)))
      | inr into ↦ (l, into, v)
    ]

choices_hold : (s : List Bool) (es : List StaticEvent) (links : List Link) (n : ℕ) (e : StaticEvent) (choices : List Lit)
    → IsAt es n e → (e.kind ≡ kind.Read) ⊎ (e.kind ≡ kind.Join) → AreChoices es links n e.guard choices → HasSome s es links n → IsSatisfied s choices
choices_hold s es links n e choices at kinds are some =
    elim (true_or_negated s e.guard) [
      | inl happens ↦ let r = some e at kinds happens in (r.0, are.complete r.0 r.1, r.2)
      | inr denied ↦ (negated e.guard, are.denied, denied)
    ]

-- an event that is neither read nor join
pub grown_on : (es : List StaticEvent) (words : List (List Lit)) (f g : Formula) (links : List Link) (n : ℕ) (e : StaticEvent)
    → IsAt es n e → ¬ ((e.kind ≡ kind.Read) ⊎ (e.kind ≡ kind.Join)) → Grown es words f g links n (length es) → Grown es words f g links (n + 1) 0
grown_on es words f g links n e at other far = record {
  sound = λ x h. let r = far.sound x h in (r.0, r.1, met_on n (length es) (from_of x) (to_of x) r.2);
  complete = complete_next es words f g links n far;
  once = far.once;
  grows = far.grows;
  added = far.added;
  clauses = far.clauses;
  exact = λ s. (
    (λ sat. let h = (far.exact s).0 sat in record {
      each = h.each;
      some = some_more s es links n h.some (λ d there kinds happens. absurd (other (subst (λ (x : StaticEvent). (x.kind ≡ kind.Read) ⊎ (x.kind ≡ kind.Join)) (one_answer _ d e there at) kinds)));
    }),
    (λ held. (far.exact s).1 (record { each = held.each; some = λ b below. held.some b (omega arith) })),
  );
  free = far.free;
}

-- a read or a join, with its clause
pub grown_choice : (es : List StaticEvent) (words : List (List Lit)) (f g h : Formula) (links : List Link) (n : ℕ) (e : StaticEvent) (choices : List Lit)
    → IsAt es n e → (e.kind ≡ kind.Read) ⊎ (e.kind ≡ kind.Join) → AreChoices es links n e.guard choices → h.vars ≡ g.vars → h.clauses ≡ g.clauses ++ choices ∷ []
    → Grown es words f g links n (length es) → Grown es words f h links (n + 1) 0
grown_choice es words f g h links n e choices at kinds are vars clauses far = record {
  sound = λ x listed. let r = far.sound x listed in (r.0, subst (λ v. IsLinkOver v x) (sym vars) r.1, met_on n (length es) (from_of x) (to_of x) r.2);
  complete = complete_next es words f g links n far;
  once = far.once;
  grows = let a = far.grows in omega arith;
  added = far.added ++ choices ∷ [];
  clauses = clauses ∙ ap (λ c. c ++ choices ∷ []) far.clauses ∙ append_assoc f.clauses far.added (choices ∷ []);
  exact = λ s. (
    (λ sat.
        let p = satisfied_parts s far.added (choices ∷ []) sat in
        let held = (far.exact s).0 p.0 in
        record { each = held.each; some = some_more s es links n held.some (choices_say s es links n e choices at are (satisfied_first s choices [] p.1).0) }),
    (λ held. satisfied_both s far.added (choices ∷ []) ((far.exact s).1 (record { each = held.each; some = λ b below. held.some b (omega arith) }))
        (satisfied_one s choices (choices_hold s es links n e choices at kinds are (held.some n (omega arith))))),
  );
  free = λ s c long. let r = far.free s c long in record { more = r.more; values = r.values ∙ sym vars; chosen = r.chosen };
}

-- ---- all events

links_met : (es : List StaticEvent) (n b : ℕ) (e : StaticEvent) → length es ≤ n → IsAt es b e → (a : ℕ) → IsMet n 0 a b
links_met es n b e all at a = let within = slice_get_within es b e at in inl (omega arith)

pub all_linked : (es : List StaticEvent) (words : List (List Lit)) (f g : Formula) (links : List Link) (n : ℕ) → length es ≤ n → Grown es words f g links n 0 → HasLinks es links
all_linked es words f g links n all far = record {
  reads = λ w r may. (far.complete w r (links_met es n r may.2.event all may.2.there w)).reads may;
  begins = λ i w may. (far.complete i w (links_met es n w may.2.event all may.2.there i)).begins may;
  rivals = λ w v may. (far.complete w v (links_met es n v may.2.event all may.2.there w)).rivals may;
  joins = λ e j may. (far.complete e j (links_met es n j may.1.event all may.1.there e)).joins may;
}

-- a link into a read is of a source, and one into a join of an end
not_join : (es : List StaticEvent) (j : ℕ) (e : StaticEvent) (end : ℕ) → IsAt es j e → e.kind ≡ kind.Read → MayJoin es end j → ⊥
not_join es j e end at is may = let same : e ≡ may.1.event = one_answer _ e may.1.event at may.1.there in let k = may.1.same_kind in let s = ap (λ (x : StaticEvent). x.kind) same in cc

not_read : (es : List StaticEvent) (r : ℕ) (e : StaticEvent) (w : ℕ) → IsAt es r e → e.kind ≡ kind.Join → MayRead es w r → ⊥
not_read es r e w at is may = let same : e ≡ may.2.event = one_answer _ e may.2.event at may.2.there in let k = may.2.same_kind in let s = ap (λ (x : StaticEvent). x.kind) same in cc

pub order_from : (es : List StaticEvent) (words : List (List Lit)) (links : List Link) (n : ℕ) (s : List Bool) → length es ≤ n → ((x : Link) → Contains links x → IsLink es x) → Held es words links n s → OrderHolds es words links s
order_from es words links n s all sound held = record {
  each = held.each;
  some_source = λ r e at is happens.
      let within = slice_get_within es r e at in
      let some = held.some r (omega arith) e at (inl is) happens in
      elim some.1.1 [
        | inl reads ↦ (some.1.0, some.0, reads, some.2)
        | inr joins ↦ absurd (not_join es r e some.1.0 at is (sound (joining some.1.0 r some.0) joins))
      ];
  some_end = λ j e at is happens.
      let within = slice_get_within es j e at in
      let some = held.some j (omega arith) e at (inr is) happens in
      elim some.1.1 [
        | inl reads ↦ absurd (not_read es j e some.1.0 at is (sound (reading some.1.0 j some.0) reads))
        | inr joins ↦ (some.1.0, some.0, joins, some.2)
      ];
}

pub order_into : (es : List StaticEvent) (words : List (List Lit)) (links : List Link) (n : ℕ) (s : List Bool) → OrderHolds es words links s → Held es words links n s
order_into es words links n s holds = record {
  each = holds.each;
  some = λ b below e at kinds happens. elim kinds [
    | inl is ↦ let r = holds.some_source b e at is happens in (r.1, (r.0, inl r.2), r.3)
    | inr is ↦ let r = holds.some_end b e at is happens in (r.1, (r.0, inr r.2), r.3)
  ];
}

-- what is made of all events
pub order_made : (m : MemoryModel) (es : List StaticEvent) (words : List (List Lit)) (f g : Formula) (links : List Link) (n : ℕ) (atoms : List Atom) (fixed : List Edge)
    → length es ≤ n → Grown es words f g links n 0 → atoms ≡ atoms_of m es links → AreCreateEdges es fixed → IsOrderOf m es words f g atoms fixed
order_made m es words f g links n atoms fixed all far are creates = record {
  links = links;
  are_atoms = are;
  sound = λ x h. let r = far.sound x h in (r.0, r.1);
  complete = all_linked es words f g links n all far;
  once = far.once;
  grows = far.grows;
  added = far.added;
  clauses = far.clauses;
  exact = λ s. (
    (λ sat. order_from es words links n s all (λ x h. (far.sound x h).0) ((far.exact s).0 sat)),
    (λ holds. (far.exact s).1 (order_into es words links n s holds)),
  );
  free = far.free;
  creates = creates;
}
