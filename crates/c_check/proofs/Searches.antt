-- A search keeps: what is marked is reached; what is marked and does not wait leads to marked numbers only.
use Rattle.std.proofs.Common.{◌≡◌, ◌∙◌, ◌≢◌, ◌<◌, ◌⊎◌, inl, inr, ◌+◌, ◌++◌, ℕ, zero, suc, refl, ap, sym, subst, List, [], ◌∷◌, Bool, true, false, cond, length, get_or, set, replicate, arith, length-append, get_or-set_same, get_or-set_other, length-set}
use Rattle.std.specs.Prelude.{IsTrue, ◌↔◌}
use Rattle.std.specs.List.{Contains}
use Rattle.std.proofs.lemmas.List.Elements.{Contains-append_left, Contains-append_right, Contains-push, Contains-push_cases, Contains-append_cases}
use Rattle.dg_base.proofs.Lists.{contains_nothing}
use Rattle.c_check.specs.declared.reachability.Search.{Search}
use Rattle.c_check.specs.Graph.{row_at, Path, one, next, IsClosed}
use Rattle.c_check.specs.Searching.{is_marked, mark_one, mark_all, unmarked}

abbrev Marked : Search → ℕ → Type 0
Marked s u = is_marked s.marks u ≡ true

pub mark_one_length : (s : Search) (v : ℕ) → length (mark_one s v).marks ≡ length s.marks
mark_one_length s v = elim (is_marked s.marks v) as (λ b. length (cond b s (record { marks = set s.marks v true; pending = s.pending ++ v ∷ [] })).marks ≡ length s.marks) [ true ↦ refl | false ↦ length-set s.marks v true ]

-- from a state to a later one, in which these numbers are marked too
pub record Grows (s t : Search) (more : List ℕ) : Type 0 where
  pub sound : (u : ℕ) → Marked t u → Marked s u ⊎ Contains more u
  pub all : (u : ℕ) → Contains more u → Marked t u
  pub kept : (u : ℕ) → Marked s u → Marked t u
  pub waits : (u : ℕ) → Marked t u → Marked s u ⊎ Contains t.pending u
  pub waited : (u : ℕ) → Contains s.pending u → Contains t.pending u
  pub marked : (u : ℕ) → Contains t.pending u → Contains s.pending u ⊎ Marked t u
  pub size : length t.marks ≡ length s.marks
  pub measure : unmarked t.marks + length t.pending ≡ unmarked s.marks + length s.pending

in_one : (u v : ℕ) → Contains (v ∷ []) u → v ≡ u
in_one u v (zero, h, e) = e
in_one u v (suc i, h, e) = absurd (omega arith)

unmarked_set : (bs : List Bool) (v : ℕ) → v < length bs → get_or bs v false ≡ false → unmarked (set bs v true) + 1 ≡ unmarked bs
unmarked_set [] v h e = absurd (omega arith)
unmarked_set (true ∷ bs) zero h e = absurd (cc)
unmarked_set (false ∷ bs) zero h e = omega arith
unmarked_set (true ∷ bs) (suc v) h e = unmarked_set bs v (omega arith) e
unmarked_set (false ∷ bs) (suc v) h e = omega (arith, unmarked_set bs v (omega arith) e)

same_or_other : (u v : ℕ) → (u ≡ v) ⊎ (u ≢ v)
same_or_other u v = grind arith

grows_same : (s : Search) (v : ℕ) → Marked s v → Grows s s (v ∷ [])
grows_same s v m = record {
  sound = λ u h. inl h;
  all = λ u c. subst (λ w. Marked s w) (in_one u v c) m;
  kept = λ u h. h;
  waits = λ u h. inl h;
  waited = λ u c. c;
  marked = λ u c. inl c;
  size = refl;
  measure = refl;
}

grows_new : (s : Search) (v : ℕ) → v < length s.marks → is_marked s.marks v ≡ false → Grows s (record { marks = set s.marks v true; pending = s.pending ++ v ∷ [] }) (v ∷ [])
grows_new s v h e =
    let at : get_or (set s.marks v true) v false ≡ true = get_or-set_same s.marks v true false h in
    record {
      sound = λ u m. elim (same_or_other u v) [ inl q ↦ inr (0, omega arith, sym q) | inr q ↦ inl (sym (get_or-set_other s.marks v u true false q) ∙ m) ];
      all = λ u c. subst (λ w. get_or (set s.marks v true) w false ≡ true) (in_one u v c) at;
      kept = λ u m. elim (same_or_other u v) [ inl q ↦ subst (λ w. get_or (set s.marks v true) w false ≡ true) (sym q) at | inr q ↦ get_or-set_other s.marks v u true false q ∙ m ];
      waits = λ u m. elim (same_or_other u v) [ inl q ↦ inr (subst (λ w. Contains (s.pending ++ v ∷ []) w) (sym q) (Contains-push s.pending v)) | inr q ↦ inl (sym (get_or-set_other s.marks v u true false q) ∙ m) ];
      waited = λ u c. Contains-append_left s.pending (v ∷ []) u c;
      marked = λ u c. elim (Contains-push_cases s.pending v u c) [ inl d ↦ inl d | inr q ↦ inr (subst (λ w. get_or (set s.marks v true) w false ≡ true) q at) ];
      size = length-set s.marks v true;
      measure = omega (arith, unmarked_set s.marks v h e, length-append s.pending (v ∷ []));
    }

grows_one : (s : Search) (v : ℕ) → v < length s.marks → (b : Bool) → is_marked s.marks v ≡ b → Grows s (cond b s (record { marks = set s.marks v true; pending = s.pending ++ v ∷ [] })) (v ∷ [])
grows_one s v h true e = grows_same s v e
grows_one s v h false e = grows_new s v h e

grows_none : (s : Search) → Grows s s []
grows_none s = record {
  sound = λ u h. inl h;
  all = λ u c. absurd (contains_nothing u c);
  kept = λ u h. h;
  waits = λ u h. inl h;
  waited = λ u c. c;
  marked = λ u c. inl c;
  size = refl;
  measure = refl;
}

grows_then : (s t r : Search) (vs ws : List ℕ) → Grows s t vs → Grows t r ws → Grows s r (vs ++ ws)
grows_then s t r vs ws a b = record {
  sound = λ u m. elim (b.sound u m) [ inl n ↦ elim (a.sound u n) [ inl o ↦ inl o | inr c ↦ inr (Contains-append_left vs ws u c) ] | inr c ↦ inr (Contains-append_right vs ws u c) ];
  all = λ u c. elim (Contains-append_cases vs ws u c) [ inl d ↦ b.kept u (a.all u d) | inr d ↦ b.all u d ];
  kept = λ u m. b.kept u (a.kept u m);
  waits = λ u m. elim (b.waits u m) [ inl n ↦ elim (a.waits u n) [ inl o ↦ inl o | inr c ↦ inr (b.waited u c) ] | inr c ↦ inr c ];
  waited = λ u c. b.waited u (a.waited u c);
  marked = λ u c. elim (b.marked u c) [ inl d ↦ elim (a.marked u d) [ inl o ↦ inl o | inr m ↦ inr (b.kept u m) ] | inr m ↦ inr m ];
  size = b.size ∙ a.size;
  measure = b.measure ∙ a.measure;
}

pub grows_all : (s : Search) (vs : List ℕ) → ((u : ℕ) → Contains vs u → u < length s.marks) → Grows s (mark_all s vs) vs
grows_all s [] h = grows_none s
grows_all s (v ∷ vs) h =
    let a : Grows s (mark_one s v) (v ∷ []) = grows_one s v (h v (0, omega arith, refl)) (is_marked s.marks v) refl in
    grows_then s (mark_one s v) _ (v ∷ []) vs a
    (grows_all (mark_one s v) vs (λ u c. let l : u < length s.marks = h u (Contains-append_right (v ∷ []) vs u c) in omega (arith, a.size)))

-- what holds while numbers wait
pub record Searches (rows : List (List ℕ)) (root : ℕ) (s : Search) : Type 0 where
  pub size : length s.marks ≡ length rows
  pub sound : (u : ℕ) → Marked s u → Path rows root u
  pub begun : (u : ℕ) → Contains (row_at rows root) u → Marked s u
  pub waiting : (u : ℕ) → Contains s.pending u → Marked s u
  pub closed : (u : ℕ) → Marked s u → Contains s.pending u ⊎ ((w : ℕ) → Contains (row_at rows u) w → Marked s w)

none_marked : (n u : ℕ) → get_or (replicate n false) u false ≡ false
none_marked zero u = refl
none_marked (suc n) zero = refl
none_marked (suc n) (suc u) = none_marked n u

length_replicate : (n : ℕ) → length (replicate n false) ≡ n
length_replicate zero = refl
length_replicate (suc n) = omega (arith, length_replicate n)

pub search_begins : (rows : List (List ℕ)) (root : ℕ) → IsClosed rows
    → Searches rows root (mark_all (record { marks = replicate (length rows) false; pending = [] }) (row_at rows root))
search_begins rows root cl =
    let s : Search = record { marks = replicate (length rows) false; pending = [] } in
    let n : (u : ℕ) → Marked s u → ⊥ = λ u m. let f = none_marked (length rows) u in absurd (cc) in
    let g : Grows s (mark_all s (row_at rows root)) (row_at rows root) = grows_all s (row_at rows root) (λ u c. let l : u < length rows = cl root u c in omega (arith, length_replicate (length rows))) in
    record {
      size = g.size ∙ length_replicate (length rows);
      sound = λ u m. elim (g.sound u m) [ inl o ↦ absurd (n u o) | inr c ↦ one c ];
      begun = λ u c. g.all u c;
      waiting = λ u c. elim (g.marked u c) [ inl d ↦ absurd (contains_nothing u d) | inr m ↦ m ];
      closed = λ u m. elim (g.waits u m) [ inl o ↦ absurd (n u o) | inr c ↦ inl c ];
    }

further : (rows : List (List ℕ)) (i m j : ℕ) → Path rows i m → Contains (row_at rows m) j → Path rows i j
further rows i m j (one c) d = next c (one d)
further rows i m j (next {m = k} c p) d = next c (further rows k m j p d)

pub search_goes_on : (rows : List (List ℕ)) (root : ℕ) (s : Search) (waiting : List ℕ) (v : ℕ) → IsClosed rows → s.pending ≡ waiting ++ v ∷ []
    → Searches rows root s → Searches rows root (mark_all (record { marks = s.marks; pending = waiting }) (row_at rows v))
search_goes_on rows root s waiting v cl e h =
    let t : Search = record { marks = s.marks; pending = waiting } in
    let g : Grows t (mark_all t (row_at rows v)) (row_at rows v) = grows_all t (row_at rows v) (λ u c. let l : u < length rows = cl v u c in omega (arith, h.size)) in
    let back : (u : ℕ) → Contains waiting u → Contains s.pending u = λ u c. subst (λ (l : List ℕ). Contains l u) (sym e) (Contains-append_left waiting (v ∷ []) u c) in
    let vm : Marked s v = h.waiting v (subst (λ (l : List ℕ). Contains l v) (sym e) (Contains-push waiting v)) in
    record {
      size = g.size ∙ h.size;
      sound = λ u m. elim (g.sound u m) [ inl o ↦ h.sound u o | inr c ↦ further rows root v u (h.sound v vm) c ];
      begun = λ u c. g.kept u (h.begun u c);
      waiting = λ u c. elim (g.marked u c) [ inl d ↦ g.kept u (h.waiting u (back u d)) | inr m ↦ m ];
      closed = λ u m. elim (g.waits u m) [
        | inl o ↦ elim (h.closed u o) [
          | inl c ↦ elim (Contains-push_cases waiting v u (subst (λ (l : List ℕ). Contains l u) e c)) [
            | inl d ↦ inl (g.waited u d)
            | inr q ↦ inr (λ w d. g.all w (subst (λ x. Contains (row_at rows x) w) (sym q) d))
          ]
          | inr f ↦ inr (λ w d. g.kept w (f w d))
        ]
        | inr c ↦ inl c
      ];
    }

pub search_falls : (rows : List (List ℕ)) (root : ℕ) (s : Search) (waiting : List ℕ) (v : ℕ) → IsClosed rows → s.pending ≡ waiting ++ v ∷ []
    → Searches rows root s
    → unmarked (mark_all (record { marks = s.marks; pending = waiting }) (row_at rows v)).marks + length (mark_all (record { marks = s.marks; pending = waiting }) (row_at rows v)).pending < unmarked s.marks + length s.pending
search_falls rows root s waiting v cl e h =
    let t : Search = record { marks = s.marks; pending = waiting } in
    let g : Grows t (mark_all t (row_at rows v)) (row_at rows v) = grows_all t (row_at rows v) (λ u c. let l : u < length rows = cl v u c in omega (arith, h.size)) in
    omega (arith, g.measure, ap (length {A = ℕ}) e, length-append waiting (v ∷ []))

reaches : (rows : List (List ℕ)) (root : ℕ) (s : Search) → s.pending ≡ [] → Searches rows root s
    → (a u : ℕ) → ((w : ℕ) → Contains (row_at rows a) w → Marked s w) → Path rows a u → Marked s u
reaches rows root s e h a u f (one c) = f u c
reaches rows root s e h a u f (next {m = m} c p) =
    reaches rows root s e h m u (elim (h.closed m (f m c)) [ inl d ↦ absurd (contains_nothing m (subst (λ (l : List ℕ). Contains l m) e d)) | inr k ↦ k ]) p

pub search_ends : (rows : List (List ℕ)) (root : ℕ) (s : Search) → s.pending ≡ [] → Searches rows root s → Path rows root root → Marked s root
search_ends rows root s e h p = reaches rows root s e h root root h.begun p

pub begins : (rows : List (List ℕ)) (root : ℕ) (t : Search) (m : List Bool) (p : List ℕ) → IsClosed rows → m ≡ replicate (length rows) false → p ≡ []
    → t ≡ mark_all (record { marks = m; pending = p }) (row_at rows root) → Searches rows root t
begins rows root t m p cl e q h =
    subst (Searches rows root) (sym (h ∙ (ap (λ (l : List Bool). mark_all (record { marks = l; pending = p }) (row_at rows root)) e
    ∙ ap (λ (l : List ℕ). mark_all (record { marks = replicate (length rows) false; pending = l }) (row_at rows root)) q))) (search_begins rows root cl)

pub goes_on : (rows : List (List ℕ)) (root : ℕ) (s t : Search) (waiting : List ℕ) (v : ℕ) → IsClosed rows → s.pending ≡ waiting ++ v ∷ []
    → t ≡ mark_all (record { marks = s.marks; pending = waiting }) (row_at rows v) → Searches rows root s → Searches rows root t
goes_on rows root s t waiting v cl e h k = subst (Searches rows root) (sym h) (search_goes_on rows root s waiting v cl e k)

pub falls : (rows : List (List ℕ)) (root : ℕ) (s t : Search) (waiting : List ℕ) (v : ℕ) → IsClosed rows → s.pending ≡ waiting ++ v ∷ []
    → t ≡ mark_all (record { marks = s.marks; pending = waiting }) (row_at rows v) → Searches rows root s
    → unmarked t.marks + length t.pending < unmarked s.marks + length s.pending
falls rows root s t waiting v cl e h k =
    subst (λ (r : Search). unmarked r.marks + length r.pending < unmarked s.marks + length s.pending) (sym h) (search_falls rows root s waiting v cl e k)

is_true : (b : Bool) → IsTrue b → b ≡ true
is_true true h = refl
is_true false h = absurd (cc)

pub ends : (rows : List (List ℕ)) (root : ℕ) (s : Search) (m : List Bool) → s.pending ≡ [] → m ≡ s.marks → Searches rows root s
    → IsTrue (get_or m root false) ↔ Path rows root root
ends rows root s m e q h = (
  λ t. h.sound root (ap (λ (l : List Bool). get_or l root false) (sym q) ∙ is_true (get_or m root false) t),
  λ p. subst IsTrue (sym (ap (λ (l : List Bool). get_or l root false) q ∙ search_ends rows root s e h p)) refl,
)
