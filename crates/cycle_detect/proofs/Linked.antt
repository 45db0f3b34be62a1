-- Links between the edges that enter one node, under one edge more and one less.
use Rattle.std.proofs.Common.{◌≡◌, ◌≢◌, ℕ, ◌+◌, ◌<◌, ◌≤◌, inl, inr, List, [], ◌∷◌, ◌++◌, length, set, take, refl, ap, sym, ◌∙◌, subst, arith, get_or}
use Rattle.std.specs.Prelude.{Option, Some, None, Contains, slice_get}
use Rattle.std.proofs.lemmas.List.{length_push, take_all, take_more}
use Rattle.std.proofs.Math.ListN.{length-set}
use Rattle.std.proofs.lemmas.Option.{none-some, same_Some, slice_get_within, slice_get_read}
use Rattle.dg_base.proofs.Lists.{place_of, get_nothing, get_append_left, get_append_front, get_push_cases, get_push_last, get_set_cases}
use Rattle.cycle_detect.specs.Parts.{IsLastInto, AreLinked}

-- no edges
pub linked_none : (nodes : ℕ) (newest : List (Option ℕ)) → length newest ≡ nodes → ((n : ℕ) (l : Option ℕ) → slice_get newest n ≡ Some l → l ≡ None) → AreLinked nodes [] [] newest
linked_none nodes newest long none = record {
  within = λ k x y e. absurd (get_nothing k (x, y) e);
  older_long = refl;
  newest_long = long;
  older_last = λ k x y l e f. absurd (get_nothing k (x, y) e);
  newest_last = λ n l e. record {
    found = λ k s. let bad : None ≡ Some k = sym (none n l e) ∙ s in absurd (none-some k bad);
    last = λ j x h f. absurd (get_nothing j (x, n) f);
  };
}

-- later edges change nothing
pub last_more : (edges more : List (ℕ × ℕ)) (n below : ℕ) (l : Option ℕ) → below ≤ length edges → IsLastInto edges n below l → IsLastInto (edges ++ more) n below l
last_more edges more n below l h is = record {
  found = λ k s. let f = is.found k s in (f.0, (f.1.0, get_append_left edges more k (f.1.0, n) f.1.1));
  last = λ j x b e. is.last j x b (sym (get_append_front edges more j (omega arith)) ∙ e);
}

pub last_less : (edges more : List (ℕ × ℕ)) (n below : ℕ) (l : Option ℕ) → below ≤ length edges → IsLastInto (edges ++ more) n below l → IsLastInto edges n below l
last_less edges more n below l h is = record {
  found = λ k s. let f = is.found k s in let b : k < length edges = omega (arith, f.0) in (f.0, (f.1.0, sym (get_append_front edges more k b) ∙ f.1.1));
  last = λ j x b e. is.last j x b (get_append_left edges more j (x, n) e);
}

-- a new edge that enters another node
last_past : (edges : List (ℕ × ℕ)) (from to n : ℕ) (l : Option ℕ) → n ≢ to → IsLastInto edges n (length edges) l → IsLastInto (edges ++ (from, to) ∷ []) n (length edges + 1) l
last_past edges from to n l other is = record {
  found = λ k s. let f = is.found k s in (omega (arith, f.0), (f.1.0, get_append_left edges ((from, to) ∷ []) k (f.1.0, n) f.1.1));
  last = λ j x b e. elim (get_push_cases edges (from, to) j (x, n) e) [
    | inl h ↦ is.last j x (slice_get_within edges j (x, n) h) h
    | inr r ↦ let same : n ≡ to = ap (λ (p : ℕ × ℕ). p.1) r.1 in absurd (other same)
  ];
}

-- the new edge is the last that enters its node
last_here : (edges : List (ℕ × ℕ)) (from to : ℕ) → IsLastInto (edges ++ (from, to) ∷ []) to (length edges + 1) (Some (length edges))
last_here edges from to = record {
  found = λ k s. let e : length edges ≡ k = same_Some (length edges) k s in (omega arith, (from, subst (λ (i : ℕ). slice_get (edges ++ (from, to) ∷ []) i ≡ Some (from, to)) e (get_push_last edges (from, to))));
  last = λ j x b e. (length edges, refl, omega arith);
}

-- one edge more
pub linked_push : (nodes : ℕ) (edges : List (ℕ × ℕ)) (older newest : List (Option ℕ)) (from to : ℕ) (l : Option ℕ) → AreLinked nodes edges older newest → from < nodes → to < nodes → slice_get newest to ≡ Some l → AreLinked nodes (edges ++ (from, to) ∷ []) (older ++ l ∷ []) (set newest to (Some (length edges)))
linked_push nodes edges older newest from to l is f t here = record {
  within = λ k x y e. elim (get_push_cases edges (from, to) k (x, y) e) [
    | inl h ↦ is.within k x y h
    | inr r ↦ let a : x ≡ from = ap (λ (p : ℕ × ℕ). p.0) r.1 in let b : y ≡ to = ap (λ (p : ℕ × ℕ). p.1) r.1 in (omega arith, omega arith)
  ];
  older_long = omega (arith, length_push older l, length_push edges (from, to), is.older_long);
  newest_long = length-set newest to (Some (length edges)) ∙ is.newest_long;
  older_last = λ k x y m e g.
      elim (get_push_cases edges (from, to) k (x, y) e) [
        | inl h ↦
            let b = slice_get_within edges k (x, y) h in
            elim (get_push_cases older l k m g) [
              | inl o ↦ last_more edges ((from, to) ∷ []) y k m (omega arith) (is.older_last k x y m h o)
              | inr r ↦ absurd (omega (arith, r.0, is.older_long))
            ]
        | inr r ↦
            elim (get_push_cases older l k m g) [
              | inl o ↦ absurd (omega (arith, r.0, is.older_long, slice_get_within older k m o))
              | inr q ↦
                  let y_is : to ≡ y = sym (ap (λ (p : ℕ × ℕ). p.1) r.1) in
                  let base = last_more edges ((from, to) ∷ []) to (length edges) l (omega arith) (is.newest_last to l here) in
                  let at_y = subst (λ (z : ℕ). IsLastInto (edges ++ (from, to) ∷ []) z (length edges) l) y_is base in
                  let at_k = subst (λ (z : ℕ). IsLastInto (edges ++ (from, to) ∷ []) y z l) (sym r.0) at_y in
                  subst (λ (z : Option ℕ). IsLastInto (edges ++ (from, to) ∷ []) y k z) (sym q.1) at_k
            ]
      ];
  newest_last = λ n m g.
      subst (λ (z : ℕ). IsLastInto (edges ++ (from, to) ∷ []) n z m) (sym (length_push edges (from, to)))
      (elim (get_set_cases newest to n (Some (length edges)) m g) [
        | inl h ↦
            let at_n = subst (λ (z : ℕ). IsLastInto (edges ++ (from, to) ∷ []) z (length edges + 1) (Some (length edges))) (sym h.0) (last_here edges from to) in
            subst (λ (z : Option ℕ). IsLastInto (edges ++ (from, to) ∷ []) n (length edges + 1) z) (sym h.1) at_n
        | inr h ↦ last_past edges from to n m h.0 (is.newest_last n m h.1)
      ]);
}

-- without the newest edge, which enters another node
last_before : (edges : List (ℕ × ℕ)) (from to n : ℕ) (l : Option ℕ) → n ≢ to → IsLastInto (edges ++ (from, to) ∷ []) n (length edges + 1) l → IsLastInto edges n (length edges) l
last_before edges from to n l other is = record {
  found = λ k s.
      let f = is.found k s in
      elim (get_push_cases edges (from, to) k (f.1.0, n) f.1.1) [
        | inl h ↦ (slice_get_within edges k (f.1.0, n) h, (f.1.0, h))
        | inr r ↦ let same : n ≡ to = ap (λ (p : ℕ × ℕ). p.1) r.1 in absurd (other same)
      ];
  last = λ j x b e. is.last j x (omega arith) (get_append_left edges ((from, to) ∷ []) j (x, n) e);
}

-- one edge less
pub linked_pop : (nodes : ℕ) (edges : List (ℕ × ℕ)) (older newest : List (Option ℕ)) (from to : ℕ) (l : Option ℕ) → AreLinked nodes (edges ++ (from, to) ∷ []) (older ++ l ∷ []) newest → AreLinked nodes edges older (set newest to l)
linked_pop nodes edges older newest from to l is =
    let e_long = length_push edges (from, to) in
    let o_long = length_push older l in
    let long : length older ≡ length edges = omega (arith, is.older_long) in
    record {
      within = λ k x y e. is.within k x y (get_append_left edges ((from, to) ∷ []) k (x, y) e);
      older_long = long;
      newest_long = length-set newest to l ∙ is.newest_long;
      older_last = λ k x y m e g.
          let b = slice_get_within edges k (x, y) e in
          last_less edges ((from, to) ∷ []) y k m (omega arith) (is.older_last k x y m (get_append_left edges ((from, to) ∷ []) k (x, y) e) (get_append_left older (l ∷ []) k m g));
      newest_last = λ n m g.
          elim (get_set_cases newest to n l m g) [
            | inl h ↦
                let last_l = subst (λ (i : ℕ). slice_get (older ++ l ∷ []) i ≡ Some l) long (get_push_last older l) in
                let whole = is.older_last (length edges) from to l (get_push_last edges (from, to)) last_l in
                let less = last_less edges ((from, to) ∷ []) to (length edges) l (omega arith) whole in
                let at_n = subst (λ (z : ℕ). IsLastInto edges z (length edges) l) (sym h.0) less in
                subst (λ (z : Option ℕ). IsLastInto edges n (length edges) z) (sym h.1) at_n
            | inr h ↦ last_before edges from to n m h.0 (subst (λ (z : ℕ). IsLastInto (edges ++ (from, to) ∷ []) n z m) e_long (is.newest_last n m h.1))
          ];
    }

-- ---- as the code reads them

pub before_is : (nodes : ℕ) (edges : List (ℕ × ℕ)) (older newest : List (Option ℕ)) (id : ℕ) (link : Option ℕ) → AreLinked nodes edges older newest → id < length edges → link ≡ get_or older id link → (x y : ℕ) → slice_get edges id ≡ Some (x, y) → IsLastInto edges y id link
before_is nodes edges older newest id link are h read x y e = are.older_last id x y link e (slice_get_read older (length older) id link refl (omega (arith, are.older_long)) read)

pub within_is : (nodes : ℕ) (edges : List (ℕ × ℕ)) (older newest : List (Option ℕ)) → AreLinked nodes edges older newest → (x y : ℕ) → Contains edges (x, y) → (x < nodes) × (y < nodes)
within_is nodes edges older newest are x y m = let p = place_of edges (x, y) m in are.within p.0 x y p.1

-- the newest edge is cut off
pub linked_cut : (nodes : ℕ) (edges : List (ℕ × ℕ)) (older newest : List (Option ℕ)) (n : ℕ) (e : ℕ × ℕ) (l : Option ℕ) → AreLinked nodes edges older newest → n + 1 ≡ length edges → e ≡ get_or edges n e → l ≡ get_or older n l → AreLinked nodes (take n edges) (take n older) (set newest e.1 l)
linked_cut nodes edges older newest n e l are count read link =
    let a : edges ≡ take n edges ++ e ∷ [] = sym (take_all (n + 1) edges (omega arith)) ∙ (take_more edges n e (omega arith) ∙ ap (λ (z : ℕ × ℕ). take n edges ++ z ∷ []) (sym read)) in
    let b : older ≡ take n older ++ l ∷ [] = sym (take_all (n + 1) older (omega (arith, are.older_long))) ∙ (take_more older n l (omega (arith, are.older_long)) ∙ ap (λ (z : Option ℕ). take n older ++ z ∷ []) (sym link)) in
    let one = subst (λ (z : List (ℕ × ℕ)). AreLinked nodes z older newest) a are in
    let both = subst (λ (z : List (Option ℕ)). AreLinked nodes (take n edges ++ e ∷ []) z newest) b one in
    linked_pop nodes (take n edges) (take n older) newest e.0 e.1 l both
