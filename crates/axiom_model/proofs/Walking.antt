-- What each step of a walk keeps.
use Rattle.std.proofs.Common.{◌≡◌, ◌≢◌, ℕ, suc, ◌+◌, ◌-◌, ◌<◌, ◌≤◌, List, [], ◌∷◌, ◌++◌, length, get_or, Option, Some, None, refl, sym, ◌∙◌, ap, subst, ⊎_elim, arith, add-one, replicate}
use Rattle.std.specs.Prelude.{slice_get, sum_by, All, MatchOption}
use Rattle.std.proofs.Math.ListN.{set, length-set}
use Rattle.std.proofs.lemmas.Bool.{cases_order, cases_lt}
use Rattle.std.proofs.lemmas.List.{length_push, length-replicate, get_or-replicate}
use Rattle.std.proofs.lemmas.List.Sums.{sum_by-set}
use Rattle.std.proofs.lemmas.Option.{none-some, same_Some, slice_get_within, slice_get-get_or, get_or_from_slice_get}
use Rattle.dg_base.proofs.Lists.{get_append_left, get_push_last, get_set_same}
use Rattle.axiom_model.specs.declared.walk.Mark.{Mark}
use Rattle.axiom_model.specs.declared.walk.Mark.TheVariants.{New, Open, Closed}
use Rattle.axiom_model.specs.declared.walk.Walk.{Walk}
use Rattle.axiom_model.specs.Sorting.{EndsBelow, HasEdge, NoRepeats, IsOrderOf, GoesForward}
use Rattle.axiom_model.specs.Walking.{LeadsInto, IsLast, AreLinks, IsTop, IsWalk, turns, Onward}
use Rattle.axiom_model.proofs.Places.{place_push, place_set, place_set_other, place_set_kept, once_push, once_front}

-- a node has one mark
one_mark : (marks : List Mark) (v w : ℕ) (a b : Mark) → slice_get marks v ≡ Some a → slice_get marks w ≡ Some b → (a ≡ b → ⊥) → v ≢ w
one_mark marks v w a b h k n e =
    let f : Some a ≡ Some b = sym h ∙ ap (λ i. slice_get marks i) e ∙ k in n (same_Some a b f)

new_open : New ≡ Open → ⊥
new_open e = cc

new_closed : New ≡ Closed → ⊥
new_closed e = cc

open_closed : Open ≡ Closed → ⊥
open_closed e = cc

-- the walk with one more node on its path
abbrev pub opened : Walk → ℕ → Walk
opened w u = record { earlier = w.earlier; left = w.left; marks = set w.marks u Open; path = w.path ++ u ∷ []; order = w.order }

pub open_keeps : (edges : List (ℕ × ℕ)) (w : Walk) (u : ℕ) → IsWalk edges w → slice_get w.marks u ≡ Some New → ((v : ℕ) → IsTop w.path v → HasEdge edges u v) → IsWalk edges (opened w u)
open_keeps edges w u s n t = record {
  earlier_len = s.earlier_len;
  left_len = s.left_len ∙ sym (length-set w.marks u Open);
  links = s.links;
  left = s.left;
  passed = λ k a v p e h le. let c = s.passed k a v p e h le in place_set_other w.marks u a Open Closed (λ q. one_mark w.marks u a New Closed n c new_closed (sym q)) c;
  path_open = λ i v e. ⊎_elim (λ h. place_set_kept w.marks u v Open (s.path_open i v h)) (λ h. subst (λ x. slice_get (set w.marks u Open) x ≡ Some Open) h.1 (get_set_same w.marks u Open (slice_get_within w.marks u New n))) (place_push w.path u v i e);
  open_path = λ v e. ⊎_elim (λ h. let r = s.open_path v h.1 in (r.0, get_append_left w.path (u ∷ []) r.0 v r.1)) (λ h. (length w.path, subst (λ x. slice_get (w.path ++ u ∷ []) (length w.path) ≡ Some x) (sym h.0) (get_push_last w.path u))) (place_set w.marks u v Open Open e);
  order_closed = λ i v e. let c = s.order_closed i v e in place_set_other w.marks u v Open Closed (λ q. one_mark w.marks u v New Closed n c new_closed (sym q)) c;
  closed_order = λ v e. ⊎_elim (λ h. s.closed_order v h.1) (λ h. absurd (open_closed h.1)) (place_set w.marks u v Open Closed e);
  path_once = once_push w.path u s.path_once (λ i e. one_mark w.marks u u New Open n (s.path_open i u e) new_open refl);
  order_once = s.order_once;
  path = λ i a b e f. ⊎_elim (λ h. s.path i a b (before i a e (let q = slice_get_within w.path (suc i) b h in omega arith)) h) (λ h. subst (λ x. HasEdge edges x a) h.1 (t a (i, sym h.0, before i a e (omega (arith, h.0))))) (place_push w.path u b (suc i) f);
  forward = s.forward;
}
  where
    before : (i a : ℕ) → slice_get (w.path ++ u ∷ []) i ≡ Some a → suc i ≤ length w.path → slice_get w.path i ≡ Some a
    before i a e le = ⊎_elim (λ h. h) (λ h. let q = h.0 in absurd (omega arith)) (place_push w.path u a i e)

-- the walk with the last node of its path moved into the order
abbrev pub closed : Walk → List ℕ → ℕ → Walk
closed w front v = record { earlier = w.earlier; left = w.left; marks = set w.marks v Closed; path = front; order = w.order ++ v ∷ [] }

pub close_keeps : (edges : List (ℕ × ℕ)) (w : Walk) (front : List ℕ) (v : ℕ) → IsWalk edges w → w.path ≡ front ++ v ∷ [] → slice_get w.left v ≡ Some 0 → IsWalk edges (closed w front v)
close_keeps edges w front v s is l = record {
  earlier_len = s.earlier_len;
  left_len = s.left_len ∙ sym (length-set w.marks v Closed);
  links = s.links;
  left = s.left;
  passed = λ k a b p e h le. place_set_kept w.marks v a Closed (s.passed k a b p e h le);
  path_open = λ i a e. place_set_other w.marks v a Closed Open (other i a e) (s.path_open i a (old i a e));
  open_path = λ a e. ⊎_elim (λ h. still a h.0 (s.open_path a h.1)) (λ h. absurd (open_closed (sym h.1))) (place_set w.marks v a Closed Open e);
  order_closed = λ i a e. ⊎_elim (λ h. place_set_kept w.marks v a Closed (s.order_closed i a h)) (λ h. subst (λ x. slice_get (set w.marks v Closed) x ≡ Some Closed) h.1 (get_set_same w.marks v Closed (slice_get_within w.marks v Open v_open))) (place_push w.order v a i e);
  closed_order = λ a e. ⊎_elim (λ h. let r = s.closed_order a h.1 in (r.0, get_append_left w.order (v ∷ []) r.0 a r.1)) (λ h. (length w.order, subst (λ x. slice_get (w.order ++ v ∷ []) (length w.order) ≡ Some x) (sym h.0) (get_push_last w.order v))) (place_set w.marks v a Closed Closed e);
  path_once = once_front front v (subst (λ x. NoRepeats x) is s.path_once);
  order_once = once_push w.order v s.order_once (λ i e. one_mark w.marks v v Open Closed v_open (s.order_closed i v e) open_closed refl);
  path = λ i a b e f. s.path i a b (old i a e) (old (suc i) b f);
  forward = λ k a b j e h. ⊎_elim (λ q. let r = s.forward k a b j e q in (r.0, r.1, get_append_left w.order (v ∷ []) r.0 a r.2)) (λ q. last k a b j e q.0 q.1) (place_push w.order v b j h);
}
  where
    old : (i a : ℕ) → slice_get front i ≡ Some a → slice_get w.path i ≡ Some a
    old i a e = subst (λ x. slice_get x i ≡ Some a) (sym is) (get_append_left front (v ∷ []) i a e)

    there : slice_get w.path (length front) ≡ Some v
    there = subst (λ x. slice_get x (length front) ≡ Some v) (sym is) (get_push_last front v)

    v_open : slice_get w.marks v ≡ Some Open
    v_open = s.path_open (length front) v there

    other : (i a : ℕ) → slice_get front i ≡ Some a → a ≢ v
    other i a e q =
        let f : slice_get w.path i ≡ Some v = subst (λ x. slice_get w.path i ≡ Some x) q (old i a e) in
        let g = s.path_once i (length front) v f there in
        let h = slice_get_within front i a e in
        omega arith

    still : (a : ℕ) → a ≢ v → (i : ℕ) × (slice_get w.path i ≡ Some a) → (i : ℕ) × (slice_get front i ≡ Some a)
    still a n r = ⊎_elim (λ h. (r.0, h)) (λ h. absurd (n (sym h.1))) (place_push front v a r.0 (subst (λ x. slice_get x r.0 ≡ Some a) is r.1))

    last : (k a b j : ℕ) → slice_get edges k ≡ Some (a, b) → j ≡ length w.order → v ≡ b → (i : ℕ) × (i < j) × (slice_get (w.order ++ v ∷ []) i ≡ Some a)
    last k a b j e q same =
        let c = s.passed k a b 0 e (subst (λ x. slice_get w.left x ≡ Some 0) same l) (omega arith) in
        let r = s.closed_order a c in
        let h = slice_get_within w.order r.0 a r.1 in
        (r.0, omega arith, get_append_left w.order (v ∷ []) r.0 a r.1)

-- the walk with one more edge into a node passed
abbrev pub passed_by : Walk → ℕ → ℕ → Walk
passed_by w v p = record { earlier = w.earlier; left = set w.left v p; marks = w.marks; path = w.path; order = w.order }

pub pass_keeps : (edges : List (ℕ × ℕ)) (w : Walk) (v q p : ℕ) → IsWalk edges w → slice_get w.left v ≡ Some (suc q) → ((u : ℕ) → slice_get edges q ≡ Some (u, v) → slice_get w.marks u ≡ Some Closed) → slice_get w.earlier q ≡ Some p → IsWalk edges (passed_by w v p)
pass_keeps edges w v q p s l c e = record {
  earlier_len = s.earlier_len;
  left_len = length-set w.left v p ∙ s.left_len;
  links = s.links;
  left = λ a r h. ⊎_elim (λ o. s.left a r o.1) (λ o. subst (λ x. LeadsInto edges x r) (sym o.0) (subst (λ x. LeadsInto edges v x) o.1 last.there)) (place_set w.left v a p r h);
  passed = λ k u a r f h le. ⊎_elim (λ o. s.passed k u a r f o.1 le) (λ o. now k u (subst (λ x. slice_get edges k ≡ Some (u, x)) o.0 f) (omega (arith, o.1))) (place_set w.left v a p r h);
  path_open = s.path_open;
  open_path = s.open_path;
  order_closed = s.order_closed;
  closed_order = s.closed_order;
  path_once = s.path_once;
  order_once = s.order_once;
  path = s.path;
  forward = s.forward;
}
  where
    edge : (u : ℕ) × (slice_get edges q ≡ Some (u, v))
    edge = s.left v (suc q) l q refl

    last : IsLast edges v q p
    last = s.links q edge.0 v p edge.1 e

    now : (k u : ℕ) → slice_get edges k ≡ Some (u, v) → p ≤ k → slice_get w.marks u ≡ Some Closed
    now k u f le =
        ⊎_elim (λ h. c u (subst (λ x. slice_get edges x ≡ Some (u, v)) h f))
        (⊎_elim (λ h. absurd (last.none k u le h f)) (λ h. s.passed k u v (suc q) f l (omega arith))) (cases_order k q)

-- ---- the work falls

value_at : {X : Type 0} (l : List X) (i : ℕ) (x : X) → slice_get l i ≡ Some x → get_or l i x ≡ x
value_at l i x e = get_or_from_slice_get l i x x e

pub marks_less : (marks : List Mark) (v : ℕ) (a b : Mark) → slice_get marks v ≡ Some a → turns b < turns a → sum_by turns (set marks v b) < sum_by turns marks
marks_less marks v a b e h =
    let f = sum_by-set turns marks v b a (slice_get_within marks v a e) in
    let g : turns (get_or marks v a) ≡ turns a = ap turns (value_at marks v a e) in
    omega arith

pub left_less : (left : List ℕ) (v q p : ℕ) → slice_get left v ≡ Some (suc q) → p ≤ q → sum_by (λ x. x) (set left v p) < sum_by (λ x. x) left
left_less left v q p e h =
    let f = sum_by-set (λ x. x) left v p (suc q) (slice_get_within left v (suc q) e) in
    let g : get_or left v (suc q) ≡ suc q = value_at left v (suc q) e in
    omega arith

pub set_onward : (old new : Walk) (v : ℕ) (m : Mark) → new.marks ≡ set old.marks v m → (m ≡ New → ⊥) → Onward old new
set_onward old new v m e n = record {
  same_len = ap length e ∙ length-set old.marks v m;
  new_before = λ a h. ⊎_elim (λ o. o.1) (λ o. absurd (n o.1)) (place_set old.marks v a m New (subst (λ x. slice_get x a ≡ Some New) e h));
}

-- ---- where the walk looks

pub top_open : (edges : List (ℕ × ℕ)) (w : Walk) (v : ℕ) → IsWalk edges w → IsTop w.path v → slice_get w.marks v ≡ Some Open
top_open edges w v s t = s.path_open t.0 v t.2

pub top_left : (edges : List (ℕ × ℕ)) (w : Walk) (v : ℕ) → IsWalk edges w → IsTop w.path v → v < length w.left
top_left edges w v s t = let h = slice_get_within w.marks v Open (top_open edges w v s t) in omega (arith, s.left_len)

-- the edge that is looked at
pub edge_at : (edges : List (ℕ × ℕ)) (w : Walk) (v link : ℕ) → IsWalk edges w → slice_get w.left v ≡ Some link → (link ≡ 0 → ⊥) → (u : ℕ) × (slice_get edges (link - 1) ≡ Some (u, v))
edge_at edges w v link s l n = s.left v link l (link - 1) (omega arith)

pub looked_at : (edges : List (ℕ × ℕ)) (w : Walk) (v link source : ℕ) → IsWalk edges w → slice_get w.left v ≡ Some link → (link ≡ 0 → ⊥) → (x : ℕ) × (slice_get edges (link - 1) ≡ Some (source, x)) → slice_get edges (link - 1) ≡ Some (source, v)
looked_at edges w v link source s l n r =
    let e = edge_at edges w v link s l n in
    let same : (source, r.0) ≡ (e.0, v) = same_Some (source, r.0) (e.0, v) (sym r.1 ∙ e.1) in
    subst (λ y. slice_get edges (link - 1) ≡ Some (source, y)) (ap (λ p. p.1) same) r.1

-- the ends of an edge are nodes
pub ends_at : (edges : List (ℕ × ℕ)) (n k u v : ℕ) → All (EndsBelow n) edges → slice_get edges k ≡ Some (u, v) → (u < n) × (v < n)
ends_at edges n k u v a e =
    subst (λ x. EndsBelow n x) (get_or_from_slice_get edges k (u, v) (u, v) e) (a k (u, v) (slice_get_within edges k (u, v) e))

-- the path has one last node
pub one_top : (path : List ℕ) (v x : ℕ) → IsTop path v → IsTop path x → v ≡ x
one_top path v x t r =
    let e : t.0 ≡ r.0 = omega (arith, t.1, r.1) in
    same_Some v x (sym t.2 ∙ ap (λ i. slice_get path i) e ∙ r.2)

-- what stands before the last node of a path
pub top_front : (path front : List ℕ) (v x : ℕ) → IsTop path v → path ≡ front ++ x ∷ [] → path ≡ front ++ v ∷ []
top_front path front v x t e =
    let r : IsTop path x = (length front, ap length e ∙ length_push front x ∙ add-one (length front), subst (λ l. slice_get l (length front) ≡ Some x) (sym e) (get_push_last front x)) in
    let same : x ≡ v = one_top path x v r t in
    subst (λ y. path ≡ front ++ y ∷ []) same e

-- what a pop leaves of a path with this last node
pub pop_front : (path front : List ℕ) (v : ℕ) (r : Option ℕ) → IsTop path v → MatchOption r ((path ≡ []) × (front ≡ [])) (λ x. path ≡ front ++ x ∷ []) → path ≡ front ++ v ∷ []
pop_front path front v None t m = let h = t.1 in let e : length path ≡ 0 = ap length m.0 in absurd (omega arith)
pop_front path front v (Some x) t m = top_front path front v x t m

-- ---- the links

-- each node's link is that to the last edge into it below a place
abbrev pub LastAre : List (ℕ × ℕ) → List ℕ → ℕ → Type 0
LastAre edges left n = (v p : ℕ) → slice_get left v ≡ Some p → IsLast edges v n p

pub link_earlier : (edges : List (ℕ × ℕ)) (earlier left : List ℕ) (i u v x : ℕ) → slice_get edges i ≡ Some (u, v) → length earlier ≡ i → AreLinks edges earlier → LastAre edges left i → slice_get left v ≡ Some x → AreLinks edges (earlier ++ x ∷ [])
link_earlier edges earlier left i u v x e n a l h k a' b p f g =
    ⊎_elim (λ o. a k a' b p f o) new (place_push earlier x p k g)
  where
    new : (k ≡ length earlier) × (x ≡ p) → IsLast edges b k p
    new o =
        let here : k ≡ i = o.0 ∙ n in
        let same : (u, v) ≡ (a', b) = same_Some (u, v) (a', b) (sym e ∙ ap (λ j. slice_get edges j) (sym here) ∙ f) in
        subst (λ j. IsLast edges b j p) (sym here) (l b p (subst (λ y. slice_get left y ≡ Some p) (ap (λ q. q.1) same) (h ∙ ap Some o.1)))

pub link_left : (edges : List (ℕ × ℕ)) (left : List ℕ) (i u v : ℕ) → slice_get edges i ≡ Some (u, v) → LastAre edges left i → LastAre edges (set left v (i + 1)) (i + 1)
link_left edges left i u v e l b p g = ⊎_elim (λ o. old o.0 (l b p o.1)) new (place_set left v b (i + 1) p g)
  where
    old : b ≢ v → IsLast edges b i p → IsLast edges b (i + 1) p
    old n s = record {
      within = let h = s.within in omega arith;
      there = s.there;
      none = λ k a le lt f. ⊎_elim (λ h. s.none k a le h f) (λ h. n (sym (ap (λ q. q.1) (same_Some (u, v) (a, b) (sym e ∙ ap (λ j. slice_get edges j) (at k h lt) ∙ f))))) (cases_lt k i);
    }
      where
        at : (k : ℕ) → i ≤ k → k < i + 1 → i ≡ k
        at k h lt = omega arith

    new : (b ≡ v) × (i + 1 ≡ p) → IsLast edges b (i + 1) p
    new o = record {
      within = omega (arith, o.1);
      there = λ q f. let here : i ≡ q = omega (arith, o.1, f) in (u, subst (λ j. slice_get edges j ≡ Some (u, b)) here (subst (λ y. slice_get edges i ≡ Some (u, y)) (sym o.0) e));
      none = λ k a le lt f. absurd (omega (arith, o.1, le, lt));
    }

pub place_replicate : {X : Type 0} (n : ℕ) (x : X) (i : ℕ) (y : X) → slice_get (replicate n x) i ≡ Some y → x ≡ y
place_replicate n x i y e =
    let h : i < n = omega (arith, slice_get_within (replicate n x) i y e, length-replicate n x) in
    sym (get_or-replicate n i x y h) ∙ get_or_from_slice_get (replicate n x) i y y e

-- a walk that has not begun
pub new_walk : (edges : List (ℕ × ℕ)) (earlier left : List ℕ) (n : ℕ) → length earlier ≡ length edges → length left ≡ n → AreLinks edges earlier → LastAre edges left (length edges) → IsWalk edges (record { earlier = earlier; left = left; marks = replicate n New; path = []; order = [] })
new_walk edges earlier left n e m a l = record {
  earlier_len = e;
  left_len = m ∙ sym (length-replicate n New);
  links = a;
  left = λ v p h. (l v p h).there;
  passed = λ k u v p f h le. absurd ((l v p h).none k u le (slice_get_within edges k (u, v) f) f);
  path_open = λ i v h. absurd (none-some v h);
  open_path = λ v h. absurd (new_open (place_replicate n New v Open h));
  order_closed = λ i v h. absurd (none-some v h);
  closed_order = λ v h. absurd (new_closed (place_replicate n New v Closed h));
  path_once = λ i j v h k. absurd (none-some v h);
  order_once = λ i j v h k. absurd (none-some v h);
  path = λ i a b h k. absurd (none-some a h);
  forward = λ k u v j f h. absurd (none-some v h);
}

-- ---- the end

mark_cases : (marks : List Mark) (v : ℕ) → v < length marks → (slice_get marks v ≡ Some New → ⊥) → (slice_get marks v ≡ Some Open → ⊥) → slice_get marks v ≡ Some Closed
mark_cases marks v h n o = by_mark (get_or marks v New) (slice_get-get_or marks v New h)
  where
    by_mark : (m : Mark) → slice_get marks v ≡ Some m → slice_get marks v ≡ Some Closed
    by_mark New e = absurd (n e)
    by_mark Open e = absurd (o e)
    by_mark Closed e = e

-- a walk that has met all nodes, with none on its path, has ordered all
pub all_met : (edges : List (ℕ × ℕ)) (w : Walk) (n : ℕ) → IsWalk edges w → length w.marks ≡ n → w.path ≡ [] → ((v : ℕ) → v < n → slice_get w.marks v ≡ Some New → ⊥) → IsOrderOf n w.order
all_met edges w n s m p f = record {
  once = s.order_once;
  sound = λ i v e. let h = slice_get_within w.marks v Closed (s.order_closed i v e) in omega arith;
  complete = λ v h. s.closed_order v (mark_cases w.marks v (omega arith) (f v h) (λ e. let r = s.open_path v e in none-some v (subst (λ l. slice_get l r.0 ≡ Some v) p r.1)));
}

pub all_forward : (edges : List (ℕ × ℕ)) (w : Walk) (n : ℕ) → IsWalk edges w → IsOrderOf n w.order → All (EndsBelow n) edges → All (GoesForward w.order) edges
all_forward edges w n s o a k d h =
    let j = o.complete (get_or edges k d).1 (a k d h).1 in
    let r = s.forward k (get_or edges k d).0 (get_or edges k d).1 j.0 (slice_get-get_or edges k d h) j.1 in
    (r.0, j.0, r.1, r.2, j.1)
