-- What the true atoms say, as far as a walk has come.
use Rattle.std.proofs.Common.{◌≡◌, ℕ, ◌+◌, ◌<◌, ◌≢◌, ◌≤◌, ◌⊎◌, inl, inr, ⊎_elim, List, [], ◌∷◌, ◌++◌, Bool, true, false, cond, Some, length, take, get_or, set, refl, ap, sym, ◌∙◌, subst, add-zero, arith}
use Rattle.std.specs.Prelude.{slice_get, ◌&&◌, All}
use Rattle.std.specs.List.{count_by}
use Rattle.std.proofs.lemmas.Bool.{cases_Bool, cases_eq, false≢true}
use Rattle.std.proofs.lemmas.List.{take_more, take_all, length-set, length-take-le}
use Rattle.std.proofs.lemmas.List.Sums.{count_by-le-length, count_by_more_yes, count_by_more_no}
use Rattle.std.proofs.lemmas.List.Elements.{All-get_or, Contains-append_left, Contains-append_right, Contains-append_cases}
use Rattle.std.proofs.lemmas.Option.{slice_get-get_or}
use Rattle.dg_base.specs.Values.{truth_of}
use Rattle.dg_base.specs.declared.Lit.{Lit}
use Rattle.dg_base.proofs.Lists.{contains_head, contains_cases, contains_nothing, get_set_same, get_set_other, get_set_cases}
use Rattle.cnf_problem.specs.Literals.{value}
use Rattle.cnf_problem.specs.Bounds.{nodes_of}
use Rattle.cnf_problem.specs.declared.problem.Atom.{Atom}
use Rattle.cnf_problem.specs.declared.problem.AtomKind.{AtomKind}
use Rattle.cnf_problem.specs.declared.problem.AtomKind.TheVariants.{ReadFrom, WriteOrder, Plain}
use Rattle.event_graph.proofs.Making.{all_at}
use Rattle.encode_order.specs.Counts.{is_order_into, puts_before}
use Rattle.encode_order.specs.Sources.{MayComeFrom}
use Rattle.decode.specs.Tables.{sources_behind, ranks_behind, AreSources}
use Rattle.decode.proofs.Bumping.{bump}

-- ---- sources

widen : (xs : List Atom) (a : Atom) (s : List Bool) (w r : ℕ) → MayComeFrom xs s w r → MayComeFrom (xs ++ a ∷ []) s w r
widen xs a s w r m = record { atom = m.atom; listed = Contains-append_left xs (a ∷ []) m.atom m.listed; same_kind = m.same_kind; holds = m.holds }

last_may : (xs : List Atom) (a : Atom) (s : List Bool) (w r : ℕ) → a.kind ≡ ReadFrom w r → value s a.lit ≡ true → MayComeFrom (xs ++ a ∷ []) s w r
last_may xs a s w r e t = record { atom = a; listed = Contains-append_right xs (a ∷ []) a (contains_head a []); same_kind = e; holds = t }

split : (xs : List Atom) (a : Atom) (s : List Bool) (w r : ℕ) → MayComeFrom (xs ++ a ∷ []) s w r → MayComeFrom xs s w r ⊎ ((a.kind ≡ ReadFrom w r) × (value s a.lit ≡ true))
split xs a s w r m =
    ⊎_elim
    (λ c. inl (record { atom = m.atom; listed = c; same_kind = m.same_kind; holds = m.holds }))
    (λ c.
    ⊎_elim
    (λ e. inr (ap (λ (z : Atom). z.kind) (sym e) ∙ m.same_kind, ap (λ (z : Atom). value s z.lit) (sym e) ∙ m.holds))
    (λ n. absurd (contains_nothing m.atom n))
    (contains_cases a m.atom [] c))
    (Contains-append_cases xs (a ∷ []) m.atom m.listed)

module _ (s : List Bool) (xs : List Atom) (a : Atom) (count : ℕ) (sources : List ℕ) (p : AreSources s xs count sources) where
  -- an atom that tells no source leaves them
  stay : ((w r : ℕ) → a.kind ≡ ReadFrom w r → value s a.lit ≡ true → ⊥) → AreSources s (xs ++ a ∷ []) count sources
  stay none = record {
    counted = p.counted;
    low = p.low;
    each = λ w r m.
        ⊎_elim
        (λ o. let v = p.each w r o in (v.0, v.1, widen xs a s v.0 r v.2))
        (λ e. absurd (none w r e.0 e.1))
        (split xs a s w r m);
  }

  -- one that does puts its own
  puts : (w r : ℕ) → a.kind ≡ ReadFrom w r → value s a.lit ≡ true → w < count → r < count → AreSources s (xs ++ a ∷ []) count (set sources r w)
  puts w r e t low_w low_r = record {
    counted = length-set sources r w ∙ p.counted;
    low = λ i v h. ⊎_elim (λ q. let same = q.1 in omega (arith, same, low_w)) (λ q. p.low i v q.1) (get_set_cases sources r i w v h);
    each = λ u i m.
        ⊎_elim
        (λ q. at_read i q)
        (λ q. at_other u i q m)
        (cases_eq i r);
  }
    where
      at_read : (i : ℕ) → i ≡ r → (v : ℕ) × (slice_get (set sources r w) i ≡ Some v) × MayComeFrom (xs ++ a ∷ []) s v i
      at_read i q = (
        w,
        ap (λ (j : ℕ). slice_get (set sources r w) j) q ∙ get_set_same sources r w (let long = p.counted in omega (arith, long, low_r)),
        subst (λ (j : ℕ). MayComeFrom (xs ++ a ∷ []) s w j) (sym q) (last_may xs a s w r e t),
      )

      at_other : (u i : ℕ) → i ≢ r → MayComeFrom (xs ++ a ∷ []) s u i → (v : ℕ) × (slice_get (set sources r w) i ≡ Some v) × MayComeFrom (xs ++ a ∷ []) s v i
      at_other u i q m =
          ⊎_elim
          (λ o. let v = p.each u i o in (v.0, get_set_other sources r i w q ∙ v.1, widen xs a s v.0 i v.2))
          (λ f. absurd (let kinds : ReadFrom w r ≡ ReadFrom u i = sym e ∙ f.0 in let same : r ≡ i = cc in q (sym same)))
          (split xs a s u i m)

  by_truth : (w r : ℕ) → a.kind ≡ ReadFrom w r → w < count → r < count → (b : Bool) → value s a.lit ≡ b → AreSources s (xs ++ a ∷ []) count (cond b (set sources r w) sources)
  by_truth w r e low_w low_r true t = puts w r e t low_w low_r
  by_truth w r e low_w low_r false t = stay (λ u i f h. false≢true (sym t ∙ h))

  by_kind : (k : AtomKind) → a.kind ≡ k → All (λ n. n < count) (nodes_of k) → AreSources s (xs ++ a ∷ []) count (sources_behind s a.lit sources k)
  by_kind (ReadFrom w r) e h =
      by_truth w r e (all_at (λ (n : ℕ). n < count) (w ∷ r ∷ []) 0 w h refl) (all_at (λ (n : ℕ). n < count) (w ∷ r ∷ []) 1 r h refl) (value s a.lit) refl
  by_kind (WriteOrder w v) e h = stay (λ u i f t. let kinds : WriteOrder w v ≡ ReadFrom u i = sym e ∙ f in absurd (cc))
  by_kind Plain e h = stay (λ u i f t. let kinds : Plain ≡ ReadFrom u i = sym e ∙ f in absurd (cc))

pub sources_more : (s : List Bool) (atoms : List Atom) (i count : ℕ) (a : Atom) (sources : List ℕ) → i < length atoms → a ≡ get_or atoms i a → All (λ n. n < count) (nodes_of a.kind)
    → AreSources s (take i atoms) count sources → AreSources s (take (i + 1) atoms) count (sources_behind s a.lit sources a.kind)
sources_more s atoms i count a sources low is h p =
    let next : take (i + 1) atoms ≡ take i atoms ++ a ∷ [] = take_more atoms i a low ∙ ap (λ (z : Atom). take i atoms ++ z ∷ []) (sym is) in
    subst (λ (l : List Atom). AreSources s l count (sources_behind s a.lit sources a.kind)) (sym next) (by_kind s (take i atoms) a count sources p a.kind refl h)

-- the nodes of an atom
pub nodes_within : (atoms : List Atom) (i count long : ℕ) (a : Atom) → i < length atoms → a ≡ get_or atoms i a → long ≡ count → All (λ (z : Atom). All (λ n. n < count) (nodes_of z.kind)) atoms → All (λ n. n < long) (nodes_of a.kind)
nodes_within atoms i count long a low is same h =
    subst (λ (n : ℕ). All (λ m. m < n) (nodes_of a.kind)) (sym same)
    (subst (λ (z : Atom). All (λ m. m < count) (nodes_of z.kind)) (sym is) (All-get_or (λ (z : Atom). All (λ m. m < count) (nodes_of z.kind)) atoms i a low h))

-- ---- ranks

counts_one : (s : List Bool) (v : ℕ) (atoms : List Atom) (i : ℕ) (d : Atom) → i < length atoms
    → count_by (puts_before s v) (take (i + 1) atoms) ≡ count_by (puts_before s v) (take i atoms) + truth_of (puts_before s v (get_or atoms i d))
counts_one s v atoms i d low =
    let before = count_by (puts_before s v) (take i atoms) in
    ⊎_elim
    (λ t. count_by_more_yes (puts_before s v) atoms i d low t ∙ ap (λ (b : Bool). before + truth_of b) (sym t))
    (λ f. count_by_more_no (puts_before s v) atoms i d low f ∙ (sym (add-zero before) ∙ ap (λ (b : Bool). before + truth_of b) (sym f)))
    (cases_Bool (puts_before s v (get_or atoms i d)))

rank_by : (s : List Bool) (l : Lit) (ranks : List ℕ) (v : ℕ) (k : AtomKind) → v < length ranks → get_or (ranks_behind s l ranks k) v 0 ≡ get_or ranks v 0 + truth_of (is_order_into v k && value s l)
rank_by s l ranks v (WriteOrder w u) low = bump ranks u v low (value s l)
rank_by s l ranks v (ReadFrom w r) low = sym (add-zero (get_or ranks v 0))
rank_by s l ranks v Plain low = sym (add-zero (get_or ranks v 0))

pub ranks_more : (s : List Bool) (atoms : List Atom) (i : ℕ) (a : Atom) (ranks : List ℕ) (v : ℕ) → i < length atoms → a ≡ get_or atoms i a → v < length ranks
    → get_or ranks v 0 ≡ count_by (puts_before s v) (take i atoms) → get_or (ranks_behind s a.lit ranks a.kind) v 0 ≡ count_by (puts_before s v) (take (i + 1) atoms)
ranks_more s atoms i a ranks v low is there so =
    rank_by s a.lit ranks v a.kind there
    ∙ (ap (λ (n : ℕ). n + truth_of (puts_before s v a)) so
    ∙ (ap (λ (z : Atom). count_by (puts_before s v) (take i atoms) + truth_of (puts_before s v z)) is ∙ sym (counts_one s v atoms i a low)))

pub length_ranks : (s : List Bool) (l : Lit) (ranks : List ℕ) (k : AtomKind) → length (ranks_behind s l ranks k) ≡ length ranks
length_ranks s l ranks (WriteOrder w u) = by (value s l)
  where
    by : (b : Bool) → length (cond b (set ranks u (get_or ranks u 0 + 1)) ranks) ≡ length ranks
    by true = length-set ranks u (get_or ranks u 0 + 1)
    by false = refl
length_ranks s l ranks (ReadFrom w r) = refl
length_ranks s l ranks Plain = refl

pub count_low : (s : List Bool) (v i : ℕ) (atoms : List Atom) → i ≤ length atoms → count_by (puts_before s v) (take i atoms) ≤ i
count_low s v i atoms low =
    let most = count_by-le-length (puts_before s v) (take i atoms) in
    let long = length-take-le i atoms low in
    omega (arith, most, long)

pub ranks_made : (s : List Bool) (atoms : List Atom) (i : ℕ) (ranks : List ℕ) (v : ℕ) → length atoms ≤ i → v < length ranks
    → get_or ranks v 0 ≡ count_by (puts_before s v) (take i atoms) → slice_get ranks v ≡ Some (count_by (puts_before s v) atoms)
ranks_made s atoms i ranks v all low so =
    slice_get-get_or ranks v 0 low ∙ ap (λ (n : ℕ). Some n) (so ∙ ap (λ (l : List Atom). count_by (puts_before s v) l) (take_all i atoms all))
