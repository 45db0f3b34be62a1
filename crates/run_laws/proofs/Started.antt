-- The started functions of a checked program are those that its check has counted.
use Rattle.std.proofs.Common.{◌≡◌, ℕ, zero, suc, ◌+◌, ◌*◌, ◌^◌, ◌<◌, ◌≤◌, List, [], ◌∷◌, Option, Some, None, length, refl, sym, ap, ◌∙◌, subst, arith}
use Rattle.std.specs.Prelude.{slice_get, Contains}
use Rattle.std.proofs.Math.Nat.{pow-suc, pow-le-pow_right}
use Rattle.std.proofs.lemmas.Option.{slice_get-get_or}
use Rattle.axiom_model.specs.declared.Action.{Action}
use Rattle.axiom_model.specs.declared.Action.TheVariants.{Create}
use Rattle.axiom_model.specs.Failing.{Run}
use Rattle.c_rules.specs.Names.{functions_of}
use Rattle.c_check.specs.declared.checked.Checked.{Checked}
use Rattle.c_check.specs.WellFormed.{IsChecked}
use Rattle.run_model.specs.Threads.{ShortRun, thread_run, short_run}
use Rattle.run_model.specs.Laws.{creates_in}
use Rattle.run_model.proofs.Handles.{run_is_numbered}
use Rattle.run_model.proofs.Creates.{first_is, numbered_at, before, few_before}
use Rattle.run_laws.specs.Started.{IsStarted, main, created}
use Rattle.run_laws.specs.Lengths.{IsShort}
use Rattle.run_laws.proofs.Growing.{CreatesOf}
use Rattle.run_laws.proofs.Differing.{apart, differ}
use Rattle.run_laws.proofs.FunctionCounts.{counts_for}
use Rattle.run_laws.proofs.Expressions.{Low}
use Rattle.run_laws.proofs.Threads.{at_level, Fine, run_few, short_few}
use Rattle.run_laws.proofs.Mains.{main_fine}

-- ---- one create of a list of actions

module _ (h f v : ℕ) where
  -- the function of a new thread has what the functions of all have
  of_at : (q : ℕ → Type 0) (acts : List Action) (i : ℕ) → CreatesOf q acts → slice_get acts i ≡ Some (Create h f v) → q f
  of_at q [] zero p e = absurd (let no : ◌≡◌ {A = Option Action} None (Some (Create h f v)) = e in cc)
  of_at q [] (suc i) p e = absurd (let no : ◌≡◌ {A = Option Action} None (Some (Create h f v)) = e in cc)
  of_at q (a ∷ acts) zero p e =
      let it : CreatesOf q (Create h f v ∷ acts) = subst (λ (x : Action). CreatesOf q (x ∷ acts)) (first_is h f v a acts e) p in it.0
  of_at q (Create g w u ∷ acts) (suc i) p e = of_at q acts i p.1 e
  of_at q (a ∷ acts) (suc i) p e = of_at q acts i p e

  -- its place
  create_at : (acts : List Action) → Contains acts (Create h f v) → (i : ℕ) × (slice_get acts i ≡ Some (Create h f v))
  create_at acts c = (c.0, slice_get-get_or acts c.0 (Create h f v) c.1 ∙ ap Some c.2)

-- ---- started functions

module _ (p : Checked) (checked : IsChecked p) where
  -- the fuel of the calls in one thread, and one more
  abbrev deep : ℕ → ℕ
  deep least = suc (least + length (functions_of p.program.items))

  -- few actions, of which few create threads
  abbrev Small : List Action → Type 0
  Small acts = (creates_in acts ≤ 63) × IsShort acts

  -- what a run makes with this fuel is small
  small : (fuel d f : ℕ) (acts : List Action) → (counts_for p fuel f).creates ≤ 63 → Low (at_level d) (counts_for p fuel f)
      → creates_in acts ≤ (counts_for p fuel f).creates + 0 → length acts ≤ 4 * ((counts_for p fuel f).accesses + (counts_for p fuel f).weight) + 2 → Small acts
  small fuel d f acts few low creates long = (omega (arith, few, creates), omega (arith, low.2, low.3, long))

  run_few_at : (least d f handle arg n : ℕ) (script : List ℕ) (r : Run) (fine : Fine p (deep least) d f) → fine.fuel ≡ n → thread_run p f handle arg script ≡ Some r
      → Small r.actions × CreatesOf (Fine p least (suc d)) r.actions
  run_few_at least d f handle arg zero script r fine is e = absurd (omega (arith, is, fine.enough))
  run_few_at least d f handle arg (suc m) script r fine is e =
      let low = subst (λ (n : ℕ). Low (at_level d) (counts_for p n f)) is fine.low in
      let few : (counts_for p (suc m) f).creates ≤ 63 = subst (λ (n : ℕ). (counts_for p n f).creates ≤ 63) is fine.few in
      let it = run_few p handle least d checked.well_formed.typed checked.bound.0 m f arg script r (omega (arith, is, fine.enough)) low e in
      (small (suc m) d f r.actions few low it.0 it.1, it.2)

  -- what a run of a fine function makes is small, and what it creates is fine
  run_fine : (least d f handle arg : ℕ) (script : List ℕ) (r : Run) → Fine p (deep least) d f → thread_run p f handle arg script ≡ Some r
      → Small r.actions × CreatesOf (Fine p least (suc d)) r.actions
  run_fine least d f handle arg script r fine e = run_few_at least d f handle arg fine.fuel script r fine refl e

  -- a started function is fine, with as much fuel as one wants
  started_fine : (d f : ℕ) → IsStarted p d f → (least : ℕ) → Fine p least d f
  started_fine _ _ main least = main_fine p checked least
  started_fine _ _ (created e g f handle arg h v script r s is made) least =
      let at = create_at h f v r.actions made in
      of_at h f v (Fine p least (suc e)) r.actions at.0 (run_fine least e g handle arg script r (started_fine e g s (deep least)) is).1 at.1

  pub started_run_small : (d f handle arg : ℕ) (script : List ℕ) (r : Run) → IsStarted p d f → thread_run p f handle arg script ≡ Some r → Small r.actions
  started_run_small d f handle arg script r s e = (run_fine 0 d f handle arg script r (started_fine d f s (deep 0)) e).0

  pub started_create_few : (d f handle arg : ℕ) (script : List ℕ) (r : Run) → IsStarted p d f → thread_run p f handle arg script ≡ Some r → creates_in r.actions ≤ 63
  started_create_few d f handle arg script r s e = (started_run_small d f handle arg script r s e).0

  short_small_at : (d f handle arg n : ℕ) (script : List ℕ) (s : ShortRun) (fine : Fine p (deep 0) d f) → fine.fuel ≡ n → short_run p f handle arg script ≡ Some s → Small s.actions
  short_small_at d f handle arg zero script s fine is e = absurd (omega (arith, is, fine.enough))
  short_small_at d f handle arg (suc m) script s fine is e =
      let low = subst (λ (n : ℕ). Low (at_level d) (counts_for p n f)) is fine.low in
      let few : (counts_for p (suc m) f).creates ≤ 63 = subst (λ (n : ℕ). (counts_for p n f).creates ≤ 63) is fine.few in
      let it = short_few p handle 0 d checked.well_formed.typed checked.bound.0 m f arg script s (omega (arith, is, fine.enough)) low e in
      small (suc m) d f s.actions few low it.0 it.1

  pub started_short_small : (d f handle arg : ℕ) (script : List ℕ) (s : ShortRun) → IsStarted p d f → short_run p f handle arg script ≡ Some s → Small s.actions
  started_short_small d f handle arg script s started e = let fine = started_fine d f started (deep 0) in short_small_at d f handle arg fine.fuel script s fine refl e

  pub started_shallow : (d f : ℕ) → IsStarted p d f → d ≤ 4
  started_shallow d f s = (started_fine d f s 0).level

  -- ---- handles

  one_more_digit : (own n d : ℕ) → own < 64 ^ d → n < 63 → 64 * own + n + 1 < 64 ^ suc d
  one_more_digit own n d low few = omega (arith, pow-suc 64 d)

  below_all : (d h : ℕ) → d ≤ 4 → h < 64 ^ d → h < 2 ^ 24
  below_all d h low e =
      let top : 64 ^ d ≤ 64 ^ 4 = pow-le-pow_right (omega arith) low in
      let same : 64 ^ 4 ≡ 2 ^ 24 = refl in
      omega (arith, top, same)

  pub started_handles_low : (d f handle arg : ℕ) (script : List ℕ) (r : Run) → IsStarted p d f → handle < 64 ^ d → thread_run p f handle arg script ≡ Some r
      → (h g v : ℕ) → Contains r.actions (Create h g v) → (h < 64 ^ suc d) × (h < 2 ^ 24)
  started_handles_low d f handle arg script r s low e h g v made =
      let at = create_at h g v r.actions made in
      let is : h ≡ 64 * handle + (0 + before r.actions at.0) + 1 = numbered_at h g v handle 0 r.actions at.0 (run_is_numbered p f handle arg script r e) at.1 in
      let few : 0 + before r.actions at.0 < 63 = omega (arith, few_before h g v r.actions at.0 at.1, started_create_few d f handle arg script r s e) in
      let fits : h < 64 ^ suc d = subst (λ (n : ℕ). n < 64 ^ suc d) (sym is) (one_more_digit handle (0 + before r.actions at.0) d low few) in
      (fits, below_all (suc d) h (started_shallow (suc d) g (created d f g handle arg h v script r s e made)) fits)

  -- ---- creates of two runs

  pub started_creates_differ : (d e f g own other arg val : ℕ) (script more : List ℕ) (r q : Run) → IsStarted p d f → IsStarted p e g → thread_run p f own arg script ≡ Some r → thread_run p g other val more ≡ Some q
      → (h a b v w : ℕ) → Contains r.actions (Create h a v) → Contains q.actions (Create h b w) → own ≡ other
  started_creates_differ d e f g own other arg val script more r q s t is that h a b v w made again =
      let one = create_at h a v r.actions made in
      let two = create_at h b w q.actions again in
      differ h a v b w own other r.actions q.actions (run_is_numbered p f own arg script r is) (run_is_numbered p g other val more q that)
      (started_create_few d f own arg script r s is) (started_create_few e g other val more q t that) one.0 two.0 one.1 two.1

pub creates_differ_in_a_run : (p : Checked) (f handle arg : ℕ) (script : List ℕ) (r : Run) → thread_run p f handle arg script ≡ Some r
    → (i j h a b v w : ℕ) → slice_get r.actions i ≡ Some (Create h a v) → slice_get r.actions j ≡ Some (Create h b w) → i ≡ j
creates_differ_in_a_run p f handle arg script r e i j h a b v w one two = apart h a v b w handle r.actions (run_is_numbered p f handle arg script r e) i j one two
