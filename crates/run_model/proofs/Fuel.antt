-- In a program without recursion calls never stand deeper in one another than there are functions.
use Rattle.std.proofs.Common.{◌≡◌, ℕ, zero, suc, ◌+◌, ◌<◌, ◌≤◌, List, [], ◌∷◌, Option, Some, None, Bool, true, false, nat_eq, length, refl, sym, ap, ◌∙◌, subst, arith}
use Rattle.std.specs.Prelude.{slice_get, cond, ◌||◌, option_map}
use Rattle.std.specs.Str.{bytes_eq}
use Rattle.std.specs.List.{Contains, AllByRecursion, IsDistinct, list_any}
use Rattle.std.proofs.lemmas.Bool.{eqb-true}
use Rattle.std.proofs.lemmas.Option.{slice_get_within}
use Rattle.std.proofs.lemmas.Map.Keys.{IsDistinct-cons}
use Rattle.std.proofs.lemmas.Map.Steps.{length-le_from_distinct_below}
use Rattle.c_tree.specs.declared.program.Function.{Function}
use Rattle.c_tree.specs.declared.program.Item.{Item}
use Rattle.c_tree.specs.declared.program.Item.TheVariants as item
use Rattle.c_rules.specs.Names.{Name, functions_of}
use Rattle.c_check.specs.Recursion.{called_by, number_from, number_of, Calls, Leads, NoRecursion}
use Rattle.run_model.specs.Names.{first_named}
use Rattle.run_model.specs.Steps.{Step, ◌>>◌, make}
use Rattle.axiom_model.specs.declared.Action.TheVariants.{Start}
use Rattle.run_model.specs.Calls.{Setting, function_named, finish}
use Rattle.run_model.specs.Threads.{call_within, call_body, with_function, context_within, thread_within}
use Rattle.run_model.proofs.AgreeingBodies.{call_body_agrees, run_body_agrees}

-- ---- numbers below a bound

any_below : (n q x : ℕ) (b : Bool) (xs : List ℕ) → nat_eq q x ≡ b → x < n → (list_any (nat_eq q) xs ≡ true → q < n) → (b || list_any (nat_eq q) xs) ≡ true → q < n
any_below n q x true xs e low rest h = omega (arith, eqb-true q x e, low)
any_below n q x false xs e low rest h = rest h

all_below : (n : ℕ) (xs : List ℕ) → AllByRecursion (λ q. q < n) xs → (q : ℕ) → list_any (nat_eq q) xs ≡ true → q < n
all_below n [] h q e = absurd (let no : ◌≡◌ {A = Bool} false true = e in cc)
all_below n (x ∷ xs) (low, h) q e = any_below n q x (nat_eq q x) xs refl low (all_below n xs h q) e

-- ---- numbers of functions, among the functions and among the items

-- the number among the items of the function with this number
pub number_in : List Item → ℕ → ℕ
number_in [] k = k
number_in (item.Function f ∷ xs) zero = 0
number_in (item.Function f ∷ xs) (suc k) = suc (number_in xs k)
number_in (item.Prototype p w n ∷ xs) k = suc (number_in xs k)
number_in (item.Shared d ∷ xs) k = suc (number_in xs k)

pub stands_at : (items : List Item) (k : ℕ) (h : Function) → slice_get (functions_of items) k ≡ Some h → slice_get items (number_in items k) ≡ Some (item.Function h)
unfolding number_in
stands_at [] k h e = absurd (let no : ◌≡◌ {A = Option Function} None (Some h) = e in cc)
stands_at (item.Function f ∷ xs) zero h e = ap {B = Option Item} (λ (o : Option Function). option_map (λ (x : Function). item.Function x) o) e
stands_at (item.Function f ∷ xs) (suc k) h e = stands_at xs k h e
stands_at (item.Prototype p w n ∷ xs) k h e = stands_at xs k h e
stands_at (item.Shared d ∷ xs) k h e = stands_at xs k h e

module _ (n : Name) where
  -- a function found as the k-th from the i-th on is found among the items, counted from j, where it stands
  abbrev FoundFrom : List Item → ℕ → ℕ → ℕ → Type 0
  FoundFrom items i j k = (m : ℕ) × (k ≡ i + m) × (number_from j items n ≡ Some (j + number_in items m))

  found_at : (f : Function) (xs : List Item) (i j k : ℕ) (b : Bool) → bytes_eq f.name n ≡ b → cond b (Some i) (first_named (λ (f : Function). f.name) (i + 1) (functions_of xs) n) ≡ Some k
      → (first_named (λ (f : Function). f.name) (i + 1) (functions_of xs) n ≡ Some k → FoundFrom xs (i + 1) (j + 1) k) → FoundFrom (item.Function f ∷ xs) i j k
  unfolding number_in
  found_at f xs i j k true t e rest =
      let same : i ≡ k = cc in
      (0, omega (arith, same), ap (λ b. cond b (Some j) (number_from (j + 1) xs n)) t ∙ ap Some (let z : j ≡ j + 0 = omega arith in z))
  found_at f xs i j k false t e rest =
      let later : FoundFrom xs (i + 1) (j + 1) k = rest e in
      let far : j + 1 + number_in xs later.0 ≡ j + suc (number_in xs later.0) = omega arith in
      (suc later.0, omega (arith, later.1), ap (λ b. cond b (Some j) (number_from (j + 1) xs n)) t ∙ later.2 ∙ ap Some far)

  further_on : (x : Item) (xs : List Item) (i j k : ℕ) → number_from j (x ∷ xs) n ≡ number_from (j + 1) xs n → ((m : ℕ) → number_in (x ∷ xs) m ≡ suc (number_in xs m)) → FoundFrom xs i (j + 1) k → FoundFrom (x ∷ xs) i j k
  further_on x xs i j k e numbers found =
      let far : j + 1 + number_in xs found.0 ≡ j + number_in (x ∷ xs) found.0 = omega (arith, numbers found.0) in
      (found.0, found.1, e ∙ found.2 ∙ ap Some far)

  found_from : (items : List Item) (i j k : ℕ) → first_named (λ (f : Function). f.name) i (functions_of items) n ≡ Some k → FoundFrom items i j k
  unfolding number_in
  found_from [] i j k e = absurd (let no : ◌≡◌ {A = Option ℕ} None (Some k) = e in cc)
  found_from (item.Function f ∷ xs) i j k e = found_at f xs i j k (bytes_eq f.name n) refl e (found_from xs (i + 1) (j + 1) k)
  found_from (item.Prototype p w m ∷ xs) i j k e = further_on (item.Prototype p w m) xs i j k refl (λ q. refl) (found_from xs i (j + 1) k e)
  found_from (item.Shared d ∷ xs) i j k e = further_on (item.Shared d) xs i j k refl (λ q. refl) (found_from xs i (j + 1) k e)

  -- what a name stands for among the functions it stands for among the items
  pub stands_for : (items : List Item) (k : ℕ) → first_named (λ (f : Function). f.name) 0 (functions_of items) n ≡ Some k → number_of items n ≡ Some (number_in items k)
  stands_for items k e =
      let found : FoundFrom items 0 0 k = found_from items 0 0 k e in
      let same : found.0 ≡ k = omega (arith, found.1) in
      found.2 ∙ ap Some (let z : 0 + number_in items found.0 ≡ number_in items found.0 = omega arith in z) ∙ ap (λ m. Some (number_in items m)) same

-- ---- calls

lead_on : (items : List Item) {a b : ℕ} → Leads items a b → (m : ℕ) → Calls items b m → Leads items a m
lead_on items (Leads.at_once c) m d = Leads.over c (Leads.at_once d)
lead_on items (Leads.over c rest) m d = Leads.over c (lead_on items rest m d)

module _ (items : List Item) (g : Setting) (of : g.functions ≡ functions_of items) (straight : NoRecursion items) where
  abbrev pub count : ℕ
  count = length g.functions

  abbrev pub LeadsTo : ℕ → ℕ → Type 0
  LeadsTo f q = Leads items (number_in items q) (number_in items f)

  -- a way to a function: different functions, each of which leads to it
  pub record Way (path : List ℕ) (f : ℕ) : Type 0 where
    pub distinct : IsDistinct nat_eq path
    pub below : AllByRecursion (λ q. q < count) path
    pub leads : AllByRecursion (LeadsTo f) path

  differs : (f q : ℕ) (b : Bool) → LeadsTo f q → nat_eq f q ≡ b → nat_eq f q ≡ false
  differs f q false l t = t
  differs f q true l t =
      let same : q ≡ f = sym (eqb-true f q t) in
      absurd (straight (number_in items f) (subst (LeadsTo f) same l))

  off_the_path : (path : List ℕ) (f : ℕ) → AllByRecursion (LeadsTo f) path → AllByRecursion (λ q. nat_eq f q ≡ false) path
  off_the_path [] f l = tt
  off_the_path (q ∷ qs) f (l, ls) = (differs f q (nat_eq f q) l refl, off_the_path qs f ls)

  leads_on : (path : List ℕ) (f k : ℕ) → Calls items (number_in items f) (number_in items k) → AllByRecursion (LeadsTo f) path → AllByRecursion (LeadsTo k) path
  leads_on [] f k c l = tt
  leads_on (q ∷ qs) f k c (l, ls) = (lead_on items l (number_in items k) c, leads_on qs f k c ls)

  module _ (path : List ℕ) (f : ℕ) (h : Function) (e : slice_get g.functions f ≡ Some h) (way : Way path f) where
    longer : IsDistinct nat_eq (f ∷ path)
    longer = IsDistinct-cons nat_eq f path (off_the_path path f way.leads) way.distinct

    within : AllByRecursion (λ q. q < count) (f ∷ path)
    within = (slice_get_within g.functions f h e, way.below)

    pub not_all : length (f ∷ path) ≤ count
    not_all = length-le_from_distinct_below (f ∷ path) count longer (all_below count (f ∷ path) within)

    calls : (n : Name) (k : ℕ) → Contains (called_by h) n → function_named g n ≡ Some k → Calls items (number_in items f) (number_in items k)
    calls n k c named = record {
      caller = h;
      stands = stands_at items f h (subst (λ (fs : List Function). slice_get fs f ≡ Some h) of e);
      name = n;
      called = c;
      callee = stands_for n items k (subst (λ (fs : List Function). first_named (λ (x : Function). x.name) 0 fs n ≡ Some k) of named);
    }

    -- the way to a function that this one calls
    pub further : (n : Name) (k : ℕ) → Contains (called_by h) n → function_named g n ≡ Some k → Way (f ∷ path) k
    further n k c named = record {
      distinct = longer;
      below = within;
      leads = (Leads.at_once (calls n k c named), leads_on path f k (calls n k c named) way.leads);
    }

  -- where calls may stand as deep as there are functions off the way, one deeper is the same
  enough_at : (n : ℕ) (path : List ℕ) (f : ℕ) (o : Option Function) → slice_get g.functions f ≡ o → Way path f → count ≤ n + length path
      → ((k : ℕ) (way : Way (f ∷ path) k) (m : ℕ) → n ≡ suc m → call_within m g k ≡ call_within (suc m) g k)
      → call_within n g f ≡ call_within (suc n) g f
  enough_at zero path f None e way few rest = sym (ap {B = List ℕ → Step ℕ} (λ (o : Option Function). λ args. with_function o (λ h. call_body (context_within zero g) h args)) e)
  enough_at zero path f (Some h) e way few rest = absurd (let long : suc (length path) ≤ count = not_all path f h e way in omega (arith, long, few))
  enough_at (suc m) path f None e way few rest =
      ap {B = List ℕ → Step ℕ} (λ (o : Option Function). λ args. with_function o (λ h. call_body (context_within m g) h args)) e
      ∙ sym (ap {B = List ℕ → Step ℕ} (λ (o : Option Function). λ args. with_function o (λ h. call_body (context_within (suc m) g) h args)) e)
  enough_at (suc m) path f (Some h) e way few rest =
      let same : (args : List ℕ) → call_body (context_within m g) h args ≡ call_body (context_within (suc m) g) h args =
      λ args. call_body_agrees g (call_within m g) (call_within (suc m) g) h args (λ n c k named. rest k (further path f h e way n k c named) m refl) in
      let body : ◌≡◌ {A = List ℕ → Step ℕ} (λ args. call_body (context_within m g) h args) (λ args. call_body (context_within (suc m) g) h args) = λ i args. same args i in
      ap {B = List ℕ → Step ℕ} (λ (o : Option Function). λ args. with_function o (λ h. call_body (context_within m g) h args)) e
      ∙ body
      ∙ sym (ap {B = List ℕ → Step ℕ} (λ (o : Option Function). λ args. with_function o (λ h. call_body (context_within (suc m) g) h args)) e)

  enough : (n : ℕ) (path : List ℕ) (f : ℕ) → Way path f → count ≤ n + length path → call_within n g f ≡ call_within (suc n) g f
  enough zero path f way few = enough_at zero path f (slice_get g.functions f) refl way few (λ k w m e. absurd (omega (arith, e)))
  enough (suc n) path f way few =
      enough_at (suc n) path f (slice_get g.functions f) refl way few (λ k w m e.
      let same : n ≡ m = omega (arith, e) in
      let fewer : count ≤ n + length (f ∷ path) = omega (arith, few) in
      subst (λ j. call_within j g k ≡ call_within (suc j) g k) same (enough n (f ∷ path) k w fewer))

  pub no_way : (f : ℕ) → Way [] f
  unfolding IsDistinct
  no_way f = record { distinct = tt; below = tt; leads = tt }

  more_calls : (more n f : ℕ) → count ≤ n → call_within n g f ≡ call_within (n + more) g f
  more_calls zero n f few = ap (λ m. call_within m g f) (let e : n ≡ n + 0 = omega arith in e)
  more_calls (suc more) n f few =
      let low : count ≤ n + more = omega (arith, few) in
      let e : suc (n + more) ≡ n + suc more = omega arith in
      more_calls more n f few ∙ enough (n + more) [] f (no_way f) (omega (arith, low)) ∙ ap (λ m. call_within m g f) e

  -- a thread's run is the same where calls may stand deeper
  pub more_fuel : (more : ℕ) (f : Function) (arg : ℕ) → thread_within (count + more) g f arg ≡ thread_within count g f arg
  more_fuel more f arg =
      sym (ap (λ (m : Step ℕ). make Start >> (m >> finish))
      (run_body_agrees g (call_within count g) (call_within (count + more) g) f (arg ∷ []) (λ n c k named. more_calls more count k (omega arith))))
