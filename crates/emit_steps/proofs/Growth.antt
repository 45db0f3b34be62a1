-- What an emission adds: it only appends, and each step that it adds stands under its guard or under a local that was new.
use Rattle.std.proofs.Common.{◌≡◌, ℕ, ◌+◌, ◌<◌, ◌≤◌, ◌⊎◌, inl, inr, List, [], ◌∷◌, ◌++◌, length, refl, sym, ap, ◌∙◌, subst, append_assoc, append-nil, length-append, arith}
use Rattle.flat_prog.specs.declared.FlatStep.{FlatStep}
use Rattle.emit_steps.specs.declared.state.Number.{Number}
use Rattle.emit_steps.specs.Emitting.{Emitted, none}

-- ---- each item of a list

abbrev pub Each : {X : Type 0} → (X → Type 0) → List X → Type 0
Each P [] = Unit {0}
Each P (x ∷ xs) = P x × Each P xs

pub each_append : {X : Type 0} (P : X → Type 0) (xs ys : List X) → Each P xs → Each P ys → Each P (xs ++ ys)
each_append P [] ys h k = k
each_append P (x ∷ xs) ys h k = (h.0, each_append P xs ys h.1 k)

pub each_front : {X : Type 0} (P : X → Type 0) (xs ys : List X) → Each P (xs ++ ys) → Each P xs
each_front P [] ys h = tt
each_front P (x ∷ xs) ys h = (h.0, each_front P xs ys h.1)

pub each_map : {X : Type 0} (P Q : X → Type 0) → ((x : X) → P x → Q x) → (xs : List X) → Each P xs → Each Q xs
each_map P Q f [] h = tt
each_map P Q f (x ∷ xs) h = (f x h.0, each_map P Q f xs h.1)

-- ---- locals

-- the local holds no number of these
abbrev pub Plain : List Number → ℕ → Type 0
Plain ns l = Each (λ (n : Number). n.local ≡ l → ⊥) ns

-- the numbers stand in locals from one on, and up to one
abbrev pub Above : ℕ → List Number → Type 0
Above low ns = Each (λ (n : Number). low ≤ n.local) ns

abbrev pub Below : ℕ → List Number → Type 0
Below high ns = Each (λ (n : Number). n.local < high) ns

-- each stands in a local above those of the numbers before
abbrev pub Rising : List Number → Type 0
Rising [] = Unit {0}
Rising (n ∷ ns) = Above (n.local + 1) ns × Rising ns

rising_append : (mid : ℕ) (xs ys : List Number) → Rising xs → Below mid xs → Above mid ys → Rising ys → Rising (xs ++ ys)
rising_append mid [] ys h b a k = k
rising_append mid (x ∷ xs) ys h b a k = (
  each_append (λ (n : Number). x.local + 1 ≤ n.local) xs ys h.0 (each_map (λ (n : Number). mid ≤ n.local) (λ (n : Number). x.local + 1 ≤ n.local) (λ n c. omega (arith, b.0)) ys a),
  rising_append mid xs ys h.1 b.1 a k,
)

pub plain_below : (ns : List Number) (l high : ℕ) → high ≤ l → Below high ns → Plain ns l
plain_below ns l high low h = each_map (λ (n : Number). n.local < high) (λ (n : Number). n.local ≡ l → ⊥) (λ n b e. absurd (omega arith)) ns h

pub plain_above : (ns : List Number) (l low : ℕ) → l < low → Above low ns → Plain ns l
plain_above ns l low below h = each_map (λ (n : Number). low ≤ n.local) (λ (n : Number). n.local ≡ l → ⊥) (λ n b e. absurd (omega arith)) ns h

-- a local that was new since e, and holds no number
abbrev pub New : Emitted → Emitted → ℕ → Type 0
New e f l = (e.next ≤ l) × (l < f.next) × Plain f.numbers l

-- it is one of these
abbrev pub One : List ℕ → ℕ → Type 0
One [] l = ⊥
One (g ∷ gs) l = (l ≡ g) ⊎ One gs l

-- the guards of what is emitted under some: one of these, the local that holds 0, or one that was new
abbrev pub IsGuardOf : List ℕ → Emitted → Emitted → ℕ → Type 0
IsGuardOf gs e f l = One gs l ⊎ ((l ≡ none) ⊎ New e f l)

-- the numbers stand in locals that were used
abbrev pub Neat : Emitted → Type 0
Neat e = Below e.next e.numbers

-- ---- growth

pub record Grown (gs : List ℕ) (e f : Emitted) : Type 0 where
  pub next : e.next ≤ f.next
  pub numbers : List Number
  pub numbers_behind : f.numbers ≡ e.numbers ++ numbers
  pub numbers_above : Above e.next numbers
  pub numbers_below : Below f.next numbers
  pub rising : Rising numbers
  pub created : List ℕ
  pub created_behind : f.created ≡ e.created ++ created
  pub instances : f.instances ≡ e.instances + length created
  pub steps : List FlatStep
  pub steps_behind : f.steps ≡ e.steps ++ steps
  pub guards : Each (λ (t : FlatStep). IsGuardOf gs e f t.guard) steps
  pub depth : f.depth ≡ e.depth
  pub opened : (e.depth ≡ 0 → ⊥) → f.opened ≡ e.opened

pub grown_none : (gs : List ℕ) (e : Emitted) → Grown gs e e
grown_none gs e = record {
  next = omega arith;
  numbers = [];
  numbers_behind = sym (append-nil e.numbers);
  numbers_above = tt;
  numbers_below = tt;
  rising = tt;
  created = [];
  created_behind = sym (append-nil e.created);
  instances = omega arith;
  steps = [];
  steps_behind = sym (append-nil e.steps);
  guards = tt;
  depth = refl;
  opened = λ h. refl;
}

pub neat_behind : (gs : List ℕ) (e f : Emitted) → Grown gs e f → Neat e → Neat f
neat_behind gs e f h neat =
    subst (Below f.next) (sym h.numbers_behind)
    (each_append (λ (n : Number). n.local < f.next) e.numbers h.numbers
    (each_map (λ (n : Number). n.local < e.next) (λ (n : Number). n.local < f.next) (λ n b. omega (arith, h.next)) e.numbers neat) h.numbers_below)

-- a local that was used holds none of the numbers that come later
pub plain_behind : (gs : List ℕ) (f h : Emitted) (l : ℕ) → Grown gs f h → l < f.next → Plain f.numbers l → Plain h.numbers l
plain_behind gs f h l grown used plain =
    subst (λ ns. Plain ns l) (sym grown.numbers_behind)
    (each_append (λ (n : Number). n.local ≡ l → ⊥) f.numbers grown.numbers plain (plain_above grown.numbers l f.next used grown.numbers_above))

pub new_behind : (gs : List ℕ) (e f h : Emitted) (l : ℕ) → Grown gs f h → New e f l → New e h l
new_behind gs e f h l grown new = (new.0, omega (arith, new.1, grown.next), plain_behind gs f h l grown new.1 new.2)

pub guard_behind : (gs hs : List ℕ) (e f h : Emitted) (l : ℕ) → Grown hs f h → IsGuardOf gs e f l → IsGuardOf gs e h l
guard_behind gs hs e f h l grown (inl same) = inl same
guard_behind gs hs e f h l grown (inr (inl zero)) = inr (inl zero)
guard_behind gs hs e f h l grown (inr (inr new)) = inr (inr (new_behind hs e f h l grown new))

pub guard_inside : (gs hs : List ℕ) (e f h : Emitted) (l : ℕ) → e.next ≤ f.next → Grown hs f h → ((k : ℕ) → One hs k → IsGuardOf gs e f k) → IsGuardOf hs f h l → IsGuardOf gs e h l
guard_inside gs hs e f h l le grown outer (inl some) = guard_behind gs hs e f h l grown (outer l some)
guard_inside gs hs e f h l le grown outer (inr (inl zero)) = inr (inl zero)
guard_inside gs hs e f h l le grown outer (inr (inr new)) = inr (inr (omega (arith, new.0), new.1, new.2))

opened_behind : (e f h : Emitted) → f.depth ≡ e.depth → ((e.depth ≡ 0 → ⊥) → f.opened ≡ e.opened) → ((f.depth ≡ 0 → ⊥) → h.opened ≡ f.opened) → (e.depth ≡ 0 → ⊥) → h.opened ≡ e.opened
opened_behind e f h same first then deep = then (λ z. deep (sym same ∙ z)) ∙ first deep

-- more is emitted, under guards that the emission before may have made
pub grown_then : (gs hs : List ℕ) (e f h : Emitted) → Grown gs e f → ((k : ℕ) → One hs k → IsGuardOf gs e f k) → Grown hs f h → Grown gs e h
grown_then gs hs e f h a outer b = record {
  next = omega (arith, a.next, b.next);
  numbers = a.numbers ++ b.numbers;
  numbers_behind = b.numbers_behind ∙ (ap (λ ns. ns ++ b.numbers) a.numbers_behind ∙ append_assoc e.numbers a.numbers b.numbers);
  numbers_above =
      each_append (λ (n : Number). e.next ≤ n.local) a.numbers b.numbers a.numbers_above
      (each_map (λ (n : Number). f.next ≤ n.local) (λ (n : Number). e.next ≤ n.local) (λ n c. omega (arith, a.next)) b.numbers b.numbers_above);
  numbers_below =
      each_append (λ (n : Number). n.local < h.next) a.numbers b.numbers
      (each_map (λ (n : Number). n.local < f.next) (λ (n : Number). n.local < h.next) (λ n c. omega (arith, b.next)) a.numbers a.numbers_below) b.numbers_below;
  rising = rising_append f.next a.numbers b.numbers a.rising a.numbers_below b.numbers_above b.rising;
  created = a.created ++ b.created;
  created_behind = b.created_behind ∙ (ap (λ ns. ns ++ b.created) a.created_behind ∙ append_assoc e.created a.created b.created);
  instances = omega (arith, a.instances, b.instances, length-append a.created b.created);
  steps = a.steps ++ b.steps;
  steps_behind = b.steps_behind ∙ (ap (λ ts. ts ++ b.steps) a.steps_behind ∙ append_assoc e.steps a.steps b.steps);
  guards =
      each_append (λ (t : FlatStep). IsGuardOf gs e h t.guard) a.steps b.steps
      (each_map (λ (t : FlatStep). IsGuardOf gs e f t.guard) (λ (t : FlatStep). IsGuardOf gs e h t.guard) (λ t c. guard_behind gs hs e f h t.guard b c) a.steps a.guards)
      (each_map (λ (t : FlatStep). IsGuardOf hs f h t.guard) (λ (t : FlatStep). IsGuardOf gs e h t.guard) (λ t c. guard_inside gs hs e f h t.guard a.next b outer c) b.steps b.guards);
  depth = b.depth ∙ a.depth;
  opened = opened_behind e f h a.depth a.opened b.opened;
}
