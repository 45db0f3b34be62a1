-- What is emitted is laid: the parts that all emissions are made of.
use Rattle.std.proofs.Common.{◌≡◌, ℕ, zero, suc, ◌+◌, ◌<◌, ◌≤◌, inl, inr, List, [], ◌∷◌, ◌++◌, length, get_or, Bool, true, false, Option, Some, None, refl, sym, ap, ◌∙◌, subst, append_assoc, append-nil, arith}
use Rattle.std.specs.Prelude.{cond, nat_eq, All}
use Rattle.dg_base.specs.declared.Place.{Place}
use Rattle.dg_base.specs.declared.operators.Op.{Op}
use Rattle.dg_base.specs.declared.operators.Op.TheVariants as op
use Rattle.dg_base.specs.Values.{arity}
use Rattle.flat_prog.specs.declared.FlatAct.{FlatAct}
use Rattle.flat_prog.specs.declared.FlatAct.TheVariants as act
use Rattle.flat_prog.specs.Shape.{ActFits, mark_of}
use Rattle.emit_steps.specs.declared.state.Number.{Number}
use Rattle.emit_steps.specs.declared.state.Variable.{Variable}
use Rattle.emit_steps.specs.Emitting.{Emitted, Emit, ◌>>=◌, pure, one, none, creates, fresh_cells, fresh, holder_in, hold, number, emit, set, copy_to, mark, when, unless, join_guards, fail, stop, ask}
use Rattle.emit_steps.proofs.Growth.{Each, each_append, each_map, Plain, plain_below, plain_above, Above, Below, Neat}
use Rattle.emit_steps.proofs.Running.{Among}
use Rattle.emit_steps.proofs.Laying.{Stretch, Site, Out, In, stretches, Has, InGuard, InAll, NotAny, Writes, NotOpen, GuardAt, Moves, Counts, shift_none, Lays, lays_then, lays_more, lays_numbers, guard_at_more}
use Rattle.emit_steps.proofs.LayingRuns.{writes_map}

-- ---- locals

-- a local that may be written: it is used, and is not the guard of the open section
pub record Spare (s : Site) (n : ℕ) (l : ℕ) : Type 0 where
  pub high : 4 ≤ l
  pub used : l < n
  pub apart : NotOpen s l

-- a stretch's guard is older than what is new in it
abbrev pub StretchFits : ℕ → Stretch → Type 0
StretchFits n p = (p.0 < p.1) × (p.1 ≤ n) × (p.0 ≡ creates → ⊥)

-- the open section's guard is kept
abbrev pub IsKept : Site → ℕ → Type 0
IsKept (Out rs) opened = Unit {0}
IsKept (In g k rs) opened = (opened ≡ g) × Has rs g k

pub record SiteFits (s : Site) (n opened : ℕ) : Type 0 where
  pub older : Each (StretchFits n) (stretches s)
  pub kept : IsKept s opened

-- ---- emissions that are laid

module _ (cells first : ℕ) where
  pub record Laid (s : Site) (e : Emitted) : Type 0 where
    pub base : 5 ≤ e.next
    pub neat : Neat e
    pub above : Above 5 e.numbers
    pub steps : Lays cells e.numbers 5 first (Out []) e.steps e.next e.instances s
    pub scope : (l : ℕ) → Among e.scope l → Spare s e.next l
    pub site : SiteFits s e.next e.opened

  -- what was emitted since e is laid behind it
  pub record Since (s : Site) (e f : Emitted) : Type 0 where
    pub next : e.next ≤ f.next
    pub numbers : List Number
    pub numbers_behind : f.numbers ≡ e.numbers ++ numbers
    pub numbers_above : Above e.next numbers
    pub vars : List Variable
    pub scope : f.scope ≡ e.scope ++ vars
    pub cells_new : (l : ℕ) → Among vars l → e.next ≤ l
    pub depth : f.depth ≡ e.depth
    pub laid : Laid s f

  pub record Does {A : Type 0} (s : Site) (e : Emitted) (m : Emit A) (P : A → Emitted → Type 0) : Type 0 where
    pub since : Since s e (m e).1
    pub gives : P (m e).0 (m e).1

  pub since_none : (s : Site) (e : Emitted) → Laid s e → Since s e e
  since_none s e h = record {
    next = omega arith;
    numbers = [];
    numbers_behind = sym (append-nil e.numbers);
    numbers_above = tt;
    vars = [];
    scope = sym (append-nil e.scope);
    cells_new = λ l none. absurd none;
    depth = refl;
    laid = h;
  }

  among_new : (n m : ℕ) (vs ws : List Variable) (l : ℕ) → n ≤ m → ((k : ℕ) → Among vs k → n ≤ k) → ((k : ℕ) → Among ws k → m ≤ k) → Among (vs ++ ws) l → n ≤ l
  among_new n m [] ws l le h k a = let x : m ≤ l = k l a in omega arith
  among_new n m (v ∷ vs) ws l le h k (inl here) = h l (inl here)
  among_new n m (v ∷ vs) ws l le h k (inr there) = among_new n m vs ws l le (λ j a. h j (inr a)) k there

  -- the site may change
  pub since_then : (q s : Site) (e f h : Emitted) → Since q e f → Since s f h → Since s e h
  since_then q s e f h a b = record {
    next = omega (arith, a.next, b.next);
    numbers = a.numbers ++ b.numbers;
    numbers_behind = b.numbers_behind ∙ (ap (λ ns. ns ++ b.numbers) a.numbers_behind ∙ append_assoc e.numbers a.numbers b.numbers);
    numbers_above =
        each_append (λ (n : Number). e.next ≤ n.local) a.numbers b.numbers a.numbers_above
        (each_map (λ (n : Number). f.next ≤ n.local) (λ (n : Number). e.next ≤ n.local) (λ n c. omega (arith, a.next)) b.numbers b.numbers_above);
    vars = a.vars ++ b.vars;
    scope = b.scope ∙ (ap (λ vs. vs ++ b.vars) a.scope ∙ append_assoc e.scope a.vars b.vars);
    cells_new = λ l x. among_new e.next f.next a.vars b.vars l a.next a.cells_new b.cells_new x;
    depth = b.depth ∙ a.depth;
    laid = b.laid;
  }

  pub bind_at : {A B : Type 0} {P : A → Emitted → Type 0} {Q : B → Emitted → Type 0} (q s : Site) (e : Emitted) (m : Emit A) (k : A → Emit B) → Does q e m P → ((a : A) (f : Emitted) → Since q e f → P a f → Does s f (k a) Q) → Does s e (m >>= k) Q
  bind_at q s e m k d rest =
      let r : Does s (m e).1 (k (m e).0) _ = rest (m e).0 (m e).1 d.since d.gives in
      record { since = since_then q s e (m e).1 (k (m e).0 (m e).1).1 d.since r.since; gives = r.gives }

  pub bind : {A B : Type 0} {P : A → Emitted → Type 0} {Q : B → Emitted → Type 0} (s : Site) (e : Emitted) (m : Emit A) (k : A → Emit B) → Does s e m P → ((a : A) (f : Emitted) → Since s e f → P a f → Does s f (k a) Q) → Does s e (m >>= k) Q
  bind s e m k d rest = bind_at s s e m k d rest

  pub gives_also : {A : Type 0} {P : A → Emitted → Type 0} (Q : A → Emitted → Type 0) (s : Site) (e : Emitted) (m : Emit A) → Does s e m P → ((a : A) (f : Emitted) → Since s e f → P a f → Q a f) → Does s e m Q
  gives_also Q s e m d h = record { since = d.since; gives = h (m e).0 (m e).1 d.since d.gives }

  pub does_pure : {A : Type 0} (P : A → Emitted → Type 0) (s : Site) (e : Emitted) (a : A) → Laid s e → P a e → Does s e (pure a) P
  does_pure P s e a h p = record { since = since_none s e h; gives = p }

  pub does_cond : {A : Type 0} {P : A → Emitted → Type 0} (s : Site) (e : Emitted) (b : Bool) (m n : Emit A) → Does s e m P → Does s e n P → Does s e (cond b m n) P
  does_cond s e true m n h k = h
  does_cond s e false m n h k = k

  -- ---- what answers are

  abbrev pub Any : {A : Type 0} → A → Emitted → Type 0
  Any a f = Unit {0}

  abbrev pub Low : ℕ → Emitted → Type 0
  Low v f = v < f.next

  -- a local that was new since e
  pub record Fresh (e : Emitted) (v : ℕ) (f : Emitted) : Type 0 where
    pub new : e.next ≤ v
    pub used : v < f.next
    pub plain : Plain f.numbers v
    pub apart : Among f.scope v → ⊥

  -- a guard
  pub record Guard (s : Site) (g : ℕ) (f : Emitted) : Type 0 where
    pub used : g < f.next
    pub at : GuardAt f.numbers s g
    pub other : g ≡ creates → ⊥
    pub apart : Among f.scope g → ⊥

  among_either : (vs ws : List Variable) (l : ℕ) → (Among vs l → ⊥) → (Among ws l → ⊥) → Among (vs ++ ws) l → ⊥
  among_either [] ws l h k a = k a
  among_either (v ∷ vs) ws l h k (inl here) = h (inl here)
  among_either (v ∷ vs) ws l h k (inr there) = among_either vs ws l (λ a. h (inr a)) k there

  pub apart_later : (s : Site) (e f : Emitted) (l : ℕ) → Since s e f → l < e.next → (Among e.scope l → ⊥) → Among f.scope l → ⊥
  apart_later s e f l h used apart a = among_either e.scope h.vars l apart (λ x. let le : e.next ≤ l = h.cells_new l x in omega arith) (subst (λ vs. Among vs l) h.scope a)

  pub low_later : (s : Site) (e f : Emitted) (v : ℕ) → Since s e f → Low v e → Low v f
  low_later s e f v h low = omega (arith, h.next)

  pub spare_later : (s r : Site) (e f : Emitted) (l : ℕ) → Since r e f → Spare s e.next l → Spare s f.next l
  spare_later s r e f l h x = record { high = x.high; used = omega (arith, x.used, h.next); apart = x.apart }

  pub guard_later : (s r : Site) (e f : Emitted) (g : ℕ) → Since r e f → Guard s g e → Guard s g f
  guard_later s r e f g h x = record {
    used = omega (arith, x.used, h.next);
    at = subst (λ ns. GuardAt ns s g) (sym h.numbers_behind) (guard_at_more e.numbers h.numbers s g e.next x.used h.numbers_above x.at);
    other = x.other;
    apart = apart_later r e f g h x.used x.apart;
  }

  fresh_at : (rs : List Stretch) (e f : Emitted) (v : ℕ) → Each (StretchFits e.next) rs → Fresh e v f → InAll f.numbers rs v
  fresh_at rs e f v fits x = each_map (StretchFits e.next) (λ (p : Stretch). InGuard f.numbers p.0 p.1 v) (λ p y. inr (inr (omega (arith, y.1, x.new), x.plain))) rs fits

  fresh_apart : (rs : List Stretch) (e f : Emitted) (v : ℕ) → Each (StretchFits e.next) rs → Fresh e v f → NotAny rs v
  fresh_apart rs e f v fits x = each_map (StretchFits e.next) (λ (p : Stretch). v ≡ p.0 → ⊥) (λ p y same. absurd (omega (arith, y.0, y.1, x.new, same))) rs fits

  pub fresh_guard : (s : Site) (e f : Emitted) (v : ℕ) → Laid s e → Fresh e v f → Guard s v f
  fresh_guard s e f v h x = record { used = x.used; at = fresh_at (stretches s) e f v h.site.older x; other = λ same. absurd (omega (arith, h.base, x.new, same)); apart = x.apart }

  pub fresh_spare : (s : Site) (e f : Emitted) (v : ℕ) → Laid s e → Fresh e v f → Spare s f.next v
  fresh_spare s e f v h x = record { high = omega (arith, h.base, x.new); used = x.used; apart = fresh_apart (stretches s) e f v h.site.older x }

  pub fresh_later : (s : Site) (e f h : Emitted) (v : ℕ) → Since s f h → Fresh e v f → Fresh e v h
  fresh_later s e f h v since x = record {
    new = x.new;
    used = omega (arith, x.used, since.next);
    plain = subst (λ ns. Plain ns v) (sym since.numbers_behind) (each_append (λ (n : Number). n.local ≡ v → ⊥) f.numbers since.numbers x.plain (plain_above since.numbers v f.next x.used since.numbers_above));
    apart = apart_later s f h v since x.used x.apart;
  }

  pub fresh_before : (s : Site) (e f h : Emitted) (v : ℕ) → Since s e f → Fresh f v h → Fresh e v h
  fresh_before s e f h v since x = record { new = omega (arith, since.next, x.new); used = x.used; plain = x.plain; apart = x.apart }

  none_at : (ns : List Number) (rs : List Stretch) → InAll ns rs none
  none_at ns [] = tt
  none_at ns (p ∷ rs) = (inr (inl refl), none_at ns rs)

  scope_high : (s : Site) (e : Emitted) (l : ℕ) → Laid s e → l < 4 → Among e.scope l → ⊥
  scope_high s e l h lt a = let x : Spare s e.next l = h.scope l a in absurd (omega (arith, x.high))

  pub none_guard : (s : Site) (e : Emitted) → Laid s e → Guard s none e
  none_guard s e h = record { used = omega (arith, h.base); at = none_at e.numbers (stretches s); other = λ same. absurd (omega arith); apart = scope_high s e none h (omega arith) }

  creates_apart : (n : ℕ) (rs : List Stretch) → Each (StretchFits n) rs → NotAny rs creates
  creates_apart n rs fits = each_map (StretchFits n) (λ (p : Stretch). creates ≡ p.0 → ⊥) (λ p y same. y.2 (sym same)) rs fits

  pub creates_spare : (s : Site) (e : Emitted) → Laid s e → Spare s e.next creates
  creates_spare s e h = record { high = omega arith; used = omega (arith, h.base); apart = creates_apart e.next (stretches s) h.site.older }

  -- ---- the simplest emissions

  site_more : (s : Site) (n m o : ℕ) → n ≤ m → SiteFits s n o → SiteFits s m o
  site_more s n m o le h = record { older = each_map (StretchFits n) (StretchFits m) (λ p y. (y.0, omega (arith, y.1), y.2)) (stretches s) h.older; kept = h.kept }

  spare_more : (s : Site) (n m l : ℕ) → n ≤ m → Spare s n l → Spare s m l
  spare_more s n m l le x = record { high = x.high; used = omega (arith, x.used); apart = x.apart }

  pub does_cells : (s : Site) (e : Emitted) (n : ℕ) → Laid s e → Does s e (fresh_cells n) (λ a f. (a ≡ e.next) × (f.next ≡ e.next + n) × (f.scope ≡ e.scope) × (f.numbers ≡ e.numbers))
  does_cells s e n h = record {
    since = record {
      next = omega arith;
      numbers = [];
      numbers_behind = sym (append-nil e.numbers);
      numbers_above = tt;
      vars = [];
      scope = sym (append-nil e.scope);
      cells_new = λ l none. absurd none;
      depth = refl;
      laid = record {
        base = omega (arith, h.base);
        neat = each_map (λ (x : Number). x.local < e.next) (λ (x : Number). x.local < e.next + n) (λ x b. omega arith) e.numbers h.neat;
        above = h.above;
        steps = lays_more cells e.numbers 5 first (Out []) e.steps e.next e.instances s (e.next + n) (omega arith) h.steps;
        scope = λ l a. spare_more s e.next (e.next + n) l (omega arith) (h.scope l a);
        site = site_more s e.next (e.next + n) e.opened (omega arith) h.site;
      };
    };
    gives = (refl, refl, refl, refl);
  }

  -- a local that was not used is fresh once it is
  pub fresh_is : (s : Site) (e f : Emitted) (v : ℕ) → Laid s e → e.next ≤ v → v < f.next → f.scope ≡ e.scope → f.numbers ≡ e.numbers → Fresh e v f
  fresh_is s e f v h low used scope numbers = record {
    new = low;
    used = used;
    plain = subst (λ ns. Plain ns v) (sym numbers) (plain_below e.numbers v e.next low h.neat);
    apart = λ a. let x : Spare s e.next v = h.scope v (subst (λ vs. Among vs v) scope a) in absurd (omega (arith, x.used));
  }

  pub does_fresh : (s : Site) (e : Emitted) → Laid s e → Does s e fresh (Fresh e)
  does_fresh s e h = gives_also (Fresh e) s e fresh (does_cells s e 1 h) (λ a f since x. fresh_is s e f a h (omega (arith, x.0)) (omega (arith, x.0, x.1)) x.2 x.3)

  does_hold : (s : Site) (e : Emitted) (v : ℕ) (o : Option ℕ) → Laid s e → ((l : ℕ) → o ≡ Some l → l < e.next) → Does s e (hold v o) Low
  does_hold s e v (Some l) h low = record { since = since_none s e h; gives = low l refl }
  does_hold s e v None h low =
      let new : List Number = record { value = v; local = e.next } ∷ [] in
      record {
        since = record {
          next = omega arith;
          numbers = new;
          numbers_behind = refl;
          numbers_above = (omega arith, tt);
          vars = [];
          scope = sym (append-nil e.scope);
          cells_new = λ l none. absurd none;
          depth = refl;
          laid = record {
            base = omega (arith, h.base);
            neat =
                each_append (λ (x : Number). x.local < e.next + 1) e.numbers new
                (each_map (λ (x : Number). x.local < e.next) (λ (x : Number). x.local < e.next + 1) (λ x b. omega arith) e.numbers h.neat) (omega arith, tt);
            above = each_append (λ (x : Number). 5 ≤ x.local) e.numbers new h.above (h.base, tt);
            steps =
                lays_more cells (e.numbers ++ new) 5 first (Out []) e.steps e.next e.instances s (e.next + 1) (omega arith)
                (lays_numbers cells e.numbers new e.next 5 first (Out []) e.steps e.next e.instances s (omega arith) (omega arith, tt) h.steps);
            scope = λ l a. spare_more s e.next (e.next + 1) l (omega arith) (h.scope l a);
            site = site_more s e.next (e.next + 1) e.opened (omega arith) h.site;
          };
        };
        gives = omega arith;
      }

  holder_here : (x : Number) (rest : Option ℕ) (n l : ℕ) (b : Bool) → x.local < n → (rest ≡ Some l → l < n) → cond b (Some x.local) rest ≡ Some l → l < n
  holder_here x rest n l true low later e = let same : x.local ≡ l = (let whole : ◌≡◌ {A = Option ℕ} (Some x.local) (Some l) = e in cc) in subst (λ k. k < n) same low
  holder_here x rest n l false low later e = later e

  holder_low : (ns : List Number) (n v l : ℕ) → Below n ns → holder_in ns v ≡ Some l → l < n
  holder_low [] n v l h e = absurd (let off : ◌≡◌ {A = Option ℕ} None (Some l) = e in cc)
  holder_low (x ∷ xs) n v l h e = holder_here x (holder_in xs v) n l (nat_eq x.value v) h.0 (holder_low xs n v l h.1) e

  pub does_number : (s : Site) (e : Emitted) (v : ℕ) → Laid s e → Does s e (number v) Low
  does_number s e v h =
      does_cond s e (nat_eq v 0) (pure none) _ (does_pure Low s e none h (omega (arith, h.base)))
      (does_cond s e (nat_eq v 1) (pure one) _ (does_pure Low s e one h (omega (arith, h.base))) (number_held s e v h))
    where
      number_held : (s : Site) (e : Emitted) (v : ℕ) → Laid s e → Does s e (λ x. hold v (holder_in x.numbers v) x) Low
      number_held s e v h = let d : Does s e (hold v (holder_in e.numbers v)) Low = does_hold s e v (holder_in e.numbers v) h (λ l is. holder_low e.numbers e.next v l h.neat is) in record { since = d.since; gives = d.gives }

  -- ---- steps

  -- an act that neither opens nor closes a section, and creates nothing
  abbrev pub Mild : FlatAct → Type 0
  Mild act.Open = ⊥
  Mild act.Close = ⊥
  Mild (act.Create i x y) = ⊥
  Mild _ = Unit {0}

  -- what an act writes may be written
  abbrev pub WritesSpare : Site → ℕ → FlatAct → Type 0
  WritesSpare s n a = Writes a (Spare s n)

  mild_moves : (s : Site) (g : ℕ) (a : FlatAct) → Mild a → Moves s (mark_of a) g s
  mild_moves (Out rs) g (act.Set to o args) m = refl
  mild_moves (Out rs) g (act.Put to v) m = refl
  mild_moves (Out rs) g (act.Take to) m = refl
  mild_moves (Out rs) g (act.Read c to) m = refl
  mild_moves (Out rs) g (act.Write c from) m = refl
  mild_moves (Out rs) g act.Open m = absurd m
  mild_moves (Out rs) g act.Close m = absurd m
  mild_moves (Out rs) g act.Fence m = refl
  mild_moves (Out rs) g (act.Create i x y) m = refl
  mild_moves (Out rs) g (act.Join from) m = refl
  mild_moves (Out rs) g act.End m = refl
  mild_moves (Out rs) g act.Stop m = refl
  mild_moves (Out rs) g act.Bad m = refl
  mild_moves (Out rs) g (act.Fail p t) m = refl
  mild_moves (In o k rs) g (act.Set to x args) m = refl
  mild_moves (In o k rs) g (act.Put to v) m = refl
  mild_moves (In o k rs) g (act.Take to) m = refl
  mild_moves (In o k rs) g (act.Read c to) m = refl
  mild_moves (In o k rs) g (act.Write c from) m = refl
  mild_moves (In o k rs) g act.Open m = absurd m
  mild_moves (In o k rs) g act.Close m = absurd m
  mild_moves (In o k rs) g act.Fence m = refl
  mild_moves (In o k rs) g (act.Create i x y) m = refl
  mild_moves (In o k rs) g (act.Join from) m = refl
  mild_moves (In o k rs) g act.End m = refl
  mild_moves (In o k rs) g act.Stop m = refl
  mild_moves (In o k rs) g act.Bad m = refl
  mild_moves (In o k rs) g (act.Fail p t) m = refl

  mild_counts : (i : ℕ) (a : FlatAct) → Mild a → Counts i a i
  mild_counts i (act.Set to o args) m = refl
  mild_counts i (act.Put to v) m = refl
  mild_counts i (act.Take to) m = refl
  mild_counts i (act.Read c to) m = refl
  mild_counts i (act.Write c from) m = refl
  mild_counts i act.Open m = refl
  mild_counts i act.Close m = refl
  mild_counts i act.Fence m = refl
  mild_counts i (act.Create k x y) m = absurd m
  mild_counts i (act.Join from) m = refl
  mild_counts i act.End m = refl
  mild_counts i act.Stop m = refl
  mild_counts i act.Bad m = refl
  mild_counts i (act.Fail p t) m = refl

  -- one more step is laid
  pub laid_step :
      (s r : Site) (e : Emitted) (g : ℕ) (a : FlatAct) (j : ℕ) → Laid s e → Guard s g e → ActFits e.next cells a → Writes a (Spare s e.next) → Moves s (mark_of a) g r → Counts e.instances a j →
      Lays cells e.numbers 5 first (Out []) (e.steps ++ record { guard = g; act = a } ∷ []) e.next j r
  laid_step s r e g a j h guard fits spare moves counts =
      lays_then cells e.numbers 5 first (Out []) e.steps e.next e.instances s (record { guard = g; act = a } ∷ []) e.next j r h.steps (
        e.next,
        j,
        r,
        omega arith,
        s,
        shift_none e.next s,
        record {
          fits = (guard.used, fits);
          high = writes_map a (Spare s e.next) (λ to. 4 ≤ to) (λ l x. x.high) spare;
          guard = guard.at;
          apart = writes_map a (Spare s e.next) (NotOpen s) (λ l x. x.apart) spare;
          moves = moves;
          counts = counts;
        },
        (omega arith, refl, shift_none e.next r),
      )

  pub does_emit : (s : Site) (e : Emitted) (g : ℕ) (a : FlatAct) → Laid s e → Guard s g e → Mild a → ActFits e.next cells a → Writes a (Spare s e.next) → Does s e (emit g a) Any
  does_emit s e g a h guard mild fits spare = record {
    since = record {
      next = omega arith;
      numbers = [];
      numbers_behind = sym (append-nil e.numbers);
      numbers_above = tt;
      vars = [];
      scope = sym (append-nil e.scope);
      cells_new = λ l none. absurd none;
      depth = refl;
      laid = record {
        base = h.base;
        neat = h.neat;
        above = h.above;
        steps = laid_step s s e g a e.instances h guard fits spare (mild_moves s g a mild) (mild_counts e.instances a mild);
        scope = h.scope;
        site = h.site;
      };
    };
    gives = tt;
  }

  -- ---- the next simplest

  abbrev pub AllLow : ℕ → List ℕ → Type 0
  AllLow n args = All (λ a. a < n) args

  pub does_set : (s : Site) (e : Emitted) (g : ℕ) (o : Op) (args : List ℕ) → Laid s e → Guard s g e → length args ≡ arity o → AllLow e.next args → Does s e (set g o args) (Fresh e)
  does_set s e g o args h guard many low =
      bind s e fresh _ (does_fresh s e h) (λ to f since new.
      bind s f (emit g (act.Set to o args)) (λ _. pure to)
      (does_emit s f g (act.Set to o args) since.laid (guard_later s s e f g since guard) tt (new.used, many, λ k d b. let x : get_or args k d < e.next = low k d b in omega (arith, since.next)) (fresh_spare s e f to h new))
      (λ _ f2 since2 _. does_pure (Fresh e) s f2 to since2.laid (fresh_later s e f f2 to since2 new)))

  pub one_low : (n a : ℕ) → a < n → AllLow n (a ∷ [])
  one_low n a h zero d b = h
  one_low n a h (suc k) d b = absurd (omega arith)

  pub two_low : (n a b : ℕ) → a < n → b < n → AllLow n (a ∷ b ∷ [])
  two_low n a b h i zero d lt = h
  two_low n a b h i (suc zero) d lt = i
  two_low n a b h i (suc (suc k)) d lt = absurd (omega arith)

  pub does_copy : (s : Site) (e : Emitted) (g to from : ℕ) → Laid s e → Guard s g e → Spare s e.next to → Low from e → Does s e (copy_to g to from) Any
  does_copy s e g to from h guard spare low = does_emit s e g (act.Set to op.UnaryPlus (from ∷ [])) h guard tt (spare.used, refl, one_low e.next from low) spare

  pub does_mark : (s : Site) (e : Emitted) (g to : ℕ) → Laid s e → Guard s g e → Spare s e.next to → Does s e (mark g to) Any
  does_mark s e g to h guard spare = does_emit s e g (act.Put to 1) h guard tt spare.used spare

  pub does_when : (s : Site) (e : Emitted) (g c : ℕ) → Laid s e → Guard s g e → Low c e → Does s e (when g c) (Fresh e)
  does_when s e g c h guard low = does_set s e g op.NotEqual (c ∷ none ∷ []) h guard refl (two_low e.next c none low (omega (arith, h.base)))

  pub does_unless : (s : Site) (e : Emitted) (g c : ℕ) → Laid s e → Guard s g e → Low c e → Does s e (unless g c) (Fresh e)
  does_unless s e g c h guard low = does_set s e g op.Equal (c ∷ none ∷ []) h guard refl (two_low e.next c none low (omega (arith, h.base)))

  pub does_join : (s : Site) (e : Emitted) (a b : ℕ) → Laid s e → Guard s a e → Guard s b e → Does s e (join_guards a b) (Fresh e)
  does_join s e a b h ga gb =
      bind s e fresh _ (does_fresh s e h) (λ j f since new.
      bind s f (mark a j) _ (does_mark s f a j since.laid (guard_later s s e f a since ga) (fresh_spare s e f j h new)) (λ _ f2 since2 _.
      bind s f2 (mark b j) _ (does_mark s f2 b j since2.laid (guard_later s s f f2 b since2 (guard_later s s e f b since gb)) (spare_later s s f f2 j since2 (fresh_spare s e f j h new))) (λ _ f3 since3 _.
      does_pure (Fresh e) s f3 j since3.laid (fresh_later s e f2 f3 j since3 (fresh_later s e f f2 j since2 new)))))

  pub does_fail : (s : Site) (e : Emitted) (g : ℕ) (p : Place) → Laid s e → Guard s g e → Does s e (fail g p) Any
  does_fail s e g p h guard = does_emit s e g (act.Fail p 0) h guard tt tt tt

  stop_act : (s : Site) (e : Emitted) (g : ℕ) (b : Bool) → Laid s e → Guard s g e → Does s e (emit g (cond b act.Stop act.Bad)) Any
  stop_act s e g true h guard = does_emit s e g act.Stop h guard tt tt tt
  stop_act s e g false h guard = does_emit s e g act.Bad h guard tt tt tt

  pub does_stop : (s : Site) (e : Emitted) (g : ℕ) → Laid s e → Guard s g e → Does s e (stop g) Any
  does_stop s e g h guard = let d : Does s e (emit g (cond (nat_eq e.depth 0) act.Stop act.Bad)) Any = stop_act s e g (nat_eq e.depth 0) h guard in record { since = d.since; gives = tt }

  pub does_ask : (s : Site) (e : Emitted) (g : ℕ) → Laid s e → Guard s g e → Does s e (ask g) Any
  does_ask s e g h guard =
      bind s e fresh _ (does_fresh s e h) (λ t f since new.
      let g1 : Guard s g f = guard_later s s e f g since guard in
      bind s f (emit g (act.Take t)) _ (does_emit s f g (act.Take t) since.laid g1 tt new.used (fresh_spare s e f t h new)) (λ _ f2 since2 _.
      let g2 : Guard s g f2 = guard_later s s f f2 g since2 g1 in
      let t2 : Fresh e t f2 = fresh_later s e f f2 t since2 new in
      bind s f2 (unless g t) _ (does_unless s f2 g t since2.laid g2 t2.used) (λ z f3 since3 z3.
      let g3 : Guard s g f3 = guard_later s s f2 f3 g since3 g2 in
      let t3 : Fresh e t f3 = fresh_later s e f2 f3 t since3 t2 in
      bind s f3 (emit z act.Stop) _ (does_emit s f3 z act.Stop since3.laid (fresh_guard s f2 f3 z since2.laid z3) tt tt tt) (λ _ f4 since4 _.
      let g4 : Guard s g f4 = guard_later s s f3 f4 g since4 g3 in
      let t4 : Fresh e t f4 = fresh_later s e f3 f4 t since4 t3 in
      bind s f4 (set g op.NotEqual (t ∷ one ∷ [])) _ (does_set s f4 g op.NotEqual (t ∷ one ∷ []) since4.laid g4 refl (two_low f4.next t one t4.used (omega (arith, since4.laid.base)))) (λ b f5 since5 b5.
      does_emit s f5 b act.Bad since5.laid (fresh_guard s f4 f5 b since4.laid b5) tt tt tt)))))
