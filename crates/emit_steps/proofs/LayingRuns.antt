-- A run of steps that are laid: where no section is open, or one whose open was or was not made.
use Rattle.std.proofs.Common.{◌≡◌, ℕ, ◌+◌, ◌<◌, ◌≤◌, ◌⊎◌, inl, inr, List, [], ◌∷◌, ◌++◌, map, Bool, true, false, refl, sym, ap, ◌∙◌, subst, arith}
use Rattle.std.proofs.lemmas.Bool.{both_ways}
use Rattle.std.specs.Prelude.{cond}
use Rattle.dg_base.specs.Values.{value_of, is_true}
use Rattle.axiom_model.specs.declared.Action.{Action}
use Rattle.flat_prog.specs.declared.Instance.{Instance}
use Rattle.flat_prog.specs.declared.FlatStep.{FlatStep}
use Rattle.flat_prog.specs.declared.FlatAct.{FlatAct}
use Rattle.flat_prog.specs.declared.FlatAct.TheVariants.{Set, Put, Take, Read, Write, Open, Close, Fence, Create, Join, End, Stop, Bad, Fail}
use Rattle.flat_prog.specs.Sections.{Mark, Opens, Closes, Acts, Silent}
use Rattle.flat_prog.specs.Shape.{ActFits, mark_of, marks_of}
use Rattle.flat_prog.specs.Runs.{FlatState, Progress, Goes, Over, Short, with_local, take_into, act, step, go_on, steps, made_behind, made_from}
use Rattle.emit_steps.specs.declared.state.Number.{Number}
use Rattle.emit_steps.specs.Emitting.{none}
use Rattle.emit_steps.proofs.Growth.{Each, each_map, Plain}
use Rattle.emit_steps.proofs.Running.{local_other}
use Rattle.emit_steps.proofs.Laying.{Stretch, Site, Out, In, stretches, Has, InGuard, InAll, NotAny, NotOpen, GuardAt, Writes, Moves, Shift, Allowed, Lays, each_has}
use Rattle.emit_steps.proofs.Keeping.{At, Outside, Within, Keeps, NoneMade, Never}

-- ---- what an act changes

taken_same : (to : ℕ) (made : ℕ → List Action) (script : List ℕ) (s u : FlatState) (l : ℕ) → (l ≡ to → ⊥) → take_into to made script s ≡ Goes u → u.values l ≡ s.values l
taken_same to made [] s u l other e = absurd (cc)
taken_same to made (v ∷ vs) s u l other e =
    let same : record { values = with_local s.values to v; script = vs; used = s.used + 1; actions = s.actions ++ made v } ≡ u = cc in
    ap (λ (x : FlatState). x.values l) (sym same) ∙ local_other s.values to v l other

same_values : (s t u : FlatState) (l : ℕ) → t.values l ≡ s.values l → Goes t ≡ Goes u → u.values l ≡ s.values l
same_values s t u l h e = let same : t ≡ u = cc in ap (λ (x : FlatState). x.values l) (sym same) ∙ h

-- a local that an act does not write keeps its value
act_keeps : (is : List Instance) (a : FlatAct) (s u : FlatState) (l : ℕ) → Writes a (λ to. l ≡ to → ⊥) → act is a s ≡ Goes u → u.values l ≡ s.values l
act_keeps is (Set to o args) s u l w e = same_values s _ u l (local_other s.values to (value_of o (map s.values args)) l w) e
act_keeps is (Put to v) s u l w e = same_values s _ u l (local_other s.values to v l w) e
act_keeps is (Take to) s u l w e = taken_same to (λ v. []) s.script s u l w e
act_keeps is (Read c to) s u l w e = taken_same to _ s.script s u l w e
act_keeps is (Write c from) s u l w e = same_values s _ u l refl e
act_keeps is Open s u l w e = same_values s _ u l refl e
act_keeps is Close s u l w e = same_values s _ u l refl e
act_keeps is Fence s u l w e = same_values s _ u l refl e
act_keeps is (Create i x y) s u l w e = same_values s _ u l refl e
act_keeps is (Join from) s u l w e = same_values s _ u l refl e
act_keeps is End s u l w e = absurd (cc)
act_keeps is Stop s u l w e = absurd (cc)
act_keeps is Bad s u l w e = absurd (cc)
act_keeps is (Fail p t) s u l w e = absurd (cc)

pub writes_map : (a : FlatAct) (P Q : ℕ → Type 0) → ((l : ℕ) → P l → Q l) → Writes a P → Writes a Q
writes_map (Set to o args) P Q f h = f to h
writes_map (Put to v) P Q f h = f to h
writes_map (Take to) P Q f h = f to h
writes_map (Read c to) P Q f h = f to h
writes_map (Write c from) P Q f h = tt
writes_map Open P Q f h = tt
writes_map Close P Q f h = tt
writes_map Fence P Q f h = tt
writes_map (Create i x y) P Q f h = tt
writes_map (Join from) P Q f h = tt
writes_map End P Q f h = tt
writes_map Stop P Q f h = tt
writes_map Bad P Q f h = tt
writes_map (Fail p t) P Q f h = tt

pub writes_low : (n cells : ℕ) (a : FlatAct) → ActFits n cells a → Writes a (λ to. to < n)
writes_low n cells (Set to o args) h = h.0
writes_low n cells (Put to v) h = h
writes_low n cells (Take to) h = h
writes_low n cells (Read c to) h = h.1
writes_low n cells (Write c from) h = tt
writes_low n cells Open h = tt
writes_low n cells Close h = tt
writes_low n cells Fence h = tt
writes_low n cells (Create i x y) h = tt
writes_low n cells (Join from) h = tt
writes_low n cells End h = tt
writes_low n cells Stop h = tt
writes_low n cells Bad h = tt
writes_low n cells (Fail p t) h = tt

-- what opens writes nothing
opens_nothing : (a : FlatAct) → mark_of a ≡ Opens → (P : ℕ → Type 0) → Writes a P
opens_nothing Open e P = tt
opens_nothing (Set to o args) e P = absurd (cc)
opens_nothing (Put to v) e P = absurd (cc)
opens_nothing (Take to) e P = absurd (cc)
opens_nothing (Read c to) e P = absurd (cc)
opens_nothing (Write c from) e P = tt
opens_nothing Close e P = tt
opens_nothing Fence e P = tt
opens_nothing (Create i x y) e P = tt
opens_nothing (Join from) e P = tt
opens_nothing End e P = tt
opens_nothing Stop e P = tt
opens_nothing Bad e P = tt
opens_nothing (Fail p t) e P = tt

-- ---- where a run stands

-- where the guard of a stretch is 0, all locals that were not used before it are 0
abbrev pub Off : List Number → ℕ → ℕ → (ℕ → ℕ) → Type 0
Off ns g k values = is_true (values g) ≡ false → (l : ℕ) → k ≤ l → Plain ns l → values l ≡ 0

abbrev pub AllOff : List Number → List Stretch → (ℕ → ℕ) → Type 0
AllOff ns rs values = Each (λ (p : Stretch). Off ns p.0 p.1 values) rs

abbrev pub AtSite : Site → At → (ℕ → ℕ) → Type 0
AtSite (Out rs) Outside values = Unit {0}
AtSite (Out rs) (Within w) values = ⊥
AtSite (In g k rs) Outside values = ⊥
AtSite (In g k rs) (Within w) values = Has rs g k × (is_true (values g) ≡ w)

-- so many locals are used: the others are 0, and so is the local that holds 0
pub record Stands (ns : List Number) (n : ℕ) (s : Site) (at : At) (values : ℕ → ℕ) : Type 0 where
  pub idle : (l : ℕ) → n ≤ l → Plain ns l → values l ≡ 0
  pub nil : values none ≡ 0
  pub off : AllOff ns (stretches s) values
  pub site : AtSite s at values

off_new : (ns : List Number) (n : ℕ) (rs : List Stretch) (values : ℕ → ℕ) (g k : ℕ) → ((l : ℕ) → n ≤ l → Plain ns l → values l ≡ 0) → AllOff ns rs values → Has rs g k ⊎ (n ≤ k) → Off ns g k values
off_new ns n rs values g k idle off (inl there) = each_has rs (λ g k. Off ns g k values) off g k there
off_new ns n rs values g k idle off (inr new) = λ zero l low plain. idle l (omega arith) plain

stands_shift : (ns : List Number) (n l : ℕ) (s q : Site) (at : At) (values : ℕ → ℕ) → n ≤ l → Shift n s q → Stands ns n s at values → Stands ns l q at values
stands_shift ns n l (Out rs) (Out qs) at values le x h = record {
  idle = λ k low plain. h.idle k (omega arith) plain;
  nil = h.nil;
  off = each_map (λ (p : Stretch). Has rs p.0 p.1 ⊎ (n ≤ p.1)) (λ (p : Stretch). Off ns p.0 p.1 values) (λ p y. off_new ns n rs values p.0 p.1 h.idle h.off y) qs x;
  site = out_same rs qs at values h.site;
}
  where
    out_same : (rs qs : List Stretch) (at : At) (values : ℕ → ℕ) → AtSite (Out rs) at values → AtSite (Out qs) at values
    out_same rs qs Outside values h = tt
    out_same rs qs (Within w) values h = h
stands_shift ns n l (Out rs) (In g k qs) at values le x h = absurd x
stands_shift ns n l (In g k rs) q at values le x h =
    subst (λ (y : Site). Stands ns l y at values) x (record { idle = λ k low plain. h.idle k (omega arith) plain; nil = h.nil; off = h.off; site = h.site })

-- a step that is not made changes nothing; one that is made writes what it writes
abbrev Made : Bool → FlatAct → (ℕ → ℕ) → (ℕ → ℕ) → Type 0
Made b a f g = ((l : ℕ) → Writes a (λ to. l ≡ to → ⊥) → g l ≡ f l) × (b ≡ false → (l : ℕ) → g l ≡ f l)

zero_false : (values : ℕ → ℕ) (l : ℕ) → values l ≡ 0 → is_true (values l) ≡ false
zero_false values l z = ap is_true z

-- a guard in a stretch whose guard is 0 is 0
guard_off : (ns : List Number) (g k h : ℕ) (values : ℕ → ℕ) → is_true (values g) ≡ false → values none ≡ 0 → Off ns g k values → InGuard ns g k h → is_true (values h) ≡ false
guard_off ns g k h values dead nil off (inl same) = ap (λ l. is_true (values l)) same ∙ dead
guard_off ns g k h values dead nil off (inr (inl same)) = ap (λ l. is_true (values l)) same ∙ zero_false values none nil
guard_off ns g k h values dead nil off (inr (inr fresh)) = zero_false values h (off dead h fresh.0 fresh.1)

off_still : (ns : List Number) (g k h : ℕ) (b : Bool) (a : FlatAct) (f u : ℕ → ℕ) → is_true (f h) ≡ b → f none ≡ 0 → Made b a f u → InGuard ns g k h → Writes a (λ to. to ≡ g → ⊥) → Off ns g k f → Off ns g k u
off_still ns g k h b a f u is nil made guard apart off = λ zero l low plain.
    let same : u g ≡ f g = made.0 g (writes_map a (λ to. to ≡ g → ⊥) (λ to. g ≡ to → ⊥) (λ to other e. other (sym e)) apart) in
    let before : is_true (f g) ≡ false = ap is_true (sym same) ∙ zero in
    made.1 (sym is ∙ guard_off ns g k h f before nil off guard) l ∙ off before l low plain

all_off_still :
    (ns : List Number) (rs : List Stretch) (h : ℕ) (b : Bool) (a : FlatAct) (f u : ℕ → ℕ) → is_true (f h) ≡ b → f none ≡ 0 → Made b a f u → InAll ns rs h → Writes a (NotAny rs) → AllOff ns rs f → AllOff ns rs u
all_off_still ns [] h b a f u is nil made guard apart off = tt
all_off_still ns (p ∷ rs) h b a f u is nil made guard apart off = (
  off_still ns p.0 p.1 h b a f u is nil made guard.0 (writes_map a (NotAny (p ∷ rs)) (λ to. to ≡ p.0 → ⊥) (λ to n. n.0) apart) off.0,
  all_off_still ns rs h b a f u is nil made guard.1 (writes_map a (NotAny (p ∷ rs)) (NotAny rs) (λ to n. n.1) apart) off.1,
)

made_within : (ns : List Number) (g k h : ℕ) (values : ℕ → ℕ) (b w : Bool) → is_true (values h) ≡ b → is_true (values g) ≡ w → values none ≡ 0 → Off ns g k values → InGuard ns g k h → b ≡ true → w ≡ true
made_within ns g k h values b true is at nil off guard made = refl
made_within ns g k h values b false is at nil off guard made = absurd (both_ways b (sym is ∙ guard_off ns g k h values at nil off guard) made)

record Follows (Z : List Bool → Type 0) (at : At) (r : Site) (m : Mark) (b : Bool) (u : ℕ → ℕ) : Type 0 where
  next : At
  site : AtSite r next u
  keeps : (ms : List Mark) (bs : List Bool) → Keeps Z next ms bs → Keeps Z at (m ∷ ms) (b ∷ bs)

-- a step in a section that is neither its close nor an open
follows_within :
    (Z : List Bool → Type 0) (ns : List Number) (g k : ℕ) (rs : List Stretch) (w : Bool) (m : Mark) (h : ℕ) (a : FlatAct) (r : Site) (b : Bool) (f u : ℕ → ℕ) →
    ((ms : List Mark) (bs : List Bool) → (b ≡ true → w ≡ true) → Keeps Z (Within w) ms bs → Keeps Z (Within w) (m ∷ ms) (b ∷ bs)) →
    InAll ns rs h → Writes a (NotAny rs) → r ≡ In g k rs → is_true (f h) ≡ b → f none ≡ 0 → AllOff ns rs f → Made b a f u → AtSite (In g k rs) (Within w) f → Follows Z (Within w) r m b u
follows_within Z ns g k rs w m h a r b f u keep guard apart is made nil off made_it at =
    let here : InGuard ns g k h = each_has rs (λ g k. InGuard ns g k h) guard g k at.0 in
    let some : b ≡ true → w ≡ true = made_within ns g k h f b w made at.1 nil (each_has rs (λ g k. Off ns g k f) off g k at.0) here in
    let kept : u g ≡ f g = made_it.0 g (writes_map a (NotAny rs) (λ to. g ≡ to → ⊥) (λ to n e. each_has rs (λ g k. to ≡ g → ⊥) n g k at.0 (sym e)) apart) in
    record {
      next = Within w;
      site = subst (λ (x : Site). AtSite x (Within w) u) (sym is) (at.0, ap is_true kept ∙ at.1);
      keeps = λ ms bs rest. keep ms bs some rest;
    }

follows :
    (Z : List Bool → Type 0) (ns : List Number) (s : Site) (at : At) (m : Mark) (h : ℕ) (a : FlatAct) (r : Site) (b : Bool) (f u : ℕ → ℕ) →
    Moves s m h r → is_true (f h) ≡ b → f none ≡ 0 → AllOff ns (stretches s) f → GuardAt ns s h → Writes a (NotOpen s) → mark_of a ≡ m → Made b a f u → AtSite s at f → Follows Z at r m b u
follows Z ns (Out rs) Outside Opens h a r b f u moves made nil off guard apart is made_it at = record {
  next = Within b;
  site = subst (λ (x : Site). AtSite x (Within b) u) (sym moves.2) (moves.1, ap is_true (made_it.0 h (opens_nothing a is (λ to. h ≡ to → ⊥))) ∙ made);
  keeps = λ ms bs rest. rest;
}
follows Z ns (Out rs) Outside Closes h a r b f u moves made nil off guard apart is made_it at = absurd moves
follows Z ns (Out rs) Outside Acts h a r b f u moves made nil off guard apart is made_it at = record { next = Outside; site = subst (λ (x : Site). AtSite x Outside u) (sym moves) tt; keeps = λ ms bs rest. rest }
follows Z ns (Out rs) Outside Silent h a r b f u moves made nil off guard apart is made_it at = record { next = Outside; site = subst (λ (x : Site). AtSite x Outside u) (sym moves) tt; keeps = λ ms bs rest. rest }
follows Z ns (Out rs) (Within w) m h a r b f u moves made nil off guard apart is made_it at = absurd at
follows Z ns (In g k rs) Outside m h a r b f u moves made nil off guard apart is made_it at = absurd at
follows Z ns (In g k rs) (Within w) Opens h a r b f u moves made nil off guard apart is made_it at = absurd moves
follows Z ns (In g k rs) (Within w) Closes h a r b f u moves made nil off guard apart is made_it at =
    let same : b ≡ w = sym made ∙ (ap (λ x. is_true (f x)) moves.0 ∙ at.1) in
    record {
      next = Outside;
      site = subst (λ (x : Site). AtSite x Outside u) (sym moves.1) tt;
      keeps = λ ms bs rest. (λ t. sym same ∙ t, λ t. inl (same ∙ t), rest);
    }
follows Z ns (In g k rs) (Within w) Acts h a r b f u moves made nil off guard apart is made_it at = follows_within Z ns g k rs w Acts h a r b f u (λ ms bs some rest. (some, rest)) guard apart moves made nil off made_it at
follows Z ns (In g k rs) (Within w) Silent h a r b f u moves made nil off guard apart is made_it at = follows_within Z ns g k rs w Silent h a r b f u (λ ms bs some rest. rest) guard apart moves made nil off made_it at

-- the stretches behind a step
off_moves : (ns : List Number) (s : Site) (m : Mark) (h : ℕ) (r : Site) (u : ℕ → ℕ) → Moves s m h r → AllOff ns (stretches s) u → AllOff ns (stretches r) u
off_moves ns (Out rs) Opens h r u x off = subst (λ (y : Site). AllOff ns (stretches y) u) (sym x.2) off
off_moves ns (Out rs) Closes h r u x off = absurd x
off_moves ns (Out rs) Acts h r u x off = subst (λ (y : Site). AllOff ns (stretches y) u) (sym x) off
off_moves ns (Out rs) Silent h r u x off = subst (λ (y : Site). AllOff ns (stretches y) u) (sym x) off
off_moves ns (In g k rs) Opens h r u x off = absurd x
off_moves ns (In g k rs) Closes h r u x off = subst (λ (y : Site). AllOff ns (stretches y) u) (sym x.1) off
off_moves ns (In g k rs) Acts h r u x off = subst (λ (y : Site). AllOff ns (stretches y) u) (sym x) off
off_moves ns (In g k rs) Silent h r u x off = subst (λ (y : Site). AllOff ns (stretches y) u) (sym x) off

-- ---- the whole run

abbrev Halted : Progress → Type 0
Halted (Goes u) = ⊥
Halted (Over x u) = Unit {0}
Halted (Short u) = Unit {0}

-- what is known of a run of the rest: it is known behind each step, and what it says of a run that goes no further
record Known (is : List Instance) (Z : List Bool → Type 0) (Q : List FlatStep → FlatState → Type 0) : Type 0 where
  goes : (t : FlatStep) (ts : List FlatStep) (s u : FlatState) → step is t s ≡ Goes u → Q (t ∷ ts) s → Q ts u
  halts : (t : FlatStep) (ts : List FlatStep) (s : FlatState) (p : Progress) → step is t s ≡ p → Halted p → Q (t ∷ ts) s → (bs : List Bool) → NoneMade bs → Z bs

abbrev Alike : Site → At → Type 0
Alike (Out rs) Outside = Unit {0}
Alike (Out rs) (Within w) = ⊥
Alike (In g k rs) Outside = ⊥
Alike (In g k rs) (Within w) = Unit {0}

alike_at : (s : Site) (at : At) (values : ℕ → ℕ) → AtSite s at values → Alike s at
alike_at (Out rs) Outside values h = tt
alike_at (Out rs) (Within w) values h = h
alike_at (In g k rs) Outside values h = h
alike_at (In g k rs) (Within w) values h = tt

alike_out : (rs qs : List Stretch) (at : At) → Alike (Out rs) at → Alike (Out qs) at
alike_out rs qs Outside h = tt
alike_out rs qs (Within w) h = h

alike_shift : (n : ℕ) (s q : Site) (at : At) → Shift n s q → Alike s at → Alike q at
alike_shift n (Out rs) (Out qs) at x h = alike_out rs qs at h
alike_shift n (Out rs) (In g k qs) at x h = absurd x
alike_shift n (In g k rs) q at x h = subst (λ (y : Site). Alike y at) x h

none_made : {X : Type 0} (xs : List X) → NoneMade (map (λ x. false) xs)
none_made [] = tt
none_made (x ∷ xs) = (refl, none_made xs)

record Unmade (Z : List Bool → Type 0) (at : At) (r : Site) (m : Mark) : Type 0 where
  next : At
  alike : Alike r next
  keeps : (ms : List Mark) (bs : List Bool) → Z bs → Keeps Z next ms bs → Keeps Z at (m ∷ ms) (false ∷ bs)

unmade : (Z : List Bool → Type 0) (s : Site) (at : At) (m : Mark) (h : ℕ) (r : Site) → Alike s at → Moves s m h r → Unmade Z at r m
unmade Z (Out rs) Outside Opens h r at x = record { next = Within false; alike = subst (λ (y : Site). Alike y (Within false)) (sym x.2) tt; keeps = λ ms bs z rest. rest }
unmade Z (Out rs) Outside Closes h r at x = absurd x
unmade Z (Out rs) Outside Acts h r at x = record { next = Outside; alike = subst (λ (y : Site). Alike y Outside) (sym x) tt; keeps = λ ms bs z rest. rest }
unmade Z (Out rs) Outside Silent h r at x = record { next = Outside; alike = subst (λ (y : Site). Alike y Outside) (sym x) tt; keeps = λ ms bs z rest. rest }
unmade Z (Out rs) (Within w) m h r at x = absurd at
unmade Z (In g k rs) Outside m h r at x = absurd at
unmade Z (In g k rs) (Within w) Opens h r at x = absurd x
unmade Z (In g k rs) (Within w) Closes h r at x = record { next = Outside; alike = subst (λ (y : Site). Alike y Outside) (sym x.1) tt; keeps = λ ms bs z rest. (λ t. absurd (cc), λ t. inr z, rest) }
unmade Z (In g k rs) (Within w) Acts h r at x = record { next = Within w; alike = subst (λ (y : Site). Alike y (Within w)) (sym x) tt; keeps = λ ms bs z rest. (λ t. absurd (cc), rest) }
unmade Z (In g k rs) (Within w) Silent h r at x = record { next = Within w; alike = subst (λ (y : Site). Alike y (Within w)) (sym x) tt; keeps = λ ms bs z rest. rest }

-- where nothing more is made
none_keep :
    (Z : List Bool → Type 0) (cells : ℕ) (ns : List Number) (n i : ℕ) (s : Site) (at : At) (ts : List FlatStep) (m j : ℕ) (r : Site) →
    ((bs : List Bool) → NoneMade bs → Z bs) → Alike s at → Lays cells ns n i s ts m j r → Keeps Z at (marks_of ts) (map (λ t. false) ts)
none_keep Z cells ns n i s at [] m j r all alike h = tt
none_keep Z cells ns n i s at (t ∷ ts) m j r all alike h =
    let a : Allowed cells ns h.0 i h.4 t h.1 h.2 = h.6 in
    let x : Unmade Z at h.2 (mark_of t.act) = unmade Z h.4 at (mark_of t.act) t.guard h.2 (alike_shift n s h.4 at h.5 alike) a.moves in
    x.keeps (marks_of ts) (map (λ t. false) ts) (all (map (λ t. false) ts) (none_made ts)) (none_keep Z cells ns h.0 h.1 h.2 x.next ts m j r all x.alike h.7)

step_made : (is : List Instance) (t : FlatStep) (s u : FlatState) (b : Bool) → is_true (s.values t.guard) ≡ b → step is t s ≡ Goes u → Made b t.act s.values u.values
step_made is t s u true is_made e = (λ l w. act_keeps is t.act s u l w (sym (ap (λ b. cond b (act is t.act s) (Goes s)) is_made) ∙ e), λ off. absurd (cc))
step_made is t s u false is_made e =
    let whole : Goes s ≡ Goes u = sym (ap (λ b. cond b (act is t.act s) (Goes s)) is_made) ∙ e in
    let same : s ≡ u = cc in
    (λ l w. ap (λ (x : FlatState). x.values l) (sym same), λ off l. ap (λ (x : FlatState). x.values l) (sym same))

module _ (is : List Instance) (Z : List Bool → Type 0) (Q : List FlatStep → FlatState → Type 0) (known : Known is Z Q) (cells : ℕ) (ns : List Number) where
  by_step :
      (l i j : ℕ) (s r : Site) (at : At) (t : FlatStep) (ts : List FlatStep) (v : FlatState) → Allowed cells ns l i s t j r → Stands ns l s at v.values → Q (t ∷ ts) v →
      ((q : At) (u : FlatState) → Stands ns l r q u.values → Q ts u → Keeps Z q (marks_of ts) (made_from is ts u)) →
      (((bs : List Bool) → NoneMade bs → Z bs) → (q : At) → Alike r q → Keeps Z q (marks_of ts) (map (λ t. false) ts)) →
      (b : Bool) → is_true (v.values t.guard) ≡ b → (p : Progress) → step is t v ≡ p → Keeps Z at (mark_of t.act ∷ marks_of ts) (b ∷ made_behind p (made_from is ts) ts)
  by_step l i j s r at t ts v a st q more halted b made (Goes u) e =
      let it : Made b t.act v.values u.values = step_made is t v u b made e in
      let low : Writes t.act (λ to. to < l) = writes_low l cells t.act a.fits.1 in
      let idle : (k : ℕ) → l ≤ k → Plain ns k → u.values k ≡ 0 = λ k le plain. it.0 k (writes_map t.act (λ to. to < l) (λ to. k ≡ to → ⊥) (λ to lt same. absurd (omega (arith, lt, same, le))) low) ∙ st.idle k le plain in
      let nil : u.values none ≡ 0 = it.0 none (writes_map t.act (λ to. 4 ≤ to) (λ to. none ≡ to → ⊥) (λ to high same. absurd (omega (arith, high, same))) a.high) ∙ st.nil in
      let off : AllOff ns (stretches r) u.values = off_moves ns s (mark_of t.act) t.guard r u.values a.moves (all_off_still ns (stretches s) t.guard b t.act v.values u.values made st.nil it a.guard a.apart st.off) in
      let x : Follows Z at r (mark_of t.act) b u.values = follows Z ns s at (mark_of t.act) t.guard t.act r b v.values u.values a.moves made st.nil st.off a.guard a.apart refl it st.site in
      x.keeps (marks_of ts) (made_from is ts u) (more x.next u (record { idle = idle; nil = nil; off = off; site = x.site }) (known.goes t ts v u e q))
  by_step l i j s r at t ts v a st q more halted b made (Over w u) e =
      let x : Follows Z at r (mark_of t.act) b v.values = follows Z ns s at (mark_of t.act) t.guard t.act r b v.values v.values a.moves made st.nil st.off a.guard a.apart refl (λ k w. refl, λ off k. refl) st.site in
      x.keeps (marks_of ts) (map (λ t. false) ts) (halted (known.halts t ts v (Over w u) e tt q) x.next (alike_at r x.next v.values x.site))
  by_step l i j s r at t ts v a st q more halted b made (Short u) e =
      let x : Follows Z at r (mark_of t.act) b v.values = follows Z ns s at (mark_of t.act) t.guard t.act r b v.values v.values a.moves made st.nil st.off a.guard a.apart refl (λ k w. refl, λ off k. refl) st.site in
      x.keeps (marks_of ts) (map (λ t. false) ts) (halted (known.halts t ts v (Short u) e tt q) x.next (alike_at r x.next v.values x.site))

  runs_keep : (n i : ℕ) (s : Site) (at : At) (ts : List FlatStep) (m j : ℕ) (r : Site) → Lays cells ns n i s ts m j r → (v : FlatState) → Stands ns n s at v.values → Q ts v → Keeps Z at (marks_of ts) (made_from is ts v)
  runs_keep n i s at [] m j r h v st q = tt
  runs_keep n i s at (t ∷ ts) m j r h v st q =
      by_step h.0 i h.1 h.4 h.2 at t ts v h.6 (stands_shift ns n h.0 s h.4 at v.values h.3 h.5 st) q (λ p u. runs_keep h.0 h.1 h.2 p ts m j r h.7 u)
      (λ all p alike. none_keep Z cells ns h.0 h.1 h.2 p ts m j r all alike h.7) (is_true (v.values t.guard)) refl (step is t v) refl

-- ---- the two uses

known_nothing : (is : List Instance) → Known is NoneMade (λ ts s. Unit {0})
known_nothing is = record { goes = λ t ts s u e q. tt; halts = λ t ts s p e h q bs none. none }

-- the run comes to its end
abbrev Comes : List Instance → List FlatStep → FlatState → Type 0
Comes is ts s = (u : FlatState) × (steps is ts s ≡ Goes u)

comes_next : (is : List Instance) (t : FlatStep) (ts : List FlatStep) (s u : FlatState) → step is t s ≡ Goes u → Comes is (t ∷ ts) s → Comes is ts u
comes_next is t ts s u e c = (c.0, sym (ap (λ p. go_on p (steps is ts)) e) ∙ c.1)

comes_not : (is : List Instance) (t : FlatStep) (ts : List FlatStep) (s : FlatState) (p : Progress) → step is t s ≡ p → Halted p → Comes is (t ∷ ts) s → ⊥
comes_not is t ts s (Goes u) e h c = h
comes_not is t ts s (Over x u) e h c = let no : Over x u ≡ Goes c.0 = sym (ap (λ p. go_on p (steps is ts)) e) ∙ c.1 in cc
comes_not is t ts s (Short u) e h c = let no : Short u ≡ Goes c.0 = sym (ap (λ p. go_on p (steps is ts)) e) ∙ c.1 in cc

known_end : (is : List Instance) → Known is Never (Comes is)
known_end is = record { goes = comes_next is; halts = λ t ts s p e h c bs none. comes_not is t ts s p e h c }

pub laid_keeps : (is : List Instance) (cells : ℕ) (ns : List Number) (n i : ℕ) (rs : List Stretch) (ts : List FlatStep) (m j : ℕ) (r : Site) → Lays cells ns n i (Out rs) ts m j r → (v : FlatState) → Stands ns n (Out rs) Outside v.values → Keeps NoneMade Outside (marks_of ts) (made_from is ts v)
laid_keeps is cells ns n i rs ts m j r h v st = runs_keep is NoneMade (λ ts s. Unit {0}) (known_nothing is) cells ns n i (Out rs) Outside ts m j r h v st tt

pub laid_ends :
    (is : List Instance) (cells : ℕ) (ns : List Number) (n i : ℕ) (rs : List Stretch) (ts : List FlatStep) (m j : ℕ) (r : Site) → Lays cells ns n i (Out rs) ts m j r → (v u : FlatState) → Stands ns n (Out rs) Outside v.values → steps is ts v ≡ Goes u →
    Keeps Never Outside (marks_of ts) (made_from is ts v)
laid_ends is cells ns n i rs ts m j r h v u st e = runs_keep is Never (Comes is) (known_end is) cells ns n i (Out rs) Outside ts m j r h v st (u, e)
