-- Which steps are made in a run of steps that are laid: those of a section only with its open, later ones only with its close.
use Rattle.std.proofs.Common.{◌≡◌, ℕ, zero, suc, ◌+◌, ◌-◌, ◌<◌, ◌≤◌, ◌⊎◌, inl, inr, List, [], ◌∷◌, Bool, true, false, Option, Some, None, refl, sym, ap, ◌∙◌, subst, arith}
use Rattle.std.specs.Prelude.{slice_get}
use Rattle.flat_prog.specs.Sections.{Mark, Opens, Closes, Acts, Silent, IsSection, IsActing, KeepsSections}
use Rattle.emit_steps.proofs.Growth.{Each}

-- no section is open; or one is, and whether its open was made
pub data At : Type 0 where
  Outside : At
  Within : Bool → At

-- behind a close that is not made, though its open was, these are the others
abbrev pub Keeps : (List Bool → Type 0) → At → List Mark → List Bool → Type 0
Keeps Z at [] bs = Unit {0}
Keeps Z at (m ∷ ms) [] = ⊥
Keeps Z Outside (Opens ∷ ms) (b ∷ bs) = Keeps Z (Within b) ms bs
Keeps Z Outside (Closes ∷ ms) (b ∷ bs) = ⊥
Keeps Z Outside (Acts ∷ ms) (b ∷ bs) = Keeps Z Outside ms bs
Keeps Z Outside (Silent ∷ ms) (b ∷ bs) = Keeps Z Outside ms bs
Keeps Z (Within w) (Opens ∷ ms) (b ∷ bs) = ⊥
Keeps Z (Within w) (Closes ∷ ms) (b ∷ bs) = (b ≡ true → w ≡ true) × (w ≡ true → (b ≡ true) ⊎ Z bs) × Keeps Z Outside ms bs
Keeps Z (Within w) (Acts ∷ ms) (b ∷ bs) = (b ≡ true → w ≡ true) × Keeps Z (Within w) ms bs
Keeps Z (Within w) (Silent ∷ ms) (b ∷ bs) = Keeps Z (Within w) ms bs

abbrev pub NoneMade : List Bool → Type 0
NoneMade bs = Each (λ b. b ≡ false) bs

abbrev pub Never : List Bool → Type 0
Never bs = ⊥

not_there : {X : Type 0} (i : ℕ) (x : X) → slice_get {X = X} [] i ≡ Some x → ⊥
not_there {X = X} i x e = let no : ◌≡◌ {A = Option X} None (Some x) = e in cc

is_made : (b : Bool) → ◌≡◌ {A = Option Bool} (Some b) (Some true) → b ≡ true
is_made true e = refl
is_made false e = absurd (cc)

none_made : (bs : List Bool) (i : ℕ) → NoneMade bs → slice_get bs i ≡ Some true → ⊥
none_made [] i h e = not_there i true e
none_made (b ∷ bs) zero h e = let no : true ≡ false = sym (is_made b e) ∙ h.0 in cc
none_made (b ∷ bs) (suc i) h e = none_made bs i h.1 e

abbrev Unclosed : List Mark → ℕ → Type 0
Unclosed ms c = (k : ℕ) → k < c → ¬ (slice_get ms k ≡ Some Closes)

-- a step of the open section that is made is made with its open
within_inside :
    (Z : List Bool → Type 0) (w : Bool) (ms : List Mark) (bs : List Bool) (c i : ℕ) → Keeps Z (Within w) ms bs → Unclosed ms c → i ≤ c → IsActing ms i → slice_get bs i ≡ Some true → w ≡ true
within_inside Z w [] bs c i h un le acts made = absurd (not_there i acts.0 acts.1)
within_inside Z w (m ∷ ms) [] c i h un le acts made = absurd h
within_inside Z w (Opens ∷ ms) (b ∷ bs) c i h un le acts made = absurd h
within_inside Z w (Closes ∷ ms) (b ∷ bs) c zero h un le acts made = h.0 (is_made b made)
within_inside Z w (Closes ∷ ms) (b ∷ bs) c (suc i) h un le acts made = absurd (un 0 (omega arith) refl)
within_inside Z w (Acts ∷ ms) (b ∷ bs) c zero h un le acts made = h.0 (is_made b made)
within_inside Z w (Acts ∷ ms) (b ∷ bs) zero (suc i) h un le acts made = absurd (omega arith)
within_inside Z w (Acts ∷ ms) (b ∷ bs) (suc c) (suc i) h un le acts made = within_inside Z w ms bs c i h.1 (λ k lt. un (suc k) (omega arith)) (omega arith) acts made
within_inside Z w (Silent ∷ ms) (b ∷ bs) c zero h un le acts made = absurd (acts.2 (let same : ◌≡◌ {A = Option Mark} (Some Silent) (Some acts.0) = acts.1 in cc))
within_inside Z w (Silent ∷ ms) (b ∷ bs) zero (suc i) h un le acts made = absurd (omega arith)
within_inside Z w (Silent ∷ ms) (b ∷ bs) (suc c) (suc i) h un le acts made = within_inside Z w ms bs c i h (λ k lt. un (suc k) (omega arith)) (omega arith) acts made

closed_here : (Z : List Bool → Type 0) (b : Bool) (bs : List Bool) → (Z bs → ⊥) → (b ≡ true) ⊎ Z bs → ◌≡◌ {A = Option Bool} (Some b) (Some true)
closed_here Z b bs never (inl is) = ap Some is
closed_here Z b bs never (inr z) = absurd (never z)

-- its close is made, where what is behind says so
within_closed :
    (Z : List Bool → Type 0) (ms : List Mark) (bs : List Bool) (c : ℕ) → Keeps Z (Within true) ms bs → slice_get ms c ≡ Some Closes → Unclosed ms c →
    ((xs : List Bool) → ((i : ℕ) → slice_get bs (suc (c + i)) ≡ slice_get xs i) → Z xs → ⊥) → slice_get bs c ≡ Some true
within_closed Z [] bs c h closes un never = absurd (not_there c Closes closes)
within_closed Z (m ∷ ms) [] c h closes un never = absurd h
within_closed Z (Opens ∷ ms) (b ∷ bs) c h closes un never = absurd h
within_closed Z (Closes ∷ ms) (b ∷ bs) zero h closes un never = closed_here Z b bs (never bs (λ i. let same : 0 + i ≡ i = omega arith in ap (slice_get bs) same)) (h.1 refl)
within_closed Z (Closes ∷ ms) (b ∷ bs) (suc c) h closes un never = absurd (un 0 (omega arith) refl)
within_closed Z (Acts ∷ ms) (b ∷ bs) zero h closes un never = absurd (let no : ◌≡◌ {A = Option Mark} (Some Acts) (Some Closes) = closes in cc)
within_closed Z (Acts ∷ ms) (b ∷ bs) (suc c) h closes un never =
    within_closed Z ms bs c h.1 closes (λ k lt. un (suc k) (omega arith)) (λ xs same z. never xs (λ i. let next : suc c + i ≡ suc (c + i) = omega arith in ap (slice_get bs) next ∙ same i) z)
within_closed Z (Silent ∷ ms) (b ∷ bs) zero h closes un never = absurd (let no : ◌≡◌ {A = Option Mark} (Some Silent) (Some Closes) = closes in cc)
within_closed Z (Silent ∷ ms) (b ∷ bs) (suc c) h closes un never =
    within_closed Z ms bs c h closes (λ k lt. un (suc k) (omega arith)) (λ xs same z. never xs (λ i. let next : suc c + i ≡ suc (c + i) = omega arith in ap (slice_get bs) next ∙ same i) z)

keeps_tail : (Z : List Bool → Type 0) (at : At) (m : Mark) (ms : List Mark) (b : Bool) (bs : List Bool) → Keeps Z at (m ∷ ms) (b ∷ bs) → (q : At) × Keeps Z q ms bs
keeps_tail Z Outside Opens ms b bs h = (Within b, h)
keeps_tail Z Outside Closes ms b bs h = absurd h
keeps_tail Z Outside Acts ms b bs h = (Outside, h)
keeps_tail Z Outside Silent ms b bs h = (Outside, h)
keeps_tail Z (Within w) Opens ms b bs h = absurd h
keeps_tail Z (Within w) Closes ms b bs h = (Outside, h.2)
keeps_tail Z (Within w) Acts ms b bs h = (Within w, h.1)
keeps_tail Z (Within w) Silent ms b bs h = (Within w, h)

opens_there : (Z : List Bool → Type 0) (at : At) (m : Mark) (ms : List Mark) (b : Bool) (bs : List Bool) → ◌≡◌ {A = Option Mark} (Some m) (Some Opens) → Keeps Z at (m ∷ ms) (b ∷ bs) → Keeps Z (Within b) ms bs
opens_there Z Outside Opens ms b bs e h = h
opens_there Z (Within w) Opens ms b bs e h = absurd h
opens_there Z at Closes ms b bs e h = absurd (cc)
opens_there Z at Acts ms b bs e h = absurd (cc)
opens_there Z at Silent ms b bs e h = absurd (cc)

tail_section : (m : Mark) (ms : List Mark) (o c : ℕ) → IsSection (m ∷ ms) (suc o) (suc c) → IsSection ms o c
tail_section m ms o c s = record { opens = s.opens; closes = s.closes; later = omega (arith, s.later); unclosed = λ k low high. s.unclosed (suc k) (omega arith) (omega arith) }

pub keeps_inside :
    (Z : List Bool → Type 0) (at : At) (ms : List Mark) (bs : List Bool) → Keeps Z at ms bs → (o c i : ℕ) → IsSection ms o c → o < i → i ≤ c → IsActing ms i → slice_get bs i ≡ Some true → slice_get bs o ≡ Some true
keeps_inside Z at [] bs h o c i s lt le acts made = absurd (not_there o Opens s.opens)
keeps_inside Z at (m ∷ ms) [] h o c i s lt le acts made = absurd h
keeps_inside Z at (m ∷ ms) (b ∷ bs) h o c zero s lt le acts made = absurd (omega arith)
keeps_inside Z at (m ∷ ms) (b ∷ bs) h o zero (suc i) s lt le acts made = absurd (omega arith)
keeps_inside Z at (m ∷ ms) (b ∷ bs) h zero (suc c) (suc i) s lt le acts made =
    ap Some (within_inside Z b ms bs c i (opens_there Z at m ms b bs s.opens h) (λ k low. s.unclosed (suc k) (omega arith) (omega arith)) (omega arith) acts made)
keeps_inside Z at (m ∷ ms) (b ∷ bs) h (suc o) (suc c) (suc i) s lt le acts made =
    let rest : (q : At) × Keeps Z q ms bs = keeps_tail Z at m ms b bs h in keeps_inside Z rest.0 ms bs rest.1 o c i (tail_section m ms o c s) (omega arith) (omega arith) acts made

pub keeps_closed :
    (Z : List Bool → Type 0) (at : At) (ms : List Mark) (bs : List Bool) → Keeps Z at ms bs → (o c : ℕ) → IsSection ms o c → slice_get bs o ≡ Some true →
    ((xs : List Bool) → ((i : ℕ) → slice_get bs (suc (c + i)) ≡ slice_get xs i) → Z xs → ⊥) → slice_get bs c ≡ Some true
keeps_closed Z at [] bs h o c s opened never = absurd (not_there o Opens s.opens)
keeps_closed Z at (m ∷ ms) [] h o c s opened never = absurd h
keeps_closed Z at (m ∷ ms) (b ∷ bs) h o zero s opened never = absurd (omega (arith, s.later))
keeps_closed Z at (m ∷ ms) (b ∷ bs) h zero (suc c) s opened never =
    within_closed Z ms bs c (subst (λ w. Keeps Z (Within w) ms bs) (is_made b opened) (opens_there Z at m ms b bs s.opens h)) s.closes (λ k low. s.unclosed (suc k) (omega arith) (omega arith))
    (λ xs same z. never xs (λ i. let next : suc c + i ≡ suc (c + i) = omega arith in ap (slice_get bs) next ∙ same i) z)
keeps_closed Z at (m ∷ ms) (b ∷ bs) h (suc o) (suc c) s opened never =
    let rest : (q : At) × Keeps Z q ms bs = keeps_tail Z at m ms b bs h in
    keeps_closed Z rest.0 ms bs rest.1 o c (tail_section m ms o c s) opened (λ xs same z. never xs (λ i. let next : suc c + i ≡ suc (c + i) = omega arith in ap (slice_get bs) next ∙ same i) z)

later_made : (bs xs : List Bool) (c i : ℕ) → ((k : ℕ) → slice_get bs (suc (c + k)) ≡ slice_get xs k) → c < i → slice_get bs i ≡ Some true → NoneMade xs → ⊥
later_made bs xs c i same lt made none =
    let at : suc (c + (i - suc c)) ≡ i = omega arith in none_made xs (i - suc c) none (sym (same (i - suc c)) ∙ (ap (slice_get bs) at ∙ made))

pub keeps_sections : (ms : List Mark) (bs : List Bool) → Keeps NoneMade Outside ms bs → KeepsSections ms bs
keeps_sections ms bs h = record {
  inside = keeps_inside NoneMade Outside ms bs h;
  behind = λ o c i s lt acts made opened. keeps_closed NoneMade Outside ms bs h o c s opened (λ xs same z. later_made bs xs c i same lt made z);
}
