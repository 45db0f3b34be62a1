-- The handles of instances, as far as a walk from the last event has come.
use Rattle.std.proofs.Common.{◌≡◌, ℕ, ◌+◌, ◌<◌, List, [], ◌∷◌, Bool, true, false, cond, Option, Some, None, length, drop, get_or, refl, ap, sym, ◌∙◌, arith}
use Rattle.std.specs.Prelude.{slice_get}
use Rattle.std.proofs.Math.Seq.{drop-length}
use Rattle.std.proofs.lemmas.List.{drop_more}
use Rattle.std.proofs.lemmas.Option.{slice_get_within}
use Rattle.dg_base.proofs.Lists.{get_there, one_answer}
use Rattle.bit_gates.specs.Words.{number}
use Rattle.memory_models.specs.declared.StaticEvent.{StaticEvent}
use Rattle.memory_models.specs.declared.EventBits.{EventBits}
use Rattle.encode_match.specs.Spelling.{starts, handles_in}
use Rattle.decode.specs.Tables.{listed, handle_by}

listed_by : (s : List Bool) (i : ℕ) (e : StaticEvent) (b : EventBits) (h : Option ℕ) → listed (handle_by s i e b h) ≡ cond (starts s i e) (number s b.bits ∷ []) (listed h)
listed_by s i e b h = by (starts s i e)
  where
    by : (t : Bool) → listed (cond t (Some (number s b.bits)) h) ≡ cond t (number s b.bits ∷ []) (listed h)
    by true = refl
    by false = refl

pub handles_more : (s : List Bool) (es : List StaticEvent) (bs : List EventBits) (p : ℕ) (d : StaticEvent) (f : EventBits) (old new : List (Option ℕ))
    → p < length es → length bs ≡ length es → length new ≡ length old
    → ((i : ℕ) (h : Option ℕ) → slice_get old i ≡ Some h → slice_get new i ≡ Some (handle_by s i (get_or es p d) (get_or bs p f) h))
    → ((i : ℕ) (h : Option ℕ) → slice_get old i ≡ Some h → listed h ≡ handles_in s i (drop (p + 1) es) (drop (p + 1) bs))
    → (i : ℕ) (h : Option ℕ) → slice_get new i ≡ Some h → listed h ≡ handles_in s i (drop p es) (drop p bs)
handles_more s es bs p d f old new low same long step so i h at =
    let e = get_or es p d in
    let b = get_or bs p f in
    let within = slice_get_within new i h at in
    let g = get_there old i (omega (arith, within, long)) in
    let is : h ≡ handle_by s i e b g.0 = one_answer (slice_get new i) h (handle_by s i e b g.0) at (step i g.0 g.1) in
    let low_bits : p < length bs = omega (arith, low, same) in
    ap listed is
    ∙ (listed_by s i e b g.0
    ∙ (ap (λ (l : List ℕ). cond (starts s i e) (number s b.bits ∷ []) l) (so i g.0 g.1)
    ∙ (ap (λ (l : List StaticEvent). handles_in s i l (b ∷ drop (p + 1) bs)) (sym (drop_more es p d low))
    ∙ ap (λ (l : List EventBits). handles_in s i (drop p es) l) (sym (drop_more bs p f low_bits)))))

pub handles_begun : (s : List Bool) (es : List StaticEvent) (bs : List EventBits) (i : ℕ) (h : Option ℕ) → h ≡ None → listed h ≡ handles_in s i (drop (length es) es) (drop (length es) bs)
handles_begun s es bs i h none = ap listed none ∙ ap (λ (l : List StaticEvent). handles_in s i l (drop (length es) bs)) (sym (drop-length es))
