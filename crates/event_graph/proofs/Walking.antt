-- The walk over steps and parts adds events in the order of the list.
use Rattle.std.proofs.Common.{◌≡◌, ℕ, suc, ◌+◌, ◌<◌, List, [], ◌∷◌, ◌++◌, length, map, take, drop, get_or, Option, Some, None, refl, ap, sym, ◌∙◌, append_assoc, arith}
use Rattle.std.specs.Prelude.{slice_get}
use Rattle.std.proofs.lemmas.List.{map-append, length-append, length-map, length-take-le, drop_more, take_more}
use Rattle.std.proofs.lemmas.Option.{get_or_from_slice_get, slice_get_within}
use Rattle.dg_base.specs.declared.Lit.{Lit}
use Rattle.bv_term.specs.declared.term.TermId.{TermId}
use Rattle.bv_term.specs.Values.{IsListed}
use Rattle.flat_prog.specs.Sections.{Silent}
use Rattle.ssa_form.specs.declared.Ssa.{Ssa}
use Rattle.ssa_form.specs.declared.SsaPart.{SsaPart}
use Rattle.ssa_form.specs.declared.SsaStep.{SsaStep}
use Rattle.ssa_form.specs.declared.SsaAct.{SsaAct}
use Rattle.ssa_form.specs.declared.SsaAct.TheVariants as act
use Rattle.ssa_form.specs.Parts.{mark_of}
use Rattle.memory_models.specs.declared.StaticEvent.{StaticEvent}
use Rattle.memory_models.specs.declared.StaticKind.{StaticKind}
use Rattle.event_graph.specs.Graphs.{IsFormOfSome, Acting, kind_of, acting, acting_by, acting_in, acting_in_all, next_behind, handle_in, value_term, bits_in, initial_event, initial_events}
use Rattle.event_graph.specs.Walks.{HaveWords, HasWords, own_bits}
use Rattle.event_graph.proofs.Acting.{acting_source}
use Rattle.event_graph.proofs.Origins.{length_initials}
use Rattle.event_graph.proofs.Values.{all_from, has_terms, initials_listed}
use Rattle.event_graph.proofs.Making.{all_at}

-- ---- lists

-- what is made of the first items is added
pub goes_on : {X Y : Type 0} (g : X → Y) (ys more whole : List Y) (front rest next : List X) → ys ++ map g (front ++ rest) ≡ whole → more ≡ ys ++ map g front → next ≡ rest → more ++ map g next ≡ whole
goes_on g ys more whole front rest next h e f =
    ap (λ zs. zs ++ map g next) e ∙ append_assoc ys (map g front) (map g next) ∙ ap (λ zs. ys ++ (map g front ++ map g zs)) f ∙ ap (λ zs. ys ++ zs) (sym (map-append g front rest)) ∙ h

pub first_item : {X : Type 0} (xs : List X) (k : ℕ) (x : X) → slice_get xs k ≡ Some x → drop k xs ≡ x ∷ drop (k + 1) xs
first_item xs k x e = drop_more xs k x (slice_get_within xs k x e) ∙ ap (λ z. z ∷ drop (k + 1) xs) (get_or_from_slice_get xs k x x e)

map_same : {X Y : Type 0} (g h : X → Y) (xs : List X) → ((k : ℕ) (x : X) → slice_get xs k ≡ Some x → g x ≡ h x) → map g xs ≡ map h xs
map_same g h [] f = refl
map_same g h (x ∷ xs) f = ap (λ y. y ∷ map g xs) (f 0 x refl) ∙ ap (λ ys. h x ∷ ys) (map_same g h xs (λ k y e. f (suc k) y e))

-- ---- initial writes

pub initials_push : (c : ℕ) (ts : List TermId) (t : TermId) (n : ℕ) → n ≡ c + length ts → initial_events c (ts ++ t ∷ []) ≡ initial_events c ts ++ initial_event n ∷ []
initials_push c [] t n e = let same : c ≡ n = omega (arith, e) in ap (λ z. initial_event z ∷ []) same
initials_push c (u ∷ ts) t n e = ap (λ es. initial_event c ∷ es) (initials_push (c + 1) ts t n (omega (arith, e)))

-- ---- steps

pub silent_mark : (a : SsaAct) → kind_of a ≡ None → mark_of a ≡ Silent
silent_mark (act.Take t) e = refl
silent_mark act.Stop e = refl
silent_mark act.Bad e = refl
silent_mark (act.Fail p tag) e = refl
silent_mark _ e = absurd (cc)

pub next_length : {Y : Type 0} (g : Acting → Y) (i n : ℕ) (section : Option ℕ) (s : SsaStep) (o : Option StaticKind) (ys more : List Y)
    → more ≡ ys ++ map g (acting_by i n section s o) → length more ≡ next_behind (length ys) o
next_length g i n section s None ys more e =
    let first = ap (λ zs. length zs) e in let second = length-append ys [] in omega (arith, first, second)
next_length g i n section s (Some k) ys more e =
    let first = ap (λ zs. length zs) e in let second = length-append ys (map g (acting_by i n section s (Some k))) in omega (arith, first, second)

-- ---- values

pub own_are : (words : List (List Lit)) (ps : List SsaPart) (i n : ℕ) (p : SsaPart) → slice_get ps i ≡ Some p
    → map (own_bits words p.handle) (acting_in i n None p.steps) ≡ map (bits_in ps words) (acting_in i n None p.steps)
own_are words ps i n p part =
    map_same (own_bits words p.handle) (bits_in ps words) (acting_in i n None p.steps)
    (λ k a e.
    let o = acting_source i n p.steps k a e in
    let number : a.instance ≡ i = ap (λ (z : Acting). z.instance) o.same in
    let mine : slice_get ps a.instance ≡ Some p = ap (λ z. slice_get ps z) number ∙ part in
    ap (λ q. own_bits words (handle_in q) a) (sym mine))

pub have_words : (x : Ssa) (words : List (List Lit)) → IsFormOfSome x → length words ≡ length x.terms → HaveWords words x.initials
have_words x words h count =
    all_from (λ (t : TermId). t.0 < length words) x.initials (λ k t e. let known = all_at (IsListed x.terms) x.initials k t (initials_listed h.flat x h.form) e in omega (arith, known, count))

pub has_words : (x : Ssa) (words : List (List Lit)) (i : ℕ) (p : SsaPart) → IsFormOfSome x → length words ≡ length x.terms → slice_get x.parts i ≡ Some p → HasWords words p
has_words x words i p h count part =
    all_from (λ (s : SsaStep). (s.guard.0 < length words) × ((value_term p.handle s.act).0 < length words)) p.steps
    (λ j s e. let t = has_terms h.flat x i j p s h.form part e in let a = t.guard in let b = t.value in (omega (arith, a, count), omega (arith, b, count)))

-- ---- the loops

-- one initial write more
pub one_initial : (es more : List StaticEvent) (ts : List TermId) (k : ℕ) → es ≡ initial_events 0 (take k ts) → k < length ts → more ≡ es ++ initial_event k ∷ [] → more ≡ initial_events 0 (take (k + 1) ts)
one_initial es more ts k h less e =
    let d : TermId = record { 0 = 0 } in
    let long = length-take-le k ts (omega (arith, less)) in
    e ∙ ap (λ zs. zs ++ initial_event k ∷ []) h ∙ sym (initials_push 0 (take k ts) (get_or ts k d) k (omega (arith, long))) ∙ ap (λ zs. initial_events 0 zs) (sym (take_more ts k d less))

pub one_value : {Y : Type 0} (g : TermId → Y) (bs more : List Y) (ts : List TermId) (k : ℕ) (d : TermId) (b : Y) → bs ≡ map g (take k ts) → k < length ts → b ≡ g (get_or ts k d) → more ≡ bs ++ b ∷ [] → more ≡ map g (take (k + 1) ts)
one_value g bs more ts k d b h less of e =
    e ∙ ap (λ zs. zs ++ b ∷ []) h ∙ ap (λ z. map g (take k ts) ++ z ∷ []) of ∙ sym (map-append g (take k ts) (get_or ts k d ∷ [])) ∙ ap (λ zs. map g zs) (sym (take_more ts k d less))

-- the initial writes, with the actions ahead
pub begun : {Y : Type 0} (g : Acting → Y) (ys zs : List Y) (es : List StaticEvent) (x : Ssa) → ys ≡ zs → es ≡ initial_events 0 x.initials → ys ++ map g (acting_in_all 0 (length es) x.parts) ≡ zs ++ map g (acting x)
begun g ys zs es x e f =
    let long : length es ≡ length x.initials = ap (λ l. length l) f ∙ length_initials 0 x.initials in
    ap (λ l. l ++ map g (acting_in_all 0 (length es) x.parts)) e ∙ ap (λ m. zs ++ map g (acting_in_all 0 m x.parts)) long

-- one part more
pub part_on : {Y : Type 0} (f : Acting → StaticEvent) (g : Acting → Y) (ps : List SsaPart) (n : ℕ) (p : SsaPart) (es more : List StaticEvent) (ys next whole : List Y)
    → slice_get ps n ≡ Some p → more ≡ es ++ map f (acting_in n (length es) None p.steps) → ys ++ map g (acting_in_all n (length es) (drop n ps)) ≡ whole
    → next ≡ ys ++ map g (acting_in n (length es) None p.steps) → next ++ map g (acting_in_all (n + 1) (length more) (drop (n + 1) ps)) ≡ whole
part_on f g ps n p es more ys next whole part e h added =
    let front = acting_in n (length es) None p.steps in
    let first = length-append es (map f front) in
    let second = length-map front f in
    let whole_length = ap (λ l. length l) e in
    let long : length more ≡ length es + length front = omega (arith, first, second, whole_length) in
    goes_on g ys next whole front (acting_in_all (n + 1) (length es + length front) (drop (n + 1) ps)) (acting_in_all (n + 1) (length more) (drop (n + 1) ps))
    (ap (λ z. ys ++ map g (acting_in_all n (length es) z)) (sym (first_item ps n p part)) ∙ h) added (ap (λ m. acting_in_all (n + 1) m (drop (n + 1) ps)) long)
