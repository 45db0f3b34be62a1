-- The source of each read, and the least event that is not as it must be.
use Rattle.std.proofs.Common.{◌≡◌, ℕ, zero, suc, List, [], ◌∷◌, map, true, false, Option, Some, None, refl, sym, ap, ◌∙◌, subst, ⊎_elim, inl, inr, Decides}
use Rattle.std.specs.Prelude.{slice_get, nat_eq, ◌⊎◌}
use Rattle.std.specs.List.{list_any}
use Rattle.std.proofs.lemmas.Bool.{cases_Bool, cond-true, cond-false, eqb-true, eq-eqb}
use Rattle.std.proofs.lemmas.Bool.Decides.{Decides-eqb, Decides-and, not_from_Decides}
use Rattle.std.proofs.lemmas.Option.{none-some, same_Some}
use Rattle.dg_base.proofs.Lists.{get_map, get_from_map}
use Rattle.axiom_model.specs.declared.Action.{Action}
use Rattle.axiom_model.specs.declared.Action.TheVariants.{Read, Write, Open, Close, Fence, Create, Join, Start, End}
use Rattle.axiom_model.specs.declared.Event.{Event}
use Rattle.axiom_model.specs.declared.Event.TheVariants.{Initial, At}
use Rattle.axiom_model.specs.declared.RfPair.{RfPair}
use Rattle.axiom_model.specs.Execution.{Execution}
use Rattle.axiom_model.specs.WellMade.{Shape, Writes, ReadsOnce}
use Rattle.c_check.specs.declared.checked.CellInfo.{CellInfo}
use Rattle.exec_check.specs.declared.event_actions.EventAction.{EventAction}
use Rattle.exec_check.specs.First.{Below, FirstEvent}
use Rattle.exec_check.specs.Conditions.{AtAction, HasItsSource, IsRead, IsSourced}
use Rattle.exec_check.specs.ThreadTests.{first_not, passing}
use Rattle.consistency.specs.Edges.{same_event}
use Rattle.exec_check.specs.EventActions.{event_of, ListsActions}
use Rattle.exec_check.specs.ActionTests.{is_write_of, begins_as, is_source, reads_at, gives, source_there, has_source, is_read, is_read_at, lesser, least_unread}
use Rattle.exec_check.proofs.Listed.{any_decides, first_not-none, first_not-some, count_one, one_count}
use Rattle.exec_check.proofs.Events.{AtMost, same_decides, below_most, most_trans, not_below_self, lesser-is, lesser-first, lesser-second}
use Rattle.exec_check.proofs.ActionList.{each_action, first_action, any_action}

-- ---- sources

write_decides : (c v : ℕ) (a : Action) → Decides (is_write_of c v a) (a ≡ Write c v)
write_decides c v (Write d u) =
    let d' = Decides-and (nat_eq d c) (nat_eq u v) (Decides-eqb d c) (Decides-eqb u v) in
    (λ e. let r = d'.0 e in cc (r.0, r.1), λ e. let p : d ≡ c = cc in let q : u ≡ v = cc in d'.1 (p, q))
write_decides c v (Read d u) = (λ e. cc, λ e. cc)
write_decides c v Open = (λ e. cc, λ e. cc)
write_decides c v Close = (λ e. cc, λ e. cc)
write_decides c v Fence = (λ e. cc, λ e. cc)
write_decides c v (Create h f u) = (λ e. cc, λ e. cc)
write_decides c v (Join h) = (λ e. cc, λ e. cc)
write_decides c v Start = (λ e. cc, λ e. cc)
write_decides c v End = (λ e. cc, λ e. cc)

begins_true : (o : Option CellInfo) (v : ℕ) → begins_as o v ≡ true → (i : CellInfo) × (o ≡ Some i) × (i.initial ≡ v)
begins_true None v e = cc
begins_true (Some i) v e = (i, refl, eqb-true i.initial v e)

begins_decides : (cells : List CellInfo) (c v : ℕ) → Decides (begins_as (slice_get cells c) v) (slice_get (map (λ (i : CellInfo). i.initial) cells) c ≡ Some v)
begins_decides cells c v =
    (λ e. let r = begins_true (slice_get cells c) v e in get_map (λ (i : CellInfo). i.initial) cells c r.0 r.1 ∙ ap Some r.2, λ e. let r = get_from_map (λ (i : CellInfo). i.initial) cells c v e in ap (λ o. begins_as o v) r.1 ∙ eq-eqb r.0.initial v r.2)

-- what the lists of cells and event_actions stand for
pub record Stands (s : Shape) (x : Execution) (cells : List CellInfo) (ws : List EventAction) : Type 0 where
  pub initials : s.initials ≡ map (λ (i : CellInfo). i.initial) cells
  pub lists : ListsActions x ws

source_decides : (s : Shape) (x : Execution) (cells : List CellInfo) (ws : List EventAction) → Stands s x cells ws → (c v : ℕ) (e : Event) → Decides (is_source cells ws c v e) (Writes s x e c v)
source_decides s x cells ws st c v Initial =
    subst (λ l. Decides (begins_as (slice_get cells c) v) (slice_get l c ≡ Some v)) (sym st.initials) (begins_decides cells c v)
source_decides s x cells ws st c v (At h i) =
    let d = any_action x ws (is_write_of c v) (λ a. a ≡ Write c v) st.lists (write_decides c v) (At h i) in
    (λ e. let r = d.0 e in r.1 ∙ ap Some r.2, λ e. d.1 (Write c v, e, refl))

gives_decides : (s : Shape) (x : Execution) (cells : List CellInfo) (ws : List EventAction) → Stands s x cells ws → (e : Event) (c v : ℕ) (p : RfPair) → Decides (gives cells ws e c v p) ((p.reader ≡ e) × Writes s x p.source c v)
gives_decides s x cells ws st e c v p =
    Decides-and (same_event p.reader e) (is_source cells ws c v p.source) (same_decides p.reader e) (source_decides s x cells ws st c v p.source)

reads_decides : (s : Shape) (x : Execution) (cells : List CellInfo) (ws : List EventAction) → Stands s x cells ws → (e : Event) (c v : ℕ) → Decides (source_there cells ws x.rf e (Read c v)) (ReadsOnce s x e c v)
reads_decides s x cells ws st e c v = (there, back)
  where
    given : Decides (list_any (gives cells ws e c v) x.rf) ((k : ℕ) × (p : RfPair) × (slice_get x.rf k ≡ Some p) × ((p.reader ≡ e) × Writes s x p.source c v))
    given = any_decides (gives cells ws e c v) (λ p. (p.reader ≡ e) × Writes s x p.source c v) (gives_decides s x cells ws st e c v) x.rf

    both : Decides (source_there cells ws x.rf e (Read c v)) ((passing (reads_at e) x.rf ≡ 1) × ((k : ℕ) × (p : RfPair) × (slice_get x.rf k ≡ Some p) × ((p.reader ≡ e) × Writes s x p.source c v)))
    both = Decides-and (nat_eq (passing (reads_at e) x.rf) 1) (list_any (gives cells ws e c v) x.rf) (Decides-eqb (passing (reads_at e) x.rf) 1) given

    there : source_there cells ws x.rf e (Read c v) ≡ true → ReadsOnce s x e c v
    there t =
        let r = both.0 t in
        let g = r.1 in
        record {
          place = g.0;
          source = g.1.source;
          pair = g.2 ∙ ap (λ q. Some (record { reader = q; source = g.1.source })) g.3.0;
          only = λ k p h is. count_one (reads_at e) x.rf r.0 k g.0 p g.1 h ((same_decides p.reader e).1 is) g.2 ((same_decides g.1.reader e).1 g.3.0);
          writes = g.3.1;
        }

    back : ReadsOnce s x e c v → source_there cells ws x.rf e (Read c v) ≡ true
    back r =
        let p : RfPair = record { reader = e; source = r.source } in
        both.1 (one_count (reads_at e) x.rf r.place p r.pair ((same_decides e e).1 refl) (λ k q h t. r.only k q h ((same_decides q.reader e).0 t)), (r.place, p, r.pair, (refl, r.writes)))

nothing_asked : Decides true (Unit {0})
nothing_asked = (λ e. tt, λ u. refl)

pub sourced_decides : (s : Shape) (x : Execution) (cells : List CellInfo) (ws : List EventAction) → Stands s x cells ws → (e : Event) (a : Action) → Decides (source_there cells ws x.rf e a) (HasItsSource s x e a)
sourced_decides s x cells ws st e (Read c v) = reads_decides s x cells ws st e c v
sourced_decides s x cells ws st e (Write c v) = nothing_asked
sourced_decides s x cells ws st e Open = nothing_asked
sourced_decides s x cells ws st e Close = nothing_asked
sourced_decides s x cells ws st e Fence = nothing_asked
sourced_decides s x cells ws st e (Create h f v) = nothing_asked
sourced_decides s x cells ws st e (Join h) = nothing_asked
sourced_decides s x cells ws st e Start = nothing_asked
sourced_decides s x cells ws st e End = nothing_asked

-- ---- readers

read_decides : (a : Action) → Decides (is_read a) ((c : ℕ) × (v : ℕ) × (a ≡ Read c v))
read_decides (Read c v) = (λ t. (c, v, refl), λ e. refl)
read_decides (Write c v) = (λ t. cc, λ e. let h = e.2 in cc)
read_decides Open = (λ t. cc, λ e. let h = e.2 in cc)
read_decides Close = (λ t. cc, λ e. let h = e.2 in cc)
read_decides Fence = (λ t. cc, λ e. let h = e.2 in cc)
read_decides (Create h f v) = (λ t. cc, λ e. let g = e.2 in cc)
read_decides (Join h) = (λ t. cc, λ e. let g = e.2 in cc)
read_decides Start = (λ t. cc, λ e. let h = e.2 in cc)
read_decides End = (λ t. cc, λ e. let h = e.2 in cc)

pub reader_decides : (x : Execution) (ws : List EventAction) → ListsActions x ws → (e : Event) → Decides (list_any (is_read_at e) ws) (IsRead x e)
reader_decides x ws h e =
    let d = any_action x ws is_read (λ a. (c : ℕ) × (v : ℕ) × (a ≡ Read c v)) h read_decides e in
    (λ t. let r = d.0 t in (r.2.0, r.2.1, r.1 ∙ ap Some r.2.2), λ g. d.1 (Read g.0 g.1, g.2, (g.0, g.1, refl)))

-- ---- the least

-- the readers of all pairs are reads
abbrev AllRead : List EventAction → List RfPair → Type 0
AllRead ws ps = (k : ℕ) (p : RfPair) → slice_get ps k ≡ Some p → list_any (is_read_at p.reader) ws ≡ true

all_read : (ws : List EventAction) (q : RfPair) (ps : List RfPair) → list_any (is_read_at q.reader) ws ≡ true → AllRead ws ps → AllRead ws (q ∷ ps)
all_read ws q ps t h zero p g = subst (λ (z : RfPair). list_any (is_read_at z.reader) ws ≡ true) (same_Some q p g) t
all_read ws q ps t h (suc k) p g = h k p g

unread_none : (ws : List EventAction) (o : Option Event) (ps : List RfPair) → least_unread ws o ps ≡ None → (o ≡ None) × AllRead ws ps
unread_none ws o [] e = (e, λ k p g. absurd (none-some p g))
unread_none ws o (q ∷ ps) e =
    ⊎_elim (λ t. let r = unread_none ws o ps (sym (ap (λ z. least_unread ws z ps) (cond-true (list_any (is_read_at q.reader) ws) o (Some (lesser o q.reader)) t)) ∙ e) in (r.0, all_read ws q ps t r.1))
    (λ t. let r = unread_none ws (Some (lesser o q.reader)) ps (sym (ap (λ z. least_unread ws z ps) (cond-false (list_any (is_read_at q.reader) ws) o (Some (lesser o q.reader)) t)) ∙ e) in absurd (none-some (lesser o q.reader) (sym r.0)))
    (cases_Bool (list_any (is_read_at q.reader) ws))

-- the event is the first one or a reader that is no read, and the least of these
record IsLeast (ws : List EventAction) (o : Option Event) (ps : List RfPair) (e : Event) : Type 0 where
  cause : (o ≡ Some e) ⊎ ((k : ℕ) × (p : RfPair) × (slice_get ps k ≡ Some p) × (p.reader ≡ e) × (list_any (is_read_at p.reader) ws ≡ false))
  first : (f : Event) → o ≡ Some f → AtMost e f
  others : (k : ℕ) (p : RfPair) → slice_get ps k ≡ Some p → list_any (is_read_at p.reader) ws ≡ false → AtMost e p.reader

unread_on : (ws : List EventAction) (o : Option Event) (q : RfPair) (ps : List RfPair) (e : Event) → list_any (is_read_at q.reader) ws ≡ false → IsLeast ws (Some (lesser o q.reader)) ps e → IsLeast ws o (q ∷ ps) e
unread_on ws o q ps e t r = record {
  cause = ⊎_elim (λ g. let same : lesser o q.reader ≡ e = same_Some (lesser o q.reader) e g in ⊎_elim (λ h. inl (h ∙ ap Some same)) (λ h. inr (0, q, refl, h ∙ same, t)) (lesser-is o q.reader)) (λ g. inr (suc g.0, g.1, g.2, g.3, g.4)) r.cause;
  first = λ f g. most_trans e (lesser o q.reader) f (r.first (lesser o q.reader) refl) (lesser-first o q.reader f g);
  others = others;
}
  where
    others : (k : ℕ) (p : RfPair) → slice_get (q ∷ ps) k ≡ Some p → list_any (is_read_at p.reader) ws ≡ false → AtMost e p.reader
    others zero p g u =
        subst (λ (z : RfPair). AtMost e z.reader) (same_Some q p g) (most_trans e (lesser o q.reader) q.reader (r.first (lesser o q.reader) refl) (lesser-second o q.reader))
    others (suc k) p g u = r.others k p g u

read_on : (ws : List EventAction) (o : Option Event) (q : RfPair) (ps : List RfPair) (e : Event) → list_any (is_read_at q.reader) ws ≡ true → IsLeast ws o ps e → IsLeast ws o (q ∷ ps) e
read_on ws o q ps e t r = record { cause = ⊎_elim (λ g. inl g) (λ g. inr (suc g.0, g.1, g.2, g.3, g.4)) r.cause; first = r.first; others = others }
  where
    others : (k : ℕ) (p : RfPair) → slice_get (q ∷ ps) k ≡ Some p → list_any (is_read_at p.reader) ws ≡ false → AtMost e p.reader
    others zero p g u =
        let v : list_any (is_read_at p.reader) ws ≡ true = subst (λ (z : RfPair). list_any (is_read_at z.reader) ws ≡ true) (same_Some q p g) t in
        let w : true ≡ false = sym v ∙ u in
        cc
    others (suc k) p g u = r.others k p g u

unread_some : (ws : List EventAction) (o : Option Event) (ps : List RfPair) (e : Event) → least_unread ws o ps ≡ Some e → IsLeast ws o ps e
unread_some ws o [] e g = record { cause = inl g; first = λ f h. inl (same_Some e f (sym g ∙ h)); others = λ k p h. absurd (none-some p h) }
unread_some ws o (q ∷ ps) e g =
    ⊎_elim (λ t. read_on ws o q ps e t (unread_some ws o ps e (sym (ap (λ z. least_unread ws z ps) (cond-true (list_any (is_read_at q.reader) ws) o (Some (lesser o q.reader)) t)) ∙ g)))
    (λ t. unread_on ws o q ps e t (unread_some ws (Some (lesser o q.reader)) ps e (sym (ap (λ z. least_unread ws z ps) (cond-false (list_any (is_read_at q.reader) ws) o (Some (lesser o q.reader)) t)) ∙ g)))
    (cases_Bool (list_any (is_read_at q.reader) ws))

-- ---- all events

pub sources_none : (s : Shape) (x : Execution) (cells : List CellInfo) (ws : List EventAction) → s.initials ≡ map (λ (i : CellInfo). i.initial) cells → ListsActions x ws → least_unread ws (first_not (has_source cells ws x.rf) event_of ws) x.rf ≡ None → (e : Event) → IsSourced s x e
sources_none s x cells ws i h n e =
    let r = unread_none ws (first_not (has_source cells ws x.rf) event_of ws) x.rf n in
    record {
      source = each_action x ws (has_source cells ws x.rf) (HasItsSource s x) h (λ w. sourced_decides s x cells ws (record { initials = i; lists = h }) w.event w.action) (first_not-none (has_source cells ws x.rf) event_of ws r.0) e;
      reader = λ k p g is. subst (IsRead x) is ((reader_decides x ws h p.reader).0 (r.1 k p g));
    }

pub sources_some : (s : Shape) (x : Execution) (cells : List CellInfo) (ws : List EventAction) (e : Event) → s.initials ≡ map (λ (i : CellInfo). i.initial) cells → ListsActions x ws → least_unread ws (first_not (has_source cells ws x.rf) event_of ws) x.rf ≡ Some e → FirstEvent (IsSourced s x) e
sources_some s x cells ws e i h n = record { broken = broken; before = before }
  where
    least : IsLeast ws (first_not (has_source cells ws x.rf) event_of ws) x.rf e
    least = unread_some ws (first_not (has_source cells ws x.rf) event_of ws) x.rf e n

    unsourced : (f : Event) → first_not (has_source cells ws x.rf) event_of ws ≡ Some f → FirstEvent (AtAction x (HasItsSource s x)) f
    unsourced f g =
        let r = first_not-some (has_source cells ws x.rf) event_of ws f g in
        subst (FirstEvent (AtAction x (HasItsSource s x))) r.3 (first_action x ws (has_source cells ws x.rf) (HasItsSource s x) h (λ w. sourced_decides s x cells ws (record { initials = i; lists = h }) w.event w.action) r.0 r.1 r.2)

    broken : IsSourced s x e → ⊥
    broken is =
        ⊎_elim (λ g. (unsourced e g).broken is.source) (λ g. not_from_Decides (list_any (is_read_at g.1.reader) ws) (reader_decides x ws h g.1.reader) g.4 (subst (IsRead x) (sym g.3) (is.reader g.0 g.1 g.2 g.3))) least.cause

    reads : (f : Event) → Below f e → (k : ℕ) (p : RfPair) → slice_get x.rf k ≡ Some p → p.reader ≡ f → IsRead x f
    reads f b k p g is =
        ⊎_elim (λ t. subst (IsRead x) is ((reader_decides x ws h p.reader).0 t)) (λ t. absurd (not_below_self f (below_most f e f b (subst (AtMost e) is (least.others k p g t))))) (cases_Bool (list_any (is_read_at p.reader) ws))

    sourced : (o : Option Event) → first_not (has_source cells ws x.rf) event_of ws ≡ o → (f : Event) → Below f e → AtAction x (HasItsSource s x) f
    sourced None g f b =
        each_action x ws (has_source cells ws x.rf) (HasItsSource s x) h (λ w. sourced_decides s x cells ws (record { initials = i; lists = h }) w.event w.action) (first_not-none (has_source cells ws x.rf) event_of ws g) f
    sourced (Some d) g f b = (unsourced d g).before f (below_most f e d b (least.first d g))

    before : (f : Event) → Below f e → IsSourced s x f
    before f b = record { source = sourced (first_not (has_source cells ws x.rf) event_of ws) refl f b; reader = reads f b }
