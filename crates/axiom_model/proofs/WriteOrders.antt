-- How a cell's writes are ordered: the initial one first, a thread's own as in the thread, and none of a joined thread behind a later read's source.
use Rattle.std.proofs.Common.{◌≡◌, ℕ, suc, ◌<◌, ◌⊎◌, List, [], ◌∷◌, true, Some, refl, sym, ap, ◌∙◌, subst, ⊎_elim, inl, inr, arith}
use Rattle.std.specs.Prelude.{slice_get}
use Rattle.std.proofs.lemmas.Bool.{cases_order}
use Rattle.std.proofs.lemmas.Option.{same_Some}
use Rattle.axiom_model.specs.declared.MemoryModel.{MemoryModel}
use Rattle.axiom_model.specs.declared.MemoryModel.TheVariants.{Sc}
use Rattle.axiom_model.specs.declared.Action.{Action}
use Rattle.axiom_model.specs.declared.Action.TheVariants.{Write, Join, End}
use Rattle.axiom_model.specs.declared.Event.{Event}
use Rattle.axiom_model.specs.declared.Event.TheVariants.{Initial, At}
use Rattle.axiom_model.specs.Execution.{Execution, action_at, LocalPo, Co, Fr}
use Rattle.axiom_model.specs.WellMade.{IsWriteOrder}
use Rattle.axiom_model.specs.Models.{keeps, Kept, in_thread, joins, LocalEdge, GlobalEdge, Consistent}

-- sequential consistency keeps every pair
keeps-Sc : (p q : Action) → keeps Sc p q ≡ true
keeps-Sc p q = refl

-- so it keeps program order
pub po_kept : (x : Execution) (h i j : ℕ) (p q : Action) → i < j → action_at x (At h i) ≡ Some p → action_at x (At h j) ≡ Some q → Kept Sc x (At h i) (At h j)
po_kept x h i j p q l a b = in_thread (record { before = (refl, l); first = p; second = q; is_first = a; is_second = b; holds = keeps-Sc p q })

-- a read behind the Join of a thread has no source that is older than a write of that thread
pub joined_not_later : (x : Execution) → Consistent Sc x → (h i n k j m : ℕ) (p q : Action) → i < n → j < m → action_at x (At h i) ≡ Some p → action_at x (At h n) ≡ Some End → action_at x (At k j) ≡ Some (Join h) → action_at x (At k m) ≡ Some q → Fr x (At k m) (At h i) → ⊥
joined_not_later x s h i n k j m p q l g a b c d f =
    s.global (At h i ∷ At h n ∷ At k j ∷ At k m ∷ [])
    (GlobalEdge.kept (po_kept x h i n p End l a b), (GlobalEdge.kept (joins {h = h} b refl c), (GlobalEdge.kept (po_kept x k j m (Join h) q g c d), GlobalEdge.fr f)))

-- two writes of one thread to a cell are ordered as in the thread
pub co_follows_po : (m : MemoryModel) (x : Execution) → Consistent m x → (c h i j v w : ℕ) → i < j → action_at x (At h i) ≡ Some (Write c v) → action_at x (At h j) ≡ Some (Write c w) → Co x c (At h j) (At h i) → ⊥
co_follows_po m x s c h i j v w l a b o =
    s.local (At h i ∷ At h j ∷ []) (LocalEdge.po po, LocalEdge.co c o)
  where
    po : LocalPo x (At h i) (At h j)
    po = record { before = (refl, l); first = Write c v; second = Write c w; is_first = a; is_second = b; holds = (c, refl, refl) }

-- every write of the cell stands in its order, behind the initial one
in_order : (x : Execution) (c : ℕ) (l : List Event) → IsWriteOrder x c l → (e : Event) (v : ℕ) → action_at x e ≡ Some (Write c v) → (k : ℕ) × (slice_get l (suc k) ≡ Some e)
in_order x c l o e v a =
    let k = o.complete e v a in
    (k.0, ap (λ z. slice_get z (suc k.0)) o.initial_first ∙ k.1)

-- the initial write comes before every other
pub initial_before : (x : Execution) (c : ℕ) (l : List Event) → slice_get x.co c ≡ Some l → IsWriteOrder x c l → (e : Event) (v : ℕ) → action_at x e ≡ Some (Write c v) → Co x c Initial e
initial_before x c l s o e v a =
    let k = in_order x c l o e v a in
    (l, s, (0, suc k.0, omega arith, ap (λ z. slice_get z 0) o.initial_first, k.1))

-- of two writes of the cell one comes before the other
pub co_cases : (x : Execution) (c : ℕ) (l : List Event) → slice_get x.co c ≡ Some l → IsWriteOrder x c l → (e d : Event) (v w : ℕ) → action_at x e ≡ Some (Write c v) → action_at x d ≡ Some (Write c w) → (e ≡ d) ⊎ (Co x c e d ⊎ Co x c d e)
co_cases x c l s o e d v w a b =
    let j = in_order x c l o e v a in
    let k = in_order x c l o d w b in
    ⊎_elim (λ g. inl (same_Some e d (subst (λ n. Some e ≡ slice_get l (suc n)) g (sym j.1) ∙ k.1)))
    (λ g. inr (⊎_elim (λ h. inl (l, s, (suc j.0, suc k.0, omega arith, j.1, k.1))) (λ h. inr (l, s, (suc k.0, suc j.0, omega arith, k.1, j.1))) g))
    (cases_order j.0 k.0)
