-- The loops that number the nodes and look events up among them.
use Rattle.std.proofs.Common.{◌≡◌, ℕ, suc, ◌+◌, ◌<◌, ◌≤◌, List, [], ◌∷◌, ◌++◌, false, cond, length, drop, get_or, Option, Some, None, refl, sym, ap, ◌∙◌, ⊎_elim, append_assoc, length-append, arith}
use Rattle.std.specs.Prelude.{unwrap_or}
use Rattle.std.proofs.lemmas.Bool.{cases_Bool, cond-false}
use Rattle.std.proofs.lemmas.List.{at_drop_more}
use Rattle.axiom_model.specs.declared.Action.{Action}
use Rattle.axiom_model.specs.declared.Event.{Event}
use Rattle.axiom_model.specs.Execution.{cell_of}
use Rattle.consistency.specs.declared.ThreadActions.{ThreadActions}
use Rattle.consistency.specs.declared.numbering.Node.{Node}
use Rattle.consistency.specs.Numbering.{is_open, open_at, open_behind, thread_nodes, nodes_of, is_event, place_from}
use Rattle.consistency.specs.Edges.{cell_in}

-- a section opens at the action or before it
pub open_at-le : (s : Option ℕ) (i : ℕ) (a : Action) → ((o : ℕ) → s ≡ Some o → o ≤ i) → (o : ℕ) → open_at s i a ≡ Some o → o ≤ i
open_at-le (Some p) i a h o e = h o e
open_at-le None i a h o e =
    ⊎_elim (λ t. let f : Some i ≡ Some o = sym (ap (λ b. cond b (Some i) None) t) ∙ e in let g : i ≡ o = cc in omega arith) (λ t. let f : None ≡ Some o = sym (ap (λ b. cond b (Some i) None) t) ∙ e in cc) (cases_Bool (is_open a))

pub unwrapped-le : (s : Option ℕ) (i : ℕ) → ((o : ℕ) → s ≡ Some o → o ≤ i) → unwrap_or s i ≤ i
unwrapped-le (Some o) i h = h o refl
unwrapped-le None i h = omega arith

pub length-thread_nodes : (h first : ℕ) (s : Option ℕ) (i : ℕ) (acts : List Action) → length (thread_nodes h first s i acts) ≡ length acts
length-thread_nodes h first s i [] = refl
length-thread_nodes h first s i (a ∷ acts) = ap suc (length-thread_nodes h first (open_behind s i a) (i + 1) acts)

-- one more thread is numbered
pub nodes_step : (whole : List Node) (ts : List ThreadActions) (i : ℕ) (t : ThreadActions) (ns new : List Node) → i < length ts → t ≡ get_or ts i t → new ≡ ns ++ thread_nodes t.handle (length ns) None 0 t.actions → whole ≡ ns ++ nodes_of (length ns) (drop i ts) → whole ≡ new ++ nodes_of (length new) (drop (i + 1) ts)
nodes_step whole ts i t ns new h is n w =
    let rest = drop (i + 1) ts in
    let here = thread_nodes t.handle (length ns) None 0 t.actions in
    let g : nodes_of (length ns) (drop i ts) ≡ here ++ nodes_of (length ns + length t.actions) rest = at_drop_more (nodes_of (length ns)) ts i t h ∙ ap (λ z. nodes_of (length ns) (z ∷ rest)) (sym is) in
    let len : length new ≡ length ns + length t.actions = ap length n ∙ length-append ns here ∙ ap (λ k. length ns + k) (length-thread_nodes t.handle (length ns) None 0 t.actions) in
    w ∙ ap (λ l. ns ++ l) g ∙ sym (append_assoc ns here (nodes_of (length ns + length t.actions) rest)) ∙ ap (λ l. l ++ nodes_of (length ns + length t.actions) rest) (sym n) ∙ ap (λ k. new ++ nodes_of k rest) (sym len)

-- the node is not at the event, so the event is looked for behind it
pub cell_in_step : (vs : List Node) (e : Event) (i : ℕ) (d : Node) → i < length vs → is_event (get_or vs i d) e ≡ false → cell_in (drop i vs) e ≡ cell_in (drop (i + 1) vs) e
cell_in_step vs e i d h f = at_drop_more (λ l. cell_in l e) vs i d h ∙ cond-false (is_event (get_or vs i d) e) (cell_of (get_or vs i d).action) (cell_in (drop (i + 1) vs) e) f

pub place_step : (n : ℕ) (vs : List Node) (e : Event) (i : ℕ) (d : Node) → i < length vs → is_event (get_or vs i d) e ≡ false → place_from n (drop i vs) e ≡ place_from (n + 1) (drop (i + 1) vs) e
place_step n vs e i d h f = at_drop_more (λ l. place_from n l e) vs i d h ∙ cond-false (is_event (get_or vs i d) e) (Some n) (place_from (n + 1) (drop (i + 1) vs) e) f
