-- A variable comes into scope, on both sides.
use Rattle.std.proofs.Common.{◌≡◌, ℕ, ◌+◌, ◌<◌, ◌≤◌, ◌⊎◌, inl, inr, List, [], ◌∷◌, ◌++◌, arith}
use Rattle.run_model.specs.declared.state.Local.{Local}
use Rattle.run_model.specs.Steps.{State}
use Rattle.flat_prog.specs.Runs.{FlatState}
use Rattle.emit_steps.specs.declared.state.Variable.{Variable}
use Rattle.emit_steps.specs.Emitting.{Emitted}
use Rattle.emit_steps.proofs.Growth.{Plain}
use Rattle.loop_unroll.proofs.AddingBodies.{among_append, stacked_append}
use Rattle.emit_steps.proofs.Running.{Among, Stacked, values_from, Matches, Machine, Beside}

pub matches_append : (f : ℕ → ℕ) (vs ws : List Variable) (ls ks : List Local) → Matches f vs ls → Matches f ws ks → Matches f (vs ++ ws) (ls ++ ks)
matches_append f [] ws [] ks h k = k
matches_append f [] ws (l ∷ ls) ks h k = absurd h
matches_append f (v ∷ vs) ws [] ks h k = absurd h
matches_append f (v ∷ vs) ws (l ∷ ls) ks h k = (h.0, h.1, h.2, matches_append f vs ws ls ks h.3 k)

-- where the variable stands: its cells were used, stand behind those of the variables in scope, and hold no number nor an open section's guard
pub record Enters (m : Machine) (f : Emitted) (v : Variable) : Type 0 where
  pub behind : Stacked 5 f.scope v.first
  pub used : v.first + v.count ≤ f.next
  pub plain : (k : ℕ) → v.first ≤ k → k < v.first + v.count → Plain m.last.numbers k
  pub opened : (f.depth ≡ 0 → ⊥) → v.first ≤ f.opened → f.opened < v.first + v.count → ⊥

module _ (m : Machine) where
  plain_at : (f : Emitted) (v : Variable) (l : ℕ) → ((k : ℕ) → Among f.scope k → Plain m.last.numbers k) → Enters m f v → Among f.scope l ⊎ Among (v ∷ []) l → Plain m.last.numbers l
  plain_at f v l before enters (inl old) = before l old
  plain_at f v l before enters (inr (inl new)) = enters.plain l new.0 new.1
  plain_at f v l before enters (inr (inr off)) = absurd off

  apart_at : (f : Emitted) (v : Variable) → (f.depth ≡ 0 → ⊥) → Enters m f v → (Among f.scope f.opened → ⊥) → Among f.scope f.opened ⊎ Among (v ∷ []) f.opened → ⊥
  apart_at f v deep enters apart (inl old) = apart old
  apart_at f v deep enters apart (inr (inl new)) = enters.opened deep new.0 new.1
  apart_at f v deep enters apart (inr (inr off)) = absurd off

  pub beside_entered :
      (f : Emitted) (u : FlatState) (s : State) (v : Variable) (l : Local) → Beside m f u s → Enters m f v → v.name ≡ l.name → v.unsigned ≡ l.unsigned → l.cells ≡ values_from u.values v.first v.count →
      Beside m (record f { scope = f.scope ++ v ∷ [] }) u (record s { locals = s.locals ++ l ∷ [] })
  beside_entered f u s v l b enters name unsigned cells = record {
    ran = b.ran;
    base = b.base;
    neat = b.neat;
    stacked = stacked_append 5 f.scope v.first (v ∷ []) f.next enters.behind (omega arith, enters.used);
    plain = λ k a. plain_at f v k b.plain enters (among_append f.scope (v ∷ []) k a);
    constants = b.constants;
    idle = b.idle;
    matches = matches_append u.values f.scope (v ∷ []) s.locals (l ∷ []) b.matches (name, unsigned, cells, tt);
    creates = b.creates;
    few = b.few;
    numbered = b.numbered;
    depth = b.depth;
    opened = λ deep. (
      record {
        used = (b.opened deep).0.used;
        apart = λ a. apart_at f v deep enters (b.opened deep).0.apart (among_append f.scope (v ∷ []) f.opened a);
        other = (b.opened deep).0.other;
      },
      (b.opened deep).1,
    );
    script = b.script;
    used = b.used;
    actions = b.actions;
  }
