-- A step of the walk, from its parts.
use Rattle.std.proofs.Common.{◌≡◌, ℕ, ◌+◌, ◌<◌, ◌≤◌, inl, inr, Bool, true, false, List, [], ◌∷◌, ◌++◌, map, length, Option, Some, None, refl, ap, sym, ◌∙◌, subst, append-nil, length-append, arith}
use Rattle.std.specs.Prelude.{All, slice_get, cond, IfSome, Result, Ok, Err, OnOk}
use Rattle.dg_base.specs.declared.want.OutOfMemory.{OutOfMemory}
use Rattle.std.proofs.lemmas.List.Elements.{All-nil, All-cons, All-append}
use Rattle.dg_base.proofs.Lists.{get_push_cases}
use Rattle.dg_base.specs.Values.{is_true, value_of}
use Rattle.bv_term.specs.declared.term.TermId.{TermId}
use Rattle.bv_term.specs.declared.term.Term.{Term}
use Rattle.bv_term.specs.declared.term.Term.TheVariants.{Input}
use Rattle.bv_term.specs.Values.{IsListed, Grows}
use Rattle.bv_term.proofs.ValueLaws.{grows_steps}
use Rattle.flat_prog.specs.declared.FlatStep.{FlatStep}
use Rattle.flat_prog.specs.declared.FlatAct.{FlatAct}
use Rattle.flat_prog.specs.declared.FlatAct.TheVariants as flat
use Rattle.ssa_form.specs.declared.SsaStep.{SsaStep}
use Rattle.ssa_form.specs.declared.SsaAct.{SsaAct}
use Rattle.ssa_form.specs.declared.SsaAct.TheVariants.{Take, Read, Write, Open, Close, Fence, Create, Join, Start, End, Stop, Bad, Fail}
use Rattle.ssa_form.specs.declared.walk.Guard.{Guard}
use Rattle.ssa_form.specs.declared.walk.Named.{Named}
use Rattle.ssa_form.specs.declared.walk.Walk.{Walk}
use Rattle.ssa_form.specs.Parts.{Valuation, input_of, inputs_in, terms_of}
use Rattle.ssa_form.specs.Walks.{Words, values, act_by, target, is_end, is_taking, Says, steps_by, changed, guard_value, alive_behind, locals_behind, Follows, FollowsStep, AreListed, terms_in}
use Rattle.ssa_form.specs.States.{locals_of, locals_under, IsGuard, IsBeginListed, IsWalk, IsGuardOf, AreNamed, begins_in, noted, IsChanged, IsLeft, AreOwn, StayOwn, IsStepped}
use Rattle.ssa_form.proofs.Acts.{terms_by, inputs_by}
use Rattle.ssa_form.proofs.Following.{alive_goes, at_all}
use Rattle.ssa_form.proofs.Growing.{listed_more, value_more, locals_more, guard_more, walk_more, the_guard}
use Rattle.ssa_form.proofs.Taking.{inputs_append}

-- ---- an act's terms

named_listed : (terms : List Term) (a : FlatAct) (n : Named) → IsListed terms n.first → IsListed terms n.second → All (IsListed terms) (terms_by (act_by a n))
named_listed terms (flat.Write c from) n h k = All-cons (IsListed terms) n.first [] h (All-nil (IsListed terms))
named_listed terms (flat.Create i handle arg) n h k = All-cons (IsListed terms) n.first (n.second ∷ []) h (All-cons (IsListed terms) n.second [] k (All-nil (IsListed terms)))
named_listed terms (flat.Join from) n h k = All-cons (IsListed terms) n.first [] h (All-nil (IsListed terms))
named_listed terms _ n h k = All-nil (IsListed terms)

abbrev AreInputs : List Term → List TermId → Type 0
AreInputs terms ts = All (λ (t : TermId). slice_get terms t.0 ≡ Some Input) ts

named_inputs : (terms : List Term) (a : FlatAct) (n : Named) → (is_taking a ≡ true → slice_get terms n.first.0 ≡ Some Input) → AreInputs terms (inputs_by (act_by a n))
named_inputs terms (flat.Take to) n h = All-cons (λ (t : TermId). slice_get terms t.0 ≡ Some Input) n.first [] (h refl) (All-nil (λ (t : TermId). slice_get terms t.0 ≡ Some Input))
named_inputs terms (flat.Read c to) n h = All-cons (λ (t : TermId). slice_get terms t.0 ≡ Some Input) n.first [] (h refl) (All-nil (λ (t : TermId). slice_get terms t.0 ≡ Some Input))
named_inputs terms _ n h = All-nil (λ (t : TermId). slice_get terms t.0 ≡ Some Input)

-- terms of the same values say the same
says_same : (a : FlatAct) (n : Named) (v w : Valuation) (l m : ℕ → ℕ) → v n.first ≡ w n.first → v n.second ≡ w n.second → l ≡ m → Says v l a n → Says w m a n
says_same (flat.Set to op args) n v w l m e f g h = sym e ∙ h ∙ ap (λ k. value_of op (map k args)) g
says_same (flat.Put to x) n v w l m e f g h = sym e ∙ h
says_same (flat.Write c from) n v w l m e f g h = sym e ∙ h ∙ ap (λ k. k from) g
says_same (flat.Create i handle arg) n v w l m e f g h = (sym e ∙ h.0 ∙ ap (λ k. k handle) g, sym f ∙ h.1 ∙ ap (λ k. k arg) g)
says_same (flat.Join from) n v w l m e f g h = sym e ∙ h ∙ ap (λ k. k from) g
says_same _ n v w l m e f g h = tt

pub end_target : (a : FlatAct) → is_end a ≡ true → target a ≡ None
end_target flat.End e = refl
end_target flat.Stop e = refl
end_target flat.Bad e = refl
end_target (flat.Fail p tag) e = refl
end_target _ e = absurd (cc)

-- ---- inputs of their own

pub own_none : (ts : List TermId) → AreOwn ts → AreOwn (ts ++ [])
own_none ts h = subst AreOwn (sym (append-nil ts)) h

own_one : (terms : List Term) (ts : List TermId) (t : TermId) → All (IsListed terms) ts → AreOwn ts → length terms ≤ t.0 → AreOwn (ts ++ t ∷ [])
own_one terms ts t listed own h m n u e f =
    elim (get_push_cases ts t m u e) [
      | inl x ↦ elim (get_push_cases ts t n u f) [ inl y ↦ own m n u x y | inr y ↦ absurd (older m u x y.1) ]
      | inr x ↦ elim (get_push_cases ts t n u f) [ inl y ↦ absurd (older n u y x.1) | inr y ↦ x.0 ∙ sym y.0 ]
    ]
  where
    older : (k : ℕ) (z : TermId) → slice_get ts k ≡ Some z → z ≡ t → ⊥
    older k z e same = let i : z.0 < length terms = at_all (IsListed terms) ts k z listed e in let eq : z.0 ≡ t.0 = ap (λ (x : TermId). x.0) same in omega arith

own_act : (terms : List Term) (guard : TermId) (a : FlatAct) (n : Named) → (is_taking a ≡ true → length terms ≤ n.first.0) → StayOwn terms (inputs_in (steps_by guard (act_by a n)))
own_act terms guard (flat.Take to) n h ts listed own = own_one terms ts n.first listed own (h refl)
own_act terms guard (flat.Read c to) n h ts listed own = own_one terms ts n.first listed own (h refl)
own_act terms guard _ n h ts listed own = own_none ts own

-- ---- a step that is noted

pub noted_none : (w : Walk) (guard : TermId) → w ≡ noted w guard None
noted_none w guard = λ i. record w { created = sym (append-nil w.created) i; steps = sym (append-nil w.steps) i }

steps_listed : (terms : List Term) (guard : TermId) (o : Option SsaAct) → IsListed terms guard → All (IsListed terms) (terms_by o) → AreInputs terms (inputs_by o) → AreListed terms (steps_by guard o)
steps_listed terms guard None g h k = record { each = All-nil (λ (s : SsaStep). All (IsListed terms) (terms_in s)); inputs = All-nil (λ (t : TermId). slice_get terms t.0 ≡ Some Input) }
steps_listed terms guard (Some a) g h k = record {
  each =
      let P : SsaStep → Type 0 = λ s. All (IsListed terms) (terms_in s) in
      All-cons P (record { guard = guard; act = a }) [] (All-cons (IsListed terms) guard (terms_of a) g h) (All-nil P);
  inputs = subst (AreInputs terms) (sym (append-nil (input_of a))) k;
}

begins_listed : (terms : List Term) (guard : TermId) (o : Option SsaAct) → IsListed terms guard → All (IsListed terms) (terms_by o) → All (IsBeginListed terms) (begins_in (steps_by guard o))
begins_listed terms guard (Some (Create i handle arg)) g h =
    All-cons (IsBeginListed terms) (record { start = guard; handle = handle; arg = arg }) [] (All-cons (IsListed terms) guard (handle ∷ arg ∷ []) g h) (All-nil (IsBeginListed terms))
begins_listed terms guard None g h = All-nil (IsBeginListed terms)
begins_listed terms guard (Some (Take t)) g h = All-nil (IsBeginListed terms)
begins_listed terms guard (Some (Read c t)) g h = All-nil (IsBeginListed terms)
begins_listed terms guard (Some (Write c t)) g h = All-nil (IsBeginListed terms)
begins_listed terms guard (Some Open) g h = All-nil (IsBeginListed terms)
begins_listed terms guard (Some Close) g h = All-nil (IsBeginListed terms)
begins_listed terms guard (Some Fence) g h = All-nil (IsBeginListed terms)
begins_listed terms guard (Some (Join t)) g h = All-nil (IsBeginListed terms)
begins_listed terms guard (Some Start) g h = All-nil (IsBeginListed terms)
begins_listed terms guard (Some End) g h = All-nil (IsBeginListed terms)
begins_listed terms guard (Some Stop) g h = All-nil (IsBeginListed terms)
begins_listed terms guard (Some Bad) g h = All-nil (IsBeginListed terms)
begins_listed terms guard (Some (Fail p tag)) g h = All-nil (IsBeginListed terms)

pub listed_append : (terms : List Term) (xs ys : List SsaStep) → AreListed terms xs → AreListed terms ys → AreListed terms (xs ++ ys)
listed_append terms xs ys h k = record {
  each = All-append (λ (s : SsaStep). All (IsListed terms) (terms_in s)) xs ys h.each k.each;
  inputs = subst (AreInputs terms) (sym (inputs_append xs ys)) (All-append (λ (t : TermId). slice_get terms t.0 ≡ Some Input) (inputs_in xs) (inputs_in ys) h.inputs k.inputs);
}

-- the state with a step noted is still one
pub noted_walk : (w : Walk) (guard : TermId) (o : Option SsaAct) → IsWalk w → IsListed w.terms guard → All (IsListed w.terms) (terms_by o) → AreInputs w.terms (inputs_by o) → IsWalk (noted w guard o)
noted_walk w guard o h g terms inputs = record {
  zero = h.zero;
  one = h.one;
  created = All-append (IsBeginListed w.terms) w.created (begins_in (steps_by guard o)) h.created (begins_listed w.terms guard o g terms);
  locals = h.locals;
  alive = h.alive;
  last = by_last w.last h.last;
  steps = listed_append w.terms w.steps (steps_by guard o) h.steps (steps_listed w.terms guard o g terms inputs);
}
  where
    by_last : (l : Option Guard) → IfSome l (IsGuard w) → IfSome l (IsGuard (noted w guard o))
    by_last None h = tt
    by_last (Some k) h = record { local = h.local; holds_listed = h.holds_listed; made_listed = h.made_listed; holds = h.holds; made = h.made }

-- ---- the whole step

module _ (a b : Walk) (t : FlatStep) (g : Guard) (n : Named) (terms : List Term) (walk : IsWalk a) (guard : IsGuardOf a b t.guard g) (named : AreNamed b (record b { terms = terms }) t.act n) where
  -- the state behind the step that there may be
  abbrev made : Walk
  made = noted (record b { terms = terms }) g.made (act_by t.act n)

  pub made_walk : IsWalk made
  made_walk =
      noted_walk (record b { terms = terms }) g.made (act_by t.act n) (walk_more b terms guard.walk named.grows) (listed_more b.terms terms named.grows g.made guard.guard.made_listed)
      (named_listed terms t.act n named.first named.second) (named_inputs terms t.act n named.input)

  pub made_guard : IsGuard made g
  made_guard = the_guard made g made_walk guard.last

  -- an act that ends the run leaves the guard as it was
  pub end_guard : (e : Walk) → IsChanged made e g (target t.act) n.first → is_end t.act ≡ true → IsGuard e g
  end_guard e change h = subst (λ z. IsGuard z g) (sym (change.none (end_target t.act h))) made_guard

  module _ (e h : Walk) (change : IsChanged made e g (target t.act) n.first) (leave : IsLeft e h g t.act) where
    abbrev added : List SsaStep
    added = steps_by g.made (act_by t.act n)

    grown : Grows terms h.terms
    grown = grows_steps terms e.terms h.terms change.grows leave.grows

    -- under later terms
    module _ (all : List Term) (later : Grows h.terms all) where
      from_named : Grows terms all
      from_named = grows_steps terms h.terms all grown later

      from_guard : Grows b.terms all
      from_guard = grows_steps b.terms terms all named.grows from_named

      guard_later : IsGuard (record b { terms = all }) g
      guard_later = guard_more b (record b { terms = all }) g from_guard refl refl guard.walk.locals guard.walk.alive guard.guard

      -- the locals and the end of the run before the step
      locals_are : (x : Words) → locals_of (values all x) b.values ≡ locals_of (values all x) a.values
      locals_are x = ap (locals_of (values all x)) guard.only.locals

      alive_is : (x : Words) → values all x b.alive ≡ values all x a.alive
      alive_is x = ap (values all x) guard.only.alive

      is_made : (x : Words) → values all x g.made ≡ guard_value (values all x a.alive) (locals_of (values all x) a.values t.guard)
      is_made x =
          guard_later.made x ∙ ap (λ k. guard_value k (locals_of (values all x) b.values g.local)) (alive_is x) ∙ ap (λ l. guard_value (values all x a.alive) (l g.local)) (locals_are x)
          ∙ ap (λ k. guard_value (values all x a.alive) (locals_of (values all x) a.values k)) guard.same

      says : (x : Words) → Says (values all x) (locals_of (values all x) a.values) t.act n
      says x =
          says_same t.act n (values terms x) (values all x) (locals_under x b) (locals_of (values all x) a.values) (sym (value_more terms all from_named x n.first named.first)) (sym (value_more terms all from_named x n.second named.second))
          (sym (locals_more b.terms all from_guard x b.values guard.walk.locals) ∙ locals_are x) (named.says x)

      -- the locals behind it
      locals_now : (x : Words) → locals_under x made ≡ locals_of (values all x) a.values
      locals_now x = sym (locals_more terms all from_named x b.values made_walk.locals) ∙ locals_are x

      behind_is : (x : Words) → locals_of (values all x) h.values ≡ locals_behind (values all x) (locals_of (values all x) a.values) t n
      behind_is x =
          ap (locals_of (values all x)) leave.locals
          ∙ locals_more e.terms all (grows_steps e.terms h.terms all leave.grows later) x e.values change.walk.locals
          ∙ change.locals x
          ∙ ap (λ l. cond (is_true (l g.local)) (changed l (target t.act) (values terms x n.first)) l) (locals_now x)
          ∙ ap (λ k. cond (is_true (locals_of (values all x) a.values k)) (changed (locals_of (values all x) a.values) (target t.act) (values terms x n.first)) (locals_of (values all x) a.values)) guard.same
          ∙ ap (λ k. cond (is_true (locals_of (values all x) a.values t.guard)) (changed (locals_of (values all x) a.values) (target t.act) k) (locals_of (values all x) a.values)) (sym (value_more terms all from_named x n.first named.first))

      alive_before : (x : Words) → values e.terms x e.alive ≡ values all x a.alive
      alive_before x =
          ap (values e.terms x) change.alive ∙ value_more terms e.terms change.grows x b.alive made_walk.alive
          ∙ sym (value_more terms all from_named x b.alive made_walk.alive) ∙ alive_is x

      local_before : (x : Words) → is_end t.act ≡ true → locals_under x e g.local ≡ locals_of (values all x) a.values t.guard
      local_before x end =
          ap (λ z. locals_under x z g.local) (change.none (end_target t.act end)) ∙ ap (λ l. l g.local) (locals_now x) ∙ ap (locals_of (values all x) a.values) guard.same

      goes_on : (x : Words) → values all x h.alive ≡ alive_behind t.act (values all x a.alive) (locals_of (values all x) a.values t.guard)
      goes_on x =
          value_more h.terms all later x h.alive leave.walk.alive ∙ leave.alive x ∙ ap (λ k. alive_behind t.act k (locals_under x e g.local)) (alive_before x) ∙ by_end (is_end t.act) refl
        where
          by_end : (c : Bool) → is_end t.act ≡ c → alive_behind t.act (values all x a.alive) (locals_under x e g.local) ≡ alive_behind t.act (values all x a.alive) (locals_of (values all x) a.values t.guard)
          by_end true i = ap (λ k. alive_behind t.act (values all x a.alive) k) (local_before x i)
          by_end false i = alive_goes t.act (values all x a.alive) (locals_under x e g.local) i ∙ sym (alive_goes t.act (values all x a.alive) (locals_of (values all x) a.values t.guard) i)

      follows_step : (ts : List FlatStep) (ss : List SsaStep) → Follows all ts (λ x. locals_of (values all x) h.values) (λ x. values all x h.alive) ss
          → FollowsStep all t (λ x. locals_of (values all x) a.values) (λ x. values all x a.alive) (added ++ ss) (Follows all ts)
      follows_step ts ss f = record {
        guard = g.made;
        named = n;
        rest = ss;
        steps = refl;
        made = is_made;
        says = says;
        behind =
            let one : Follows all ts (λ x. locals_behind (values all x) (locals_of (values all x) a.values) t n) (λ x. values all x h.alive) ss =
            subst (λ (l : Words → ℕ → ℕ). Follows all ts l (λ x. values all x h.alive) ss) (λ i x. behind_is x i) f in
            subst (λ (k : Words → ℕ). Follows all ts (λ x. locals_behind (values all x) (locals_of (values all x) a.values) t n) k ss) (λ i x. goes_on x i) one;
      }

    pub stepped : IsStepped a h t
    stepped = record {
      walk = leave.walk;
      grows = grows_steps a.terms b.terms h.terms guard.only.grows (grows_steps b.terms terms h.terms named.grows grown);
      zero = leave.zero ∙ change.zero ∙ guard.only.zero;
      one = leave.one ∙ change.one ∙ guard.only.one;
      count = ap (λ (l : List TermId). length l) leave.locals ∙ change.count ∙ ap (λ (l : List TermId). length l) guard.only.locals;
      added = added;
      steps = leave.steps ∙ change.steps ∙ ap (λ l. l ++ added) guard.only.steps;
      created = leave.created ∙ change.created ∙ ap (λ l. l ++ begins_in added) guard.only.created;
      own = own_act a.terms g.made t.act n (λ takes. let fresh = named.fresh takes in let long = longer in omega arith);
      follows = λ all ts ss later f. follows_step all later ts ss f;
    }
      where
        longer : length a.terms ≤ length b.terms
        longer = let long : length b.terms ≡ length a.terms + length guard.only.grows.added = ap (λ (l : List Term). length l) guard.only.grows.terms ∙ length-append a.terms guard.only.grows.added in omega arith

pub on_ok : {P Q : Type 0} (r : Result (Unit {0}) OutOfMemory) → OnOk r P → (P → Q) → OnOk r Q
on_ok (Ok u) h f = f h
on_ok (Err e) h f = tt
