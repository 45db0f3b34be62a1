-- The flat programs of the tests are flat programs.
use Rattle.std.proofs.Common.{◌≡◌, ◌≢◌, ℕ, zero, suc, ◌<◌, Bool, true, false, List, [], ◌∷◌, Some, refl, sym, subst, arith}
use Rattle.std.specs.Prelude.{All, slice_get}
use Rattle.std.proofs.lemmas.Option.{none-some, same_Some, slice_get_within}
use Rattle.std.proofs.lemmas.List.Elements.{All-nil, All-cons, All-from_recursion}
use Rattle.dg_base.specs.declared.Place.{Place}
use Rattle.dg_base.specs.declared.operators.Op.TheVariants as op
use Rattle.flat_prog.specs.declared.Flat.{Flat}
use Rattle.flat_prog.specs.declared.Instance.{Instance}
use Rattle.flat_prog.specs.declared.FlatStep.{FlatStep}
use Rattle.flat_prog.specs.declared.FlatAct.{FlatAct}
use Rattle.flat_prog.specs.declared.FlatAct.TheVariants as act
use Rattle.flat_prog.specs.Runs.{made_in}
use Rattle.flat_prog.specs.Sections.{Mark, Opens, Closes, Acts, Silent, IsSection, KeepsSections}
use Rattle.flat_prog.specs.Shape.{StepFits, InstanceFits, created_in, marks_of, SectionsClose, SectionsHold, SectionsEnd, IsFlat}
use Rattle.ssa_form.proofs.Following.{at_all}

-- ---- sections of simple programs

-- without an open there is no section
no_section : (ms : List Mark) (o c : ℕ) → All (λ (m : Mark). m ≢ Opens) ms → IsSection ms o c → ⊥
no_section ms o c h s = at_all (λ (m : Mark). m ≢ Opens) ms o Opens h s.opens refl

hold_without : (ms : List Mark) (bs : List Bool) → All (λ (m : Mark). m ≢ Opens) ms → KeepsSections ms bs
hold_without ms bs h = record {
  inside = λ o c i s low high acts made. absurd (no_section ms o c h s);
  behind = λ o c i s low acts made opened. absurd (no_section ms o c h s);
}

-- made from the first step on to some step
abbrev IsFront : List Bool → Type 0
IsFront [] = Unit {0}
IsFront (true ∷ bs) = IsFront bs
IsFront (false ∷ bs) = All (λ (b : Bool). b ≡ false) bs

front_made : (bs : List Bool) (j i : ℕ) → IsFront bs → j < i → slice_get bs i ≡ Some true → slice_get bs j ≡ Some true
front_made [] j i h less e = absurd (none-some true e)
front_made (true ∷ bs) zero i h less e = refl
front_made (true ∷ bs) (suc j) zero h less e = absurd (omega arith)
front_made (true ∷ bs) (suc j) (suc i) h less e = front_made bs j i h (omega arith) e
front_made (false ∷ bs) j zero h less e = absurd (omega arith)
front_made (false ∷ bs) j (suc i) h less e = absurd (let no : true ≡ false = at_all (λ (b : Bool). b ≡ false) bs i true h e in cc)

hold_front : (ms : List Mark) (bs : List Bool) → IsFront bs → KeepsSections ms bs
hold_front ms bs h = record {
  inside = λ o c i s low high acts made. front_made bs o i h low made;
  behind = λ o c i s low acts made opened. front_made bs c i h low made;
}

-- ---- two threads

abbrev at : ℕ → FlatAct → FlatStep
at g a = record { guard = g; act = a }

abbrev pub place : Place
place = record { line = 3; col = 5 }

-- with these arguments of the sum and of the test
abbrev pub main_steps : List ℕ → List ℕ → List FlatStep
main_steps sum test =
    at 2 (act.Take 3)
    ∷ at 2 (act.Put 4 1)
    ∷ at 3 (act.Create 1 4 3)
    ∷ at 2 (act.Write 0 2)
    ∷ at 2 (act.Read 1 5)
    ∷ at 3 (act.Set 6 op.Plus sum)
    ∷ at 2 (act.Set 7 op.Equal test)
    ∷ at 7 (act.Fail place 0)
    ∷ at 2 (act.Join 4)
    ∷ []

abbrev pub main_thread : Instance
main_thread = record {
  function = 0;
  locals = 8;
  steps = main_steps (5 ∷ 3 ∷ []) (6 ∷ 2 ∷ []);
}

abbrev pub other_thread : Instance
other_thread = record {
  function = 1;
  locals = 4;
  steps = at 0 (act.Write 1 0) ∷ at 2 (act.Read 0 3) ∷ at 2 act.Stop ∷ at 2 act.Fence ∷ [];
}

abbrev pub two_threads : Flat
two_threads = record { instances = main_thread ∷ other_thread ∷ []; initials = 0 ∷ 7 ∷ [] }

two : (n a b : ℕ) → a < n → b < n → All (λ x. x < n) (a ∷ b ∷ [])
two n a b h k = All-cons (λ x. x < n) a (b ∷ []) h (All-cons (λ x. x < n) b [] k (All-nil (λ x. x < n)))

main_fits : InstanceFits 2 main_thread
main_fits = record {
  locals = omega arith;
  steps =
      All-from_recursion (StepFits 8 2) main_thread.steps (
        (omega arith, omega arith),
        (
          (omega arith, omega arith),
          (
            (omega arith, (omega arith, omega arith)),
            (
              (omega arith, (omega arith, omega arith)),
              (
                (omega arith, (omega arith, omega arith)),
                (
                  (omega arith, (omega arith, refl, two 8 5 3 (omega arith) (omega arith))),
                  ((omega arith, (omega arith, refl, two 8 6 2 (omega arith) (omega arith))), ((omega arith, tt), ((omega arith, omega arith), tt))),
                ),
              ),
            ),
          ),
        ),
      );
}

other_fits : InstanceFits 2 other_thread
other_fits = record {
  locals = omega arith;
  steps = All-from_recursion (StepFits 4 2) other_thread.steps ((omega arith, (omega arith, omega arith)), ((omega arith, (omega arith, omega arith)), ((omega arith, tt), ((omega arith, tt), tt))));
}

both : (P : Instance → Type 0) → P main_thread → P other_thread → All P (main_thread ∷ other_thread ∷ [])
both P h k = All-cons P main_thread (other_thread ∷ []) h (All-cons P other_thread [] k (All-nil P))

later : (i j k : ℕ) (x : Instance) → slice_get two_threads.instances i ≡ Some x → slice_get (created_in x.steps) k ≡ Some j → i < j
later zero j zero x e h =
    let one : 1 ≡ j = same_Some 1 j (subst (λ (z : Instance). slice_get (created_in z.steps) 0 ≡ Some j) (sym (same_Some main_thread x e)) h) in
    omega arith
later zero j (suc k) x e h = absurd (none-some j (subst (λ (z : Instance). slice_get (created_in z.steps) (suc k) ≡ Some j) (sym (same_Some main_thread x e)) h))
later (suc zero) j k x e h = absurd (none-some j (subst (λ (z : Instance). slice_get (created_in z.steps) k ≡ Some j) (sym (same_Some other_thread x e)) h))
later (suc (suc i)) j k x e h = absurd (none-some x e)

acts : Acts ≢ Opens
acts e = cc

silent : Silent ≢ Opens
silent e = cc

main_marks : All (λ (m : Mark). m ≢ Opens) (marks_of main_thread.steps)
main_marks = All-from_recursion (λ (m : Mark). m ≢ Opens) (marks_of main_thread.steps) (silent, (silent, (acts, (acts, (acts, (silent, (silent, (silent, (acts, tt)))))))))

other_marks : All (λ (m : Mark). m ≢ Opens) (marks_of other_thread.steps)
other_marks = All-from_recursion (λ (m : Mark). m ≢ Opens) (marks_of other_thread.steps) (acts, (acts, (silent, (acts, tt))))

pub two_threads_are_flat : IsFlat two_threads
two_threads_are_flat = record {
  fits = both (InstanceFits 2) main_fits other_fits;
  creates = record { in_turn = refl; later = later };
  closed = both SectionsClose refl refl;
  held =
      both (SectionsHold two_threads.instances) (λ arg handle script. hold_without (marks_of main_thread.steps) (made_in two_threads.instances main_thread arg handle script) main_marks)
      (λ arg handle script. hold_without (marks_of other_thread.steps) (made_in two_threads.instances other_thread arg handle script) other_marks);
  ended =
      both (SectionsEnd two_threads.instances) (λ arg handle script s o c goes section made. absurd (no_section (marks_of main_thread.steps) o c main_marks section))
      (λ arg handle script s o c goes section made. absurd (no_section (marks_of other_thread.steps) o c other_marks section));
}

-- ---- a section

-- with these arguments of the sum
abbrev pub counting_steps : List ℕ → List FlatStep
counting_steps sum = at 2 act.Open ∷ at 2 (act.Read 0 3) ∷ at 2 (act.Set 4 op.Plus sum) ∷ at 2 (act.Write 0 4) ∷ at 2 act.Close ∷ []

abbrev pub counting : Instance
counting = record {
  function = 0;
  locals = 5;
  steps = counting_steps (3 ∷ 2 ∷ []);
}

abbrev pub counter : Flat
counter = record { instances = counting ∷ []; initials = 3 ∷ [] }

one : (P : Instance → Type 0) → P counting → All P (counting ∷ [])
one P h = All-cons P counting [] h (All-nil P)

counting_fits : InstanceFits 1 counting
counting_fits = record {
  locals = omega arith;
  steps =
      All-from_recursion (StepFits 5 1) counting.steps
      ((omega arith, tt), ((omega arith, (omega arith, omega arith)), ((omega arith, (omega arith, refl, two 5 3 2 (omega arith) (omega arith))), ((omega arith, (omega arith, omega arith)), ((omega arith, tt), tt)))));
}

two_unmade : All (λ (b : Bool). b ≡ false) (false ∷ false ∷ [])
two_unmade = All-cons (λ (b : Bool). b ≡ false) false (false ∷ []) refl (All-cons (λ (b : Bool). b ≡ false) false [] refl (All-nil (λ (b : Bool). b ≡ false)))

-- without a number the run is short at the read; with one every step is made
counting_front : (arg handle : ℕ) (script : List ℕ) → IsFront (made_in counter.instances counting arg handle script)
counting_front arg handle [] = two_unmade
counting_front arg handle (v ∷ vs) = tt

counting_ends : SectionsEnd counter.instances counting
counting_ends arg handle [] s o c goes section made = absurd (cc)
counting_ends arg handle (v ∷ vs) s o c goes section made = by_place c (slice_get_within (marks_of counting.steps) c Closes section.closes)
  where
    by_place : (k : ℕ) → k < 5 → slice_get (true ∷ true ∷ true ∷ true ∷ true ∷ []) k ≡ Some true
    by_place zero h = refl
    by_place (suc zero) h = refl
    by_place (suc (suc zero)) h = refl
    by_place (suc (suc (suc zero))) h = refl
    by_place (suc (suc (suc (suc zero)))) h = refl
    by_place (suc (suc (suc (suc (suc k))))) h = absurd (omega arith)

counter_later : (i j k : ℕ) (x : Instance) → slice_get counter.instances i ≡ Some x → slice_get (created_in x.steps) k ≡ Some j → i < j
counter_later zero j k x e h = absurd (none-some j (subst (λ (z : Instance). slice_get (created_in z.steps) k ≡ Some j) (sym (same_Some counting x e)) h))
counter_later (suc i) j k x e h = absurd (none-some x e)

pub counter_is_flat : IsFlat counter
counter_is_flat = record {
  fits = one (InstanceFits 1) counting_fits;
  creates = record { in_turn = refl; later = counter_later };
  closed = one SectionsClose (refl, (refl, refl));
  held = one (SectionsHold counter.instances) (λ arg handle script. hold_front (marks_of counting.steps) (made_in counter.instances counting arg handle script) (counting_front arg handle script));
  ended = one (SectionsEnd counter.instances) counting_ends;
}
