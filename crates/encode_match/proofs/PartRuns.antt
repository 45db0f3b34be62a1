-- A part whose thread is created runs as that thread.
use Rattle.std.proofs.Common.{◌≡◌, ℕ, zero, suc, List, [], ◌∷◌, refl, ap, sym, ◌∙◌, subst}
use Rattle.std.specs.Prelude.{Some, slice_get, option_map, All}
use Rattle.std.specs.List.{AllZip}
use Rattle.std.proofs.lemmas.Option.{same_Some}
use Rattle.std.proofs.lemmas.List.Elements.{All-contains}
use Rattle.dg_base.proofs.Lists.{get_nothing, contains_place}
use Rattle.run_model.specs.Threads.{thread_run}
use Rattle.flat_prog.specs.declared.Flat.{Flat}
use Rattle.flat_prog.specs.declared.Instance.{Instance}
use Rattle.flat_prog.specs.Runs.{run_seen}
use Rattle.loop_unroll.specs.Unrolled.{RunsAsThread}
use Rattle.ssa_form.specs.declared.Ssa.{Ssa}
use Rattle.ssa_form.specs.declared.SsaPart.{SsaPart}
use Rattle.ssa_form.specs.Parts.{script_of}
use Rattle.ssa_form.specs.Form.{IsSsaOf, IsPartOf, under}
use Rattle.encode_match.specs.Running.{PartsRunAsThreads}

-- what stands at a place of a list has what R says of it
pub all_at : {A : Type 0} (P : A → Type 0) (xs : List A) (k : ℕ) (x : A) → All P xs → slice_get xs k ≡ Some x → P x
all_at P xs k x h e = All-contains P xs x h (contains_place xs k x e)

-- what stands at a place of the second of two lists has its fellow in the first
pub zip_from : {A B : Type 0} (R : A → B → Type 0) (xs : List A) (ys : List B) (k : ℕ) (y : B) → AllZip R xs ys → slice_get ys k ≡ Some y → (x : A) × (slice_get xs k ≡ Some x) × R x y
zip_from R [] [] k y h e = absurd (get_nothing k y e)
zip_from R [] (z ∷ zs) k y h e = absurd h
zip_from R (x ∷ xs) [] k y h e = absurd h
zip_from R (x ∷ xs) (z ∷ zs) zero y h e = (x, refl, subst (λ w. R x w) (same_Some z y e) h.0)
zip_from R (x ∷ xs) (z ∷ zs) (suc k) y h e = zip_from R xs zs k y h.1 e

-- the instance of a part
pub record InstanceOf (flat : Flat) (f : Ssa) (i : ℕ) (part : SsaPart) : Type 0 where
  pub instance : Instance
  pub there : slice_get flat.instances i ≡ Some instance
  pub is_part : IsPartOf flat f instance part

pub instance_of : (flat : Flat) (f : Ssa) (i : ℕ) (part : SsaPart) → IsSsaOf flat f → slice_get f.parts i ≡ Some part → InstanceOf flat f i part
instance_of flat f i part h e = let r = zip_from (IsPartOf flat f) flat.instances f.parts i part h.parts e in record { instance = r.0; there = r.1; is_part = r.2 }

pub parts_run_as_threads : PartsRunAsThreads
parts_run_as_threads p flat f inputs i part un form words r few =
    let q = instance_of flat f i part form r.there in
    let run = q.is_part.runs inputs words r.starts in
    let as_thread = all_at (RunsAsThread p flat.instances) flat.instances i q.instance un.runs q.there in
    let v = under inputs f in
    let script = script_of v part.steps in
    record {
      run = run_seen run.run;
      runs = ap (λ (n : ℕ). thread_run p n (v part.handle) (v part.arg) script) q.is_part.same_function
          ∙ (sym (as_thread (v part.arg) (v part.handle) script few) ∙ ap (option_map run_seen) run.runs);
      used = run.used;
      actions = run.actions;
      ending = run.run.ending;
      ends = run.ending;
      ended = refl;
      bad = refl;
      failed = refl;
    }
