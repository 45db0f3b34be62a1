-- Workers that are taken apart, the last one first.
use Rattle.std.proofs.Common.{◌≡◌, ◌≢◌, ℕ, suc, ◌+◌, ◌-◌, ◌<◌, ◌≤◌, ◌⊎◌, inl, inr, List, [], ◌∷◌, ◌++◌, length, take, drop, refl, ap, sym, ◌∙◌, subst, arith}
use Rattle.std.specs.Prelude.{slice_get, Option, Some, None, Bool, MatchOption}
use Rattle.std.proofs.lemmas.List.{append-nil, append_assoc, length-append, drop_all, take_all}
use Rattle.std.proofs.lemmas.Option.{slice_get_within}
use Rattle.dg_base.proofs.Lists.{one_answer, get_there, get_append_left, get_append_right, get_push_last, contains_place}
use Rattle.clause_exchange.specs.declared.rule.Part.{Part}
use Rattle.clause_exchange.specs.declared.rule.View.{View}
use Rattle.clause_exchange.specs.Seats.{ExchangeId}
use Rattle.clause_exchange.specs.Closing.{HasAll}
use Rattle.clause_exchange.specs.Steps.{mine}
use Rattle.cdcl_worker.specs.declared.worker.Outcome.TheVariants.{Model}
use Rattle.verdict_run.specs.declared.jobs.Ended.{Ended}
use Rattle.verdict_run.specs.declared.jobs.Job.{Job}
use Rattle.verdict_run.specs.Searches.{AreJobs, IsSearch, HasWorked, HaveWorked, AreTaken, NoModelFrom, IsFirstModel}

-- the element behind the first ones
pub get_middle : {X : Type 0} (xs left taken : List X) (x : X) → xs ≡ left ++ x ∷ taken → slice_get xs (length left) ≡ Some x
get_middle xs left taken x e = ap (λ l. slice_get l (length left)) e ∙ get_append_right left (x ∷ taken) (length left) 0 (omega arith)

-- the last of those that are left, and then those that are taken
pub apart : {X : Type 0} (xs before left taken : List X) (x : X) → xs ≡ before ++ taken → before ≡ left ++ x ∷ [] → xs ≡ left ++ x ∷ taken
apart xs before left taken x e is = e ∙ ap (λ l. l ++ taken) is ∙ append_assoc left (x ∷ []) taken

-- at first none is taken
pub none_taken : (jobs : List Job) → AreTaken jobs jobs [] []
none_taken jobs = record {
  taken = [];
  left_is = sym (append-nil jobs);
  parts_long = refl;
  ends_long = refl;
  part = λ k m job at sum lt. absurd (omega arith);
  ended = λ k m job at sum lt. absurd (omega arith);
}

-- one more is taken
pub one_taken : (jobs before left : List Job) (job : Job) (parts : List Part) (ends : List Ended) → AreTaken jobs before parts ends → before ≡ left ++ job ∷ [] → AreTaken jobs left (parts ++ mine job.seat.view ∷ []) (ends ++ job.ended ∷ [])
one_taken jobs before left job parts ends are is =
    let all : jobs ≡ left ++ job ∷ are.taken = apart jobs before left are.taken job are.left_is is in
    let count : length jobs ≡ length left + length (job ∷ are.taken) = ap length all ∙ length-append left (job ∷ are.taken) in
    record {
      taken = job ∷ are.taken;
      left_is = all;
      parts_long = length-append parts (mine job.seat.view ∷ []) ∙ omega (arith, are.parts_long);
      ends_long = length-append ends (job.ended ∷ []) ∙ omega (arith, are.ends_long);
      part = λ k m j at sum lt. elim (split m (length are.taken) lt) [
        | inl h ↦ get_append_left parts (mine job.seat.view ∷ []) m (mine j.seat.view) (are.part k m j at sum h)
        | inr h ↦
            let same : job ≡ j = one_answer (slice_get jobs k) job j (subst (λ n. slice_get jobs n ≡ Some job) (let e : length left ≡ k = omega (arith, sum, count, h) in e) (get_middle jobs left are.taken job all)) at in
            subst (λ n. slice_get (parts ++ mine job.seat.view ∷ []) n ≡ Some (mine j.seat.view)) (are.parts_long ∙ sym h)
            (get_push_last parts (mine job.seat.view) ∙ ap (λ (x : Job). Some (mine x.seat.view)) same)
      ];
      ended = λ k m j at sum lt. elim (split m (length are.taken) lt) [
        | inl h ↦ get_append_left ends (job.ended ∷ []) m j.ended (are.ended k m j at sum h)
        | inr h ↦
            let same : job ≡ j = one_answer (slice_get jobs k) job j (subst (λ n. slice_get jobs n ≡ Some job) (let e : length left ≡ k = omega (arith, sum, count, h) in e) (get_middle jobs left are.taken job all)) at in
            subst (λ n. slice_get (ends ++ job.ended ∷ []) n ≡ Some j.ended) (are.ends_long ∙ sym h)
            (get_push_last ends job.ended ∙ ap (λ (x : Job). Some x.ended) same)
      ];
    }
  where
    split : (m n : ℕ) → m < suc n → (m < n) ⊎ (m ≡ n)
    split m n lt = grind arith

-- the first that is taken
pub first_taken : (jobs left : List Job) (job : Job) (parts : List Part) (ends : List Ended) → jobs ≡ left ++ job ∷ [] → parts ≡ mine job.seat.view ∷ [] → ends ≡ job.ended ∷ [] → AreTaken jobs left parts ends
first_taken jobs left job parts ends is parts_are ends_are =
    subst (λ ps. AreTaken jobs left ps ends) (sym parts_are) (subst (AreTaken jobs left (mine job.seat.view ∷ [])) (sym ends_are)
    (one_taken jobs jobs left job [] [] (none_taken jobs) is))

-- until none is left
pub none_left : (jobs left : List Job) (parts : List Part) (ends : List Ended) → length left ≡ 0 → AreTaken jobs left parts ends → AreTaken jobs [] parts ends
none_left jobs [] parts ends e are = are
none_left jobs (j ∷ left) parts ends e are = absurd (omega (arith, e))

-- a worker with a model, before those that are taken
pub found_model : (ends left taken : List Ended) (e : Ended) (a : List Bool) → ends ≡ left ++ e ∷ taken → e.outcome ≡ Model a → IsFirstModel (length left) ends a
found_model ends left taken e a is model = record {
  place = length left;
  behind = omega arith;
  ended = e;
  is = get_middle ends left taken e is;
  model = model;
  none = λ k x b from before at. absurd (omega arith);
}

from_next : (n k : ℕ) → n ≤ k → (k ≡ n) ⊎ (n + 1 ≤ k)
from_next n k le = grind arith

-- a worker without one
pub no_model : (ends left taken : List Ended) (e : Ended) → ends ≡ left ++ e ∷ taken → ((a : List Bool) → e.outcome ≢ Model a) → NoModelFrom (length left + 1) ends → NoModelFrom (length left) ends
no_model ends left taken e is none more k x a from at = elim (from_next (length left) k from) [
  | inl h ↦ subst (λ (y : Ended). y.outcome ≢ Model a) (one_answer (slice_get ends k) e x (subst (λ n. slice_get ends n ≡ Some e) (sym h) (get_middle ends left taken e is)) at) (none a)
  | inr h ↦ more k x a h at
]

pub still_first : (ends left taken : List Ended) (e : Ended) (b : List Bool) → ends ≡ left ++ e ∷ taken → ((a : List Bool) → e.outcome ≢ Model a) → IsFirstModel (length left + 1) ends b → IsFirstModel (length left) ends b
still_first ends left taken e b is none first = record {
  place = first.place;
  behind = omega (arith, first.behind);
  ended = first.ended;
  is = first.is;
  model = first.model;
  none = λ k x a from before at. elim (from_next (length left) k from) [
    | inl h ↦ subst (λ (y : Ended). y.outcome ≢ Model a) (one_answer (slice_get ends k) e x (subst (λ n. slice_get ends n ≡ Some e) (sym h) (get_middle ends left taken e is)) at) (none a)
    | inr h ↦ first.none k x a h before at
  ];
}

-- each worker has worked
pub have_worked : (id : ExchangeId) (budget : ℕ) (xs ys : List Job) → AreJobs id xs → length xs ≡ length ys
    → ((k : ℕ) (x y : Job) → slice_get xs k ≡ Some x → slice_get ys k ≡ Some y → HasWorked id budget y × ((mine y.seat.view).number ≡ (mine x.seat.view).number)) → HaveWorked id budget ys
have_worked id budget xs ys are long work = record {
  each = λ k y at. let x = get_there xs k (subst (λ n. k < n) (sym long) (slice_get_within ys k y at)) in (work k x.0 y x.1 at).0;
  numbers = λ k y at.
      let x = get_there xs k (subst (λ n. k < n) (sym long) (slice_get_within ys k y at)) in
      omega (arith, (work k x.0 y x.1 at).1, are.numbers k x.0 x.1);
}

-- all workers by their numbers: what is kept of each, and how it ended
pub record AreGathered (id : ExchangeId) (budget : ℕ) (parts : List Part) (ends : List Ended) : Type 0 where
  pub parts_long : length parts ≡ id.workers
  pub ends_long : length ends ≡ id.workers
  pub numbers : (k : ℕ) (part : Part) → slice_get parts k ≡ Some part → part.number ≡ k
  pub searches : (k : ℕ) (part : Part) (ended : Ended) → slice_get parts k ≡ Some part → slice_get ends k ≡ Some ended → IsSearch id.problem budget part ended

pub gathered : (id : ExchangeId) (budget : ℕ) (jobs : List Job) (parts : List Part) (ends : List Ended) → HaveWorked id budget jobs → length jobs ≡ id.workers → AreTaken jobs [] parts ends → AreGathered id budget parts ends
gathered id budget jobs parts ends worked count are =
    let all : length jobs ≡ length are.taken = ap length are.left_is in
    let turned : (k : ℕ) → k < length are.taken → (m : ℕ) × (job : Job) × (slice_get jobs m ≡ Some job) × (m + k + 1 ≡ length jobs) =
    λ k lt.
    let m = length jobs - 1 - k in
    let job = get_there jobs m (omega (arith, lt, all)) in
    (m, job.0, job.1, omega (arith, lt, all)) in
    record {
      parts_long = are.parts_long ∙ sym all ∙ count;
      ends_long = are.ends_long ∙ sym all ∙ count;
      numbers = λ k part at.
          let lt : k < length are.taken = subst (λ n. k < n) are.parts_long (slice_get_within parts k part at) in
          let t = turned k lt in
          let same : part ≡ mine t.1.seat.view = one_answer (slice_get parts k) part (mine t.1.seat.view) at (are.part t.0 k t.1 t.2 t.3 lt) in
          let number = worked.numbers t.0 t.1 t.2 in
          ap (λ (q : Part). q.number) same ∙ omega (arith, number, t.3, count);
      searches = λ k part ended at at_ended.
          let lt : k < length are.taken = subst (λ n. k < n) are.parts_long (slice_get_within parts k part at) in
          let t = turned k lt in
          let same : mine t.1.seat.view ≡ part = one_answer (slice_get parts k) (mine t.1.seat.view) part (are.part t.0 k t.1 t.2 t.3 lt) at in
          let is : t.1.ended ≡ ended = one_answer (slice_get ends k) t.1.ended ended (are.ended t.0 k t.1 t.2 t.3 lt) at_ended in
          subst (λ (e : Ended). IsSearch id.problem budget part e) is (subst (λ (q : Part). IsSearch id.problem budget q t.1.ended) same (worked.each t.0 t.1 t.2).search);
    }

-- what a loan of a whole list leaves of it
pub written_back : {X : Type 0} (long : ℕ) (new items : List X) → length new ≡ length items → long ≡ length items → take long (new ++ drop (length new) items) ≡ new
written_back long new items same is =
    let none = drop_all (length new) items (omega (arith, same)) in
    ap (λ rest. take long (new ++ rest)) none ∙ ap (take long) (append-nil new) ∙ take_all long new (omega (arith, same, is))

-- each number has its part
pub has_all : (id : ExchangeId) (budget : ℕ) (v : View) (ends : List Ended) → id.workers ≡ v.workers → AreGathered id budget v.parts ends → HasAll v
has_all id budget v ends same are k lt =
    let part = get_there v.parts k (subst (λ n. k < n) (sym (are.parts_long ∙ same)) lt) in
    (part.0, contains_place v.parts k part.0 part.1, are.numbers k part.0 part.1)

-- the models behind a worker that has none
pub model_more : (ends left taken : List Ended) (e : Ended) → ends ≡ left ++ e ∷ taken → ((a : List Bool) → e.outcome ≢ Model a) → (o : Option (List Bool))
    → MatchOption o (NoModelFrom (length left + 1) ends) (IsFirstModel (length left + 1) ends) → MatchOption o (NoModelFrom (length left) ends) (IsFirstModel (length left) ends)
model_more ends left taken e is none None more = no_model ends left taken e is none more
model_more ends left taken e is none (Some b) more = still_first ends left taken e b is none more

-- the ends of what is left and taken
pub length_more : {X : Type 0} (xs ys : List X) (x : X) → xs ≡ ys ++ x ∷ [] → length xs ≡ length ys + 1
length_more xs ys x is = ap length is ∙ length-append ys (x ∷ [])

-- what the workers that searched leave, taken apart
pub gathered_back : (id : ExchangeId) (budget workers long : ℕ) (new lent items : List Job) (parts : List Part) (ends : List Ended) → length new ≡ length lent → lent ≡ items → length items ≡ workers → long ≡ length items → id.workers ≡ workers
    → HaveWorked id budget new → AreTaken (take long (new ++ drop (length new) items)) [] parts ends → AreGathered id budget parts ends
gathered_back id budget workers long new lent items parts ends same is count all n_is worked are =
    let back = written_back long new items (same ∙ ap length is) all in
    gathered id budget new parts ends worked (same ∙ ap length is ∙ count ∙ sym n_is) (subst (λ js. AreTaken js [] parts ends) back are)
