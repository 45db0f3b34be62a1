-- From a reply, and what keeping and printing left, to the outcome of a run.
use Rattle.std.proofs.Common.{◌≡◌, ◌≢◌, ◌⊎◌, ℕ, ◌<◌, List, Option, Some, None, Ok, Err, inr, refl, sym, ap, subst, ◌∙◌, arith, take, length, ⊎_elim}
use Rattle.std.specs.Prelude.{Contains, IfSome, option_map, string_bytes}
use Rattle.std.proofs.Common.{take_all}
use Rattle.dg_base.specs.declared.outside.FileEntry.{FileEntry}
use Rattle.dg_base.specs.declared.outside.Trouble.{Trouble}
use Rattle.dg_base.specs.declared.outside.Trouble.TheVariants.{Failed}
use Rattle.dg_base.specs.declared.outside.Operation.TheVariants.{Keep}
use Rattle.dg_base.specs.Outside.{Changes, Faults, IsFault, Keeps, Prints, Told, Unchanged}
use Rattle.word_settings.specs.Settings.{Word}
use Rattle.program_log.specs.declared.answers.LogAnswer.{LogAnswer}
use Rattle.program_log.specs.declared.answers.LogAnswer.TheVariants as log
use Rattle.dg_top.specs.declared.reply.Keeping.{Keeping}
use Rattle.dg_top.specs.declared.reply.Reply.{Reply}
use Rattle.dg_top.specs.LogLines.{log_status}
use Rattle.dg_top.specs.Answers.{Allowed, Answer, BadWitness, BadWords, Failing, Kept, LongFile, Made, MadeVerdict, Migrated, OfLog, Refused, Rejected, Safe, Unknown, Unsafe, status_of, text_of}
use Rattle.dg_top.specs.Outcomes.{Appended, HasKept, IsStatus, MayHaveKept, Outcome, answered, no_memory, no_memory_behind, unfetched, unkept, unprinted}
use Rattle.dg_top.specs.Replies.{IsOneOf, KeepsAmong, OutputFails, Replies, Spells, keep, kept_of}

pub told_map : {A : Type 0} (P Q : A → Type 0) (o : Option A) → ((x : A) → P x → Q x) → Told P o → Told Q o
told_map P Q None f t = tt
told_map P Q (Some x) f t = f x t

pub told_all : {A : Type 0} (P : A → Type 0) (o : Option A) → ((x : A) → P x) → Told P o
told_all P None f = tt
told_all P (Some x) f = f x

changes_map : {A : Type 0} (R S : A → A → Type 0) (before now : Option A) → ((a b : A) → R a b → S a b) → Changes R before now → Changes S before now
changes_map R S None now f c = tt
changes_map R S (Some a) None f c = c
changes_map R S (Some a) (Some b) f c = f a b c

pub unchanged : {A : Type 0} (before now : Option A) → now ≡ before → Unchanged before now
unchanged {A} before now e = subst (λ o. Unchanged before o) (sym e) (same before)
  where
    same : (o : Option A) → Unchanged o o
    same None = tt
    same (Some a) = refl

-- ---- the statuses of answers

log_status_small : (a : LogAnswer) → log_status a < 5
log_status_small (log.Accepted n) = omega arith
log_status_small (log.OtherProblem line theirs ours) = omega arith
log_status_small (log.Refused why) = omega arith
log_status_small (log.BadLog line) = omega arith

pub status_small : (a : Answer) → status_of a < 5
status_small Safe = omega arith
status_small (Unsafe w h at b) = omega arith
status_small (Unknown reports) = omega arith
status_small (Failing h at b) = omega arith
status_small (Rejected p e) = omega arith
status_small (OfLog a) = log_status_small a
status_small (Migrated n) = omega arith
status_small (Made n) = omega arith
status_small (MadeVerdict n a) = status_small a
status_small (BadWords e) = omega arith
status_small (Refused e) = omega arith
status_small (BadWitness line) = omega arith
status_small (LongFile name) = omega arith

log_status_known : (a : LogAnswer) → IsStatus (log_status a)
log_status_known (log.Accepted n) = refl
log_status_known (log.OtherProblem line theirs ours) = refl
log_status_known (log.Refused why) = refl
log_status_known (log.BadLog line) = refl

status_known : (a : Answer) → IsStatus (status_of a)
status_known Safe = refl
status_known (Unsafe w h at b) = refl
status_known (Unknown reports) = refl
status_known (Failing h at b) = refl
status_known (Rejected p e) = refl
status_known (OfLog a) = log_status_known a
status_known (Migrated n) = refl
status_known (Made n) = refl
status_known (MadeVerdict n a) = status_known a
status_known (BadWords e) = refl
status_known (Refused e) = refl
status_known (BadWitness line) = refl
status_known (LongFile name) = refl

-- the status of a reply is that of its answer
pub reply_small : (ws : List Word) (files : Option (List FileEntry)) (r : Reply) → Replies (Allowed ws) files r → r.status < 5
reply_small ws files r p = let small : status_of p.answer < 5 = status_small p.answer in omega (arith, p.spelled.status)

-- the status of a run that has a reply: that of the reply, or that of a failed print or of want of memory
abbrev pub HasStatus : ℕ → Reply → Type 0
HasStatus n r = (n ≡ r.status) ⊎ ((n ≡ 6) ⊎ (n ≡ 7))

pub run_known : (ws : List Word) (files : Option (List FileEntry)) (r : Reply) (n : ℕ) → Replies (Allowed ws) files r → HasStatus n r → IsStatus n
run_known ws files r n p h =
    ⊎_elim (λ e. subst IsStatus (sym (e ∙ p.spelled.status)) (status_known p.answer)) (λ o. ⊎_elim (λ e. subst IsStatus (sym e) refl) (λ e. subst IsStatus (sym e) refl) o) h

-- no run that has a reply has the status of a failed fetch
pub not_five : (r : Reply) (n : ℕ) → r.status < 5 → HasStatus n r → n ≢ 5
not_five r n small h five = ⊎_elim (λ e. omega arith) (λ o. ⊎_elim (λ e. omega arith) (λ e. omega arith) o) h

-- ---- replies

-- an answer that all files allow
pub always : (P : List FileEntry → Answer → Option Kept → Type 0) (a : Answer) (kept : Option Kept) (files : Option (List FileEntry)) (r : Reply)
    → ((fs : List FileEntry) → P fs a kept) → Spells a kept r → Replies P files r
always P a kept files r allowed spelled = record { answer = a; kept = kept; allowed = told_all (λ fs. P fs a kept) files allowed; spelled = spelled }

-- an answer that the files allow by what is told of them
pub by_files : (Q : List FileEntry → Type 0) (P : List FileEntry → Answer → Option Kept → Type 0) (a : Answer) (kept : Option Kept) (files : Option (List FileEntry)) (r : Reply)
    → ((fs : List FileEntry) → Q fs → P fs a kept) → Told Q files → Spells a kept r → Replies P files r
by_files Q P a kept files r f told spelled = record { answer = a; kept = kept; allowed = told_map Q (λ fs. P fs a kept) files f told; spelled = spelled }

-- what a reply may be of is more
pub widened : (P Q : List FileEntry → Answer → Option Kept → Type 0) (files : Option (List FileEntry)) (r : Reply)
    → ((fs : List FileEntry) (a : Answer) (kept : Option Kept) → P fs a kept → Q fs a kept) → Replies P files r → Replies Q files r
widened P Q files r f p = record {
  answer = p.answer;
  kept = p.kept;
  allowed = told_map (λ fs. P fs p.answer p.kept) (λ fs. Q fs p.answer p.kept) files (λ fs. f fs p.answer p.kept) p.allowed;
  spelled = p.spelled;
}

-- one of these answers is one of those
pub one_of : (P Q : Answer → Option Kept → Type 0) (r : Reply) → ((a : Answer) (kept : Option Kept) → P a kept → Q a kept) → IsOneOf P r → IsOneOf Q r
one_of P Q r f p = record { answer = p.answer; kept = p.kept; allowed = f p.answer p.kept p.allowed; spelled = p.spelled }

-- ---- files that are kept

pub none_of_map : {A B : Type 0} (f : A → B) (o : Option A) → option_map f o ≡ None → o ≡ None
none_of_map f None e = refl
none_of_map f (Some x) e = absurd (let no : Some (f x) ≡ None = e in cc)

-- a file that is kept has a prefix of its bytes: all of them
pub may_have_kept : (k : Option Kept) (before now : List FileEntry) → HasKept k before now → MayHaveKept k before now
may_have_kept None before now e = e
may_have_kept (Some k) before now h = record { this = inr (length k.bytes, h.this ∙ ap Some (sym (take_all (length k.bytes) k.bytes (omega arith)))); others = h.others }

-- what a refused keep leaves, whatever its trouble
pub any_trouble : (name bytes : List ℕ) (t : Trouble) (before now : List FileEntry) → Keeps name bytes (Err t) before now → Keeps name bytes (Err Failed) before now
any_trouble name bytes t before now h = record { this = h.this; others = h.others }

-- ---- outcomes

module _ (ws : List Word) (left : Option (List FileEntry)) (before now : Option (List ℕ)) where
  -- an outcome by the answer of the reply, and by how the files are left
  told_outcome : (R : List FileEntry → List FileEntry → Type 0) (n : ℕ) (files : Option (List FileEntry)) (r : Reply) (p : Replies (Allowed ws) files r) → Changes R files left
      → ((fs : List FileEntry) → Allowed ws fs p.answer p.kept → Changes R (Some fs) left → Outcome ws fs left before now n) → Told (λ fs. Outcome ws fs left before now n) files
  told_outcome R n None r p change f = tt
  told_outcome R n (Some fs) r p change f = f fs p.allowed change

  pub printed_whole : (files : Option (List FileEntry)) (r : Reply) → Replies (Allowed ws) files r → Changes (HasKept (option_map kept_of r.kept)) files left
      → Changes (Prints r.text.items (Ok tt)) before now → Told (λ fs. Outcome ws fs left before now r.status) files
  printed_whole files r p kept change =
      let made : Changes (Appended (text_of p.answer)) before now = subst (λ text. Changes (Appended text) before now) p.spelled.text change in
      let keeps : Changes (HasKept p.kept) files left = subst (λ k. Changes (HasKept k) files left) p.spelled.keeps kept in
      subst (λ n. Told (λ fs. Outcome ws fs left before now n) files) (sym p.spelled.status)
      (told_outcome (HasKept p.kept) (status_of p.answer) files r p keeps (λ fs allowed change. answered p.answer p.kept allowed change made))

  part_of : (bytes : List ℕ) (a b : Option (List ℕ)) → Changes (Prints bytes (Err Failed)) a b → (n : ℕ) × Changes (Appended (take n bytes)) a b
  part_of bytes None b c = (0, tt)
  part_of bytes (Some a) None c = absurd c
  part_of bytes (Some a) (Some b) c = c

  pub printed_part : (files : Option (List FileEntry)) (r : Reply) → Replies (Allowed ws) files r → Changes (HasKept (option_map kept_of r.kept)) files left
      → Changes (Prints r.text.items (Err Failed)) before now → Told (λ fs. Outcome ws fs left before now 6) files
  printed_part files r p kept change =
      let part = part_of (text_of p.answer) before now (subst (λ text. Changes (Prints text (Err Failed)) before now) p.spelled.text change) in
      let keeps : Changes (HasKept p.kept) files left = subst (λ k. Changes (HasKept k) files left) p.spelled.keeps kept in
      told_outcome (HasKept p.kept) 6 files r p keeps (λ fs allowed change. unprinted p.answer p.kept part.0 allowed change part.1)

  -- for want of memory nothing was printed; the file was kept, or a part of it, or nothing
  pub printed_nothing : (files : Option (List FileEntry)) (r : Reply) → Replies (Allowed ws) files r → Changes (MayHaveKept (option_map kept_of r.kept)) files left
      → Unchanged before now → Told (λ fs. Outcome ws fs left before now 7) files
  printed_nothing files r p kept same =
      let keeps : Changes (MayHaveKept p.kept) files left = subst (λ k. Changes (MayHaveKept k) files left) p.spelled.keeps kept in
      told_outcome (MayHaveKept p.kept) 7 files r p keeps (λ fs allowed change. no_memory_behind p.answer p.kept allowed change same)

  pub kept_and_printed_nothing : (files : Option (List FileEntry)) (r : Reply) → Replies (Allowed ws) files r → Changes (HasKept (option_map kept_of r.kept)) files left
      → Unchanged before now → Told (λ fs. Outcome ws fs left before now 7) files
  kept_and_printed_nothing files r p kept same =
      printed_nothing files r p (changes_map (HasKept (option_map kept_of r.kept)) (MayHaveKept (option_map kept_of r.kept)) files left (may_have_kept (option_map kept_of r.kept)) kept) same

  unkept_file : (a : Answer) (kept : Option Kept) (fs : List FileEntry) → kept ≢ None → Allowed ws fs a kept → Changes (MayHaveKept kept) (Some fs) left → Unchanged before now
      → Outcome ws fs left before now 6
  unkept_file a None fs some allowed change same = absurd (some refl)
  unkept_file a (Some k) fs some allowed change same = unkept a k allowed change same

  -- the keep failed
  pub kept_nothing : (files : Option (List FileEntry)) (r : Reply) → Replies (Allowed ws) files r → r.kept ≢ None
      → Changes (MayHaveKept (option_map kept_of r.kept)) files left → Unchanged before now → Told (λ fs. Outcome ws fs left before now 6) files
  kept_nothing files r p some kept same =
      let keeps : Changes (MayHaveKept p.kept) files left = subst (λ k. Changes (MayHaveKept k) files left) p.spelled.keeps kept in
      told_outcome (MayHaveKept p.kept) 6 files r p keeps (λ fs allowed change. unkept_file p.answer p.kept fs (λ none. some (none_of_map kept_of r.kept (p.spelled.keeps ∙ none))) allowed change same)

  -- nothing was kept and printed, for want of memory or after a failed fetch
  pub memory_outcome : (files : Option (List FileEntry)) → left ≡ files → now ≡ before → Told (λ fs. Outcome ws fs left before now 7) files
  memory_outcome None same quiet = tt
  memory_outcome (Some fs) same quiet = no_memory (unchanged (Some fs) left same) (unchanged before now quiet)

  pub unfetched_outcome : (files : Option (List FileEntry)) → left ≡ files → now ≡ before → Told (λ fs. Outcome ws fs left before now 5) files
  unfetched_outcome None same quiet = tt
  unfetched_outcome (Some fs) same quiet = unfetched (unchanged (Some fs) left same) (unchanged before now quiet)

-- ---- faults

-- a keep fails only where something is kept
pub keep_fails : (names : List Word) (r : Reply) (before now : Faults) → r.kept ≢ None → KeepsAmong names r → IfSome r.kept (λ k. IsFault Keep (string_bytes k.name) before now)
    → OutputFails names before now
keep_fails names r before now some k fault = of r.kept some k.named fault
  where
    of : (o : Option Keeping) → o ≢ None → IfSome o (λ k. Contains names (string_bytes k.name)) → IfSome o (λ k. IsFault Keep (string_bytes k.name) before now) → OutputFails names before now
    of None some named fault = absurd (some refl)
    of (Some k) some named fault = keep (string_bytes k.name) named fault
