-- From the run to the answer: the reader reads the spellings of candidates.
use Rattle.std.proofs.Common.{◌≡◌, List, [], ◌∷◌, ◌++◌, Option, Some, None, refl, ap, sym, ◌∙◌, subst, append_assoc, append-nil}
use Rattle.std.specs.Prelude.{ℕ}
use Rattle.axiom_model.specs.declared.Candidate.{Candidate}
use Rattle.c_check.specs.PlainNames.{HasPlainNames}
use Rattle.line_text.specs.Words.{Cut, cut, given}
use Rattle.line_text.specs.Lines.{Refuses}
use Rattle.line_text.proofs.Reading.{Reached, Reads, run}
use Rattle.line_text.proofs.Reading as reading
use Rattle.witness_text.specs.declared.lines.ThreadHead.{ThreadHead}
use Rattle.witness_text.specs.declared.reading.Stage.{Stage}
use Rattle.witness_text.specs.declared.reading.Stage.TheVariants.{Head, Between, Script, End}
use Rattle.witness_text.specs.declared.reading.Reading.{Reading}
use Rattle.witness_text.specs.Witness.{witness_lines}
use Rattle.witness_text.specs.Spelling.{NoPrefix, OneCandidate, Spells}
use Rattle.witness_text.specs.Machine.{ended, start, step}
use Rattle.witness_text.proofs.Completing.{begins_of, end_spells}
use Rattle.witness_text.proofs.Holding.{Holds, start_holds, state}
use Rattle.witness_text.proofs.Plain.{lines_plain}
use Rattle.witness_text.proofs.Reader.{reader}
use Rattle.witness_text.proofs.Running.{run_lines}
use Rattle.witness_text.proofs.Stepping.{step_holds}

run_holds : (fs cs : List (List ℕ)) (before lines : List (List ℕ)) (r s : Reading) → Holds fs cs before r → run (reader fs cs) r lines ≡ Some s → Holds fs cs (before ++ lines) s
run_holds fs cs before [] r s h e =
    let same : r ≡ s = cc in
    subst (Holds fs cs (before ++ [])) same (subst (λ l. Holds fs cs l r) (sym (append-nil before)) h)
run_holds fs cs before (l ∷ lines) r s h e = split (step fs cs r l) refl (λ t k g. run_holds fs cs (before ++ l ∷ []) lines t s (step_holds fs cs before r l t h k) g) e
  where
    split : (o : Option Reading) → step fs cs r l ≡ o → ((t : Reading) → step fs cs r l ≡ Some t → run (reader fs cs) t lines ≡ Some s → Holds fs cs ((before ++ l ∷ []) ++ lines) s)
        → given o (λ t. run (reader fs cs) t lines) ≡ Some s → Holds fs cs (before ++ l ∷ lines) s
    split None k more g = cc
    split (Some t) k more g = subst (λ x. Holds fs cs x s) (append_assoc before (l ∷ []) lines) (more t k g)

ran_holds : (fs cs lines : List (List ℕ)) (r : Reading) → run (reader fs cs) start lines ≡ Some r → Holds fs cs lines r
ran_holds fs cs lines r e = run_holds fs cs [] lines start r (start_holds fs cs) e

-- where a value is told, the last line was read
ended_at : (r : Reading) (rest : List ℕ) (c : Candidate) → ended r rest ≡ Some c → (r ≡ state End c) × (rest ≡ [])
ended_at r rest c e = at r.stage r.candidate rest e
  where
    at : (g : Stage) (d : Candidate) (t : List ℕ) → ended (state g d) t ≡ Some c → (state g d ≡ state End c) × (t ≡ [])
    at End d [] k = let same : d ≡ c = cc in (ap (state End) same, refl)
    at End d (x ∷ t) k = cc
    at Head d t k = cc
    at Between d t k = cc
    at (Script h) d t k = cc

reads : (fs cs : List (List ℕ)) → HasPlainNames fs cs → Reads (reader fs cs) (Spells fs cs)
reads fs cs names = record {
  read = λ c text s. record {
    lines = witness_lines fs cs c;
    all = s.spelled;
    whole = lines_plain fs cs c names s.numbers;
    last = state End c;
    ran = run_lines fs cs c names s.numbers s.spellable;
    value = refl;
  };
  begins = λ lines r e. begins_of fs cs lines r (ran_holds fs cs lines r e);
  spelled = λ lines r c e v. end_spells fs cs lines c (subst (Holds fs cs lines) (ended_at r [] c v).0 (ran_holds fs cs lines r e));
  ends = λ r c line v. ap (λ s. step fs cs s line) (ended_at r [] c v).0;
}

pub one_candidate : OneCandidate
one_candidate fs cs names = reading.one_value (reader fs cs) (Spells fs cs) (reads fs cs names)

pub no_proper_prefix : NoPrefix
no_proper_prefix fs cs names = reading.no_proper_prefix (reader fs cs) (Spells fs cs) (reads fs cs names)

pub refused_line : (fs cs : List (List ℕ)) (text rest : List ℕ) (r : Reading) (n : ℕ) (p : Cut) → HasPlainNames fs cs → Reached (reader fs cs) text rest r n → cut 10 rest ≡ Some p
    → step fs cs r p.front ≡ None → Refuses (Spells fs cs) text n
refused_line fs cs text rest r n p names h k e = (reading.refused_line (reader fs cs) (Spells fs cs) text rest r n p (reads fs cs names) h k e).refuses

pub refused_end : (fs cs : List (List ℕ)) (text rest : List ℕ) (r : Reading) (n : ℕ) → HasPlainNames fs cs → Reached (reader fs cs) text rest r n → cut 10 rest ≡ None → ended r rest ≡ None
    → Refuses (Spells fs cs) text n
refused_end fs cs text rest r n names h k e =
    reading.refused_end (reader fs cs) (Spells fs cs) text rest r n (reads fs cs names) h k (λ c v nil. let told : ended r [] ≡ None = subst (λ t. ended r t ≡ None) nil e in cc (told, v))

pub read_end : (fs cs : List (List ℕ)) (text rest : List ℕ) (r : Reading) (n : ℕ) (c : Candidate) → HasPlainNames fs cs → Reached (reader fs cs) text rest r n → ended r rest ≡ Some c → Spells fs cs c text
read_end fs cs text rest r n c names h e =
    let at = ended_at r rest c e in
    let told : ended r [] ≡ Some c = subst (λ t. ended r t ≡ Some c) at.1 e in
    reading.read_end (reader fs cs) (Spells fs cs) text rest r n c (reads fs cs names) h told at.1
