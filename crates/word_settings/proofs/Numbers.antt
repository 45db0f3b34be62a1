-- The number that a getter reads of a text.
use Rattle.std.proofs.Common.{◌≡◌, ◌^◌, ℕ, Bool, true, false, List, Option, Some, None, Result, Ok, Err, refl, ap, subst, arith}
use Rattle.std.specs.Option.{option_map_or, unwrap_or}
use Rattle.std.specs.Result.{result_unwrap_or}
use Rattle.std.specs.Str.Parse.{ParsesUnsigned, digits_value, without_leading_plus}
use Rattle.clap.specs.Matches.{ReadsOne, one_text}
use Rattle.clap.specs.ValueTests.{is_unsigned_in}
use Rattle.clap.specs.declared.builder.value_parser.ValueParser.TheVariants.{Unsigned}
use Rattle.clap.proofs.ValueTestLemmas.{Accepts-accepts, accepts-Accepts}
use Rattle.clap.specs.Walk.{rows_of}
use Rattle.clap.specs.declared.parser.matches.Found.{Found}
use Rattle.clap.proofs.WalkLemmas.{one_text-rows}
use Rattle.word_settings.specs.Settings.{number_named, number_of}

-- a text as std parses it
pub number_parsed : {E : Type 0} (text : List ℕ) (r : Result ℕ E) → ParsesUnsigned 32 10 text r → result_unwrap_or r 0 ≡ number_named text
number_parsed text (Ok n) parsed =
    let accepted : is_unsigned_in 0 4294967295 text ≡ true = Accepts-accepts false (Unsigned 0 4294967295) text (parsed.0.0, omega arith, omega arith, omega arith) in
    rw accepted parsed.1
number_parsed text (Err e) parsed = go (is_unsigned_in 0 4294967295 text) refl
  where
    go : (b : Bool) → is_unsigned_in 0 4294967295 text ≡ b → 0 ≡ number_named text
    go false e = rw e refl
    go true e =
        let passed = accepts-Accepts false (Unsigned 0 4294967295) text e in
        absurd (parsed (passed.0, omega arith))

pub number_read : (E : Type 0) (G : List ℕ → Result ℕ E → Type 0) (text : List ℕ) (r : Option ℕ) → ReadsOne G text r
    → ((u : List ℕ) (x : Result ℕ E) → G u x → ParsesUnsigned 32 10 u x) → unwrap_or r 0 ≡ number_named text
number_read E G text (Some n) read only = number_parsed {E = E} text (Ok n) (only text (Ok n) read)
number_read E G text None read only = number_parsed {E = E} text (Err read.0) (only text (Err read.0) read.1)

-- the number that a getter reads of an argument
pub number_found : (E : Type 0) (G : List ℕ → Result ℕ E → Type 0) (f : Found) (id : List ℕ) (r : Option ℕ) → (one_text f id ≡ None → r ≡ None)
    → ((t : List ℕ) → one_text f id ≡ Some t → ReadsOne G t r) → ((u : List ℕ) (x : Result ℕ E) → G u x → ParsesUnsigned 32 10 u x)
    → unwrap_or r 0 ≡ number_of id (rows_of f)
number_found E G f id r none some only =
    subst (λ o. unwrap_or r 0 ≡ option_map_or number_named o 0) (one_text-rows f id) (go (one_text f id) refl)
  where
    go : (o : Option (List ℕ)) → one_text f id ≡ o → unwrap_or r 0 ≡ option_map_or number_named o 0
    go None e = ap (λ x. unwrap_or x 0) (none e)
    go (Some t) e = number_read E G t r (some t e) only
