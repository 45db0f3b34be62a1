use Rattle.std.proofs.Common.{◌≡◌, ◌≤◌, ℕ, List, [], ◌∷◌, ◌++◌, Some, length, drop, sym, ap, subst, ◌∙◌, arith}
use Rattle.std.specs.HashMap.{values}
use Rattle.c_token.specs.declared.search.Frame.{Frame}
use Rattle.c_token.specs.Macros.{all_at}
use Rattle.c_token.specs.Searching.{frames_of, uses_of, next_use, next_frame, Seeking}
use Rattle.c_token.specs.Seen.{token}
use Rattle.c_token.specs.Sieving.{State, state}
use Rattle.c_token.specs.Skimming.{bounded, ahead, extern_behind}
use Rattle.c_token.specs.Tables.{use_tokens, all_tokens}
use Rattle.c_token.proofs.Hunting.{next_is_below, got_within, reverse_last}
use Rattle.c_token.proofs.Passing.{seeks_left, seeks_next, next_closers, on_ok_thrice, no_word}
use Rattle.c_token.proofs.search.Search.go_on.Goals as goal

pub returns-in_default-clause-seeks : goal.returns-in_default-clause-seeks
returns-in_default-clause-seeks c = λ bodies holds w t s.
    let none = no_word token c.args.self.now.sieve.unsupported (sym c.is_some.ensures ∙ c.if-is_some.false) in
    on_ok_thrice c.leave.result _ _ _ _
    (λ sieve frames put.
    subst (λ (x : State). Seeking c.args.macros.now bodies c.args.place holds x (values c.leave.new.self.passages) (frames_of c.leave.new.self) 0 [] w) (sym (ap state sieve))
    (subst (λ (fs : List Frame). Seeking c.args.macros.now bodies c.args.place holds (state c.args.self.now.sieve) (values c.leave.new.self.passages) fs 0 [] w) (sym (ap (λ fs. frames_of (record c.args.self.now { frames = fs })) frames))
    (seeks_left c.args.macros.now bodies c.args.place holds (state c.args.self.now.sieve) (values c.args.self.now.passages) (values c.leave.new.self.passages) (frames_of c.args.self.now) w c.args.frame s none (sym c.in_default.ensures) put)))
    c.leave.ensures.sieve c.leave.ensures.frames (c.leave.ensures.passages bodies holds (state c.args.self.now.sieve).words)

pub closers_behind-requires : goal.closers_behind-requires
closers_behind-requires c = next_is_below c.args.macros.now c.args.frame c.in-Some.one c.requires.ordered (sym c.in-Some.ensures)

pub pass-requires : goal.pass-requires
pass-requires c = next_is_below c.args.macros.now c.args.frame c.in-Some.one c.requires.ordered (sym c.in-Some.ensures)

pub returns-clause-seeks : goal.returns-clause-seeks
returns-clause-seeks c = λ bodies holds w t s.
    let none = no_word token c.args.self.now.sieve.unsupported (sym c.is_some.ensures ∙ c.if-is_some.false) in
    let next : next_use c.args.macros.now c.args.frame ≡ Some c.in-Some.one = sym c.in-Some.ensures in
    let uses = uses_of c.args.macros.now c.args.frame.entry.number in
    let within = got_within uses c.args.frame.next c.in-Some.one next in
    let fits : c.in_ok-next.next ≤ length uses = omega (arith, within, c.in_ok-next.ensures) in
    let after = c.effects_left-after.ensures bodies t fits in
    let j = next_closers c.args.macros.now bodies (state c.args.self.now.sieve) c.args.frame c.in-Some.one in
    let held : c.args.frame.entry.behind ≡ bounded c.args.frame.entry.behind = omega arith in
    let known : c.in_ok-behind.behind ≡ bounded j =
    subst (λ (n : ℕ). c.in_ok-behind.behind ≡ bounded (ahead c.args.frame.entry.behind (extern_behind c.args.self.now.sieve.context.in_extern (use_tokens bodies c.in-Some.one)) (all_tokens bodies (drop n uses)))) c.in_ok-next.ensures
    (c.in_ok-behind.ensures bodies (all_tokens bodies (drop c.in_ok-next.next uses)) c.args.frame.entry.behind t after held) in
    let pushed = c.in_ok-push.ensures.items ∙ ap (λ (n : ℕ). c.args.self.now.frames.items ++ record { entry = c.args.frame.entry; next = n; count = c.args.frame.count } ∷ []) c.in_ok-next.ensures in
    c.pass.ensures.seeks bodies holds j w t (λ _. known)
    (subst (λ (fs : List Frame). Seeking c.args.macros.now bodies c.args.place holds (state c.args.self.now.sieve) (values c.args.self.now.passages) fs j (all_at c.args.place (use_tokens bodies c.in-Some.one)) w)
    (sym (reverse_last _ _ (next_frame c.args.frame) pushed))
    (seeks_next c.args.macros.now bodies c.args.place holds (state c.args.self.now.sieve) (values c.args.self.now.passages) (frames_of c.args.self.now) w c.args.frame c.in-Some.one s none next))
