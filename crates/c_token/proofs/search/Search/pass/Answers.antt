use Rattle.std.proofs.Common.{List, sym, ap, subst, ◌∙◌, nat_lt}
use Rattle.std.specs.HashMap.{values}
use Rattle.token_list.specs.declared.Token.{Token}
use Rattle.c_token.specs.declared.macros.Use.{Use}
use Rattle.c_token.specs.Macros.{put_at, all_at}
use Rattle.c_token.specs.Searching.{frames_of, Seeking}
use Rattle.c_token.specs.Seen.{token}
use Rattle.c_token.specs.Sieving.{state, feed}
use Rattle.c_token.specs.Tables.{use_tokens}
use Rattle.c_token.proofs.Passing.{seeks_fed, tokens_at, on_ok, no_word}
use Rattle.c_token.proofs.search.Search.pass.Goals as goal

pub returns-in-Plain-clause-seeks : goal.returns-in-Plain-clause-seeks
returns-in-Plain-clause-seeks c = λ bodies holds j w t b s.
    let none = no_word token c.args.self.now.sieve.unsupported (sym c.is_some.ensures ∙ c.if-is_some.false) in
    let here = subst (λ (u : Use). Seeking c.args.macros.now bodies c.args.place holds (state c.args.self.now.sieve) (values c.args.self.now.passages) (frames_of c.args.self.now) j (all_at c.args.place (use_tokens bodies u)) w) c.in-Plain.is s in
    on_ok c.feed.result _ _
    (λ is.
    seeks_fed c.args.macros.now bodies c.args.place holds (state c.args.self.now.sieve) (state c.feed.new.self) (values c.args.self.now.passages) (frames_of c.args.self.now) j c.args.behind (put_at c.args.place (token c.in-Plain.word)) w here none (b none)
    (is ∙ ap (feed (nat_lt 0 c.args.behind) (state c.args.self.now.sieve)) c.at.ensures))
    c.feed.ensures

pub returns-in-Macro-clause-seeks : goal.returns-in-Macro-clause-seeks
returns-in-Macro-clause-seeks c = λ bodies holds j w t b s.
    let none = no_word token c.args.self.now.sieve.unsupported (sym c.is_some.ensures ∙ c.if-is_some.false) in
    let here = subst (λ (u : Use). Seeking c.args.macros.now bodies c.args.place holds (state c.args.self.now.sieve) (values c.args.self.now.passages) (frames_of c.args.self.now) j (all_at c.args.place (use_tokens bodies u)) w) c.in-Macro.is s in
    c.enter.ensures.seeks bodies holds j w t (b none) none
    (subst (λ (us : List Token). Seeking c.args.macros.now bodies c.args.place holds (state c.args.self.now.sieve) (values c.args.self.now.passages) (frames_of c.args.self.now) j us w) (tokens_at bodies c.args.place c.in-Macro.field-1 c.in-Macro.number) here)
