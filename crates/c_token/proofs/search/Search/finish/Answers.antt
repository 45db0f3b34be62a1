use Rattle.std.proofs.Common.{◌≡◌, ◌<◌, ◌-◌, [], List, take, reverse, sym, ap, subst, ◌∙◌, append-nil}
use Rattle.c_token.specs.declared.search.Frame.{Frame}
use Rattle.c_token.specs.Searching.{frames_of, FramesFit, Seeking}
use Rattle.c_token.specs.Sieving.{state}
use Rattle.std.specs.HashMap.{values}
use Rattle.c_token.proofs.Hunting.{base_of, base_large, weight, weight_gone_on, frames_gone_on, reverse_last}
use Rattle.c_token.proofs.search.Search.finish.Goals as goal

pub loop-frame-smaller : goal.loop-frame-smaller
loop-frame-smaller c =
    let popped = reverse_last _ _ c.in-Some.frame c.in-Some.ensures.items in
    let fit = subst (FramesFit c.args.macros.now) popped c.loop-frame.invariant.fit in
    let less = weight_gone_on (base_of c.args.macros.now) c.args.macros.now c.in-Some.frame _ _ (base_large c.args.macros.now) c.requires.ordered fit.0 c.in_ok-go_on.ensures.frames in
    subst (λ (fs : List Frame). weight (base_of c.args.macros.now) c.args.macros.now (frames_of c.go_on.new.self) < weight (base_of c.args.macros.now) c.args.macros.now fs) (sym popped) less

pub loop-frame-preserved : goal.loop-frame-preserved
loop-frame-preserved c =
    let popped = reverse_last _ _ c.in-Some.frame c.in-Some.ensures.items in
    let fit = subst (FramesFit c.args.macros.now) popped c.loop-frame.invariant.fit in
    record {
      fit = frames_gone_on c.args.macros.now c.in-Some.frame _ _ fit.1 c.in_ok-go_on.ensures.frames;
      seeks = λ bodies holds w t s.
          c.in_ok-go_on.ensures.seeks bodies holds w t
          (subst (λ (fs : List Frame). Seeking c.args.macros.now bodies c.args.place holds (state c.loop-frame.self.sieve) (values c.loop-frame.self.passages) fs 0 [] w) popped
          (c.loop-frame.invariant.seeks bodies holds w t s));
    }

pub returns : goal.returns
returns c =
    let nil : c.pop.new.self.items ≡ [] = c.in_default.ensures.rest ∙ ap (λ n. take (n - 1) c.loop-frame.self.frames.items) c.in_default.ensures.cases.0 in
    let same = c.in_default.ensures.items ∙ append-nil c.pop.new.self.items in
    record {
      frames = ap reverse nil;
      seeks = λ bodies holds w t s.
          subst (λ (is : List Frame). Seeking c.args.macros.now bodies c.args.place holds (state c.loop-frame.self.sieve) (values c.loop-frame.self.passages) (reverse is) 0 [] w) same
          (c.loop-frame.invariant.seeks bodies holds w t s);
    }
