use Rattle.std.proofs.Common.{◌≡◌, List, IfOk, map, subst, ap, ◌∙◌}
use Rattle.dg_base.specs.declared.Place.{Place}
use Rattle.c_token.specs.declared.segments.Part.{Part}
use Rattle.c_token.specs.Macros.{nothing_read, read}
use Rattle.c_token.specs.Pieces.{all_segments, beginning, behind}
use Rattle.c_token.specs.Seen.{segment}
use Rattle.c_token.specs.Tokens.{tokens_read}
use Rattle.c_token.proofs.Answering.{segments_are}
use Rattle.c_token.proofs.lexer.read_tokens.Goals as goal

pub returns-in-Ok : goal.returns-in-Ok
returns-in-Ok c =
    let end = behind beginning c.args.text.now in
    let there : tokens_read c.behind-end.result (read nothing_read (map segment c.as_slice.result.now)) ≡ tokens_read end (read nothing_read (map segment c.in-Ok.parts)) =
    ap (λ (p : Place). tokens_read p (read nothing_read (map segment c.as_slice.result.now))) c.behind-end.ensures
    ∙ ap (λ (ps : List Part). tokens_read end (read nothing_read (map segment ps))) c.as_slice.ensures in
    subst (λ x. IfOk c.tokens_in.result (λ a. a ≡ x)) (there ∙ segments_are end (map segment c.in-Ok.parts) (all_segments c.args.text.now) c.in-Ok.ensures) c.tokens_in.ensures

pub returns-in-Err : goal.returns-in-Err
returns-in-Err c = c.refused.ensures (behind beginning c.args.text.now) (all_segments c.args.text.now) c.in-Err.ensures
