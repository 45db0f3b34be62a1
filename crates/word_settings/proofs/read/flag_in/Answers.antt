use Rattle.std.proofs.Common.{◌∙◌, ap, codes, false, sym}
use Rattle.std.specs.Option.{option_map, option_map_or}
use Rattle.std.specs.Str.{bytes_eq}
use Rattle.word_settings.proofs.read.flag_in.Goals as goal

pub returns-in-Some : goal.returns-in-Some
returns-in-Some c = c.eq.ensures ∙ ap (λ o. option_map_or (λ w. bytes_eq w (codes "true")) o false) (sym (ap (option_map (λ s. s.now)) c.in-Some.is) ∙ c.text_in.ensures)

pub returns-in-None : goal.returns-in-None
returns-in-None c = ap (λ o. option_map_or (λ w. bytes_eq w (codes "true")) o false) (sym (ap (option_map (λ s. s.now)) c.in-None.is) ∙ c.text_in.ensures)
