-- Where blocks end, place by place.
use Rattle.std.proofs.Common.{◌≡◌, ℕ, ◌+◌, ◌<◌, cond, nat_eq, List, length, take, get_or, ap, ◌∙◌, arith}
use Rattle.std.proofs.lemmas.List.{length-take-le, take_more}
use Rattle.memory_models.specs.declared.StaticEvent.{StaticEvent}
use Rattle.order_vars.specs.Atoms.{last_in}
use Rattle.order_vars.proofs.EventNodes.{last_push}

-- the last of a block among one more event
pub last_more : (es : List StaticEvent) (b i : ℕ) (d : StaticEvent) → i < length es
    → last_in b b 0 (take (i + 1) es) ≡ cond (nat_eq (get_or es i d).block b) i (last_in b b 0 (take i es))
last_more es b i d h =
    let long : 0 + length (take i es) ≡ i = omega (arith, length-take-le i es (omega arith)) in
    ap (λ z. last_in b b 0 z) (take_more es i d h) ∙ last_push b b 0 (take i es) (get_or es i d)
    ∙ ap (λ (k : ℕ). cond (nat_eq (get_or es i d).block b) k (last_in b b 0 (take i es))) long
