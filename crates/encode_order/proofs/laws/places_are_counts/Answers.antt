use Rattle.encode_order.proofs.Counting.{place_counted}
use Rattle.encode_order.proofs.laws.places_are_counts.Goals as goal

pub returns : goal.returns
returns c = place_counted
