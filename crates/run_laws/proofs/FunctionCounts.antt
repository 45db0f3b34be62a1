-- What functions come to, by their numbers among the functions.
use Rattle.std.proofs.Common.{◌≡◌, ℕ, suc, Some, ap}
use Rattle.std.specs.Prelude.{slice_get}
use Rattle.c_tree.specs.declared.program.Function.{Function}
use Rattle.c_rules.specs.Names.{Name, functions_of}
use Rattle.c_rules.specs.Walk.{walk_body}
use Rattle.c_check.specs.declared.checked.Checked.{Checked}
use Rattle.c_check.specs.declared.counts.Counts.{Counts}
use Rattle.c_check.specs.Counts.{exact, top_before, counts_walk, item_counts, at_number, counts_named, counts_within}
use Rattle.run_model.specs.Names.{first_named}
use Rattle.run_model.proofs.Fuel.{number_in, stands_at, stands_for}

module _ (p : Checked) where
  -- what the function of a number comes to, where calls lead over at most m functions
  abbrev pub counts_for : ℕ → ℕ → Counts
  counts_for m f = counts_within m p.k p.program.items (number_in p.program.items f)

  -- what the function of a name comes to
  abbrev pub bodies : ℕ → Name → Counts
  bodies m = counts_named (counts_within m p.k p.program.items) p.program.items

  -- a function's body, where its calls come to this with fuel m
  abbrev pub body_counts : ℕ → ℕ → Function → Counts
  body_counts m f h = walk_body (counts_walk exact p.k (bodies m)) (top_before p.program.items (number_in p.program.items f)) h

  pub named_counts : (n : Name) (m f : ℕ) → first_named (λ (h : Function). h.name) 0 (functions_of p.program.items) n ≡ Some f → bodies m n ≡ counts_for m f
  named_counts n m f e = ap (at_number (counts_within m p.k p.program.items)) (stands_for n p.program.items f e)

  pub counts_are : (m f : ℕ) (h : Function) → slice_get (functions_of p.program.items) f ≡ Some h → counts_for (suc m) f ≡ body_counts m f h
  counts_are m f h e = ap (item_counts exact p.k (bodies m) (top_before p.program.items (number_in p.program.items f))) (stands_at p.program.items f h e)
