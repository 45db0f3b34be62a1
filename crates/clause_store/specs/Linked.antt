use Rattle.std.specs.Prelude.{◌≡◌, ℕ, ◌+◌, ◌<◌, ◌≤◌, ◌⊎◌, List, [], ◌∷◌, ◌++◌, length, sum_by, slice_index, slice_index_or, Contains}

-- the number that ends a list
abbrev pub end_of_list : ℕ
end_of_list = 4294967295

-- watch lists: behind each link the next one of its list, the first link of each owner's list, and the owner of each link
pub record LinksView : Type 0 where
  pub next : List ℕ
  pub heads : List ℕ
  pub owner_of : List ℕ

-- from this link, the numbers in `next` lead through these links to the end
abbrev pub IsChain : List ℕ → ℕ → List ℕ → Type 0
IsChain next from [] = from ≡ end_of_list
IsChain next from (link ∷ links) = (from ≡ link) × (link < length next) × IsChain next (slice_index next link) links

-- the list of one owner
abbrev pub list_of : List (List ℕ) → ℕ → List ℕ
list_of lists owner = slice_index_or lists owner []

-- each owner's list is linked through `next` from its head, and so is the list that was taken out, from `at`; each link is in the list of its owner, or was taken out
pub record IsLinked (next heads owner_of : List ℕ) (at : ℕ) (out : List ℕ) (lists : List (List ℕ)) : Type 0 where
  pub owners : length lists ≡ length heads
  pub long : length owner_of ≡ length next
  pub chains : (o : ℕ) → o < length heads → IsChain next (slice_index heads o) (list_of lists o)
  pub out_chain : IsChain next at out
  pub owned : (o k : ℕ) → o < length heads → Contains (list_of lists o) k → slice_index owner_of k ≡ o
  pub apart : (o k : ℕ) → o < length heads → Contains (list_of lists o) k → ¬ Contains out k
  pub listed : (k : ℕ) → k < length next → Contains out k ⊎ ((slice_index owner_of k < length heads) × Contains (list_of lists (slice_index owner_of k)) k)
  pub total : sum_by length lists + length out ≡ length next

-- two links, of these owners, were put behind the others, each into its owner's list
pub record IsLaid (before : LinksView) (a b : ℕ) (after : LinksView) : Type 0 where
  pub next : length after.next ≡ length before.next + 2
  pub small : length after.next ≤ end_of_list
  pub heads : length after.heads ≡ length before.heads
  pub owners : after.owner_of ≡ before.owner_of ++ a ∷ b ∷ []
  pub linked : (lists : List (List ℕ)) → IsLinked before.next before.heads before.owner_of end_of_list [] lists
      → (more : List (List ℕ)) × IsLinked after.next after.heads after.owner_of end_of_list [] more
