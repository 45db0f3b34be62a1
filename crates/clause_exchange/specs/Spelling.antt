-- How a row spells entries in words.
use Rattle.std.specs.Prelude.{◌≡◌, ℕ, ◌+◌, ◌-◌, ◌*◌, ◌/◌, ◌<◌, ◌≤◌, List, [], ◌∷◌, ◌++◌, map, length, Contains, slice_get, Some, nat_lt, if◌then◌else◌}
use Rattle.dg_base.specs.declared.Lit.{Lit}
use Rattle.search_core.specs.declared.Entry.{Entry}
use Rattle.clause_exchange.specs.declared.rule.Received.{Received}

-- what a row tells of an entry
abbrev pub received_of : Entry → Received
received_of e = record { ticket = e.ticket; lits = e.lemma.lits }

abbrev pub all_received : List Entry → List Received
all_received es = map received_of es

-- a word per two literals
abbrev pub spelled_lits : List Lit → List ℕ
spelled_lits [] = []
spelled_lits (a ∷ []) = a.0 ∷ []
spelled_lits (a ∷ b ∷ lits) = (a.0 + 4294967296 * b.0) ∷ spelled_lits lits

-- the head word, then the literals
abbrev pub spelled_entry : Received → List ℕ
spelled_entry h = (64 * h.ticket + length h.lits) ∷ spelled_lits h.lits

abbrev pub spelled : List Received → List ℕ
spelled [] = []
spelled (h ∷ hs) = spelled_entry h ++ spelled hs

-- the entry can be told from its words: a ticket and codes below 2 ^ 32, and at most 32 literals
pub record IsPlain (h : Received) : Type 0 where
  pub small : h.ticket < 4294967296
  pub few : length h.lits ≤ 32
  pub codes : (l : Lit) → Contains h.lits l → l.0 < 4294967296

-- the first entries, as far as they end within so many words
abbrev pub whole_within : ℕ → List Received → List Received
whole_within m [] = []
whole_within m (h ∷ hs) = if nat_lt m (length (spelled_entry h)) then [] else h ∷ whole_within (m - length (spelled_entry h)) hs

-- each code is below 2 ^ 32
abbrev pub AreCodes : List Lit → Type 0
AreCodes lits = (k : ℕ) (l : Lit) → slice_get lits k ≡ Some l → l.0 < 4294967296

-- so many words spell an entry with so many literals
abbrev pub entry_size : ℕ → ℕ
entry_size lits = 1 + (lits + 1) / 2
