-- A ledger in order, as the functions of src/records.rt ask for it, and what they answer.
use Rattle.std.specs.Prelude.{◌≡◌, Bool, true, false, Option, Some, None, List, [], ◌∷◌, ℕ, suc, ◌≤◌, eqb, ltb, length, take, drop}
use Rattle.words.specs.Words.{zerosb}
use Rattle.ledger.specs.Ledger.{Grant, address, recordsb, ascendingb}

-- a ledger with so many records, of a heap of this ORDER
pub record Kept (order count : ℕ) (ledger : List ℕ) : Type 0 where
  pub room : count ≤ length ledger
  pub short : length ledger ≤ 65535
  pub fine : recordsb order (take count ledger) ≡ true
  pub ascending : ascendingb 0 (take count ledger) ≡ true
  pub zeros : zerosb (drop count ledger) ≡ true

-- the ORDER matters to the heap alone
abbrev pub InOrder : ℕ → List ℕ → Type 0
InOrder count ledger = (order : ℕ) × Kept order count ledger

-- the first granted block that passes a test
abbrev pub later : Option ℕ → Option ℕ
later (Some i) = Some (suc i)
later None = None

abbrev pub search : (Grant → Bool) → List Grant → Option ℕ
search p [] = None
search p (g ∷ gs) = elim (p g) [ true ↦ Some 0 | false ↦ later (search p gs) ]

abbrev pub is_at : Option ℕ → Bool
is_at (Some i) = true
is_at None = false

-- does it stand at this address?
abbrev pub stands_at : ℕ → Grant → Bool
stands_at a g = eqb (address g) a

-- how many of the first granted blocks stand below an address: of ascending ones, all that do
abbrev pub below : ℕ → List Grant → ℕ
below a [] = 0
below a (g ∷ gs) = elim (ltb (address g) a) [ true ↦ suc (below a gs) | false ↦ 0 ]
