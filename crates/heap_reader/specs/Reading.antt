-- The reader, from docs/RULES.md, "The heap over an arena": "A reader over the arena yields one list's nodes in order, as `iter` does; it opens on a sound
-- heap only". A node is its address, and 0, which is no block's address, is "nothing".
use Rattle.std.specs.Prelude.{◌≡◌, true, false, List, [], ◌∷◌, ◌++◌, ℕ, zero, suc, ◌+◌, length, get_or, replicate}
use Rattle.answers.specs.declared.Refusal.TheVariants.{BadState}
use Rattle.answers.specs.Paper.{number_of}
use Rattle.linked_list.specs.Links.{next}
use Rattle.heap_state.specs.declared.Heap.{Heap}
use Rattle.heap_state.specs.Lists.{list}
use Rattle.heap_blocks.specs.Sound.{soundb}
use Rattle.heap_reader.specs.declared.Step.{Step}

abbrev pub nothing : ℕ → Step
nothing number = record { node = 0; at = 0; number = number }

-- a refused reader yields nothing; past the last node there is nothing; else the node, and the reader goes on to the node's link
unfoldable pub step_at : List ℕ → ℕ → ℕ → Step
step_at arena at (suc refusal) = nothing (suc refusal)
step_at arena zero zero = nothing 0
step_at arena (suc a) zero = record { node = suc a; at = next arena (suc a); number = 0 }

-- "It opens on a sound heap only", else number 3; a class without a list has no head
unfoldable pub start_of : Heap → List ℕ → List ℕ → ℕ → Step
start_of h arena ledger class = elim (soundb h arena ledger) [ true ↦ record { node = 0; at = get_or h.heads class 0; number = 0 } | false ↦ nothing (number_of BadState) ]

abbrev pub first_of : Heap → List ℕ → List ℕ → ℕ → Step
first_of h arena ledger class = step_at arena (start_of h arena ledger class).at (start_of h arena ledger class).number

-- the nodes of a class's list
abbrev pub list_of : Heap → List ℕ → ℕ → List ℕ
list_of h arena class = list class (record { heads = h.heads; arena = arena })

-- what a reader yields, turn by turn, in so many turns
unfoldable pub yielded : ℕ → List ℕ → ℕ → ℕ → List ℕ
yielded zero arena at number = []
yielded (suc turns) arena at number = (step_at arena at number).node ∷ yielded turns arena (step_at arena at number).at (step_at arena at number).number

-- ---- what is claimed, and proved in proofs/Yielding.antt

-- a reader of a sound heap yields the nodes of its list in order, and then nothing, however often it is asked
abbrev pub YieldsTheList : Type 0
YieldsTheList =
    (h : Heap) (arena ledger : List ℕ) (class after : ℕ) → soundb h arena ledger ≡ true
    → ((start_of h arena ledger class).number ≡ 0)
    × (yielded (length (list_of h arena class) + after) arena (start_of h arena ledger class).at (start_of h arena ledger class).number ≡ list_of h arena class ++ replicate after 0)

-- a reader of any other heap has the number of BAD_STATE, and yields nothing
abbrev pub YieldsNothing : Type 0
YieldsNothing =
    (h : Heap) (arena ledger : List ℕ) (class turns : ℕ) → soundb h arena ledger ≡ false
    → ((start_of h arena ledger class).number ≡ number_of BadState) × (yielded turns arena (start_of h arena ledger class).at (start_of h arena ledger class).number ≡ replicate turns 0)
