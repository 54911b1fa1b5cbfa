-- The rules of the lists, from docs/RULES.md, "The heap over an arena", over the lists themselves: one list of addresses for each of the 33 classes.
use Rattle.std.specs.Prelude.{true, false, List, [], ◌∷◌, ℕ, zero, suc, ◌+◌, ◌-◌, ◌^◌, min, eqb, length, get_or, set, drop}
use Rattle.blocks.specs.Blocks.{buddy_of, piece_size, size_class}
use Rattle.linked_list.specs.Links.{compared}
use Rattle.linked_list.specs.Chains.{without}
use Rattle.heap_state.specs.Lists.{Memory, list, stands}

-- the lists of a memory, from class k on
abbrev pub lists_from : ℕ → ℕ → Memory → List (List ℕ)
lists_from zero k m = []
lists_from (suc n) k m = list k m ∷ lists_from n (suc k) m

unfoldable pub lists : Memory → List (List ℕ)
lists m = lists_from 33 0 m

abbrev pub of_class : ℕ → List (List ℕ) → List ℕ
of_class k ls = get_or ls k []

abbrev pub first : ℕ → List (List ℕ) → ℕ
first k ls = get_or (of_class k ls) 0 0

-- "Lists are last in, first out": a block is put in front, and the front one is taken
unfoldable pub push_l : ℕ → ℕ → List (List ℕ) → List (List ℕ)
push_l k a ls = set ls k (a ∷ of_class k ls)

unfoldable pub pop_l : ℕ → List (List ℕ) → List (List ℕ)
pop_l k ls = set ls k (drop 1 (of_class k ls))

-- a block is taken out, wherever it stands; the others keep their order
unfoldable pub remove_l : ℕ → ℕ → List (List ℕ) → List (List ℕ)
remove_l k a ls = set ls k (without a (of_class k ls))

-- ---- granting

-- the first class from k on, of n classes, that has a block; 33 where none has
abbrev pub serving_l : ℕ → ℕ → List (List ℕ) → ℕ
serving_l zero k ls = 33
serving_l (suc n) k ls = elim (eqb (length (of_class k ls)) 0) [ true ↦ serving_l n (suc k) ls | false ↦ k ]

-- "A split pushes the upper half, then the lower": the first block of class k + 1
unfoldable pub split_l : ℕ → List (List ℕ) → List (List ℕ)
split_l k ls = push_l k (first (suc k) ls) (push_l k (first (suc k) ls + 2 ^ k) (pop_l (suc k) ls))

-- n splits, down to class k
unfoldable pub split_down_l : ℕ → ℕ → List (List ℕ) → List (List ℕ)
split_down_l zero k ls = ls
split_down_l (suc n) k ls = split_down_l n k (split_l (k + n) ls)

-- a grant of class k that class j serves
unfoldable pub grant_l : ℕ → ℕ → List (List ℕ) → List (List ℕ)
grant_l j k ls = pop_l k (split_down_l (j - k) k ls)

-- ---- releasing
pub record ReleasedL : Type 0 where
  pub lists : List (List ℕ)
  pub nodes_compared : ℕ

-- "looks for its buddy from the head; both are taken out and the joined block is pushed one class up": the block of class k at a can go up so many
-- classes, and `before` nodes were compared before
unfoldable pub join_up_l : ℕ → ℕ → ℕ → ℕ → List (List ℕ) → ReleasedL
join_up_l zero k a before ls = record { lists = ls; nodes_compared = before }
join_up_l (suc above) k a before ls = elim (stands (buddy_of k a) (of_class k ls)) [
  | true ↦ join_up_l above (suc k) (min a (buddy_of k a)) (before + compared (buddy_of k a) (of_class k ls)) (push_l (suc k) (min a (buddy_of k a)) (remove_l k a (remove_l k (buddy_of k a) ls)))
  | false ↦ record { lists = ls; nodes_compared = before + compared (buddy_of k a) (of_class k ls) }
]

-- "A release pushes the block", and no block of the top class is joined
unfoldable pub release_l : ℕ → ℕ → ℕ → List (List ℕ) → ReleasedL
release_l top k a ls = join_up_l (top - k) k a 0 (push_l k a ls)

-- ---- adding: the pieces of n bytes from s on are pushed, one after the other
unfoldable pub add_l : ℕ → ℕ → ℕ → ℕ → List (List ℕ) → List (List ℕ)
add_l zero top s n ls = ls
add_l (suc turns) top s n ls = elim (eqb n 0) [
  | true ↦ ls
  | false ↦ add_l turns top (s + piece_size top s n) (n - piece_size top s n) (push_l (size_class (piece_size top s n)) s ls)
]
