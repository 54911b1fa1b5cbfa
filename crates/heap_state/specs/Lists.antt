-- The lists of a heap, from docs/RULES.md, "The heap over an arena": "Lists are last in, first out; a free block's first word holds the next address."
use Rattle.std.specs.Prelude.{Bool, true, false, List, ℕ, zero, suc, ◌+◌, ◌-◌, ◌^◌, min, eqb, ltb, length, get_or, set}
use Rattle.blocks.specs.Blocks.{buddy_of, piece_size, size_class}
use Rattle.linked_list.specs.Links.{next, nodes, pushed, removed, position, link_to, compared, Links}

-- the heads of the lists, and the words of the arena; an address is a byte offset, a word has 8 bytes
pub record Memory : Type 0 where
  pub heads : List ℕ
  pub arena : List ℕ

abbrev pub head : ℕ → Memory → ℕ
head k m = get_or m.heads k 0

-- the nodes of the list of class k, from its head on
abbrev pub list : ℕ → Memory → List ℕ
list k m = nodes (length m.arena) m.arena (head k m)

-- the list of class k as a call on it leaves it
abbrev pub with_list : ℕ → Links → Memory → Memory
with_list k l m = record { heads = set m.heads k l.head; arena = l.words }

-- a push writes the block's first word, and the block is the new head
unfoldable pub push : ℕ → ℕ → Memory → Memory
push k a m = with_list k (pushed (head k m) m.arena a) m

-- a pop, of a list that is not empty, writes nothing: the head's own link is the new head
unfoldable pub pop : ℕ → Memory → Memory
pop k m = record { heads = set m.heads k (next m.arena (head k m)); arena = m.arena }

abbrev pub stands : ℕ → List ℕ → Bool
stands a xs = ltb (position a xs) (length xs)

-- a node is taken out of its list: the link before it, a head or the word of the previous node, gets its own link
unfoldable pub remove : ℕ → ℕ → Memory → Memory
remove k a m = with_list k (removed (head k m) m.arena (link_to (position a (list k m)) (list k m)) a) m

-- ---- adding: the pieces of n bytes from s on, one after the other, each pushed
unfoldable pub push_all : ℕ → ℕ → ℕ → ℕ → Memory → Memory
push_all zero top s n m = m
push_all (suc turns) top s n m = elim (eqb n 0) [
  | true ↦ m
  | false ↦ push_all turns top (s + piece_size top s n) (n - piece_size top s n) (push (size_class (piece_size top s n)) s m)
]

-- ---- granting

-- the first class from k on, of n classes, that has a block; 33 where none has
abbrev pub first_class : ℕ → ℕ → Memory → ℕ
first_class zero k m = 33
first_class (suc n) k m = elim (eqb (head k m) 0) [ true ↦ first_class n (suc k) m | false ↦ k ]

-- "A split pushes the upper half, then the lower": the first block of class k + 1
unfoldable pub split : ℕ → Memory → Memory
split k m = push k (head (suc k) m) (push k (head (suc k) m + 2 ^ k) (pop (suc k) m))

-- n splits, down to class k
unfoldable pub split_down : ℕ → ℕ → Memory → Memory
split_down zero k m = m
split_down (suc n) k m = split_down n k (split (k + n) m)

-- ---- releasing: "A release pushes the block, then looks for its buddy from the head; both are taken out and the joined block is pushed one class up."
pub record Released : Type 0 where
  pub memory : Memory
  pub nodes_compared : ℕ

-- the block of class k at a is the first of its list, and can go up so many classes; `before` nodes were compared before
unfoldable pub join_up : ℕ → ℕ → ℕ → ℕ → Memory → Released
join_up zero k a before m = record { memory = m; nodes_compared = before }
join_up (suc above) k a before m = elim (stands (buddy_of k a) (list k m)) [
  | true ↦ join_up above (suc k) (min a (buddy_of k a)) (before + compared (buddy_of k a) (list k m)) (push (suc k) (min a (buddy_of k a)) (pop k (remove k (buddy_of k a) m)))
  | false ↦ record { memory = m; nodes_compared = before + compared (buddy_of k a) (list k m) }
]

unfoldable pub release : ℕ → ℕ → ℕ → Memory → Released
release top k a m = join_up (top - k) k a 0 (push k a m)
