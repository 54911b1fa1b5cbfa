-- Lists over an arena, from docs/RULES.md, "The heap over an arena": "an address is a byte offset in it; 0 is null. Lists are last in, first out; a
-- free block's first word holds the next address." A word outside the arena reads as 0, and a store there does nothing.
use Rattle.std.specs.Prelude.{◌≡◌, Bool, true, false, Option, Some, None, List, [], ◌∷◌, ℕ, zero, suc, ◌/◌, min, eqb, ltb, length, get_or, set}
use Rattle.linked_list.specs.declared.Previous.{Previous}
use Rattle.linked_list.specs.declared.Previous.TheVariants.{Head, Word}
use Rattle.linked_list.specs.declared.Search.{Search}
use Rattle.linked_list.specs.declared.Taken.{Taken}

-- the address in a node's word, and the arena with another address there
abbrev pub next : List ℕ → ℕ → ℕ
next arena node = get_or arena (node / 8) 0

abbrev pub linked : List ℕ → ℕ → ℕ → List ℕ
linked arena node link = set arena (node / 8) link

-- "0 is null"
abbrev pub empty : ℕ → Bool
empty head = eqb head 0

-- the nodes that `iter` yields from a head on, at most so many
unfoldable pub nodes : ℕ → List ℕ → ℕ → List ℕ
nodes zero arena head = []
nodes (suc most) arena zero = []
nodes (suc most) arena (suc a) = suc a ∷ nodes most arena (next arena (suc a))

-- ---- what a call leaves: the head of the list, and every word of the arena

pub record Links : Type 0 where
  pub head : ℕ
  pub words : List ℕ

pub record Left (links : Links) (head : ℕ) (words : List ℕ) : Type 0 where
  pub head_is : head ≡ links.head
  pub words_are : words ≡ links.words

-- "last in, first out": the item is the new head, and the old head is its link
abbrev pub pushed : ℕ → List ℕ → ℕ → Links
pushed head arena item = record { head = item; words = linked arena item head }

-- "`pop` answers a block or nothing": the head, with the head that is left
abbrev pub popped : ℕ → List ℕ → Option Taken
popped zero arena = None
popped (suc a) arena = Some (record { block = suc a; head = next arena (suc a) })

-- by the place of the previous link, a head or a word: the node's own link is put there
abbrev pub removed : ℕ → List ℕ → Previous → ℕ → Links
removed head arena Head node = record { head = next arena node; words = arena }
removed head arena (Word before) node = record { head = head; words = linked arena before (next arena node) }

-- ---- what a search answers, by the position of the node

abbrev pub pick_n : Bool → ℕ → ℕ → ℕ
pick_n true m n = m
pick_n false m n = n

-- where a node first stands in a list; the list's length where it does not
unfoldable pub position : ℕ → List ℕ → ℕ
position wanted [] = zero
position wanted (x ∷ xs) = pick_n (eqb x wanted) zero (suc (position wanted xs))

-- the place of the link to the node at a position; past the last node, of the last link
abbrev pub link_to : ℕ → List ℕ → Previous
link_to zero xs = Head
link_to (suc i) xs = Word (get_or xs i 0)

-- the nodes before it count, and so does the node itself where it is found; all count where it is not there
abbrev pub compared : ℕ → List ℕ → ℕ
compared wanted xs = min (suc (position wanted xs)) (length xs)

abbrev pub searched : ℕ → List ℕ → Search
searched wanted xs =
    record {
      found = ltb (position wanted xs) (length xs);
      previous = link_to (position wanted xs) xs;
      compared = compared wanted xs;
    }
