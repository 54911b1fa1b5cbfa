-- What it is for links to be a list, without a bound on the walk, and the forms of the laws.
use Rattle.std.specs.Prelude.{◌≡◌, Bool, true, false, List, [], ◌∷◌, ℕ, ◌/◌, ◌<◌, eqb}
use Rattle.linked_list.specs.Links.{next, Links}

-- from the head the links go through these nodes, in order, and then to 0
unfoldable pub Chain : List ℕ → ℕ → List ℕ → Type 0
Chain arena head [] = head ≡ 0
Chain arena head (x ∷ xs) = (head ≡ x) × (x ≡ 0 → ⊥) × Chain arena (next arena x) xs

-- the same of what a call leaves
abbrev pub Lists : Links → List ℕ → Type 0
Lists links xs = Chain links.words links.head xs

-- no node has its link in this word
unfoldable pub Away : ℕ → List ℕ → Type 0
Away word [] = Unit {0}
Away word (x ∷ xs) = (x / 8 ≡ word → ⊥) × Away word xs

-- no two nodes of a list have their links in one word
unfoldable pub Distinct : List ℕ → Type 0
Distinct [] = Unit {0}
Distinct (x ∷ xs) = Away (x / 8) xs × Distinct xs

-- no node of one list has its link in the word of a node of the other
unfoldable pub Apart : List ℕ → List ℕ → Type 0
Apart [] ys = Unit {0}
Apart (x ∷ xs) ys = Away (x / 8) ys × Apart xs ys

-- each node has its link in one of the first words
unfoldable pub Within : ℕ → List ℕ → Type 0
Within words [] = Unit {0}
Within words (x ∷ xs) = (x / 8 < words) × Within words xs

abbrev pub pick_l : Bool → List ℕ → List ℕ → List ℕ
pick_l true xs ys = xs
pick_l false xs ys = ys

-- the list without the first of its nodes that is this one
unfoldable pub without : ℕ → List ℕ → List ℕ
without node [] = []
without node (x ∷ xs) = pick_l (eqb x node) xs (x ∷ without node xs)
