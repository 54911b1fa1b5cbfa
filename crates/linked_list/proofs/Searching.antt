-- A search node by node, as the loop goes, and that it answers by position. Assumes nothing.
use mathlib.Core.Path.{◌≡◌, refl, sym, ◌∙◌}
use mathlib.Core.Bool.{Bool, true, false}
use mathlib.Core.List.{List, [], ◌∷◌}
use Prim.Native.Nat.{ℕ, zero, suc, ◌+◌, min}
use native.Mathlib.Omega.{arith}
use lib.Dec.{eqb, ltb, leb-suc-suc}
use lib.ListN.{length, get_or}
use borrow.Author.Tests.{lt-ltb, eq-eqb, ne_eqb}
use Rattle.linked_list.specs.Links.{pick_n, position, link_to, compared, searched}
use Rattle.linked_list.specs.declared.Previous.{Previous}
use Rattle.linked_list.specs.declared.Previous.TheVariants.{Head, Word}
use Rattle.linked_list.specs.declared.Search.{Search}

abbrev pick_s : Bool → Search → Search → Search
pick_s true s t = s
pick_s false s t = t

-- the search among the nodes that are left, with the place of the last link and the count so far
unfoldable pub along : ℕ → Previous → ℕ → List ℕ → Search
along wanted previous n [] = record { found = false; previous = previous; compared = n }
along wanted previous n (x ∷ xs) =
    pick_s (eqb x wanted) (record { found = true; previous = previous; compared = n + 1 }) (along wanted (Word x) (n + 1) xs)

-- the place of the link to the node at a position, where the link to the first is at a place of its own
abbrev from : Previous → ℕ → List ℕ → Previous
from previous zero xs = previous
from previous (suc i) xs = Word (get_or xs i 0)

from_cons : (previous : Previous) (x i : ℕ) (xs : List ℕ) → from (Word x) i xs ≡ from previous (suc i) (x ∷ xs)
from_cons previous x zero xs = refl
from_cons previous x (suc i) xs = refl

from-head : (i : ℕ) (xs : List ℕ) → from Head i xs ≡ link_to i xs
from-head zero xs = refl
from-head (suc i) xs = refl

answer : {t t' : Bool} {p p' : Previous} {n n' : ℕ} → t ≡ t' → p ≡ p' → n ≡ n' → ◌≡◌ {A = Search} (record { found = t; previous = p; compared = n }) (record { found = t'; previous = p'; compared = n' })
answer e f g = λ i. record { found = e i; previous = f i; compared = g i }

-- one node more before a list whose search is known; the test of that node is any Bool
along-cons : (t : Bool) (previous : Previous) (n x q : ℕ) (xs : List ℕ) (rest : Search) →
    rest ≡ record { found = ltb q (length xs); previous = from (Word x) q xs; compared = n + 1 + min (suc q) (length xs) } →
    pick_s t (record { found = true; previous = previous; compared = n + 1 }) rest
    ≡ record {
      found = ltb (pick_n t zero (suc q)) (suc (length xs));
      previous = from previous (pick_n t zero (suc q)) (x ∷ xs);
      compared = n + min (suc (pick_n t zero (suc q))) (suc (length xs));
    }
along-cons true previous n x q xs rest e = answer (sym (lt-ltb zero (suc (length xs)) (omega arith))) refl (omega arith)
along-cons false previous n x q xs rest e = e ∙ answer (sym (leb-suc-suc (suc q) (length xs))) (from_cons previous x q xs) (omega arith)

along-is : (wanted : ℕ) (previous : Previous) (n : ℕ) (xs : List ℕ) → along wanted previous n xs
    ≡ record { found = ltb (position wanted xs) (length xs); previous = from previous (position wanted xs) xs; compared = n + compared wanted xs }
unfolding along position
along-is wanted previous n [] = answer refl refl (omega arith)
along-is wanted previous n (x ∷ xs) =
    along-cons (eqb x wanted) previous n x (position wanted xs) xs (along wanted (Word x) (n + 1) xs) (along-is wanted (Word x) (n + 1) xs)

pub search_is : (wanted : ℕ) (xs : List ℕ) → along wanted Head 0 xs ≡ searched wanted xs
search_is wanted xs = along-is wanted Head 0 xs ∙ answer refl (from-head (position wanted xs) xs) (omega arith)

-- ---- the search at the loop's numbers

module _ (wanted : ℕ) (s : Search) (all : List ℕ) where
  pub search-end : all ≡ [] → s.found ≡ false → along wanted s.previous s.compared all ≡ s
  unfolding along
  search-end e f = rw e (answer (sym f) refl refl)

  module _ (x : ℕ) (rest : List ℕ) (is : all ≡ x ∷ rest) where
    pub search-hit : x ≡ wanted → along wanted s.previous s.compared all ≡ record { found = true; previous = s.previous; compared = s.compared + 1 }
    unfolding along
    search-hit e = rw (is, eq-eqb x wanted e)

    pub search-miss : (x ≡ wanted → ⊥) → along wanted s.previous s.compared all ≡ along wanted (Word x) (s.compared + 1) rest
    unfolding along
    search-miss q = rw (is, ne_eqb x wanted q)
