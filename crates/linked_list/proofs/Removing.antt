-- A node taken out of a chain: the list that comes out has the others in their order. Assumes nothing.
use mathlib.Core.Path.{◌≡◌, refl, sym, ap, ◌∙◌, subst}
use mathlib.Core.List.{List, [], ◌∷◌, ◌++◌, append_assoc}
use Prim.Native.Nat.{ℕ, zero, suc, ◌/◌, ◌<◌, ◌≤◌}
use native.Mathlib.Nat.{not-suc-le-zero}
use native.Mathlib.Decide.{dec_le}
use native.Mathlib.Omega.{arith}
use lib.ListN.{length, get_or, length-append, get_or-eq_default}
use lib.Seq.{get_or-set_same, get_or-set_other, get_or-append_seam}
use Rattle.linked_list.specs.Links.{next, linked, removed, link_to}
use Rattle.linked_list.specs.Chains.{Chain, Lists, Away, Apart}
use Rattle.linked_list.specs.declared.Previous.TheVariants.{Word}
use Rattle.linked_list.proofs.Chains.{frame, distinct, distinct-at}

-- a node that has a next one lies in the arena
inside : (arena : List ℕ) (p : ℕ) → (next arena p ≡ 0 → ⊥) → p / 8 < length arena
inside arena p some =
    elim (dec_le (suc (p / 8)) (length arena)) [
      | yes l ↦ l
      | no q ↦ absurd (some (get_or-eq_default arena 0 (omega arith)))
    ]

module _ (arena : List ℕ) (p b : ℕ) (zs : List ℕ) where
  past : (head : ℕ) (ys : List ℕ) → Chain arena head (ys ++ p ∷ b ∷ zs) → Away (p / 8) ys → Away (p / 8) (b ∷ zs) →
      Chain (linked arena p (next arena b)) head (ys ++ p ∷ zs)
  unfolding Chain Away
  past head [] c before after =
      let here : p / 8 < length arena = inside arena p (λ e. c.2.1 (sym c.2.0 ∙ e)) in
      let e : next (linked arena p (next arena b)) p ≡ next arena b = get_or-set_same arena (p / 8) (next arena b) 0 here in
      (c.0, c.1, rw e (frame arena (next arena b) (p / 8) (next arena b) zs c.2.2 after.1))
  past head (y ∷ ys) c before after =
      let e : next (linked arena p (next arena b)) y ≡ next arena y = get_or-set_other arena (p / 8) (y / 8) (next arena b) 0 before.0 in
      (c.0, c.1, rw e (past (next arena y) ys c.2 before.1 after))

  -- the node after p is taken out by p's word
  pub unlink-word : (head : ℕ) (ys : List ℕ) → Chain arena head (ys ++ p ∷ b ∷ zs) → Chain (linked arena p (next arena b)) head (ys ++ p ∷ zs)
  unlink-word head ys c =
      let d = distinct-at p ys (b ∷ zs) (distinct arena head (ys ++ p ∷ b ∷ zs) c) in
      past head ys c d.0 d.1

-- a list with a node has a last one
record Last (xs : List ℕ) : Type 0 where
  front : List ℕ
  last : ℕ
  is : xs ≡ front ++ last ∷ []

last_of : (x : ℕ) (xs : List ℕ) → Last (x ∷ xs)
last_of x [] = record { front = []; last = x; is = refl }
last_of x (y ∷ ys) =
    let rest = last_of y ys in
    record { front = x ∷ rest.front; last = rest.last; is = ap {B = List ℕ} (λ l. x ∷ l) rest.is }

abbrev Unlinks : List ℕ → ℕ → ℕ → List ℕ → List ℕ → Type 0
Unlinks arena head b zs us =
    Chain arena head (us ++ b ∷ zs) → Lists (removed head arena (link_to (length us) (us ++ b ∷ zs)) b) (us ++ zs)

link-last : (p : ℕ) (ys zs : List ℕ) → link_to (length (ys ++ p ∷ [])) ((ys ++ p ∷ []) ++ zs) ≡ Word p
link-last p ys zs =
    let l : length (ys ++ p ∷ []) ≡ suc (length ys) = length-append ys (p ∷ []) ∙ omega arith in
    rw (l, append_assoc, get_or-append_seam ys p zs 0)

unlink-last : (arena : List ℕ) (head p b : ℕ) (ys zs : List ℕ) → Unlinks arena head b zs (ys ++ p ∷ [])
unlink-last arena head p b ys zs c =
    let d : Chain arena head (ys ++ p ∷ b ∷ zs) = rw append_assoc at c in
    rw (link-last p ys (b ∷ zs), append_assoc) (unlink-word arena p b zs head ys d)

-- the node at a position, taken out by the place of the link to it
pub unlink-chain : (arena : List ℕ) (head node : ℕ) (us zs : List ℕ) → Chain arena head (us ++ node ∷ zs) →
    Lists (removed head arena (link_to (length us) (us ++ node ∷ zs)) node) (us ++ zs)
unfolding Chain
unlink-chain arena head node [] zs c = c.2
unlink-chain arena head node (y ∷ us) zs c =
    let l = last_of y us in
    subst (Unlinks arena head node zs) (sym l.is) (unlink-last arena head l.last node l.front zs) c

apart-at : (xs ys : List ℕ) (i : ℕ) → i < length xs → Apart xs ys → Away (get_or xs i 0 / 8) ys
unfolding Apart
apart-at [] ys i h d = absurd (not-suc-le-zero h)
apart-at (x ∷ xs) ys zero h d = d.0
apart-at (x ∷ xs) ys (suc i) h d = apart-at xs ys i (omega arith) d.1

-- a removal from one list changes no list that is apart from it
pub unlink-frame : (arena : List ℕ) (head other node i : ℕ) (xs ys : List ℕ) → Chain arena other ys → Apart xs ys → i ≤ length xs →
    Chain (removed head arena (link_to i xs) node).words other ys
unlink-frame arena head other node zero xs ys c d h = c
unlink-frame arena head other node (suc i) xs ys c d h =
    frame arena other (get_or xs i 0 / 8) (next arena node) ys c (apart-at xs ys i h d)
