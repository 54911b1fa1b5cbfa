-- What a search says of the list: where the node stands, and what is left without it. Assumes nothing.
use mathlib.Core.Path.{◌≡◌, refl, ap, ap₂}
use mathlib.Core.Bool.{Bool, true, false}
use mathlib.Core.List.{List, [], ◌∷◌, ◌++◌}
use Prim.Native.Nat.{ℕ, zero, suc, ◌/◌, ◌<◌, ◌≤◌}
use native.Mathlib.Nat.{not-suc-le-zero}
use native.Mathlib.Omega.{arith}
use lib.Dec.{eqb}
use lib.ListN.{length, length-append}
use borrow.Author.Tests.{eqb-true, eq-eqb, ne_eqb, ltb-true, ltb-false, lt-ltb}
use Rattle.linked_list.specs.Links.{pick_n, position, link_to, compared, searched, removed}
use Rattle.linked_list.specs.Chains.{Chain, Lists, Away, without}
use Rattle.linked_list.proofs.Chains.{distinct, distinct-at}
use Rattle.linked_list.proofs.Removing.{unlink-chain}

-- a list at the first of its nodes that is this one
pub record Split (node : ℕ) (xs : List ℕ) : Type 0 where
  pub before : List ℕ
  pub after : List ℕ
  pub is : xs ≡ before ++ node ∷ after
  pub at : position node xs ≡ length before
  pub rest : without node xs ≡ before ++ after

split-here : (node x : ℕ) (xs : List ℕ) → eqb x node ≡ true → Split node (x ∷ xs)
unfolding position without
split-here node x xs e = record { before = []; after = xs; is = rw (eqb-true x node e); at = rw e; rest = rw e }

split-later : (node x : ℕ) (xs : List ℕ) → eqb x node ≡ false → Split node xs → Split node (x ∷ xs)
unfolding position without
split-later node x xs e s =
    record {
      before = x ∷ s.before;
      after = s.after;
      is = ap {B = List ℕ} (λ l. x ∷ l) s.is;
      at = rw (e, s.at);
      rest = rw (e, s.rest);
    }

split-cons : (t : Bool) (node x : ℕ) (xs : List ℕ) → eqb x node ≡ t → pick_n t zero (suc (position node xs)) < suc (length xs) →
    (position node xs < length xs → Split node xs) → Split node (x ∷ xs)
split-cons true node x xs e h rest = split-here node x xs e
split-cons false node x xs e h rest = split-later node x xs e (rest (omega arith))

pub found-splits : (node : ℕ) (xs : List ℕ) → position node xs < length xs → Split node xs
unfolding position
found-splits node [] h = absurd (not-suc-le-zero h)
found-splits node (x ∷ xs) h = split-cons (eqb x node) node x xs refl h (found-splits node xs)

pick-within : (t : Bool) (q l : ℕ) → q ≤ l → pick_n t zero (suc q) ≤ suc l
pick-within true q l h = omega arith
pick-within false q l h = omega arith

position-within : (node : ℕ) (us zs : List ℕ) → position node (us ++ node ∷ zs) ≤ length us
unfolding position
position-within node [] zs = rw (eq-eqb node node refl) (omega arith)
position-within node (u ∷ us) zs = pick-within (eqb u node) (position node (us ++ node ∷ zs)) (length us) (position-within node us zs)

-- a node of the list is found, and only such a node is: `found-splits`
pub there-found : (node : ℕ) (us zs : List ℕ) → (searched node (us ++ node ∷ zs)).found ≡ true
there-found node us zs =
    lt-ltb (position node (us ++ node ∷ zs)) (length (us ++ node ∷ zs)) (omega (arith, position-within node us zs, length-append us (node ∷ zs)))

split-removed : (arena : List ℕ) (head wanted : ℕ) (xs : List ℕ) → Chain arena head xs → Split wanted xs →
    Lists (removed head arena (link_to (position wanted xs) xs) wanted) (without wanted xs)
split-removed arena head wanted xs c s =
    let d : Chain arena head (s.before ++ wanted ∷ s.after) = rw s.is at c in
    let e : link_to (position wanted xs) xs ≡ link_to (length s.before) (s.before ++ wanted ∷ s.after) = ap₂ link_to s.at s.is in
    rw (e, s.rest) (unlink-chain arena head wanted s.before s.after d)

-- a node that a search found, taken out of the chain by the place that the search answers
pub found-removed : (arena : List ℕ) (head wanted : ℕ) (xs : List ℕ) → Chain arena head xs → (searched wanted xs).found ≡ true →
    Lists (removed head arena (searched wanted xs).previous wanted) (without wanted xs)
found-removed arena head wanted xs c found = split-removed arena head wanted xs c (found-splits wanted xs (ltb-true _ _ found))

-- in a chain a node is found where it stands
position-away : (node : ℕ) (us zs : List ℕ) → Away (node / 8) us → position node (us ++ node ∷ zs) ≡ length us
unfolding position Away
position-away node [] zs w = rw (eq-eqb node node refl)
position-away node (u ∷ us) zs w =
    let e : eqb u node ≡ false = ne_eqb u node (λ q. w.0 (ap (λ (n : ℕ). n / 8) q)) in
    rw (e, position-away node us zs w.1)

pub chain-position : (arena : List ℕ) (head node : ℕ) (us zs : List ℕ) → Chain arena head (us ++ node ∷ zs) → position node (us ++ node ∷ zs) ≡ length us
chain-position arena head node us zs c = position-away node us zs (distinct-at node us zs (distinct arena head (us ++ node ∷ zs) c)).0

-- so many nodes are compared with a node of a chain; with any other, all
pub chain-compared : (arena : List ℕ) (head node : ℕ) (us zs : List ℕ) → Chain arena head (us ++ node ∷ zs) → compared node (us ++ node ∷ zs) ≡ suc (length us)
chain-compared arena head node us zs c = omega (arith, chain-position arena head node us zs c, length-append us (node ∷ zs))

pub compared-all : (node : ℕ) (xs : List ℕ) → (searched node xs).found ≡ false → compared node xs ≡ length xs
compared-all node xs e = omega (arith, ltb-false (position node xs) (length xs) e)
