-- Chains of links: as the nodes of a walk, one from each head, with a word for each node, and after a store, a push and a pop. Assumes nothing.
use mathlib.Core.Path.{◌≡◌, refl, sym, ap, ◌∙◌}
use mathlib.Core.Bool.{true}
use mathlib.Core.List.{List, [], ◌∷◌, ◌++◌}
use Prim.Native.Nat.{ℕ, zero, suc, ◌/◌, ◌<◌, ◌≤◌}
use native.Mathlib.Nat.{not-suc-le-zero}
use native.Mathlib.Omega.{arith}
use lib.ListN.{length, get_or, set}
use lib.Seq.{get_or-set_same, get_or-set_other}
use borrow.Author.Tests.{eqb-true}
use Rattle.linked_list.specs.Links.{next, nodes, empty, pushed, popped}
use Rattle.linked_list.specs.Chains.{Chain, Lists, Away, Distinct}
use Rattle.std.specs.Prelude.{Some, None}
use Rattle.linked_list.proofs.Steps.{pop-block}

-- ---- a chain is what a walk yields

pub nodes-few : (most : ℕ) (arena : List ℕ) (head : ℕ) → length (nodes most arena head) ≤ most
unfolding nodes
nodes-few zero arena head = omega arith
nodes-few (suc most) arena zero = omega arith
nodes-few (suc most) arena (suc a) = omega (arith, nodes-few most arena (next arena (suc a)))

pub chain-nodes : (most : ℕ) (arena : List ℕ) (head : ℕ) (xs : List ℕ) → Chain arena head xs → length xs ≤ most → nodes most arena head ≡ xs
unfolding Chain nodes
chain-nodes zero arena head [] c h = refl
chain-nodes zero arena head (x ∷ xs) c h = absurd (not-suc-le-zero h)
chain-nodes (suc most) arena zero [] c h = refl
chain-nodes (suc most) arena (suc a) [] c h = absurd (let z : suc a ≡ 0 = c in omega arith)
chain-nodes (suc most) arena zero (x ∷ xs) c h = absurd (c.1 (sym c.0))
chain-nodes (suc most) arena (suc a) (x ∷ xs) c h =
    let rest : nodes most arena (next arena x) ≡ xs = chain-nodes most arena (next arena x) xs c.2 (omega arith) in
    rw (c.0, rest)

-- a walk that yields fewer nodes than it may has come to 0
pub nodes-chain : (most : ℕ) (arena : List ℕ) (head : ℕ) → length (nodes most arena head) < most → Chain arena head (nodes most arena head)
unfolding Chain nodes
nodes-chain zero arena head h = absurd (not-suc-le-zero h)
nodes-chain (suc most) arena zero h = refl
nodes-chain (suc most) arena (suc a) h = (refl, (λ z. omega arith), nodes-chain most arena (next arena (suc a)) (omega arith))

-- ---- one list from one head, and a word for each of its nodes

pub one_list : (arena : List ℕ) (head : ℕ) (xs ys : List ℕ) → Chain arena head xs → Chain arena head ys → xs ≡ ys
unfolding Chain
one_list arena head [] [] c d = refl
one_list arena head [] (y ∷ ys) c d = absurd (d.1 (sym d.0 ∙ c))
one_list arena head (x ∷ xs) [] c d = absurd (c.1 (sym c.0 ∙ d))
one_list arena head (x ∷ xs) (y ∷ ys) c d =
    let e : x ≡ y = sym c.0 ∙ d.0 in
    let rest : xs ≡ ys = one_list arena (next arena x) xs ys c.2 (rw e d.2) in
    cc

pub empty-chain : (arena : List ℕ) (head : ℕ) (xs : List ℕ) → Chain arena head xs → empty head ≡ true → xs ≡ []
unfolding Chain
empty-chain arena head xs c e = one_list arena head xs [] c (eqb-true head 0 e)

module _ (arena : List ℕ) (x : ℕ) (xs : List ℕ) (after : Chain arena (next arena x) xs) where
  -- a node further on with its link in the word of x would be followed by all that follows x
  not-again : (zs : List ℕ) (a : ℕ) → Chain arena a zs → length zs ≤ length xs → Away (x / 8) zs
  unfolding Chain Away
  not-again [] a c h = tt
  not-again (z ∷ zs) a c h = (no, not-again zs (next arena z) c.2 (omega arith))
    where
      no : z / 8 ≡ x / 8 → ⊥
      no w =
          let e : next arena z ≡ next arena x = ap (λ (i : ℕ). get_or arena i 0) w in
          let l : length xs ≡ length zs = ap length (one_list arena (next arena x) xs zs after (rw e at c.2)) in
          omega arith

pub distinct : (arena : List ℕ) (head : ℕ) (xs : List ℕ) → Chain arena head xs → Distinct xs
unfolding Chain Distinct
distinct arena head [] c = tt
distinct arena head (x ∷ xs) c =
    (not-again arena x xs c.2 xs (next arena x) c.2 (omega arith), distinct arena (next arena x) xs c.2)

away-at : (word p : ℕ) (ys zs : List ℕ) → Away word (ys ++ p ∷ zs) → p / 8 ≡ word → ⊥
unfolding Away
away-at word p [] zs w = w.0
away-at word p (y ∷ ys) zs w = away-at word p ys zs w.1

-- each node's word is no other node's
pub distinct-at : (p : ℕ) (ys zs : List ℕ) → Distinct (ys ++ p ∷ zs) → Away (p / 8) ys × Away (p / 8) zs
unfolding Away Distinct
distinct-at p [] zs d = (tt, d.0)
distinct-at p (y ∷ ys) zs d =
    let rest = distinct-at p ys zs d.1 in
    (((λ e. away-at (y / 8) p ys zs d.0 (sym e)), rest.0), rest.1)

-- ---- what calls leave

-- a store in a word of no node changes no chain
pub frame : (arena : List ℕ) (head word link : ℕ) (xs : List ℕ) → Chain arena head xs → Away word xs → Chain (set arena word link) head xs
unfolding Chain Away
frame arena head word link [] c w = c
frame arena head word link (x ∷ xs) c w =
    let e : next (set arena word link) x ≡ next arena x = get_or-set_other arena word (x / 8) link 0 w.0 in
    (c.0, c.1, rw e (frame arena (next arena x) word link xs c.2 w.1))

pub push-chain : (arena : List ℕ) (head item : ℕ) (xs : List ℕ) → Chain arena head xs → (item ≡ 0 → ⊥) → item / 8 < length arena → Away (item / 8) xs →
    Lists (pushed head arena item) (item ∷ xs)
unfolding Chain
push-chain arena head item xs c some inside w =
    let e : next (set arena (item / 8) head) item ≡ head = get_or-set_same arena (item / 8) head 0 inside in
    (refl, some, rw e (frame arena head (item / 8) head xs c w))

pub pop-chain : (arena : List ℕ) (head x : ℕ) (xs : List ℕ) → Chain arena head (x ∷ xs) →
    (popped head arena ≡ Some (record { block = x; head = next arena x })) × Chain arena (next arena x) xs
unfolding Chain
pop-chain arena head x xs c = (rw c.0 (pop-block x arena c.1), c.2)

pub pop-empty : (arena : List ℕ) (head : ℕ) → Chain arena head [] → popped head arena ≡ None
unfolding Chain
pop-empty arena head c = let e : head ≡ 0 = c in rw e
