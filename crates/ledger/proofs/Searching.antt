-- The search for a granted block among ascending ones, by the number of those that stand below it. Assumes nothing.
use mathlib.Core.Path.{◌≡◌, refl, sym, ap, ◌∙◌}
use mathlib.Core.Bool.{Bool, true, false, ◌&&◌}
use mathlib.Core.List.{List, [], ◌∷◌, ◌++◌}
use Prim.Native.Nat.{ℕ, zero, suc, ◌≤◌, ◌<◌}
use native.Mathlib.Omega.{arith}
use lib.Dec.{eqb, ltb}
use lib.ListN.{length, take, drop, get_or}
use borrow.Author.Tests.{ltb-true, ltb-false, lt-ltb, le-ltb, eqb-true, ne_eqb}
use Rattle.words.proofs.Tests.{no, both}
use Rattle.std.specs.Prelude.{Option, Some, None}
use Rattle.ledger.specs.Ledger.{Grant, grant, address, same, some, strike}
use Rattle.ledger.specs.Kept.{later, search, is_at, stands_at, below}
use Rattle.ledger.proofs.Grants.{Records, none, next}

-- the granted block at a place
abbrev pub grant_at : ℕ → List Grant → Grant
grant_at i gs = get_or gs i (grant 0 0 0)

-- ---- how many stand below an address

pub below-le : (a : ℕ) (gs : List Grant) → below a gs ≤ length gs
below-le a [] = omega arith
below-le a (grant j m b ∷ gs) = go (ltb b a) refl (below-le a gs)
  where
    go : (t : Bool) → ltb b a ≡ t → below a gs ≤ length gs → below a (grant j m b ∷ gs) ≤ suc (length gs)
    go true e rec = rw (e, below) (omega arith)
    go false e rec = rw (e, below) (omega arith)

-- n is their number if all n are below and the one after them is not
pub below-is : (a n : ℕ) (gs : List Grant) → n ≤ length gs → ((i : ℕ) → i < n → address (grant_at i gs) < a)
    → (n < length gs → a ≤ address (grant_at n gs)) → below a gs ≡ n
below-is a n [] h f g = omega arith
below-is a zero (grant j m b ∷ gs) h f g = rw (le-ltb b a (g (omega arith)), below)
below-is a (suc n) (grant j m b ∷ gs) h f g =
    rw (lt-ltb b a (f 0 (omega arith)), below) (ap suc (below-is a n gs (omega arith) (λ i l. f (suc i) (omega arith)) (λ l. g (omega arith))))

-- addresses ascend
floor-le : {order floor : ℕ} {gs : List Grant} → Records order floor gs → (i : ℕ) → i < length gs → floor ≤ address (grant_at i gs)
floor-le none i h = absurd (omega arith)
floor-le (next l s f r) zero h = l
floor-le (next l s f r) (suc i) h = omega (arith, floor-le r i (omega arith))

pub ascends : {order floor : ℕ} {gs : List Grant} → Records order floor gs → (i j : ℕ) → i ≤ j → j < length gs
    → address (grant_at i gs) ≤ address (grant_at j gs)
ascends none i j h l = absurd (omega arith)
ascends (next low s f r) zero zero h l = omega arith
ascends (next low s f r) zero (suc j) h l = omega (arith, floor-le r j (omega arith))
ascends (next low s f r) (suc i) zero h l = absurd (omega arith)
ascends (next low s f r) (suc i) (suc j) h l = ascends r i j (omega arith) (omega arith)

-- ---- the search

pub same-fact : (k n a j m b : ℕ) → same k n a (grant j m b) ≡ true → (j ≡ k) × (m ≡ n) × (b ≡ a)
same-fact k n a j m b e =
    let p = both (eqb j k && eqb m n) (eqb b a) e in
    let q = both (eqb j k) (eqb m n) p.0 in
    (eqb-true j k q.0, eqb-true m n q.1, eqb-true b a p.1)

other : (k n a j m b : ℕ) → (b ≡ a → ⊥) → same k n a (grant j m b) ≡ false
other k n a j m b h = no _ (λ e. h (same-fact k n a j m b e).2)

module _ (k n a : ℕ) where
  search-above : {order floor : ℕ} {gs : List Grant} → Records order floor gs → a < floor → search (same k n a) gs ≡ None
  search-above none h = refl
  search-above (next {k = j} {n = m} {a = b} l s f r) h = rw (other k n a j m b (λ e. omega arith), search, search-above r (omega arith))

  -- it is not where it would stand
  pub search_no : {order floor : ℕ} {gs : List Grant} → Records order floor gs
      → (below a gs < length gs → same k n a (grant_at (below a gs) gs) ≡ false) → search (same k n a) gs ≡ None
  search_no none h = refl
  search_no (next {k = j} {n = m} {a = b} {gs = gs} l s f r) h = go (ltb b a) refl h (search_no r)
    where
      go : (t : Bool) → ltb b a ≡ t
          → (below a (grant j m b ∷ gs) < suc (length gs) → same k n a (grant_at (below a (grant j m b ∷ gs)) (grant j m b ∷ gs)) ≡ false)
          → ((below a gs < length gs → same k n a (grant_at (below a gs) gs) ≡ false) → search (same k n a) gs ≡ None)
          → search (same k n a) (grant j m b ∷ gs) ≡ None
      go true e h rec =
          let u : b < a = ltb-true b a e in
          let g : below a gs < length gs → same k n a (grant_at (below a gs) gs) ≡ false = λ q. (rw (e, below) at h) (omega arith) in
          rw (other k n a j m b (λ q. omega arith), search, rec g)
      go false e h rec =
          let g : same k n a (grant j m b) ≡ false = (rw (e, below) at h) (omega arith) in
          let u : a ≤ b = ltb-false b a e in
          rw (g, search, search-above r (omega arith))

  -- it is there
  pub search-here : (gs : List Grant) → below a gs < length gs → same k n a (grant_at (below a gs) gs) ≡ true → search (same k n a) gs ≡ Some (below a gs)
  search-here [] h e = absurd (omega arith)
  search-here (grant j m b ∷ gs) h e = go (ltb b a) refl h e (search-here gs)
    where
      go : (t : Bool) → ltb b a ≡ t → below a (grant j m b ∷ gs) < suc (length gs)
          → same k n a (grant_at (below a (grant j m b ∷ gs)) (grant j m b ∷ gs)) ≡ true
          → (below a gs < length gs → same k n a (grant_at (below a gs) gs) ≡ true → search (same k n a) gs ≡ Some (below a gs))
          → search (same k n a) (grant j m b ∷ gs) ≡ Some (below a (grant j m b ∷ gs))
      go true t h e rec =
          let u : b < a = ltb-true b a t in
          rw (t, below, other k n a j m b (λ q. omega arith), search, rec (omega (arith, rw (t, below) at h)) (rw (t, below) at e))
      go false t h e rec = rw (t, below, rw (t, below) at e, search)

-- ---- what the search says

pub search-some : (p : Grant → Bool) (gs : List Grant) → some p gs ≡ is_at (search p gs)
search-some p [] = refl
search-some p (g ∷ gs) = go (p g) refl (search-some p gs)
  where
    is_later : (s : Option ℕ) → is_at (later s) ≡ is_at s
    is_later (Some i) = refl
    is_later None = refl

    go : (t : Bool) → p g ≡ t → some p gs ≡ is_at (search p gs) → some p (g ∷ gs) ≡ is_at (search p (g ∷ gs))
    go true e rec = rw (e, some, search)
    go false e rec = rw (e, some, search) (rec ∙ sym (is_later (search p gs)))

-- an address at which none stands
pub none-stands : (a : ℕ) (gs : List Grant) → ((i : ℕ) → i < length gs → address (grant_at i gs) ≡ a → ⊥) → some (stands_at a) gs ≡ false
none-stands a [] h = refl
none-stands a (grant j m b ∷ gs) h = rw (ne_eqb b a (h 0 (omega arith)), some) (none-stands a gs (λ i l. h (suc i) (omega arith)))

-- a search that found something in the rest of a list
pub later-at : (s : Option ℕ) (i : ℕ) → later s ≡ Some i → (j : ℕ) × (s ≡ Some j) × (i ≡ suc j)
later-at (Some j) i e = (j, refl, cc)
later-at None i e = let z : ◌≡◌ {A = ℕ} 0 1 = cc in absurd (omega arith)

pub search-within : (p : Grant → Bool) (gs : List Grant) (i : ℕ) → search p gs ≡ Some i → i < length gs
search-within p [] i e = let z : ◌≡◌ {A = ℕ} 0 1 = cc in absurd (omega arith)
search-within p (g ∷ gs) i e = go (p g) refl e (search-within p gs)
  where
    go : (t : Bool) → p g ≡ t → search p (g ∷ gs) ≡ Some i → ((j : ℕ) → search p gs ≡ Some j → j < length gs) → i < suc (length gs)
    go true q e rec = let z : Some 0 ≡ Some i = rw (q, search) at e in let w : 0 ≡ i = cc in omega arith
    go false q e rec = let l = later-at (search p gs) i (rw (q, search) at e) in omega (arith, rec l.0 l.1, l.2)

module _ (k n a : ℕ) where
  strike-above : {order floor : ℕ} {gs : List Grant} → Records order floor gs → a < floor → strike (same k n a) gs ≡ gs
  strike-above none h = refl
  strike-above (next {k = j} {n = m} {a = b} l s f r) h = rw (other k n a j m b (λ e. omega arith), strike, strike-above r (omega arith))

  -- it stands at one place, so it is struck out there
  pub strike-at : {order floor : ℕ} {gs : List Grant} → Records order floor gs → (i : ℕ) → search (same k n a) gs ≡ Some i
      → strike (same k n a) gs ≡ take i gs ++ drop (suc i) gs
  strike-at none i e = let z : ◌≡◌ {A = ℕ} 0 1 = cc in absurd (omega arith)
  strike-at (next {k = j} {n = m} {a = b} {gs = gs} l s f r) i e = go (same k n a (grant j m b)) refl e (strike-at r)
    where
      go : (t : Bool) → same k n a (grant j m b) ≡ t → search (same k n a) (grant j m b ∷ gs) ≡ Some i
          → ((x : ℕ) → search (same k n a) gs ≡ Some x → strike (same k n a) gs ≡ take x gs ++ drop (suc x) gs)
          → strike (same k n a) (grant j m b ∷ gs) ≡ take i (grant j m b ∷ gs) ++ drop (suc i) (grant j m b ∷ gs)
      go true q e rec =
          let z : Some 0 ≡ Some i = rw (q, search) at e in
          let w : i ≡ 0 = cc in
          let u : b ≡ a = (same-fact k n a j m b q).2 in
          rw (q, strike, w, strike-above r (omega arith))
      go false q e rec =
          let x = later-at (search (same k n a) gs) i (rw (q, search) at e) in
          rw (q, strike, x.2, rec x.0 x.1)
