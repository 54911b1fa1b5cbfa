-- A granted block entered and one struck out: how many are left, where they stand, and that the ledger stays in order. Assumes nothing.
use mathlib.Core.Path.{◌≡◌, refl, sym, ap, ◌∙◌}
use mathlib.Core.Bool.{Bool, true, false}
use mathlib.Core.List.{List, [], ◌∷◌, ◌++◌}
use Prim.Native.Nat.{ℕ, suc, ◌+◌, ◌-◌, ◌^◌, ◌≤◌, ◌<◌}
use native.Mathlib.Numerals.{add-one}
use native.Mathlib.Omega.{arith}
use lib.Dec.{eqb, ltb}
use lib.ListN.{length, take, drop, set, length-append, length-drop, take-append-drop}
use lib.Seq.{length-take-le, set_split}
use Rattle.words.specs.Words.{pad}
use Rattle.words.proofs.Pad.{length-pad}
use borrow.Author.Tests.{ltb-true, ltb-false, lt-ltb, le-ltb, eqb-false}
use Rattle.words.proofs.Tests.{clash}
use Rattle.std.specs.Prelude.{Some}
use Rattle.ledger.specs.Ledger.{Grant, grant, address, enter, strike, same, some, word_of, grants, ledger_words}
use Rattle.ledger.specs.Kept.{Kept, search, below, stands_at}
use Rattle.ledger.proofs.Grants.{Records, none, next, Fine, records_fit}
use Rattle.ledger.proofs.Searching.{strike-at, search-within}
use Rattle.ledger.proofs.Ledgers.{length-grants, place-le, kept-records, grants-words, words-kept, replaced}

-- ---- entered

pub length-enter : (g : Grant) (gs : List Grant) → length (enter g gs) ≡ suc (length gs)
length-enter g [] = refl
length-enter g (x ∷ gs) = go (ltb (address g) (address x)) refl (length-enter g gs)
  where
    go : (t : Bool) → ltb (address g) (address x) ≡ t → length (enter g gs) ≡ suc (length gs) → length (enter g (x ∷ gs)) ≡ suc (suc (length gs))
    go true e rec = rw (e, enter)
    go false e rec = rw (e, enter) (ap suc rec)

-- its place: after those that stand at or before its address
pub enter-at : (k n a : ℕ) (gs : List Grant) → enter (grant k n a) gs ≡ take (below (a + 1) gs) gs ++ ((grant k n a ∷ []) ++ drop (below (a + 1) gs) gs)
enter-at k n a [] = refl
enter-at k n a (grant j m b ∷ gs) = go (ltb a b) refl (enter-at k n a gs)
  where
    go : (t : Bool) → ltb a b ≡ t → enter (grant k n a) gs ≡ take (below (a + 1) gs) gs ++ (grant k n a ∷ drop (below (a + 1) gs) gs)
        → enter (grant k n a) (grant j m b ∷ gs)
        ≡ take (below (a + 1) (grant j m b ∷ gs)) (grant j m b ∷ gs) ++ (grant k n a ∷ drop (below (a + 1) (grant j m b ∷ gs)) (grant j m b ∷ gs))
    go true e rec = let l : a < b = ltb-true a b e in rw (e, enter, le-ltb b (a + 1) (omega arith), below)
    go false e rec = let l : b ≤ a = ltb-false a b e in rw (e, enter, lt-ltb b (a + 1) (omega arith), below, rec)

pub records-enter : {order floor : ℕ} {gs : List Grant} (k n a : ℕ) → Fine order k n → a < 2 ^ 24 → floor ≤ a → Records order floor gs
    → some (stands_at a) gs ≡ false → Records order floor (enter (grant k n a) gs)
records-enter k n a f h l none e = next l h f none
records-enter {order} {floor} k n a f h l (next {k = j} {n = m} {a = b} {gs = gs} lb hb fb r) e =
    go (ltb a b) refl (eqb b a) refl e (λ u v. records-enter k n a f h u r v)
  where
    go : (t : Bool) → ltb a b ≡ t → (s : Bool) → eqb b a ≡ s → some (stands_at a) (grant j m b ∷ gs) ≡ false
        → (suc b ≤ a → some (stands_at a) gs ≡ false → Records order (suc b) (enter (grant k n a) gs))
        → Records order floor (enter (grant k n a) (grant j m b ∷ gs))
    go t q true p e rec = absurd (clash refl (rw (p, some) at e))
    go true q false p e rec = rw (q, enter) (next l h f (next (ltb-true a b q) hb fb r))
    go false q false p e rec =
        let u : b ≤ a = ltb-false a b q in
        let v = eqb-false b a p in
        rw (q, enter) (next lb hb fb (rec (omega arith) (rw (p, some) at e)))

-- ---- struck out

records-lower : {order floor : ℕ} (low : ℕ) {gs : List Grant} → low ≤ floor → Records order floor gs → Records order low gs
records-lower low h none = none
records-lower low h (next {a = a} l s f r) = next {floor = low} {a = a} (omega arith) s f r

pub records-strike : {order floor : ℕ} {gs : List Grant} (p : Grant → Bool) → Records order floor gs → Records order floor (strike p gs)
records-strike p none = none
records-strike {order} {floor} p (next {k = k} {n = n} {a = a} {gs = gs} l s f r) = go (p (grant k n a)) refl (records-strike p r)
  where
    go : (t : Bool) → p (grant k n a) ≡ t → Records order (suc a) (strike p gs) → Records order floor (strike p (grant k n a ∷ gs))
    go true e rec = rw (e, strike) (records-lower floor (omega arith) rec)
    go false e rec = rw (e, strike) (next l s f rec)

pub length-strike : {order floor : ℕ} {gs : List Grant} → Records order floor gs → (k n a i : ℕ) → search (same k n a) gs ≡ Some i
    → suc (length (strike (same k n a) gs)) ≡ length gs
length-strike {gs = gs} r k n a i e =
    let h : i < length gs = search-within (same k n a) gs i e in
    let l : length (take i gs) ≡ i = length-take-le i gs (omega arith) in
    rw (strike-at k n a r i e, length-append, length-drop) (omega arith)

-- ---- the ledger stays in order, and says the new list

module _ (order count : ℕ) (t : List ℕ) (kept : Kept order count t) where
  module _ (k n a : ℕ) (fine : Fine order k n) (low : a < 2 ^ 24) (room : count < length t) (fresh : some (stands_at a) (grants count t) ≡ false) where
    count-enter : length (enter (grant k n a) (grants count t)) ≡ count + 1
    count-enter = length-enter (grant k n a) (grants count t) ∙ omega (arith, length-grants order count t kept)

    all-enter : Records order 0 (enter (grant k n a) (grants count t))
    all-enter = records-enter k n a fine low (omega arith) (kept-records order count t kept) fresh

    pub kept-enter : Kept order (count + 1) (ledger_words (length t) (enter (grant k n a) (grants count t)))
    kept-enter =
        rw count-enter at (words-kept (length t) (enter (grant k n a) (grants count t)) (omega (arith, count-enter)) kept.short all-enter)

    pub grants-enter : grants (count + 1) (ledger_words (length t) (enter (grant k n a) (grants count t))) ≡ enter (grant k n a) (grants count t)
    grants-enter =
        ap (λ (c : ℕ). grants c (ledger_words (length t) (enter (grant k n a) (grants count t)))) (sym count-enter)
        ∙ grants-words (length t) (enter (grant k n a) (grants count t)) (omega (arith, count-enter)) (records_fit all-enter)

  module _ (k n a i : ℕ) (there : search (same k n a) (grants count t) ≡ Some i) where
    count-strike : length (strike (same k n a) (grants count t)) ≡ count - 1
    count-strike = omega (arith, length-strike (kept-records order count t kept) k n a i there, length-grants order count t kept)

    all-strike : Records order 0 (strike (same k n a) (grants count t))
    all-strike = records-strike (same k n a) (kept-records order count t kept)

    pub kept-strike : Kept order (count - 1) (ledger_words (length t) (strike (same k n a) (grants count t)))
    kept-strike =
        rw count-strike at
        (words-kept (length t) (strike (same k n a) (grants count t)) (omega (arith, count-strike, kept.room)) kept.short all-strike)

    pub grants-strike : grants (count - 1) (ledger_words (length t) (strike (same k n a) (grants count t))) ≡ strike (same k n a) (grants count t)
    grants-strike =
        ap (λ (c : ℕ). grants c (ledger_words (length t) (strike (same k n a) (grants count t)))) (sym count-strike)
        ∙ grants-words (length t) (strike (same k n a) (grants count t)) (omega (arith, count-strike, kept.room)) (records_fit all-strike)

  -- ---- the words, as the functions of src/records.rt leave them

  pub entered : (k n a i w : ℕ) (moved : List ℕ) → i ≡ below (a + 1) (grants count t) → count < length t
      → moved ≡ take (i + 1) t ++ pad (length t - (i + 1)) (drop i t) → w ≡ word_of (grant k n a)
      → set moved i w ≡ ledger_words (length t) (enter (grant k n a) (grants count t))
  entered k n a i w moved p l q e =
      let gs : List Grant = grants count t in
      let h : i ≤ count = omega (arith, place-le order count t kept (a + 1)) in
      let f : length (take (i + 1) t) ≡ i + 1 = length-take-le (i + 1) t (omega arith) in
      let m : length moved ≡ length t =
      ap length q ∙ length-append (take (i + 1) t) (pad (length t - (i + 1)) (drop i t)) ∙ omega (arith, length-pad (length t - (i + 1)) (drop i t)) in
      let r : set moved i w ≡ take i moved ++ ((word_of (grant k n a) ∷ []) ++ drop (i + 1) moved) = set_split moved i w (omega arith) ∙ rw (e, add-one) in
      replaced order count t kept (grant k n a ∷ []) i i moved (set moved i w) (omega arith) h (omega arith) q r
      ∙ ap (ledger_words (length t)) (ap (λ (x : ℕ). take x gs ++ ((grant k n a ∷ []) ++ drop x gs)) p ∙ sym (enter-at k n a gs))

  pub struck : (i : ℕ) (moved : List ℕ) → i < count → moved ≡ take i t ++ pad (length t - i) (drop (i + 1) t)
      → moved ≡ ledger_words (length t) (take i (grants count t) ++ drop (suc i) (grants count t))
  struck i moved h q =
      let z : i + 0 ≡ i = omega arith in
      let c : count ≤ length t = kept.room in
      replaced order count t kept [] i (suc i) moved moved (omega arith) h (omega arith) (rw (z, ← add-one) q) (rw z (sym (take-append-drop i moved)))
