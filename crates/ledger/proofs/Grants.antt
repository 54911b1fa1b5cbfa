-- Granted blocks in order, one by one, and their words: each determines the other. Assumes nothing.
use mathlib.Core.Path.{◌≡◌, refl}
use mathlib.Core.Bool.{true}
use mathlib.Core.List.{List, [], ◌∷◌, map}
use Prim.Native.Nat.{ℕ, suc, ◌%◌, ◌^◌, ◌≤◌, ◌<◌}
use native.Mathlib.Omega.{arith}
use lib.Dec.{leb}
use borrow.Author.Tests.{leb-true, ltb-true, eqb-true, le-leb, lt-ltb, eq-eqb}
use Rattle.words.proofs.Tests.{both, join}
use Rattle.ledger.specs.Ledger.{Grant, grant, class_of, requested_of, gap_of, address_of, grant_of, word_of, recordb, recordsb, ascendingb}

-- a granted block of a heap of this ORDER
pub record Fine (order k n : ℕ) : Type 0 where
  pub low : 3 ≤ k
  pub high : k < order
  pub holds : n ≤ 2 ^ k
  pub fits : n < 2 ^ 24

-- granted blocks in ascending addresses from `floor` on
pub data Records (order : ℕ) : ℕ → List Grant → Type 0 where
  none : {floor : ℕ} → Records order floor []
  next : {floor k n a : ℕ} {gs : List Grant} → floor ≤ a → a < 2 ^ 24 → Fine order k n → Records order (suc a) gs
      → Records order floor (grant k n a ∷ gs)

-- numbers that their fields hold
pub data Fitting : List Grant → Type 0 where
  none : Fitting []
  next : {k n a : ℕ} {gs : List Grant} → n < 2 ^ 24 → a < 2 ^ 24 → Fitting gs → Fitting (grant k n a ∷ gs)

pub records_fit : {order floor : ℕ} {gs : List Grant} → Records order floor gs → Fitting gs
records_fit none = none
records_fit (next l h f r) = next f.fits h (records_fit r)

-- ---- one record

-- the fields of a granted block's word
record Fields (w k n a : ℕ) : Type 0 where
  class : class_of w ≡ k
  requested : requested_of w ≡ n
  gap : gap_of w ≡ 0
  address : address_of w ≡ a

fields : (k n a : ℕ) → n < 2 ^ 24 → a < 2 ^ 24 → Fields (word_of (grant k n a)) k n a
fields k n a h l = record { class = omega arith; requested = omega arith; gap = omega arith; address = omega arith }

pub grant-of-word : (k n a : ℕ) → n < 2 ^ 24 → a < 2 ^ 24 → grant_of (word_of (grant k n a)) ≡ grant k n a
grant-of-word k n a h l =
    let f = fields k n a h l in
    rw (f.class, f.requested, f.address)

pub word-of-grant : (w : ℕ) → gap_of w ≡ 0 → word_of (grant_of w) ≡ w
word-of-grant w z = omega arith

-- record_word cuts nothing off numbers that fit their fields
pub word_fits : (k n a : ℕ) → k < 64 → n < 2 ^ 24 → a < 2 ^ 24 → word_of (grant (k % 64) (n % 0x100_0000) (a % 0x100_0000)) ≡ word_of (grant k n a)
word_fits k n a g h l = omega arith

-- what the test of a record says
record Passed (order w : ℕ) : Type 0 where
  gap : gap_of w ≡ 0
  low : 3 ≤ class_of w
  high : class_of w < order
  holds : requested_of w ≤ 2 ^ class_of w

passed : (order w : ℕ) → recordb order w ≡ true → Passed order w
unfolding recordb
passed order w e =
    let p = both _ _ e in
    let q = both _ _ p.0 in
    let r = both _ _ q.0 in
    record { gap = eqb-true _ _ r.0; low = leb-true _ _ r.1; high = ltb-true _ _ q.1; holds = leb-true _ _ p.1 }

passes : (order k n a : ℕ) → Fine order k n → a < 2 ^ 24 → recordb order (word_of (grant k n a)) ≡ true
unfolding recordb
passes order k n a f l =
    let x = fields k n a f.fits l in
    simp (x.class, x.requested, eq-eqb _ _ x.gap, le-leb _ _ f.low, lt-ltb _ _ f.high, le-leb _ _ f.holds)

-- ---- all records

pub records-of : (order floor : ℕ) (ws : List ℕ) → recordsb order ws ≡ true → ascendingb floor ws ≡ true → Records order floor (map grant_of ws)
records-of order floor [] f a = none
records-of order floor (w ∷ ws) f a =
    let p = both (recordb order w) (recordsb order ws) f in
    let q = both (leb floor (address_of w)) (ascendingb (suc (address_of w)) ws) a in
    let x = passed order w p.0 in
    next {a = address_of w} (leb-true _ _ q.0) (omega arith) (record { low = x.low; high = x.high; holds = x.holds; fits = omega arith }) (records-of order (suc (address_of w)) ws p.1 q.1)

pub words_of : (order : ℕ) (ws : List ℕ) → recordsb order ws ≡ true → map word_of (map grant_of ws) ≡ ws
words_of order [] f = refl
words_of order (w ∷ ws) f =
    let p = both (recordb order w) (recordsb order ws) f in
    rw (word-of-grant w (passed order w p.0).gap, words_of order ws p.1)

pub grants-of : {gs : List Grant} → Fitting gs → map grant_of (map word_of gs) ≡ gs
grants-of none = refl
grants-of (next {k} {n} {a} h l r) = rw (grant-of-word k n a h l, grants-of r)

-- the words pass the tests of a ledger
pub record Made (order floor : ℕ) (gs : List Grant) : Type 0 where
  pub fine : recordsb order (map word_of gs) ≡ true
  pub ascending : ascendingb floor (map word_of gs) ≡ true

pub words-made : {order floor : ℕ} {gs : List Grant} → Records order floor gs → Made order floor gs
words-made none = record { fine = refl; ascending = refl }
words-made {order} {floor} (next {k = k} {n = n} {a = a} l h f r) =
    let m = words-made r in
    let e : address_of (word_of (grant k n a)) ≡ a = (fields k n a f.fits h).address in
    record {
      fine = join _ _ (passes order k n a f h) m.fine;
      ascending = join _ _ (le-leb floor (address_of (word_of (grant k n a))) (omega arith)) (rw e m.ascending);
    }
