-- The ledger's records, one by one, at the loop's numbers. Assumes nothing.
use mathlib.Core.Path.{◌≡◌, sym, ap, ◌∙◌}
use mathlib.Core.Bool.{Bool, true, ◌&&◌}
use mathlib.Core.List.{List, [], ◌∷◌, map}
use Prim.Native.Nat.{ℕ, ◌+◌, ◌^◌, ◌≤◌, ◌<◌}
use native.Mathlib.Numerals.{add-one}
use native.Mathlib.Omega.{arith}
use lib.Dec.{leb}
use lib.ListN.{length, get_or, drop, drop_of_length-le}
use lib.Seq.{drop-cons}
use lib.Pow.{pow_mono}
use borrow.Author.Tests.{leb-true, ltb-true, eqb-true, le-leb, lt-ltb, eq-eqb}
use Rattle.words.proofs.Tests.{both, and-swap}
use Rattle.ledger.specs.Ledger.{grant_of, class_of, requested_of, gap_of, address_of, recordb, recordsb}
use Rattle.heap_blocks.specs.Sound.{placedb, bytes_of, requests}
use Rattle.heap_blocks.specs.Parts.{blockb, blocks_of, endsb, nextb, grantedb}
use Rattle.heap_blocks.proofs.Heads.{placed-cons}

pub record Fine (order w : ℕ) : Type 0 where
  pub gap : gap_of w ≡ 0
  pub class_low : 3 ≤ class_of w
  pub class-high : class_of w < order
  pub holds : requested_of w ≤ 2 ^ class_of w

pub record-fact : (order w : ℕ) → recordb order w ≡ true → Fine order w
unfolding recordb
record-fact order w e =
    let p = both _ _ e in
    let q = both _ _ p.0 in
    let r = both _ _ q.0 in
    record {
      gap = eqb-true (gap_of w) 0 r.0;
      class_low = leb-true 3 (class_of w) r.1;
      class-high = ltb-true (class_of w) order q.1;
      holds = leb-true (requested_of w) (2 ^ class_of w) p.1;
    }

pub record-true : (order w : ℕ) → Fine order w → recordb order w ≡ true
unfolding recordb
record-true order w f = rw (eq-eqb (gap_of w) 0 f.gap, le-leb 3 (class_of w) f.class_low, lt-ltb (class_of w) order f.class-high, le-leb (requested_of w) (2 ^ class_of w) f.holds)

-- a record that passes is fine, and its size is small
pub next-fact : (order bytes floor w : ℕ) → nextb order bytes floor w ≡ true → Fine order w
unfolding nextb
next-fact order bytes floor w e = let p = both _ _ e in let q = both _ _ p.0 in record-fact order w q.0

pub size_small : (k : ℕ) → k < 33 → 2 ^ k ≤ 4294967296
size_small k h = pow_mono {i = k} {j = 32} (omega arith)

granted-cons : (order bytes floor w : ℕ) (ws : List ℕ) → grantedb order bytes floor (w ∷ ws) ≡ nextb order bytes floor w && grantedb order bytes (address_of w + 2 ^ class_of w) ws
unfolding nextb grantedb endsb
granted-cons order bytes floor w ws =
    let r = recordb order w in
    let rs = recordsb order ws in
    let l = leb floor (address_of w) in
    let es = endsb (address_of w + 2 ^ class_of w) ws in
    let b = blockb bytes (class_of w) (address_of w) in
    let ps = placedb bytes (blocks_of ws) in
    ap (λ (t : Bool). (r && rs) && (l && es) && t) (placed-cons bytes (class_of w) (address_of w) (blocks_of ws))
    ∙ ap (λ (t : Bool). t && (b && ps)) (and-swap r rs l es)
    ∙ and-swap (r && l) (rs && es) b ps

-- ---- the records from i on

module _ (ws : List ℕ) where
  pub rest : (i : ℕ) → i < length ws → drop i ws ≡ get_or ws i 0 ∷ drop (i + 1) ws
  rest i h = rw add-one (drop-cons ws i 0 h)

  pub none : (i : ℕ) → length ws ≤ i → drop i ws ≡ []
  none i h = drop_of_length-le ws {i = i} h

  pub granted-step : (order bytes floor i : ℕ) → i < length ws →
      grantedb order bytes floor (drop i ws) ≡ nextb order bytes floor (get_or ws i 0) && grantedb order bytes (address_of (get_or ws i 0) + 2 ^ class_of (get_or ws i 0)) (drop (i + 1) ws)
  granted-step order bytes floor i h = ap (grantedb order bytes floor) (rest i h) ∙ granted-cons order bytes floor (get_or ws i 0) (drop (i + 1) ws)

  pub granted-end : (order bytes floor i : ℕ) → length ws ≤ i → grantedb order bytes floor (drop i ws) ≡ true
  unfolding grantedb endsb
  granted-end order bytes floor i h = rw (none i h)

  pub user-step : (i : ℕ) → i < length ws → requests (map grant_of (drop i ws)) ≡ requested_of (get_or ws i 0) + requests (map grant_of (drop (i + 1) ws))
  user-step i h = ap (λ (xs : List ℕ). requests (map grant_of xs)) (rest i h)

  pub user-end : (i : ℕ) → length ws ≤ i → requests (map grant_of (drop i ws)) ≡ 0
  user-end i h = ap (λ (xs : List ℕ). requests (map grant_of xs)) (none i h)

  pub allocated-step : (i : ℕ) → i < length ws → bytes_of (blocks_of (drop i ws)) ≡ 2 ^ class_of (get_or ws i 0) + bytes_of (blocks_of (drop (i + 1) ws))
  allocated-step i h = ap (λ (xs : List ℕ). bytes_of (blocks_of xs)) (rest i h)

  pub allocated-end : (i : ℕ) → length ws ≤ i → bytes_of (blocks_of (drop i ws)) ≡ 0
  allocated-end i h = ap (λ (xs : List ℕ). bytes_of (blocks_of xs)) (none i h)
