-- The ledger's records tested one by one, at the loop's numbers. Assumes nothing.
use mathlib.Core.Path.{◌≡◌, refl, sym, ap, ◌∙◌}
use mathlib.Core.Bool.{Bool, true, false}
use mathlib.Core.List.{List, map}
use Prim.Native.Nat.{ℕ, ◌+◌, ◌*◌, ◌^◌, ◌≤◌, ◌<◌}
use native.Mathlib.Omega.{arith}
use lib.ListN.{length, get_or, drop}
use Rattle.std.specs.Prelude.{Some, None}
use Rattle.ledger.specs.Ledger.{grant_of, class_of, requested_of, address_of}
use Rattle.heap_blocks.specs.Sound.{bytes_of, requests}
use Rattle.heap_blocks.specs.Parts.{blocks_of, nextb, grantedb}
use Rattle.heap_blocks.proofs.Records.{next-fact, size_small, granted-step, granted-end, user-step, user-end, allocated-step, allocated-end}
use Rattle.heap_records.specs.Summed.{Summed}
use Rattle.heap_records.specs.declared.Sums.{Sums}

-- what the sums tell
pub record Told (ok : Bool) (ws : List ℕ) (s : Sums) : Type 0 where
  pub all : ok ≡ true
  pub users : s.user ≡ requests (map grant_of ws)
  pub sizes : s.allocated ≡ bytes_of (blocks_of ws)

pub told-some : (ok : Bool) (ws : List ℕ) (s : Sums) → Summed ok ws (Some s) → Told ok ws s
told-some true ws s e =
    let q : s ≡ record { user = requests (map grant_of ws); allocated = bytes_of (blocks_of ws) } = cc in
    record { all = refl; users = ap (λ (x : Sums). x.user) q; sizes = ap (λ (x : Sums). x.allocated) q }
told-some false ws s e = let z : ◌≡◌ {A = ℕ} 0 1 = cc in absurd (omega arith)

pub told-none : (ok : Bool) (ws : List ℕ) → Summed ok ws None → ok ≡ false
told-none true ws e = let z : ◌≡◌ {A = ℕ} 0 1 = cc in absurd (omega arith)
told-none false ws e = refl

module _ (order bytes : ℕ) (ws : List ℕ) where
  -- the records before i passed, the block of the last one ends at `floor`, and these are their sums
  pub record Passed (i floor user allocated : ℕ) : Type 0 where
    pub tested : grantedb order bytes floor (drop i ws) ≡ grantedb order bytes 0 ws
    pub users : user + requests (map grant_of (drop i ws)) ≡ requests (map grant_of ws)
    pub sizes : allocated + bytes_of (blocks_of (drop i ws)) ≡ bytes_of (blocks_of ws)
    pub user_small : user ≤ i * 16777216
    pub allocated_small : allocated ≤ i * 4294967296

  pub passed-none : Passed 0 0 0 0
  passed-none = record { tested = refl; users = omega arith; sizes = omega arith; user_small = omega arith; allocated_small = omega arith }

  module _ (i floor user allocated : ℕ) (p : Passed i floor user allocated) where
    pub passed-all : length ws ≤ i → Summed (grantedb order bytes 0 ws) ws (Some (record { user = user; allocated = allocated }))
    passed-all h =
        let t : grantedb order bytes 0 ws ≡ true = sym p.tested ∙ granted-end ws order bytes floor i h in
        let u : requests (map grant_of ws) ≡ user = omega (arith, p.users, user-end ws i h) in
        let s : bytes_of (blocks_of ws) ≡ allocated = omega (arith, p.sizes, allocated-end ws i h) in
        rw (t, u, s) refl

    module _ (more : i < length ws) where
      pub passed-wrong : nextb order bytes floor (get_or ws i 0) ≡ false → Summed (grantedb order bytes 0 ws) ws None
      passed-wrong e =
          let t : grantedb order bytes 0 ws ≡ false = sym p.tested ∙ granted-step ws order bytes floor i more ∙ rw e refl in
          rw t refl

      pub passed-on : (size : ℕ) → order ≤ 33 → nextb order bytes floor (get_or ws i 0) ≡ true → size ≡ 2 ^ class_of (get_or ws i 0)
          → Passed (i + 1) (address_of (get_or ws i 0) + size) (user + requested_of (get_or ws i 0)) (allocated + size)
      passed-on size o e s =
          let f = next-fact order bytes floor (get_or ws i 0) e in
          rw s
          (record {
            tested = sym (sym p.tested ∙ granted-step ws order bytes floor i more ∙ rw e refl);
            users = omega (arith, p.users, user-step ws i more);
            sizes = omega (arith, p.sizes, allocated-step ws i more);
            user_small = omega (arith, p.user_small);
            allocated_small = omega (arith, p.allocated_small, f.class-high, size_small (class_of (get_or ws i 0)) (omega arith));
          })
