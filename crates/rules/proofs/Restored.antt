-- A grant followed by its release restores the list. Assumes nothing.
use mathlib.Core.Path.{◌≡◌, refl, subst}
use mathlib.Core.Logic.{◌⊎◌, inl, inr, ⊎_elim}
use mathlib.Core.Bool.{true, false, not, ◌&&◌, true≢false}
use mathlib.Core.List.{List}
use Prim.Native.Nat.{ℕ, suc, ◌+◌, ◌-◌, ◌^◌, ◌≤◌, ◌<◌}
use native.Mathlib.Omega.{arith}
use native.Mathlib.Nat.{le_refl}
use lib.Pow.{pow_mono}
use lib.Dec.{leb}
use lib.ListN.{length}
use borrow.Author.Tests.{leb-true, not-true}
use Rattle.rules.specs.Aligned.{Aligned, Holds, Meets}
use Rattle.rules.specs.Largest.{Joined, Held}
use Rattle.rules.specs.Rules.{Block, blk, granted, class, start, Sound, is_granted, some, block_at, serving, contains, containing, halved, released}
use Rattle.std.specs.Prelude.{Some}
use Rattle.rules.specs.Managed.{◌∈◌, Free, Granted, Is, Managed, Kept, Offers, Leaves}
use Rattle.rules.proofs.Aligned.{aligned-le, holds-meets}
use Rattle.rules.proofs.Lists.{both, stands_at}
use Rattle.rules.proofs.Best.{first-at}
use Rattle.rules.proofs.Serving.{serves}
use Rattle.rules.proofs.Members.{at_place, same_block, marks-differ, members-apart}
use Rattle.rules.proofs.Putting.{leaves-as, leaves_kept, knows-granted, known}
use Rattle.rules.proofs.Freed.{released-leaves}
use Rattle.rules.proofs.Halved.{halved-leaves}
use Rattle.rules.proofs.Unique.{unique}

-- ---- the blocks that requests find

pub serving-offers : {top : ℕ} (c i : ℕ) (bs : List Block) → Sound top 0 bs → serving top c bs ≡ Some i → Offers c (start (block_at i bs)) i bs
unfolding serving
serving-offers {top} c i bs r e =
    let w = serves (suc top - c) c i bs e in
    record {
      here = w.here;
      free = w.free;
      aligned = aligned-le w.large (stands_at i bs r w.here).aligned;
      holds = record { low = le_refl (start (block_at i bs)); high = omega (arith, pow_mono w.large) };
    }

pub containing-offers : (c run i : ℕ) (bs : List Block) → Aligned c run → containing c run bs ≡ Some i → Offers c run i bs
unfolding containing
containing-offers c run i bs a e =
    let w = first-at (contains c run) 0 i bs e in
    let q : w.n ≡ i = omega (arith, w.at) in
    let h : i < length bs = omega (arith, w.here) in
    go (block_at i bs) refl h (rw q at w.passes)
  where
    go : (b : Block) → block_at i bs ≡ b → i < length bs → contains c run b ≡ true → Offers c run i bs
    go (blk g k t) q h p =
        let x = both (not g && leb t run) (leb (run + 2 ^ c) (t + 2 ^ k)) p in
        let y = both (not g) (leb t run) x.0 in
        let z : Holds k t c run = record { low = leb-true t run y.1; high = leb-true (run + 2 ^ c) (t + 2 ^ k) x.1 } in
        record { here = h; free = rw q (not-true g y.0); aligned = a; holds = rw q z }

-- the block that is offered, as one of the free blocks
pub offered : {c run i : ℕ} {bs : List Block} → Offers c run i bs → Held (Free bs) c run
offered {c} {run} {i} {bs} o = go (block_at i bs) (at_place i bs o.here) o.free o.holds
  where
    go : (b : Block) → b ∈ bs → granted b ≡ false → Holds (class b) (start b) c run → Held (Free bs) c run
    go (blk true j t) m f h = absurd (true≢false f)
    go (blk false j t) m f h = record { class = j; start = t; member = m; holds = h }

-- ---- a grant and its release

-- the release is accepted
pub grant-granted : {top : ℕ} (c run i : ℕ) (bs : List Block) → Sound top 0 bs → Offers c run i bs → some (is_granted c run) (halved c run i bs) ≡ true
grant-granted c run i bs r o =
    (known (is_granted c run) (knows-granted c run)).1 (((halved-leaves c run i bs r o).granted c run).1 (inl (record { class = refl; start = refl })))

module _ {top : ℕ} (order : top ≤ 32) (bs : List Block) (w : Kept top bs) where
  module _ (c run i : ℕ) (o : Offers c run i bs) where
    grant : Leaves top (Managed bs) (λ k s. Is c run k s ⊎ Granted bs k s) (Joined top (Free bs)) (halved c run i bs)
    grant = halved-leaves c run i bs w.sound o

    -- the run was not granted before
    fresh : {k s : ℕ} → Granted bs k s → Is c run k s → ⊥
    fresh m e = let f = offered o in marks-differ (members-apart w.sound (subst (λ (b : Block). b ∈ bs) (same_block e) m) f.member (meets f))
      where
        meets : (f : Held (Free bs) c run) → Meets c run f.class f.start
        meets f = omega (arith, holds-meets f.holds)

    -- "a grant followed at once by its release restores every word of the table"
    pub restored : released top c run (halved c run i bs) ≡ bs
    restored = unique (leaves_kept v w.joined) w (record { frames = v.frames; granted = v.granted })
      where
        v : Leaves top (Managed bs) (Granted bs) (Joined top (Free bs)) (released top c run (halved c run i bs))
        v = leaves-as grant.frames
            (λ k s.
            (λ m. ⊎_elim (λ e. absurd (m.1 e)) (λ n. n) ((grant.granted k s).0 m.0), λ m. ((grant.granted k s).1 (inr m), fresh m)))
            grant.joined (released-leaves order c run (halved c run i bs) grant.sound (grant-granted c run i bs w.sound o))

  pub served-restored : (c i : ℕ) → serving top c bs ≡ Some i → released top c (start (block_at i bs)) (halved c (start (block_at i bs)) i bs) ≡ bs
  served-restored c i e = restored c (start (block_at i bs)) i (serving-offers c i bs w.sound e)

  pub contained-restored : (c run i : ℕ) → Aligned c run → containing c run bs ≡ Some i → released top c run (halved c run i bs) ≡ bs
  contained-restored c run i a e = restored c run i (containing-offers c run i bs a e)
