-- A release as a span of the list that widens to one side at a time: how it begins, grows and ends. Assumes nothing.
use mathlib.Core.Path.{◌≡◌, sym, ap, ◌∙◌}
use mathlib.Core.Bool.{true, false}
use mathlib.Core.List.{List, [], ◌∷◌, ◌++◌}
use Prim.Native.Nat.{ℕ, suc, ◌+◌, ◌-◌, ◌^◌, ◌≤◌, ◌<◌}
use native.Mathlib.Numerals.{add-one}
use native.Mathlib.Nat.{mod_self}
use native.Mathlib.Omega.{arith}
use lib.Pow.{pow_pos}
use lib.ListN.{length, take, drop, drop_of_length-le}
use lib.Seq.{drop-cons, take-suc}
use Rattle.blocks.specs.Blocks.{buddy_of}
use Rattle.blocks.specs.Laws.{Buddies, upper, lower}
use Rattle.blocks.proofs.Buddies.{pair}
use Rattle.blocks.proofs.Powers.{multiple-le}
use Rattle.rules.specs.Aligned.{Aligned}
use Rattle.rules.specs.Rules.{Block, blk, end, Sound, is_free, block_at, joined, released}
use Rattle.rules.proofs.Aligned.{next_start}
use Rattle.rules.proofs.Lists.{Below, sound-above, Stands, split-here, stands_at, ends-below}
use Rattle.rules.proofs.Joining.{join-top, join-above, stop-above, stop-at-end, join-below, stop-below, stop-at-start, taken_out}

-- the block in hand, of class k at s, stands for the blocks [from, to) of the list; what is left to join of it gives the list `final`
pub record Spans (top : ℕ) (bs final : List Block) (from to k s : ℕ) : Type 0 where
  pub rising : from < to
  pub within : to ≤ length bs
  pub small : k ≤ top
  pub aligned : Aligned k s
  pub ends : s + 2 ^ k ≤ 2 ^ 32
  pub before : Below s (take from bs)
  pub after : Sound top (s + 2 ^ k) (drop to bs)
  pub rest : joined (top - k) k s (take from bs ++ drop to bs) ≡ final

-- the list with the block put in the place of the span
abbrev pub closed : List Block → ℕ → ℕ → ℕ → ℕ → List Block
closed bs from to k s = take from bs ++ ((blk false k s ∷ []) ++ drop to bs)

module _ {top : ℕ} (bs : List Block) (sound : Sound top 0 bs) (order : top ≤ 32) where
  pub begins : (i k s : ℕ) → i < length bs → block_at i bs ≡ blk true k s → Spans top bs (released top k s bs) i (i + 1) k s
  begins i k s h e =
      let w : Stands top (take i bs) (blk true k s) (drop (i + 1) bs) = rw e at (stands_at i bs sound h) in
      let q : bs ≡ take i bs ++ (blk true k s ∷ drop (i + 1) bs) = split-here i bs h ∙ ap (λ (b : Block). take i bs ++ (b ∷ drop (i + 1) bs)) e in
      record {
        rising = omega arith;
        within = omega arith;
        small = w.small;
        aligned = w.aligned;
        ends = w.within;
        before = w.before;
        after = w.after;
        rest = sym (ap (released top k s) q ∙ taken_out (take i bs) k s (drop (i + 1) bs) (rw q at sound));
      }

  module _ (final : List Block) (from to k s : ℕ) (w : Spans top bs final from to k s) where
    -- in the top class nothing more is joined
    pub at_top : top ≤ k → final ≡ closed bs from to k s
    at_top h =
        let z : top - k ≡ 0 = omega arith in
        sym w.rest ∙ ap (λ (n : ℕ). joined n k s (take from bs ++ drop to bs)) z ∙ join-top k s (take from bs) (drop to bs) w.before (sound-above w.after)

    module _ (h : k < top) where
      left : top - k ≡ suc (top - suc k)
      left = omega arith

      pub buddies : Buddies k s (buddy_of k s)
      buddies = pair k s (omega arith) w.aligned.multiple

      -- no buddy lies past the last frame, since the pair would reach over it
      pub buddy-fits : buddy_of k s < 2 ^ 32
      buddy-fits = fits buddies
        where
          fits : Buddies k s (buddy_of k s) → buddy_of k s < 2 ^ 32
          fits (upper a e) =
              let t : Aligned (suc k) (2 ^ 32) = record { multiple = multiple-le (suc k) 32 (2 ^ 32) (omega arith) (mod_self (2 ^ 32)) } in
              let l : s < 2 ^ 32 = omega (arith, w.ends, pow_pos k) in
              let g : s + 2 ^ suc k ≤ 2 ^ 32 = next_start (record { multiple = a }) t l in
              omega (arith, pow_pos k)
          fits (lower a e) = omega (arith, w.ends, pow_pos k)

      again : joined (suc (top - suc k)) k s (take from bs ++ drop to bs) ≡ final
      again = ap (λ (n : ℕ). joined n k s (take from bs ++ drop to bs)) (sym left) ∙ w.rest

      -- ---- the buddy is above

      module _ (l : s < buddy_of k s) where
        up : Buddies k s (buddy_of k s) → (buddy_of k s ≡ s + 2 ^ k) × Aligned (suc k) s
        up (upper a e) = (e, record { multiple = a })
        up (lower a e) = absurd (omega arith)

        next-block : to < length bs → drop to bs ≡ block_at to bs ∷ drop (to + 1) bs
        next-block g = rw add-one (drop-cons bs to (blk false 0 0) g)

        pub widens-up : to < length bs → block_at to bs ≡ blk false k (buddy_of k s) → Spans top bs final from (to + 1) (k + 1) s
        widens-up g e =
            let u = up buddies in
            let d : drop to bs ≡ blk false k (buddy_of k s) ∷ drop (to + 1) bs = next-block g ∙ ap (λ (b : Block). b ∷ drop (to + 1) bs) e in
            let v : Stands top (take to bs) (blk false k (buddy_of k s)) (drop (to + 1) bs) = rw e at (stands_at to bs sound g) in
            let x : buddy_of k s + 2 ^ k ≡ s + 2 ^ suc k = omega (arith, u.0) in
            rw (add-one k) (record {
              rising = omega (arith, w.rising);
              within = omega arith;
              small = h;
              aligned = u.1;
              ends = omega (arith, v.within);
              before = w.before;
              after = rw x at v.after;
              rest = sym (join-above (top - suc k) k s (take from bs) u.0 w.before (drop (to + 1) bs) (rw d at w.after))
                  ∙ ap (λ (r : List Block). joined (suc (top - suc k)) k s (take from bs ++ r)) (sym d) ∙ again;
            })

        pub stops-at-end : length bs ≤ to → final ≡ closed bs from to k s
        stops-at-end g =
            let d : drop to bs ≡ [] = drop_of_length-le bs {i = to} g in
            sym again ∙ ap (λ (r : List Block). joined (suc (top - suc k)) k s (take from bs ++ r)) d
            ∙ stop-at-end (top - suc k) k s (take from bs) (up buddies).0 w.before
            ∙ ap (λ (r : List Block). take from bs ++ (blk false k s ∷ r)) (sym d)

        pub stops-up : to < length bs → is_free k (buddy_of k s) (block_at to bs) ≡ false → final ≡ closed bs from to k s
        stops-up g e =
            let d = next-block g in
            sym again ∙ ap (λ (r : List Block). joined (suc (top - suc k)) k s (take from bs ++ r)) d
            ∙ stop-above (top - suc k) k s (take from bs) (up buddies).0 w.before (block_at to bs) (drop (to + 1) bs) (rw d at w.after) e
            ∙ ap (λ (r : List Block). take from bs ++ (blk false k s ∷ r)) (sym d)

      -- ---- the buddy is below

      module _ (l : buddy_of k s ≤ s) where
        down : Buddies k s (buddy_of k s) → (s ≡ buddy_of k s + 2 ^ k) × Aligned (suc k) (buddy_of k s)
        down (upper a e) = absurd (omega (arith, pow_pos k))
        down (lower a e) = (e, record { multiple = a })

        module _ (m : ℕ) (f : m + 1 ≡ from) where
          here : m < length bs
          here = omega (arith, w.rising, w.within)

          last_block : take from bs ≡ take m bs ++ (block_at m bs ∷ [])
          last_block = ap (λ (n : ℕ). take n bs) (sym f ∙ add-one m) ∙ take-suc bs m (blk false 0 0) here

          pub widens-down : block_at m bs ≡ blk false k (buddy_of k s) → Spans top bs final m to (k + 1) (buddy_of k s)
          widens-down e =
              let u = down buddies in
              let d : take from bs ≡ take m bs ++ (blk false k (buddy_of k s) ∷ []) = last_block ∙ ap (λ (b : Block). take m bs ++ (b ∷ [])) e in
              let v : Stands top (take m bs) (blk false k (buddy_of k s)) (drop (m + 1) bs) = rw e at (stands_at m bs sound here) in
              let x : s + 2 ^ k ≡ buddy_of k s + 2 ^ suc k = omega (arith, u.0) in
              rw (add-one k) (record {
                rising = omega (arith, w.rising);
                within = w.within;
                small = h;
                aligned = u.1;
                ends = omega (arith, w.ends);
                before = v.before;
                after = rw x at w.after;
                rest = sym (join-below (top - suc k) k s (drop to bs) u.0 (sound-above w.after) (take m bs) v.before)
                    ∙ ap (λ (r : List Block). joined (suc (top - suc k)) k s (r ++ drop to bs)) (sym d) ∙ again;
              })

          pub stops-down : is_free k (buddy_of k s) (block_at m bs) ≡ false → final ≡ closed bs from to k s
          stops-down e =
              let v = stands_at m bs sound here in
              let d = last_block in
              let n : end (block_at m bs) ≤ s = ends-below (take m bs) (block_at m bs) (rw d at w.before) in
              sym again ∙ ap (λ (r : List Block). joined (suc (top - suc k)) k s (r ++ drop to bs)) d
              ∙ stop-below (top - suc k) k s (drop to bs) (down buddies).0 (sound-above w.after) (take m bs) (block_at m bs) v.before n e (rw d at w.before)
              ∙ ap (λ (r : List Block). r ++ (blk false k s ∷ drop to bs)) (sym d)

        pub stops-at-start : from ≡ 0 → final ≡ closed bs from to k s
        stops-at-start z =
            let d : take from bs ≡ [] = ap (λ (n : ℕ). take n bs) z in
            sym again ∙ ap (λ (r : List Block). joined (suc (top - suc k)) k s (r ++ drop to bs)) d
            ∙ stop-at-start (top - suc k) k s (drop to bs) (down buddies).0 (sound-above w.after)
            ∙ ap (λ (r : List Block). r ++ (blk false k s ∷ drop to bs)) (sym d)
