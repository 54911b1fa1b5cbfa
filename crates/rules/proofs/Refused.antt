-- A request finds no block exactly when no run of its class is wholly spare, or the run that it names is not. Assumes nothing.
use mathlib.Core.Path.{◌≡◌, refl, sym, ◌∙◌}
use mathlib.Core.Logic.{◌⊎◌, ◌↔◌, inl, inr}
use mathlib.Core.Bool.{true, false, true≢false}
use mathlib.Core.List.{List}
use Prim.Native.Nat.{ℕ, zero, suc, ◌+◌, ◌-◌, ◌^◌, ◌≤◌, ◌<◌}
use native.Mathlib.Omega.{arith}
use native.Mathlib.Decide.{dec_lt}
use borrow.Author.Tests.{le-leb}
use Rattle.rules.specs.Aligned.{Aligned}
use Rattle.rules.specs.Largest.{Whole, Held}
use Rattle.rules.specs.Rules.{Block, blk, start, block_at, first_from, free_in, smallest, serving, contains, containing}
use Rattle.std.specs.Prelude.{Option, Some, None}
use Rattle.rules.specs.Managed.{Free, Within, Spare, Lacks, Kept}
use Rattle.rules.proofs.Aligned.{holds-class, held-covers}
use Rattle.rules.proofs.Largest.{in_one, covered-self}
use Rattle.rules.proofs.Members.{tidy, member-fits}
use Rattle.rules.proofs.Best.{somewhere, not_first, higher}
use Rattle.rules.proofs.Unique.{spare-is}
use Rattle.rules.proofs.Restored.{offered, serving-offers, containing-offers}

-- ---- what is not found is not there

none-serves : (n k i : ℕ) (bs : List Block) → smallest n k i bs ≡ None → (j t : ℕ) → Free bs j t → k ≤ j → j < k + n → ⊥
none-serves zero k i bs e j t m l h = omega arith
none-serves (suc n) k i bs e j t m l h = go (first_from (free_in k) i bs) refl (none-serves n (suc k) i bs)
  where
    go : (f : Option ℕ) → first_from (free_in k) i bs ≡ f → (smallest n (suc k) i bs ≡ None → (j t : ℕ) → Free bs j t → suc k ≤ j → j < suc k + n → ⊥) → ⊥
    go (Some o) q ih = somewhere (rw q at e)
    go None q ih = ih (rw q at e) j t m (higher k i bs q m l) (omega arith)

none-contains : (c run : ℕ) (bs : List Block) → containing c run bs ≡ None → Held (Free bs) c run → ⊥
unfolding containing
none-contains c run bs e h =
    let y : contains c run (blk false h.class h.start) ≡ true =
    rw (le-leb h.start run h.holds.low, le-leb (run + 2 ^ c) (h.start + 2 ^ h.class) h.holds.high) refl in
    true≢false (sym y ∙ not_first (contains c run) 0 bs e h.member)

-- ---- refusals for want of a block

module _ {top : ℕ} (bs : List Block) (w : Kept top bs) where
  -- a run that is wholly spare lies in one free block, and the other way round
  spare-held : (c run : ℕ) → c ≤ top → Aligned c run → Whole (Spare bs) c run → Held (Free bs) c run
  spare-held c run h a f = in_one top (Free bs) (tidy w.sound) w.joined c run h a (λ x d. (spare-is x w.sound).0 (f x d))

  held-spare : {c run : ℕ} → Held (Free bs) c run → Whole (Spare bs) c run
  held-spare h x d = (spare-is x w.sound).1 (covered-self h.member x (held-covers h.holds d))

  -- "refused for want of a block exactly when no wholly free run of its rounded size stands at a multiple of that size"
  pub serving-refused : (c : ℕ) → c ≤ top → (serving top c bs ≡ None) ↔ ((run : ℕ) → Aligned c run → Whole (Spare bs) c run → ⊥)
  unfolding serving
  serving-refused c l = (λ e run a f. none e (spare-held c run l a f), λ n. go (serving top c bs) refl n)
    where
      none : serving top c bs ≡ None → {run : ℕ} → Held (Free bs) c run → ⊥
      none e h = none-serves (suc top - c) c 0 bs e h.class h.start h.member (holds-class h.holds) (omega (arith, (member-fits w.sound h.member).small))

      go : (f : Option ℕ) → serving top c bs ≡ f → ((run : ℕ) → Aligned c run → Whole (Spare bs) c run → ⊥) → serving top c bs ≡ None
      go (Some i) e n = let o = serving-offers c i bs w.sound e in absurd (n (start (block_at i bs)) o.aligned (held-spare (offered o)))
      go None e n = e

  -- each frame is spare or not, and so a run that is not wholly spare lacks a frame
  spare-or-not : (x : ℕ) → Spare bs x ⊎ (Spare bs x → ⊥)
  spare-or-not x = go (containing 0 x bs) refl
    where
      one : Aligned 0 x
      one = record { multiple = omega arith }

      go : (f : Option ℕ) → containing 0 x bs ≡ f → Spare bs x ⊎ (Spare bs x → ⊥)
      go (Some i) e = inl (held-spare (offered (containing-offers 0 x i bs one e)) x (omega arith))
      go None e = inr (λ f. none-contains 0 x bs e (spare-held 0 x (omega arith) one (λ y c. let q : y ≡ x = omega arith in rw q f)))

  lacks-or-not : (n run : ℕ) → ((x : ℕ) → Within run (run + n) x → Spare bs x) ⊎ Lacks bs run (run + n)
  lacks-or-not zero run = inl (λ x d. absurd (omega arith))
  lacks-or-not (suc n) run = go (lacks-or-not n run) (spare-or-not (run + n))
    where
      go : ((x : ℕ) → Within run (run + n) x → Spare bs x) ⊎ Lacks bs run (run + n) → Spare bs (run + n) ⊎ (Spare bs (run + n) → ⊥)
          → ((x : ℕ) → Within run (run + suc n) x → Spare bs x) ⊎ Lacks bs run (run + suc n)
      go (inr k) y = inr (record { frame = k.frame; within = omega arith; not_spare = k.not_spare })
      go (inl f) (inr g) = inr (record { frame = run + n; within = omega arith; not_spare = g })
      go (inl f) (inl g) = inl (λ x d. side x d (dec_lt x (run + n)))
        where
          side : (x : ℕ) → Within run (run + suc n) x → Dec (x < run + n) → Spare bs x
          side x d (yes h) = f x (omega arith)
          side x d (no h) = let q : x ≡ run + n = omega arith in rw q g

  -- "or, with the start given and aligned, when a frame of that run is not free"
  pub containing-refused : (c run : ℕ) → c ≤ top → Aligned c run → (containing c run bs ≡ None) ↔ Lacks bs run (run + 2 ^ c)
  containing-refused c run l a = (λ e. search e (lacks-or-not (2 ^ c) run), λ k. go (containing c run bs) refl k)
    where
      search : containing c run bs ≡ None → ((x : ℕ) → Within run (run + 2 ^ c) x → Spare bs x) ⊎ Lacks bs run (run + 2 ^ c) → Lacks bs run (run + 2 ^ c)
      search e (inl f) = absurd (none-contains c run bs e (spare-held c run l a (λ x d. f x (omega arith))))
      search e (inr k) = k

      go : (f : Option ℕ) → containing c run bs ≡ f → Lacks bs run (run + 2 ^ c) → containing c run bs ≡ None
      go (Some i) e k = absurd (k.not_spare (held-spare (offered (containing-offers c run i bs a e)) k.frame (omega (arith, k.within))))
      go None e k = e
