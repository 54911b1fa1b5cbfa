-- What making a table says, by its tests, and the words that it leaves. Assumes nothing.
use mathlib.Core.Path.{◌≡◌, refl, sym, ap, ◌∙◌}
use mathlib.Core.List.{List, [], ◌∷◌}
use Prim.Native.Nat.{ℕ, zero, suc, ◌≤◌, ◌<◌}
use native.Mathlib.Nat.{not-suc-le-zero}
use lib.ListN.{length, set, replicate}
use borrow.Author.Tests.{lt-ltb, le-ltb}
use Rattle.std.specs.Prelude.{Ok, Err}
use Rattle.answers.specs.declared.Refusal.TheVariants.{BadOrder, BadSize}
use Rattle.table.specs.Layout.{head_of, words_of}
use Rattle.words.proofs.Pad.{pad-nil}
use Rattle.table.proofs.State.{state}
use Rattle.frame_core.specs.Carried.{reply_of, Says}
use Rattle.frame.specs.Outcome.{making}

-- zeros with word 0 written are the table without records
empty-table : (n order : ℕ) → 1 ≤ n → set (replicate n 0) 0 (head_of (state order [])) ≡ words_of n (state order [])
empty-table zero order h = absurd (not-suc-le-zero h)
empty-table (suc n) order h = ap (λ (l : List ℕ). head_of (state order []) ∷ l) (sym (pad-nil n))

module _ (order : ℕ) (ws : List ℕ) where
  pub order-0 : order < 1 → Says (making order ws) (reply_of (Err BadOrder)) ws
  unfolding making
  order-0 h = rw (lt-ltb order 1 h) (record { reply = refl; words = refl })

  module _ (low : 1 ≤ order) where
    pub order-high : 33 < order → Says (making order ws) (reply_of (Err BadOrder)) ws
    unfolding making
    order-high h = rw (le-ltb order 1 low, lt-ltb 33 order h) (record { reply = refl; words = refl })

    module _ (high : order ≤ 33) where
      pub no_words : length ws < 1 → Says (making order ws) (reply_of (Err BadSize)) ws
      unfolding making
      no_words h = rw (le-ltb order 1 low, le-ltb 33 order high, lt-ltb (length ws) 1 h) (record { reply = refl; words = refl })

      module _ (some : 1 ≤ length ws) where
        pub too_long : 65536 < length ws → Says (making order ws) (reply_of (Err BadSize)) ws
        unfolding making
        too_long h = rw (le-ltb order 1 low, le-ltb 33 order high, le-ltb (length ws) 1 some, lt-ltb 65536 (length ws) h) (record { reply = refl; words = refl })

        pub made : length ws ≤ 65536 → (w : ℕ) → w ≡ head_of (state order []) → Says (making order ws) (reply_of (Ok 0)) (set (replicate (length ws) 0) 0 w)
        unfolding making
        made h w e =
            rw (le-ltb order 1 low, le-ltb 33 order high, le-ltb (length ws) 1 some, le-ltb 65536 (length ws) h)
            (record { reply = refl; words = ap (set (replicate (length ws) 0) 0) e ∙ empty-table (length ws) order some })
