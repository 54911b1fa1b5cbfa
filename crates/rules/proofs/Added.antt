-- What adding a range leaves. Assumes nothing.
use mathlib.Core.Path.{◌≡◌, refl, sym, ◌∙◌}
use mathlib.Core.Logic.Iff
use mathlib.Core.Logic.{◌⊎◌, inl, inr, ⊎_elim}
use mathlib.Core.Bool.{true, false, true≢false}
use mathlib.Core.List.{List, [], ◌∷◌}
use Prim.Native.Nat.{ℕ, zero, suc, ◌+◌, ◌-◌, ◌%◌, ◌^◌, ◌≤◌, ◌<◌}
use native.Mathlib.Omega.{arith}
use native.Mathlib.Decide.{dec_le, dec_lt}
use lib.Pow.{pow_pos}
use borrow.Author.Tests.{ne_eqb, lt-ltb}
use Rattle.blocks.specs.Blocks.{piece_size, size_class}
use Rattle.blocks.specs.Laws.{Buddies, upper, lower, Piece}
use Rattle.blocks.proofs.Powers.{exp-le}
use Rattle.rules.specs.Aligned.{Covers}
use Rattle.rules.specs.Largest.{Joined}
use Rattle.rules.specs.Rules.{Block, blk, Sound, some, insert_all, cut_from, cut, added, overlaps}
use Rattle.rules.specs.Managed.{Free, Granted, Managed, Within, Touches, Leaves}
use Rattle.rules.proofs.Pieces.{Range, piece-fits, rest-range, piece-size}
use Rattle.rules.proofs.Largest.{Alone}
use Rattle.rules.proofs.Members.{Fits, some-fails}
use Rattle.rules.proofs.Putting.{managed-by, holder, leaves-as, put}

-- what cutting [s, e) leaves of a list that has no frame of it
abbrev Cuts : ℕ → ℕ → ℕ → List Block → List Block → Type 0
Cuts top s e bs after = Leaves top (λ x. Managed bs x ⊎ Within s e x) (Granted bs) (Joined top (Free bs) × (s < e → Touches s e bs → ⊥)) after

nothing-cut : {top : ℕ} (s e : ℕ) (bs : List Block) → e ≤ s → Sound top 0 bs → Cuts top s e bs bs
nothing-cut s e bs h r = record {
  sound = r;
  frames = λ x. (inl, ⊎_elim (λ m. m) (λ w. absurd (omega arith)));
  granted = λ k t. Iff.rfl;
  joined = λ p. p.0;
}

-- the first piece, of class k and size p, and what cutting the rest leaves
module _ {top : ℕ} (s e p k : ℕ) (bs rest : List Block) (size : p ≡ 2 ^ k) (fits : Fits top k s) (ends : s + p ≤ e)
    (largest : k < top → s % 2 ^ suc k ≡ 0 → s + 2 ^ suc k ≤ e → ⊥) (clear : (x : ℕ) → Managed bs x → Within s e x → ⊥) (w : Cuts top (s + p) e bs rest) where
  piece-clear : (x : ℕ) → Managed rest x → Covers k s x → ⊥
  piece-clear x m c = ⊎_elim (λ n. clear x n (omega arith)) (λ d. omega arith) ((w.frames x).0 m)

  -- a free buddy of the piece would touch the range, or be a part of it, and then the piece were larger
  piece-alone : (Touches s e bs → ⊥) → Alone top (Free rest) k s
  piece-alone apart b l pairs m = go pairs
    where
      old : (x : ℕ) → Covers k b x → s ≤ suc x → x ≤ e → (Within (s + p) e x → ⊥) → ⊥
      old x c f t n =
          ⊎_elim (λ o. apart (record { frame = x; managed = o; from = f; to = t })) n ((w.frames x).0 (managed-by m c))

      above : (s % 2 ^ suc k ≡ 0) → b ≡ s + 2 ^ k → Dec (s + 2 ^ suc k ≤ e) → ⊥
      above a q (yes h) = largest l a h
      above a q (no h) = old e (omega arith) (omega arith) (omega arith) (λ d. omega arith)

      go : Buddies k s b → ⊥
      go (upper a q) = above a q (dec_le (s + 2 ^ suc k) e)
      go (lower a q) = old (b + 2 ^ k - 1) (omega (arith, pow_pos k)) (omega arith) (omega arith) (λ d. omega (arith, pow_pos k))

  first_piece : Cuts top s e bs (insert_all (blk false k s ∷ []) rest)
  first_piece =
      leaves-as (λ x. (to x, λ m. from x m (dec_lt x (s + p)))) w.granted
      (λ n. (w.joined (n.0, λ h t. n.1 (omega arith) (wider t)), piece-alone (n.1 (omega (arith, pow_pos k)))))
      (put k s rest w.sound fits piece-clear)
    where
      wider : Touches (s + p) e bs → Touches s e bs
      wider t = record { frame = t.frame; managed = t.managed; from = omega arith; to = t.to }

      to : (x : ℕ) → Managed rest x ⊎ Covers k s x → Managed bs x ⊎ Within s e x
      to x (inl m) = ⊎_elim inl (λ d. inr (omega arith)) ((w.frames x).0 m)
      to x (inr c) = inr (omega arith)

      from : (x : ℕ) → Managed bs x ⊎ Within s e x → Dec (x < s + p) → Managed rest x ⊎ Covers k s x
      from x (inl m) d = inl ((w.frames x).1 (inl m))
      from x (inr i) (yes h) = inr (omega arith)
      from x (inr i) (no h) = inl ((w.frames x).1 (inr (omega arith)))

-- one turn: the first piece, after the others
module _ {top s n e : ℕ} (turns : ℕ) (bs : List Block) (all : s + n ≡ e) (range : Range top s n) (left : 0 < n) where
  abbrev p : ℕ
  p = piece_size top s n

  cut-turn : ((x : ℕ) → Managed bs x → Within s e x → ⊥) → Cuts top (s + p) e bs (insert_all (cut_from turns top (s + p) (n - p)) bs)
      → Cuts top s e bs (insert_all (cut_from (suc turns) top s n) bs)
  unfolding cut_from
  cut-turn clear rest =
      rw (ne_eqb n 0 (λ z. omega arith), cut_from)
      (first_piece s e p _ bs _ size fits (omega (arith, w.within)) largest clear rest)
    where
      k : ℕ
      k = size_class p

      w : Piece top s n p
      w = piece-fits range left

      size : p ≡ 2 ^ k
      size = piece-size range left

      fits : Fits top k s
      fits = record {
        small = exp-le k top (omega (arith, w.small, size, pow_pos top));
        aligned = record { multiple = rw size at w.divides };
        within = omega (arith, w.within, size, range.within);
      }

      largest : k < top → s % 2 ^ suc k ≡ 0 → s + 2 ^ suc k ≤ e → ⊥
      largest l a g = omega (arith, w.largest (suc k) l a (omega arith), size, pow_pos k)

-- the pieces one by one, the last first
cutting : (t top s n e : ℕ) (bs : List Block) → s + n ≡ e → Range top s n → n ≤ t → Sound top 0 bs → ((x : ℕ) → Managed bs x → Within s e x → ⊥)
    → Cuts top s e bs (insert_all (cut_from t top s n) bs)
unfolding cut_from
cutting zero top s n e bs q r h sound clear = nothing-cut s e bs (omega arith) sound
cutting (suc t) top s n e bs q r h sound clear = go (dec_lt 0 n) (λ d r f l c. cutting t top (s + d) (n - d) e bs f r l sound c)
  where
    go : Dec (0 < n)
        → ((d : ℕ) → Range top (s + d) (n - d) → s + d + (n - d) ≡ e → n - d ≤ t → ((x : ℕ) → Managed bs x → Within (s + d) e x → ⊥)
        → Cuts top (s + d) e bs (insert_all (cut_from t top (s + d) (n - d)) bs))
        → Cuts top s e bs (insert_all (cut_from (suc t) top s n) bs)
    go (yes p) ih =
        let w = piece-fits r p in
        cut-turn t bs q r p clear (ih (piece_size top s n) (rest-range r p) (omega (arith, w.within)) (omega (arith, w.never_0)) (λ x m d. clear x m (omega arith)))
    go (no p) ih = let z : n ≡ 0 = omega arith in rw (z, cut_from) (nothing-cut s e bs (omega arith) sound)

-- the pieces are free, every other frame and grant stays; nothing is left to join where nothing was and the range touches no managed frame
pub added-leaves : {top : ℕ} (s e : ℕ) (bs : List Block) → top ≤ 32 → s ≤ e → e ≤ 2 ^ 32 → Sound top 0 bs → some (overlaps s e) bs ≡ false
    → Leaves top (λ x. Managed bs x ⊎ Within s e x) (Granted bs) (Joined top (Free bs) × (s < e → Touches s e bs → ⊥)) (added top s e bs)
unfolding added cut
added-leaves {top} s e bs order h l r f = cutting (e - s) top s (e - s) e bs (omega arith) (record { order = order; within = omega arith }) (omega arith) r clear
  where
    clear : (x : ℕ) → Managed bs x → Within s e x → ⊥
    clear x m d =
        let y : overlaps s e (holder m) ≡ true =
        rw (lt-ltb s e (omega arith), lt-ltb m.start e (omega (arith, m.covers)), lt-ltb s (m.start + 2 ^ m.class) (omega (arith, m.covers))) refl in
        true≢false (sym y ∙ some-fails (overlaps s e) f m.member)
