-- The next piece of a range that a table may hold. Assumes nothing.
use mathlib.Core.Path.{◌≡◌, sym, ap, ◌∙◌}
use Prim.Native.Nat.{ℕ, ◌+◌, ◌-◌, ◌^◌, ◌≤◌, ◌<◌}
use native.Mathlib.Omega.{arith}
use lib.Pow.{pow_pos}
use Rattle.blocks.specs.Blocks.{piece_size, size_class}
use Rattle.blocks.specs.Laws.{Piece}
use Rattle.blocks.proofs.Pieces as pieces
use Rattle.blocks.proofs.Powers.{exp-le}
use Rattle.blocks.proofs.Rounding.{size-class}

-- a range that a table may hold: n frames from s on, with the top block of class top
pub record Range (top s n : ℕ) : Type 0 where
  pub order : top ≤ 32
  pub within : s + n ≤ 2 ^ 32

pub piece-fits : {top s n : ℕ} → Range top s n → 0 < n → Piece top s n (piece_size top s n)
piece-fits {top} {s} {n} r p = pieces.piece top s n r.order (omega (arith, r.within)) p (omega (arith, r.within))

pub rest-range : {top s n : ℕ} → Range top s n → 0 < n → Range top (s + piece_size top s n) (n - piece_size top s n)
rest-range {top} {s} {n} r p = let w = piece-fits r p in record { order = r.order; within = omega (arith, r.within, w.within) }

-- the size of a piece is that of its class
pub piece-size : {top s n : ℕ} → Range top s n → 0 < n → piece_size top s n ≡ 2 ^ size_class (piece_size top s n)
piece-size {top} {s} {n} r h =
    let w = piece-fits r h in
    let c : ℕ = w.power.class in
    let l : c ≤ top = exp-le c top (omega (arith, w.power.is, w.small, pow_pos top)) in
    let d : size_class (piece_size top s n) ≡ c = ap size_class w.power.is ∙ size-class c (omega (arith, r.order)) in
    w.power.is ∙ ap (λ (x : ℕ). 2 ^ x) (sym d)
