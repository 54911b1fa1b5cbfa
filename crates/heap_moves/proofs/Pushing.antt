-- The blocks of an added range pushed one after the other, at the numbers as the code has them. Assumes nothing.
use mathlib.Core.Path.{◌≡◌, refl, sym, ap, ◌∙◌}
use Prim.Native.Nat.{ℕ, zero, suc, ◌+◌, ◌-◌, ◌^◌, ◌≤◌, ◌<◌}
use mathlib.Core.Logic.{⊎_elim}
use native.Mathlib.Nat.{eq-zero-or-pos}
use native.Mathlib.Omega.{arith}
use lib.Pow.{pow_pos}
use borrow.Author.Tests.{ne_eqb}
use Rattle.blocks.specs.Blocks.{piece_size, size_class}
use Rattle.blocks.specs.Laws.{Piece}
use Rattle.blocks.proofs.Powers.{exp-le}
use Rattle.blocks.proofs.Rounding.{size-class}
use Rattle.blocks.proofs.Pieces.{piece}
use Rattle.heap_state.specs.Lists.{Memory, push, push_all}

-- what one turn leaves to be pushed, with so many turns to come
abbrev pushed-once : ℕ → ℕ → ℕ → ℕ → Memory → Memory
pushed-once turns top s n m = push_all turns top (s + piece_size top s n) (n - piece_size top s n) (push (size_class (piece_size top s n)) s m)

one-push : (turns top s n : ℕ) (m : Memory) → (n ≡ 0 → ⊥) → push_all (suc turns) top s n m ≡ pushed-once turns top s n m
unfolding push_all
one-push turns top s n m q = rw (push_all, ne_eqb n 0 q)

none : (turns top s : ℕ) (m : Memory) → push_all turns top s 0 m ≡ m
unfolding push_all
none zero top s m = refl
none (suc turns) top s m = refl

-- turns beyond the bytes are not used
enough : (f g top s n : ℕ) (m : Memory) → top < 33 → s + n < 2 ^ 64 → n ≤ f → n ≤ g → push_all f top s n m ≡ push_all g top s n m
enough zero g top s n m t w h i = let z : n ≡ 0 = omega arith in rw z (none zero top s m ∙ sym (none g top s m))
enough (suc f) zero top s n m t w h i = let z : n ≡ 0 = omega arith in rw z (none (suc f) top s m ∙ sym (none zero top s m))
enough (suc f) (suc g) top s n m t w h i =
    ⊎_elim (λ z. rw z (none (suc f) top s m ∙ sym (none (suc g) top s m)))
    (λ q.
    let p : Piece top s n (piece_size top s n) = piece top s n (omega arith) (omega arith) q (omega arith) in
    let d = p.never_0 in
    let l = p.within in
    one-push f top s n m (λ z. omega arith)
    ∙ enough f g top (s + piece_size top s n) (n - piece_size top s n) (push (size_class (piece_size top s n)) s m) t (omega arith) (omega arith) (omega arith)
    ∙ sym (one-push g top s n m (λ z. omega arith)))
    (eq-zero-or-pos n)

module _ (top s n size : ℕ) (order : top < 33) (within : s + n < 2 ^ 64) (some : 0 < n) (is : size ≡ piece_size top s n) where
  its : Piece top s n size
  its = rw is (piece top s n (omega arith) (omega arith) some (omega arith))

  pub piece-fits : (0 < size) × (size ≤ n)
  piece-fits = (its.never_0, its.within)

  -- the piece's class is one of the 33
  pub piece-class : size_class size < 33
  piece-class =
      let k = its.power.class in
      let small : 2 ^ k ≤ 2 ^ top = rw its.power.is at its.small in
      let low : k ≤ top = exp-le k top (omega (arith, pow_pos top)) in
      let c : size_class size ≡ k = ap size_class its.power.is ∙ size-class k (omega arith) in
      omega arith

  pub push-turn : (class : ℕ) (m m' : Memory) → class ≡ size_class size → m' ≡ push class s m → push_all (n - size) top (s + size) (n - size) m' ≡ push_all n top s n m
  push-turn class m m' c e =
      let e' : m' ≡ push (size_class (piece_size top s n)) s m = e ∙ ap (λ (k : ℕ). push k s m) (c ∙ ap size_class is) in
      let turns : n ≡ suc (n - 1) = omega arith in
      let f = piece-fits in
      rw (e', is)
      (enough (n - piece_size top s n) (n - 1) top (s + piece_size top s n) (n - piece_size top s n) _ order (omega arith) (omega arith) (omega arith)
      ∙ sym (one-push (n - 1) top s n m (λ z. omega arith)) ∙ ap (λ (t : ℕ). push_all t top s n m) (sym turns))

pub push-end : (top s n : ℕ) (m : Memory) → n ≤ 0 → push_all n top s n m ≡ m
push-end top s n m h = let z : n ≡ 0 = omega arith in rw z (none 0 top s m)
