-- The halving of a grant, turn by turn, at the numbers as the code has them. Assumes nothing.
use mathlib.Core.Path.{◌≡◌, refl, sym, ap, ◌∙◌}
use mathlib.Core.List.{List}
use Prim.Native.Nat.{ℕ, zero, suc, ◌+◌, ◌-◌, ◌^◌, ◌≤◌, ◌<◌}
use native.Mathlib.Omega.{arith}
use lib.Pow.{pow_mono}
use lib.ListN.{length, get_or, set, length-set}
use lib.Seq.{get_or-set_same}
use Rattle.linked_list.specs.Links.{next, popped}
use Rattle.std.specs.Prelude.{Some, Ok}
use Rattle.linked_list.specs.declared.Taken.{Taken}
use Rattle.heap_state.specs.Lists.{Memory, head, push, pop, split, split_down}
use Rattle.blocks.specs.Blocks.{size_of}
use Rattle.blocks.proofs.Rounding.{size_is}
use Rattle.heap_moves.specs.Moves.{mem, Popped, TakenOut}
use Rattle.heap_moves.proofs.Steps.{pop-is}

-- the first block of class k is the one that is halved, and the halvings still to come, of what is there, make what all of them make
pub record Halving (from class : ℕ) (before now : Memory) (k : ℕ) : Type 0 where
  pub rest : split_down (k - class) class now ≡ split_down (from - class) class before
  pub block : head k now ≡ head from before
  pub low : class ≤ k
  pub high : k ≤ from
  pub wide : length now.heads ≡ 33

pub halving-start : (from class : ℕ) (m : Memory) → length m.heads ≡ 33 → class ≤ from → Halving from class m m from
halving-start from class m l h = record { rest = refl; block = refl; low = h; high = omega arith; wide = l }

-- ---- what a pop says

pub popped-some : (heads arena : List ℕ) (class : ℕ) (t : Taken) → popped (get_or heads class 0) arena ≡ Some t
    → Popped class (mem heads arena) (Some t.block) (mem (set heads class t.head) arena)
popped-some heads arena class t e = let p = go (get_or heads class 0) e in (p.0, pop-is heads arena class t.head p.1)
  where
    go : (first : ℕ) → popped first arena ≡ Some t → (t.block ≡ first) × (t.head ≡ next arena first)
    go zero e = let w : ◌≡◌ {A = ℕ} 0 1 = cc in absurd (omega arith)
    go (suc a) e =
        let u : t ≡ record { block = suc a; head = next arena (suc a) } = cc in
        (ap (λ (x : Taken). x.block) u, ap (λ (x : Taken). x.head) u)

-- ---- one turn

head-pushed : (class block : ℕ) (m : Memory) → class < length m.heads → head class (push class block m) ≡ block
unfolding push
head-pushed class block m h = get_or-set_same m.heads class block 0 h

length-pushed : (class block : ℕ) (m : Memory) → length (push class block m).heads ≡ length m.heads
unfolding push
length-pushed class block m = length-set m.heads class block

length-popped : (class : ℕ) (m : Memory) → length (pop class m).heads ≡ length m.heads
unfolding pop
length-popped class m = length-set m.heads class _

length-split : (class : ℕ) (m : Memory) → length (split class m).heads ≡ length m.heads
unfolding split
length-split class m =
    length-pushed class (head (suc class) m) _ ∙ length-pushed class (head (suc class) m + 2 ^ class) _ ∙ length-popped (suc class) m

split-head : (class : ℕ) (m : Memory) → class < length m.heads → head class (split class m) ≡ head (suc class) m
unfolding split
split-head class m h =
    head-pushed class (head (suc class) m) _ (omega (arith, length-pushed class (head (suc class) m + 2 ^ class) (pop (suc class) m), length-popped (suc class) m))

one-turn : (n class : ℕ) (m : Memory) → split_down (suc n) class m ≡ split_down n class (split (class + n) m)
unfolding split_down
one-turn n class m = refl

turns : (k class : ℕ) (m : Memory) → class < k → split_down (k - class) class m ≡ split_down (k - 1 - class) class (split (k - 1) m)
turns k class m h =
    let e : k - class ≡ suc (k - 1 - class) = omega arith in
    let f : class + (k - 1 - class) ≡ k - 1 = omega arith in
    ap (λ (n : ℕ). split_down n class m) e ∙ one-turn (k - 1 - class) class m ∙ ap (λ (j : ℕ). split_down (k - 1 - class) class (split j m)) f

split_by : (k b size : ℕ) (m m₁ m₂ m₃ : Memory) → 0 < k → m₁ ≡ pop k m → m₂ ≡ push (k - 1) (b + size) m₁ → m₃ ≡ push (k - 1) b m₂
    → b ≡ head k m → size ≡ 2 ^ (k - 1) → m₃ ≡ split (k - 1) m
unfolding split
split_by k b size m m₁ m₂ m₃ h e₁ e₂ e₃ eb es =
    let s : suc (k - 1) ≡ k = omega arith in
    rw (s, e₃, e₂, e₁, eb, es)

-- the first block of class k is popped, and its halves are pushed
pub halving-turn : (from class k b size : ℕ) (m₀ m m₁ m₂ m₃ : Memory) → from < 33 → class < k → Halving from class m₀ m k → Popped k m (Some b) m₁
    → size ≡ size_of (k - 1) → m₂ ≡ push (k - 1) (b + size) m₁ → m₃ ≡ push (k - 1) b m₂ → Halving from class m₀ m₃ (k - 1)
halving-turn from class k b size m₀ m m₁ m₂ m₃ f more h p es e₂ e₃ =
    let hi : k ≤ from = h.high in
    let s : m₃ ≡ split (k - 1) m = split_by k b size m m₁ m₂ m₃ (omega arith) p.1 e₂ e₃ p.0 (es ∙ size_is (k - 1) (omega arith)) in
    let back : suc (k - 1) ≡ k = omega arith in
    record {
      rest = rw s (sym (turns k class m more) ∙ h.rest);
      block = rw s (split-head (k - 1) m (omega (arith, h.wide)) ∙ rw back h.block);
      low = omega arith;
      high = omega arith;
      wide = rw s (length-split (k - 1) m ∙ h.wide);
    }

-- the block that is halved ends below 2 ^ 64, so its upper half starts there
pub upper_fits : (k from size top block : ℕ) → k ≤ from → 0 < k → size ≡ size_of (k - 1) → from < 33 → top + 2 ^ from < 2 ^ 64 → block ≡ top → block + size < 2 ^ 64
upper_fits k from size top block h some e f l b =
    let s : size ≡ 2 ^ (k - 1) = e ∙ size_is (k - 1) (omega arith) in
    let m : 2 ^ (k - 1) ≤ 2 ^ from = pow_mono (omega arith) in
    omega arith

-- no halving is left: the block is the first of its class
pub taken : (from class k b : ℕ) (m₀ m after : Memory) → k ≤ class → Halving from class m₀ m k → Popped class m (Some b) after → TakenOut from class m₀ (Ok b) after
unfolding split_down
taken from class k b m₀ m after h l p =
    let z : k - class ≡ 0 = omega arith in
    let r : m ≡ split_down (from - class) class m₀ = rw z at l.rest in
    record { answer = ap Ok (p.0 ∙ ap (head class) r); memory = p.1 ∙ ap (pop class) r }

-- the block that comes out is the one that was halved
pub halved-head : (n class : ℕ) (m : Memory) → class + n < length m.heads → head class (split_down n class m) ≡ head (class + n) m
unfolding split_down
halved-head zero class m h = let e : class + 0 ≡ class = omega arith in rw e
halved-head (suc n) class m h =
    let e : class + suc n ≡ suc (class + n) = omega arith in
    halved-head n class (split (class + n) m) (omega (arith, length-split (class + n) m)) ∙ split-head (class + n) m (omega arith) ∙ ap (λ (j : ℕ). head j m) (sym e)
