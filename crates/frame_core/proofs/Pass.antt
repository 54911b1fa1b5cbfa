-- The pass over the records that finds the block which serves a grant: one record at a time. Assumes nothing.
use Rattle.std.proofs.Common.{◌≡◌, ℕ, ◌+◌, ◌-◌, ◌%◌, ◌^◌, ◌<◌, ◌≤◌, Bool, true, false, ◌&&◌, eqb, ltb, leb, List, [], ◌∷◌, map, drop, length, get_or, sym, refl, ap, ◌∙◌, true≢false, arith, ltb-false, ltb-true, le-ltb, lt-ltb, ne_eqb, leb-false, leb-true, Option, Some, None}
use borrow.Author.Tests.{eqb-false}
use Rattle.std.proofs.lemmas.List.{drop_all}
use Rattle.rules.specs.Rules.{Block, blk, smallest, or_else, free_in}
use Rattle.rules.proofs.Serving.{better, not-better, other-class, or_else-assoc, none_left}
use Rattle.table.specs.Layout.{mark_of, class_of, start_of, block_of}
use Rattle.words.proofs.Tests.{both}
use Rattle.frame_core.specs.Pick.{key_of, betterb}
use Rattle.frame_core.proofs.Records.{from_step}

-- the two tests by one: a key that is too small wraps far above every class
pub one-test : (class low w d : ℕ) → class ≤ low → low ≤ 64 → w < 2 ^ 64 → d < 2 ^ 64 → (d + class) % 2 ^ 64 ≡ key_of w → ltb d (low - class) ≡ betterb class low w
unfolding betterb
one-test class low w d h l fits small e = go (leb class (key_of w)) refl
  where
    go : (b : Bool) → leb class (key_of w) ≡ b → ltb d (low - class) ≡ (leb class (key_of w) && ltb (key_of w) low)
    go true q = rw q (shifted (leb-true class (key_of w) q) (ltb (key_of w) low) refl)
      where
        shifted : class ≤ key_of w → (b : Bool) → ltb (key_of w) low ≡ b → ltb d (low - class) ≡ ltb (key_of w) low
        shifted a true r = lt-ltb d (low - class) (omega (arith, ltb-true (key_of w) low r)) ∙ sym r
        shifted a false r = le-ltb d (low - class) (omega (arith, ltb-false (key_of w) low r)) ∙ sym r
    go false q = rw q (le-ltb d (low - class) (omega (arith, leb-false class (key_of w) q)))

pub lower : (class low w : ℕ) → low ≤ 64 → betterb class low w ≡ true → class_of w < low
unfolding betterb
lower class low w h e = omega (arith, ltb-true (key_of w) low (both (leb class (key_of w)) (ltb (key_of w) low) e).1)

pub large : (class low w : ℕ) → low ≤ 64 → betterb class low w ≡ true → class ≤ class_of w
unfolding betterb
large class low w h e =
    let p = both (leb class (key_of w)) (ltb (key_of w) low) e in
    omega (arith, leb-true class (key_of w) p.0, ltb-true (key_of w) low p.1)

-- a record that is better takes the place of the best so far
hit : (class low i w : ℕ) (r : List Block) (best : Option ℕ) → low ≤ 64 → betterb class low w ≡ true
    → or_else (smallest (low - class) class i (block_of w ∷ r)) best ≡ or_else (smallest (class_of w - class) class (i + 1) r) (Some i)
unfolding betterb
hit class low i w r best h e =
    let p = both (leb class (key_of w)) (ltb (key_of w) low) e in
    let a : class ≤ key_of w = leb-true class (key_of w) p.0 in
    let b : key_of w < low = ltb-true (key_of w) low p.1 in
    let k : class_of w ≡ class + (class_of w - class) = omega arith in
    let z : eqb (mark_of w) 1 ≡ false = ne_eqb (mark_of w) 1 (λ q. omega arith) in
    let f : block_of w ≡ blk false (class + (class_of w - class)) (start_of w) = ap (λ (g : Bool). blk g (class_of w) (start_of w)) z ∙ ap (λ (c : ℕ). blk false c (start_of w)) k in
    ap (λ (x : Block). or_else (smallest (low - class) class i (x ∷ r)) best) f
    ∙ ap (λ (x : Option ℕ). or_else x best) (better (low - class) class (class_of w - class) i (start_of w) r (omega arith))
    ∙ or_else-assoc (smallest (class_of w - class) class (i + 1) r) (Some i) best

-- one that is not is passed over
miss : (low class i w : ℕ) (r : List Block) → w < 2 ^ 64 → betterb class low w ≡ false → smallest (low - class) class i (block_of w ∷ r) ≡ smallest (low - class) class (i + 1) r
unfolding betterb
miss low class i w r h e = not-better (low - class) class i (block_of w) r (λ k l g. other k l g (eqb (mark_of w) 1) refl)
  where
    apart : (k : ℕ) → class ≤ k → k < class + (low - class) → key_of w ≡ class_of w → (a b : Bool) → leb class (key_of w) ≡ a → ltb (key_of w) low ≡ b
        → (a && b) ≡ false → class_of w ≡ k → ⊥
    apart k l g q true true x y z s = absurd (true≢false z)
    apart k l g q true false x y z s = omega (arith, ltb-false (key_of w) low y)
    apart k l g q false b x y z s = omega (arith, leb-false class (key_of w) x)

    other : (k : ℕ) → class ≤ k → k < class + (low - class) → (m : Bool) → eqb (mark_of w) 1 ≡ m → free_in k (block_of w) ≡ false
    other k l g true q = ap (λ (x : Bool). free_in k (blk x (class_of w) (start_of w))) q
    other k l g false q =
        let m : mark_of w ≡ 1 → ⊥ = eqb-false (mark_of w) 1 q in
        ap (λ (x : Bool). free_in k (blk x (class_of w) (start_of w))) q
        ∙ other-class k (class_of w) (start_of w) (apart k l g (omega arith) (leb class (key_of w)) (ltb (key_of w) low) refl refl e)

-- ---- the pass over the records ws: those from place i on give a better block, or else the best so far is what they all give

pub record Passing (order class low i : ℕ) (best : Option ℕ) (ws : List ℕ) : Type 0 where
  pub reach : class ≤ low
  pub small : low ≤ 64
  pub left : or_else (smallest (low - class) class i (map block_of (drop i ws))) best ≡ smallest (order - class) class 0 (map block_of ws)

or_else-none : (f : Option ℕ) → or_else f None ≡ f
or_else-none (Some i) = refl
or_else-none None = refl

pub begins : (order class : ℕ) (ws : List ℕ) → class < order → order ≤ 64 → Passing order class order 0 None ws
begins order class ws h l = record { reach = omega arith; small = l; left = or_else-none (smallest (order - class) class 0 (map block_of ws)) }

module _ {order class low i : ℕ} {best : Option ℕ} {ws : List ℕ} (p : Passing order class low i best ws) where
  module _ (h : i < length ws) where
    pub takes : betterb class low (get_or ws i 0) ≡ true → (k : ℕ) → k ≡ class_of (get_or ws i 0) → Passing order class k (i + 1) (Some i) ws
    takes b k e =
        let w : ℕ = get_or ws i 0 in
        record {
          reach = omega (arith, large class low w p.small b);
          small = omega (arith, lower class low w p.small b, p.small);
          left = ap (λ (n : ℕ). or_else (smallest (n - class) class (i + 1) (map block_of (drop (i + 1) ws))) (Some i)) e
              ∙ sym (hit class low i w (map block_of (drop (i + 1) ws)) best p.small b)
              ∙ rw (from_step i ws h) at p.left;
        }

    pub passes : get_or ws i 0 < 2 ^ 64 → betterb class low (get_or ws i 0) ≡ false → Passing order class low (i + 1) best ws
    passes l b =
        record {
          reach = p.reach;
          small = p.small;
          left = ap (λ (f : Option ℕ). or_else f best) (sym (miss low class i (get_or ws i 0) (map block_of (drop (i + 1) ws)) l b)) ∙ rw (from_step i ws h) at p.left;
        }

  -- a block that fits exactly is the best of all
  pub fits-exactly : low ≡ class → best ≡ smallest (order - class) class 0 (map block_of ws)
  fits-exactly e =
      let z : low - class ≡ 0 = omega arith in
      rw z at p.left

  pub ends : i ≡ length ws → best ≡ smallest (order - class) class 0 (map block_of ws)
  ends e =
      let n : map block_of (drop i ws) ≡ [] = ap (map block_of) (drop_all i ws (omega arith)) in
      sym (ap (λ (f : Option ℕ). or_else f best) (none_left (low - class) class i)) ∙ rw n at p.left
