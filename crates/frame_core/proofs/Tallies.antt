-- The pass over the records that counts their frames: one record at a time. Assumes nothing.
use Rattle.std.proofs.Common.{◌≡◌, ℕ, ◌+◌, ◌-◌, ◌^◌, ◌<◌, ◌≤◌, max, Bool, true, false, eqb, List, [], ◌∷◌, map, drop, length, get_or, sym, refl, ap, ◌∙◌, add-zero, add_assoc, zero-add, arith}
use native.Mathlib.Nat.{zero-max, max-zero}
use Rattle.std.proofs.lemmas.List.{drop_all}
use Rattle.rules.specs.Rules.{Block, blk, Sound, none, next, granted, frames_of, largest_free}
use Rattle.table.specs.Layout.{mark_of, class_of, start_of, end_of, block_of}
use Rattle.frame_core.specs.Tally.{Tallied, free_of}
use Rattle.frame_core.proofs.Records.{from_step}

-- the frames of a record's block, by its end and its start
pub size-is : (w end start : ℕ) → end ≡ end_of w → start ≡ start_of w → end - start ≡ 2 ^ class_of w
size-is w end start p q = omega (arith, p, q)

-- blocks that do not overlap have no more frames than there are
step-le : (p : Block → Bool) (floor : ℕ) (g : Bool) (k s : ℕ) (bs : List Block) (b : Bool) → p (blk g k s) ≡ b → floor ≤ s → s + 2 ^ k + frames_of p bs ≤ 2 ^ 32
    → floor + frames_of p (blk g k s ∷ bs) ≤ 2 ^ 32
step-le p floor g k s bs true e low rest = rw (frames_of, e) (omega arith)
step-le p floor g k s bs false e low rest = rw (frames_of, e) (omega arith)

frames-le : (p : Block → Bool) {top floor : ℕ} {bs : List Block} → Sound top floor bs → floor ≤ 2 ^ 32 → floor + frames_of p bs ≤ 2 ^ 32
frames-le p none h = omega arith
frames-le p (next {floor = floor} {g = g} {k = k} {s = s} {bs = bs} low class aligned within more) h =
    step-le p floor g k s bs (p (blk g k s)) refl low (frames-le p more within)

-- the figures so far, with those of the records from place i on, are those of all the records ws
pub record Tally (ws : List ℕ) (i of_granted of_all largest : ℕ) : Type 0 where
  pub granted-left : of_granted + frames_of granted (map block_of (drop i ws)) ≡ frames_of granted (map block_of ws)
  pub managed-left : of_all + frames_of (λ b. true) (map block_of (drop i ws)) ≡ frames_of (λ b. true) (map block_of ws)
  pub largest-left : max largest (largest_free (map block_of (drop i ws))) ≡ largest_free (map block_of ws)

pub begins : (ws : List ℕ) → Tally ws 0 0 0 0
begins ws = record { granted-left = zero-add _; managed-left = zero-add _; largest-left = zero-max _ }

pub ends : (ws : List ℕ) (i of_granted of_all largest : ℕ) → length ws ≤ i → Tally ws i of_granted of_all largest → Tallied (map block_of ws) of_granted of_all largest
ends ws i of_granted of_all largest l s =
    let n : drop i ws ≡ [] = drop_all i ws l in
    record {
      granted_are = sym (add-zero of_granted) ∙ rw n at s.granted-left;
      managed_are = sym (add-zero of_all) ∙ rw n at s.managed-left;
      largest_is = sym (max-zero largest) ∙ rw n at s.largest-left;
    }

-- what one record adds
granted-step : (w size : ℕ) (r : List Block) (m : Bool) → eqb (mark_of w) 1 ≡ m → size ≡ 2 ^ class_of w
    → size - free_of w size + frames_of granted r ≡ frames_of granted (block_of w ∷ r)
granted-step w size r true e s = rw (free_of, e) (omega arith)
granted-step w size r false e s = rw (free_of, e) (omega arith)

largest_step : (w size : ℕ) (r : List Block) (m : Bool) → eqb (mark_of w) 1 ≡ m → size ≡ 2 ^ class_of w → max (free_of w size) (largest_free r) ≡ largest_free (block_of w ∷ r)
largest_step w size r true e s = rw (free_of, e) (zero-max _)
largest_step w size r false e s = rw (free_of, e, s)

free-le : (w size : ℕ) (m : Bool) → eqb (mark_of w) 1 ≡ m → free_of w size ≤ size
free-le w size true e = rw (free_of, e) (omega arith)
free-le w size false e = rw (free_of, e) (omega arith)

max_assoc : (a b c : ℕ) → max (max a b) c ≡ max a (max b c)
max_assoc a b c = omega arith

module _ (ws : List ℕ) (i : ℕ) (here : i < length ws) {of_granted of_all largest : ℕ} (so_far : Tally ws i of_granted of_all largest) (size free : ℕ)
    (power : size ≡ 2 ^ class_of (get_or ws i 0)) (part : free ≡ free_of (get_or ws i 0) size) where
  granted-now : of_granted + (size - free + frames_of granted (map block_of (drop (i + 1) ws))) ≡ frames_of granted (map block_of ws)
  granted-now =
      ap (λ (n : ℕ). of_granted + (size - n + frames_of granted (map block_of (drop (i + 1) ws)))) part
      ∙ ap (λ (n : ℕ). of_granted + n) (granted-step (get_or ws i 0) size (map block_of (drop (i + 1) ws)) (eqb (mark_of (get_or ws i 0)) 1) refl power)
      ∙ rw (from_step i ws here) at so_far.granted-left

  managed-now : of_all + (size + frames_of (λ b. true) (map block_of (drop (i + 1) ws))) ≡ frames_of (λ b. true) (map block_of ws)
  managed-now = ap (λ (n : ℕ). of_all + (n + frames_of (λ b. true) (map block_of (drop (i + 1) ws)))) power ∙ rw (from_step i ws here) at so_far.managed-left

  pub record Fits : Type 0 where
    pub part_of : free ≤ size
    pub granted-fit : of_granted + (size - free) ≤ 2 ^ 32
    pub managed-fit : of_all + size ≤ 2 ^ 32

  pub fits : {top : ℕ} → Sound top 0 (map block_of ws) → Fits
  fits sound =
      let g = frames-le granted sound (omega arith) in
      let m = frames-le (λ b. true) sound (omega arith) in
      record {
        part_of = rw part (free-le (get_or ws i 0) size (eqb (mark_of (get_or ws i 0)) 1) refl);
        granted-fit = omega (arith, g, granted-now);
        managed-fit = omega (arith, m, managed-now);
      }

  pub goes_on : (more : ℕ) → more ≡ max largest free → Tally ws (i + 1) (of_granted + (size - free)) (of_all + size) more
  goes_on more e =
      record {
        granted-left = add_assoc of_granted _ _ ∙ granted-now;
        managed-left = add_assoc of_all _ _ ∙ managed-now;
        largest-left = ap (λ (n : ℕ). max n (largest_free (map block_of (drop (i + 1) ws)))) e ∙ max_assoc largest free _
            ∙ ap (λ (n : ℕ). max largest (max n (largest_free (map block_of (drop (i + 1) ws))))) part
            ∙ ap (max largest) (largest_step (get_or ws i 0) size (map block_of (drop (i + 1) ws)) (eqb (mark_of (get_or ws i 0)) 1) refl power)
            ∙ rw (from_step i ws here) at so_far.largest-left;
      }
