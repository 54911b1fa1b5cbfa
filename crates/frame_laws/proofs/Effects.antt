-- What each call decides over the blocks of a sound table: a refusal, or a list of which the frames and the grants are known. Assumes nothing.
use mathlib.Core.Path.{◌≡◌, refl}
use mathlib.Core.Logic.{◌⊎◌}
use mathlib.Core.Bool.{Bool, true, false, not, ◌||◌}
use mathlib.Core.List.{List, [], ◌∷◌}
use Prim.Native.Nat.{ℕ, ◌-◌, ◌%◌, ◌^◌, ◌≤◌, ◌<◌}
use native.Mathlib.Omega.{arith}
use lib.Dec.{eqb, leb, ltb}
use lib.ListN.{length}
use borrow.Author.Tests.{eqb-true, ltb-false, not-false}
use Rattle.words.proofs.Tests.{not-either}
use Rattle.answers.specs.declared.Refusal.{Refusal}
use Rattle.answers.specs.declared.Refusal.TheVariants.{BadRange, Overlap, BadAlign, Misaligned, NoBlock, NotGranted, NoRoom}
use Rattle.answers.specs.Paper.{number_of}
use Rattle.answers.specs.Judging.{refused, done, Check, refuse, judge}
use Rattle.blocks.specs.Blocks.{rounded, is_power_of_two}
use Rattle.std.specs.Prelude.{Option, Some, None, is_none, unwrap_or}
use Rattle.rules.specs.Aligned.{Aligned}
use Rattle.rules.specs.Largest.{Joined}
use Rattle.rules.specs.Rules.{Block, Sound, start, some, added, overlaps, serving, containing, block_at, halved, is_granted, released}
use Rattle.rules.specs.Managed.{Free, Granted, Is, Managed, Within, Touches, Kept, Offers, Leaves}
use Rattle.rules.proofs.Added.{added-leaves}
use Rattle.rules.proofs.Halved.{halved-leaves}
use Rattle.rules.proofs.Freed.{released-leaves}
use Rattle.rules.proofs.Lengths.{released-length}
use Rattle.rules.proofs.Restored.{serving-offers, containing-offers, grant-granted, restored}
use Rattle.frame_core.specs.Deciding.{Decision, wanted, no_room}
use Rattle.frame_add.specs.Adding.{adding}
use Rattle.frame_grant.specs.Granting.{granted_from, granting, granting_at}
use Rattle.frame_release.specs.Releasing.{releasing}
use Rattle.frame.specs.Outcome.{Call, Add, Alloc, AllocAligned, AllocAt, Dealloc, DeallocAligned, Summary, aligned_to, decide}
use Rattle.frame_laws.specs.Demand3.{Requests, alloc, alloc_aligned, Grants, any, alloc_at, Releases, dealloc, dealloc_aligned}

-- what a call decides on a table of these blocks, with room for so many
pub data Effect (top room : ℕ) (bs : List Block) : Call → Decision → Type 0 where
  refuses : {c : Call} {r : Refusal} → 3 < number_of r → Effect top room bs c (refused r)
  adds : {s e : ℕ} {after : List Block} → Leaves top (λ x. Managed bs x ⊎ Within s e x) (Granted bs) (Joined top (Free bs) × (s < e → Touches s e bs → ⊥)) after
      → length after ≤ room → Effect top room bs (Add s e) (done (0 ∷ []) after)
  grants : {c : Call} {k v : ℕ} {after : List Block} → Grants c k
      → Leaves top (Managed bs) (λ j t. Is k v j t ⊎ Granted bs j t) (Joined top (Free bs)) after → length after ≤ room
      → (Kept top bs → (some (is_granted k v) after ≡ true) × (released top k v after ≡ bs)) → Effect top room bs c (done (v ∷ []) after)
  gives : {c : Call} {k s : ℕ} {after : List Block} → Releases c k s
      → Leaves top (Managed bs) (λ j t. Granted bs j t × (Is k s j t → ⊥)) (Joined top (Free bs)) after → length after ≤ room
      → Effect top room bs c (done (0 ∷ []) after)
  sums : {values : List ℕ} → Effect top room bs Summary (done values bs)

-- the first of the checks
test : (P : Decision → Type 0) (b : Bool) (r : Refusal) (cs : List Check) (d : Decision) → P (refused r) → (b ≡ false → P (judge cs d)) → P (judge (refuse b r ∷ cs) d)
test P true r cs d holds fails = holds
test P false r cs d holds fails = fails refl

-- what is left of the checks of a grant once its class is known to be small enough, and what it decides
module _ (room : ℕ) (bs : List Block) where
  abbrev pub rest : Option ℕ → (Block → ℕ) → ℕ → List Check
  rest f run k = refuse (is_none f) NoBlock ∷ no_room room (granted_from f run k bs) ∷ []

  abbrev pub given : Option ℕ → (Block → ℕ) → ℕ → Decision
  given f run k = done (run (block_at (unwrap_or f 0) bs) ∷ []) (granted_from f run k bs)

module _ (order room : ℕ) (bs : List Block) (low : 1 ≤ order) (high : order ≤ 33) (sound : Sound (order - 1) 0 bs) (fits : length bs ≤ room) where
  abbrev Has : Call → Decision → Type 0
  Has c d = Effect (order - 1) room bs c d

  adding-effect : (s e : ℕ) → Has (Add s e) (adding s e order room bs)
  unfolding adding
  adding-effect s e =
      let d : Decision = done (0 ∷ []) (added (order - 1) s e bs) in
      let last : List Check = no_room room (added (order - 1) s e bs) ∷ [] in
      test (Has (Add s e)) (ltb e s || ltb (2 ^ 32) e) BadRange (refuse (some (overlaps s e) bs) Overlap ∷ last) d (refuses {r = BadRange} (omega arith))
      (λ within.
      test (Has (Add s e)) (some (overlaps s e) bs) Overlap last d (refuses {r = Overlap} (omega arith))
      (λ clear.
      test (Has (Add s e)) (ltb room (length (added (order - 1) s e bs))) NoRoom [] d (refuses {r = NoRoom} (omega arith))
      (λ enough.
      let w = not-either (ltb e s) (ltb (2 ^ 32) e) within in
      adds (added-leaves s e bs (omega arith) (ltb-false e s w.0) (ltb-false (2 ^ 32) e w.1) sound clear) (ltb-false room _ enough))))

  -- a grant from the block that was found
  found-effect : {c : Call} {k : ℕ} → Grants c k → (run : Block → ℕ) (f : Option ℕ) → ((i : ℕ) → f ≡ Some i → Offers k (run (block_at i bs)) i bs)
      → Has c (judge (rest room bs f run k) (given room bs f run k))
  found-effect g run None offers = refuses {r = NoBlock} (omega arith)
  found-effect {c} {k} g run (Some i) offers =
      test (Has c) (ltb room (length (halved k (run (block_at i bs)) i bs))) NoRoom [] (done (run (block_at i bs) ∷ []) (halved k (run (block_at i bs)) i bs)) (refuses {r = NoRoom} (omega arith))
      (λ enough.
      let o = offers i refl in
      grants g (halved-leaves k (run (block_at i bs)) i bs sound o) (ltb-false room _ enough)
      (λ w. (grant-granted k (run (block_at i bs)) i bs sound o, restored (omega arith) bs w k (run (block_at i bs)) i o)))

  granting-effect : {c : Call} {k : ℕ} → Requests c k → Has c (granting k order room bs)
  unfolding granting
  granting-effect {c} {k} r =
      let f : Option ℕ = serving (order - 1) k bs in
      test (Has c) (leb order k) NoBlock (rest room bs f start k) (given room bs f start k) (refuses {r = NoBlock} (omega arith))
      (λ l. found-effect (any r) start f (λ i e. serving-offers k i bs sound e))

  granting-at-effect : (s n : ℕ) → Has (AllocAt s n) (granting_at s (wanted (rounded n)) order room bs)
  unfolding granting_at
  granting-at-effect s n =
      let k : ℕ = wanted (rounded n) in
      let f : Option ℕ = containing k s bs in
      let misaligned : Bool = not (eqb (s % 2 ^ k) 0) in
      test (Has (AllocAt s n)) (leb order k) NoBlock (refuse misaligned Misaligned ∷ rest room bs f (λ b. s) k) (given room bs f (λ b. s) k) (refuses {r = NoBlock} (omega arith))
      (λ l.
      test (Has (AllocAt s n)) misaligned Misaligned (rest room bs f (λ b. s) k) (given room bs f (λ b. s) k) (refuses {r = Misaligned} (omega arith))
      (λ m.
      let a : Aligned k s = record { multiple = eqb-true (s % 2 ^ k) 0 (not-false _ m) } in
      found-effect (alloc_at s n) (λ b. s) f (λ i e. containing-offers k s i bs a e)))

  releasing-effect : {c : Call} {k s : ℕ} → Releases c k s → Has c (releasing s k order bs)
  unfolding releasing
  releasing-effect {c} {k} {s} r =
      test (Has c) (not (some (is_granted k s) bs)) NotGranted [] (done (0 ∷ []) (released (order - 1) k s bs)) (refuses {r = NotGranted} (omega arith))
      (λ m.
      let g = not-false _ m in
      gives r (released-leaves (omega arith) k s bs sound g) (omega (arith, released-length (order - 1) k s bs g)))

  aligned-effect : {c : Call} (a : ℕ) (d : Decision) → (is_power_of_two a ≡ true → Has c d) → Has c (aligned_to a d)
  aligned-effect {c} a d power = test (Has c) (not (is_power_of_two a)) BadAlign [] d (refuses {r = BadAlign} (omega arith)) (λ p. power (not-false _ p))

  pub effect : (c : Call) → Has c (decide c order room bs)
  unfolding decide
  effect (Add s e) = adding-effect s e
  effect (Alloc n) = granting-effect (alloc n)
  effect (AllocAligned n a) = aligned-effect a _ (λ p. granting-effect (alloc_aligned n a p))
  effect (AllocAt s n) = granting-at-effect s n
  effect (Dealloc s n) = releasing-effect (dealloc s n)
  effect (DeallocAligned s n a) = aligned-effect a _ (λ p. releasing-effect (dealloc_aligned s n a p))
  effect Summary = sums
