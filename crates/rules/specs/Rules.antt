-- The rules of blocks, from docs/RULES.md, "Blocks of frames", over the list of a table's blocks in ascending start. `top` is ORDER - 1.
use Rattle.std.specs.Prelude.{Bool, true, false, not, ◌&&◌, ◌||◌, List, [], ◌∷◌, ◌++◌, ℕ, zero, suc, ◌+◌, ◌-◌, ◌^◌, ◌≤◌, min, max, eqb, leb, ltb, take, drop, get_or, Option, Some, None}
use Rattle.blocks.specs.Blocks.{buddy_of, piece_size, size_class}
use Rattle.rules.specs.Aligned.{Aligned}
use Rattle.rules.specs.declared.Place.{Place}
use Rattle.rules.specs.declared.Place.TheVariants.{Inside, Gap}

-- a block: whether it is granted, its class, and its start
pub data Block : Type 0 where
  blk : Bool → ℕ → ℕ → Block

abbrev pub granted : Block → Bool
granted (blk g k s) = g

abbrev pub class : Block → ℕ
class (blk g k s) = k

abbrev pub start : Block → ℕ
start (blk g k s) = s

-- the frame after its last: "covers 2^k frames"
abbrev pub end : Block → ℕ
end (blk g k s) = s + 2 ^ k

-- the blocks of a sound table: classes up to top, "each start is a multiple of its size, each block ends at or below 2^32, and each
-- block ends at or before the next start"; the first starts at or after floor
pub data Sound (top : ℕ) : ℕ → List Block → Type 0 where
  none : {floor : ℕ} → Sound top floor []
  next : {floor : ℕ} {g : Bool} {k s : ℕ} {bs : List Block} → floor ≤ s → k ≤ top → Aligned k s → s + 2 ^ k ≤ 2 ^ 32 → Sound top (s + 2 ^ k) bs
      → Sound top floor (blk g k s ∷ bs)

-- is it the free block of class k at s? Is it the granted one?
abbrev pub is_free : ℕ → ℕ → Block → Bool
is_free k s (blk g j t) = not g && eqb j k && eqb t s

abbrev pub is_granted : ℕ → ℕ → Block → Bool
is_granted k s (blk g j t) = g && eqb j k && eqb t s

-- some block of the list passes a test; the blocks that do not
abbrev pub some : (Block → Bool) → List Block → Bool
some p [] = false
some p (b ∷ bs) = p b || some p bs

abbrev pub without : (Block → Bool) → List Block → List Block
without p [] = []
without p (b ∷ bs) = elim (p b) [ true ↦ without p bs | false ↦ b ∷ without p bs ]

-- "Records stand in ascending start": a block put into its place, and several
abbrev pub insert : Block → List Block → List Block
insert b [] = b ∷ []
insert b (x ∷ xs) = elim (ltb (start b) (start x)) [ true ↦ b ∷ x ∷ xs | false ↦ x ∷ insert b xs ]

abbrev pub insert_all : List Block → List Block → List Block
insert_all [] bs = bs
insert_all (p ∷ ps) bs = insert p (insert_all ps bs)

-- ---- Adding: "From s upward: each piece has the least of ..", n frames from s on; at most one piece for each frame
unfoldable pub cut_from : ℕ → ℕ → ℕ → ℕ → List Block
cut_from zero top s n = []
cut_from (suc turns) top s n = elim (eqb n 0) [
  | true ↦ []
  | false ↦ blk false (size_class (piece_size top s n)) s ∷ cut_from turns top (s + piece_size top s n) (n - piece_size top s n)
]

-- the pieces of [s, e)
unfoldable pub cut : ℕ → ℕ → ℕ → List Block
cut top s e = cut_from (e - s) top s (e - s)

-- "Pieces are not joined to earlier ones"
unfoldable pub added : ℕ → ℕ → ℕ → List Block → List Block
added top s e bs = insert_all (cut top s e) bs

-- a part of [s, e) is free or granted already; "s = e is accepted and adds nothing"
abbrev pub overlaps : ℕ → ℕ → Block → Bool
overlaps s e b = ltb s e && ltb (start b) e && ltb s (end b)

-- ---- Halving: a block of class j at t is halved towards the run of class c at `run`; the run is granted, "every half not taken is freed"
unfoldable pub towards : ℕ → ℕ → ℕ → ℕ → List Block
towards zero c run t = blk true zero t ∷ []
towards (suc i) c run t = elim (leb c i) [
  | true ↦ elim (ltb run (t + 2 ^ i)) [ true ↦ towards i c run t ++ (blk false i (t + 2 ^ i) ∷ []) | false ↦ blk false i t ∷ towards i c run (t + 2 ^ i) ]
  | false ↦ blk true (suc i) t ∷ []
]

-- ---- Looking for a block: at a place of the list, or nowhere
abbrev pub or_else : Option ℕ → Option ℕ → Option ℕ
or_else (Some i) f = Some i
or_else None f = f

-- the first block that passes a test, where the list's head has place i
abbrev pub first_from : (Block → Bool) → ℕ → List Block → Option ℕ
first_from p i [] = None
first_from p i (b ∷ bs) = elim (p b) [ true ↦ Some i | false ↦ first_from p (i + 1) bs ]

-- the block that has the frame f, or the place where its record would stand; the list's head has place i
abbrev pub place_from : ℕ → ℕ → List Block → Place
place_from f i [] = Gap i
place_from f i (b ∷ bs) = elim (ltb f (start b)) [ true ↦ Gap i | false ↦ elim (ltb f (end b)) [ true ↦ Inside i | false ↦ place_from f (i + 1) bs ] ]

unfoldable pub place_of : ℕ → List Block → Place
place_of f bs = place_from f 0 bs

-- ---- Granting: "The smallest class holding a free block that suffices; in it the lowest start": of n classes from k up
abbrev pub free_in : ℕ → Block → Bool
free_in k (blk g j t) = not g && eqb j k

abbrev pub smallest : ℕ → ℕ → ℕ → List Block → Option ℕ
smallest zero k i bs = None
smallest (suc n) k i bs = or_else (first_from (free_in k) i bs) (smallest n (suc k) i bs)

-- the block that serves a request of class c
unfoldable pub serving : ℕ → ℕ → List Block → Option ℕ
serving top c bs = smallest (suc top - c) c 0 bs

-- ---- Granting at a start: "The one free block that contains the run"
abbrev pub contains : ℕ → ℕ → Block → Bool
contains c run b = not (granted b) && leb (start b) run && leb (run + 2 ^ c) (end b)

unfoldable pub containing : ℕ → ℕ → List Block → Option ℕ
containing c run bs = first_from (contains c run) 0 bs

-- ---- Releasing: "While the class is below ORDER-1 and the buddy is free in the same class, join the two and go up one class. The joined
-- block becomes free." The block in hand is not in the list; it can go up as many times as there are classes above its own
unfoldable pub joined : ℕ → ℕ → ℕ → List Block → List Block
joined zero k s bs = insert (blk false k s) bs
joined (suc above) k s bs = elim (some (is_free k (buddy_of k s)) bs) [
  | true ↦ joined above (suc k) (min s (buddy_of k s)) (without (is_free k (buddy_of k s)) bs)
  | false ↦ insert (blk false k s) bs
]

unfoldable pub released : ℕ → ℕ → ℕ → List Block → List Block
released top k s bs = joined (top - k) k s (without (is_granted k s) bs)

-- ---- The list after a grant: the block at place i is halved towards the run of class c
abbrev pub block_at : ℕ → List Block → Block
block_at i bs = get_or bs i (blk false 0 0)

unfoldable pub halved : ℕ → ℕ → ℕ → List Block → List Block
halved c run i bs = take i bs ++ (towards (class (block_at i bs)) c run (start (block_at i bs)) ++ drop (i + 1) bs)

-- ---- The summary: "frames granted, frames managed, and the largest free run, which is the size of the largest free block (0 if none)"
abbrev pub frames_of : (Block → Bool) → List Block → ℕ
frames_of p [] = 0
frames_of p (b ∷ bs) = elim (p b) [ true ↦ 2 ^ class b + frames_of p bs | false ↦ frames_of p bs ]

abbrev pub largest_free : List Block → ℕ
largest_free [] = 0
largest_free (b ∷ bs) = elim (granted b) [ true ↦ largest_free bs | false ↦ max (2 ^ class b) (largest_free bs) ]
