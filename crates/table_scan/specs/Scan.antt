-- Internal to the scan of src/scan.rt: what the contracts of its private functions cite. When a table is sound stands in specs/Sound.antt of `table`.
use Rattle.std.specs.Prelude.{Bool, ◌&&◌, cond, List, [], ◌∷◌, ◌≡◌, ℕ, ◌-◌, ◌%◌, ◌^◌, ◌<◌, ◌≤◌, leb, ltb, eqb, Option, Some, None}
use Rattle.table.specs.Layout.{class_of, gap_of, start_of, end_of}
use Rattle.table.specs.Sound.{recordb}

-- ORDER, but at most 32: what it comes to for a record that another stands before
abbrev pub below33 : ℕ → ℕ
below33 order = order - (order - 32)

abbrev pub mask_of : ℕ → ℕ
mask_of w = 2 ^ (class_of w % 32) - 1

-- r is 1 where start is at or below last, and 0 where it is not
pub record Lap (start last r : ℕ) : Type 0 where
  pub small : r ≤ 1
  pub none : r ≡ 0 → last < start
  pub some : last < start → r ≡ 0

-- nothing wrong was gathered
unfoldable pub cleanb : ℕ → ℕ → ℕ → ℕ → ℕ → Bool
cleanb order words overs masks laps =
    eqb (gap_of words) 0 && ltb (class_of words) 32 && eqb overs 0 && ltb masks (2 ^ (order - 1)) && eqb laps 0

-- the record is good, and the block before it ends at floor, at or before its start
unfoldable pub nextb : ℕ → ℕ → ℕ → Bool
nextb order floor w = recordb order w && leb floor (start_of w)

-- where the last of the records' blocks ends, if that holds of each in turn, or floor if there is none
abbrev pub end_after : ℕ → ℕ → List ℕ → Option ℕ
end_after order floor [] = Some floor
end_after order floor (w ∷ ws) = cond (nextb order floor w) (end_after order (end_of w) ws) None
