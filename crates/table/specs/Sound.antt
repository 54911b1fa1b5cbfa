-- "A table is sound if ..", from docs/RULES.md, "The frame table", as a test that computes, in the order of that sentence.
use Rattle.std.specs.Prelude.{Bool, true, ◌&&◌, List, [], ◌∷◌, ℕ, ◌+◌, ◌-◌, ◌%◌, ◌^◌, leb, ltb, eqb, length, get_or, drop}
use Rattle.words.specs.Words.{zerosb}
use Rattle.table.specs.Layout.{order_of, count_of, rest_of, class_of, gap_of, start_of, end_of, records}

-- "its length, ORDER and count are in range": "1 to 65,536 words"; "ORDER is 1 to 33"; "Capacity is length minus 1"; "zero fields .. are zero"
unfoldable pub headb : ℕ → ℕ → Bool
headb n w = leb 1 n && leb n 65536 && leb 1 (order_of w) && leb (order_of w) 33 && leb (count_of w) (n - 1) && eqb (rest_of w) 0

-- a record's word by itself: "zero fields .. are zero, each class is below ORDER, each start is a multiple of its size, each block ends at or below 2^32"
unfoldable pub recordb : ℕ → ℕ → Bool
recordb order w = eqb (gap_of w) 0 && ltb (class_of w) order && eqb (start_of w % 2 ^ class_of w) 0 && leb (end_of w) (2 ^ 32)

abbrev pub recordsb : ℕ → List ℕ → Bool
recordsb order [] = true
recordsb order (w ∷ ws) = recordb order w && recordsb order ws

-- "each block ends at or before the next start"; a block before the first would have to end at or before `floor`
abbrev pub apartb : ℕ → List ℕ → Bool
apartb floor [] = true
apartb floor (w ∷ ws) = leb floor (start_of w) && apartb (end_of w) ws

-- the last of these: "zero words are zero"
unfoldable pub soundb : List ℕ → Bool
soundb ws =
    headb (length ws) (get_or ws 0 0) && recordsb (order_of (get_or ws 0 0)) (records ws) && apartb 0 (records ws)
    && zerosb (drop (count_of (get_or ws 0 0) + 1) ws)
