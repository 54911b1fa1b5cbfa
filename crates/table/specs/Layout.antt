-- The words of a frame table, from docs/RULES.md, "The frame table": "Fields are packed most significant first."
use Rattle.std.specs.Prelude.{Bool, true, false, List, ◌∷◌, map, ℕ, ◌+◌, ◌*◌, ◌/◌, ◌%◌, ◌^◌, eqb, length, get_or}
use Rattle.std.proofs.Math.Seq.{slice}
use Rattle.words.specs.Words.{pad}
use Rattle.rules.specs.Rules.{Block, blk}

-- what a table says: its ORDER, and its blocks in ascending start
pub record State : Type 0 where
  pub order : ℕ
  pub blocks : List Block

-- "Word 0: ORDER 6 bits, record count 16, zero 42."
abbrev pub order_of : ℕ → ℕ
order_of w = w / 0x400_0000_0000_0000

abbrev pub count_of : ℕ → ℕ
count_of w = w / 0x400_0000_0000 % 0x1_0000

abbrev pub rest_of : ℕ → ℕ
rest_of w = w % 0x400_0000_0000

-- "Each record: granted mark 1 bit, class 6, zero 25, start 32."
abbrev pub mark_of : ℕ → ℕ
mark_of w = w / 0x8000_0000_0000_0000

abbrev pub class_of : ℕ → ℕ
class_of w = w / 0x200_0000_0000_0000 % 64

abbrev pub gap_of : ℕ → ℕ
gap_of w = w / 0x1_0000_0000 % 0x200_0000

abbrev pub start_of : ℕ → ℕ
start_of w = w % 0x1_0000_0000

-- the frame after a record's last
abbrev pub end_of : ℕ → ℕ
end_of w = start_of w + 2 ^ class_of w

-- the block that a record's word says
abbrev pub block_of : ℕ → Block
block_of w = blk (eqb (mark_of w) 1) (class_of w) (start_of w)

-- "Records stand in ascending start; words after the last are zero": the records of a table, and what it says
abbrev pub records : List ℕ → List ℕ
records ws = slice 1 (count_of (get_or ws 0 0) + 1) ws

abbrev pub blocks_of : List ℕ → List Block
blocks_of ws = map block_of (records ws)

abbrev pub state_of : List ℕ → State
state_of ws = record { order = order_of (get_or ws 0 0); blocks = blocks_of ws }

-- ---- and back: the words of a state

abbrev pub mark_word : Bool → ℕ
mark_word true = 0x8000_0000_0000_0000
mark_word false = 0

abbrev pub word_of : Block → ℕ
word_of (blk g k s) = mark_word g + k * 0x200_0000_0000_0000 + s

abbrev pub head_of : State → ℕ
head_of st = st.order * 0x400_0000_0000_0000 + length st.blocks * 0x400_0000_0000

-- the whole table of n words
abbrev pub words_of : ℕ → State → List ℕ
words_of n st = pad n (head_of st ∷ map word_of st.blocks)
