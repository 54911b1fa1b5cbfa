-- The pieces of what is printed at the end, from docs/RULES.md, "The lines of `heap_calls`".
use Rattle.std.specs.Prelude.{List, ◌++◌, ℕ}
use Rattle.texts.specs.Bytes.{bytes}
use Rattle.texts.specs.Text.{decimal, hex, line_feed}
use Rattle.heap_state.specs.declared.Heap.{Heap}

-- "`record order O count C user U allocated A total T`"
abbrev pub record_text : Heap → List ℕ
record_text h =
    (bytes "record order " ++ decimal h.order) ++ (bytes " count " ++ decimal h.count) ++ (bytes " user " ++ decimal h.user)
    ++ (bytes " allocated " ++ decimal h.allocated) ++ (bytes " total " ++ decimal h.total) ++ line_feed

-- "`ledger I WORD` and `arena I WORD`"
abbrev pub word_text : List ℕ → ℕ → ℕ → List ℕ
word_text name i w = (name ++ decimal i) ++ bytes " " ++ hex w ++ line_feed
