-- What `calls` prints, from docs/RULES.md, "The lines of `calls`".
use Rattle.std.specs.Prelude.{Bool, cond, List, ◌++◌, ℕ, eqb}
use Rattle.texts.specs.Bytes.{bytes}
use Rattle.texts.specs.Text.{decimal, line_feed}

-- "It prints `ok`, a start, or `no` and the number"
abbrev pub reply_text : ℕ → ℕ → Bool → List ℕ
reply_text number value valued =
    cond (eqb number 0)
    (cond valued (decimal value ++ line_feed) (bytes "ok\n"))
    (bytes "no " ++ decimal number ++ line_feed)

-- "at the end the table": `order 33 records 2`
abbrev pub heading_text : ℕ → ℕ → List ℕ
heading_text order records =
    (bytes "order " ++ decimal order)
    ++ (bytes " records " ++ decimal records)
    ++ line_feed

-- "each record as start, class, and `granted` or `free`"
abbrev pub record_text : ℕ → ℕ → Bool → List ℕ
record_text start class granted =
    decimal start ++ (bytes " " ++ decimal class)
    ++ cond granted (bytes " granted\n") (bytes " free\n")
