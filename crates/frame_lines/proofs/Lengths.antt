-- No line that `calls` prints is longer than 64 bytes.
use mathlib.Core.Bool.{Bool, true, false, cond}
use mathlib.Core.List.{List, ◌++◌}
use Prim.Native.Nat.{ℕ, ◌≤◌}
use native.Mathlib.Omega.{arith}
use lib.Dec.{eqb}
use lib.ListN.{length}
use Rattle.texts.specs.Bytes.{bytes}
use Rattle.texts.specs.Text.{decimal, line_feed}
use Rattle.texts.proofs.Lengths.{length-decimal, both}
use Rattle.frame_lines.specs.Text.{reply_text, heading_text, record_text}

pub reply-length : (number value : ℕ) (valued : Bool) → length (reply_text number value valued) ≤ 64
reply-length number value valued = by_cases (eqb number 0) valued
  where
    by_cases : (t v : Bool) → length (cond t (cond v (decimal value ++ line_feed) (bytes "ok\n")) (bytes "no " ++ decimal number ++ line_feed)) ≤ 64
    by_cases true true = omega (arith, both (decimal value) line_feed 20 1 (length-decimal value) (omega arith))
    by_cases true false = omega arith
    by_cases false v = omega (arith, both (decimal number) line_feed 20 1 (length-decimal number) (omega arith))

pub heading-length : (order records : ℕ) → length (heading_text order records) ≤ 64
heading-length order records =
    let first : List ℕ = bytes "order " in
    let second : List ℕ = bytes " records " in
    let numbers =
    both (first ++ decimal order) (second ++ decimal records) 26 29 (both first (decimal order) 6 20 (omega arith) (length-decimal order))
    (both second (decimal records) 9 20 (omega arith) (length-decimal records)) in
    let all : length (heading_text order records) ≤ 56 = both ((first ++ decimal order) ++ (second ++ decimal records)) line_feed 55 1 numbers (omega arith) in
    omega arith

pub record-length : (start class : ℕ) (granted : Bool) → length (record_text start class granted) ≤ 64
record-length start class granted =
    let numbers =
    both (decimal start) (bytes " " ++ decimal class) 20 21 (length-decimal start) (both (bytes " ") (decimal class) 1 20 (omega arith) (length-decimal class)) in
    let all : length (record_text start class granted) ≤ 50 = both (decimal start ++ (bytes " " ++ decimal class)) (words granted) 41 9 numbers (short granted) in
    omega arith
  where
    words : Bool → List ℕ
    words t = cond t (bytes " granted\n") (bytes " free\n")

    short : (t : Bool) → length (words t) ≤ 9
    short true = omega arith
    short false = omega arith
