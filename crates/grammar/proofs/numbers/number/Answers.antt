-- `grammar::numbers::number` meets its contract. The loop's invariant: the digits that are left go on from the value so far. Assumes nothing.
use mathlib.Core.Bool.{Bool, ◌&&◌}
use mathlib.Core.List.{[]}
use mathlib.Core.Path.{◌≡◌, sym, ap, ◌∙◌}
use Prim.Native.Nat.{◌+◌, ◌-◌, ◌*◌}
use native.Mathlib.Omega.{arith}
use borrow.Author.Rules.{rules}
use lib.ListN.{get_or, drop, drop_of_length-le}
use Rattle.std.specs.Prelude.{Some}
use Rattle.grammar.specs.Line.{all_digits, value_on}
use Rattle.grammar.proofs.Numerals.{digits_step, value-step, grows, is_number, is-empty, not-digits, too_large}
use Rattle.grammar.proofs.numbers.number.Goals as goal

pub returns-then-is_empty : goal.returns-then-is_empty
returns-then-is_empty c = is-empty c.args.word.now (search rules)

pub returns-then-not-is_ascii_digit : goal.returns-then-not-is_ascii_digit
returns-then-not-is_ascii_digit c =
    let w = c.args.word.now in
    let l = c.loop-byte in
    not-digits w (l.invariant.0 ∙ digits_step w l.byte-index (omega arith) ∙ ap (λ (t : Bool). t && all_digits (drop (l.byte-index + 1) w)) (sym c.if-not-is_ascii_digit.ensures.value))

pub returns-in_err-checked_mul : goal.returns-in_err-checked_mul
returns-in_err-checked_mul c =
    let w = c.args.word.now in
    let l = c.loop-byte in
    let v = l.value * 10 + (get_or w l.byte-index 0 - 48) in
    rw c.from_residual.ensures (too_large w (omega (arith, c.in_err-checked_mul.ensures, l.invariant.1, value-step l.value w l.byte-index (omega arith), grows (drop (l.byte-index + 1) w) v)))

pub returns-in_err-value : goal.returns-in_err-value
returns-in_err-value c =
    let w = c.args.word.now in
    let l = c.loop-byte in
    let v = l.value * 10 + (get_or w l.byte-index 0 - 48) in
    rw c.from_residual-in_err-value.ensures (too_large w
    (omega (arith, c.in_err-value.ensures, c.in_ok-checked_mul.ensures, c.from.ensures, l.invariant.1, value-step l.value w l.byte-index (omega arith), grows (drop (l.byte-index + 1) w) v)))

pub returns : goal.returns
returns c =
    let w = c.args.word.now in
    let l = c.loop-byte in
    let none : drop l.byte-index w ≡ [] = drop_of_length-le w {i = l.byte-index} (omega arith) in
    let value : value_on 0 w ≡ l.value = l.invariant.1 ∙ ap (value_on l.value) none in
    sym (is_number w (search rules) (l.invariant.0 ∙ ap all_digits none) (omega arith) ∙ ap Some value)
