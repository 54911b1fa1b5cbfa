-- `texts::text::put` meets its contract: what has a place is copied there, and the rest of the text has none. Assumes nothing.
use Prim.Native.Nat.{ℕ, ◌+◌, ◌-◌, ◌≤◌, min}
use mathlib.Core.Path.{◌≡◌, sym, ap, ◌∙◌}
use borrow.Author.Rules.{rules}
use native.Mathlib.Omega.{arith}
use lib.ListN.{length, take, length-take}
use lib.Seq.{sets}
use Rattle.texts.proofs.Putting.{sets-out, put_mid-sets, sets-fit}
use Rattle.texts.proofs.text.put.Goals as goal

pub returns-then-out-at : goal.returns-then-out-at
returns-then-out-at c =
    let a = c.args in
    record { bytes = sym (sets-out a.text.now a.out.now a.at (search rules)); place = omega arith }

pub returns : goal.returns
returns c =
    let a = c.args in
    let n : ℕ = c.min-n.result in
    let whole : n ≡ min (length a.text.now) (length a.out.now - a.at) = c.min-n.ensures in
    let long : a.at + n - a.at ≡ length (take n a.text.now) = omega (arith, length-take n a.text.now) in
    let fits : a.at + (a.at + n - a.at) ≤ length a.out.now = omega arith in
    record {
      bytes =
          rw (c.copy_from_slice.ensures.after, put_mid-sets a.at (a.at + n - a.at) a.out.now (take n a.text.now) long fits)
          (ap (λ (k : ℕ). sets a.out.now a.at (take k a.text.now)) whole ∙ sets-fit a.text.now a.out.now a.at (omega arith));
      place = omega arith;
    }
