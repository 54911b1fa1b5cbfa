-- `grammar::saying::named` meets its contract: the comparison of bytes is `same`. Assumes nothing.
use mathlib.Core.List.{List}
use Prim.Native.Nat.{ℕ}
use mathlib.Core.Path.{◌≡◌, sym, subst}
use native.Mathlib.Omega.{arith}
use lib.Seq.{take_all}
use lib.ListN.{take}
use Rattle.std.specs.Bool.{Decides}
use Rattle.std.proofs.lemmas.Bool.Decides.{Decides-eqb}
use Rattle.std.proofs.lemmas.Slice.Eq.{slice_eq-Decides}
use Rattle.grammar.specs.Line.{same}
use Rattle.grammar.proofs.Sayings.{same-is}
use Rattle.grammar.proofs.saying.named.Goals as goal

pub returns-then-line-len : goal.returns-then-line-len
returns-then-line-len c =
    let a = c.args in
    let d : Decides c.eq.result (a.line.now ≡ a.name.now) = slice_eq-Decides Decides-eqb _ _ _ c.eq.ensures in
    subst (λ (l : List ℕ). c.eq.result ≡ same l a.name.now) (sym (take_all a.len a.line.now (omega arith)))
    (same-is a.line.now a.name.now c.eq.result d.0 d.1)

pub returns : goal.returns
returns c =
    let a = c.args in
    let d : Decides c.eq-2.result (take a.len a.line.now ≡ a.name.now) = slice_eq-Decides Decides-eqb _ _ _ c.eq-2.ensures in
    same-is (take a.len a.line.now) a.name.now c.eq-2.result d.0 d.1
