-- `lines::pieces::piece_end` meets its contract: no byte before the first separator is one. Assumes nothing.
use mathlib.Core.Path.{◌≡◌, ap, ◌∙◌}
use borrow.Author.Rules.{rules}
use lib.Dec.{eqb}
use lib.ListN.{length}
use Prim.Native.Nat.{ℕ}
use Rattle.std.specs.List.{position}
use Rattle.std.specs.Option.{unwrap_or}
use Rattle.std.specs.Prelude.{Option}
use Rattle.std.proofs.lemmas.Iterator.{YieldsList-from_slice}
use Rattle.std.proofs.lemmas.Iterator.Search.{position_from_yields_List}
use Rattle.std.proofs.Common.{tests}
use Rattle.lines.proofs.Cutting.{first-piece}
use Rattle.lines.proofs.pieces.piece_end.Goals as goal

pub returns : goal.returns
returns c =
    let a = c.args in
    let found : c.position.result ≡ position (λ (b : ℕ). eqb b a.separator) a.bytes.now =
    position_from_yields_List (λ (b : ℕ). eqb b a.separator) _ _ c.position.result c.position.ensures.ran (YieldsList-from_slice _ c.iter.ensures.rest) (λ x b q k. search (rules, tests)) in
    first-piece a.separator a.bytes.now c.unwrap_or.result (c.unwrap_or.ensures ∙ ap (λ (o : Option ℕ). unwrap_or o (length a.bytes.now)) found)
