-- `grammar::saying::say` meets its contract: word after word, until the line ends or is bad. Assumes nothing.
use mathlib.Core.Path.{ap, ◌∙◌}
use native.Mathlib.Omega.{arith}
use Rattle.std.specs.Prelude.{Ok}
use Rattle.std.proofs.lemmas.Result.{err_from_is_err_and}
use Rattle.grammar.proofs.Sayings.{too_long, too_many, at_name, one_more, no_more, wrong_word}
use Rattle.grammar.proofs.saying.say.Goals.{In-Some, In-Some-2, In-Some-3}
use Rattle.grammar.proofs.saying.say.Goals as goal

pub returns-then-line-gt80-clause-result_value : goal.returns-then-line-gt80-clause-result_value
returns-then-line-gt80-clause-result_value c = too_long c.args.line.now (omega arith)

pub returns-in_err-a-clause-result_value : goal.returns-in_err-a-clause-result_value
returns-in_err-a-clause-result_value c =
    let bs = c.args.line.now in
    let n = c.piece_end-name.result in
    let p = err_from_is_err_and c.from_residual.result c.from_residual.ensures.1 in
    rw p.1 (wrong_word bs n (at_name bs n) c.next.result c.next.ensures (omega arith) c.piece_end-name.ensures c.in_err-a.was)

pub returns-in_default-clause-result_value : goal.returns-in_default-clause-result_value
returns-in_default-clause-result_value c =
    let bs = c.args.line.now in
    let n = c.piece_end-name.result in
    no_more bs n (at_name bs n) c.next.result c.next.ensures (omega arith) c.piece_end-name.ensures (omega arith) (c.in_ok-a.was ∙ ap Ok c.in_default.is)

pub returns-in_err-b-clause-result_value : goal.returns-in_err-b-clause-result_value
returns-in_err-b-clause-result_value c =
    let bs = c.args.line.now in
    let n = c.piece_end-name.result in
    let r1 = one_more bs n (at_name bs n) c.next.result c.next.ensures (c.in_ok-a.was ∙ ap Ok c.in-Some.is) in
    let p = err_from_is_err_and c.from_residual-in_err-b.result c.from_residual-in_err-b.ensures.1 in
    rw p.1 (wrong_word bs n r1 c.next-2.result c.next-2.ensures (omega arith) c.piece_end-name.ensures c.in_err-b.was)

pub returns-in_default-2-clause-result_value : goal.returns-in_default-2-clause-result_value
returns-in_default-2-clause-result_value c =
    let bs = c.args.line.now in
    let n = c.piece_end-name.result in
    let r1 = one_more bs n (at_name bs n) c.next.result c.next.ensures (c.in_ok-a.was ∙ ap Ok c.in-Some.is) in
    no_more bs n r1 c.next-2.result c.next-2.ensures (omega arith) c.piece_end-name.ensures (omega arith) (c.in_ok-b.was ∙ ap Ok c.in_default-2.is)

pub returns-in_err-c-clause-result_value : goal.returns-in_err-c-clause-result_value
returns-in_err-c-clause-result_value c =
    let bs = c.args.line.now in
    let n = c.piece_end-name.result in
    let r1 = one_more bs n (at_name bs n) c.next.result c.next.ensures (c.in_ok-a.was ∙ ap Ok c.in-Some.is) in
    let r2 = one_more bs n r1 c.next-2.result c.next-2.ensures (c.in_ok-b.was ∙ ap Ok c.in-Some-2.is) in
    let p = err_from_is_err_and c.from_residual-in_err-c.result c.from_residual-in_err-c.ensures.1 in
    rw p.1 (wrong_word bs n r2 c.next-3.result c.next-3.ensures (omega arith) c.piece_end-name.ensures c.in_err-c.was)

pub returns-in_default-3-clause-result_value : goal.returns-in_default-3-clause-result_value
returns-in_default-3-clause-result_value c =
    let bs = c.args.line.now in
    let n = c.piece_end-name.result in
    let r1 = one_more bs n (at_name bs n) c.next.result c.next.ensures (c.in_ok-a.was ∙ ap Ok c.in-Some.is) in
    let r2 = one_more bs n r1 c.next-2.result c.next-2.ensures (c.in_ok-b.was ∙ ap Ok c.in-Some-2.is) in
    no_more bs n r2 c.next-3.result c.next-3.ensures (omega arith) c.piece_end-name.ensures (omega arith) (c.in_ok-c.was ∙ ap Ok c.in_default-3.is)

pub returns-in_err-next-clause-result_value : goal.returns-in_err-next-clause-result_value
returns-in_err-next-clause-result_value c =
    let bs = c.args.line.now in
    let n = c.piece_end-name.result in
    let r1 = one_more bs n (at_name bs n) c.next.result c.next.ensures (c.in_ok-a.was ∙ ap Ok c.in-Some.is) in
    let r2 = one_more bs n r1 c.next-2.result c.next-2.ensures (c.in_ok-b.was ∙ ap Ok c.in-Some-2.is) in
    let r3 = one_more bs n r2 c.next-3.result c.next-3.ensures (c.in_ok-c.was ∙ ap Ok c.in-Some-3.is) in
    let p = err_from_is_err_and c.from_residual-in_err-next.result c.from_residual-in_err-next.ensures.1 in
    rw p.1 (wrong_word bs n r3 c.next-4.result c.next-4.ensures (omega arith) c.piece_end-name.ensures c.in_err-next.was)

pub returns-in-None-clause-result_value : goal.returns-in-None-clause-result_value
returns-in-None-clause-result_value c =
    let bs = c.args.line.now in
    let n = c.piece_end-name.result in
    let r1 = one_more bs n (at_name bs n) c.next.result c.next.ensures (c.in_ok-a.was ∙ ap Ok c.in-Some.is) in
    let r2 = one_more bs n r1 c.next-2.result c.next-2.ensures (c.in_ok-b.was ∙ ap Ok c.in-Some-2.is) in
    let r3 = one_more bs n r2 c.next-3.result c.next-3.ensures (c.in_ok-c.was ∙ ap Ok c.in-Some-3.is) in
    no_more bs n r3 c.next-4.result c.next-4.ensures (omega arith) c.piece_end-name.ensures (omega arith) (c.in_ok-next.was ∙ ap Ok c.in-None.is)

pub returns-in-Some-4-clause-result_value : goal.returns-in-Some-4-clause-result_value
returns-in-Some-4-clause-result_value c =
    let bs = c.args.line.now in
    let n = c.piece_end-name.result in
    let r1 = one_more bs n (at_name bs n) c.next.result c.next.ensures (c.in_ok-a.was ∙ ap Ok c.in-Some.is) in
    let r2 = one_more bs n r1 c.next-2.result c.next-2.ensures (c.in_ok-b.was ∙ ap Ok c.in-Some-2.is) in
    let r3 = one_more bs n r2 c.next-3.result c.next-3.ensures (c.in_ok-c.was ∙ ap Ok c.in-Some-3.is) in
    let r4 = one_more bs n r3 c.next-4.result c.next-4.ensures (c.in_ok-next.was ∙ ap Ok c.in-Some-4.is) in
    too_many bs n (omega arith) c.piece_end-name.ensures (omega (arith, r4.count))
