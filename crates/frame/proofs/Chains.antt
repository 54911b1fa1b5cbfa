-- A promise admits one outcome only, and any chain of calls that each meet theirs has the replies and the last words of the
-- definition's run. Assumes nothing.
use mathlib.Core.Path.{◌≡◌, refl, sym, ap, ap₂, ◌∙◌}
use mathlib.Core.List.{List, [], ◌∷◌}
use Prim.Native.Nat.{ℕ}
use lib.ListN.{get_or}
use Rattle.answers.specs.Paper.{Answer}
use Rattle.std.specs.Prelude.{Ok, Err}
use Rattle.answers.proofs.Apart.{answer_of, back, tells-apart}
use Rattle.frame_core.specs.Carried.{Reply, Outcome, reply_of, Says}
use Rattle.frame.specs.Outcome.{Call}
use Rattle.frame.specs.Told.{Report, reply_of_report, Summed, replies, last, Chain, done, call}

pub chain-is : {cs : List Call} {before after : List ℕ} {rs : List Reply} → Chain cs before rs after → (rs ≡ replies cs before) × (after ≡ last cs before)
chain-is done = (refl, refl)
chain-is (call {cs = cs} w r) =
    let t = chain-is r in
    (ap₂ ◌∷◌ w.reply (t.0 ∙ ap (replies cs) w.words), t.1 ∙ ap (last cs) w.words)

-- ---- one outcome only: two answers that meet one promise from the same words are the same, and so are the words afterwards

same-reply : (a b : Answer) → reply_of a ≡ reply_of b → a ≡ b
same-reply a b e = tells-apart a b (ap (λ (r : Reply). record { number = r.number; value = get_or r.values 0 0 }) e)

-- of each call and of making, whose promises say an outcome that the words before and the arguments fix
pub one-outcome : (o : Outcome) (a b : Answer) (after other : List ℕ) → Says o (reply_of a) after → Says o (reply_of b) other → (a ≡ b) × (after ≡ other)
one-outcome o a b after other s t = (same-reply a b (s.reply ∙ sym t.reply), s.words ∙ sym t.words)

-- the report that a reply stands for: the way back from paper
abbrev report_from : List ℕ → Answer → Report
report_from vs (Ok v) = Ok (record { granted = get_or vs 0 0; managed = get_or vs 1 0; largest = get_or vs 2 0 })
report_from vs (Err r) = Err r

abbrev report_of : Reply → Report
report_of r = report_from r.values (answer_of r.number 0)

report-back : (s : Report) → report_of (reply_of_report s) ≡ s
report-back (Ok f) = refl
report-back (Err r) = ap (report_from (0 ∷ 0 ∷ 0 ∷ [])) (back (Err r))

pub one-report : (ws : List ℕ) (s t : Report) → Summed ws s → Summed ws t → s ≡ t
one-report ws s t a b = sym (report-back s) ∙ ap report_of (a.reply ∙ sym b.reply) ∙ report-back t
