-- A promise of the C face admits one answer, or one number and one list of figures, and one list of words. Assumes nothing.
use mathlib.Core.Path.{◌≡◌, sym, ap, ◌∙◌}
use mathlib.Core.List.{List}
use Prim.Native.Nat.{ℕ}
use lib.ListN.{get_or}
use Rattle.answers_c.specs.declared.CAnswer.{CAnswer}
use Rattle.frame_core.specs.Carried.{Reply, Outcome}
use Rattle.frame_c.specs.Crossed.{Crossed, CrossedFigures}

-- the way back from paper
abbrev answer_of : Reply → CAnswer
answer_of r = record { number = r.number; value = get_or r.values 0 0 }

pub one-crossing : (o : Outcome) (r s : CAnswer) (after other : List ℕ) → Crossed o r after → Crossed o s other → (r ≡ s) × (after ≡ other)
one-crossing o r s after other a b = (ap answer_of (a.reply ∙ sym b.reply), a.words ∙ sym b.words)

pub one-summary : (o : Outcome) (n m : ℕ) (fs gs ws : List ℕ) → CrossedFigures o n fs ws → CrossedFigures o m gs ws → (n ≡ m) × (fs ≡ gs)
one-summary o n m fs gs ws a b =
    let e = a.reply ∙ sym b.reply in
    (ap (λ (r : Reply). r.number) e, ap (λ (r : Reply). r.values) e)
