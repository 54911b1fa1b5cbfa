-- Replies held to what was decided: a refused call's, and a done one's. Assumes nothing.
use Rattle.std.proofs.Common.{◌≡◌, ℕ, List, [], ◌∷◌, length, refl}
use Rattle.std.specs.Prelude.{Result, Ok, Err}
use Rattle.answers.specs.declared.Refusal.{Refusal}
use Rattle.answers.specs.Judging.{refused, done}
use Rattle.rules.specs.Rules.{Block}
use Rattle.table.specs.Layout.{state_of, words_of}
use Rattle.frame_core.specs.Deciding.{Decision}
use Rattle.frame_core.specs.Carried.{carried, reply_of, Says}

module _ (ws : List ℕ) (d : Decision) where
  pub says-refused : (r : Refusal) → d ≡ refused r → Says (carried (0 ∷ []) ws d) (reply_of (Err r)) ws
  says-refused r e = rw e (record { reply = refl; words = refl })

  pub says-done : (v : ℕ) (bs : List Block) (after : List ℕ) → d ≡ done (v ∷ []) bs → after ≡ words_of (length ws) (record { order = (state_of ws).order; blocks = bs })
      → Says (carried (0 ∷ []) ws d) (reply_of (Ok v)) after
  says-done v bs after e is = rw e (record { reply = refl; words = is })

-- what `?` hands on of an `ok_or` is the refusal that this names
pub same-refusal : {r s : Refusal} → ◌≡◌ {A = Result ℕ Refusal} (Err r) (Err s) → r ≡ s
same-refusal e = cc
