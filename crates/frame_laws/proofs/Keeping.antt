-- Soundness is kept by every call, and nothing is left to join where no range touches. Assumes nothing.
use mathlib.Core.Path.{◌≡◌, refl, sym, ap, ◌∙◌}
use mathlib.Core.Bool.{true}
use mathlib.Core.List.{List}
use Prim.Native.Nat.{ℕ, ◌-◌, ◌≤◌, ◌<◌}
use native.Mathlib.Omega.{arith}
use lib.ListN.{length, get_or}
use Rattle.answers.specs.Judging.{refused, done}
use Rattle.rules.specs.Largest.{Joined}
use Rattle.rules.specs.Rules.{Block, Sound}
use Rattle.rules.specs.Managed.{Free, Touches, Kept}
use Rattle.table.specs.Layout.{State, order_of, blocks_of, words_of}
use Rattle.table.specs.Sound.{soundb}
use Rattle.table.proofs.Facts.{sound-fact}
use Rattle.table.proofs.State.{state, sound-blocks, length-blocks, state-back, table-sound}
use Rattle.frame_core.specs.Deciding.{Decision}
use Rattle.frame_core.specs.Carried.{Outcome, carried}
use Rattle.frame.specs.Outcome.{Call, Add, zeros, decide, outcome}
use Rattle.frame_laws.specs.Demand3 as say
use Rattle.frame_laws.proofs.Tables.{stands-outcome}
use Rattle.frame_laws.proofs.Effects.{Effect, refuses, adds, grants, gives, sums, effect}
use Rattle.frame_laws.proofs.Reaching.{reached}

-- the range of a call touches no managed frame
abbrev Untouched : Call → List Block → Type 0
Untouched c bs = (s e : ℕ) → c ≡ Add s e → s < e → Touches s e bs → ⊥

-- what an accepted call leaves
record Left (top room : ℕ) (bs : List Block) (c : Call) (after : List Block) : Type 0 where
  sound : Sound top 0 after
  fits : length after ≤ room
  joined : Untouched c bs → Joined top (Free bs) → Joined top (Free after)

left : {top room : ℕ} {bs after : List Block} {c : Call} {values : List ℕ} → Sound top 0 bs → length bs ≤ room → Effect top room bs c (done values after) → Left top room bs c after
left sound fits (adds {s = s} {e = e} l f) = record { sound = l.sound; fits = f; joined = λ u j. l.joined (j, λ h t. u s e refl h t) }
left sound fits (grants g l f b) = record { sound = l.sound; fits = f; joined = λ u j. l.joined j }
left sound fits (gives r l f) = record { sound = l.sound; fits = f; joined = λ u j. l.joined j }
left sound fits sums = record { sound = sound; fits = fits; joined = λ u j. j }

-- any sound table after a call: sound, and with nothing left to join
record Keeps (ws : List ℕ) (c : Call) (after : List ℕ) : Type 0 where
  sound : soundb after ≡ true
  joined : Untouched c (blocks_of ws) → Kept (order_of (get_or ws 0 0) - 1) (blocks_of ws) → Kept (order_of (get_or ws 0 0) - 1) (blocks_of after)

module _ (c : Call) (ws : List ℕ) (is : soundb ws ≡ true) where
  carries : (d : Decision) → Effect (order_of (get_or ws 0 0) - 1) (length ws - 1) (blocks_of ws) c d → Keeps ws c (carried (zeros c) ws d).words
  carries (refused r) x = record { sound = is; joined = λ u k. k }
  carries (done values after) x =
      let f = sound-fact ws is in
      let h = f.head in
      let l = left (sound-blocks ws is) (omega (arith, length-blocks ws is, h.room)) x in
      let small : length after < 65536 = omega (arith, l.fits, h.short, h.long) in
      let room : length after < length ws = omega (arith, l.fits, h.long) in
      let st : State = state (order_of (get_or ws 0 0)) after in
      let back : blocks_of (words_of (length ws) st) ≡ after = ap (λ (s : State). s.blocks) (state-back (length ws) st h.low h.high small room l.sound) in
      record {
        sound = table-sound (length ws) st h.low h.high small room l.sound h.short;
        joined = λ u k. rw back (record { sound = l.sound; joined = l.joined u k.joined });
      }

  keeps : Keeps ws c (outcome c ws).words
  unfolding outcome
  keeps =
      let h = (sound-fact ws is).head in
      rw (is, outcome) (carries (decide c (order_of (get_or ws 0 0)) (length ws - 1) (blocks_of ws))
      (effect (order_of (get_or ws 0 0)) (length ws - 1) (blocks_of ws) h.low h.high (sound-blocks ws is) (omega (arith, length-blocks ws is, h.room)) c))

-- 6
pub soundness_kept : say.SoundnessKept
soundness_kept c ws e = (keeps c ws e).sound

pub nothing_left_to_join : say.NothingLeftToJoin
nothing_left_to_join c ws e k u = (keeps c ws e).joined u k

other-number : {top room : ℕ} {bs : List Block} {c : Call} (none ws : List ℕ) (d : Decision) → Effect top room bs c d → (carried none ws d).reply.number ≡ 3 → ⊥
other-number none ws d (refuses {r = r} p) e = omega arith
other-number none ws d (adds l f) e = omega arith
other-number none ws d (grants g l f b) e = omega arith
other-number none ws d (gives r l f) e = omega arith
other-number none ws d sums e = omega arith

pub never_bad_state : say.NeverBadState
never_bad_state order w r c e =
    let q = reached r in
    let t = q.stands in
    other-number (zeros c) w.words _ (effect order (length r.lent - 1) q.blocks t.low t.high t.sound (omega (arith, t.fits)) c)
    (ap (λ (o : Outcome). o.reply.number) (sym (stands-outcome t c)) ∙ e)
