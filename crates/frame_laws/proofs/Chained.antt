-- The world of History is what a chain of calls that keep their promises leaves. Assumes nothing.
use mathlib.Core.Path.{◌≡◌, refl, sym, ap, ◌∙◌}
use mathlib.Core.List.{List, [], ◌∷◌}
use Prim.Native.Nat.{ℕ}
use Rattle.answers.specs.Paper.{Answer}
use Rattle.answers.specs.Paper.{paper}
use Rattle.frame_core.specs.Carried.{Reply}
use Rattle.frame.specs.Outcome.{Call}
use Rattle.frame.specs.Told.{Made, Chain, last}
use Rattle.frame.proofs.Chains.{chain-is}
use Rattle.frame_laws.specs.History.{World, Reached, after, fresh}

pub after_last : (cs : List Call) (w : World) → (after cs w).words ≡ last cs w.words
after_last [] w = refl
after_last (c ∷ cs) w = after_last cs _

-- what the code leaves is reached
pub record Left (order : ℕ) (cs : List Call) (lent ws : List ℕ) : Type 0 where
  pub world : World
  pub reached : Reached order world
  pub words : world.words ≡ ws

pub chain-reached : {order : ℕ} {lent begun ws : List ℕ} {cs : List Call} {rs : List Reply} (a : Answer) → Made order lent a begun → (paper a).number ≡ 0 → Chain cs begun rs ws → Left order cs lent ws
chain-reached {order} {lent} {begun} {ws} {cs} a m e c =
    record {
      world = after cs (fresh order lent);
      reached = record { lent = lent; made = ap (λ (r : Reply). r.number) (sym m.reply) ∙ e; calls = cs; is = refl };
      words = after_last cs (fresh order lent) ∙ ap (last cs) (sym m.words) ∙ sym (chain-is c).1;
    }
