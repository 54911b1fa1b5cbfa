-- Demand 3, all statements together. Assumes nothing.
use Rattle.frame_laws.specs.Demand3.{Demand3}
use Rattle.frame_laws.proofs.Reaching.{free_blocks_are_largest, made_is_sound, refused_making}
use Rattle.frame_laws.proofs.Restoring.{release_restores, any-order-of-releases}
use Rattle.frame_laws.proofs.Wanting.{refused_for_want, refused_at_start}
use Rattle.frame_laws.proofs.Keeping.{soundness_kept, nothing_left_to_join, never_bad_state}
use Rattle.frame_laws.proofs.Touching.{premise_is_needed, touch_is_near, premise_is_met}

pub demand-3 : Demand3
demand-3 =
    record {
      free_blocks_are_largest = free_blocks_are_largest;
      release_restores = release_restores;
      any_order = any-order-of-releases;
      refused_for_want = refused_for_want;
      refused_at_start = refused_at_start;
      premise_is_needed = premise_is_needed;
      touch_is_near = touch_is_near;
      premise_is_met = premise_is_met;
      soundness_kept = soundness_kept;
      made_is_sound = made_is_sound;
      refused_making = refused_making;
      never_bad_state = never_bad_state;
      nothing_left_to_join = nothing_left_to_join;
    }
