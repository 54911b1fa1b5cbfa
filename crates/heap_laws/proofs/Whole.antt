-- Every call on a sound heap answers and leaves what the rules of the lists say, and a sound heap; a refused call leaves every word. Assumes nothing.
use mathlib.Core.Path.{◌≡◌, refl}
use mathlib.Core.Bool.{Bool, true, false}
use mathlib.Core.List.{List}
use Prim.Native.Nat.{ℕ, ◌+◌, ◌<◌}
use native.Mathlib.Omega.{arith}
use Rattle.answers.specs.declared.Refusal.{Refusal}
use Rattle.answers.specs.declared.Refusal.TheVariants.{BadOrder, BadSize, BadState, BadRange, NullStart, Overlap, BadAlign, Misaligned, NoBlock, NotGranted, NoRoom}
use Rattle.answers.specs.Paper.{number_of}
use Rattle.heap_state.specs.State.{State}
use Rattle.heap_blocks.specs.Sound.{is_sound}
use Rattle.answers.specs.Judging.{refused, done}
use Rattle.heap_core.specs.Deciding.{Decision, carried}
use Rattle.heap.specs.Outcome.{Call, Init, AddToHeap, Alloc, Dealloc, ZeroFill, StatsAllocUser, StatsAllocActual, StatsTotalBytes, decide, outcome}
use Rattle.heap_laws.specs.Claims.{Healthy, Follows, value_after, lists_after}
use Rattle.heap_laws.proofs.Keeping.{Right, refuses, does}
use Rattle.heap_laws.proofs.AddCalls.{adding-right}
use Rattle.heap_laws.proofs.GrantCalls.{granting-right}
use Rattle.heap_laws.proofs.ReleaseCalls.{releasing-right, zeroing-right}

-- ---- every call

decided : (st : State) → Healthy st → (call : Call) → Right (value_after call st) (lists_after call st) (decide call st)
unfolding decide
decided st h (Init s n) = adding-right st h s (s + n)
decided st h (AddToHeap s e) = adding-right st h s e
decided st h (Alloc size align) = granting-right st h size align
decided st h (Dealloc a size align) = releasing-right st h a size align
decided st h (ZeroFill a size align) = zeroing-right st h a size align
decided st h StatsAllocUser = does (record { value_is = refl; lists_are = refl; healthy = h })
decided st h StatsAllocActual = does (record { value_is = refl; lists_are = refl; healthy = h })
decided st h StatsTotalBytes = does (record { value_is = refl; lists_are = refl; healthy = h })

-- a refusal has a number above 0
refusal-above-0 : (r : Refusal) → 0 < number_of r
refusal-above-0 BadOrder = omega arith
refusal-above-0 BadSize = omega arith
refusal-above-0 BadState = omega arith
refusal-above-0 BadRange = omega arith
refusal-above-0 NullStart = omega arith
refusal-above-0 Overlap = omega arith
refusal-above-0 BadAlign = omega arith
refusal-above-0 Misaligned = omega arith
refusal-above-0 NoBlock = omega arith
refusal-above-0 NotGranted = omega arith
refusal-above-0 NoRoom = omega arith

accepted : {value : ℕ} {after : List (List ℕ)} (st : State) {d : Decision} → Right value after d → (carried st d).number ≡ 0 →
    Follows value after (carried st d).value (carried st d).state
accepted st (refuses {r}) e = absurd (omega (arith, refusal-above-0 r))
accepted st (does f) e = f

-- an accepted call answers and leaves what the rules of the lists say, and the heap is sound
pub by-the-rules : (call : Call) (st : State) → Healthy st → (outcome call st).number ≡ 0 →
    Follows (value_after call st) (lists_after call st) (outcome call st).value (outcome call st).state
unfolding outcome
by-the-rules call st h e = rw (h.sound, outcome) (accepted st (decided st h call) (rw (h.sound, outcome) at e))

unchanged : (st : State) (d : Decision) → ((carried st d).number ≡ 0 → ⊥) → (carried st d).state ≡ st
unchanged st (refused r) q = refl
unchanged st (done v after) q = absurd (q refl)

-- a refused call, on any heap, leaves every word, and so every list
pub refused-unchanged : (call : Call) (st : State) → ((outcome call st).number ≡ 0 → ⊥) → (outcome call st).state ≡ st
unfolding outcome
refused-unchanged call st q = go (is_sound st) refl
  where
    go : (t : Bool) → is_sound st ≡ t → (outcome call st).state ≡ st
    go true e = rw (e, outcome) (unchanged st (decide call st) (rw (e, outcome) at q))
    go false e = rw (e, outcome) refl

kept : {value : ℕ} {after : List (List ℕ)} (st : State) {d : Decision} → Healthy st → Right value after d → Healthy (carried st d).state
kept st h refuses = h
kept st h (does f) = f.healthy

-- a sound heap stays sound, whatever is called
pub stays-sound : (call : Call) (st : State) → Healthy st → Healthy (outcome call st).state
unfolding outcome
stays-sound call st h = rw (h.sound, outcome) (kept st h (decided st h call))
