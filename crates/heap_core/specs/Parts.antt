-- The form of the promise of a refused call's reply.
use Rattle.std.specs.Prelude.{Err}
use Rattle.answers.specs.declared.Refusal.{Refusal}
use Rattle.heap_state.specs.declared.Heap.{Heap}
use Rattle.heap_state.specs.declared.Reply.{Reply}

-- the reply of a refused call
abbrev pub refused_with : Heap → Refusal → Reply
refused_with h refusal = record { answer = Err refusal; heap = h }
