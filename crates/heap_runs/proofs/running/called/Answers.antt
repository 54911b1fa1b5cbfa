-- `heap_runs::running::called` meets its contract: each call of `heap` has its outcome. Assumes nothing.
use Rattle.heap_runs.proofs.running.called.Goals as goal

pub returns-in-Add : goal.returns-in-Add
returns-in-Add c = rw c.in-Add.is c.add_to_heap.ensures

pub returns-in-Init : goal.returns-in-Init
returns-in-Init c = rw c.in-Init.is c.init.ensures

pub returns-in-Alloc : goal.returns-in-Alloc
returns-in-Alloc c = rw c.in-Alloc.is c.alloc.ensures

pub returns-in-Free : goal.returns-in-Free
returns-in-Free c = rw c.in-Free.is c.dealloc.ensures

pub returns-in-Zero : goal.returns-in-Zero
returns-in-Zero c = rw c.in-Zero.is c.zero_fill.ensures
