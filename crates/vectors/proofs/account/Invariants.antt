-- No more examples were counted than lines, nor more that differ than examples.
use Rattle.std.proofs.Common.{◌<◌, ◌≤◌}
use Rattle.std.specs.Iterator.Adapters.{zip_first}
use Rattle.vectors.proofs.account.Given as goal

abbrev pub invariant-loop-number : goal.invariant-loop-number
invariant-loop-number l =
    (goal.iterator-loop-number).can_next l.number-iterator
    × (goal.iterator-loop-number).is_finite l.number-iterator
    × (l.differ ≤ l.all)
    × (l.all < (zip_first l.number-iterator).start)
