use Rattle.language.proofs.bounds_stand.Goals as goal
use Rattle.language.proofs.Bounds.Bounds.{bounds}

pub returns : goal.returns
returns c = bounds
