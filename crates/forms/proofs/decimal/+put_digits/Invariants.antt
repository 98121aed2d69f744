use Rattle.std.proofs.Common.{length}
use Rattle.forms.proofs.decimal.+put_digits.Given as goal

abbrev pub decreases-put_digits : goal.decreases-put_digits
decreases-put_digits g l = length l.part.now
