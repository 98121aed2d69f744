use Rattle.std.proofs.Common.{refl}
use Rattle.std.specs.Fmt.{digits}
use Rattle.language.specs.Trace.{◌next◌, settled, done}
use Rattle.language.specs.Meaning as M
use Rattle.language.specs.Steps as P
use Rattle.examples.proofs.examples_stand.Goals as goal

pub returns : goal.returns
unfolding digits ◌next◌ settled done M.course M.block M.stmt M.condition M.expr M.term M.factor M.each_row P.steps P.block P.stmt P.condition P.expr P.term P.factor
returns c = record {
  forms = record {
    plus_c = refl;
    plus_f = refl;
    minus_d = refl;
    minus_zero = refl;
    no_sign = refl;
    even_size = refl;
    spare_used = refl;
    other_zones = refl;
    zoned_minus = refl;
    binary_highest = refl;
    binary_over = refl;
  };
  lines = record {
    places = refl;
    no_places = refl;
    below_zero = refl;
    no_value = refl;
    account = refl;
    damaged_account = refl;
    short_ticket = refl;
  };
  rules = record {
    half_rounded = refl;
    half_dropped = refl;
    large_product = refl;
    too_large_product = refl;
    least_read = refl;
    least_course = refl;
  };
  weighbridge = record {
    rounded_read = refl;
    dropped_read = refl;
    its_steps = refl;
    its_course = refl;
    its_length = refl;
    third_entry = refl;
    pay_rounded = refl;
    pay_dropped = refl;
  };
  refusals = refl;
  sheets = record {
    plain_price = refl;
    cut_for_dirt = refl;
    minimum_paid = refl;
    minimum_passed = refl;
    rows_summed = refl;
    rows_rounded = refl;
    correction_carried = refl;
    correction_covered = refl;
    charge_rounded = refl;
    charge_dropped = refl;
    paper_steps = refl;
    metal_steps = refl;
  };
  faults = record {
    no_value = refl;
    no_value_in_a_row = refl;
    too_long = refl;
    just_short = refl;
    too_long_stored = refl;
    not_held = refl;
    below_zero = refl;
  };
  calls = record {
    answered = refl;
    nothing_left = refl;
  };
}
