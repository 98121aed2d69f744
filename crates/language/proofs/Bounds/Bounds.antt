-- Every sheet that is accepted from a text is bounded.
use Rattle.std.proofs.Common.{◌≤◌, [], ◌∷◌, length, subst, arith}
use Rattle.std.specs.List.{AllByRecursion}
use Rattle.language.specs.Tokens.{ends}
use Rattle.language.specs.Syntax.{printed}
use Rattle.language.specs.Steps.{steps}
use Rattle.language.specs.Bounds.{Bounds}
use Rattle.language.proofs.Acceptance.Admits.{admits}
use Rattle.language.proofs.Acceptance.Soundness.{sound}
use Rattle.language.proofs.Bounds.Sizes.{few_steps}
use Rattle.language.proofs.Bounds.Courses.{courses_short}
use Rattle.language.proofs.Bounds.Numbers.{SmallToken, tokens_small}
use Rattle.language.proofs.Bounds.Operands.{parted, steps_small}

pub bounds : Bounds
bounds forms text sheet h =
    let (writes, admitted) = sound forms text sheet h in
    let a = admits forms sheet admitted in
    let few : length (steps sheet) ≤ 4096 = few_steps text sheet writes in
    let numbers = (parted SmallToken (printed sheet) (ends ∷ []) (subst (AllByRecursion SmallToken) writes.same_tokens (tokens_small text))).0 in
    record {
      few_steps = few;
      small_lines = steps_small forms sheet a numbers;
      short_courses = λ ticket. omega (arith, courses_short forms sheet a ticket);
    }
