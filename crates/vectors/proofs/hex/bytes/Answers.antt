use Rattle.std.proofs.Common.{◌≡◌, ◌<◌, length, get_or, arith, rules}
use Rattle.std.proofs.lemmas.Result.{err_from_is_err_and}
use Rattle.vectors.specs.declared.fault.Fault.TheVariants.{Malformed}
use Rattle.vectors.proofs.Parts.{part_of, read_more}
use Rattle.vectors.proofs.hex.bytes.Goals as goal

pub returns-in_default-clause-fault : goal.returns-in_default-clause-fault
returns-in_default-clause-fault c = λ bs h.
    let part = part_of _ _ _ _ _ bs _ c.loop-part.invariant c.in-Some.ensures.steps.1 h in
    search rules

pub returns-in_err-ok_or-clause-fault : goal.returns-in_err-ok_or-clause-fault
returns-in_err-ok_or-clause-fault c =
    let fault = err_from_is_err_and c.from_residual.result c.from_residual.ensures.1 in
    let malformed : c.in_err-ok_or.field-0.0 ≡ Malformed = grind arith in
    rw (fault.1, fault.2, malformed) (λ bs h. grind (arith, part_of _ _ _ _ _ bs _ c.loop-part.invariant c.in-Some.ensures.steps.1 h))

pub loop-part-preserved : goal.loop-part-preserved
loop-part-preserved c =
    let space : 2 < length c.in-Some.part.now → get_or c.in-Some.part.now 2 0 ≡ 32 = λ third. search rules in
    rw c.in_ok-push.ensures.items (read_more _ _ _ _ _ _ _ _ c.loop-part.invariant c.in-Some.ensures.steps c.if-text-ne2.false (grind arith) space)
