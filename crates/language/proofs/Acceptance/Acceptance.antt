-- A text is accepted exactly when it writes an admitted sheet, and as that sheet.
use Rattle.bank.specs.Model.{Forms}
use Rattle.language.specs.Acceptance.{AcceptedExactly}
use Rattle.language.proofs.Acceptance.Soundness as S
use Rattle.language.proofs.Acceptance.Completeness as C

pub accepted_exactly : (forms : Forms) → AcceptedExactly forms
accepted_exactly forms = record {
  sound = S.sound forms;
  complete = C.complete forms;
  one_reading = λ text sheet other w a v b. cc (C.complete forms text sheet w a, C.complete forms text other v b);
}
