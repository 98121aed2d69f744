-- The table of all worked examples.
use Rattle.examples.specs.Forms.{FormExamples}
use Rattle.examples.specs.Lines.{LineExamples}
use Rattle.examples.specs.Weighbridge.{RuleExamples, WeighbridgeExamples}
use Rattle.examples.specs.Refused.{RefusalExamples}
use Rattle.examples.specs.Sheets.{SheetExamples, FaultExamples}
use Rattle.examples.specs.Calls.{CallExamples}

pub record Examples : Type 0 where
  pub forms : FormExamples
  pub lines : LineExamples
  pub rules : RuleExamples
  pub weighbridge : WeighbridgeExamples
  pub refusals : RefusalExamples
  pub sheets : SheetExamples
  pub faults : FaultExamples
  pub calls : CallExamples
