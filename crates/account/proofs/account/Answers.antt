use Rattle.std.proofs.Common.{◌≡◌, IfOk, string_bytes, arith, rules}
use Rattle.std.proofs.lemmas.Grind.{common_steps}
use Rattle.std.proofs.lemmas.Result.{IfOk-weaker}
use Rattle.account.specs.Account.{account_text}
use Rattle.account.proofs.Telling.{tells}
use Rattle.account.proofs.account.Goals as goal

pub returns-then-ticket-ne-LENGTH-clause-tells : goal.returns-then-ticket-ne-LENGTH-clause-tells
returns-then-ticket-ne-LENGTH-clause-tells g c =
    let bytes : IfOk c.from_str.result (λ s. string_bytes s ≡ account_text (g.B.Bank.forms c.args.bank.now) c.args.ticket.now) = search rules in
    IfOk-weaker c.from_str.result _ _ (λ s. tells (g.met.B.Bank.lawful c.args.bank.now) (string_bytes s)) bytes

pub returns-clause-bytes : goal.returns-clause-bytes
returns-clause-bytes g c = grind (arith, common_steps)

pub returns-clause-tells : goal.returns-clause-tells
returns-clause-tells g c = tells (g.met.B.Bank.lawful c.args.bank.now) (string_bytes c.loop-i.text) (returns-clause-bytes g c)
