use Rattle.std.proofs.Common.{◌≡◌, ◌+◌, ◌≤◌, ◌++◌, length, string_bytes}
use Rattle.std.specs.Iterator.Adapters.{zip_first, zip_second}
use Rattle.std.specs.Slice.Iter.{iter_rest}
use Rattle.account.specs.Account.{layout, field_lines}
use Rattle.account.proofs.account.Given as goal

-- the lines of the fields that are left, numbered from i, are still to come
abbrev pub invariant-loop-i : goal.invariant-loop-i
invariant-loop-i g l =
    let forms = g.B.Bank.forms l.bank in
    let i = (zip_first l.i-iterator).start in
    let left = iter_rest (zip_second l.i-iterator) in
    (string_bytes l.text ++ field_lines forms l.ticket i left ≡ field_lines forms l.ticket 0 layout) × (i + length left ≤ length layout)
