-- One list of calls after another.
use Rattle.std.proofs.Common.{◌≡◌, ℕ, suc, List, [], ◌∷◌, ◌++◌, length, refl, ap}
use Rattle.bank.specs.Model.{Forms}
use Rattle.ledger.specs.declared.Call.{Call}
use Rattle.ledger.specs.Ledger.{Ledger, fresh, answered, answers, after_all}
use Rattle.ledger.specs.Laws.{ledger, Joins}

module _ (forms : Forms) (lent : List ℕ) where
  pub join_answers : (l : Ledger) (cs ds : List Call)
      → answers forms lent l (cs ++ ds) ≡ answers forms lent l cs ++ answers forms lent (after_all forms lent l cs) ds
  join_answers l [] ds = refl
  join_answers l (c ∷ cs) ds =
      ap (λ r. (answered forms lent l c).answer ∷ r) (join_answers (answered forms lent l c).after cs ds)

  pub join_ledgers : (l : Ledger) (cs ds : List Call)
      → after_all forms lent l (cs ++ ds) ≡ after_all forms lent (after_all forms lent l cs) ds
  join_ledgers l [] ds = refl
  join_ledgers l (c ∷ cs) ds = join_ledgers (answered forms lent l c).after cs ds

  pub as_many : (l : Ledger) (cs : List Call) → length (answers forms lent l cs) ≡ length cs
  as_many l [] = refl
  as_many l (c ∷ cs) = ap suc (as_many (answered forms lent l c).after cs)

  pub joins : Joins forms lent
  joins = record { join_answers = join_answers; join_ledgers = join_ledgers; as_many = as_many }

  -- the ledger after one more call
  pub one_more : (cs : List Call) (c : Call)
      → ledger forms lent (cs ++ c ∷ []) ≡ (answered forms lent (ledger forms lent cs) c).after
  one_more cs c = join_ledgers fresh cs (c ∷ [])
