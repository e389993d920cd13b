-- Images in a list of calls: the table after every list matches the model, so it is sound, and its image is written and loads back, and saved restores.
use Prim.Native.Nat.{ℕ, ◌≤◌}
use mathlib.Core.Path.{sym, subst}
use lib.ListN.{length}
use Rattle.table_rules.specs.Geometry.{table_rows}
use Rattle.table_rules.specs.Table.{order_of}
use Rattle.history.specs.History.{History, final_state, final_model}
use Rattle.history.specs.Demands.{WrittenLoads, SavedRestores}
use Rattle.history.proofs.ImagesBack.{loads_back}
use Rattle.history.proofs.StatesBack.{restores-back}
use Rattle.history.proofs.RefinesItems.{Matches}

module _ (matches : (h : History) → Matches (final_state h).table (final_model h)) where
  -- an area that is long enough for the model's order is so for the table's
  long_enough : (h : History) (n : ℕ) → table_rows (final_model h).order ≤ n → table_rows (order_of (final_state h).table) ≤ n
  long_enough h n l = subst (λ (order : ℕ). table_rows order ≤ n) (sym (matches h).order) l

  -- where the table after every list matches the model, its image is written and loads back
  pub written_loads_where : WrittenLoads
  written_loads_where h area other image rows bytes roomy =
      loads_back (matches h).invariant area other image (long_enough h (length area) rows) bytes (long_enough h (length other) roomy)

  -- and so is its snapshot saved, and restored
  pub saved_restores_where : SavedRestores
  saved_restores_where h area states name least most rows long =
      restores-back (matches h).invariant area states name least most (long_enough h (length area) rows) long
