-- RULES 17.10: the buckets of a table that was only added to, read as a number in binary.
use Rattle.std.specs.Prelude.{ℕ, ◌+◌, ◌*◌, ◌/◌, ◌%◌, ◌^◌, ◌≤◌, ◌<◌, ◌≡◌, List, [], ◌∷◌, eqb, length}
use Rattle.table_rules.specs.Table.{Table, order_of, in_use, slots_of, live_slots}
use Rattle.call_rules.specs.Calls.{Change, Call}
use Rattle.call_rules.specs.Calls.Change.{add, remove, read_list}
use Rattle.call_rules.specs.Calls.Call.{begin, change, ask, write}
use Rattle.history.specs.Trace.{Step, State, shown_at, state_after}

-- bit k of n, counted from 0: 1 or 0
unfoldable pub bit : ℕ → ℕ → ℕ
bit k n = n / 2 ^ k % 2

-- the place of the highest one bit of n
pub record Highest (place n : ℕ) : Type 0 where
  pub one : bit place n ≡ 1
  pub above : (k : ℕ) → place < k → bit k n ≡ 0

-- bucket k of a table that counts n: it is in use exactly if bit k of n is one, and then 2^k of its built slots are
-- live, which are all that it has
pub record BucketCounts (t : Table) (n k : ℕ) : Type 0 where
  pub used : in_use t k ≡ eqb (bit k n) 1
  pub live : bit k n ≡ 1 → length (live_slots t k) ≡ 2 ^ k
  pub built : bit k n ≡ 1 → length (slots_of t k) ≡ 2 ^ k

-- a table between calls with its sums (RULES 17.7), n items added and the distances of all builds together: each bucket
-- counts n, and with L the place of the highest one bit of n the distances are at most n·L·(L+1)/2
pub record CountsAdds (state : State) : Type 0 where
  pub buckets : (k : ℕ) → k ≤ order_of state.table → BucketCounts state.table state.sums.adds k
  pub place : ℕ
  pub within : place ≤ order_of state.table
  pub highest : Highest place state.sums.adds
  pub bound : state.sums.distances ≤ state.sums.adds * place * (place + 1) / 2

-- a call, by the refusal that it shows, that is no accepted beginning and no accepted removal
abbrev pub ChangeAdds : Change → ℕ → Type 0
ChangeAdds (add tag profile day) refusal = Unit {0}
ChangeAdds (remove tag) refusal = refusal ≡ 0 → ⊥
ChangeAdds (read_list list day) refusal = Unit {0}

abbrev pub OnlyAdds : Call → ℕ → Type 0
OnlyAdds (begin b) refusal = refusal ≡ 0 → ⊥
OnlyAdds (change c) refusal = ChangeAdds c refusal
OnlyAdds (ask q) refusal = Unit {0}
OnlyAdds (write w) refusal = Unit {0}

-- and a list of such calls, from a state on
abbrev pub OnlyAdded : State → List Step → Type 0
OnlyAdded state [] = Unit {0}
OnlyAdded state (s ∷ ss) = OnlyAdds s.call (shown_at state s).refusal × OnlyAdded (state_after state s) ss
