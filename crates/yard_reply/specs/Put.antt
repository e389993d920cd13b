-- A text put at the start of an area.
use Rattle.std.specs.Prelude.{ℕ, ◌≤◌, ◌≡◌, List, length}
use Rattle.std.proofs.lemmas.List.Edits.{sets}

-- the area after it, its length, and that the area has room for it
abbrev pub Puts : List ℕ → List ℕ → ℕ → List ℕ → Type 0
Puts out after n text = (after ≡ sets out 0 text) × (n ≡ length text) × (n ≤ length out)
