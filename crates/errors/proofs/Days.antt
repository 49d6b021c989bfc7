-- The months' days as a table.
use Rattle.std.proofs.Common.{◌≡◌, ap, ◌∙◌, ℕ, ◌-◌, ◌≤◌, List, map, get_or, arith}
use Rattle.std.specs.List.{range_with_len}
use Rattle.std.proofs.lemmas.List.FromFn.{get_or-map-range_with_len}
use Rattle.errors.specs.Calendar.{days_of}

pub entry : (days : List ℕ) → days ≡ map days_of (range_with_len 1 12)
    → (month : ℕ) → 1 ≤ month → month ≤ 12 → get_or days (month - 1) 0 ≡ days_of month
entry days e month h k =
    ap (λ (l : List ℕ). get_or l (month - 1) 0) e
    ∙ get_or-map-range_with_len days_of 1 12 (month - 1) month 0 (omega arith) (omega arith)
