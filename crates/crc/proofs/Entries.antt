-- The table holds what eight bit steps make of each place.
use Rattle.std.proofs.Common.{zero-add, ◌≡◌, refl, ap, ◌∙◌, ℕ, ◌<◌, List, map, get_or}
use Rattle.std.specs.List.{range_with_len}
use Rattle.std.proofs.lemmas.List.FromFn.{get_or-map-range_with_len}
use Rattle.crc.specs.declared.table.TheConstants.{TABLE}
use Rattle.crc.specs.Crc.{bit_step, bit_steps}

-- every entry of the source is what the rule says
pub listed : TABLE ≡ map (bit_steps 8) (range_with_len 0 256)
unfolding bit_steps bit_step
listed = refl

pub entry : (i : ℕ) → i < 256 → get_or TABLE i 0 ≡ bit_steps 8 i
entry i h = ap (λ (l : List ℕ). get_or l i 0) listed ∙ get_or-map-range_with_len (bit_steps 8) 0 256 i i 0 h (zero-add i)
