-- `text::hex::bytes_from` meets its contract.
use Rattle.std.proofs.Common.{ℕ, ◌/◌, ap, rules}
use Rattle.text.specs.Reading.{byte_in, bytes_from}
use Rattle.text.proofs.Filled.{filled}
use Rattle.text.proofs.hex.bytes_from.Goals as goal

pub returns : goal.returns
unfolding byte_in bytes_from
returns c =
    let e = c.fill.ensures in
    filled (byte_in c.args.line.now c.args.start) (ap (λ (n : ℕ). n / 2) c.saturating_sub-count.ensures) (search rules) e.short e.count e.rest
    (λ h i k. let q = e.items h i 0 k in search rules)
