-- `text::hex::settings_in` meets its contract.
use Rattle.std.proofs.Common.{ℕ, ◌/◌, ap, rules}
use Rattle.text.specs.Reading.{setting_at, settings_in}
use Rattle.text.proofs.Filled.{filled}
use Rattle.text.proofs.hex.settings_in.Goals as goal

pub returns : goal.returns
unfolding setting_at settings_in
returns c =
    let e = c.fill.ensures in
    filled (setting_at c.args.line.now) (ap (λ (n : ℕ). n / 9) c.saturating_sub-count.ensures) (search rules) e.short e.count e.rest
    (λ h i k. let q = e.items h i 0 k in search rules)
