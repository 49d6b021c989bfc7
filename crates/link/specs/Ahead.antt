-- No frame is refused as too far ahead, number 14, but one that is very old.
use Rattle.std.specs.Prelude.{◌≡◌, Bool, true, List, ℕ, ◌+◌, ◌-◌, ◌^◌, ◌<◌}
use Rattle.std.specs.Prelude.{Err}
use Rattle.frame.specs.declared.Fields.{Fields}
use Rattle.endpoint.specs.declared.Settings.{Settings}
use Rattle.endpoint.specs.declared.Reason.TheVariants as R
use Rattle.endpoint.specs.declared.Refusal.TheVariants.{Dropped}
use Rattle.steps.specs.Steps.{deliver, call_of}
use Rattle.link.specs.Clocks.{moment_of}
use Rattle.link.specs.Runs.{Event, called, sent_at, last_of, endpoint_at, after_event}
use Rattle.link.specs.Fresh.{Paired, run_of}

-- a frame that is handed over after a list, both as demand 3 runs over them, and refused so was written more than 2^46
-- ticks before, some 285 years
abbrev pub NeverAhead : Type 0
NeverAhead = (sm ss : Settings) (number shift : ℕ) (vs : List Event) (slave : Bool) (t other : ℕ) (f : Fields)
    (body : List ℕ) → Paired sm ss
    → let l = run_of sm ss number shift vs in
    (after_event l (called slave t other (deliver f body))).allowed ≡ true
    → (call_of (endpoint_at l slave) t (deliver f body)).answer ≡ Err (Dropped R.Ahead)
    → (sent_at l.log (last_of f body l.log - 1)).moment + 2 ^ 46 < moment_of shift slave t other
