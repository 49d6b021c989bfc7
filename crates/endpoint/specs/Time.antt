-- Clocks, timestamps and ages (document 01, "Clock and stamp" and "The steps"), and the clock step.
use Rattle.std.specs.Prelude.{◌≡◌, ℕ, ◌+◌, ◌-◌, ◌%◌, Bool, true, false, cond, ◌&&◌, ◌||◌, replicate, nat_le, nat_lt}
use Rattle.std.specs.Prelude.{None, Option, Some}
use Rattle.endpoint.specs.declared.Settings.{Settings}
use Rattle.endpoint.specs.declared.State.{State}
use Rattle.endpoint.specs.declared.State.TheVariants.{Refresh, Terminate}
use Rattle.endpoint.specs.declared.Queue.TheVariants.{Empty}
use Rattle.endpoint.specs.Endpoint.{Value, Endpoint, value_of}
use Rattle.endpoint.specs.Table.{is_state, is_setup}
use Rattle.endpoint.specs.Updates.{in_state, with_queue, holding}

-- 2^48, and half of it
abbrev pub span : ℕ
span = 281474976710656

abbrev pub half : ℕ
half = 140737488355328

-- the highest clock reading: 2^48 − 131,073
abbrev pub last_reading : ℕ
last_reading = 281474976579583

-- a − b modulo 2^48
abbrev pub minus : ℕ → ℕ → ℕ
minus a b = (a + (span - b % span)) % span

-- an endpoint's time t in the master's clock: what it stamps with, and what it reckons ages by; a slave's in the
-- standard's words is slave_time in TCode
abbrev pub master_time : Bool → ℕ → ℕ → ℕ
master_time slave offset t = (t + cond slave offset 0) % span

-- the same, of the endpoint at its clock reading
abbrev pub time_of : Endpoint → ℕ → ℕ
time_of e t = master_time e.settings.slave e.setup.offset t

-- a timestamp's age at an endpoint: its time in the master's clock, less the timestamp
abbrev pub age_of : Endpoint → ℕ → ℕ → ℕ
age_of e t stamp = minus (time_of e t) stamp

-- a timestamp above the one remembered, if any
abbrev pub is_above : Option ℕ → ℕ → Bool
is_above None s = true
is_above (Some last) s = nat_lt last s

-- an age of 2^47 or more means that the timestamp is ahead, by what is missing to 2^48
abbrev pub is_ahead : ℕ → Bool
is_ahead age = nat_le half age

-- ahead by more than the allowance: 3 at a slave, R + 3 at a master
abbrev pub is_too_far_ahead : ℕ → ℕ → Bool
is_too_far_ahead age allowance = is_ahead age && nat_lt allowance (span - age)

abbrev pub allowance_of : Settings → ℕ
allowance_of s = cond s.slave 0 s.roundtrip + 3

-- the ticks that an age comes to: ahead counts as 0
abbrev pub counted_age : ℕ → ℕ
counted_age age = cond (is_ahead age) 0 age

-- older than A
abbrev pub is_too_late : ℕ → ℕ → Bool
is_too_late age limit = nat_lt limit (counted_age age)

-- how old the value held is at a clock reading: its age when it was accepted, which is where the timer starts, and the
-- ticks since; in 64 bits
abbrev pub held_age : Endpoint → ℕ → ℕ
held_age e t = (e.value.age + (t - e.since)) % 18446744073709551616

-- what the clocks' drift adds to ages (document 02, note 9)
abbrev pub drift_allowance : ℕ
drift_allowance = 10

-- the bound on the age of a shown value at an end: A + I + 10 at a slave, A + I + R + 10 at a master
abbrev pub bound_of : Settings → ℕ
bound_of s = s.age + (s.interval + (cond s.slave 0 s.roundtrip + drift_allowance))

-- the slave's ts_offset from S-RefreshGO: stamp − OBL − s2
abbrev pub offset_from : ℕ → ℕ → ℕ → ℕ
offset_from stamp baseline measured = minus (minus stamp baseline) measured

-- a timer has expired when more than its ticks have passed: R in setup, I in Refresh
abbrev pub is_over : State → ℕ → ℕ → ℕ → Bool
is_over state roundtrip interval passed =
    (is_setup state && nat_lt roundtrip passed) || (is_state state Refresh && nat_lt interval passed)

-- a slave's ts_offset serves for so many ticks from the s2 that it was reckoned with (document 02, note 9)
abbrev pub offset_life : ℕ
offset_life = 30000

abbrev pub is_outdated : Endpoint → ℕ → Bool
is_outdated e t =
    e.settings.slave && (is_state e.state Refresh && nat_lt offset_life (t - e.measurement.reference))

-- number 9
abbrev pub is_expired : Endpoint → ℕ → Bool
is_expired e t =
    is_over e.state e.settings.roundtrip e.settings.interval (t - e.since) || is_outdated e t

-- no value is held: the fail-safe value
abbrev pub no_value : Value
no_value = value_of false 0 (replicate 100 0)

-- an endpoint that has taken no value holds the fail-safe value
abbrev pub Tidy : Endpoint → Type 0
Tidy e = e.value.taken ≡ false → e.value.bytes ≡ replicate 100 0

-- the connection ends: Terminate, no value is held, and no command waits
abbrev pub ended_of : Endpoint → Endpoint
ended_of e = in_state Terminate (with_queue Empty (holding no_value e))

-- the clock step of one endpoint
abbrev pub after_tick : Endpoint → ℕ → Endpoint
after_tick e t = cond (is_expired e t) (ended_of e) e
