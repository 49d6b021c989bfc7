-- What a call is lent: the gateway by value and the slice of records, of which the first are its table.
use Rattle.std.specs.Prelude.{Bool, ◌&&◌, not, cond, List, ℕ, eqb, ltb, leb, length, get_or, set}
use Rattle.endpoint.specs.declared.Settings.{Settings}
use Rattle.endpoint.specs.Endpoint.{Endpoint}
use Rattle.endpoint.specs.Time.{last_reading, is_expired}
use Rattle.transitions.specs.ByCall.{fresh_of}
use Rattle.settings.specs.Words.{settings_of}
use Rattle.records.specs.declared.Record.{Record}
use Rattle.records.specs.Records.{endpoint_of, record_of, ended_record}
use Rattle.lent.specs.First.{on_first, seek_in}
use Rattle.gateway.specs.declared.Gateway.{Gateway}

pub record Lent : Type 0 where
  pub gateway : Gateway
  pub records : List Record

abbrev pub lent : Gateway → List Record → Lent
lent g rs = record { gateway = g; records = rs }

-- ---- entries
-- what stands past the slice: the settings of seven zero words, a master's, in Close
abbrev pub no_settings : Settings
no_settings = settings_of 0 0 0 0 0 0 0

abbrev pub blank_record : Record
blank_record = record_of (fresh_of no_settings 0)

abbrev pub record_at : List Record → ℕ → Record
record_at rs n = get_or rs n blank_record

unfoldable pub endpoint_at : Lent → ℕ → Endpoint
endpoint_at d n = endpoint_of (record_at d.records n)

-- the connections are the first `count` records
abbrev pub is_entry : Lent → ℕ → Bool
is_entry d n = ltb n d.gateway.count

-- number 2: the slice is shorter than the table
abbrev pub is_shorter : Lent → Bool
is_shorter d = ltb (length d.records) d.gateway.count

abbrev pub has_connection : ℕ → Record → Bool
has_connection cid r = eqb r.stored.connection cid

-- the entry of a CID: the first record of the table that has it; no entry where none has
unfoldable pub place_of : ℕ → Lent → ℕ
place_of cid d = seek_in (has_connection cid) d.gateway.count d.records

-- ---- clock readings
-- number 1 where this is false
abbrev pub is_reading : Gateway → ℕ → Bool
is_reading g t = leb g.last t && leb t last_reading

abbrev pub at_clock : ℕ → Gateway → Gateway
at_clock t g = record { last = t; count = g.count }

-- the clock step of one record
abbrev pub ticked : ℕ → Record → Record
ticked t r = cond (is_expired (endpoint_of r) t) (ended_record r) r

-- the reading is the last one, and every connection of the table takes the clock step; records past it stay
unfoldable pub clock_step : ℕ → Lent → Lent
clock_step t d = lent (at_clock t d.gateway) (on_first (ticked t) d.gateway.count d.records)

-- the clock step is taken where the reading is accepted and the slice whole
abbrev pub is_timely : Lent → ℕ → Bool
is_timely d t = is_reading d.gateway t && not (is_shorter d)

-- what a call's clock reading leaves
abbrev pub after_clock : ℕ → Lent → Lent
after_clock t d = cond (is_timely d t) (clock_step t d) d

-- one record replaced; past the slice none
abbrev pub placed : ℕ → Record → Lent → Lent
placed n r d = lent d.gateway (set d.records n r)
