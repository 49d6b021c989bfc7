-- Loading a settings list: 0, or number 18, or 2 where the slice is too short for it.
use Rattle.std.specs.Prelude.{cond, List, ℕ, ltb, length}
use Rattle.std.specs.Prelude.{Err, Ok}
use Rattle.endpoint.specs.declared.Reason.TheVariants as R
use Rattle.endpoint.specs.Answers.{Answer}
use Rattle.endpoint.specs.declared.Refusal.TheVariants.{Dropped}
use Rattle.transitions.specs.ByCall.{fresh_of}
use Rattle.settings.specs.Lists.{count_of, settings_at, is_list}
use Rattle.records.specs.declared.Record.{Record}
use Rattle.records.specs.Records.{record_of}
use Rattle.lent.specs.First.{filled}
use Rattle.gateway.specs.declared.Gateway.{Gateway}
use Rattle.gateway.specs.Tables.{Lent, lent}

-- of so many connections, with no reading yet
abbrev pub loaded_with : ℕ → Gateway
loaded_with count = record { last = 0; count = count }

-- a connection of a list, in Close; a slave's has this session number
abbrev pub fresh_at : ℕ → List ℕ → ℕ → Record
fresh_at number ws i = record_of (fresh_of (settings_at ws i) number)

pub record Loaded : Type 0 where
  pub answer : Answer
  pub lent : Lent

abbrev pub loaded : Answer → Lent → Loaded
loaded a d = record { answer = a; lent = d }

-- all timestamps and the last reading are forgotten, refused or not; refused, the records stay and the table is of no
-- connections; done, the first records are the list's connections, its slaves with the session number, and the others
-- stay
abbrev pub loaded_of : ℕ → List ℕ → List Record → Loaded
loaded_of number ws rs =
    cond (is_list ws)
    (cond (ltb (length rs) (count_of ws)) (loaded (Err (Dropped R.Buffer)) (lent (loaded_with 0) rs))
    (loaded (Ok tt) (lent (loaded_with (count_of ws)) (filled (fresh_at number ws) (count_of ws) rs))))
    (loaded (Err (Dropped R.Settings)) (lent (loaded_with 0) rs))
