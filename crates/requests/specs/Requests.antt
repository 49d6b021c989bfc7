-- One gateway over a list of calls, loading among them (document 02, note 3): the count of setup requests that a
-- connection keeps is the count of those that it wrote since its last start or loading, and at most 45.
use Rattle.std.specs.Prelude.{◌≡◌, Bool, true, false, ◌&&◌, cond, List, [], ◌∷◌, ℕ, suc, ◌≤◌, eqb}
use Rattle.std.specs.Prelude.{Err, Ok}
use Rattle.frame.specs.Reading.{Reading}
use Rattle.frame.specs.Reading.{frame_with}
use Rattle.frame.specs.Reading.{reading_of}
use Rattle.endpoint.specs.Answers.{is_done}
use Rattle.endpoint.specs.Due.{request_limit}
use Rattle.endpoint.specs.Table.{is_setup}
use Rattle.steps.specs.Frames.{is_request}
use Rattle.steps.specs.Steps.{begins}
use Rattle.records.specs.declared.Record.{Record}
use Rattle.gateway.specs.Tables.{Lent, lent, endpoint_at, is_entry}
use Rattle.gateway.specs.Loading.{loaded_with}
use Rattle.gateway.specs.Calls.{Result}
use Rattle.runs.specs.Steps.{Call, act, send, deliver, show, Step, load, call, step_in, is_at}
use Rattle.runs.specs.Bus.{on_bus}

-- ---- the count as the answers and the bytes on the bus tell it
-- bytes that the reader takes for a request, a queued command among them: S-Disconnect is none, nor is a reply
abbrev pub is_request_in : Reading → Bool
is_request_in (Ok read) = is_request read.fields
is_request_in (Err fault) = false

abbrev pub is_start_of : ℕ → Call → Bool
is_start_of n (act a k) = begins a && eqb k n
is_start_of n (send k value) = false
is_start_of n (deliver s) = false
is_start_of n (show k) = false

-- the call was the entry's, which was in setup before it, and it wrote a request; a measurement's in Refresh is none
abbrev pub wrote_request : ℕ → Lent → Result → Bool
wrote_request n d r =
    is_at r.entry n && (is_setup (endpoint_at d n).state && is_request_in (reading_of (on_bus r.writes)))

-- a loading begins anew, and a start of the entry that is done; each setup request written adds one
abbrev pub count_after : ℕ → Lent → Step → Result → ℕ → ℕ
count_after n d (load number ws rs) r count = 0
count_after n d (call t room c) r count =
    cond (is_start_of n c && is_done r.answer) 0 (cond (wrote_request n d r) (suc count) count)

-- ---- a gateway, and the count of one entry
pub record Watched : Type 0 where
  pub lent : Lent
  pub count : ℕ

abbrev pub watched : Lent → ℕ → Watched
watched d count = record { lent = d; count = count }

abbrev pub after_step : ℕ → Watched → Step → Watched
after_step n x s = let r = step_in x.lent s in watched r.lent (count_after n x.lent s r x.count)

unfoldable pub after_steps : ℕ → Watched → List Step → Watched
after_steps n x [] = x
after_steps n x (s ∷ l) = after_steps n (after_step n x s) l

-- of a gateway never loaded, whatever records it is lent, after every list
abbrev pub watched_after : ℕ → List Record → List Step → Watched
watched_after n rs l = after_steps n (watched (lent (loaded_with 0) rs) 0) l

-- for every entry of the table that is left
abbrev pub RequestCount : Type 0
RequestCount = (n : ℕ) (rs : List Record) (l : List Step) → is_entry (watched_after n rs l).lent n ≡ true
    → ((endpoint_at (watched_after n rs l).lent n).setup.requests ≡ (watched_after n rs l).count)
    × ((watched_after n rs l).count ≤ request_limit)
