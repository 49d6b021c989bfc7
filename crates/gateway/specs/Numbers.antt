-- Document 01's number in every promise of a call: the number that a call answers is that of the result that its
-- contract names, by number_of.
use Rattle.std.specs.Prelude.{◌≡◌, cond, List, ℕ, ltb, length}
use Rattle.endpoint.specs.Answers.{number_of}
use Rattle.settings.specs.Lists.{count_of, is_list}
use Rattle.records.specs.declared.Record.{Record}
use Rattle.gateway.specs.declared.Call.{Call}
use Rattle.gateway.specs.declared.Called.{Called}
use Rattle.gateway.specs.declared.Told.{Told}
use Rattle.gateway.specs.Loading.{loaded_of}
use Rattle.gateway.specs.Calls.{Result, CallSays, OutputSays}
use Rattle.gateway.specs.Exports.{LentCallSays, LentOutputSays}

abbrev pub number_in : Result → ℕ
number_in r = number_of r.answer

pub record Numbers : Type 0 where
  -- load
  pub loaded : (number : ℕ) (ws : List ℕ) (rs : List Record)
      → number_of (loaded_of number ws rs).answer ≡ cond (is_list ws) (cond (ltb (length rs) (count_of ws)) 2 0) 18
  -- start, restart, set not ready, set and clear result, set and clear record, invoke, read and write error
  pub plain : (r : Result) (rs : List Record) (c : Called) → CallSays r rs c → number_of c.answer ≡ number_in r
  -- send, stop, show, deliver
  pub lent : (r : Result) (rs : List Record) (out out' : List ℕ) (c : Called) → OutputSays r rs out out' c
      → number_of c.answer ≡ number_in r
  -- and what C is told of each
  pub plain_told : (r : Result) (k k' : Call) (rs : List Record) (t : Told) → LentCallSays r k k' rs t
      → t.number ≡ number_in r
  pub lent_told : (r : Result) (k k' : Call) (rs : List Record) (out out' : List ℕ) (t : Told)
      → LentOutputSays r k k' rs out out' t → t.number ≡ number_in r
