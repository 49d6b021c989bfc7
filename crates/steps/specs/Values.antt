-- No call but a show looks at the bytes of the value held, and none but a send and a deliver where S-RefreshReady is due
-- at those of the words and of the error record that its user handed over: where they are others it comes to the same,
-- but for the bytes that it leaves.
use Rattle.std.specs.Prelude.{◌≡◌, Bool, true, false, ◌&&◌, cond, List, [], ℕ, replicate}
use Rattle.frame.specs.declared.Command.TheVariants as K
use Rattle.frame.specs.Control.{is}
use Rattle.endpoint.specs.Endpoint.{Endpoint, words_of, value_of}
use Rattle.endpoint.specs.Answers.{Answer}
use Rattle.endpoint.specs.Answers.{is_done}
use Rattle.endpoint.specs.Table.{request_of}
use Rattle.endpoint.specs.Time.{Tidy, ended_of, after_tick}
use Rattle.endpoint.specs.Updates.{with_words, with_error_info, holding}
use Rattle.steps.specs.Frames.{padded_of, padded_record}
use Rattle.steps.specs.Calls.{Outcome, command_data}
use Rattle.steps.specs.Steps.{Act, start, stop, restart, set_not_ready, set_result, clear_result, set_record}
use Rattle.steps.specs.Steps.{clear_record, invoke, read_error, write_error}
use Rattle.steps.specs.Steps.{Call, act, send, deliver, show, step_of}

-- an endpoint whose value has other bytes
abbrev pub with_bytes : List ℕ → Endpoint → Endpoint
with_bytes b e = holding (value_of e.value.taken e.value.age b) e

abbrev pub is_show : Call → Bool
is_show (act a) = false
is_show (send value) = false
is_show (deliver f body) = false
is_show show = true

-- an S-Refresh is accepted
abbrev pub accepts : Call → Answer → Bool
accepts (act x) a = false
accepts (send value) a = false
accepts (deliver f body) a = is_done a && is f.command K.Refresh
accepts show a = false

-- the body of the frame that is delivered
abbrev pub body_in : Call → List ℕ
body_in (act a) = []
body_in (send value) = []
body_in (deliver f body) = body
body_in show = []

-- the bytes after a call that came to o, where b were held before it: filled by it, left or wiped
abbrev pub bytes_after : Call → Outcome → List ℕ → List ℕ
bytes_after k o b =
    cond o.endpoint.value.taken (cond (accepts k o.answer) (padded_of (body_in k)) b) (replicate 100 0)

-- a call that comes to o on e, and to o' where e holds the bytes b: o tells what o' is
pub record ValueLeft (e : Endpoint) (k : Call) (b : List ℕ) (o o' : Outcome) : Type 0 where
  pub answered : o'.answer ≡ o.answer
  pub writes : o'.writes ≡ o.writes
  pub left : o'.endpoint ≡ with_bytes (bytes_after k o b) o.endpoint
  -- a value that is taken afterwards was accepted by this call, or taken before
  pub taken : o.endpoint.value.taken ≡ true → accepts k o.answer ≡ false → e.value.taken ≡ true

pub record ValueLaws : Type 0 where
  -- whatever bytes e has; b are tidy, since a call that keeps the value wipes nothing
  pub values : (e : Endpoint) (t : ℕ) (k : Call) (b : List ℕ) → is_show k ≡ false → Tidy (with_bytes b e)
      → ValueLeft e k b (step_of e t k) (step_of (with_bytes b e) t k)
  -- a call leaves a tidy endpoint tidy, and so does the clock step; one that ends is tidy
  pub step_tidy : (e : Endpoint) (t : ℕ) (k : Call) → Tidy e → Tidy (step_of e t k).endpoint
  pub end_tidy : (e : Endpoint) → Tidy (ended_of e)
  pub tick_tidy : (e : Endpoint) (t : ℕ) → Tidy e → Tidy (after_tick e t)

-- ---- the words and the error record that its user handed over
-- an endpoint whose words have other bytes, and its error record
abbrev pub with_handed : List ℕ → List ℕ → Endpoint → Endpoint
with_handed w x e = with_error_info (words_of e.errorinfo.count x) (with_words (words_of e.words.count w) e)

-- where S-RefreshReady is due, a queued command may be, and a station's result or record
abbrev pub is_readying : Endpoint → Bool
is_readying e = is (request_of e.state) K.RefreshReady

-- a call that looks at them, or may
abbrev pub looks : Endpoint → Call → Bool
looks e (act a) = false
looks e (send value) = is_readying e
looks e (deliver f body) = is_readying e
looks e show = false

-- a call that hands words over, one that hands an error record over, and what it hands over
abbrev pub hands_words : Act → Bool
hands_words start = false
hands_words stop = false
hands_words (restart number) = false
hands_words (set_not_ready b) = false
hands_words (set_result body) = true
hands_words clear_result = false
hands_words (set_record body) = false
hands_words clear_record = false
hands_words (invoke word bytes) = true
hands_words read_error = false
hands_words (write_error body) = false

abbrev pub hands_record : Act → Bool
hands_record start = false
hands_record stop = false
hands_record (restart number) = false
hands_record (set_not_ready b) = false
hands_record (set_result body) = false
hands_record clear_result = false
hands_record (set_record body) = true
hands_record clear_record = false
hands_record (invoke word bytes) = false
hands_record read_error = false
hands_record (write_error body) = true

abbrev pub handed_in : Act → List ℕ
handed_in start = []
handed_in stop = []
handed_in (restart number) = []
handed_in (set_not_ready b) = []
handed_in (set_result body) = body
handed_in clear_result = []
handed_in (set_record body) = body
handed_in clear_record = []
handed_in (invoke word bytes) = command_data word bytes
handed_in read_error = []
handed_in (write_error body) = body

-- the bytes after a call that was answered so, where w and x were held before it
abbrev pub words_after : Call → Answer → List ℕ → List ℕ
words_after (act k) a w = cond (is_done a && hands_words k) (padded_of (handed_in k)) w
words_after (send value) a w = w
words_after (deliver f body) a w = w
words_after show a w = w

abbrev pub record_after : Call → Answer → List ℕ → List ℕ
record_after (act k) a x = cond (is_done a && hands_record k) (padded_record (handed_in k)) x
record_after (send value) a x = x
record_after (deliver f body) a x = x
record_after show a x = x

-- a call that comes to o on e, and to o' where e holds the bytes w and x
pub record HandedLeft (k : Call) (w x : List ℕ) (o o' : Outcome) : Type 0 where
  pub answered : o'.answer ≡ o.answer
  pub writes : o'.writes ≡ o.writes
  pub left : o'.endpoint ≡ with_handed (words_after k o.answer w) (record_after k o.answer x) o.endpoint

pub record HandedLaws : Type 0 where
  -- a call that does not look at them
  pub apart : (e : Endpoint) (t : ℕ) (k : Call) (w x : List ℕ) → looks e k ≡ false
      → HandedLeft k w x (step_of e t k) (step_of (with_handed w x e) t k)
  -- and each leaves them, or what it hands over
  pub words : (e : Endpoint) (t : ℕ) (k : Call)
      → (step_of e t k).endpoint.words.bytes ≡ words_after k (step_of e t k).answer e.words.bytes
  pub errorinfo : (e : Endpoint) (t : ℕ) (k : Call)
      → (step_of e t k).endpoint.errorinfo.bytes ≡ record_after k (step_of e t k).answer e.errorinfo.bytes
