-- The endpoint that an answer leaves, by what the answer is.
use mathlib.Core.Path.{◌≡◌, refl}
use Rattle.std.specs.Prelude.{Err, Ok, is_err, is_ok}
use mathlib.Core.Bool.{Bool, true, false, not, cond, true≢false, false≢true}
use Rattle.endpoint.specs.Answers.{Answer}
use Rattle.endpoint.specs.declared.Refusal.TheVariants.{Dropped, Ended}
use Rattle.endpoint.specs.Endpoint.{Endpoint}
use Rattle.endpoint.specs.Answers.{is_done, is_dropped, is_ended, left_by, call_faults, first_of}

module _ (stays ends next : Endpoint) where
  pub left_dropped : (a : Answer) → is_dropped a ≡ true → left_by a stays ends next ≡ stays
  left_dropped (Ok _) h = absurd (false≢true h)
  left_dropped (Err (Dropped r)) h = refl
  left_dropped (Err (Ended r)) h = absurd (false≢true h)

  -- a refusal does not look at what the step would have left
  pub left_refused : (a : Answer) → is_done a ≡ false → left_by a stays ends next ≡ left_by a stays ends stays
  left_refused (Ok _) h = absurd (true≢false h)
  left_refused (Err (Dropped r)) h = refl
  left_refused (Err (Ended r)) h = refl

  -- answered: done or ended
  pub left_answered : (a : Answer) → is_dropped a ≡ false → left_by a stays ends next ≡ cond (is_done a) next ends
  left_answered (Ok _) h = refl
  left_answered (Err (Dropped r)) h = absurd (true≢false h)
  left_answered (Err (Ended r)) h = refl

-- an answer as Result's tests have it
pub refused_by : (a : Answer) → is_err a ≡ true → is_done a ≡ false
refused_by (Ok _) h = absurd (false≢true h)
refused_by (Err (Dropped r)) h = refl
refused_by (Err (Ended r)) h = refl

pub done_by : (a : Answer) → is_err a ≡ false → a ≡ Ok tt
done_by (Ok _) h = refl
done_by (Err r) h = absurd (true≢false h)

pub is_ok_done : (a : Answer) → is_ok a ≡ is_done a
is_ok_done (Ok _) = refl
is_ok_done (Err (Dropped r)) = refl
is_ok_done (Err (Ended r)) = refl

-- answered: an end where it is not done
pub ends : (a : Answer) → is_dropped a ≡ false → not (is_done a) ≡ is_ended a
ends (Ok _) h = refl
ends (Err (Dropped r)) h = absurd (true≢false h)
ends (Err (Ended r)) h = refl

-- a stop is never ended, so that it is dropped where it is refused
pub stop_dropped : (turn soon : Bool) {a : Answer} → a ≡ first_of (call_faults turn false false soon)
    → is_dropped a ≡ is_err a
stop_dropped true soon q = rw q
stop_dropped false true q = rw q
stop_dropped false false q = rw q
