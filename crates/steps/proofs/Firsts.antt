-- What an answer says of the tests before it.
use mathlib.Core.Path.{◌≡◌, refl, sym}
use Rattle.std.specs.Prelude.{Err, Ok}
use mathlib.Core.Bool.{Bool, true, false, ◌&&◌, ◌||◌, not, cond, true≢false}
use mathlib.Core.List.{List}
use Prim.Native.Nat.{ℕ}
use lib.ListN.{length}
use native.Mathlib.Omega.{arith}
use lib.Dec.{eqb}
use borrow.Author.Tests.{eqb-true, not-false}
use Rattle.frame.specs.declared.Command.{Command}
use Rattle.frame.specs.declared.Command.TheVariants as K
use Rattle.frame.specs.declared.Fields.{Fields}
use Rattle.frame.specs.Control.{is}
use Rattle.frame.specs.Writing.{is_body_length}
use Rattle.endpoint.specs.declared.Settings.{Settings}
use Rattle.endpoint.specs.declared.State.TheVariants.{Refresh}
use Rattle.endpoint.specs.Endpoint.{Endpoint}
use Rattle.endpoint.specs.declared.Reason.{Reason}
use Rattle.endpoint.specs.declared.Reason.TheVariants as R
use Rattle.endpoint.specs.Answers.{Answer}
use Rattle.endpoint.specs.declared.Refusal.TheVariants.{Dropped, Ended}
use Rattle.endpoint.specs.declared.Faults.{Faults}
use Rattle.endpoint.specs.Answers.{first_of, is_done, is_dropped}
use Rattle.endpoint.specs.Table.{is_state}
use Rattle.steps.specs.Frames.{send_width, setup_data}
use Rattle.steps.specs.Calls.{is_value_due, send_faults}
use Rattle.errors.specs.Reading.{is_record}
use Rattle.steps.specs.Deliveries.{lacks_record, is_width, request_faults}
use Rattle.steps.proofs.Keeps.{bcase}
use Rattle.steps.proofs.Whole.{record_bytes_law, setup_length}

-- an answer that is not dropped is past each test that drops
past : (b : Bool) (r : Reason) (x : Answer) → is_dropped (cond b (Err (Dropped r)) x) ≡ false → (b ≡ false)
    × (is_dropped x ≡ false)
past true r x h = absurd (true≢false h)
past false r x h = (refl, h)

pub record NotDropped (f : Faults) : Type 0 where
  pub turn : f.turn ≡ false
  pub session : f.session ≡ false
  pub norecord : f.norecord ≡ false
  pub width : f.width ≡ false
  pub repeat : f.repeat ≡ false
  pub ahead : f.ahead ≡ false

-- of a frame, or of a call that no count of requests can refuse
pub not_dropped : (f : Faults) → f.exhausted ≡ false → is_dropped (first_of f) ≡ false → NotDropped f
not_dropped f x h =
    let t = past f.turn R.Turn _ h in
    let s = past f.session R.Session _ t.1 in
    let n = past f.norecord R.Record _ s.1 in
    let w = past f.width R.Width _ n.1 in
    let p = past f.repeat R.Repeat _ (rw x at w.1) in
    let a = past f.ahead R.Ahead _ p.1 in
    record { turn = t.0; session = s.0; norecord = n.0; width = w.0; repeat = p.0; ahead = a.0 }

-- where nothing can end the connection, an answer that is not dropped is not too soon either
pub not_soon : (f : Faults) → f.exhausted ≡ false → f.late ≡ false → f.unequal ≡ false
    → is_dropped (first_of f) ≡ false → f.soon ≡ false
not_soon f x l u h =
    let t = past f.turn R.Turn _ h in
    let s = past f.session R.Session _ t.1 in
    let n = past f.norecord R.Record _ s.1 in
    let w = past f.width R.Width _ n.1 in
    let p = past f.repeat R.Repeat _ (rw x at w.1) in
    let a = past f.ahead R.Ahead _ p.1 in
    (past f.soon R.TooSoon (Ok tt) (rw (l, u) at a.1)).0

-- ---- done: no test applies
pub is_done_law : (a : Answer) → is_done a ≡ true → a ≡ Ok tt
is_done_law (Ok _) h = refl
is_done_law (Err (Dropped r)) h = absurd (true≢false (sym h))
is_done_law (Err (Ended r)) h = absurd (true≢false (sym h))

pub record NoFault (f : Faults) : Type 0 where
  pub turn : f.turn ≡ false
  pub session : f.session ≡ false
  pub norecord : f.norecord ≡ false
  pub width : f.width ≡ false
  pub exhausted : f.exhausted ≡ false
  pub repeat : f.repeat ≡ false
  pub ahead : f.ahead ≡ false
  pub late : f.late ≡ false
  pub unequal : f.unequal ≡ false
  pub soon : f.soon ≡ false

drops : (b : Bool) (r : Reason) (x : Answer) → cond b (Err (Dropped r)) x ≡ Ok tt → (b ≡ false) × (x ≡ Ok tt)
drops true r x h = let z : ◌≡◌ {A = ℕ} 0 1 = cc in absurd (omega arith)
drops false r x h = (refl, h)

ends : (b : Bool) (r : Reason) (x : Answer) → cond b (Err (Ended r)) x ≡ Ok tt → (b ≡ false) × (x ≡ Ok tt)
ends true r x h = let z : ◌≡◌ {A = ℕ} 0 1 = cc in absurd (omega arith)
ends false r x h = (refl, h)

pub first_done : (f : Faults) → first_of f ≡ Ok tt → NoFault f
first_done f h =
    let t = drops f.turn R.Turn _ h in
    let s = drops f.session R.Session _ t.1 in
    let n = drops f.norecord R.Record _ s.1 in
    let w = drops f.width R.Width _ n.1 in
    let x = ends f.exhausted R.Exhausted _ w.1 in
    let p = drops f.repeat R.Repeat _ x.1 in
    let a = drops f.ahead R.Ahead _ p.1 in
    let l = ends f.late R.Late _ a.1 in
    let u = ends f.unequal R.Unequal _ l.1 in
    let q = drops f.soon R.TooSoon _ u.1 in
    record {
      turn = t.0;
      session = s.0;
      norecord = n.0;
      width = w.0;
      exhausted = x.0;
      repeat = p.0;
      ahead = a.0;
      late = l.0;
      unequal = u.0;
      soon = q.0;
    }

-- ---- the length of what is sent and taken
-- a send in Refresh that is done, where the value is due, has one of the right length
pub sent_width : (e : Endpoint) (t n : ℕ) → is_state e.state Refresh ≡ true → is_value_due e t ≡ true
    → first_of (send_faults e t n) ≡ Ok tt → n ≡ send_width e.settings
sent_width e t n r u h =
    let w : (is_state e.state Refresh && (is_value_due e t && not (eqb n (send_width e.settings)))) ≡ false =
    (first_done (send_faults e t n) h).width in
    let v : not (eqb n (send_width e.settings)) ≡ false = rw (r, u) at w in
    eqb-true n (send_width e.settings) (not-false (eqb n (send_width e.settings)) v)

-- the right length of a request's S-Data is one that S-Data can have, and so is an error record's
width_length : (s : Settings) (k : Command) (body : List ℕ) → lacks_record k body ≡ false
    → is_width s k (length body) ≡ true → is_body_length (length body) ≡ true
width_length s k body r w =
    let n = length body in
    bcase (is k K.InvokeFunc) (λ i. rw i at w)
    (λ i. bcase (is k K.WriteErrorInfo)
    (λ j. (record_bytes_law body (not-false (is_record body) (rw j at r))).1)
    (λ j.
    let q : eqb n (length (setup_data s k)) ≡ true = rw (i, j) at w in
    rw (eqb-true n (length (setup_data s k)) q) (setup_length s k)))

-- a request that is not dropped has it
pub request_width : (e : Endpoint) (t : ℕ) (f : Fields) (body : List ℕ) → is_dropped (first_of (request_faults e t f body)) ≡ false
    → is_body_length (length body) ≡ true
request_width e t f body h =
    let w = is_width e.settings f.command (length body) in
    let n = not_dropped (request_faults e t f body) refl h in
    width_length e.settings f.command body n.norecord (not-false w n.width)

-- neither of two
pub neither : (a b : Bool) → (a || b) ≡ false → (a ≡ false) × (b ≡ false)
neither true b h = absurd (true≢false h)
neither false b h = (refl, h)
