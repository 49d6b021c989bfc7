-- One call at either end: what it comes to, by cases on the call and its answer. The end is a parameter: K is what is
-- to be kept, of the numbers given, the log, the endpoint and the place last taken; the rest says that each of the
-- endpoint's steps keeps it.
use mathlib.Core.Path.{◌≡◌, refl, sym, ap, subst, ◌∙◌}
use Rattle.std.specs.Prelude.{Err, Ok}
use Rattle.std.specs.Prelude.{Option, ℕ}
use mathlib.Core.Bool.{Bool, true, false, ◌&&◌, not, cond, beq}
use mathlib.Core.List.{List, [], ◌++◌, append-nil}
use Prim.Native.Nat.{ℕ, suc, ◌/◌, ◌≤◌}
use native.Mathlib.Omega.{arith}
use lib.ListN.{length}
use borrow.Author.Tests.{not-true}
use mathlib.Mathlib.Data.Bool.Basic.{and_elim_left as and_left}
use Rattle.frame.specs.declared.Command.TheVariants as K'
use Rattle.frame.specs.declared.Fields.{Fields}
use Rattle.frame.specs.Control.{is}
use Rattle.endpoint.specs.declared.State.TheVariants.{Close}
use Rattle.endpoint.specs.declared.Queue.{Queue}
use Rattle.endpoint.specs.declared.Queue.TheVariants as Q
use Rattle.endpoint.specs.declared.Station.{Station}
use Rattle.endpoint.specs.Endpoint.{Endpoint, Words, words_of}
use Rattle.endpoint.specs.declared.Reason.{Reason}
use Rattle.endpoint.specs.declared.Reason.TheVariants as R
use Rattle.endpoint.specs.Answers.{Answer}
use Rattle.endpoint.specs.declared.Refusal.TheVariants.{Dropped, Ended}
use Rattle.endpoint.specs.Answers.{record_faults, first_of, is_done, is_dropped}
use Rattle.endpoint.specs.Table.{is_state, is_terminated}
use Rattle.endpoint.specs.Due.{may_queue, may_queue_read}
use Rattle.endpoint.specs.Time.{ended_of}
use Rattle.transitions.specs.ByCall.{started_of, restarted_of}
use Rattle.transitions.specs.ByFrame.{refreshed_of}
use Rattle.steps.specs.Frames.{nothing}
use Rattle.steps.specs.Calls.{Outcome, outcome, dropped, send_of, stop_faults, stop_of}
use Rattle.steps.specs.Frames.{padded_of}
use Rattle.steps.specs.Calls.{hand_faults, command_data, kept_record, record_with}
use Rattle.errors.specs.Reading.{is_record}
use Rattle.steps.specs.Deliveries.{refresh_faults, take_refresh, deliver_of}
use Rattle.steps.proofs.Dispatch.{cond_true, cond_false, deliver_echo, deliver_refresh}
use Rattle.steps.proofs.Dones.{send_cases}
use Rattle.steps.proofs.Keeps.{bcase}
use Rattle.steps.specs.Steps.{Act, start, stop, restart, set_not_ready, set_result, clear_result, set_record}
use Rattle.steps.specs.Steps.{clear_record, invoke, read_error, write_error}
use Rattle.steps.specs.Steps.{Call, act, send, deliver, show, act_of, step_of}
use Rattle.link.specs.Runs.{Sent, logged, last_of, Grant, given_by, given_after, may_deliver, took_by}
use Rattle.link.proofs.Relation.{told_of}
use Rattle.link.proofs.Entries.{Handed, delivered as written-before}

-- ---- a stop is done or dropped
stop_cases : (P : Outcome → Type 0) (e : Endpoint) (t : ℕ) → ((stop_of e t).answer ≡ Ok tt → P (stop_of e t))
    → ((a : Answer) → P (dropped e a))
    → P (stop_of e t)
stop_cases P e t p q =
    let a = first_of (stop_faults e t) in
    bcase (is_dropped a) (λ h. subst P (sym (cond_true (is_dropped a) (dropped e a) _ h)) (q a))
    (λ h. p (ap (λ (o : Outcome). o.answer) (cond_false (is_dropped a) (dropped e a) _ h)))

-- ---- an S-Refresh is taken, dropped, or ends the connection
refresh_cases : (P : Outcome → Type 0) (e : Endpoint) (t : ℕ) (n : Option ℕ) (stamp : ℕ) (body : List ℕ)
    → ((take_refresh e t n stamp body).answer ≡ Ok tt → P (outcome (Ok tt) (refreshed_of e t stamp (padded_of body)) nothing))
    → ((r : Reason) → P (outcome (Err (Dropped r)) e nothing)) → ((r : Reason) → P (outcome (Err (Ended r)) (ended_of e) nothing))
    → P (take_refresh e t n stamp body)
refresh_cases P e t n stamp body p q r = go (first_of (refresh_faults e t n stamp (length body))) refl
  where
    go : (a : Answer) → first_of (refresh_faults e t n stamp (length body)) ≡ a → P (take_refresh e t n stamp body)
    go (Ok _) h = rw h (p h)
    go (Err (Dropped x)) h = rw h (q x)
    go (Err (Ended x)) h = rw h (r x)

and_false : (a b : Bool) → b ≡ false → (a && b) ≡ false
and_false true b h = h
and_false false b h = refl

and_true : (a : Bool) → (a && true) ≡ a
and_true true = refl
and_true false = refl

-- ---- no number is given where a call is not done, or gives none
none_given : (b : Bool) (x g : List Grant) → b ≡ false → (cond b x [] ++ g) ≡ g
none_given b x g h = rw h

gives_none : (b : Bool) (g : List Grant) → (cond b [] [] ++ g) ≡ g
gives_none true g = refl
gives_none false g = refl

module _ (slave : Bool) (m t loads : ℕ) (given : List Grant) (l : List Sent) (e : Endpoint) (took : ℕ)
    (K : List Grant → List Sent → Endpoint → ℕ → Type 0)
    (base : K given l e took) (ended : K given l (ended_of e) took)
    (started : e.settings.slave ≡ false → K given l (started_of e t) took)
    (restarted : (number : ℕ)
    → K (cond slave (given_by loads (restart number)) [] ++ given) l (restarted_of e number) took)
    (told : (s : Station) (q : Queue) (w x : Words) → K given l (told_of e s q w x) took) where
  -- what a call that takes no S-Refresh keeps
  unfoldable pub Keeps : Call → Outcome → Type 0
  Keeps call o =
      K (given_after slave loads call o.answer given) (l ++ logged slave m loads call o.writes) o.endpoint took

  -- nothing is written; whichever numbers are given
  written_none : (g : List Grant) (x : Endpoint) → K g l x took → K g (l ++ []) x took
  written_none g x k = subst (λ (y : List Sent). K g y x took) (sym (append-nil l)) k

  -- no number is given, as by any call but a restart
  abbrev GivesNone : Call → Type 0
  GivesNone call = (a : Answer) → given_after slave loads call a given ≡ given

  silent : (call : Call) → GivesNone call → (a : Answer) (x : Endpoint) → K given l x took
      → Keeps call (outcome a x nothing)
  unfolding Keeps
  silent call n a x k = subst (λ (g : List Grant). K g (l ++ []) x took) (sym (n a)) (written_none given x k)

  -- nor by a call that is not done
  refused_act : (a : Act) (x : Endpoint) → K given l x took
      → K (cond (slave && false) (given_by loads a) [] ++ given) (l ++ []) x took
  refused_act a x k =
      subst (λ (g : List Grant). K g (l ++ []) x took)
      (sym (none_given (slave && false) (given_by loads a) given (and_false slave false refl)))
      (written_none given x k)

  -- what any call keeps, and what was taken never falls
  unfoldable pub Kept : Call → Outcome → Type 0
  Kept call o =
      K (given_after slave loads call o.answer given) (l ++ logged slave m loads call o.writes) o.endpoint
      (took_by l call o.answer took)
      × (took ≤ took_by l call o.answer took)

  -- a frame that is no S-Refresh, or was not done, leaves what was taken
  not_taken : (f : Fields) (body : List ℕ) (o : Outcome) → (is_done o.answer && is f.command K'.Refresh) ≡ false
      → Keeps (deliver f body) o
      → Kept (deliver f body) o
  unfolding Keeps Kept
  not_taken f body o h k = rw h (k, omega arith)

  -- the clock step ended it
  pub expired : (call : Call) → Kept call (outcome (Err (Ended R.Expired)) (ended_of e) nothing)
  unfolding Keeps Kept
  expired (act a) = (refused_act a (ended_of e) ended, omega arith)
  expired (send value) = (written_none given (ended_of e) ended, omega arith)
  expired (deliver f body) =
      not_taken f body (outcome (Err (Ended R.Expired)) (ended_of e) nothing) refl (written_none given (ended_of e) ended)
  expired show = (written_none given (ended_of e) ended, omega arith)

  module _ (sent : (value : List ℕ) → (send_of e t value).answer ≡ Ok tt → Keeps (send value) (send_of e t value))
      (stopped : (stop_of e t).answer ≡ Ok tt → Keeps (act stop) (stop_of e t))
      (refreshed : (f : Fields) (body : List ℕ) (k : ℕ) → Handed given f body l k
      → beq f.application e.settings.slave ≡ false
      → is f.command K'.Refresh ≡ true → (take_refresh e t f.subconnection f.timestamp body).answer ≡ Ok tt
      → K given l (refreshed_of e t f.timestamp (padded_of body)) (suc k) × (took ≤ k))
      (other : (f : Fields) (body : List ℕ) (k : ℕ) → Handed given f body l k
      → beq f.application e.settings.slave ≡ false
      → is f.command K'.Refresh ≡ false → Keeps (deliver f body) (deliver_of e t f body)) where
    delivered : (f : Fields) (body : List ℕ) (k : ℕ) → last_of f body l ≡ suc k → Handed given f body l k
        → Kept (deliver f body) (deliver_of e t f body)
    unfolding Kept
    delivered f body k q g =
        let quiet : GivesNone (deliver f body) = λ a. refl in
        bcase (beq f.application e.settings.slave)
        (λ h. subst (Kept (deliver f body)) (sym (deliver_echo e t f body h))
        (not_taken f body (dropped e (Err (Dropped R.Echo))) refl (silent (deliver f body) quiet (Err (Dropped R.Echo)) e base)))
        (λ h. bcase (is f.command K'.Refresh)
        (λ r. subst (Kept (deliver f body)) (sym (deliver_refresh e t f body h r))
        (refresh_cases (Kept (deliver f body)) e t f.subconnection f.timestamp body
        (λ d.
        let z = refreshed f body k g h r d in
        let w = z.1 in
        let y : cond (is f.command K'.Refresh) (last_of f body l) took ≡ suc k = cond_true
        (is f.command K'.Refresh) (last_of f body l) took r ∙ q in (
          subst (λ (n : ℕ). K given (l ++ []) (refreshed_of e t f.timestamp (padded_of body)) n) (sym y)
              (subst (λ (x : List Sent). K given x (refreshed_of e t f.timestamp (padded_of body)) (suc k))
              (sym (append-nil l)) z.0),
          omega arith,
        ))
        (λ x. not_taken f body (outcome (Err (Dropped x)) e nothing) refl
        (silent (deliver f body) quiet (Err (Dropped x)) e base))
        (λ x. not_taken f body (outcome (Err (Ended x)) (ended_of e) nothing) refl
        (silent (deliver f body) quiet (Err (Ended x)) (ended_of e) ended))))
        (λ r. not_taken f body (deliver_of e t f body)
        (and_false (is_done (deliver_of e t f body).answer) (is f.command K'.Refresh) r) (other f body k g h r)))

    -- its user tells it something, or is refused
    tells : (a : Act) → GivesNone (act a) → (b : Bool) (s : Station) (q : Queue) (w x : Words) (r : Answer)
        → Keeps (act a) (cond b (outcome (Ok tt) (told_of e s q w x) nothing) (dropped e r))
    tells a n true s q w x r = silent (act a) n (Ok tt) (told_of e s q w x) (told s q w x)
    tells a n false s q w x r = silent (act a) n r e base

    -- and hands an error record over
    records : (a : Act) → GivesNone (act a) → (turn : Bool) (q : Queue) (body : List ℕ)
        → Keeps (act a) (record_with turn (told_of e e.station q e.words (kept_record body)) e body)
    records a n turn q body =
        let r = first_of (record_faults (not turn) (not (is_record body))) in
        tells a n (is_done r) e.station q e.words (kept_record body) r

    none : (a : Answer) → (cond (slave && is_done a) [] [] ++ given) ≡ given
    none a = gives_none (slave && is_done a) given

    -- with a number, where it is done
    restarts : (number : ℕ) (b : Bool)
        → Keeps (act (restart number))
        (cond b (outcome (Ok tt) (restarted_of e number) nothing) (dropped e (Err (Dropped R.Turn))))
    unfolding Keeps
    restarts number true =
        subst (λ b. K (cond b (given_by loads (restart number)) [] ++ given) (l ++ []) (restarted_of e number) took)
        (sym (and_true slave)) (written_none _ (restarted_of e number) (restarted number))
    restarts number false = refused_act (restart number) e base

    acts : (a : Act) → Keeps (act a) (act_of e t a)
    unfolding Keeps
    acts start =
        bcase (not e.settings.slave && is_state e.state Close)
        (λ k. rw k (silent (act start) none (Ok tt) (started_of e t) (started (not-true e.settings.slave
        (and_left (not e.settings.slave) (is_state e.state Close) k)))))
        (λ k. rw k (silent (act start) none (Err (Dropped R.Turn)) e base))
    acts stop = stop_cases (Keeps (act stop)) e t stopped (λ a. silent (act stop) none a e base)
    acts (restart number) = restarts number (is_terminated e.state)
    acts (set_not_ready b) =
        tells (set_not_ready b) none e.settings.slave (record { notready = b }) e.setup.queue e.words
        e.errorinfo (Err (Dropped R.Turn))
    acts (set_result body) =
        let a = first_of (hand_faults e.settings.slave (length body)) in
        tells (set_result body) none (is_done a) e.station e.setup.queue
        (words_of (length body / 4) (padded_of body)) e.errorinfo a
    acts clear_result =
        tells clear_result none e.settings.slave e.station e.setup.queue (words_of 0 e.words.bytes)
        e.errorinfo (Err (Dropped R.Turn))
    acts (set_record body) = records (set_record body) none e.settings.slave e.setup.queue body
    acts clear_record =
        tells clear_record none e.settings.slave e.station e.setup.queue e.words
        (words_of 0 e.errorinfo.bytes) (Err (Dropped R.Turn))
    acts (invoke word bytes) =
        let body = command_data word bytes in
        let a = first_of (hand_faults (may_queue e) (length body)) in
        tells (invoke word bytes) none (is_done a) e.station Q.InvokeFunc
        (words_of (length body / 4) (padded_of body)) e.errorinfo a
    acts read_error =
        tells read_error none (may_queue_read e) e.station Q.ReadErrorInfo e.words e.errorinfo (Err (Dropped R.Turn))
    acts (write_error body) = records (write_error body) none (may_queue e) Q.WriteErrorInfo body

    -- every call but a deliver takes nothing
    pub acted : (call : Call) → may_deliver given l call ≡ true → Kept call (step_of e t call)
    unfolding Keeps Kept
    acted (act a) h = (acts a, omega arith)
    acted (send value) h =
        let quiet : GivesNone (send value) = λ a. refl in (
          send_cases e t (Keeps (send value)) value (sent value) (λ a. silent (send value) quiet a e base)
              (λ a. silent (send value) quiet a (ended_of e) ended),
          omega arith,
        )
    acted (deliver f body) h =
        let d = written-before given f body l h in
        delivered f body d.place d.last d.handed
    acted show h = (silent show (λ a. refl) (Ok tt) e base, omega arith)
