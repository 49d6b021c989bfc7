-- A frame that an endpoint writes reads back, and carries its CID and its role's Application bit.
use mathlib.Core.Path.{◌≡◌, refl, sym, subst}
use Rattle.std.specs.Prelude.{Ok}
use Rattle.std.specs.Prelude.{None, Option, Some, ℕ}
use mathlib.Core.Bool.{Bool, true, false, ◌&&◌, ◌||◌, not, cond, beq, true≢false, false≢true}
use mathlib.Core.List.{List}
use Prim.Native.Nat.{ℕ, ◌-◌, ◌<◌}
use lib.Dec.{lit<, leb}
use native.Mathlib.Omega.{arith}
use lib.ListN.{length}
use borrow.Author.Tests.{not-true, not-false}
use Rattle.frame.specs.declared.Command.{Command}
use Rattle.frame.specs.declared.Command.TheVariants as K
use Rattle.frame.specs.declared.Fields.{Fields}
use Rattle.frame.specs.Control.{is, narrowed}
use Rattle.frame.specs.Writing.{is_writable}
use Rattle.frame.specs.RoundTrip.{SubconnectionFits, Readable}
use mathlib.Mathlib.Data.Bool.Basic.{and_elim_left as and_left}
use Rattle.endpoint.specs.declared.State.TheVariants.{Refresh}
use Rattle.endpoint.specs.Endpoint.{Endpoint}
use Rattle.endpoint.specs.Answers.{first_of, is_done, is_dropped, is_ended}
use Rattle.endpoint.specs.Table.{is_state, is_setup}
use Rattle.endpoint.specs.Due.{request_due, is_pending, may_request, measurement_interval, is_late, refresh_due}
use Rattle.steps.specs.Frames.{frame, due_data, setup_data, session_with, sent_fields, measurement_fields}
use Rattle.steps.specs.Calls.{Outcome, is_value_due, send_faults, send_of, stop_faults, stop_of}
use Rattle.steps.specs.Deliveries.{request_faults, replied_of, is_result, reply_faults, take_reply, deliver_of}
use Rattle.steps.specs.Laws.{Carries}
use Rattle.steps.proofs.Dispatch.{cond_true, cond_false, deliver_echo, deliver_refresh, deliver_request}
use Rattle.steps.proofs.Dispatch.{deliver_reply}
use Rattle.steps.proofs.Firsts.{is_done_law, first_done, sent_width, request_width, neither}
use Rattle.steps.proofs.Keeps.{bcase}
use Rattle.steps.proofs.Whole.{request_writable, measurement_writable, refresh_writable, disconnect_writable}
use Rattle.steps.proofs.Whole.{reply_writable}
use Rattle.steps.proofs.Whole.{send_width_length, baseline_fits_law}

-- a send that is done, outside Refresh, is a request
pub may_request_law : (e : Endpoint) (t n : ℕ) → is_state e.state Refresh ≡ false → first_of (send_faults e t n) ≡ Ok tt
    → may_request e ≡ true
may_request_law e t n k h =
    let w : (is_state e.state Refresh || may_request e) ≡ true =
    not-false (is_state e.state Refresh || may_request e) (first_done (send_faults e t n) h).turn in
    rw k at w

pub master_requests : (e : Endpoint) → may_request e ≡ true → e.settings.slave ≡ false
master_requests e h = not-true e.settings.slave
    (and_left (not e.settings.slave) (is_setup e.state && not (is_pending e.setup.pending)) h)

-- where a send in Refresh does not write the value, a master writes S-RefreshGO, or S-RefreshMO
pub record MeasurementDue (e : Endpoint) (t : ℕ) : Type 0 where
  pub master : e.settings.slave ≡ false
  pub go : Bool
  pub due : refresh_due e t ≡ cond go K.RefreshGo K.RefreshMo
  pub under_way : go ≡ true → (is_pending e.setup.pending ≡ false) × (e.measurement.answered ≡ true)

pub measurement_due : (e : Endpoint) (t : ℕ) → is_value_due e t ≡ false → MeasurementDue e t
measurement_due e t h =
    go e.settings.slave (is_pending e.setup.pending) e.measurement.answered (is_late e t)
    (leb measurement_interval (t - e.measurement.reference)) refl refl refl refl refl h
  where
    due : Bool → Bool → Bool → Bool → Bool → Command
    due s p a l m = cond s K.Refresh (cond ((p || a) && not l) (cond p K.Refresh K.RefreshGo) (cond m K.RefreshMo K.Refresh))

    go : (s p a l m : Bool) → e.settings.slave ≡ s → is_pending e.setup.pending ≡ p → e.measurement.answered ≡ a
        → is_late e t ≡ l → leb measurement_interval (t - e.measurement.reference) ≡ m
        → is (refresh_due e t) K.Refresh ≡ false → MeasurementDue e t
    go s p a l m es ep ea el em g =
        let q : refresh_due e t ≡ due s p a l m = rw (el, es, ep, ea, em) in
        by s p a l m es ep ea q (subst (λ (z : Command). is z K.Refresh ≡ false) q g)
      where
        by : (s p a l m : Bool) → e.settings.slave ≡ s → is_pending e.setup.pending ≡ p → e.measurement.answered ≡ a
            → refresh_due e t ≡ due s p a l m → is (due s p a l m) K.Refresh ≡ false → MeasurementDue e t
        by true p a l m es ep ea q g = absurd (true≢false g)
        by false true a false m es ep ea q g = absurd (true≢false g)
        by false false true false m es ep ea q g = record { master = es; go = true; due = q; under_way = λ _. (ep, ea) }
        by false true a true true es ep ea q g = record { master = es; go = false; due = q; under_way = λ z. absurd (false≢true z) }
        by false true a true false es ep ea q g = absurd (true≢false g)
        by false false true true true es ep ea q g = record { master = es; go = false; due = q; under_way = λ z. absurd (false≢true z) }
        by false false true true false es ep ea q g = absurd (true≢false g)
        by false false false l true es ep ea q g = record { master = es; go = false; due = q; under_way = λ z. absurd (false≢true z) }
        by false false false l false es ep ea q g = absurd (true≢false g)

-- the session number of a frame has 16 bits
narrowed_fits : (s : Option ℕ) → SubconnectionFits (narrowed s)
narrowed_fits None = tt
narrowed_fits (Some n) = omega arith

session_fits_law : (e : Endpoint) (k : Command) → SubconnectionFits (session_with e k)
session_fits_law e k = bcase (is k K.Connect) (λ h. rw h tt) (λ h. rw h (narrowed_fits e.session))

reads_back : (k : Command) (sequence application : Bool) (s : Option ℕ) (connection timestamp baseline : ℕ)
    (body : List ℕ) → SubconnectionFits s → baseline < 65536
    → is_writable (sent_fields k sequence application s connection timestamp baseline) (length body) ≡ true
    → Readable (sent_fields k sequence application s connection timestamp baseline) body
reads_back k sequence application s connection timestamp baseline body n b w =
    record { baseline = b; subconnection = n; formed = w }

module _ (e : Endpoint) (t : ℕ) where
  measurement_carries : (go : Bool) → e.settings.slave ≡ false
      → let k = cond go K.RefreshGo K.RefreshMo in
      Carries e (frame (measurement_fields e k t) (setup_data e.settings k))
  measurement_carries go m =
      let k = cond go K.RefreshGo K.RefreshMo in (
        reads_back _ _ _ _ _ _ _ (setup_data e.settings k) (narrowed_fits e.session)
            (baseline_fits_law k t e.setup.measured) (measurement_writable e t go),
        refl,
        sym m,
      )

  pub send_carries : (value : List ℕ) → Carries e (send_of e t value).writes
  send_carries value =
      let n = length value in
      let a = first_of (send_faults e t n) in
      bcase (is_done a)
      (λ h.
      let d = is_done_law a h in
      rw h (bcase (is_state e.state Refresh)
      (λ k. rw k (bcase (is_value_due e t)
      (λ v. rw v (
        reads_back _ _ _ _ _ _ _ value (narrowed_fits e.session) (lit< tt)
            (refresh_writable e t n (rw (sent_width e t n k v d) (send_width_length e.settings))),
        refl,
        refl,
      ))
      (λ v.
      let q = measurement_due e t v in
      rw v (subst (λ (z : Command). Carries e (frame (measurement_fields e z t) (setup_data e.settings z)))
      (sym q.due) (measurement_carries q.go q.master)))))
      (λ k. rw k (
        reads_back _ _ _ _ _ _ _ (due_data e) (session_fits_law e (request_due e))
            (baseline_fits_law (request_due e) t e.setup.measured) (request_writable e t),
        refl,
        sym (master_requests e (may_request_law e t n k d)),
      ))))
      (λ h. rw h tt)

  pub stop_carries : Carries e (stop_of e t).writes
  stop_carries =
      bcase (is_dropped (first_of (stop_faults e t))) (λ h. rw h tt)
      (λ h. rw h (bcase e.settings.slave
      (λ m. subst (Carries e) (sym (cond_true e.settings.slave _ _ m)) tt)
      (λ m. subst (Carries e) (sym (cond_false e.settings.slave _ _ m)) (
        reads_back _ _ _ _ _ _ _ (setup_data e.settings K.Disconnect) (narrowed_fits e.session) (lit< tt)
            (disconnect_writable e t),
        refl,
        sym m,
      ))))

  request_carries : (f : Fields) (body : List ℕ) → is f.command K.Refresh ≡ false → e.settings.slave ≡ true
      → Carries e (replied_of e f body (first_of (request_faults e t f body)))
  request_carries f body k m =
      let a = first_of (request_faults e t f body) in
      bcase (is_dropped a || is f.command K.Disconnect) (λ h. rw h tt)
      (λ h.
      let n = neither (is_dropped a) (is f.command K.Disconnect) h in
      rw h (
        record {
          baseline = lit< tt;
          subconnection = narrowed_fits e.session;
          formed = reply_writable e t f (is_done a) (is_ended a) body k n.1 (request_width e t f body n.0);
        },
        refl,
        sym m,
      ))

  -- a result goes to the user
  reply_carries : (f : Fields) (body : List ℕ) → Carries e (take_reply e t f body).writes
  reply_carries f body =
      bcase (is_done (first_of (reply_faults e t f body)) && is_result f) (λ h. rw h tt) (λ h. rw h tt)

  pub deliver_carries : (f : Fields) (body : List ℕ) → Carries e (deliver_of e t f body).writes
  deliver_carries f body =
      bcase (beq f.application e.settings.slave)
      (λ h. subst (λ (o : Outcome). Carries e o.writes) (sym (deliver_echo e t f body h)) tt)
      (λ h. bcase (is f.command K.Refresh)
      (λ k. subst (λ (o : Outcome). Carries e o.writes) (sym (deliver_refresh e t f body h k)) tt)
      (λ k. bcase e.settings.slave
      (λ m. subst (λ (o : Outcome). Carries e o.writes) (sym (deliver_request e t f body h k m))
      (request_carries f body k m))
      (λ m. subst (λ (o : Outcome). Carries e o.writes) (sym (deliver_reply e t f body h k m))
      (reply_carries f body))))
