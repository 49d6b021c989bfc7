-- Any call at the master, and any at the slave, keeps the relation to the invariant; what an end took never falls.
use mathlib.Core.Path.{◌≡◌, refl, sym, ap, subst, ◌∙◌}
use Rattle.std.specs.Prelude.{Err, Ok}
use mathlib.Core.Bool.{Bool, true, false, not, cond, beq, true≢false}
use mathlib.Core.List.{List, [], ◌++◌, append-nil}
use mathlib.Core.Logic.{⊎_elim}
use Prim.Native.Nat.{ℕ, ◌+◌, ◌≤◌}
use borrow.Author.Tests.{not-false}
use Rattle.frame.specs.declared.Command.TheVariants as K
use Rattle.frame.specs.declared.Fields.{Fields}
use Rattle.frame.specs.Control.{is}
use Rattle.endpoint.specs.declared.Settings.{Settings}
use Rattle.endpoint.specs.Endpoint.{Endpoint}
use Rattle.endpoint.specs.Answers.{Answer}
use Rattle.endpoint.specs.declared.Refusal.TheVariants.{Dropped, Ended}
use Rattle.endpoint.specs.Answers.{first_of, is_dropped}
use Rattle.endpoint.specs.declared.State.TheVariants.{Refresh}
use Rattle.endpoint.specs.Table.{is_state}
use Rattle.endpoint.specs.Time.{is_expired, is_above, ended_of}
use Rattle.transitions.specs.ByCall.{stopped_of}
use Rattle.transitions.specs.ByFrame.{ended_by}
use Rattle.steps.specs.Frames.{nothing}
use Rattle.steps.specs.Frames as W
use Rattle.steps.specs.Calls.{Outcome, outcome, send_of, stop_of}
use Rattle.steps.specs.Deliveries.{is_stray, request_faults, is_result, reply_faults, take_request, take_reply, deliver_of}
use Rattle.steps.specs.Laws.{RefreshSent, MeasurementSent, RequestSent}
use Rattle.steps.proofs.Dispatch.{cond_true, cond_false, deliver_request, deliver_reply}
use Rattle.steps.proofs.Dones.{send_done, stop_done, refresh_done, request_done, synchronization_done, report_done}
use Rattle.steps.proofs.Dones.{reply_done, measurement_heard}
use Rattle.steps.proofs.Firsts.{not_dropped, neither}
use Rattle.steps.proofs.Keeps.{bcase}
use Rattle.steps.specs.Steps.{stop, Call, act, send, deliver, call_of}
use Rattle.link.specs.Clocks.{Reading}
use Rattle.link.specs.Runs.{Sent, logged, Grant, given_after, may_deliver, took_by}
use Rattle.link.proofs.Ages.{Latest}
use Rattle.link.proofs.Relation.{Linked}
use Rattle.link.proofs.Entries.{Handed}
use Rattle.errors.specs.Reading.{more_follows}
use Rattle.link.proofs.Codes.{report_ends}
use Rattle.link.proofs.Events.{Keeps, Kept, expired, acted}
use Rattle.link.proofs.AtMaster as M
use Rattle.link.proofs.Invariant.{limit}
use Rattle.link.proofs.AtSlave as S

-- a frame that is not taken for one's own has the other's Application bit
pub other_bit : (e : Endpoint) (f : Fields) → beq f.application e.settings.slave ≡ false
    → f.application ≡ not e.settings.slave
other_bit e f h =
    bcase f.application
    (λ a. bcase e.settings.slave (λ b. absurd (true≢false (rw (a, b) at h))) (λ b. rw (a, b)))
    (λ a. bcase e.settings.slave (λ b. rw (a, b)) (λ b. absurd (true≢false (rw (a, b) at h))))

module _ {shift : ℕ} {calls : List Reading} {sm ss : Settings} {loads : ℕ} {given : List Grant} {l : List Sent}
    {tm ts : ℕ} (t : ℕ) (lim : t ≤ limit) where
  -- ---- the master
  module _ {em es : Endpoint} (L : Linked shift calls sm ss loads given (t + shift) l em es tm ts) where
    role : em.settings.slave ≡ false
    role = ap (λ (s : Settings). s.slave) L.set_m ∙ L.paired.master

    abbrev AtM : List Grant → List Sent → Endpoint → ℕ → Type 0
    AtM g y e n = Linked shift calls sm ss loads g (t + shift) y e es n ts

    -- no call at the master gives a number
    abbrev KeepsM : Call → Outcome → Type 0
    KeepsM call o =
        AtM (given_after false loads call o.answer given) (l ++ logged false (t + shift) loads call o.writes)
        o.endpoint tm

    -- nothing is written, or a value for the user, and no frame
    unlogged_m : (e : Endpoint) → AtM given l e tm → AtM given (l ++ []) e tm
    unlogged_m e k = subst (λ (y : List Sent). AtM given y e tm) (sym (append-nil l)) k

    result_m : (f : Fields) (body : List ℕ) (result : Bool) (e : Endpoint) → AtM given l e tm
        → KeepsM (deliver f body) (outcome (Ok tt) e (cond result (W.value body) nothing))
    result_m f body true e k = unlogged_m e k
    result_m f body false e k = unlogged_m e k

    sent_m : is_expired em t ≡ false → (value : List ℕ) → (send_of em t value).answer ≡ Ok tt
        → KeepsM (send value) (send_of em t value)
    sent_m x value h =
        ⊎_elim (λ (d : RefreshSent em t value). subst (KeepsM (send value)) (sym d.comes)
        (M.refresh_sent_m t lim L value d))
        (⊎_elim (λ (d : MeasurementSent em t value). subst (KeepsM (send value)) (sym d.comes)
        (M.measurement_sent_m t lim L value d))
        (λ (d : RequestSent em t value). subst (KeepsM (send value)) (sym d.comes)
        (M.requested_m t lim L value d x)))
        (send_done em t value h)

    stopped_m : (stop_of em t).answer ≡ Ok tt → KeepsM (act stop) (stop_of em t)
    stopped_m h =
        let d = stop_done em t h in
        subst (KeepsM (act stop)) (sym
        (d.comes ∙ ap (outcome (Ok tt) (stopped_of em t)) (cond_false em.settings.slave _ _ role)))
        (M.stopped_m t lim L d)

    other_m : is_expired em t ≡ false → (f : Fields) (body : List ℕ) (k : ℕ) → Handed given f body l k
        → beq f.application em.settings.slave ≡ false
        → is f.command K.Refresh ≡ false → KeepsM (deliver f body) (deliver_of em t f body)
    other_m x f body k g h n = subst (KeepsM (deliver f body)) (sym (deliver_reply em t f body h n role))
        (go (first_of (reply_faults em t f body)) refl)
      where
        slaves : f.application ≡ true
        slaves = other_bit em f h ∙ ap not role

        go : (a : Answer) → first_of (reply_faults em t f body) ≡ a → KeepsM (deliver f body) (take_reply em t f body)
        go (Ok _) e =
            bcase (is_state em.state Refresh)
            (λ r.
            let d = measurement_heard em t f body r e in
            subst (KeepsM (deliver f body)) (sym d.comes)
            (unlogged_m _ (M.measurement_heard_m t lim L f body k g slaves r d)))
            (λ r.
            let d = reply_done em t f body r e in
            subst (KeepsM (deliver f body)) (sym d.comes)
            (result_m f body (is_result f) _ (M.heard_m t lim L f body k g slaves d x)))
        go (Err (Dropped r)) e = rw e (unlogged_m em L)
        go (Err (Ended r)) e = rw e (unlogged_m (ended_of em) (M.ended_m t lim L))

    pub at_master_law : (call : Call) → may_deliver given l call ≡ true
        → let o = call_of em t call in
        AtM (given_after false loads call o.answer given) (l ++ logged false (t + shift) loads call o.writes)
        o.endpoint (took_by l call o.answer tm)
        × (tm ≤ took_by l call o.answer tm)
    unfolding Keeps Kept
    at_master_law call h =
        bcase (is_expired em t)
        (λ x. rw x (expired false (t + shift) t loads given l em tm AtM L (M.ended_m t lim L) (λ q. M.started_m t lim L)
        (M.restarted_m_law t lim L) (M.told_m t lim L) call))
        (λ x. rw x (acted false (t + shift) t loads given l em tm AtM L (M.ended_m t lim L) (λ q. M.started_m t lim L)
        (M.restarted_m_law t lim L) (M.told_m t lim L) (sent_m x) stopped_m
        (λ f body k g q r d.
        let o = other_bit em f q ∙ ap not role in
        let y = refresh_done em t f.subconnection f.timestamp body d in
        (M.refreshed_m t lim L f body k g o r y, M.rises_m t lim L f body k g o r y)) (other_m x) call h))

  -- ---- the slave, at the reading that is the last of its calls
  module _ {now : ℕ} {em es : Endpoint} (ti : Latest calls t now)
      (L : Linked shift calls sm ss loads given now l em es tm ts) where
    abbrev AtS : List Grant → List Sent → Endpoint → ℕ → Type 0
    AtS g y e n = Linked shift calls sm ss loads g now y em e tm n

    abbrev KeepsS : Call → Outcome → Type 0
    KeepsS call o =
        AtS (given_after true loads call o.answer given) (l ++ logged true now loads call o.writes)
        o.endpoint ts

    slave_role : es.settings.slave ≡ true
    slave_role = ap (λ (s : Settings). s.slave) L.set_s ∙ L.paired.slave

    unlogged_s : (e : Endpoint) → AtS given l e ts → AtS given (l ++ []) e ts
    unlogged_s e k = subst (λ (y : List Sent). AtS given y e ts) (sym (append-nil l)) k

    sent_s : is_expired es t ≡ false → (value : List ℕ) → (send_of es t value).answer ≡ Ok tt
        → KeepsS (send value) (send_of es t value)
    sent_s x value h =
        ⊎_elim (λ (d : RefreshSent es t value). subst (KeepsS (send value)) (sym d.comes)
        (S.refresh_sent_s t lim ti L value d x))
        (⊎_elim (λ (d : MeasurementSent es t value). absurd (true≢false (sym slave_role ∙ d.master)))
        (λ (d : RequestSent es t value). absurd (true≢false (sym slave_role ∙ d.master))))
        (send_done es t value h)

    stopped_s : (stop_of es t).answer ≡ Ok tt → KeepsS (act stop) (stop_of es t)
    stopped_s h =
        let d = stop_done es t h in
        subst (KeepsS (act stop)) (sym
        (d.comes ∙ ap (outcome (Ok tt) (stopped_of es t)) (cond_true es.settings.slave _ _ slave_role)))
        (unlogged_s (stopped_of es t) (S.stopped_s t lim ti L))

    -- a request that was not dropped has a timestamp above the last accepted
    above_s : (f : Fields) (body : List ℕ) → is_dropped (first_of (request_faults es t f body)) ≡ false
        → is_above es.timestamps.accepted f.timestamp ≡ true
    above_s f body h =
        let above = is_above es.timestamps.accepted f.timestamp in
        let n = not_dropped (request_faults es t f body) refl h in
        not-false above (neither (not above) (is_stray es t f) n.repeat).0

    other_s : is_expired es t ≡ false → (f : Fields) (body : List ℕ) (k : ℕ) → Handed given f body l k
        → beq f.application es.settings.slave ≡ false
        → is f.command K.Refresh ≡ false → KeepsS (deliver f body) (deliver_of es t f body)
    other_s x f body k g h n =
        subst (KeepsS (deliver f body)) (sym (deliver_request es t f body h n slave_role))
        (bcase (is f.command K.Disconnect) (leaves (first_of (request_faults es t f body)) refl)
        (replies (first_of (request_faults es t f body)) refl))
      where
        masters : f.application ≡ false
        masters = other_bit es f h ∙ ap not slave_role

        ends : (a : Answer) → first_of (request_faults es t f body) ≡ a → is_dropped a ≡ false
            → is_above es.timestamps.accepted f.timestamp ≡ true
        ends a e q = above_s f body (ap is_dropped e ∙ q)

        leaves : (a : Answer) → first_of (request_faults es t f body) ≡ a → is f.command K.Disconnect ≡ true
            → KeepsS (deliver f body) (take_request es t f body)
        leaves (Ok _) e q = rw (e, q)
            (unlogged_s (ended_by es f.timestamp) (S.heard_s_law t lim ti L f body k g masters (ends (Ok tt) e refl)))
        leaves (Err (Dropped r)) e q = rw e (unlogged_s es L)
        leaves (Err (Ended r)) e q = rw (e, q)
            (unlogged_s (ended_by es f.timestamp)
            (S.heard_s_law t lim ti L f body k g masters (ends (Err (Ended r)) e refl)))

        -- done, in Refresh and before
        answered : first_of (request_faults es t f body) ≡ Ok tt → is f.command K.Disconnect ≡ false
            → is_state es.state Refresh ≡ false → KeepsS (deliver f body) (take_request es t f body)
        answered e q r =
            bcase (is f.command K.WriteErrorInfo)
            (λ w.
            let d = report_done es t f body w e in
            subst (KeepsS (deliver f body)) (sym d.comes)
            (S.reported_s t lim ti L f body k g masters d.above n _ (report_ends (more_follows body))))
            (λ w.
            let d = request_done es t f body r q w e in
            subst (KeepsS (deliver f body)) (sym d.comes)
            (S.answered_s t lim ti L f body k g masters d.above d x n r))

        replies : (a : Answer) → first_of (request_faults es t f body) ≡ a → is f.command K.Disconnect ≡ false
            → KeepsS (deliver f body) (take_request es t f body)
        replies (Ok _) e q =
            bcase (is_state es.state Refresh)
            (λ r.
            let d = synchronization_done es t f body r n q e in
            subst (KeepsS (deliver f body)) (sym d.comes)
            (S.synchronized_s t lim ti L f body k g masters d.above r d n))
            (answered e q)
        replies (Err (Dropped r)) e q = rw e (unlogged_s es L)
        replies (Err (Ended r)) e q = rw (e, q)
            (S.unequal_s t lim ti L f body k g masters (ends (Err (Ended r)) e refl) n)

    pub at_slave : (call : Call) → may_deliver given l call ≡ true
        → let o = call_of es t call in
        AtS (given_after true loads call o.answer given) (l ++ logged true now loads call o.writes) o.endpoint
        (took_by l call o.answer ts)
        × (ts ≤ took_by l call o.answer ts)
    unfolding Keeps Kept
    at_slave call h =
        bcase (is_expired es t)
        (λ x. rw x (expired true now t loads given l es ts AtS L (S.ended_s t lim ti L)
        (λ q. absurd (true≢false (sym slave_role ∙ q))) (S.restarted_s_law t lim ti L) (S.told_s t lim ti L) call))
        (λ x. rw x (acted true now t loads given l es ts AtS L (S.ended_s t lim ti L)
        (λ q. absurd (true≢false (sym slave_role ∙ q))) (S.restarted_s_law t lim ti L) (S.told_s t lim ti L) (sent_s x)
        stopped_s
        (λ f body k g q r d.
        let o = other_bit es f q ∙ ap not slave_role in
        let y = refresh_done es t f.subconnection f.timestamp body d in
        (S.refreshed_s t lim ti L f body k g o x r y, S.rises_s t lim ti L f body k g o x r y)) (other_s x) call h))
