-- The count of setup requests: begun anew by a start, one more with each that is written, and within its limit.
use mathlib.Core.Path.{◌≡◌, refl, sym, ap, subst, ◌∙◌}
use mathlib.Core.Bool.{Bool, true, false, ◌&&◌, ◌||◌, cond, beq, false≢true}
use mathlib.Core.List.{List}
use mathlib.Core.Logic.{⊎_elim}
use Prim.Native.Nat.{ℕ, ◌+◌, ◌%◌, ◌≤◌}
use native.Mathlib.Omega.{arith}
use lib.Dec.{lit≤}
use Rattle.frame.specs.declared.Command.{Command}
use Rattle.frame.specs.declared.Command.TheVariants as K
use Rattle.frame.specs.declared.Fields.{Fields}
use Rattle.frame.specs.Control.{is}
use Rattle.endpoint.specs.declared.State.{State}
use Rattle.endpoint.specs.declared.State.TheVariants.{Close, Starting, EstablishPending, Establish, ParamVerify}
use Rattle.endpoint.specs.declared.State.TheVariants.{FuncRunning, RefreshPending, Refresh, Terminate}
use Rattle.endpoint.specs.declared.State.TheVariants.{TerminateMore}
use Rattle.endpoint.specs.declared.Queue.{Queue}
use Rattle.endpoint.specs.declared.Queue.TheVariants as Q
use Rattle.endpoint.specs.Endpoint.{Endpoint}
use Rattle.endpoint.specs.Answers.{first_of, is_done, is_dropped}
use Rattle.endpoint.specs.Table.{is_state, is_setup, request_of}
use Rattle.endpoint.specs.Due.{is_command_due, queued_in, request_due, request_limit}
use Rattle.steps.specs.Calls.{Outcome, send_of, stop_faults, stop_of, shown_of}
use Rattle.steps.specs.Deliveries.{request_faults, replied_of, is_result, reply_faults, take_reply, deliver_of}
use Rattle.steps.specs.Steps.{Act, begins, Call, act, send, deliver, show, act_of, step_of}
use Rattle.steps.specs.Frames.{Written, nothing}
use Rattle.steps.specs.Frames as W
use Rattle.steps.specs.Laws.{requests_in, setup_requests_in, is_start, RefreshSent, MeasurementSent, RequestSent}
use Rattle.steps.proofs.Dispatch.{cond_true, cond_false, deliver_echo, deliver_refresh, deliver_request}
use Rattle.steps.proofs.Dispatch.{deliver_reply}
use Rattle.steps.proofs.Dones.{send_done, send_cases}
use Rattle.steps.proofs.Keeps.{bcase, Kept, kept, stop_keeps, deliver_keeps}
use Rattle.steps.proofs.Quiet.{by_act}

-- what is due is neither S-Refresh nor S-Disconnect
abbrev Countable : Command → Type 0
Countable k = (is k K.Refresh ≡ false) × (is k K.Disconnect ≡ false)

request : (s : State) → Countable (request_of s)
request Close = (refl, refl)
request Starting = (refl, refl)
request EstablishPending = (refl, refl)
request Establish = (refl, refl)
request ParamVerify = (refl, refl)
request FuncRunning = (refl, refl)
request RefreshPending = (refl, refl)
request Refresh = (refl, refl)
request Terminate = (refl, refl)
request TerminateMore = (refl, refl)

queued : (q : Queue) → Countable (queued_in q)
queued Q.Empty = (refl, refl)
queued Q.InvokeFunc = (refl, refl)
queued Q.ReadErrorInfo = (refl, refl)
queued Q.WriteErrorInfo = (refl, refl)
queued Q.Closed = (refl, refl)

due : (e : Endpoint) → Countable (request_due e)
due e = bcase (is_command_due e) (λ h. rw h (queued e.setup.queue)) (λ h. rw h (request e.state))

-- the count after a call that begins it anew or not, by what is written; and within its limit
abbrev Counted : Endpoint → Bool → Outcome → Type 0
Counted e begins o =
    (o.endpoint.setup.requests ≡ cond begins 0 (e.setup.requests + setup_requests_in e o.writes))
    × (e.setup.requests ≤ request_limit → o.endpoint.setup.requests ≤ request_limit)

-- where none is written none is in setup, and none is in Refresh
none_in_setup : (e : Endpoint) (w : Written) → requests_in w ≡ 0 → setup_requests_in e w ≡ 0
none_in_setup e w h = bcase (is_setup e.state) (λ s. rw (s, h)) (λ s. rw s)

none_in_refresh : (s : State) (n : ℕ) → is_state s Refresh ≡ true → cond (is_setup s) n 0 ≡ 0
none_in_refresh Refresh n h = refl
none_in_refresh Close n h = absurd (false≢true h)
none_in_refresh Starting n h = absurd (false≢true h)
none_in_refresh EstablishPending n h = absurd (false≢true h)
none_in_refresh Establish n h = absurd (false≢true h)
none_in_refresh ParamVerify n h = absurd (false≢true h)
none_in_refresh FuncRunning n h = absurd (false≢true h)
none_in_refresh RefreshPending n h = absurd (false≢true h)
none_in_refresh Terminate n h = absurd (false≢true h)
none_in_refresh TerminateMore n h = absurd (false≢true h)

-- it is kept, and no request is written
uncounted : (e : Endpoint) (o : Outcome) → kept o.endpoint ≡ kept e → requests_in o.writes ≡ 0
    → Counted e false o
uncounted e o k w =
    let q : o.endpoint.setup.requests ≡ e.setup.requests = ap (λ (s : Kept). s.3) k in
    let z = none_in_setup e o.writes w in
    (omega arith, λ h. omega (arith, h))

-- S-Disconnect is not counted, and no reply is
stop_none : (e : Endpoint) (t : ℕ) → requests_in (stop_of e t).writes ≡ 0
stop_none e t =
    bcase (is_dropped (first_of (stop_faults e t))) (λ h. rw h)
    (λ h. rw h (bcase e.settings.slave
    (λ m. ap requests_in (cond_true e.settings.slave _ _ m))
    (λ m. ap requests_in (cond_false e.settings.slave _ _ m))))

deliver_none : (e : Endpoint) (t : ℕ) (f : Fields) (body : List ℕ) → requests_in (deliver_of e t f body).writes ≡ 0
deliver_none e t f body =
    let of : Outcome → ℕ = λ o. requests_in o.writes in
    let a = first_of (request_faults e t f body) in
    let r : requests_in (replied_of e f body a) ≡ 0 =
    bcase (is_dropped a || is f.command K.Disconnect) (λ h. rw h) (λ h. rw h) in
    let s : requests_in (take_reply e t f body).writes ≡ 0 =
    bcase (is_done (first_of (reply_faults e t f body)) && is_result f) (λ h. rw h) (λ h. rw h) in
    bcase (beq f.application e.settings.slave) (λ h. ap of (deliver_echo e t f body h))
    (λ h. bcase (is f.command K.Refresh) (λ k. ap of (deliver_refresh e t f body h k))
    (λ k. bcase e.settings.slave (λ m. ap of (deliver_request e t f body h k m) ∙ r)
    (λ m. ap of (deliver_reply e t f body h k m) ∙ s)))

-- a request is counted: where it is done there were fewer than the limit
send_counted : (e : Endpoint) (t : ℕ) (value : List ℕ) → Counted e false (send_of e t value)
send_counted e t value =
    let n = e.setup.requests in
    let none : n ≡ n + 0 = omega arith in
    let q = due e in
    send_cases e t (Counted e false) value
    (λ h. ⊎_elim
    (λ (d : RefreshSent e t value). subst (Counted e false) (sym d.comes)
    (rw (none_in_refresh e.state 0 d.refresh) none, λ l. l))
    (⊎_elim
    (λ (d : MeasurementSent e t value). subst (Counted e false) (sym d.comes)
    (rw (none_in_refresh e.state _ d.refresh) none, λ l. l))
    (λ (d : RequestSent e t value).
    let few = d.few in
    let more : (n + 1) % 256 ≡ n + 1 = omega arith in
    let most : (n + 1) % 256 ≤ request_limit = omega arith in
    subst (Counted e false) (sym d.comes) (rw (q.0, q.1, d.setup) more, λ l. rw q.1 most)))
    (send_done e t value h))
    (λ a. (rw (none_in_setup e nothing refl) none, λ l. l)) (λ a. (rw (none_in_setup e nothing refl) none, λ l. l))

-- a quiet act begins it anew, or keeps it
act_counted : (e : Endpoint) (t : ℕ) (a : Act) → Counted e (begins a && is_done (act_of e t a).answer) (act_of e t a)
act_counted e t =
    by_act e t (λ a. Counted e (begins a && is_done (act_of e t a).answer) (act_of e t a))
    (uncounted e (stop_of e t) (stop_keeps e t) (stop_none e t))
    (λ a q.
    let n = e.setup.requests in
    let begun = begins a && is_done (act_of e t a).answer in
    let none = none_in_setup e (act_of e t a).writes (ap requests_in q.writes) in
    let same : n ≡ n + setup_requests_in e (act_of e t a).writes = omega arith in
    (q.requests ∙ ap (cond begun 0) same, λ l. rw q.requests (within begun n l)))
  where
    within : (b : Bool) (n : ℕ) → n ≤ request_limit → cond b 0 n ≤ request_limit
    within true n l = lit≤ tt
    within false n l = l

counted : (e : Endpoint) (t : ℕ) (call : Call)
    → Counted e (is_start call && is_done (step_of e t call).answer) (step_of e t call)
counted e t (act a) = act_counted e t a
counted e t (send value) = send_counted e t value
counted e t (deliver f body) = uncounted e (deliver_of e t f body) (deliver_keeps e t f body) (deliver_none e t f body)
counted e t show =
    let z = none_in_setup e (W.value (shown_of e)) refl in
    (omega arith, λ l. l)

pub counts : (e : Endpoint) (t : ℕ) (call : Call) → (step_of e t call).endpoint.setup.requests
    ≡ cond (is_start call && is_done (step_of e t call).answer) 0
    (e.setup.requests + setup_requests_in e (step_of e t call).writes)
counts e t call = (counted e t call).0

pub limited : (e : Endpoint) (t : ℕ) (call : Call) → e.setup.requests ≤ request_limit
    → (step_of e t call).endpoint.setup.requests ≤ request_limit
limited e t call l = (counted e t call).1 l
