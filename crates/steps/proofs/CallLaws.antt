-- The laws of the calls, all of them.
use mathlib.Core.Path.{◌≡◌, refl, sym, ap, subst}
use Rattle.std.specs.Prelude.{Err}
use Prim.Native.Nat.{ℕ}
use Rattle.endpoint.specs.Endpoint.{Endpoint}
use Rattle.endpoint.specs.declared.Reason.{Reason}
use Rattle.endpoint.specs.declared.Refusal.TheVariants.{Dropped}
use Rattle.steps.specs.Calls.{dropped}
use Rattle.steps.specs.Steps.{Act, Call, act, send, deliver, show, act_of, step_of}
use Rattle.steps.specs.Laws.{Carries, StepLaws}
use Rattle.steps.proofs.Carried as C
use Rattle.steps.proofs.Counts as N
use Rattle.steps.proofs.Dones as D
use Rattle.steps.proofs.Keeps as P
use Rattle.steps.proofs.Quiet.{not_done, by_act}

-- ---- settings
act_keeps : (e : Endpoint) (t : ℕ) (a : Act) → (act_of e t a).endpoint.settings ≡ e.settings
act_keeps e t =
    by_act e t (λ a. (act_of e t a).endpoint.settings ≡ e.settings)
    (ap (λ (s : P.Kept). s.0) (P.stop_keeps e t)) (λ a q. q.settings)

keeps : (e : Endpoint) (t : ℕ) (call : Call) → (step_of e t call).endpoint.settings ≡ e.settings
keeps e t (act a) = act_keeps e t a
keeps e t (send value) = ap (λ (s : P.Lasting). s.0) (P.send_keeps e t value)
keeps e t (deliver f body) = ap (λ (s : P.Kept). s.0) (P.deliver_keeps e t f body)
keeps e t show = refl

-- ---- what is written; of the acts only a stop writes
act_carries : (e : Endpoint) (t : ℕ) (a : Act) → Carries e (act_of e t a).writes
act_carries e t =
    by_act e t (λ a. Carries e (act_of e t a).writes) (C.stop_carries e t)
    (λ a q. subst (Carries e) (sym q.writes) tt)

carries : (e : Endpoint) (t : ℕ) (call : Call) → Carries e (step_of e t call).writes
carries e t (act a) = act_carries e t a
carries e t (send value) = C.send_carries e t value
carries e t (deliver f body) = C.deliver_carries e t f body
carries e t show = tt

-- ---- refusals
act_drops : (e : Endpoint) (t : ℕ) (a : Act) (r : Reason) → (act_of e t a).answer ≡ Err (Dropped r)
    → act_of e t a ≡ dropped e (Err (Dropped r))
act_drops e t =
    by_act e t (λ a. (r : Reason) → (act_of e t a).answer ≡ Err (Dropped r) → act_of e t a ≡ dropped e (Err (Dropped r)))
    (D.stop_dropped e t) (λ a q. q.drops)

drops : (e : Endpoint) (t : ℕ) (call : Call) (r : Reason) → (step_of e t call).answer ≡ Err (Dropped r)
    → step_of e t call ≡ dropped e (Err (Dropped r))
drops e t (act a) r d = act_drops e t a r d
drops e t (send value) r d = D.send_dropped e t value r d
drops e t (deliver f body) r d = D.deliver_dropped e t f body r d
drops e t show r d = absurd (not_done r (sym d))

pub step_laws : StepLaws
step_laws = record {
  keeps = keeps;
  carries = carries;
  drops = drops;
  counts = N.counts;
  limited = N.limited;
  start_done = D.start_done;
  restart_done = λ e. D.restart_done e 0;
  not_ready_set = λ e. D.not_ready_set e 0;
  result_set_law = λ e. D.result_set_law e 0;
  result_cleared = λ e. D.result_cleared e 0;
  command_queued = λ e. D.command_queued e 0;
  record_set = λ e. D.record_set e 0;
  record_cleared = λ e. D.record_cleared e 0;
  read_queued = λ e. D.read_queued e 0;
  write_queued = λ e. D.write_queued e 0;
  send_done = D.send_done;
  stop_done = D.stop_done;
  refresh_done = D.refresh_done;
  request_done = D.request_done;
  synchronization_done = D.synchronization_done;
  report_done = D.report_done;
  disconnect_done = D.disconnect_done;
  reply_done = D.reply_done;
  measurement_heard = D.measurement_heard;
}
