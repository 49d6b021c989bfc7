-- Every act but a stop is done under a test or refused, and writes nothing.
use mathlib.Core.Path.{◌≡◌, refl, sym, ap, ◌∙◌}
use Rattle.std.specs.Prelude.{Err, Ok}
use mathlib.Core.Bool.{Bool, true, false, ◌&&◌, not, cond, true≢false}
use Prim.Native.Nat.{ℕ}
use lib.ListN.{length}
use Rattle.endpoint.specs.declared.State.TheVariants.{Close}
use Rattle.endpoint.specs.Endpoint.{Endpoint}
use Rattle.endpoint.specs.declared.Reason.{Reason}
use Rattle.endpoint.specs.Answers.{Answer}
use Rattle.endpoint.specs.declared.Refusal.TheVariants.{Dropped}
use Rattle.endpoint.specs.Answers.{record_faults, first_of, is_done}
use Rattle.endpoint.specs.Table.{is_state, is_terminated}
use Rattle.endpoint.specs.Due.{may_queue, may_queue_read}
use Rattle.errors.specs.Reading.{is_record}
use Rattle.steps.specs.Frames.{nothing}
use Rattle.steps.specs.Calls.{Outcome, outcome, dropped, hand_faults, command_data}
use Rattle.steps.specs.Steps.{Act, start, stop, restart, set_not_ready, set_result, clear_result, set_record}
use Rattle.steps.specs.Steps.{clear_record, invoke, read_error, write_error, begins, act_of}

pub not_done : (r : Reason) → ◌≡◌ {A = Answer} (Err (Dropped r)) (Ok tt) → ⊥
not_done r h = true≢false (sym (ap is_done h))

-- done where a test holds, else answered so
abbrev plain : Bool → Endpoint → Endpoint → Answer → Outcome
plain test next e a = cond test (outcome (Ok tt) next nothing) (dropped e a)

-- where it is done the test holds
pub plain_done : (test : Bool) (next e : Endpoint) (a : Answer) → (test ≡ false → is_done a ≡ false)
    → (plain test next e a).answer ≡ Ok tt → test ≡ true
plain_done true next e a n d = refl
plain_done false next e a n d = absurd (true≢false (sym (ap is_done d) ∙ n refl))

-- of a call that, where it is done, begins the count of requests anew or not
pub record Quiet (e : Endpoint) (begun : Bool) (o : Outcome) : Type 0 where
  pub writes : o.writes ≡ nothing
  pub settings : o.endpoint.settings ≡ e.settings
  pub requests : o.endpoint.setup.requests ≡ cond (begun && is_done o.answer) 0 e.setup.requests
  pub drops : (r : Reason) → o.answer ≡ Err (Dropped r) → o ≡ dropped e (Err (Dropped r))

quiet : (begun test : Bool) (next e : Endpoint) (a : Answer) → (test ≡ false → is_done a ≡ false)
    → next.settings ≡ e.settings → next.setup.requests ≡ cond begun 0 e.setup.requests
    → Quiet e begun (plain test next e a)
quiet true true next e a n s q =
    record { writes = refl; settings = s; requests = q; drops = λ r d. absurd (not_done r (sym d)) }
quiet false true next e a n s q =
    record { writes = refl; settings = s; requests = q; drops = λ r d. absurd (not_done r (sym d)) }
quiet true false next e a n s q =
    record { writes = refl; settings = refl; requests = rw (n refl); drops = λ r d. ap (dropped e) d }
quiet false false next e a n s q =
    record { writes = refl; settings = refl; requests = refl; drops = λ r d. ap (dropped e) d }

-- what holds of a stop, and of every quiet act
pub by_act : (e : Endpoint) (t : ℕ) (P : Act → Type 0) → P stop
    → ((a : Act) → Quiet e (begins a) (act_of e t a) → P a) → (a : Act) → P a
by_act e t P p q start =
    q start (quiet true (not e.settings.slave && is_state e.state Close) _ e _ (λ h. refl) refl refl)
by_act e t P p q stop = p
by_act e t P p q (restart number) = q (restart number) (quiet false (is_terminated e.state) _ e _ (λ h. refl) refl refl)
by_act e t P p q (set_not_ready b) = q (set_not_ready b) (quiet false e.settings.slave _ e _ (λ h. refl) refl refl)
by_act e t P p q (set_result body) =
    q (set_result body)
    (quiet false (is_done (first_of (hand_faults e.settings.slave (length body)))) _ e _ (λ h. h) refl refl)
by_act e t P p q clear_result = q clear_result (quiet false e.settings.slave _ e _ (λ h. refl) refl refl)
by_act e t P p q (invoke word bytes) =
    q (invoke word bytes)
    (quiet false (is_done (first_of (hand_faults (may_queue e) (length (command_data word bytes))))) _ e _ (λ h. h) refl refl)
by_act e t P p q (set_record body) =
    q (set_record body)
    (quiet false (is_done (first_of (record_faults (not e.settings.slave) (not (is_record body))))) _ e _ (λ h. h) refl
    refl)
by_act e t P p q clear_record = q clear_record (quiet false e.settings.slave _ e _ (λ h. refl) refl refl)
by_act e t P p q read_error = q read_error (quiet false (may_queue_read e) _ e _ (λ h. refl) refl refl)
by_act e t P p q (write_error body) =
    q (write_error body)
    (quiet false (is_done (first_of (record_faults (not (may_queue e)) (not (is_record body))))) _ e _ (λ h. h) refl refl)
