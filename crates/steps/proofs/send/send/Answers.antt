-- `steps::send::send` meets its contract: too little room, refused, a measurement, S-Refresh, a request.
use Rattle.std.proofs.Common.{rules}
use lib.ListN.{length}
use mathlib.Core.Bool.{true, false}
use Rattle.std.specs.Prelude.{Ok}
use mathlib.Core.Path.{◌≡◌, sym, ap, ◌∙◌}
use Rattle.steps.proofs.Firsts.{sent_width}
use Rattle.steps.proofs.Left.{refused_by, done_by}
use Rattle.steps.proofs.Handed.{refused_core}
use Rattle.steps.proofs.Outcomes.{roomy, quiet, loud}
use Rattle.steps.proofs.Whole.{whole, request_writable, refresh_writable, send_width_length}
use Rattle.transitions.specs.ByCall.{requested_of, refresh_sent_of}
use Rattle.steps.specs.Calls.{outcome, refused, measurement_outcome, send_of}
use Rattle.steps.specs.Says.{stepped_of}
use Rattle.steps.specs.Values.{with_handed}
use Rattle.steps.specs.Frames.{frame, due_data, send_width, request_fields, refresh_fields}
use Rattle.endpoint.specs.declared.Core.{Core}
use Rattle.endpoint.specs.Endpoint.{bare}
use Rattle.endpoint.specs.Due.{refresh_due}
use Rattle.endpoint.specs.Table.{is_state}
use Rattle.endpoint.specs.declared.State.TheVariants.{Refresh}
use Rattle.steps.proofs.send.send.Goals as goal

pub returns-then-is_err : goal.returns-then-is_err
returns-then-is_err c =
    let stamp = c.time_of-stamp.ensures in
    let a = c.args in
    let b = bare a.e in
    let e = with_handed a.handed.words.now a.handed.errorinfo.now b in
    let r = c.send_answer-answer.result in
    let o = send_of e a.clock a.value.now in
    let q : o ≡ refused e r =
    rw (← stamp, ← c.send_answer-answer.ensures, refused_by r (sym c.is_err.ensures.value ∙ c.if-is_err.true)) in
    quiet a.out.now b o c.if-out-lt-LONGEST_FRAME.false r (refused e r).endpoint q
    (c.refused.ensures ∙ ap (λ (x : Core). stepped_of r x 0) (refused_core b a.handed.words.now a.handed.errorinfo.now r))

pub returns-then-not-is_value_due : goal.returns-then-not-is_value_due
returns-then-not-is_value_due c =
    let stamp = c.time_of-stamp.ensures in
    let a = c.args in
    let b = bare a.e in
    let e = with_handed a.handed.words.now a.handed.errorinfo.now b in
    let room = c.if-out-lt-LONGEST_FRAME.false in
    let r = c.send_answer-answer.result in
    let done : r ≡ Ok tt = done_by r (sym c.is_err.ensures.value ∙ c.if-is_err.false) in
    let refresh : is_state a.e.state Refresh ≡ true = search rules in
    let measures = sym c.is_value_due.ensures ∙ c.if-not-is_value_due.true in
    let o = send_of e a.clock a.value.now in
    let q : o ≡ measurement_outcome e (refresh_due e a.clock) a.clock =
    rw (← stamp, ← c.send_answer-answer.ensures, done, refresh, measures) in
    let z = c.send_measurement.ensures in
    roomy a.out.now b o room
    (rw q (record { answered = z.answered; left = z.left; counted = z.counted; output = z.output }))

pub returns-then-eq : goal.returns-then-eq
returns-then-eq c =
    let stamp = c.time_of-stamp.ensures in
    let a = c.args in
    let b = bare a.e in
    let e = with_handed a.handed.words.now a.handed.errorinfo.now b in
    let v = a.value.now in
    let x = refresh_sent_of e a.clock in
    let g = refresh_fields e a.clock in
    let room = c.if-out-lt-LONGEST_FRAME.false in
    let r = c.send_answer-answer.result in
    let done : r ≡ Ok tt = done_by r (sym c.is_err.ensures.value ∙ c.if-is_err.false) in
    let refresh : is_state a.e.state Refresh ≡ true = search rules in
    let due = sym c.is_value_due.ensures ∙ c.if-not-is_value_due.false in
    let n : length v ≡ send_width a.e.settings =
    sent_width e a.clock (length v) refresh due
    (rw (← stamp, ← c.send_answer-answer.ensures) done) in
    let q : send_of e a.clock v ≡ outcome r x (frame g v) =
    rw (← stamp, ← c.send_answer-answer.ensures, done, refresh, due) in
    loud a.out.now b (send_of e a.clock v) room r x g v q
    (whole g v a.out.now room
    (refresh_writable e a.clock (length v) (rw n (send_width_length a.e.settings)))
    (rw (c.head_of.ensures, c.sent_fields.ensures, stamp) at c.write_head-count.ensures))
    (rw (← stamp))

pub returns : goal.returns
returns c =
    let stamp = c.time_of-stamp.ensures in
    let a = c.args in
    let b = bare a.e in
    let e = with_handed a.handed.words.now a.handed.errorinfo.now b in
    let v = due_data e in
    let x = requested_of e a.clock in
    let g = request_fields e a.clock in
    let room = c.if-out-lt-LONGEST_FRAME.false in
    let r = c.send_answer-answer.result in
    let done : r ≡ Ok tt = done_by r (sym c.is_err.ensures.value ∙ c.if-is_err.false) in
    let setup : is_state a.e.state Refresh ≡ false = search rules in
    let q : send_of e a.clock a.value.now ≡ outcome r x (frame g v) =
    rw (← stamp, ← c.send_answer-answer.ensures, done, setup) in
    loud a.out.now b (send_of e a.clock a.value.now) room r x g v q
    (whole g v a.out.now room (request_writable e a.clock)
    (rw (c.head_of-head.ensures, c.request_fields.ensures, stamp, c.bytes.ensures, c.due_data-data.ensures.holds)
    at c.write_head-count-2.ensures))
    (rw (c.requested.ensures, stamp))
