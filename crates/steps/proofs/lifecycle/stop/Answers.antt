-- `steps::lifecycle::stop` meets its contract: too little room, refused, a slave's, a master's.
use mathlib.Core.Bool.{true}
use mathlib.Core.Path.{◌≡◌, sym, ap, ◌∙◌}
use Rattle.steps.proofs.Left.{done_by, stop_dropped}
use Rattle.steps.proofs.Outcomes.{quiet, loud}
use Rattle.steps.proofs.Whole.{whole, disconnect_writable}
use Rattle.transitions.specs.ByCall.{stopped_of}
use Rattle.steps.specs.Calls.{outcome, stop_of}
use Rattle.steps.specs.Says.{stepped_of}
use Rattle.steps.specs.Frames.{nothing, frame, setup_data, disconnect_fields}
use Rattle.frame.specs.declared.Command.TheVariants as K
use Rattle.endpoint.specs.Answers.{is_dropped}
use Rattle.endpoint.specs.declared.Core.{Core}
use Rattle.endpoint.specs.Endpoint.{bare}
use Rattle.steps.proofs.lifecycle.stop.Goals as goal

pub returns-then-is_err : goal.returns-then-is_err
returns-then-is_err c =
    let stamp = c.time_of-stamp.ensures in
    let a = c.args in
    let e = bare a.e in
    let r = c.stop_answer-answer.result in
    let d : is_dropped r ≡ true =
    stop_dropped _ _ c.stop_answer-answer.ensures ∙ sym c.is_err.ensures.value ∙ c.if-is_err.true in
    let q : stop_of e a.clock ≡ outcome r e nothing = rw (← stamp, ← c.stop_answer-answer.ensures, d) in
    quiet a.out.now e (stop_of e a.clock) c.if-out-lt-LONGEST_FRAME.false r e q c.plain.ensures

pub returns-then-e : goal.returns-then-e
returns-then-e c =
    let stamp = c.time_of-stamp.ensures in
    let a = c.args in
    let e = bare a.e in
    let r = c.stop_answer-answer.result in
    let h = done_by r (sym c.is_err.ensures.value ∙ c.if-is_err.false) in
    let x = stopped_of e a.clock in
    let q : stop_of e a.clock ≡ outcome r x nothing =
    rw (← stamp, ← c.stop_answer-answer.ensures, h, c.if-e.true) in
    quiet a.out.now e (stop_of e a.clock) c.if-out-lt-LONGEST_FRAME.false r x q
    (rw (← stamp, ← c.stopped-core.ensures) c.plain-then-e.ensures)

pub returns : goal.returns
returns c =
    let stamp = c.time_of-stamp.ensures in
    let a = c.args in
    let e = bare a.e in
    let r = c.stop_answer-answer.result in
    let h = done_by r (sym c.is_err.ensures.value ∙ c.if-is_err.false) in
    let b = setup_data a.e.settings K.Disconnect in
    let x = stopped_of e a.clock in
    let g = disconnect_fields e a.clock in
    let room = c.if-out-lt-LONGEST_FRAME.false in
    let q : stop_of e a.clock ≡ outcome r x (frame g b) =
    rw (← stamp, ← c.stop_answer-answer.ensures, h, c.if-e.false) in
    loud a.out.now e (stop_of e a.clock) room r x g b q
    (whole g b a.out.now room (disconnect_writable e a.clock)
    (rw (c.head_of-head.ensures, c.sent_fields.ensures, stamp, c.bytes.ensures, c.setup_data-data.ensures.holds)
    at c.write_head-count.ensures))
    (ap (λ (y : Core). stepped_of r y c.write_head-count.result) (rw stamp at c.stopped-core.ensures))
