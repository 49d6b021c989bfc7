-- `steps::send::send_measurement` meets its contract.
use mathlib.Core.Path.{◌≡◌, refl, sym, subst}
use Rattle.std.specs.Prelude.{Ok}
use mathlib.Core.Bool.{true}
use lib.ListN.{length}
use Rattle.frame.specs.declared.Command.{Command}
use Rattle.frame.specs.Writing.{is_writable}
use Rattle.endpoint.specs.Endpoint.{bare}
use Rattle.endpoint.specs.Due.{refresh_due}
use Rattle.transitions.specs.ByCall.{measurement_sent_of}
use Rattle.steps.specs.Frames.{setup_data, measurement_fields}
use Rattle.steps.specs.Calls.{measurement_outcome}
use Rattle.steps.proofs.Carried.{measurement_due}
use Rattle.steps.proofs.Outcomes.{loud_step}
use Rattle.steps.proofs.Whole.{whole, measurement_writable}
use Rattle.steps.proofs.send.send_measurement.Goals as goal

pub returns : goal.returns
returns c =
    let a = c.args in
    let p = c.requires in
    let e = bare a.e in
    let t = a.clock in
    let k = refresh_due e t in
    let m = measurement_due e t p.2 in
    let g = measurement_fields e k t in
    let v = setup_data a.e.settings k in
    loud_step a.out.now (measurement_outcome e k t) (Ok tt) (measurement_sent_of e k t) g v refl
    (whole g v a.out.now p.0
    (subst (λ (z : Command). is_writable (measurement_fields e z t) (length (setup_data e.settings z)) ≡ true)
    (sym m.due) (measurement_writable e t m.go))
    (rw (
      c.head_of-head.ensures,
      c.measurement_fields.ensures,
      c.bytes.ensures,
      c.setup_data-data.ensures.holds,
      c.refresh_due-k.ensures,
      p.1,
    ) at c.write_head-count.ensures))
    (rw (c.measurement_sent.ensures, c.refresh_due-k.ensures, p.1))
