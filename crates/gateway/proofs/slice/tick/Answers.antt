-- One more record takes the clock step; and then all have.
use Rattle.std.proofs.Common.{sym, ◌∙◌, add-one}
use Rattle.gateway.specs.Parts.{stepped_record}
use Rattle.gateway.proofs.Stores.{first_whole, steps_over, steps_still}
use Rattle.gateway.proofs.slice.tick.Goals as goal
use Rattle.gateway.proofs.slice.tick.Goals.{then-is_over, else-is_over}

pub loop-record-preserved : goal.loop-record-preserved
loop-record-preserved c =
    let t = c.args.clock in
    let i = c.loop-record.record-index in
    let ys = c.args.table.now in
    let xs = c.loop-record.table in
    let zs = c.if-is_over.table in
    let e = c.loop-record.invariant in
    let l = c.loop-record-test.true in
    rw add-one (elim c.if-is_over.branch [
      | then-is_over w ↦ steps_over t i ys xs zs _ e l w.ended-record.result w.table-is
          (sym c.is_over.ensures ∙ w.if-is_over.true) w.ended-record.ensures
      | else-is_over w ↦ steps_still t i ys xs zs _ e l w.table-is (sym c.is_over.ensures ∙ w.if-is_over.false)
    ])

pub returns : goal.returns
returns c =
    c.loop-record.invariant
    ∙ first_whole (stepped_record c.args.clock) c.loop-record.record-index c.args.table.now c.loop-record-test.false
