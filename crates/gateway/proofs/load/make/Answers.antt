-- One more connection of the list is made.
use Rattle.std.proofs.Common.{◌≡◌, ◌∙◌, ◌%◌, ℕ, length, set, arith, add-one}
use Rattle.lent.specs.First.{filled_all, filled_next}
use Rattle.endpoint.specs.Endpoint.{no_bytes, no_record}
use Rattle.records.specs.declared.Record.{Record}
use Rattle.records.specs.Records.{record_with}
use Rattle.gateway.specs.Loading.{fresh_at}
use Rattle.gateway.proofs.load.make.Goals as goal

pub loop-i-preserved : goal.loop-i-preserved
loop-i-preserved c =
    let f : ℕ → Record = λ i. fresh_at c.args.session c.args.list.now (i % 256) in
    let i = c.loop-i.i in
    let made : record_with c.from.result no_bytes no_bytes no_record ≡ f i =
    rw (c.from.ensures, c.fresh.ensures, c.settings_at.ensures) in
    rw add-one ((λ j. set (c.loop-i.invariant j) i (made j)) ∙ filled_next f i c.args.table.now c.loop-i-test.true)

pub returns : goal.returns
returns c =
    c.loop-i.invariant
    ∙ filled_all (λ i. fresh_at c.args.session c.args.list.now (i % 256)) c.loop-i.i (length c.args.table.now) c.args.table.now
    c.loop-i-test.false (omega arith)
