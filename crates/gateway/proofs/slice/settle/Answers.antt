-- The clock step on the first records, then one record's parts.
use Rattle.std.proofs.Common.{◌≡◌, refl, ap, ◌∙◌, ◌++◌, drop}
use Rattle.endpoint.specs.Endpoint.{no_bytes}
use Rattle.lent.specs.First.{on_first}
use Rattle.gateway.specs.Parts.{stepped_record, stored_at, value_at}
use Rattle.gateway.proofs.Stores.{first_cut, stores, stores_none, wipes, wipes_none}
use Rattle.gateway.proofs.slice.settle.Goals as goal
use Rattle.gateway.proofs.slice.settle.Goals.{then-m-rs, else-m-rs, then-m-rs-2, else-m-rs-2}

pub returns : goal.returns
returns c =
    let m = c.args.m.now in
    let ys = c.args.rs.now in
    let xs = c.tick.new.table ++ drop c.min-steps.result ys in
    let us = c.if-m-rs.rs in
    let zs = c.if-m-rs-2.rs in
    let steps : xs ≡ on_first (stepped_record m.clock) m.steps ys =
    first_cut (stepped_record m.clock) m.steps c.min-steps.result ys c.tick.new.table c.min-steps.ensures c.tick.ensures in
    let store : us ≡ stored_at m.spot m.stored xs = elim c.if-m-rs.branch [
      | then-m-rs w ↦ stores m.spot m.stored xs us _ w.if-m-rs.true w.rs-is
      | else-m-rs w ↦ stores_none m.spot m.stored xs us w.if-m-rs.false w.rs-is
    ] in
    let wipe : zs ≡ value_at m.wipe no_bytes us = elim c.if-m-rs-2.branch [
      | then-m-rs-2 w ↦ wipes m.wipe us zs _ w.if-m-rs-2.true w.rs-is
      | else-m-rs-2 w ↦ wipes_none m.wipe us zs w.if-m-rs-2.false w.rs-is
    ] in
    (refl, wipe ∙ ap (value_at m.wipe no_bytes) (store ∙ ap (stored_at m.spot m.stored) steps))
