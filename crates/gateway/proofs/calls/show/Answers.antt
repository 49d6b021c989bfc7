use Rattle.std.proofs.Common.{subst}
use Rattle.records.specs.declared.Record.{Record}
use Rattle.gateway.specs.declared.Picked.{Picked}
use Rattle.gateway.specs.Tables.{record_at}
use Rattle.gateway.specs.Parts.{ShowMoves}
use Rattle.gateway.proofs.Follows.{show_follows}
use Rattle.gateway.proofs.calls.show.Goals as goal

pub returns : goal.returns
returns c =
    let m = c.showing-m.result in
    let out = c.args.out.now in
    let out' = c.showing-m.new.out in
    show_follows c.args.rs.now c.args.c out out' m _ _
    (subst (λ (p : Picked). ShowMoves p (record_at c.args.rs.now c.args.c.entry).value out out' m) c.pick.ensures
    (subst (λ (r : Record). ShowMoves c.pick.result r.value out out' m) c.record_at.ensures c.showing-m.ensures)) c.settle.ensures
