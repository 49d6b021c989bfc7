-- What is sought is the frame's connection, what was handed over that record's, and what is kept the frame's value.
use Rattle.std.proofs.Common.{◌≡◌, subst, ap, ◌∙◌, rules}
use Rattle.frame.specs.Reading.{connection_in}
use Rattle.gateway.specs.declared.Picked.{Picked}
use Rattle.gateway.specs.Tables.{record_at}
use Rattle.gateway.specs.Parts.{handed_of, met_of, DeliverMoves}
use Rattle.gateway.proofs.Follows.{deliver_follows}
use Rattle.gateway.proofs.deliver.deliver.Goals as goal

pub returns : goal.returns
returns c =
    let ys = c.args.rs.now in
    let s = c.args.bytes.now in
    let out = c.args.out.now in
    let out' = c.do_deliver-m.new.out in
    let m = c.do_deliver-m.result in
    let w = handed_of c.record_at.result.now in
    let q : c.seek-p.result ≡ met_of ys c.args.c (connection_in s) =
    c.seek-p.ensures ∙ ap (met_of ys c.args.c) c.connection_in.ensures in
    deliver_follows ys c.args.c s out out' w m
    (ap handed_of c.record_at.ensures ∙ ap (λ (p : Picked). handed_of (record_at ys p.spot)) q)
    (subst (λ (p : Picked). DeliverMoves p w s out out' m) q c.do_deliver-m.ensures) _ (λ x y k. search rules) _ _ _
    c.settle-told.ensures c.put.ensures
