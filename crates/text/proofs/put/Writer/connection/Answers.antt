-- `text::put::Writer::connection` meets its contract.
use Rattle.std.proofs.Common.{arith}
use Rattle.text.specs.Bounds.{connection_text, cid_text}
use Rattle.text.proofs.Pieces.{follow}
use Rattle.text.proofs.put.Writer.connection.Goals as goal

pub returns : goal.returns
unfolding connection_text cid_text
returns c =
    let role = follow (rw c.to_be_bytes.ensures at c.hex.ensures) c.role.ensures (omega arith) in
    follow (follow role c.named.ensures (omega arith)) c.named-2.ensures (omega arith)
