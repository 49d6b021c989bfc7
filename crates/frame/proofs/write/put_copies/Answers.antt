-- `frame::write::put_copies` meets its contract: a SubPDU, its check word, and both once more.
use native.Mathlib.Omega.{arith}
use Prim.Native.Nat.{◌+◌}
use lib.ListN.{length}
use Rattle.frame.specs.Writing.{frame_of}
use Rattle.frame.proofs.Lengths.{length_head}
use Rattle.frame.proofs.Put.{copies}
use Rattle.frame.proofs.write.put_copies.Goals as goal

pub returns : goal.returns
unfolding frame_of
returns c =
    let a = c.args in
    let h = a.h in
    copies a.out.now _ (20 + length a.body.now) _
    (length_head h.control h.connection h.time h.carry a.body.now) (omega (arith, c.requires))
    c.put_head.ensures c.crc32c-word.ensures c.put_word.ensures
    c.split_at_mut-first.ensures.front c.split_at_mut-first.ensures.back c.copy_from_slice.ensures.after
