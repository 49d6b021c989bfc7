-- `frame::write::put_head` meets its contract: six runs, one after the other.
use Rattle.std.proofs.Common.{rules}
use Rattle.frame.proofs.Put.{head, part}
use Rattle.frame.proofs.write.put_head.Goals as goal

pub returns : goal.returns
returns c =
    let a = c.args in
    head a.out.now a.h a.body.now c.requires
    c.put_word.ensures c.put_word-2.ensures c.put_word-3.ensures c.put_word-4.ensures
    c.put_word-5.ensures (part 20 _ _ a.body.now c.copy_from_slice.ensures.after (search rules))
