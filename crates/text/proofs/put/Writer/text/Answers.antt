-- `text::put::Writer::text` meets its contract: the copy, back in its place.
use Rattle.std.proofs.Common.{refl, arith}
use Rattle.text.proofs.Pieces.{put_part, length_part}
use Rattle.text.proofs.put.Writer.text.Goals as goal

pub returns : goal.returns
returns c =
    let a = c.args in
    let n = a.self.now.at in
    let e = c.copy_from_slice.ensures.after in
    record {
      bytes = put_part a.self.now.out.now n _ e (omega arith);
      end = refl;
      short = omega arith;
      size = length_part a.self.now.out.now n _ e (omega arith) (omega arith);
      same = refl;
    }
